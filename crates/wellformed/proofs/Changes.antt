-- A well-formed record that an effect changes in its place is well formed again, with the same id. Assumes nothing.
use mathlib.Core.Path.{◌≡◌, refl, sym, ap, ap₂, ◌∙◌}
use mathlib.Core.Bool.{true}
use mathlib.Core.Logic.{◌⊎◌, inr, ⊎_elim, ⊎_map}
use mathlib.Core.List.{List, [], ◌∷◌, ◌++◌}
use Prim.Native.Nat.{ℕ, ◌+◌, ◌-◌, ◌≤◌, ◌<◌}
use native.Mathlib.Omega.{arith}
use lib.ListN.{length, drop, replicate, get_or, length-append}
use lib.Seq.{get_or-take, get_or-drop, take_all, drop-append_seam, take_at, get_or_at, get_or-append-add}
use borrow.Author.Tests.{eqb-true}
use Rattle.octets.specs.Stretch.{part, patch, padded, is_zero, zeros}
use Rattle.octets.specs.Number.{number}
use Rattle.octets.proofs.StretchLaws.{if-cases, part-part}
use Rattle.octets.proofs.PatchLaws.{patch-length, part-patch, part-before, part-after, octet-before, octet-inside, padded-length}
use Rattle.forms.specs.Field.{is_field}
use Rattle.forms.specs.Time.{sent_time, stored_time}
use Rattle.forms.specs.declared.text.Form.TheVariants.{Ascii}
use Rattle.forms.proofs.TimeLaws.{sent-length}
use Rattle.records.specs.Layout.{record_size, state_of, id_of, schedule_of, validity_of, registered_of, default_of, length_of, text_field_of, date_of, error_of, mark_of}
use Rattle.records.specs.Record.{address_ok, time_ok}
use Rattle.store.specs.Search.{waiting}
use Rattle.changes.specs.Change.{finished, unmarked, retexted, retimed, corrected}
use Rattle.changes.specs.declared.Correction.{Correction}
use Rattle.wellformed.specs.Rules.{Timed}
use Rattle.wellformed.specs.Good.{GoodEnd, GoodMark, GoodWords, Good}
use Rattle.wellformed.proofs.GoodIs.{or-one, or-second, no-mark}
use Rattle.wellformed.proofs.TextFields.{every-replicate, sent-stored}

-- ---- equal stretches have equal parts and octets

module _ (a m : ℕ) (r r' : List ℕ) (e : part a m r' ≡ part a m r) (b : ℕ) where
  pub same-part : (n : ℕ) → b + n ≤ m → part (a + b) n r' ≡ part (a + b) n r
  same-part n h = sym (part-part r' a m b n h) ∙ ap (part b n) e ∙ part-part r a m b n h

  pub same-octet : b < m → get_or r' (a + b) 0 ≡ get_or r (a + b) 0
  same-octet h = sym (at r') ∙ ap (λ (l : List ℕ). get_or l b 0) e ∙ at r
    where
      at : (xs : List ℕ) → get_or (part a m xs) b 0 ≡ get_or xs (a + b) 0
      at xs = get_or-take m (drop a xs) b 0 h ∙ get_or-drop a xs b 0

-- a part of what was put
pub part-inside : (xs : List ℕ) (at : ℕ) (ys : List ℕ) (b n : ℕ) → at + length ys ≤ length xs → b + n ≤ length ys
    → part (at + b) n (patch xs at ys) ≡ part b n ys
part-inside xs at ys b n room h = sym (part-part (patch xs at ys) at (length ys) b n h) ∙ ap (part b n) (part-patch xs at ys room)

-- the words are in 91-232
pub same-words : (r r' : List ℕ) → part 91 142 r' ≡ part 91 142 r → GoodWords r → GoodWords r'
same-words r r' e g =
    let default : default_of r' ≡ default_of r = same-octet 91 142 r r' e 0 (omega arith) in
    let size : length_of r' ≡ length_of r = same-octet 91 142 r r' e 1 (omega arith) in
    let text : text_field_of r' ≡ text_field_of r = same-part 91 142 r r' e 2 140 (omega arith) in
    record {
      default = omega (arith, g.default);
      size = omega (arith, g.size);
      not_both = ⊎_map (λ h. size ∙ h) (λ h. default ∙ h) g.not_both;
      unused = ap zeros (ap₂ drop size text) ∙ g.unused;
    }

-- the end is in 0 and 233-249
pub same_end : (r r' : List ℕ) → state_of r' ≡ state_of r → part 233 17 r' ≡ part 233 17 r → GoodEnd r → GoodEnd r'
same_end r r' state e g =
    let date : date_of r' ≡ date_of r = same-part 233 17 r r' e 0 16 (omega arith) in
    record {
      state_low = omega (arith, g.state_low);
      state_high = omega (arith, g.state_high);
      no_date = λ h. ap zeros date ∙ g.no_date (sym state ∙ h);
      date = λ ne. ap stored_time date ∙ g.date (λ h. ne (state ∙ h));
      error = λ h. same-octet 233 17 r r' e 16 (omega arith) ∙ g.error (⊎_map (λ h. sym state ∙ h) (λ h. sym state ∙ h) h);
    }

-- ---- a change outside 1-232

module _ (r r' : List ℕ) (kept : part 1 232 r' ≡ part 1 232 r) where
  outer-id : id_of r' ≡ id_of r
  outer-id = ap number (same-part 1 232 r r' kept 0 4 (omega arith))

  outer-flag : registered_of r' ≡ registered_of r
  outer-flag = same-octet 1 232 r r' kept 88 (omega arith)

  outer-good : (last : ℕ) → Good last r → GoodEnd r' → GoodMark r' → part 251 5 r' ≡ part 251 5 r → Good last r'
  outer-good last g end mark behind =
      let field = same-part 1 232 r r' kept in
      record {
        id_low = omega (arith, outer-id, g.id_low);
        id_high = omega (arith, outer-id, g.id_high);
        source = ap address_ok (field 4 22 (omega arith)) ∙ g.source;
        destination = ap address_ok (field 26 22 (omega arith)) ∙ g.destination;
        service = ap (is_field Ascii) (field 48 5 (omega arith)) ∙ g.service;
        priority = omega (arith, same-octet 1 232 r r' kept 55 (omega arith), g.priority);
        schedule = ap time_ok (field 56 16 (omega arith)) ∙ g.schedule;
        validity = ap time_ok (field 72 16 (omega arith)) ∙ g.validity;
        registered = omega (arith, outer-flag, g.registered);
        words = same-words r r' (field 90 142 (omega arith)) g.words;
        end = end;
        mark = mark;
        spare = ap zeros behind ∙ g.spare;
      }

-- ---- a final state

module _ (state error : ℕ) (stamp r : List ℕ) where
  pub finished-length : length (finished state error stamp r) ≡ length r
  unfolding finished
  finished-length = patch-length _ _ _ ∙ patch-length _ _ _

  module _ (sized : length r ≡ record_size) (sent : sent_time stamp ≡ true) where
    put : List ℕ
    put = stamp ++ (error ∷ registered_of r ∷ [])

    put-length : length put ≡ 18
    unfolding put
    put-length = length-append stamp (error ∷ registered_of r ∷ []) ∙ omega (arith, sent-length stamp sent)

    -- 1-232 are as they were, and so are 251-255
    pub finished-kept : part 1 232 (finished state error stamp r) ≡ part 1 232 r
    unfolding finished
    finished-kept = part-before _ 233 _ 1 232 (omega arith) ∙ part-after r 0 (state ∷ []) 1 232 (omega arith)

    pub finished-behind : part 251 5 (finished state error stamp r) ≡ part 251 5 r
    unfolding finished put
    finished-behind = part-after _ 233 put 251 5 (omega (arith, put-length)) ∙ part-after r 0 (state ∷ []) 251 5 (omega arith)

    pub finished-id : id_of (finished state error stamp r) ≡ id_of r
    finished-id = outer-id r (finished state error stamp r) finished-kept

    pub finished-state : state_of (finished state error stamp r) ≡ state
    unfolding finished
    finished-state = octet-before _ 233 _ 0 (omega arith) ∙ octet-inside r 0 (state ∷ []) 0 (omega arith) (omega arith)

    room : 233 + length put ≤ length (patch r 0 (state ∷ []))
    room = omega (arith, put-length, patch-length r 0 (state ∷ []))

    pub finished-date : date_of (finished state error stamp r) ≡ stamp
    unfolding finished put
    finished-date =
        part-inside (patch r 0 (state ∷ [])) 233 put 0 16 room (omega (arith, put-length)) ∙ take_at stamp _ 16 (sent-length stamp sent)

    pub finished-error : error_of (finished state error stamp r) ≡ error
    unfolding finished put
    finished-error =
        octet-inside (patch r 0 (state ∷ [])) 233 put 16 (omega (arith, put-length)) (omega (arith, room, put-length))
        ∙ get_or_at stamp error _ 0 16 (sent-length stamp sent)

    -- the mark is the registered flag
    pub finished-mark : mark_of (finished state error stamp r) ≡ registered_of r
    unfolding finished put
    finished-mark =
        octet-inside (patch r 0 (state ∷ [])) 233 put 17 (omega (arith, put-length)) (omega (arith, room, put-length))
        ∙ rw (sent-length stamp sent) at (get_or-append-add stamp (error ∷ registered_of r ∷ []) 1 0)

    pub finished-good : (last : ℕ) → Good last r → 2 ≤ state → state ≤ 5 → (state ≡ 4 → error ≡ 0) → Good last (finished state error stamp r)
    finished-good last g low high zero =
        let s = finished-state in
        let flag = outer-flag r (finished state error stamp r) finished-kept in
        outer-good r (finished state error stamp r) finished-kept last g
        (record {
          state_low = omega arith;
          state_high = omega arith;
          no_date = λ e. absurd (omega arith);
          date = λ _. ap stored_time finished-date ∙ sent-stored stamp sent;
          error = ⊎_elim (λ e. absurd (omega arith)) (λ e. finished-error ∙ zero (sym s ∙ e));
        })
        (record {
          bit = omega (arith, finished-mark, g.registered);
          unregistered = λ none. finished-mark ∙ sym flag ∙ none;
          waiting = λ e. absurd (omega arith);
        })
        finished-behind

-- ---- a mark taken away

module _ (r : List ℕ) where
  pub unmarked-length : length (unmarked r) ≡ length r
  unfolding unmarked
  unmarked-length = patch-length _ _ _

  -- 0-249 are as they were
  before-mark : (b n : ℕ) → b + n ≤ 250 → part b n (unmarked r) ≡ part b n r
  unfolding unmarked
  before-mark b n h = part-before r 250 (0 ∷ []) b n h

  pub unmarked-state : state_of (unmarked r) ≡ state_of r
  unfolding unmarked
  unmarked-state = octet-before r 250 (0 ∷ []) 0 (omega arith)

  pub unmarked-id : id_of (unmarked r) ≡ id_of r
  unmarked-id = outer-id r (unmarked r) (before-mark 1 232 (omega arith))

  pub unmarked-good : length r ≡ record_size → (last : ℕ) → Good last r → Good last (unmarked r)
  unfolding unmarked
  unmarked-good sized last g =
      let r' = unmarked r in
      outer-good r r' (before-mark 1 232 (omega arith)) last g
      (same_end r r' unmarked-state (before-mark 233 17 (omega arith)) g.end)
      (no-mark r' (octet-inside r 250 (0 ∷ []) 0 (omega arith) (omega arith)))
      (part-after r 250 (0 ∷ []) 251 5 (omega arith))

-- ---- a change inside 57-232

module _ (r r' : List ℕ) (front : part 0 57 r' ≡ part 0 57 r) (behind : part 233 23 r' ≡ part 233 23 r) where
  inner-id : id_of r' ≡ id_of r
  inner-id = ap number (same-part 0 57 r r' front 1 4 (omega arith))

  -- of a waiting record, which has no mark
  inner-good : (last : ℕ) → Good last r → waiting r ≡ true → time_ok (schedule_of r') ≡ true → time_ok (validity_of r') ≡ true → registered_of r' ≤ 1 → GoodWords r'
      → Good last r'
  inner-good last g w schedule validity registered words =
      let field = same-part 0 57 r r' front in
      record {
        id_low = omega (arith, inner-id, g.id_low);
        id_high = omega (arith, inner-id, g.id_high);
        source = ap address_ok (field 5 22 (omega arith)) ∙ g.source;
        destination = ap address_ok (field 27 22 (omega arith)) ∙ g.destination;
        service = ap (is_field Ascii) (field 49 5 (omega arith)) ∙ g.service;
        priority = omega (arith, same-octet 0 57 r r' front 56 (omega arith), g.priority);
        schedule = schedule;
        validity = validity;
        registered = registered;
        words = words;
        end = same_end r r' (same-octet 0 57 r r' front 0 (omega arith)) (same-part 233 23 r r' behind 0 17 (omega arith)) g.end;
        mark = no-mark r' (same-octet 233 23 r r' behind 17 (omega arith) ∙ g.mark.waiting (eqb-true (state_of r) 1 w));
        spare = ap zeros (same-part 233 23 r r' behind 18 5 (omega arith)) ∙ g.spare;
      }

-- ---- a new text, length and default id

module _ (default : ℕ) (text r : List ℕ) where
  pub retexted-length : length (retexted default text r) ≡ length r
  unfolding retexted
  retexted-length = patch-length _ _ _

  pub retexted-state : state_of (retexted default text r) ≡ state_of r
  unfolding retexted
  retexted-state = octet-before r 91 _ 0 (omega arith)

  before_text : (b n : ℕ) → b + n ≤ 91 → part b n (retexted default text r) ≡ part b n r
  unfolding retexted
  before_text b n h = part-before r 91 _ b n h

  module _ (sized : length r ≡ record_size) (fits : length text ≤ 140) where
    words : List ℕ
    words = default ∷ length text ∷ padded 140 text

    words-length : length words ≡ 142
    unfolding words
    words-length = omega (arith, padded-length 140 text fits)

    behind-text : part 233 23 (retexted default text r) ≡ part 233 23 r
    unfolding retexted words
    behind-text = part-after r 91 words 233 23 (omega (arith, words-length))

    new-words : default ≤ 100 → (length text ≡ 0) ⊎ (default ≡ 0) → GoodWords (retexted default text r)
    unfolding retexted words
    new-words low either =
        let r' = retexted default text r in
        let d : default_of r' ≡ default = octet-inside r 91 words 0 (omega (arith, words-length)) (omega arith) in
        let n : length_of r' ≡ length text = octet-inside r 91 words 1 (omega (arith, words-length)) (omega arith) in
        let t : text_field_of r' ≡ padded 140 text =
        part-inside r 91 words 2 140 (omega (arith, words-length)) (omega (arith, words-length)) ∙ take_all 140 (padded 140 text) (omega (arith, padded-length 140 text fits)) in
        record {
          default = omega arith;
          size = omega arith;
          not_both = ⊎_map (λ e. n ∙ e) (λ e. d ∙ e) either;
          unused = ap zeros (ap₂ drop n t ∙ drop-append_seam text (replicate (140 - length text) 0)) ∙ every-replicate is_zero (140 - length text) 0 refl;
        }

    pub retexted-id : id_of (retexted default text r) ≡ id_of r
    retexted-id = inner-id r (retexted default text r) (before_text 0 57 (omega arith)) behind-text

    pub retexted-good : (last : ℕ) → Good last r → waiting r ≡ true → default ≤ 100 → (length text ≡ 0) ⊎ (default ≡ 0) → Good last (retexted default text r)
    retexted-good last g w low either =
        inner-good r (retexted default text r) (before_text 0 57 (omega arith)) behind-text last g w
        (ap time_ok (before_text 57 16 (omega arith)) ∙ g.schedule)
        (ap time_ok (before_text 73 16 (omega arith)) ∙ g.validity)
        (omega (arith, same-octet 0 91 r (retexted default text r) (before_text 0 91 (omega arith)) 89 (omega arith), g.registered))
        (new-words low either)

-- ---- times, flag, default id, length and text

module _ (at : ℕ) (time r : List ℕ) where
  retimed-length : length (retimed at time r) ≡ length r
  retimed-length = if-cases (λ (x : List ℕ). length x ≡ length r) (zeros time) r (patch r at time) (λ _. refl) (λ _. patch-length r at time)

  module _ (b n : ℕ) where
    Kept : List ℕ → Type 0
    Kept x = part b n x ≡ part b n r

    retimed-before : b + n ≤ at → part b n (retimed at time r) ≡ part b n r
    unfolding Kept
    retimed-before h = if-cases Kept (zeros time) r (patch r at time) (λ _. refl) (λ _. part-before r at time b n h)

    retimed-after : at + length time ≤ b → part b n (retimed at time r) ≡ part b n r
    unfolding Kept
    retimed-after h = if-cases Kept (zeros time) r (patch r at time) (λ _. refl) (λ _. part-after r at time b n h)

  retimed-ok : at + 16 ≤ length r → Timed time → time_ok (part at 16 r) ≡ true → time_ok (part at 16 (retimed at time r)) ≡ true
  retimed-ok room t h = if-cases (λ (x : List ℕ). time_ok (part at 16 x) ≡ true) (zeros time) r (patch r at time) (λ _. h) λ given.
      ap time_ok (rw t.size at (part-patch r at time (omega (arith, t.size))))
      ∙ or-one (zeros time) (stored_time time) (inr (sent-stored time (or-second (zeros time) (sent_time time) given t.time)))

module _ (c : Correction) (text r : List ℕ) where
  one : List ℕ
  one = retimed 57 c.schedule r

  two : List ℕ
  two = retimed 73 c.validity one

  three : List ℕ
  three = patch two 89 (c.registered ∷ [])

  three-length : length three ≡ length r
  unfolding one two three
  three-length = patch-length two 89 _ ∙ retimed-length 73 c.validity one ∙ retimed-length 57 c.schedule r

  pub corrected-length : length (corrected c text r) ≡ length r
  unfolding corrected one two three
  corrected-length = retexted-length c.default text three ∙ three-length

  r' : List ℕ
  r' = corrected c text r

  before : (b n : ℕ) → b + n ≤ 89 → part b n r' ≡ part b n two
  unfolding corrected one two three r'
  before b n h = before_text c.default text three b n (omega arith) ∙ part-before two 89 _ b n h

  front_kept : part 0 57 r' ≡ part 0 57 r
  unfolding one two
  front_kept = before 0 57 (omega arith) ∙ retimed-before 73 c.validity one 0 57 (omega arith) ∙ retimed-before 57 c.schedule r 0 57 (omega arith)

  pub corrected-state : state_of (corrected c text r) ≡ state_of r
  unfolding r'
  corrected-state = same-octet 0 57 r r' front_kept 0 (omega arith)

  module _ (sized : length r ≡ record_size) (fits : length text ≤ 140) (schedule : Timed c.schedule) (validity : Timed c.validity) where
    behind-kept : part 233 23 r' ≡ part 233 23 r
    unfolding corrected one two three r'
    behind-kept =
        behind-text c.default text three (three-length ∙ sized) fits
        ∙ part-after two 89 _ 233 23 (omega arith)
        ∙ retimed-after 73 c.validity one 233 23 (omega (arith, validity.size))
        ∙ retimed-after 57 c.schedule r 233 23 (omega (arith, schedule.size))

    flag : registered_of r' ≡ c.registered
    unfolding corrected one two three r'
    flag =
        same-octet 0 91 three r' (before_text c.default text three 0 91 (omega arith)) 89 (omega arith)
        ∙ octet-inside two 89 (c.registered ∷ []) 0 (omega arith) (omega (arith, three-length, patch-length two 89 (c.registered ∷ [])))

    pub corrected-id : id_of (corrected c text r) ≡ id_of r
    unfolding r'
    corrected-id = inner-id r r' front_kept behind-kept

    pub corrected-good : (last : ℕ) → Good last r → waiting r ≡ true → c.registered ≤ 1 → c.default ≤ 100 → (length text ≡ 0) ⊎ (c.default ≡ 0)
        → Good last (corrected c text r)
    unfolding corrected one two three r'
    corrected-good last g w low low_default either =
        inner-good r r' front_kept behind-kept last g w
        (ap time_ok (before 57 16 (omega arith) ∙ retimed-before 73 c.validity one 57 16 (omega arith))
        ∙ retimed-ok 57 c.schedule r (omega arith) schedule g.schedule)
        (ap time_ok (before 73 16 (omega arith))
        ∙ retimed-ok 73 c.validity one (omega (arith, retimed-length 57 c.schedule r)) validity
        (ap time_ok (retimed-after 57 c.schedule r 73 16 (omega (arith, schedule.size))) ∙ g.validity))
        (omega (arith, flag))
        (new-words c.default text three (three-length ∙ sized) fits low_default either)
