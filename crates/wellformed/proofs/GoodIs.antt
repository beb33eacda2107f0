-- `message_ok` says what `Good` says. Assumes nothing.
use mathlib.Core.Path.{◌≡◌, refl, sym, ◌∙◌}
use mathlib.Core.Bool.{Bool, true, false, not, ◌&&◌, ◌||◌, false≢true, or-true}
use mathlib.Core.Logic.{◌⊎◌, inl, inr, ⊎_elim}
use mathlib.Core.List.{List, [], ◌∷◌}
use Prim.Native.Nat.{ℕ, zero, suc, ◌≤◌}
use native.Mathlib.Omega.{arith}
use lib.ListN.{get_or}
use lib.Dec.{eqb, leb}
use borrow.Author.Tests.{eqb-true, eqb-false, eq-eqb, ne_eqb, leb-true, le-leb}
use Rattle.octets.specs.Choice.{when◌then◌else◌}
use Rattle.octets.specs.Stretch.{every, zeros}
use Rattle.octets.proofs.StretchLaws.{and_left, and_right, and_both, if-cases, if-true, if-false}
use Rattle.forms.specs.Class.{within}
use Rattle.forms.specs.Time.{stored_time}
use Rattle.forms.proofs.ClassLaws.{within_low, within-high}
use Rattle.records.specs.Layout.{state_of, id_of, registered_of, date_of, error_of, mark_of}
use Rattle.records.specs.Record.{text_ok, fields_ok, end_ok, marked, mark_ok, message_ok, record_ok}
use Rattle.wellformed.specs.Good.{GoodEnd, GoodMark, GoodWords, Good}

pub or-either : (a b : Bool) → (a || b) ≡ true → (a ≡ true) ⊎ (b ≡ true)
or-either true b h = inl refl
or-either false b h = inr h

pub or-one : (a b : Bool) → (a ≡ true) ⊎ (b ≡ true) → (a || b) ≡ true
or-one a b (inl e) = rw e
or-one a b (inr e) = rw e (or-true a)

pub or-second : (a b : Bool) → a ≡ false → (a || b) ≡ true → b ≡ true
or-second true b e h = absurd (false≢true (sym e))
or-second false b e h = h

pub within_both : (low high x : ℕ) → low ≤ x → x ≤ high → within low high x ≡ true
within_both low high x h k = and_both (leb low x) (leb x high) (le-leb low x h) (le-leb x high k)

pub both : (a b : Bool) → (a && b) ≡ true → (a ≡ true) × (b ≡ true)
both a b h = (and_left a b h, and_right a b h)

eq-or : {s m n : ℕ} → (s ≡ m) ⊎ (s ≡ n) → (eqb s m || eqb s n) ≡ true
eq-or {s} {m} {n} (inl e) = or-one (eqb s m) (eqb s n) (inl (eq-eqb s m e))
eq-or {s} {m} {n} (inr e) = or-one (eqb s m) (eqb s n) (inr (eq-eqb s n e))

-- a test that holds unless another does
unless : (a b : Bool) → (a || not b) ≡ true → b ≡ true → a ≡ true
unless true b h e = refl
unless false true h e = h
unless false false h e = e

zero_or : {m n : ℕ} → (eqb m 0 ≡ true) ⊎ (eqb n 0 ≡ true) → (m ≡ 0) ⊎ (n ≡ 0)
zero_or {m} {n} (inl e) = inl (eqb-true m 0 e)
zero_or {m} {n} (inr e) = inr (eqb-true n 0 e)

or-zero : {m n : ℕ} → (m ≡ 0) ⊎ (n ≡ 0) → (eqb m 0 ≡ true) ⊎ (eqb n 0 ≡ true)
or-zero {m} {n} (inl e) = inl (eq-eqb m 0 e)
or-zero {m} {n} (inr e) = inr (eq-eqb n 0 e)

module _ (r : List ℕ) where
  words_of : text_ok r ≡ true → GoodWords r
  unfolding text_ok
  words_of h =
      let q = both _ _ h in
      let p = both _ _ q.0 in
      let o = both _ _ p.0 in
      record { default = leb-true _ _ o.0; size = leb-true _ _ o.1; not_both = zero_or (or-either _ _ p.1); unused = q.1 }

  of_words : GoodWords r → text_ok r ≡ true
  unfolding text_ok
  of_words g =
      and_both _ _ (and_both _ _ (and_both _ _ (le-leb _ _ g.default) (le-leb _ _ g.size)) (or-one _ _ (or-zero g.not_both))) g.unused

  end_of : within 1 5 (state_of r) ≡ true → end_ok r ≡ true → GoodEnd r
  unfolding end_ok
  end_of s h =
      let dated = when eqb (state_of r) 1 then zeros (date_of r) else stored_time (date_of r) in
      let q = both dated _ h in
      record {
        state_low = within_low 1 5 (state_of r) s;
        state_high = within-high 1 5 (state_of r) s;
        no_date = λ e. sym (if-true _ _ _ (eq-eqb (state_of r) 1 e)) ∙ q.0;
        date = λ ne. sym (if-false _ _ _ (ne_eqb (state_of r) 1 ne)) ∙ q.0;
        error = λ e. eqb-true _ 0 (unless _ _ q.1 (eq-or e));
      }

  of_end : GoodEnd r → end_ok r ≡ true
  unfolding end_ok
  of_end g =
      and_both _ _
      (if-cases (λ (t : Bool). t ≡ true) (eqb (state_of r) 1) (zeros (date_of r)) (stored_time (date_of r)) (λ e. g.no_date (eqb-true _ 1 e)) (λ e. g.date (eqb-false _ 1 e)))
      (by (eqb (state_of r) 1) (eqb (state_of r) 4) refl refl)
    where
      by : (a b : Bool) → eqb (state_of r) 1 ≡ a → eqb (state_of r) 4 ≡ b → (eqb (error_of r) 0 || not (a || b)) ≡ true
      by true b p q = or-one _ _ (inl (eq-eqb _ 0 (g.error (inl (eqb-true _ 1 p)))))
      by false true p q = or-one _ _ (inl (eq-eqb _ 0 (g.error (inr (eqb-true _ 4 q)))))
      by false false p q = or-true (eqb (error_of r) 0)

  pub no-mark : mark_of r ≡ 0 → GoodMark r
  no-mark e = record { bit = omega arith; unregistered = λ _. e; waiting = λ _. e }

  mark-of : mark_ok r ≡ true → GoodMark r
  unfolding mark_ok
  mark-of h = ⊎_elim (λ e. no-mark (eqb-true (mark_of r) 0 e)) owed (or-either _ _ h)
    where
      owed : (marked r && eqb (registered_of r) 1 && within 2 5 (state_of r)) ≡ true → GoodMark r
      owed t =
          let q = both _ _ t in
          let p = both _ _ q.0 in
          let one = eqb-true (mark_of r) 1 p.0 in
          let flag = eqb-true (registered_of r) 1 p.1 in
          let final = within_low 2 5 (state_of r) q.1 in
          record { bit = omega arith; unregistered = λ none. absurd (omega arith); waiting = λ still. absurd (omega arith) }

  of-mark : registered_of r ≤ 1 → GoodEnd r → GoodMark r → mark_ok r ≡ true
  unfolding mark_ok
  of-mark flag end g = by (eqb (mark_of r) 0) refl
    where
      by : (t : Bool) → eqb (mark_of r) 0 ≡ t → (t || (marked r && eqb (registered_of r) 1 && within 2 5 (state_of r))) ≡ true
      by true e = refl
      by false e =
          let some = eqb-false (mark_of r) 0 e in
          let given : registered_of r ≡ 0 → ⊥ = λ none. some (g.unregistered none) in
          let done : state_of r ≡ 1 → ⊥ = λ still. some (g.waiting still) in
          and_both _ _
          (and_both _ _ (eq-eqb (mark_of r) 1 (omega (arith, g.bit))) (eq-eqb (registered_of r) 1 (omega arith)))
          (within_both 2 5 (state_of r) (omega (arith, end.state_low)) end.state_high)

  pub good_of : (last : ℕ) → message_ok last r ≡ true → Good last r
  unfolding message_ok fields_ok
  good_of last h =
      let a = both _ _ h in
      let b = both _ _ a.0 in
      let c = both _ _ b.0 in
      let d = both _ _ c.0 in
      let e = both _ _ d.0 in
      let text = both _ _ d.1 in
      let registered = both _ _ text.0 in
      let validity = both _ _ registered.0 in
      let schedule = both _ _ validity.0 in
      let priority = both _ _ schedule.0 in
      let service = both _ _ priority.0 in
      let addresses = both _ _ service.0 in
      record {
        id_low = within_low 1 last (id_of r) e.1;
        id_high = within-high 1 last (id_of r) e.1;
        source = addresses.0;
        destination = addresses.1;
        service = service.1;
        priority = leb-true _ 1 priority.1;
        schedule = schedule.1;
        validity = validity.1;
        registered = leb-true _ 1 registered.1;
        words = words_of text.1;
        end = end_of e.0 c.1;
        mark = mark-of b.1;
        spare = a.1;
      }

  pub of-good : (last : ℕ) → Good last r → message_ok last r ≡ true
  unfolding message_ok fields_ok
  of-good last g =
      let service = and_both _ _ (and_both _ _ g.source g.destination) g.service in
      let times = and_both _ _ (and_both _ _ (and_both _ _ service (le-leb _ 1 g.priority)) g.schedule) g.validity in
      let fields = and_both _ _ (and_both _ _ times (le-leb _ 1 g.registered)) (of_words g.words) in
      let front = and_both _ _ (within_both 1 5 (state_of r) g.end.state_low g.end.state_high) (within_both 1 last (id_of r) g.id_low g.id_high) in
      let ended = and_both _ _ (and_both _ _ front fields) (of_end g.end) in
      and_both _ _ (and_both _ _ ended (of-mark g.registered g.end g.mark)) g.spare

-- ---- a record is all zero or a message

-- each octet is then 0
pub zeros-at : (xs : List ℕ) (i : ℕ) → zeros xs ≡ true → get_or xs i 0 ≡ 0
unfolding every
zeros-at [] i h = refl
zeros-at (x ∷ xs) zero h = eqb-true x 0 (and_left (eqb x 0) (zeros xs) h)
zeros-at (x ∷ xs) (suc i) h = zeros-at xs i (and_right (eqb x 0) (zeros xs) h)

module _ (last : ℕ) (r : List ℕ) where
  pub good-record : Good last r → record_ok last r ≡ true
  unfolding record_ok
  good-record g = or-one (zeros r) (message_ok last r) (inr (of-good r last g))

  pub record-good : record_ok last r ≡ true → (state_of r ≡ 0 → ⊥) → Good last r
  unfolding record_ok
  record-good h ne = ⊎_elim (λ z. absurd (ne (zeros-at r 0 z))) (λ m. good_of r last m) (or-either (zeros r) (message_ok last r) h)

  -- an empty or waiting record has no mark
  pub unfinished-unmarked : record_ok last r ≡ true → state_of r ≤ 1 → marked r ≡ false
  unfolding record_ok
  unfinished-unmarked h low =
      ne_eqb (mark_of r) 1 λ one.
      ⊎_elim (λ z. omega (arith, zeros-at r 250 z))
      (λ m. let g = good_of r last m in omega (arith, g.mark.waiting (omega (arith, g.end.state_low))))
      (or-either (zeros r) (message_ok last r) h)

-- with a greater last id
pub good-later : (last last' : ℕ) (r : List ℕ) → last ≤ last' → Good last r → Good last' r
good-later last last' r h g =
    record {
      id_low = g.id_low;
      id_high = omega arith;
      source = g.source;
      destination = g.destination;
      service = g.service;
      priority = g.priority;
      schedule = g.schedule;
      validity = g.validity;
      registered = g.registered;
      words = g.words;
      end = g.end;
      mark = g.mark;
      spare = g.spare;
    }

pub record-later : (last last' : ℕ) (r : List ℕ) → last ≤ last' → record_ok last r ≡ true → record_ok last' r ≡ true
unfolding record_ok
record-later last last' r h ok =
    or-one (zeros r) (message_ok last' r)
    (⊎_elim inl (λ m. inr (of-good r last' (good-later last last' r h (good_of r last m)))) (or-either (zeros r) (message_ok last r) ok))
