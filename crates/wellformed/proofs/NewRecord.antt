-- A new record is well formed and waiting, and has its id and no mark. Assumes nothing.
use mathlib.Core.Path.{◌≡◌, refl, sym, ap, ap₂, ◌∙◌}
use mathlib.Core.Bool.{true}
use mathlib.Core.Logic.{⊎_map}
use mathlib.Core.List.{List, [], ◌∷◌, ◌++◌, append_assoc}
use Prim.Native.Nat.{ℕ, suc, ◌+◌, ◌-◌, ◌≤◌, ◌<◌}
use native.Mathlib.Omega.{arith}
use lib.ListN.{length, take, drop, replicate, get_or, length-append, replicate-append-replicate}
use lib.Seq.{get_or-drop, take_at, drop_at, drop-drop, drop-append_seam}
use Rattle.octets.specs.Stretch.{part, padded, every, is_zero, zeros}
use Rattle.octets.specs.Number.{number, octets4}
use Rattle.octets.proofs.NumberLaws.{octets4-length, number-octets4}
use Rattle.octets.proofs.PatchLaws.{padded-length}
use Rattle.forms.specs.Time.{sent_time, stored_time}
use Rattle.forms.specs.Field.{is_field}
use Rattle.forms.specs.declared.text.Form.TheVariants.{Ascii}
use Rattle.records.specs.Layout.{state_of, id_of, default_of, length_of, text_field_of}
use Rattle.records.specs.Record.{address_ok, time_ok}
use Rattle.changes.specs.Change.{head, terms, message, new_record}
use Rattle.changes.specs.declared.Fields.{Fields}
use Rattle.wellformed.specs.Rules.{Timed}
use Rattle.wellformed.specs.Good.{Good, GoodFields}
use Rattle.wellformed.proofs.GoodIs.{or-one, or-either, no-mark}
use Rattle.wellformed.proofs.TextFields.{every-replicate, sent-stored}

-- what stands at k, and what stands behind it
module _ (r a c : List ℕ) (k m : ℕ) (e : drop k r ≡ a ++ c) (size : length a ≡ m) where
  here : part k m r ≡ a
  here = ap (take m) e ∙ take_at a c m size

  next : drop (k + m) r ≡ c
  next = sym (drop-drop m k r) ∙ ap (drop m) e ∙ drop_at a c m size

octet : (r a : List ℕ) (k i : ℕ) → drop k r ≡ a → get_or r (k + i) 0 ≡ get_or a i 0
octet r a k i e = sym (get_or-drop k r i 0) ∙ ap (λ (l : List ℕ). get_or l i 0) e

-- a time that is read may be stored
pub time-ok : (t : List ℕ) → Timed t → time_ok t ≡ true
time-ok t h = or-one (zeros t) (stored_time t) (⊎_map (λ e. e) (sent-stored t) (or-either (zeros t) (sent_time t) h.time))

regroup : (a b c d e : List ℕ) → (a ++ (b ++ (c ++ d))) ++ e ≡ a ++ (b ++ (c ++ (d ++ e)))
regroup a b c d e = simp append_assoc

regroup-all : (a b c d x y z e : List ℕ) → (a ++ (b ++ (c ++ d))) ++ ((x ++ (y ++ z)) ++ e) ≡ a ++ (b ++ (c ++ (d ++ (x ++ (y ++ (z ++ e))))))
regroup-all a b c d x y z e = simp append_assoc

module _ (id : ℕ) (f : Fields) (service text : List ℕ) where
  pub new-length : length f.source ≤ 22 → length f.destination ≤ 22 → length service ≤ 5 → length f.schedule ≡ 16 → length f.validity ≡ 16
      → length text ≤ 140 → length (new_record id f service text) ≡ 256
  unfolding new_record
  new-length source destination fits schedule validity short =
      let h = head id f.source f.destination service in
      let t = terms (f.esm ∷ f.protocol ∷ f.priority ∷ []) f.schedule f.validity in
      let m = message (f.registered ∷ f.coding ∷ f.default ∷ []) text in
      let hl : length h ≤ 54 = simp (length-append, octets4-length) (omega arith) in
      length-append (padded 54 h) (t ++ padded 167 m)
      ∙ omega (arith, padded-length 54 h hl, length-append t (padded 167 m), length-append f.schedule f.validity, padded-length 167 m (omega arith))

  ending : List ℕ
  ending = f.registered ∷ f.coding ∷ f.default ∷ length text ∷ (padded 140 text ++ replicate 23 0)

  module _ (g : GoodFields f service text) where
    front : padded 54 (head id f.source f.destination service) ≡ (1 ∷ octets4 id) ++ (f.source ++ (f.destination ++ padded 5 service))
    front =
        let h = head id f.source f.destination service in
        let n : length h ≡ 49 + length service = simp (length-append, octets4-length) (omega (arith, g.source_size, g.destination_size)) in
        let e : 54 - length h ≡ 5 - length service = omega (arith, n) in
        rw e (regroup (1 ∷ octets4 id) f.source f.destination service (replicate (5 - length service) 0))

    back : padded 167 (message (f.registered ∷ f.coding ∷ f.default ∷ []) text) ≡ ending
    unfolding ending
    back =
        let n = 140 - length text in
        let e : 167 - suc (suc (suc (suc (length text)))) ≡ n + 23 = omega (arith, g.size) in
        ap (λ (l : List ℕ). f.registered ∷ f.coding ∷ f.default ∷ length text ∷ l)
        (ap (λ (m : ℕ). text ++ replicate m 0) e
        ∙ ap (λ (l : List ℕ). text ++ l) (sym (replicate-append-replicate {A = ℕ} n 23 0))
        ∙ sym (append_assoc text (replicate n 0) (replicate 23 0)))

    flat : new_record id f service text
        ≡ (1 ∷ octets4 id)
        ++ (f.source ++ (f.destination ++ (padded 5 service ++ (f.esm ∷ f.protocol ∷ f.priority ∷ (f.schedule ++ (f.validity ++ ending))))))
    unfolding new_record
    flat =
        ap₂ (λ (x y : List ℕ). x ++ (terms (f.esm ∷ f.protocol ∷ f.priority ∷ []) f.schedule f.validity ++ y)) front back
        ∙ regroup-all (1 ∷ octets4 id) f.source f.destination (padded 5 service) (f.esm ∷ f.protocol ∷ f.priority ∷ []) f.schedule f.validity ending

    r : List ℕ
    r = new_record id f service text

    -- what is left from each field on
    at5 : drop 5 r ≡ f.source ++ (f.destination ++ (padded 5 service ++ (f.esm ∷ f.protocol ∷ f.priority ∷ (f.schedule ++ (f.validity ++ ending)))))
    unfolding r
    at5 = next r (1 ∷ octets4 id) _ 0 5 flat (omega (arith, octets4-length id))

    at27 : drop 27 r ≡ f.destination ++ (padded 5 service ++ (f.esm ∷ f.protocol ∷ f.priority ∷ (f.schedule ++ (f.validity ++ ending))))
    at27 = next r f.source _ 5 22 at5 g.source_size

    at49 : drop 49 r ≡ padded 5 service ++ (f.esm ∷ f.protocol ∷ f.priority ∷ (f.schedule ++ (f.validity ++ ending)))
    at49 = next r f.destination _ 27 22 at27 g.destination_size

    at54 : drop 54 r ≡ f.esm ∷ f.protocol ∷ f.priority ∷ (f.schedule ++ (f.validity ++ ending))
    at54 = next r (padded 5 service) _ 49 5 at49 (padded-length 5 service g.service_size)

    at57 : drop 57 r ≡ f.schedule ++ (f.validity ++ ending)
    at57 = next r (f.esm ∷ f.protocol ∷ f.priority ∷ []) _ 54 3 at54 refl

    at73 : drop 73 r ≡ f.validity ++ ending
    at73 = next r f.schedule _ 57 16 at57 g.schedule.size

    at89 : drop 89 r ≡ ending
    at89 = next r f.validity _ 73 16 at73 g.validity.size

    at93 : drop 93 r ≡ padded 140 text ++ replicate 23 0
    unfolding ending
    at93 = next r (f.registered ∷ f.coding ∷ f.default ∷ length text ∷ []) _ 89 4 at89 refl

    at233 : drop 233 r ≡ replicate 23 0
    at233 = next r (padded 140 text) _ 93 140 at93 (padded-length 140 text g.size)

    pub new-state : state_of (new_record id f service text) ≡ 1
    new-state = ap state_of flat

    pub new-id : id < 4294967296 → id_of (new_record id f service text) ≡ id
    new-id h = ap id_of flat ∙ ap number (take_at (octets4 id) _ 4 (octets4-length id)) ∙ number-octets4 id h

    pub new-good : (last : ℕ) → 1 ≤ id → id ≤ last → id < 4294967296 → Good last (new_record id f service text)
    unfolding r ending every
    new-good last low high bits =
        let i = new-id bits in
        let s = new-state in
        let default : default_of r ≡ f.default = octet r ending 89 2 at89 in
        let size : length_of r ≡ length text = octet r ending 89 3 at89 in
        let text' : text_field_of r ≡ padded 140 text = here r (padded 140 text) (replicate 23 0) 93 140 at93 (padded-length 140 text g.size) in
        record {
          id_low = omega arith;
          id_high = omega arith;
          source = ap address_ok (here r f.source _ 5 22 at5 g.source_size) ∙ g.source;
          destination = ap address_ok (here r f.destination _ 27 22 at27 g.destination_size) ∙ g.destination;
          service = ap (is_field Ascii) (here r (padded 5 service) _ 49 5 at49 (padded-length 5 service g.service_size)) ∙ g.service_text;
          priority = omega (arith, octet r _ 54 2 at54, g.priority);
          schedule = ap time_ok (here r f.schedule _ 57 16 at57 g.schedule.size) ∙ time-ok f.schedule g.schedule;
          validity = ap time_ok (here r f.validity _ 73 16 at73 g.validity.size) ∙ time-ok f.validity g.validity;
          registered = omega (arith, octet r ending 89 0 at89, g.registered);
          words = record {
            default = omega (arith, g.default);
            size = omega (arith, g.size);
            not_both = ⊎_map (λ e. size ∙ e) (λ e. default ∙ e) g.not_both;
            unused = ap zeros (ap₂ drop size text' ∙ drop-append_seam text (replicate (140 - length text) 0)) ∙ every-replicate is_zero (140 - length text) 0 refl;
          };
          end = record {
            state_low = omega arith;
            state_high = omega arith;
            no_date = λ _. ap (λ (l : List ℕ). zeros (take 16 l)) at233;
            date = λ ne. absurd (ne s);
            error = λ _. octet r (replicate 23 0) 233 16 at233;
          };
          mark = no-mark r (octet r (replicate 23 0) 233 17 at233);
          spare = ap zeros (ap (take 5) (next r (replicate 18 0) (replicate 5 0) 233 18 at233 refl));
        }
