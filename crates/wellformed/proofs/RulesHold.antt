-- What is read of a body passes the rules of its fields, whether the body is refused or not: a field that is refused, and each behind it, reads as
-- none. So it does where the status is 0. Assumes nothing.
use mathlib.Core.Path.{◌≡◌, refl}
use mathlib.Core.Bool.{Bool, true, false, or-true}
use mathlib.Core.Logic.{◌⊎◌, inl, inr}
use mathlib.Core.List.{List, []}
use Prim.Native.Nat.{ℕ, ◌+◌, ◌≤◌, ◌<◌}
use native.Mathlib.Omega.{arith}
use lib.ListN.{length, take, drop, replicate, length-take, length-drop}
use lib.Seq.{take_all, take-take, length-take-le}
use lib.Dec.{eqb}
use borrow.Author.Tests.{eqb-true, eqb-false, ne_eqb, ltb-false}
use Rattle.octets.specs.Stretch.{every, zeros, padded}
use Rattle.octets.proofs.PatchLaws.{padded-length}
use Rattle.octets.proofs.StretchLaws.{and_left, and-true, if-cases, if-true}
use Rattle.forms.specs.Class.{in_class, lead}
use Rattle.forms.specs.Text.{formed}
use Rattle.forms.specs.Time.{sent_time}
use Rattle.forms.specs.declared.class.Class.TheVariants.{NotNul}
use Rattle.forms.specs.declared.text.Form.{Form}
use Rattle.forms.specs.declared.text.Form.TheVariants.{Ascii, AddressOrNone}
use Rattle.forms.proofs.ClassLaws.{lead-within}
use Rattle.wire.specs.Cursor.{Cursor, refused, not_both}
use Rattle.wire.specs.Fields.{Read, octet_at, text_at, address_at, time_at, span_at, short_at, window, Inside, octets_of}
use Rattle.wire.specs.Status.{invalid_command_length, invalid_parameter}
use Rattle.wire.specs.declared.fields.Span.{Span}
use Rattle.wire.specs.declared.fields.Time.{Time}
use Rattle.wire.proofs.FieldLaws.{inside, octet-within, span-within, short-within}
use Rattle.requests.specs.Submit.{submit_of}
use Rattle.requests.specs.Replace.{replace_of}
use Rattle.wellformed.specs.Rules.{Text, Addressed, Timed, Worded, SubmitHolds, ReplaceHolds}
use Rattle.wellformed.proofs.TextFields.{padded-field, every-lead}

-- ---- a text of fewer than `most` octets, where none is a text of the form

pub text-holds : (form : Form) (n most bad : ℕ) (body : List ℕ) (c : Cursor) → most ≡ n + 1 → formed form [] ≡ true
    → Text form n (text_at form most bad body c).value body
unfolding text_at every
text-holds form n most bad body c size none_formed =
    if-cases Holds _ _ _ (λ _. none) λ _.
    if-cases Holds _ _ _ (λ _. none) λ short.
    if-cases Holds _ _ _ (λ ok. read (omega (arith, lead-within (in_class NotNul) w, eqb-false k (length w) short)) ok) (λ _. none)
  where
    Holds : Read Span → Type 0
    Holds r = Text form n r.value body

    w : List ℕ
    w = window most body c

    k : ℕ
    k = lead (in_class NotNul) w

    none : Text form n (record { from = 0; len = 0 }) body
    none = record { inside = omega arith; fits = omega arith; no_nul = refl; is_formed = none_formed }

    read : k < length w → formed form (take k w) ≡ true → Text form n (record { from = c.at; len = k }) body
    read h ok =
        let i = inside c.at most k body (drop c.at body) w refl refl h in
        let e : take k w ≡ take k (drop c.at body) = take-take k most (drop c.at body) (omega arith) in
        record { inside = omega arith; fits = omega arith; no_nul = rw e at (every-lead (in_class NotNul) w); is_formed = rw e at ok }

-- ---- an address, a time

pub address-holds : (bad : ℕ) (body : List ℕ) (c : Cursor) → Addressed (address_at bad body c).value.octets
unfolding address_at formed
address-holds bad body c =
    let ton = octet_at 255 invalid_command_length body c in
    let npi = octet_at 255 invalid_command_length body ton.next in
    let t = text-holds AddressOrNone 20 21 bad body npi.next refl refl in
    let text = octets_of (text_at AddressOrNone 21 bad body npi.next).value body in
    let l : length (padded 20 text) ≡ 20 = padded-length 20 text (simp length-take (omega arith)) in
    record { size = omega arith; number = rw (take_all 20 (padded 20 text) (omega arith)) (padded-field AddressOrNone 20 text t.no_nul t.is_formed) }

pub time-holds : (body : List ℕ) (c : Cursor) → Timed (time_at body c).value.octets
unfolding time_at every
time-holds body c =
    if-cases Holds _ _ _ (λ _. none) λ _.
    if-cases Holds _ _ _ (λ _. none) λ _.
    if-cases Holds _ _ _ (λ _. none) λ _.
    if-cases Holds _ _ _ (λ _. none) λ long.
    if-cases Holds _ _ _ (λ ok. read (ltb-false (length left) 17 long) (and_left _ _ ok)) (λ _. none)
  where
    Holds : Read Time → Type 0
    Holds r = Timed r.value.octets

    left : List ℕ
    left = drop c.at body

    none : Timed (replicate 16 0)
    none = record { size = refl; time = refl }

    read : 17 ≤ length left → sent_time (take 16 left) ≡ true → Timed (take 16 left)
    read h ok = record { size = length-take-le 16 left (omega arith); time = rw ok (or-true (zeros (take 16 left))) }

-- ---- the short message

refused-both : (a b bad : ℕ) (c : Cursor) → (bad ≡ 0 → ⊥) → eqb a 0 ≡ false → eqb b 0 ≡ false → refused (not_both a b bad c) ≡ true
unfolding not_both
refused-both a b bad c ne ea eb =
    if-cases (λ (d : Cursor). refused d ≡ true) _ _ _ (λ _. rw (ne_eqb bad 0 ne)) (λ h. rw (simp (ea, eb, and-true) at h))

span-inside : (n : ℕ) (body : List ℕ) (c : Cursor) → Inside (span_at n body c).value body
unfolding span_at
span-inside n body c =
    if-cases Holds _ _ _ (λ _. omega arith) λ _.
    if-cases Holds _ _ _ (λ _. omega arith) λ room.
    if-cases Holds _ _ _ (λ _. omega arith) λ some.
    omega (arith, eqb-false n 0 some, simp length-drop at (ltb-false (length (drop c.at body)) n room))
  where
    Holds : Read Span → Type 0
    Holds r = Inside r.value body

span-refused : (n : ℕ) (body : List ℕ) (c : Cursor) → refused c ≡ true → (span_at n body c).value.len ≡ 0
unfolding span_at
span-refused n body c h = rw (if-true (refused c) _ _ h)

not-both : (n default : ℕ) (body : List ℕ) (c : Cursor) → ((span_at n body (not_both n default invalid_parameter c)).value.len ≡ 0) ⊎ (default ≡ 0)
not-both n default body c = by (eqb default 0) (eqb n 0) refl refl
  where
    by : (d e : Bool) → eqb default 0 ≡ d → eqb n 0 ≡ e → ((span_at n body (not_both n default invalid_parameter c)).value.len ≡ 0) ⊎ (default ≡ 0)
    by true e p q = inr (eqb-true default 0 p)
    by false true p q = inl (omega (arith, eqb-true n 0 q, span-within n body (not_both n default invalid_parameter c)))
    by false false p q = inl (span-refused n body _ (refused-both n default invalid_parameter c (omega arith) q p))

pub words-hold : (default : ℕ) (body : List ℕ) (c : Cursor) → default ≤ 100 → Worded default (short_at default body c).value body
unfolding short_at
words-hold default body c low =
    record { default_low = low; inside = span-inside _ body _; fits = short-within default body c; not_both = not-both _ default body _ }

-- ---- the requests

pub submit-holds : (body : List ℕ) → SubmitHolds (submit_of body).request body
unfolding submit_of formed every
submit-holds body =
    record {
      service = text-holds Ascii 5 6 _ body _ refl refl;
      source = address-holds _ body _;
      destination = address-holds _ body _;
      priority = octet-within 1 _ body _;
      schedule = time-holds body _;
      validity = time-holds body _;
      registered = octet-within 1 _ body _;
      replace = octet-within 1 _ body _;
      words = words-hold _ body _ (octet-within 100 _ body _);
    }

pub replace-holds : (body : List ℕ) → ReplaceHolds (replace_of body).request body
unfolding replace_of
replace-holds body =
    record {
      source = address-holds _ body _;
      schedule = time-holds body _;
      validity = time-holds body _;
      registered = octet-within 1 _ body _;
      words = words-hold _ body _ (octet-within 100 _ body _);
    }
