-- What the readers of fields lean on. Assumes nothing.
use mathlib.Core.Path.{◌≡◌, ap}
use mathlib.Core.List.{List, ◌∷◌}
use Prim.Native.Nat.{ℕ, ◌+◌, ◌≤◌, ◌<◌}
use native.Mathlib.Omega.{arith}
use lib.ListN.{length, take, drop, replicate, get_or, length-take, length-drop}
use borrow.Author.Tests.{ltb-false}
use Rattle.octets.specs.Stretch.{patch, padded}
use Rattle.octets.proofs.PatchLaws.{patch-zeros}
use Rattle.octets.proofs.StretchLaws.{if-cases}
use Rattle.octets.specs.Choice.{when◌then◌else◌}
use Rattle.forms.specs.declared.text.Form.{Form}
use Rattle.forms.specs.Text.{longest_text}
use Rattle.wire.specs.Status.{invalid_message_length, invalid_parameter, code}
use Rattle.wire.specs.declared.status.Status.{Status}
use Rattle.wire.specs.Cursor.{Cursor, not_both, end_of}
use Rattle.wire.proofs.StatusLaws.{code-not_zero}
use Rattle.wire.specs.Fields.{Read, octet_at, text_at, address_at, id_at, time_at, span_at, short_at}
use Rattle.wire.specs.declared.fields.Span.{Span}

-- a place inside the first `most` octets from `at` on lies in the body
pub inside : (at most n : ℕ) (body left window : List ℕ) → left ≡ drop at body → window ≡ take most left → n < length window
    → (at + n < length body) × (n < most)
inside at most n body left window e f h =
    let l : length left ≡ length (drop at body) = ap length e in
    let w : length window ≡ length (take most left) = ap length f in
    (omega (arith, simp length-drop at l, simp length-take at w), omega (arith, simp length-take at w))

-- an address: a text put behind two octets, into zeros
pub address-padded : (ton npi : ℕ) (text : List ℕ) → length text ≤ 20 → patch (ton ∷ npi ∷ replicate 20 0) 2 text ≡ ton ∷ npi ∷ padded 20 text
unfolding patch
address-padded ton npi text h = ap (λ (l : List ℕ). ton ∷ npi ∷ l) (patch-zeros 20 text h)

-- ---- behind a refusal no field is looked at

abbrev stopped : ℕ → Status → Cursor
stopped at e = record { at = at; status = code e }

pub octet-behind : (most bad : ℕ) (body : List ℕ) (at : ℕ) (e : Status) → (octet_at most bad body (stopped at e)).next ≡ stopped at e
unfolding octet_at when◌then◌else◌
octet-behind most bad body at e = rw (code-not_zero e)

pub text-behind : (form : Form) (most bad : ℕ) (body : List ℕ) (at : ℕ) (e : Status) → (text_at form most bad body (stopped at e)).next ≡ stopped at e
unfolding text_at when◌then◌else◌
text-behind form most bad body at e = rw (code-not_zero e)

pub address-behind : (bad : ℕ) (body : List ℕ) (at : ℕ) (e : Status) → (address_at bad body (stopped at e)).next ≡ stopped at e
unfolding address_at
address-behind bad body at e = simp (octet-behind, text-behind)

pub id-behind : (body : List ℕ) (at : ℕ) (e : Status) → (id_at body (stopped at e)).next ≡ stopped at e
unfolding id_at
id-behind body at e = simp text-behind

pub time-behind : (body : List ℕ) (at : ℕ) (e : Status) → (time_at body (stopped at e)).next ≡ stopped at e
unfolding time_at when◌then◌else◌
time-behind body at e = rw (code-not_zero e)

pub both-behind : (a b bad at : ℕ) (e : Status) → not_both a b bad (stopped at e) ≡ stopped at e
unfolding not_both when◌then◌else◌
both-behind a b bad at e = rw (code-not_zero e)

pub span-behind : (n : ℕ) (body : List ℕ) (at : ℕ) (e : Status) → (span_at n body (stopped at e)).next ≡ stopped at e
unfolding span_at when◌then◌else◌
span-behind n body at e = rw (code-not_zero e)

pub short-behind : (default : ℕ) (body : List ℕ) (at : ℕ) (e : Status) → (short_at default body (stopped at e)).next ≡ stopped at e
unfolding short_at
short-behind default body at e = simp (octet-behind, both-behind, span-behind)

pub end-behind : (body : List ℕ) (at : ℕ) (e : Status) → end_of body (stopped at e) ≡ code e
unfolding end_of when◌then◌else◌
end-behind body at e = rw (code-not_zero e)

-- ---- what a field read holds, whether it was refused or not

pub octet-within : (most bad : ℕ) (body : List ℕ) (c : Cursor) → (octet_at most bad body c).value ≤ most
unfolding octet_at
octet-within most bad body c =
    if-cases Small _ _ _ (λ _. omega arith) λ _.
    if-cases Small _ _ _ (λ _. omega arith) λ _.
    if-cases Small _ _ _ (λ _. omega arith) λ h. ltb-false most (get_or body c.at 0) h
  where
    Small : Read ℕ → Type 0
    Small r = r.value ≤ most

pub span-within : (n : ℕ) (body : List ℕ) (c : Cursor) → (span_at n body c).value.len ≤ n
unfolding span_at
span-within n body c =
    if-cases Small _ _ _ (λ _. omega arith) λ _.
    if-cases Small _ _ _ (λ _. omega arith) λ _.
    if-cases Small _ _ _ (λ _. omega arith) λ _. omega arith
  where
    Small : Read Span → Type 0
    Small r = r.value.len ≤ n

-- a short message has at most 140 octets
pub short-within : (default : ℕ) (body : List ℕ) (c : Cursor) → (short_at default body c).value.len ≤ longest_text
unfolding short_at
short-within default body c =
    let size = octet_at longest_text invalid_message_length body c in
    omega (arith, octet-within longest_text invalid_message_length body c, span-within size.value body (not_both size.value default invalid_parameter size.next))
