-- Laws of the comparisons in which leading spaces don't count: of names, of fields, of addresses. Assumes nothing.
use mathlib.Core.Path.{◌≡◌, refl, sym, ap, subst, ◌∙◌}
use mathlib.Core.Bool.{Bool, true, false, ◌&&◌, true≢false}
use mathlib.Core.List.{List, [], ◌∷◌, ◌++◌, append-nil}
use Prim.Native.Nat.{ℕ, zero, suc, ◌+◌, ◌-◌, ◌≤◌}
use native.Mathlib.Omega.{arith}
use native.Mathlib.Nat.{sub_self, sub-zero}
use lib.ListN.{length, take, drop, replicate, length-drop}
use lib.Seq.{drop-append-le}
use lib.Dec.{eqb}
use borrow.Author.Tests.{eqb-true, eq-eqb}
use Rattle.octets.specs.Choice.{when◌then◌else◌}
use Rattle.octets.specs.Stretch.{same, every, zeros, padded}
use Rattle.octets.specs.Equivalence.{Equivalence}
use Rattle.octets.proofs.StretchLaws.{and_left, and-true, both_ways, every_drop, same-equal, same_refl, same-lengths, same-apart, same-filled}
use Rattle.octets.proofs.EquivalenceLaws.{by_value, by_both, with-alike}
use Rattle.octets.proofs.PatchLaws.{padded-length, padded-padded}
use Rattle.forms.specs.Class.{in_class, lead}
use Rattle.forms.specs.Text.{after_spaces}
use Rattle.forms.specs.Field.{text_of}
use Rattle.forms.specs.declared.class.Class.TheVariants.{NotNul, Space}
use Rattle.forms.proofs.ClassLaws.{lead-within, lead-append, lead-zeros}
use Rattle.forms.proofs.TextLaws.{padded-text}
use Rattle.records.specs.Book.{same_name, unspaced, same_address}

-- ---- names

pub names : Equivalence same_name
unfolding same_name
names = by_value after_spaces

pub with-name : (a b : List ℕ) → same_name a b ≡ true → (r : List ℕ) → same_name r a ≡ same_name r b
with-name a b h r = with-alike same_name names a b h r

after-padding : (n : ℕ) (name : List ℕ) → after_spaces (replicate n 32 ++ name) ≡ after_spaces name
unfolding after_spaces lead when◌then◌else◌
after-padding zero name = refl
after-padding (suc n) name = after-padding n name

-- however many spaces stand in front of it
pub name-padding : (n : ℕ) (name : List ℕ) → same_name (replicate n 32 ++ name) name ≡ true
unfolding same_name
name-padding n name = rw (after-padding n name) (same_refl (after_spaces name))

pub name-plain : (a b : List ℕ) → lead (in_class Space) a ≡ 0 → lead (in_class Space) b ≡ 0 → same_name a b ≡ same a b
unfolding same_name after_spaces
name-plain a b x y = rw (x, y)

-- ---- texts in fields

-- a field without leading spaces stays as it is
unspaced-plain : (field : List ℕ) → lead (in_class Space) field ≡ 0 → unspaced field ≡ field
unfolding after_spaces
unspaced-plain field none = rw (none, sub_self (length field)) (append-nil field)

-- two texts in fields: of one length, equal as far as both go, and zeros behind that
pub same-padded : (n m : ℕ) (x y : List ℕ) → length x ≤ n → length y ≤ m
    → (eqb n m && same (take (length y) x) (take (length x) y) && zeros (drop (length y) x) && zeros (drop (length x) y)) ≡ same (padded n x) (padded m y)
same-padded n m x y h k = by (eqb n m) refl
  where
    by : (t : Bool) → eqb n m ≡ t
        → (t && same (take (length y) x) (take (length x) y) && zeros (drop (length y) x) && zeros (drop (length x) y)) ≡ same (padded n x) (padded m y)
    by true e = sym (same-filled (n - length x) (m - length y) x y (omega (arith, eqb-true n m e)))
    by false e =
        sym (same-lengths (padded n x) (padded m y)
        (λ q. true≢false (sym (eq-eqb n m (sym (padded-length n x h) ∙ (q ∙ padded-length m y k))) ∙ e)))

-- ---- addresses

pub addresses : Equivalence same_address
unfolding same_address
addresses =
    by_both (λ a b. same (take 2 a) (take 2 b)) (λ a b. same (unspaced (drop 2 a)) (unspaced (drop 2 b)))
    (by_value (take 2))
    (by_value (λ a. unspaced (drop 2 a)))

pub with-address : (a b : List ℕ) → same_address a b ≡ true → (r : List ℕ) → same_address r a ≡ same_address r b
with-address a b h r = with-alike same_address addresses a b h r

pub address_plain : (a b : List ℕ) → lead (in_class Space) (drop 2 a) ≡ 0 → lead (in_class Space) (drop 2 b) ≡ 0 → same_address a b ≡ same a b
unfolding same_address
address_plain a b x y = rw (unspaced-plain (drop 2 a) x, unspaced-plain (drop 2 b) y) (same-apart 2 a b)

pub address-front : (a b : List ℕ) → same_address a b ≡ true → take 2 a ≡ take 2 b
unfolding same_address
address-front a b h = same-equal (take 2 a) (take 2 b) (and_left _ _ h)

-- ---- addresses as they are kept: a text of at most 20 characters, none of them NUL, and zeros behind it

-- the text without its leading spaces, kept
unspaced-kept : (text : List ℕ) → length text ≤ 20 → unspaced (padded 20 text) ≡ padded 20 (after_spaces text)
unfolding after_spaces
unspaced-kept text h =
    let m = 20 - length text in
    let n = lead (in_class Space) text in
    let cut : drop n (text ++ replicate m 0) ≡ drop n text ++ replicate m 0 = drop-append-le n text (replicate m 0) (lead-within (in_class Space) text) in
    let fits : length (drop n text) + m ≤ 20 = simp length-drop (omega arith) in
    rw (padded-length 20 text h, lead-append (in_class Space) text (replicate m 0) (lead-zeros (in_class Space) m refl), cut)
    (rw (sub-zero m, append-nil (drop n text)) at (padded-padded 20 m (drop n text) [] (omega arith) fits))

-- texts without a NUL are the same where their fields are
same_kept : (x y : List ℕ) → every (in_class NotNul) x ≡ true → every (in_class NotNul) y ≡ true → same (padded 20 x) (padded 20 y) ≡ same x y
same_kept x y p q =
    both_ways (same (padded 20 x) (padded 20 y)) (same x y)
    (λ h. subst (λ (l : List ℕ). same x l ≡ true) (sym (padded-text 20 x p) ∙ (ap text_of (same-equal _ _ h) ∙ padded-text 20 y q)) (same_refl x))
    (λ h. subst (λ (l : List ℕ). same (padded 20 x) (padded 20 l) ≡ true) (same-equal x y h) (same_refl (padded 20 x)))

after-no_nul : (text : List ℕ) → every (in_class NotNul) text ≡ true → every (in_class NotNul) (after_spaces text) ≡ true
unfolding after_spaces
after-no_nul text h = every_drop (in_class NotNul) (lead (in_class Space) text) text h

pub address_kept : (ton npi ton' npi' : ℕ) (text text' : List ℕ) → length text ≤ 20 → length text' ≤ 20
    → every (in_class NotNul) text ≡ true → every (in_class NotNul) text' ≡ true
    → same_address (ton ∷ npi ∷ padded 20 text) (ton' ∷ npi' ∷ padded 20 text') ≡ (eqb ton ton' && eqb npi npi' && same_name text text')
unfolding same_address same_name same
address_kept ton npi ton' npi' text text' short short' no_nul no_nul' =
    let texts = same_kept (after_spaces text) (after_spaces text') (after-no_nul text no_nul) (after-no_nul text' no_nul') in
    rw (unspaced-kept text short, unspaced-kept text' short', texts, and-true (eqb npi npi'))
