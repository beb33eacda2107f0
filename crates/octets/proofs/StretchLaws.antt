-- Laws of the tests on stretches and of `part`. Assumes nothing.
use mathlib.Core.Path.{◌≡◌, refl, sym, ap, subst, ◌∙◌}
use mathlib.Core.Bool.{Bool, true, false, ◌&&◌, ◌||◌, false≢true}
use mathlib.Core.List.{List, [], ◌∷◌, ◌++◌}
use Prim.Native.Nat.{ℕ, zero, suc, ◌+◌, ◌-◌, ◌≤◌, ◌<◌}
use native.Mathlib.Omega.{arith}
use native.Mathlib.Nat.{add-sub_cancel_left, zero-add, suc-add, sub-zero, zero-sub, suc-sub-suc}
use native.Mathlib.Numerals.{add-one}
use lib.ListN.{length, take, drop, get_or, set, replicate, length-take, length-drop, drop_of_length-le}
use lib.Seq.{drop-cons, take-nil, take-take, drop-drop, drop-length}
use lib.Dec.{eqb}
use lib.Pointwise.{pointwise, bytes_decides}
use Rattle.std.proofs.lemmas.List.{take_rest}
use Rattle.std.specs.Cmp.Lexicographic.{unequal}
use Rattle.std.specs.List.{list_any}
pub use Rattle.std.proofs.Math.Bool.{and_assoc, or_assoc, and-true, and-false, or-false}
pub use Rattle.std.proofs.lemmas.Bool.{and_from as and_both}
use borrow.Author.Tests.{eqb-true, eq-eqb}
use Rattle.octets.specs.Choice.{when◌then◌else◌}
use Rattle.octets.specs.Stretch.{same, every, zeros, among, part}

-- ---- tests that hold together

pub and_left : (a b : Bool) → (a && b) ≡ true → a ≡ true
and_left true b h = refl
and_left false b h = h

pub and_right : (a b : Bool) → (a && b) ≡ true → b ≡ true
and_right true b h = h
and_right false b h = absurd (false≢true h)

-- two tests, each of which holds where the other does
pub both_ways : (a b : Bool) → (a ≡ true → b ≡ true) → (b ≡ true → a ≡ true) → a ≡ b
both_ways true b p q = sym (p refl)
both_ways false true p q = q refl
both_ways false false p q = refl

-- ---- tests of which none holds

pub or_left : (a b : Bool) → (a || b) ≡ false → a ≡ false
or_left true b h = h
or_left false b h = refl

pub or_right : (a b : Bool) → (a || b) ≡ false → b ≡ false
or_right true b h = absurd (false≢true (sym h))
or_right false b h = h

-- ---- a choice, by cases on its test

pub if-cases : {A : Type 0} (P : A → Type 0) (t : Bool) (a b : A) → (t ≡ true → P a) → (t ≡ false → P b) → P (when t then a else b)
unfolding when◌then◌else◌
if-cases P true a b p q = p refl
if-cases P false a b p q = q refl

pub if-true : {A : Type 0} (t : Bool) (a b : A) → t ≡ true → (when t then a else b) ≡ a
unfolding when◌then◌else◌
if-true true a b h = refl
if-true false a b h = absurd (false≢true h)

pub if-false : {A : Type 0} (t : Bool) (a b : A) → t ≡ false → (when t then a else b) ≡ b
unfolding when◌then◌else◌
if-false true a b h = absurd (false≢true (sym h))
if-false false a b h = refl

-- ---- every: a loop that goes up, with the tests so far in `so`

pub every-turn : (p : ℕ → Bool) (so : Bool) (xs : List ℕ) (i : ℕ) → i < length xs
    → (so && every p (drop i xs)) ≡ ((so && p (get_or xs i 0)) && every p (drop (i + 1) xs))
unfolding every
every-turn p so xs i h =
    rw (drop-cons xs i 0 h, add-one i) (sym (and_assoc so (p (get_or xs i 0)) (every p (drop (suc i) xs))))

pub every-end : (p : ℕ → Bool) (so : Bool) (xs : List ℕ) (i : ℕ) → length xs ≤ i → (so && every p (drop i xs)) ≡ so
unfolding every
every-end p so xs i h = rw (drop_of_length-le xs {i = i} h) (and-true so)

-- what each element passes, the one at i does, and what is put at i has to
pub every-at : {A : Type 0} (p : A → Bool) (xs : List A) (i : ℕ) (d : A) → every p xs ≡ true → i < length xs → p (get_or xs i d) ≡ true
unfolding every
every-at p [] i d h k = absurd (omega arith)
every-at p (x ∷ xs) zero d h k = and_left (p x) (every p xs) h
every-at p (x ∷ xs) (suc i) d h k = every-at p xs i d (and_right (p x) (every p xs) h) (omega arith)

pub every_set : {A : Type 0} (p : A → Bool) (xs : List A) (i : ℕ) (y : A) → every p xs ≡ true → p y ≡ true → every p (set xs i y) ≡ true
unfolding every
every_set p [] i y h g = refl
every_set p (x ∷ xs) zero y h g = and_both (p y) (every p xs) g (and_right (p x) (every p xs) h)
every_set p (x ∷ xs) (suc i) y h g =
    and_both (p x) (every p (set xs i y)) (and_left (p x) (every p xs) h) (every_set p xs i y (and_right (p x) (every p xs) h) g)

-- what each element passes, each of a part does
pub every_drop : (p : ℕ → Bool) (n : ℕ) (xs : List ℕ) → every p xs ≡ true → every p (drop n xs) ≡ true
unfolding every
every_drop p zero xs h = h
every_drop p (suc n) [] h = h
every_drop p (suc n) (x ∷ xs) h = every_drop p n xs (and_right (p x) (every p xs) h)

pub every_take : (p : ℕ → Bool) (n : ℕ) (xs : List ℕ) → every p xs ≡ true → every p (take n xs) ≡ true
unfolding every
every_take p zero xs h = refl
every_take p (suc n) [] h = refl
every_take p (suc n) (x ∷ xs) h =
    and_both (p x) (every p (take n xs)) (and_left (p x) (every p xs) h) (every_take p n xs (and_right (p x) (every p xs) h))

-- ---- among, compared from the other side

pub among-any : (n : ℕ) (xs : List ℕ) → list_any (λ x. eqb x n) xs ≡ among n xs
among-any n [] = refl
among-any n (x ∷ xs) = rw (among-any n xs, eqb_sym x n)
  where
    eqb_sym : (a b : ℕ) → eqb a b ≡ eqb b a
    eqb_sym a b = both_ways (eqb a b) (eqb b a) (λ e. eq-eqb b a (sym (eqb-true a b e))) (λ e. eq-eqb a b (sym (eqb-true b a e)))

-- ---- same

-- `==` of slices
pub same-pointwise : (a b : List ℕ) → same a b ≡ pointwise eqb a b
unfolding same
same-pointwise [] [] = refl
same-pointwise [] (y ∷ ys) = refl
same-pointwise (x ∷ xs) [] = refl
same-pointwise (x ∷ xs) (y ∷ ys) = ap (λ (t : Bool). eqb x y && t) (same-pointwise xs ys)

-- `same` is equality
pub same-equal : (a b : List ℕ) → same a b ≡ true → a ≡ b
same-equal a b h = (bytes_decides a b).0 (sym (same-pointwise a b) ∙ h)

pub same_refl : (a : List ℕ) → same a a ≡ true
same_refl a = same-pointwise a a ∙ (bytes_decides a a).1 refl

-- one turn of a loop that compares octet by octet, and its end
pub same_turn : (so : Bool) (a b : List ℕ) (i : ℕ) → i < length a → i < length b
    → (so && same (drop i a) (drop i b)) ≡ ((so && eqb (get_or a i 0) (get_or b i 0)) && same (drop (i + 1) a) (drop (i + 1) b))
unfolding same
same_turn so a b i h k =
    rw (drop-cons a i 0 h, drop-cons b i 0 k, add-one i)
    (sym (and_assoc so (eqb (get_or a i 0) (get_or b i 0)) (same (drop (suc i) a) (drop (suc i) b))))

pub same_end : (so : Bool) (a b : List ℕ) (i : ℕ) → length a ≤ i → length b ≤ i → (so && same (drop i a) (drop i b)) ≡ so
unfolding same
same_end so a b i h k = rw (drop_of_length-le a {i = i} h, drop_of_length-le b {i = i} k) (and-true so)

pub same-lengths : (a b : List ℕ) → (length a ≡ length b → ⊥) → same a b ≡ false
same-lengths a b ne = same-pointwise a b ∙ unequal eqb a b ne

pub same-sym : (a b : List ℕ) → same a b ≡ same b a
same-sym a b = both_ways (same a b) (same b a) (back a b) (back b a)
  where
    back : (a b : List ℕ) → same a b ≡ true → same b a ≡ true
    back a b h = subst (λ (l : List ℕ). same l a ≡ true) (same-equal a b h) (same_refl a)

-- the first n octets and the others, apart
pub same-apart : (n : ℕ) (a b : List ℕ) → (same (take n a) (take n b) && same (drop n a) (drop n b)) ≡ same a b
unfolding same
same-apart zero a b = refl
same-apart (suc n) [] [] = refl
same-apart (suc n) [] (y ∷ ys) = refl
same-apart (suc n) (x ∷ xs) [] = refl
same-apart (suc n) (x ∷ xs) (y ∷ ys) =
    and_assoc (eqb x y) (same (take n xs) (take n ys)) (same (drop n xs) (drop n ys)) ∙ ap (λ (t : Bool). eqb x y && t) (same-apart n xs ys)

zeros-filled : (n : ℕ) (xs : List ℕ) → same (xs ++ replicate n 0) (replicate (length xs + n) 0) ≡ zeros xs
unfolding same every
zeros-filled n [] = rw (zero-add n) (same_refl (replicate n 0))
zeros-filled n (x ∷ xs) = rw (suc-add (length xs) n) (ap (λ (t : Bool). eqb x 0 && t) (zeros-filled n xs))

-- two stretches that zeros fill up to one length: equal as far as both go, and zeros behind that
pub same-filled : (m n : ℕ) (a b : List ℕ) → length a + m ≡ length b + n
    → same (a ++ replicate m 0) (b ++ replicate n 0) ≡ (same (take (length b) a) (take (length a) b) && zeros (drop (length b) a) && zeros (drop (length a) b))
unfolding same every
same-filled m n [] [] e =
    let f : m ≡ n = omega arith in
    rw f (same_refl (replicate n 0))
same-filled m n (x ∷ xs) [] e =
    let f : n ≡ length (x ∷ xs) + m = omega arith in
    rw f (zeros-filled m (x ∷ xs) ∙ sym (and-true (zeros (x ∷ xs))))
same-filled m n [] (y ∷ ys) e =
    let f : m ≡ length (y ∷ ys) + n = omega arith in
    rw f (same-sym (replicate (length (y ∷ ys) + n) 0) ((y ∷ ys) ++ replicate n 0) ∙ zeros-filled n (y ∷ ys))
same-filled m n (x ∷ xs) (y ∷ ys) e =
    let both = same (take (length ys) xs) (take (length xs) ys) in
    let behind = zeros (drop (length ys) xs) in
    ap (λ (t : Bool). eqb x y && t) (same-filled m n xs ys (omega arith))
    ∙ sym (ap (λ (t : Bool). t && zeros (drop (length xs) ys)) (and_assoc (eqb x y) both behind) ∙ and_assoc (eqb x y) (both && behind) (zeros (drop (length xs) ys)))

-- ---- part

-- a part `&s[at..at + n]` as the borrow checker has it
pub part_cut : (at n : ℕ) (xs : List ℕ) → take (at + n - at) (drop at xs) ≡ part at n xs
part_cut at n xs = rw (add-sub_cancel_left at n)

-- a part `&s[at..]` as the borrow checker has it
pub drop-cut : (at : ℕ) (xs : List ℕ) → take (length xs - at) (drop at xs) ≡ drop at xs
drop-cut at xs = take_rest xs at

-- the empty part at the end, as the borrow checker has it
pub drop_past : (at : ℕ) (xs : List ℕ) → length xs ≤ at → take (length xs - length xs) (drop (length xs) xs) ≡ drop at xs
drop_past at xs h = rw (drop-length xs, drop_of_length-le xs {i = at} h) (take-nil (length xs - length xs))

pub part_length : (at n : ℕ) (xs : List ℕ) → at + n ≤ length xs → length (part at n xs) ≡ n
part_length at n xs h = simp (length-take, length-drop) (omega arith)

pub drop-take : (b m : ℕ) (l : List ℕ) → drop b (take m l) ≡ take (m - b) (drop b l)
drop-take zero m l = rw (sub-zero m)
drop-take (suc b) zero l = rw (zero-sub (suc b))
drop-take (suc b) (suc m) [] = sym (take-nil (suc m - suc b))
drop-take (suc b) (suc m) (x ∷ l) = rw (suc-sub-suc m b) (drop-take b m l)

-- a part of a part
pub part-part : (xs : List ℕ) (a m b n : ℕ) → b + n ≤ m → part b n (part a m xs) ≡ part (a + b) n xs
part-part xs a m b n h =
    ap (take n) (drop-take b m (drop a xs)) ∙ take-take n (m - b) (drop b (drop a xs)) (omega arith) ∙ ap (take n) (drop-drop b a xs)
