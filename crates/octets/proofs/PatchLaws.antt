-- Laws of `patch`: its length, what stands where it was put, before it and behind it, patches one after the other, and a part lent and
-- given back. Assumes nothing.
use mathlib.Core.Path.{◌≡◌, refl, ap, ◌∙◌}
use mathlib.Core.List.{List, [], ◌∷◌, ◌++◌, append_assoc, append-nil}
use Prim.Native.Nat.{ℕ, zero, suc, ◌+◌, ◌-◌, ◌≤◌, ◌<◌}
use native.Mathlib.Omega.{arith}
use native.Mathlib.Nat.{add-sub_cancel_left, zero-add, suc-add}
use native.Mathlib.Numerals.{add-one}
use lib.ListN.{length, take, drop, get_or, set, replicate, length-append, length-replicate, replicate-append-replicate}
use Rattle.std.proofs.lemmas.List.{drop-replicate}
use lib.Seq.{take-length, paste, paste-zero, paste-suc, drop-drop, drop-length}
use Rattle.octets.specs.Stretch.{patch, part, padded}

pub patch-length : (xs : List ℕ) (at : ℕ) (ys : List ℕ) → length (patch xs at ys) ≡ length xs
unfolding patch
patch-length [] at ys = refl
patch-length (x ∷ xs) zero [] = refl
patch-length (x ∷ xs) zero (y ∷ ys) = ap suc (patch-length xs zero ys)
patch-length (x ∷ xs) (suc at) ys = ap suc (patch-length xs at ys)

-- a patch as three stretches
pub patch-is : (xs : List ℕ) (at : ℕ) (ys : List ℕ) → at + length ys ≤ length xs → patch xs at ys ≡ take at xs ++ ys ++ drop (at + length ys) xs
unfolding patch
patch-is [] zero [] h = refl
patch-is [] zero (y ∷ ys) h = absurd (omega arith)
patch-is [] (suc at) ys h = absurd (omega arith)
patch-is (x ∷ xs) zero [] h = refl
patch-is (x ∷ xs) zero (y ∷ ys) h =
    rw (zero-add (suc (length ys))) (ap (λ (l : List ℕ). y ∷ l) (rw (zero-add (length ys)) at (patch-is xs zero ys (omega arith))))
patch-is (x ∷ xs) (suc at) ys h = rw (suc-add at (length ys)) (ap (λ (l : List ℕ). x ∷ l) (patch-is xs at ys (omega arith)))

-- at the front
pub patch-front : (xs ys : List ℕ) → length ys ≤ length xs → patch xs 0 ys ≡ ys ++ drop (length ys) xs
unfolding patch
patch-front [] [] h = refl
patch-front [] (y ∷ ys) h = absurd (omega arith)
patch-front (x ∷ xs) [] h = refl
patch-front (x ∷ xs) (y ∷ ys) h = ap (λ (l : List ℕ). y ∷ l) (patch-front xs ys (omega arith))

-- nothing put
pub patch-nothing : (xs : List ℕ) (at : ℕ) → patch xs at [] ≡ xs
unfolding patch
patch-nothing [] at = refl
patch-nothing (x ∷ xs) zero = refl
patch-nothing (x ∷ xs) (suc at) = ap (λ (l : List ℕ). x ∷ l) (patch-nothing xs at)

-- one patch right behind another is one patch
pub patch-next : (xs : List ℕ) (at : ℕ) (ys zs : List ℕ) → patch (patch xs at ys) (at + length ys) zs ≡ patch xs at (ys ++ zs)
unfolding patch
patch-next [] at ys zs = refl
patch-next (x ∷ xs) zero [] zs = rw (zero-add 0)
patch-next (x ∷ xs) zero (y ∷ ys) zs =
    rw (zero-add (suc (length ys))) (ap (λ (l : List ℕ). y ∷ l) (rw (zero-add (length ys)) at (patch-next xs zero ys zs)))
patch-next (x ∷ xs) (suc at) ys zs = rw (suc-add at (length ys)) (ap (λ (l : List ℕ). x ∷ l) (patch-next xs at ys zs))

-- what stands behind may be put first
pub patch-behind : (xs ys zs : List ℕ) → patch (patch xs (length ys) zs) 0 ys ≡ patch xs 0 (ys ++ zs)
unfolding patch
patch-behind [] ys zs = refl
patch-behind (x ∷ xs) [] zs = patch-nothing (patch (x ∷ xs) 0 zs) 0
patch-behind (x ∷ xs) (y ∷ ys) zs = ap (λ (l : List ℕ). y ∷ l) (patch-behind xs ys zs)

-- a patch of everything
pub patch-whole : (xs ys : List ℕ) → length ys ≡ length xs → patch xs 0 ys ≡ ys
patch-whole xs ys e = patch-front xs ys (omega arith) ∙ rw (e, drop-length xs) (append-nil ys)

pub padded-length : (n : ℕ) (text : List ℕ) → length text ≤ n → length (padded n text) ≡ n
padded-length n text h = rw (length-append text (replicate (n - length text) 0), length-replicate {A = ℕ} (n - length text) 0) (omega arith)

-- a text put into zeros
pub patch-zeros : (n : ℕ) (text : List ℕ) → length text ≤ n → patch (replicate n 0) 0 text ≡ padded n text
patch-zeros n text h =
    patch-front (replicate n 0) text (rw (length-replicate {A = ℕ} n 0) h) ∙ ap (λ (l : List ℕ). text ++ l) (drop-replicate (length text) n 0)

-- one put behind another into zeros
pub padded-put : (n at : ℕ) (a b : List ℕ) → length a ≡ at → at + length b ≤ n → patch (padded n a) at b ≡ padded n (a ++ b)
padded-put n at a b e h =
    let fits : length a ≤ n = omega arith in
    let both : length (a ++ b) ≤ n = rw (length-append a b) (omega arith) in
    rw (← e, ← (patch-zeros n a fits), ← (patch-zeros n (a ++ b) both)) (rw (zero-add (length a)) at (patch-next (replicate n 0) 0 a b))

-- zeros put behind a text are there already
pub padded-padded : (n m : ℕ) (a b : List ℕ) → length b ≤ m → length a + m ≤ n → padded n (a ++ padded m b) ≡ padded n (a ++ b)
padded-padded n m a b h k =
    let l : length (b ++ replicate (m - length b) 0) ≡ m = padded-length m b h in
    let e : (m - length b) + (n - (length a + m)) ≡ n - (length a + length b) = omega arith in
    rw (length-append a (b ++ replicate (m - length b) 0), l, length-append a b, append_assoc a (b ++ replicate (m - length b) 0) (replicate (n - (length a + m)) 0), append_assoc b (replicate (m - length b) 0) (replicate (n - (length a + m)) 0), replicate-append-replicate {A = ℕ} (m - length b) (n - (length a + m)) 0, e, append_assoc a b (replicate (n - (length a + length b)) 0))

-- a store is a patch of one
pub set-patch : (xs : List ℕ) (at v : ℕ) → set xs at v ≡ patch xs at (v ∷ [])
unfolding patch
set-patch [] at v = refl
set-patch (x ∷ []) zero v = refl
set-patch (x ∷ y ∷ xs) zero v = refl
set-patch (x ∷ xs) (suc at) v = ap (λ (l : List ℕ). x ∷ l) (set-patch xs at v)

-- what was put is there
pub part-patch : (xs : List ℕ) (at : ℕ) (ys : List ℕ) → at + length ys ≤ length xs → part at (length ys) (patch xs at ys) ≡ ys
unfolding patch
part-patch [] zero [] h = refl
part-patch [] zero (y ∷ ys) h = absurd (omega arith)
part-patch [] (suc at) ys h = absurd (omega arith)
part-patch (x ∷ xs) zero [] h = refl
part-patch (x ∷ xs) zero (y ∷ ys) h = ap (λ (l : List ℕ). y ∷ l) (part-patch xs zero ys (omega arith))
part-patch (x ∷ xs) (suc at) ys h = part-patch xs at ys (omega arith)

-- what stands before it is as it was
pub part-before : (xs : List ℕ) (at : ℕ) (ys : List ℕ) (b n : ℕ) → b + n ≤ at → part b n (patch xs at ys) ≡ part b n xs
unfolding patch
part-before [] at ys b n h = refl
part-before (x ∷ xs) zero ys b zero h = refl
part-before (x ∷ xs) zero ys b (suc n) h = absurd (omega arith)
part-before (x ∷ xs) (suc at) ys zero zero h = refl
part-before (x ∷ xs) (suc at) ys zero (suc n) h = ap (λ (l : List ℕ). x ∷ l) (part-before xs at ys zero n (omega arith))
part-before (x ∷ xs) (suc at) ys (suc b) n h = part-before xs at ys b n (omega arith)

-- what lies behind it is as it was
pub drop-after : (xs : List ℕ) (at : ℕ) (ys : List ℕ) (b : ℕ) → at + length ys ≤ b → drop b (patch xs at ys) ≡ drop b xs
unfolding patch
drop-after [] at ys b h = refl
drop-after (x ∷ xs) zero [] b h = refl
drop-after (x ∷ xs) zero (y ∷ ys) zero h = absurd (omega arith)
drop-after (x ∷ xs) zero (y ∷ ys) (suc b) h = drop-after xs zero ys b (omega arith)
drop-after (x ∷ xs) (suc at) ys zero h = absurd (omega arith)
drop-after (x ∷ xs) (suc at) ys (suc b) h = drop-after xs at ys b (omega arith)

pub part-after : (xs : List ℕ) (at : ℕ) (ys : List ℕ) (b n : ℕ) → at + length ys ≤ b → part b n (patch xs at ys) ≡ part b n xs
part-after xs at ys b n h = ap (take n) (drop-after xs at ys b h)

-- one octet before it, behind it, and inside it
pub octet-before : (xs : List ℕ) (at : ℕ) (ys : List ℕ) (i : ℕ) → i < at → get_or (patch xs at ys) i 0 ≡ get_or xs i 0
unfolding patch
octet-before [] at ys i h = refl
octet-before (x ∷ xs) zero ys i h = absurd (omega arith)
octet-before (x ∷ xs) (suc at) ys zero h = refl
octet-before (x ∷ xs) (suc at) ys (suc i) h = octet-before xs at ys i (omega arith)

pub octet-inside : (xs : List ℕ) (at : ℕ) (ys : List ℕ) (i : ℕ) → i < length ys → at + i < length xs → get_or (patch xs at ys) (at + i) 0 ≡ get_or ys i 0
unfolding patch
octet-inside [] at ys i h k = absurd (omega arith)
octet-inside (x ∷ xs) zero [] i h k = absurd (omega arith)
octet-inside (x ∷ xs) zero (y ∷ ys) zero h k = refl
octet-inside (x ∷ xs) zero (y ∷ ys) (suc i) h k =
    rw (zero-add (suc i)) (rw (zero-add i) at (octet-inside xs zero ys i (omega arith) (omega arith)))
octet-inside (x ∷ xs) (suc at) ys i h k = rw (suc-add at i) (octet-inside xs at ys i h (omega arith))

-- from n on, a patch behind n is a patch of what lies there
pub drop-patch : (xs : List ℕ) (n at : ℕ) (ys : List ℕ) → drop n (patch xs (n + at) ys) ≡ patch (drop n xs) at ys
unfolding patch
drop-patch xs zero at ys = rw (zero-add at)
drop-patch [] (suc n) at ys = refl
drop-patch (x ∷ xs) (suc n) at ys = rw (suc-add n at) (drop-patch xs n at ys)

-- a part put back as it was changes nothing
pub patch-none : (xs : List ℕ) (at n : ℕ) → patch xs at (part at n xs) ≡ xs
unfolding patch
patch-none [] at n = refl
patch-none (x ∷ xs) zero zero = refl
patch-none (x ∷ xs) zero (suc n) = ap (λ (l : List ℕ). x ∷ l) (patch-none xs zero n)
patch-none (x ∷ xs) (suc at) n = ap (λ (l : List ℕ). x ∷ l) (patch-none xs at n)

-- a patch of a part, put back, is a patch of the whole
pub patch-part : (xs : List ℕ) (at n k : ℕ) (ys : List ℕ) → k + length ys ≤ n → patch xs at (patch (part at n xs) k ys) ≡ patch xs (at + k) ys
unfolding patch
patch-part [] at n k ys h = refl
patch-part (x ∷ xs) zero zero zero [] h = refl
patch-part (x ∷ xs) zero zero zero (y ∷ ys) h = absurd (omega arith)
patch-part (x ∷ xs) zero zero (suc k) ys h = absurd (omega arith)
patch-part (x ∷ xs) zero (suc n) zero [] h = ap (λ (l : List ℕ). x ∷ l) (patch-none xs zero n)
patch-part (x ∷ xs) zero (suc n) zero (y ∷ ys) h = ap (λ (l : List ℕ). y ∷ l) (patch-part xs zero n zero ys (omega arith))
patch-part (x ∷ xs) zero (suc n) (suc k) ys h =
    rw (zero-add (suc k)) (ap (λ (l : List ℕ). x ∷ l) (rw (zero-add k) at (patch-part xs zero n k ys (omega arith))))
patch-part (x ∷ xs) (suc at) n k ys h = rw (suc-add at k) (ap (λ (l : List ℕ). x ∷ l) (patch-part xs at n k ys h))

-- a part `&mut s[at..at + n]` that was lent and has come back as ys, as the borrow checker has the whole then
pub part-back : (xs : List ℕ) (at n : ℕ) (ys : List ℕ) → length ys ≡ n → at + n ≤ length xs → take at xs ++ (ys ++ drop (at + n - at) (drop at xs)) ≡ patch xs at ys
part-back xs at n ys e h =
    let h' : at + length ys ≤ length xs = omega arith in
    rw (add-sub_cancel_left at n, drop-drop n at xs, ← e, patch-is xs at ys h', append_assoc (take at xs) ys (drop (at + length ys) xs))

-- ---- what a copying loop has done after i turns

pub put-none : (target : List ℕ) (at : ℕ) (source : List ℕ) → target ≡ paste target at source 0
put-none target at source = paste-zero target at source

pub put-more : (target : List ℕ) (at : ℕ) (source : List ℕ) (i : ℕ) → at + length source ≤ length target → i < length source
    → set (paste target at source i) (at + i) (get_or source i 0) ≡ paste target at source (i + 1)
put-more target at source i h k = rw (add-one i) (paste-suc target at source i 0 (omega arith) k)

pub put_all : (target : List ℕ) (at : ℕ) (source : List ℕ) (i : ℕ) → at + length source ≤ length target → i ≤ length source → length source ≤ i
    → paste target at source i ≡ patch target at source
put_all target at source i p h k =
    let e : i ≡ length source = omega arith in
    rw (e, take-length source, patch-is target at source p)
