-- Laws of lent parts: what a part holds and where it lies, that it is the only one of its contract, that it lies inside what was lent, and
-- a part of a part. Assumes nothing.
use mathlib.Core.Path.{◌≡◌, sym, ap, ◌∙◌}
use mathlib.Core.List.{List}
use Prim.Native.Nat.{ℕ, ◌+◌, ◌-◌, ◌≤◌, min}
use native.Mathlib.Omega.{arith}
use lib.ListN.{length, take, drop, length-take, length-drop}
use denote.Ref.{Bor}
use Rattle.octets.specs.Lent.{Lent, lent, lent_part}
use Rattle.octets.proofs.StretchLaws.{part_cut, part-part}

pub held : {s t : Lent} → s ≡ t → s.octets ≡ t.octets
held e = ap (λ (x : Lent). x.octets) e

pub lies : {s t : Lent} → s ≡ t → s.place ≡ t.place
lies e = ap (λ (x : Lent). x.place) e

-- two slices that one contract allows start at one place and hold the same octets
pub one-part : (r q : Bor (List ℕ)) (s : Lent) → lent r ≡ s → lent q ≡ s → (r.ref_ptr ≡ q.ref_ptr) × (r.now ≡ q.now)
one-part r q s e f = (lies (e ∙ sym f), held (e ∙ sym f))

-- a slice that starts `by` octets into another one's block
abbrev moved : ℕ → List ℕ → Lent → Lent
moved by xs s = record { place = (s.place.0, by + s.place.1); octets = xs }

moved-is : (s : Lent) {n m : ℕ} {xs ys : List ℕ} → n ≡ m → xs ≡ ys → moved n xs s ≡ moved m ys s
moved-is s e f = rw (e, f)

-- ---- `&s[at..at + n]` as the borrow checker has it

pub lent_cut : (s : Lent) (at n : ℕ) → at ≤ length s.octets → moved at (take (at + n - at) (drop at s.octets)) s ≡ lent_part at n s
lent_cut s at n h = moved-is s (omega arith) (part_cut at n s.octets)

-- ---- a part of a part is a part, and a part lies inside what was lent

pub lent-part-part : (s : Lent) (a m b n : ℕ) → b + n ≤ m → lent_part b n (lent_part a m s) ≡ lent_part (a + b) n s
lent-part-part s a m b n h =
    let xs = s.octets in
    let l = length-take m (drop a xs) in
    let k = length-drop a xs in
    let e : min b (length (take m (drop a xs))) + (min a (length xs) + s.place.1) ≡ min (a + b) (length xs) + s.place.1 = omega arith in
    rw (e, part-part xs a m b n h)

pub lent-inside : (s : Lent) (at n : ℕ)
    → (s.place.1 ≤ (lent_part at n s).place.1) × ((lent_part at n s).place.1 + length (lent_part at n s).octets ≤ s.place.1 + length s.octets)
lent-inside s at n =
    let l = length-take n (drop at s.octets) in
    let k = length-drop at s.octets in
    (omega arith, omega arith)
