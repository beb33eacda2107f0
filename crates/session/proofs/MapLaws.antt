-- An array's `map`, and `array::from_fn`, with a closure that changes nothing it captured, and whose answer at x is h x: the list's `map h`, of the
-- array's elements or of the numbers below its length. Assumes nothing.
use mathlib.Core.Path.{◌≡◌, refl, sym, ap, subst, ◌∙◌}
use mathlib.Core.List.{List, map}
use Prim.Native.Nat.{ℕ, zero, suc, ◌+◌, ◌<◌}
use native.Mathlib.Omega.{arith}
use native.Mathlib.Numerals.{unary_clauses}
use lib.ListN.{length, get_or}
use lib.Seq.{ext_get_or}
use Rattle.std.proofs.Common.{zero-add}
use Rattle.std.specs.Fn.{Mut, Called}
use Rattle.std.specs.Array.{IsMapOf, MapsFrom, IsFromFnResult, IsFromFnResultFrom}
use Rattle.std.specs.List.{range_with_len}
use Rattle.std.proofs.lemmas.List.FromFn.{length-map-range_with_len, get_or-map-range_with_len}
use Rattle.std.proofs.lemmas.List.{length-map, get_or-map}

module _ {F A B : Type 0} (g : Mut F (A × Unit {0}) B) (f : F) (h : A → B) (call : (x : A) (y : B) (q : F) → Called g f (x, tt) y q → (y ≡ h x) × (q ≡ f)) where
  each : (xs : List A) (ys : List B) (d : A) (e : B) (i n : ℕ) (p : F) → p ≡ f → MapsFrom g p xs ys i n → (j : ℕ) → j < n → get_or ys (i + j) e ≡ h (get_or xs (i + j) d)
  each xs ys d e i zero p s m j l = absurd (omega arith)
  each xs ys d e i (suc n) p s m zero l =
      let one = call m.1 m.2 m.0 (subst (λ (q : F). Called g q (m.1, tt) m.2 m.0) s m.5) in
      simp unary_clauses (m.4.1 e ∙ one.0 ∙ ap h (sym (m.3.1 d)))
  each xs ys d e i (suc n) p s m (suc j) l =
      let one = call m.1 m.2 m.0 (subst (λ (q : F). Called g q (m.1, tt) m.2 m.0) s m.5) in
      subst (λ (k : ℕ). get_or ys k e ≡ h (get_or xs k d)) (omega arith) (each xs ys d e (i + 1) n m.0 one.1 m.6 j (omega arith))

  pub mapped : (xs : List A) (ys : List B) (n : ℕ) → length xs ≡ n → A → B → IsMapOf g f xs ys n → ys ≡ map h xs
  mapped xs ys n size d e m =
      ext_get_or e ys (map h xs) (m.long ∙ sym (length-map xs h ∙ size))
      (λ i l. subst (λ (k : ℕ). get_or ys k e ≡ h (get_or xs k d)) (zero-add i) (each xs ys d e 0 n f refl m.each i (omega (arith, m.long))) ∙ sym (get_or-map h xs i d e (omega (arith, m.long))))

module _ {F B : Type 0} (g : Mut F (ℕ × Unit {0}) B) (f : F) (h : ℕ → B) (n : ℕ) (call : (i : ℕ) (y : B) (q : F) → i < n → Called g f (i, tt) y q → (y ≡ h i) × (q ≡ f)) where
  each-index : (ys : List B) (e : B) (i m : ℕ) (p : F) → p ≡ f → i + m ≡ n → IsFromFnResultFrom g p ys i m → (j : ℕ) → j < m → get_or ys (i + j) e ≡ h (i + j)
  each-index ys e i zero p s whole r j l = absurd (omega arith)
  each-index ys e i (suc m) p s whole r zero l =
      let one = call i r.1 r.0 (omega arith) (subst (λ (q : F). Called g q (i, tt) r.1 r.0) s r.3) in
      simp unary_clauses (r.2.1 e ∙ one.0)
  each-index ys e i (suc m) p s whole r (suc j) l =
      let one = call i r.1 r.0 (omega arith) (subst (λ (q : F). Called g q (i, tt) r.1 r.0) s r.3) in
      subst (λ (k : ℕ). get_or ys k e ≡ h k) (omega arith) (each-index ys e (i + 1) m r.0 one.1 (omega arith) r.4 j (omega arith))

  pub counted : (ys : List B) → B → IsFromFnResult g f ys n → ys ≡ map h (range_with_len 0 n)
  counted ys e r =
      ext_get_or e ys (map h (range_with_len 0 n)) (r.long ∙ sym (length-map-range_with_len h 0 n))
      (λ i l. subst (λ (k : ℕ). get_or ys k e ≡ h k) (zero-add i) (each-index ys e 0 n f refl (zero-add n) r.each i (omega (arith, r.long)))
      ∙ sym (get_or-map-range_with_len h 0 n i i e (omega (arith, r.long)) (zero-add i)))
