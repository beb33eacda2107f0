-- Equivalences: what a function makes equal, two at once, and what is compared with one of two that are alike. Assumes nothing.
use mathlib.Core.Path.{◌≡◌, sym, subst, ◌∙◌}
use mathlib.Core.Bool.{Bool, true, ◌&&◌}
use mathlib.Core.List.{List}
use Prim.Native.Nat.{ℕ}
use Rattle.octets.specs.Stretch.{same}
use Rattle.octets.specs.Equivalence.{Equivalence}
use Rattle.octets.proofs.StretchLaws.{and_left, and_right, and_both, both_ways, same-equal, same_refl, same-sym}

pub by_value : (f : List ℕ → List ℕ) → Equivalence (λ a b. same (f a) (f b))
by_value f =
    record {
      reflexive = λ a. same_refl (f a);
      symmetric = λ a b. same-sym (f a) (f b);
      transitive = λ a b c p q. subst (λ (l : List ℕ). same (f a) l ≡ true) (same-equal (f b) (f c) q) p;
    }

pub by_both : (p q : List ℕ → List ℕ → Bool) → Equivalence p → Equivalence q → Equivalence (λ a b. p a b && q a b)
by_both p q x y =
    record {
      reflexive = λ a. and_both (p a a) (q a a) (x.reflexive a) (y.reflexive a);
      symmetric = λ a b. rw (x.symmetric a b, y.symmetric a b);
      transitive = λ a b c h k.
          and_both (p a c) (q a c)
          (x.transitive a b c (and_left (p a b) (q a b) h) (and_left (p b c) (q b c) k))
          (y.transitive a b c (and_right (p a b) (q a b) h) (and_right (p b c) (q b c) k));
    }

-- to be compared with one is to be compared with the other
pub with-alike : (alike : List ℕ → List ℕ → Bool) → Equivalence alike → (a b : List ℕ) → alike a b ≡ true → (r : List ℕ) → alike r a ≡ alike r b
with-alike alike e a b h r =
    both_ways (alike r a) (alike r b)
    (λ p. e.transitive r a b p h)
    (λ p. e.transitive r b a p (sym (e.symmetric a b) ∙ h))
