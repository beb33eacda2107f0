-- A comparison of stretches of octets that makes each the same as itself, whichever stands first, and what is the same as the same.
use Rattle.std.specs.Prelude.{ℕ, ◌≡◌, Bool, true, List}

pub record Equivalence (alike : List ℕ → List ℕ → Bool) : Type 0 where
  pub reflexive : (a : List ℕ) → alike a a ≡ true
  pub symmetric : (a b : List ℕ) → alike a b ≡ alike b a
  pub transitive : (a b c : List ℕ) → alike a b ≡ true → alike b c ≡ true → alike a c ≡ true
