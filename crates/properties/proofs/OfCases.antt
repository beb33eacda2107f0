-- Anything asked of an account, by cases: what holds of each refusal, and of what the account gives, once it is put into the world, holds of the
-- step. Assumes nothing.
use mathlib.Core.Path.{◌≡◌, refl}
use mathlib.Core.List.{List}
use Prim.Native.Nat.{ℕ, ◌<◌}
use native.Mathlib.Omega.{arith}
use lib.Dec.{ltb, eqb}
use lib.ListN.{length}
use borrow.Author.Tests.{ltb-true, eqb-true, eqb-false}
use Rattle.octets.proofs.StretchLaws.{if-cases}
use Rattle.session.specs.State.{account_count}
use Rattle.isolation.specs.Platform.{World, of, of_account, Ran, unchanged, ask, put, step}
use Rattle.answers.specs.Answer.{Question, Answer, numbered}
use Rattle.centre.specs.Centre.{centre, early_question}

module _ (book : List ℕ) (w : World) (a : ℕ) (q : Question) where
  -- why the account isn't asked: what the arguments give, 7
  pub data RefusedOf : ℕ → Type 0 where
    unready : {n : ℕ} → (n ≡ 0 → ⊥) → early_question book (length w.table) q ≡ n → RefusedOf n
    beyond : RefusedOf 7

  pub of-refusal : (n : ℕ) → RefusedOf n → n ≡ 0 → ⊥
  of-refusal n (unready ne e) z = ne z
  of-refusal n beyond z = omega arith

  module _ (P : Ran Answer → Type 0) where
    pub of-cases : ((n : ℕ) → RefusedOf n → P (unchanged centre w (numbered n)))
        → (early_question book (length w.table) q ≡ 0 → a < account_count → P (put centre w a (ask centre book w a (of_account q))))
        → P (step centre book w (of a q))
    unfolding step
    of-cases refused asked =
        let n = early_question book (length w.table) q in
        if-cases P (eqb n 0) _ _
        (λ u. if-cases P (ltb a account_count) _ _ (λ t. asked (eqb-true n 0 u) (ltb-true a account_count t)) (λ _. refused 7 beyond))
        (λ u. refused n (unready (eqb-false n 0 u) refl))
