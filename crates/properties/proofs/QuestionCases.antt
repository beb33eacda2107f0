-- An outcome and a pick, by cases: what holds of each refusal, of an outcome that a waiting message gets, and of a place that is picked, holds of
-- whatever is asked. Assumes nothing.
use mathlib.Core.Path.{◌≡◌}
use mathlib.Core.Bool.{true, false, not}
use mathlib.Core.List.{List}
use Prim.Native.Nat.{ℕ, ◌<◌}
use borrow.Author.Tests.{not-true, not-false}
use Rattle.octets.proofs.StretchLaws.{if-cases}
use Rattle.records.specs.Layout.{places}
use Rattle.store.specs.Account.{account_ok}
use Rattle.store.specs.Places.{record_at}
use Rattle.store.specs.Search.{waiting, turn, next_place}
use Rattle.account.specs.Outcome.{reported}
use Rattle.answers.specs.Answer.{Outcome, Answer, numbered, picked}
use Rattle.centre.specs.Operations.{outcome_ok, Noted, noting, noted, picked_from}
use Rattle.wellformed.proofs.Cases.{found-cases}
use Rattle.wellformed.proofs.Lowest.{found-place}
use Rattle.wellformed.proofs.Refused.{reported-refused}

module _ (book : List ℕ) (last : ℕ) (part : List ℕ) where
  pub noted-cases : (x : Outcome) (P : Noted → Type 0) → P (noting 8 part) → (account_ok book last part ≡ false → P (noting 9 part)) → P (noting 10 part)
      → (outcome_ok x.state ≡ true → account_ok book last part ≡ true → P (noting 0 (reported x.stamp x.id x.state x.error part).part))
      → P (noted book x last part)
  unfolding noted
  noted-cases x P wrong ill none done =
      let ok = account_ok book last part in
      let c = reported x.stamp x.id x.state x.error part in
      if-cases P (not (outcome_ok x.state)) _ _ (λ _. wrong) λ t.
      if-cases P (not ok) _ _ (λ u. ill (not-true ok u)) λ u.
      if-cases (λ (n : ℕ). P (noting n c.part)) c.waited 0 10 (λ _. done (not-false (outcome_ok x.state) t) (not-false ok u))
      (λ waited. rw (reported-refused part x.stamp x.id x.state x.error waited) none)

  pub picked-cases : (P : Answer → Type 0) → (account_ok book last part ≡ false → P (numbered 9)) → P (numbered 11)
      → (account_ok book last part ≡ true → (k : ℕ) → k < places → P (picked k (record_at k part))) → P (picked_from book last part)
  unfolding picked_from
  picked-cases P ill none found =
      let ok = account_ok book last part in
      if-cases P (not ok) _ _ (λ u. ill (not-true ok u)) λ u.
      found-cases P (next_place part) (λ k. picked k (record_at k part)) (numbered 11)
      (λ k e. found (not-false ok u) k (found-place waiting turn part k e)) (λ _. none)
