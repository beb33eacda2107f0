-- The turns of a bound session, by cases: what holds of each turn that leaves the account as it was, and of each that changes it, holds of every
-- request's. Assumes nothing.
use mathlib.Core.Bool.{Bool}
use mathlib.Core.List.{List}
use Prim.Native.Nat.{ℕ}
use native.Mathlib.Omega.{arith}
use Rattle.octets.proofs.StretchLaws.{if-cases}
use Rattle.answers.specs.Reply.{submit_body, no_query}
use Rattle.store.specs.Places.{record_at}
use Rattle.submit.specs.Submit.{submitted}
use Rattle.account.specs.Query.{queried}
use Rattle.account.specs.Cancel.{cancelled}
use Rattle.account.specs.Replace.{replaced}
use Rattle.bound.specs.Bound.{Stored, storing, Turn, turning, found_body, submit_turn, query_turn, changing, cancel_turn, replace_turn, unbind_turn}
use Rattle.wellformed.proofs.Cases.{found-cases}
use Rattle.properties.proofs.Bodies.{Brief, id-brief, found-brief, none-brief}

module _ (book stamp : List ℕ) (before : Stored) where
  pub record Turns (Q : Turn → Type 0) : Type 0 where
    pub same : (status : ℕ) (body : List ℕ) (ends : Bool) → Brief body → Q (record { status = status; body = body; stored = before; ends = ends })
    pub submits : (body : List ℕ)
        → (let s = submitted book body before.part before.last in Q (turning s.status (submit_body s.id) (storing s.part s.last)))
    pub cancels : (body : List ℕ) → Q (changing (cancelled book stamp body before.part) before)
    pub replaces : (body : List ℕ) → Q (changing (replaced book body before.part) before)

  -- where nothing need be said of them
  pub any-turn : Turns (λ (t : Turn). Unit)
  any-turn = record { same = λ _ _ _ _. tt; submits = λ _. tt; cancels = λ _. tt; replaces = λ _. tt }

  module _ (Q : Turn → Type 0) (turns : Turns Q) (transmitter : Bool) (body : List ℕ) where
    pub query-cases : Q (query_turn transmitter book body before)
    unfolding query_turn
    query-cases =
        let q = queried book body before.part in
        if-cases Q _ _ _
        (λ _. found-cases Q q.place (λ k. turning q.status (found_body (record_at k before.part)) before) (turning q.status no_query before)
        (λ k _. turns.same _ _ _ (found-brief (record_at k before.part))) (λ _. turns.same _ _ _ none-brief))
        (λ _. turns.same _ _ _ none-brief)

    pub submit-cases : Q (submit_turn transmitter book body before)
    unfolding submit_turn
    submit-cases = if-cases Q _ _ _ (λ _. turns.submits body) (λ _. turns.same _ _ _ (id-brief _))

    pub cancel-cases : Q (cancel_turn transmitter book stamp body before)
    unfolding cancel_turn
    cancel-cases = if-cases Q _ _ _ (λ _. turns.cancels body) (λ _. turns.same _ _ _ (omega arith))

    pub replace-cases : Q (replace_turn transmitter book body before)
    unfolding replace_turn
    replace-cases = if-cases Q _ _ _ (λ _. turns.replaces body) (λ _. turns.same _ _ _ (omega arith))

    pub unbind-cases : Q (unbind_turn body before)
    unfolding unbind_turn
    unbind-cases = turns.same _ _ _ (omega arith)
