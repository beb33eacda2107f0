-- What is asked of one account (document 01, "Numbers a caller gets"), given its book record, its last id and its part: an outcome and a pick.
use Rattle.std.specs.Prelude.{ℕ, Bool, not, ◌||◌, List, eqb}
use Rattle.octets.specs.Choice.{when◌then◌else◌}
use Rattle.store.specs.Places.{record_at, on_found}
use Rattle.store.specs.Search.{next_place}
use Rattle.store.specs.Account.{account_ok}
use Rattle.account.specs.Outcome.{reported}
use Rattle.isolation.specs.Platform.{Own, owning, Effect}
use Rattle.answers.specs.Answer.{Outcome, Question, outcome, pick, Answer, numbered, picked}
use Rattle.bound.specs.Bound.{keeping}

-- ---- an outcome: 8, 9, 10

abbrev pub outcome_ok : ℕ → Bool
outcome_ok state = eqb state 2 || eqb state 3 || eqb state 5

-- a number, and the part afterwards
pub record Noted : Type 0 where
  pub number : ℕ
  pub part : List ℕ

abbrev pub noting : ℕ → List ℕ → Noted
noting number part = record { number = number; part = part }

unfoldable pub noted : List ℕ → Outcome → ℕ → List ℕ → Noted
noted book x last part =
    when not (outcome_ok x.state) then noting 8 part
    else when not (account_ok book last part) then noting 9 part
    else let c = reported x.stamp x.id x.state x.error part in
    noting (when c.waited then 0 else 10) c.part

-- ---- a pick: 9, 11

unfoldable pub picked_from : List ℕ → ℕ → List ℕ → Answer
picked_from book last part =
    when not (account_ok book last part) then numbered 9
    else on_found (next_place part) (λ k. picked k (record_at k part)) (numbered 11)

-- ---- either: of what is the account's own a part may change, and nothing else

abbrev pub on_question : List ℕ → Question → Own → Effect Own Answer
on_question book (outcome x) own =
    let n = noted book x own.last own.part in
    keeping (numbered n.number) (owning n.part own.last own.receipts)
on_question book pick own = keeping (picked_from book own.last own.part) own
