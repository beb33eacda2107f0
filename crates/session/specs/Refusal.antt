-- The numbers a caller gets (document 01, "Numbers a caller gets"; document 02, 1): 0, or why a call is refused or has nothing to give.
use Rattle.std.specs.Prelude.{ℕ, Result, Ok, Err}
use Rattle.session.specs.declared.refusal.Refusal.{Refusal}
use Rattle.session.specs.declared.refusal.Refusal.TheVariants.{MoreNeeded, NoSession, WrongSize, SpaceTooShort, StampIllFormed, UnfitSession, NoAccount, NoOutcome, AccountIllFormed, NotWaiting, NothingWaiting, NoReceiver, NothingOwed}

abbrev pub number_of : Refusal → ℕ
number_of MoreNeeded = 1
number_of NoSession = 2
number_of WrongSize = 3
number_of SpaceTooShort = 4
number_of StampIllFormed = 5
number_of UnfitSession = 6
number_of NoAccount = 7
number_of NoOutcome = 8
number_of AccountIllFormed = 9
number_of NotWaiting = 10
number_of NothingWaiting = 11
number_of NoReceiver = 12
number_of NothingOwed = 13

-- of what a call comes to
abbrev pub outcome_number : {A : Type 0} → Result A Refusal → ℕ
outcome_number (Ok x) = 0
outcome_number (Err refusal) = number_of refusal
