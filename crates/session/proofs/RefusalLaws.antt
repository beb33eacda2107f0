-- A refusal is told by its number, and none has 0: what a call comes to is told by its number where it has no value. Assumes nothing.
use mathlib.Core.Path.{◌≡◌, refl, sym, ap, ◌∙◌}
use mathlib.Core.List.{List, [], ◌∷◌}
use Prim.Native.Nat.{ℕ}
use lib.ListN.{get_or}
use native.Mathlib.Omega.{arith}
use Rattle.std.specs.Prelude.{Result, Ok, Err}
use Rattle.session.specs.Refusal.{number_of, outcome_number}
use Rattle.session.specs.declared.refusal.Refusal.{Refusal}
use Rattle.session.specs.declared.refusal.Refusal.TheVariants.{MoreNeeded, NoSession, WrongSize, SpaceTooShort, StampIllFormed, UnfitSession, NoAccount, NoOutcome, AccountIllFormed, NotWaiting, NothingWaiting, NoReceiver, NothingOwed}

-- number 0 stands for none
abbrev refusals : List Refusal
refusals =
    MoreNeeded ∷ MoreNeeded ∷ NoSession ∷ WrongSize ∷ SpaceTooShort ∷ StampIllFormed ∷ UnfitSession ∷ NoAccount ∷ NoOutcome ∷ AccountIllFormed ∷ NotWaiting
    ∷ NothingWaiting ∷ NoReceiver ∷ NothingOwed ∷ []

abbrev refusal_of : ℕ → Refusal
refusal_of n = get_or refusals n MoreNeeded

told : (r : Refusal) → refusal_of (number_of r) ≡ r
told MoreNeeded = refl
told NoSession = refl
told WrongSize = refl
told SpaceTooShort = refl
told StampIllFormed = refl
told UnfitSession = refl
told NoAccount = refl
told NoOutcome = refl
told AccountIllFormed = refl
told NotWaiting = refl
told NothingWaiting = refl
told NoReceiver = refl
told NothingOwed = refl

pub one-number : (r r' : Refusal) → number_of r ≡ number_of r' → r ≡ r'
one-number r r' e = sym (told r) ∙ (ap refusal_of e ∙ told r')

pub number-not-0 : (r : Refusal) → 0 ≡ number_of r → ⊥
number-not-0 MoreNeeded e = absurd (omega (arith, e))
number-not-0 NoSession e = absurd (omega (arith, e))
number-not-0 WrongSize e = absurd (omega (arith, e))
number-not-0 SpaceTooShort e = absurd (omega (arith, e))
number-not-0 StampIllFormed e = absurd (omega (arith, e))
number-not-0 UnfitSession e = absurd (omega (arith, e))
number-not-0 NoAccount e = absurd (omega (arith, e))
number-not-0 NoOutcome e = absurd (omega (arith, e))
number-not-0 AccountIllFormed e = absurd (omega (arith, e))
number-not-0 NotWaiting e = absurd (omega (arith, e))
number-not-0 NothingWaiting e = absurd (omega (arith, e))
number-not-0 NoReceiver e = absurd (omega (arith, e))
number-not-0 NothingOwed e = absurd (omega (arith, e))

pub one-outcome : (o o' : Result Unit Refusal) → outcome_number o ≡ outcome_number o' → o ≡ o'
one-outcome (Ok x) (Ok y) e = refl
one-outcome (Ok x) (Err r) e = absurd (number-not-0 r e)
one-outcome (Err r) (Ok x) e = absurd (number-not-0 r (sym e))
one-outcome (Err r) (Err r') e = ap (λ (q : Refusal). Err q) (one-number r r' e)
