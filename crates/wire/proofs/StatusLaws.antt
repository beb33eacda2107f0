-- Of the numbers of statuses. Assumes nothing.
use mathlib.Core.Path.{◌≡◌, refl, sym, ap, ◌∙◌}
use mathlib.Core.Bool.{true, false}
use Prim.Native.Nat.{ℕ}
use lib.Dec.{eqb}
use Rattle.std.proofs.Common.{rules}
use Rattle.octets.specs.Choice.{when◌then◌else◌}
use Rattle.std.specs.Prelude.{Result, Ok, Err, is_ok}
use Rattle.wire.specs.Status.{code, outcome_status}
use Rattle.wire.specs.declared.status.Status.{Status}
use Rattle.wire.specs.declared.status.Status.TheVariants.{InvalidMessageLength, InvalidCommandLength, InvalidCommandId, InvalidBindStatus, AlreadyBound, InvalidPriority, InvalidRegistered, SystemError, InvalidParameter, InvalidSource, InvalidDestination, InvalidMessageId, InvalidPassword, CannotCancel, CannotReplace, QueueFull}

-- no refusal has status 0
pub code-not_zero : (e : Status) → eqb (code e) 0 ≡ false
code-not_zero e = search rules

-- ---- two statuses don't have one number

abbrev named : ℕ → Status
named n =
    when eqb n 1 then InvalidMessageLength
    else when eqb n 2 then InvalidCommandLength
    else when eqb n 3 then InvalidCommandId
    else when eqb n 4 then InvalidBindStatus
    else when eqb n 5 then AlreadyBound
    else when eqb n 6 then InvalidPriority
    else when eqb n 7 then InvalidRegistered
    else when eqb n 8 then SystemError
    else when eqb n 9 then InvalidParameter
    else when eqb n 10 then InvalidSource
    else when eqb n 11 then InvalidDestination
    else when eqb n 12 then InvalidMessageId
    else when eqb n 13 then InvalidPassword
    else when eqb n 17 then CannotCancel
    else when eqb n 19 then CannotReplace
    else QueueFull

named-code : (e : Status) → named (code e) ≡ e
unfolding when◌then◌else◌
named-code e = search rules

pub code-one : (d e : Status) → code d ≡ code e → d ≡ e
code-one d e h = sym (named-code d) ∙ ap named h ∙ named-code e

-- ---- what a request comes to is told by its status where it has no value

pub not-0 : {B : Type 0} (e : Status) → 0 ≡ code e → B
not-0 e h = let z : true ≡ false = ap (λ (n : ℕ). eqb n 0) h ∙ code-not_zero e in cc

pub ok-is-0 : {A : Type 0} (r : Result A Status) → is_ok r ≡ eqb (outcome_status r) 0
ok-is-0 (Ok x) = refl
ok-is-0 (Err e) = sym (code-not_zero e)

pub one-outcome : (o o' : Result Unit Status) → outcome_status o ≡ outcome_status o' → o ≡ o'
one-outcome (Ok x) (Ok y) h = refl
one-outcome (Ok x) (Err e) h = not-0 e h
one-outcome (Err e) (Ok x) h = not-0 e (sym h)
one-outcome (Err e) (Err e') h = ap (λ (q : Status). Err q) (code-one e e' h)
