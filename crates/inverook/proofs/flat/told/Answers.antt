-- `inverook::flat::told` meets its contract. Assumes nothing.
use mathlib.Core.Path.{◌≡◌, refl}
use Prim.Native.Nat.{ℕ}
use Rattle.std.specs.Prelude.{Option, None}
use Rattle.octets.specs.Choice.{when◌then◌else◌}
use Rattle.session.specs.State.{is_receiver}
use Rattle.session.specs.declared.Entry.{Entry}
use Rattle.session.specs.declared.Entry.TheVariants.{Closed, Open, Transmitter, Receiver, Ended}
use Rattle.session.specs.declared.Receipt.{Receipt}
use Rattle.inverook.specs.Flat.{told}
use Rattle.inverook.proofs.flat.told.Goals as goal

nothing : (e : Entry) (r : Option Receipt) → ((a : ℕ) → e ≡ Receiver a → ⊥) → None ≡ (when is_receiver e then r else None)
unfolding when◌then◌else◌
nothing Closed r other = refl
nothing Open r other = refl
nothing (Transmitter a) r other = refl
nothing (Receiver a) r other = absurd (other a refl)
nothing Ended r other = refl

pub returns-in-Receiver : goal.returns-in-Receiver
unfolding told when◌then◌else◌
returns-in-Receiver c = rw c.in-Receiver.is

pub returns-in_default : goal.returns-in_default
unfolding told when◌then◌else◌
returns-in_default c = nothing c.args.x.entry c.args.x.receipt c.in_default.not-Receiver
