-- `account::cancel::delete_if` meets its contract. Assumes nothing.
use mathlib.Core.Path.{sym, ◌∙◌}
use Prim.Native.Nat.{◌*◌}
use Rattle.octets.specs.Choice.{when◌then◌else◌}
use Rattle.octets.proofs.PatchLaws.{patch-none}
use Rattle.account.specs.Cancel.{deleted_if}
use Rattle.account.proofs.cancel.delete_if.Goals as goal

pub returns-then-is_pair_at : goal.returns-then-is_pair_at
unfolding deleted_if when◌then◌else◌
returns-then-is_pair_at c = rw (sym c.is_pair_at.ensures ∙ c.if-is_pair_at.true) c.finish.ensures

pub returns-else-is_pair_at : goal.returns-else-is_pair_at
unfolding deleted_if when◌then◌else◌
returns-else-is_pair_at c = rw (sym c.is_pair_at.ensures ∙ c.if-is_pair_at.false) (sym (patch-none c.args.part.now (256 * c.args.k) 256))
