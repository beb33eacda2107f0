-- `changes::put_octet` meets its contract. Assumes nothing.
use Rattle.octets.proofs.PatchLaws.{set-patch}
use Rattle.changes.proofs.put_octet.Goals as goal

pub returns : goal.returns
returns c = set-patch c.args.r.now c.args.at c.args.x
