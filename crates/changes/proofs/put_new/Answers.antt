-- `changes::put_new` meets its contract. Assumes nothing.
use mathlib.Core.Path.{refl, ap}
use mathlib.Core.List.{[], ◌∷◌}
use Prim.Native.Nat.{◌*◌}
use native.Mathlib.Omega.{arith}
use Rattle.octets.specs.Stretch.{patch}
use Rattle.changes.specs.Change.{new_record}
use Rattle.changes.proofs.ChangeLaws.{assembled}
use Rattle.changes.proofs.put_new.Goals as goal

pub returns : goal.returns
unfolding new_record
returns c = rw (c.put.ensures, c.put_message.ensures.0, c.put_terms.ensures.0, c.put_head.ensures.0) (ap (patch c.args.part.now (256 * c.args.k)) (assembled c.args.id c.args.f c.args.service.now c.args.text.now (c.args.f.esm ∷ c.args.f.protocol ∷ c.args.f.priority ∷ []) (c.args.f.registered ∷ c.args.f.coding ∷ c.args.f.default ∷ []) c.put_head.ensures.1 (omega arith) c.put_terms.ensures.1 refl (omega arith)))
