-- `answers::reply::put_id` meets its contract. Assumes nothing.
use mathlib.Core.Path.{refl, ◌∙◌}
use mathlib.Core.List.{◌∷◌, []}
use Rattle.octets.specs.Number.{hex8}
use Rattle.octets.proofs.PatchLaws.{patch-next}
use Rattle.answers.specs.Reply.{id_text}
use Rattle.answers.proofs.reply.put_id.Goals as goal

pub returns-in-None : goal.returns-in-None
unfolding id_text
returns-in-None c = rw c.in-None.is (refl, c.put.ensures)

pub returns-in-Some : goal.returns-in-Some
unfolding id_text hex8
returns-in-Some c = rw c.in-Some.is (refl, rw c.put_hex.ensures at c.put-in-Some.ensures ∙ patch-next c.args.space.now c.args.at (hex8 c.in-Some.n) (0 ∷ []))
