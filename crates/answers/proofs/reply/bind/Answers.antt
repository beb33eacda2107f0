-- `answers::reply::bind` meets its contract. Assumes nothing.
use mathlib.Core.Path.{refl}
use native.Mathlib.Omega.{arith}
use Rattle.answers.specs.Reply.{bind_body}
use Rattle.answers.proofs.ReplyLaws.{replied}
use Rattle.answers.proofs.reply.bind.Goals as goal

pub returns : goal.returns
returns c = rw (c.put_header.ensures, c.put.ensures) (replied 23 c.args.id c.args.status c.args.sequence bind_body c.args.space.now refl (omega arith))
