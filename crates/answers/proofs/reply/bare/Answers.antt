-- `answers::reply::bare` meets its contract. Assumes nothing.
use native.Mathlib.Omega.{arith}
use Rattle.answers.proofs.ReplyLaws.{replied-bare}
use Rattle.answers.proofs.reply.bare.Goals as goal

pub returns : goal.returns
returns c = rw c.put_header.ensures (replied-bare c.args.id c.args.status c.args.sequence c.args.space.now (omega arith))
