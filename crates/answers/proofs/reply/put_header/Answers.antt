-- `answers::reply::put_header` meets its contract. Assumes nothing.
use mathlib.Core.Path.{◌∙◌}
use Rattle.answers.proofs.ReplyLaws.{header-pieces}
use Rattle.answers.proofs.reply.put_header.Goals as goal

pub returns : goal.returns
returns c = (cc) ∙ header-pieces c.args.space.now c.args.size c.args.id c.args.status c.args.sequence
