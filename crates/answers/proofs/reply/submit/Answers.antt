-- `answers::reply::submit` meets its contract. Assumes nothing.
use mathlib.Core.Path.{refl}
use native.Mathlib.Omega.{arith}
use Rattle.answers.specs.Reply.{submit_response, submit_body}
use Rattle.answers.proofs.ReplyLaws.{replied, id_text-within}
use Rattle.answers.proofs.reply.submit.Goals as goal

pub overflow_cast-size : goal.overflow_cast-size
overflow_cast-size c = omega (arith, c.put_id-n.ensures.0, id_text-within c.args.id)

pub overflow_add-size : goal.overflow_add-size
overflow_add-size c = omega (arith, c.put_id-n.ensures.0, id_text-within c.args.id)

pub overflow_add-result : goal.overflow_add-result
overflow_add-result c = omega (arith, c.put_id-n.ensures.0, id_text-within c.args.id)

pub returns : goal.returns
returns c = rw (c.put_header.ensures, c.put_id-n.ensures.1, c.put_id-n.ensures.0) (replied _ submit_response c.args.status c.args.sequence (submit_body c.args.id) c.args.space.now refl (omega (arith, id_text-within c.args.id)))
