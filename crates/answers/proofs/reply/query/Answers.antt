-- `answers::reply::query` meets its contract. Assumes nothing.
use mathlib.Core.List.{◌∷◌, []}
use native.Mathlib.Omega.{arith}
use Rattle.answers.specs.Reply.{query_response, query_body, id_text}
use Rattle.answers.proofs.ReplyLaws.{replied, id_text-within, query_body-length, three-pieces}
use Rattle.answers.proofs.reply.query.Goals as goal

pub overflow_add-behind_id : goal.overflow_add-behind_id
overflow_add-behind_id c = omega (arith, c.put_id-n.ensures.0, id_text-within c.args.id)

pub put-requires : goal.put-requires
put-requires c = omega (arith, c.put_id-n.ensures.0, id_text-within c.args.id)

pub overflow_add-behind_date : goal.overflow_add-behind_date
overflow_add-behind_date c = omega (arith, c.put_id-n.ensures.0, id_text-within c.args.id)

pub put-requires-2 : goal.put-requires-2
put-requires-2 c = omega (arith, c.put_id-n.ensures.0, id_text-within c.args.id)

pub overflow_add-written : goal.overflow_add-written
overflow_add-written c = omega (arith, c.put_id-n.ensures.0, id_text-within c.args.id)

pub overflow_cast-written : goal.overflow_cast-written
overflow_cast-written c = omega (arith, c.put_id-n.ensures.0, id_text-within c.args.id)

pub returns : goal.returns
unfolding query_body
returns c = rw (c.put_header.ensures, c.put-2.ensures, c.put.ensures, c.put_id-n.ensures.1, c.put_id-n.ensures.0, three-pieces c.args.space.now 16 (id_text c.args.id) c.args.date.now (0 ∷ c.args.state ∷ c.args.error ∷ [])) (replied _ query_response c.args.status c.args.sequence (query_body c.args.id c.args.date.now c.args.state c.args.error) c.args.space.now (omega (arith, query_body-length c.args.id c.args.date.now c.args.state c.args.error)) (omega (arith, query_body-length c.args.id c.args.date.now c.args.state c.args.error, id_text-within c.args.id)))
