-- `receipts::deliver_sm::write` meets its contract. Assumes nothing.
use native.Mathlib.Omega.{arith}
use Rattle.answers.proofs.ReplyLaws.{replied}
use Rattle.receipts.specs.DeliverSm.{deliver_id, deliver_body}
use Rattle.receipts.proofs.DeliverLaws.{destination-within, source-within, body-length, body-pieces}
use borrow.Author.Rules.{rules}
use Rattle.receipts.proofs.deliver_sm.write.Goals as goal

pub put_address-behind_destination-requires : goal.put_address-behind_destination-requires
put_address-behind_destination-requires c = (search rules, omega (arith, c.put_address-behind_source.ensures.0, destination-within c.args.r.now))

pub put_text-requires : goal.put_text-requires
put_text-requires c = (omega (arith, c.put_address-behind_source.ensures.0, c.put_address-behind_destination.ensures.0, destination-within c.args.r.now, source-within c.args.r.now), c.requires.0.1)

pub overflow_add-written : goal.overflow_add-written
overflow_add-written c = omega (arith, c.put_address-behind_source.ensures.0, c.put_address-behind_destination.ensures.0, destination-within c.args.r.now, source-within c.args.r.now)

pub overflow_cast-written : goal.overflow_cast-written
overflow_cast-written c = omega (arith, c.put_address-behind_source.ensures.0, c.put_address-behind_destination.ensures.0, destination-within c.args.r.now, source-within c.args.r.now)

pub returns : goal.returns
returns c = let r = c.args.r.now in
    let first = c.put_address-behind_source.ensures.0 in
    let second = c.put_address-behind_destination.ensures.0 in
    let size = body-length r in
    let d = destination-within r in
    let s = source-within r in
    rw (c.put_header.ensures, c.put_text.ensures, c.number_at-id.ensures, c.put_address-behind_destination.ensures.1, c.put_address-behind_source.ensures.1, c.put.ensures, body-pieces r c.args.space.now c.put_address-behind_source.result c.put_address-behind_destination.result first second)
    (replied _ deliver_id 0 c.args.sequence (deliver_body r) c.args.space.now (omega arith) (omega arith))
