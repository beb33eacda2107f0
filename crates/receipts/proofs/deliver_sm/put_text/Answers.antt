-- `receipts::deliver_sm::put_text` meets its contract. Assumes nothing.
use Rattle.receipts.proofs.DeliverLaws.{text-pieces}
use Rattle.receipts.proofs.deliver_sm.put_text.Goals as goal

pub returns : goal.returns
returns c = rw (c.put-3.ensures, c.put-2.ensures, c.put_hex.ensures, c.put.ensures) (text-pieces c.args.space.now c.args.at c.args.id c.args.state)
