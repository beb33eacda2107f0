-- `receipts::deliver_sm::put_address` meets its contract. Assumes nothing.
use mathlib.Core.Path.{ap, ◌∙◌}
use native.Mathlib.Omega.{arith}
use Rattle.octets.proofs.LentLaws.{held}
use Rattle.forms.specs.Field.{text_of}
use Rattle.receipts.proofs.DeliverLaws.{front-size, text-size, sent-size, sent_pieces}
use Rattle.receipts.proofs.deliver_sm.put_address.Goals as goal

pub put-requires : goal.put-requires
put-requires c = omega (arith, front-size c.args.address.now c.first.result.now c.text_of-text.result.now c.requires.0 (held c.first.ensures) (held c.text_of-text.ensures ∙ ap text_of (held c.from.ensures)))

pub put-requires-2 : goal.put-requires-2
put-requires-2 c = omega (arith, text-size c.args.address.now c.first.result.now c.text_of-text.result.now c.requires.0 (held c.first.ensures) (held c.text_of-text.ensures ∙ ap text_of (held c.from.ensures)))

pub put-requires-3 : goal.put-requires-3
put-requires-3 c = omega (arith, text-size c.args.address.now c.first.result.now c.text_of-text.result.now c.requires.0 (held c.first.ensures) (held c.text_of-text.ensures ∙ ap text_of (held c.from.ensures)))

pub returns : goal.returns
returns c = let f = held c.first.ensures in
    let t = held c.text_of-text.ensures ∙ ap text_of (held c.from.ensures) in
    (sent-size c.args.address.now c.first.result.now c.text_of-text.result.now c.requires.0 f t c.args.at, rw (c.put-3.ensures, c.put-2.ensures, c.put.ensures) (sent_pieces c.args.address.now c.first.result.now c.text_of-text.result.now c.requires.0 f t c.args.space.now c.args.at))
