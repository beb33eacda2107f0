-- `lines::text::put_line` meets its contract. Assumes nothing.
use mathlib.Core.Path.{◌≡◌, refl}
use Rattle.lines.specs.Line.{line}
use Rattle.lines.proofs.text.put_line.Goals as goal

pub returns : goal.returns
unfolding line
returns c =
    let e : c.as_slice-said.result.now ≡ line c.args.number c.args.consumed c.args.reply.now =
    rw (c.as_slice-said.ensures.0, c.text.ensures, c.reply.ensures.0, c.count-2.ensures.0, c.count.ensures.0, c.new-line.ensures, c.from.ensures) refl in
    (rw (c.put.ensures, e) refl, rw e refl, rw (c.as_slice-said.ensures.0) c.as_slice-said.ensures.1)
