-- `smsc33::turn::told` meets its contract. Assumes nothing.
use Prim.Native.Nat.{◌≤◌}
use native.Mathlib.Omega.{arith}
use lib.ListN.{length}
use Rattle.lines.proofs.TextLaws.{told_is, told-fits}
use Rattle.lines.specs.Line.{line}
use Rattle.smsc33.proofs.turn.told.Goals as goal

pub returns : goal.returns
returns c =
    let t = c.args.text.now in
    let l = line c.args.number c.args.consumed c.args.reply.now in
    let put = c.put_line-length.ensures in
    let fits : c.put_line-length.result ≤ length t = omega (arith, put.2, c.requires.1) in
    let e = told_is t l put.0 put.1 fits in
    (λ table. rw e, told-fits t l put.0 put.1 fits)
