-- `lines::text::Line::reply` meets its contract. Assumes nothing.
use mathlib.Core.Path.{sym}
use native.Mathlib.Omega.{arith}
use lib.ListN.{length, length-append}
use borrow.Author.Tests.{eqb-false}
use Rattle.lines.specs.Line.{hex_of}
use Rattle.lines.proofs.TextLaws.{hex-length, shown-some}
use Rattle.lines.proofs.text.Line.reply.Goals as goal

pub returns-else-is_empty : goal.returns-else-is_empty
returns-else-is_empty c =
    let reply = c.args.reply.now in
    let e = shown-some reply (eqb-false (length reply) 0 (sym c.if-is_empty.ensures)) in
    (rw (e) c.hex.ensures, rw (c.hex.ensures, length-append c.args.self.now (hex_of reply), hex-length reply) (omega (arith, c.requires.0)))
