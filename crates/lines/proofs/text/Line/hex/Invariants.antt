-- `lines::text::Line::hex` meets its contract. Assumes nothing.
use mathlib.Core.Path.{◌≡◌}
use mathlib.Core.List.{◌++◌}
use lib.ListN.{take}
use Rattle.lines.specs.Line.{hex_of}
use Rattle.lines.proofs.text.Line.hex.Given as goal

abbrev pub invariant-loop-x : goal.invariant-loop-x
invariant-loop-x l = l.self ≡ l.initial.self ++ hex_of (take l.x-index l.octets)
