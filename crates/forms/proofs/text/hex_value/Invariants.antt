-- `forms::text::hex_value` meets its contract: what stands so far, with the digits to come behind it, is the number. Assumes nothing.
use mathlib.Core.Path.{◌≡◌}
use mathlib.Core.List.{map}
use Prim.Native.Nat.{◌<◌, ◌^◌}
use lib.ListN.{drop}
use Rattle.octets.specs.Number.{onto}
use Rattle.forms.specs.Text.{hex_value, nibble}
use Rattle.forms.proofs.text.hex_value.Given as goal

abbrev pub invariant-loop-x : goal.invariant-loop-x
invariant-loop-x l = (l.value < 16 ^ l.x-index) × (hex_value l.digits ≡ onto 16 l.value (map nibble (drop l.x-index l.digits)))
