-- The body of a reply has at most 28 octets, a query's being the longest. Assumes nothing.
use Rattle.std.specs.Prelude.{None, Option, Some}
use mathlib.Core.List.{List, []}
use Prim.Native.Nat.{ℕ, ◌≤◌}
use native.Mathlib.Omega.{arith}
use lib.ListN.{length, length-take}
use Rattle.forms.specs.Field.{text_of}
use Rattle.forms.proofs.TextLaws.{text_of-within}
use Rattle.answers.specs.Reply.{submit_body, no_query}
use Rattle.answers.proofs.ReplyLaws.{id_text-within, query_body-length}
use Rattle.records.specs.Layout.{state_of, id_of, date_of, error_of}
use Rattle.bound.specs.Bound.{found_body, wire_state}

abbrev pub Brief : List ℕ → Type 0
Brief body = length body ≤ 28

pub id-brief : (id : Option ℕ) → Brief (submit_body id)
id-brief id = omega (arith, id_text-within id)

pub found-brief : (r : List ℕ) → Brief (found_body r)
found-brief r =
    omega (arith, query_body-length (Some (id_of r)) (text_of (date_of r)) (wire_state (state_of r)) (error_of r), id_text-within (Some (id_of r)), simp length-take at (text_of-within (date_of r)))

pub none-brief : Brief no_query
none-brief = omega (arith, query_body-length None [] 0 0, id_text-within None)
