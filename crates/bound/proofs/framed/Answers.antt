-- `bound::framed` meets its contract. Assumes nothing.
use lib.Seq.{length-take-le}
use Rattle.wire.specs.Frame.{Framed}
use mathlib.Core.Path.{sym, ◌∙◌, subst}
use native.Mathlib.Omega.{arith}
use Prim.Native.Nat.{◌≤◌}
use lib.ListN.{length}
use Rattle.bound.proofs.framed.Goals as goal

pub slice_bounds-handle-end : goal.slice_bounds-handle-end
slice_bounds-handle-end c = let f : (16 ≤ c.in-Whole.n) × (c.in-Whole.n ≤ length c.args.octets.now) = subst (Framed c.args.octets.now) c.in-Whole.is c.frame_of-first.ensures.1 in sym (length-take-le c.in-Whole.n c.args.octets.now f.1)

pub handle-requires : goal.handle-requires
handle-requires c = let f : (16 ≤ c.in-Whole.n) × (c.in-Whole.n ≤ length c.args.octets.now) = subst (Framed c.args.octets.now) c.in-Whole.is c.frame_of-first.ensures.1 in let n = length-take-le c.in-Whole.n c.args.octets.now f.1 in (c.requires.0, (omega (arith, n, f.0), c.requires.1))

pub returns-in-More : goal.returns-in-More
returns-in-More c = rw (sym c.frame_of-first.ensures.0 ∙ c.in-More.is)

pub returns-in-Malformed : goal.returns-in-Malformed
returns-in-Malformed c = rw (sym c.frame_of-first.ensures.0 ∙ c.in-Malformed.is, ← c.bad_length-written.ensures)

pub returns-in-Whole : goal.returns-in-Whole
returns-in-Whole c = rw (sym c.frame_of-first.ensures.0 ∙ c.in-Whole.is) c.handle.ensures
