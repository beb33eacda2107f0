-- `lines::record::order_of` meets its contract. Assumes nothing.
use native.Mathlib.Omega.{arith}
use lib.ListN.{get_or}
use borrow.Author.Tests.{eq-eqb, ne_eqb, le-leb, lt-leb}
use Rattle.octets.specs.Choice.{when◌then◌else◌}
use Rattle.lines.specs.Record.{order_of}
use Rattle.lines.proofs.record.order_of.Goals as goal

pub returns-then-asked-ne-SIZE : goal.returns-then-asked-ne-SIZE
unfolding order_of when◌then◌else◌
returns-then-asked-ne-SIZE c = (simp (ne_eqb _ _ c.if-asked-ne-SIZE.true), tt)

pub returns-in-0 : goal.returns-in-0
unfolding order_of when◌then◌else◌
returns-in-0 c = (simp (eq-eqb _ _ c.if-asked-ne-SIZE.false, c.in-0.is), c.if-asked-ne-SIZE.false)

pub returns-in-1 : goal.returns-in-1
unfolding order_of when◌then◌else◌
returns-in-1 c = (simp (eq-eqb _ _ c.if-asked-ne-SIZE.false, c.in-1.is, ← c.length_of-length.ensures.0, le-leb _ _ c.if-length-le-PAYLOAD_SIZE.true), (c.if-asked-ne-SIZE.false, rw (← c.length_of-length.ensures.0) c.if-length-le-PAYLOAD_SIZE.true))

pub returns-in-2 : goal.returns-in-2
unfolding order_of when◌then◌else◌
returns-in-2 c = (simp (eq-eqb _ _ c.if-asked-ne-SIZE.false, c.in-2.is), c.if-asked-ne-SIZE.false)

pub returns-in-3 : goal.returns-in-3
unfolding order_of when◌then◌else◌
returns-in-3 c = (simp (eq-eqb _ _ c.if-asked-ne-SIZE.false, c.in-3.is, ← c.length_of-length.ensures.0, eq-eqb _ _ c.if-length-eq7.true), c.if-asked-ne-SIZE.false)

pub returns-in_default : goal.returns-in_default
unfolding order_of when◌then◌else◌
returns-in_default c = (simp (eq-eqb _ _ c.if-asked-ne-SIZE.false, c.in-1.is, ← c.length_of-length.ensures.0, lt-leb _ _ c.if-length-le-PAYLOAD_SIZE.false), tt)

pub returns-in_default-2 : goal.returns-in_default-2
unfolding order_of when◌then◌else◌
returns-in_default-2 c = (simp (eq-eqb _ _ c.if-asked-ne-SIZE.false, c.in-3.is, ← c.length_of-length.ensures.0, ne_eqb _ _ c.if-length-eq7.false), tt)

pub returns-in_default-3 : goal.returns-in_default-3
unfolding order_of when◌then◌else◌
returns-in_default-3 c =
    let kind = get_or c.args.asked.now 0 0 in
    (simp (eq-eqb _ _ c.if-asked-ne-SIZE.false, ne_eqb kind 0 (omega arith), ne_eqb kind 1 (omega arith), ne_eqb kind 2 (omega arith), ne_eqb kind 3 (omega arith)), tt)
