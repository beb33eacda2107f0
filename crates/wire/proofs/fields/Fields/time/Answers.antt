-- `wire::fields::Fields::time` meets its contract: each return rewrites by the tests that led to it. Assumes nothing.
use mathlib.Core.Path.{◌≡◌, ap, refl, sym, ◌∙◌}
use Prim.Native.Nat.{◌<◌}
use native.Mathlib.Omega.{arith}
use lib.ListN.{length, replicate, length-take}
use borrow.Author.Tests.{eq-eqb, ne_eqb, lt-ltb, le-ltb, ltb-true, ltb-false}
use Rattle.std.proofs.lemmas.List.{get_or_read_under}
use Rattle.octets.specs.Choice.{when◌then◌else◌}
use Rattle.octets.proofs.StretchLaws.{and-false}
use Rattle.octets.proofs.PatchLaws.{patch-whole}
use Rattle.octets.proofs.LentLaws.{held}
use Rattle.wire.specs.Fields.{time_at}
use Rattle.wire.proofs.fields.Fields.time.Goals.{else-is_sent_time-via-then-is_sent_time+else-left-eq0, else-is_sent_time-via-else-is_sent_time}
use Rattle.wire.proofs.fields.Fields.time.Goals as goal

pub returns-in_default-clause-read : goal.returns-in_default-clause-read
unfolding time_at when◌then◌else◌
returns-in_default-clause-read c =
    let none : length c.from-left.result.now ≡ 0 = omega (arith, ltb-false _ _ (sym c.in_default.ensures.item.0)) in
    rw (← (held c.from-left.ensures), eq-eqb _ _ none)

pub returns-then-first-eq0-clause-read : goal.returns-then-first-eq0-clause-read
unfolding time_at when◌then◌else◌
returns-then-first-eq0-clause-read c =
    let some : 0 < length c.from-left.result.now = ltb-true _ _ (sym c.in-Some.ensures.item.0) in
    rw (← (held c.from-left.ensures), ne_eqb (length c.from-left.result.now) 0 (omega arith), ← (get_or_read_under _ _ _ _ 0 c.in-Some.ensures.item.1 some refl), eq-eqb _ _ c.if-first-eq0.true)

pub returns-then-left-lt-TIME_FIELD-clause-read : goal.returns-then-left-lt-TIME_FIELD-clause-read
unfolding time_at when◌then◌else◌
returns-then-left-lt-TIME_FIELD-clause-read c =
    let some : 0 < length c.from-left.result.now = ltb-true _ _ (sym c.in-Some.ensures.item.0) in
    rw (← (held c.from-left.ensures), ne_eqb (length c.from-left.result.now) 0 (omega arith), ← (get_or_read_under _ _ _ _ 0 c.in-Some.ensures.item.1 some refl), ne_eqb _ _ c.if-first-eq0.false, lt-ltb _ _ c.if-left-lt-TIME_FIELD.true)

pub returns-then-left-eq0-clause-read : goal.returns-then-left-eq0-clause-read
unfolding time_at when◌then◌else◌
returns-then-left-eq0-clause-read c =
    let some : 0 < length c.from-left.result.now = ltb-true _ _ (sym c.in-Some.ensures.item.0) in
    let whole : length c.first-sent.result.now ≡ 16 = omega (arith, simp length-take at (ap length (held c.first-sent.ensures))) in
    rw (← (held c.from-left.ensures), ne_eqb (length c.from-left.result.now) 0 (omega arith), ← (get_or_read_under _ _ _ _ 0 c.in-Some.ensures.item.1 some refl), ne_eqb _ _ c.if-first-eq0.false, le-ltb _ _ c.if-left-lt-TIME_FIELD.false, ← (held c.first-sent.ensures), sym c.is_sent_time.ensures ∙ c.if-is_sent_time.true, eq-eqb _ _ c.if-left-eq0.true, c.put.ensures, patch-whole (replicate 16 0) c.first-sent.result.now whole)

pub returns-else-is_sent_time-clause-read : goal.returns-else-is_sent_time-clause-read
unfolding time_at when◌then◌else◌
returns-else-is_sent_time-clause-read c =
    let some : 0 < length c.from-left.result.now = ltb-true _ _ (sym c.in-Some.ensures.item.0) in
    rw (← (held c.from-left.ensures), ne_eqb (length c.from-left.result.now) 0 (omega arith), ← (get_or_read_under _ _ _ _ 0 c.in-Some.ensures.item.1 some refl), ne_eqb _ _ c.if-first-eq0.false, le-ltb _ _ c.if-left-lt-TIME_FIELD.false, ← (held c.first-sent.ensures)) (elim c.else-is_sent_time.branch [
      | else-is_sent_time-via-then-is_sent_time+else-left-eq0 w ↦ rw (ne_eqb _ _ w.if-left-eq0.false, and-false)
      | else-is_sent_time-via-else-is_sent_time w ↦ rw (sym c.is_sent_time.ensures ∙ w.if-is_sent_time.false)
    ])
