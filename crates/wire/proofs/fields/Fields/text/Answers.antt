-- `wire::fields::Fields::text` meets its contract. Assumes nothing.
use mathlib.Core.Path.{sym, ◌∙◌}
use borrow.Author.Tests.{eq-eqb, ne_eqb, lt-ltb, le-ltb}
use Rattle.octets.specs.Choice.{when◌then◌else◌}
use Rattle.octets.proofs.LentLaws.{held}
use Rattle.wire.specs.Fields.{text_at}
use Rattle.wire.proofs.fields.Fields.text.Goals as goal

pub returns-then-window-most-clause-read : goal.returns-then-window-most-clause-read
unfolding text_at when◌then◌else◌
returns-then-window-most-clause-read c = λ bad.
    rw (← (held c.from.ensures), ← (held c.first-window.ensures), ← c.lead_of-len.ensures.0, eq-eqb _ _ c.if-len-window.true, lt-ltb _ _ c.if-window-most.true)

pub returns-else-window-most-clause-read : goal.returns-else-window-most-clause-read
unfolding text_at when◌then◌else◌
returns-else-window-most-clause-read c = λ bad.
    rw (← (held c.from.ensures), ← (held c.first-window.ensures), ← c.lead_of-len.ensures.0, eq-eqb _ _ c.if-len-window.true, le-ltb _ _ c.if-window-most.false)

pub returns-then-not-is_formed-clause-read : goal.returns-then-not-is_formed-clause-read
unfolding text_at when◌then◌else◌
returns-then-not-is_formed-clause-read c = λ bad.
    rw (← (held c.from.ensures), ← (held c.first-window.ensures), ← c.lead_of-len.ensures.0, ne_eqb _ _ c.if-len-window.false, ← (held c.first.ensures), sym c.is_formed.ensures ∙ c.if-not-is_formed.true)

pub returns-clause-read : goal.returns-clause-read
unfolding text_at when◌then◌else◌
returns-clause-read c = λ bad.
    rw (← (held c.from.ensures), ← (held c.first-window.ensures), ← c.lead_of-len.ensures.0, ne_eqb _ _ c.if-len-window.false, ← (held c.first.ensures), sym c.is_formed.ensures ∙ c.if-not-is_formed.false)
