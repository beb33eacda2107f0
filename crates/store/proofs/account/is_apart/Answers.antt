-- `store::account::is_apart` meets its contract. Assumes nothing.
use Rattle.octets.proofs.LentLaws.{held}
use borrow.Author.Tests.{eq-eqb, ne_eqb}
use Rattle.store.proofs.account.is_apart.Goals as goal

pub returns-then-r-eq0 : goal.returns-then-r-eq0
returns-then-r-eq0 c = rw (← (held c.record_at-r.ensures.0), eq-eqb _ _ c.if-r-eq0.true)

pub returns-else-r-eq0 : goal.returns-else-r-eq0
returns-else-r-eq0 c = rw (← (held c.record_at-r.ensures.0), ne_eqb _ _ c.if-r-eq0.false, ← c.number_at.ensures) c.is_free_from.ensures
