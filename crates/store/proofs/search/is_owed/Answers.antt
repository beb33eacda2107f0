-- `store::search::is_owed` meets its contract. Assumes nothing.
use mathlib.Core.Path.{◌∙◌, ap}
use mathlib.Core.Bool.{not}
use borrow.Author.Tests.{eq-eqb}
use Rattle.octets.proofs.StretchLaws.{among-any}
use Rattle.store.proofs.search.is_owed.Goals as goal

pub returns-then-r-eq1 : goal.returns-then-r-eq1
returns-then-r-eq1 c = rw (eq-eqb _ _ c.if-r-eq1.true, ← c.number_at-id.ensures) (ap not (c.contains.ensures.value ∙ among-any c.number_at-id.result c.args.ids.now))
