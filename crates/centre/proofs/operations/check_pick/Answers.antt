-- `centre::operations::check_pick` meets its contract. Assumes nothing.
use mathlib.Core.Path.{sym, ◌∙◌}
use Rattle.octets.specs.Choice.{when◌then◌else◌}
use Rattle.centre.specs.Centre.{pick_early}
use Rattle.centre.proofs.SizeLaws.{book-fits, table_fits_lem}
use Rattle.centre.proofs.operations.check_pick.Goals as goal

pub returns-then-is_wrong : goal.returns-then-is_wrong
unfolding pick_early when◌then◌else◌
returns-then-is_wrong c = record { early = rw (sym c.is_wrong.ensures ∙ c.if-is_wrong.true); fit = tt }

pub returns-else-is_wrong : goal.returns-else-is_wrong
unfolding pick_early when◌then◌else◌
returns-else-is_wrong c =
    let fits = sym c.is_wrong.ensures ∙ c.if-is_wrong.false in
    record {
      early = rw fits;
      fit = record { book_fits = book-fits c.args.book c.args.table fits; table_fits = table_fits_lem c.args.book c.args.table fits };
    }
