-- `centre::deliver::check` meets its contract. Assumes nothing.
use mathlib.Core.Path.{sym, ◌∙◌}
use borrow.Author.Tests.{lt-ltb, le-ltb}
use Rattle.octets.specs.Choice.{when◌then◌else◌}
use Rattle.centre.specs.Centre.{delivery_early}
use Rattle.centre.proofs.SizeLaws.{book-fits, table_fits_lem}
use Rattle.centre.proofs.deliver.check.Goals as goal

pub returns-then-is_wrong : goal.returns-then-is_wrong
unfolding delivery_early when◌then◌else◌
returns-then-is_wrong c = record { early = rw (sym c.is_wrong.ensures ∙ c.if-is_wrong.true); fit = tt }

pub returns-then-space-lt-LONGEST : goal.returns-then-space-lt-LONGEST
unfolding delivery_early when◌then◌else◌
returns-then-space-lt-LONGEST c = record { early = rw (sym c.is_wrong.ensures ∙ c.if-is_wrong.false, lt-ltb _ _ c.if-space-lt-LONGEST.true); fit = tt }

pub returns : goal.returns
unfolding delivery_early when◌then◌else◌
returns c =
    let fits = sym c.is_wrong.ensures ∙ c.if-is_wrong.false in
    record {
      early = rw (fits, le-ltb _ _ c.if-space-lt-LONGEST.false);
      fit = record { book_fits = book-fits c.args.book c.args.table fits; table_fits = table_fits_lem c.args.book c.args.table fits; space_fits = c.if-space-lt-LONGEST.false };
    }
