-- `centre::take::check` meets its contract. Assumes nothing.
use mathlib.Core.Path.{sym, ◌∙◌}
use borrow.Author.Tests.{lt-ltb, le-ltb}
use Rattle.octets.specs.Choice.{when◌then◌else◌}
use Rattle.forms.proofs.TimeLaws.{sent-length}
use Rattle.centre.specs.Centre.{octets_early}
use Rattle.centre.proofs.SizeLaws.{book-fits, table_fits_lem}
use Rattle.centre.proofs.take.check.Goals as goal

pub returns-then-is_wrong : goal.returns-then-is_wrong
unfolding octets_early when◌then◌else◌
returns-then-is_wrong c = record { early = rw (sym c.is_wrong.ensures ∙ c.if-is_wrong.true); fit = tt }

pub returns-then-space-lt-SPACE_NEEDED : goal.returns-then-space-lt-SPACE_NEEDED
unfolding octets_early when◌then◌else◌
returns-then-space-lt-SPACE_NEEDED c = record { early = rw (sym c.is_wrong.ensures ∙ c.if-is_wrong.false, lt-ltb _ _ c.if-space-lt-SPACE_NEEDED.true); fit = tt }

pub returns-then-not-is_sent_time : goal.returns-then-not-is_sent_time
unfolding octets_early when◌then◌else◌
returns-then-not-is_sent_time c =
    record {
      early = rw (sym c.is_wrong.ensures ∙ c.if-is_wrong.false, le-ltb _ _ c.if-space-lt-SPACE_NEEDED.false, sym c.is_sent_time.ensures ∙ c.if-not-is_sent_time.true);
      fit = tt;
    }

pub returns : goal.returns
unfolding octets_early when◌then◌else◌
returns c =
    let fits = sym c.is_wrong.ensures ∙ c.if-is_wrong.false in
    let sent = sym c.is_sent_time.ensures ∙ c.if-not-is_sent_time.false in
    record {
      early = rw (fits, le-ltb _ _ c.if-space-lt-SPACE_NEEDED.false, sent);
      fit = record { book_fits = book-fits c.args.book c.args.table fits; table_fits = table_fits_lem c.args.book c.args.table fits; stamp_fits = sent-length _ sent; space_fits = c.if-space-lt-SPACE_NEEDED.false };
    }
