-- `records::record::is_record_ok` meets its contract. Assumes nothing.
use mathlib.Core.Path.{◌∙◌}
use native.Mathlib.Omega.{arith}
use Rattle.records.proofs.RecordLaws.{record-empty, record-message}
use Rattle.records.proofs.record.is_record_ok.Goals as goal

pub returns-then-r-eq0 : goal.returns-then-r-eq0
returns-then-r-eq0 c = c.all_zero.ensures ∙ record-empty c.args.last c.args.r.now c.if-r-eq0.true

pub returns-else-r-eq0 : goal.returns-else-r-eq0
returns-else-r-eq0 c = c.is_message_ok.ensures ∙ record-message c.args.last c.args.r.now (omega arith) c.if-r-eq0.false
