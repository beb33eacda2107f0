-- `wire::fields::Fields::id` meets its contract. Assumes nothing.
use Rattle.std.proofs.lemmas.Result.{err_from_is_err_and}
use Rattle.octets.proofs.LentLaws.{held}
use Rattle.wire.specs.Fields.{id_at}
use Rattle.wire.proofs.fields.Fields.id.Goals as goal

pub returns-in_err-id-clause-read : goal.returns-in_err-id-clause-read
unfolding id_at
returns-in_err-id-clause-read c = let p = err_from_is_err_and c.from_residual.result c.from_residual.ensures.1 in rw (p.1, p.2) c.in_err-id.ensures.read

pub returns-clause-read : goal.returns-clause-read
unfolding id_at
returns-clause-read c = rw (c.in_ok-id.ensures.read, ← c.text_or.ensures.kept, ← (held c.octets_of.ensures), c.message_id.ensures)
