-- `requests::query::read_query` meets its contract: the fields before the refused one rewrite, and behind it none is looked at. Assumes nothing.
use mathlib.Core.Path.{refl}
use Rattle.std.proofs.lemmas.Result.{err_from_is_err_and}
use Rattle.wire.proofs.FieldLaws.{address-behind, end-behind}
use Rattle.requests.specs.Query.{query_of}
use Rattle.requests.proofs.query.read_query.Goals as goal

pub returns-in_err-id : goal.returns-in_err-id
unfolding query_of
returns-in_err-id c =
    let p = err_from_is_err_and c.from_residual.result c.from_residual.ensures.1 in
    rw (p.1, p.2, ← c.of-fields.ensures.0, ← c.of-fields.ensures.1, c.in_err-id.ensures.read) (simp (address-behind, end-behind))

pub returns-in_err-source : goal.returns-in_err-source
unfolding query_of
returns-in_err-source c =
    let p = err_from_is_err_and c.from_residual-in_err-source.result c.from_residual-in_err-source.ensures.1 in
    rw (p.1, p.2, ← c.of-fields.ensures.0, ← c.of-fields.ensures.1, c.in_ok-id.ensures.read, ← c.in_ok-id.ensures.kept, c.in_err-source.ensures.read) (simp end-behind)

pub returns-in_err-end : goal.returns-in_err-end
unfolding query_of
returns-in_err-end c =
    let p = err_from_is_err_and c.from_residual-in_err-end.result c.from_residual-in_err-end.ensures.1 in
    rw (p.1, p.2, ← c.of-fields.ensures.0, ← c.of-fields.ensures.1, c.in_ok-id.ensures.read, ← c.in_ok-id.ensures.kept, c.in_ok-source.ensures.read, ← c.in_ok-source.ensures.kept) c.in_err-end.ensures

pub returns : goal.returns
unfolding query_of
returns c = rw (← c.of-fields.ensures.0, ← c.of-fields.ensures.1, c.in_ok-id.ensures.read, ← c.in_ok-id.ensures.kept, c.in_ok-source.ensures.read, ← c.in_ok-source.ensures.kept) (c.in_ok-end.ensures, refl)
