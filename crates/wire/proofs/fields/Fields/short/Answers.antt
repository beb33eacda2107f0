-- `wire::fields::Fields::short` meets its contract. Assumes nothing.
use mathlib.Core.Path.{ap}
use Prim.Native.Nat.{ℕ}
use mathlib.Core.Bool.{not}
use lib.Dec.{eqb}
use native.Mathlib.Omega.{arith}
use borrow.Author.Tests.{eq-eqb, ne_eqb}
use Rattle.octets.proofs.StretchLaws.{and-false}
use Rattle.std.proofs.lemmas.Result.{err_from_is_err_and, IfOk-weaker}
use Rattle.forms.specs.Text.{longest_text}
use Rattle.wire.specs.Status.{invalid_message_length}
use Rattle.octets.specs.Choice.{when◌then◌else◌}
use Rattle.wire.specs.declared.status.Status.TheVariants.{InvalidParameter}
use Rattle.wire.specs.Cursor.{not_both}
use Rattle.wire.specs.Fields.{Read, short_at, standing}
use Rattle.wire.proofs.FieldLaws.{octet-within, both-behind, span-behind}
use Rattle.wire.proofs.fields.Fields.short.Goals.{else-len-ne0-via-then-len-ne0+else-default-ne0, else-len-ne0-via-else-len-ne0}
use Rattle.wire.proofs.fields.Fields.short.Goals as goal

pub returns-in_err-len-clause-read : goal.returns-in_err-len-clause-read
unfolding short_at
returns-in_err-len-clause-read c =
    let p = err_from_is_err_and c.from_residual.result c.from_residual.ensures.1 in
    rw (p.1, p.2, c.in_err-len.ensures.read, both-behind, span-behind)

pub returns-then-default-ne0-clause-read : goal.returns-then-default-ne0-clause-read
unfolding short_at not_both when◌then◌else◌
returns-then-default-ne0-clause-read c = rw (c.in_ok-len.ensures.read, ne_eqb _ _ c.if-len-ne0.true, ne_eqb _ _ c.if-default-ne0.true) (span-behind c.in_ok-len.len c.args.self.now.body.now c.octet_or.new.self.at InvalidParameter)

pub returns-clause-read : goal.returns-clause-read
unfolding short_at not_both when◌then◌else◌
returns-clause-read c = rw (c.in_ok-len.ensures.read, ← c.octet_or.ensures.kept) (elim c.else-len-ne0.branch [
  | else-len-ne0-via-then-len-ne0+else-default-ne0 w ↦ rw (eq-eqb _ _ w.if-default-ne0.false, and-false (not (eqb c.in_ok-len.len 0))) c.span.ensures.read
  | else-len-ne0-via-else-len-ne0 w ↦ rw (eq-eqb _ _ w.if-len-ne0.false) c.span.ensures.read
])

pub returns-clause-part : goal.returns-clause-part
returns-clause-part c =
    let size = ap (λ (r : Read ℕ). r.value) c.in_ok-len.ensures.read in
    let small = octet-within longest_text invalid_message_length c.args.self.now.body.now (standing c.args.self.now) in
    IfOk-weaker c.span.result _ _ (λ span part. (rw c.octet_or.ensures.kept at part.0, omega (arith, size, small))) c.span.ensures.part
