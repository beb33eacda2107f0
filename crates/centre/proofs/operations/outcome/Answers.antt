-- `centre::operations::outcome` meets its contract. Assumes nothing.
use Rattle.octets.proofs.StretchLaws.{part_length}
use mathlib.Core.Path.{◌≡◌, sym, ap, ◌∙◌}
use mathlib.Core.List.{List}
use Prim.Native.Nat.{ℕ, ◌*◌}
use native.Mathlib.Omega.{arith}
use native.Mathlib.Nat.{add-sub_cancel_left}
use lib.ListN.{length}
use borrow.Author.Tests.{ne_eqb, lt-ltb, le-ltb}
use Rattle.octets.specs.Choice.{when◌then◌else◌}
use Rattle.octets.specs.Stretch.{patch}
use Rattle.octets.proofs.PatchLaws.{part-back}
use Rattle.octets.proofs.LentLaws.{held}
use Rattle.session.specs.declared.State.{State}
use Rattle.std.proofs.lemmas.Result.{err_from_is_err_and}
use Rattle.session.specs.Refusal.{outcome_number}
use Rattle.session.proofs.RefusalLaws.{number-not-0}
use Rattle.isolation.specs.Platform.{step}
use Rattle.centre.specs.Centre.{act, reports}
use Rattle.centre.proofs.StateLaws.{own_same_lem}
use Rattle.centre.proofs.operations.outcome.Goals as goal

pub returns-in_err-check_outcome : goal.returns-in_err-check_outcome
unfolding step when◌then◌else◌
returns-in_err-check_outcome c =
    let p = err_from_is_err_and c.from_residual.result c.from_residual.ensures.1 in
    rw (p.1, p.2, ← c.in_err-check_outcome.ensures.early, ne_eqb _ _ (λ e. number-not-0 c.in_err-check_outcome.field-0.0 (sym e)))

pub returns-then-account-ge-ACCOUNTS : goal.returns-then-account-ge-ACCOUNTS
unfolding step when◌then◌else◌
returns-then-account-ge-ACCOUNTS c = rw (← c.in_ok-check_outcome.ensures.early, le-ltb _ _ c.if-account-ge-ACCOUNTS.true)

pub returns : goal.returns
unfolding step act when◌then◌else◌
returns c = let f = c.in_ok-check_outcome.ensures.fit in
    let g = c.args in
    let at = 4096 * g.account in
    let t = g.table.now in
    let o = c.on_outcome in
    let back = o.new.part in
    let e = rw (add-sub_cancel_left at 4096) at o.ensures in
    let n : length back ≡ 4096 = (rw (add-sub_cancel_left at 4096) at o.auto.part) ∙ part_length at 4096 t (omega (arith, f.table_fits, c.if-account-ge-ACCOUNTS.false)) in
    ap (λ (l : List ℕ). reports (outcome_number o.result) g.state l) (part-back t at 4096 back n (omega (arith, f.table_fits, c.if-account-ge-ACCOUNTS.false)))
    ∙ rw (← c.in_ok-check_outcome.ensures.early, lt-ltb _ _ c.if-account-ge-ACCOUNTS.false, ← (held c.record_of-record.ensures.0), ← e)
    (ap (λ (s : State). reports (outcome_number o.result) s (patch t at back)) (sym (own_same_lem g.state g.account)))
