-- `centre::operations::locate` meets its contract. Assumes nothing.
use mathlib.Core.Path.{sym}
use Prim.Native.Nat.{◌*◌}
use native.Mathlib.Nat.{add-sub_cancel_left}
use borrow.Author.Tests.{ne_eqb, lt-ltb, le-ltb}
use Rattle.octets.specs.Choice.{when◌then◌else◌}
use Rattle.octets.proofs.LentLaws.{held}
use Rattle.std.proofs.lemmas.Result.{err_from_is_err_and}
use Rattle.session.proofs.RefusalLaws.{number-not-0}
use Rattle.isolation.specs.Platform.{step}
use Rattle.centre.specs.Centre.{act}
use Rattle.centre.proofs.PlacedLaws.{inside}
use Rattle.centre.proofs.operations.locate.Goals as goal

pub returns-in_err-check_pick : goal.returns-in_err-check_pick
unfolding step when◌then◌else◌
returns-in_err-check_pick c =
    let p = err_from_is_err_and c.from_residual.result c.from_residual.ensures.1 in
    rw (p.1, p.2) (rw (← c.in_err-check_pick.ensures.early, ne_eqb _ _ (λ e. number-not-0 c.in_err-check_pick.field-0.0 (sym e))), tt)

pub returns-then-account-ge-ACCOUNTS : goal.returns-then-account-ge-ACCOUNTS
unfolding step when◌then◌else◌
returns-then-account-ge-ACCOUNTS c = (rw (← c.in_ok-check_pick.ensures.early, le-ltb _ _ c.if-account-ge-ACCOUNTS.true), tt)

pub returns : goal.returns
unfolding step act when◌then◌else◌
returns c = let f = c.in_ok-check_pick.ensures.fit in
    let e = rw (add-sub_cancel_left (4096 * c.args.account) 4096) at c.on_pick.ensures.0 in (
      rw (← c.in_ok-check_pick.ensures.early, lt-ltb _ _ c.if-account-ge-ACCOUNTS.false, ← (held c.record_of-record.ensures.0)) e,
      inside c.on_pick.result c.args.account c.args.table.now c.on_pick.ensures.1 c.if-account-ge-ACCOUNTS.false f.table_fits,
    )
