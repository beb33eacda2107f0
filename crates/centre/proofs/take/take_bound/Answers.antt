-- `centre::take::take_bound` meets its contract. Assumes nothing.
use lib.ListN.{length, set}
use native.Mathlib.Nat.{add-sub_cancel_left}
use Rattle.std.specs.Prelude.{Ok, Err}
use Rattle.session.specs.declared.Handed.{Handed}
use Rattle.session.specs.declared.State.{State}
use Rattle.centre.specs.declared.take.Taken.{Taken}
use mathlib.Core.Path.{◌≡◌, sym, ap, ◌∙◌}
use mathlib.Core.List.{List}
use Prim.Native.Nat.{ℕ, ◌*◌}
use native.Mathlib.Omega.{arith}
use borrow.Author.Tests.{lt-ltb, le-ltb}
use Rattle.octets.specs.Choice.{when◌then◌else◌}
use Rattle.octets.specs.Stretch.{patch}
use Rattle.octets.proofs.StretchLaws.{part_length}
use Rattle.octets.proofs.PatchLaws.{part-back}
use Rattle.octets.proofs.LentLaws.{held}
use Rattle.session.specs.State.{receipts_of}
use Rattle.isolation.specs.Platform.{owning}
use Rattle.session.proofs.ReceiptLaws.{receipts-at}
use Rattle.centre.specs.Centre.{act, on_octets, takes}
use Rattle.centre.proofs.StateLaws.{concluded-put, kept_lem}
use Rattle.centre.proofs.take.take_bound.Goals as goal

pub returns-then-account-ge-ACCOUNTS : goal.returns-then-account-ge-ACCOUNTS
unfolding when◌then◌else◌
returns-then-account-ge-ACCOUNTS c = rw (le-ltb _ _ c.if-account-ge-ACCOUNTS.true, c.refused.ensures)

pub returns-in-Err : goal.returns-in-Err
unfolding act on_octets when◌then◌else◌
returns-in-Err c = let g = c.args in
    let at = 4096 * g.a in
    let t = g.table.now in
    let b = c.on_bound-came in
    let back = b.new.part in
    let r : State → Handed Taken = λ st. record { outcome = Err c.in-Err.refusal; state = st } in
    let e = rw (add-sub_cancel_left at 4096) at c.in-Err.ensures in
    let n : length back ≡ 4096 = (rw (add-sub_cancel_left at 4096) at b.auto.part) ∙ part_length at 4096 t (omega (arith, c.requires.platform.0.1, c.if-account-ge-ACCOUNTS.false)) in
    rw c.refused-in-Err.ensures
    (ap (λ (l : List ℕ). takes (r g.state) l b.new.space) (part-back t at 4096 back n (omega (arith, c.requires.platform.0.1, c.if-account-ge-ACCOUNTS.false)))
    ∙ rw (lt-ltb _ _ c.if-account-ge-ACCOUNTS.false, c.requires.platform.1.1, ← (held c.record_of-record.ensures.0), receipts-at g.state g.a g.session, ← c.receipt_for-receipt.ensures, ← e)
    (ap (λ (st : State). takes (r st) (patch t at back) b.new.space) (sym (kept_lem g.state g.a g.session _ (c.receipt_for-receipt.ensures ∙ sym (receipts-at g.state g.a g.session))))))

pub returns-in-Ok : goal.returns-in-Ok
unfolding act on_octets when◌then◌else◌
returns-in-Ok c = let g = c.args in
    let at = 4096 * g.a in
    let t = g.table.now in
    let b = c.on_bound-came in
    let back = b.new.part in
    let h = c.in-Ok.handled in
    let r : Handed Taken = record { outcome = Ok (record { consumed = h.acted.consumed; written = h.acted.written }); state = c.conclude-next.result } in
    let e = rw (add-sub_cancel_left at 4096) at c.in-Ok.ensures in
    let n : length back ≡ 4096 = (rw (add-sub_cancel_left at 4096) at b.auto.part) ∙ part_length at 4096 t (omega (arith, c.requires.platform.0.1, c.if-account-ge-ACCOUNTS.false)) in
    ap (λ (l : List ℕ). takes r l b.new.space) (part-back t at 4096 back n (omega (arith, c.requires.platform.0.1, c.if-account-ge-ACCOUNTS.false)))
    ∙ rw (lt-ltb _ _ c.if-account-ge-ACCOUNTS.false, c.requires.platform.1.1, ← (held c.record_of-record.ensures.0), receipts-at g.state g.a g.session, ← c.receipt_for-receipt.ensures, ← e, concluded-put g.state t g.session g.a h.acted.ends (owning back h.acted.last (set (receipts_of g.state g.a) g.session h.receipt)), c.conclude-next.ensures)
