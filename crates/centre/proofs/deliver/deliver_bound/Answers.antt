-- `centre::deliver::deliver_bound` meets its contract. Assumes nothing.
use mathlib.Core.Path.{sym, ap, ◌∙◌}
use mathlib.Core.List.{List}
use Prim.Native.Nat.{ℕ, ◌*◌}
use lib.ListN.{set}
use native.Mathlib.Nat.{add-sub_cancel_left}
use borrow.Author.Tests.{lt-ltb, le-ltb}
use Rattle.octets.specs.Choice.{when◌then◌else◌}
use Rattle.octets.specs.Stretch.{part, patch}
use Rattle.octets.proofs.PatchLaws.{patch-none}
use Rattle.octets.proofs.LentLaws.{held}
use Rattle.session.specs.State.{last_at, receipts_of, issued, granted}
use Rattle.session.proofs.ReceiptLaws.{receipts-at}
use Rattle.std.specs.Prelude.{Some}
use Rattle.session.specs.Refusal.{number_of}
use Rattle.session.specs.declared.State.{State}
use Rattle.isolation.specs.Platform.{Ran}
use Rattle.centre.proofs.StateLaws.{kept_lem}
use Rattle.answers.specs.Answer.{Answer}
use Rattle.answers.specs.Answer as A
use Rattle.centre.specs.Centre.{act, on_delivery, world}
use Rattle.centre.proofs.deliver.deliver_bound.Goals as goal

pub returns-then-account-ge-ACCOUNTS : goal.returns-then-account-ge-ACCOUNTS
unfolding when◌then◌else◌
returns-then-account-ge-ACCOUNTS c = rw (le-ltb _ _ c.if-account-ge-ACCOUNTS.true, c.refused.ensures)

pub returns-in-Err : goal.returns-in-Err
unfolding act on_delivery when◌then◌else◌
returns-in-Err c = let g = c.args in
    let at = 4096 * g.a in
    let t = g.table.now in
    let o = c.offer_receipt-offered in
    let e = rw (add-sub_cancel_left at 4096) at c.in-Err.ensures in
    let answer = A.delivered (number_of c.in-Err.refusal) 0 o.new.space in
    rw (c.refused-in-Err.ensures, lt-ltb _ _ c.if-account-ge-ACCOUNTS.false, c.requires.platform.1.1, ← (held c.record_of-record.ensures.0), receipts-at g.state g.a g.session, ← c.receipt_for-receipt.ensures, ← c.held-ids.ensures, ← e)
    (ap {B = Ran Answer} (λ (l : List ℕ). record { answer = answer; world = world g.state l }) (sym (patch-none t at 4096))
    ∙ ap {B = Ran Answer} (λ (st : State). record { answer = answer; world = world st (patch t at (part at 4096 t)) })
    (sym (kept_lem g.state g.a g.session _ (c.receipt_for-receipt.ensures ∙ sym (receipts-at g.state g.a g.session)))))

pub returns-in-Ok : goal.returns-in-Ok
unfolding act on_delivery when◌then◌else◌
returns-in-Ok c = let g = c.args in
    let at = 4096 * g.a in
    let t = g.table.now in
    let o = c.offer_receipt-offered in
    let offer = c.in-Ok.offer in
    let e = rw (add-sub_cancel_left at 4096) at c.in-Ok.ensures in
    rw (lt-ltb _ _ c.if-account-ge-ACCOUNTS.false, c.requires.platform.1.1, ← (held c.record_of-record.ensures.0), receipts-at g.state g.a g.session, ← c.receipt_for-receipt.ensures, ← c.held-ids.ensures, ← e, c.grant.ensures)
    (ap {B = Ran Answer} (λ (l : List ℕ). record { answer = A.delivered 0 offer.written o.new.space; world = world (issued (granted g.state g.a (set (receipts_of g.state g.a) g.session (Some offer.receipt))) g.a (last_at g.state g.a)) l })
    (sym (patch-none t at 4096)))
