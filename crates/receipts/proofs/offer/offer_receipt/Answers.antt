-- `receipts::offer::offer_receipt` meets its contract. Assumes nothing.
use mathlib.Core.Path.{sym, ◌∙◌, subst}
use Prim.Native.Nat.{◌<◌}
use native.Mathlib.Omega.{arith}
use Rattle.octets.specs.Choice.{when◌then◌else◌}
use Rattle.octets.proofs.LentLaws.{held}
use Rattle.store.specs.Places.{OnePlace}
use Rattle.store.proofs.AccountLaws.{account-state}
use Rattle.receipts.specs.Offer.{sent, offered}
use Rattle.receipts.proofs.offer.offer_receipt.Goals as goal

pub returns-then-not-is_account_ok : goal.returns-then-not-is_account_ok
unfolding offered when◌then◌else◌
returns-then-not-is_account_ok c = rw (← c.is_account_ok.ensures, c.if-not-is_account_ok.true)

pub returns-then-receiver-is_some : goal.returns-then-receiver-is_some
unfolding offered when◌then◌else◌
returns-then-receiver-is_some c = rw (← c.is_account_ok.ensures, c.if-not-is_account_ok.false, ← c.is_some.ensures, c.if-receiver-is_some.true)

pub returns-in_default : goal.returns-in_default
unfolding offered when◌then◌else◌
returns-in_default c = rw (← c.is_account_ok.ensures, c.if-not-is_account_ok.false, ← c.is_some.ensures, c.if-receiver-is_some.false, sym c.find_owed.ensures.0 ∙ c.in_default.is)

pub record_at-r-requires : goal.record_at-r-requires
record_at-r-requires c = let b : c.in-Some.k < 16 = subst OnePlace c.in-Some.is c.find_owed.ensures.1 in omega arith

pub write-written-requires : goal.write-written-requires
write-written-requires c = let b : c.in-Some.k < 16 = subst OnePlace c.in-Some.is c.find_owed.ensures.1 in
    let s = account-state c.args.book.now c.args.last c.args.part.now c.in-Some.k (sym c.is_account_ok.ensures ∙ c.if-not-is_account_ok.false) b in
    ((c.record_at-r.ensures.1, rw (held c.record_at-r.ensures.0) s), omega arith)

pub returns : goal.returns
unfolding offered sent when◌then◌else◌
returns c = let e = held c.record_at-r.ensures.0 in
    rw (← c.is_account_ok.ensures, c.if-not-is_account_ok.false, ← c.is_some.ensures, c.if-receiver-is_some.false, sym c.find_owed.ensures.0 ∙ c.in-Some.is, ← (rw e at c.write-written.ensures), ← (rw e at c.number_at-id.ensures))
