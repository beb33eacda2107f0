-- Writing a receipt, by cases: what holds of each refusal, and of the receipt for the lowest id owed, holds of whatever is asked. Assumes nothing.
use mathlib.Core.Path.{◌≡◌, refl, sym}
use mathlib.Core.Bool.{Bool, true, false, not, ◌||◌, false≢true}
use mathlib.Core.List.{List, map}
use Prim.Native.Nat.{ℕ}
use lib.ListN.{get_or, set}
use lib.Seq.{set-get_or}
use borrow.Author.Tests.{not-true, not-false}
use Rattle.std.specs.Prelude.{Option, Some, None, is_some}
use Rattle.octets.proofs.StretchLaws.{or_left, or_right, if-cases}
use Rattle.records.specs.Layout.{id_of}
use Rattle.store.specs.Account.{account_ok}
use Rattle.store.specs.Places.{record_at}
use Rattle.store.specs.Search.{owed_place}
use Rattle.session.specs.State.{held_id, outstanding}
use Rattle.session.specs.declared.Receipt.{Receipt}
use Rattle.answers.specs.Reply.{over}
use Rattle.answers.specs.Answer.{Delivery, Answer, delivered, refused_delivery}
use Rattle.isolation.specs.Platform.{Own, owning, Effect}
use Rattle.receipts.specs.DeliverSm.{deliver_sm}
use Rattle.receipts.specs.Offer.{Offered, sent, refusing, offered}
use Rattle.bound.specs.Bound.{keeping}
use Rattle.centre.specs.Centre.{on_delivery}
use Rattle.wellformed.proofs.Cases.{found-cases}

none-outstanding : (r : Option Receipt) → is_some r ≡ false → r ≡ None
none-outstanding None h = refl
none-outstanding (Some r) h = absurd (false≢true (sym h))

module _ (receiver : Bool) (book : List ℕ) (s : ℕ) (y : Delivery) (own : Own) where
  abbrev before : Option Receipt
  before = get_or own.receipts s None

  abbrev ids : List ℕ
  ids = map held_id own.receipts

  pub record Deliveries (P : Effect Own Answer → Type 0) : Type 0 where
    pub ill : account_ok book own.last own.part ≡ false → P (keeping (refused_delivery 9 y) own)
    pub unfit : (not receiver || is_some before) ≡ true → P (keeping (refused_delivery 12 y) own)
    pub nothing : owed_place ids own.part ≡ None → P (keeping (refused_delivery 13 y) own)
    pub sends : account_ok book own.last own.part ≡ true → receiver ≡ true → before ≡ None → (k : ℕ) → owed_place ids own.part ≡ Some k
        → (let r = record_at k own.part in let o = over (deliver_sm y.sequence r) y.space in
        P (keeping (delivered 0 o.count o.space) (owning own.part own.last (set own.receipts s (outstanding (id_of r) y.sequence)))))

  -- what is the account's own once a receipt was asked for
  abbrev giving : Offered → Effect Own Answer
  giving o = keeping o.answer (owning own.part own.last (set own.receipts s o.receipt))

  pub delivery-cases : (P : Effect Own Answer → Type 0) → Deliveries P → P (on_delivery receiver book s y own)
  unfolding on_delivery offered sent
  delivery-cases P each =
      let R : Offered → Type 0 = λ o. P (giving o) in
      let ok = account_ok book own.last own.part in
      let unfit = not receiver || is_some before in
      if-cases R (not ok) _ _ (λ t. rw (set-get_or own.receipts s None) (each.ill (not-true ok t))) λ t.
      if-cases R unfit _ _ (λ u. rw (set-get_or own.receipts s None) (each.unfit u)) λ u.
      found-cases R (owed_place ids own.part) (λ k. sent y (record_at k own.part)) (refusing before y 13)
      (λ k e. each.sends (not-false ok t) (not-false receiver (or_left (not receiver) (is_some before) u))
      (none-outstanding before (or_right (not receiver) (is_some before) u)) k e)
      (λ e. rw (set-get_or own.receipts s None) (each.nothing e))
