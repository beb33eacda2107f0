-- The second property: opening and closing are steps, a pick changes nothing, a receipt no stored message and no last id, and the shapes of the
-- contracts leave nothing out. Assumes nothing.
use Prim.Native.Nat.{ℕ}
use mathlib.Core.Path.{◌≡◌, refl, ap}
use mathlib.Core.Bool.{false}
use mathlib.Core.List.{List}
use Rattle.answers.specs.Answer.{Delivery, delivering, pick, Answer}
use Rattle.answers.specs.Reply.{Written}
use Rattle.account.specs.Cancel.{Changed}
use Rattle.account.specs.Outcome.{Reported}
use Rattle.receipts.specs.Settle.{Settled}
use Rattle.isolation.specs.Platform.{part_of, World, fresh, on, of, Ran, step}
use Rattle.centre.specs.Operations.{Noted}
use Rattle.centre.specs.Centre.{centre, on_delivery, act}
use Rattle.properties.specs.Property2.{Picked, Property2}
use Rattle.properties.proofs.Back.{pick-back, SameStored, stored_back}
use Rattle.properties.proofs.OnCases.{on-cases}
use Rattle.properties.proofs.OfCases.{of-cases, of-refusal}
use Rattle.properties.proofs.Unique.{one-moved, one-handed, one-taken, one-delivered, one-reported, one-gave, one-asked, one-binds, one-offers, one-answers, one-fronts, one-acts, one-handles, one-comes, one_placed}
use Rattle.session.proofs.RefusalLaws.{one-outcome}
use Rattle.wire.proofs.StatusLaws.{one-outcome as one-status}

picking : (book : List ℕ) (w : World) (a : ℕ) → (let r = step centre book w (of a pick) in (r.world ≡ w) × Picked (part_of a w.table) r.answer)
unfolding act
picking book w a =
    let P : Ran Answer → Type 0 = λ r. (r.world ≡ w) × Picked (part_of a w.table) r.answer in
    of-cases book w a pick P (λ n why. (refl, of-refusal book w a pick n why))
    (λ _ _. pick-back w _ a P (λ n ne. (refl, ne)) (λ k below. (refl, (below, refl))))

receiving : (book : List ℕ) (w : World) (s : ℕ) (y : Delivery) → SameStored w (step centre book w (on s (delivering y))).world
unfolding act on_delivery
receiving book w s y =
    on-cases book w s (delivering y) (λ (r : Ran Answer). SameStored w r.world)
    (record { refused = λ _ _. (refl, refl); front = λ _ _. (refl, refl); asked = λ _ a _ _. stored_back w s a false _ _ refl refl })

pub property2 : Property2
unfolding step fresh
property2 =
    record {
      starting = refl;
      opening = λ book state table s. refl;
      closing = λ book state table s. refl;
      picking = picking;
      delivering = receiving;
      moved = one-moved;
      handed = one-handed;
      taken = one-taken;
      delivered = one-delivered;
      reported = one-reported;
      numbered = one-outcome;
      wrote = λ n n' s s' e. (ap (λ (w : Written). w.count) e, ap (λ (w : Written). w.space) e);
      gave = one-gave;
      changed = λ n n' p p' e. (ap (λ (c : Changed). c.status) e, ap (λ (c : Changed). c.part) e);
      refused = one-status;
      asked = one-asked;
      binds = one-binds;
      told = λ b b' p p' e. (ap (λ (r : Reported). r.waited) e, ap (λ (r : Reported). r.part) e);
      noted = λ n n' p p' e. (ap (λ (r : Noted). r.number) e, ap (λ (r : Noted). r.part) e);
      offers = one-offers;
      settling = λ r r' p p' e. (ap (λ (c : Settled). c.receipt) e, ap (λ (c : Settled). c.part) e);
      answers = one-answers;
      fronts = one-fronts;
      acts = one-acts;
      handles = one-handles;
      comes = one-comes;
      placed = one_placed;
    }
