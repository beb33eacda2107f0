-- A receipt that is owed and outstanding nowhere is not passed over: a receiver of the account on which none is outstanding gets one. Assumes nothing.
use Prim.Native.Nat.{ℕ, ◌<◌}
use native.Mathlib.Omega.{arith}
use mathlib.Core.Path.{◌≡◌, refl, sym, ap, ◌∙◌}
use mathlib.Core.Bool.{true, false, not, false≢true, true≢false}
use mathlib.Core.List.{List}
use lib.ListN.{get_or}
use borrow.Author.Tests.{eqb-true, eq-eqb}
use Rattle.std.specs.Prelude.{None}
use Rattle.octets.specs.Stretch.{among}
use Rattle.octets.proofs.StretchLaws.{and_both}
use Rattle.records.specs.Layout.{places, id_of}
use Rattle.records.specs.Record.{marked}
use Rattle.records.specs.Book.{book_record}
use Rattle.store.specs.Search.{owed}
use Rattle.session.specs.State.{account_count, entry_at, receiver_of, receipts_of, held_ids}
use Rattle.session.specs.declared.Entry.TheVariants.{Receiver}
use Rattle.isolation.specs.Platform.{World, Own, own_of, part_of, on, on_session, Effect, Ran, ask, step}
use Rattle.isolation.specs.History.{bound_to}
use Rattle.answers.specs.Answer.{Delivery, delivering, Answer, number_of}
use Rattle.centre.specs.Centre.{centre, act}
use Rattle.wellformed.proofs.Lowest.{found_none}
use Rattle.properties.specs.Property1.{WellFormed, Right}
use Rattle.properties.specs.NoneLost.{record_in, Owed}
use Rattle.properties.proofs.Early.{delivery-ready}
use Rattle.properties.proofs.DeliveryCases.{delivery-cases}
use Rattle.properties.proofs.OnCases.{RefusedOn, above, early, unfit, nobody, on-cases}
use Rattle.properties.proofs.Dealt.{receiver-is}

module _ (book : List ℕ) (w : World) (s : ℕ) (y : Delivery) (a k : ℕ) where
  -- the account, asked on its receiver
  account-written : WellFormed book w a → get_or (receipts_of w.state a) s None ≡ None → k < places → Owed w a k
      → among (id_of (record_in w a k)) (held_ids w.state a) ≡ false
      → number_of (ask centre book w a (on_session s (Receiver a) (delivering y))).answer ≡ 0
  unfolding act
  account-written ok free inside m new =
      delivery-cases (receiver_of a (Receiver a)) (book_record a book) s y (own_of w a) (λ (e : Effect Own Answer). number_of e.answer ≡ 0)
      (record {
        ill = λ ill. absurd (true≢false (sym ok ∙ ill));
        unfit = λ u. absurd (false≢true (rw (eq-eqb a a refl, free) at u));
        nothing = λ none.
            let ids = held_ids w.state a in
            let passed = found_none (owed ids) id_of (part_of a w.table) none k inside in
            absurd (true≢false (sym (and_both (marked (record_in w a k)) _ m (ap not new)) ∙ passed));
        sends = λ _ _ _ _ _. refl;
      })

  pub written : Right book w (on s (delivering y)) → receiver_of a (entry_at w.state s) ≡ true → k < places → Owed w a k
      → among (id_of (record_in w a k)) (held_ids w.state a) ≡ false → number_of (step centre book w (on s (delivering y))).answer ≡ 0
  written right receives inside m new =
      on-cases book w s (delivering y) (λ (r : Ran Answer). number_of r.answer ≡ 0)
      (record {
        refused = refused;
        front = λ _ e. absurd (false≢true (rw e at receives));
        asked = λ _ c e b.
            rw (sym (bound-one c b.bound), sym b.entry ∙ entry) (account-written known.1 known.2 inside m new);
      })
    where
      entry : entry_at w.state s ≡ Receiver a
      entry = receiver-is a (entry_at w.state s) receives

      bound-one : (c : ℕ) → bound_to c (entry_at w.state s) ≡ true → a ≡ c
      bound-one c t = eqb-true a c (rw entry at t)

      known : (a < account_count) × WellFormed book w a × (get_or (receipts_of w.state a) s None ≡ None)
      known = right.5 a (rw entry (eq-eqb a a refl))

      refused : (n : ℕ) → RefusedOn book w s (delivering y) n → n ≡ 0
      refused n (above over) = absurd (omega (arith, right.0))
      refused n (early ne e) = sym e ∙ delivery-ready _ _ _ right.2 right.3 right.4
      refused n (unfit dead) = absurd (true≢false (rw entry at dead))
      refused n (nobody c bound over) = absurd (omega (arith, known.0, bound-one c bound))
