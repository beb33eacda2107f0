-- Number 0 comes only where session, buffers, time stamp and stored records are right. Assumes nothing.
use Prim.Native.Nat.{ℕ, ◌<◌}
use native.Mathlib.Omega.{arith}
use mathlib.Core.Path.{◌≡◌, refl, sym, subst, ◌∙◌}
use mathlib.Core.Bool.{Bool, true, false≢true}
use mathlib.Core.List.{List}
use lib.ListN.{get_or}
use borrow.Author.Tests.{eqb-true}
use Rattle.std.specs.Prelude.{None}
use Rattle.octets.proofs.StretchLaws.{if-cases}
use Rattle.store.specs.Account.{account_ok}
use Rattle.session.specs.State.{account_count, entry_at, receiver_of, receipts_of, is_receiver}
use Rattle.session.specs.declared.Entry.{Entry}
use Rattle.session.specs.declared.Entry.TheVariants.{Closed, Open, Transmitter, Receiver, Ended}
use Rattle.isolation.specs.Platform.{World, Own, Step, opens, closes, on, of, Effect, Ran, step}
use Rattle.isolation.specs.History.{bound_to}
use Rattle.answers.specs.Answer.{Octets, Delivery, Call, taking, delivering, Question, outcome, pick, Answer, number_of}
use Rattle.bound.specs.Bound.{is_transmitter, Hand, on_bound}
use Rattle.centre.specs.Operations.{Noted}
use Rattle.centre.specs.Centre.{centre, on_octets, on_delivery, act}
use Rattle.properties.specs.Property1.{WellFormed, is_live, Right}
use Rattle.properties.proofs.Early.{early-octets, early-delivery, early-outcome, early-pick}
use Rattle.properties.proofs.DeliveryCases.{delivery-cases}
use Rattle.properties.proofs.QuestionCases.{noted-cases, picked-cases}
use Rattle.properties.proofs.MoveCases.{opens-cases, closes-cases}
use Rattle.properties.proofs.OnCases.{on-refusal, on-cases}
use Rattle.properties.proofs.OfCases.{of-refusal, of-cases}

-- ---- entries

bound-live : (a : ℕ) (e : Entry) → bound_to a e ≡ true → is_live e ≡ true
bound-live a Closed t = t
bound-live a Open t = refl
bound-live a (Transmitter b) t = refl
bound-live a (Receiver b) t = refl
bound-live a Ended t = t

receiver-is : (a : ℕ) (e : Entry) → receiver_of a e ≡ true → is_receiver e ≡ true
receiver-is a Closed t = t
receiver-is a Open t = t
receiver-is a (Transmitter b) t = t
receiver-is a (Receiver b) t = refl
receiver-is a Ended t = t

-- a session is bound to one account only
bound-one : (a b : ℕ) (e : Entry) → bound_to a e ≡ true → bound_to b e ≡ true → a ≡ b
bound-one a b Closed t u = absurd (false≢true t)
bound-one a b Open t u = absurd (false≢true t)
bound-one a b (Transmitter c) t u = sym (eqb-true c a t) ∙ eqb-true c b u
bound-one a b (Receiver c) t u = sym (eqb-true c a t) ∙ eqb-true c b u
bound-one a b Ended t u = absurd (false≢true t)

-- ---- an account asked on a session

module _ (book : List ℕ) (s : ℕ) (own : Own) where
  abbrev Ok : Type 0
  Ok = account_ok book own.last own.part ≡ true

  octets-sound : (transmitter : Bool) (x : Octets) → number_of (on_octets transmitter book s x own).answer ≡ 0 → Ok
  unfolding on_octets on_bound
  octets-sound transmitter x =
      if-cases (λ (e : Effect Hand Answer). number_of e.answer ≡ 0 → Ok) (account_ok book own.last own.part) _ _ (λ ok _. ok) (λ _ z. absurd (omega arith))

  delivery-sound : (receiver : Bool) (y : Delivery) → number_of (on_delivery receiver book s y own).answer ≡ 0 → Ok × (receiver ≡ true) × (get_or own.receipts s None ≡ None)
  delivery-sound receiver y =
      delivery-cases receiver book s y own (λ (e : Effect Own Answer). number_of e.answer ≡ 0 → Ok × (receiver ≡ true) × (get_or own.receipts s None ≡ None))
      (record {
        ill = λ _ z. absurd (omega arith);
        unfit = λ _ z. absurd (omega arith);
        nothing = λ _ z. absurd (omega arith);
        sends = λ ok receives none _ _ _. (ok, receives, none);
      })

-- ---- steps

module _ (book : List ℕ) (w : World) where
  abbrev If : Type 0 → Ran Answer → Type 0
  If R r = number_of r.answer ≡ 0 → R

  abbrev Known : ℕ → Type 0
  Known a = (a < account_count) × WellFormed book w a

  abbrev Free : ℕ → ℕ → Type 0
  Free s a = (a < account_count) × WellFormed book w a × (get_or (receipts_of w.state a) s None ≡ None)

  -- the account that the session is bound to is the only one
  only : (K : ℕ → Type 0) (s a : ℕ) → bound_to a (entry_at w.state s) ≡ true → K a → (c : ℕ) → bound_to c (entry_at w.state s) ≡ true → K c
  only K s a t k c u = subst K (bound-one a c (entry_at w.state s) t u) k

  pub right : (st : Step Call Question) → If (Right book w st) (step centre book w st)
  unfolding act
  right (opens s) =
      opens-cases book w s (If (Right book w (opens s))) (λ z. absurd (omega arith)) (λ z. absurd (omega arith)) (λ below closed _. (below, closed))
  right (closes s) = closes-cases book w s (If (Right book w (closes s))) (λ z. absurd (omega arith)) (λ below _. below)
  right (on s (taking x)) =
      on-cases book w s (taking x) (If (Right book w (on s (taking x))))
      (record {
        refused = λ n why z. absurd (on-refusal book w s (taking x) n why z);
        front = λ p h _. let f = early-octets _ _ _ _ p.fits in
            (p.session, rw h, f.0.0, f.0.1, f.1, f.2, λ a t. absurd (false≢true (rw h at t)));
        asked = λ p a e b z. let f = early-octets _ _ _ _ p.fits in
            let ok = octets-sound _ s _ (is_transmitter e) x z in
            (p.session, bound-live a (entry_at w.state s) b.bound, f.0.0, f.0.1, f.1, f.2, only Known s a b.bound (b.below, ok));
      })
  right (on s (delivering y)) =
      on-cases book w s (delivering y) (If (Right book w (on s (delivering y))))
      (record {
        refused = λ n why z. absurd (on-refusal book w s (delivering y) n why z);
        front = λ _ _ z. absurd (omega arith);
        asked = λ p a e b z. let f = early-delivery _ _ _ p.fits in
            let o = delivery-sound _ s _ (receiver_of a e) y z in
            (p.session, receiver-is a (entry_at w.state s) (rw b.entry o.1), f.0.0, f.0.1, f.1, only (Free s) s a b.bound (b.below, o.0, o.2));
      })
  right (of a (outcome x)) =
      of-cases book w a (outcome x) (If (Right book w (of a (outcome x)))) (λ n why z. absurd (of-refusal book w a (outcome x) n why z))
      (λ fits below. let f = early-outcome _ _ _ fits in
      noted-cases _ _ _ x (λ (n : Noted). n.number ≡ 0 → Right book w (of a (outcome x))) (λ z. absurd (omega arith)) (λ _ z. absurd (omega arith)) (λ z. absurd (omega arith))
      (λ _ ok _. (f.0.0, f.0.1, f.1, below, ok)))
  right (of a pick) =
      of-cases book w a pick (If (Right book w (of a pick))) (λ n why z. absurd (of-refusal book w a pick n why z))
      (λ fits below. let f = early-pick _ _ fits in
      picked-cases _ _ _ (λ (r : Answer). number_of r ≡ 0 → Right book w (of a pick)) (λ _ z. absurd (omega arith)) (λ z. absurd (omega arith))
      (λ ok _ _ _. (f.0, f.1, below, ok)))
