-- The numbers that calls give: what holds of each number that a step can have, of 9 where the account is at fault, holds of the one that it has.
-- Assumes nothing.
use Prim.Native.Nat.{ℕ, ◌<◌}
use native.Mathlib.Omega.{arith}
use mathlib.Core.Path.{◌≡◌, refl, sym, subst, ◌∙◌}
use mathlib.Core.Bool.{true, false, false≢true}
use mathlib.Core.List.{List}
use lib.Dec.{eqb}
use lib.ListN.{length}
use Rattle.octets.specs.Stretch.{among}
use Rattle.octets.proofs.StretchLaws.{if-cases}
use Rattle.records.specs.Book.{book_record}
use Rattle.store.specs.Account.{account_ok}
use Rattle.session.specs.State.{account_count, entry_at, receiver_of}
use Rattle.isolation.specs.Platform.{World, Own, own_of, Step, opens, closes, on, of, Effect, Front, Ran, step}
use Rattle.isolation.specs.History.{bound_to}
use Rattle.answers.specs.Answer.{Octets, Delivery, Call, taking, delivering, Outcome, Question, outcome, pick, Answer, number_of}
use Rattle.bound.specs.Bound.{Turn, is_transmitter}
use Rattle.centre.specs.Operations.{Noted}
use Rattle.centre.specs.Centre.{centre, octets_early, delivery_early, outcome_early, pick_early, early_call, early_question, act}
use Rattle.properties.specs.Property1.{WellFormed, numbers_of}
use Rattle.properties.proofs.OpenCases.{open-cases}
use Rattle.properties.proofs.TurnCases.{any-turn}
use Rattle.properties.proofs.BoundCases.{bound-cases}
use Rattle.properties.proofs.DeliveryCases.{delivery-cases}
use Rattle.properties.proofs.QuestionCases.{noted-cases, picked-cases}
use Rattle.properties.proofs.MoveCases.{opens-cases, closes-cases}
use Rattle.properties.proofs.OnCases.{RefusedOn, above, early, unfit, nobody, on-cases}
use Rattle.properties.proofs.OfCases.{RefusedOf, unready, beyond, of-cases}

module _ (N : ℕ → Type 0) where
  abbrev Effects : Effect Own Answer → Type 0
  Effects e = N (number_of e.answer)

  abbrev Gives : Ran Answer → Type 0
  Gives r = N (number_of r.answer)

  -- each number of the step but 9
  abbrev pub Each : Step Call Question → Type 0
  Each st = (n : ℕ) → among n (numbers_of st) ≡ true → eqb n 9 ≡ false → N n

  module _ (book : List ℕ) (w : World) where
    pub opens-number : (s : ℕ) → Each (opens s) → Gives (step centre book w (opens s))
    opens-number s each = opens-cases book w s Gives (each 2 refl refl) (each 6 refl refl) (λ _ _. each 0 refl refl)

    pub closes-number : (s : ℕ) → Each (closes s) → Gives (step centre book w (closes s))
    closes-number s each = closes-cases book w s Gives (each 2 refl refl) (λ _. each 0 refl refl)

    -- an account above 7, or an ill-formed one
    abbrev pub Ill : ℕ → Type 0
    Ill a = a < account_count → WellFormed book w a → ⊥

    ill-formed : (a : ℕ) → (let own = own_of w a in account_ok (book_record a book) own.last own.part ≡ false) → Ill a
    ill-formed a f below ok = false≢true (sym f ∙ ok)

    -- ---- on a session

    module _ (s : ℕ) (nine : (a : ℕ) → bound_to a (entry_at w.state s) ≡ true → Ill a → N 9) where
      refused-on : (x : Call) → N 2 → N (early_call book (length w.table) x) → N 6 → (n : ℕ) → RefusedOn book w s x n → N n
      refused-on x two first six n (above _) = two
      refused-on x two first six n (early ne e) = subst N e first
      refused-on x two first six n (unfit _) = six
      refused-on x two first six n (nobody a bound over) = nine a bound (λ below _. omega arith)

      pub octets-number : (x : Octets) → Each (on s (taking x)) → Gives (step centre book w (on s (taking x)))
      unfolding octets_early act
      octets-number x each =
          let done = each 0 refl refl in
          let more = each 1 refl refl in
          let first : N (early_call book (length w.table) (taking x)) =
          if-cases N _ _ _ (λ _. each 3 refl refl) λ _. if-cases N _ _ _ (λ _. each 4 refl refl) λ _. if-cases N _ _ _ (λ _. each 5 refl refl) (λ _. done) in
          on-cases book w s (taking x) Gives
          (record {
            refused = refused-on (taking x) (each 2 refl refl) first (each 6 refl refl);
            front = λ _ _.
                open-cases book x (λ (f : Front Answer). N (number_of f.answer))
                (record { more = more; nak = done; quiet = λ _. done; replies = λ _ _ _ _ _ _. done; binds = λ _ _ _ _ _. done });
            asked = λ _ a e b.
                bound-cases (book_record a book) s x (own_of w a) Effects (λ (t : Turn). Unit) (is_transmitter e) (λ ill. nine a b.bound (ill-formed a ill))
                (λ _. any-turn _ _ _)
                (λ _. record { more = more; nak = done; quiet = λ _ _. done; replies = λ _ _ _ _ _. done });
          })

      pub delivery-number : (y : Delivery) → Each (on s (delivering y)) → Gives (step centre book w (on s (delivering y)))
      unfolding delivery_early act
      delivery-number y each =
          let first : N (early_call book (length w.table) (delivering y)) =
          if-cases N _ _ _ (λ _. each 3 refl refl) λ _. if-cases N _ _ _ (λ _. each 4 refl refl) (λ _. each 0 refl refl) in
          on-cases book w s (delivering y) Gives
          (record {
            refused = refused-on (delivering y) (each 2 refl refl) first (each 6 refl refl);
            front = λ _ _. each 12 refl refl;
            asked = λ _ a e b.
                delivery-cases (receiver_of a e) (book_record a book) s y (own_of w a) Effects
                (record {
                  ill = λ ill. nine a b.bound (ill-formed a ill);
                  unfit = λ _. each 12 refl refl;
                  nothing = λ _. each 13 refl refl;
                  sends = λ _ _ _ _ _. each 0 refl refl;
                });
          })

    -- ---- of an account

    module _ (a : ℕ) (nine : Ill a → N 9) where
      refused-of : (q : Question) → N (early_question book (length w.table) q) → N 7 → (n : ℕ) → RefusedOf book w a q n → N n
      refused-of q first seven n (unready ne e) = subst N e first
      refused-of q first seven n beyond = seven

      pub outcome-number : (x : Outcome) → Each (of a (outcome x)) → Gives (step centre book w (of a (outcome x)))
      unfolding outcome_early act
      outcome-number x each =
          let first : N (early_question book (length w.table) (outcome x)) =
          if-cases N _ _ _ (λ _. each 3 refl refl) λ _. if-cases N _ _ _ (λ _. each 5 refl refl) (λ _. each 0 refl refl) in
          of-cases book w a (outcome x) Gives (refused-of (outcome x) first (each 7 refl refl))
          (λ _ _. noted-cases _ _ _ x (λ (n : Noted). N n.number) (each 8 refl refl) (λ ill. nine (ill-formed a ill)) (each 10 refl refl) (λ _ _. each 0 refl refl))

      pub pick-number : Each (of a pick) → Gives (step centre book w (of a pick))
      unfolding pick_early act
      pick-number each =
          let first : N (early_question book (length w.table) pick) = if-cases N _ _ _ (λ _. each 3 refl refl) (λ _. each 0 refl refl) in
          of-cases book w a pick Gives (refused-of pick first (each 7 refl refl))
          (λ _ _. picked-cases _ _ _ (λ (r : Answer). N (number_of r)) (λ ill. nine (ill-formed a ill)) (each 11 refl refl) (λ _ _ _. each 0 refl refl))
