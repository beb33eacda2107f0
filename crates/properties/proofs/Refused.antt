-- A refused call gives its refusal and changes nothing. Assumes nothing.
use Prim.Native.Nat.{ℕ}
use mathlib.Core.Path.{◌≡◌, refl}
use mathlib.Core.List.{List}
use Rattle.records.specs.Book.{book_record}
use Rattle.session.specs.State.{receiver_of}
use Rattle.session.specs.declared.Entry.{Entry}
use Rattle.isolation.specs.Platform.{World, Own, owning, own_of, become, Step, opens, closes, on, of, Effect, Front, Ran, unchanged, put, conclude, step}
use Rattle.answers.specs.Answer.{Octets, Delivery, taking, delivering, Call, Outcome, Question, outcome, pick, Answer, numbered, refused_octets, refused_delivery, number_of}
use Rattle.open.specs.Open.{on_open}
use Rattle.bound.specs.Bound.{Turn, keeping, is_transmitter}
use Rattle.centre.specs.Operations.{Noted, noted}
use Rattle.centre.specs.Centre.{centre, on_octets, on_delivery, act}
use Rattle.properties.specs.Property1.{refusal}
use Rattle.properties.proofs.Back.{account-back, concluded-back, pick-back}
use Rattle.properties.proofs.OpenCases.{open-cases}
use Rattle.properties.proofs.TurnCases.{any-turn}
use Rattle.properties.proofs.BoundCases.{bound-cases}
use Rattle.properties.proofs.DeliveryCases.{delivery-cases}
use Rattle.properties.proofs.QuestionCases.{noted-cases}
use Rattle.properties.proofs.MoveCases.{opens-cases, closes-cases}
use Rattle.properties.proofs.OnCases.{on-cases}
use Rattle.properties.proofs.OfCases.{of-cases}

module _ (w : World) where
  -- what is shown of a step and what it gives
  abbrev Refuses : Step Call Question → Ran Answer → Type 0
  Refuses st r = (number_of r.answer ≡ 0 → ⊥) → r ≡ unchanged centre w (refusal st (number_of r.answer))

  refused-open : (book : List ℕ) (s : ℕ) (x : Octets) → (let f = on_open book x in
      Refuses (on s (taking x)) (record { answer = f.answer; world = become w s f.after }))
  refused-open book s x =
      open-cases book x (λ (f : Front Answer). Refuses (on s (taking x)) (record { answer = f.answer; world = become w s f.after }))
      (record {
        more = λ _. refl;
        nak = λ ne. absurd (ne refl);
        quiet = λ _ ne. absurd (ne refl);
        replies = λ _ _ _ _ _ _ ne. absurd (ne refl);
        binds = λ _ _ _ _ _ ne. absurd (ne refl);
      })

  module _ (book : List ℕ) (s a : ℕ) (e : Entry) where
    refused-octets : (x : Octets) → Refuses (on s (taking x)) (conclude centre w s a (on_octets (is_transmitter e) book s x (own_of w a)))
    refused-octets x =
        bound-cases book s x (own_of w a) (λ (r : Effect Own Answer). Refuses (on s (taking x)) (conclude centre w s a r)) (λ (t : Turn). Unit) (is_transmitter e)
        (λ _ _. concluded-back w s a (refused_octets 9 x))
        (λ _. any-turn _ _ _)
        (λ _. record {
          more = λ _. concluded-back w s a (refused_octets 1 x);
          nak = λ ne. absurd (ne refl);
          quiet = λ _ _ ne. absurd (ne refl);
          replies = λ _ _ _ _ _ ne. absurd (ne refl);
        })

    refused-delivery : (y : Delivery) → Refuses (on s (delivering y)) (conclude centre w s a (on_delivery (receiver_of a e) book s y (own_of w a)))
    refused-delivery y =
        delivery-cases (receiver_of a e) book s y (own_of w a) (λ (r : Effect Own Answer). Refuses (on s (delivering y)) (conclude centre w s a r))
        (record {
          ill = λ _ _. concluded-back w s a (refused_delivery 9 y);
          unfit = λ _ _. concluded-back w s a (refused_delivery 12 y);
          nothing = λ _ _. concluded-back w s a (refused_delivery 13 y);
          sends = λ _ _ _ _ _ ne. absurd (ne refl);
        })

  module _ (book : List ℕ) (a : ℕ) where
    refused-outcome : (x : Outcome) → (let own = own_of w a in let n = noted book x own.last own.part in
        Refuses (of a (outcome x)) (put centre w a (keeping (numbered n.number) (owning n.part own.last own.receipts))))
    refused-outcome x =
        let own = own_of w a in
        noted-cases book own.last own.part x
        (λ (n : Noted). Refuses (of a (outcome x)) (put centre w a (keeping (numbered n.number) (owning n.part own.last own.receipts))))
        (λ _. account-back w a (numbered 8)) (λ _ _. account-back w a (numbered 9)) (λ _. account-back w a (numbered 10)) (λ _ _ ne. absurd (ne refl))

  pub refused-step : (book : List ℕ) (st : Step Call Question) → Refuses st (step centre book w st)
  unfolding act
  refused-step book (opens s) = opens-cases book w s (Refuses (opens s)) (λ _. refl) (λ _. refl) (λ _ _ ne. absurd (ne refl))
  refused-step book (closes s) = closes-cases book w s (Refuses (closes s)) (λ _. refl) (λ _ ne. absurd (ne refl))
  refused-step book (on s (taking x)) =
      on-cases book w s (taking x) (Refuses (on s (taking x)))
      (record { refused = λ _ _ _. refl; front = λ _ _. refused-open book s x; asked = λ _ a e _. refused-octets (book_record a book) s a e x })
  refused-step book (on s (delivering y)) =
      on-cases book w s (delivering y) (Refuses (on s (delivering y)))
      (record { refused = λ _ _ _. refl; front = λ _ _ _. refl; asked = λ _ a e _. refused-delivery (book_record a book) s a e y })
  refused-step book (of a (outcome x)) =
      of-cases book w a (outcome x) (Refuses (of a (outcome x))) (λ _ _ _. refl) (λ _ _. refused-outcome (book_record a book) a x)
  refused-step book (of a pick) =
      of-cases book w a pick (Refuses (of a pick)) (λ _ _ _. refl) (λ _ _. pick-back w _ a (Refuses (of a pick)) (λ _ _ _. refl) (λ _ _ ne. absurd (ne refl)))
