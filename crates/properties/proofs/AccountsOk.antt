-- From a fresh platform, an account with a used and well-formed book record stays well formed: whatever is asked leaves its own account so, and
-- another's as it was. Assumes nothing.
use Prim.Native.Nat.{ℕ, ◌*◌, ◌<◌}
use native.Mathlib.Omega.{arith}
use mathlib.Core.Path.{◌≡◌, refl, sym, subst}
use mathlib.Core.Bool.{Bool, true, false}
use mathlib.Core.List.{List, [], ◌∷◌}
use lib.Dec.{eqb}
use lib.ListN.{length, replicate}
use borrow.Author.Tests.{eqb-true, eqb-false}
use Rattle.octets.specs.Stretch.{is_zero}
use Rattle.octets.proofs.StretchLaws.{if-cases, part_length}
use Rattle.records.proofs.RecordLaws.{zeros-part}
use Rattle.records.specs.Book.{book_size, book_record, book_record_size, used_ok}
use Rattle.session.specs.State.{account_count}
use Rattle.session.specs.declared.Entry.{Entry}
use Rattle.session.specs.declared.Entry.TheVariants.{Closed, Open, Transmitter, Receiver, Ended}
use Rattle.isolation.specs.Platform.{part_size, table_size, World, fresh, Own, own_of, put_own, put_entry, become, Step, opens, closes, on, of, Request, on_session, of_account, Ran, ask, put, step}
use Rattle.isolation.specs.History.{after}
use Rattle.isolation.proofs.Sizes.{Sized, sized_fresh, sized-step, sized-entry, asked-length}
use Rattle.isolation.proofs.Views.{View, view-own, view-other}
use Rattle.answers.specs.Answer.{Call, taking, delivering, Question, outcome, pick, Answer}
use Rattle.bound.specs.Bound.{is_transmitter}
use Rattle.centre.specs.Centre.{centre, early_call, early_question, on_delivery, on_front, act}
use Rattle.wellformed.proofs.GoodIs.{zeros-at}
use Rattle.wellformed.proofs.GoodPartIs.{good-account}
use Rattle.wellformed.proofs.TextFields.{every-replicate}
use Rattle.properties.proofs.AccountFine.{Fine, octets-fine, noted-fine}
use Rattle.properties.proofs.Early.{early-octets, early-outcome}
use Rattle.properties.proofs.FreshOk.{zeros-good}
use Rattle.properties.proofs.Isolated.{keeps}
use Rattle.properties.proofs.MoveCases.{opens-cases, closes-cases}
use Rattle.properties.proofs.OnCases.{on-cases}
use Rattle.properties.proofs.OfCases.{of-cases}

module _ (book : List ℕ) (A : ℕ) (below : A < account_count) where
  record-sized : length book ≡ book_size → length (book_record A book) ≡ book_record_size
  record-sized e = part_length (book_record_size * A) book_record_size book (omega arith)

  -- what is account A's own, and account A in a world
  abbrev FineOwn : Own → Type 0
  FineOwn o = Fine (book_record A book) o.last o.part

  abbrev FineIn : World → Type 0
  FineIn w = FineOwn (own_of w A)

  abbrev FineRan : Ran Answer → Type 0
  FineRan r = FineIn r.world

  -- what account a gives is put into u
  put-fine : (u : World) → Sized u → FineIn u → (a : ℕ) (o : Own) → length o.part ≡ part_size → (a ≡ A → FineOwn o) → FineIn (put_own u a o)
  put-fine u z fine a o l mine = by (eqb a A) refl
    where
      by : (t : Bool) → eqb a A ≡ t → FineIn (put_own u a o)
      by true e =
          let same = eqb-true a A e in
          subst (λ (i : ℕ). FineIn (put_own u i o)) (sym same) (subst (λ (v : View). FineOwn v.own) (sym (view-own A u z o l below)) (mine same))
      by false e = subst (λ (v : View). FineOwn v.own) (sym (view-other A u a o l (λ p. eqb-false a A e (sym p)))) fine

  module _ (w : World) (z : Sized w) (fine : FineIn w) where
    whole : length (own_of w A).part ≡ part_size
    whole = part_length (part_size * A) part_size w.table (omega (arith, z.table))

    -- ---- account A asked

    call-fine : (s : ℕ) (e : Entry) (x : Call) → early_call book (length w.table) x ≡ 0 → FineOwn (ask centre book w A (on_session s e x)).own
    unfolding act on_delivery
    call-fine s e (taking x) fits =
        let h = early-octets _ _ _ _ fits in
        octets-fine _ _ whole fine (is_transmitter e) s x (record-sized h.0.0) h.2
    call-fine s e (delivering y) fits = fine

    question-fine : (q : Question) → early_question book (length w.table) q ≡ 0 → FineOwn (ask centre book w A (of_account q)).own
    unfolding act
    question-fine (outcome x) fits = noted-fine _ (own_of w A) whole fine x (early-outcome _ _ _ fits).1
    question-fine pick fits = fine

    -- ---- steps

    asked-fine : (a : ℕ) (q : Request Call Question) → a < account_count → FineOwn (ask centre book w A q).own
        → (u : World) → Sized u → FineIn u → FineRan (put centre u a (ask centre book w a q))
    asked-fine a q l mine u y f =
        put-fine u y f a (ask centre book w a q).own (asked-length centre book w z keeps a q l)
        (λ same. subst (λ (i : ℕ). FineOwn (ask centre book w i q).own) (sym same) mine)

    become-fine : (s : ℕ) (e : Entry) → FineIn (become w s e)
    become-fine s Closed = fine
    become-fine s Open = fine
    become-fine s (Transmitter a) = fine
    become-fine s (Receiver a) = fine
    become-fine s Ended = fine

    fine-step : (st : Step Call Question) → FineRan (step centre book w st)
    fine-step (opens s) = opens-cases book w s FineRan fine fine (λ _ _. fine)
    fine-step (closes s) = closes-cases book w s FineRan fine (λ _. fine)
    fine-step (on s x) =
        on-cases book w s x FineRan
        (record {
          refused = λ _ _. fine;
          front = λ _ _. become-fine s (on_front book x).after;
          asked = λ p a e b.
              let q = on_session s e x in
              let putting = asked-fine a q b.below (call-fine s e x p.fits) in
              if-cases (λ (u : World). FineRan (put centre u a (ask centre book w a q))) (ask centre book w a q).ends (put_entry w s Ended) w
              (λ _. putting (put_entry w s Ended) (sized-entry w z s Ended) fine) (λ _. putting w z fine);
        })
    fine-step (of a q) = of-cases book w a q FineRan (λ _ _. fine) (λ fits l. asked-fine a (of_account q) l (question-fine q fits) w z fine)

  fine-after : (hs : List (Step Call Question)) (w : World) → Sized w → FineIn w → FineIn (after centre book w hs)
  fine-after [] w z fine = fine
  fine-after (st ∷ hs) w z fine = fine-after hs _ (sized-step centre book w z st) (fine-step w z fine st)

  fine-fresh : used_ok (book_record A book) ≡ true → FineIn fresh
  unfolding fresh
  fine-fresh used =
      let z = zeros-at (replicate account_count 0) A (every-replicate is_zero account_count 0 refl) in
      record {
        ok = good-account _ _ _ used (zeros-good _ _ (zeros-part (part_size * A) part_size (replicate table_size 0) (every-replicate is_zero table_size 0 refl)));
        bits = omega (arith, z);
      }

  pub fine-history : (hs : List (Step Call Question)) → used_ok (book_record A book) ≡ true → FineIn (after centre book fresh hs)
  fine-history hs used = fine-after hs fresh sized_fresh (fine-fresh used)
