-- Every step deals with an account's marks and receipts as `Dealt` says; so a marked record stands until its receipt is acknowledged. Assumes nothing.
use Prim.Native.Nat.{ℕ, ◌*◌, ◌<◌}
use native.Mathlib.Omega.{arith}
use native.Mathlib.Decide.{ℕ_discrete}
use mathlib.Core.Path.{◌≡◌, sym, subst}
use mathlib.Core.List.{List}
use lib.ListN.{length}
use Rattle.octets.proofs.StretchLaws.{if-cases, part_length}
use Rattle.octets.proofs.PatchLaws.{part-patch}
use Rattle.records.specs.Layout.{places, id_of}
use Rattle.session.specs.State.{account_count, receipts_of, ended, issued}
use Rattle.session.specs.declared.Entry.{Entry}
use Rattle.session.specs.declared.Entry.TheVariants.{Closed, Open, Transmitter, Receiver, Ended}
use Rattle.session.specs.declared.State.{State}
use Rattle.isolation.specs.Platform.{part_size, table_size, World, Own, part_of, put_part, put_own, put_entry, become, Step, opens, closes, on, of, on_session, of_account, Request, Ran, ask, put, step}
use Rattle.isolation.proofs.Views.{View, view-other}
use Rattle.answers.specs.Answer.{Call, taking, delivering, Question, outcome, pick, Answer}
use Rattle.centre.specs.Centre.{centre, world, early_call, early_question, on_front}
use Rattle.properties.specs.NoneLost.{record_in, Owed, Acknowledges, Faithful, stands, acknowledged}
use Rattle.properties.proofs.Early.{early-octets, early-delivery, early-outcome, early-pick}
use Rattle.properties.proofs.Fewer.{Fewer, bound-fewer, granted_fewer}
use Rattle.properties.proofs.Dealt.{stands_same, Dealt, keeps, acknowledges, sends, same, dealt-fewer, call-dealt, question-dealt}
use Rattle.properties.proofs.Isolated as I
use Rattle.properties.proofs.MoveCases.{opens-cases, closes-cases}
use Rattle.properties.proofs.OnCases.{on-cases}
use Rattle.properties.proofs.OfCases.{of-cases}

module _ (book : List ℕ) (w : World) where
  -- the table that no early number refuses
  call-sized : (x : Call) → early_call book (length w.table) x ≡ 0 → length w.table ≡ table_size
  call-sized (taking x) fits = (early-octets _ _ _ _ fits).0.1
  call-sized (delivering y) fits = (early-delivery _ _ _ fits).0.1

  question-sized : (q : Question) → early_question book (length w.table) q ≡ 0 → length w.table ≡ table_size
  question-sized (outcome x) fits = (early-outcome _ _ _ fits).0.1
  question-sized pick fits = (early-pick _ _ fits).1

  asked-whole : length w.table ≡ table_size → (b : ℕ) (q : Request Call Question) → b < account_count → length (ask centre book w b q).own.part ≡ part_size
  asked-whole sized b q within = I.keeps book b q _ (part_length (part_size * b) part_size w.table (omega arith))

  module _ (a : ℕ) (below : a < account_count) where
    abbrev pub DealtIn : Step Call Question → World → Type 0
    DealtIn st v = Dealt w a st (part_of a v.table) (receipts_of v.state a)

    abbrev DealtRan : Step Call Question → Ran Answer → Type 0
    DealtRan st r = DealtIn st r.world

    -- ---- a session with a new entry

    entry-dealt : (st : Step Call Question) (s : ℕ) (e : Entry) → DealtIn st (put_entry w s e)
    entry-dealt st s e = keeps (stands_same _) (bound-fewer w.state a s e)

    become-dealt : (st : Step Call Question) (s : ℕ) (e : Entry) → DealtIn st (become w s e)
    become-dealt st s Closed = entry-dealt st s Closed
    become-dealt st s Open = same w a
    become-dealt st s (Transmitter b) = entry-dealt st s (Transmitter b)
    become-dealt st s (Receiver b) = entry-dealt st s (Receiver b)
    become-dealt st s Ended = entry-dealt st s Ended

    -- ---- what an account gives, put beside sessions on which no more is outstanding

    module _ (sized : length w.table ≡ table_size) (st : Step Call Question) (v : State) (fewer : Fewer (receipts_of v a) (receipts_of w.state a)) where
      own-dealt : (o : Own) → length o.part ≡ part_size → Dealt w a st o.part o.receipts → DealtIn st (put_own (world v w.table) a o)
      own-dealt o whole d =
          let there : part_of a (put_part a o.part w.table) ≡ o.part = rw whole at (part-patch w.table (part_size * a) o.part (omega arith)) in
          dealt-fewer w a st _ o.receipts _ (granted_fewer (issued v a o.last) a o.receipts) (rw there d)

      -- another account's leaves this one as it was
      asked-dealt : (b : ℕ) (q : Request Call Question) → b < account_count → (let o = (ask centre book w a q).own in Dealt w a st o.part o.receipts)
          → DealtRan st (put centre (world v w.table) b (ask centre book w b q))
      asked-dealt b q within mine =
          elim (ℕ_discrete b a) [
            | yes e ↦
                subst (λ (i : ℕ). DealtRan st (put centre (world v w.table) i (ask centre book w i q))) (sym e)
                (own-dealt (ask centre book w a q).own (asked-whole sized a q below) mine)
            | no ne ↦
                subst (λ (y : View). Dealt w a st y.own.part y.own.receipts)
                (sym (view-other a (world v w.table) b (ask centre book w b q).own (asked-whole sized b q within) (λ p. ne (sym p))))
                (keeps (stands_same _) fewer)
          ]

    -- ---- every step

    pub dealt : (st : Step Call Question) → DealtRan st (step centre book w st)
    dealt (opens s) = opens-cases book w s (DealtRan (opens s)) (same w a) (same w a) (λ _ _. entry-dealt (opens s) s Open)
    dealt (closes s) = closes-cases book w s (DealtRan (closes s)) (same w a) (λ _. entry-dealt (closes s) s Closed)
    dealt (on s x) =
        on-cases book w s x (DealtRan (on s x))
        (record {
          refused = λ _ _. same w a;
          front = λ _ _. become-dealt (on s x) s (on_front book x).after;
          asked = λ p b e bound.
              let q = on_session s e x in
              let sized = call-sized x p.fits in
              let putting : (v : State) → Fewer (receipts_of v a) (receipts_of w.state a) → DealtRan (on s x) (put centre (world v w.table) b (ask centre book w b q)) =
              λ v fewer. asked-dealt sized (on s x) v fewer b q bound.below (call-dealt w a sized below book s e x p.fits) in
              if-cases (λ (u : World). DealtRan (on s x) (put centre u b (ask centre book w b q))) (ask centre book w b q).ends (put_entry w s Ended) w
              (λ _. putting (ended w.state s) (bound-fewer w.state a s Ended))
              (λ _. putting w.state (λ _ _ _ h. h));
        })
    dealt (of b q) =
        of-cases book w b q (DealtRan (of b q)) (λ _ _. same w a)
        (λ fits within. let sized = question-sized q fits in
        asked-dealt sized (of b q) w.state (λ _ _ _ h. h) b (of_account q) within (question-dealt w a sized below (of b q) book q fits))

-- a marked record stands, or its receipt is acknowledged
pub marks-kept : (book : List ℕ) (w : World) (st : Step Call Question) (a k : ℕ) → a < account_count → k < places → Owed w a k → Faithful book w a k st
marks-kept book w st a k below inside owed = by st (dealt book w a below st)
  where
    by : (st : Step Call Question) → DealtIn book w a below st (step centre book w st).world → Faithful book w a k st
    by st (keeps kept fewer) = stands (kept.marks k inside owed)
    by (on s (taking x)) (acknowledges id ack kept fewer) =
        elim (ℕ_discrete (id_of (record_in w a k)) id) [
          | yes e ↦ acknowledged (subst (λ (i : ℕ). Acknowledges w a i s x) (sym e) ack) (kept.named k inside owed e)
          | no ne ↦ stands (kept.others k ne)
        ]
    by st (sends j _ _ kept fewer) = stands (kept.marks k inside owed)
