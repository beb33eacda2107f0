-- What a step may do to an account's records and to its receipts, and that whatever the account is asked does no more. Assumes nothing.
use Prim.Native.Nat.{ℕ, ◌*◌, ◌<◌}
use native.Mathlib.Omega.{arith}
use mathlib.Core.Path.{◌≡◌, refl, sym, ap, ◌∙◌}
use mathlib.Core.Bool.{Bool, true, false≢true}
use mathlib.Core.List.{List}
use lib.ListN.{length, take, get_or, set}
use lib.Seq.{set-get_or}
use borrow.Author.Tests.{eqb-true}
use Rattle.std.specs.Prelude.{Option, None}
use Rattle.octets.proofs.StretchLaws.{if-cases, part_length}
use Rattle.forms.specs.Time.{sent_time}
use Rattle.wire.specs.Frame.{header_of}
use Rattle.records.specs.Layout.{places, id_of, registered_of}
use Rattle.records.specs.Record.{marked}
use Rattle.records.specs.Book.{book_record}
use Rattle.store.specs.Places.{record_at}
use Rattle.store.specs.Search.{waiting, owed}
use Rattle.changes.specs.Change.{unmarked}
use Rattle.session.specs.State.{account_count, entry_at, receiver_of, receipts_of, held_ids, outstanding}
use Rattle.session.specs.declared.Entry.{Entry}
use Rattle.session.specs.declared.Entry.TheVariants.{Closed, Open, Transmitter, Receiver, Ended}
use Rattle.session.specs.declared.Receipt.{Receipt}
use Rattle.session.proofs.ReceiptLaws.{receipts-at}
use Rattle.receipts.specs.Settle.{Settled}
use Rattle.isolation.specs.Platform.{part_size, table_size, World, Own, own_of, part_of, Step, on, on_session, of_account, Effect, ask}
use Rattle.answers.specs.Answer.{Octets, Delivery, Call, taking, delivering, Question, outcome, pick, Answer}
use Rattle.bound.specs.Bound.{Turn}
use Rattle.centre.specs.Operations.{Noted}
use Rattle.centre.specs.Centre.{centre, early_call, early_question, on_octets, on_delivery, act}
use Rattle.wellformed.proofs.Cases.{settled-cases}
use Rattle.wellformed.proofs.Lowest.{found-place, found-passes}
use Rattle.wellformed.proofs.Marks.{submitted-marks, cancelled-marks, replaced-marks, reported-marks, acknowledged-mark, acknowledged-marks}
use Rattle.wellformed.proofs.Arises.{Told, waiting-told, submitted-arises, cancelled-arises, replaced-arises, reported-arises, acknowledged-arises}
use Rattle.properties.specs.NoneLost.{record_in, OutstandingOn, Acknowledges}
use Rattle.properties.proofs.Early.{early-octets, early-outcome}
use Rattle.properties.proofs.BoundCases.{bound-cases}
use Rattle.properties.proofs.DeliveryCases.{delivery-cases}
use Rattle.properties.proofs.QuestionCases.{noted-cases}
use Rattle.properties.proofs.Fewer.{Fewer, none≢outstanding, none-fewer}

-- a waiting, registered record that ends is marked
abbrev pub Arises : List ℕ → List ℕ → Type 0
Arises before part = (k : ℕ) → k < places → waiting (record_at k before) ≡ true → registered_of (record_at k before) ≡ 1 → Told (record_at k part)

-- every marked record stands, octet for octet
pub record Stands (before part : List ℕ) : Type 0 where
  pub marks : (k : ℕ) → k < places → marked (record_at k before) ≡ true → record_at k part ≡ record_at k before
  pub arises : Arises before part

-- every record stands but the one with this id, of which the mark alone is taken
pub record StandsBut (id : ℕ) (before part : List ℕ) : Type 0 where
  pub others : (k : ℕ) → (id_of (record_at k before) ≡ id → ⊥) → record_at k part ≡ record_at k before
  pub named : (k : ℕ) → k < places → marked (record_at k before) ≡ true → id_of (record_at k before) ≡ id → record_at k part ≡ unmarked (record_at k before)
  pub arises : Arises before part

pub stands_same : (part : List ℕ) → Stands part part
stands_same part = record { marks = λ _ _ _. refl; arises = λ k _ w _. waiting-told (record_at k part) (record_at k part) w refl }

-- account a's part and its receipts after a step: no mark is taken and no receipt is added; a receipt is acknowledged, and is outstanding no more; or
-- one is sent that was owed and outstanding nowhere
pub data Dealt (w : World) (a : ℕ) : Step Call Question → List ℕ → List (Option Receipt) → Type 0 where
  keeps : {st : Step Call Question} {part : List ℕ} {rs : List (Option Receipt)} → Stands (part_of a w.table) part → Fewer rs (receipts_of w.state a)
      → Dealt w a st part rs
  acknowledges : {s : ℕ} {x : Octets} {part : List ℕ} {rs : List (Option Receipt)} (id : ℕ) → Acknowledges w a id s x → StandsBut id (part_of a w.table) part
      → Fewer rs (set (receipts_of w.state a) s None) → Dealt w a (on s (taking x)) part rs
  sends : {s : ℕ} {y : Delivery} {part : List ℕ} {rs : List (Option Receipt)} (k : ℕ) → k < places → owed (held_ids w.state a) (record_in w a k) ≡ true
      → Stands (part_of a w.table) part → Fewer rs (set (receipts_of w.state a) s (outstanding (id_of (record_in w a k)) y.sequence))
      → Dealt w a (on s (delivering y)) part rs

pub receiver-is : (a : ℕ) (e : Entry) → receiver_of a e ≡ true → e ≡ Receiver a
receiver-is a Closed h = absurd (false≢true h)
receiver-is a Open h = absurd (false≢true h)
receiver-is a (Transmitter b) h = absurd (false≢true h)
receiver-is a (Receiver b) h = ap Receiver (eqb-true b a h)
receiver-is a Ended h = absurd (false≢true h)

module _ (w : World) (a : ℕ) where
  pub same : {st : Step Call Question} → Dealt w a st (part_of a w.table) (receipts_of w.state a)
  same = keeps (stands_same _) (λ _ _ _ e. e)

  -- with fewer receipts still
  pub dealt-fewer : (st : Step Call Question) (part : List ℕ) (rs less : List (Option Receipt)) → Fewer less rs → Dealt w a st part rs → Dealt w a st part less
  dealt-fewer st part rs less f (keeps stands g) = keeps stands (λ t id sequence e. g t id sequence (f t id sequence e))
  dealt-fewer st part rs less f (acknowledges id ack stands g) = acknowledges id ack stands (λ t i sequence e. g t i sequence (f t i sequence e))
  dealt-fewer st part rs less f (sends k inside fit stands g) = sends k inside fit stands (λ t id sequence e. g t id sequence (f t id sequence e))

  -- in each case
  pub dealt-arises : (st : Step Call Question) (part : List ℕ) (rs : List (Option Receipt)) → Dealt w a st part rs → Arises (part_of a w.table) part
  dealt-arises st part rs (keeps stands fewer) = stands.arises
  dealt-arises st part rs (acknowledges id ack stands fewer) = stands.arises
  dealt-arises st part rs (sends k inside fit stands fewer) = stands.arises

  -- a receipt of the account's is outstanding on a receiver of the account's
  outstanding-receiver : (s id sequence : ℕ) → OutstandingOn w a s id sequence → entry_at w.state s ≡ Receiver a
  outstanding-receiver s id sequence e =
      if-cases (λ (r : Option Receipt). r ≡ outstanding id sequence → entry_at w.state s ≡ Receiver a) (receiver_of a (entry_at w.state s)) _ None
      (λ t _. receiver-is a (entry_at w.state s) t)
      (λ _ none. absurd (none≢outstanding id sequence none))
      (sym (receipts-at w.state a s) ∙ e)

  module _ (sized : length w.table ≡ table_size) (below : a < account_count) where
    abbrev own : Own
    own = own_of w a

    whole : length own.part ≡ part_size
    whole = part_length (part_size * a) part_size w.table (omega arith)

    abbrev DealtOwn : Step Call Question → Effect Own Answer → Type 0
    DealtOwn st e = Dealt w a st e.own.part e.own.receipts

    octets-dealt : (transmitter : Bool) (book : List ℕ) (s : ℕ) (x : Octets) → sent_time x.stamp ≡ true
        → DealtOwn (on s (taking x)) (on_octets transmitter book s x own)
    octets-dealt transmitter book s x sent =
        let st : Step Call Question = on s (taking x) in
        bound-cases book s x own (DealtOwn st) (λ (t : Turn). Stands own.part t.stored.part) transmitter (λ _. same)
        (λ ok. record {
          same = λ _ _ _ _. stands_same _;
          submits = λ body. record {
            marks = λ k h m. submitted-marks book own.part own.last whole ok k h m body;
            arises = λ k h w _. submitted-arises own.part whole k h w book own.last ok body;
          };
          cancels = λ body. record {
            marks = λ k h m. cancelled-marks book own.part own.last whole ok k h m x.stamp body;
            arises = λ k h w registered. cancelled-arises own.part whole k h w registered x.stamp sent book body;
          };
          replaces = λ body. record {
            marks = λ k h m. replaced-marks book own.part own.last whole ok k h m body;
            arises = λ k h w _. replaced-arises own.part whole k h w book body;
          };
        })
        (λ ok. record {
          more = same;
          nak = same;
          quiet = λ n framed.
              settled-cases own.part (λ (c : Settled). Dealt w a st c.part (set own.receipts s c.receipt)) (header_of (take n x.octets)) (get_or own.receipts s None)
              (rw (set-get_or own.receipts s None) same)
              (keeps (stands_same _) (none-fewer own.receipts s))
              (λ id e command status. acknowledges id (record {
                receiver = outstanding-receiver s id _ e;
                size = n;
                whole = framed;
                response = command;
                accepted = status;
                outstanding = e;
              }) (record {
                others = λ k ne. acknowledged-marks own.part k id ne;
                named = λ k h m e. acknowledged-mark book own.part own.last whole ok k h m id e;
                arises = λ k h w _. acknowledged-arises own.part whole k h w id;
              }) (λ _ _ _ h. h));
          replies = λ _ _ _ _ stands. keeps stands (λ _ _ _ e. e);
        })

    delivery-dealt : (receiver : Bool) (book : List ℕ) (s : ℕ) (y : Delivery) → DealtOwn (on s (delivering y)) (on_delivery receiver book s y own)
    delivery-dealt receiver book s y =
        delivery-cases receiver book s y own (DealtOwn (on s (delivering y)))
        (record {
          ill = λ _. same;
          unfit = λ _. same;
          nothing = λ _. same;
          sends = λ _ _ _ k e.
              let ids = held_ids w.state a in
              sends k (found-place (owed ids) id_of own.part k e) (found-passes (owed ids) id_of own.part k e) (stands_same _) (λ _ _ _ h. h);
        })

    -- ---- account a asked

    pub call-dealt : (book : List ℕ) (s : ℕ) (e : Entry) (x : Call) → early_call book (length w.table) x ≡ 0
        → DealtOwn (on s x) (ask centre book w a (on_session s e x))
    unfolding act
    call-dealt book s e (taking x) fits = octets-dealt _ _ s x (early-octets _ _ _ _ fits).2
    call-dealt book s e (delivering y) fits = delivery-dealt _ _ s y

    pub question-dealt : (st : Step Call Question) (book : List ℕ) (q : Question) → early_question book (length w.table) q ≡ 0
        → DealtOwn st (ask centre book w a (of_account q))
    unfolding act
    question-dealt st book (outcome x) fits =
        noted-cases (book_record a book) own.last own.part x (λ (n : Noted). Dealt w a st n.part own.receipts) same (λ _. same) same
        (λ _ ok. keeps (record {
          marks = λ k h m. reported-marks (book_record a book) own.part own.last whole ok k h m x.stamp x.id x.state x.error;
          arises = λ k h w registered. reported-arises own.part whole k h w registered x.stamp (early-outcome _ _ _ fits).1 x.id x.state x.error;
        }) (λ _ _ _ e. e))
    question-dealt st book pick fits = same
