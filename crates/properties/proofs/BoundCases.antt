-- Octets on a bound session, by cases: what holds of each answer that leaves the account as it was, of the reply to each turn, and of a response,
-- which gets no reply and may settle the session's receipt, holds of whatever comes. Assumes nothing.
use mathlib.Core.Path.{◌≡◌, refl}
use mathlib.Core.Bool.{Bool, true, false, false≢true}
use mathlib.Core.List.{List}
use Prim.Native.Nat.{ℕ}
use native.Mathlib.Omega.{arith}
use lib.ListN.{length, take, drop, get_or, set}
use lib.Seq.{set-get_or}
use Rattle.std.specs.Prelude.{Option, None}
use Rattle.octets.proofs.StretchLaws.{if-cases}
use Rattle.wire.specs.Command.{Command, BindReceiver, BindTransmitter, QuerySm, SubmitSm, Unbind, ReplaceSm, CancelSm, EnquireLink, Response, Unknown, command_of}
use Rattle.wire.specs.Frame.{frame_of, header_of}
use Rattle.wire.specs.declared.frame.Header.{Header}
use Rattle.wire.specs.declared.frame.Frame.{Frame}
use Rattle.wire.specs.declared.frame.Frame.TheVariants.{More, Malformed, Whole}
use Rattle.answers.specs.Answer.{nak_length, Octets, Answer, taken, refused_octets, replied_to, silent}
use Rattle.store.specs.Account.{account_ok}
use Rattle.session.specs.declared.Receipt.{Receipt}
use Rattle.receipts.specs.Settle.{settled}
use Rattle.isolation.specs.Platform.{Own, owning, Effect}
use Rattle.bound.specs.Bound.{Stored, storing, Turn, replying, keeping, Hand, bound_command, settled_by, bound_frame, on_bound}
use Rattle.centre.specs.Centre.{in_hand, returned, on_octets}
use Rattle.properties.proofs.TurnCases.{Turns, query-cases, submit-cases, cancel-cases, replace-cases, unbind-cases}
use Rattle.properties.proofs.Unsettled.{unsettled}

-- a command that gets a reply
abbrev replied : Command → Bool
replied BindReceiver = true
replied BindTransmitter = true
replied QuerySm = true
replied SubmitSm = true
replied Unbind = true
replied ReplaceSm = true
replied CancelSm = true
replied EnquireLink = true
replied Response = false
replied Unknown = true

module _ (book : List ℕ) (s : ℕ) (x : Octets) (own : Own) where
  -- what the account has stored, and what is outstanding on the session
  abbrev pub before : Stored
  before = storing own.part own.last

  abbrev pub receipt : Option Receipt
  receipt = get_or own.receipts s None

  pub record Answers (P : Effect Own Answer → Type 0) (Q : Turn → Type 0) : Type 0 where
    pub more : P (keeping (taken 1 0 0 x.space) own)
    pub nak : P (record { answer = nak_length x.space; own = own; ends = true })
    pub quiet : (n : ℕ) → frame_of x.octets ≡ Whole n → (let pdu = take n x.octets in let c = settled (header_of pdu) receipt own.part in
        P (keeping (silent (length pdu) x.space) (owning c.part own.last (set own.receipts s c.receipt))))
    pub replies : (n id sequence : ℕ) (t : Turn) → Q t → P (record {
      answer = replied_to n id t.status sequence t.body x.space;
      own = owning t.stored.part t.stored.last own.receipts;
      ends = t.ends;
    })

  -- what is the account's own once the session's hand is used
  abbrev giving : Effect Hand Answer → Effect Own Answer
  giving e = record { answer = e.answer; own = returned s own e.own; ends = e.ends }

  module _ (P : Effect Own Answer → Type 0) (Q : Turn → Type 0) (transmitter : Bool) (turns : Turns book x.stamp before Q) (answers : Answers P Q) where
    module _ (n : ℕ) (whole : frame_of x.octets ≡ Whole n) where
      abbrev pdu : List ℕ
      pdu = take n x.octets

      abbrev h : Header
      h = header_of pdu

      abbrev body : List ℕ
      body = drop 16 pdu

      -- what gets a reply isn't a response, and settles nothing
      reply-case : (id : ℕ) (t : Turn) → replied (command_of h.command) ≡ true → Q t
          → P (giving (settled_by h receipt (replying (length pdu) id h.sequence t x.space)))
      unfolding settled_by replying
      reply-case id t other q =
          rw (unsettled h t.stored.part receipt (λ e. false≢true (rw e at other)), set-get_or own.receipts s None)
          (answers.replies (length pdu) id h.sequence t q)

      command-cases : (command : Command) → command_of h.command ≡ command
          → P (giving (settled_by h receipt (bound_command transmitter book x.stamp (length pdu) h.sequence body x.space before command)))
      unfolding settled_by
      command-cases BindReceiver e = reply-case _ _ (rw e) (turns.same _ _ _ (omega arith))
      command-cases BindTransmitter e = reply-case _ _ (rw e) (turns.same _ _ _ (omega arith))
      command-cases QuerySm e = reply-case _ _ (rw e) (query-cases _ _ _ Q turns transmitter body)
      command-cases SubmitSm e = reply-case _ _ (rw e) (submit-cases _ _ _ Q turns transmitter body)
      command-cases Unbind e = reply-case _ _ (rw e) (unbind-cases _ _ _ Q turns transmitter body)
      command-cases ReplaceSm e = reply-case _ _ (rw e) (replace-cases _ _ _ Q turns transmitter body)
      command-cases CancelSm e = reply-case _ _ (rw e) (cancel-cases _ _ _ Q turns transmitter body)
      command-cases EnquireLink e = reply-case _ _ (rw e) (turns.same _ _ _ (omega arith))
      command-cases Response e = answers.quiet n whole
      command-cases Unknown e = reply-case _ _ (rw e) (turns.same _ _ _ (omega arith))

    frame-cases : (frame : Frame) → frame_of x.octets ≡ frame
        → P (giving (bound_frame transmitter book x.octets x.stamp x.space frame (in_hand s own)))
    frame-cases More e = rw (set-get_or own.receipts s None) answers.more
    frame-cases Malformed e = rw (set-get_or own.receipts s None) answers.nak
    frame-cases (Whole n) e = command-cases n e (command_of _) refl

  pub bound-cases : (P : Effect Own Answer → Type 0) (Q : Turn → Type 0) (transmitter : Bool)
      → (account_ok book own.last own.part ≡ false → P (keeping (refused_octets 9 x) own))
      → (account_ok book own.last own.part ≡ true → Turns book x.stamp before Q)
      → (account_ok book own.last own.part ≡ true → Answers P Q) → P (on_octets transmitter book s x own)
  unfolding on_octets on_bound
  bound-cases P Q transmitter refused turns answers =
      if-cases (λ (e : Effect Hand Answer). P (giving e)) (account_ok book own.last own.part) _ _
      (λ ok. frame-cases P Q transmitter (turns ok) (answers ok) (frame_of x.octets) refl)
      (λ ill. rw (set-get_or own.receipts s None) (refused ill))
