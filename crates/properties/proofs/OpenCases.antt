-- Octets on an open session, by cases: what holds of each answer that leaves it open, of each bind, and of the answer that ends it, holds of
-- whatever comes. Assumes nothing.
use Rattle.std.specs.Prelude.{None}
use mathlib.Core.Bool.{Bool, true, false}
use mathlib.Core.List.{List}
use Prim.Native.Nat.{ℕ}
use native.Mathlib.Omega.{arith}
use Rattle.wire.specs.Command.{Command, BindReceiver, BindTransmitter, QuerySm, SubmitSm, Unbind, ReplaceSm, CancelSm, EnquireLink, Response, Unknown, command_of}
use Rattle.wire.specs.Frame.{frame_of}
use Rattle.wire.specs.declared.frame.Frame.{Frame}
use Rattle.wire.specs.declared.frame.Frame.TheVariants.{More, Malformed, Whole}
use Rattle.answers.specs.Reply.{bind_body}
use Rattle.answers.specs.Answer.{Octets, Answer, taken, replied_to, silent, nak_length}
use Rattle.session.specs.declared.Entry.TheVariants.{Ended}
use Rattle.isolation.specs.Platform.{Front}
use Rattle.open.specs.Open.{stays, bind_to, open_bind, open_command, open_frame, on_open}
use Rattle.properties.proofs.Bodies.{Brief, id-brief, none-brief}

module _ (book : List ℕ) (x : Octets) (P : Front Answer → Type 0) where
  pub record Opens : Type 0 where
    pub more : P (stays (taken 1 0 0 x.space))
    pub nak : P (record { answer = nak_length x.space; after = Ended })
    pub quiet : (n : ℕ) → P (stays (silent n x.space))
    pub replies : (n id status sequence : ℕ) (body : List ℕ) → Brief body → P (stays (replied_to n id status sequence body x.space))
    pub binds : (n id sequence : ℕ) (receiver : Bool) (body : List ℕ) → (let b = bind_to receiver book body in
        P (record { answer = replied_to n id b.status sequence bind_body x.space; after = b.entry }))

  module _ (each : Opens) where
    command-cases : (n sequence : ℕ) (body : List ℕ) (command : Command) → P (open_command book n sequence body x.space command)
    unfolding open_bind
    command-cases n sequence body BindReceiver = each.binds n _ sequence true body
    command-cases n sequence body BindTransmitter = each.binds n _ sequence false body
    command-cases n sequence body QuerySm = each.replies n _ _ sequence _ none-brief
    command-cases n sequence body SubmitSm = each.replies n _ _ sequence _ (id-brief None)
    command-cases n sequence body Unbind = each.replies n _ _ sequence _ (omega arith)
    command-cases n sequence body ReplaceSm = each.replies n _ _ sequence _ (omega arith)
    command-cases n sequence body CancelSm = each.replies n _ _ sequence _ (omega arith)
    command-cases n sequence body EnquireLink = each.replies n _ _ sequence _ (omega arith)
    command-cases n sequence body Response = each.quiet n
    command-cases n sequence body Unknown = each.replies n _ _ sequence _ (omega arith)

    frame-cases : (frame : Frame) → P (open_frame book x.octets x.space frame)
    frame-cases More = each.more
    frame-cases Malformed = each.nak
    frame-cases (Whole n) = command-cases _ _ _ (command_of _)

    pub open-cases : P (on_open book x)
    unfolding on_open
    open-cases = frame-cases (frame_of x.octets)
