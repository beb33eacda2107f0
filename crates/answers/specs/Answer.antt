-- What the calls are given and what they answer (document 01, "Numbers a caller gets" and "From octets to a response"; document 02, 1).
use Rattle.std.specs.Prelude.{ℕ, List, []}
use Rattle.wire.specs.Status.{invalid_command_length}
use Rattle.answers.specs.Reply.{reply, over, generic_nak, no_body}

-- what taking octets is given, besides book, table, state and session
pub record Octets : Type 0 where
  pub octets : List ℕ
  pub stamp : List ℕ
  pub space : List ℕ

-- what writing a receipt is given, besides book, table, state and session
pub record Delivery : Type 0 where
  pub sequence : ℕ
  pub space : List ℕ

-- what is asked on a session: octets are taken, a receipt is written
pub data Call : Type 0 where
  taking : Octets → Call
  delivering : Delivery → Call

-- what an outcome is given, besides book, table, state and account
pub record Outcome : Type 0 where
  pub stamp : List ℕ
  pub id : ℕ
  pub state : ℕ
  pub error : ℕ

-- what is asked of an account: an outcome, a pick
pub data Question : Type 0 where
  outcome : Outcome → Question
  pick : Question

-- a number alone; of octets, also how many were consumed and written, and the response space; of a receipt, how many were written, and the space;
-- of a pick with number 0, the place picked and the record there
pub data Answer : Type 0 where
  numbered : ℕ → Answer
  taken : ℕ → ℕ → ℕ → List ℕ → Answer
  delivered : ℕ → ℕ → List ℕ → Answer
  picked : ℕ → List ℕ → Answer

abbrev pub number_of : Answer → ℕ
number_of (numbered n) = n
number_of (taken n consumed written space) = n
number_of (delivered n written space) = n
number_of (picked k r) = 0

-- the record of a pick; where the number isn't 0 it is empty
abbrev pub picked_record : Answer → List ℕ
picked_record (numbered n) = []
picked_record (taken n consumed written space) = []
picked_record (delivered n written space) = []
picked_record (picked k r) = r

-- every answer but 0 consumes nothing and writes nothing
abbrev pub refused_octets : ℕ → Octets → Answer
refused_octets number x = taken number 0 0 x.space

abbrev pub refused_delivery : ℕ → Delivery → Answer
refused_delivery number y = delivered number 0 y.space

abbrev pub refused_call : ℕ → Call → Answer
refused_call number (taking x) = refused_octets number x
refused_call number (delivering y) = refused_delivery number y

abbrev pub refused_question : ℕ → Question → Answer
refused_question number q = numbered number

-- one PDU of n octets taken and answered; taken and not answered
abbrev pub replied_to : ℕ → ℕ → ℕ → ℕ → List ℕ → List ℕ → Answer
replied_to n id status sequence body space =
    let r = over (reply id status sequence body) space in
    taken 0 n r.count r.space

abbrev pub silent : ℕ → List ℕ → Answer
silent n space = taken 0 n 0 space

-- a length that no PDU has: generic_nak with status 2 and sequence 0, 4 octets consumed (and the session ends)
abbrev pub nak_length : List ℕ → Answer
nak_length space = replied_to 4 generic_nak invalid_command_length 0 no_body space
