-- A registered message's receipt, computed over the same `step` (document 02, 1): the deliver_sm octet by octet, what its response does, and what
-- the next request for a receipt answers.
use Rattle.std.specs.Prelude.{ℕ, ◌≡◌, refl, List, [], ◌∷◌, ◌++◌, replicate}
use Rattle.isolation.specs.Platform.{World, Step, opens, on, fresh}
use Rattle.isolation.specs.History.{after}
use Rattle.answers.specs.Answer.{Call, delivering, Question, Answer, delivered}
use Rattle.centre.specs.Centre.{centre, step}
use Rattle.twelve.specs.Computed.{computed}
use Rattle.twelve.specs.Requests.{words, paging, secret, vma, mobile, hello, two_accounts, pdu, bind, address, empty_address, sends}
use Rattle.twelve.specs.Examples.{answers}
use Rattle.twelve.specs.Rules.{outcome_of}

-- ---- a receipt is owed

-- "hello" to 447700900123 with the registered flag 1, nothing else given
abbrev pub registered : List ℕ
registered = 0 ∷ (empty_address ++ (address mobile ++ (0 ∷ 0 ∷ 0 ∷ 0 ∷ 0 ∷ 1 ∷ 0 ∷ 0 ∷ 0 ∷ 5 ∷ hello)))

-- session 0, a transmitter, submits it, and the message, id 1, is delivered; session 1 is a receiver of the same account
abbrev pub owed : World
owed =
    after centre two_accounts fresh
    (opens 0
    ∷ sends 0 (pdu 2 1 (bind paging secret vma))
    ∷ sends 0 (pdu 4 2 registered)
    ∷ outcome_of 1 2 0
    ∷ opens 1
    ∷ sends 1 (pdu 1 1 (bind paging secret vma))
    ∷ [])

-- ---- steps on session 1, and their answers

-- a receipt is asked for, with this sequence, in 91 octets of space
abbrev pub delivers : ℕ → Step Call Question
delivers sequence = on 1 (delivering (record { sequence = sequence; space = replicate 91 0xEE }))

-- deliver_sm_resp with this status and sequence
abbrev pub responds : ℕ → ℕ → Step Call Question
responds status sequence = sends 1 (words (16 ∷ 0x80000005 ∷ status ∷ sequence ∷ []))

-- the answer to each step in turn
abbrev pub answers_to : World → List (Step Call Question) → List Answer
answers_to w [] = []
answers_to w (st ∷ sts) =
    let ran = step two_accounts w st in
    ran.answer ∷ answers_to ran.world sts

-- number 0 and the deliver_sm, 66 octets, with the names that 002 gives its fields; the space behind it as it was. The sequence is below 256
abbrev pub receipt_with : ℕ → Answer
receipt_with sequence =
    delivered 0 66
    (0x00 ∷ 0x00 ∷ 0x00 ∷ 0x42  -- command length
    ∷ 0x00 ∷ 0x00 ∷ 0x00 ∷ 0x05  -- command id
    ∷ 0x00 ∷ 0x00 ∷ 0x00 ∷ 0x00  -- command status
    ∷ 0x00 ∷ 0x00 ∷ 0x00 ∷ sequence  -- sequence no.
    ∷ 0x00  -- service_type
    ∷ 0x01  -- source_addr_ton
    ∷ 0x01  -- source_addr_npi
    ∷ 0x34 ∷ 0x34 ∷ 0x37 ∷ 0x37 ∷ 0x30 ∷ 0x30 ∷ 0x39 ∷ 0x30 ∷ 0x30 ∷ 0x31 ∷ 0x32 ∷ 0x33 ∷ 0x00  -- source_addr: "447700900123"
    ∷ 0x01  -- dest_addr_ton
    ∷ 0x01  -- dest_addr_npi
    ∷ 0x31 ∷ 0x30 ∷ 0x30 ∷ 0x00  -- destination_addr: "100"
    ∷ 0x04  -- esm_class
    ∷ 0x00  -- protocol ID
    ∷ 0x00  -- priority_flag
    ∷ 0x00  -- schedule_delivery_time
    ∷ 0x00  -- validity_period
    ∷ 0x00  -- registered_delivery_flag
    ∷ 0x00  -- replace_if_present_flag
    ∷ 0x00  -- data_coding
    ∷ 0x00  -- sm_default_msg_id
    ∷ 0x12  -- sm_length
    ∷ 0x69 ∷ 0x64 ∷ 0x3A ∷ 0x30 ∷ 0x30 ∷ 0x30 ∷ 0x30 ∷ 0x30 ∷ 0x30 ∷ 0x30 ∷ 0x31 ∷ 0x20 ∷ 0x73 ∷ 0x74 ∷ 0x61 ∷ 0x74 ∷ 0x3A ∷ 0x32  -- short_message: "id:00000001 stat:2"
    ∷ replicate 25 0xEE)

-- a response is taken with no reply
abbrev pub no_reply : Answer
no_reply = answers 0 16 0 []

-- 13, and nothing is written
abbrev pub nothing_owed : Answer
nothing_owed = delivered 13 0 (replicate 91 0xEE)

-- ---- the response's status decides

-- status 0: the receipt is owed no more
pub owed-once : answers_to owed (delivers 7 ∷ responds 0 7 ∷ delivers 8 ∷ []) ≡ receipt_with 7 ∷ no_reply ∷ nothing_owed ∷ []
unfolding computed
owed-once = refl

-- status 8: it is owed again, and is written with the new sequence
pub owed-again : answers_to owed (delivers 7 ∷ responds 8 7 ∷ delivers 8 ∷ []) ≡ receipt_with 7 ∷ no_reply ∷ receipt_with 8 ∷ []
unfolding computed
owed-again = refl
