-- What the centre stores, computed over the same `step`: it shuts out a centre that replies "accepted" and stores nothing, one that stores only
-- the first submission of a session, and one that counts ids for all accounts together.
use Rattle.std.specs.Prelude.{ℕ, ◌≡◌, refl, [], ◌∷◌, ◌++◌, take, replicate}
use Rattle.octets.specs.Stretch.{padded}
use Rattle.store.specs.Places.{record_at}
use Rattle.session.specs.State.{last_at}
use Rattle.isolation.specs.Platform.{World, Step, opens, of, part_of}
use Rattle.isolation.specs.History.{after}
use Rattle.answers.specs.Answer.{Call, Question, outcome, pick, numbered}
use Rattle.centre.specs.Centre.{centre, step}
use Rattle.twelve.specs.Computed.{computed}
use Rattle.twelve.specs.Requests.{plant, other, office, mobile, hello, stamp, two_accounts, pdu, bind, submission, query, sends}
use Rattle.twelve.specs.Examples.{held, bound, answers}

-- a submission with this sequence, on a session
abbrev pub submits : ℕ → ℕ → Step Call Question
submits session sequence = sends session (pdu 4 sequence submission)

-- ---- the first accepted submit, P8

abbrev pub stored : World
stored = (step two_accounts bound (submits 0 3)).world

-- place 0 of account 0: waiting, id 1
pub first-stored : take 5 (record_at 0 (part_of 0 stored.table)) ≡ 1 ∷ 0 ∷ 0 ∷ 0 ∷ 1 ∷ []
unfolding computed
first-stored = refl

-- the record whole: the callback as source, the destination, and "hello"
pub first-record :
    record_at 0 (part_of 0 stored.table)
    ≡ (1 ∷ 0 ∷ 0 ∷ 0 ∷ 1 ∷ [])
    ++ ((1 ∷ 1 ∷ padded 20 office) ++ ((1 ∷ 1 ∷ padded 20 mobile) ++ (replicate 43 0 ++ ((5 ∷ padded 140 hello) ++ replicate 23 0))))
unfolding computed
first-record = refl

pub first-last : last_at stored.state 0 ≡ 1
unfolding computed
first-last = refl

-- ---- two accepted submits in one session

abbrev pub stored_twice : World
stored_twice = (step two_accounts stored (submits 0 4)).world

-- both are stored, at places 0 and 1, with ids 1 and 2
pub both_stored :
    held stored_twice.table
    ≡ record { place = 0; octets = 1 ∷ 0 ∷ 0 ∷ 0 ∷ 1 ∷ [] } ∷ record { place = 1; octets = 1 ∷ 0 ∷ 0 ∷ 0 ∷ 2 ∷ [] } ∷ []
unfolding computed
both_stored = refl

pub both-last : last_at stored_twice.state 0 ≡ 2
unfolding computed
both-last = refl

-- the second reply, with id 2
pub second-reply :
    (step two_accounts stored (submits 0 4)).answer
    ≡ answers 0 50 25 (0x00 ∷ 0x00 ∷ 0x00 ∷ 0x19 ∷ 0x80 ∷ 0x00 ∷ 0x00 ∷ 0x04 ∷ 0x00 ∷ 0x00 ∷ 0x00 ∷ 0x00 ∷ 0x00 ∷ 0x00 ∷ 0x00 ∷ 0x04 ∷ 0x30 ∷ 0x30 ∷ 0x30 ∷ 0x30 ∷ 0x30 ∷ 0x30 ∷ 0x30 ∷ 0x32 ∷ 0x00 ∷ [])
unfolding computed
second-reply = refl

-- ---- two accounts: each has ids of its own

abbrev pub apart : World
apart = after centre two_accounts stored (opens 1 ∷ sends 1 (pdu 2 1 (bind plant other [])) ∷ submits 1 2 ∷ [])

-- places 0 and 16 of the table, the first of each account, both with id 1
pub apart-stored :
    held apart.table
    ≡ record { place = 0; octets = 1 ∷ 0 ∷ 0 ∷ 0 ∷ 1 ∷ [] } ∷ record { place = 16; octets = 1 ∷ 0 ∷ 0 ∷ 0 ∷ 1 ∷ [] } ∷ []
unfolding computed
apart-stored = refl

pub apart-lasts : apart.state.lasts ≡ 1 ∷ 1 ∷ replicate 6 0
unfolding computed
apart-lasts = refl

-- ---- the longest reply: a query of a finished message

abbrev pub delivered : World
delivered = (step two_accounts stored (of 0 (outcome (record { stamp = stamp; id = 1; state = 2; error = 7 })))).world

-- id, final date, wire state 1 and error code 7: 44 octets, all of the space
pub longest-reply :
    (step two_accounts delivered (sends 0 (pdu 3 5 query))).answer
    ≡ answers 0 21 44
    ((0x00 ∷ 0x00 ∷ 0x00 ∷ 0x2C ∷ 0x80 ∷ 0x00 ∷ 0x00 ∷ 0x03 ∷ 0x00 ∷ 0x00 ∷ 0x00 ∷ 0x00 ∷ 0x00 ∷ 0x00 ∷ 0x00 ∷ 0x05 ∷ 0x30 ∷ 0x30 ∷ 0x30 ∷ 0x30 ∷ 0x30 ∷ 0x30 ∷ 0x30 ∷ 0x31 ∷ 0x00 ∷ []) ++ (stamp ++ (0x00 ∷ 1 ∷ 7 ∷ [])))
unfolding computed
longest-reply = refl

-- ---- a neighbour's bad record: 9 is for the account concerned alone

-- the table with one octet of account 1's first record set: a state with nothing else
abbrev pub spoilt : World
spoilt = record { state = bound.state; table = replicate 4096 0 ++ (1 ∷ replicate 28671 0) }

pub neighbour-spoilt :
    (step two_accounts spoilt (sends 0 (pdu 0x15 7 []))).answer
    ≡ answers 0 16 16 (0x00 ∷ 0x00 ∷ 0x00 ∷ 0x10 ∷ 0x80 ∷ 0x00 ∷ 0x00 ∷ 0x15 ∷ 0x00 ∷ 0x00 ∷ 0x00 ∷ 0x00 ∷ 0x00 ∷ 0x00 ∷ 0x00 ∷ 0x07 ∷ [])
unfolding computed
neighbour-spoilt = refl

pub itself-spoilt : (step two_accounts spoilt (of 1 pick)).answer ≡ numbered 9
unfolding computed
itself-spoilt = refl
