-- A dozen rules of document 01, one case each, computed over the same `step`; P10 is another. Every other case is run, not proved:
-- reference/vectors has them.
use Rattle.std.specs.Prelude.{ℕ, zero, suc, ◌+◌, ◌≡◌, refl, List, [], ◌∷◌, ◌++◌, take, replicate}
use Rattle.octets.specs.Stretch.{padded}
use Rattle.store.specs.Places.{record_at}
use Rattle.session.specs.declared.Entry.TheVariants.{Open, Transmitter}
use Rattle.isolation.specs.Platform.{World, Step, of, part_of, table_size}
use Rattle.isolation.specs.History.{after}
use Rattle.answers.specs.Answer.{Call, Question, outcome, pick, Answer, picked_record}
use Rattle.centre.specs.Centre.{centre, step}
use Rattle.twelve.specs.Computed.{computed}
use Rattle.twelve.specs.Requests.{ended, paging, secret, vma, office, mobile, hello, stamp, entry, entry_with, two_accounts, pdu, bind, address, empty_address, submission_with, query, sends}
use Rattle.twelve.specs.Examples.{Held, Came, Case, taking, HoldsOf, Every, opened, opened_with, bound, state_with, answers, gives}
use Rattle.twelve.specs.Stored.{submits, stored_twice}

-- "hi" and its sm_length; "   "
abbrev pub hi : List ℕ
hi = 2 ∷ 104 ∷ 105 ∷ []

abbrev pub spaces : List ℕ
spaces = 32 ∷ 32 ∷ 32 ∷ []

-- ---- fields: each case is a request on a fresh account, and its status

-- the reply to a bind with sequence 1, and to a submission with sequence 2 that is refused
abbrev pub bind_reply : ℕ → List ℕ
bind_reply status = 0x00 ∷ 0x00 ∷ 0x00 ∷ 0x17 ∷ 0x80 ∷ 0x00 ∷ 0x00 ∷ 0x02 ∷ 0x00 ∷ 0x00 ∷ 0x00 ∷ status ∷ 0x00 ∷ 0x00 ∷ 0x00 ∷ 0x01 ∷ 0x53 ∷ 0x4D ∷ 0x53 ∷ 0x43 ∷ 0x33 ∷ 0x33 ∷ 0x00 ∷ []

abbrev pub submit_refused : ℕ → List ℕ
submit_refused status = 0x00 ∷ 0x00 ∷ 0x00 ∷ 0x11 ∷ 0x80 ∷ 0x00 ∷ 0x00 ∷ 0x04 ∷ 0x00 ∷ 0x00 ∷ 0x00 ∷ status ∷ 0x00 ∷ 0x00 ∷ 0x00 ∷ 0x02 ∷ 0x00 ∷ []

-- of so many octets, taken on a session bound to account 0
abbrev pub refuses : ℕ → ℕ → Came
refuses octets status = gives (answers 0 octets 17 (submit_refused status)) (Transmitter 0)

abbrev pub fields : List Case
fields =
    -- for a text, 2 comes first: a password of eight octets that are not ASCII, and no NUL
    taking two_accounts opened_with (sends 0 (pdu 2 1 (ended paging ++ replicate 8 0x80))) (gives (answers 0 31 23 (bind_reply 2)) Open)
    -- fields from left to right: source and destination of spaces only
    ∷ taking two_accounts bound (sends 0 (pdu 4 2 (submission_with (address spaces) (address spaces) 0 0 0 (5 ∷ hello)))) (refuses 44 10)
    -- sm_length above 140 is 1, and only then is a default id beside a text 9
    ∷ taking two_accounts bound (sends 0 (pdu 4 2 (submission_with empty_address empty_address 0 0 1 (141 ∷ replicate 141 65)))) (refuses 174 1)
    -- octets left over come behind every field: priority 2 and one octet more
    ∷ taking two_accounts bound (sends 0 (pdu 4 2 (submission_with empty_address empty_address 2 0 0 (5 ∷ hello) ++ (0 ∷ [])))) (refuses 39 6)
    ∷ []

pub fields-hold : Every HoldsOf fields
unfolding computed
fields-hold = (refl, (refl, (refl, (refl, tt))))

-- ---- effects

-- a book: unused; ill formed, with the names sought; of another system_id; of another system_type; two with these names; two unused
abbrev pub eight : List ℕ
eight =
    replicate 64 0
    ++ (entry_with paging secret vma []
    ++ (entry secret secret vma ++ (entry paging secret [] ++ (entry paging secret vma ++ (entry paging vma vma ++ replicate 128 0)))))

-- n waiting messages in places k on, with ids k + 1 on
abbrev pub waiting_from : ℕ → ℕ → List Held
waiting_from k zero = []
waiting_from k (suc n) = record { place = k; octets = 1 ∷ 0 ∷ 0 ∷ 0 ∷ (k + 1) ∷ [] } ∷ waiting_from (k + 1) n

-- all sixteen places of account 0 waiting
abbrev pub full : World
full = after centre two_accounts bound (replicate 16 (submits 0 1))

-- one message, and not from the callback's address
abbrev pub elsewhere : World
elsewhere = (step two_accounts bound (sends 0 (pdu 4 1 (submission_with (address mobile) (address mobile) 0 0 0 (5 ∷ hello))))).world

-- two messages to one number, and a third to another
abbrev pub three : World
three = (step two_accounts stored_twice (sends 0 (pdu 4 1 (submission_with empty_address (address office) 0 0 0 (5 ∷ hello))))).world

-- what comes of a step on a session bound to account 0: the answer, that account's last id, and what the table holds
abbrev pub brings : Answer → ℕ → List Held → Came
brings answer last kept = record { answer = answer; state = state_with (Transmitter 0) last; held = kept }

abbrev pub effects : List Case
effects =
    -- bind: the lowest used, well-formed record with equal system_id and system_type
    taking eight opened (sends 0 (pdu 2 1 (bind paging secret vma))) (gives (answers 0 38 23 (bind_reply 0)) (Transmitter 4))
    -- submit, last id 0xFFFFFFFF: 8
    ∷ taking two_accounts
    (record { state = state_with (Transmitter 0) 0xFFFFFFFF; table = replicate table_size 0 })
    (submits 0 2)
    (brings (answers 0 50 17 (submit_refused 8)) 0xFFFFFFFF [])
    -- submit, sixteen waiting: 20, and no id is issued
    ∷ taking two_accounts full (submits 0 2) (brings (answers 0 50 17 (submit_refused 20)) 16 (waiting_from 0 16))
    -- submit with the replace flag set: the lowest-id waiting record with equal source and destination, whose id is returned
    ∷ taking two_accounts stored_twice (sends 0 (pdu 4 2 (submission_with empty_address (address mobile) 0 1 0 hi)))
    (brings
    (answers 0 47 25 (0x00 ∷ 0x00 ∷ 0x00 ∷ 0x19 ∷ 0x80 ∷ 0x00 ∷ 0x00 ∷ 0x04 ∷ 0x00 ∷ 0x00 ∷ 0x00 ∷ 0x00 ∷ 0x00 ∷ 0x00 ∷ 0x00 ∷ 0x02 ∷ 0x30 ∷ 0x30 ∷ 0x30 ∷ 0x30 ∷ 0x30 ∷ 0x30 ∷ 0x30 ∷ 0x31 ∷ 0x00 ∷ []))
    2
    (waiting_from 0 2))
    -- query: an empty source is the callback's, and doesn't match any source
    ∷ taking two_accounts elsewhere (sends 0 (pdu 3 4 query))
    (brings
    (answers 0 21 20 (0x00 ∷ 0x00 ∷ 0x00 ∷ 0x14 ∷ 0x80 ∷ 0x00 ∷ 0x00 ∷ 0x03 ∷ 0x00 ∷ 0x00 ∷ 0x00 ∷ 0x0C ∷ 0x00 ∷ 0x00 ∷ 0x00 ∷ 0x04 ∷ 0x00 ∷ 0x00 ∷ 0x00 ∷ 0x00 ∷ []))
    1
    (waiting_from 0 1))
    -- cancel with an empty id: all waiting records with that source and destination are deleted
    ∷ taking two_accounts three (sends 0 (pdu 8 5 (0 ∷ 0 ∷ (empty_address ++ address mobile))))
    (brings
    (answers 0 36 16 (0x00 ∷ 0x00 ∷ 0x00 ∷ 0x10 ∷ 0x80 ∷ 0x00 ∷ 0x00 ∷ 0x08 ∷ 0x00 ∷ 0x00 ∷ 0x00 ∷ 0x00 ∷ 0x00 ∷ 0x00 ∷ 0x00 ∷ 0x05 ∷ []))
    3
    (record { place = 0; octets = 4 ∷ 0 ∷ 0 ∷ 0 ∷ 1 ∷ [] } ∷ record { place = 1; octets = 4 ∷ 0 ∷ 0 ∷ 0 ∷ 2 ∷ [] } ∷ waiting_from 2 1))
    ∷ []

pub effects-hold : Every HoldsOf effects
unfolding computed
effects-hold = (refl, (refl, (refl, (refl, (refl, (refl, tt))))))

-- ---- whole records

-- a waiting message from the callback's address, nothing else given; the last holds sm_length and the text
abbrev pub waiting_record : ℕ → List ℕ → List ℕ → List ℕ
waiting_record id destination text =
    (1 ∷ 0 ∷ 0 ∷ 0 ∷ id ∷ [])
    ++ ((1 ∷ 1 ∷ padded 20 office) ++ ((1 ∷ 1 ∷ padded 20 destination) ++ (replicate 43 0 ++ (padded 141 text ++ replicate 23 0))))

abbrev pub outcome_of : ℕ → ℕ → ℕ → Step Call Question
outcome_of id state error = of 0 (outcome (record { stamp = stamp; id = id; state = state; error = error }))

-- submit where no place is empty, 7 is undeliverable and 3 delivered: over the lowest-id record in state 2 to 5, every field written afresh
pub finished-overwritten :
    record_at 2 (part_of 0
    (after centre two_accounts full (outcome_of 7 5 9 ∷ outcome_of 3 2 7 ∷ sends 0 (pdu 4 2 (submission_with empty_address (address office) 0 0 0 hi)) ∷ [])).table)
    ≡ waiting_record 17 office hi
unfolding computed
finished-overwritten = refl

-- replace, id 1: no old text octet stays behind a shorter text
pub shorter-text :
    record_at 0 (part_of 0
    (step two_accounts stored_twice (sends 0 (pdu 7 5 (49 ∷ 0 ∷ (empty_address ++ (0 ∷ 0 ∷ 0 ∷ 0 ∷ hi)))))).world.table)
    ≡ waiting_record 1 mobile hi
unfolding computed
shorter-text = refl

-- ---- a pick: priority 1 before priority 0, then the lowest id

abbrev pub urgent : Step Call Question
urgent = sends 0 (pdu 4 1 (submission_with empty_address (address mobile) 1 0 0 hi))

pub urgent-first : take 5 (picked_record (step two_accounts (after centre two_accounts bound (submits 0 1 ∷ urgent ∷ urgent ∷ [])) (of 0 pick)).answer) ≡ 1 ∷ 0 ∷ 0 ∷ 0 ∷ 2 ∷ []
unfolding computed
urgent-first = refl
