-- Spaces in front of an address and of a name, computed over the same `step` (document 02, 2): what a source without them, or with fewer, finds;
-- what stays stored; and which binds name an account.
use Rattle.std.specs.Prelude.{◌≡◌, refl, List, [], ◌∷◌, ◌++◌, ℕ, take, replicate}
use Rattle.store.specs.Places.{record_at}
use Rattle.session.specs.declared.Entry.TheVariants.{Open, Transmitter}
use Rattle.isolation.specs.Platform.{World, Step, part_of}
use Rattle.isolation.specs.History.{after}
use Rattle.answers.specs.Answer.{Call, Question}
use Rattle.centre.specs.Centre.{centre, step}
use Rattle.twelve.specs.Computed.{computed}
use Rattle.twelve.specs.Requests.{ended, paging, secret, vma, office, mobile, hello, entry, two_accounts, pdu, bind, address, empty_address, submission_with, sends}
use Rattle.twelve.specs.Examples.{Case, taking, HoldsOf, Every, opened, opened_with, bound, answers, gives}
use Rattle.twelve.specs.Rules.{bind_reply}
use Rattle.twelve.specs.Receipts.{answers_to}

-- a text with n spaces in front
abbrev pub behind : ℕ → List ℕ → List ℕ
behind n text = replicate n 0x20 ++ text

-- ---- a message from "  100" with ton 2, so that it isn't from the callback's address

abbrev pub source : ℕ → List ℕ
source n = 2 ∷ 1 ∷ ended (behind n office)

abbrev pub submitted : World
submitted = (step two_accounts bound (sends 0 (pdu 4 2 (submission_with (source 2) (address mobile) 0 0 0 (5 ∷ hello))))).world

-- it is queried with "100", and cancelled with " 100"
abbrev pub asks : List (Step Call Question)
asks = sends 0 (pdu 3 3 (0x31 ∷ 0 ∷ source 0)) ∷ sends 0 (pdu 8 4 (0 ∷ 0x31 ∷ 0 ∷ (source 1 ++ empty_address))) ∷ []

-- the query finds id 1, waiting, and the cancel succeeds
pub spaces-found :
    answers_to submitted asks
    ≡ answers 0 24 28 (0x00 ∷ 0x00 ∷ 0x00 ∷ 0x1C ∷ 0x80 ∷ 0x00 ∷ 0x00 ∷ 0x03 ∷ 0x00 ∷ 0x00 ∷ 0x00 ∷ 0x00 ∷ 0x00 ∷ 0x00 ∷ 0x00 ∷ 0x03 ∷ 0x30 ∷ 0x30 ∷ 0x30 ∷ 0x30 ∷ 0x30 ∷ 0x30 ∷ 0x30 ∷ 0x31 ∷ 0x00 ∷ 0x00 ∷ 0x00 ∷ 0x00 ∷ [])
    ∷ answers 0 29 16 (0x00 ∷ 0x00 ∷ 0x00 ∷ 0x10 ∷ 0x80 ∷ 0x00 ∷ 0x00 ∷ 0x08 ∷ 0x00 ∷ 0x00 ∷ 0x00 ∷ 0x00 ∷ 0x00 ∷ 0x00 ∷ 0x00 ∷ 0x04 ∷ [])
    ∷ []
unfolding computed
spaces-found = refl

-- the record is deleted, state 4, and its source is still "  100", as it was sent
pub spaces-stay :
    take 27 (record_at 0 (part_of 0 (after centre two_accounts submitted asks).table))
    ≡ 4 ∷ 0 ∷ 0 ∷ 0 ∷ 1 ∷ 2 ∷ 1 ∷ 0x20 ∷ 0x20 ∷ 0x31 ∷ 0x30 ∷ 0x30 ∷ replicate 15 0
unfolding computed
spaces-stay = refl

-- ---- binds

-- one account, 0, with this system_id
abbrev pub one_account : List ℕ → List ℕ
one_account system = entry system secret vma ++ replicate 448 0

abbrev pub binds : List Case
binds =
    -- " paging" to an account "paging", and the other way round
    taking two_accounts opened_with (sends 0 (pdu 2 1 (bind (behind 1 paging) secret vma))) (gives (answers 0 39 23 (bind_reply 0)) (Transmitter 0))
    ∷ taking (one_account (behind 1 paging)) opened (sends 0 (pdu 2 1 (bind paging secret vma))) (gives (answers 0 38 23 (bind_reply 0)) (Transmitter 0))
    -- "  " beside a book record with "  ": 13
    ∷ taking (one_account (behind 2 [])) opened (sends 0 (pdu 2 1 (bind (behind 2 []) secret vma))) (gives (answers 0 34 23 (bind_reply 13)) Open)
    -- an empty system_id to an account with an empty one
    ∷ taking (one_account []) opened (sends 0 (pdu 2 1 (bind [] secret vma))) (gives (answers 0 32 23 (bind_reply 0)) (Transmitter 0))
    ∷ []

pub binds-hold : Every HoldsOf binds
unfolding computed
binds-hold = (refl, (refl, (refl, (refl, tt))))
