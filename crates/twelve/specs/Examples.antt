-- The twelve examples of document 01, P1 to P12: one table, one claim, over the very `step` that the contracts of the code cite.
use Rattle.std.specs.Prelude.{ℕ, ◌+◌, ◌*◌, ◌-◌, ◌≡◌, refl, List, [], ◌∷◌, ◌++◌, take, get_or, replicate, eqb, Option, Some}
use Rattle.octets.specs.Choice.{when◌then◌else◌}
use Rattle.octets.specs.Rows.{rows}
use Rattle.wire.specs.Cursor.{start}
use Rattle.wire.specs.Fields.{Read, id_at}
use Rattle.answers.specs.Reply.{space_needed}
use Rattle.records.specs.Layout.{record_size, places, account_count}
use Rattle.session.specs.State.{closed_session, session_with}
use Rattle.session.specs.declared.Entry.{Entry}
use Rattle.session.specs.declared.Entry.TheVariants.{Open, Transmitter, Ended}
use Rattle.session.specs.declared.State.{State}
use Rattle.isolation.specs.Platform.{World, Step, Ran, opens, fresh}
use Rattle.isolation.specs.History.{after}
use Rattle.answers.specs.Answer.{Call, Question, Answer}
use Rattle.answers.specs.Answer as A
use Rattle.centre.specs.Centre.{centre, step}
use Rattle.twelve.specs.Computed.{computed}
use Rattle.twelve.specs.Requests.{words, ended, paging, secret, vma, plant, no_accounts, two_accounts, pdu, bind, submission, query, sends}

-- ---- what comes of a step

-- a record of the table whose state isn't 0: its place among the 128, and its first five octets, state and id
pub record Held : Type 0 where
  pub place : ℕ
  pub octets : List ℕ

abbrev pub held_from : ℕ → List (List ℕ) → List Held
held_from k [] = []
held_from k (r ∷ rs) =
    let rest = held_from (k + 1) rs in
    when eqb (get_or r 0 0) 0 then rest else record { place = k; octets = take 5 r } ∷ rest

abbrev pub held : List ℕ → List Held
held table = held_from 0 (rows record_size (places * account_count) table)

-- the answer, the state and what the table holds
pub record Came : Type 0 where
  pub answer : Answer
  pub state : State
  pub held : List Held

abbrev pub came : Ran Answer → Came
came r = record { answer = r.answer; state = r.world.state; held = held r.world.table }

-- ---- the table: a step on a book and a world, and what is to come of it; or an id text with its NUL, and what is to be read

pub data Name : Type 0 where
  P1 : Name
  P2 : Name
  P3 : Name
  P4 : Name
  P5 : Name
  P6 : Name
  P7 : Name
  P8 : Name
  P9 : Name
  P10 : Name
  P11 : Name
  P12 : Name

pub data Case : Type 0 where
  taking : (book : List ℕ) → World → Step Call Question → Came → Case
  reading : List ℕ → Read (Option ℕ) → Case

pub record Example : Type 0 where
  pub name : Name
  pub case : Case

abbrev pub HoldsOf : Case → Type 0
HoldsOf (taking book world st right) = came (step book world st) ≡ right
HoldsOf (reading text right) = id_at text start ≡ right

abbrev pub Holds : Example → Type 0
Holds e = HoldsOf e.case

-- the claim holds of each row
abbrev pub Every : {A : Type 0} → (A → Type 0) → List A → Type 0
Every holds [] = Unit {0}
Every holds (x ∷ xs) = holds x × Every holds xs

-- ---- worlds, made from the fresh one by steps on session 0

-- session 0 open; with a book of two accounts; bound as transmitter of account 0
abbrev pub opened : World
opened = after centre no_accounts fresh (opens 0 ∷ [])

abbrev pub opened_with : World
opened_with = after centre two_accounts fresh (opens 0 ∷ [])

abbrev pub bound : World
bound = after centre two_accounts fresh (opens 0 ∷ sends 0 (pdu 2 1 (bind paging secret vma)) ∷ [])

-- ---- what is to come

-- session 0 with this entry and the others closed, no receipt outstanding; account 0 with this last id and the others with none
abbrev pub state_with : Entry → ℕ → State
state_with entry last =
    record { sessions = session_with entry ∷ replicate 15 closed_session; lasts = last ∷ replicate 7 0 }

-- number, consumed, written and the reply, the space behind it as it was
abbrev pub answers : ℕ → ℕ → ℕ → List ℕ → Answer
answers number consumed written reply = A.taken number consumed written (reply ++ replicate (space_needed - written) 0xEE)

-- nothing stored, no id issued
abbrev pub gives : Answer → Entry → Came
gives answer entry = record { answer = answer; state = state_with entry 0; held = [] }

abbrev pub row : Name → Case → Example
row name case = record { name = name; case = case }

abbrev pub examples : List Example
examples =
    -- three octets: 1
    row P1 (taking no_accounts opened (sends 0 (0 ∷ 0 ∷ 0 ∷ [])) (gives (answers 1 0 0 []) Open))
    -- length 15
    ∷ row P2
    (taking no_accounts opened (sends 0 (words (15 ∷ 0x15 ∷ 0 ∷ 1 ∷ [])))
    (gives (answers 0 4 16 (0x00 ∷ 0x00 ∷ 0x00 ∷ 0x10 ∷ 0x80 ∷ 0x00 ∷ 0x00 ∷ 0x00 ∷ 0x00 ∷ 0x00 ∷ 0x00 ∷ 0x02 ∷ 0x00 ∷ 0x00 ∷ 0x00 ∷ 0x00 ∷ [])) Ended))
    -- length 512 with 16 octets present: 1
    ∷ row P3 (taking no_accounts opened (sends 0 (words (512 ∷ 0x15 ∷ 0 ∷ 1 ∷ []))) (gives (answers 1 0 0 []) Open))
    -- length 513: as P2
    ∷ row P4
    (taking no_accounts opened (sends 0 (words (513 ∷ 0x15 ∷ 0 ∷ 1 ∷ [])))
    (gives (answers 0 4 16 (0x00 ∷ 0x00 ∷ 0x00 ∷ 0x10 ∷ 0x80 ∷ 0x00 ∷ 0x00 ∷ 0x00 ∷ 0x00 ∷ 0x00 ∷ 0x00 ∷ 0x02 ∷ 0x00 ∷ 0x00 ∷ 0x00 ∷ 0x00 ∷ [])) Ended))
    -- enquire_link, sequence 7
    ∷ row P5
    (taking no_accounts opened (sends 0 (pdu 0x15 7 []))
    (gives (answers 0 16 16 (0x00 ∷ 0x00 ∷ 0x00 ∷ 0x10 ∷ 0x80 ∷ 0x00 ∷ 0x00 ∷ 0x15 ∷ 0x00 ∷ 0x00 ∷ 0x00 ∷ 0x00 ∷ 0x00 ∷ 0x00 ∷ 0x00 ∷ 0x07 ∷ [])) Open))
    -- id 9, sequence 5
    ∷ row P6
    (taking no_accounts opened (sends 0 (pdu 9 5 []))
    (gives (answers 0 16 16 (0x00 ∷ 0x00 ∷ 0x00 ∷ 0x10 ∷ 0x80 ∷ 0x00 ∷ 0x00 ∷ 0x00 ∷ 0x00 ∷ 0x00 ∷ 0x00 ∷ 0x03 ∷ 0x00 ∷ 0x00 ∷ 0x00 ∷ 0x05 ∷ [])) Open))
    -- submit when unbound, sequence 2
    ∷ row P7
    (taking two_accounts opened_with (sends 0 (pdu 4 2 submission))
    (gives (answers 0 50 17 (0x00 ∷ 0x00 ∷ 0x00 ∷ 0x11 ∷ 0x80 ∷ 0x00 ∷ 0x00 ∷ 0x04 ∷ 0x00 ∷ 0x00 ∷ 0x00 ∷ 0x04 ∷ 0x00 ∷ 0x00 ∷ 0x00 ∷ 0x02 ∷ 0x00 ∷ [])) Open))
    -- first accepted submit, sequence 3: stored, waiting, with id 1
    ∷ row P8
    (taking two_accounts bound (sends 0 (pdu 4 3 submission))
    (record {
      answer = answers 0 50 25 (0x00 ∷ 0x00 ∷ 0x00 ∷ 0x19 ∷ 0x80 ∷ 0x00 ∷ 0x00 ∷ 0x04 ∷ 0x00 ∷ 0x00 ∷ 0x00 ∷ 0x00 ∷ 0x00 ∷ 0x00 ∷ 0x00 ∷ 0x03 ∷ 0x30 ∷ 0x30 ∷ 0x30 ∷ 0x30 ∷ 0x30 ∷ 0x30 ∷ 0x30 ∷ 0x31 ∷ 0x00 ∷ []);
      state = state_with (Transmitter 0) 1;
      held = record { place = 0; octets = 1 ∷ 0 ∷ 0 ∷ 0 ∷ 1 ∷ [] } ∷ [];
    }))
    -- query of an unknown id, sequence 4
    ∷ row P9
    (taking two_accounts bound (sends 0 (pdu 3 4 query))
    (gives (answers 0 21 20 (0x00 ∷ 0x00 ∷ 0x00 ∷ 0x14 ∷ 0x80 ∷ 0x00 ∷ 0x00 ∷ 0x03 ∷ 0x00 ∷ 0x00 ∷ 0x00 ∷ 0x0C ∷ 0x00 ∷ 0x00 ∷ 0x00 ∷ 0x04 ∷ 0x00 ∷ 0x00 ∷ 0x00 ∷ 0x00 ∷ [])) (Transmitter 0)))
    -- id text "  1a" is 26
    ∷ row P10 (reading (ended (32 ∷ 32 ∷ 49 ∷ 97 ∷ [])) (record { value = Some 26; next = record { at = 5; status = 0 } }))
    -- transmitter bind, wrong password, sequence 1
    ∷ row P11
    (taking two_accounts opened_with (sends 0 (pdu 2 1 (bind paging plant vma)))
    (gives (answers 0 37 23 (0x00 ∷ 0x00 ∷ 0x00 ∷ 0x17 ∷ 0x80 ∷ 0x00 ∷ 0x00 ∷ 0x02 ∷ 0x00 ∷ 0x00 ∷ 0x00 ∷ 0x0D ∷ 0x00 ∷ 0x00 ∷ 0x00 ∷ 0x01 ∷ 0x53 ∷ 0x4D ∷ 0x53 ∷ 0x43 ∷ 0x33 ∷ 0x33 ∷ 0x00 ∷ [])) Open))
    -- command 0x80000015: no reply
    ∷ row P12 (taking no_accounts opened (sends 0 (pdu 0x80000015 7 [])) (gives (answers 0 16 0 []) Open))
    ∷ []

pub hold : Every Holds examples
unfolding computed
hold = (refl, (refl, (refl, (refl, (refl, (refl, (refl, (refl, (refl, (refl, (refl, (refl, tt))))))))))))
