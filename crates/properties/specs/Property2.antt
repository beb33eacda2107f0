-- Requests are read and responses written octet for octet as defined; session states and effects are those of that definition too (the second
-- property). The definition is `step` of crate centre. That each public operation follows it is the contract of its code: taking octets, writing a
-- receipt and an outcome say `takes .. ≡ step ..`, `delivers .. ≡ step ..` and `reports .. ≡ step ..`; a pick gives number, place and record of its
-- step's answer; opening and closing say what is `step` by the lines here. Here is also that a pick changes nothing and a receipt no stored message,
-- and that such contracts allow one result only, so that the definition alone decides; of a contract that names its result, `r ≡ ..`, that goes
-- without saying, of a returned part it is `one-part` of crate octets, of a field that is read
-- `one-field`, `one-fault` and `one-end` of crate wire, and of a body `one-reading` of crate requests.
use Rattle.std.specs.Prelude.{ℕ, ◌<◌, ◌≡◌, List, replicate, Option, Result}
use Rattle.records.specs.Layout.{places}
use Rattle.store.specs.Places.{record_at}
use Rattle.session.specs.State.{opened, closed, moved_to}
use Rattle.session.specs.State as S
use Rattle.session.specs.declared.State.{State}
use Rattle.isolation.specs.Platform.{table_size, part_of, World, fresh, opens, closes, on, of}
use Rattle.answers.specs.Answer.{Delivery, delivering, pick, Answer, numbered, taken, delivered, picked}
use Rattle.centre.specs.Centre.{step, world, moves, takes, delivers, reports}
use Rattle.answers.specs.Reply.{wrote}
use Rattle.submit.specs.Submit.{gave}
use Rattle.account.specs.Cancel.{changed}
use Rattle.account.specs.Query.{asked}
use Rattle.wire.specs.Status.{outcome_status}
use Rattle.wire.specs.declared.status.Status.{Status}
use Rattle.session.specs.declared.Entry.{Entry}
use Rattle.account.specs.Outcome.{told}
use Rattle.open.specs.Open.{answers, binds, fronts}
use Rattle.receipts.specs.Offer.{offers}
use Rattle.receipts.specs.Settle.{settling}
use Rattle.bound.specs.Bound.{acts, handles, comes_to}
use Rattle.centre.specs.Operations.{noting}
use Rattle.centre.specs.Pick.{placed}
use Rattle.session.specs.declared.refusal.Refusal.{Refusal}
use Rattle.session.specs.declared.Handed.{Handed}
use Rattle.session.specs.declared.Receipt.{Receipt}
use Rattle.session.specs.Refusal.{outcome_number}

-- of an account with this part, a pick answers a number other than 0 alone, or one of the sixteen places and the record that stands there
abbrev pub Picked : List ℕ → Answer → Type 0
Picked part (numbered n) = n ≡ 0 → ⊥
Picked part (taken n consumed written space) = ⊥
Picked part (delivered n written space) = ⊥
Picked part (picked k r) = (k < places) × (r ≡ record_at k part)

-- a shape that gathers what leaves a call (a result, the state, what was lent) leaves nothing out: of two results that one contract allows, each
-- shape equals the same term, so they equal each other, and then so do the results
abbrev pub Tells : {A B C : Type 0} → (A → B → C) → Type 0
Tells {A} {B} {C} shape = (a a' : A) (b b' : B) → shape a b ≡ shape a' b' → (a ≡ a') × (b ≡ b')

abbrev pub TellsOfThree : {A B C D : Type 0} → (A → B → C → D) → Type 0
TellsOfThree {A} {B} {C} {D} shape =
    (a a' : A) (b b' : B) (c c' : C) → shape a b c ≡ shape a' b' c' → (a ≡ a') × (b ≡ b') × (c ≡ c')

pub record Property2 : Type 0 where
  -- the fresh state with a table of zeros is the fresh platform; opening and closing are steps
  pub starting : world S.fresh (replicate table_size 0) ≡ fresh
  pub opening : (book : List ℕ) (state : State) (table : List ℕ) (s : ℕ) → moves (opened state s) table ≡ step book (world state table) (opens s)
  pub closing : (book : List ℕ) (state : State) (table : List ℕ) (s : ℕ) → moves (closed state s) table ≡ step book (world state table) (closes s)
  -- a pick changes nothing
  pub picking : (book : List ℕ) (w : World) (a : ℕ) → (let r = step book w (of a pick) in
      (r.world ≡ w) × Picked (part_of a w.table) r.answer)
  -- a receipt that is written changes no stored message and no last id
  pub delivering : (book : List ℕ) (w : World) (s : ℕ) (y : Delivery) → (let r = step book w (on s (delivering y)) in
      (r.world.table ≡ w.table) × (r.world.state.lasts ≡ w.state.lasts))
  -- one result only, of the public operations: opening and closing, taken octets, a receipt, an outcome
  pub moved : Tells moves
  pub handed : (h h' : Handed Unit) → moved_to h ≡ moved_to h' → h ≡ h'
  pub taken : TellsOfThree takes
  pub delivered : TellsOfThree delivers
  pub reported : TellsOfThree reports
  pub numbered : (o o' : Result Unit Refusal) → outcome_number o ≡ outcome_number o' → o ≡ o'
  -- and inside: replies, submissions, other changes of an account, outcomes, receipts written and settled, octets on an open and on a bound session
  pub wrote : Tells wrote
  pub gave : (last : ℕ) → Tells (gave last)
  pub changed : Tells changed
  pub refused : (o o' : Result Unit Status) → outcome_status o ≡ outcome_status o' → o ≡ o'
  pub asked : (o o' : Result ℕ Status) → asked o ≡ asked o' → o ≡ o'
  pub binds : (o o' : Result Entry Status) → binds o ≡ binds o' → o ≡ o'
  pub told : Tells told
  pub noted : Tells noting
  pub offers : (receipt : Option Receipt) → Tells (offers receipt)
  pub settling : Tells settling
  pub answers : Tells answers
  pub fronts : Tells fronts
  pub acts : TellsOfThree acts
  pub handles : TellsOfThree handles
  pub comes : (last : ℕ) (receipt : Option Receipt) → TellsOfThree (comes_to last receipt)
  -- which place is picked
  pub placed : (part : List ℕ) (r r' : Result ℕ Refusal) → placed r part ≡ placed r' part → r ≡ r'
