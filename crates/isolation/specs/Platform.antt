-- The platform, in general: sixteen sessions and eight accounts over one table, driven by steps. What a particular centre does is given by a
-- `Machine`; by the types of its parts, an account's function sees of table, last ids and receipts that account's own alone, and an open session's
-- function sees none of them.
use Rattle.std.specs.Prelude.{ℕ, ◌*◌, Bool, List, ltb, leb, eqb, length, replicate, Option}
use Rattle.octets.specs.Choice.{when◌then◌else◌}
use Rattle.octets.specs.Stretch.{part, patch}
pub use Rattle.records.specs.Layout.{part_size, table_size}
use Rattle.session.specs.State.{session_count, account_count, entry_at, last_at, receipts_of, bound, issued, granted, opened, closed}
use Rattle.session.specs.State as S
use Rattle.session.specs.declared.Entry.{Entry}
use Rattle.session.specs.declared.Entry.TheVariants.{Closed, Open, Transmitter, Receiver, Ended}
use Rattle.session.specs.declared.Receipt.{Receipt}
use Rattle.session.specs.declared.State.{State}
use Rattle.session.specs.State.{Moved}

-- account a's part of the table, and the table with that part replaced
abbrev pub part_of : ℕ → List ℕ → List ℕ
part_of a table = part (part_size * a) part_size table

abbrev pub put_part : ℕ → List ℕ → List ℕ → List ℕ
put_part a p table = patch table (part_size * a) p

pub record World : Type 0 where
  pub state : State
  pub table : List ℕ

-- all sessions closed, all last ids and the table zero
unfoldable pub fresh : World
fresh = record { state = S.fresh; table = replicate table_size 0 }

-- all that is an account's own: its part of the table, its last id, and its receivers' receipts, session by session
pub record Own : Type 0 where
  pub part : List ℕ
  pub last : ℕ
  pub receipts : List (Option Receipt)

abbrev pub owning : List ℕ → ℕ → List (Option Receipt) → Own
owning p n rs = record { part = p; last = n; receipts = rs }

-- what is account a's own in a world
abbrev pub own_of : World → ℕ → Own
own_of w a = owning (part_of a w.table) (last_at w.state a) (receipts_of w.state a)

-- the world with account a's own replaced, and with session s's entry replaced
abbrev pub put_own : World → ℕ → Own → World
put_own w a o = record { state = granted (issued w.state a o.last) a o.receipts; table = put_part a o.part w.table }

abbrev pub put_entry : World → ℕ → Entry → World
put_entry w s e = record { state = bound w.state s e; table = w.table }

-- an open session that stays open is left as it was
abbrev pub become : World → ℕ → Entry → World
become w s Closed = put_entry w s Closed
become w s Open = w
become w s (Transmitter a) = put_entry w s (Transmitter a)
become w s (Receiver a) = put_entry w s (Receiver a)
become w s Ended = put_entry w s Ended

-- ---- what is asked, in four kinds of step: a session is opened; it is closed; something (an X) is asked on a session; something (a Q) is asked
-- of an account. A step holds what its call is given, but for the book, the table and the state

pub data Step (X Q : Type 0) : Type 0 where
  opens : ℕ → Step X Q
  closes : ℕ → Step X Q
  on : ℕ → X → Step X Q
  of : ℕ → Q → Step X Q

-- what an account is asked: an X on a session, with that number and that entry, or a Q
pub data Request (X Q : Type 0) : Type 0 where
  on_session : ℕ → Entry → X → Request X Q
  of_account : Q → Request X Q

-- ---- what is answered

-- by an account's function: the answer, what is the account's own (an O) afterwards, and whether the session ends
pub record Effect (O R : Type 0) : Type 0 where
  pub answer : R
  pub own : O
  pub ends : Bool

-- by an open session's function: the answer, and the session's entry afterwards
pub record Front (R : Type 0) : Type 0 where
  pub answer : R
  pub after : Entry

-- by a step
pub record Ran (R : Type 0) : Type 0 where
  pub answer : R
  pub world : World

-- ---- what a centre is made of

pub record Machine : Type 1 where
  pub Book : Type 0
  pub X : Type 0
  pub Q : Type 0
  pub R : Type 0
  -- the answer to opening and closing, a number alone; the refusal of an X, and of a Q, with a number
  pub numbered : ℕ → R
  pub refused_on : ℕ → X → R
  pub refused_of : ℕ → Q → R
  -- the first number that the call's own arguments and the table's size give, or 0
  pub early_on : Book → ℕ → X → ℕ
  pub early_of : Book → ℕ → Q → ℕ
  -- an X on an open session
  pub front : Book → X → Front R
  -- anything asked of account a, which sees what is its own
  pub act : Book → ℕ → Request X Q → Own → Effect Own R

module _ (m : Machine) where
  open m use {Book, X, Q, R, numbered, refused_on, refused_of, early_on, early_of, front, act}

  abbrev pub unchanged : World → R → Ran R
  unchanged w r = record { answer = r; world = w }

  -- account a is asked, and what it gives is put into the world
  abbrev pub ask : Book → World → ℕ → Request X Q → Effect Own R
  ask b w a q = act b a q (own_of w a)

  abbrev pub put : World → ℕ → Effect Own R → Ran R
  put w a e = record { answer = e.answer; world = put_own w a e.own }

  -- ---- opening and closing: the state alone moves

  abbrev pub move : World → Moved → Ran R
  move w r = record { answer = numbered r.number; world = record { state = r.state; table = w.table } }

  -- ---- on a session: 2, then what the arguments give, 6, 9, and then what the session's entry makes of it

  -- a session that ends, or goes on as it was; then what the account gives is put
  abbrev pub conclude : World → ℕ → ℕ → Effect Own R → Ran R
  conclude w s a r = put (when r.ends then put_entry w s Ended else w) a r

  abbrev pub on_account : Book → World → ℕ → X → Entry → ℕ → Ran R
  on_account b w s x e a = when ltb a account_count then conclude w s a (ask b w a (on_session s e x)) else unchanged w (refused_on 9 x)

  abbrev pub on_entry : Book → World → ℕ → X → Entry → Ran R
  on_entry b w s x Closed = unchanged w (refused_on 6 x)
  on_entry b w s x Open = record { answer = (front b x).answer; world = become w s (front b x).after }
  on_entry b w s x (Transmitter a) = on_account b w s x (Transmitter a) a
  on_entry b w s x (Receiver a) = on_account b w s x (Receiver a) a
  on_entry b w s x Ended = unchanged w (refused_on 6 x)

  abbrev pub on_after : ℕ → Book → World → ℕ → X → Ran R
  on_after n b w s x = when eqb n 0 then on_entry b w s x (entry_at w.state s) else unchanged w (refused_on n x)

  -- ---- of an account: what the arguments give, 7, and then what the account makes of it

  abbrev pub of_after : ℕ → Book → World → ℕ → Q → Ran R
  of_after n b w a q =
      when eqb n 0
      then (when ltb a account_count then put w a (ask b w a (of_account q)) else unchanged w (refused_of 7 q))
      else unchanged w (refused_of n q)

  unfoldable pub step : Book → World → Step X Q → Ran R
  step b w (opens s) = move w (opened w.state s)
  step b w (closes s) = move w (closed w.state s)
  step b w (on s x) = when leb session_count s then unchanged w (refused_on 2 x) else on_after (early_on b (length w.table) x) b w s x
  step b w (of a q) = of_after (early_of b (length w.table) q) b w a q
