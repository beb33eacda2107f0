-- The sizes of a world: sixteen sessions, eight last ids, a table of eight parts. Every step of every machine leaves them as they are, since what is
-- put replaces what is there and adds nothing. So each account's part always lies inside the table. Assumes nothing.
use mathlib.Core.Path.{◌≡◌, refl, ◌∙◌}
use Prim.Native.Nat.{ℕ, ◌*◌, ◌<◌}
use native.Mathlib.Omega.{arith}
use lib.ListN.{length, length-take, length-drop, length-set, length-replicate}
use lib.Dec.{ltb, leb, eqb}
use Rattle.octets.proofs.StretchLaws.{if-cases}
use Rattle.octets.proofs.PatchLaws.{patch-length}
use Rattle.session.specs.State.{session_count, account_count, session_with, entry_at, opened, opened_from, closed}
use Rattle.session.specs.declared.Entry.{Entry}
use Rattle.session.specs.declared.Entry.TheVariants.{Closed, Open, Transmitter, Receiver, Ended}
use Rattle.session.specs.State.{Moved}
use Rattle.session.proofs.ReceiptLaws.{granting-length}
use Rattle.isolation.specs.Platform.{part_size, table_size, World, fresh, Own, put_own, put_entry, become, Step, opens, closes, on, of, Request, on_session, Ran, Machine, ask, move, on_account, on_entry, on_after, of_after, step}
use Rattle.isolation.specs.History.{Kept, reopened, anew, alone_step}
use Rattle.isolation.specs.Isolation.{Keeps}

pub record Sized (w : World) : Type 0 where
  pub sessions : length w.state.sessions ≡ session_count
  pub lasts : length w.state.lasts ≡ account_count
  pub table : length w.table ≡ table_size

pub sized_fresh : Sized fresh
unfolding fresh
sized_fresh = record { sessions = refl; lasts = refl; table = length-replicate {A = ℕ} table_size 0 }

pub sized-entry : (w : World) → Sized w → (s : ℕ) (e : Entry) → Sized (put_entry w s e)
sized-entry w z s e =
    record { sessions = length-set w.state.sessions s (session_with e) ∙ z.sessions; lasts = z.lasts; table = z.table }

pub sized-become : (w : World) → Sized w → (s : ℕ) (e : Entry) → Sized (become w s e)
sized-become w z s Closed = sized-entry w z s Closed
sized-become w z s Open = z
sized-become w z s (Transmitter a) = sized-entry w z s (Transmitter a)
sized-become w z s (Receiver a) = sized-entry w z s (Receiver a)
sized-become w z s Ended = sized-entry w z s Ended

sized-put : (w : World) → Sized w → (a : ℕ) (o : Own) → Sized (put_own w a o)
sized-put w z a o =
    record {
      sessions = granting-length a w.state.sessions o.receipts ∙ z.sessions;
      lasts = length-set w.state.lasts a o.last ∙ z.lasts;
      table = patch-length w.table (part_size * a) o.part ∙ z.table;
    }

module _ (m : Machine) where
  open m use {Book, X, Q, R, early_on, early_of, front}

  abbrev SizedAfter : Ran R → Type 0
  SizedAfter r = Sized r.world

  module _ (b : Book) (w : World) (z : Sized w) where
    -- what an account gives back in place of its part has the part's size
    pub asked-length : Keeps m → (a : ℕ) (q : Request X Q) → a < account_count → length (ask m b w a q).own.part ≡ part_size
    asked-length keeps a q la = keeps b a q _ (simp (length-take, length-drop) (omega (arith, z.table)))

    sized-opened : (s : ℕ) (e : Entry) → SizedAfter (move m w (opened_from w.state s e))
    sized-opened s Closed = sized-entry w z s Open
    sized-opened s Open = z
    sized-opened s (Transmitter a) = z
    sized-opened s (Receiver a) = z
    sized-opened s Ended = z

    sized-on_account : (s : ℕ) (x : X) (e : Entry) (a : ℕ) → SizedAfter (on_account m b w s x e a)
    sized-on_account s x e a =
        let r = ask m b w a (on_session s e x) in
        if-cases SizedAfter (ltb a account_count) _ _
        (λ h. sized-put _ (if-cases Sized r.ends (put_entry w s Ended) w (λ t. sized-entry w z s Ended) (λ t. z)) a r.own)
        (λ h. z)

    sized-on_entry : (s : ℕ) (x : X) (e : Entry) → SizedAfter (on_entry m b w s x e)
    sized-on_entry s x Closed = z
    sized-on_entry s x Open = sized-become w z s (front b x).after
    sized-on_entry s x (Transmitter a) = sized-on_account s x (Transmitter a) a
    sized-on_entry s x (Receiver a) = sized-on_account s x (Receiver a) a
    sized-on_entry s x Ended = z

    sized-on_after : (n s : ℕ) (x : X) → SizedAfter (on_after m n b w s x)
    sized-on_after n s x = if-cases SizedAfter (eqb n 0) _ _ (λ h. sized-on_entry s x (entry_at w.state s)) (λ h. z)

    sized-of_after : (n a : ℕ) (q : Q) → SizedAfter (of_after m n b w a q)
    sized-of_after n a q =
        if-cases SizedAfter (eqb n 0) _ _
        (λ h. if-cases SizedAfter (ltb a account_count) _ _ (λ k. sized-put w z a _) (λ k. z))
        (λ h. z)

    pub sized-step : (st : Step X Q) → Sized (step m b w st).world
    unfolding step opened closed
    sized-step (opens s) =
        if-cases (λ (r : Moved). SizedAfter (move m w r)) (leb session_count s) _ _ (λ h. z) (λ h. sized-opened s (entry_at w.state s))
    sized-step (closes s) =
        if-cases (λ (r : Moved). SizedAfter (move m w r)) (leb session_count s) _ _ (λ h. z) (λ h. sized-entry w z s Closed)
    sized-step (on s x) = if-cases SizedAfter (leb session_count s) _ _ (λ h. z) (λ h. sized-on_after (early_on b (length w.table) x) s x)
    sized-step (of a q) = sized-of_after (early_of b (length w.table) q) a q

  -- ---- the run alone

  pub sized-reopened : (b : Book) (w : World) → Sized w → (s : ℕ) → Sized (reopened m b w s)
  sized-reopened b w z s = sized-step b (step m b w (closes s)).world (sized-step b w z (closes s)) (opens s)

  sized-anew : (b : Book) (w : World) → Sized w → (st : Step X Q) → Sized (anew m b w st)
  sized-anew b w z (opens s) = sized-reopened b w z s
  sized-anew b w z (closes s) = sized-reopened b w z s
  sized-anew b w z (on s x) = sized-reopened b w z s
  sized-anew b w z (of a q) = z

  pub sized-alone : (b : Book) (w : World) → Sized w → (k : Kept X Q) → Sized (alone_step m b w k).world
  sized-alone b w z k =
      sized-step b _ (if-cases Sized k.binds (anew m b w k.step) w (λ t. sized-anew b w z k.step) (λ t. z)) k.step
