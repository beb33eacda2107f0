-- What isolation says, of any machine. The proofs are under proofs/.
use Rattle.std.specs.Prelude.{ℕ, ◌≡◌, List, map, length}
use Rattle.session.specs.State.{last_at, receipts_of}
use Rattle.isolation.specs.Platform.{part_size, part_of, World, fresh, Own, Step, Request, Machine}
use Rattle.isolation.specs.History.{step_of, after, answers_of, remaining, after_alone, answers_alone}

-- two runs show account A the same: its answers in order (response octets among them), its stored records, its last id, and the receipts that are
-- outstanding on its sessions
pub record Same {R : Type 0} (A : ℕ) (ls : List R) (w : World) (rs : List R) (v : World) : Type 0 where
  pub answers : ls ≡ rs
  pub records : part_of A w.table ≡ part_of A v.table
  pub last : last_at w.state A ≡ last_at v.state A
  pub receipts : receipts_of w.state A ≡ receipts_of v.state A

module _ (m : Machine) where
  open m use {Book, X, Q, R, act}

  -- the one law asked of a machine: an account's function keeps the length of its part
  abbrev pub Keeps : Type 0
  Keeps = (b : Book) (a : ℕ) (q : Request X Q) (o : Own) → length o.part ≡ part_size → length (act b a q o).own.part ≡ part_size

  -- a history shows A what its remaining steps show it, run alone
  abbrev pub Alone : Type 0
  Alone = (b : Book) (A : ℕ) (hs : List (Step X Q)) →
      Same A (answers_of m A b fresh hs) (after m b fresh hs)
      (answers_alone m b fresh (remaining m A b fresh hs)) (after_alone m b fresh (remaining m A b fresh hs))

  -- two histories with one book whose remaining steps have the same arguments show A the same
  abbrev pub Isolated : Type 0
  Isolated = (b : Book) (A : ℕ) (hs gs : List (Step X Q)) → map step_of (remaining m A b fresh hs) ≡ map step_of (remaining m A b fresh gs) →
      Same A (answers_of m A b fresh hs) (after m b fresh hs) (answers_of m A b fresh gs) (after m b fresh gs)
