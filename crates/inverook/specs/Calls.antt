-- What a call from C gives, beside what a step of the centre gives.
use Rattle.std.specs.Prelude.{ℕ, List, ltb, length}
use Rattle.octets.specs.Choice.{when◌then◌else◌}
use Rattle.octets.specs.Stretch.{patch}
use Rattle.isolation.specs.Platform.{Ran, table_size}
use Rattle.answers.specs.Reply.{Written, wrote}
use Rattle.answers.specs.Answer.{Answer, numbered}
use Rattle.answers.specs.Answer as A
use Rattle.centre.specs.Pick.{start_of}
use Rattle.inverook.specs.Flat.{flat_of}
use Rattle.inverook.specs.declared.flat.InverookState.{InverookState}
use Rattle.inverook.specs.declared.InverookMoved.{InverookMoved}
use Rattle.inverook.specs.declared.InverookTaken.{InverookTaken}
use Rattle.inverook.specs.declared.InverookDelivered.{InverookDelivered}

-- what a step gives, its state as numbers
pub record Given : Type 0 where
  pub answer : Answer
  pub state : InverookState
  pub table : List ℕ

abbrev pub flatly : Ran Answer → Given
flatly x = record { answer = x.answer; state = flat_of x.world.state; table = x.world.table }

-- what the functions give
abbrev pub moved : InverookMoved → List ℕ → Given
moved r table = record { answer = numbered r.number; state = r.state; table = table }

abbrev pub taken : InverookTaken → List ℕ → List ℕ → Given
taken r table space = record { answer = A.taken r.number r.consumed r.written space; state = r.state; table = table }

abbrev pub delivered : InverookDelivered → List ℕ → List ℕ → Given
delivered r table space = record { answer = A.delivered r.number r.written space; state = r.state; table = table }

-- ---- a pick

-- where the picked record starts; 32,768, one past the table's last octet, where none is picked
abbrev pub picked_at : ℕ → Answer → ℕ
picked_at account (A.numbered n) = table_size
picked_at account (A.taken n consumed written space) = table_size
picked_at account (A.delivered n written space) = table_size
picked_at account (A.picked k r) = start_of account k

-- the picked record copied to the front of a lent space, where it fits there, and how many octets were copied
unfoldable pub copied_to : List ℕ → List ℕ → Written
copied_to octets space = when ltb (length space) (length octets) then wrote 0 space else wrote (length octets) (patch space 0 octets)
