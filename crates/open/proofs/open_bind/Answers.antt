-- `open::open_bind` meets its contract. Assumes nothing.
use mathlib.Core.Path.{◌≡◌, refl}
use Rattle.std.specs.Prelude.{Result, Ok, Err}
use Rattle.std.specs.Result.{result_unwrap_or}
use Rattle.wire.specs.Status.{outcome_status}
use Rattle.wire.specs.declared.status.Status.{Status}
use Rattle.session.specs.declared.Entry.{Entry}
use Rattle.session.specs.declared.Entry.TheVariants.{Open}
use Rattle.open.specs.Open.{binds, open_bind}
use Rattle.open.proofs.open_bind.Goals as goal

-- a bind's status and entry, as the two are told
told : (r : Result Entry Status) → binds r ≡ record { status = outcome_status r; entry = result_unwrap_or r Open }
told (Ok entry) = refl
told (Err status) = refl

pub returns : goal.returns
unfolding open_bind
returns c = rw (← c.bind_to-bound.ensures, told c.bind_to-bound.result, ← c.of.ensures, ← c.bind-written.ensures, ← c.unwrap_or.ensures)
