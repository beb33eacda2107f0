-- Laws of times. Assumes nothing.
use mathlib.Core.Path.{◌≡◌, refl}
use mathlib.Core.Bool.{Bool, true, false, false≢true}
use mathlib.Core.List.{List}
use Prim.Native.Nat.{ℕ}
use lib.ListN.{length}
use borrow.Author.Tests.{eqb-true}
use Rattle.octets.specs.Choice.{when◌then◌else◌}
use Rattle.forms.specs.Time.{is_time, sent_time}

-- a time has 16 characters
chosen : (t b : Bool) → (when t then b else false) ≡ true → t ≡ true
unfolding when◌then◌else◌
chosen true b h = refl
chosen false b h = absurd (false≢true h)

pub sent-length : (t : List ℕ) → sent_time t ≡ true → length t ≡ 16
unfolding sent_time is_time
sent-length t h = eqb-true (length t) 16 (chosen _ _ h)
