-- `requests::plain::read_plain` meets its contract. Assumes nothing.
use mathlib.Core.Path.{◌≡◌, sym}
use Prim.Native.Nat.{ℕ}
use Rattle.std.specs.Prelude.{Result, Ok, Err, MatchResult}
use Rattle.wire.specs.Status.{code, outcome_status}
use Rattle.wire.specs.declared.status.Status.{Status}
use Rattle.requests.specs.Plain.{plain_of}
use Rattle.requests.proofs.plain.read_plain.Goals as goal

told : (r : Result Unit Status) (n : ℕ) → MatchResult r (λ _. n ≡ 0) (λ s. n ≡ code s) → outcome_status r ≡ n
told (Ok x) n e = sym e
told (Err s) n e = sym e

pub returns : goal.returns
unfolding plain_of
returns c = rw (← c.of.ensures.0, ← c.of.ensures.1) (told _ _ c.end.ensures)
