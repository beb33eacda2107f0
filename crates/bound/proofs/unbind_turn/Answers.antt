-- `bound::unbind_turn` meets its contract. Assumes nothing.
use mathlib.Core.Path.{ap, ◌∙◌}
use Prim.Native.Nat.{ℕ}
use lib.Dec.{eqb}
use Rattle.wire.proofs.StatusLaws.{ok-is-0}
use Rattle.bound.specs.Bound.{unbind_turn, replying}
use Rattle.bound.proofs.unbind_turn.Goals as goal

pub returns : goal.returns
unfolding unbind_turn replying
returns c =
    let e = c.is_ok.ensures.value ∙ ok-is-0 c.read_plain-read.result ∙ ap (λ (n : ℕ). eqb n 0) c.read_plain-read.ensures in
    rw (e, ← c.read_plain-read.ensures, ← c.of.ensures, ← c.bare-written.ensures)
