-- `octets::stretch::put` meets its contract: after i turns the first i octets of the source are pasted. Assumes nothing.
use mathlib.Core.Path.{ap, ◌∙◌}
use mathlib.Core.List.{List}
use Prim.Native.Nat.{ℕ, ◌+◌}
use lib.ListN.{set, get_or}
use Rattle.octets.proofs.PatchLaws.{put-none, put-more, put_all}
use Rattle.octets.proofs.stretch.put.Goals as goal

pub loop-i-init : goal.loop-i-init
loop-i-init c = put-none c.args.target.now c.args.at c.args.source.now

pub loop-i-preserved : goal.loop-i-preserved
loop-i-preserved c =
    ap (λ (l : List ℕ). set l (c.args.at + c.loop-i.i) (get_or c.args.source.now c.loop-i.i 0)) c.loop-i.invariant
    ∙ put-more c.args.target.now c.args.at c.args.source.now c.loop-i.i c.requires c.loop-i-test.true

pub returns : goal.returns
returns c = c.loop-i.invariant ∙ put_all _ _ _ _ c.requires c.loop-i.auto.i-end c.loop-i-test.false
