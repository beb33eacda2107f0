-- `store::search::lowest` meets its contract: the best so far, carried over the records to come, is the best of all. Assumes nothing.
use Rattle.std.proofs.Common.{◌≡◌, ◌∙◌, refl, sym, ap, subst, rules, arith, Some}
use Rattle.octets.specs.Choice.{when◌then◌else◌}
use Rattle.store.specs.Places.{Below, beats, keep, found_of, lowest}
use Rattle.store.proofs.PlacesLaws.{left-more, left-none, lowest-below}
use Rattle.store.proofs.search.lowest.Goals as goal

pub loop-place-init : goal.loop-place-init
loop-place-init g c =
    let numbered = c.enumerate-place-items.ensures in
    rw (c.into_iter-place-iterator.ensures.into_iter_gives, numbered.source, numbered.count, c.chunks_exact.ensures.rest)
    (c.chunks_exact.ensures.size, λ count p n whole tests ranks. (count, omega arith, whole, refl))

pub loop-place-preserved-then-passes-is_none_or : goal.loop-place-preserved-then-passes-is_none_or
unfolding keep when◌then◌else◌
loop-place-preserved-then-passes-is_none_or g c =
    let step = c.in-Some.ensures.steps in
    let best = c.loop-place.best in
    let k = c.loop-place.place-iterator.count in
    let r = c.in-Some.r in
    let sized = step.0.1.1 ∙ c.loop-place.invariant.0 in
    let beaten : c.is_none_or.result ≡ beats c.rank-rank.result best = search rules in (
      step.0.0 ∙ c.loop-place.invariant.0,
      λ count p n whole tests ranks.
          let kept : keep p n best k r.now ≡ Some (record { rank = c.rank-rank.result; place = c.in-Some.place }) =
          rw (step.1, ← tests r _ sized c.passes.ensures, ← ranks r _ sized c.rank-rank.ensures, ← beaten, c.if-passes-is_none_or.true) in
          rw (← kept, step.2) (left-more (keep p n) c.args.size count _ c.requires.some k best _ r.now _ (c.loop-place.invariant.1 count p n whole tests ranks) step.0.1.0 sized),
    )

pub loop-place-preserved : goal.loop-place-preserved
unfolding keep when◌then◌else◌
loop-place-preserved g c =
    let step = c.in-Some.ensures.steps in
    let best = c.loop-place.best in
    let k = c.loop-place.place-iterator.count in
    let r = c.in-Some.r in
    let sized = step.0.1.1 ∙ c.loop-place.invariant.0 in
    let beaten : c.is_none_or.result ≡ beats c.rank-rank.result best = search rules in (
      step.0.0 ∙ c.loop-place.invariant.0,
      λ count p n whole tests ranks.
          let kept : keep p n best k r.now ≡ best =
          rw (← tests r _ sized c.passes.ensures, ← ranks r _ sized c.rank-rank.ensures, ← beaten, c.if-passes-is_none_or.false) in
          rw (step.2) (rw kept at (left-more (keep p n) c.args.size count _ c.requires.some k best _ r.now _ (c.loop-place.invariant.1 count p n whole tests ranks) step.0.1.0 sized)),
    )

pub returns : goal.returns
unfolding lowest
returns g c = λ count p n whole tests ranks.
    let found : c.map.result ≡ found_of c.loop-place.best = search rules in
    let short = rw c.loop-place.invariant.0 at c.in-None.ensures.steps.0.1.0 in
    let all = left-none (keep p n) c.args.size count _ c.requires.some _ c.loop-place.best _ (c.loop-place.invariant.1 count p n whole tests ranks) short in
    let e = found ∙ ap found_of (sym all) in
    (e, subst (Below count) (sym e) (lowest-below c.args.size count p n c.args.records.now))
