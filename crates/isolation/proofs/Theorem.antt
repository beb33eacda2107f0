-- Isolation, of every machine whose accounts' functions keep the length of their parts. Assumes nothing.
use mathlib.Core.Path.{◌≡◌, refl, sym, ap, ap₂, ◌∙◌}
use mathlib.Core.Bool.{Bool, true, not, ◌||◌}
use mathlib.Core.List.{List, [], ◌∷◌, map}
use Prim.Native.Nat.{ℕ}
use Rattle.isolation.specs.Platform.{World, fresh, Step, Machine, step}
use Rattle.isolation.specs.History.{names, concerns, binds, Kept, step_of, after, answers_of, remaining, alone_step, after_alone, answers_alone}
use Rattle.isolation.specs.Isolation.{Same, Keeps, Alone, Isolated}
use Rattle.isolation.proofs.Sizes.{Sized, sized_fresh, sized-step, sized-alone}
use Rattle.isolation.proofs.Views.{View, view, bound_in-same}
use Rattle.isolation.proofs.Frame.{own, frame}
use Rattle.isolation.proofs.Twin.{if-both, mark, twin}

-- the marks follow from the steps: run alone, a step binds its session where the step is not A's own yet
marked : (m : Machine) → ℕ → m.Book → World → List (Step m.X m.Q) → List (Kept m.X m.Q)
marked m A b v [] = []
marked m A b v (st ∷ sts) =
    let k : Kept m.X m.Q = record { step = st; binds = not (own m A v st) } in
    k ∷ marked m A b (alone_step m b v k).world sts

module _ (m : Machine) (keeps : Keeps m) (b : m.Book) (A : ℕ) where
  open m use {X, Q, R}

  -- a full run that gave A the answers ls and ended in the world u, and the kept steps ks run alone from v
  record Told (ls : List R) (u v : World) (ks : List (Kept X Q)) : Type 0 where
    answers : ls ≡ answers_alone m b v ks
    world : view A u ≡ view A (after_alone m b v ks)
    marks : ks ≡ marked m A b v (map step_of ks)

  -- a step that remains, with its mark in the full run
  abbrev kept_step : World → Step X Q → Kept X Q
  kept_step w st = record { step = st; binds = binds m A b w st }

  -- one more step in front of such a run, taken in w: it remains, and is run alone in v
  told-kept : (st : Step X Q) (w v : World) → Sized w → Sized v → view A w ≡ view A v → concerns m A b w st ≡ true
      → (ls : List R) (u : World) (ks : List (Kept X Q))
      → Told ls u (alone_step m b v (kept_step w st)).world ks → Told ((step m b w st).answer ∷ ls) u v (kept_step w st ∷ ks)
  unfolding marked
  told-kept st w v z y alike c ls u ks rest =
      let own_same = ap (λ (p : Bool). not (names m A st || p)) (bound_in-same A w v alike m st) in
      let again : binds m A b w st ≡ not (own m A v st) = mark m keeps b A w st c ∙ own_same in
      record {
        answers = ap₂ {C = List R} (λ r rs. r ∷ rs) (twin m keeps b A w v z y alike st c).answer rest.answers;
        world = rest.world;
        marks = rw (← again) (ap (λ (js : List (Kept X Q)). kept_step w st ∷ js) rest.marks);
      }

  told : (hs : List (Step X Q)) (w v : World) → Sized w → Sized v → view A w ≡ view A v
      → Told (answers_of m A b w hs) (after m b w hs) v (remaining m A b w hs)
  unfolding marked
  told [] w v z y alike = record { answers = refl; world = alike; marks = refl }
  told (st ∷ sts) w v z y alike =
      let w' = (step m b w st).world in
      let z' = sized-step m b w z st in
      let v' = (alone_step m b v (kept_step w st)).world in
      let y' = sized-alone m b v y (kept_step w st) in
      if-both (λ (ls : List R) (ks : List (Kept X Q)). Told ls (after m b w' sts) v ks) (concerns m A b w st) _ _ _ _
      (λ c. told-kept st w v z y alike c _ _ _ (told sts w' v' z' y' (twin m keeps b A w v z y alike st c).world))
      (λ c. told sts w' v z' y (frame m b A w z keeps st c ∙ alike))

  told_fresh : (hs : List (Step X Q)) → Told (answers_of m A b fresh hs) (after m b fresh hs) fresh (remaining m A b fresh hs)
  told_fresh hs = told hs fresh fresh sized_fresh sized_fresh refl

  -- what A sees is what Same compares
  same : {ls rs : List R} (u v : World) → ls ≡ rs → view A u ≡ view A v → Same A ls u rs v
  same u v answers world =
      record {
        answers = answers;
        records = ap (λ (vw : View). vw.own.part) world;
        last = ap (λ (vw : View). vw.own.last) world;
        receipts = ap (λ (vw : View). vw.own.receipts) world;
      }

-- a history shows A what its remaining steps show it, run alone
pub alone : (m : Machine) → Keeps m → Alone m
alone m keeps b A hs = let t = told_fresh m keeps b A hs in same m keeps b A _ _ t.answers t.world

-- two histories whose remaining steps are the same show A the same: by the marks, the steps that remain are run alone in one way only
pub isolated : (m : Machine) → Keeps m → Isolated m
isolated m keeps b A hs gs e =
    let t = told_fresh m keeps b A hs in
    let u = told_fresh m keeps b A gs in
    let kept : remaining m A b fresh hs ≡ remaining m A b fresh gs = t.marks ∙ ap (marked m A b fresh) e ∙ sym u.marks in
    same m keeps b A _ _
    (t.answers ∙ ap (answers_alone m b fresh) kept ∙ sym u.answers)
    (t.world ∙ ap (λ (ks : List (Kept m.X m.Q)). view A (after_alone m b fresh ks)) kept ∙ sym u.world)
