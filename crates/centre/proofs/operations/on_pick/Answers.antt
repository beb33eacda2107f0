-- `centre::operations::on_pick` meets its contract. Assumes nothing.
use mathlib.Core.Path.{◌≡◌, refl, sym, ◌∙◌}
use Prim.Native.Nat.{ℕ}
use mathlib.Core.List.{List}
use Rattle.std.specs.Prelude.{Option, Some, None}
use Rattle.std.specs.Option.{ok_or}
use Rattle.octets.specs.Choice.{when◌then◌else◌}
use Rattle.session.specs.declared.refusal.Refusal.TheVariants.{NothingWaiting}
use Rattle.store.specs.Places.{record_at, on_found}
use Rattle.store.specs.Places as Places
use Rattle.answers.specs.Answer.{Answer, numbered, picked}
use Rattle.centre.specs.Operations.{picked_from}
use Rattle.centre.specs.Pick.{placed, OnePlace}
use Rattle.centre.proofs.operations.on_pick.Goals as goal

-- a place that was found or not, as an answer
answered : (found : Option ℕ) (part : List ℕ) → placed (ok_or found NothingWaiting) part ≡ on_found {A = Answer} found (λ k. picked k (record_at k part)) (numbered 11)
answered (Some k) part = refl
answered None part = refl

one : (found : Option ℕ) → Places.OnePlace found → OnePlace (ok_or found NothingWaiting)
one (Some k) p = p
one None p = tt

pub returns-then-is_account_ok : goal.returns-then-is_account_ok
unfolding picked_from when◌then◌else◌
returns-then-is_account_ok c =
    let found = c.find_next.result in (
      rw (c.ok_or.ensures.value, sym c.is_account_ok.ensures ∙ c.if-is_account_ok.true, ← c.find_next.ensures.0) (answered found c.args.part.now),
      rw c.ok_or.ensures.value (one found c.find_next.ensures.1),
    )

pub returns-else-is_account_ok : goal.returns-else-is_account_ok
unfolding picked_from when◌then◌else◌
returns-else-is_account_ok c = (rw (sym c.is_account_ok.ensures ∙ c.if-is_account_ok.false), tt)
