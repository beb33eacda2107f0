-- `inverook::inverook_pick_at` meets its contract. Assumes nothing.
use mathlib.Core.Path.{subst}
use Rattle.centre.specs.Pick.{WithinTable, Inside}
use Prim.Native.Nat.{ℕ}
use Rattle.std.specs.Prelude.{Result}
use Rattle.session.specs.declared.refusal.Refusal.{Refusal}
use Rattle.inverook.proofs.inverook_pick_at.Goals as goal

pub start_of-requires : goal.start_of-requires
start_of-requires c = let w : WithinTable c.args.account c.in-Ok.k c.args.table.now = subst (λ (p : Result ℕ Refusal). Inside p c.args.account c.args.table.now) c.in-Ok.is c.locate.ensures.1 in (w.account_fits, w.place_fits)

pub returns-in-Err : goal.returns-in-Err
returns-in-Err c = rw (← c.from.ensures, ← c.locate.ensures.0, c.in-Err.is)

pub returns-in-Ok : goal.returns-in-Ok
returns-in-Ok c = rw (← c.from.ensures, ← c.locate.ensures.0, c.in-Ok.is) c.start_of.ensures
