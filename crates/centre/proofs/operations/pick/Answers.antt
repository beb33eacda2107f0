-- `centre::operations::pick` meets its contract. Assumes nothing.
use mathlib.Core.Path.{refl, sym, ap, ◌∙◌, subst}
use Prim.Native.Nat.{ℕ}
use native.Mathlib.Omega.{arith}
use Rattle.octets.specs.Lent.{lent, lent_part}
use Rattle.octets.proofs.LentLaws.{held, lent_cut}
use Rattle.centre.specs.Pick.{WithinTable, Inside}
use Rattle.centre.proofs.PlacedLaws.{place-part}
use Rattle.std.specs.Prelude.{Result}
use Rattle.session.specs.declared.refusal.Refusal.{Refusal}
use Rattle.centre.proofs.operations.pick.Goals as goal

pub start_of-at-requires : goal.start_of-at-requires
start_of-at-requires c = let w : WithinTable c.args.account c.in-Ok.k c.args.table.now = subst (λ (p : Result ℕ Refusal). Inside p c.args.account c.args.table.now) c.in-Ok.is c.locate.ensures.1 in (w.account_fits, w.place_fits)

pub overflow_add-result : goal.overflow_add-result
overflow_add-result c = let w : WithinTable c.args.account c.in-Ok.k c.args.table.now = subst (λ (p : Result ℕ Refusal). Inside p c.args.account c.args.table.now) c.in-Ok.is c.locate.ensures.1 in omega (arith, c.start_of-at.ensures, w.account_fits, w.place_fits)

pub slice_bounds-result-end-in-Ok : goal.slice_bounds-result-end-in-Ok
slice_bounds-result-end-in-Ok c = let w : WithinTable c.args.account c.in-Ok.k c.args.table.now = subst (λ (p : Result ℕ Refusal). Inside p c.args.account c.args.table.now) c.in-Ok.is c.locate.ensures.1 in omega (arith, c.start_of-at.ensures, w.account_fits, w.place_fits, w.table_fits)

pub returns-in-Err : goal.returns-in-Err
returns-in-Err c = rw (← c.locate.ensures.0, c.in-Err.is) (refl, refl)

pub returns-in-Ok : goal.returns-in-Ok
returns-in-Ok c = let w : WithinTable c.args.account c.in-Ok.k c.args.table.now = subst (λ (p : Result ℕ Refusal). Inside p c.args.account c.args.table.now) c.in-Ok.is c.locate.ensures.1 in
    let t = c.args.table in
    let there = lent_cut (lent t) c.start_of-at.result 256 (omega (arith, c.start_of-at.ensures, w.account_fits, w.place_fits, w.table_fits))
    ∙ ap (λ (at : ℕ). lent_part at 256 (lent t)) c.start_of-at.ensures in
    rw (← c.locate.ensures.0, c.in-Ok.is)
    (there, held (there ∙ sym (place-part c.args.account c.in-Ok.k (lent t) w.place_fits)))
