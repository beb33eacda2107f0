-- `session::State::held` meets its contract. Assumes nothing.
use mathlib.Core.Path.{◌≡◌, sym, ◌∙◌}
use mathlib.Core.List.{map}
use Prim.Native.Nat.{ℕ}
use native.Mathlib.Omega.{arith}
use lib.ListN.{length, get_or}
use Rattle.std.proofs.Common.{rules}
use Rattle.std.proofs.lemmas.List.{length-map, get_or-map}
use Rattle.std.proofs.lemmas.List.FromFn.{fill_by_all}
use Rattle.std.proofs.lemmas.Simd.{map-map}
use Rattle.session.specs.State.{closed_session, held_id, receipt_for}
use Rattle.session.specs.declared.Session.{Session}
use Rattle.session.proofs.MapLaws.{counted}
use Rattle.session.proofs.State.held.Goals as goal

pub returns : goal.returns
returns c =
    let sessions = c.args.self.sessions in
    let id : Session → ℕ = λ x. held_id (receipt_for c.args.account x) in
    let of_index : ℕ → ℕ = λ i. id (get_or sessions i closed_session) in
    let size : length sessions ≡ 16 = search rules in
    counted _ _ of_index 16 (λ i y q l k. search rules) _ 0 c.from_fn.ensures.items
    ∙ sym (fill_by_all of_index (map id sessions) 16 0 (length-map sessions id ∙ size) (λ k l. get_or-map id sessions k closed_session 0 (omega (arith, size, l))))
    ∙ sym (map-map held_id (receipt_for c.args.account) sessions)
