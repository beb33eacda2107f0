-- `inverook::flat::InverookStateFromState::from` meets its contract, array by array. Assumes nothing.
use mathlib.Core.Path.{◌≡◌}
use Rattle.std.proofs.Common.{rules}
use Rattle.session.proofs.MapLaws.{counted}
use Rattle.inverook.specs.Flat.{kind_at, account_at, id_at, sequence_at, flat_of}
use Rattle.inverook.proofs.flat.InverookStateFromState.from.Goals as goal

kinds : (c : goal.After-from_fn-4) → c.from_fn.result ≡ (flat_of c.args.state).kinds
unfolding flat_of
kinds c = counted _ _ (kind_at c.args.state) 16 (λ i y q l k. search rules) _ 0 c.from_fn.ensures.items

accounts : (c : goal.After-from_fn-4) → c.from_fn-2.result ≡ (flat_of c.args.state).accounts
unfolding flat_of
accounts c = counted _ _ (account_at c.args.state) 16 (λ i y q l k. search rules) _ 0 c.from_fn-2.ensures.items

ids : (c : goal.After-from_fn-4) → c.from_fn-3.result ≡ (flat_of c.args.state).receipts
unfolding flat_of
ids c = counted _ _ (id_at c.args.state) 16 (λ i y q l k. search rules) _ 0 c.from_fn-3.ensures.items

sequences : (c : goal.After-from_fn-4) → c.from_fn-4.result ≡ (flat_of c.args.state).sequences
unfolding flat_of
sequences c = counted _ _ (sequence_at c.args.state) 16 (λ i y q l k. search rules) _ 0 c.from_fn-4.ensures.items

pub returns : goal.returns
unfolding flat_of
returns c = rw (kinds c, accounts c, ids c, sequences c)
