-- `inverook::flat::StateFromInverookState::from` meets its contract. Assumes nothing.
use Rattle.std.proofs.Common.{rules}
use Rattle.session.specs.State.{closed_session}
use Rattle.session.proofs.MapLaws.{counted}
use Rattle.inverook.specs.Flat.{session_at, state_of}
use Rattle.inverook.proofs.flat.StateFromInverookState.from.Goals as goal

pub returns : goal.returns
unfolding state_of
returns c = rw (counted _ _ (session_at c.args.flat) 16 (λ i y q l k. search rules) _ closed_session c.from_fn.ensures.items)
