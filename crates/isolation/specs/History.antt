-- Histories: what concerns an account, the steps that remain, and those steps run alone.
use Rattle.std.specs.Prelude.{ℕ, Bool, false, not, ◌&&◌, ◌||◌, List, [], ◌∷◌, eqb}
use Rattle.octets.specs.Choice.{when◌then◌else◌}
use Rattle.session.specs.State.{entry_at}
use Rattle.session.specs.declared.Entry.{Entry}
use Rattle.session.specs.declared.Entry.TheVariants.{Closed, Open, Transmitter, Receiver, Ended}
use Rattle.isolation.specs.Platform.{World, Step, opens, closes, on, of, Ran, Machine, step}

abbrev pub bound_to : ℕ → Entry → Bool
bound_to A Closed = false
bound_to A Open = false
bound_to A (Transmitter a) = eqb a A
bound_to A (Receiver a) = eqb a A
bound_to A Ended = false

-- a step that remains, and whether it binds its session to the account
pub record Kept (X Q : Type 0) : Type 0 where
  pub step : Step X Q
  pub binds : Bool

abbrev pub step_of : {X Q : Type 0} → Kept X Q → Step X Q
step_of k = k.step

module _ (m : Machine) where
  open m use {Book, X, Q, R}

  -- the step's session is bound to A in w; what is asked of an account has none
  abbrev pub bound_in : ℕ → World → Step X Q → Bool
  bound_in A w (opens s) = bound_to A (entry_at w.state s)
  bound_in A w (closes s) = bound_to A (entry_at w.state s)
  bound_in A w (on s x) = bound_to A (entry_at w.state s)
  bound_in A w (of a q) = false

  -- A's number is the account of an outcome or a pick: of what is asked of an account
  abbrev pub names : ℕ → Step X Q → Bool
  names A (opens s) = false
  names A (closes s) = false
  names A (on s x) = false
  names A (of a q) = eqb a A

  -- its session is bound to A just before or just after it, or A's number is the account of an outcome or a pick
  unfoldable pub concerns : ℕ → Book → World → Step X Q → Bool
  concerns A b w st = names A st || (bound_in A w st || bound_in A (step m b w st).world st)

  unfoldable pub binds : ℕ → Book → World → Step X Q → Bool
  binds A b w st = not (bound_in A w st) && bound_in A (step m b w st).world st

  -- ---- a whole history: the world after it, A's answers, and the steps that remain when all that doesn't concern A is struck out

  abbrev pub after : Book → World → List (Step X Q) → World
  after b w [] = w
  after b w (st ∷ sts) = after b (step m b w st).world sts

  abbrev pub answers_of : ℕ → Book → World → List (Step X Q) → List R
  answers_of A b w [] = []
  answers_of A b w (st ∷ sts) =
      let rest = answers_of A b (step m b w st).world sts in
      when concerns A b w st then (step m b w st).answer ∷ rest else rest

  abbrev pub remaining : ℕ → Book → World → List (Step X Q) → List (Kept X Q)
  remaining A b w [] = []
  remaining A b w (st ∷ sts) =
      let rest = remaining A b (step m b w st).world sts in
      when concerns A b w st then record { step = st; binds = binds A b w st } ∷ rest else rest

  -- ---- the remaining steps run alone, each session closed and opened afresh before a step that binds it

  abbrev pub reopened : Book → World → ℕ → World
  reopened b w s = (step m b (step m b w (closes s)).world (opens s)).world

  abbrev pub anew : Book → World → Step X Q → World
  anew b w (opens s) = reopened b w s
  anew b w (closes s) = reopened b w s
  anew b w (on s x) = reopened b w s
  anew b w (of a q) = w

  abbrev pub alone_step : Book → World → Kept X Q → Ran R
  alone_step b w k = step m b (when k.binds then anew b w k.step else w) k.step

  abbrev pub after_alone : Book → World → List (Kept X Q) → World
  after_alone b w [] = w
  after_alone b w (k ∷ ks) = after_alone b (alone_step b w k).world ks

  abbrev pub answers_alone : Book → World → List (Kept X Q) → List R
  answers_alone b w [] = []
  answers_alone b w (k ∷ ks) = (alone_step b w k).answer ∷ answers_alone b (alone_step b w k).world ks
