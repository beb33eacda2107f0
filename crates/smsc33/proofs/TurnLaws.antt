-- What a turn gives can be read off the shape that its contract gathers it in: the line, the state, the table, and whether to go on. Only what
-- lies behind the line in the lent text is left open. Assumes nothing.
use mathlib.Core.Path.{◌≡◌, sym, ap, ◌∙◌}
use mathlib.Core.Bool.{true≢false, false≢true}
use mathlib.Core.List.{List}
use Prim.Native.Nat.{ℕ}
use lib.ListN.{length, take}
use Rattle.std.specs.Prelude.{is_some}
use Rattle.std.specs.ControlFlow.{continue_value}
use Rattle.std.specs.declared.ops.ControlFlow.{ControlFlow}
use Rattle.std.specs.declared.ops.ControlFlow.TheVariants.{Continue, Break}
use Rattle.session.specs.declared.State.{State}
use Rattle.smsc33.specs.Turn.{Told, turned, state_of, Fits}
use Rattle.smsc33.specs.declared.turn.Turned.{Turned}

one-flow : (f f' : ControlFlow State State) → state_of f ≡ state_of f' → is_some (continue_value f) ≡ is_some (continue_value f') → f ≡ f'
one-flow (Continue s) (Continue s') e g = ap Continue e
one-flow (Continue s) (Break s') e g = absurd (true≢false g)
one-flow (Break s) (Continue s') e g = absurd (false≢true g)
one-flow (Break s) (Break s') e g = ap Break e

pub one-turned : (r r' : Turned) (t t' text text' : List ℕ) → Fits r text → Fits r' text' → turned r t text ≡ turned r' t' text'
    → (r ≡ r') × (t ≡ t') × (take r.length text ≡ take r'.length text')
one-turned r r' t t' text text' fits fits' e =
    let lines = ap (λ (told : Told). told.text) e in
    let size : r.length ≡ r'.length = fits.1 ∙ ap (length {A = ℕ}) lines ∙ sym fits'.1 in
    let flow = one-flow r.flow r'.flow (ap (λ (told : Told). told.world.state) e) (ap (λ (told : Told). told.goes_on) e) in
    let same : turning r.length r.flow ≡ turning r'.length r'.flow = rw (size, flow) in
    (same, ap (λ (told : Told). told.world.table) e, lines)
  where
    turning : ℕ → ControlFlow State State → Turned
    turning size flow = record { length = size; flow = flow }
