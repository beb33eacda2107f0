-- The first property: each step's number is one of its kind's, 0 only where all is right, and what refusals leave as it was. Assumes nothing.
use Prim.Native.Nat.{ℕ}
use mathlib.Core.Path.{◌≡◌, refl}
use mathlib.Core.Bool.{true}
use mathlib.Core.List.{List}
use Rattle.octets.specs.Stretch.{among}
use Rattle.isolation.specs.Platform.{World, Step, opens, closes, on, of}
use Rattle.answers.specs.Answer.{Call, taking, delivering, Question, outcome, pick, number_of}
use Rattle.centre.specs.Centre.{step}
use Rattle.properties.specs.Property1.{numbers_of, Property1}
use Rattle.properties.proofs.Numbers.{opens-number, closes-number, octets-number, delivery-number, outcome-number, pick-number}
use Rattle.properties.proofs.Right.{right}
use Rattle.properties.proofs.Refused.{refused-step}
use Rattle.properties.proofs.StatusKept.{kept_step_lem}

module _ (book : List ℕ) (w : World) where
  abbrev One : Step Call Question → ℕ → Type 0
  One st n = among n (numbers_of st) ≡ true

  defined : (st : Step Call Question) → One st (number_of (step book w st).answer)
  defined (opens s) = opens-number (One (opens s)) book w s (λ _ one _. one)
  defined (closes s) = closes-number (One (closes s)) book w s (λ _ one _. one)
  defined (on s (taking x)) = octets-number (One (on s (taking x))) book w s (λ _ _ _. refl) x (λ _ one _. one)
  defined (on s (delivering y)) = delivery-number (One (on s (delivering y))) book w s (λ _ _ _. refl) y (λ _ one _. one)
  defined (of a (outcome x)) = outcome-number (One (of a (outcome x))) book w a (λ _. refl) x (λ _ one _. one)
  defined (of a pick) = pick-number (One (of a pick)) book w a (λ _. refl) (λ _ one _. one)

pub property1 : Property1
property1 = record { defined = defined; right = right; refused = λ book w st. refused-step w book st; kept = λ book w. kept_step_lem w book }
