-- Whatever is asked of an account keeps the length of its part; so the isolation of every such machine is that of the centre. Assumes nothing.
use mathlib.Core.Path.{◌≡◌, refl, ◌∙◌}
use mathlib.Core.Bool.{Bool}
use mathlib.Core.List.{List}
use Prim.Native.Nat.{ℕ}
use lib.ListN.{length}
use Rattle.isolation.specs.Platform.{Own, Effect, on_session, of_account}
use Rattle.isolation.specs.Isolation.{Keeps}
use Rattle.isolation.proofs.Theorem.{isolated, alone}
use Rattle.answers.specs.Answer.{Octets, taking, delivering, Outcome, outcome, pick, Answer}
use Rattle.bound.specs.Bound.{Turn}
use Rattle.centre.specs.Operations.{Noted, noted}
use Rattle.centre.specs.Centre.{on_octets, on_delivery, act, centre}
use Rattle.wellformed.proofs.Lengths.{submitted-length, cancelled-length, replaced-length, reported-length, settled-length}
use Rattle.properties.specs.Property3.{Property3}
use Rattle.properties.proofs.BoundCases.{bound-cases}
use Rattle.properties.proofs.QuestionCases.{noted-cases}

octets-length : (book : List ℕ) (s : ℕ) (own : Own) (transmitter : Bool) (x : Octets)
    → length (on_octets transmitter book s x own).own.part ≡ length own.part
octets-length book s own transmitter x =
    bound-cases book s x own (λ (e : Effect Own Answer). length e.own.part ≡ length own.part)
    (λ (t : Turn). length t.stored.part ≡ length own.part) transmitter (λ _. refl)
    (λ _. record {
      same = λ _ _ _ _. refl;
      submits = λ body. submitted-length book body own.part own.last;
      cancels = cancelled-length own.part book x.stamp;
      replaces = replaced-length own.part book;
    })
    (λ _. record { more = refl; nak = refl; quiet = λ _ _. settled-length own.part _ _; replies = λ _ _ _ _ q. q })

noted-length : (book : List ℕ) (x : Outcome) (last : ℕ) (part : List ℕ) → length (noted book x last part).part ≡ length part
noted-length book x last part =
    noted-cases book last part x (λ (n : Noted). length n.part ≡ length part) refl (λ _. refl) refl
    (λ _ _. reported-length part x.stamp x.id x.state x.error)

pub keeps : Keeps centre
unfolding act on_delivery
keeps book a (on_session s entry (taking x)) own l = octets-length _ s own _ x ∙ l
keeps book a (on_session s entry (delivering y)) own l = l
keeps book a (of_account (outcome x)) own l = noted-length _ x own.last own.part ∙ l
keeps book a (of_account pick) own l = l

pub property3 : Property3
property3 = record { equal = isolated centre keeps; alone = alone centre keeps }
