-- Ids that no request has. Assumes nothing.
use mathlib.Core.Path.{◌≡◌}
use Prim.Native.Nat.{ℕ, ◌≤◌, ◌<◌}
use borrow.Author.Tests.{le-leb, lt-leb, ne_eqb}
use Rattle.octets.specs.Choice.{when◌then◌else◌}
use Rattle.wire.specs.Command.{Response, Unknown, first_response, command_of}

pub response-command : (id : ℕ) → first_response ≤ id → command_of id ≡ Response
unfolding command_of when◌then◌else◌
response-command id h = rw (le-leb _ _ h)

pub unknown-command :
    (id : ℕ) → id < first_response → (id ≡ 1 → ⊥) → (id ≡ 2 → ⊥) → (id ≡ 3 → ⊥) → (id ≡ 4 → ⊥) → (id ≡ 6 → ⊥) → (id ≡ 7 → ⊥) → (id ≡ 8 → ⊥) → (id ≡ 0x15 → ⊥)
    → command_of id ≡ Unknown
unfolding command_of when◌then◌else◌
unknown-command id h n1 n2 n3 n4 n6 n7 n8 n15 =
    rw (lt-leb _ _ h, ne_eqb _ _ n1, ne_eqb _ _ n2, ne_eqb _ _ n3, ne_eqb _ _ n4, ne_eqb _ _ n6, ne_eqb _ _ n7, ne_eqb _ _ n8, ne_eqb _ _ n15)
