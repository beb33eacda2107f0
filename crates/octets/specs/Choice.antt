-- The one choice that all definitions use. It stays shut until a proof opens it, so that a law can go by cases on what it chose.
use Rattle.std.specs.Prelude.{Bool, true, false}

infixr 1 when◌then◌else◌
unfoldable pub when◌then◌else◌ : {A : Type 0} → Bool → A → A → A
when true then a else b = a
when false then a else b = b
