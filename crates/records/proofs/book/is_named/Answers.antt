-- `records::book::is_named` meets its contract. Assumes nothing.
use mathlib.Core.Path.{◌≡◌, sym, ap, ◌∙◌}
use mathlib.Core.Bool.{Bool, true, false, ◌&&◌}
use Rattle.octets.proofs.StretchLaws.{and_assoc, and-true, and-false}
use Rattle.octets.proofs.LentLaws.{held}
use Rattle.records.specs.Book.{used_ok, named}
use Rattle.records.proofs.book.is_named.Goals as goal

-- a conjunction of three, of which the last two are known
last-of-three : (a b c : Bool) → (b && c) ≡ true → a ≡ ((a && b) && c)
last-of-three a b c h = sym (and_assoc a b c ∙ (ap (λ (x : Bool). a && x) h ∙ and-true a))

none-of-three : (a b c : Bool) → (b && c) ≡ false → false ≡ ((a && b) && c)
none-of-three a b c h = sym (and_assoc a b c ∙ (ap (λ (x : Bool). a && x) h ∙ and-false a))

pub returns-then-named : goal.returns-then-named
unfolding named
returns-then-named c =
    rw (c.is_used_ok.ensures, ← (held c.text_of.ensures), ← (held c.text_of-2.ensures))
    (last-of-three _ _ _ (rw (c.is_same_system_id.ensures, c.is_same_name.ensures) at c.if-named.true))

pub returns-else-named : goal.returns-else-named
unfolding named
returns-else-named c =
    rw (← (held c.text_of.ensures), ← (held c.text_of-2.ensures))
    (none-of-three (used_ok c.args.b.now) _ _ (rw (c.is_same_system_id.ensures, c.is_same_name.ensures) at c.if-named.false))
