-- `wire::fields::Fields::octet` meets its contract. Assumes nothing.
use mathlib.Core.Path.{◌≡◌, refl, sym, ◌∙◌}
use mathlib.Core.List.{List}
use Prim.Native.Nat.{ℕ, ◌<◌, ◌≤◌}
use lib.Dec.{ltb}
use lib.ListN.{length, get_or}
use denote.Ref.{Bor}
use borrow.Author.Tests.{le-leb, lt-ltb, le-ltb, lt-leb, ltb-true, ltb-false}
use Rattle.std.specs.Prelude.{Option, Some, None}
use Rattle.std.specs.Option.{is_some, IfSome, option_copied}
use Rattle.std.proofs.lemmas.List.{get_or_read_under}
use Rattle.octets.specs.Choice.{when◌then◌else◌}
use Rattle.wire.specs.Fields.{octet_at}
use Rattle.wire.proofs.fields.Fields.octet.Goals as goal

-- what `get` gave, by what `copied` makes of it
past : (o : Option (Bor ℕ)) (xs : List ℕ) (at : ℕ) → None ≡ option_copied o → is_some o ≡ ltb at (length xs) → length xs ≤ at
past None xs at e i = ltb-false _ _ (sym i)
past (Some x) xs at e i = absurd (cc)

within : (o : Option (Bor ℕ)) (xs : List ℕ) (at value : ℕ) → Some value ≡ option_copied o → is_some o ≡ ltb at (length xs)
    → IfSome o (λ x. x.now ≡ get_or xs at x.now) → (at < length xs) × (get_or xs at 0 ≡ value)
within None xs at value e i g = absurd (cc)
within (Some x) xs at value e i g =
    let here : at < length xs = ltb-true _ _ (sym i) in
    let is : value ≡ x.now = cc in
    (here, sym (is ∙ get_or_read_under xs at (length xs) x.now 0 g here refl))

pub returns-in-None-clause-read : goal.returns-in-None-clause-read
unfolding octet_at when◌then◌else◌
returns-in-None-clause-read c = λ bad. rw (le-leb _ _ (past _ _ _ c.in-None.ensures c.get.ensures.lookup.0))

pub returns-in-Some-clause-read : goal.returns-in-Some-clause-read
unfolding octet_at when◌then◌else◌
returns-in-Some-clause-read c = λ bad.
    let here = within _ _ _ _ c.in-Some.ensures c.get.ensures.lookup.0 c.get.ensures.lookup.1 in
    rw (lt-leb _ _ here.0, here.1, lt-ltb _ _ c.if-most-value.true)

pub returns-in-Some-2-clause-read : goal.returns-in-Some-2-clause-read
unfolding octet_at when◌then◌else◌
returns-in-Some-2-clause-read c = λ bad.
    let here = within _ _ _ _ c.in-Some.ensures c.get.ensures.lookup.0 c.get.ensures.lookup.1 in
    rw (lt-leb _ _ here.0, here.1, le-ltb _ _ c.if-most-value.false)
