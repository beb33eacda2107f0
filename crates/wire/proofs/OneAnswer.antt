-- Two answers of a reader of fields that one contract allows are equal, and it stands at one place behind both. Assumes nothing.
use mathlib.Core.Path.{◌≡◌, refl, sym, ap, ◌∙◌}
use mathlib.Core.Bool.{true, false}
use Prim.Native.Nat.{ℕ}
use native.Mathlib.Omega.{arith}
use lib.Dec.{eqb}
use Rattle.std.specs.Prelude.{Result, Ok, Err, MatchResult, ⊤}
use Rattle.wire.specs.Status.{code}
use Rattle.wire.specs.declared.status.Status.{Status}
use Rattle.wire.specs.Cursor.{Cursor}
use Rattle.wire.specs.Fields.{Read, Gives, status_of}
use Rattle.wire.specs.declared.fields.Fault.{Fault}
use Rattle.wire.specs.declared.fields.Fault.TheVariants.{Short, Bad}
use Rattle.wire.specs.declared.fields.Fields.{Fields}
use Rattle.wire.proofs.StatusLaws.{code-not_zero, code-one}

pub not_accepted : (e : Status) → code e ≡ 0 → ⊥
not_accepted e h = let no : true ≡ false = sym (ap (λ (n : ℕ). eqb n 0) h) ∙ code-not_zero e in cc

-- of a body's end
pub one-end : (r q : Result ⊤ Status) (n : ℕ) → MatchResult r (λ _. n ≡ 0) (λ e. n ≡ code e) → MatchResult q (λ _. n ≡ 0) (λ e. n ≡ code e) → r ≡ q
one-end (Ok x) (Ok y) n h k = refl
one-end (Ok x) (Err e) n h k = absurd (not_accepted e (sym k ∙ h))
one-end (Err d) (Ok y) n h k = absurd (not_accepted d (sym h ∙ k))
one-end (Err d) (Err e) n h k = ap Err (code-one d e (sym h ∙ k))

-- of a field
pub one-field : {A : Type 0} (r q : Result A Status) (f g : Fields) (x : Read A) → Gives code r f x → Gives code q g x → (r ≡ q) × (f.at ≡ g.at)
one-field {A} (Ok a) (Ok b) f g x h k =
    (ap (λ (y : Read A). Ok y.value) (sym h ∙ k), ap (λ (y : Read A). y.next.at) (sym h ∙ k))
one-field {A} (Ok a) (Err e) f g x h k =
    absurd (not_accepted e (sym (ap (λ (c : Cursor). c.status) k) ∙ ap (λ (y : Read A). y.next.status) h))
one-field {A} (Err d) (Ok b) f g x h k =
    absurd (not_accepted d (sym (ap (λ (c : Cursor). c.status) h) ∙ ap (λ (y : Read A). y.next.status) k))
one-field {A} (Err d) (Err e) f g x h k =
    (ap Err (code-one d e (ap (λ (c : Cursor). c.status) (sym h ∙ k))), ap (λ (c : Cursor). c.at) (sym h ∙ k))

-- of a field whose bad value has whichever status: 1 tells the two faults apart
one-status : (d e : Fault) → status_of 1 d ≡ status_of 1 e → d ≡ e
one-status Short Short h = refl
one-status Short Bad h = absurd (omega (arith, h))
one-status Bad Short h = absurd (omega (arith, h))
one-status Bad Bad h = refl

not_read : (e : Fault) → status_of 1 e ≡ 0 → ⊥
not_read Short h = omega (arith, h)
not_read Bad h = omega (arith, h)

pub one-fault : {A : Type 0} (r q : Result A Fault) (f g : Fields) (x : ℕ → Read A) → ((bad : ℕ) → Gives (status_of bad) r f (x bad))
    → ((bad : ℕ) → Gives (status_of bad) q g (x bad)) → (r ≡ q) × (f.at ≡ g.at)
one-fault {A} (Ok a) (Ok b) f g x h k =
    (ap (λ (y : Read A). Ok y.value) (sym (h 1) ∙ k 1), ap (λ (y : Read A). y.next.at) (sym (h 1) ∙ k 1))
one-fault {A} (Ok a) (Err e) f g x h k =
    absurd (not_read e (sym (ap (λ (c : Cursor). c.status) (k 1)) ∙ ap (λ (y : Read A). y.next.status) (h 1)))
one-fault {A} (Err d) (Ok b) f g x h k =
    absurd (not_read d (sym (ap (λ (c : Cursor). c.status) (h 1)) ∙ ap (λ (y : Read A). y.next.status) (k 1)))
one-fault {A} (Err d) (Err e) f g x h k =
    (ap Err (one-status d e (ap (λ (c : Cursor). c.status) (sym (h 1) ∙ k 1))), ap (λ (c : Cursor). c.at) (sym (h 1) ∙ k 1))
