-- What a match of system_ids tells, and a book record that a bind names. Assumes nothing.
use mathlib.Core.Path.{◌≡◌, refl, sym, ap, ◌∙◌}
use mathlib.Core.Bool.{true, false, not, ◌&&◌, true≢false}
use mathlib.Core.List.{List, [], ◌∷◌}
use Prim.Native.Nat.{ℕ}
use native.Mathlib.Omega.{arith}
use lib.ListN.{length, length-drop}
use borrow.Author.Tests.{lt-ltb, eq-eqb, not-true}
use Rattle.octets.proofs.StretchLaws.{and_left, and_right, and_both, same-equal}
use Rattle.forms.specs.Class.{in_class, lead}
use Rattle.forms.specs.Text.{given, after_spaces}
use Rattle.forms.specs.Field.{text_of}
use Rattle.forms.specs.declared.class.Class.TheVariants.{Space}
use Rattle.forms.proofs.ClassLaws.{lead-within, every-lead}
use Rattle.records.specs.Book.{system_of, system_type_of, used_ok, spaces_only, same_name, same_system_id, named}
use Rattle.records.proofs.SpaceLaws.{names, with-name}

-- ---- system_ids that match: neither is of spaces only, and they are the same name

module _ (a b : List ℕ) (h : same_system_id a b ≡ true) where
  pub first-not-spaces : spaces_only a ≡ false
  unfolding same_system_id
  first-not-spaces = not-true (spaces_only a) (and_left _ _ (and_left _ _ h))

  pub second-not-spaces : spaces_only b ≡ false
  unfolding same_system_id
  second-not-spaces = not-true (spaces_only b) (and_right (not (spaces_only a)) (not (spaces_only b)) (and_left _ _ h))

  same_names : same_name a b ≡ true
  unfolding same_system_id
  same_names = and_right (not (spaces_only a) && not (spaces_only b)) (same_name a b) h

  with-system : (r : List ℕ) → same_system_id r a ≡ same_system_id r b
  unfolding same_system_id
  with-system r = rw (first-not-spaces, second-not-spaces, with-name a b same_names r)

-- ---- a record that is named

module _ (system kind b : List ℕ) (h : named system kind b ≡ true) where
  pub named-used : used_ok b ≡ true
  unfolding named
  named-used = and_left _ _ (and_left _ _ h)

  pub named-system : same_system_id (text_of (system_of b)) system ≡ true
  unfolding named
  named-system = and_right (used_ok b) (same_system_id (text_of (system_of b)) system) (and_left _ _ h)

-- whatever spaces its names are sent with
pub named-alike : (system system' kind kind' : List ℕ) → same_system_id system system' ≡ true → same_name kind kind' ≡ true
    → (b : List ℕ) → named system kind b ≡ named system' kind' b
unfolding named
named-alike system system' kind kind' s k b =
    rw (with-system system system' s (text_of (system_of b)), with-name kind kind' k (text_of (system_type_of b)))

-- ---- an empty system_id

pub empty-named : (kind b : List ℕ) → used_ok b ≡ true → text_of (system_of b) ≡ [] → same_name (text_of (system_type_of b)) kind ≡ true → named [] kind b ≡ true
unfolding named same_system_id
empty-named kind b used none same_kind = rw (used, none, same_kind) (and_both _ true (names.reflexive []) refl)

-- nothing behind the spaces: spaces only, or empty
spaces-or-none : (x : List ℕ) → after_spaces x ≡ [] → spaces_only x ≡ false → x ≡ []
unfolding after_spaces
spaces-or-none [] e h = refl
spaces-or-none (c ∷ cs) e h =
    let all : lead (in_class Space) (c ∷ cs) ≡ length (c ∷ cs) = omega (arith, lead-within (in_class Space) (c ∷ cs), sym (length-drop (lead (in_class Space) (c ∷ cs)) (c ∷ cs)) ∙ ap length e) in
    absurd (true≢false (sym (and_both (given (c ∷ cs)) _ (lt-ltb 0 (length (c ∷ cs)) (omega arith)) (every-lead (in_class Space) (c ∷ cs) ∙ eq-eqb _ _ all)) ∙ h))

pub empty-alone : (kind b : List ℕ) → named [] kind b ≡ true → text_of (system_of b) ≡ []
unfolding same_name after_spaces lead
empty-alone kind b h =
    let x = text_of (system_of b) in
    let s = named-system [] kind b h in
    spaces-or-none x (same-equal _ [] (same_names x [] s)) (first-not-spaces x [] s)
