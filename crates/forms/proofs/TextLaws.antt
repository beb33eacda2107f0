-- Laws of texts: their lengths, and a text in a field with zeros behind it. Assumes nothing.
use mathlib.Core.Path.{◌≡◌, refl, ◌∙◌}
use mathlib.Core.Bool.{true}
use mathlib.Core.List.{List}
use Prim.Native.Nat.{ℕ, ◌-◌, ◌≤◌}
use native.Mathlib.Omega.{arith}
use lib.ListN.{length, replicate, length-drop, length-take}
use lib.Seq.{take-append_seam}
use Rattle.octets.specs.Stretch.{every, padded}
use Rattle.forms.specs.Class.{in_class, lead}
use Rattle.forms.specs.Text.{after_spaces}
use Rattle.forms.specs.Field.{text_of}
use Rattle.forms.specs.declared.class.Class.TheVariants.{NotNul}
use Rattle.forms.proofs.ClassLaws.{lead-append, lead-all, lead-zeros}

pub after_spaces-within : (t : List ℕ) → length (after_spaces t) ≤ length t
unfolding after_spaces
after_spaces-within t = simp length-drop (omega arith)

pub text_of-within : (field : List ℕ) → length (text_of field) ≤ length field
unfolding text_of
text_of-within field = simp length-take (omega arith)

-- a text without a NUL ends where the zeros begin
module _ (n : ℕ) (text : List ℕ) (no_nul : every (in_class NotNul) text ≡ true) where
  pub padded-lead : lead (in_class NotNul) (padded n text) ≡ length text
  padded-lead =
      lead-append (in_class NotNul) text (replicate (n - length text) 0) (lead-zeros (in_class NotNul) (n - length text) refl)
      ∙ lead-all (in_class NotNul) text no_nul

  pub padded-text : text_of (padded n text) ≡ text
  unfolding text_of
  padded-text = rw padded-lead (take-append_seam text (replicate (n - length text) 0))
