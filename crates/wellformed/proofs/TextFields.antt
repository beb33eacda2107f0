-- Laws of texts in zero-padded fields and of times. Assumes nothing.
use mathlib.Core.Path.{◌≡◌, refl}
use mathlib.Core.Bool.{Bool, true}
use mathlib.Core.List.{List, [], ◌∷◌}
use Prim.Native.Nat.{ℕ, zero, suc, ◌-◌}
use lib.ListN.{length, take, replicate}
use lib.Seq.{drop-append_seam}
use Rattle.octets.specs.Stretch.{every, is_zero, padded}
use Rattle.octets.proofs.StretchLaws.{and_both, if-cases}
use Rattle.forms.specs.Class.{in_class, lead}
use Rattle.forms.specs.Text.{formed}
use Rattle.forms.specs.Time.{sent_time, stored_time}
use Rattle.forms.specs.Field.{is_field}
use Rattle.forms.specs.declared.class.Class.TheVariants.{NotNul}
use Rattle.forms.specs.declared.text.Form.{Form}
use Rattle.forms.proofs.TextLaws.{padded-lead, padded-text}

pub every-replicate : (p : ℕ → Bool) (n a : ℕ) → p a ≡ true → every p (replicate n a) ≡ true
unfolding every
every-replicate p zero a h = refl
every-replicate p (suc n) a h = and_both (p a) (every p (replicate n a)) h (every-replicate p n a h)

-- the octets that a count passed are of the class
pub every-lead : (p : ℕ → Bool) (xs : List ℕ) → every p (take (lead p xs) xs) ≡ true
unfolding every lead
every-lead p [] = refl
every-lead p (x ∷ xs) =
    if-cases (λ (n : ℕ). every p (take n (x ∷ xs)) ≡ true) (p x) (suc (lead p xs)) 0 (λ h. and_both (p x) _ h (every-lead p xs)) (λ _. refl)

-- a text without a NUL, zeros behind it, is a field with that text
pub padded-field : (form : Form) (n : ℕ) (text : List ℕ) → every (in_class NotNul) text ≡ true → formed form text ≡ true → is_field form (padded n text) ≡ true
unfolding is_field
padded-field form n text no_nul h =
    rw (padded-text n text no_nul, padded-lead n text no_nul, drop-append_seam text (replicate (n - length text) 0))
    (and_both (formed form text) _ h (every-replicate is_zero (n - length text) 0 refl))

-- ---- a time that is sent may be stored

pub sent-stored : (t : List ℕ) → sent_time t ≡ true → stored_time t ≡ true
unfolding sent_time stored_time
sent-stored t h = h
