-- Where no more receipts are outstanding than before: once a session has a new entry, and once an account's receivers are given theirs. Assumes
-- nothing.
use Prim.Native.Nat.{ℕ, zero, suc}
use native.Mathlib.Omega.{arith}
use native.Mathlib.Decide.{ℕ_discrete}
use mathlib.Core.Path.{◌≡◌, sym, subst, ◌∙◌}
use mathlib.Core.Bool.{Bool, true, false}
use mathlib.Core.List.{List, [], ◌∷◌, map}
use lib.ListN.{get_or, set}
use lib.Seq.{get_or-set_other}
use Rattle.std.specs.Prelude.{Option, None}
use Rattle.octets.specs.Choice.{when◌then◌else◌}
use Rattle.session.specs.State.{receiver_of, receipt_for, receipts_of, bound, granting, granted, outstanding}
use Rattle.session.specs.declared.Entry.{Entry}
use Rattle.session.specs.declared.Receipt.{Receipt}
use Rattle.session.specs.declared.Session.{Session}
use Rattle.session.specs.declared.State.{State}
use Rattle.session.proofs.ReceiptLaws.{given-receipt, receipts-bound}

-- what is outstanding is so before, on the same session
abbrev pub Fewer : List (Option Receipt) → List (Option Receipt) → Type 0
Fewer rs before = (t id sequence : ℕ) → get_or rs t None ≡ outstanding id sequence → get_or before t None ≡ outstanding id sequence

pub none≢outstanding : (id sequence : ℕ) → None ≡ outstanding id sequence → ⊥
none≢outstanding id sequence e = let z : ◌≡◌ {A = ℕ} 0 1 = cc in omega arith

module _ (id sequence : ℕ) where
  -- ---- one receipt replaced

  set_here : (rs : List (Option Receipt)) (s : ℕ) (r : Option Receipt) → get_or (set rs s r) s None ≡ outstanding id sequence → r ≡ outstanding id sequence
  set_here [] s r e = absurd (none≢outstanding id sequence e)
  set_here (x ∷ rs) zero r e = e
  set_here (x ∷ rs) (suc s) r e = set_here rs s r e

  -- what is outstanding once session s has the receipt r: that one, or one of another session
  pub set_cases : {P : Type 0} (rs : List (Option Receipt)) (s : ℕ) (r : Option Receipt) (t : ℕ) → get_or (set rs s r) t None ≡ outstanding id sequence
      → (t ≡ s → r ≡ outstanding id sequence → P) → ((t ≡ s → ⊥) → get_or rs t None ≡ outstanding id sequence → P) → P
  set_cases rs s r t e here there =
      elim (ℕ_discrete t s) [
        | yes same ↦ here same (set_here rs s r (rw same at e))
        | no other ↦ there other (sym (get_or-set_other rs s t r None other) ∙ e)
      ]

  -- ---- what is outstanding on an account's receivers is what they were given

  given-if : (b : Bool) (r : Option Receipt) → (when b then r else None) ≡ outstanding id sequence → r ≡ outstanding id sequence
  unfolding when◌then◌else◌
  given-if true r e = e
  given-if false r e = absurd (none≢outstanding id sequence e)

  given : (a : ℕ) (xs : List Session) (rs : List (Option Receipt)) (t : ℕ) → get_or (map (receipt_for a) (granting a xs rs)) t None ≡ outstanding id sequence
      → get_or rs t None ≡ outstanding id sequence
  unfolding granting
  given a [] rs t e = absurd (none≢outstanding id sequence e)
  given a (x ∷ xs) [] zero e = given-if (receiver_of a x.entry) None (sym (given-receipt a x None) ∙ e)
  given a (x ∷ xs) [] (suc t) e = given a xs [] t e
  given a (x ∷ xs) (r ∷ rs) zero e = given-if (receiver_of a x.entry) r (sym (given-receipt a x r) ∙ e)
  given a (x ∷ xs) (r ∷ rs) (suc t) e = given a xs rs t e

-- ---- so there are no more

pub none-fewer : (rs : List (Option Receipt)) (s : ℕ) → Fewer (set rs s None) rs
none-fewer rs s t id sequence e =
    set_cases id sequence rs s None t e (λ _ none. absurd (none≢outstanding id sequence none)) (λ _ h. h)

module _ (st : State) (a : ℕ) where
  -- on a session with a new entry
  pub bound-fewer : (s : ℕ) (e : Entry) → Fewer (receipts_of (bound st s e) a) (receipts_of st a)
  bound-fewer s e = subst (λ (rs : List (Option Receipt)). Fewer rs (receipts_of st a)) (sym (receipts-bound st a s e)) (none-fewer (receipts_of st a) s)

  -- on the account's receivers, given these
  pub granted_fewer : (rs : List (Option Receipt)) → Fewer (receipts_of (granted st a rs) a) rs
  granted_fewer rs t id sequence e = given id sequence a st.sessions rs t e
