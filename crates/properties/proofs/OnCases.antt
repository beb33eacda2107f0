-- Anything asked on a session, by cases: what holds of each refusal, of what an open session gives, and of what an account gives, once it is put
-- into the world, holds of the step. Assumes nothing.
use mathlib.Core.Path.{◌≡◌, refl}
use mathlib.Core.Bool.{true, false}
use mathlib.Core.List.{List}
use Prim.Native.Nat.{ℕ, ◌≤◌, ◌<◌}
use native.Mathlib.Omega.{arith}
use lib.Dec.{leb, ltb, eqb}
use lib.ListN.{length}
use borrow.Author.Tests.{leb-true, leb-false, ltb-true, ltb-false, eqb-true, eqb-false, eq-eqb}
use Rattle.octets.proofs.StretchLaws.{if-cases}
use Rattle.session.specs.State.{session_count, account_count, entry_at}
use Rattle.session.specs.declared.Entry.{Entry}
use Rattle.session.specs.declared.Entry.TheVariants.{Closed, Open, Transmitter, Receiver, Ended}
use Rattle.isolation.specs.Platform.{World, become, on, on_session, Ran, unchanged, ask, conclude, on_account, on_entry, step}
use Rattle.isolation.specs.History.{bound_to}
use Rattle.answers.specs.Answer.{Call, Answer, refused_call}
use Rattle.centre.specs.Centre.{centre, early_call, on_front}
use Rattle.properties.specs.Property1.{is_live}

module _ (book : List ℕ) (w : World) (s : ℕ) (x : Call) where
  -- why nobody is asked: 2, what the arguments give, 6, 9
  pub data RefusedOn : ℕ → Type 0 where
    above : session_count ≤ s → RefusedOn 2
    early : {n : ℕ} → (n ≡ 0 → ⊥) → early_call book (length w.table) x ≡ n → RefusedOn n
    unfit : is_live (entry_at w.state s) ≡ false → RefusedOn 6
    nobody : (a : ℕ) → bound_to a (entry_at w.state s) ≡ true → account_count ≤ a → RefusedOn 9

  pub on-refusal : (n : ℕ) → RefusedOn n → n ≡ 0 → ⊥
  on-refusal n (above _) z = omega arith
  on-refusal n (early ne e) z = ne z
  on-refusal n (unfit _) z = omega arith
  on-refusal n (nobody a bound over) z = omega arith

  -- what is known where somebody is
  pub record Passed : Type 0 where
    pub session : s < session_count
    pub fits : early_call book (length w.table) x ≡ 0

  -- the session's entry is e, and binds it to account a
  pub record BoundAs (a : ℕ) (e : Entry) : Type 0 where
    pub entry : entry_at w.state s ≡ e
    pub bound : bound_to a (entry_at w.state s) ≡ true
    pub below : a < account_count

  pub record OnSession (P : Ran Answer → Type 0) : Type 0 where
    pub refused : (n : ℕ) → RefusedOn n → P (unchanged centre w (refused_call n x))
    pub front : Passed → entry_at w.state s ≡ Open → (let f = on_front book x in P (record { answer = f.answer; world = become w s f.after }))
    pub asked : Passed → (a : ℕ) (e : Entry) → BoundAs a e → P (conclude centre w s a (ask centre book w a (on_session s e x)))

  module _ (P : Ran Answer → Type 0) (each : OnSession P) where
    account-cases : Passed → (a : ℕ) (e : Entry) → entry_at w.state s ≡ e → bound_to a e ≡ true → P (on_account centre book w s x e a)
    account-cases passed a e h bound =
        if-cases P (ltb a account_count) _ _ (λ t. each.asked passed a e (record { entry = h; bound = rw h bound; below = ltb-true a account_count t }))
        (λ t. each.refused 9 (nobody a (rw h bound) (ltb-false a account_count t)))

    entry-cases : Passed → (e : Entry) → entry_at w.state s ≡ e → P (on_entry centre book w s x e)
    entry-cases passed Closed h = each.refused 6 (unfit (rw h))
    entry-cases passed Open h = each.front passed h
    entry-cases passed (Transmitter a) h = account-cases passed a (Transmitter a) h (eq-eqb a a refl)
    entry-cases passed (Receiver a) h = account-cases passed a (Receiver a) h (eq-eqb a a refl)
    entry-cases passed Ended h = each.refused 6 (unfit (rw h))

    pub on-cases : P (step centre book w (on s x))
    unfolding step
    on-cases =
        let n = early_call book (length w.table) x in
        if-cases P (leb session_count s) _ _ (λ t. each.refused 2 (above (leb-true session_count s t))) λ t.
        if-cases P (eqb n 0) _ _
        (λ u. entry-cases (record { session = leb-false session_count s t; fits = eqb-true n 0 u }) (entry_at w.state s) refl)
        (λ u. each.refused n (early (eqb-false n 0 u) refl))
