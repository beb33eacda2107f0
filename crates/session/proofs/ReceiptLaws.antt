-- Laws of receipts: where an account's are read, what a session's new entry does to them, and `granting`, which gives them to the account's
-- receivers: what it keeps, what it does at one session, and that an account's own receipts given back change nothing. Assumes nothing.
use mathlib.Core.Path.{◌≡◌, refl, sym, ap, ap₂, ◌∙◌}
use mathlib.Core.Logic.{◌≢◌}
use mathlib.Core.Bool.{Bool, true, false}
use mathlib.Core.List.{List, [], ◌∷◌, map}
use Prim.Native.Nat.{ℕ, zero, suc}
use lib.ListN.{length, get_or, set, get_or-map}
use lib.Seq.{set-get_or}
use borrow.Author.Tests.{eqb-true, ne_eqb}
use Rattle.std.specs.Prelude.{Option, None}
use Rattle.octets.specs.Choice.{when◌then◌else◌}
use Rattle.octets.proofs.StretchLaws.{if-cases}
use Rattle.session.specs.State.{closed_session, session_with, entry_at, bound, receiver_of, receipt_for, receipts_of, held_id, held_ids, granted_to, granting, granted}
use Rattle.session.specs.declared.Entry.{Entry}
use Rattle.session.specs.declared.Entry.TheVariants.{Closed, Open, Transmitter, Receiver, Ended}
use Rattle.session.specs.declared.Receipt.{Receipt}
use Rattle.session.specs.declared.Session.{Session}
use Rattle.session.specs.declared.State.{State}

pub map-set : {X Y : Type 0} (f : X → Y) (xs : List X) (i : ℕ) (x : X) → map f (set xs i x) ≡ set (map f xs) i (f x)
map-set f [] i x = refl
map-set f (y ∷ ys) zero x = refl
map-set f (y ∷ ys) (suc i) x = ap (λ t. f y ∷ t) (map-set f ys i x)

-- ---- one session that is given a receipt

pub given-entry : (a : ℕ) (ses : Session) (r : Option Receipt) → (granted_to a ses r).entry ≡ ses.entry
given-entry a ses r = if-cases (λ (y : Session). y.entry ≡ ses.entry) (receiver_of a ses.entry) _ ses (λ h. refl) (λ h. refl)

pub given-receipt : (a : ℕ) (ses : Session) (r : Option Receipt) → receipt_for a (granted_to a ses r) ≡ (when receiver_of a ses.entry then r else None)
unfolding when◌then◌else◌
given-receipt a ses r =
    let t = receiver_of a ses.entry in
    if-cases (λ (y : Session). receipt_for a y ≡ (when t then r else None)) t _ ses (λ h. refl) (λ h. rw h)

-- its own, by the test that chose it
given-own : (t : Bool) (ses : Session) → (when t then record { entry = ses.entry; receipt = when t then ses.receipt else None } else ses) ≡ ses
unfolding when◌then◌else◌
given-own true ses = refl
given-own false ses = refl

-- a session is the receiver of one account only
one-receiver : (A a : ℕ) (e : Entry) → A ≢ a → receiver_of a e ≡ true → receiver_of A e ≡ false
one-receiver A a Closed ne h = refl
one-receiver A a Open ne h = refl
one-receiver A a (Transmitter b) ne h = refl
one-receiver A a (Receiver b) ne h = ne_eqb b A (λ p. ne (sym p ∙ eqb-true b a h))
one-receiver A a Ended ne h = refl

given-other : (A a : ℕ) → A ≢ a → (ses : Session) (r : Option Receipt) → receipt_for A (granted_to a ses r) ≡ receipt_for A ses
unfolding when◌then◌else◌
given-other A a ne ses r =
    if-cases (λ (y : Session). receipt_for A y ≡ receipt_for A ses) (receiver_of a ses.entry) _ ses
    (λ h. rw (one-receiver A a ses.entry ne h))
    (λ h. refl)

-- ---- all sessions

module _ (a : ℕ) where
  pub granting-length : (xs : List Session) (rs : List (Option Receipt)) → length (granting a xs rs) ≡ length xs
  unfolding granting
  granting-length [] rs = refl
  granting-length (x ∷ xs) [] = ap suc (granting-length xs [])
  granting-length (x ∷ xs) (r ∷ rs) = ap suc (granting-length xs rs)

  -- what no receipt of the account's changes
  granting-keeps : {B : Type 0} (f : Session → B) → ((ses : Session) (r : Option Receipt) → f (granted_to a ses r) ≡ f ses)
      → (xs : List Session) (rs : List (Option Receipt)) → map f (granting a xs rs) ≡ map f xs
  unfolding granting
  granting-keeps {B} f kept [] rs = refl
  granting-keeps {B} f kept (x ∷ xs) [] = ap₂ {C = List B} (λ y ys. y ∷ ys) (kept x None) (granting-keeps f kept xs [])
  granting-keeps {B} f kept (x ∷ xs) (r ∷ rs) = ap₂ {C = List B} (λ y ys. y ∷ ys) (kept x r) (granting-keeps f kept xs rs)

  -- the entries, and all that depends on them alone
  pub granting-entries : {B : Type 0} (f : Entry → B) (xs : List Session) (rs : List (Option Receipt))
      → map (λ (ses : Session). f ses.entry) (granting a xs rs) ≡ map (λ (ses : Session). f ses.entry) xs
  granting-entries f = granting-keeps (λ (ses : Session). f ses.entry) (λ ses r. ap f (given-entry a ses r))

  pub granting-entry : (xs : List Session) (rs : List (Option Receipt)) (s : ℕ) → (get_or (granting a xs rs) s closed_session).entry ≡ (get_or xs s closed_session).entry
  unfolding granting
  granting-entry [] rs s = refl
  granting-entry (x ∷ xs) [] zero = given-entry a x None
  granting-entry (x ∷ xs) [] (suc s) = granting-entry xs [] s
  granting-entry (x ∷ xs) (r ∷ rs) zero = given-entry a x r
  granting-entry (x ∷ xs) (r ∷ rs) (suc s) = granting-entry xs rs s

  -- another account's receipts
  pub granting-others : (A : ℕ) → A ≢ a → (xs : List Session) (rs : List (Option Receipt)) → map (receipt_for A) (granting a xs rs) ≡ map (receipt_for A) xs
  granting-others A ne = granting-keeps (receipt_for A) (given-other A a ne)

  -- the account's own
  pub granting-same : (xs : List Session) → granting a xs (map (receipt_for a) xs) ≡ xs
  unfolding granting
  granting-same [] = refl
  granting-same (x ∷ xs) = ap₂ {C = List Session} (λ y ys. y ∷ ys) (given-own (receiver_of a x.entry) x) (granting-same xs)

  -- one session replaced, and one receipt
  pub granting-set : (xs : List Session) (s : ℕ) (y : Session) (r : Option Receipt)
      → granting a (set xs s y) (set (map (receipt_for a) xs) s r) ≡ set xs s (granted_to a y r)
  unfolding granting
  granting-set [] s y r = refl
  granting-set (x ∷ xs) zero y r = ap (λ (ys : List Session). granted_to a y r ∷ ys) (granting-same xs)
  granting-set (x ∷ xs) (suc s) y r = ap₂ {C = List Session} (λ z zs. z ∷ zs) (given-own (receiver_of a x.entry) x) (granting-set xs s y r)

  -- one receipt
  granting-one : (xs : List Session) (s : ℕ) (r : Option Receipt)
      → granting a xs (set (map (receipt_for a) xs) s r) ≡ set xs s (granted_to a (get_or xs s closed_session) r)
  granting-one xs s r = rw (set-get_or xs s closed_session) at (granting-set xs s (get_or xs s closed_session) r)

-- ---- a state

abbrev pub with_sessions : State → List Session → State
with_sessions st xs = record { sessions = xs; lasts = st.lasts }

module _ (st : State) (a : ℕ) where
  pub receipts-at : (s : ℕ) → get_or (receipts_of st a) s None ≡ receipt_for a (get_or st.sessions s closed_session)
  unfolding when◌then◌else◌
  receipts-at s = get_or-map (receipt_for a) st.sessions s closed_session

  pub held_at : (s : ℕ) → get_or (held_ids st a) s 0 ≡ held_id (receipt_for a (get_or st.sessions s closed_session))
  held_at s = get_or-map held_id (receipts_of st a) s None ∙ ap held_id (receipts-at s)

  -- whatever its new entry, nothing is outstanding on it
  pub receipts-bound : (s : ℕ) (e : Entry) → receipts_of (bound st s e) a ≡ set (receipts_of st a) s None
  receipts-bound s e =
      map-set (receipt_for a) st.sessions s (session_with e)
      ∙ ap (set (receipts_of st a) s) (if-cases (λ (r : Option Receipt). r ≡ None) (receiver_of a e) None None (λ h. refl) (λ h. refl))

  pub granted-same : granted st a (receipts_of st a) ≡ st
  granted-same = ap (with_sessions st) (granting-same a st.sessions)

  module _ (s : ℕ) where
    -- one receipt, on a receiver of the account's
    pub granted-noted : receiver_of a (entry_at st s) ≡ true → (r : Option Receipt) → granted st a (set (receipts_of st a) s r) ≡ with_sessions st (set st.sessions s (record { entry = entry_at st s; receipt = r }))
    unfolding when◌then◌else◌
    granted-noted h r = ap (with_sessions st) (granting-one a st.sessions s r ∙ rw h)

    -- on another session
    pub granted-unheard : receiver_of a (entry_at st s) ≡ false → (r : Option Receipt) → granted st a (set (receipts_of st a) s r) ≡ st
    unfolding when◌then◌else◌
    granted-unheard h r = ap (with_sessions st) (granting-one a st.sessions s r ∙ rw h (set-get_or st.sessions s closed_session))

    -- on a session that has ended
    pub granted-ended : (r : Option Receipt) → granted (bound st s Ended) a (set (receipts_of st a) s r) ≡ bound st s Ended
    unfolding when◌then◌else◌
    granted-ended r = ap (with_sessions st) (granting-set a st.sessions s (session_with Ended) r)
