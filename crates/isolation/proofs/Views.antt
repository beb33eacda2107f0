-- What account A sees of a world: the sessions bound to it, every other session shown as closed; its part of the table; its last id; its receivers'
-- receipts. Two worlds are the same to A where these are. Assumes nothing.
use mathlib.Core.Path.{◌≡◌, refl, sym, ap, ap₂, ◌∙◌}
use mathlib.Core.Logic.{◌≢◌}
use mathlib.Core.Bool.{true, false}
use mathlib.Core.List.{List, [], ◌∷◌, map}
use Prim.Native.Nat.{ℕ, ◌*◌, ◌<◌}
use native.Mathlib.Omega.{arith}
use native.Mathlib.Decide.{dec_lt}
use lib.ListN.{length, get_or, set, get_or-map}
use lib.Seq.{map-set_same, get_or-set_same, get_or-set_other}
use Rattle.std.specs.Prelude.{Option, None}
use Rattle.octets.specs.Choice.{when◌then◌else◌}
use Rattle.octets.proofs.StretchLaws.{if-cases, if-true, if-false}
use Rattle.octets.proofs.PatchLaws.{part-patch, part-before, part-after}
use Rattle.session.specs.State.{session_count, account_count, session_with, closed_session, entry_at, receiver_of, receipt_for, granted_to, granting}
use Rattle.session.specs.declared.Entry.{Entry}
use Rattle.session.specs.declared.Entry.TheVariants.{Closed, Open, Transmitter, Receiver, Ended}
use Rattle.session.specs.declared.Receipt.{Receipt}
use Rattle.session.specs.declared.Session.{Session}
use Rattle.session.proofs.ReceiptLaws.{map-set, given-receipt, granting-entries, granting-others, receipts-bound}
use Rattle.isolation.specs.Platform.{part_size, World, Own, owning, own_of, put_own, put_entry, Step, opens, closes, on, of, Machine}
use Rattle.isolation.specs.History.{bound_to, bound_in}
use Rattle.isolation.proofs.Sizes.{Sized}

-- what A is shown of a session with that entry
abbrev pub shown : ℕ → Entry → Entry
shown A e = when bound_to A e then e else Closed

abbrev pub shown_of : ℕ → Session → Entry
shown_of A ses = shown A ses.entry

pub record View : Type 0 where
  pub sessions : List Entry
  pub own : Own

abbrev pub view : ℕ → World → View
view A w = record { sessions = map (shown_of A) w.state.sessions; own = own_of w A }

abbrev viewing : List Entry → List ℕ → ℕ → List (Option Receipt) → View
viewing es p n rs = record { sessions = es; own = owning p n rs }

same-views : {es es' : List Entry} {p p' : List ℕ} {n n' : ℕ} {rs rs' : List (Option Receipt)} → es ≡ es' → p ≡ p' → n ≡ n' → rs ≡ rs'
    → viewing es p n rs ≡ viewing es' p' n' rs'
same-views e f g h = cc

-- a view once session s has the entry e
abbrev pub with_entry : ℕ → View → ℕ → Entry → View
with_entry A vw s e = viewing (set vw.sessions s (shown A e)) vw.own.part vw.own.last (set vw.own.receipts s None)

-- what is outstanding for A once sessions with these entries are given these receipts: its receivers alone take theirs
abbrev pub given_to : ℕ → List Entry → List (Option Receipt) → List (Option Receipt)
given_to A es rs = map (receipt_for A) (granting A (map session_with es) rs)

-- a view once what is A's own is replaced
abbrev pub with_own : ℕ → View → Own → View
with_own A vw o = viewing vw.sessions o.part o.last (given_to A vw.sessions o.receipts)

bound-shown : (A : ℕ) (e : Entry) → bound_to A (shown A e) ≡ bound_to A e
bound-shown A e = if-cases (λ (d : Entry). bound_to A d ≡ bound_to A e) (bound_to A e) e Closed (λ h. refl) (λ h. sym h)

-- a session that is not bound to A is no receiver of A's
unbound-deaf : (A : ℕ) (e : Entry) → bound_to A e ≡ false → receiver_of A e ≡ false
unbound-deaf A Closed h = refl
unbound-deaf A Open h = refl
unbound-deaf A (Transmitter a) h = refl
unbound-deaf A (Receiver a) h = h
unbound-deaf A Ended h = refl

unbound-none : (A : ℕ) (ses : Session) → bound_to A ses.entry ≡ false → receipt_for A ses ≡ None
unbound-none A ses h = if-false (receiver_of A ses.entry) ses.receipt None (unbound-deaf A ses.entry h)

-- A's receivers can be told from what A is shown
receiver-shown : (A : ℕ) (e : Entry) → receiver_of A e ≡ receiver_of A (shown A e)
receiver-shown A e = if-cases (λ (d : Entry). receiver_of A e ≡ receiver_of A d) (bound_to A e) e Closed (λ h. refl) (unbound-deaf A e)

given-one : (A : ℕ) (ses : Session) (r : Option Receipt) → receipt_for A (granted_to A ses r) ≡ receipt_for A (granted_to A (session_with (shown_of A ses)) r)
given-one A ses r =
    given-receipt A ses r
    ∙ ap (λ t. when t then r else None) (receiver-shown A ses.entry)
    ∙ sym (given-receipt A (session_with (shown_of A ses)) r)

given-shown : (A : ℕ) (xs : List Session) (rs : List (Option Receipt)) → map (receipt_for A) (granting A xs rs) ≡ given_to A (map (shown_of A) xs) rs
unfolding granting
given-shown A [] rs = refl
given-shown A (x ∷ xs) [] = ap₂ {C = List (Option Receipt)} (λ q qs. q ∷ qs) (given-one A x None) (given-shown A xs [])
given-shown A (x ∷ xs) (r ∷ rs) = ap₂ {C = List (Option Receipt)} (λ q qs. q ∷ qs) (given-one A x r) (given-shown A xs rs)

-- ---- two worlds that are the same to A: a session is A's in both or in neither, and one of A's has the same entry in both

module _ (A : ℕ) (w v : World) (alike : view A w ≡ view A v) where
  shown-same : (s : ℕ) → shown A (entry_at w.state s) ≡ shown A (entry_at v.state s)
  shown-same s =
      sym (get_or-map (shown_of A) w.state.sessions s closed_session)
      ∙ ap (λ (vw : View). get_or vw.sessions s (shown A Closed)) alike
      ∙ get_or-map (shown_of A) v.state.sessions s closed_session

  pub bound-same : (s : ℕ) → bound_to A (entry_at w.state s) ≡ bound_to A (entry_at v.state s)
  bound-same s = sym (bound-shown A (entry_at w.state s)) ∙ ap (bound_to A) (shown-same s) ∙ bound-shown A (entry_at v.state s)

  pub entry-same : (s : ℕ) → bound_to A (entry_at w.state s) ≡ true → entry_at w.state s ≡ entry_at v.state s
  entry-same s h =
      sym (if-true (bound_to A (entry_at w.state s)) (entry_at w.state s) Closed h)
      ∙ shown-same s
      ∙ if-true (bound_to A (entry_at v.state s)) (entry_at v.state s) Closed (sym (bound-same s) ∙ h)

  pub bound_in-same : (m : Machine) (st : Step m.X m.Q) → bound_in m A w st ≡ bound_in m A v st
  bound_in-same m (opens s) = bound-same s
  bound_in-same m (closes s) = bound-same s
  bound_in-same m (on s x) = bound-same s
  bound_in-same m (of a q) = refl

-- an entry that was put is there
pub entry-put : (w : World) → Sized w → (s : ℕ) → s < session_count → (e : Entry) → entry_at (put_entry w s e).state s ≡ e
entry-put w z s l e =
    ap (λ (ses : Session). ses.entry)
    (get_or-set_same w.state.sessions s (session_with e) closed_session (omega (arith, z.sessions)))

-- ---- what A sees once an entry is put, or what is an account's own

module _ (A : ℕ) (w : World) where
  pub view-entry : (s : ℕ) (e : Entry) → view A (put_entry w s e) ≡ with_entry A (view A w) s e
  view-entry s e = same-views (map-set (shown_of A) w.state.sessions s (session_with e)) refl refl (receipts-bound w.state A s e)

  -- neither the session's entry before nor the one put is A's
  pub view-hidden : (s : ℕ) (e : Entry) → bound_to A (entry_at w.state s) ≡ false → bound_to A e ≡ false → view A (put_entry w s e) ≡ view A w
  view-hidden s e h k =
      let xs = w.state.sessions in
      same-views
      (map-set_same (shown_of A) xs s (session_with e) closed_session
      (if-false (bound_to A e) e Closed k ∙ sym (if-false (bound_to A (entry_at w.state s)) (entry_at w.state s) Closed h)))
      refl
      refl
      (map-set_same (receipt_for A) xs s (session_with e) closed_session
      (unbound-none A (session_with e) k ∙ sym (unbound-none A (get_or xs s closed_session) h)))

  pub view-other : (a : ℕ) (o : Own) → length o.part ≡ part_size → A ≢ a → view A (put_own w a o) ≡ view A w
  view-other a o lp ne =
      same-views
      (granting-entries a (shown A) w.state.sessions o.receipts)
      (elim (dec_lt A a) [
        | yes below ↦ part-before w.table (part_size * a) o.part (part_size * A) part_size (omega arith)
        | no above ↦ part-after w.table (part_size * a) o.part (part_size * A) part_size (omega arith)
      ])
      (get_or-set_other w.state.lasts a A o.last 0 ne)
      (granting-others a A ne w.state.sessions o.receipts)

  pub view-own : Sized w → (o : Own) → length o.part ≡ part_size → A < account_count → view A (put_own w A o) ≡ with_own A (view A w) o
  view-own z o lp la =
      same-views
      (granting-entries A (shown A) w.state.sessions o.receipts)
      (rw lp at (part-patch w.table (part_size * A) o.part (omega (arith, z.table))))
      (get_or-set_same w.state.lasts A o.last 0 (omega (arith, z.lasts)))
      (given-shown A w.state.sessions o.receipts)
