-- A step that is not account A's own leaves all that A sees, but for one kind: what is asked on an open session, which may bind that session to A.
-- So a step that doesn't concern A leaves all that A sees. Assumes nothing.
use mathlib.Core.Path.{◌≡◌, refl, sym, ap, ◌∙◌}
use mathlib.Core.Bool.{Bool, true, false, ◌||◌}
use Prim.Native.Nat.{ℕ, ◌<◌}
use lib.ListN.{length}
use lib.Dec.{ltb, leb, eqb}
use borrow.Author.Tests.{ltb-true, leb-false, eqb-true, eqb-false}
use Rattle.octets.specs.Choice.{when◌then◌else◌}
use Rattle.octets.proofs.StretchLaws.{or_left, or_right, if-cases}
use Rattle.session.specs.State.{session_count, account_count, entry_at, opened, opened_from, closed}
use Rattle.session.specs.declared.Entry.{Entry}
use Rattle.session.specs.declared.Entry.TheVariants.{Closed, Open, Transmitter, Receiver, Ended}
use Rattle.session.specs.State.{Moved}
use Rattle.isolation.specs.Platform.{table_size, World, put_own, put_entry, become, Step, opens, closes, on, of, Request, on_session, of_account, Ran, Machine, ask, move, on_account, on_entry, on_after, of_after, step}
use Rattle.isolation.specs.History.{bound_to, bound_in, names, concerns}
use Rattle.isolation.specs.Isolation.{Keeps}
use Rattle.isolation.proofs.Sizes.{Sized, asked-length}
use Rattle.isolation.proofs.Views.{view, entry-put, view-hidden, view-other}

-- the step is A's own in w: it names A, or comes on a session bound to A
abbrev pub own : (m : Machine) → ℕ → World → Step m.X m.Q → Bool
own m A w st = names m A st || bound_in m A w st

-- what is asked on an open session, past the tests
abbrev pub fronted : (m : Machine) → m.Book → World → ℕ → m.X → Ran m.R
fronted m b w s x = on_entry m b w s x Open

module _ (m : Machine) (b : m.Book) (A : ℕ) (w : World) where
  open m use {X, Q, R, early_on, early_of, front}

  abbrev Leaves : Ran R → Type 0
  Leaves r = view A r.world ≡ view A w

  -- what a step that is not A's own gives
  pub data Foreign (r : Ran R) : Step X Q → Type 0 where
    leaves : {st : Step X Q} → view A r.world ≡ view A w → Foreign r st
    fronts : {s : ℕ} {x : X} → s < session_count → early_on b table_size x ≡ 0 → r ≡ fronted m b w s x → Foreign r (on s x)

  module _ (z : Sized w) (keeps : Keeps m) where
    -- another account is asked, and what it gives put
    foreign-put : (a : ℕ) (q : Request X Q) → eqb a A ≡ false → ltb a account_count ≡ true → (u : World)
        → view A (put_own u a (ask m b w a q).own) ≡ view A u
    foreign-put a q ne t u =
        view-other A u a (ask m b w a q).own (asked-length m b w z keeps a q (ltb-true a account_count t)) (λ p. eqb-false a A ne (sym p))

    foreign-of_after : (n a : ℕ) (q : Q) → eqb a A ≡ false → Leaves (of_after m n b w a q)
    foreign-of_after n a q ne =
        if-cases Leaves (eqb n 0) _ _
        (λ t. if-cases Leaves (ltb a account_count) _ _ (λ u. foreign-put a (of_account q) ne u w) (λ u. refl))
        (λ t. refl)

    foreign-opened : (s : ℕ) (e : Entry) → bound_to A (entry_at w.state s) ≡ false → Leaves (move m w (opened_from w.state s e))
    foreign-opened s Closed h = view-hidden A w s Open h refl
    foreign-opened s Open h = refl
    foreign-opened s (Transmitter a) h = refl
    foreign-opened s (Receiver a) h = refl
    foreign-opened s Ended h = refl

    -- on a session of another account, whether it ends or goes on
    foreign-on_account : (s : ℕ) (x : X) (e : Entry) (a : ℕ) → bound_to A (entry_at w.state s) ≡ false → eqb a A ≡ false
        → Leaves (on_account m b w s x e a)
    foreign-on_account s x e a h ne =
        let q = on_session s e x in
        let ends = (ask m b w a q).ends in
        if-cases Leaves (ltb a account_count) _ _
        (λ t. foreign-put a q ne t (when ends then put_entry w s Ended else w)
        ∙ if-cases (λ (u : World). view A u ≡ view A w) ends (put_entry w s Ended) w (λ k. view-hidden A w s Ended h refl) (λ k. refl))
        (λ t. refl)

    module _ (s : ℕ) (l : s < session_count) (x : X) (h : bound_to A (entry_at w.state s) ≡ false) where
      foreign-on_entry : early_on b table_size x ≡ 0 → (e : Entry) → bound_to A e ≡ false → Foreign (on_entry m b w s x e) (on s x)
      foreign-on_entry n Closed k = leaves refl
      foreign-on_entry n Open k = fronts l n refl
      foreign-on_entry n (Transmitter a) k = leaves (foreign-on_account s x (Transmitter a) a h k)
      foreign-on_entry n (Receiver a) k = leaves (foreign-on_account s x (Receiver a) a h k)
      foreign-on_entry n Ended k = leaves refl

      foreign-on_after : Foreign (on_after m (early_on b (length w.table) x) b w s x) (on s x)
      foreign-on_after =
          let early = early_on b (length w.table) x in
          if-cases (λ (r : Ran R). Foreign r (on s x)) (eqb early 0) _ _
          (λ t. foreign-on_entry (rw z.table at (eqb-true early 0 t)) (entry_at w.state s) h)
          (λ t. leaves refl)

    pub foreign : (st : Step X Q) → own m A w st ≡ false → Foreign (step m b w st) st
    unfolding step opened closed
    foreign (opens s) h =
        leaves (if-cases (λ (r : Moved). Leaves (move m w r)) (leb session_count s) _ _ (λ t. refl) (λ t. foreign-opened s (entry_at w.state s) h))
    foreign (closes s) h =
        leaves (if-cases (λ (r : Moved). Leaves (move m w r)) (leb session_count s) _ _ (λ t. refl) (λ t. view-hidden A w s Closed h refl))
    foreign (on s x) h =
        if-cases (λ (r : Ran R). Foreign r (on s x)) (leb session_count s) _ _
        (λ t. leaves refl)
        (λ t. foreign-on_after s (leb-false session_count s t) x h)
    foreign (of a q) h = leaves (foreign-of_after (early_of b (length w.table) q) a q (or_left (eqb a A) false h))

    -- what is asked on an open session and did not bind it to A put no entry that A is shown
    unbound-become : (s : ℕ) → s < session_count → (e : Entry) → bound_to A (entry_at w.state s) ≡ false
        → bound_to A (entry_at (become w s e).state s) ≡ false → view A (become w s e) ≡ view A w
    unbound-become s l Closed h k = view-hidden A w s Closed h refl
    unbound-become s l Open h k = refl
    unbound-become s l (Transmitter a) h k = view-hidden A w s (Transmitter a) h (rw (entry-put w z s l (Transmitter a)) at k)
    unbound-become s l (Receiver a) h k = view-hidden A w s (Receiver a) h (rw (entry-put w z s l (Receiver a)) at k)
    unbound-become s l Ended h k = view-hidden A w s Ended h refl

    unbound : {st : Step X Q} (r : Ran R) → Foreign r st → bound_in m A w st ≡ false → bound_in m A r.world st ≡ false → Leaves r
    unbound r (leaves e) h k = e
    unbound r (fronts {s = s} {x = x} l n e) h k =
        ap (λ (q : Ran R). view A q.world) e ∙ unbound-become s l (front b x).after h (rw e at k)

    pub frame : (st : Step X Q) → concerns m A b w st ≡ false → view A (step m b w st).world ≡ view A w
    unfolding concerns
    frame st c =
        let before = bound_in m A w st in
        let after = bound_in m A (step m b w st).world st in
        let unnamed = or_left (names m A st) (before || after) c in
        let apart = or_right (names m A st) (before || after) c in
        let unbound_before = or_left before after apart in
        unbound (step m b w st) (foreign st (rw (unnamed, unbound_before))) unbound_before (or_right before after apart)
