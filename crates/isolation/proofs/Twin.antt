-- A step that concerns account A, taken in the full run, and its twin in the run alone: from worlds that are the same to A, the two give the same
-- answer, and worlds that are the same to A. Assumes nothing.
use mathlib.Core.Path.{◌≡◌, refl, sym, ap, ◌∙◌, subst}
use mathlib.Core.Bool.{Bool, true, false, not, ◌&&◌, ◌||◌, true≢false}
use Prim.Native.Nat.{ℕ, ◌<◌}
use lib.ListN.{length}
use lib.Dec.{ltb, leb, eqb}
use borrow.Author.Tests.{ltb-true, eqb-true, eq-eqb, lt-leb, not-true, not-false}
use Rattle.octets.specs.Choice.{when◌then◌else◌}
use Rattle.octets.proofs.StretchLaws.{or_right, and_right, and-false, if-cases}
use Rattle.session.specs.State.{session_count, account_count, entry_at, opened, opened_from, closed}
use Rattle.session.specs.declared.Entry.{Entry}
use Rattle.session.specs.declared.Entry.TheVariants.{Closed, Open, Transmitter, Receiver, Ended}
use Rattle.session.specs.State.{Moved}
use Rattle.isolation.specs.Platform.{part_size, table_size, World, Own, put_entry, become, Step, opens, closes, on, of, Request, on_session, of_account, Effect, Ran, Machine, unchanged, ask, put, move, conclude, on_account, on_entry, on_after, of_after, step}
use Rattle.isolation.specs.History.{bound_to, bound_in, names, concerns, binds, reopened, anew, alone_step}
use Rattle.isolation.specs.Isolation.{Keeps}
use Rattle.isolation.proofs.Sizes.{Sized, sized-entry, asked-length, sized-reopened}
use Rattle.isolation.proofs.Views.{View, view, with_entry, with_own, bound-same, bound_in-same, entry-same, entry-put, view-entry, view-hidden, view-own}
use Rattle.isolation.proofs.Frame.{own, fronted, Foreign, leaves, fronts, foreign}

-- one test that chooses in both runs
pub if-both : {X Y : Type 0} (P : X → Y → Type 0) (t : Bool) (x x' : X) (y y' : Y) → (t ≡ true → P x y) → (t ≡ false → P x' y')
    → P (when t then x else x') (when t then y else y')
unfolding when◌then◌else◌
if-both P true x x' y y' p q = p refl
if-both P false x x' y y' p q = q refl

or-idle : (t : Bool) → (t || false) ≡ true → t ≡ true
or-idle true h = refl
or-idle false h = h

-- named, bound before, bound after
mark-of : (n p q : Bool) → (q ≡ true → n ≡ false) → (n || (p || q)) ≡ true → (not p && q) ≡ not (n || p)
mark-of true p true unnamed c = absurd (true≢false (unnamed refl))
mark-of true p false unnamed c = and-false (not p)
mark-of false true q unnamed c = refl
mark-of false false q unnamed c = c

-- the answers are equal, and the worlds the same to A
pub record Alike {R : Type 0} (A : ℕ) (r q : Ran R) : Type 0 where
  pub answer : r.answer ≡ q.answer
  pub world : view A r.world ≡ view A q.world

module _ (m : Machine) (keeps : Keeps m) (b : m.Book) (A : ℕ) where
  open m use {X, Q, R, numbered, refused_on, refused_of, early_on, early_of, front, act}

  -- ---- A's own step, taken in both worlds

  module _ (w v : World) (alike : view A w ≡ view A v) where
    own-unchanged : (r : R) → Alike A (unchanged m w r) (unchanged m v r)
    own-unchanged r = record { answer = refl; world = alike }

    own-entry : (s : ℕ) (e : Entry) (r : R) → Alike A (record { answer = r; world = put_entry w s e }) (record { answer = r; world = put_entry v s e })
    own-entry s e r =
        record {
          answer = refl;
          world = view-entry A w s e ∙ ap (λ (vw : View). with_entry A vw s e) alike ∙ sym (view-entry A v s e);
        }

    own-become : (s : ℕ) (e : Entry) (r : R) → Alike A (record { answer = r; world = become w s e }) (record { answer = r; world = become v s e })
    own-become s Closed r = own-entry s Closed r
    own-become s Open r = own-unchanged r
    own-become s (Transmitter a) r = own-entry s (Transmitter a) r
    own-become s (Receiver a) r = own-entry s (Receiver a) r
    own-become s Ended r = own-entry s Ended r

    own_put : Sized w → Sized v → (r : Effect Own R) → length r.own.part ≡ part_size → A < account_count → Alike A (put m w A r) (put m v A r)
    own_put z y r lp la =
        record {
          answer = refl;
          world = view-own A w z r.own lp la ∙ ap (λ (vw : View). with_own A vw r.own) alike ∙ sym (view-own A v y r.own lp la);
        }

    -- A's function is given the same, and so gives the same
    ask-same : (q : Request X Q) → ask m b w A q ≡ ask m b v A q
    ask-same q = ap (λ (vw : View). act b A q vw.own) alike

  module _ (w v : World) (z : Sized w) (y : Sized v) (alike : view A w ≡ view A v) where
    own-opened : (s : ℕ) (e : Entry) → Alike A (move m w (opened_from w.state s e)) (move m v (opened_from v.state s e))
    own-opened s Closed = own-entry w v alike s Open (numbered 0)
    own-opened s Open = own-unchanged w v alike (numbered 6)
    own-opened s (Transmitter a) = own-unchanged w v alike (numbered 6)
    own-opened s (Receiver a) = own-unchanged w v alike (numbered 6)
    own-opened s Ended = own-unchanged w v alike (numbered 6)

    own-ask : (q : Request X Q) → ltb A account_count ≡ true → Alike A (put m w A (ask m b w A q)) (put m v A (ask m b v A q))
    own-ask q t =
        let la = ltb-true A account_count t in
        let r = ask m b w A q in
        subst (λ (r' : Effect Own R). Alike A (put m w A r) (put m v A r')) (ask-same w v alike q)
        (own_put w v alike z y r (asked-length m b w z keeps A q la) la)

    own-conclude : (s : ℕ) (x : X) (e : Entry) → ltb A account_count ≡ true
        → Alike A (conclude m w s A (ask m b w A (on_session s e x))) (conclude m v s A (ask m b v A (on_session s e x)))
    own-conclude s x e t =
        let la = ltb-true A account_count t in
        let q = on_session s e x in
        let r = ask m b w A q in
        let lp = asked-length m b w z keeps A q la in
        let ended = (own-entry w v alike s Ended r.answer).world in
        subst (λ (r' : Effect Own R). Alike A (conclude m w s A r) (conclude m v s A r')) (ask-same w v alike q)
        (if-both (λ (u u' : World). Alike A (put m u A r) (put m u' A r)) r.ends _ _ _ _
        (λ k. own_put (put_entry w s Ended) (put_entry v s Ended) ended (sized-entry w z s Ended) (sized-entry v y s Ended) r lp la)
        (λ k. own_put w v alike z y r lp la))

    own-on_account : (s : ℕ) (x : X) (e : Entry) → Alike A (on_account m b w s x e A) (on_account m b v s x e A)
    own-on_account s x e = if-both (Alike A) (ltb A account_count) _ _ _ _ (own-conclude s x e) (λ t. own-unchanged w v alike (refused_on 9 x))

    own-on_entry : (s : ℕ) (x : X) (e : Entry) → bound_to A e ≡ true → Alike A (on_entry m b w s x e) (on_entry m b v s x e)
    own-on_entry s x Closed h = absurd (true≢false (sym h))
    own-on_entry s x Open h = absurd (true≢false (sym h))
    own-on_entry s x (Transmitter a) h = rw (eqb-true a A h) (own-on_account s x (Transmitter A))
    own-on_entry s x (Receiver a) h = rw (eqb-true a A h) (own-on_account s x (Receiver A))
    own-on_entry s x Ended h = absurd (true≢false (sym h))

    own-on_after : (n s : ℕ) (x : X) → bound_to A (entry_at w.state s) ≡ true → Alike A (on_after m n b w s x) (on_after m n b v s x)
    own-on_after n s x h =
        if-both (Alike A) (eqb n 0) _ _ _ _
        (λ t. rw (← (entry-same A w v alike s h)) (own-on_entry s x (entry_at w.state s) h))
        (λ t. own-unchanged w v alike (refused_on n x))

    own-of_after : (n : ℕ) (q : Q) → Alike A (of_after m n b w A q) (of_after m n b v A q)
    own-of_after n q =
        if-both (Alike A) (eqb n 0) _ _ _ _
        (λ t. if-both (Alike A) (ltb A account_count) _ _ _ _ (own-ask (of_account q)) (λ u. own-unchanged w v alike (refused_of 7 q)))
        (λ t. own-unchanged w v alike (refused_of n q))

    own-step : (st : Step X Q) → own m A w st ≡ true → Alike A (step m b w st) (step m b v st)
    unfolding step opened closed
    own-step (opens s) h =
        if-both (λ (r q : Moved). Alike A (move m w r) (move m v q)) (leb session_count s) _ _ _ _
        (λ t. own-unchanged w v alike (numbered 2))
        (λ t. rw (← (entry-same A w v alike s h)) (own-opened s (entry_at w.state s)))
    own-step (closes s) h =
        if-both (λ (r q : Moved). Alike A (move m w r) (move m v q)) (leb session_count s) _ _ _ _
        (λ t. own-unchanged w v alike (numbered 2))
        (λ t. own-entry w v alike s Closed (numbered 0))
    own-step (on s x) h =
        rw (z.table, y.table)
        (if-both (Alike A) (leb session_count s) _ _ _ _
        (λ t. own-unchanged w v alike (refused_on 2 x))
        (λ t. own-on_after (early_on b table_size x) s x h))
    own-step (of a q) h = rw (z.table, y.table, eqb-true a A (or-idle (eqb a A) h)) (own-of_after (early_of b table_size q) q)

  -- ---- a step that binds its session to A: that session was open. Its twin's is closed and opened afresh, none of which A is shown

  front-step : (u : World) → Sized u → (s : ℕ) → s < session_count → entry_at u.state s ≡ Open → (x : X) → early_on b table_size x ≡ 0
      → step m b u (on s x) ≡ fronted m b u s x
  unfolding step when◌then◌else◌
  front-step u z s l e x n = rw (lt-leb session_count s l, z.table, eq-eqb (early_on b table_size x) 0 n, e)

  module _ (v : World) (y : Sized v) (s : ℕ) (l : s < session_count) where
    reopened-is : reopened m b v s ≡ put_entry (put_entry v s Closed) s Open
    unfolding step opened closed when◌then◌else◌
    reopened-is = rw (lt-leb session_count s l, entry-put v y s l Closed)

    reopened-open : entry_at (reopened m b v s).state s ≡ Open
    reopened-open =
        ap (λ (u : World). entry_at u.state s) reopened-is ∙ entry-put (put_entry v s Closed) (sized-entry v y s Closed) s l Open

    reopened-view : bound_to A (entry_at v.state s) ≡ false → view A (reopened m b v s) ≡ view A v
    reopened-view h =
        ap (view A) reopened-is
        ∙ view-hidden A (put_entry v s Closed) s Open (ap (bound_to A) (entry-put v y s l Closed)) refl
        ∙ view-hidden A v s Closed h refl

  -- a step that leaves what A sees binds no session to A
  bind-step : (w v : World) → Sized v → view A w ≡ view A v → (st : Step X Q) (r : Ran R) → Foreign m b A w r st → bound_in m A w st ≡ false
      → bound_in m A r.world st ≡ true → Alike A r (step m b (anew m b v st) st)
  bind-step w v y alike st r (leaves e) h k = absurd (true≢false (sym k ∙ bound_in-same A r.world w e m st ∙ h))
  bind-step w v y alike (on s x) r (fronts l n e) h k =
      let u = reopened m b v s in
      rw (e, front-step u (sized-reopened m b v y s) s l (reopened-open v y s l) x n)
      (own-become w u (alike ∙ sym (reopened-view v y s l (sym (bound-same A w v alike s) ∙ h))) s (front b x).after (front b x).answer)

  -- ---- the twin

  -- a step that comes on a session names no account
  unnamed : (w : World) (st : Step X Q) → bound_in m A w st ≡ true → names m A st ≡ false
  unnamed w (opens s) h = refl
  unnamed w (closes s) h = refl
  unnamed w (on s x) h = refl
  unnamed w (of a q) h = absurd (true≢false (sym h))

  -- a step that concerns A binds its session where the step is not A's own yet
  pub mark : (w : World) (st : Step X Q) → concerns m A b w st ≡ true → binds m A b w st ≡ not (own m A w st)
  unfolding concerns binds
  mark w st c = mark-of (names m A st) (bound_in m A w st) (bound_in m A (step m b w st).world st) (unnamed (step m b w st).world st) c

  module _ (w v : World) (z : Sized w) (y : Sized v) (alike : view A w ≡ view A v) (st : Step X Q) (c : concerns m A b w st ≡ true) where
    twin-bind : binds m A b w st ≡ true → Alike A (step m b w st) (step m b (anew m b v st) st)
    unfolding binds
    twin-bind t =
        let before = bound_in m A w st in
        let after = bound_in m A (step m b w st).world st in
        let not_own = not-true (own m A w st) (sym (mark w st c) ∙ t) in
        bind-step w v y alike st (step m b w st) (foreign m b A w z keeps st not_own) (or_right (names m A st) before not_own) (and_right (not before) after t)

    pub twin : Alike A (step m b w st) (alone_step m b v (record { step = st; binds = binds m A b w st }))
    twin =
        if-cases (λ (u : World). Alike A (step m b w st) (step m b u st)) (binds m A b w st) (anew m b v st) v
        twin-bind
        (λ t. own-step w v z y alike st (not-false (own m A w st) (sym (mark w st c) ∙ t)))
