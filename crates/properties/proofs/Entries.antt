-- From a fresh platform, a session is only ever bound to an account with a used and well-formed book record. Assumes nothing.
use Prim.Native.Nat.{ℕ, zero, suc, ◌<◌}
use mathlib.Core.Path.{◌≡◌, refl, sym, subst, ◌∙◌}
use mathlib.Core.Bool.{Bool, true, false, false≢true}
use mathlib.Core.List.{List, [], ◌∷◌}
use lib.ListN.{get_or, set}
use lib.ListN as L
use borrow.Author.Tests.{eqb-true}
use Rattle.octets.specs.Choice.{when◌then◌else◌}
use Rattle.octets.proofs.StretchLaws.{if-cases}
use Rattle.wire.specs.Status.{invalid_password}
use Rattle.wire.specs.Fields.{octets_of}
use Rattle.requests.specs.Bind.{bind_of}
use Rattle.records.specs.Book.{book_record, used_ok, password_is}
use Rattle.store.specs.Search.{named_place}
use Rattle.session.specs.State.{session_count, account_count, closed_session, session_with, entry_at}
use Rattle.session.specs.declared.Entry.{Entry}
use Rattle.session.specs.declared.Entry.TheVariants.{Closed, Open, Transmitter, Receiver, Ended}
use Rattle.session.specs.declared.Session.{Session}
use Rattle.session.proofs.ReceiptLaws.{granting-entry}
use Rattle.isolation.specs.Platform.{World, fresh, Own, put_own, put_entry, become, Step, opens, closes, on, of, Front, Ran, ask, on_session, of_account, step}
use Rattle.isolation.specs.History.{bound_to, after}
use Rattle.answers.specs.Answer.{Call, taking, delivering, Question, Answer}
use Rattle.open.specs.Open.{Bound, not_bound, leg_of, bind_to}
use Rattle.centre.specs.Centre.{centre, on_front}
use Rattle.wellformed.proofs.Cases.{found-cases, read-cases}
use Rattle.properties.proofs.Named.{found-used}
use Rattle.properties.proofs.OpenCases.{open-cases}
use Rattle.properties.proofs.MoveCases.{opens-cases, closes-cases}
use Rattle.properties.proofs.OnCases.{on-cases}
use Rattle.properties.proofs.OfCases.{of-cases}

-- what holds of every session holds still, once one is put of which it holds
set-each : (H : Session → Type 0) (xs : List Session) (i : ℕ) (y : Session) → H y → ((j : ℕ) → H (get_or xs j closed_session))
    → (j : ℕ) → H (get_or (set xs i y) j closed_session)
set-each H [] i y p h j = h j
set-each H (x ∷ xs) zero y p h zero = p
set-each H (x ∷ xs) zero y p h (suc j) = h (suc j)
set-each H (x ∷ xs) (suc i) y p h zero = h zero
set-each H (x ∷ xs) (suc i) y p h (suc j) = set-each H xs i y p (λ k. h (suc k)) j

module _ (book : List ℕ) where
  -- an entry's account, if it has one
  pub record Used (a : ℕ) : Type 0 where
    pub below : a < account_count
    pub used : used_ok (book_record a book) ≡ true

  abbrev pub Leads : Entry → Type 0
  Leads e = (a : ℕ) → bound_to a e ≡ true → Used a

  unbound : (e : Entry) → ((a : ℕ) → bound_to a e ≡ false) → Leads e
  unbound e h a t = absurd (false≢true (sym (h a) ∙ t))

  -- ---- on an open session

  leg-leads : (receiver : Bool) (a : ℕ) → Used a → Leads (leg_of receiver a)
  leg-leads true a u b t = subst Used (eqb-true a b t) u
  leg-leads false a u b t = subst Used (eqb-true a b t) u

  bind-leads : (receiver : Bool) (body : List ℕ) → Leads (bind_to receiver book body).entry
  unfolding bind_to
  bind-leads receiver body =
      let Q : Bound → Type 0 = λ b. Leads b.entry in
      let b = (bind_of body).request in
      let refused : Leads Open = unbound Open (λ _. refl) in
      read-cases Q (bind_of body).status _ _ (λ _. refused) λ _.
      found-cases Q (named_place (octets_of b.system body) (octets_of b.kind body) book)
      (λ a. when password_is (octets_of b.password body) (book_record a book) then record { status = 0; entry = leg_of receiver a } else not_bound invalid_password)
      (not_bound invalid_password)
      (λ a e. let n = found-used _ _ book a e in
      if-cases Q (password_is (octets_of b.password body) (book_record a book)) _ _ (λ _. leg-leads receiver a (record { below = n.0; used = n.1 })) (λ _. refused))
      (λ _. refused)

  front-leads : (x : Call) → Leads (on_front book x).after
  front-leads (taking x) =
      let stays : Leads Open = unbound Open (λ _. refl) in
      open-cases book x (λ (f : Front Answer). Leads f.after)
      (record {
        more = stays;
        nak = unbound Ended (λ _. refl);
        quiet = λ _. stays;
        replies = λ _ _ _ _ _ _. stays;
        binds = λ _ _ _ receiver body. bind-leads receiver body;
      })
  front-leads (delivering y) = unbound Open (λ _. refl)

  -- ---- steps

  abbrev pub AllLead : World → Type 0
  AllLead w = (s : ℕ) → Leads (entry_at w.state s)

  abbrev AllAfter : Ran Answer → Type 0
  AllAfter r = AllLead r.world

  -- what is an account's own leaves the entries
  own-lead : (w : World) (a : ℕ) (o : Own) → AllLead w → AllLead (put_own w a o)
  own-lead w a o h s = rw (granting-entry a w.state.sessions o.receipts s) (h s)

  module _ (w : World) (h : AllLead w) where
    put-lead : (s : ℕ) (e : Entry) → Leads e → AllLead (put_entry w s e)
    put-lead s e l = set-each (λ ses. Leads ses.entry) w.state.sessions s (session_with e) l h

    become-lead : (s : ℕ) (e : Entry) → Leads e → AllLead (become w s e)
    become-lead s Closed l = put-lead s Closed l
    become-lead s Open l = h
    become-lead s (Transmitter a) l = put-lead s (Transmitter a) l
    become-lead s (Receiver a) l = put-lead s (Receiver a) l
    become-lead s Ended l = put-lead s Ended l

    step-lead : (st : Step Call Question) → AllAfter (step centre book w st)
    step-lead (opens s) = opens-cases book w s AllAfter h h (λ _ _. put-lead s Open (unbound Open (λ _. refl)))
    step-lead (closes s) = closes-cases book w s AllAfter h (λ _. put-lead s Closed (unbound Closed (λ _. refl)))
    step-lead (on s x) =
        on-cases book w s x AllAfter
        (record {
          refused = λ _ _. h;
          front = λ _ _. become-lead s (on_front book x).after (front-leads x);
          asked = λ _ a e _.
              let r = ask centre book w a (on_session s e x) in
              own-lead (when r.ends then put_entry w s Ended else w) a r.own
              (if-cases AllLead r.ends (put_entry w s Ended) w (λ _. put-lead s Ended (unbound Ended (λ _. refl))) (λ _. h));
        })
    step-lead (of a q) = of-cases book w a q AllAfter (λ _ _. h) (λ _ _. own-lead w a (ask centre book w a (of_account q)).own h)

  after-lead : (hs : List (Step Call Question)) (w : World) → AllLead w → AllLead (after centre book w hs)
  after-lead [] w h = h
  after-lead (st ∷ hs) w h = after-lead hs _ (step-lead w h st)

  fresh-lead : (n s : ℕ) → Leads (get_or (L.replicate n closed_session) s closed_session).entry
  fresh-lead zero s = unbound Closed (λ _. refl)
  fresh-lead (suc n) zero = unbound Closed (λ _. refl)
  fresh-lead (suc n) (suc s) = fresh-lead n s

  pub history-lead : (hs : List (Step Call Question)) → AllLead (after centre book fresh hs)
  unfolding fresh
  history-lead hs = after-lead hs fresh (fresh-lead session_count)
