-- A contract whose left side gathers what leaves a call allows one result only: what the shapes gather can be read off them. Assumes nothing.
use Rattle.std.specs.Prelude.{Option, Some, Result, Ok, Err}
use Prim.Native.Nat.{ℕ}
use mathlib.Core.Path.{◌≡◌, sym, ap, ap₂}
use mathlib.Core.Bool.{Bool}
use mathlib.Core.List.{List}
use Rattle.session.specs.declared.Entry.{Entry}
use Rattle.session.specs.declared.Handed.{Handed}
use Rattle.session.specs.declared.Receipt.{Receipt}
use Rattle.session.specs.declared.State.{State}
use Rattle.session.specs.declared.refusal.Refusal.{Refusal}
use Rattle.session.specs.Refusal.{number_of}
use Rattle.session.specs.State.{Moved, moved_to}
use Rattle.session.proofs.RefusalLaws.{one-number, one-outcome, number-not-0}
use Rattle.answers.specs.Answer.{Answer}
use Rattle.answers.specs.Answer as A
use Rattle.wire.proofs.StatusLaws.{code-one, not-0}
use Rattle.wire.specs.declared.status.Status.{Status}
use Rattle.account.specs.Query.{Asked, asked}
use Rattle.submit.specs.Submit.{Submitted, gave}
use Rattle.submit.specs.declared.Given.{Given}
use Rattle.isolation.specs.Platform.{Effect, Front, Ran}
use Rattle.receipts.specs.Offer.{Offered, offers}
use Rattle.receipts.specs.declared.offer.Offer.{Offer}
use Rattle.open.specs.Open.{Bound, answers, binds, fronts}
use Rattle.open.specs.declared.Fronted.{Fronted}
use Rattle.bound.specs.Bound.{Stored, Hand, acts, handles, comes_to}
use Rattle.bound.specs.declared.Acted.{Acted}
use Rattle.bound.specs.declared.Handled.{Handled}
use Rattle.centre.specs.Pick.{placed}
use Rattle.centre.specs.Centre.{moves, took, takes, gave_receipt, delivers, reports}
use Rattle.centre.specs.declared.take.Taken.{Taken}
use Rattle.properties.specs.Property2.{Tells, TellsOfThree}

abbrev answer_of : Ran Answer → Answer
answer_of r = r.answer

pub one-reported : TellsOfThree reports
one-reported n n' state state' t t' e =
    let answers = ap answer_of e in
    (cc, ap (λ (r : Ran Answer). r.world.state) e, ap (λ (r : Ran Answer). r.world.table) e)

pub one-moved : Tells moves
one-moved r r' t t' e =
    let o = one-reported r.number r'.number r.state r'.state t t' e in
    (ap₂ {C = Moved} (λ (n : ℕ) (st : State). record { number = n; state = st }) o.0 o.1, o.2)

pub one-handed : (h h' : Handed Unit) → moved_to h ≡ moved_to h' → h ≡ h'
one-handed h h' e =
    ap₂ {C = Handed Unit} (λ (o : Result Unit Refusal) (st : State). record { outcome = o; state = st })
    (one-outcome h.outcome h'.outcome (ap (λ (m : Moved). m.number) e)) (ap (λ (m : Moved). m.state) e)

-- number, consumed and written, and what goes with them; the same of a receipt
record Counted (n n' c c' w w' : ℕ) (s s' : List ℕ) : Type 0 where
  number : n ≡ n'
  consumed : c ≡ c'
  written : w ≡ w'
  space : s ≡ s'

counted : (n n' c c' w w' : ℕ) (s s' : List ℕ) → A.taken n c w s ≡ A.taken n' c' w' s' → Counted n n' c c' w w' s s'
counted n n' c c' w w' s s' e = record { number = cc; consumed = cc; written = cc; space = cc }

record Sent (n n' w w' : ℕ) (s s' : List ℕ) : Type 0 where
  number : n ≡ n'
  written : w ≡ w'
  space : s ≡ s'

sent : (n n' w w' : ℕ) (s s' : List ℕ) → A.delivered n w s ≡ A.delivered n' w' s' → Sent n n' w w' s s'
sent n n' w w' s s' e = record { number = cc; written = cc; space = cc }

one-took : (o o' : Result Taken Refusal) (s s' : List ℕ) → took o s ≡ took o' s' → (o ≡ o') × (s ≡ s')
one-took (Ok r) (Ok r') s s' e =
    let o = counted _ _ _ _ _ _ _ _ e in
    (ap₂ {C = Result Taken Refusal} (λ (c w : ℕ). Ok (record { consumed = c; written = w })) o.consumed o.written, o.space)
one-took (Ok r) (Err x) s s' e = absurd (number-not-0 x (counted _ _ _ _ _ _ _ _ e).number)
one-took (Err x) (Ok r) s s' e = absurd (number-not-0 x (sym (counted _ _ _ _ _ _ _ _ e).number))
one-took (Err x) (Err y) s s' e =
    let o = counted _ _ _ _ _ _ _ _ e in
    (ap {B = Result Taken Refusal} (λ (q : Refusal). Err q) (one-number x y o.number), o.space)

pub one-taken : TellsOfThree takes
one-taken h h' t t' space space' e =
    let o = one-took h.outcome h'.outcome space space' (ap answer_of e) in (
      ap₂ {C = Handed Taken} (λ (r : Result Taken Refusal) (st : State). record { outcome = r; state = st }) o.0 (ap (λ (q : Ran Answer). q.world.state) e),
      ap (λ (q : Ran Answer). q.world.table) e,
      o.1,
    )

pub one-answers : Tells answers
one-answers r r' space space' e =
    let o = counted _ _ _ _ _ _ _ _ (ap (λ (f : Front Answer). f.answer) e) in
    let entry : r.entry ≡ r'.entry = ap (λ (f : Front Answer). f.after) e in
    let same : fronting r.consumed r.written r.entry ≡ fronting r'.consumed r'.written r'.entry = rw (o.consumed, o.written, entry) in
    (same, o.space)
  where
    fronting : ℕ → ℕ → Entry → Fronted
    fronting c w en = record { consumed = c; written = w; entry = en }

pub one-fronts : Tells fronts
one-fronts (Ok r) (Ok r') space space' e =
    let o = one-answers r r' space space' e in
    (ap {B = Result Fronted Refusal} (λ (q : Fronted). Ok q) o.0, o.1)
one-fronts (Ok r) (Err x) space space' e = absurd (number-not-0 x (counted _ _ _ _ _ _ _ _ (ap (λ (f : Front Answer). f.answer) e)).number)
one-fronts (Err x) (Ok r) space space' e = absurd (number-not-0 x (sym (counted _ _ _ _ _ _ _ _ (ap (λ (f : Front Answer). f.answer) e)).number))
one-fronts (Err x) (Err y) space space' e =
    let o = counted _ _ _ _ _ _ _ _ (ap (λ (f : Front Answer). f.answer) e) in
    (ap {B = Result Fronted Refusal} (λ (q : Refusal). Err q) (one-number x y o.number), o.space)

pub one-acts : TellsOfThree acts
one-acts r r' part part' space space' e =
    let o = counted _ _ _ _ _ _ _ _ (ap (λ (f : Effect Stored Answer). f.answer) e) in
    let last : r.last ≡ r'.last = ap (λ (f : Effect Stored Answer). f.own.last) e in
    let ends : r.ends ≡ r'.ends = ap (λ (f : Effect Stored Answer). f.ends) e in
    let same : acting r.consumed r.written r.last r.ends ≡ acting r'.consumed r'.written r'.last r'.ends = rw (o.consumed, o.written, last, ends) in
    (same, ap (λ (f : Effect Stored Answer). f.own.part) e, o.space)
  where
    acting : ℕ → ℕ → ℕ → Bool → Acted
    acting c w l en = record { consumed = c; written = w; last = l; ends = en }

-- two numbers or none, as an option
some-alike : {A : Type 0} (x y : A) → Some x ≡ Some y → x ≡ y
some-alike x y e = cc

pub one-gave : (last : ℕ) → Tells (gave last)
one-gave last (Ok g) (Ok g') part part' e =
    let id : g.id ≡ g'.id = some-alike g.id g'.id (ap (λ (s : Submitted). s.id) e) in
    let n : g.last ≡ g'.last = ap (λ (s : Submitted). s.last) e in
    (ap₂ {C = Result Given Status} (λ (i l : ℕ). Ok (record { id = i; last = l })) id n, ap (λ (s : Submitted). s.part) e)
one-gave last (Ok g) (Err x) part part' e = not-0 x (ap (λ (s : Submitted). s.status) e)
one-gave last (Err x) (Ok g) part part' e = not-0 x (sym (ap (λ (s : Submitted). s.status) e))
one-gave last (Err x) (Err y) part part' e =
    (ap {B = Result Given Status} (λ (q : Status). Err q) (code-one x y (ap (λ (s : Submitted). s.status) e)), ap (λ (s : Submitted). s.part) e)

pub one-asked : (o o' : Result ℕ Status) → asked o ≡ asked o' → o ≡ o'
one-asked (Ok k) (Ok k') e = ap {B = Result ℕ Status} (λ (n : ℕ). Ok n) (some-alike k k' (ap (λ (a : Asked). a.place) e))
one-asked (Ok k) (Err x) e = not-0 x (ap (λ (a : Asked). a.status) e)
one-asked (Err x) (Ok k) e = not-0 x (sym (ap (λ (a : Asked). a.status) e))
one-asked (Err x) (Err y) e = ap {B = Result ℕ Status} (λ (q : Status). Err q) (code-one x y (ap (λ (a : Asked). a.status) e))

pub one-binds : (o o' : Result Entry Status) → binds o ≡ binds o' → o ≡ o'
one-binds (Ok k) (Ok k') e = ap {B = Result Entry Status} (λ (n : Entry). Ok n) (ap (λ (b : Bound). b.entry) e)
one-binds (Ok k) (Err x) e = not-0 x (ap (λ (b : Bound). b.status) e)
one-binds (Err x) (Ok k) e = not-0 x (sym (ap (λ (b : Bound). b.status) e))
one-binds (Err x) (Err y) e = ap {B = Result Entry Status} (λ (q : Status). Err q) (code-one x y (ap (λ (b : Bound). b.status) e))

pub one_placed : (part : List ℕ) (r r' : Result ℕ Refusal) → placed r part ≡ placed r' part → r ≡ r'
one_placed part (Ok k) (Ok j) e = cc
one_placed part (Ok k) (Err x) e = cc
one_placed part (Err x) (Ok k) e = cc
one_placed part (Err x) (Err y) e = ap (λ (q : Refusal). Err q) (one-number x y (alike e))
  where
    alike : A.numbered (number_of x) ≡ A.numbered (number_of y) → number_of x ≡ number_of y
    alike h = cc

one-receipt : (o o' : Result ℕ Refusal) (s s' : List ℕ) → gave_receipt o s ≡ gave_receipt o' s' → (o ≡ o') × (s ≡ s')
one-receipt (Ok w) (Ok w') s s' e =
    let o = sent _ _ _ _ _ _ e in
    (ap {B = Result ℕ Refusal} (λ (n : ℕ). Ok n) o.written, o.space)
one-receipt (Ok w) (Err x) s s' e = absurd (number-not-0 x (sent _ _ _ _ _ _ e).number)
one-receipt (Err x) (Ok w) s s' e = absurd (number-not-0 x (sym (sent _ _ _ _ _ _ e).number))
one-receipt (Err x) (Err y) s s' e =
    let o = sent _ _ _ _ _ _ e in
    (ap {B = Result ℕ Refusal} (λ (q : Refusal). Err q) (one-number x y o.number), o.space)

pub one-delivered : TellsOfThree delivers
one-delivered h h' t t' space space' e =
    let o = one-receipt h.outcome h'.outcome space space' (ap answer_of e) in (
      ap₂ {C = Handed ℕ} (λ (r : Result ℕ Refusal) (st : State). record { outcome = r; state = st }) o.0 (ap (λ (q : Ran Answer). q.world.state) e),
      ap (λ (q : Ran Answer). q.world.table) e,
      o.1,
    )

pub one-offers : (receipt : Option Receipt) → Tells (offers receipt)
one-offers receipt (Ok r) (Ok r') space space' e =
    let o = sent _ _ _ _ _ _ (ap (λ (f : Offered). f.answer) e) in
    let held : Some r.receipt ≡ Some r'.receipt = ap (λ (f : Offered). f.receipt) e in
    (ap₂ {C = Result Offer Refusal} (λ (w : ℕ) (q : Receipt). Ok (record { written = w; receipt = q })) o.written (alike held), o.space)
  where
    alike : Some r.receipt ≡ Some r'.receipt → r.receipt ≡ r'.receipt
    alike h = cc
one-offers receipt (Ok r) (Err x) space space' e = absurd (number-not-0 x (sent _ _ _ _ _ _ (ap (λ (f : Offered). f.answer) e)).number)
one-offers receipt (Err x) (Ok r) space space' e = absurd (number-not-0 x (sym (sent _ _ _ _ _ _ (ap (λ (f : Offered). f.answer) e)).number))
one-offers receipt (Err x) (Err y) space space' e =
    let o = sent _ _ _ _ _ _ (ap (λ (f : Offered). f.answer) e) in
    (ap {B = Result Offer Refusal} (λ (q : Refusal). Err q) (one-number x y o.number), o.space)

pub one-handles : TellsOfThree handles
one-handles r r' part part' space space' e =
    let o = one-acts r.acted r'.acted part part' space space' (ap (λ (f : Effect Hand Answer). record { answer = f.answer; own = f.own.stored; ends = f.ends }) e) in
    let receipt : r.receipt ≡ r'.receipt = ap (λ (f : Effect Hand Answer). f.own.receipt) e in
    (ap₂ {C = Handled} (λ (a : Acted) (q : Option Receipt). record { acted = a; receipt = q }) o.0 receipt, o.1, o.2)

pub one-comes : (last : ℕ) (receipt : Option Receipt) → TellsOfThree (comes_to last receipt)
one-comes last receipt (Ok r) (Ok r') part part' space space' e =
    let o = one-handles r r' part part' space space' e in
    (ap {B = Result Handled Refusal} (λ (h : Handled). Ok h) o.0, o.1, o.2)
one-comes last receipt (Ok r) (Err x) part part' space space' e =
    absurd (number-not-0 x (counted _ _ _ _ _ _ _ _ (ap (λ (f : Effect Hand Answer). f.answer) e)).number)
one-comes last receipt (Err x) (Ok r) part part' space space' e =
    absurd (number-not-0 x (sym (counted _ _ _ _ _ _ _ _ (ap (λ (f : Effect Hand Answer). f.answer) e)).number))
one-comes last receipt (Err x) (Err y) part part' space space' e =
    let o = counted _ _ _ _ _ _ _ _ (ap (λ (f : Effect Hand Answer). f.answer) e) in
    (ap {B = Result Handled Refusal} (λ (q : Refusal). Err q) (one-number x y o.number), ap (λ (f : Effect Hand Answer). f.own.stored.part) e, o.space)
