-- What a call from C gives can be read off the shape that its contract gathers it in, so that the contract allows one result only. Assumes nothing.
use mathlib.Core.Path.{◌≡◌, ap, ap₂}
use mathlib.Core.List.{List}
use Prim.Native.Nat.{ℕ}
use Rattle.answers.specs.Answer.{Answer}
use Rattle.inverook.specs.Calls.{Given, moved, taken, delivered}
use Rattle.inverook.specs.declared.flat.InverookState.{InverookState}
use Rattle.inverook.specs.declared.InverookMoved.{InverookMoved}
use Rattle.inverook.specs.declared.InverookTaken.{InverookTaken}
use Rattle.inverook.specs.declared.InverookDelivered.{InverookDelivered}

abbrev answer_of : Given → Answer
answer_of g = g.answer

pub one-moved : (r r' : InverookMoved) (t t' : List ℕ) → moved r t ≡ moved r' t' → (r ≡ r') × (t ≡ t')
one-moved r r' t t' e =
    let answers = ap answer_of e in
    let number : r.number ≡ r'.number = cc in (
      ap₂ {C = InverookMoved} (λ (n : ℕ) (st : InverookState). record { number = n; state = st }) number (ap (λ (g : Given). g.state) e),
      ap (λ (g : Given). g.table) e,
    )

pub one-taken : (r r' : InverookTaken) (t t' space space' : List ℕ) → taken r t space ≡ taken r' t' space' → (r ≡ r') × (t ≡ t') × (space ≡ space')
one-taken r r' t t' space space' e =
    let answers = ap answer_of e in
    let number : r.number ≡ r'.number = cc in
    let consumed : r.consumed ≡ r'.consumed = cc in
    let written : r.written ≡ r'.written = cc in
    let state : r.state ≡ r'.state = ap (λ (g : Given). g.state) e in
    let same : taking r.number r.consumed r.written r.state ≡ taking r'.number r'.consumed r'.written r'.state = rw (number, consumed, written, state) in
    (same, ap (λ (g : Given). g.table) e, cc)
  where
    taking : ℕ → ℕ → ℕ → InverookState → InverookTaken
    taking n c w st = record { number = n; consumed = c; written = w; state = st }

pub one-delivered : (r r' : InverookDelivered) (t t' space space' : List ℕ) → delivered r t space ≡ delivered r' t' space' → (r ≡ r') × (t ≡ t') × (space ≡ space')
one-delivered r r' t t' space space' e =
    let answers = ap answer_of e in
    let number : r.number ≡ r'.number = cc in
    let written : r.written ≡ r'.written = cc in
    let state : r.state ≡ r'.state = ap (λ (g : Given). g.state) e in
    let same : delivering r.number r.written r.state ≡ delivering r'.number r'.written r'.state = rw (number, written, state) in
    (same, ap (λ (g : Given). g.table) e, cc)
  where
    delivering : ℕ → ℕ → InverookState → InverookDelivered
    delivering n w st = record { number = n; written = w; state = st }
