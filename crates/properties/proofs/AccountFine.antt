-- Whatever a well-formed account is asked leaves it well formed. Assumes nothing.
use Prim.Native.Nat.{ℕ, ◌≤◌}
use native.Mathlib.Omega.{arith}
use mathlib.Core.Path.{◌≡◌, refl}
use mathlib.Core.Bool.{Bool, true, false, ◌||◌, false≢true}
use mathlib.Core.List.{List}
use lib.Dec.{eqb}
use lib.ListN.{length}
use borrow.Author.Tests.{eqb-true}
use Rattle.forms.specs.Time.{sent_time}
use Rattle.records.specs.Book.{book_record_size}
use Rattle.store.specs.Account.{account_ok}
use Rattle.isolation.specs.Platform.{part_size, Own, Effect}
use Rattle.answers.specs.Answer.{Octets, Outcome, Answer}
use Rattle.bound.specs.Bound.{Turn}
use Rattle.centre.specs.Operations.{outcome_ok, Noted, noted}
use Rattle.centre.specs.Centre.{on_octets}
use Rattle.wellformed.proofs.Accounts.{submitted-ok, cancelled-ok, replaced-ok, reported-ok, settled-ok}
use Rattle.wellformed.proofs.Issued.{issued-bits}
use Rattle.properties.proofs.BoundCases.{bound-cases}
use Rattle.properties.proofs.QuestionCases.{noted-cases}

-- well formed, with a last id of 32 bits
pub record Fine (book : List ℕ) (last : ℕ) (part : List ℕ) : Type 0 where
  pub ok : account_ok book last part ≡ true
  pub bits : last ≤ 0xFFFFFFFF

module _ (book : List ℕ) (own : Own) (whole : length own.part ≡ part_size) (fine : Fine book own.last own.part) where
  pub octets-fine : (transmitter : Bool) (s : ℕ) (x : Octets) → length book ≡ book_record_size → sent_time x.stamp ≡ true
      → (let o = (on_octets transmitter book s x own).own in Fine book o.last o.part)
  octets-fine transmitter s x sized sent =
      bound-cases book s x own (λ (e : Effect Own Answer). Fine book e.own.last e.own.part)
      (λ (t : Turn). Fine book t.stored.last t.stored.part) transmitter (λ _. fine)
      (λ _. record {
        same = λ _ _ _ _. fine;
        submits = λ body. record {
          ok = submitted-ok book own.part own.last whole fine.ok sized fine.bits body;
          bits = issued-bits book body own.part own.last fine.bits;
        };
        cancels = λ body. record { ok = cancelled-ok book own.part own.last whole fine.ok x.stamp sent body; bits = fine.bits };
        replaces = λ body. record { ok = replaced-ok book own.part own.last whole fine.ok body; bits = fine.bits };
      })
      (λ _. record {
        more = fine;
        nak = fine;
        quiet = λ _ _. record { ok = settled-ok book own.part own.last whole fine.ok _ _; bits = fine.bits };
        replies = λ _ _ _ _ q. q;
      })

  pub noted-fine : (x : Outcome) → sent_time x.stamp ≡ true → Fine book own.last (noted book x own.last own.part).part
  noted-fine x sent =
      noted-cases book own.last own.part x (λ (n : Noted). Fine book own.last n.part) fine (λ _. fine) fine
      (λ right _. let s = state-is x.state right in
      record {
        ok = reported-ok book own.part own.last whole fine.ok x.stamp sent x.id x.state x.error s.0 s.1 s.2;
        bits = fine.bits;
      })
    where
      by : (a b c : Bool) (n : ℕ) → eqb n 2 ≡ a → eqb n 3 ≡ b → eqb n 5 ≡ c → (a || b || c) ≡ true → (2 ≤ n) × (n ≤ 5) × (n ≡ 4 → ⊥)
      by true b c n p q r h = let e = eqb-true n 2 p in (omega arith, omega arith, λ four. omega arith)
      by false true c n p q r h = let e = eqb-true n 3 q in (omega arith, omega arith, λ four. omega arith)
      by false false true n p q r h = let e = eqb-true n 5 r in (omega arith, omega arith, λ four. omega arith)
      by false false false n p q r h = absurd (false≢true h)

      state-is : (n : ℕ) → outcome_ok n ≡ true → (2 ≤ n) × (n ≤ 5) × (n ≡ 4 → ⊥)
      state-is n h = by (eqb n 2) (eqb n 3) (eqb n 5) n refl refl refl h
