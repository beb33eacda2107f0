-- What concerns an account, on one history of two accounts, computed: which steps remain for each, which of them bind, what each is answered, and
-- which receipts are outstanding for it. Assumes nothing.
use mathlib.Core.Path.{◌≡◌, refl}
use mathlib.Core.Bool.{true, false}
use mathlib.Core.List.{List, [], ◌∷◌}
use Prim.Native.Nat.{ℕ, ◌+◌}
use lib.ListN.{take, replicate}
use Rattle.std.specs.Prelude.{None}
use Rattle.octets.specs.Choice.{when◌then◌else◌}
use Rattle.session.specs.State.{session_count, receipts_of, granting, opened, closed, outstanding}
use Rattle.session.specs.declared.Entry.TheVariants.{Receiver}
use Rattle.session.specs.declared.State.{State}
use Rattle.isolation.specs.Platform.{fresh, owning, Step, opens, closes, on, of, Machine, step}
use Rattle.isolation.specs.History.{Kept, concerns, binds, after, answers_of, remaining}
use Rattle.isolation.specs.Isolation.{Keeps}

-- what is asked on an open session binds it as a receiver of the account that it names, and is answered 50; an account answers with its next id, and
-- gives all sixteen sessions a receipt of that id, its own number as the sequence
abbrev counting : Machine
counting =
    record {
      Book = Unit {0};
      X = ℕ;
      Q = ℕ;
      R = ℕ;
      numbered = λ n. n;
      refused_on = λ n x. n;
      refused_of = λ n q. n;
      early_on = λ b size x. 0;
      early_of = λ b size q. 0;
      front = λ b x. record { answer = 50; after = Receiver x };
      act = λ b a q o.
          let next = o.last + 1 in
          record { answer = next; own = owning o.part next (replicate session_count (outstanding next a)); ends = false };
    }

counting-keeps : Keeps counting
counting-keeps b a q o sized = sized

abbrev history : List (Step ℕ ℕ)
history =
    opens 0
    ∷ opens 1
    ∷ on 0 0
    ∷ on 1 1
    ∷ on 0 7
    ∷ on 1 8
    ∷ of 1 9
    ∷ closes 0
    ∷ closes 1
    ∷ []

abbrev kept : Step ℕ ℕ → Kept ℕ ℕ
kept st = record { step = st; binds = false }

abbrev kept_as_bind : Step ℕ ℕ → Kept ℕ ℕ
kept_as_bind st = record { step = st; binds = true }

remaining-0 : remaining counting 0 tt fresh history ≡ kept_as_bind (on 0 0) ∷ kept (on 0 7) ∷ kept (closes 0) ∷ []
unfolding concerns binds step opened closed granting when◌then◌else◌ fresh
remaining-0 = refl

remaining-1 : remaining counting 1 tt fresh history ≡ kept_as_bind (on 1 1) ∷ kept (on 1 8) ∷ kept (of 1 9) ∷ kept (closes 1) ∷ []
unfolding concerns binds step opened closed granting when◌then◌else◌ fresh
remaining-1 = refl

answers-0 : answers_of counting 0 tt fresh history ≡ 50 ∷ 1 ∷ 0 ∷ []
unfolding concerns step opened closed granting when◌then◌else◌ fresh
answers-0 = refl

answers-1 : answers_of counting 1 tt fresh history ≡ 50 ∷ 1 ∷ 2 ∷ 0 ∷ []
unfolding concerns step opened closed granting when◌then◌else◌ fresh
answers-1 = refl

-- ---- before the two close, each account's receipt is outstanding on its own receiver alone; afterwards none is

abbrev state_after : ℕ → State
state_after n = (after counting tt fresh (take n history)).state

receipts-0 : receipts_of (state_after 7) 0 ≡ outstanding 1 0 ∷ replicate 15 None
unfolding step opened closed granting when◌then◌else◌ fresh
receipts-0 = refl

receipts-1 : receipts_of (state_after 7) 1 ≡ None ∷ outstanding 2 1 ∷ replicate 14 None
unfolding step opened closed granting when◌then◌else◌ fresh
receipts-1 = refl

receipts-closed : receipts_of (state_after 9) 1 ≡ replicate session_count None
unfolding step opened closed granting when◌then◌else◌ fresh
receipts-closed = refl
