-- A last id put back as it was changes nothing, and so does all that is an account's own; where what it gives is put, as a state and a table.
-- Assumes nothing.
use mathlib.Core.Path.{◌≡◌, refl, ap, ◌∙◌}
use mathlib.Core.Bool.{Bool, true, false}
use mathlib.Core.List.{List}
use Prim.Native.Nat.{ℕ}
use lib.ListN.{get_or, set}
use lib.Seq.{set-get_or}
use Rattle.std.specs.Prelude.{Option, None}
use Rattle.octets.specs.Choice.{when◌then◌else◌}
use Rattle.session.specs.State.{last_at, receipts_of, ended, issued, granted}
use Rattle.session.specs.declared.Entry.TheVariants.{Ended}
use Rattle.session.specs.declared.Receipt.{Receipt}
use Rattle.session.specs.declared.State.{State}
use Rattle.session.proofs.ReceiptLaws.{granted-same}
use Rattle.isolation.specs.Platform.{Own, put_part, put_own, put_entry}
use Rattle.centre.specs.Centre.{world}

pub issued-same : (st : State) (a : ℕ) → issued st a (last_at st a) ≡ st
issued-same st a = ap {B = State} (λ (l : List ℕ). record { sessions = st.sessions; lasts = l }) (set-get_or st.lasts a 0)

pub own_same_lem : (st : State) (a : ℕ) → granted (issued st a (last_at st a)) a (receipts_of st a) ≡ st
own_same_lem st a = ap (λ (u : State). granted u a (receipts_of st a)) (issued-same st a) ∙ granted-same st a

-- so does all that is an account's own where one session's receipt is put back as it was
pub kept_lem : (st : State) (a s : ℕ) (r : Option Receipt) → r ≡ get_or (receipts_of st a) s None
    → granted (issued st a (last_at st a)) a (set (receipts_of st a) s r) ≡ st
kept_lem st a s r p = rw (p, set-get_or (receipts_of st a) s None) (own_same_lem st a)

-- a session that ends, or goes on
pub concluded-put : (st : State) (t : List ℕ) (s a : ℕ) (ends : Bool) (o : Own)
    → put_own (when ends then put_entry (world st t) s Ended else world st t) a o
    ≡ world (issued (granted (when ends then ended st s else st) a o.receipts) a o.last) (put_part a o.part t)
unfolding when◌then◌else◌
concluded-put st t s a true o = refl
concluded-put st t s a false o = refl
