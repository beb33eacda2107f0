-- What is put back as it was changes nothing: an account's part, last id and receipts. Assumes nothing.
use Prim.Native.Nat.{ℕ, ◌*◌, ◌<◌}
use native.Mathlib.Omega.{arith}
use mathlib.Core.Path.{◌≡◌, sym, ap, ap₂, subst, ◌∙◌}
use mathlib.Core.Bool.{Bool}
use mathlib.Core.List.{List, []}
use lib.ListN.{set}
use lib.Seq.{set-get_or}
use Rattle.octets.specs.Choice.{when◌then◌else◌}
use Rattle.octets.specs.Stretch.{patch}
use Rattle.octets.proofs.StretchLaws.{if-cases}
use Rattle.octets.proofs.PatchLaws.{patch-none}
use Rattle.records.specs.Layout.{places}
use Rattle.store.specs.Places.{record_at}
use Rattle.session.specs.declared.Entry.TheVariants.{Ended}
use Rattle.session.specs.declared.State.{State}
use Rattle.isolation.specs.Platform.{World, part_of, part_size, owning, own_of, put_own, put_entry, Ran, unchanged, put, conclude}
use Rattle.answers.specs.Answer.{Answer, numbered, picked}
use Rattle.bound.specs.Bound.{keeping}
use Rattle.centre.specs.Operations.{picked_from}
use Rattle.centre.specs.Centre.{centre, world}
use Rattle.centre.proofs.StateLaws.{own_same_lem}
use Rattle.properties.proofs.QuestionCases.{picked-cases}

module _ (w : World) where
  -- ---- all that is an account's own

  pub account-back : (a : ℕ) (answer : Answer) → put centre w a (keeping answer (own_of w a)) ≡ unchanged centre w answer
  account-back a answer =
      ap₂ {C = Ran Answer} (λ (st : State) (t : List ℕ). unchanged centre (world st t) answer)
      (own_same_lem w.state a) (patch-none w.table (part_size * a) part_size)

  -- on a session that goes on
  pub concluded-back : (s a : ℕ) (answer : Answer) → conclude centre w s a (keeping answer (own_of w a)) ≡ unchanged centre w answer
  unfolding when◌then◌else◌
  concluded-back s a answer = account-back a answer

  -- a pick: a number other than 0, or a place and the record there
  pub pick-back : (book : List ℕ) (a : ℕ) (P : Ran Answer → Type 0) → ((n : ℕ) → (n ≡ 0 → ⊥) → P (unchanged centre w (numbered n)))
      → ((k : ℕ) → k < places → P (unchanged centre w (picked k (record_at k (part_of a w.table)))))
      → (let own = own_of w a in P (put centre w a (keeping (picked_from book own.last own.part) own)))
  pick-back book a P refused found =
      let own = own_of w a in
      subst P (sym (account-back a (picked_from book own.last own.part)))
      (picked-cases book own.last own.part (λ (r : Answer). P (unchanged centre w r)) (λ _. refused 9 (λ z. omega arith)) (refused 11 (λ z. omega arith)) (λ _. found))

  -- ---- its part and its last id: every stored message and every last id are as they were

  abbrev pub SameStored : World → Type 0
  SameStored v = (v.table ≡ w.table) × (v.state.lasts ≡ w.state.lasts)

  -- whatever its receipts, and whether the session ends or goes on
  pub stored_back : (s a : ℕ) (ends : Bool) (part : List ℕ) (last : ℕ) → part ≡ (own_of w a).part → last ≡ (own_of w a).last
      → SameStored (put_own (when ends then put_entry w s Ended else w) a (owning part last []))
  stored_back s a ends part last p l =
      let both : SameStored (put_own w a (owning part last [])) = (
        ap (patch w.table (part_size * a)) p ∙ patch-none w.table (part_size * a) part_size,
        ap (set w.state.lasts a) l ∙ set-get_or w.state.lasts a 0,
      ) in
      if-cases (λ (u : World). SameStored (put_own u a (owning part last []))) ends (put_entry w s Ended) w (λ _. both) (λ _. both)
