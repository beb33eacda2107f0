-- What an effect does with an address, it does with one that is the same but for leading spaces. Assumes nothing.
use Rattle.std.specs.Prelude.{Option}
use mathlib.Core.Path.{◌≡◌, fun_ext}
use mathlib.Core.Bool.{true}
use mathlib.Core.List.{List}
use Prim.Native.Nat.{ℕ}
use Rattle.wire.specs.declared.fields.Address.{Address}
use Rattle.requests.specs.declared.replace.Replace.{Replace}
use Rattle.records.specs.Book.{same_address}
use Rattle.records.proofs.SpaceLaws.{with-address}
use Rattle.store.specs.Search.{pair_place}
use Rattle.source.specs.Source.{no_address, source_for}
use Rattle.account.specs.Query.{looked_up}
use Rattle.account.specs.Cancel.{cancellable, cancelled_one, deleted_if, cancelled_all}
use Rattle.account.specs.Replace.{replaced_in}

pub query-alike : (book part : List ℕ) (id : Option ℕ) (s s' : Address) → same_address (source_for book s.octets) (source_for book s'.octets) ≡ true
    → looked_up book (record { id = id; source = s }) part ≡ looked_up book (record { id = id; source = s' }) part
unfolding looked_up
query-alike book part id s s' h = simp (with-address (source_for book s.octets) (source_for book s'.octets) h)

module _ (source source' : List ℕ) (s : same_address source source' ≡ true) where
  pub replace-alike : (r : Replace) (body part : List ℕ) → replaced_in source r body part ≡ replaced_in source' r body part
  unfolding replaced_in
  replace-alike r body part = simp (with-address source source' s)

  module _ (destination destination' : List ℕ) (d : same_address destination destination' ≡ true) where
    pub pair-alike : (part : List ℕ) → pair_place source destination part ≡ pair_place source' destination' part
    pair-alike part = simp (with-address source source' s, with-address destination destination' d)

    module _ (given : no_address destination ≡ no_address destination') (stamp part : List ℕ) where
      pub cancel-one-alike : (id : ℕ) → cancelled_one id source destination stamp part ≡ cancelled_one id source' destination' stamp part
      unfolding cancelled_one cancellable
      cancel-one-alike id = simp (with-address source source' s, with-address destination destination' d, given)

      deleted-alike : deleted_if source destination stamp ≡ deleted_if source' destination' stamp
      unfolding deleted_if
      deleted-alike = fun_ext (λ r. simp (with-address source source' s, with-address destination destination' d))

      pub cancel-all-alike : cancelled_all source destination stamp part ≡ cancelled_all source' destination' stamp part
      unfolding cancelled_all
      cancel-all-alike = rw (pair-alike part, deleted-alike, given)
