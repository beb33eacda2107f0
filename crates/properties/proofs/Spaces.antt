-- Leading spaces don't count when names and addresses are compared. Assumes nothing.
use mathlib.Core.Path.{◌≡◌, refl, sym, ap, fun_ext, ◌∙◌}
use mathlib.Core.Bool.{Bool, true, false, true≢false}
use mathlib.Core.List.{List}
use Prim.Native.Nat.{ℕ}
use Rattle.std.specs.Prelude.{Option, Some, None}
use Rattle.octets.specs.Rows.{rows}
use Rattle.forms.specs.Field.{text_of}
use Rattle.records.specs.Book.{book_record_size, book_record, system_of, same_name, spaces_only, same_system_id}
use Rattle.records.proofs.SpaceLaws.{names, name-padding, name-plain, addresses, address_plain, address-front, address_kept}
use Rattle.records.proofs.NamedLaws.{first-not-spaces, second-not-spaces, named-system, named-alike, empty-named, empty-alone}
use Rattle.store.specs.Places.{lowest}
use Rattle.store.specs.Search.{named_place}
use Rattle.session.specs.State.{account_count}
use Rattle.wellformed.proofs.Alike.{query-alike, pair-alike, cancel-one-alike, cancel-all-alike, replace-alike}
use Rattle.properties.specs.Spaces.{Spaces}
use Rattle.properties.proofs.Named.{found-named}

none_named : (system kind book : List ℕ) → spaces_only system ≡ true → named_place system kind book ≡ None
none_named system kind book spaces = by (named_place system kind book) refl
  where
    by : (found : Option ℕ) → named_place system kind book ≡ found → found ≡ None
    by (Some a) e =
        absurd (true≢false (sym spaces ∙ second-not-spaces _ system (named-system system kind (book_record a book) (found-named system kind book a e))))
    by None e = refl

named-given : (system kind book : List ℕ) (a : ℕ) → named_place system kind book ≡ Some a → spaces_only (text_of (system_of (book_record a book))) ≡ false
named-given system kind book a e =
    first-not-spaces _ system (named-system system kind (book_record a book) (found-named system kind book a e))

account-alike : (system system' kind kind' book : List ℕ) → same_system_id system system' ≡ true → same_name kind kind' ≡ true
    → named_place system kind book ≡ named_place system' kind' book
account-alike system system' kind kind' book s k =
    ap (λ (p : List ℕ → Bool). lowest p (λ r. 0) (rows book_record_size account_count book)) (fun_ext (named-alike system system' kind kind' s k))

pub spaces : Spaces
spaces =
    record {
      compared = record {
        padding = name-padding;
        names = names;
        addresses = addresses;
        plain_names = name-plain;
        plain_addresses = address_plain;
        kept_addresses = λ ton npi ton' npi' text text' x y. address_kept ton npi ton' npi' text text' x.short y.short x.no_nul y.no_nul;
        ton_and_npi = address-front;
      };
      named = record { sent = none_named; in_book = named-given; empty = empty-named; empty_alone = empty-alone };
      finds = record {
        account = account-alike;
        query = query-alike;
        pair = λ source source' destination destination' part s d. pair-alike source source' s destination destination' d part;
        cancel_one = λ id source source' destination destination' stamp part s d given.
            cancel-one-alike source source' s destination destination' d given stamp part id;
        cancel_all = λ source source' destination destination' stamp part s d given.
            cancel-all-alike source source' s destination destination' d given stamp part;
        replace = λ source source' r body part s. replace-alike source source' s r body part;
      };
    }
