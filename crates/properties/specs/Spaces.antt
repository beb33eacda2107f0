-- Leading spaces don't count when system_id, system_type and addresses are compared (document 02, 2): what the comparisons of crate records come to, and
-- that whoever writes a name or an address with other leading spaces finds the same account and the same messages.
use Rattle.std.specs.Prelude.{ℕ, ◌≤◌, ◌≡◌, true, false, ◌&&◌, List, [], ◌∷◌, ◌++◌, length, take, drop, replicate, eqb, Option, Some, None}
use Rattle.octets.specs.Stretch.{padded, same, every}
use Rattle.octets.specs.Equivalence.{Equivalence}
use Rattle.forms.specs.Class.{in_class, lead}
use Rattle.forms.specs.Field.{text_of}
use Rattle.forms.specs.declared.class.Class.TheVariants.{NotNul, Space}
use Rattle.wire.specs.declared.fields.Address.{Address}
use Rattle.requests.specs.declared.replace.Replace.{Replace}
use Rattle.records.specs.Book.{book_record, system_of, system_type_of, used_ok, same_name, spaces_only, same_system_id, same_address, named}
use Rattle.store.specs.Search.{pair_place, named_place}
use Rattle.source.specs.Source.{no_address, source_for}
use Rattle.account.specs.Query.{looked_up}
use Rattle.account.specs.Cancel.{cancelled_one, cancelled_all}
use Rattle.account.specs.Replace.{replaced_in}

-- ---- the words

-- a text that begins with no space
abbrev pub Plain : List ℕ → Type 0
Plain text = lead (in_class Space) text ≡ 0

-- an address as it is kept: ton, npi, and a text of at most 20 characters, zeros behind it
abbrev pub kept : ℕ → ℕ → List ℕ → List ℕ
kept ton npi text = ton ∷ npi ∷ padded 20 text

-- a text that an address can have: at most 20 characters, none of them NUL
pub record AddressText (text : List ℕ) : Type 0 where
  pub short : length text ≤ 20
  pub no_nul : every (in_class NotNul) text ≡ true

-- ---- what is said of them

pub record Compared : Type 0 where
  -- however many spaces stand in front of a name, it is the same
  pub padding : (n : ℕ) (name : List ℕ) → same_name (replicate n 32 ++ name) name ≡ true
  pub names : Equivalence same_name
  pub addresses : Equivalence same_address
  -- without leading spaces they are equality, octet for octet
  pub plain_names : (a b : List ℕ) → Plain a → Plain b → same_name a b ≡ same a b
  pub plain_addresses : (a b : List ℕ) → Plain (drop 2 a) → Plain (drop 2 b) → same_address a b ≡ same a b
  -- of addresses as they are kept: ton and npi equal, and the texts equal but for leading spaces
  pub kept_addresses : (ton npi ton' npi' : ℕ) (text text' : List ℕ) → AddressText text → AddressText text'
      → same_address (kept ton npi text) (kept ton' npi' text') ≡ (eqb ton ton' && eqb npi npi' && same_name text text')
  -- so ton and npi still count, of whatever octets
  pub ton_and_npi : (a b : List ℕ) → same_address a b ≡ true → take 2 a ≡ take 2 b

pub record Named : Type 0 where
  -- a system_id of spaces only names no account, whether it is sent
  pub sent : (system kind book : List ℕ) → spaces_only system ≡ true → named_place system kind book ≡ None
  -- or in the book
  pub in_book : (system kind book : List ℕ) (a : ℕ) → named_place system kind book ≡ Some a → spaces_only (text_of (system_of (book_record a book))) ≡ false
  -- an empty one still names a record with an empty one, and no other
  pub empty : (kind b : List ℕ) → used_ok b ≡ true → text_of (system_of b) ≡ [] → same_name (text_of (system_type_of b)) kind ≡ true → named [] kind b ≡ true
  pub empty_alone : (kind b : List ℕ) → named [] kind b ≡ true → text_of (system_of b) ≡ []

pub record Finds : Type 0 where
  -- a bind: the same account
  pub account : (system system' kind kind' book : List ℕ) → same_system_id system system' ≡ true → same_name kind kind' ≡ true
      → named_place system kind book ≡ named_place system' kind' book
  -- a query: the same message
  pub query : (book part : List ℕ) (id : Option ℕ) (s s' : Address) → same_address (source_for book s.octets) (source_for book s'.octets) ≡ true
      → looked_up book (record { id = id; source = s }) part ≡ looked_up book (record { id = id; source = s' }) part
  -- a submission with the replace flag: the same message
  pub pair : (source source' destination destination' part : List ℕ) → same_address source source' ≡ true → same_address destination destination' ≡ true
      → pair_place source destination part ≡ pair_place source' destination' part
  -- a cancel, of one or of all, and a replacement: the same effect. An empty destination isn't compared, so both are given or both are empty
  pub cancel_one : (id : ℕ) (source source' destination destination' stamp part : List ℕ) → same_address source source' ≡ true
      → same_address destination destination' ≡ true → no_address destination ≡ no_address destination'
      → cancelled_one id source destination stamp part ≡ cancelled_one id source' destination' stamp part
  pub cancel_all : (source source' destination destination' stamp part : List ℕ) → same_address source source' ≡ true
      → same_address destination destination' ≡ true → no_address destination ≡ no_address destination'
      → cancelled_all source destination stamp part ≡ cancelled_all source' destination' stamp part
  pub replace : (source source' : List ℕ) (r : Replace) (body part : List ℕ) → same_address source source' ≡ true
      → replaced_in source r body part ≡ replaced_in source' r body part

pub record Spaces : Type 0 where
  pub compared : Compared
  pub named : Named
  pub finds : Finds
