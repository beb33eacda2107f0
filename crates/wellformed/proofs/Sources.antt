-- The source of a request is well formed: an address that is given, or the callback of a well-formed book record. Assumes nothing.
use mathlib.Core.Path.{◌≡◌, refl, sym, ap, ◌∙◌}
use mathlib.Core.Bool.{Bool, true, false, not, ◌&&◌}
use mathlib.Core.List.{List, [], ◌∷◌, ◌++◌}
use Prim.Native.Nat.{ℕ, ◌-◌, ◌≤◌}
use native.Mathlib.Omega.{arith}
use lib.ListN.{length, take, drop, get_or, length-take}
use lib.Seq.{get_or-take, get_or-drop, take_all, take-suc, take-take, take-append-le, drop-append-le}
use lib.Dec.{eqb, eqb-suc-zero}
use borrow.Author.Tests.{eqb-true, ne_eqb}
use Rattle.octets.specs.Choice.{when◌then◌else◌}
use Rattle.octets.specs.Stretch.{part, every, is_zero, zeros}
use Rattle.octets.proofs.StretchLaws.{and_left, and_right, and_both, if-cases, if-false, part_length, part-part}
use Rattle.forms.specs.Class.{in_class, lead}
use Rattle.forms.specs.Text.{empty, given, given_all, after_spaces, formed}
use Rattle.forms.specs.Field.{text_of, is_field}
use Rattle.forms.specs.declared.class.Class.TheVariants.{NotNul, Decimal}
use Rattle.forms.specs.declared.text.Form.{Form}
use Rattle.forms.specs.declared.text.Form.TheVariants.{Ascii, Digits, Address, AddressOrNone}
use Rattle.forms.proofs.ClassLaws.{lead-within, within_low, lead-append}
use Rattle.records.specs.Record.{address_ok}
use Rattle.records.specs.Book.{book_record_size, system_of, password_of, system_type_of, callback_of, ended_text, book_ok, used_ok}
use Rattle.source.specs.Source.{no_address, source_for}
use Rattle.wellformed.specs.Rules.{Addressed}
use Rattle.wellformed.proofs.GoodIs.{both, or-second}

-- the two rules of a field
module _ (form : Form) (field : List ℕ) where
  IsField : Type 0
  IsField = (formed form (text_of field) ≡ true) × (zeros (drop (lead (in_class NotNul) field) field) ≡ true)

  field_is : is_field form field ≡ true → IsField
  unfolding is_field IsField
  field_is h = both _ _ h

  is_field_lem : IsField → is_field form field ≡ true
  unfolding is_field IsField
  is_field_lem h = and_both (formed form (text_of field)) _ h.0 h.1

-- ---- an address that is given

some-text : (field : List ℕ) → eqb (get_or field 0 0) 0 ≡ false → empty (text_of field) ≡ false
unfolding text_of lead when◌then◌else◌
some-text [] h = h
some-text (x ∷ xs) h = rw h (eqb-suc-zero (length (take (lead (in_class NotNul) xs) xs)))

pub given-address : (address : List ℕ) → is_field AddressOrNone (part 2 20 address) ≡ true → no_address address ≡ false → address_ok address ≡ true
unfolding formed IsField
given-address address h given =
    let field = part 2 20 address in
    let first : get_or field 0 0 ≡ get_or address 2 0 = get_or-take 20 (drop 2 address) 0 0 (omega arith) ∙ get_or-drop 2 address 0 0 in
    let f = field_is AddressOrNone field h in
    is_field_lem Address field (or-second (empty (text_of field)) _ (some-text field (ap (λ (x : ℕ). eqb x 0) first ∙ given)) f.0, f.1)

-- ---- the callback: digits are an address, and so they are without the zero behind them

every_append : (p : ℕ → Bool) (xs ys : List ℕ) → every p (xs ++ ys) ≡ true → every p xs ≡ true
unfolding every
every_append p [] ys h = refl
every_append p (x ∷ xs) ys h =
    let b = both (p x) _ h in
    and_both (p x) (every p xs) b.0 (every_append p xs ys b.1)

trimmed : (form : Form) (field : List ℕ) → is_field form (field ++ (0 ∷ [])) ≡ true → is_field form field ≡ true
unfolding IsField text_of lead when◌then◌else◌
trimmed form field h =
    let p = in_class NotNul in
    let n = lead p field in
    let e : lead p (field ++ (0 ∷ [])) ≡ n = lead-append p field (0 ∷ []) refl in
    let text : take n (field ++ (0 ∷ [])) ≡ take n field = take-append-le n field (0 ∷ []) (lead-within p field) in
    let behind : drop n (field ++ (0 ∷ [])) ≡ drop n field ++ (0 ∷ []) = drop-append-le n field (0 ∷ []) (lead-within p field) in
    let f = rw (e, text, behind) at (field_is form (field ++ (0 ∷ [])) h) in
    is_field_lem form field (f.0, every_append is_zero (drop n field) (0 ∷ []) f.1)

no-spaces : (text : List ℕ) → every (in_class Decimal) text ≡ true → after_spaces text ≡ text
unfolding after_spaces every lead
no-spaces [] h = refl
no-spaces (x ∷ xs) h =
    ap (λ (n : ℕ). drop n (x ∷ xs)) (if-false (eqb x 32) _ 0 (ne_eqb x 32 (λ e. absurd (omega (arith, within_low 48 57 x (and_left _ _ h))))))

digits-address : (field : List ℕ) → is_field Digits field ≡ true → is_field Address field ≡ true
unfolding formed IsField
digits-address field h =
    let f = field_is Digits field h in
    let b = both (given (text_of field)) _ f.0 in
    is_field_lem Address field (ap (given_all (in_class Decimal)) (no-spaces (text_of field) b.1) ∙ f.0, f.1)

book-digits : (book : List ℕ) → book_ok book ≡ true → ended_text Digits (part 40 21 book) ≡ true
unfolding book_ok
book-digits book h =
    let names = ended_text Ascii (system_of book) && ended_text Ascii (password_of book) && ended_text Ascii (system_type_of book) in
    let callback = ended_text Digits (part 40 21 book) in
    and_right names callback (and_left (names && callback) (zeros (part 61 3 book)) h)

module _ (book : List ℕ) (sized : length book ≡ book_record_size) where
  pub callback-length : length (callback_of book) ≡ 22
  callback-length = part_length 38 22 book (omega arith)

  pub callback-ok : used_ok book ≡ true → address_ok (callback_of book) ≡ true
  unfolding used_ok
  callback-ok h =
      let field = part 40 21 book in
      let whole : length field ≡ 21 = part_length 40 21 book (omega arith) in
      let digits = both (is_field Digits field) _ (book-digits book (and_right (not (zeros book)) (book_ok book) h)) in
      let last : get_or field 20 0 ≡ 0 = ap (λ (n : ℕ). get_or field (n - 1) 0) (sym whole) ∙ eqb-true _ 0 digits.1 in
      let split : field ≡ take 20 field ++ (0 ∷ []) =
      sym (take_all 21 field (omega arith)) ∙ take-suc field 20 0 (omega arith) ∙ ap (λ (x : ℕ). take 20 field ++ (x ∷ [])) last in
      ap (is_field Address) (part-part book 38 22 2 20 (omega arith) ∙ sym (take-take 20 21 (drop 40 book) (omega arith)))
      ∙ digits-address (take 20 field) (trimmed Digits (take 20 field) (ap (is_field Digits) (sym split) ∙ digits.0))

-- ---- the source

module _ (book source : List ℕ) where
  pub source-within : length source ≡ 22 → length (source_for book source) ≤ 22
  unfolding source_for
  source-within e = if-cases (λ (s : List ℕ). length s ≤ 22) _ _ _ (λ _. simp length-take (omega arith)) (λ _. omega arith)

  module _ (sized : length book ≡ book_record_size) (used : used_ok book ≡ true) (a : Addressed source) where
    pub source-length : length (source_for book source) ≡ 22
    unfolding source_for
    source-length = if-cases (λ (s : List ℕ). length s ≡ 22) _ _ _ (λ _. callback-length book sized) (λ _. a.size)

    pub source_ok : address_ok (source_for book source) ≡ true
    unfolding source_for
    source_ok = if-cases (λ (s : List ℕ). address_ok s ≡ true) _ _ _ (λ _. callback-ok book sized used) (given-address source a.number)
