-- The sixteen places of an account, as a list of records, and the lowest of those that pass a test.
use Rattle.std.specs.Prelude.{ℕ, zero, suc, ◌≡◌, ◌+◌, ◌*◌, ◌<◌, Bool, true, ◌&&◌, List, [], ◌∷◌, ltb, length, Option, Some, None}
use Rattle.std.specs.Borrow.{Bor}
use Rattle.octets.specs.Choice.{when◌then◌else◌}
use Rattle.octets.specs.Stretch.{part, patch}
use Rattle.octets.specs.Lent.{Lent, lent_part}
use Rattle.octets.specs.Rows.{rows}
use Rattle.records.specs.Layout.{record_size, places}
use Rattle.store.specs.declared.places.Best.{Best}

abbrev pub records : List ℕ → List (List ℕ)
records xs = rows record_size places xs

-- the record at place k
abbrev pub record_at : ℕ → List ℕ → List ℕ
record_at k xs = part (record_size * k) record_size xs

-- the 256-octet record itself as part of the account's part, from octet 256k on
abbrev pub record_part : ℕ → Lent → Lent
record_part k s = lent_part (record_size * k) record_size s

-- a place that is found is one of the first n; one of the sixteen
abbrev pub Below : ℕ → Option ℕ → Type 0
Below n (Some k) = k < n
Below n None = Unit

abbrev pub OnePlace : Option ℕ → Type 0
OnePlace found = Below places found

-- what is done with a place, or where there is none
abbrev pub on_found : {A : Type 0} → Option ℕ → (ℕ → A) → A → A
on_found (Some k) here nowhere = here k
on_found None here nowhere = nowhere

-- all of them in order, with the place of each, the first being at k
unfoldable pub over : {A B : Type 0} → (B → ℕ → A → B) → B → ℕ → List A → B
over f b k [] = b
over f b k (x ∷ xs) = over f (f b k x) (k + 1) xs

abbrev pub none : Option Best
none = None

-- a rank below that of the best so far, or the first
abbrev pub beats : ℕ → Option Best → Bool
beats n (Some b) = ltb n b.rank
beats n None = true

-- the record at k takes the place of the best so far if it passes and ranks lower
unfoldable pub keep : (List ℕ → Bool) → (List ℕ → ℕ) → Option Best → ℕ → List ℕ → Option Best
keep passes rank b k r = when passes r && beats (rank r) b then Some (record { rank = rank r; place = k }) else b

abbrev pub found_of : Option Best → Option ℕ
found_of (Some b) = Some b.place
found_of None = None

-- of the records that pass, the place of the one that ranks lowest, the first of equals
unfoldable pub lowest : (List ℕ → Bool) → (List ℕ → ℕ) → List (List ℕ) → Option ℕ
lowest passes rank rs = found_of (over (keep passes rank) none 0 rs)

-- a test that is passed as code tells of each record of this size what f does
abbrev pub Tells : {A : Type 0} → ℕ → (Bor (List ℕ) → A → Type 0) → (List ℕ → A) → Type 0
Tells size told f = (r : Bor (List ℕ)) (a : _) → length r.now ≡ size → told r a → a ≡ f r.now

-- ---- changes: the part with the record at place k replaced by f of it, and the same at each of n places from k on

abbrev pub on_place : (List ℕ → List ℕ) → ℕ → List ℕ → List ℕ
on_place f k xs = patch xs (record_size * k) (f (record_at k xs))

unfoldable pub on_places : (List ℕ → List ℕ) → ℕ → ℕ → List ℕ → List ℕ
on_places f zero k xs = xs
on_places f (suc n) k xs = on_places f n (k + 1) (on_place f k xs)
