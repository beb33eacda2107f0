-- An account stays well formed where each record follows from the one in its place, and where a record with a new id takes a place. Assumes nothing.
use mathlib.Core.Path.{◌≡◌, refl, sym, ap, ◌∙◌}
use mathlib.Core.Bool.{Bool, true, false}
use mathlib.Core.List.{List}
use Prim.Native.Nat.{ℕ, ◌+◌, ◌≤◌, ◌<◌}
use native.Mathlib.Omega.{arith}
use lib.ListN.{length}
use lib.Dec.{ltb, eqb}
use borrow.Author.Tests.{ltb-true, ltb-false, eqb-true, eqb-false, ne_eqb}
use Rattle.records.specs.Layout.{record_size, places, part_size, state_of, id_of}
use Rattle.records.specs.Record.{record_ok}
use Rattle.store.specs.Places.{record_at, on_place}
use Rattle.store.specs.Search.{is_empty, waiting}
use Rattle.wellformed.specs.Good.{Good, Clash, GoodPart}
use Rattle.wellformed.proofs.GoodIs.{good-record, record-good, record-later}
use Rattle.wellformed.proofs.PlacesKept.{on_place-here, on_place-other}

-- ---- one record

-- well formed, non-empty where the other is, with the same id
pub record Follows (last : ℕ) (r r' : List ℕ) : Type 0 where
  pub ok : record_ok last r' ≡ true
  pub is_empty' : is_empty r' ≡ is_empty r
  pub id : id_of r' ≡ id_of r

pub follows_same : (last : ℕ) (r r' : List ℕ) → r' ≡ r → record_ok last r ≡ true → Follows last r r'
follows_same last r r' e h = record { ok = ap (record_ok last) e ∙ h; is_empty' = ap is_empty e; id = ap id_of e }

good-given : (last : ℕ) (r : List ℕ) → Good last r → is_empty r ≡ false
good-given last r g = ne_eqb (state_of r) 0 (λ e. absurd (omega (arith, g.end.state_low)))

pub follows-good : (last : ℕ) (r r' : List ℕ) → Good last r → Good last r' → id_of r' ≡ id_of r → Follows last r r'
follows-good last r r' g g' e = record { ok = good-record last r' g'; is_empty' = good-given last r' g' ∙ sym (good-given last r g); id = e }

pub waiting-good : (last : ℕ) (r : List ℕ) → record_ok last r ≡ true → waiting r ≡ true → Good last r
waiting-good last r h w = let s = eqb-true (state_of r) 1 w in record-good last r h (λ e. absurd (omega arith))

-- ---- an account

module _ (last : ℕ) (part : List ℕ) (g : GoodPart last part) where
  -- its ids are at most the last one
  pub id-within : (k : ℕ) → k < places → is_empty (record_at k part) ≡ false → id_of (record_at k part) ≤ last
  id-within k h given = (record-good last (record_at k part) (g.each k h) (eqb-false _ 0 given)).id_high

  -- records that share an id share their place
  pub one_place : (i j : ℕ) → i < places → j < places → Clash (record_at i part) (record_at j part) → i ≡ j
  one_place i j h h' c = by (ltb i j) (ltb j i) refl refl
    where
      by : (s t : Bool) → ltb i j ≡ s → ltb j i ≡ t → i ≡ j
      by true t e e' = absurd (g.apart i j (ltb-true i j e) h' c)
      by false true e e' = absurd (g.apart j i (ltb-true j i e') h (c.1, c.0, sym c.2))
      by false false e e' = omega (arith, ltb-false i j e, ltb-false j i e')

  pub each-follows : (part' : List ℕ) → ((k : ℕ) → k < places → Follows last (record_at k part) (record_at k part')) → GoodPart last part'
  each-follows part' f =
      record {
        each = λ k h. (f k h).ok;
        apart = λ i j below inside c.
            let a = f i (omega arith) in
            let b = f j inside in
            g.apart i j below inside (sym a.is_empty' ∙ c.0, sym b.is_empty' ∙ c.1, sym a.id ∙ c.2 ∙ b.id);
      }

  module _ (f : List ℕ → List ℕ) (k : ℕ) (whole : length part ≡ part_size) (h : k < places) (size : length (f (record_at k part)) ≡ record_size) where
    part' : List ℕ
    part' = on_place f k part

    here : (j : ℕ) → eqb j k ≡ true → record_at j part' ≡ f (record_at k part)
    unfolding part'
    here j e = rw (eqb-true j k e) (on_place-here f k part whole h size)

    other : (j : ℕ) → eqb j k ≡ false → record_at j part' ≡ record_at j part
    unfolding part'
    other j e = on_place-other f k part j (eqb-false j k e) (omega arith)

    pub one_follows : Follows last (record_at k part) (f (record_at k part)) → GoodPart last (on_place f k part)
    unfolding part'
    one_follows follows = each-follows part' (λ j inside. by j inside (eqb j k) refl)
      where
        by : (j : ℕ) → j < places → (t : Bool) → eqb j k ≡ t → Follows last (record_at j part) (record_at j part')
        by j inside true e = rw (here j e, eqb-true j k e) follows
        by j inside false e = follows_same last (record_at j part) (record_at j part') (other j e) (g.each j inside)

    pub one-new : Good (last + 1) (f (record_at k part)) → id_of (f (record_at k part)) ≡ last + 1 → GoodPart (last + 1) (on_place f k part)
    unfolding part'
    one-new new id = record { each = λ j inside. okay j inside (eqb j k) refl; apart = λ i j below inside. by i j below inside (eqb i k) (eqb j k) refl refl }
      where
        okay : (j : ℕ) → j < places → (t : Bool) → eqb j k ≡ t → record_ok (last + 1) (record_at j part') ≡ true
        okay j inside true e = rw (here j e) (good-record (last + 1) (f (record_at k part)) new)
        okay j inside false e = rw (other j e) (record-later last (last + 1) (record_at j part) (omega arith) (g.each j inside))

        -- no record in its place has the new id
        apart-new : (j : ℕ) → j < places → Clash (record_at j part) (f (record_at k part)) → ⊥
        apart-new j inside c = omega (arith, id-within j inside c.0, c.2)

        by : (i j : ℕ) → i < j → j < places → (s t : Bool) → eqb i k ≡ s → eqb j k ≡ t → Clash (record_at i part') (record_at j part') → ⊥
        by i j below inside true true e e' c = omega (arith, eqb-true i k e, eqb-true j k e')
        by i j below inside true false e e' c = let c' = rw (here i e, other j e') at c in apart-new j inside (c'.1, c'.0, sym c'.2)
        by i j below inside false true e e' c = apart-new i (omega arith) (rw (other i e, here j e') at c)
        by i j below inside false false e e' c = g.apart i j below inside (rw (other i e, other j e') at c)
