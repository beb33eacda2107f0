-- From a fresh platform, what is outstanding for an account is owed, and on one session only. Assumes nothing.
use Prim.Native.Nat.{ℕ, zero, suc, ◌<◌}
use mathlib.Core.Path.{◌≡◌, sym, ap, ◌∙◌}
use mathlib.Core.Bool.{Bool, true, false, not}
use mathlib.Core.List.{List, [], ◌∷◌, map}
use lib.Dec.{eqb}
use lib.ListN.{get_or, set, replicate}
use borrow.Author.Tests.{eqb-false, not-true}
use Rattle.std.specs.Prelude.{Option, None}
use Rattle.octets.specs.Choice.{when◌then◌else◌}
use Rattle.octets.specs.Stretch.{among}
use Rattle.octets.proofs.StretchLaws.{and_left, and_right, or_left, or_right}
use Rattle.records.specs.Layout.{places, id_of}
use Rattle.records.specs.Record.{marked}
use Rattle.store.specs.Search.{owed}
use Rattle.session.specs.State.{session_count, account_count, closed_session, receipt_for, receipts_of, held_id, held_ids, outstanding}
use Rattle.session.specs.declared.Receipt.{Receipt}
use Rattle.isolation.specs.Platform.{World, fresh, part_of, Step, on, step}
use Rattle.isolation.specs.History.{after}
use Rattle.answers.specs.Answer.{Call, taking, delivering, Question}
use Rattle.centre.specs.Centre.{centre}
use Rattle.properties.specs.NoneLost.{record_in, OutstandingOn, OwedFor}
use Rattle.properties.proofs.Fewer.{Fewer, none≢outstanding, set_cases, none-fewer}
use Rattle.properties.proofs.Dealt.{Stands, StandsBut, Dealt, keeps, acknowledges, sends}
use Rattle.properties.proofs.MarksKept.{dealt}

-- an id that is none of those outstanding is outstanding nowhere
not-among : (id : ℕ) (rs : List (Option Receipt)) → among id (map held_id rs) ≡ false → (t sequence : ℕ) → get_or rs t None ≡ outstanding id sequence → ⊥
not-among id [] h t sequence e = none≢outstanding id sequence e
not-among id (r ∷ rs) h zero sequence e = eqb-false id (held_id r) (or_left (eqb id (held_id r)) (among id (map held_id rs)) h) (sym (ap held_id e))
not-among id (r ∷ rs) h (suc t) sequence e = not-among id rs (or_right (eqb id (held_id r)) (among id (map held_id rs)) h) t sequence e

module _ (a : ℕ) where
  -- what is outstanding is owed, and on one session only
  pub record Sound (w : World) : Type 0 where
    pub owed : (s id sequence : ℕ) → OutstandingOn w a s id sequence → OwedFor w a id
    pub once : (s t id sequence other : ℕ) → OutstandingOn w a s id sequence → OutstandingOn w a t id other → s ≡ t

  module _ (w v : World) (sound : Sound w) where
    -- a record that stands is owed still
    still-owed : (id : ℕ) (o : OwedFor w a id) → record_in v a o.place ≡ record_in w a o.place → OwedFor v a id
    still-owed id o e = record { place = o.place; below = o.below; owed = ap marked e ∙ o.owed; named = ap id_of e ∙ o.named }

    stands-owed : Stands (part_of a w.table) (part_of a v.table) → (id : ℕ) → OwedFor w a id → OwedFor v a id
    stands-owed kept id o = still-owed id o (kept.marks o.place o.below o.owed)

    abbrev before : List (Option Receipt)
    before = receipts_of w.state a

    abbrev later : List (Option Receipt)
    later = receipts_of v.state a

    once-fewer : Fewer later before → (s t id sequence other : ℕ) → OutstandingOn v a s id sequence → OutstandingOn v a t id other → s ≡ t
    once-fewer fewer s t id sequence other e f = sound.once s t id sequence other (fewer s id sequence e) (fewer t id other f)

    -- ---- after a step of each kind

    keeps-sound : Stands (part_of a w.table) (part_of a v.table) → Fewer later before → Sound v
    keeps-sound kept fewer =
        record {
          owed = λ s id sequence e. stands-owed kept id (sound.owed s id sequence (fewer s id sequence e));
          once = once-fewer fewer;
        }

    -- the id acknowledged was outstanding on that session only, so the record of every id that still is stands
    acknowledges-sound : (s id sequence : ℕ) → OutstandingOn w a s id sequence → StandsBut id (part_of a w.table) (part_of a v.table)
        → Fewer later (set before s None) → Sound v
    acknowledges-sound s id sequence e kept fewer =
        record {
          owed = λ t i q f.
              set_cases i q before s None t (fewer t i q f) (λ _ none. absurd (none≢outstanding i q none))
              λ other was. let o = sound.owed t i q was in
              still-owed i o (kept.others o.place λ same. other (sound.once t s id q sequence (rw (sym o.named ∙ same) at was) e));
          once = once-fewer (λ t i q f. none-fewer before s t i q (fewer t i q f));
        }

    -- the id sent was outstanding nowhere
    module _ (s k sequence : ℕ) (inside : k < places) (fit : owed (held_ids w.state a) (record_in w a k) ≡ true) where
      abbrev id : ℕ
      id = id_of (record_in w a k)

      abbrev held : Bool
      held = among id (held_ids w.state a)

      is-owed : marked (record_in w a k) ≡ true
      is-owed = and_left (marked (record_in w a k)) (not held) fit

      nowhere : (t i q : ℕ) → id ≡ i → OutstandingOn w a t i q → ⊥
      nowhere t i q same e = not-among id before (not-true held (and_right (marked (record_in w a k)) (not held) fit)) t q (rw (sym same) at e)

      sends-sound : Stands (part_of a w.table) (part_of a v.table) → Fewer later (set before s (outstanding id sequence)) → Sound v
      sends-sound kept fewer =
          record {
            owed = λ t i q e.
                set_cases i q before s (outstanding id sequence) t (fewer t i q e)
                (λ _ sent. stands-owed kept i (record { place = k; below = inside; owed = is-owed; named = ap held_id sent }))
                (λ _ was. stands-owed kept i (sound.owed t i q was));
            once = λ t u i q r e f.
                set_cases i q before s (outstanding id sequence) t (fewer t i q e)
                (λ here sent. set_cases i r before s (outstanding id sequence) u (fewer u i r f)
                (λ there _. here ∙ sym there)
                (λ _ was. absurd (nowhere u i r (ap held_id sent) was)))
                (λ _ was. set_cases i r before s (outstanding id sequence) u (fewer u i r f)
                (λ _ sent. absurd (nowhere t i q (ap held_id sent) was))
                (λ _ also. sound.once t u i q r was also));
          }

    sound-dealt : (st : Step Call Question) → Dealt w a st (part_of a v.table) later → Sound v
    sound-dealt st (keeps kept fewer) = keeps-sound kept fewer
    sound-dealt (on s (taking x)) (acknowledges id ack kept fewer) = acknowledges-sound s id _ ack.outstanding kept fewer
    sound-dealt (on s (delivering y)) (sends k inside fit kept fewer) = sends-sound s k y.sequence inside fit kept fewer

  -- ---- histories

  -- on closed sessions nothing is outstanding
  closed_none : (n s id sequence : ℕ) → get_or (map (receipt_for a) (replicate n closed_session)) s None ≡ outstanding id sequence → ⊥
  unfolding when◌then◌else◌
  closed_none zero s id sequence e = none≢outstanding id sequence e
  closed_none (suc n) zero id sequence e = none≢outstanding id sequence e
  closed_none (suc n) (suc s) id sequence e = closed_none n s id sequence e

  module _ (book : List ℕ) (below : a < account_count) where
    sound-after : (hs : List (Step Call Question)) (w : World) → Sound w → Sound (after centre book w hs)
    sound-after [] w sound = sound
    sound-after (st ∷ hs) w sound = let v = (step centre book w st).world in sound-after hs v (sound-dealt w v sound st (dealt book w a below st))

    pub sound-history : (hs : List (Step Call Question)) → Sound (after centre book fresh hs)
    unfolding fresh
    sound-history hs =
        sound-after hs fresh (record {
          owed = λ s id sequence e. absurd (closed_none session_count s id sequence e);
          once = λ s t id sequence other e f. absurd (closed_none session_count s id sequence e);
        })
