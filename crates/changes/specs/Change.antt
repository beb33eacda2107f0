-- What is written into records (document 01, "Effects"; document 02, 1).
use Rattle.std.specs.Prelude.{ℕ, List, [], ◌∷◌, ◌++◌, length}
use Rattle.octets.specs.Choice.{when◌then◌else◌}
use Rattle.octets.specs.Stretch.{patch, padded, zeros}
use Rattle.octets.specs.Number.{octets4}
use Rattle.forms.specs.Text.{longest_text}
use Rattle.records.specs.Layout.{state_at, schedule_at, validity_at, registered_at, default_at, date_at, mark_at, registered_of}
use Rattle.changes.specs.declared.Fields.{Fields}
use Rattle.changes.specs.declared.Correction.{Correction}

-- a new record's octets as the layout has them: 0-53 (as far as service_type goes), 54-88, 89-232 (as far as the text goes)
abbrev pub head : ℕ → List ℕ → List ℕ → List ℕ → List ℕ
head id source destination service = (1 ∷ octets4 id) ++ (source ++ (destination ++ service))

abbrev pub terms : List ℕ → List ℕ → List ℕ → List ℕ
terms flags schedule validity = flags ++ (schedule ++ validity)

abbrev pub message : List ℕ → List ℕ → List ℕ
message flags text = flags ++ (length text ∷ text)

-- a new record, waiting, every field written afresh
unfoldable pub new_record : ℕ → Fields → List ℕ → List ℕ → List ℕ
new_record id f service text =
    padded 54 (head id f.source f.destination service)
    ++ (terms (f.esm ∷ f.protocol ∷ f.priority ∷ []) f.schedule f.validity
    ++ padded 167 (message (f.registered ∷ f.coding ∷ f.default ∷ []) text))

-- a final state, its date, its error code, and the mark: 1 where the record is registered, and so its flag
unfoldable pub finished : ℕ → ℕ → List ℕ → List ℕ → List ℕ
finished state error stamp r = patch (patch r state_at (state ∷ [])) date_at (stamp ++ (error ∷ registered_of r ∷ []))

-- its receipt is acknowledged, and no longer owed
unfoldable pub unmarked : List ℕ → List ℕ
unmarked r = patch r mark_at (0 ∷ [])

-- a new text, length and default id
unfoldable pub retexted : ℕ → List ℕ → List ℕ → List ℕ
retexted default text r = patch r default_at (default ∷ length text ∷ padded longest_text text)

-- a time that is given takes the place of the stored one
abbrev pub retimed : ℕ → List ℕ → List ℕ → List ℕ
retimed at time r = when zeros time then r else patch r at time

-- non-empty times replace the stored ones; flag, default id, length and text always do
unfoldable pub corrected : Correction → List ℕ → List ℕ → List ℕ
corrected c text r =
    retexted c.default text (patch (retimed validity_at c.validity (retimed schedule_at c.schedule r)) registered_at (c.registered ∷ []))
