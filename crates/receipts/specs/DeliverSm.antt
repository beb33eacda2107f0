-- A receipt as the centre writes it: one deliver_sm (document 02, 1), whose parameters are those of submit_sm (002, 6.3.5.1 and Table 6-4).
use Rattle.std.specs.Prelude.{ℕ, ◌+◌, ◌≤◌, List, [], ◌∷◌, ◌++◌, length, take, drop}
use Rattle.octets.specs.Number.{hex8}
use Rattle.forms.specs.Field.{text_of}
use Rattle.records.specs.Layout.{state_of, id_of, source_of, destination_of}
use Rattle.answers.specs.Reply.{reply}

abbrev pub deliver_id : ℕ
deliver_id = 5

-- the text: "id:", the 8 digits, " stat:", the record's state digit
unfoldable pub receipt_text : ℕ → ℕ → List ℕ
receipt_text id state = (105 ∷ 100 ∷ 58 ∷ []) ++ (hex8 id ++ (32 ∷ 115 ∷ 116 ∷ 97 ∷ 116 ∷ 58 ∷ (48 + state) ∷ []))

-- a stored address as it is sent: ton, npi, the text and NUL
unfoldable pub sent_address : List ℕ → List ℕ
sent_address address = take 2 address ++ (text_of (drop 2 address) ++ (0 ∷ []))

-- esm_class marks a receipt: 002 gives no value, so 4; protocol id, priority, schedule time, validity time, registered flag, replace flag, data
-- coding and default message id are 0 or NUL; sm_length
abbrev pub terms : List ℕ
terms = 4 ∷ 0 ∷ 0 ∷ 0 ∷ 0 ∷ 0 ∷ 0 ∷ 0 ∷ 0 ∷ 18 ∷ []

-- service_type is NUL; source and destination are the record's, exchanged
unfoldable pub deliver_body : List ℕ → List ℕ
deliver_body r =
    (0 ∷ []) ++ (sent_address (destination_of r) ++ (sent_address (source_of r) ++ (terms ++ receipt_text (id_of r) (state_of r))))

-- with the caller's sequence
abbrev pub deliver_sm : ℕ → List ℕ → List ℕ
deliver_sm sequence r = reply deliver_id 0 sequence (deliver_body r)

-- the longest: 16 + 1 + 23 + 23 + 10 + 18
abbrev pub longest_delivery : ℕ
longest_delivery = 91

-- no deliver_sm is longer
abbrev pub DeliveriesFit : Type 0
DeliveriesFit = (sequence : ℕ) (r : List ℕ) → length (deliver_sm sequence r) ≤ longest_delivery
