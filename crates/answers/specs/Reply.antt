-- The replies (document 01, "From octets to a response"; 002, 6.2 and 6.3): a header, and a body where the reply has one.
use Rattle.std.specs.Prelude.{ℕ, ◌+◌, List, [], ◌∷◌, ◌++◌, length, drop, None, Option, Some}
use Rattle.octets.specs.Number.{octets4, hex8}
use Rattle.wire.specs.Command.{response_to}

-- command_length, command_id, command_status, sequence_number
unfoldable pub header : ℕ → ℕ → ℕ → ℕ → List ℕ
header size id status sequence = octets4 size ++ (octets4 id ++ (octets4 status ++ octets4 sequence))

unfoldable pub reply : ℕ → ℕ → ℕ → List ℕ → List ℕ
reply id status sequence body = header (16 + length body) id status sequence ++ body

-- generic_nak answers what has no request's id or length; the two replies that only one request has
abbrev pub generic_nak : ℕ
generic_nak = 0x80000000

abbrev pub submit_response : ℕ
submit_response = response_to 4

abbrev pub query_response : ℕ
query_response = response_to 3

-- the longest reply: a query's, 16 + 9 + 17 + 2
abbrev pub space_needed : ℕ
space_needed = 44

-- ---- bodies

-- unbind, cancel, replace, enquire_link, generic_nak: none
abbrev pub no_body : List ℕ
no_body = []

-- the text "SMSC33" and NUL, also when refused
abbrev pub bind_body : List ℕ
bind_body = 83 ∷ 77 ∷ 83 ∷ 67 ∷ 51 ∷ 51 ∷ 0 ∷ []

-- the id as 8 upper-case hex digits and NUL, or one NUL
unfoldable pub id_text : Option ℕ → List ℕ
id_text None = 0 ∷ []
id_text (Some n) = hex8 n ++ (0 ∷ [])

abbrev pub submit_body : Option ℕ → List ℕ
submit_body id = id_text id

-- the id likewise, final date and NUL or one NUL, wire state, error code
unfoldable pub query_body : Option ℕ → List ℕ → ℕ → ℕ → List ℕ
query_body id date state error = id_text id ++ (date ++ (0 ∷ state ∷ error ∷ []))

-- of a refused query four zero octets: no id, no date, and zeros
abbrev pub no_query : List ℕ
no_query = query_body None [] 0 0

-- ---- what a reply leaves: how many octets it has, and the space with them at its front, the rest unchanged

pub record Written : Type 0 where
  pub count : ℕ
  pub space : List ℕ

abbrev pub wrote : ℕ → List ℕ → Written
wrote count space = record { count = count; space = space }

unfoldable pub over : List ℕ → List ℕ → Written
over octets space = record { count = length octets; space = octets ++ drop (length octets) space }
