-- The books, the stamp and the requests of the examples.
use Rattle.std.specs.Prelude.{ℕ, ◌+◌, List, [], ◌∷◌, ◌++◌, length, replicate}
use Rattle.octets.specs.Number.{octets4}
use Rattle.octets.specs.Stretch.{padded}
use Rattle.isolation.specs.Platform.{Step, on}
use Rattle.answers.specs.Reply.{space_needed}
use Rattle.answers.specs.Answer.{Call, taking, Question}

-- numbers of four octets: of the requests alone, what is to come of them stands octet by octet
abbrev pub words : List ℕ → List ℕ
words [] = []
words (n ∷ ns) = octets4 n ++ words ns

-- a text and its NUL
abbrev pub ended : List ℕ → List ℕ
ended text = text ++ (0 ∷ [])

-- ---- texts

-- "paging", "secret", "VMA"
abbrev pub paging : List ℕ
paging = 112 ∷ 97 ∷ 103 ∷ 105 ∷ 110 ∷ 103 ∷ []

abbrev pub secret : List ℕ
secret = 115 ∷ 101 ∷ 99 ∷ 114 ∷ 101 ∷ 116 ∷ []

abbrev pub vma : List ℕ
vma = 86 ∷ 77 ∷ 65 ∷ []

-- "plant", "other"
abbrev pub plant : List ℕ
plant = 112 ∷ 108 ∷ 97 ∷ 110 ∷ 116 ∷ []

abbrev pub other : List ℕ
other = 111 ∷ 116 ∷ 104 ∷ 101 ∷ 114 ∷ []

-- "100", "447700900123"
abbrev pub office : List ℕ
office = 49 ∷ 48 ∷ 48 ∷ []

abbrev pub mobile : List ℕ
mobile = 52 ∷ 52 ∷ 55 ∷ 55 ∷ 48 ∷ 48 ∷ 57 ∷ 48 ∷ 48 ∷ 49 ∷ 50 ∷ 51 ∷ []

-- "hello"
abbrev pub hello : List ℕ
hello = 104 ∷ 101 ∷ 108 ∷ 108 ∷ 111 ∷ []

-- "960701120000000+"
abbrev pub stamp : List ℕ
stamp = 57 ∷ 54 ∷ 48 ∷ 55 ∷ 48 ∷ 49 ∷ 49 ∷ 50 ∷ 48 ∷ 48 ∷ 48 ∷ 48 ∷ 48 ∷ 48 ∷ 48 ∷ 43 ∷ []

-- ---- books: one of zeros, and one of two accounts, 0 and 1, their callback "100" with ton 1 and npi 1

abbrev pub no_accounts : List ℕ
no_accounts = replicate 512 0

abbrev pub entry_with : List ℕ → List ℕ → List ℕ → List ℕ → List ℕ
entry_with system password kind callback =
    padded 16 system ++ (padded 9 password ++ (padded 13 kind ++ (1 ∷ 1 ∷ (padded 21 callback ++ replicate 3 0))))

abbrev pub entry : List ℕ → List ℕ → List ℕ → List ℕ
entry system password kind = entry_with system password kind office

abbrev pub two_accounts : List ℕ
two_accounts = entry paging secret vma ++ (entry plant other [] ++ replicate 384 0)

-- ---- requests

-- a header with a status of 0, and a body behind it
abbrev pub pdu : ℕ → ℕ → List ℕ → List ℕ
pdu command sequence body = words ((16 + length body) ∷ command ∷ 0 ∷ sequence ∷ []) ++ body

-- interface_version 0x33, addr_ton, addr_npi and address_range not given
abbrev pub bind : List ℕ → List ℕ → List ℕ → List ℕ
bind system password kind = ended system ++ (ended password ++ (ended kind ++ (0x33 ∷ 0 ∷ 0 ∷ 0 ∷ [])))

-- ton 1, npi 1, then the number and its NUL; and none of the three
abbrev pub address : List ℕ → List ℕ
address number = 1 ∷ 1 ∷ ended number

abbrev pub empty_address : List ℕ
empty_address = 0 ∷ 0 ∷ 0 ∷ []

-- source, destination, priority, replace flag and default id, the other fields not given; the last holds sm_length and the text
abbrev pub submission_with : List ℕ → List ℕ → ℕ → ℕ → ℕ → List ℕ → List ℕ
submission_with source destination priority replace default text =
    0 ∷ (source ++ (destination ++ (0 ∷ 0 ∷ priority ∷ 0 ∷ 0 ∷ 0 ∷ replace ∷ 0 ∷ default ∷ text)))

-- "hello" to 447700900123, nothing else given
abbrev pub submission : List ℕ
submission = submission_with empty_address (address mobile) 0 0 0 (5 ∷ hello)

-- the id "1", no source
abbrev pub query : List ℕ
query = 49 ∷ 0 ∷ 0 ∷ 0 ∷ 0 ∷ []

-- ---- steps

-- as much response space as is needed, each octet 0xEE, so that what is written shows
abbrev pub space : List ℕ
space = replicate space_needed 0xEE

abbrev pub sends : ℕ → List ℕ → Step Call Question
sends session given = on session (taking (record { octets = given; stamp = stamp; space = space }))
