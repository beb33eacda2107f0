-- What a body comes to.
use Rattle.std.specs.Prelude.{◌≡◌, ℕ, Result, Ok, Err}
use Rattle.wire.specs.Status.{code}
use Rattle.wire.specs.declared.status.Status.{Status}

-- status 0 and the request; or the status that refuses the body, and behind the refused field every text and time is empty and every number 0
pub record Reading (A : Type 0) : Type 0 where
  pub status : ℕ
  pub request : A

-- what the code answers: the request, or the status that refuses the body
abbrev pub Reads : {A : Type 0} → Result A Status → Reading A → Type 0
Reads (Ok request) r = (r.status ≡ 0) × (r.request ≡ request)
Reads (Err status) r = r.status ≡ code status
