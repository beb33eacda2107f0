-- Two answers of a reader of a body that one contract allows are equal. Assumes nothing.
use mathlib.Core.Path.{◌≡◌, sym, ap, ◌∙◌}
use Rattle.std.specs.Prelude.{Result, Ok, Err}
use Rattle.wire.specs.declared.status.Status.{Status}
use Rattle.wire.proofs.StatusLaws.{code-one}
use Rattle.wire.proofs.OneAnswer.{not_accepted}
use Rattle.requests.specs.Reading.{Reading, Reads}

pub one-reading : {A : Type 0} (r q : Result A Status) (x : Reading A) → Reads r x → Reads q x → r ≡ q
one-reading (Ok a) (Ok b) x h k = ap Ok (sym h.1 ∙ k.1)
one-reading (Ok a) (Err e) x h k = absurd (not_accepted e (sym k ∙ h.0))
one-reading (Err d) (Ok b) x h k = absurd (not_accepted d (sym h ∙ k.0))
one-reading (Err d) (Err e) x h k = ap Err (code-one d e (sym h ∙ k))
