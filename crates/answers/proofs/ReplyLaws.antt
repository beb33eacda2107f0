-- A reply's pieces, put into the space one after the other, are the reply. Assumes nothing.
use Rattle.std.specs.Prelude.{None, Option, Some}
use mathlib.Core.Path.{◌≡◌, refl, sym, ap, ◌∙◌}
use mathlib.Core.List.{List, [], ◌++◌, append_assoc}
use Prim.Native.Nat.{ℕ, ◌+◌, ◌≤◌}
use native.Mathlib.Omega.{arith}
use native.Mathlib.Nat.{add_assoc}
use lib.ListN.{length, length-append}
use Rattle.octets.specs.Stretch.{patch}
use Rattle.octets.specs.Number.{octets4, hex8}
use Rattle.octets.proofs.PatchLaws.{patch-next, patch-behind, patch-front, patch-nothing}
use Rattle.answers.specs.Reply.{header, reply, id_text, query_body, wrote, over}

pub header-length : (size id status sequence : ℕ) → length (header size id status sequence) ≡ 16
unfolding header octets4
header-length size id status sequence = refl

pub reply-length : (id status sequence : ℕ) (body : List ℕ) → length (reply id status sequence body) ≡ 16 + length body
unfolding reply
reply-length id status sequence body =
    length-append (header (16 + length body) id status sequence) body ∙ ap (λ (n : ℕ). n + length body) (header-length (16 + length body) id status sequence)

-- three pieces, one behind the other
pub three-pieces : (xs : List ℕ) (at : ℕ) (a b c : List ℕ)
    → patch (patch (patch xs at a) (at + length a) b) (at + length a + length b) c ≡ patch xs at (a ++ (b ++ c))
three-pieces xs at a b c =
    rw (add_assoc at (length a) (length b), ← (length-append a b), patch-next xs at a b, patch-next xs at (a ++ b) c, append_assoc a b c)

-- the four numbers of a header
pub header-pieces : (xs : List ℕ) (size id status sequence : ℕ)
    → patch (patch (patch (patch xs 0 (octets4 size)) 4 (octets4 id)) 8 (octets4 status)) 12 (octets4 sequence) ≡ patch xs 0 (header size id status sequence)
unfolding header octets4
header-pieces xs size id status sequence =
    ap (λ (l : List ℕ). patch l 12 (octets4 sequence)) (three-pieces xs 0 (octets4 size) (octets4 id) (octets4 status))
    ∙ patch-next xs 0 (octets4 size ++ (octets4 id ++ octets4 status)) (octets4 sequence)

-- a body put at 16, and then the header before it
joined : (id status sequence : ℕ) (body space : List ℕ)
    → patch (patch space 16 body) 0 (header (16 + length body) id status sequence) ≡ patch space 0 (reply id status sequence body)
unfolding reply
joined id status sequence body space =
    let h = header (16 + length body) id status sequence in
    ap (λ (n : ℕ). patch (patch space n body) 0 h) (sym (header-length (16 + length body) id status sequence)) ∙ patch-behind space h body

pub replied : (size id status sequence : ℕ) (body space : List ℕ) → size ≡ 16 + length body → 16 + length body ≤ length space
    → wrote size (patch (patch space 16 body) 0 (header size id status sequence)) ≡ over (reply id status sequence body) space
unfolding over
replied size id status sequence body space e h =
    let n = reply-length id status sequence body in
    let fits : length (reply id status sequence body) ≤ length space = omega arith in
    rw (e, joined id status sequence body space, patch-front space (reply id status sequence body) fits, n)

-- no body
pub replied-bare : (id status sequence : ℕ) (space : List ℕ) → 16 ≤ length space
    → wrote 16 (patch space 0 (header 16 id status sequence)) ≡ over (reply id status sequence []) space
replied-bare id status sequence space h =
    ap (λ (l : List ℕ). wrote 16 (patch l 0 (header 16 id status sequence))) (sym (patch-nothing space 16))
    ∙ replied 16 id status sequence [] space refl h

pub id_text-within : (id : Option ℕ) → length (id_text id) ≤ 9
unfolding id_text hex8
id_text-within None = omega arith
id_text-within (Some n) = omega arith

pub query_body-length : (id : Option ℕ) (date : List ℕ) (state error : ℕ) → length (query_body id date state error) ≡ length (id_text id) + length date + 3
unfolding query_body
query_body-length id date state error = simp length-append (omega arith)
