-- The pieces of a record, put one after the other, are the record. Assumes nothing.
use mathlib.Core.Path.{◌≡◌, sym, ap, ◌∙◌}
use mathlib.Core.List.{List, [], ◌∷◌, ◌++◌, append_assoc, append-nil}
use Prim.Native.Nat.{ℕ, ◌+◌, ◌≤◌}
use native.Mathlib.Omega.{arith}
use native.Mathlib.Nat.{add_assoc}
use lib.ListN.{length, replicate, length-append}
use Rattle.octets.specs.Stretch.{patch, padded}
use Rattle.octets.proofs.PatchLaws.{patch-next, padded-length, patch-zeros, padded-put, padded-padded}
use Rattle.changes.specs.Change.{head, terms, message}
use Rattle.changes.specs.declared.Fields.{Fields}

-- two, three and four pieces, each at the end of the one before
pub pieces2 : (xs : List ℕ) (at n : ℕ) (a b : List ℕ) → at + length a ≡ n → patch (patch xs at a) n b ≡ patch xs at (a ++ b)
pieces2 xs at n a b e = rw (← e) (patch-next xs at a b)

pub pieces3 : (xs : List ℕ) (at n m : ℕ) (a b c : List ℕ) → at + length a ≡ n → n + length b ≡ m → patch (patch (patch xs at a) n b) m c ≡ patch xs at (a ++ (b ++ c))
pieces3 xs at n m a b c e f =
    rw (← f, ← e, add_assoc at (length a) (length b), ← (length-append a b), patch-next xs at a b, patch-next xs at (a ++ b) c, append_assoc a b c)

pub pieces4 : (xs : List ℕ) (at n m l : ℕ) (a b c d : List ℕ) → at + length a ≡ n → n + length b ≡ m → m + length c ≡ l
    → patch (patch (patch (patch xs at a) n b) m c) l d ≡ patch xs at (a ++ (b ++ (c ++ d)))
pieces4 xs at n m l a b c d e f g =
    let joined : at + length (a ++ (b ++ c)) ≡ l = rw (length-append a (b ++ c), length-append b c) (omega arith) in
    ap (λ (ys : List ℕ). patch ys l d) (pieces3 xs at n m a b c e f)
    ∙ (rw (← joined) (patch-next xs at (a ++ (b ++ c)) d) ∙ ap (patch xs at) (append_assoc a (b ++ c) d ∙ ap (λ (ys : List ℕ). a ++ ys) (append_assoc b c d)))

-- head, terms and message put into zeros
pub assembled : (id : ℕ) (f : Fields) (service text before behind : List ℕ)
    → length (head id f.source f.destination service) ≡ 49 + length service → length service ≤ 5
    → length (terms before f.schedule f.validity) ≡ 35 → length behind ≡ 3 → length text ≤ 140
    → patch (patch (patch (replicate 256 0) 0 (head id f.source f.destination service)) 54 (terms before f.schedule f.validity)) 89 (message behind text)
    ≡ padded 54 (head id f.source f.destination service) ++ (terms before f.schedule f.validity ++ padded 167 (message behind text))
assembled id f service text before behind hl hs tl bl ht =
    let h = head id f.source f.destination service in
    let t = terms before f.schedule f.validity in
    let m = message behind text in
    let p = padded 54 h in
    let ml : length m ≡ 4 + length text = rw (length-append behind (length text ∷ text)) (omega arith) in
    let pl : length p ≡ 54 = padded-length 54 h (omega arith) in
    let ptl : length (p ++ t) ≡ 89 = rw (length-append p t) (omega arith) in
    let one : patch (replicate 256 0) 0 h ≡ padded 256 p = patch-zeros 256 h (omega arith) ∙ sym (padded-padded 256 54 [] h (omega arith) (omega arith)) in
    let two : patch (padded 256 p) 54 t ≡ padded 256 (p ++ t) = padded-put 256 54 p t pl (omega arith) in
    let three : patch (padded 256 (p ++ t)) 89 m ≡ padded 256 ((p ++ t) ++ padded 167 m) =
    padded-put 256 89 (p ++ t) m ptl (omega arith) ∙ sym (padded-padded 256 167 (p ++ t) m (omega arith) (omega arith)) in
    let whole : length ((p ++ t) ++ padded 167 m) ≡ 256 = rw (length-append (p ++ t) (padded 167 m), padded-length 167 m (omega arith)) (omega arith) in
    rw (one, two, three, whole) (append-nil ((p ++ t) ++ padded 167 m) ∙ append_assoc p t (padded 167 m))
