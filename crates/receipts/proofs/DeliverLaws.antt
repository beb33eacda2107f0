-- A deliver_sm's pieces, put into the space one after the other, are the deliver_sm; how long they are. Assumes nothing.
use mathlib.Core.Path.{◌≡◌, refl, sym}
use mathlib.Core.List.{List, [], ◌∷◌, ◌++◌}
use Prim.Native.Nat.{ℕ, ◌+◌, ◌≤◌}
use native.Mathlib.Omega.{arith}
use lib.ListN.{length, take, drop, length-append, length-take, length-drop}
use Rattle.octets.specs.Number.{hex8}
use Rattle.octets.specs.Stretch.{part, patch}
use Rattle.forms.specs.Field.{address_size, text_of}
use Rattle.records.specs.Layout.{source_of, destination_of, state_of, id_of}
use Rattle.answers.proofs.ReplyLaws.{reply-length}
use Rattle.changes.proofs.ChangeLaws.{pieces3, pieces4}
use Rattle.receipts.specs.DeliverSm.{deliver_id, terms, receipt_text, sent_address, deliver_body, DeliveriesFit}

part-within : (at n : ℕ) (xs : List ℕ) → length (part at n xs) ≤ n
part-within at n xs = simp length-take (omega arith)

receipt-length : (id state : ℕ) → length (receipt_text id state) ≡ 18
unfolding receipt_text hex8
receipt-length id state = refl

sent-within : (address : List ℕ) → length address ≤ address_size → length (sent_address address) ≤ 23
unfolding sent_address text_of
sent-within address h = simp (length-append, length-take, length-drop) (omega arith)

-- an address as it is sent, in three pieces: ton and npi, the text, NUL
module _ (address front text : List ℕ) (size : length address ≡ address_size) (f : front ≡ take 2 address) (t : text ≡ text_of (drop 2 address)) where
  pub front-size : length front ≡ 2
  front-size = rw f (simp length-take (omega arith))

  pub text-size : length text ≤ 20
  unfolding text_of
  text-size = rw t (simp (length-take, length-drop) (omega arith))

  pub sent-size : (at : ℕ) → at + 2 + length text + 1 ≡ at + length (sent_address address)
  unfolding sent_address
  sent-size at = rw (← f, ← t, length-append front (text ++ (0 ∷ [])), length-append text (0 ∷ []), front-size) (omega arith)

  pub sent_pieces : (xs : List ℕ) (at : ℕ) → patch (patch (patch xs at front) (at + 2) text) (at + 2 + length text) (0 ∷ []) ≡ patch xs at (sent_address address)
  unfolding sent_address
  sent_pieces xs at = rw (← f, ← t) (pieces3 xs at (at + 2) (at + 2 + length text) front text (0 ∷ []) (rw front-size) refl)

-- the text, with what stands in front of it, in four pieces
pub text-pieces : (xs : List ℕ) (at id state : ℕ)
    → patch (patch (patch (patch xs at (terms ++ (105 ∷ 100 ∷ 58 ∷ []))) (at + 13) (hex8 id)) (at + 21) (32 ∷ 115 ∷ 116 ∷ 97 ∷ 116 ∷ 58 ∷ [])) (at + 27) ((48 + state) ∷ [])
    ≡ patch xs at (terms ++ receipt_text id state)
unfolding receipt_text hex8
text-pieces xs at id state = pieces4 xs at (at + 13) (at + 21) (at + 27) _ (hex8 id) _ ((48 + state) ∷ []) refl (omega arith) (omega arith)

module _ (r : List ℕ) where
  pub destination-within : length (sent_address (destination_of r)) ≤ 23
  destination-within = sent-within (destination_of r) (part-within 27 22 r)

  pub source-within : length (sent_address (source_of r)) ≤ 23
  source-within = sent-within (source_of r) (part-within 5 22 r)

  pub body-length : length (deliver_body r) ≡ 29 + length (sent_address (destination_of r)) + length (sent_address (source_of r))
  unfolding deliver_body
  body-length = simp (length-append, receipt-length) (omega arith)

  -- service_type, the source, the destination, and the rest
  pub body-pieces : (xs : List ℕ) (n m : ℕ) → n ≡ 17 + length (sent_address (destination_of r)) → m ≡ n + length (sent_address (source_of r))
      → patch (patch (patch (patch xs 16 (0 ∷ [])) 17 (sent_address (destination_of r))) n (sent_address (source_of r))) m (terms ++ receipt_text (id_of r) (state_of r)) ≡ patch xs 16 (deliver_body r)
  unfolding deliver_body
  body-pieces xs n m e f = pieces4 xs 16 17 n m (0 ∷ []) (sent_address (destination_of r)) (sent_address (source_of r)) _ refl (sym e) (sym f)

pub deliveries-fit : DeliveriesFit
deliveries-fit sequence r = omega (arith, reply-length deliver_id 0 sequence (deliver_body r), body-length r, destination-within r, source-within r)
