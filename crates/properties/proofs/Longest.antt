-- No reply is longer than 44 octets, and no receipt than 91. Assumes nothing.
use mathlib.Core.List.{List}
use Prim.Native.Nat.{ℕ, ◌≤◌}
use native.Mathlib.Omega.{arith}
use Rattle.answers.specs.Reply.{space_needed, over}
use Rattle.answers.specs.Answer.{Octets, Delivery, taking, delivering, Answer, replied_to}
use Rattle.answers.proofs.ReplyLaws.{reply-length}
use Rattle.records.specs.Book.{book_record}
use Rattle.store.specs.Places.{record_at}
use Rattle.session.specs.State.{receiver_of}
use Rattle.isolation.specs.Platform.{World, part_of, Own, own_of, on, Effect, Front, Ran, step}
use Rattle.receipts.specs.DeliverSm.{longest_delivery}
use Rattle.receipts.proofs.DeliverLaws.{deliveries-fit}
use Rattle.bound.specs.Bound.{Turn, is_transmitter}
use Rattle.centre.specs.Centre.{centre, act}
use Rattle.properties.specs.Property1.{written_of}
use Rattle.properties.specs.Longest.{Longest}
use Rattle.properties.proofs.Bodies.{Brief, id-brief}
use Rattle.properties.proofs.OpenCases.{open-cases}
use Rattle.properties.proofs.BoundCases.{bound-cases}
use Rattle.properties.proofs.DeliveryCases.{delivery-cases}
use Rattle.properties.proofs.OnCases.{on-cases}

-- ---- replies: 16 octets and a body of at most 28

abbrev Short : Answer → Type 0
Short answer = written_of answer ≤ space_needed

short-reply : (n id status sequence : ℕ) (body space : List ℕ) → Brief body → Short (replied_to n id status sequence body space)
unfolding over
short-reply n id status sequence body space h = omega (arith, reply-length id status sequence body)

replies : (book : List ℕ) (w : World) (s : ℕ) (x : Octets) → Short (step centre book w (on s (taking x))).answer
unfolding act
replies book w s x =
    on-cases book w s (taking x) (λ (r : Ran Answer). Short r.answer)
    (record {
      refused = λ _ _. omega arith;
      front = λ _ _.
          open-cases book x (λ (f : Front Answer). Short f.answer)
          (record {
            more = omega arith;
            nak = short-reply 4 _ _ 0 _ x.space (omega arith);
            quiet = λ _. omega arith;
            replies = λ n id status sequence body brief. short-reply n id status sequence body x.space brief;
            binds = λ n id sequence _ _. short-reply n id _ sequence _ x.space (omega arith);
          });
      asked = λ _ a e _.
          bound-cases (book_record a book) s x (own_of w a) (λ (r : Effect Own Answer). Short r.answer) (λ (t : Turn). Brief t.body) (is_transmitter e)
          (λ _. omega arith)
          (λ _. record { same = λ _ _ _ brief. brief; submits = λ _. id-brief _; cancels = λ _. omega arith; replaces = λ _. omega arith })
          (λ _. record {
            more = omega arith;
            nak = short-reply 4 _ _ 0 _ x.space (omega arith);
            quiet = λ _ _. omega arith;
            replies = λ n id sequence t brief. short-reply n id t.status sequence t.body x.space brief;
          });
    })

-- ---- receipts

receipts : (book : List ℕ) (w : World) (s : ℕ) (y : Delivery) → written_of (step centre book w (on s (delivering y))).answer ≤ longest_delivery
unfolding act over
receipts book w s y =
    on-cases book w s (delivering y) (λ (r : Ran Answer). written_of r.answer ≤ longest_delivery)
    (record {
      refused = λ _ _. omega arith;
      front = λ _ _. omega arith;
      asked = λ _ a e _.
          delivery-cases (receiver_of a e) (book_record a book) s y (own_of w a) (λ (r : Effect Own Answer). written_of r.answer ≤ longest_delivery)
          (record { ill = λ _. omega arith; unfit = λ _. omega arith; nothing = λ _. omega arith; sends = λ _ _ _ k _. deliveries-fit y.sequence (record_at k (part_of a w.table)) });
    })

pub longest : Longest
longest = record { replies = replies; receipts = receipts }
