-- A reply with a status other than 0 leaves every stored message and every last id as they were. Assumes nothing.
use Prim.Native.Nat.{ℕ}
use mathlib.Core.Path.{◌≡◌, refl}
use mathlib.Core.Bool.{true}
use mathlib.Core.List.{List}
use Rattle.octets.specs.Number.{onto, octets4}
use Rattle.answers.specs.Reply.{header, reply, over}
use Rattle.records.specs.Book.{book_record}
use Rattle.session.specs.declared.Entry.{Entry}
use Rattle.session.specs.declared.Entry.TheVariants.{Closed, Open, Transmitter, Receiver, Ended}
use Rattle.isolation.specs.Platform.{World, Own, own_of, become, on, Effect, Ran, conclude, step}
use Rattle.answers.specs.Answer.{Octets, taking, Answer, replied_to}
use Rattle.open.specs.Open.{on_open}
use Rattle.bound.specs.Bound.{Turn, is_transmitter}
use Rattle.centre.specs.Centre.{centre, on_octets, act}
use Rattle.wellformed.proofs.Refused.{submitted-refused, cancelled-refused, replaced-refused}
use Rattle.properties.specs.Property1.{written_of, status_of}
use Rattle.properties.proofs.Back.{SameStored, stored_back}
use Rattle.properties.proofs.BoundCases.{bound-cases}
use Rattle.properties.proofs.OnCases.{on-cases}

-- a status 0 stands in the reply as 0
status-zero : (n id status sequence : ℕ) (body space : List ℕ) → status ≡ 0 → status_of (replied_to n id status sequence body space) ≡ 0
unfolding over reply header octets4 onto
status-zero n id status sequence body space z = rw z

module _ (w : World) where
  become-stored : (s : ℕ) (e : Entry) → SameStored w (become w s e)
  become-stored s Closed = (refl, refl)
  become-stored s Open = (refl, refl)
  become-stored s (Transmitter a) = (refl, refl)
  become-stored s (Receiver a) = (refl, refl)
  become-stored s Ended = (refl, refl)

  module _ (book : List ℕ) (s : ℕ) (x : Octets) where
    abbrev Kept : Ran Answer → Type 0
    Kept r = (written_of r.answer ≡ 0 → ⊥) → (status_of r.answer ≡ 0 → ⊥) → SameStored w r.world

    kept-octets : (entry : List ℕ) (e : Entry) (a : ℕ) → Kept (conclude centre w s a (on_octets (is_transmitter e) entry s x (own_of w a)))
    kept-octets entry e a =
        let own = own_of w a in
        bound-cases entry s x own (λ (r : Effect Own Answer). Kept (conclude centre w s a r))
        -- a turn with a status leaves the account as it was
        (λ (t : Turn). (t.status ≡ 0 → ⊥) → (t.stored.part ≡ own.part) × (t.stored.last ≡ own.last)) (is_transmitter e)
        (λ _ none _. absurd (none refl))
        (λ _. record {
          same = λ _ _ _ _ _. (refl, refl);
          submits = λ body. submitted-refused entry body own.part own.last;
          cancels = λ body ne. (cancelled-refused own.part entry x.stamp body ne, refl);
          replaces = λ body ne. (replaced-refused own.part entry body ne, refl);
        })
        (λ _. record {
          more = λ none _. absurd (none refl);
          nak = λ _ _. stored_back w s a true own.part own.last refl refl;
          quiet = λ _ _ none _. absurd (none refl);
          replies = λ n id sequence t q _ ne.
              let kept = q (λ z. ne (status-zero n id t.status sequence t.body x.space z)) in
              stored_back w s a t.ends t.stored.part t.stored.last kept.0 kept.1;
        })

    pub kept_step_lem : Kept (step centre book w (on s (taking x)))
    unfolding act
    kept_step_lem =
        on-cases book w s (taking x) Kept
        (record {
          refused = λ _ _ none _. absurd (none refl);
          front = λ _ _ _ _. become-stored s (on_open book x).after;
          asked = λ _ a e _. kept-octets (book_record a book) e a;
        })
