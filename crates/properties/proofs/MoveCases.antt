-- Opening and closing, by cases: what holds of each refusal and of the session opened or closed holds of the step. Assumes nothing.
use mathlib.Core.Path.{◌≡◌, refl}
use mathlib.Core.List.{List}
use Prim.Native.Nat.{ℕ, ◌<◌}
use lib.Dec.{leb}
use borrow.Author.Tests.{leb-false}
use Rattle.octets.proofs.StretchLaws.{if-cases}
use Rattle.session.specs.State.{session_count, entry_at, opened, opened_from, closed}
use Rattle.session.specs.declared.Entry.{Entry}
use Rattle.session.specs.declared.Entry.TheVariants.{Closed, Open, Transmitter, Receiver, Ended}
use Rattle.session.specs.State.{Moved}
use Rattle.isolation.specs.Platform.{World, put_entry, opens, closes, Ran, unchanged, move, step}
use Rattle.answers.specs.Answer.{Answer, numbered}
use Rattle.centre.specs.Centre.{centre}

module _ (book : List ℕ) (w : World) (s : ℕ) (P : Ran Answer → Type 0) where
  -- the session has entry e, and number 0 is given
  abbrev Puts : Entry → Type 0
  Puts e = P (record { answer = numbered 0; world = put_entry w s e })

  abbrev Refuses : ℕ → Type 0
  Refuses n = P (unchanged centre w (numbered n))

  from-cases : (e : Entry) → entry_at w.state s ≡ e → Refuses 6 → (entry_at w.state s ≡ Closed → Puts Open)
      → P (move centre w (opened_from w.state s e))
  from-cases Closed h unfit done = done h
  from-cases Open h unfit done = unfit
  from-cases (Transmitter a) h unfit done = unfit
  from-cases (Receiver a) h unfit done = unfit
  from-cases Ended h unfit done = unfit

  pub opens-cases : Refuses 2 → Refuses 6 → (s < session_count → entry_at w.state s ≡ Closed → Puts Open) → P (step centre book w (opens s))
  unfolding step opened
  opens-cases above unfit done =
      if-cases (λ (r : Moved). P (move centre w r)) (leb session_count s) _ _ (λ _. above)
      (λ t. from-cases (entry_at w.state s) refl unfit (done (leb-false session_count s t)))

  pub closes-cases : Refuses 2 → (s < session_count → Puts Closed) → P (step centre book w (closes s))
  unfolding step closed
  closes-cases above done = if-cases (λ (r : Moved). P (move centre w r)) (leb session_count s) _ _ (λ _. above) (λ t. done (leb-false session_count s t))
