-- A session that is closed or has ended gets number 6, whatever is asked on it. Assumes nothing.
use mathlib.Core.Path.{◌≡◌}
use mathlib.Core.Logic.{◌⊎◌, inl, inr}
use mathlib.Core.List.{List}
use Prim.Native.Nat.{ℕ}
use Rattle.session.specs.declared.Entry.{Entry}
use Rattle.session.specs.declared.Entry.TheVariants.{Closed, Ended}
use Rattle.isolation.specs.Platform.{World, on_entry, unchanged}
use Rattle.answers.specs.Answer.{Call, refused_call}
use Rattle.centre.specs.Centre.{centre}

pub unfit : (book : List ℕ) (w : World) (s : ℕ) (x : Call) (e : Entry) → (e ≡ Closed) ⊎ (e ≡ Ended) → unchanged centre w (refused_call 6 x) ≡ on_entry centre book w s x e
unfit book w s x e (inl h) = rw h
unfit book w s x e (inr h) = rw h
