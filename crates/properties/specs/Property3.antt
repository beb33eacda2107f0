-- Isolation (the third property), of this centre: written out for the machine of crate centre.
use Rattle.isolation.specs.Isolation.{Alone, Isolated}
use Rattle.centre.specs.Centre.{centre}

-- Of two histories from a fresh platform with one account book, strike out every step that doesn't concern account A. If the remaining steps have
-- the same arguments, A's answers, response octets, stored records, last id and outstanding receipts are equal (`Isolated`), and are those of the
-- remaining steps run alone, each session closed and opened afresh before a step that binds it (`Alone`).
pub record Property3 : Type 0 where
  pub equal : Isolated centre
  pub alone : Alone centre
