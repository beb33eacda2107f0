-- unbind and enquire_link: 002, 6.3.2.1 and 6.3.9.1, no fields.
use Rattle.std.specs.Prelude.{ℕ, List}
use Rattle.wire.specs.Cursor.{start, end_of}

unfoldable pub plain_of : List ℕ → ℕ
plain_of body = end_of body start
