-- query_sm: 002, 6.3.6.2.
use Rattle.std.specs.Prelude.{ℕ, List}
use Rattle.wire.specs.Status.{invalid_source}
use Rattle.wire.specs.Cursor.{start, end_of}
use Rattle.wire.specs.Fields.{address_at, id_at}
use Rattle.requests.specs.declared.query.Query.{Query}
use Rattle.requests.specs.Reading.{Reading}

unfoldable pub query_of : List ℕ → Reading Query
query_of body =
    let id = id_at body start in
    let source = address_at invalid_source body id.next in
    record {
      status = end_of body source.next;
      request = record { id = id.value; source = source.value };
    }
