-- cancel_sm: 002, 6.3.7.1.
use Rattle.std.specs.Prelude.{ℕ, List}
use Rattle.forms.specs.declared.text.Form.TheVariants.{Ascii}
use Rattle.wire.specs.Status.{invalid_parameter, invalid_source, invalid_destination}
use Rattle.wire.specs.Cursor.{start, end_of}
use Rattle.wire.specs.Fields.{text_at, address_at, id_at}
use Rattle.requests.specs.declared.cancel.Cancel.{Cancel}
use Rattle.requests.specs.Reading.{Reading}

unfoldable pub cancel_of : List ℕ → Reading Cancel
cancel_of body =
    let service = text_at Ascii 6 invalid_parameter body start in
    let id = id_at body service.next in
    let source = address_at invalid_source body id.next in
    let destination = address_at invalid_destination body source.next in
    record {
      status = end_of body destination.next;
      request = record {
        service = service.value;
        id = id.value;
        source = source.value;
        destination = destination.value;
      };
    }
