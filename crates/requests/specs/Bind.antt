-- bind_receiver and bind_transmitter: 002, 6.3.1.1 and 6.3.1.3.
use Rattle.std.specs.Prelude.{ℕ, List}
use Rattle.forms.specs.declared.text.Form.TheVariants.{Ascii}
use Rattle.wire.specs.Status.{invalid_command_length, invalid_parameter}
use Rattle.wire.specs.Cursor.{start, end_of}
use Rattle.wire.specs.Fields.{Inside, octet_at, text_at}
use Rattle.requests.specs.declared.bind.Bind.{Bind}
use Rattle.requests.specs.Reading.{Reading}

unfoldable pub bind_of : List ℕ → Reading Bind
bind_of body =
    let system = text_at Ascii 16 invalid_parameter body start in
    let password = text_at Ascii 9 invalid_parameter body system.next in
    let kind = text_at Ascii 13 invalid_parameter body password.next in
    let version = octet_at 255 invalid_command_length body kind.next in
    let ton = octet_at 255 invalid_command_length body version.next in
    let npi = octet_at 255 invalid_command_length body ton.next in
    let range = text_at Ascii 41 invalid_parameter body npi.next in
    record {
      status = end_of body range.next;
      request = record {
        system = system.value;
        password = password.value;
        kind = kind.value;
        version = version.value;
        ton = ton.value;
        npi = npi.value;
        range = range.value;
      };
    }

-- its texts lie in the body
pub record BindInside (b : Bind) (body : List ℕ) : Type 0 where
  pub system : Inside b.system body
  pub password : Inside b.password body
  pub kind : Inside b.kind body
  pub range : Inside b.range body
