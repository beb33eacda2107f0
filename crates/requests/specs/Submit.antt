-- submit_sm: 002, 6.3.3.1. sm_length above 140, and both lengths, are judged where sm_length stands.
use Rattle.std.specs.Prelude.{ℕ, ◌≤◌, List}
use Rattle.forms.specs.declared.text.Form.TheVariants.{Ascii}
use Rattle.forms.specs.Text.{longest_text}
use Rattle.wire.specs.Status.{invalid_command_length, invalid_priority, invalid_registered, invalid_parameter, invalid_source, invalid_destination}
use Rattle.wire.specs.Cursor.{start, end_of}
use Rattle.wire.specs.Fields.{Inside, octet_at, text_at, address_at, time_at, short_at}
use Rattle.requests.specs.declared.submit.Submit.{Submit}
use Rattle.requests.specs.Reading.{Reading}

unfoldable pub submit_of : List ℕ → Reading Submit
submit_of body =
    let service = text_at Ascii 6 invalid_parameter body start in
    let source = address_at invalid_source body service.next in
    let destination = address_at invalid_destination body source.next in
    let esm = octet_at 255 invalid_command_length body destination.next in
    let protocol = octet_at 255 invalid_command_length body esm.next in
    let priority = octet_at 1 invalid_priority body protocol.next in
    let schedule = time_at body priority.next in
    let validity = time_at body schedule.next in
    let registered = octet_at 1 invalid_registered body validity.next in
    let replace = octet_at 1 invalid_parameter body registered.next in
    let coding = octet_at 255 invalid_command_length body replace.next in
    let default = octet_at 100 invalid_parameter body coding.next in
    let text = short_at default.value body default.next in
    record {
      status = end_of body text.next;
      request = record {
        service = service.value;
        source = source.value;
        destination = destination.value;
        esm = esm.value;
        protocol = protocol.value;
        priority = priority.value;
        schedule = schedule.value;
        validity = validity.value;
        registered = registered.value;
        replace = replace.value;
        coding = coding.value;
        default = default.value;
        text = text.value;
      };
    }

-- its texts lie in the body, and are no longer than the fields that hold them
pub record SubmitInside (s : Submit) (body : List ℕ) : Type 0 where
  pub service : Inside s.service body
  pub service_fits : s.service.len ≤ 5
  pub text : Inside s.text body
  pub text_fits : s.text.len ≤ longest_text
