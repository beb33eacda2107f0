-- replace_sm: 002, 6.3.8.1. sm_length above 140, and both lengths, are judged where sm_length stands.
use Rattle.std.specs.Prelude.{ℕ, ◌≤◌, List}
use Rattle.forms.specs.Text.{longest_text}
use Rattle.wire.specs.Status.{invalid_registered, invalid_parameter, invalid_source}
use Rattle.wire.specs.Cursor.{start, end_of}
use Rattle.wire.specs.Fields.{Inside, octet_at, address_at, id_at, time_at, short_at}
use Rattle.requests.specs.declared.replace.Replace.{Replace}
use Rattle.requests.specs.Reading.{Reading}

unfoldable pub replace_of : List ℕ → Reading Replace
replace_of body =
    let id = id_at body start in
    let source = address_at invalid_source body id.next in
    let schedule = time_at body source.next in
    let validity = time_at body schedule.next in
    let registered = octet_at 1 invalid_registered body validity.next in
    let default = octet_at 100 invalid_parameter body registered.next in
    let text = short_at default.value body default.next in
    record {
      status = end_of body text.next;
      request = record {
        id = id.value;
        source = source.value;
        schedule = schedule.value;
        validity = validity.value;
        registered = registered.value;
        default = default.value;
        text = text.value;
      };
    }

-- its text lies in the body, and is no longer than the field that holds it
pub record ReplaceInside (r : Replace) (body : List ℕ) : Type 0 where
  pub text : Inside r.text body
  pub text_fits : r.text.len ≤ longest_text
