-- Every definition that the centre's `step` is made of, so that an example opens them all by one name.
use Rattle.octets.specs.Choice.{when◌then◌else◌}
use Rattle.octets.specs.Number.{onto, octets4, hex_digit, hex8}
use Rattle.octets.specs.Rows.{rows}
use Rattle.octets.specs.Stretch.{patch, same, every}
use Rattle.forms.specs.Class.{lead}
use Rattle.forms.specs.Field.{text_of, is_field}
use Rattle.forms.specs.Text.{after_spaces, formed, nibble, message_id}
use Rattle.forms.specs.Time.{two_digits, is_time, sent_time, stored_time}
use Rattle.wire.specs.Cursor.{not_both, end_of}
use Rattle.wire.specs.Fields.{octet_at, text_at, address_at, id_at, time_at, span_at, short_at}
use Rattle.wire.specs.Command.{command_of}
use Rattle.wire.specs.Frame.{frame_of, header_of}
use Rattle.answers.specs.Reply.{header, reply, id_text, query_body, over}
use Rattle.requests.specs.Bind.{bind_of}
use Rattle.requests.specs.Submit.{submit_of}
use Rattle.requests.specs.Query.{query_of}
use Rattle.requests.specs.Cancel.{cancel_of}
use Rattle.requests.specs.Replace.{replace_of}
use Rattle.requests.specs.Plain.{plain_of}
use Rattle.store.specs.Account.{apart, places_ok, account_ok}
use Rattle.records.specs.Book.{book_ok, used_ok, same_name, same_system_id, same_address, named, password_is}
use Rattle.changes.specs.Change.{new_record, finished, unmarked, retexted, corrected}
use Rattle.store.specs.Places as Places
use Rattle.store.specs.Places.{keep, lowest, on_places}
use Rattle.records.specs.Record.{text_ok, fields_ok, end_ok, mark_ok, message_ok, record_ok}
use Rattle.store.specs.Search.{or_else}
use Rattle.source.specs.Source.{source_for, known}
use Rattle.submit.specs.Submit.{added, stored, submitted}
use Rattle.account.specs.Query.{looked_up, queried}
use Rattle.account.specs.Cancel.{cancellable, cancelled_one, deleted_if, cancelled_all, cancelled}
use Rattle.account.specs.Replace.{replaced_in, replaced}
use Rattle.account.specs.Outcome.{reported}
use Rattle.session.specs.State.{granting, opened, closed}
use Rattle.receipts.specs.DeliverSm.{receipt_text, sent_address, deliver_body}
use Rattle.receipts.specs.Offer.{sent, offered}
use Rattle.receipts.specs.Settle.{acknowledged, settled}
use Rattle.isolation.specs.Platform.{fresh, step}
use Rattle.open.specs.Open.{bind_to, open_bind, on_open}
use Rattle.bound.specs.Bound.{submit_turn, query_turn, cancel_turn, replace_turn, unbind_turn, replying, settled_by, on_bound}
use Rattle.centre.specs.Operations.{noted, picked_from}
use Rattle.centre.specs.Centre.{octets_early, delivery_early, outcome_early, pick_early, on_octets, on_delivery, act}

unfoldable pub computed : Unit {0}
unfolding when◌then◌else◌ onto octets4 hex_digit hex8 rows patch same every lead text_of is_field after_spaces formed nibble message_id two_digits is_time sent_time stored_time not_both end_of octet_at text_at address_at id_at time_at span_at short_at frame_of command_of header_of header reply id_text query_body over bind_of submit_of query_of cancel_of replace_of plain_of apart places_ok account_ok book_ok used_ok same_name same_system_id same_address named password_is new_record finished unmarked retexted corrected Places.over keep lowest on_places text_ok fields_ok end_ok mark_ok message_ok record_ok or_else source_for known added stored submitted looked_up queried cancellable cancelled_one deleted_if cancelled_all cancelled replaced_in replaced reported granting opened closed receipt_text sent_address deliver_body sent offered acknowledged settled fresh step bind_to open_bind on_open submit_turn query_turn cancel_turn replace_turn unbind_turn replying settled_by on_bound noted picked_from octets_early delivery_early outcome_early pick_early on_octets on_delivery act
computed = tt
