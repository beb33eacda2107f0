-- Values of a response's command_status: 002's 7.1 names them in this order, document 01 gives the numbers.
use Rattle.std.specs.Prelude.{ℕ, Result, Ok, Err}
use Rattle.wire.specs.declared.status.Status.{Status}
use Rattle.wire.specs.declared.status.Status.TheVariants.{InvalidMessageLength, InvalidCommandLength, InvalidCommandId, InvalidBindStatus, AlreadyBound, InvalidPriority, InvalidRegistered, SystemError, InvalidParameter, InvalidSource, InvalidDestination, InvalidMessageId, InvalidPassword, CannotCancel, CannotReplace, QueueFull}

abbrev pub invalid_message_length : ℕ
invalid_message_length = 1

abbrev pub invalid_command_length : ℕ
invalid_command_length = 2

abbrev pub invalid_command_id : ℕ
invalid_command_id = 3

abbrev pub invalid_bind_status : ℕ
invalid_bind_status = 4

abbrev pub already_bound : ℕ
already_bound = 5

abbrev pub invalid_priority : ℕ
invalid_priority = 6

abbrev pub invalid_registered : ℕ
invalid_registered = 7

abbrev pub system_error : ℕ
system_error = 8

abbrev pub invalid_parameter : ℕ
invalid_parameter = 9

abbrev pub invalid_source : ℕ
invalid_source = 10

abbrev pub invalid_destination : ℕ
invalid_destination = 11

abbrev pub invalid_message_id : ℕ
invalid_message_id = 12

abbrev pub invalid_password : ℕ
invalid_password = 13

abbrev pub cannot_cancel : ℕ
cannot_cancel = 17

abbrev pub cannot_replace : ℕ
cannot_replace = 19

abbrev pub queue_full : ℕ
queue_full = 20

-- the number of each, none of them 0, which is the status of what isn't refused
abbrev pub code : Status → ℕ
code InvalidMessageLength = invalid_message_length
code InvalidCommandLength = invalid_command_length
code InvalidCommandId = invalid_command_id
code InvalidBindStatus = invalid_bind_status
code AlreadyBound = already_bound
code InvalidPriority = invalid_priority
code InvalidRegistered = invalid_registered
code SystemError = system_error
code InvalidParameter = invalid_parameter
code InvalidSource = invalid_source
code InvalidDestination = invalid_destination
code InvalidMessageId = invalid_message_id
code InvalidPassword = invalid_password
code CannotCancel = cannot_cancel
code CannotReplace = cannot_replace
code QueueFull = queue_full

-- of what a request comes to
abbrev pub outcome_status : {A : Type 0} → Result A Status → ℕ
outcome_status (Ok x) = 0
outcome_status (Err status) = code status
