-- `open::open_command` meets its contract. Assumes nothing.
use native.Mathlib.Omega.{arith}
use Rattle.octets.specs.Choice.{when◌then◌else◌}
use Rattle.wire.specs.Command.{command_of}
use Rattle.wire.proofs.CommandLaws.{response-command, unknown-command}
use Rattle.open.proofs.open_command.Goals as goal

pub returns-in-1 : goal.returns-in-1
unfolding command_of when◌then◌else◌
returns-in-1 c = rw c.in-1.is c.open_bind.ensures

pub returns-in-2 : goal.returns-in-2
unfolding command_of when◌then◌else◌
returns-in-2 c = rw c.in-2.is c.open_bind-in-2.ensures

pub returns-in-3 : goal.returns-in-3
unfolding command_of when◌then◌else◌
returns-in-3 c = rw (c.in-3.is, ← c.no_query.ensures, c.stay.ensures)

pub returns-in-4 : goal.returns-in-4
unfolding command_of when◌then◌else◌
returns-in-4 c = rw (c.in-4.is, ← c.no_submission.ensures, c.stay-in-4.ensures)

pub returns-in-6 : goal.returns-in-6
unfolding command_of when◌then◌else◌
returns-in-6 c = rw (c.in-6.is, ← c.wrong_state.ensures, c.stay-in-6.ensures)

pub returns-in-7 : goal.returns-in-7
unfolding command_of when◌then◌else◌
returns-in-7 c = rw (c.in-7.is, ← c.wrong_state-in-7.ensures, c.stay-in-7.ensures)

pub returns-in-8 : goal.returns-in-8
unfolding command_of when◌then◌else◌
returns-in-8 c = rw (c.in-8.is, ← c.wrong_state-in-8.ensures, c.stay-in-8.ensures)

pub returns-in-21 : goal.returns-in-21
unfolding command_of when◌then◌else◌
returns-in-21 c = rw (c.in-21.is, ← c.read_plain.ensures, ← c.of.ensures, ← c.link.ensures, c.stay-in-21.ensures)

pub returns-in_default : goal.returns-in_default
returns-in_default c = rw (unknown-command c.args.command (omega arith) (omega arith) (omega arith) (omega arith) (omega arith) (omega arith) (omega arith) (omega arith) (omega arith), ← c.unknown.ensures, c.stay-in_default.ensures)

pub returns-in-2147483648-to-4294967295 : goal.returns-in-2147483648-to-4294967295
returns-in-2147483648-to-4294967295 c = rw (response-command c.args.command (omega arith), c.stay-in-2147483648-to-4294967295.ensures)
