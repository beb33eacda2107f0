-- `bound::command` meets its contract. Assumes nothing.
use native.Mathlib.Omega.{arith}
use mathlib.Core.Path.{ap}
use Rattle.octets.specs.Choice.{when◌then◌else◌}
use Rattle.octets.proofs.StretchLaws.{drop-cut}
use Rattle.isolation.specs.Platform.{Effect}
use Rattle.answers.specs.Answer.{Answer}
use Rattle.wire.specs.Command.{command_of}
use Rattle.wire.proofs.CommandLaws.{response-command, unknown-command}
use Rattle.bound.specs.Bound.{replying, unbind_turn, Stored, storing}
use Rattle.bound.proofs.command.Goals as goal

pub returns-in-1 : goal.returns-in-1
unfolding command_of replying when◌then◌else◌
returns-in-1 c = rw (← c.read_header-header.ensures, c.in-1.is, ← c.already_bound.ensures, c.spoken.ensures)

pub returns-in-2 : goal.returns-in-2
unfolding command_of replying when◌then◌else◌
returns-in-2 c = rw (← c.read_header-header.ensures, c.in-2.is, ← c.already_bound-in-2.ensures, c.spoken-in-2.ensures)

pub returns-in-3 : goal.returns-in-3
unfolding command_of when◌then◌else◌
returns-in-3 c = rw (← c.read_header-header.ensures, c.in-3.is) (rw (drop-cut 16 c.args.pdu.now) at c.query_turn.ensures)

pub returns-in-4 : goal.returns-in-4
unfolding command_of when◌then◌else◌
returns-in-4 c = rw (← c.read_header-header.ensures, c.in-4.is) (rw (drop-cut 16 c.args.pdu.now) at c.submit_turn.ensures)

pub returns-in-6 : goal.returns-in-6
unfolding command_of replying unbind_turn when◌then◌else◌
returns-in-6 c = rw (← c.read_header-header.ensures, c.in-6.is) (ap (λ (e : Effect Stored Answer). record { answer = e.answer; own = storing c.args.part.now e.own.last; ends = e.ends }) (rw (drop-cut 16 c.args.pdu.now) at c.unbind_turn.ensures))

pub returns-in-7 : goal.returns-in-7
unfolding command_of when◌then◌else◌
returns-in-7 c = rw (← c.read_header-header.ensures, c.in-7.is) (rw (drop-cut 16 c.args.pdu.now) at c.replace_turn.ensures)

pub returns-in-8 : goal.returns-in-8
unfolding command_of when◌then◌else◌
returns-in-8 c = rw (← c.read_header-header.ensures, c.in-8.is) (rw (drop-cut 16 c.args.pdu.now) at c.cancel_turn.ensures)

pub returns-in-21 : goal.returns-in-21
unfolding command_of replying when◌then◌else◌
returns-in-21 c = rw (← c.read_header-header.ensures, c.in-21.is, ← (rw (drop-cut 16 c.args.pdu.now) at c.read_plain.ensures), ← c.of.ensures, ← c.link.ensures, c.spoken-in-21.ensures)

pub returns-in_default : goal.returns-in_default
unfolding replying
returns-in_default c = rw (← c.read_header-header.ensures, unknown-command c.read_header-header.result.command (omega arith) (omega arith) (omega arith) (omega arith) (omega arith) (omega arith) (omega arith) (omega arith) (omega arith), ← c.unknown.ensures, c.spoken-in_default.ensures)

pub returns-in-2147483648-to-4294967295 : goal.returns-in-2147483648-to-4294967295
unfolding replying
returns-in-2147483648-to-4294967295 c = rw (← c.read_header-header.ensures, response-command c.read_header-header.result.command (omega arith), c.spoken-in-2147483648-to-4294967295.ensures)
