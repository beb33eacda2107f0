-- `open::open_pdu` meets its contract. Assumes nothing.
use Rattle.octets.proofs.StretchLaws.{drop-cut}
use Rattle.open.proofs.open_pdu.Goals as goal

pub returns : goal.returns
returns c = rw (← c.read_header-header.ensures) (rw (drop-cut 16 c.args.pdu.now) at c.open_command.ensures)
