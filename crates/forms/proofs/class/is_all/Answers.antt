-- `forms::class::is_all` meets its contract. Assumes nothing.
use Rattle.forms.specs.Class.{in_class}
use Rattle.forms.proofs.ClassLaws.{every-lead}
use Rattle.forms.proofs.class.is_all.Goals as goal

pub returns : goal.returns
returns c = rw (every-lead (in_class c.args.class) c.args.s.now, c.lead_of.ensures.0)
