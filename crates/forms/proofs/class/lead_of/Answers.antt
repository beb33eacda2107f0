-- `forms::class::lead_of` meets its contract: the run ends at the first octet that isn't of the class. Assumes nothing.
use mathlib.Core.Path.{ap, ◌∙◌}
use lib.ListN.{length}
use Rattle.std.proofs.Common.{unwrap_or}
use Rattle.forms.specs.Class.{in_class}
use Rattle.forms.proofs.ClassLaws.{lead-position, lead-within}
use Rattle.forms.proofs.class.lead_of.Goals as goal

pub returns : goal.returns
returns c =
    let is = c.unwrap_or.ensures ∙ ap (λ i. unwrap_or i (length c.args.s.now)) c.first_outside.ensures ∙ lead-position (in_class c.args.class) c.args.s.now in
    (is, rw is (lead-within (in_class c.args.class) c.args.s.now))
