-- `records::book::is_same_address` meets its contract. Assumes nothing.
use mathlib.Core.Path.{◌≡◌, sym, ◌∙◌}
use native.Mathlib.Omega.{arith}
use lib.ListN.{drop}
use Rattle.octets.proofs.LentLaws.{held}
use Rattle.forms.specs.Class.{in_class, lead}
use Rattle.forms.specs.declared.class.Class.TheVariants.{Space}
use Rattle.records.proofs.SpaceLaws.{address_plain}
use Rattle.records.proofs.book.is_same_address.Goals as goal

pub returns : goal.returns
returns c =
    let a = c.args.a.now in
    let b = c.args.b.now in
    let none : c.lead_of.result ≡ 0 = omega (arith, c.if-lead_of-gt0.false) in
    let none_2 : c.lead_of-2.result ≡ 0 = omega (arith, c.if-lead_of-gt0-2.false) in
    let x : lead (in_class Space) (drop 2 a) ≡ 0 = sym (rw (held c.from.ensures) at c.lead_of.ensures.0) ∙ none in
    let y : lead (in_class Space) (drop 2 b) ≡ 0 = sym (rw (held c.from-2.ensures) at c.lead_of-2.ensures.0) ∙ none_2 in
    c.is_same.ensures ∙ sym (address_plain a b x y)
