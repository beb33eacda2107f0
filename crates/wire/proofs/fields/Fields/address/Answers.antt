-- `wire::fields::Fields::address` meets its contract. Assumes nothing.
use mathlib.Core.Path.{refl, ap}
use Prim.Native.Nat.{◌≤◌}
use native.Mathlib.Omega.{arith}
use lib.ListN.{length, length-take}
use Rattle.std.proofs.lemmas.Result.{err_from_is_err_and}
use Rattle.octets.proofs.LentLaws.{held}
use Rattle.forms.specs.declared.text.Form.TheVariants.{AddressOrNone}
use Rattle.wire.specs.declared.status.Status.TheVariants.{InvalidCommandLength}
use Rattle.wire.specs.Fields.{address_at}
use Rattle.wire.proofs.FieldLaws.{address-padded, octet-behind, text-behind}
use Rattle.wire.proofs.fields.Fields.address.Goals as goal

pub returns-in_err-ton-clause-read : goal.returns-in_err-ton-clause-read
unfolding address_at
returns-in_err-ton-clause-read c =
    let p = err_from_is_err_and c.from_residual.result c.from_residual.ensures.1 in
    let short = c.in_err-ton.ensures.any refl in
    λ bad. rw (
      p.1,
      p.2,
      short,
      (rw short at c.in_err-ton.ensures.read 2),
      octet-behind 255 2 c.args.self.now.body.now c.octet.new.self.at InvalidCommandLength,
      text-behind AddressOrNone 21 bad c.args.self.now.body.now c.octet.new.self.at InvalidCommandLength,
    )

pub returns-in_err-npi-clause-read : goal.returns-in_err-npi-clause-read
unfolding address_at
returns-in_err-npi-clause-read c =
    let p = err_from_is_err_and c.from_residual-in_err-npi.result c.from_residual-in_err-npi.ensures.1 in
    let short = c.in_err-npi.ensures.any refl in
    λ bad. rw (p.1, p.2, short, c.in_ok-ton.ensures.read 2, ← c.octet.ensures.kept, (rw short at c.in_err-npi.ensures.read 2), text-behind AddressOrNone 21 bad c.octet.new.self.body.now c.octet-2.new.self.at InvalidCommandLength)

pub returns-in_err-number-clause-read : goal.returns-in_err-number-clause-read
unfolding address_at
returns-in_err-number-clause-read c =
    let p = err_from_is_err_and c.from_residual-in_err-number.result c.from_residual-in_err-number.ensures.1 in
    λ bad. rw (p.1, p.2, c.in_ok-ton.ensures.read 2, ← c.octet.ensures.kept, c.in_ok-npi.ensures.read 2, ← c.octet-2.ensures.kept) (c.in_err-number.ensures.read bad)

pub returns-clause-read : goal.returns-clause-read
unfolding address_at
returns-clause-read c =
    let fits : length c.octets_of.result.now ≤ 20 = omega (arith, c.in_ok-number.ensures.part.1, simp length-take at (ap length (held c.octets_of.ensures))) in
    λ bad. rw (c.in_ok-ton.ensures.read 2, ← c.octet.ensures.kept, c.in_ok-npi.ensures.read 2, ← c.octet-2.ensures.kept, c.in_ok-number.ensures.read bad, ← c.text.ensures.kept, ← (held c.octets_of.ensures), ← (address-padded c.in_ok-ton.ton c.in_ok-npi.npi c.octets_of.result.now fits), ← c.put.ensures)
