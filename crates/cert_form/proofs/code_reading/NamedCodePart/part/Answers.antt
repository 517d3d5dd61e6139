use Rattle.std.proofs.Common.{◌≡◌, false, rules}
use Rattle.cert_form.proofs.CodesHeld.{other_code}
use Rattle.cert_form.proofs.code_reading.NamedCodePart.part.Goals as goal

pub returns-then-not-all : goal.returns-then-not-all
returns-then-not-all c =
    let read = c.in_ok-all.ensures in
    let off : c.in_ok-all.all ≡ false = search rules in
    (read.0, read.1, other_code c.object.new.fields c.args.number c.in_ok-all.all read.0 off read.2)
