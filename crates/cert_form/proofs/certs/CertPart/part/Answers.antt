use Rattle.std.proofs.Common.{◌≡◌, false, rules}
use Rattle.cert_form.proofs.Held.{other_cert}
use Rattle.cert_form.proofs.certs.CertPart.part.Goals as goal

pub returns-then-not-all : goal.returns-then-not-all
returns-then-not-all c =
    let read = c.in_ok-all.ensures in
    let off : c.in_ok-all.all ≡ false = search rules in
    (read.0, read.1, other_cert c.object.new.fields c.args.number c.in_ok-all.all read.0 off read.2)
