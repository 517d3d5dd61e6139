use Rattle.std.proofs.Common.{◌≡◌, false, rules}
use Rattle.cert_form.proofs.Held.{other_certificate}
use Rattle.cert_form.proofs.certs.CertificatePart.part.Goals as goal

pub returns-then-not-branch : goal.returns-then-not-branch
returns-then-not-branch c =
    let read = c.in_ok-object.ensures in
    let off : c.in_ok-object.field-0 ≡ false = search rules in
    (read.0, read.1, other_certificate c.object.new.fields c.in_ok-object.field-0 read.0 off read.2)
