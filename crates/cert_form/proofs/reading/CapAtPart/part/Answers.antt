use Rattle.std.proofs.Common.{◌≡◌, pos, refl, rules}
use Rattle.cert_form.specs.declared.certificate.CapAt.{CapAt}
use Rattle.cert_form.specs.declared.cells.Mark.TheVariants.{Integer}
use Rattle.cert_form.specs.Form.{cap_data}
use Rattle.cert_form.specs.Whole.{CapFits}
use Rattle.cert_form.specs.Streams.{cap_in}
use Rattle.cert_form.proofs.RowsTold.{pair_told, no_pair, cap_answer}
use Rattle.cert_form.proofs.reading.CapAtPart.part.Goals as goal

pub returns-in-Some : goal.returns-in-Some
returns-in-Some c =
    let read = c.in_ok-marks.ensures in
    let same : c.cap.result ≡ cap_in c.in-Some.marks = search rules in (
      read.0,
      read.1,
      pair_told cap_data CapFits read.0 c.in_ok-marks.field-0 read.2 cap_in cap_answer
          c.in-Some.marks c.cap.result c.in-Some.is same,
    )

pub returns-in-None : goal.returns-in-None
returns-in-None c =
    let read = c.in_ok-marks.ensures in (
      read.0,
      read.1,
      no_pair cap_data CapFits read.0 c.in_ok-marks.field-0 read.2
          (λ (x : CapAt). Integer (pos x.at)) (λ x. Integer (pos x.price)) (λ x. refl)
          c.in-None.is,
    )
