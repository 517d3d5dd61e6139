use Rattle.std.proofs.Common.{◌≡◌, pos, refl, rules}
use Rattle.cert_form.specs.declared.certificate.TieAt.{TieAt}
use Rattle.cert_form.specs.declared.cells.Mark.TheVariants.{Integer}
use Rattle.cert_form.specs.Form.{tie_data}
use Rattle.cert_form.specs.Whole.{TieFits}
use Rattle.cert_form.specs.Streams.{tie_in}
use Rattle.cert_form.proofs.RowsTold.{pair_told, no_pair, tie_answer}
use Rattle.cert_form.proofs.reading.TieAtPart.part.Goals as goal

pub returns-in-Some : goal.returns-in-Some
returns-in-Some c =
    let read = c.in_ok-marks.ensures in
    let same : c.tie.result ≡ tie_in c.in-Some.marks = search rules in (
      read.0,
      read.1,
      pair_told tie_data TieFits read.0 c.in_ok-marks.field-0 read.2 tie_in tie_answer
          c.in-Some.marks c.tie.result c.in-Some.is same,
    )

pub returns-in-None : goal.returns-in-None
returns-in-None c =
    let read = c.in_ok-marks.ensures in (
      read.0,
      read.1,
      no_pair tie_data TieFits read.0 c.in_ok-marks.field-0 read.2
          (λ (x : TieAt). Integer (pos x.at)) (λ x. Integer x.number) (λ x. refl)
          c.in-None.is,
    )
