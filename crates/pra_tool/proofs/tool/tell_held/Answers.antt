use Rattle.std.proofs.Common.{refl, ap, ◌∙◌}
use Rattle.pra_tool.specs.Reports.{writes_of}
use Rattle.pra_tool.specs.Texts.{held_text}
use Rattle.pra_tool.specs.Writes.{Writes, text_alone}
use Rattle.pra_tool.proofs.CertEnds.{check_ends}
use Rattle.pra_tool.proofs.ListingEnds.{none_differ}
use Rattle.pra_tool.proofs.tool.tell_held.Goals as goal

pub write_report-requires-clause-different : goal.write_report-requires-clause-different
write_report-requires-clause-different g c =
    none_differ _ (ap (λ (x : Writes). x.files) c.text_report-report.ensures.writes)

pub returns-in-Ok : goal.returns-in-Ok
returns-in-Ok g c = λ file input held.
    let report = c.text_report-report.result in
    check_ends file c.args.certificate.now (writes_of report) report.status _ _ _ refl held
    (c.text_report-report.ensures.writes ∙ ap text_alone c.in-Ok.ensures)
    c.text_report-report.ensures.done
    (c.write_report.ensures input input)
