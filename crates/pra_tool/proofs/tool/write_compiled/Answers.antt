use Rattle.std.proofs.Common.{refl, ap}
use Rattle.pra_words.specs.Written.{asked_by}
use Rattle.pra_tool.specs.Reports.{writes_of}
use Rattle.pra_tool.specs.Writes.{Writes}
use Rattle.pra_tool.proofs.CompiledEnds.{compile_ends}
use Rattle.pra_tool.proofs.CompilingModes.{different}
use Rattle.pra_tool.proofs.tool.write_compiled.Goals as goal

pub write_report-requires-clause-different : goal.write_report-requires-clause-different
write_report-requires-clause-different g c =
    different c.args.request.now.image.now c.args.made.now.compiled.image _
    (ap (λ (x : Writes). x.files) c.in-Ok.ensures.writes)

pub returns-in-Ok : goal.returns-in-Ok
returns-in-Ok g c = λ source input made.
    let report = c.in-Ok.report in
    compile_ends (asked_by c.args.request.now) c.args.made.now (writes_of report)
    report.status _ _ _ refl
    c.in-Ok.ensures.writes
    c.in-Ok.ensures.done
    (c.write_report.ensures input input)
    source made
