use Rattle.std.proofs.Common.{refl}
use Rattle.pra_words.specs.Written.{asked_by}
use Rattle.pra_tool.specs.Reports.{writes_of}
use Rattle.pra_tool.proofs.ListingEnds.{asm_ends}
use Rattle.pra_tool.proofs.tool.write_image.Goals as goal

pub returns-in-Ok : goal.returns-in-Ok
returns-in-Ok g c = λ text input listed.
    let report = c.in-Ok.report in
    asm_ends (asked_by c.args.request.now) c.args.image.now (writes_of report)
    report.status _ _ _ refl
    c.in-Ok.ensures.writes
    c.in-Ok.ensures.done
    (c.write_report.ensures input input)
    text listed
