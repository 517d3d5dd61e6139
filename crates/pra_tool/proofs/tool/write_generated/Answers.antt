use Rattle.std.proofs.Common.{refl, ap, subst}
use Rattle.pra_compile.specs.declared.output.CompileFault.{CompileFault}
use Rattle.pra_compile.specs.Compiled.{granted}
use Rattle.pra_compile.specs.CompiledProcs.{IsFault}
use Rattle.pra_words.specs.declared.words.FileKind.TheVariants.{Module}
use Rattle.pra_words.specs.Written.{asked_by}
use Rattle.pra_tool.specs.Compiling.{wanted_by}
use Rattle.pra_tool.specs.Ends as ends
use Rattle.pra_tool.specs.Reports.{writes_of}
use Rattle.pra_tool.specs.Writes.{Writes}
use Rattle.pra_tool.proofs.CompiledEnds.{gen_ends}
use Rattle.pra_tool.proofs.CompilingModes.{keeps_same}
use Rattle.pra_tool.proofs.Generating.{gen_differ}
use Rattle.pra_tool.proofs.Sources.{runnable_of, never_over}
use Rattle.pra_tool.proofs.tool.write_generated.Goals as goal

pub compile_source-requires-clause-runnable : goal.compile_source-requires-clause-runnable
compile_source-requires-clause-runnable g c =
    runnable_of Module c.args.text.items c.args.sourced c.requires.sourced

pub unreachable-requires : goal.unreachable-requires
unreachable-requires g c =
    let wanted = granted (wanted_by (asked_by c.args.request.now)) in
    never_over c.args.text.items c.args.sourced c.requires.sourced wanted c.in-Err-TooLong.field-0-0
    (subst (λ (f : CompileFault). IsFault c.args.sourced.file wanted f)
    c.in-Err-TooLong.field-0-is c.in-Err-TooLong.ensures.fault)

pub write_report-requires-clause-different : goal.write_report-requires-clause-different
write_report-requires-clause-different g c =
    gen_differ c.args.request.now.file.now c.args.request.now.image.now _ _ _
    c.requires.apart (ap (λ (x : Writes). x.files) c.in-Ok-gen_report.ensures.writes)

pub returns-in-Ok-gen_report : goal.returns-in-Ok-gen_report
returns-in-Ok-gen_report g c = λ input.
    let report = c.in-Ok-gen_report.report in
    gen_ends (asked_by c.args.request.now) c.args.text.items c.in-Ok.made
    (writes_of report) report.status _ _ _ refl c.requires.text
    (record {
      sourced = c.args.sourced;
      is = c.requires.sourced;
      meaning = c.in-Ok.ensures.meaning;
      built = c.in-Ok.ensures.built;
    })
    c.in-Ok-gen_report.ensures.writes
    c.in-Ok-gen_report.ensures.ended
    (c.write_report.ensures input input)

pub returns-in-Err-OutOfMemory : goal.returns-in-Err-OutOfMemory
returns-in-Err-OutOfMemory g c = λ input.
    ends.wanting refl (record {
      files = λ name. refl;
      out = keeps_same _;
      notes = keeps_same _;
    })
