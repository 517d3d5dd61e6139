use Rattle.std.proofs.Common.{◌≡◌, ap, refl, subst, sym, ◌∙◌, List, ℤ}
use Rattle.std.specs.Io.KnownBytes.{Keeps}
use Rattle.pra_tool.specs.declared.tool.Then.TheVariants.{Interpret}
use Rattle.pra_words.specs.Written.{asked_by}
use Rattle.pra_tool.specs.Interpreted.{meant_writes, meant_status}
use Rattle.pra_tool.specs.Clause.{compiling}
use Rattle.pra_tool.specs.Outside.{stream_seen}
use Rattle.pra_tool.specs.Reports.{writes_of}
use Rattle.pra_tool.specs.Writes.{Writes}
use Rattle.pra_tool.proofs.CompilingModes.{keeps_same}
use Rattle.pra_tool.proofs.CompiledEnds.{input_ends, interp_ends, no_files}
use Rattle.pra_tool.proofs.ListingEnds.{none_differ}
use Rattle.pra_tool.proofs.tool.interpret_made.Goals as goal

pub returns-in-Err : goal.returns-in-Err
returns-in-Err g c = λ source made.
    input_ends (compiling Interpret (asked_by c.args.request.now)) refl c.in-Err.fault _ _ _
    c.in-Err.ensures.cause
    c.refuse_input.ensures.known
    (λ other. record {
      files = λ name. refl;
      out = keeps_same (g.O.Sink.bytes c.args.out.now);
      notes = c.refuse_input.ensures.told other;
    })
    (λ memory. record {
      files = λ name. refl;
      out = keeps_same (g.O.Sink.bytes c.args.out.now);
      notes = subst (λ n. Keeps (g.N.Sink.bytes c.args.notes.now) (g.N.Sink.bytes n))
          (sym (c.refuse_input.ensures.memory memory)) (keeps_same _);
    })
    source

pub write_report-requires-clause-different : goal.write_report-requires-clause-different
write_report-requires-clause-different g c =
    none_differ _ (ap (λ (x : Writes). x.files) c.in-Ok-interp_report.ensures.writes
    ∙ no_files c.args.made.now.meaning (asked_by c.args.request.now) c.args.made.now.compiled _)

pub returns-in-Ok-interp_report : goal.returns-in-Ok-interp_report
returns-in-Ok-interp_report g c = λ source made.
    let report = c.in-Ok-interp_report.report in
    let asked = asked_by c.args.request.now in
    let is = c.args.made.now in
    interp_ends asked is c.in-Ok.numbers.items
    (writes_of report) report.status _ _ _
    c.in-Ok.ensures.numbers
    (subst (λ (ns : List ℤ). writes_of report ≡ meant_writes is.meaning asked is.compiled ns)
    c.deref.ensures.value c.in-Ok-interp_report.ensures.writes)
    (subst (λ (ns : List ℤ). report.status ≡ meant_status is.meaning asked is.compiled ns)
    c.deref.ensures.value c.in-Ok-interp_report.ensures.ended)
    (c.write_report.ensures (stream_seen g.I.Source.left g.I.Source.faults c.args.input.now)
    (stream_seen g.I.Source.left g.I.Source.faults c.read_numbers.new.input))
    source made
