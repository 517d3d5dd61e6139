use Rattle.std.proofs.Common.{ap, refl, subst, sym}
use Rattle.std.specs.Io.KnownBytes.{Keeps}
use Rattle.pra_words.specs.Written.{asked_by}
use Rattle.pra_tool.specs.Clause.{applying}
use Rattle.pra_tool.specs.Outside.{stream_seen}
use Rattle.pra_tool.specs.Reports.{writes_of}
use Rattle.pra_tool.specs.Writes.{Writes}
use Rattle.pra_tool.proofs.AppliedCerts.{applied_totals}
use Rattle.pra_tool.proofs.ApplyModes.{apply_ends, misapplied_ends}
use Rattle.pra_tool.proofs.CompilingModes.{different, keeps_same}
use Rattle.pra_tool.proofs.CompiledEnds.{input_ends}
use Rattle.pra_tool.proofs.apply.apply_input.Goals as goal

pub returns-in-Err : goal.returns-in-Err
returns-in-Err g c = λ source of.
    input_ends (applying (asked_by c.args.request.now)) refl c.in-Err.fault _ _ _
    c.in-Err.ensures.cause
    c.refuse_input_text.ensures.known
    (λ other. record {
      files = λ name. refl;
      out = keeps_same (g.O.Sink.bytes c.args.out.now);
      notes = c.refuse_input_text.ensures.told other;
    })
    (λ memory. record {
      files = λ name. refl;
      out = keeps_same (g.O.Sink.bytes c.args.out.now);
      notes = subst (λ n. Keeps (g.N.Sink.bytes c.args.notes.now) (g.N.Sink.bytes n))
          (sym (c.refuse_input_text.ensures.memory memory)) (keeps_same _);
    })
    source

pub returns-in-Err-apply : goal.returns-in-Err-apply
returns-in-Err-apply g c = λ source of.
    misapplied_ends (asked_by c.args.request.now) c.args.sourced c.in-Ok.certificate _ _ _
    c.in-Ok.ensures.given c.in-Err-apply.fault
    c.in-Err-apply.ensures.cause
    c.refuse_misapplied.ensures.known
    (λ other. record {
      files = λ name. refl;
      out = keeps_same (g.O.Sink.bytes c.args.out.now);
      notes = c.refuse_misapplied.ensures.told other;
    })
    (λ memory. record {
      files = λ name. refl;
      out = keeps_same (g.O.Sink.bytes c.args.out.now);
      notes = subst (λ n. Keeps (g.N.Sink.bytes c.args.notes.now) (g.N.Sink.bytes n))
          (sym (c.refuse_misapplied.ensures.memory memory)) (keeps_same _);
    })
    source of

pub apply_report-requires-clause-totals : goal.apply_report-requires-clause-totals
apply_report-requires-clause-totals g c =
    applied_totals c.args.sourced.file c.in-Ok.certificate c.in-Ok-apply.compiled
    c.in-Ok-apply.ensures.applied

pub write_report-requires-clause-different : goal.write_report-requires-clause-different
write_report-requires-clause-different g c =
    different c.args.request.now.image.now c.in-Ok-apply.compiled.image _
    (ap (λ (x : Writes). x.files) c.in-Ok-apply_report.ensures.writes)

pub returns-in-Ok-apply_report : goal.returns-in-Ok-apply_report
returns-in-Ok-apply_report g c = λ source of.
    let report = c.in-Ok-apply_report.report in
    apply_ends (asked_by c.args.request.now) c.args.sourced c.in-Ok.certificate _ _ _
    c.in-Ok.ensures.given c.in-Ok-apply.compiled (writes_of report) report.status
    c.in-Ok-apply.ensures.applied
    c.in-Ok-apply_report.ensures.writes
    c.in-Ok-apply_report.ensures.done
    (c.write_report.ensures (stream_seen g.I.Source.left g.I.Source.faults c.args.input.now)
    (stream_seen g.I.Source.left g.I.Source.faults c.read_certificate.new.input))
    source of
