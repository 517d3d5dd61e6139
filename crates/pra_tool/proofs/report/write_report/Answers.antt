use Rattle.std.proofs.Common.{ap, subst, sym}
use Rattle.std.specs.Prelude.{map}
use Rattle.std.specs.Io.KnownBytes.{Keeps}
use Rattle.pra_tool.specs.Reports.{file_text, writes_of}
use Rattle.pra_tool.proofs.WriteEnds.{file_end, stopped_same}
use Rattle.pra_tool.proofs.CompilingModes.{keeps_same}
use Rattle.pra_tool.proofs.report.write_report.Goals as goal

pub returns-in-Err : goal.returns-in-Err
returns-in-Err g c = λ input_old input_new.
    let report = c.args.report.now in
    let f = c.in-Err.fault in
    file_end (writes_of report) report.status c.requires.done _ _ c.write_files.ensures.counts f _
    (stopped_same _ _ f _ _ (ap (map file_text) c.deref.ensures.value) c.in-Err.ensures.written)
    (keeps_same (g.O.Sink.bytes c.args.out.now))
    c.stop_at_file.ensures.status
    c.stop_at_file.ensures.told
    (λ memory. subst (λ n. Keeps (g.N.Sink.bytes c.args.notes.now) (g.N.Sink.bytes n))
    (sym (c.stop_at_file.ensures.memory memory)) (keeps_same _))
