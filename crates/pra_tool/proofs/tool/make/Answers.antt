use Rattle.std.proofs.Common.{refl, sym, subst}
use Rattle.std.specs.Io.KnownBytes.{Keeps}
use Rattle.pra_compile.specs.declared.output.CompileFault.{CompileFault}
use Rattle.pra_compile.specs.Compiled.{granted}
use Rattle.pra_compile.specs.CompiledProcs.{IsFault}
use Rattle.pra_words.specs.Written.{asked_by}
use Rattle.pra_tool.specs.Compiling.{wanted_by}
use Rattle.pra_tool.specs.Ends as ends
use Rattle.pra_tool.specs.Outside.{folder_seen, stream_seen}
use Rattle.pra_tool.proofs.CompilingModes.{no_room, keeps_same}
use Rattle.pra_tool.proofs.tool.make.Goals as goal

pub returns-in-Ok-clause-ends : goal.returns-in-Ok-clause-ends
returns-in-Ok-clause-ends g c = λ source is.
    c.finish.ensures.ends source (record {
      sourced = c.args.sourced;
      is = is;
      meaning = c.in-Ok.ensures.meaning;
      built = c.in-Ok.ensures.built;
    })

pub returns-in-Err-TooLong-clause-ends : goal.returns-in-Err-TooLong-clause-ends
returns-in-Err-TooLong-clause-ends g c = λ source is.
    let asked = asked_by c.args.request.now in
    c.refuse_over.ensures.ends asked source
    (folder_seen g.D.Folder.file g.D.Folder.read_faults g.D.Folder.write_faults c.args.folder.now)
    (stream_seen g.O.Sink.bytes g.O.Sink.faults c.args.out.now)
    (λ input right. no_room asked.from c.args.then asked source input c.args.sourced
    c.in-Err-TooLong.count is
    (subst (λ (f : CompileFault). IsFault c.args.sourced.file (granted (wanted_by asked)) f)
    c.in-Err-TooLong.field-0-is c.in-Err-TooLong.ensures.fault) right)

pub returns-in-Err-OutOfMemory-clause-ends : goal.returns-in-Err-OutOfMemory-clause-ends
returns-in-Err-OutOfMemory-clause-ends g c = λ source is.
    ends.wanting refl (record {
      files = λ name. refl;
      out = keeps_same _;
      notes = keeps_same _;
    })
