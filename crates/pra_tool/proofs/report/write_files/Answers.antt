use Rattle.std.proofs.Common.{◌<◌, ap, subst, length, List, ℕ, arith}
use Rattle.std.specs.Prelude.{map, Err}
use Rattle.pra_io.specs.declared.files.FileFault.{FileFault}
use Rattle.std.proofs.lemmas.List.{length-map}
use Rattle.pra_io.specs.Contents.{Becomes}
use Rattle.pra_tool.specs.Reports.{file_text}
use Rattle.pra_tool.proofs.Files.{stored_next, failed_next, left_next, file_of, stopped_by}
use Rattle.pra_tool.proofs.Files.{rose_after}
use Rattle.pra_tool.proofs.report.write_files.Goals as goal

pub loop-file-preserved : goal.loop-file-preserved
loop-file-preserved g c =
    let files = c.args.files.now in
    let texts = map file_text files in
    let i = c.loop-file.file-index in
    let f = file_text c.file-item.result in
    let within : i < length texts =
    omega (arith, length-map files file_text, c.loop-file-test.true) in
    let is = file_of file_text files i c.file-item.result c.file-item.is in
    record {
      stored = stored_next texts i f within is _ _ _ c.requires c.loop-file.invariant.stored
          c.in-Ok.ensures.others
          (subst (λ (bytes : List ℕ). Becomes (g.D.Folder.file c.loop-file.folder f.name)
          (g.D.Folder.file c.write_file.new.self f.name) bytes) c.deref.ensures.value
          c.in-Ok.ensures.written);
      counts = record {
        read = λ n. omega (
          arith,
          c.loop-file.invariant.counts.read n,
          c.in-Ok.ensures.cause.other_later n,
        );
        write = λ n. omega (
          arith,
          c.loop-file.invariant.counts.write n,
          c.in-Ok.ensures.cause.later n,
        );
      };
    }

pub returns-in-Err-clause-written : goal.returns-in-Err-clause-written
returns-in-Err-clause-written g c =
    let files = c.args.files.now in
    let texts = map file_text files in
    let i = c.loop-file.file-index in
    let f = file_text c.file-item.result in
    let within : i < length texts =
    omega (arith, length-map files file_text, c.loop-file-test.true) in
    let is = file_of file_text files i c.file-item.result c.file-item.is in
    stopped_by texts c.in-Err.fault _ _
    (λ e. failed_next texts i f within is _ _ _ c.requires c.loop-file.invariant.stored
    c.in-Err.ensures.others
    (rose_after _ _ _ (c.loop-file.invariant.counts.write f.name)
    (c.in-Err.ensures.cause.failed (ap (λ (x : FileFault). Err x) e))))
    (λ e. c.in-Err.ensures.never_long (ap (λ (x : FileFault). Err x) e))
    (λ e. left_next texts i f within is _ _ _ c.requires c.loop-file.invariant.stored
    (c.in-Err.ensures.memory (ap (λ (x : FileFault). Err x) e)))
