-- The files so far are stored.
use Rattle.std.proofs.Common.{take}
use Rattle.std.specs.Prelude.{map}
use Rattle.pra_tool.specs.Outside.{folder_seen, NoneFell}
use Rattle.pra_tool.specs.Writes.{Stored}
use Rattle.pra_tool.specs.Reports.{file_text}
use Rattle.pra_tool.proofs.report.write_files.Given as goal

abbrev pub invariant-loop-file : goal.invariant-loop-file
invariant-loop-file g l =
    let file = g.D.Folder.file in
    let reads = g.D.Folder.read_faults in
    let writes = g.D.Folder.write_faults in
    record {
      stored : Stored (take l.file-index (map file_text l.files))
          (folder_seen file reads writes l.initial.folder) (folder_seen file reads writes l.folder);
      counts : NoneFell (folder_seen file reads writes l.initial.folder)
          (folder_seen file reads writes l.folder);
    }
