-- What stands behind the values of the code: what is to be written, and the codes that run.
use Rattle.std.specs.Prelude.{List, map}
use Rattle.std.specs.Borrow.{Bor}
use Rattle.pra_base.specs.declared.code.VProc.{VProc}
use Rattle.pra_tool.specs.declared.report.NamedFile.{NamedFile}
use Rattle.pra_tool.specs.declared.report.Report.{Report}
use Rattle.pra_tool.specs.Writes.{FileText, Writes}

abbrev pub file_text : NamedFile → FileText
file_text f = record { name = f.name.now; bytes = f.bytes.items }

abbrev pub writes_of : Report → Writes
writes_of r =
    record { files = map file_text r.files.items; out = r.out.items; notes = r.notes.items }

abbrev pub codes_behind : List (Bor VProc) → List VProc
codes_behind codes = map (λ (code : Bor VProc). code.now) codes
