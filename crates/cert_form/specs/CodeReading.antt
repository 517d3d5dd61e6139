-- The one code file that a value can be of, as `Reading` finds a certificate.
use Rattle.std.specs.Prelude.{ℕ, nat_le, if◌then◌else◌, List, Option, Some, None, codes}
use Rattle.serde_json.specs.Data.{Data}
use Rattle.serde_json.specs.Find.{get, as_str}
use Rattle.pra_list.specs.Options.{◌>>=◌}
use Rattle.ia_code.specs.Image.{max_data_words}
use Rattle.cert_form.specs.declared.codes.NamedCode.{NamedCode}
use Rattle.cert_form.specs.declared.codes.CodeFile.{CodeFile}
use Rattle.cert_form.specs.CodeForm.{is_name}
use Rattle.cert_form.specs.Reading.{natural_under, code_of, procs_of}

abbrev pub name_of : Data → Option (List ℕ)
name_of d = do
  name ← get (codes "name") d >>= as_str
  if is_name name then Some name else None

abbrev pub named_code_of : ℕ → Data → Option NamedCode
named_code_of n d = do
  name ← name_of d
  code ← code_of n d
  Some (record { name = name; code = code })

abbrev pub data_words_of : Data → Option ℕ
data_words_of d = do
  n ← natural_under (codes "data_words") d
  if nat_le n max_data_words then Some n else None

abbrev pub file_of : Data → Option CodeFile
file_of d = do
  words ← data_words_of d
  procs ← procs_of named_code_of d
  Some (record { data_words = words; procs = procs })
