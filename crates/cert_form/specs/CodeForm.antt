-- What a code file is in JSON, as a value: the code of procedures as in a certificate, with names.
use Rattle.std.specs.Prelude.{ℕ, Bool, false, ◌&&◌, nat_le, if◌then◌else◌, List, [], ◌∷◌, length}
use Rattle.std.specs.Prelude.{codes}
use Rattle.std.specs.List.{list_all}
use Rattle.std.specs.Char.{is_ascii_alphabetic, is_ascii_alphanumeric}
use Rattle.serde_json.specs.Data.{Data, null, string, object, member}
use Rattle.cert_form.specs.declared.codes.NamedCode.{NamedCode}
use Rattle.cert_form.specs.declared.codes.CodeFile.{CodeFile}
use Rattle.cert_form.specs.Form.{natural, code_members, file_members, line_text}

-- A name: a letter, A to Z or a to z, then letters and digits, 255 bytes at most.
abbrev pub is_name : List ℕ → Bool
is_name [] = false
is_name (b ∷ bs) =
    is_ascii_alphabetic b && list_all is_ascii_alphanumeric bs && nat_le (length (b ∷ bs)) 255

-- A name is a string. Bytes that are none are in no code file: null stands for them.
abbrev pub name_data : List ℕ → Data
name_data name = if is_name name then string name else null

abbrev pub code_data : NamedCode → Data
code_data p = object (code_members p.code (λ vars. member (codes "name") (name_data p.name) vars))

abbrev pub file_data : CodeFile → Data
file_data f =
    object (member (codes "data_words") (natural f.data_words)
    (file_members (codes "pra-code") code_data f.procs))

unfoldable pub code_file_text : CodeFile → List ℕ
code_file_text f = line_text (file_data f)
