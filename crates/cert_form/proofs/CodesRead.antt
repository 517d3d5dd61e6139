-- A whole code file that is written is read again.
use Rattle.std.proofs.Common.{◌≡◌, ◌≤◌, Bool, true, List, [], ◌∷◌, map}
use Rattle.std.proofs.Common.{Some, None, refl, ap, ◌∙◌, nat_le, arith}
use Rattle.std.specs.Prelude.{if◌then◌else◌}
use Rattle.std.proofs.lemmas.Bool.{le-leb}
use Rattle.serde_json.specs.Data.{null, string}
use Rattle.serde_json.specs.Find.{as_str}
use Rattle.serde_json.specs.View.{items_of}
use Rattle.pra_list.specs.Options.{◌>>=◌}
use Rattle.pra_list.specs.Each.{Each}
use Rattle.pra_list.proofs.Truths.{if_true}
use Rattle.ia_code.specs.Image.{max_data_words}
use Rattle.cert_form.specs.declared.codes.NamedCode.{NamedCode}
use Rattle.cert_form.specs.declared.codes.CodeFile.{CodeFile}
use Rattle.cert_form.specs.Form.{natural}
use Rattle.cert_form.specs.Reading.{natural_of, code_of, each_numbered}
use Rattle.cert_form.specs.CodeForm.{is_name, code_data, file_data}
use Rattle.cert_form.specs.CodeReading.{name_of, named_code_of, data_words_of, file_of}
use Rattle.cert_form.specs.CodeWhole.{HasName, NamedFits, IsWholeCode}
use Rattle.cert_form.proofs.PartsRead.{one, two, natural_read}
use Rattle.cert_form.proofs.ProcsRead.{code_read, procs_back}

-- code with a name, each number in its type
abbrev pub IsNamed : NamedCode → Type 0
IsNamed p = HasName p × NamedFits p

name_back : (p : NamedCode) → is_name p.name ≡ true → name_of (code_data p) ≡ Some p.name
name_back p h =
    ap (λ (b : Bool). as_str (if b then string p.name else null) >>= (λ name.
    if is_name name then Some name else None)) h
    ∙ if_true (is_name p.name) (Some p.name) None h

named_back : (p : NamedCode) → IsNamed p → named_code_of p.code.id.0 (code_data p) ≡ Some p
named_back p h =
    two (name_of (code_data p)) (code_of p.code.id.0 (code_data p)) p.name p.code
    (λ n c. let made : NamedCode = record { name = n; code = c } in Some made)
    (name_back p h.0) (code_read p.code (code_data p) (refl, refl, refl, refl) h.1)

words_back : (f : CodeFile) → f.data_words ≤ max_data_words →
    data_words_of (file_data f) ≡ Some f.data_words
words_back f h =
    one (natural_of (natural f.data_words)) f.data_words
    (λ n. if nat_le n max_data_words then Some n else None)
    (natural_read f.data_words (omega (arith, h)))
    ∙ if_true (nat_le f.data_words max_data_words) (Some f.data_words) None
    (le-leb f.data_words max_data_words h)

pub both : (ps : List NamedCode) → Each HasName ps → Each NamedFits ps → Each IsNamed ps
both [] h k = tt
both (p ∷ ps) h k = ((h.0, k.0), both ps h.1 k.1)

-- the law of reading
pub file_back : (f : CodeFile) → IsWholeCode f → file_of (file_data f) ≡ Some f
file_back f h =
    two (data_words_of (file_data f))
    (each_numbered named_code_of 0 (items_of (map code_data f.procs))) f.data_words f.procs
    (λ n ps. let made : CodeFile = record { data_words = n; procs = ps } in Some made)
    (words_back f h.file.words)
    (procs_back (λ (p : NamedCode). p.code) IsNamed named_code_of code_data named_back 0 f.procs
    h.file.numbered (both f.procs h.file.names h.fits))
