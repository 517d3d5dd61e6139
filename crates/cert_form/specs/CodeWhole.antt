-- Which code files a text may hold, and what reading a text answers.
use Rattle.std.specs.Prelude.{◌≡◌, ◌<◌, ◌≤◌, ◌⊎◌, ℕ, List, [], ◌∷◌, length, IsTrue, Result, Ok, Err}
use Rattle.serde_json.specs.Data.{Data}
use Rattle.pra_list.specs.Each.{Each}
use Rattle.ia_code.specs.Image.{max_data_words}
use Rattle.cert_form.specs.declared.codes.NamedCode.{NamedCode}
use Rattle.cert_form.specs.declared.codes.CodeFile.{CodeFile}
use Rattle.cert_form.specs.declared.code_files.CodeFault.{CodeFault}
use Rattle.cert_form.specs.declared.code_files.CodeFault.TheVariants.{NotJson, NotCode, OutOfMemory}
use Rattle.cert_form.specs.CodeForm.{is_name, file_data}
use Rattle.cert_form.specs.Whole.{CodeFits, CodesAreNumbered, IsReadAs, IsNoJson}

abbrev pub HasName : NamedCode → Type 0
HasName p = IsTrue (is_name p.name)

-- Procedure 0, where a run begins, takes no arguments.
abbrev pub BodyTakesNone : List NamedCode → Type 0
BodyTakesNone [] = Unit {0}
BodyTakesNone (body ∷ ps) = body.code.args ≡ 0

-- what a code file keeps, besides that its numbers are in their types
pub record IsCodeFile (f : CodeFile) : Type 0 where
  pub some : 0 < length f.procs
  pub numbered : CodesAreNumbered (λ (p : NamedCode). p.code) 0 f.procs
  pub names : Each HasName f.procs
  pub body : BodyTakesNone f.procs
  pub words : f.data_words ≤ max_data_words

abbrev pub NamedFits : NamedCode → Type 0
NamedFits p = CodeFits p.code

-- what a text may hold
pub record IsWholeCode (f : CodeFile) : Type 0 where
  pub file : IsCodeFile f
  pub fits : Each NamedFits f.procs

-- a value is that of no whole code file
abbrev pub IsOfNoCode : Data → Type 0
IsOfNoCode d = (f : CodeFile) → IsWholeCode f → d ≡ file_data f → ⊥

-- What reading answers: the whole code file whose value the bytes are read as; or that no value is
-- read; or that a value is read which is that of no whole code file.
abbrev pub ReadsCode : List ℕ → Result CodeFile CodeFault → Type 0
ReadsCode bytes (Ok f) = IsReadAs bytes (file_data f) × IsWholeCode f
ReadsCode bytes (Err NotJson) = IsNoJson bytes
ReadsCode bytes (Err NotCode) = (d : Data) × IsReadAs bytes d × IsOfNoCode d
ReadsCode bytes (Err OutOfMemory) = Unit {0}

-- reading answers this code file, or want of memory
abbrev pub IsCodeReadAgain : CodeFile → List ℕ → Type 0
IsCodeReadAgain f bytes =
    (answer : Result CodeFile CodeFault) → ReadsCode bytes answer →
    (answer ≡ Ok f) ⊎ (answer ≡ Err OutOfMemory)
