-- What FILE is to the modes that compile it: the text of a module, or code of procedures.
use Rattle.std.specs.Prelude.{◌≡◌, ℕ, ◌<◌, ◌≤◌, List, length, slice_get, Some, Ok, Err}
use Rattle.pra_base.specs.declared.code.VProc.{VProc}
use Rattle.pra_base.specs.declared.limit.LimitKind.TheVariants as quantity
use Rattle.pra_base.specs.Valid.{counts_of}
use Rattle.cert_form.specs.declared.codes.CodeFile.{CodeFile}
use Rattle.cert_form.specs.declared.code_files.CodeFault.TheVariants as unread
use Rattle.cert_form.specs.CodeWhole.{ReadsCode}
use Rattle.ob_read.specs.declared.fault.LimitFault.TheVariants as limit
use Rattle.ob_read.specs.declared.fault.ReadFault.{ReadFault}
use Rattle.ob_read.specs.declared.fault.ReadFault.TheVariants as read
use Rattle.ob_syntax.specs.declared.checked.Checked.{Checked}
use Rattle.ob_read.specs.Source.{ReadText, IsRead, IsUnreadable}
use Rattle.pra_compile.specs.Compiled.{IsRunnable, codes_in}
use Rattle.pra_compile.specs.Tidied.{IsCodeOfModule}
use Rattle.pra_report.specs.Report.{most_procs}
use Rattle.pra_words.specs.declared.words.FileKind.{FileKind}
use Rattle.pra_words.specs.declared.words.FileKind.TheVariants as a_file
use Rattle.vc_valid.specs.Listed.{HasCode}
use Rattle.pra_tool.specs.declared.source.CodeWrong.{CodeWrong}
use Rattle.pra_tool.specs.declared.source.CodeWrong.TheVariants as wrong
use Rattle.pra_tool.specs.declared.source.Meaning.TheVariants as meant
use Rattle.pra_tool.specs.declared.source.SourceFault.{SourceFault}
use Rattle.pra_tool.specs.declared.source.SourceFault.TheVariants as fault
use Rattle.pra_tool.specs.declared.source.Sourced.{Sourced}
use Rattle.pra_tool.specs.declared.status.Status.{Status}
use Rattle.pra_tool.specs.declared.status.Status.TheVariants.{BadSource, OverLimit, NoMemory}
use Rattle.pra_tool.specs.Modes.{Kind}
use Rattle.pra_tool.specs.Texts.{source_line}

-- ---- code

-- the most bytes of a code file
abbrev pub most_code : ℕ
most_code = 16777216

-- The source is the text of this code, which can run as it stands.
pub record IsCodeText (source : List ℕ) (file : CodeFile) : Type 0 where
  pub few : length source ≤ most_code
  pub read : ReadsCode source (Ok file)
  pub runnable : IsRunnable file

-- the first n codes of a list are what they have to be there
abbrev pub HaveCodeUpTo : List VProc → ℕ → Type 0
HaveCodeUpTo codes n = (q : ℕ) (code : VProc) → q < n → slice_get codes q ≡ Some code →
    HasCode (counts_of codes) q code

-- This one breaks a rule, and all before it are what they have to be.
pub record BreaksFirst (codes : List VProc) (p : ℕ) : Type 0 where
  pub before : HaveCodeUpTo codes p
  pub code : VProc
  pub there : slice_get codes p ≡ Some code
  pub broken : HasCode (counts_of codes) p code → ⊥

-- procedure p is the first whose code breaks a rule
abbrev pub IsFirstBroken : CodeFile → ℕ → Type 0
IsFirstBroken file p = BreaksFirst (codes_in file) p

-- The source is the text of code of so many procedures, which are too many.
pub record HasTooMany (source : List ℕ) (count : ℕ) : Type 0 where
  pub file : CodeFile
  pub few : length source ≤ most_code
  pub read : ReadsCode source (Ok file)
  pub count_is : count ≡ length file.procs
  pub many : most_procs < count

-- The source is the text of code of which this procedure is the first to break a rule.
pub record HasBroken (source : List ℕ) (p : ℕ) : Type 0 where
  pub file : CodeFile
  pub few : length source ≤ most_code
  pub read : ReadsCode source (Ok file)
  pub few_procs : length file.procs ≤ most_procs
  pub first : IsFirstBroken file p

-- what is wrong with a source that is no text of such code
abbrev pub IsNoCode : List ℕ → CodeWrong → Type 0
IsNoCode source wrong.TooLong = most_code < length source
IsNoCode source wrong.NotJson =
    (length source ≤ most_code) × ReadsCode source (Err unread.NotJson)
IsNoCode source wrong.NotCode =
    (length source ≤ most_code) × ReadsCode source (Err unread.NotCode)
IsNoCode source (wrong.Procedures count) = HasTooMany source count
IsNoCode source (wrong.Broken p) = HasBroken source p

-- ---- what a source is

-- The source is a text of this module.
pub record IsModuleOf (source : List ℕ) (checked : Checked) : Type 0 where
  pub text : ReadText
  pub read : IsRead source text
  pub is : checked ≡ text.checked

-- The source is the text of a module, and this is its code.
pub record IsModuleSource (source : List ℕ) (sourced : Sourced) : Type 0 where
  pub text : ReadText
  pub read : IsRead source text
  pub meaning : sourced.meaning ≡ meant.Module text.checked
  pub code : IsCodeOfModule text.checked sourced.file

-- The source is the text of this code, and means nothing else.
pub record IsCodeSource (source : List ℕ) (sourced : Sourced) : Type 0 where
  pub meaning : sourced.meaning ≡ meant.Code
  pub text : IsCodeText source sourced.file

-- what a source of this kind means, and the code that is compiled of it
abbrev pub IsSourced : FileKind → List ℕ → Sourced → Type 0
IsSourced a_file.Module source sourced = IsModuleSource source sourced
IsSourced a_file.Code source sourced = IsCodeSource source sourced

-- ---- the sources as a kind

-- the most bytes of a source
abbrev pub most_source : FileKind → ℕ
most_source a_file.Module = 1048576
most_source a_file.Code = most_code

-- what is told of a source that has more
abbrev pub over_fault : FileKind → SourceFault
over_fault a_file.Module = fault.Module (read.Limit (limit.Count quantity.Source 1048577))
over_fault a_file.Code = fault.Code wrong.TooLong

-- what is wrong with a source
abbrev pub IsWrongSource : FileKind → List ℕ → SourceFault → Type 0
IsWrongSource a_file.Module source (fault.Module f) = IsUnreadable source f
IsWrongSource a_file.Code source (fault.Code f) = IsNoCode source f
IsWrongSource a_file.Module source f = ⊥
IsWrongSource a_file.Code source f = ⊥

-- the status of a source that is not compiled
abbrev pub fault_status : ReadFault → Status
fault_status (read.Source f) = BadSource
fault_status (read.Limit f) = OverLimit
fault_status read.OutOfMemory = NoMemory

abbrev pub code_status : CodeWrong → Status
code_status wrong.TooLong = OverLimit
code_status wrong.NotJson = BadSource
code_status wrong.NotCode = BadSource
code_status (wrong.Procedures count) = OverLimit
code_status (wrong.Broken p) = BadSource

abbrev pub source_status : SourceFault → Status
source_status (fault.Module f) = fault_status f
source_status (fault.Code f) = code_status f
source_status fault.OutOfMemory = NoMemory

-- a source that is compiled: the text of a module, or of code that can run
abbrev pub IsSource : FileKind → List ℕ → Type 0
IsSource a_file.Module source = (text : ReadText) × IsRead source text
IsSource a_file.Code source = (file : CodeFile) × IsCodeText source file

abbrev pub source_kind : FileKind → Kind
source_kind kind = record {
  Wrong = SourceFault;
  IsWrong = IsWrongSource kind;
  line = source_line;
  status = source_status;
  IsRight = IsSource kind;
}
