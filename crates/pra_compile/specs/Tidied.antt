-- The code of a module: what its procedures are compiled from.
use Rattle.std.specs.Prelude.{◌≡◌, ℕ, zero, suc, List, [], length, Option, Some, None, slice_get}
use Rattle.cert_form.specs.declared.codes.CodeFile.{CodeFile}
use Rattle.cert_form.specs.declared.codes.NamedCode.{NamedCode}
use Rattle.ob_syntax.specs.declared.checked.Checked.{Checked}
use Rattle.ob_syntax.specs.declared.checked.CheckedProc.{CheckedProc}
use Rattle.pra_follow.specs.Tidied.{IsTidied}

abbrev pub own_name : Option CheckedProc → List ℕ
own_name (Some proc) = proc.name
own_name None = []

-- the name that is told of a procedure: of the module's body that of the module
abbrev pub name_of : Checked → ℕ → List ℕ
name_of program zero = program.name
name_of program (suc p) = own_name (slice_get program.procs (suc p))

-- procedure p of the module by its name, with tidy code that may stand in the place of what
-- selection answers for it
pub record IsNamedOf (program : Checked) (p : ℕ) (named : NamedCode) : Type 0 where
  pub name : named.name ≡ name_of program p
  pub tidied : IsTidied program p named.code

-- the first n procedures of the module, and its words of data
pub record IsCodeUpTo (program : Checked) (n : ℕ) (procs : List NamedCode) : Type 0 where
  pub count : length procs ≡ n
  pub each : (p : ℕ) (named : NamedCode) → slice_get procs p ≡ Some named →
      IsNamedOf program p named

-- The code of a module, as one could write it to a file: tidy code of each procedure, in order.
pub record IsCodeOfModule (program : Checked) (file : CodeFile) : Type 0 where
  pub procs : IsCodeUpTo program (length program.procs) file.procs
  pub data_words : file.data_words ≡ program.data_words
