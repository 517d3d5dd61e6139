-- What stands while code is compiled.
use Rattle.std.specs.Prelude.{◌≡◌, ℕ, List, ◌++◌, length, map, slice_get, Some, ⊤}
use Rattle.cert_form.specs.declared.codes.CodeFile.{CodeFile}
use Rattle.cert_form.specs.declared.codes.NamedCode.{NamedCode}
use Rattle.ia_asm.specs.declared.counting.CountedAssembly.{CountedAssembly}
use Rattle.ia_asm.specs.Assembly.{IsCounted}
use Rattle.pra_compile.specs.declared.compiling.CompiledProc.{CompiledProc}
use Rattle.pra_compile.specs.declared.output.CompileFault.{CompileFault}
use Rattle.pra_compile.specs.declared.output.CompileFault.TheVariants.{TooLong, OutOfMemory}
use Rattle.pra_compile.specs.Compiled.{IsProcBy, IsTooLong, placed_of}
use Rattle.pra_compile.specs.Leaving.{Leaving}
use Rattle.pra_follow.specs.Codes.{Carriage, IsCarriage, AreCarriages}
use Rattle.pra_report.specs.declared.report.ProcOut.{ProcOut}

-- the code that is kept, by its name
abbrev pub named_of : ProcOut → NamedCode
named_of out = record { name = out.name; code = out.code }

-- procedure p was compiled
pub record IsCompiledProc (leaves : Leaving) (p : ℕ) (named : NamedCode) (compiled : CompiledProc)
    : Type 0 where
  pub carriage : Carriage
  pub is : IsCarriage carriage
  pub placed : carriage.placed ≡ compiled.placed
  pub kept : IsProcBy leaves p named compiled.out carriage

-- These procedures were compiled, in order of number, and of the file these are left.
pub record AreUnderway (file : CodeFile) (leaves : Leaving) (procs : List ProcOut)
    (left : List NamedCode) (assembly : CountedAssembly) : Type 0 where
  pub carriages : List Carriage
  pub are : AreCarriages carriages
  pub count : length carriages ≡ length procs
  pub each : (p : ℕ) (named : NamedCode) (out : ProcOut) (c : Carriage) →
      slice_get file.procs p ≡ Some named → slice_get procs p ≡ Some out →
      slice_get carriages p ≡ Some c → IsProcBy leaves p named out c
  pub same : map named_of procs ++ left ≡ file.procs
  pub counted : IsCounted (placed_of carriages) file.data_words assembly

-- why there is no image
abbrev pub IsFault : CodeFile → Leaving → CompileFault → Type 0
IsFault file leaves (TooLong count) = IsTooLong file leaves count
IsFault file leaves OutOfMemory = ⊤
