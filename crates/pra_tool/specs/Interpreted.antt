-- What is made of a source that runs by its meaning: a module by the meaning of modules, and code by
-- that of selected code.
use Rattle.std.specs.Prelude.{◌≡◌, ℕ, ℤ, List, [], ◌++◌}
use Rattle.ob_interp.specs.declared.interpret.UnitOut.{UnitOut}
use Rattle.ob_interp.specs.Told.{told}
use Rattle.ob_interp.specs.Units.{units_run}
use Rattle.ob_syntax.specs.declared.checked.Checked.{Checked}
use Rattle.pra_base.specs.declared.code.VModule.{VModule}
use Rattle.pra_compile.specs.declared.output.Compiled.{Compiled}
use Rattle.pra_compile.specs.Compiled.{codes_of, frames_of, module_of}
use Rattle.pra_report.specs.Report.{procedure_lines}
use Rattle.pra_report.specs.Texts.{output_text}
use Rattle.pra_words.specs.declared.words.FileKind.{FileKind}
use Rattle.pra_words.specs.declared.words.FileKind.TheVariants as a_file
use Rattle.pra_words.specs.Words.{Asked}
use Rattle.vc_run.specs.declared.out.CodeOut.{CodeOut}
use Rattle.vc_run.specs.Run.{code_run}
use Rattle.pra_tool.specs.declared.compiler.Made.{Made}
use Rattle.pra_tool.specs.declared.source.Meaning.{Meaning}
use Rattle.pra_tool.specs.declared.source.Meaning.TheVariants as meant
use Rattle.pra_tool.specs.declared.status.Status.{Status}
use Rattle.pra_tool.specs.Compiling.{MadeOf}
use Rattle.pra_tool.specs.Inputs.{HasNumbers}
use Rattle.pra_tool.specs.Status.{status_of_units, status_of_code}
use Rattle.pra_tool.specs.Texts.{units_line, code_line}
use Rattle.pra_tool.specs.Writes.{Writes}

-- ---- modules

-- the run of a module by its meaning, with the frames of what it is compiled to, until so many
-- units were begun and another is due
abbrev pub units_of : Checked → Compiled → List ℤ → ℕ → UnitOut
units_of program compiled input units =
    told (units_run program (frames_of compiled.procs) input units)

-- what `interp` writes of a module: the output of that run, and as notes the frames and the run's
-- ending line
abbrev pub units_writes : Compiled → UnitOut → Writes
units_writes compiled run = record {
  files = [];
  out = output_text run.events;
  notes = procedure_lines 0 compiled.procs ++ units_line run;
}

-- What `interp` makes of the text of a module and an input: the frames are those of what the module
-- is compiled to, and the status is by the ending of the module's run on the numbers of the input.
pub record InterpMakes (asked : Asked) (source input : List ℕ) (w : Writes) (s : Status)
    : Type 0 where
  pub made : Made
  pub made_of : MadeOf a_file.Module asked source made
  pub numbers : List ℤ
  pub has : HasNumbers input numbers
  pub writes : w ≡ units_writes made.compiled
      (units_of made_of.is.text.checked made.compiled numbers asked.steps)
  pub ended : s ≡ status_of_units
      (units_of made_of.is.text.checked made.compiled numbers asked.steps).ending

-- ---- code

-- what `interp` writes of code with the procedures that were kept: the output of its run, and as
-- notes the frames and the run's ending line
abbrev pub code_writes : Compiled → CodeOut → Writes
code_writes compiled run = record {
  files = [];
  out = output_text run.events;
  notes = procedure_lines 0 compiled.procs ++ code_line run;
}

-- the run of code within the steps, with the frames of what it is compiled to
abbrev pub run_of_code : VModule → Compiled → List ℤ → ℕ → CodeOut
run_of_code module_ compiled input steps =
    code_run module_ (frames_of compiled.procs) input steps

-- the code that was kept, which is what was compiled
abbrev pub code_kept : Compiled → VModule
code_kept compiled =
    record { procs = codes_of compiled.procs; data_words = compiled.image.data_words }

-- What `interp` makes of code and an input: the code of the file runs by its meaning on the numbers
-- of the input, with the frames of what it is compiled to, and the status is by the run's ending.
pub record CodeInterpMakes (asked : Asked) (source input : List ℕ) (w : Writes) (s : Status)
    : Type 0 where
  pub made : Made
  pub made_of : MadeOf a_file.Code asked source made
  pub numbers : List ℤ
  pub has : HasNumbers input numbers
  pub writes : w ≡ code_writes made.compiled
      (run_of_code (module_of made_of.sourced.file) made.compiled numbers asked.steps)
  pub ended : s ≡ status_of_code
      (run_of_code (module_of made_of.sourced.file) made.compiled numbers asked.steps).ending

-- ---- whatever FILE is

-- what is written of what was made, and its status, by what the source means
abbrev pub meant_writes : Meaning → Asked → Compiled → List ℤ → Writes
meant_writes (meant.Module program) asked compiled input =
    units_writes compiled (units_of program compiled input asked.steps)
meant_writes meant.Code asked compiled input =
    code_writes compiled (run_of_code (code_kept compiled) compiled input asked.steps)

abbrev pub meant_status : Meaning → Asked → Compiled → List ℤ → Status
meant_status (meant.Module program) asked compiled input =
    status_of_units (units_of program compiled input asked.steps).ending
meant_status meant.Code asked compiled input =
    status_of_code (run_of_code (code_kept compiled) compiled input asked.steps).ending

abbrev pub interp_makes : FileKind → Asked → (source input : List ℕ) → Writes → Status → Type 0
interp_makes a_file.Module = InterpMakes
interp_makes a_file.Code = CodeInterpMakes
