-- What is made of an image file that runs.
use Rattle.std.specs.Prelude.{◌≡◌, ℕ, ℤ, List, []}
use Rattle.ia_asm.specs.Rules.{IsFileOf}
use Rattle.ia_code.specs.declared.image.Image.{Image}
use Rattle.ia_step.specs.declared.out.RunOut.{RunOut}
use Rattle.ia_step.specs.Run.{machine_run}
use Rattle.pra_report.specs.Texts.{output_text}
use Rattle.pra_words.specs.Words.{Asked}
use Rattle.pra_tool.specs.declared.status.Status.{Status}
use Rattle.pra_tool.specs.Inputs.{HasNumbers}
use Rattle.pra_tool.specs.Status.{status_of_machine}
use Rattle.pra_tool.specs.Texts.{ending_line}
use Rattle.pra_tool.specs.Writes.{Writes}

-- what `exec` writes of a run: its output, and as notes its ending line
abbrev pub exec_writes : RunOut → Writes
exec_writes run = record {
  files = [];
  out = output_text run.events;
  notes = ending_line run;
}

-- What `exec` makes of a file and an input: the file is that of an image, which runs on the numbers
-- of the input within the steps, and the status is by the run's ending. It may be any image, so it
-- may also come to a fault of the machine.
pub record ExecMakes (asked : Asked) (file input : List ℕ) (w : Writes) (s : Status)
    : Type 0 where
  pub image : Image
  pub held : IsFileOf file image
  pub numbers : List ℤ
  pub has : HasNumbers input numbers
  pub writes : w ≡ exec_writes (machine_run image numbers asked.steps)
  pub ended : s ≡ status_of_machine (machine_run image numbers asked.steps).ending
