-- What an image is to the module whose code it follows.
use Rattle.std.specs.Prelude.{◌≢◌, ℕ, ℤ, List, Some}
use Rattle.pra_base.specs.Agreement.{Agree, Carried}
use Rattle.pra_base.specs.RunEnd.{Wrong}
use Rattle.pra_base.specs.declared.code.VModule.{VModule}
use Rattle.pra_base.specs.declared.code.VProc.{VProc}
use Rattle.ob_mean.specs.Program.{mean}
use Rattle.ob_syntax.specs.declared.checked.Checked.{Checked}
use Rattle.ia_code.specs.declared.image.Image.{Image}
use Rattle.ia_step.specs.Run.{progress}

-- the code of a module with its words of data
abbrev pub with_data : Checked → List VProc → VModule
with_data program codes = record { procs = codes; data_words = program.data_words }

-- The image, run on this input, does what the module means with these frames of its procedures: it
-- carries each step of the meaning, ends as that ends and goes on where it does, and never meets a
-- fault.
pub record DoesAsMeant (program : Checked) (frames : List ℕ) (image : Image) (input : List ℤ)
    : Type 0 where
  pub carried : Carried (mean program frames input) (progress image input)
  pub agrees : Agree (mean program frames input) (progress image input)
  pub never_wrong : (m : ℕ) → (progress image input m).ending ≢ Some Wrong
