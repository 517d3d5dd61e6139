-- Running an image is a mode, and the ends of such a call.
use Rattle.std.proofs.Common.{◌≡◌, sym, ap, subst, ℕ, ℤ, List, []}
use Rattle.ia_asm.specs.Rules.{IsFileOf}
use Rattle.ia_code.specs.declared.image.Image.{Image}
use Rattle.ia_step.specs.declared.out.Ending.{Ending}
use Rattle.ia_step.specs.declared.out.Ending.TheVariants as ending
use Rattle.ia_step.specs.Run.{machine_run}
use Rattle.pra_words.specs.Words.{Asked}
use Rattle.pra_tool.specs.declared.status.Status.{Status}
use Rattle.pra_tool.specs.Status.{IsDone, status_of_machine}
use Rattle.pra_tool.specs.Outside.{Seen}
use Rattle.pra_tool.specs.Writes.{Writes, names, Wrote}
use Rattle.pra_tool.specs.Inputs.{HasGiven}
use Rattle.pra_tool.specs.Modes.{IsMode}
use Rattle.pra_tool.specs.Ends.{Ends}
use Rattle.pra_tool.specs.Ends as ends
use Rattle.pra_tool.specs.Executed.{exec_writes, ExecMakes}
use Rattle.pra_tool.specs.Clause.{executing}
use Rattle.pra_tool.proofs.CompilingModes.{inputs_are_a_kind}
use Rattle.pra_tool.proofs.ListingModes.{loadable_is_a_kind}

machine_done : (e : Ending) → IsDone (status_of_machine e)
machine_done ending.Going = tt
machine_done x = tt

pub exec_names : (asked : Asked) (file input : List ℕ) (w : Writes) (s : Status) →
    ExecMakes asked file input w s → names w.files ≡ []
exec_names asked file input w s made = ap (λ (x : Writes). names x.files) made.writes

pub executing_is_a_mode : (asked : Asked) → IsMode (executing asked)
executing_is_a_mode asked = record {
  source = loadable_is_a_kind;
  input = inputs_are_a_kind;
  right = λ file input w s made. ((made.image, made.held), (made.numbers, made.has));
  done = λ file input w s made. subst IsDone (sym made.ended) (machine_done _);
  right_then = λ file input line s r. absurd r;
  refuses = λ file input line s r. absurd r;
  writes = exec_names asked;
}

-- what `exec` made was written, as far as writing went
pub exec_ends : (asked : Asked) (image : Image) (numbers : List ℤ) (w : Writes) (s : Status)
    (old new : Seen) (result : Status) → HasGiven old.input new.input numbers →
    w ≡ exec_writes (machine_run image numbers asked.steps) →
    s ≡ status_of_machine (machine_run image numbers asked.steps).ending →
    Wrote w s old new result → (file : List ℕ) → IsFileOf file image →
    Ends (executing asked) file old new result
exec_ends asked image numbers w s old new result given is ended wrote file held =
    ends.wrote given.bytes given.taken given.left w s
    (record {
      image = image;
      held = held;
      numbers = numbers;
      has = given.has;
      writes = is;
      ended = ended;
    }) wrote
