-- What a call leaves that has compiled FILE, from there on.
use Rattle.std.specs.Prelude.{◌≡◌, ℕ, List, true, codes}
use Rattle.pra_io.specs.Causes.{Rose}
use Rattle.pra_tool.specs.declared.status.Status.{Status}
use Rattle.pra_tool.specs.declared.status.Status.TheVariants.{Fault, NoMemory}
use Rattle.pra_tool.specs.Modes.{Mode, IsInput, IsLeft, TextRefused}
use Rattle.pra_tool.specs.Outside.{Seen, Refused, Untouched}
use Rattle.pra_tool.specs.Writes.{Writes, Wrote}

-- The input is refused, or was not read; memory was wanting before anything was written; what was
-- made of the source and the input is refused; or it was written, as far as writing went.
pub data Ends (m : Mode) (source : List ℕ) (old new : Seen) (status : Status) : Type 0 where
  refused : (input : List ℕ) → IsInput m.reads_input old.input input →
      TextRefused m.input input old new status → Ends m source old new status
  unread : m.reads_input ≡ true → status ≡ Fault → Rose old.input.faults new.input.faults →
      Refused (codes "fault read input\n") old new → Ends m source old new status
  wanting : status ≡ NoMemory → Untouched old new → Ends m source old new status
  over : (input : List ℕ) → IsInput m.reads_input old.input input →
      IsLeft m.reads_input old.input new.input → (line : List ℕ) →
      m.Refuses source input line status → Refused line old new → Ends m source old new status
  wrote : (input : List ℕ) → IsInput m.reads_input old.input input →
      IsLeft m.reads_input old.input new.input → (w : Writes) → (s : Status) →
      m.Makes source input w s → Wrote w s old new status → Ends m source old new status
