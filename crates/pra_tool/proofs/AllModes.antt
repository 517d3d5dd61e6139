-- Each word asks for a mode.
use Rattle.std.proofs.Common.{inl}
use Rattle.pra_words.specs.declared.words.Mode.{Mode as Word}
use Rattle.pra_words.specs.declared.words.Mode.TheVariants as word
use Rattle.pra_words.specs.Words.{Asked}
use Rattle.pra_tool.specs.declared.tool.Then.TheVariants.{Run, Write, Interpret, Certify}
use Rattle.pra_tool.specs.Outside.{Seen, Untouched}
use Rattle.pra_tool.specs.Modes.{IsMode}
use Rattle.pra_tool.specs.Clause.{mode_by}
use Rattle.pra_tool.proofs.CompilingModes.{compiling_is_a_mode}
use Rattle.pra_tool.proofs.Generating.{generating_is_a_mode}
use Rattle.pra_tool.proofs.ListingModes.{listing_is_a_mode, assembling_is_a_mode}
use Rattle.pra_tool.proofs.CertModes.{checking_is_a_mode}
use Rattle.pra_tool.proofs.ExecModes.{executing_is_a_mode}
use Rattle.pra_tool.proofs.ApplyModes.{applying_is_a_mode}

pub all_are_modes : (mode : Word) (asked : Asked) → IsMode (mode_by mode asked)
all_are_modes word.Run asked = compiling_is_a_mode Run asked
all_are_modes word.Compile asked = compiling_is_a_mode Write asked
all_are_modes word.Gen asked = generating_is_a_mode asked
all_are_modes word.Interp asked = compiling_is_a_mode Interpret asked
all_are_modes word.List asked = listing_is_a_mode
all_are_modes word.Asm asked = assembling_is_a_mode asked
all_are_modes word.Cert asked = compiling_is_a_mode Certify asked
all_are_modes word.Check asked = checking_is_a_mode
all_are_modes word.Exec asked = executing_is_a_mode asked
all_are_modes word.Apply asked = applying_is_a_mode asked

-- where memory was wanting, each leaves everything as it was
pub leaves_all : (mode : Word) (asked : Asked) (old new : Seen) → Untouched old new →
    (mode_by mode asked).Leaves old new
leaves_all word.Gen asked old new left = inl left
leaves_all x asked old new left = left
