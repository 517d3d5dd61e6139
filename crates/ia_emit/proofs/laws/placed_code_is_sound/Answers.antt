use Rattle.ia_emit.proofs.NearCells.{cells_hold}
use Rattle.ia_emit.proofs.Soundness.{proc_sound}
use Rattle.ia_emit.proofs.laws.placed_code_is_sound.Goals as goal

pub returns : goal.returns
returns c = λ p small is. proc_sound p (cells_hold p small is)
    (λ j b m i places e f. is.operands_placed j m i places (b, e, f))
