-- Instructions on numbers alone, of what their operands hold.
use Rattle.std.specs.Prelude.{◌≡◌, ℕ, List, [], ◌∷◌, Some}
use Rattle.pra_base.specs.Operands.{written_by}
use Rattle.pra_base.specs.declared.ids.VarId.{VarId}
use Rattle.pra_base.specs.declared.code.VInstr.{VInstr}
use Rattle.vc_code.specs.declared.action.Here.{Here}
use Rattle.vc_code.specs.declared.action.Action.TheVariants.{Compare}
use Rattle.vc_code.specs.Value.{Held}
use Rattle.vc_code.specs.Operation.{gives, operate}

-- the instruction writes one variable, which it gives this number wherever it stands
abbrev pub Gives : VInstr → VarId → ℕ → List Held → Type 0
Gives i v n held = (written_by i ≡ v.0 ∷ []) × ((here : Here) → operate here i held ≡ gives n)

-- the instruction writes nothing, and compares these numbers wherever it stands
abbrev pub Compares : VInstr → ℕ → ℕ → List Held → Type 0
Compares i a b held =
    (written_by i ≡ []) × ((here : Here) → operate here i held ≡ Some (Compare a b))
