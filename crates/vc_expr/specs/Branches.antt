-- What the code of conditions does: it leaves its block for one of two others.
use Rattle.std.specs.Prelude.{◌≡◌, ℕ, ◌⊎◌, Bool, if◌then◌else◌, length}
use Rattle.pra_base.specs.Code.{IsTarget}
use Rattle.pra_base.specs.declared.code.End.{End}
use Rattle.pra_base.specs.declared.code.VProc.{VProc}
use Rattle.ob_syntax.specs.Operators.{is_true}
use Rattle.ob_syntax.specs.declared.checked.ROp.{ROp}
use Rattle.ob_syntax.specs.declared.checked.Value.{Value}
use Rattle.vc_code.specs.Machine.{Activation, State}
use Rattle.vc_code.specs.Selected.{Vars}
use Rattle.vc_build.specs.Grow.{GrowsAt}
use Rattle.vc_build.specs.Runs.{Codes, Stands, RunsIn, SameBelow, Reaches, Yields}
use Rattle.vc_expr.specs.declared.branch.Targets.{Targets}
use Rattle.vc_expr.specs.Operators.{HasValue, of_values}

-- The call stands at the begin of a block, and its variables below a number are as they were.
pub record Enters (b n : ℕ) (old new : Activation Vars) : Type 0 where
  pub block : new.home.block ≡ b
  pub index : new.home.index ≡ 0
  pub same : SameBelow n old new

abbrev pub chosen : Targets → Bool → ℕ
chosen targets b = if b then targets.holds.0 else targets.fails.0

-- an end leads to the two blocks, and to no other
abbrev pub LeadsOnlyTo : Targets → End → Type 0
LeadsOnlyTo targets end =
    (t : ℕ) → IsTarget end t → (targets.holds.0 ≡ t) ⊎ (targets.fails.0 ≡ t)

-- The block is closed. From variables with values of the sides it is left by whether the
-- relation holds.
pub record BranchesBy
    (op : ROp) (at : ℕ) (old new : VProc) (left right : ℕ) (targets : Targets) : Type 0 where
  pub grows : GrowsAt at old new
  pub means : (w : Codes) (id : ℕ) (s : State Vars) (x y : Value) → RunsIn w id new s →
      Stands old at s.top → HasValue w id left s.top x → HasValue w id right s.top y →
      Yields w s (λ z c. Enters (chosen targets (is_true z)) (length old.vars) s.top c)
      (of_values op x y)

-- The same by a truth value.
pub record BranchesOn (at : ℕ) (old new : VProc) (v : ℕ) (targets : Targets) : Type 0 where
  pub grows : GrowsAt at old new
  pub means : (w : Codes) (id : ℕ) (s : State Vars) (x : Value) → RunsIn w id new s →
      Stands old at s.top → HasValue w id v s.top x →
      Reaches w s (Enters (chosen targets (is_true x)) (length old.vars) s.top)
