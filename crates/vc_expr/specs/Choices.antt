-- `&` and OR as values with a right side that can trap. A variable has what is given where the left
-- side decides; else control comes to a block that evaluates the right side, and gives its value to
-- the variable. Both ways lead to one more block.
use Rattle.std.specs.Prelude.{◌≡◌, ℕ, suc, ◌+◌, Bool, true, false, length}
use Rattle.pra_base.specs.Code.{block_of}
use Rattle.pra_base.specs.declared.code.VProc.{VProc}
use Rattle.ob_syntax.specs.declared.checked.ROp.{ROp}
use Rattle.ob_syntax.specs.declared.checked.ROp.TheVariants.{Either}
use Rattle.ob_syntax.specs.declared.checked.Value.{Value}
use Rattle.ob_syntax.specs.declared.checked.Value.TheVariants.{Truth}
use Rattle.vc_code.specs.Machine.{Activation, State}
use Rattle.vc_code.specs.Selected.{Vars}
use Rattle.vc_build.specs.Grow.{count, open_block, open_blocks, GrowsAt}
use Rattle.vc_build.specs.Runs.{Codes, Stands, RunsIn, SameBelow, Reaches}
use Rattle.vc_expr.specs.declared.branch.Targets.{Targets}
use Rattle.vc_expr.specs.declared.choice.Choice.{Choice}
use Rattle.vc_expr.specs.Operators.{Adds, HasValue}
use Rattle.vc_expr.specs.Branches.{Enters}

-- what the operator gives where its left side decides
abbrev pub decided : ROp → Bool
decided Either = true
decided _ = false

-- where the test of the left side leads
abbrev pub test_of : ROp → Choice → Targets
test_of Either choice = record { holds = choice.behind; fails = choice.right }
test_of _ choice = record { holds = choice.right; fails = choice.behind }

-- Two open blocks without instructions, at the depth of this one, and a new variable, which the
-- added code gives what stands where the left side decides.
pub record OpensChoice (op : ROp) (at : ℕ) (old new : VProc) (choice : Choice) : Type 0 where
  pub adds : Adds (length old.vars) at old new choice.target.0
  pub blocks : count new ≡ suc (suc (count old))
  pub waiting : open_blocks new ≡ 2 + open_blocks old
  pub right : choice.right.0 ≡ count old
  pub behind : choice.behind.0 ≡ suc (count old)
  pub right_block : block_of new choice.right.0 ≡ open_block (block_of old at).depth
  pub behind_block : block_of new choice.behind.0 ≡ open_block (block_of old at).depth
  pub means : (w : Codes) (id : ℕ) (s : State Vars) → RunsIn w id new s → Stands old at s.top →
      Reaches w s (λ c. Stands new at c × SameBelow (length old.vars) s.top c ×
      HasValue w id choice.target.0 c (Truth (decided op)))

-- Control comes to the block behind both ways, and the variable has the value.
pub record Arrives (w : Codes) (id : ℕ) (choice : Choice) (first : ℕ) (old : Activation Vars)
    (x : Value) (new : Activation Vars) : Type 0 where
  pub enters : Enters choice.behind.0 first old new
  pub has : HasValue w id choice.target.0 new x

-- The block at the end of the right side is closed, and the variable is given the right side's
-- value.
pub record ClosesChoice (at : ℕ) (old new : VProc) (v : ℕ) (choice : Choice) : Type 0 where
  pub grows : GrowsAt at old new
  pub means : (w : Codes) (id : ℕ) (s : State Vars) (x : Value) → RunsIn w id new s →
      Stands old at s.top → HasValue w id v s.top x →
      Reaches w s (Arrives w id choice choice.target.0 s.top x)
