-- The selected code of a procedure of a checked module.
use Rattle.std.specs.Prelude.{◌≡◌, ℕ, ◌+◌, ◌*◌, ◌≤◌, ◌∷◌, length, count_by}
use Rattle.pra_base.specs.Code.{is_plain}
use Rattle.pra_base.specs.Valid.{PushesBeforeCalls, TakesArgs, IsValid, IsSized, instruction_count}
use Rattle.pra_base.specs.declared.code.VProc.{VProc}
use Rattle.ob_syntax.specs.declared.checked.Checked.{Checked}
use Rattle.ob_syntax.specs.declared.checked.CheckedProc.{CheckedProc}
use Rattle.vc_expr.specs.Readable.{is_constant}
use Rattle.vc_same.specs.SameRuns.{SameRuns}
use Rattle.vc_order.specs.Order.{depths}
use Rattle.vc_stmt.specs.Depths.{depths_of_all}
use Rattle.vc_stmt.specs.Procedures.{Embodies}
pub use Rattle.vc_stmt.specs.Ready.{parameter_counts}
use Rattle.vc_typed.specs.TypedModules.{scalar_locals}

-- The code has no more than so much for each node of the procedure's statements. Besides there is
-- an instruction for each scalar local, and one that clears the aggregates; a Plain variable for
-- each scalar local; and the first block, and one behind the statements.
pub record KeepsCounts (proc : CheckedProc) (code : VProc) : Type 0 where
  pub instructions : instruction_count code.blocks ≤ 4 * proc.nodes + scalar_locals proc + 1
  pub blocks : length code.blocks ≤ 2 * proc.nodes + 2
  pub locals : count_by is_plain code.vars ≤ 3 * proc.nodes + scalar_locals proc
  pub constants : count_by is_constant code.vars ≤ 4 * proc.nodes

-- What selection answers for a procedure: code that embodies it, with its blocks in the order in
-- which they are listed. It is valid and sized, and each of its Calls has the Pushes that the
-- callee takes.
pub record IsSelected (program : Checked) (p : ℕ) (proc : CheckedProc) (code : VProc) : Type 0 where
  -- the code in the order of its making
  pub made : VProc
  pub embodies : Embodies program p made
  pub same : SameRuns made code
  pub id : code.id.0 ≡ p
  pub args : code.args ≡ length proc.params
  pub aggregates : code.aggregates ≡ proc.aggregate_words
  pub valid : IsValid code
  pub sized : IsSized code
  pub pushes : PushesBeforeCalls (TakesArgs (parameter_counts program)) code.blocks
  pub counts : KeepsCounts proc code
  -- the blocks stand as they are listed, each as deep as what it is made for
  pub depths : depths code ≡ 0 ∷ depths_of_all proc.body 0
