-- The depths of the blocks that are made for statements, in the order in which they are listed:
-- that of the text, but that the test of a WHILE stands behind its statements. The depth of a block
-- is how many loops of the text stand around what the block is made for, at most 5: a condition of
-- WHILE or REPEAT stands in its loop, as the statements do.
use Rattle.std.specs.Prelude.{ℕ, ◌+◌, List, [], ◌∷◌, ◌++◌, map, sum, replicate}
use Rattle.ob_syntax.specs.declared.checked.RArg.{RArg}
use Rattle.ob_syntax.specs.declared.checked.RArg.TheVariants.{Value, Lent}
use Rattle.ob_syntax.specs.declared.checked.RArm.{RArm, RArm-F, out-RArm, fold-RArm}
use Rattle.ob_syntax.specs.declared.checked.RStmt.{RStmt, RStmt-F, fold-RStmt}
use Rattle.vc_select.specs.Blocks.{needs, needs_of_var}
use Rattle.vc_stmt.specs.Blocks.{deeper}

-- by how many loops stand around the statement
abbrev pub Depths : Type 0
Depths = ℕ → List ℕ

-- one after the other
abbrev pub in_all : List Depths → Depths
in_all [] d = []
in_all (f ∷ fs) d = f d ++ in_all fs d

-- the blocks for the condition of an arm, one for its statements with theirs, and one behind it,
-- which is that of the next arm or of ELSE, or what follows the IF
abbrev pub arm_depths : RArm-F Depths Depths → Depths
arm_depths arm d = replicate (needs arm.test).test d ++ d ∷ (in_all arm.body d ++ d ∷ [])

-- the arms, and behind ELSE its statements with a block for what follows
abbrev pub if_depths : List Depths → List Depths → Depths
if_depths [] other d = in_all other d
if_depths (arm ∷ arms) [] d = in_all (arm ∷ arms) d
if_depths (arm ∷ arms) (t ∷ ts) d = in_all (arm ∷ arms) d ++ (in_all (t ∷ ts) d ++ d ∷ [])

-- a block for the statements with theirs, one for the test with its other blocks, and one behind
abbrev pub loop_depths : ℕ → Depths → Depths
loop_depths tests body d =
    deeper d ∷ (body (deeper d) ++ deeper d ∷ (replicate tests (deeper d) ++ d ∷ []))

abbrev pub blocks_of_argument : RArg → ℕ
blocks_of_argument (Value e) = (needs e).value
blocks_of_argument (Lent v) = (needs_of_var v).blocks

abbrev pub blocks_of_arguments : List RArg → ℕ
blocks_of_arguments args = sum (map blocks_of_argument args)

abbrev pub stmt_depths : RStmt-F Depths Depths → Depths
stmt_depths (RStmt-F.Assign v e) d = replicate ((needs_of_var v).blocks + (needs e).value) d
stmt_depths (RStmt-F.If arms other) d = if_depths arms other d
stmt_depths (RStmt-F.While test body) d = loop_depths (needs test).test (in_all body) d
stmt_depths (RStmt-F.Repeat body test) d = loop_depths (needs test).test (in_all body) d
stmt_depths (RStmt-F.Call callee args) d = replicate (blocks_of_arguments args) d
stmt_depths (RStmt-F.Read v) d = replicate (needs_of_var v).blocks d
stmt_depths (RStmt-F.Write e) d = replicate (needs e).value d
stmt_depths RStmt-F.WriteLine d = []

abbrev pub depths_of : RStmt → Depths
depths_of = fold-RStmt Depths Depths stmt_depths arm_depths

abbrev pub depths_of_arm : RArm → Depths
depths_of_arm = fold-RArm Depths Depths stmt_depths arm_depths

abbrev pub depths_of_all : List RStmt → Depths
depths_of_all ts = in_all (map depths_of ts)

abbrev pub depths_of_arms : List RArm → Depths
depths_of_arms arms = in_all (map depths_of_arm arms)

-- the depths for the last arm without ELSE, behind which stands what follows the IF
abbrev pub end_depths : RArm → Depths
end_depths arm d =
    replicate (needs (out-RArm arm).test).test d
    ++ d ∷ depths_of_all (out-RArm arm).body d
