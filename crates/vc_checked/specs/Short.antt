-- How much of a checked module there is at most: each node and each scalar local of a procedure is
-- a token of its own, and a source has at most 65,536 tokens.
use Rattle.std.specs.Prelude.{ℕ, ◌+◌, ◌≤◌}
use Rattle.std.specs.List.{sum_by}
use Rattle.ob_syntax.specs.declared.checked.Checked.{Checked}
use Rattle.vc_typed.specs.TypedModules.{scalar_locals}

-- the nodes and the scalar locals of all procedures
abbrev pub nodes_and_locals : Checked → ℕ
nodes_and_locals program = sum_by (λ p. p.nodes + scalar_locals p) program.procs

-- They are no more than a source may have tokens.
abbrev pub IsShort : Checked → Type 0
IsShort program = nodes_and_locals program ≤ 65536
