-- What is counted, and the nodes of what is left, are the nodes of the whole.
use Rattle.std.proofs.Common.{◌≡◌, ◌+◌, drop}
use Rattle.ob_syntax.specs.Declarations.{nodes_of}
use Rattle.ob_check.proofs.node.nodes_of.Given as goal

abbrev pub invariant-loop-statement : goal.invariant-loop-statement
invariant-loop-statement l =
    l.nodes + nodes_of l.tokens (drop l.statement-index l.body) ≡ nodes_of l.tokens l.body
