use Rattle.std.proofs.Common.{◌+◌, ◌≤◌, length}
use Rattle.ob_lex.proofs.OpenComments.{Leads}
use Rattle.ob_lex.proofs.piece.behind_comment.Given as goal

abbrev pub invariant-loop-depth : goal.invariant-loop-depth
invariant-loop-depth l =
    record {
      deep : l.depth + length l.rest ≤ length l.inside + 1;
      leads : Leads l.inside l.depth l.rest;
    }

abbrev pub decreases-loop-depth : goal.decreases-loop-depth
decreases-loop-depth l = length l.rest
