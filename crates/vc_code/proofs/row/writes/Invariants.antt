use Rattle.std.proofs.Common.{◌≡◌, ◌+◌, ◌++◌, length, map, take, option_to_list}
use Rattle.pra_base.specs.Operands.{settled, rewritten}
use Rattle.vc_code.specs.Rows.{roles_of, line_of}
use Rattle.vc_code.proofs.row.writes.Given as goal

abbrev pub invariant-loop-role : goal.invariant-loop-role
invariant-loop-role l = record {
  count : length l.writes.items ≡ length (option_to_list l.line.in_place) + l.role-index;
  so_far : roles_of l.writes.items ≡ map (rewritten (line_of l.line)) (line_of l.line).in_place
      ++ map (settled (line_of l.line)) (roles_of (take l.role-index l.role-items));
}
