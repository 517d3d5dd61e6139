use Rattle.std.proofs.Common.{◌≡◌, length, map, take}
use Rattle.pra_base.specs.Operands.{settled}
use Rattle.vc_code.specs.Rows.{roles_of, line_of}
use Rattle.vc_code.proofs.row.reads.Given as goal

abbrev pub invariant-loop-role : goal.invariant-loop-role
invariant-loop-role l = record {
  count : length l.reads.items ≡ l.role-index;
  so_far : roles_of l.reads.items ≡ map (settled (line_of l.line))
      (roles_of (take l.role-index l.role-items));
}
