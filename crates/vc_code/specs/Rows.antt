-- What the answer of `operands` stands for: a row of the operand table.
use Rattle.std.specs.Prelude.{ℕ, ◌+◌, ◌≤◌, List, map, length, Option, option_to_list}
use Rattle.pra_base.specs.declared.ids.VarId.{VarId}
use Rattle.pra_base.specs.Operands.{Line, Row}
use Rattle.pra_base.specs.Operands as base
use Rattle.vc_code.specs.declared.row.Role.{Role}
use Rattle.vc_code.specs.declared.row.Printed.{Printed}
use Rattle.vc_code.specs.declared.row.OperandRow.{OperandRow}

abbrev pub role_of : Role → base.Role
role_of role = record { var = role.var.0; mask = role.mask; memory = role.memory }

abbrev pub roles_of : List Role → List base.Role
roles_of roles = map role_of roles

abbrev pub row_of : OperandRow → Row
row_of row = record {
  reads = roles_of row.reads.items;
  writes = roles_of row.writes.items;
  clobbers = row.clobbers;
}

abbrev pub named : Option VarId → List ℕ
named v = map (λ v. v.0) (option_to_list v)

abbrev pub printed : List Role → Option VarId → List Role → ℕ → Line
printed reads in_place writes clobbers =
    base.line (roles_of reads) (named in_place) (roles_of writes) clobbers

abbrev pub line_of : Printed → Line
line_of line = printed line.reads.items line.in_place line.writes.items line.clobbers

-- what is written where it was read, and what is only written, are two at most
abbrev pub Fits : Option VarId → List Role → Type 0
Fits in_place writes = length (option_to_list in_place) + length writes ≤ 2
