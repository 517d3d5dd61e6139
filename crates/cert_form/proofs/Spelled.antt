-- Kinds, instructions and ends are rows of a word and operands.
use Rattle.std.proofs.Common.{◌≡◌, ◌≤◌, length, refl, arith}
use Rattle.pra_list.specs.Each.{Each}
use Rattle.pra_base.specs.declared.code.VarKind.{VarKind}
use Rattle.pra_base.specs.declared.code.VarKind.TheVariants.{Param, Plain, Constant}
use Rattle.pra_base.specs.declared.code.VInstr.{VInstr}
use Rattle.pra_base.specs.declared.code.VInstr.TheVariants as instr
use Rattle.pra_base.specs.declared.code.End.{End}
use Rattle.pra_base.specs.declared.code.End.TheVariants.{Jump, Branch, Return}
use Rattle.cert_form.specs.Table.{name, form_of, operands_of}
use Rattle.cert_form.specs.Form.{kind_data, instruction_data, end_data}
use Rattle.cert_form.specs.Reading.{kind_of, instruction_of, end_of}
use Rattle.cert_form.specs.Whole.{KindFits, InstructionFits, EndFits, OperandFits}
use Rattle.cert_form.specs.Streams.{kind_word, kind_operands, end_word, end_operands, spelled}
use Rattle.cert_form.specs.Streams.{AreSpelled}
use Rattle.cert_form.proofs.PartsFit.{kind_fits, instruction_fits, end_fits}
use Rattle.cert_form.proofs.PartsRead.{kind_read, instruction_read, end_read}

kind_spells : (k : VarKind) → kind_data k ≡ spelled (kind_word k) (kind_operands k)
kind_spells (Param i) = refl
kind_spells k = refl

kind_few : (k : VarKind) → length (kind_operands k) ≤ 4
kind_few (Param i) = omega arith
kind_few k = omega arith

kind_operands_fit : (k : VarKind) → KindFits k → Each OperandFits (kind_operands k)
kind_operands_fit (Param i) h = (h, tt)
kind_operands_fit Plain h = tt
kind_operands_fit (Constant c) h = (h, tt)

pub kinds_spelled : AreSpelled kind_of kind_data KindFits kind_word kind_operands
kinds_spelled = record {
  spells = kind_spells;
  few = kind_few;
  fit = kind_operands_fit;
  back = kind_read;
  found = kind_fits;
}

instruction_few : (i : VInstr) → length (operands_of i) ≤ 4
instruction_few (instr.Set v c) = omega arith
instruction_few i = omega arith

pub instructions_spelled : AreSpelled instruction_of instruction_data InstructionFits
    (λ i. name (form_of i)) operands_of
instructions_spelled = record {
  spells = λ i. refl;
  few = instruction_few;
  fit = λ i h. h;
  back = instruction_read;
  found = instruction_fits;
}

end_spells : (e : End) → end_data e ≡ spelled (end_word e) (end_operands e)
end_spells (Jump b) = refl
end_spells e = refl

end_few : (e : End) → length (end_operands e) ≤ 4
end_few (Jump b) = omega arith
end_few e = omega arith

end_operands_fit : (e : End) → EndFits e → Each OperandFits (end_operands e)
end_operands_fit (Jump b) h = (h, tt)
end_operands_fit (Branch k taken other) h = (tt, (h.0, (h.1, tt)))
end_operands_fit Return h = tt

pub ends_spelled : AreSpelled end_of end_data EndFits end_word end_operands
ends_spelled = record {
  spells = end_spells;
  few = end_few;
  fit = end_operands_fit;
  back = end_read;
  found = end_fits;
}
