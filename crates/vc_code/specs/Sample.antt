-- A module of selected code that has each kind of thing that a rule of valid selected code speaks
-- of: aggregates that are cleared, a word that is loaded, a constant, a division, an index that is
-- checked, an argument that is pushed, a call, a parameter, and a branch behind its comparison.
use Rattle.std.specs.Prelude.{pos, List, [], ◌∷◌, None}
use Rattle.pra_base.specs.declared.ids.Cond.TheVariants.{E}
use Rattle.pra_base.specs.declared.ids.VarId.{VarId}
use Rattle.pra_base.specs.declared.ids.BlockId.{BlockId}
use Rattle.pra_base.specs.declared.ids.ProcId.{ProcId}
use Rattle.pra_base.specs.declared.code.Addr.{Addr}
use Rattle.pra_base.specs.declared.code.Base.TheVariants.{Frame}
use Rattle.pra_base.specs.declared.code.VarKind.TheVariants.{Param, Plain, Constant}
use Rattle.pra_base.specs.declared.code.VInstr.{VInstr}
use Rattle.pra_base.specs.declared.code.VInstr.TheVariants.{Clear, Load, DivMod, Check, Push, Call}
use Rattle.pra_base.specs.declared.code.VInstr.TheVariants.{Cmp}
use Rattle.pra_base.specs.declared.code.End.TheVariants.{Branch, Return}
use Rattle.pra_base.specs.declared.code.Block.{Block}
use Rattle.pra_base.specs.declared.code.VProc.{VProc}

abbrev pub word : VarId
word = record { 0 = 0 }

abbrev pub quotient : VarId
quotient = record { 0 = 1 }

abbrev pub rest : VarId
rest = record { 0 = 2 }

-- always 2
abbrev pub two : VarId
two = record { 0 = 3 }

abbrev pub block_1 : BlockId
block_1 = record { 0 = 1 }

abbrev pub callee : ProcId
callee = record { 0 = 1 }

-- aggregate word 0
abbrev pub word_0 : Addr
word_0 = record { base = Frame 0; offset = pos 0; index = None }

abbrev pub caller_code : List VInstr
caller_code =
    Clear
    ∷ Load word word_0
    ∷ DivMod quotient rest word two
    ∷ Check rest (pos 2)
    ∷ Push quotient
    ∷ Call callee
    ∷ Cmp rest two
    ∷ []

abbrev pub calling : Block
calling = record { depth = 0; code = caller_code; end = Branch E block_1 block_1 }

abbrev pub returning : Block
returning = record { depth = 0; code = []; end = Return }

abbrev pub caller : VProc
caller = record {
  id = record { 0 = 0 };
  args = 0;
  aggregates = 1;
  vars = Plain ∷ Plain ∷ Plain ∷ Constant (pos 2) ∷ [];
  blocks = calling ∷ returning ∷ [];
}

abbrev pub called : VProc
called = record {
  id = record { 0 = 1 };
  args = 1;
  aggregates = 0;
  vars = Param 0 ∷ [];
  blocks = returning ∷ [];
}

abbrev pub sample : List VProc
sample = caller ∷ called ∷ []
