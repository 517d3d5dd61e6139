-- A module of placed code that has each kind of thing that a rule of valid placed code speaks of:
-- aggregates that are cleared, a slot, a both place, an argument that is pushed, a call, a word
-- that is loaded, and a branch behind its comparison.
use Rattle.std.specs.Prelude.{pos, true, List, [], ◌∷◌, None}
use Rattle.pra_base.specs.declared.ids.Place.{Place}
use Rattle.pra_base.specs.declared.ids.Place.TheVariants.{Eax, Ecx, Mem, EaxM}
use Rattle.pra_base.specs.declared.ids.Cond.TheVariants.{E}
use Rattle.pra_base.specs.declared.ids.VarId.{VarId}
use Rattle.pra_base.specs.declared.ids.BlockId.{BlockId}
use Rattle.pra_base.specs.declared.ids.ProcId.{ProcId}
use Rattle.pra_base.specs.declared.code.Addr.{Addr}
use Rattle.pra_base.specs.declared.code.Base.TheVariants.{Frame}
use Rattle.pra_base.specs.declared.code.VarKind.TheVariants.{Param, Plain}
use Rattle.pra_base.specs.declared.code.VInstr.{VInstr}
use Rattle.pra_base.specs.declared.code.VInstr.TheVariants.{Set, Push, Call, Load, Cmp, Clear}
use Rattle.pra_base.specs.declared.code.End.TheVariants.{Branch, Return}
use Rattle.pl_moves.specs.declared.transfer.Move.TheVariants.{Store}
use Rattle.pl_place.specs.declared.placed.LInstr.{LInstr}
use Rattle.pl_place.specs.declared.placed.LInstr.TheVariants.{Move, Op}
use Rattle.pl_place.specs.declared.placed.LBlock.{LBlock}
use Rattle.pl_place.specs.declared.placed.LProc.{LProc}

abbrev pub v0 : VarId
v0 = record { 0 = 0 }

abbrev pub v1 : VarId
v1 = record { 0 = 1 }

abbrev pub block_1 : BlockId
block_1 = record { 0 = 1 }

abbrev pub callee : ProcId
callee = record { 0 = 1 }

-- aggregate word 0
abbrev pub word_0 : Addr
word_0 = record { base = Frame 0; offset = pos 0; index = None }

abbrev pub op : VInstr → List Place → LInstr
op i places = Op i (record { items = places })

abbrev pub calling : LBlock
calling = record {
  code =
      op Clear []
      ∷ op (Set v0 (pos 5)) (Eax ∷ [])
      ∷ Move (Store v0 Eax)
      ∷ op (Push v0) (EaxM ∷ [])
      ∷ op (Call callee) []
      ∷ op (Load v1 word_0) (Ecx ∷ [])
      ∷ op (Cmp v1 v0) (Ecx ∷ Mem ∷ [])
      ∷ [];
  end = Branch E block_1 block_1;
}

abbrev pub returning : LBlock
returning = record { code = []; end = Return }

abbrev pub caller : LProc
caller = record {
  id = record { 0 = 0 };
  args = 0;
  aggregates = 1;
  vars = Plain ∷ Plain ∷ [];
  slots = v0 ∷ [];
  near = true;
  blocks = calling ∷ returning ∷ [];
}

abbrev pub called : LProc
called = record {
  id = record { 0 = 1 };
  args = 1;
  aggregates = 0;
  vars = Param 0 ∷ [];
  slots = [];
  near = true;
  blocks = returning ∷ [];
}

abbrev pub sample : List LProc
sample = caller ∷ called ∷ []
