-- The steps of placed code, one law after the other.
use Rattle.std.specs.Prelude.{ℕ}
use Rattle.std.specs.Int.{w32}
use Rattle.std.specs.Int.RustNames.{FitsSigned}
use Rattle.pl_moves.specs.declared.transfer.Move.{Move}
use Rattle.pra_base.specs.declared.code.Addr.{Addr}
use Rattle.pl_place.specs.declared.placed.LInstr.TheVariants as placed
use Rattle.pra_base.specs.declared.code.VInstr.TheVariants as instr
use Rattle.pra_base.specs.declared.code.End.TheVariants as end
use Rattle.pra_base.specs.declared.ids.BlockId.{BlockId}
use Rattle.pra_base.specs.declared.ids.Cond.{Cond}
use Rattle.pra_base.specs.declared.ids.ProcId.{ProcId}
use Rattle.pra_base.specs.declared.ids.ShiftOp.{ShiftOp}
use Rattle.pra_base.specs.declared.ids.VarId.{VarId}
use Rattle.ia_simulation.specs.Realizes.{IsCarried, EndIsCarried}
use Rattle.ia_simulation.proofs.Calls.{calls_it}
use Rattle.ia_simulation.proofs.Chains as chains
use Rattle.ia_simulation.proofs.Checks as bounds
use Rattle.ia_simulation.proofs.Cleared.{clears_it}
use Rattle.ia_simulation.proofs.Computes as computes
use Rattle.ia_simulation.proofs.Control as control
use Rattle.ia_simulation.proofs.Loads.{loads_it}
use Rattle.ia_simulation.proofs.Locates.{locates_it}
use Rattle.ia_simulation.proofs.Moves.{move_leads}
use Rattle.ia_simulation.proofs.Numbers as numbers
use Rattle.ia_simulation.proofs.Pushes.{pushes_it}
use Rattle.ia_simulation.proofs.Returns.{returning}
use Rattle.ia_simulation.proofs.Rows as rows
use Rattle.ia_simulation.proofs.Steps as steps
use Rattle.ia_simulation.proofs.Stores.{stores_it}
use Rattle.ia_simulation.proofs.Steps.{stepped}
use Rattle.ia_simulation.proofs.Tells as tells

pub moves : (move : Move) → IsCarried (placed.Move move)
moves move procs data_words ok s r y o more e = stepped procs s r (placed.Move move) more o e
    (move_leads procs data_words ok s r y o move more e)

pub adds : (v w : VarId) (places : _) → IsCarried (placed.Op (instr.Add v w) places)
adds v w places procs data_words ok s r y o more e =
    stepped procs s r (placed.Op (instr.Add v w) places) more o e
    (rows.adds procs data_words ok s r y o v w places more e)

pub subtracts : (v w : VarId) (places : _) → IsCarried (placed.Op (instr.Sub v w) places)
subtracts v w places procs data_words ok s r y o more e =
    stepped procs s r (placed.Op (instr.Sub v w) places) more o e
    (rows.subtracts procs data_words ok s r y o v w places more e)

pub ands : (v w : VarId) (places : _) → IsCarried (placed.Op (instr.And v w) places)
ands v w places procs data_words ok s r y o more e =
    stepped procs s r (placed.Op (instr.And v w) places) more o e
    (rows.ands procs data_words ok s r y o v w places more e)

pub ors : (v w : VarId) (places : _) → IsCarried (placed.Op (instr.Or v w) places)
ors v w places procs data_words ok s r y o more e =
    stepped procs s r (placed.Op (instr.Or v w) places) more o e
    (rows.ors procs data_words ok s r y o v w places more e)

pub xors : (v w : VarId) (places : _) → IsCarried (placed.Op (instr.Xor v w) places)
xors v w places procs data_words ok s r y o more e =
    stepped procs s r (placed.Op (instr.Xor v w) places) more o e
    (rows.xors procs data_words ok s r y o v w places more e)

pub sets : (v : VarId) (n : _) (places : _) → IsCarried (placed.Op (instr.Set v n) places)
sets v n places procs data_words ok s r y o more e =
    stepped procs s r (placed.Op (instr.Set v n) places) more o e
    (computes.sets_it procs data_words ok s r y o v v places more n e)

pub copies : (v w : VarId) (places : _) → IsCarried (placed.Op (instr.Copy v w) places)
copies v w places procs data_words ok s r y o more e =
    stepped procs s r (placed.Op (instr.Copy v w) places) more o e
    (computes.copies_it procs data_words ok s r y o v w places more e)

pub shifts : (op : ShiftOp) (v : VarId) (n : ℕ) (places : _) →
    IsCarried (placed.Op (instr.Shift op v n) places)
shifts op v n places procs data_words ok s r y o more e =
    stepped procs s r (placed.Op (instr.Shift op v n) places) more o e
    (computes.shifts_it procs data_words ok s r y o v v places more op n e)

pub negates : (v : VarId) (places : _) → IsCarried (placed.Op (instr.Neg v) places)
negates v places procs data_words ok s r y o more e =
    stepped procs s r (placed.Op (instr.Neg v) places) more o e
    (computes.negates_it procs data_words ok s r y o v v places more e)

pub multiplies : (v w : VarId) (places : _) → IsCarried (placed.Op (instr.Mul v w) places)
multiplies v w places procs data_words ok s r y o more e =
    stepped procs s r (placed.Op (instr.Mul v w) places) more o e
    (numbers.multiplies_it procs data_words ok s r y o v w places more e)

pub compares : (v w : VarId) (places : _) → IsCarried (placed.Op (instr.Cmp v w) places)
compares v w places procs data_words ok s r y o more e =
    stepped procs s r (placed.Op (instr.Cmp v w) places) more o e
    (numbers.compares_it procs data_words ok s r y o v w places more e)

pub writes : (v : VarId) (places : _) → IsCarried (placed.Op (instr.Write v) places)
writes v places procs data_words ok s r y o more e =
    stepped procs s r (placed.Op (instr.Write v) places) more o e
    (tells.writes_it procs data_words ok s r y o v places more e)

pub lines : (places : _) → IsCarried (placed.Op instr.Line places)
lines places procs data_words ok s r y o more e = stepped procs s r (placed.Op instr.Line places)
    more o e (tells.lines_it procs data_words ok s r y o (record { 0 = 0 }) places more e)

pub reads : (v : VarId) (places : _) → IsCarried (placed.Op (instr.Read v) places)
reads v places procs data_words ok s r y o more e =
    stepped procs s r (placed.Op (instr.Read v) places) more o e
    (tells.reads_it procs data_words ok s r y o v places more e)

pub pushes : (v : VarId) (places : _) → IsCarried (placed.Op (instr.Push v) places)
pushes v places procs data_words ok s r y o more e =
    stepped procs s r (placed.Op (instr.Push v) places) more o e
    (pushes_it procs data_words ok s r y o v places more e)

pub calls : (q : ProcId) (places : _) → IsCarried (placed.Op (instr.Call q) places)
calls q places procs data_words ok s r y o more e =
    stepped procs s r (placed.Op (instr.Call q) places) more o e
    (calls_it procs data_words ok s r y o q places more e)

pub checks : (v : VarId) (n : _) (places : _) → IsCarried (placed.Op (instr.Check v n) places)
checks v n places procs data_words ok s r y o more e =
    stepped procs s r (placed.Op (instr.Check v n) places) more o e
    (bounds.checks_it procs data_words ok s r y o v places more n e)

pub checks_positive : (v : VarId) (places : _) → IsCarried (placed.Op (instr.CheckPos v) places)
checks_positive v places procs data_words ok s r y o more e =
    stepped procs s r (placed.Op (instr.CheckPos v) places) more o e
    (bounds.checks_positive procs data_words ok s r y o v places more e)

pub sets_condition : (k : Cond) (v a b : VarId) (places : _) →
    IsCarried (placed.Op (instr.CmpSet k v a b) places)
sets_condition k v a b places procs data_words ok s r y o more e =
    stepped procs s r (placed.Op (instr.CmpSet k v a b) places) more o e
    (chains.sets_condition procs data_words ok s r y o k v a b places more e)

pub divides : (q r1 a d : VarId) (places : _) → IsCarried (placed.Op (instr.DivMod q r1 a d) places)
divides q r1 a d places procs data_words ok s r y o more e =
    stepped procs s r (placed.Op (instr.DivMod q r1 a d) places) more o e
    (chains.divides procs data_words ok s r y o q r1 a d places more e)

pub locates : (v : VarId) (a : Addr) (places : _) → FitsSigned w32 a.offset →
    IsCarried (placed.Op (instr.Addr v a) places)
locates v a places fits procs data_words ok s r y o more e =
    stepped procs s r (placed.Op (instr.Addr v a) places) more o e
    (locates_it procs data_words ok s r y o v a.base a.offset a.index fits places more e)

pub loads : (v : VarId) (a : Addr) (places : _) → FitsSigned w32 a.offset →
    IsCarried (placed.Op (instr.Load v a) places)
loads v a places fits procs data_words ok s r y o more e =
    stepped procs s r (placed.Op (instr.Load v a) places) more o e
    (loads_it procs data_words ok s r y o v a.base a.offset a.index fits places more e)

pub stores : (a : Addr) (v : VarId) (places : _) → FitsSigned w32 a.offset →
    IsCarried (placed.Op (instr.Store a v) places)
stores a v places fits procs data_words ok s r y o more e =
    stepped procs s r (placed.Op (instr.Store a v) places) more o e
    (stores_it procs data_words ok s r y o v a.base a.offset a.index fits places more e)

pub clears : (places : _) → IsCarried (placed.Op instr.Clear places)
clears places procs data_words ok s r y o more e = stepped procs s r (placed.Op instr.Clear places)
    more o e (clears_it procs data_words ok s r y o places more e)

-- ---- ends

pub jumps : (b : BlockId) → EndIsCarried (end.Jump b)
jumps b procs data_words ok s r y o done e = steps.ended procs s r (end.Jump b) o done e
    (control.jumps procs data_words ok s r y o done b e)

pub branches : (c : Cond) (one other : BlockId) → EndIsCarried (end.Branch c one other)
branches c one other procs data_words ok s r y o done e =
    steps.ended procs s r (end.Branch c one other) o done e
    (control.branching procs data_words ok s r y o done c one other e s.compared
    (steps.x procs data_words ok s r y o).flags)

pub returns : EndIsCarried end.Return
returns procs data_words ok s r y o done e = steps.ended procs s r end.Return o done e
    (λ _. returning procs data_words ok s r y o done e)
