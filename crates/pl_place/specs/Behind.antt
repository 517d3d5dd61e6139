-- What stands behind placed code: selected code, and a flow of its network that says where each
-- variable is.
use Rattle.std.specs.Prelude.{◌≡◌, ℕ, suc, ◌+◌, ◌*◌, ℤ, Bool, nat_eq, ◌&&◌, List, [], ◌∷◌, ◌++◌}
use Rattle.std.specs.Prelude.{length, map, filter, find, slice_get, option_map, Option, Some, None}
use Rattle.std.specs.Prelude.{All}
use Rattle.std.specs.List.{list_any, range_with_len}
use Rattle.pra_base.specs.declared.ids.Place.{Place}
use Rattle.pra_base.specs.declared.ids.Place.TheVariants.{Const}
use Rattle.pra_base.specs.declared.code.VarKind.{VarKind}
use Rattle.pra_base.specs.declared.code.VarKind.TheVariants.{Constant}
use Rattle.pra_base.specs.declared.code.VInstr.{VInstr}
use Rattle.pra_base.specs.declared.code.VProc.{VProc}
use Rattle.pra_base.specs.Code.{kind_of, code_of, end_of, is_plain}
use Rattle.pra_base.specs.Operands.{read_by, written_by}
use Rattle.pra_base.specs.Places.{number, needs_slot}
use Rattle.net_form.specs.declared.net.Strand.{Strand}
use Rattle.net_form.specs.declared.net.Net.{Net}
use Rattle.net_form.specs.Flow.{Edge}
use Rattle.net_form.specs.Admitted.{strand_at}
use Rattle.pl_moves.specs.declared.transfer.Pair.{Pair}
use Rattle.pl_moves.specs.declared.transfer.Move.{Move}
use Rattle.pl_moves.specs.Assignment.{Assigns}
use Rattle.pl_moves.specs.Crossbar.{InRegisters}
use Rattle.pl_place.specs.declared.placed.LInstr.{LInstr}
use Rattle.pl_place.specs.declared.placed.LInstr.TheVariants as placed
use Rattle.pl_place.specs.declared.placed.LBlock.{LBlock}
use Rattle.pl_place.specs.declared.placed.LProc.{LProc}

-- selected code, its network, and a flow of that: any list of edges
pub record Routed : Type 0 where
  pub code : VProc
  pub net : Net
  pub flow : List Edge

abbrev pub strand_by : Routed → Edge → Strand
strand_by r e = strand_at r.net e.strand

-- ---- where a variable is

-- the edge comes to this layer of the block
abbrev pub comes_at : Routed → ℕ → ℕ → Edge → Bool
comes_at r b l e = nat_eq (strand_by r e).block.0 b && nat_eq e.layer l

abbrev pub brings : Routed → ℕ → ℕ → ℕ → Edge → Bool
brings r b l v e = nat_eq (strand_by r e).var.0 v && comes_at r b l e

-- Where an edge brings the variable at this layer of the block, or None where it is not present. An
-- admitted flow has one edge there at most.
abbrev pub where_is : Routed → ℕ → ℕ → ℕ → Option Place
where_is r b l v = option_map (λ (e : Edge). e.to) (find (brings r b l v) r.flow)

-- the places of the operands of instruction k: before it those that it reads, after it those that
-- it writes
abbrev pub operand_places : Routed → ℕ → ℕ → VInstr → List (Option Place)
operand_places r b k i =
    map (where_is r b (2 * k + 1)) (read_by i) ++ map (where_is r b (2 * k + 2)) (written_by i)

-- ---- what moves

abbrev pub constant : VarKind → Option ℤ
constant (Constant n) = Some n
constant _ = None

-- what begins before an instruction is a constant, which was nowhere
abbrev pub from_place : Option Place → Place
from_place None = Const
from_place (Some p) = p

abbrev pub pair_of : Routed → Edge → Pair
pair_of r e =
    let v = (strand_by r e).var in record {
      var = v;
      from = from_place e.from;
      to = e.to;
      constant = constant (kind_of r.code v.0);
    }

-- what goes over the crossbar into this layer of the block, from the layer before
abbrev pub pairs_at : Routed → ℕ → ℕ → List Pair
pairs_at r b l = map (pair_of r) (filter (comes_at r b l) r.flow)

-- Moves that are the simultaneous assignment of what moves into this layer. Their places are
-- registers: no other place is a cell of the machine.
pub record MovesInto (r : Routed) (b l : ℕ) (ms : List Move) : Type 0 where
  pub in_registers : All InRegisters ms
  pub assigns : Assigns ms (pairs_at r b l)

-- ---- slots

-- some edge brings the variable to memory, alone or beside a register
abbrev pub in_memory : Routed → ℕ → Bool
in_memory r v = list_any (λ e. nat_eq (strand_by r e).var.0 v && needs_slot (number e.to)) r.flow

abbrev pub has_slot : Routed → ℕ → Bool
has_slot r v = is_plain (kind_of r.code v) && in_memory r v

-- the variables that have a slot, in order of their numbers
abbrev pub slots_of : Routed → List ℕ
slots_of r = filter (has_slot r) (range_with_len 0 (length r.code.vars))

-- The bytes of a frame: arguments, return address and four saved registers, aggregates, slots.
abbrev pub flow_frame : Routed → ℕ
flow_frame r = 4 * (r.code.args + 5 + r.code.aggregates + length (slots_of r))

-- ---- the code

abbrev pub IsOp : LInstr → VInstr → List (Option Place) → Type 0
IsOp (placed.Op j places) i ps = (j ≡ i) × (map Some places.items ≡ ps)
IsOp (placed.Move m) i ps = ⊥

-- From instruction k of block b on: before each instruction and before the end stand the moves of
-- what moves there, and each instruction has its operands' places.
abbrev pub Lays : Routed → ℕ → ℕ → List VInstr → List LInstr → Type 0
Lays r b k [] left =
    (ms : List Move) × (left ≡ map placed.Move ms) × MovesInto r b (2 * k + 1) ms
Lays r b k (i ∷ is) left =
    (ms : List Move) × (op : LInstr) × (rest : List LInstr)
    × (left ≡ map placed.Move ms ++ op ∷ rest) × MovesInto r b (2 * k + 1) ms
    × IsOp op i (operand_places r b k i) × Lays r b (suc k) is rest

-- The code and the flow stand behind the placed code.
pub record IsBehind (r : Routed) (p : LProc) : Type 0 where
  pub id : p.id ≡ r.code.id
  pub args : p.args ≡ r.code.args
  pub aggregates : p.aggregates ≡ r.code.aggregates
  pub vars : p.vars ≡ r.code.vars
  pub slots : map (λ u. u.0) p.slots ≡ slots_of r
  pub count : length p.blocks ≡ length r.code.blocks
  pub ends : (b : ℕ) (block : LBlock) → slice_get p.blocks b ≡ Some block →
      block.end ≡ end_of r.code b
  pub lays : (b : ℕ) (block : LBlock) → slice_get p.blocks b ≡ Some block →
      Lays r b 0 (code_of r.code b) block.code
