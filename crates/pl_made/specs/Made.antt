-- Placed code as a placement makes it: the code and the flow stand behind it, and the moves of each
-- layer are those that `moves` of pl_moves answers.
use Rattle.std.specs.Prelude.{◌≡◌, ℕ, suc, ◌+◌, ◌*◌, ◌≤◌, Bool, List, [], ◌∷◌, ◌++◌, length, map}
use Rattle.std.specs.Prelude.{All, sum_by, slice_get, Some}
use Rattle.pra_base.specs.declared.code.VInstr.{VInstr}
use Rattle.pra_base.specs.Code.{code_of, end_of}
use Rattle.pra_base.specs.Valid.{near}
use Rattle.pl_moves.specs.declared.transfer.Move.{Move}
use Rattle.pl_moves.specs.Assignment.{Assigns}
use Rattle.pl_moves.specs.Crossbar.{InRegisters, NamesMemory, Counted, most_moves}
use Rattle.pl_place.specs.declared.placed.LInstr.{LInstr}
use Rattle.pl_place.specs.declared.placed.LInstr.TheVariants as placed
use Rattle.pl_place.specs.declared.placed.LBlock.{LBlock}
use Rattle.pl_place.specs.declared.placed.LProc.{LProc}
use Rattle.pl_place.specs.Behind.{Routed, pairs_at, operand_places, slots_of, IsOp}

-- the moves of a layer of a block
pub record MovesAt (r : Routed) (b l : ℕ) (ms : List Move) : Type 0 where
  pub assigns : Assigns ms (pairs_at r b l)
  pub in_registers : All InRegisters ms
  pub names : All (NamesMemory (pairs_at r b l)) ms
  pub counted : (near : Bool) → Counted near ms (pairs_at r b l)
  pub few : length ms ≤ sum_by most_moves (pairs_at r b l)

-- from instruction k of block b on
abbrev pub LaysMoves : Routed → ℕ → ℕ → List VInstr → List LInstr → Type 0
LaysMoves r b k [] left =
    (ms : List Move) × (left ≡ map placed.Move ms) × MovesAt r b (2 * k + 1) ms
LaysMoves r b k (i ∷ is) left =
    (ms : List Move) × (op : LInstr) × (rest : List LInstr)
    × (left ≡ map placed.Move ms ++ op ∷ rest) × MovesAt r b (2 * k + 1) ms
    × IsOp op i (operand_places r b k i) × LaysMoves r b (suc k) is rest

pub record IsMade (r : Routed) (p : LProc) : Type 0 where
  pub id : p.id ≡ r.code.id
  pub args : p.args ≡ r.code.args
  pub aggregates : p.aggregates ≡ r.code.aggregates
  pub vars : p.vars ≡ r.code.vars
  pub slots : map (λ u. u.0) p.slots ≡ slots_of r
  pub near_is : p.near ≡ near r.code.vars r.code.args
  pub count : length p.blocks ≡ length r.code.blocks
  pub ends : (b : ℕ) (block : LBlock) → slice_get p.blocks b ≡ Some block →
      block.end ≡ end_of r.code b
  pub lays : (b : ℕ) (block : LBlock) → slice_get p.blocks b ≡ Some block →
      LaysMoves r b 0 (code_of r.code b) block.code
