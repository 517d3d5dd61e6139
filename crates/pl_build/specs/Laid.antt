-- Where the pairs of a layer bring the operands of an instruction, and what is added to the code of
-- a block.
use Rattle.std.specs.Prelude.{◌≡◌, ℕ, ◌+◌, ◌*◌, ◌<◌, ◌≤◌, nat_eq, Bool, List, [], ◌∷◌, ◌++◌, length}
use Rattle.std.specs.Prelude.{map, find, option_map, slice_get, Option, Some, None, All, sum_by}
use Rattle.pra_base.specs.declared.ids.Place.{Place}
use Rattle.pra_base.specs.declared.ids.Place.TheVariants.{Eax}
use Rattle.pra_base.specs.declared.code.VInstr.{VInstr}
use Rattle.pra_base.specs.Code.{code_of, end_of}
use Rattle.pra_base.specs.Operands.{read_by, written_by}
use Rattle.pl_moves.specs.declared.transfer.Move.{Move}
use Rattle.pl_moves.specs.declared.transfer.Pair.{Pair}
use Rattle.pl_moves.specs.Assignment.{Assigns}
use Rattle.pl_moves.specs.Crossbar.{InRegisters, NamesMemory, Counted, most_moves}
use Rattle.pl_place.specs.declared.placed.LInstr.{LInstr}
use Rattle.pl_place.specs.declared.placed.LInstr.TheVariants as placed
use Rattle.pl_place.specs.declared.placed.LBlock.{LBlock}
use Rattle.pl_place.specs.Behind.{Routed, pairs_at, operand_places, IsOp}
use Rattle.pl_made.specs.Made.{LaysMoves}
use Rattle.vc_code.specs.declared.row.Role.{Role}
use Rattle.pl_build.specs.Layers.{layer}

-- ---- operands

abbrev pub role_vars : List Role → List ℕ
role_vars roles = map (λ (role : Role). role.var.0) roles

-- the place to which the pairs bring a variable, or None where no pair is the variable's
abbrev pub brought : List Pair → ℕ → Option Place
brought pairs v = option_map (λ (p : Pair). p.to) (find (λ (p : Pair). nat_eq p.var.0 v) pairs)

abbrev pub or_eax : Option Place → Place
or_eax (Some q) = q
or_eax None = Eax

-- the places of these variables; a variable that no pair brings stands for no operand
abbrev pub places_by : List Pair → List ℕ → List Place
places_by pairs vs = map (λ v. or_eax (brought pairs v)) vs

-- of those that an instruction reads, then of those that it writes
abbrev pub operands_by : List Pair → List Pair → VInstr → List Place
operands_by before behind i = places_by before (read_by i) ++ places_by behind (written_by i)

-- ---- what is added

-- these moves do the pairs at once, as `moves` of pl_moves answers them
pub record Moves (pairs : List Pair) (ms : List Move) : Type 0 where
  pub assigns : Assigns ms pairs
  pub in_registers : All InRegisters ms
  pub names : All (NamesMemory pairs) ms
  pub counted : (near : Bool) → Counted near ms pairs
  pub few : length ms ≤ sum_by most_moves pairs

pub record AddsMoves (pairs : List Pair) (old new : List LInstr) : Type 0 where
  pub moves : List Move
  pub new_is : new ≡ old ++ map placed.Move moves
  pub are : Moves pairs moves

-- the moves before an instruction, and then itself at its operands' places
pub record AddsInstr (before behind : List Pair) (i : VInstr) (old new : List LInstr) : Type 0 where
  pub moves : List Move
  pub op : LInstr
  pub new_is : new ≡ old ++ (map placed.Move moves ++ op ∷ [])
  pub are : Moves before moves
  pub is_op : IsOp op i (map Some (operands_by before behind i))

-- ---- the layers of a block

-- From layer `first` on they are those of this block and code, and each operand of the code is
-- brought to its place.
pub record AreLayers (r : Routed) (b : ℕ) (code : List VInstr) (first : ℕ)
    (layers : List (List Pair)) : Type 0 where
  pub pairs : (l : ℕ) → l < 2 * length code + 2 → layer layers (first + l) ≡ pairs_at r b l
  pub operands : (k : ℕ) (i : VInstr) → slice_get code k ≡ Some i →
      map Some (operands_by (pairs_at r b (2 * k + 1)) (pairs_at r b (2 * k + 2)) i)
      ≡ operand_places r b k i

-- the first n blocks of the code, each with its end and its code
pub record AreBlocks (r : Routed) (n : ℕ) (blocks : List LBlock) : Type 0 where
  pub count : length blocks ≡ n
  pub ends : (b : ℕ) (block : LBlock) → slice_get blocks b ≡ Some block →
      block.end ≡ end_of r.code b
  pub lays : (b : ℕ) (block : LBlock) → slice_get blocks b ≡ Some block →
      LaysMoves r b 0 (code_of r.code b) block.code
