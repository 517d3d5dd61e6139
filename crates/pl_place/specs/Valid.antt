-- When placed code is valid.
use Rattle.std.specs.Prelude.{◌≡◌, ◌≢◌, ℕ, suc, ◌+◌, ◌<◌, ◌≤◌, ◌⊎◌, true, false, List, [], ◌∷◌}
use Rattle.std.specs.Prelude.{◌++◌, length, map, slice_get, Some}
use Rattle.pra_base.specs.declared.ids.Place.{Place}
use Rattle.pra_base.specs.declared.ids.VarId.{VarId}
use Rattle.pra_base.specs.declared.code.VarKind.TheVariants.{Param, Plain}
use Rattle.pra_base.specs.declared.code.VInstr.{VInstr}
use Rattle.pra_base.specs.Code.{block_in, IsTarget, EachInstr}
use Rattle.pra_base.specs.Places.{allows, meet, is_mem}
use Rattle.pra_base.specs.Operands.{Role, operands, own_places}
use Rattle.pra_base.specs.Valid.{KeepsBlockRules, PushesBeforeCalls, TakesArgs, ArgumentsApart}
use Rattle.pra_base.specs.Valid.{Names, NamesCell, near}
use Rattle.pl_moves.specs.declared.transfer.Move.{Move}
use Rattle.pl_moves.specs.declared.transfer.Move.TheVariants.{Load, Store}
use Rattle.pl_moves.specs.Crossbar.{InRegisters}
use Rattle.pl_place.specs.declared.placed.LInstr.{LInstr}
use Rattle.pl_place.specs.declared.placed.LInstr.TheVariants as placed
use Rattle.pl_place.specs.declared.placed.LBlock.{LBlock}
use Rattle.pl_place.specs.declared.placed.LProc.{LProc}
use Rattle.pl_place.specs.Placed.{kind_of, place_in, bare}

-- instruction k of block b
abbrev pub linstr_at : LProc → ℕ → ℕ → LInstr → Type 0
linstr_at p b k i =
    (block : LBlock) × (slice_get p.blocks b ≡ Some block) × (slice_get block.code k ≡ Some i)

abbrev pub EachOp : LProc → (VInstr → List Place → Type 0) → Type 0
EachOp p P =
    (b k : ℕ) (i : VInstr) (places : _) → linstr_at p b k (placed.Op i places) → P i places.items

abbrev pub EachMove : LProc → (Move → Type 0) → Type 0
EachMove p P = (b k : ℕ) (m : Move) → linstr_at p b k (placed.Move m) → P m

-- the roles of an instruction in the order of its places
abbrev pub roles : VInstr → List Role
roles i = (operands i).reads ++ (operands i).writes

-- Each operand's place lies in the mask of its role, a variable that is written in place has one
-- place as read and as written, and no two roles of the memory pair are in memory.
pub record OperandsPlaced (p : LProc) (i : VInstr) (places : List Place) : Type 0 where
  pub count : length places ≡ length (roles i)
  pub allowed : (k : ℕ) (role : Role) → slice_get (roles i) k ≡ Some role →
      allows (meet role.mask (own_places (kind_of p role.var))) (place_in places k) ≡ true
  pub in_place : (k j : ℕ) (read write : Role) →
      slice_get (operands i).reads k ≡ Some read → slice_get (operands i).writes j ≡ Some write →
      read.var ≡ write.var → place_in places k ≡ place_in places (length (operands i).reads + j)
  pub pair : (k j : ℕ) (one other : Role) →
      slice_get (roles i) k ≡ Some one → slice_get (roles i) j ≡ Some other →
      one.memory ≡ true → other.memory ≡ true → k ≢ j →
      is_mem (place_in places k) ≡ true → is_mem (place_in places j) ≡ false

-- the variable has memory: an argument cell, or a slot
abbrev pub HasCell : LProc → ℕ → Type 0
HasCell p v =
    ((i : ℕ) × (kind_of p v ≡ Param i))
    ⊎ ((k : ℕ) × (u : VarId) × (slice_get p.slots k ≡ Some u) × (u.0 ≡ v))

abbrev pub MoveHasMemory : LProc → Move → Type 0
MoveHasMemory p (Load r v) = HasCell p v.0
MoveHasMemory p (Store v r) = HasCell p v.0
MoveHasMemory p _ = Unit {0}

-- A variable that a Load or Store of the moves names, or that an operand has in memory, is a Param
-- or has a slot, and no variable has two.
pub record MemoryThere (p : LProc) : Type 0 where
  pub moves : EachMove p (MoveHasMemory p)
  pub operands_there : EachOp p (λ i places. (k : ℕ) (role : Role) →
      slice_get (roles i) k ≡ Some role → is_mem (place_in places k) ≡ true → HasCell p role.var)
  pub distinct : (k j : ℕ) (u : VarId) →
      slice_get p.slots k ≡ Some u → slice_get p.slots j ≡ Some u → k ≡ j

abbrev pub most_moves_before : ℕ
most_moves_before = 12

-- With n moves directly before this list: at most 12 moves stand before each instruction and before
-- the end.
abbrev pub FewMoves : ℕ → List LInstr → Type 0
FewMoves n [] = n ≤ most_moves_before
FewMoves n (placed.Move m ∷ rest) = FewMoves (suc n) rest
FewMoves n (placed.Op i places ∷ rest) = (n ≤ most_moves_before) × FewMoves 0 rest

abbrev pub MoveNames : Move → ℕ → Type 0
MoveNames (Load r u) v = u.0 ≡ v
MoveNames (Store u r) v = u.0 ≡ v
MoveNames _ v = ⊥

-- `near` is what the variables and arguments say, slots are of local variables, and every number is
-- in range.
pub record NumbersInRange (p : LProc) : Type 0 where
  pub near_is : p.near ≡ near p.vars p.args
  pub slots_plain : (k : ℕ) (u : VarId) →
      slice_get p.slots k ≡ Some u → slice_get p.vars u.0 ≡ Some Plain
  pub ops : EachOp p (λ i places. (v : ℕ) → Names i v → v < length p.vars)
  pub moves : EachMove p (λ m. (v : ℕ) → MoveNames m v → v < length p.vars)
  pub targets : (b t : ℕ) →
      b < length p.blocks → IsTarget (block_in (bare p) b).end t → t < length p.blocks
  pub cells : EachInstr (bare p) (λ j. (i : ℕ) → NamesCell j i → i < p.args)
  pub params : (v i : ℕ) → slice_get p.vars v ≡ Some (Param i) → i < p.args
  pub arguments_apart : ArgumentsApart p.vars (bare p)

-- Each rule by its name; the blocks, with moves left out, keep those of selected code. The places
-- are those of the flow: an operand at a both place is its register, so it is not in memory.
pub record IsPlaced (p : LProc) : Type 0 where
  pub operands_placed : EachOp p (OperandsPlaced p)
  pub memory_there : MemoryThere p
  pub block_rules : KeepsBlockRules p.aggregates (bare p)
  pub in_registers : EachMove p InRegisters
  pub few_moves : (b : ℕ) (block : LBlock) →
      slice_get p.blocks b ≡ Some block → FewMoves 0 block.code
  pub numbers_in_range : NumbersInRange p

abbrev pub counts_of : List LProc → List ℕ
counts_of procs = map (λ (p : LProc). p.args) procs

-- The procedures of a module together. Procedure 0, the body, is called with no arguments.
pub record ArePlaced (procs : List LProc) : Type 0 where
  pub each : (p : ℕ) (code : LProc) → slice_get procs p ≡ Some code → IsPlaced code
  pub pushes_before_calls : (p : ℕ) (code : LProc) →
      slice_get procs p ≡ Some code → PushesBeforeCalls (TakesArgs (counts_of procs)) (bare code)
  pub body : TakesArgs (counts_of procs) 0 0
