-- Which selected code and which flows an image carries. This speaks of the bytes of its code alone:
-- they are those of a list of instructions, which `Listing` of ia_code determines.
use Rattle.std.specs.Prelude.{◌≡◌, ℕ, suc, ◌+◌, ◌*◌, List, [], ◌∷◌, ◌++◌, length, map, take}
use Rattle.std.specs.Prelude.{flat_map, slice_get, Some}
use Rattle.std.specs.List.{sum_by}
use Rattle.ia_code.specs.declared.image.Image.{Image}
use Rattle.ia_code.specs.declared.ins.Ins.{Ins}
use Rattle.ia_code.specs.Listing.{IsListing}
use Rattle.ia_emit.specs.declared.item.Item.{Item}
use Rattle.ia_emit.specs.declared.item.Item.TheVariants.{Plain}
use Rattle.ia_emit.specs.declared.item.Target.{Target}
use Rattle.ia_emit.specs.declared.item.Target.TheVariants.{Block, Stub}
use Rattle.ia_emit.specs.Code.{size, all_aimed, front, stub_start, first_entry}
use Rattle.ia_emit.specs.Emission.{prologue, emit_move, emit_op, emit_end}
use Rattle.pl_moves.specs.declared.transfer.Move.{Move}
use Rattle.pl_place.specs.declared.placed.LProc.{LProc}
use Rattle.pl_place.specs.Behind.{Routed, MovesInto, operand_places, slots_of}
use Rattle.pra_base.specs.declared.code.VInstr.{VInstr}
use Rattle.pra_base.specs.declared.ids.Place.{Place}
use Rattle.pra_base.specs.Code.{code_of, end_of}
use Rattle.pra_base.specs.Valid.{near}

-- The frame that the code and the flow have, which is all that emission asks of a procedure.
abbrev pub framed : Routed → LProc
framed r = record {
  id = r.code.id;
  args = r.code.args;
  aggregates = r.code.aggregates;
  vars = r.code.vars;
  slots = map (λ v. record { 0 = v }) (slots_of r);
  near = near r.code.vars r.code.args;
  blocks = [];
}

-- ---- a block

-- What moves that do all that moves into this layer of block b become.
abbrev pub AreMoves : Routed → ℕ → ℕ → List Item → Type 0
AreMoves r b l items =
    (ms : List Move)
    × (items ≡ map (λ m. Plain (emit_move (framed r) m)) ms) × MovesInto r b l ms

-- What instruction k of block b becomes: what it reads is where the flow has it before, and what it
-- writes where the flow has it after.
abbrev pub IsInstruction : Routed → ℕ → ℕ → VInstr → List Item → Type 0
IsInstruction r b k i items =
    (places : List Place)
    × (map Some places ≡ operand_places r b k i) × (items ≡ emit_op (framed r) i places)

-- Block b from instruction k on: before each instruction and before the end stand the moves of the
-- layer, and a jump to the next block is left out.
abbrev pub IsBlockFrom : Routed → ℕ → ℕ → List VInstr → List Item → Type 0
IsBlockFrom r b k [] items =
    (moves : List Item)
    × (items ≡ moves ++ emit_end (framed r) (b + 1) (end_of r.code b))
    × AreMoves r b (2 * k + 1) moves
IsBlockFrom r b k (i ∷ is) items =
    (moves : List Item) × (instruction : List Item) × (rest : List Item)
    × (items ≡ moves ++ (instruction ++ rest))
    × AreMoves r b (2 * k + 1) moves × IsInstruction r b k i instruction
    × IsBlockFrom r b (suc k) is rest

-- ---- a procedure

-- code and flow of a procedure, with what each of its blocks becomes
pub record Part : Type 0 where
  pub behind : Routed
  pub blocks : List (List Item)

pub record IsPart (x : Part) : Type 0 where
  pub count : length x.blocks ≡ length x.behind.code.blocks
  pub each : (b : ℕ) (items : List Item) → slice_get x.blocks b ≡ Some items →
      IsBlockFrom x.behind b 0 (code_of x.behind.code b) items

abbrev pub joined : List (List Item) → List Item
joined blocks = flat_map (λ (items : List Item). items) blocks

-- the prologue, then block for block
abbrev pub items_of : Part → List Item
items_of x = prologue (framed x.behind) ++ joined x.blocks

-- where a jump goes in a procedure that begins at this place
abbrev pub goes_to : Part → ℕ → Target → ℕ
goes_to x at (Block b) = at + size (prologue (framed x.behind)) + size (joined (take b.0 x.blocks))
goes_to x at (Stub trap) = stub_start trap

-- ---- the whole

-- where procedure k begins
abbrev pub begins : List Part → ℕ → ℕ
begins parts k = first_entry + sum_by (λ x. size (items_of x)) (take k parts)

-- the instructions of procedures, the first of which begins at this place
abbrev pub parts_from : (ℕ → ℕ) → ℕ → List Part → List Ins
parts_from entry at [] = []
parts_from entry at (x ∷ xs) =
    all_aimed (goes_to x at) entry at (items_of x) ++ parts_from entry (at + size (items_of x)) xs

-- behind the start and the stubs of the traps
abbrev pub whole : List Part → List Ins
whole parts =
    all_aimed (λ t. 0) (begins parts) 0 front ++ parts_from (begins parts) first_entry parts

-- The image carries these codes and flows, one of each procedure in order: its code is the start,
-- the stubs and the procedures without gaps to the end.
pub record Carries (image : Image) (routed : List Routed) : Type 0 where
  pub parts : List Part
  pub behind : map (λ (x : Part). x.behind) parts ≡ routed
  pub each : (k : ℕ) (x : Part) → slice_get parts k ≡ Some x → IsPart x
  pub listing : IsListing image.code (whole parts)
