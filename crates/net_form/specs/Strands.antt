-- Layers, strands and their masks.
--
-- A block with n instructions has the layers 0 (its entry), 2 * i + 1 (before instruction i),
-- 2 * i + 2 (after it) and 2 * n + 1 (its exit).
use Rattle.std.specs.Prelude.{◌↔◌, ℕ, ◌+◌, ◌-◌, ◌*◌, ◌/◌, ◌%◌, Bool, true, false, not, ◌&&◌, ◌||◌}
use Rattle.std.specs.Prelude.{nat_eq, nat_lt, if◌then◌else◌, List, [], map, length, fold, Option}
use Rattle.std.specs.Prelude.{Some, None, IsTrue}
use Rattle.std.specs.List.{range_with_len, prefix_len, list_any, flat_map, filter_map}
use Rattle.pra_base.specs.declared.ids.Place.TheVariants.{Mem}
use Rattle.pra_base.specs.declared.code.VarKind.{VarKind}
use Rattle.pra_base.specs.declared.code.VarKind.TheVariants.{Param, Constant}
use Rattle.pra_base.specs.declared.code.VInstr.{VInstr}
use Rattle.pra_base.specs.declared.code.Block.{Block}
use Rattle.pra_base.specs.declared.code.VProc.{VProc}
use Rattle.pra_base.specs.Code.{kind_of, block_of, code_of, instr_at}
use Rattle.pra_base.specs.Live.{Live}
use Rattle.pra_base.specs.Operands.{Role, Row, is_role_of, meets}
use Rattle.pra_base.specs.Places.{only, without}
use Rattle.net_form.specs.Tables.{PlaceTables}
use Rattle.net_form.specs.declared.net.Strand.{Strand}

abbrev pub layers_of : Block → ℕ
layers_of b = 2 * length b.code + 2

abbrev pub layer_count : VProc → ℕ → ℕ
layer_count code b = layers_of (block_of code b)

abbrev pub exit_layer : VProc → ℕ → ℕ
exit_layer code b = 2 * length (code_of code b) + 1

-- the layer stands before an instruction, or at the exit
abbrev pub is_before : ℕ → Bool
is_before l = nat_eq (l % 2) 1

-- the instruction beside a layer; the entry and the exit have none
abbrev pub beside : VProc → ℕ → ℕ → Option VInstr
beside code b l = if nat_eq l 0 then None else instr_at code b ((l - 1) / 2)

-- the layer on its other side
abbrev pub across : ℕ → ℕ
across l = if is_before l then l + 1 else l - 1

-- ---- where variables are live

-- variable, block, layer
abbrev pub Lives : Type 0
Lives = ℕ → ℕ → ℕ → Bool

abbrev pub is_within : VProc → ℕ → ℕ → ℕ → Bool
is_within code v b l =
    nat_lt v (length code.vars) && nat_lt b (length code.blocks) && nat_lt l (layer_count code b)

-- what is live at the layers of the code, and nowhere else
abbrev pub IsLive : VProc → Lives → Type 0
IsLive code live =
    (v b l : ℕ) → IsTrue (live v b l) ↔ (IsTrue (is_within code v b l) × Live code v b l)

-- ---- roles at a layer: what is read before the instruction, what is written after it

abbrev pub roles_beside : Bool → (VInstr → Row) → Option VInstr → List Role
roles_beside before row None = []
roles_beside before row (Some i) = if before then (row i).reads else (row i).writes

abbrev pub roles_at : PlaceTables → VProc → ℕ → ℕ → List Role
roles_at tables code b l = roles_beside (is_before l) tables.row (beside code b l)

abbrev pub clobbers_beside : (VInstr → Row) → Option VInstr → ℕ
clobbers_beside row None = 0
clobbers_beside row (Some i) = (row i).clobbers

-- the variable is live, or has just been written
abbrev pub is_present : PlaceTables → VProc → Lives → ℕ → ℕ → ℕ → Bool
is_present tables code live v b l =
    live v b l || (not (is_before l) && list_any (is_role_of v) (roles_at tables code b l))

-- ---- masks

abbrev pub is_param : VarKind → Bool
is_param (Param i) = true
is_param _ = false

abbrev pub is_constant : VarKind → Bool
is_constant (Constant n) = true
is_constant _ = false

-- the variable's own places, met with the masks of its roles
abbrev pub met_mask : PlaceTables → VProc → ℕ → ℕ → ℕ → ℕ
met_mask tables code v b l = fold (meets v) (tables.own (kind_of code v)) (roles_at tables code b l)

-- the registers that the instruction beside destroys, where the variable is on both of its sides
abbrev pub clobbered : PlaceTables → VProc → Lives → ℕ → ℕ → ℕ → ℕ
clobbered tables code live v b l =
    if is_present tables code live v b (across l)
    then clobbers_beside tables.row (beside code b l) else 0

-- a parameter comes in memory
abbrev pub comes_in_memory : VProc → ℕ → ℕ → ℕ → Bool
comes_in_memory code v b l = is_param (kind_of code v) && nat_eq b 0 && nat_eq l 0

abbrev pub mask_at : PlaceTables → VProc → Lives → ℕ → ℕ → ℕ → ℕ
mask_at tables code live v b l =
    if comes_in_memory code v b l then only Mem
    else without (met_mask tables code v b l) (clobbered tables code live v b l)

-- ---- strands

-- for how many layers from this one on the variable is present
abbrev pub run_from : PlaceTables → VProc → Lives → ℕ → ℕ → ℕ → ℕ
run_from tables code live v b l =
    prefix_len (is_present tables code live v b) (range_with_len l (layer_count code b - l))

abbrev pub begins : PlaceTables → VProc → Lives → ℕ → ℕ → ℕ → Bool
begins tables code live v b l =
    is_present tables code live v b l &&
    not (nat_lt 0 l && is_present tables code live v b (l - 1))

-- without its groups
abbrev pub strand : PlaceTables → VProc → Lives → ℕ → ℕ → ℕ → Strand
strand tables code live v b l =
    let run = run_from tables code live v b l in record {
      var = record { 0 = v };
      block = record { 0 = b };
      first = l;
      last = l + run - 1;
      constant = is_constant (kind_of code v);
      masks = map (mask_at tables code live v b) (range_with_len l run);
      entry_group = None;
      exit_group = None;
    }

abbrev pub begun_strand : PlaceTables → VProc → Lives → ℕ → ℕ → ℕ → Option Strand
begun_strand tables code live b l v =
    if begins tables code live v b l then Some (strand tables code live v b l) else None

-- by block, first layer, variable
abbrev pub layer_strands : PlaceTables → VProc → Lives → ℕ → ℕ → List Strand
layer_strands tables code live b l =
    filter_map (begun_strand tables code live b l) (range_with_len 0 (length code.vars))

abbrev pub block_strands : PlaceTables → VProc → Lives → ℕ → List Strand
block_strands tables code live b =
    flat_map (layer_strands tables code live b) (range_with_len 0 (layer_count code b))

abbrev pub strands : PlaceTables → VProc → Lives → List Strand
strands tables code live =
    flat_map (block_strands tables code live) (range_with_len 0 (length code.blocks))
