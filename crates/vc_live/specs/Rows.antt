-- What a liveness holds, and that it is exact.
use Rattle.std.specs.Prelude.{◌≡◌, ℕ, ◌+◌, ◌-◌, ◌*◌, ◌/◌, ◌%◌, ◌<◌, ◌≤◌, ◌↔◌, ◌⊎◌, Bool, true}
use Rattle.std.specs.Prelude.{false, ◌&&◌, ◌||◌, not, nat_eq, nat_lt, if◌then◌else◌, List, [], take}
use Rattle.std.specs.Prelude.{drop, length, slice_index_or, IsTrue}
use Rattle.std.specs.List.{list_any}
use Rattle.pra_base.specs.declared.code.VarKind.{VarKind}
use Rattle.pra_base.specs.declared.code.VarKind.TheVariants.{Constant}
use Rattle.pra_base.specs.declared.code.VInstr.{VInstr}
use Rattle.pra_base.specs.declared.code.VProc.{VProc}
use Rattle.pra_base.specs.Code.{kind_of, code_of, end_of}
use Rattle.pra_base.specs.Operands.{reads}
use Rattle.pra_base.specs.Live.{Live}
use Rattle.vc_live.specs.declared.liveness.Liveness.{Liveness}
use Rattle.vc_live.specs.Sets.{contains}
use Rattle.vc_live.specs.Equations.{through, at_exit}

-- the set of a point, where the sets of a block stand from its end to its begin
abbrev pub set_of : List (List ℕ) → ℕ → List ℕ
set_of rows point =
    if nat_lt point (length rows) then slice_index_or rows (length rows - 1 - point) [] else []

abbrev pub has_at : List (List (List ℕ)) → ℕ → ℕ → ℕ → Bool
has_at blocks b point v = contains (set_of (slice_index_or blocks b []) point) v

-- A constant's set at point i says whether it is live before instruction i. Between two
-- instructions it is live where it is so before both.
abbrev pub constant_at : List (List (List ℕ)) → ℕ → ℕ → ℕ → Bool
constant_at blocks v b layer =
    if nat_eq (layer % 2) 1 then has_at blocks b (layer / 2) v
    else (if nat_eq (layer / 2) 0 then false
    else (has_at blocks b (layer / 2) v && has_at blocks b (layer / 2 - 1) v))

unfoldable pub live_at : Liveness → ℕ → ℕ → ℕ → Bool
live_at l v b layer =
    if contains l.constants v then constant_at l.blocks v b layer
    else has_at l.blocks b (layer / 2) v

-- the variable, the block or the layer is past the end of the code
abbrev pub IsPast : VProc → ℕ → ℕ → ℕ → Type 0
IsPast code v b layer =
    (length code.vars ≤ v) ⊎ ((length code.blocks ≤ b) ⊎ (2 * length (code_of code b) + 1 < layer))

-- The answer at each layer of each block of the code is whether the variable is live there. Past
-- the code it is false.
pub record IsLiveness (code : VProc) (l : Liveness) : Type 0 where
  pub exact : (v b layer : ℕ) → v < length code.vars → b < length code.blocks →
      layer ≤ 2 * length (code_of code b) + 1 → IsTrue (live_at l v b layer) ↔ Live code v b layer
  pub past : (v b layer : ℕ) → IsPast code v b layer → live_at l v b layer ≡ false

abbrev pub is_constant : VarKind → Bool
is_constant (Constant n) = true
is_constant _ = false

abbrev pub AreConstants : VProc → List ℕ → Type 0
AreConstants code set = (v : ℕ) → contains set v ≡ is_constant (kind_of code v)

-- from the end of the instructions to their begin, what is live before the rest of them
pub record RowsBack (constants : ℕ → Bool) (instrs : List VInstr)
    (out : ℕ → Bool) (rows : List (List ℕ)) : Type 0 where
  pub count : length rows ≡ length instrs + 1
  pub members : (k v : ℕ) → k ≤ length instrs → contains (set_of rows k) v
      ≡ through constants (drop k instrs) out v

abbrev pub read_in : List VInstr → ℕ → Bool
read_in instrs v = list_any (λ i. reads i v) instrs

-- the same, without the constants that are not read up to the instruction
pub record RowsOf (constants : ℕ → Bool) (instrs : List VInstr)
    (out : ℕ → Bool) (rows : List (List ℕ)) : Type 0 where
  pub count : length rows ≡ length instrs + 1
  pub members : (k v : ℕ) → k ≤ length instrs → contains (set_of rows k) v
      ≡ (through constants (drop k instrs) out v
      && (read_in (take (k + 1) instrs) v || not (constants v)))

-- the sets of the first so many points have lost the constants that are not read up to the
-- instruction there
pub record Confined (constants : ℕ → Bool) (instrs : List VInstr) (old rows : List (List ℕ))
    (count : ℕ) : Type 0 where
  pub same_count : length rows ≡ length old
  pub done : (k v : ℕ) → k < count → contains (set_of rows k) v
      ≡ (contains (set_of old k) v && (read_in (take (k + 1) instrs) v || not (constants v)))

-- the sets of the first so many blocks
pub record AllRows (code : VProc) (constants : ℕ → Bool) (entries : List (List ℕ))
    (blocks : List (List (List ℕ))) (count : ℕ) : Type 0 where
  pub same_count : length blocks ≡ count
  pub rows : (b : ℕ) → b < count →
      RowsOf constants (code_of code b) (at_exit constants entries (end_of code b))
      (slice_index_or blocks b [])
