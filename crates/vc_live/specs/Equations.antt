-- The equations of liveness over blocks (Appel, Modern Compiler Implementation, section 10.1).
use Rattle.std.specs.Prelude.{◌≡◌, ℕ, ◌/◌, ◌<◌, sum_by, Bool, true, false}
use Rattle.std.specs.Prelude.{not, ◌||◌, ◌&&◌, nat_eq, List, [], ◌∷◌, drop, length, slice_get}
use Rattle.std.specs.Prelude.{slice_index_or, Some}
use Rattle.std.specs.List.{list_any}
use Rattle.pra_base.specs.declared.code.VInstr.{VInstr}
use Rattle.pra_base.specs.declared.code.End.{End}
use Rattle.pra_base.specs.declared.code.End.TheVariants.{Jump, Branch, Return}
use Rattle.pra_base.specs.Operands.{reads, writes}
use Rattle.pra_base.specs.declared.code.VProc.{VProc}
use Rattle.pra_base.specs.Code.{code_of, end_of}
use Rattle.pra_base.specs.Live.{ReadBeforeWritten}
use Rattle.pra_base.specs.Valid.{Names}
use Rattle.vc_code.specs.declared.row.Role.{Role}
use Rattle.vc_live.specs.Sets.{contains, room}

-- the variable stands in one of the roles
unfoldable pub named_in : List Role → ℕ → Bool
named_in roles v = list_any (λ role. nat_eq role.var.0 v) roles

-- live before an instruction, from what is live after it: what is read, and what is not written. No
-- constant is written.
unfoldable pub before : (ℕ → Bool) → VInstr → (ℕ → Bool) → ℕ → Bool
before constants i after v = reads i v || (after v && (constants v || not (writes i v)))

-- live before a list of instructions, from what is live at its end
unfoldable pub through : (ℕ → Bool) → List VInstr → (ℕ → Bool) → ℕ → Bool
through constants [] out v = out v
through constants (i ∷ rest) out v = before constants i (through constants rest out) v

abbrev pub entry : List (List ℕ) → ℕ → List ℕ
entry entries b = slice_index_or entries b []

-- live at the entry of a target
abbrev pub at_targets : List (List ℕ) → End → ℕ → Bool
at_targets entries (Jump b) v = contains (entry entries b.0) v
at_targets entries (Branch condition one other) v =
    contains (entry entries one.0) v || contains (entry entries other.0) v
at_targets entries Return v = false

-- live at an end, from what is live at the entries
unfoldable pub at_exit : (ℕ → Bool) → List (List ℕ) → End → ℕ → Bool
at_exit constants entries end v = at_targets entries end v && not (constants v)

-- ---- what is in range

abbrev pub HasRoom : List ℕ → VInstr → Type 0
HasRoom set i = (v : ℕ) → Names i v → v / 64 < length set

abbrev pub Fits : ℕ → List VInstr → Type 0
Fits words code = (k : ℕ) (i : VInstr) → slice_get code k ≡ Some i → (v : ℕ) → Names i v →
    v / 64 < words

abbrev pub FitsEnd : ℕ → End → Type 0
FitsEnd blocks (Jump b) = b.0 < blocks
FitsEnd blocks (Branch condition one other) = (one.0 < blocks) × (other.0 < blocks)
FitsEnd blocks Return = Unit {0}

abbrev pub HaveWords : ℕ → List (List ℕ) → Type 0
HaveWords words entries = (b : ℕ) → b < length entries → length (entry entries b) ≡ words

-- ---- entries

-- live before instruction k of block b, from what is live at the entries
unfoldable pub live_in : VProc → (ℕ → Bool) → List (List ℕ) → ℕ → ℕ → ℕ → Bool
live_in code constants entries b k v =
    through constants (drop k (code_of code b)) (at_exit constants entries (end_of code b)) v

-- what the entries have is live there
abbrev pub IsSound : VProc → (ℕ → Bool) → List (List ℕ) → Type 0
IsSound code constants entries = (b v : ℕ) → constants v ≡ false →
    contains (entry entries b) v ≡ true → ReadBeforeWritten code v (record { block = b; index = 0 })

-- the entry of the block has what its equation asks for
abbrev pub IsClosedAt : VProc → (ℕ → Bool) → List (List ℕ) → ℕ → Type 0
IsClosedAt code constants entries b = (v : ℕ) → live_in code constants entries b 0 v ≡ true →
    contains (entry entries b) v ≡ true

abbrev pub IsClosed : VProc → (ℕ → Bool) → List (List ℕ) → Type 0
IsClosed code constants entries = (b : ℕ) → b < length code.blocks →
    IsClosedAt code constants entries b

-- the code names variables that the sets have room for, and blocks that there are
pub record InRange (words : ℕ) (code : VProc) : Type 0 where
  pub instrs : (b : ℕ) → Fits words (code_of code b)
  pub ends : (b : ℕ) → b < length code.blocks → FitsEnd (length code.blocks) (end_of code b)

-- one set for each block, each with so many words
pub record Shape (words : ℕ) (code : VProc) (entries : List (List ℕ)) : Type 0 where
  pub count : length entries ≡ length code.blocks
  pub sets : HaveWords words entries

-- how far the entries may still grow
unfoldable pub total_room : List (List ℕ) → ℕ
total_room entries = sum_by room entries
