-- Blocks without their dead instructions, one block after the other, from what is live at its exit.
use Rattle.std.specs.Prelude.{◌≡◌, ℕ, ◌+◌, ◌*◌, ◌<◌, Bool, true, false, not, ◌||◌, ◌&&◌}
use Rattle.std.specs.Prelude.{List, [], ◌∷◌, length, slice_get, slice_index_or, Option, Some, None}
use Rattle.pra_base.specs.declared.code.Block.{Block}
use Rattle.pra_base.specs.declared.code.VInstr.{VInstr}
use Rattle.pra_base.specs.Code.{block_in}
use Rattle.pra_base.specs.Operands.{reads, writes}
use Rattle.pra_base.specs.Valid.{Names, instruction_count}
use Rattle.pra_base.specs.declared.code.VProc.{VProc}
use Rattle.vc_same.specs.SameRuns.{Preserves}
use Rattle.vc_tidy.specs.KindCounts.{KeepsKinds}
use Rattle.vc_tidy.specs.Tidy.{NoDead}
use Rattle.vc_live.specs.declared.liveness.Liveness.{Liveness}
use Rattle.vc_live.specs.Rows.{live_at}
use Rattle.vc_same.specs.Pure.{is_pure}

-- the mark of a variable
abbrev pub is_marked : List Bool → ℕ → Bool
is_marked marks v = slice_index_or marks v false

-- some instruction of the list has the variable
abbrev pub IsIn : List VInstr → ℕ → Type 0
IsIn code v = (k : ℕ) × (i : VInstr) × (slice_get code k ≡ Some i) × Names i v

-- there is a mark for each variable of the list
abbrev pub HasMarks : List Bool → List VInstr → Type 0
HasMarks marks code = (v : ℕ) → IsIn code v → v < length marks

-- the variables of the list are marked where they are live
abbrev pub AreMarked : List Bool → List VInstr → (ℕ → Bool) → Type 0
AreMarked marks code live = (v : ℕ) → IsIn code v → is_marked marks v ≡ live v

-- live before a list of instructions, from what is live behind it
unfoldable pub ahead : List VInstr → (ℕ → Bool) → ℕ → Bool
ahead [] exit v = exit v
ahead (i ∷ rest) exit v = reads i v || (ahead rest exit v && not (writes i v))

abbrev pub Unneeded : VInstr → (ℕ → Bool) → Type 0
Unneeded i live = (v : ℕ) → writes i v ≡ true → live v ≡ false

-- The second list is the first one without its pure instructions whose results are not live in
-- front of what is left behind them.
pub data Thins (exit : ℕ → Bool) : List VInstr → List VInstr → Type 0 where
  none : Thins exit [] []
  keeps : {x : VInstr} {xs ys : List VInstr} →
      (is_pure x ≡ true → Unneeded x (ahead ys exit) → ⊥) → Thins exit xs ys →
      Thins exit (x ∷ xs) (x ∷ ys)
  drops : {x : VInstr} {xs ys : List VInstr} → is_pure x ≡ true → Unneeded x (ahead ys exit) →
      Thins exit xs ys → Thins exit (x ∷ xs) ys

-- what is live at the exit of a block
abbrev pub exit_of : Liveness → ℕ → List VInstr → ℕ → Bool
exit_of l b code v = live_at l v b (2 * length code + 1)

pub record ThinsBlock (l : Liveness) (b : ℕ) (old new : Block) : Type 0 where
  pub depth : new.depth ≡ old.depth
  pub end : new.end ≡ old.end
  pub code : Thins (exit_of l b old.code) old.code new.code

-- so many blocks
pub record ThinsAll (l : Liveness) (olds news : List Block) (n : ℕ) : Type 0 where
  pub count : length news ≡ n
  pub each : (b : ℕ) → b < n → ThinsBlock l b (block_in olds b) (block_in news b)

-- what is left of code without its dead instructions, or nothing where nothing is dead
abbrev pub IsThinned : VProc → Option VProc → Type 0
IsThinned old (Some new) =
    Preserves old new × KeepsKinds old new
    × (instruction_count new.blocks < instruction_count old.blocks)
IsThinned old None = NoDead old
