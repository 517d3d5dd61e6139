-- When code is other code with some of its branches turned round: the condition is negated, and the
-- two targets are exchanged. Nothing here speaks of runs.
use Rattle.std.specs.Prelude.{◌≡◌, ℕ, suc, ◌⊎◌, length}
use Rattle.pra_base.specs.declared.ids.BlockId.{BlockId}
use Rattle.pra_base.specs.declared.ids.Cond.{Cond}
use Rattle.pra_base.specs.declared.ids.Cond.TheVariants.{B, Ae, E, Ne, Be, A, S, Ns, L, Ge, Le, G}
use Rattle.pra_base.specs.declared.code.End.{End}
use Rattle.pra_base.specs.declared.code.End.TheVariants.{Jump, Branch, Return}
use Rattle.pra_base.specs.declared.code.Block.{Block}
use Rattle.pra_base.specs.declared.code.VProc.{VProc}
use Rattle.pra_base.specs.Code.{block_of, end_of}

-- the condition that holds where this one does not
abbrev pub opposite : Cond → Cond
opposite B = Ae
opposite Ae = B
opposite E = Ne
opposite Ne = E
opposite Be = A
opposite A = Be
opposite S = Ns
opposite Ns = S
opposite L = Ge
opposite Ge = L
opposite Le = G
opposite G = Le

abbrev pub turned_end : End → End
turned_end (Jump b) = Jump b
turned_end (Branch condition one other) = Branch (opposite condition) other one
turned_end Return = Return

abbrev pub turned : Block → Block
turned block = record block { end = turned_end block.end }

-- The code is the old code, in which some branches may be turned round.
pub record IsTurned (old new : VProc) : Type 0 where
  pub id : new.id ≡ old.id
  pub args : new.args ≡ old.args
  pub aggregates : new.aggregates ≡ old.aggregates
  pub vars : new.vars ≡ old.vars
  pub count : length new.blocks ≡ length old.blocks
  pub blocks : (b : ℕ) → (block_of new b ≡ block_of old b) ⊎
      (block_of new b ≡ turned (block_of old b))

-- A branch need not jump over a jump: where its first target comes next, so does the other.
abbrev pub IsShort : (next : ℕ) → End → Type 0
IsShort next end = (condition : Cond) (one other : BlockId) → end ≡ Branch condition one other →
    one.0 ≡ next → other.0 ≡ next

abbrev pub TakesShortWays : VProc → Type 0
TakesShortWays code = (b : ℕ) → IsShort (suc b) (end_of code b)
