-- When code is other code without checks that cannot fail. Nothing here speaks of runs.
use Rattle.std.specs.Prelude.{◌≡◌, ℕ, ◌<◌, List, [], ◌∷◌, length, slice_index_or, Option, Some}
use Rattle.std.specs.Prelude.{None}
use Rattle.pra_base.specs.Code.{block_in, block_of, kind_of, code_of, end_of}
use Rattle.pra_base.specs.declared.code.Block.{Block}
use Rattle.pra_base.specs.declared.code.VInstr.{VInstr}
use Rattle.pra_base.specs.declared.code.End.{End}
use Rattle.pra_base.specs.declared.code.VProc.{VProc}
use Rattle.vc_checks.specs.declared.fact.Fact.{Fact}
use Rattle.vc_checks.specs.Facts.{Kinds, EntailAt, Follow, CannotFail}

-- the facts that hold at the begin of each block
abbrev pub Begins : Type 0
Begins = ℕ → List Fact

-- What is left of a block from a place at which the facts hold, behind its last instruction so far,
-- and the same without checks that cannot fail there. Where control goes from the block's end, the
-- facts hold with which that block begins.
pub data Part (kind : Kinds) (begins : Begins) (end : End) :
    Option VInstr → List Fact → List VInstr → List VInstr → Type 0 where
  ends : {last : Option VInstr} {facts : List Fact} →
      ((t : ℕ) → EntailAt kind last end t facts (begins t)) → Part kind begins end last facts [] []
  stays : {last : Option VInstr} {facts behind : List Fact} {x : VInstr} {xs ys : List VInstr} →
      Follow kind x facts behind → Part kind begins end (Some x) behind xs ys →
      Part kind begins end last facts (x ∷ xs) (x ∷ ys)
  left_out : {last : Option VInstr} {facts : List Fact} {x : VInstr} {xs ys : List VInstr} →
      CannotFail kind facts x → Part kind begins end (Some x) facts xs ys →
      Part kind begins end last facts (x ∷ xs) ys

-- The code is the old code without checks that cannot fail, by facts that hold wherever control
-- comes. Nothing is known at the entry.
pub record IsWithout (begins : Begins) (old new : VProc) : Type 0 where
  pub id : new.id ≡ old.id
  pub args : new.args ≡ old.args
  pub aggregates : new.aggregates ≡ old.aggregates
  pub vars : new.vars ≡ old.vars
  pub count : length new.blocks ≡ length old.blocks
  pub depths : (b : ℕ) → (block_of new b).depth ≡ (block_of old b).depth
  pub ends : (b : ℕ) → end_of new b ≡ end_of old b
  pub entry : begins 0 ≡ []
  pub code : (b : ℕ) →
      Part (kind_of old) begins (end_of old b) None (begins b) (code_of old b) (code_of new b)

-- checks are left out, and nothing else, each where it cannot fail
abbrev pub LeavesOut : VProc → VProc → Type 0
LeavesOut old new = (begins : Begins) × IsWithout begins old new

-- ---- as lists

-- the last instruction of a list, or one before it
abbrev pub last_of : Option VInstr → List VInstr → Option VInstr
last_of last [] = last
last_of last (x ∷ xs) = last_of (Some x) xs

-- The second list is the first one without checks that cannot fail, from facts to those behind it.
abbrev pub Thins : Kinds → List Fact → List VInstr → List Fact → List VInstr → Type 0
Thins kind facts xs behind ys =
    (begins : Begins) (end : End) →
    ((t : ℕ) → EntailAt kind (last_of None xs) end t behind (begins t)) →
    Part kind begins end None facts xs ys

-- the facts that lists have at the begin of each block
abbrev pub begins_in : List (List Fact) → Begins
begins_in lists b = slice_index_or lists b []

-- a block without checks that cannot fail
pub record ThinsBlock (code : VProc) (begins : Begins) (b : ℕ) (new : Block) : Type 0 where
  pub depth : new.depth ≡ (block_of code b).depth
  pub end : new.end ≡ end_of code b
  pub part : Part (kind_of code) begins (end_of code b) None (begins b) (code_of code b) new.code

-- so many blocks
pub record ThinsAll (code : VProc) (begins : Begins) (news : List Block) (n : ℕ) : Type 0 where
  pub count : length news ≡ n
  pub each : (b : ℕ) → b < n → ThinsBlock code begins b (block_in news b)

abbrev pub with_blocks : VProc → List Block → VProc
with_blocks code blocks = record code { blocks = blocks }
