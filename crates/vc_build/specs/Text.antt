-- The order in which blocks are listed: each of them once, and how many loops stand around each.
use Rattle.std.specs.Prelude.{◌≡◌, ℕ, zero, suc, ◌+◌, ◌<◌, List, [], ◌∷◌, ◌++◌, length, nat_eq}
use Rattle.std.specs.Prelude.{if◌then◌else◌}
use Rattle.pra_base.specs.Code.{block_of}
use Rattle.pra_base.specs.declared.ids.BlockId.{BlockId}
use Rattle.pra_base.specs.declared.code.VProc.{VProc}
use Rattle.vc_build.specs.Grow.{count}

-- the depth of a block
abbrev pub depth_at : VProc → ℕ → ℕ
depth_at code b = (block_of code b).depth

-- 1 if the numbers are one, else 0
abbrev pub is_one : ℕ → ℕ → ℕ
is_one a b = if nat_eq a b then 1 else 0

-- how often a block stands in a list
abbrev pub times : ℕ → List BlockId → ℕ
times b [] = 0
times b (c ∷ cs) = is_one c.0 b + times b cs

-- how often a number is among those below another one: once, or not at all
abbrev pub below : ℕ → ℕ → ℕ
below b zero = 0
below b (suc n) = below b n + is_one n b

-- These are blocks of the code, with these depths.
abbrev pub HaveDepths : VProc → List BlockId → List ℕ → Type 0
HaveDepths code [] [] = Unit {0}
HaveDepths code [] (d ∷ ds) = ⊥
HaveDepths code (b ∷ bs) [] = ⊥
HaveDepths code (b ∷ bs) (d ∷ ds) =
    (b.0 < count code) × (depth_at code b.0 ≡ d) × HaveDepths code bs ds

-- Blocks were added and entered, each once: these are their depths, in that order. The blocks that
-- were there have the depths that they had.
pub record Enters (old new : VProc) (before after : List BlockId) (depths : List ℕ) : Type 0 where
  pub more : List BlockId
  pub is : after ≡ before ++ more
  pub once : (b : ℕ) → times b more + below b (count old) ≡ below b (count new)
  pub have : HaveDepths new more depths
  pub blocks : count new ≡ count old + length depths
  pub kept : (b : ℕ) → b < count old → depth_at new b ≡ depth_at old b

-- The block was entered last.
pub record IsLast (order : List BlockId) (b : ℕ) : Type 0 where
  pub rest : List BlockId
  pub last : BlockId
  pub is : order ≡ rest ++ last ∷ []
  pub number : last.0 ≡ b

-- ---- added code

-- Code leads from one open block to another, which is as deep, and was entered last if the first
-- one was. The blocks between were entered in this order, and have these depths.
pub record GoesOn (from to : ℕ) (old new : VProc) (before after : List BlockId) (depths : List ℕ)
    : Type 0 where
  pub enters : Enters old new before after depths
  pub last : IsLast before from → IsLast after to
  pub depth : depth_at new to ≡ depth_at old from
