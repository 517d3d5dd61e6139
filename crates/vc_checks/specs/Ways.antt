-- What is known where control goes from the end of a block.
use Rattle.std.specs.Prelude.{◌≡◌, ℕ, ◌≤ℤ◌, ◌⊎◌, Bool, Option, Some, None, List}
use Rattle.pra_base.specs.Words.{signed, compares}
use Rattle.pra_base.specs.declared.ids.BlockId.{BlockId}
use Rattle.pra_base.specs.declared.code.Block.{Block}
use Rattle.pra_base.specs.declared.code.VInstr.TheVariants.{Cmp}
use Rattle.pra_base.specs.declared.code.End.{End}
use Rattle.pra_base.specs.declared.code.End.TheVariants.{Jump, Branch, Return}
use Rattle.vc_code.specs.declared.value.Value.TheVariants.{Num}
use Rattle.vc_code.specs.Value.{Words}
use Rattle.vc_code.specs.Selected.{read}
use Rattle.vc_checks.specs.declared.fact.Fact.{Fact}
use Rattle.vc_checks.specs.declared.ways.Comparison.{Comparison}
use Rattle.vc_checks.specs.declared.ways.Span.{Span}
use Rattle.vc_checks.specs.declared.ways.Ways.{Ways}
use Rattle.vc_checks.specs.Facts.{Kinds, AllHold, Entail, Goes}
use Rattle.vc_checks.specs.LeftOut.{Begins, last_of}

abbrev pub IsWithin : Span → ℕ → Type 0
IsWithin span a = (span.low ≤ℤ signed a) × (signed a ≤ℤ span.high)

-- two variables hold numbers of which the condition holds, or does not
abbrev pub Compares : Kinds → Words → Comparison → Bool → Type 0
Compares kind held c way =
    (a : ℕ) × (b : ℕ) × (read kind held c.one.0 ≡ Some (Num a))
    × (read kind held c.other.0 ≡ Some (Num b)) × (compares c.condition a b ≡ way)

-- the block ends with this comparison and a branch by it
pub record IsComparison (block : Block) (c : Comparison) : Type 0 where
  pub one : BlockId
  pub other : BlockId
  pub last : last_of None block.code ≡ Some (Cmp c.one c.other)
  pub end : block.end ≡ Branch c.condition one other

-- the targets of a block's end
abbrev pub first_target : End → Option ℕ
first_target (Jump b) = Some b.0
first_target (Branch condition one other) = Some one.0
first_target Return = None

abbrev pub second_target : End → Option ℕ
second_target (Branch condition one other) = Some other.0
second_target _ = None

-- Where control goes from the block's end, at which the facts hold, those of that way hold too.
abbrev pub AreWays : Kinds → Block → List Fact → Ways → Type 0
AreWays kind block facts ways =
    (held : Words) (t : ℕ) → AllHold kind held facts →
    Goes kind (last_of None block.code) block.end held t →
    ((first_target block.end ≡ Some t) × AllHold kind held ways.one.items)
    ⊎ ((second_target block.end ≡ Some t) × AllHold kind held ways.other.items)

-- what is known on a way entails what the block begins with to which it leads
abbrev pub Leave : Begins → End → Ways → Type 0
Leave begins end ways =
    (kind : Kinds) (t : ℕ) →
    ((first_target end ≡ Some t) → Entail kind ways.one.items (begins t))
    × ((second_target end ≡ Some t) → Entail kind ways.other.items (begins t))
