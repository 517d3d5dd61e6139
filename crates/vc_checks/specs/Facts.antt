-- What is known of the numbers that variables hold at a place of the code, and what is known behind
-- an instruction: assertions between instructions (Floyd, Assigning meanings to programs).
use Rattle.std.specs.Prelude.{◌≡◌, ℕ, ◌^◌, ◌<◌, ℤ, ◌≤ℤ◌, Bool, true, false, not, nat_eq}
use Rattle.std.specs.Prelude.{bit_and, if◌then◌else◌, List, [], ◌∷◌, Option, Some, None}
use Rattle.pra_list.specs.Among.{Among}
use Rattle.pra_base.specs.Operands.{writes}
use Rattle.pra_base.specs.Code.{IsTarget}
use Rattle.pra_base.specs.Words.{word, signed, is_positive, sum32, diff32, compares}
use Rattle.pra_base.specs.declared.ids.VarId.{VarId}
use Rattle.pra_base.specs.declared.code.VarKind.{VarKind}
use Rattle.pra_base.specs.declared.code.VInstr.{VInstr}
use Rattle.pra_base.specs.declared.code.VInstr.TheVariants.{Set, Copy, Add, Sub, And, Cmp, Check}
use Rattle.pra_base.specs.declared.code.VInstr.TheVariants.{CheckPos}
use Rattle.pra_base.specs.declared.code.End.{End}
use Rattle.pra_base.specs.declared.code.End.TheVariants.{Branch}
use Rattle.vc_code.specs.declared.value.Value.TheVariants.{Num}
use Rattle.vc_code.specs.Value.{Held, Words, is_index}
use Rattle.vc_code.specs.Selected.{read, valued}
use Rattle.vc_checks.specs.declared.fact.Fact.{Fact}

abbrev pub Kinds : Type 0
Kinds = ℕ → VarKind

-- ---- what checks ask for

-- a number from 0 on and below n
abbrev pub IsIndex : ℤ → Held → Type 0
IsIndex n h = (a : ℕ) × (h ≡ Some (Num a)) × (is_index a n ≡ true)

-- a number above 0
abbrev pub IsPositive : Held → Type 0
IsPositive h = (a : ℕ) × (h ≡ Some (Num a)) × (is_positive a ≡ true)

-- ---- facts

-- a word between two numbers
abbrev pub IsBetween : ℤ → ℤ → Held → Type 0
IsBetween low high h =
    (a : ℕ) × (h ≡ Some (Num a)) × (low ≤ℤ signed a) × (signed a ≤ℤ high) × (a < 2 ^ 32)

-- f gives of numbers between those of the first two facts one between those of the third
abbrev pub Bounds : (ℕ → ℕ → ℕ) → Fact → Fact → Fact → Type 0
Bounds f one other fact =
    (a b : ℕ) → IsBetween one.low one.high (Some (Num a)) →
    IsBetween other.low other.high (Some (Num b)) →
    IsBetween fact.low fact.high (Some (Num (f a b)))

abbrev pub Holds : Kinds → Words → Fact → Type 0
Holds kind held f = IsBetween f.low f.high (read kind held f.var.0)

abbrev pub AllHold : Kinds → Words → List Fact → Type 0
AllHold kind held facts = (f : Fact) → Among f facts → Holds kind held f

-- wherever the first facts hold, the others do
abbrev pub Entail : Kinds → List Fact → List Fact → Type 0
Entail kind facts others = (held : Words) → AllHold kind held facts → AllHold kind held others

-- wherever the facts hold, the variable holds a value like this
abbrev pub Know : Kinds → List Fact → ℕ → (Held → Type 0) → Type 0
Know kind facts v P = (held : Words) → AllHold kind held facts → P (read kind held v)

-- a fact of another variable
abbrev pub is_other : ℕ → Fact → Bool
is_other v f = not (nat_eq f.var.0 v)

-- ---- behind an instruction

-- what up to two results are
abbrev pub listed : Option VarId × Option VarId → List ℕ
listed (None, w) = []
listed (Some v, None) = v.0 ∷ []
listed (Some v, Some w) = v.0 ∷ w.0 ∷ []

-- v holds what f gives of the numbers that two variables held
abbrev pub Computes : (ℕ → ℕ → ℕ) → Kinds → ℕ → ℕ → Words → Words → Type 0
Computes f kind v s held new =
    (a : ℕ) × (b : ℕ) × (read kind held v ≡ Some (Num a)) × (read kind held s ≡ Some (Num b))
    × (read kind new v ≡ valued (kind v) (Some (Num (f a b))))

-- what is told of values by an instruction that was passed, from what variables hold before it and
-- behind it
abbrev pub Tells : Kinds → VInstr → Words → Words → Type 0
Tells kind (Set v n) held new = read kind new v.0 ≡ valued (kind v.0) (Some (Num (word n)))
Tells kind (Copy v s) held new = read kind new v.0 ≡ valued (kind v.0) (read kind held s.0)
Tells kind (Add v s) held new = Computes sum32 kind v.0 s.0 held new
Tells kind (Sub v s) held new = Computes diff32 kind v.0 s.0 held new
Tells kind (And v s) held new = Computes bit_and kind v.0 s.0 held new
Tells kind (Check v n) held new = IsIndex n (read kind held v.0)
Tells kind (CheckPos v) held new = IsPositive (read kind held v.0)
Tells kind _ held new = Unit {0}

-- the instruction was passed: what it does not write holds what it held
pub record Passes (kind : Kinds) (i : VInstr) (held new : Words) : Type 0 where
  pub kept : (v : ℕ) → writes i v ≡ false → read kind new v ≡ read kind held v
  pub tells : Tells kind i held new

-- where the facts hold before the instruction, the others hold behind it
abbrev pub Follow : Kinds → VInstr → List Fact → List Fact → Type 0
Follow kind i facts others =
    (held new : Words) → AllHold kind held facts → Passes kind i held new →
    AllHold kind new others

-- ---- checks that can't fail

-- the instruction is a check that never traps where the facts hold
pub data CannotFail (kind : Kinds) (facts : List Fact) : VInstr → Type 0 where
  index : {v : VarId} {n : ℤ} → Know kind facts v.0 (IsIndex n) →
      CannotFail kind facts (Check v n)
  positive : {v : VarId} → Know kind facts v.0 IsPositive → CannotFail kind facts (CheckPos v)

-- ---- at the end of a block

-- Control goes from the end of a block to t: by a branch to the arm that tells how the numbers
-- compare of which its last instruction is a comparison.
abbrev pub Goes : Kinds → Option VInstr → End → Words → ℕ → Type 0
Goes kind (Some (Cmp x y)) (Branch condition one other) held t =
    (a : ℕ) × (b : ℕ) × (read kind held x.0 ≡ Some (Num a)) × (read kind held y.0 ≡ Some (Num b))
    × ((if compares condition a b then one.0 else other.0) ≡ t)
Goes kind last end held t = IsTarget end t

-- wherever the first facts hold and control goes to t, the others do
abbrev pub EntailAt : Kinds → Option VInstr → End → ℕ → List Fact → List Fact → Type 0
EntailAt kind last end t facts others =
    (held : Words) → AllHold kind held facts → Goes kind last end held t → AllHold kind held others
