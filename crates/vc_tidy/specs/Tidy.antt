-- When code is tidy: nothing dead, no copy that could be saved, no variable without use.
use Rattle.std.specs.Prelude.{◌≡◌, ℕ, ◌+◌, ◌*◌, ◌<◌, ◌⊎◌, Bool, true, false, ◌||◌, ◌&&◌, nat_eq}
use Rattle.std.specs.Prelude.{length, Some}
use Rattle.pra_base.specs.declared.ids.VarId.{VarId}
use Rattle.pra_base.specs.declared.code.VInstr.{VInstr}
use Rattle.pra_base.specs.declared.code.VInstr.TheVariants.{Copy}
use Rattle.pra_base.specs.declared.code.VarKind.{VarKind}
use Rattle.pra_base.specs.declared.code.VarKind.TheVariants.{Param, Plain}
use Rattle.pra_base.specs.declared.code.VProc.{VProc}
use Rattle.pra_base.specs.Code.{kind_of, instr_at}
use Rattle.pra_base.specs.Operands.{writes}
use Rattle.pra_base.specs.Live.{Live}
use Rattle.pra_base.specs.Valid.{Names}
use Rattle.vc_same.specs.Pure.{is_pure}
use Rattle.vc_same.specs.Reduction.{IsNamed, overwrites}

-- ---- dead instructions

-- no result of instruction k of block b is live behind it
abbrev pub IsDead : VProc → ℕ → ℕ → VInstr → Type 0
IsDead code b k i = (v : ℕ) → writes i v ≡ true → Live code v b (2 * k + 2) → ⊥

-- There is no pure instruction all of whose results are dead.
abbrev pub NoDead : VProc → Type 0
NoDead code = (b k : ℕ) (i : VInstr) → instr_at code b k ≡ Some i → is_pure i ≡ true →
    IsDead code b k i → ⊥

-- ---- copies between variables that can be one

-- a copy from one to the other or back
abbrev pub is_between : ℕ → ℕ → VInstr → Bool
is_between v w (Copy t s) =
    (nat_eq t.0 v && nat_eq s.0 w) || (nat_eq t.0 w && nat_eq s.0 v)
is_between v w _ = false

-- Chaitin's interference: some instruction overwrites one variable where the other one is live
-- behind it, and is no copy between the two.
abbrev pub Interferes : VProc → ℕ → ℕ → Type 0
Interferes code v w =
    (b k : ℕ) × (i : VInstr) × (instr_at code b k ≡ Some i) × (is_between v w i ≡ false)
    × (overwrites i v ≡ true) × Live code w b (2 * k + 2)

-- no instruction but copies between the two has both
abbrev pub OneEach : VProc → ℕ → ℕ → Type 0
OneEach code v w =
    (b k : ℕ) (i : VInstr) → instr_at code b k ≡ Some i → Names i v → Names i w →
    is_between v w i ≡ false → ⊥

-- Two variables that may be one: where both are live they are equal, since neither is overwritten
-- there but by a copy of the other.
pub record AreApart (code : VProc) (v w : ℕ) : Type 0 where
  pub there : Interferes code v w → ⊥
  pub back : Interferes code w v → ⊥
  pub one_each : OneEach code v w

-- the kinds of two variables that may be one: both are Plain, or one is Plain and one an argument's
abbrev pub can_merge : VarKind → VarKind → Bool
can_merge Plain Plain = true
can_merge Plain (Param i) = true
can_merge (Param i) Plain = true
can_merge _ _ = false

abbrev pub CanMerge : VProc → ℕ → ℕ → Type 0
CanMerge code v w = can_merge (kind_of code v) (kind_of code w) ≡ true

-- instruction k of block b is no copy between two variables that may be one
abbrev pub NoCopyAt : VProc → ℕ → ℕ → Type 0
NoCopyAt code b k =
    (t s : VarId) → instr_at code b k ≡ Some (Copy t s) → CanMerge code t.0 s.0 →
    AreApart code t.0 s.0 → ⊥

abbrev pub NoCopy : VProc → Type 0
NoCopy code = (b k : ℕ) → NoCopyAt code b k

-- ---- variables that no instruction has

-- Each variable stands for an argument or is had by an instruction.
abbrev pub NoUnused : VProc → Type 0
NoUnused code = (v : ℕ) → v < length code.vars →
    ((i : ℕ) × (kind_of code v ≡ Param i)) ⊎ IsNamed code v

-- ---- tidy code

pub record IsTidy (code : VProc) : Type 0 where
  pub no_dead : NoDead code
  pub no_copy : NoCopy code
  pub no_unused : NoUnused code
