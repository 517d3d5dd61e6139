-- What code that was added for a tree keeps of valid code, over a certificate of what its blocks
-- may read: a proof of what the code does never speaks of it.
use Rattle.std.specs.Prelude.{◌≡◌, ◌≢◌, ℕ, ◌<◌, ◌≤◌, ◌⊎◌, true, List, length, Some, None, Option}
use Rattle.std.specs.Prelude.{slice_get}
use Rattle.pra_base.specs.declared.ids.VarId.{VarId}
use Rattle.pra_base.specs.declared.code.Base.{Base}
use Rattle.pra_base.specs.declared.code.Base.TheVariants as base
use Rattle.pra_base.specs.declared.code.VarKind.TheVariants.{Param}
use Rattle.pra_base.specs.declared.code.VProc.{VProc}
use Rattle.vc_build.specs.Grow.{count}
use Rattle.vc_expr.specs.Readable.{Entries, usable, Certifies, Publishes}
use Rattle.vc_expr.specs.Rules.{KeepsRules, StaysValid}
use Rattle.vc_expr.specs.declared.branch.Targets.{Targets}
use Rattle.vc_relation.specs.declared.home.Home.{Home}
use Rattle.vc_relation.specs.declared.home.Home.TheVariants as home
use Rattle.vc_select.specs.declared.target.Setting.{Setting}
use Rattle.vc_select.specs.declared.target.Target.{Target}
use Rattle.vc_select.specs.declared.target.Target.TheVariants.{Var, Memory}
use Rattle.vc_select.specs.Targets.{above_setting}

-- ---- what selection begins with

-- a parameter or a local of the procedure is there
abbrev pub IsHome : Setting → Home → Type 0
IsHome g h = (k : ℕ) × ((slice_get g.params.now k ≡ Some h) ⊎ (slice_get g.locals.now k ≡ Some h))

-- an argument of the code that is in no variable
abbrev pub IsCell : VProc → ℕ → Type 0
IsCell code k = (k < code.args) × ((v : ℕ) → slice_get code.vars v ≢ Some (Param k))

-- no variable that is added is a parameter
abbrev pub AddsNoParam : (old new : VProc) → Type 0
AddsNoParam old new =
    (v k : ℕ) → slice_get new.vars v ≡ Some (Param k) → slice_get old.vars v ≡ Some (Param k)

-- The code keeps the rules of valid code, and a certificate tells what each of its blocks may read.
-- At the end of a block each variable that is a home may be read.
pub record IsReady (g : Setting) (counts : List ℕ) (known : Entries) (code : VProc) (at : ℕ)
    : Type 0 where
  pub rules : KeepsRules counts code
  pub certifies : Certifies known code
  pub homes : (v : VarId) → IsHome g (home.Var v) → usable known code at v.0 ≡ true
  pub cells : (k : ℕ) → IsHome g (home.Cell k) → IsCell code k

-- ---- code that goes on at the end of a block

-- a later certificate, which is the same for the blocks that were there
abbrev pub IsContinued : Entries → VProc → Entries → Type 0
IsContinued known old next = (b v : ℕ) → b < count old → next b v ≡ known b v

-- Later code with a certificate that is the same for the blocks that were there. At the end of the
-- block `to` the answer may be read, and so may those of the first variables that might be read at
-- the end of the block `from`.
pub record Continues
    (g : Setting) (counts : List ℕ) (known : Entries) (first : ℕ) (old new : VProc) (from to : ℕ)
    (InAnswer : ℕ → Type 0) : Type 0 where
  pub next : Entries
  pub same : IsContinued known old next
  pub ready : IsReady g counts next new to
  pub answer : (v : ℕ) → InAnswer v → usable next new to v ≡ true
  pub others : (v : ℕ) → v < first → usable known old from v ≡ true → usable next new to v ≡ true

-- a home, or a variable that is none of the first ones
abbrev pub IsFresh : Setting → (first v : ℕ) → Type 0
IsFresh g first v = (v < above_setting g) ⊎ (first ≤ v)

-- Code that was added for an expression or a variable keeps the rules, and is certified. Its answer
-- is a variable that was added, or a home.
pub record StaysReady
    (g : Setting) (first : ℕ) (old new : VProc) (from to : ℕ) (InAnswer : ℕ → Type 0) : Type 0 where
  pub stays : (counts : List ℕ) (known : Entries) → IsReady g counts known old from →
      Continues g counts known first old new from to InAnswer
  pub fresh : (v : ℕ) → InAnswer v → IsFresh g first v

abbrev pub IsAnswer : ℕ → ℕ → Type 0
IsAnswer u v = v ≡ u

-- ---- targets

abbrev pub InBase : Base → ℕ → Type 0
InBase (base.Via u) v = v ≡ u.0
InBase _ v = ⊥

abbrev pub InIndex : Option VarId → ℕ → Type 0
InIndex (Some u) v = v ≡ u.0
InIndex None v = ⊥

-- the variables of a target
abbrev pub InTarget : Target → ℕ → Type 0
InTarget (Var u) v = v ≡ u.0
InTarget (Memory a) v = InBase a.base v ⊎ InIndex a.index v

abbrev pub CellOfBase : Base → ℕ → Type 0
CellOfBase (base.Cell n) k = k ≡ n
CellOfBase _ k = ⊥

-- the argument in whose cell a target is
abbrev pub CellOf : Target → ℕ → Type 0
CellOf (Var u) k = ⊥
CellOf (Memory a) k = CellOfBase a.base k

-- Code leads from a target to another one. The latter has a new index, or the index of the former.
pub record StaysReadyFrom
    (g : Setting) (first : ℕ) (old new : VProc) (from to : ℕ) (begin end : Target) : Type 0 where
  pub stays : (counts : List ℕ) (known : Entries) → IsReady g counts known old from →
      ((v : ℕ) → InTarget begin v → usable known old from v ≡ true) →
      Continues g counts known first old new from to (InTarget end)
  pub fresh : (v : ℕ) → InTarget end v → InTarget begin v ⊎ IsFresh g first v
  pub cells : (k : ℕ) → CellOf end k → CellOf begin k

-- ---- indexes

-- Where the index so far and the index in a variable may be read, so may the new index.
pub record ReadsIndex
    (first at : ℕ) (old new : VProc) (so_far : Option VarId) (index v : ℕ) : Type 0 where
  pub reads : (known : Entries) → Certifies known old →
      ((u : ℕ) → InIndex so_far u → usable known old at u ≡ true) →
      usable known old at index ≡ true → Publishes known first at old new v
  pub fresh : (v ≡ index) ⊎ (first ≤ v)

-- the same of targets
pub record PublishesTarget
    (known : Entries) (first at : ℕ) (old new : VProc) (end : Target) : Type 0 where
  pub certifies : Certifies known new
  pub answer : (v : ℕ) → InTarget end v → usable known new at v ≡ true
  pub others : (v : ℕ) → v < first → usable known old at v ≡ true → usable known new at v ≡ true

pub record ReadsTarget
    (first at : ℕ) (old new : VProc) (begin : Target) (index : ℕ) (end : Target) : Type 0 where
  pub reads : (known : Entries) → Certifies known old →
      ((v : ℕ) → InTarget begin v → usable known old at v ≡ true) →
      usable known old at index ≡ true → PublishesTarget known first at old new end
  pub fresh : (v : ℕ) → InTarget end v → InTarget begin v ⊎ ((v ≡ index) ⊎ (first ≤ v))
  pub cells : (k : ℕ) → CellOf end k → CellOf begin k

-- The word at an address is loaded into a new variable; or the target is a variable.
pub record ReadsWord (at : ℕ) (old new : VProc) (target : Target) (v : ℕ) : Type 0 where
  pub reads : (known : Entries) → Certifies known old →
      ((u : ℕ) → InTarget target u → usable known old at u ≡ true) →
      Publishes known (length old.vars) at old new v
  pub valid : ((k : ℕ) → CellOf target k → IsCell old k) → StaysValid old new
  pub fresh : InTarget target v ⊎ (length old.vars ≤ v)

-- ---- conditions

-- A block may read at its begin only variables that the code has, and that may be read at the end
-- of the block `at`.
abbrev pub Awaits : Entries → (target : ℕ) → VProc → (at : ℕ) → Type 0
Awaits known target code at =
    (v : ℕ) → known target v ≡ true → (v < length code.vars) × (usable known code at v ≡ true)

-- Later code in which the block `from` is closed. Other blocks that were ready for more still are.
pub record Closes
    (g : Setting) (counts : List ℕ) (known : Entries) (old new : VProc) (from : ℕ) : Type 0 where
  pub next : Entries
  pub same : IsContinued known old next
  pub rules : KeepsRules counts new
  pub certifies : Certifies next new
  pub waiting : (b : ℕ) → b < count old → b ≢ from → IsReady g counts known old b →
      IsReady g counts next new b

-- Code for a condition leaves a block for two others, neither of which is the entry.
pub record EndsReady (g : Setting) (old new : VProc) (from : ℕ) (targets : Targets) : Type 0 where
  pub stays : (counts : List ℕ) (known : Entries) → IsReady g counts known old from →
      0 < targets.holds.0 → 0 < targets.fails.0 → Awaits known targets.holds.0 old from →
      Awaits known targets.fails.0 old from → Closes g counts known old new from
