-- What the code of an index does: its value is tested, multiplied by the words of an element, and
-- added to the index so far.
use Rattle.std.specs.Prelude.{◌≡◌, ℕ, ◌+◌, ◌*◌, ◌^◌, ◌<◌, pos, length, Option, Some, None}
use Rattle.pra_base.specs.declared.ids.VarId.{VarId}
use Rattle.pra_base.specs.declared.code.VProc.{VProc}
use Rattle.ob_syntax.specs.Operators.{number}
use Rattle.ob_syntax.specs.declared.checked.Value.{Value}
use Rattle.ob_syntax.specs.declared.checked.Value.TheVariants.{Number}
use Rattle.ob_mean.specs.Designators.{picked}
use Rattle.vc_code.specs.Machine.{Activation, State}
use Rattle.vc_code.specs.Selected.{Vars}
use Rattle.vc_build.specs.Grow.{IsOpen, GrowsAt}
use Rattle.vc_build.specs.Runs.{Codes, Stands, RunsIn, SameBelow, Reaches, Yields}
use Rattle.vc_expr.specs.Operators.{HasValue, Gives}
use Rattle.vc_select.specs.declared.target.Target.{Target}
use Rattle.vc_select.specs.declared.target.Target.TheVariants.{Var, Memory}

-- a variable has this natural number
abbrev pub HasCount : Codes → ℕ → ℕ → Activation Vars → ℕ → Type 0
HasCount w id v c n = HasValue w id v c (Number (pos n))

-- some steps lead to a variable with this natural number
abbrev pub Counts :
    Codes → ℕ → VProc → (at v first : ℕ) → State Vars → ℕ → Type 0
Counts w id made at v first s n =
    Reaches w s (Gives w id made at v first s.top (Number (pos n)))

-- An index that is none of its array traps. All variables are as they were.
pub record Checks (at : ℕ) (old new : VProc) (index count : ℕ) : Type 0 where
  pub grows : GrowsAt at old new
  pub is_open : IsOpen new at
  pub vars : new.vars ≡ old.vars
  pub means : (w : Codes) (id n : ℕ) (s : State Vars) (x : Value) → RunsIn w id new s →
      Stands old at s.top → HasValue w id index s.top x →
      Yields w s (λ k c. Stands new at c × SameBelow n s.top c) (picked count (number x))

-- the first variables are as they were
pub record Scales (first at : ℕ) (old new : VProc) (index factor v : ℕ) : Type 0 where
  pub grows : GrowsAt at old new
  pub is_open : IsOpen new at
  pub named : v < length new.vars
  pub means : (w : Codes) (id : ℕ) (s : State Vars) (k : ℕ) → RunsIn w id new s →
      Stands old at s.top → HasCount w id index s.top k → k * factor < 2 ^ 31 →
      Counts w id new at v first s (k * factor)

-- the index so far, or none
abbrev pub HasIndex : Codes → ℕ → Option VarId → Activation Vars → ℕ → Type 0
HasIndex w id None c n = n ≡ 0
HasIndex w id (Some v) c n = HasCount w id v.0 c n

pub record Sums
    (first at : ℕ) (old new : VProc) (so_far : Option VarId) (index v : ℕ) : Type 0 where
  pub grows : GrowsAt at old new
  pub is_open : IsOpen new at
  pub named : v < length new.vars
  pub means : (w : Codes) (id : ℕ) (s : State Vars) (n k : ℕ) → RunsIn w id new s →
      Stands old at s.top → HasIndex w id so_far s.top n → HasCount w id index s.top k →
      n + k < 2 ^ 31 → Counts w id new at v first s (n + k)

-- all of it
pub record Indexes
    (first at : ℕ) (old new : VProc) (so_far : Option VarId) (index count factor v : ℕ)
    : Type 0 where
  pub grows : GrowsAt at old new
  pub is_open : IsOpen new at
  pub named : v < length new.vars
  pub means : (w : Codes) (id : ℕ) (s : State Vars) (n : ℕ) (x : Value) → RunsIn w id new s →
      Stands old at s.top → HasIndex w id so_far s.top n → HasValue w id index s.top x →
      ((k : ℕ) → k < count → n + k * factor < 2 ^ 31) →
      Yields w s
      (λ k c. (k < count) × Gives w id new at v first s.top (Number (pos (n + k * factor))) c)
      (picked count (number x))

-- the target of an element by an index; a variable of the code has no elements
abbrev pub IndexedBy :
    (first at : ℕ) → (old new : VProc) → Target → (index count factor : ℕ) → Target → Type 0
IndexedBy first at old new (Var v) index count factor t = (t ≡ Var v) × (new ≡ old)
IndexedBy first at old new (Memory a) index count factor t =
    (u : VarId) × (t ≡ Memory (record a { index = Some u }))
    × Indexes first at old new a.index index count factor u.0
