-- What code that was added for statements keeps of valid and of sized code, over a certificate of
-- what its blocks may read.
use Rattle.std.specs.Prelude.{◌≡◌, ℕ, ◌<◌, ◌≤◌, ◌⊎◌, Bool, true, List, [], ◌∷◌, length, map}
use Rattle.pra_base.specs.declared.ids.VarId.{VarId}
use Rattle.pra_base.specs.declared.code.VProc.{VProc}
use Rattle.ob_syntax.specs.declared.checked.Checked.{Checked}
use Rattle.ob_syntax.specs.declared.checked.CheckedProc.{CheckedProc}
use Rattle.vc_expr.specs.Readable.{Entries, usable, Certifies}
use Rattle.vc_expr.specs.Rules.{KeepsRules}
use Rattle.vc_relation.specs.declared.home.Home.TheVariants as home
use Rattle.vc_select.specs.declared.target.Setting.{Setting}
use Rattle.vc_select.specs.declared.target.Target.{Target}
use Rattle.vc_select.specs.Certified.{IsHome, IsReady, Continues, Closes, InTarget, CellOf}
use Rattle.vc_select.specs.Targets.{above_target}

-- ---- statements

-- how many parameters each procedure of a module has
abbrev pub parameter_counts : Checked → List ℕ
parameter_counts program = map (λ (proc : CheckedProc). length proc.params) program.procs

-- Later code with a certificate that is the same for the blocks that were there. It is ready for
-- more at the end of the block `to`; the block `from` may be closed, and other blocks that were
-- ready still are.
pub record Proceeds
    (g : Setting) (counts : List ℕ) (known : Entries) (old new : VProc) (from to : ℕ)
    : Type 0 where
  pub closes : Closes g counts known old new from
  pub ready : IsReady g counts closes.next new to

-- From code that is ready for more at the end of the block `from` the added code leads to code that
-- is at the end of the block `to`. What is asked of statements is that they are sound: so each call
-- passes as many arguments as the procedure has parameters.
pub record KeepsReady (g : Setting) (old new : VProc) (from to : ℕ) (sound : Bool) : Type 0 where
  pub stays : (counts : List ℕ) (known : Entries) → counts ≡ parameter_counts g.program.now →
      sound ≡ true → IsReady g counts known old from → Proceeds g counts known old new from to

-- ---- blocks that are opened before control comes to them

-- A block may read no more at its begin than homes, which may be read at the end of each block that
-- is ready.
abbrev pub ReadsHomes : Setting → Entries → ℕ → Type 0
ReadsHomes g known b = (v : VarId) → known b v.0 ≡ true → IsHome g (home.Var v)

-- The same of arms of an IF, each of which leads to the block behind.
pub record KeepsReadyBeside
    (g : Setting) (old new : VProc) (from to behind : ℕ) (sound : Bool) : Type 0 where
  pub stays : (counts : List ℕ) (known : Entries) → counts ≡ parameter_counts g.program.now →
      sound ≡ true → IsReady g counts known old from → ReadsHomes g known behind →
      Proceeds g counts known old new from to

-- The same of the last arm without ELSE, which leaves its block.
pub record ClosesReadyBeside
    (g : Setting) (old new : VProc) (from behind : ℕ) (sound : Bool) : Type 0 where
  pub stays : (counts : List ℕ) (known : Entries) → counts ≡ parameter_counts g.program.now →
      sound ≡ true → IsReady g counts known old from → ReadsHomes g known behind →
      Closes g counts known old new from

-- ---- what is put at the end of a block

-- The code keeps the rules and the certificate, and what might be read at the end of the block may
-- be read still.
pub record Keeps (counts : List ℕ) (known : Entries) (at : ℕ) (old new : VProc) : Type 0 where
  pub rules : KeepsRules counts new
  pub certifies : Certifies known new
  pub others : (v : ℕ) → usable known old at v ≡ true → usable known new at v ≡ true

-- The added code gives a word to a target, which may read its variables.
pub record GivesReady (g : Setting) (at : ℕ) (old new : VProc) (target : Target) : Type 0 where
  pub stays : (counts : List ℕ) (known : Entries) → IsReady g counts known old at →
      above_target target ≤ length old.vars →
      ((v : ℕ) → InTarget target v → usable known old at v ≡ true) →
      ((k : ℕ) → CellOf target k → IsHome g (home.Cell k)) → Keeps counts known at old new

-- The same of a word that a variable has.
pub record StoresReady (g : Setting) (at : ℕ) (old new : VProc) (target : Target) (v : ℕ)
    : Type 0 where
  pub stays : (counts : List ℕ) (known : Entries) → IsReady g counts known old at →
      above_target target ≤ length old.vars →
      ((u : ℕ) → InTarget target u → usable known old at u ≡ true) →
      ((k : ℕ) → CellOf target k → IsHome g (home.Cell k)) → usable known old at v ≡ true →
      Keeps counts known at old new

-- ---- arguments

-- one of these variables
abbrev pub IsOneOf : List VarId → ℕ → Type 0
IsOneOf [] u = ⊥
IsOneOf (v ∷ vs) u = (u ≡ v.0) ⊎ IsOneOf vs u

-- Code for arguments keeps the rules, and is certified. All that will be pushed may be read behind
-- it.
pub record PassesReady (g : Setting) (old new : VProc) (from to : ℕ) (vs : List VarId)
    : Type 0 where
  pub stays : (counts : List ℕ) (known : Entries) → IsReady g counts known old from →
      Continues g counts known (length old.vars) old new from to (IsOneOf vs)
  pub named : (u : ℕ) → IsOneOf vs u → u < length new.vars
