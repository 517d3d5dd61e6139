-- Variables that no instruction has, and the numbers of the others.
use Rattle.std.specs.Prelude.{◌≡◌, ℕ, ◌<◌, ◌≤◌, ◌||◌, Bool, true, false, List, length, take}
use Rattle.std.specs.Prelude.{count_by, slice_index_or, Option, Some, None}
use Rattle.std.specs.List.{list_any}
use Rattle.pra_base.specs.declared.code.VarKind.{VarKind}
use Rattle.pra_base.specs.declared.code.VarKind.TheVariants.{Param, Plain}
use Rattle.pra_base.specs.declared.code.VProc.{VProc}
use Rattle.pra_base.specs.Code.{kind_of}
use Rattle.vc_code.specs.Machine.{is_param}
use Rattle.vc_same.specs.Reduction.{IsNamed}
use Rattle.vc_same.specs.SameRuns.{Preserves}
use Rattle.vc_tidy.specs.Joined.{name}
use Rattle.vc_tidy.specs.KindCounts.{KeepsKinds}
use Rattle.vc_tidy.specs.Thinned.{is_marked}
use Rattle.vc_tidy.specs.Tidy.{NoUnused}

-- the marked variables are those that some instruction has
pub record AreNamed (code : VProc) (marks : List Bool) : Type 0 where
  pub count : length marks ≡ length code.vars
  pub marked : (v : ℕ) → IsNamed code v → is_marked marks v ≡ true
  pub named : (v : ℕ) → is_marked marks v ≡ true → IsNamed code v

abbrev pub is_argument : VarKind → Bool
is_argument (Param i) = true
is_argument _ = false

abbrev pub is_kept : VProc → List Bool → ℕ → Bool
is_kept code marks v = is_marked marks v || is_argument (kind_of code v)

-- the first n variables numbered: those that are kept follow each other in their order
pub record AreNumbers (code : VProc) (marks : List Bool) (names : List ℕ) (vars : List VarKind)
    (n : ℕ) : Type 0 where
  pub count : length names ≡ n
  pub fewer : length vars ≤ n
  pub kinds : (v : ℕ) → v < n → is_kept code marks v ≡ true →
      (name names v < length vars) × (slice_index_or vars (name names v) Plain ≡ kind_of code v)
  pub rising : (v w : ℕ) → v < w → w < n → is_kept code marks v ≡ true →
      name names v < name names w
  pub from : (j : ℕ) → j < length vars →
      (v : ℕ) × (v < n) × (is_kept code marks v ≡ true) × (name names v ≡ j)
  pub homes : (i : ℕ) → list_any (is_param i) vars ≡ list_any (is_param i) (take n code.vars)
  pub counts : (kind : VarKind → Bool) → count_by kind vars ≤ count_by kind (take n code.vars)
  pub all : length vars ≡ n → (v : ℕ) → v < n → is_kept code marks v ≡ true

-- code with fewer variables, or nothing where all are used
abbrev pub IsPacked : VProc → Option VProc → Type 0
IsPacked old (Some new) =
    Preserves old new × KeepsKinds old new × (length new.vars < length old.vars)
IsPacked old None = NoUnused old
