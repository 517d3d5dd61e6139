-- When code is other code reduced: instructions without effect are left out, and variables have
-- other names, some of them one name, also variables that hold the same and are needed at once.
-- Nothing here speaks of runs.
use Rattle.std.specs.Prelude.{◌≡◌, ℕ, suc, ◌<◌, ◌≤◌, ◌⊎◌, ℤ, Bool, true, ◌||◌, nat_eq, List, []}
use Rattle.std.specs.Prelude.{◌∷◌, length, slice_get, Some}
use Rattle.std.specs.List.{list_any}
use Rattle.pra_base.specs.declared.ids.VarId.{VarId}
use Rattle.pra_base.specs.declared.code.VInstr.{VInstr}
use Rattle.pra_base.specs.declared.code.VInstr.TheVariants.{Copy, DivMod}
use Rattle.pra_base.specs.declared.code.VarKind.{VarKind}
use Rattle.pra_base.specs.declared.code.VarKind.TheVariants.{Param, Plain, Constant}
use Rattle.pra_base.specs.declared.code.VProc.{VProc}
use Rattle.pra_base.specs.Code.{kind_of, block_of, code_of, end_of, instr_at}
use Rattle.pra_base.specs.Operands.{writes}
use Rattle.pra_base.specs.Live.{ReadBeforeWritten}
use Rattle.pra_base.specs.Valid as valid
use Rattle.vc_code.specs.Machine.{is_param}
use Rattle.vc_same.specs.Pure.{is_pure}
use Rattle.vc_same.specs.Renaming.{Names, renamed}

-- before instruction k of block b the variable holds a value that is still read
abbrev pub Needed : VProc → ℕ → ℕ → ℕ → Type 0
Needed code b k v = ReadBeforeWritten code v (record { block = b; index = k })

-- A variable of the old kind may have a name of the new kind: both are one kind, or a Plain
-- variable has the name of an argument's.
abbrev pub StandsFor : VarKind → VarKind → Type 0
StandsFor new old = (new ≡ old) ⊎ ((old ≡ Plain) × ((i : ℕ) × (new ≡ Param i)))

-- The instruction writes the variable, or divides it: placed code leaves nothing in the dividend's
-- place.
abbrev pub overwrites : VInstr → ℕ → Bool
overwrites (DivMod q r a d) v = writes (DivMod q r a d) v || nat_eq a.0 v
overwrites i v = writes i v

-- An instruction that stays, under the new names, at place k of the old block. Its variables may
-- have their new names, and no two of them have one. What it overwrites shares its new name with no
-- other variable that is needed behind it.
pub record Stays (to : Names) (old new : VProc) (b k : ℕ) (i j : VInstr) : Type 0 where
  pub is : j ≡ renamed to i
  pub kinds : (v : ℕ) → valid.Names i v → StandsFor (kind_of new (to v)) (kind_of old v)
  pub in_range : (v : ℕ) → valid.Names i v → v < length old.vars → to v < length new.vars
  pub one_each : (v w : ℕ) → valid.Names i v → valid.Names i w → to w ≡ to v → w ≡ v
  pub apart : (v w : ℕ) → overwrites i v ≡ true → Needed old b (suc k) w → to w ≡ to v → w ≡ v

-- An instruction that may be left out at place j of the new block: it gives only results that are
-- not needed there, or it copies between two variables that have one name.
pub data LeftOut (to : Names) (old new : VProc) (b j : ℕ) (i : VInstr) : Type 0 where
  dead : is_pure i ≡ true → ((v : ℕ) → writes i v ≡ true → Needed new b j (to v) → ⊥) →
      LeftOut to old new b j i
  copied : {t s : VarId} → i ≡ Copy t s → to t.0 ≡ to s.0 →
      StandsFor (kind_of new (to s.0)) (kind_of old s.0) → LeftOut to old new b j i

-- what is left of an old block from place k on, reduced to what is left of the new block from place
-- j on
pub data Part (to : Names) (old new : VProc) (b : ℕ) :
    ℕ → ℕ → List VInstr → List VInstr → Type 0 where
  ends : {k j : ℕ} → Part to old new b k j [] []
  stays : {k j : ℕ} {x y : VInstr} {xs ys : List VInstr} → Stays to old new b k x y →
      Part to old new b (suc k) (suc j) xs ys → Part to old new b k j (x ∷ xs) (y ∷ ys)
  left_out : {k j : ℕ} {x : VInstr} {xs ys : List VInstr} → LeftOut to old new b j x →
      Part to old new b (suc k) j xs ys → Part to old new b k j (x ∷ xs) ys

-- some instruction of the code has the variable
abbrev pub IsNamed : VProc → ℕ → Type 0
IsNamed code v = (b k : ℕ) × (i : VInstr) × (instr_at code b k ≡ Some i) × valid.Names i v

-- The code is the old code reduced. An argument has a variable where it had one, constants that are
-- used keep names of their own, and what is needed at the entry keeps its kind.
pub record Reduced (to : Names) (old new : VProc) : Type 0 where
  pub id : new.id ≡ old.id
  pub args : new.args ≡ old.args
  pub aggregates : new.aggregates ≡ old.aggregates
  pub homes : (i : ℕ) → list_any (is_param i) new.vars ≡ list_any (is_param i) old.vars
  pub fewer : length new.vars ≤ length old.vars
  pub constants : (v w : ℕ) (n : ℤ) → kind_of old v ≡ Constant n → IsNamed old v → IsNamed old w →
      to w ≡ to v → w ≡ v
  pub entry : (v : ℕ) → Needed old 0 0 v → kind_of new (to v) ≡ kind_of old v
  pub count : length new.blocks ≡ length old.blocks
  pub depths : (b : ℕ) → (block_of new b).depth ≡ (block_of old b).depth
  pub ends : (b : ℕ) → end_of new b ≡ end_of old b
  pub code : (b : ℕ) → Part to old new b 0 0 (code_of old b) (code_of new b)

-- The procedures of a module together, each with its names.
pub record AllReduced (to : ℕ → Names) (olds news : List VProc) : Type 0 where
  pub count : length news ≡ length olds
  pub each : (p : ℕ) (old new : VProc) → slice_get olds p ≡ Some old →
      slice_get news p ≡ Some new → Reduced (to p) old new

-- no two variables stand for one argument
abbrev pub ParamsApart : VProc → Type 0
ParamsApart code = (v w i : ℕ) → slice_get code.vars v ≡ Some (Param i) →
    slice_get code.vars w ≡ Some (Param i) → v ≡ w
