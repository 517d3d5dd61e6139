-- Variables that are joined under one name, and what becomes of code.
use Rattle.std.specs.Prelude.{◌≡◌, ◌≢◌, ℕ, suc, ◌+◌, ◌*◌, ◌<◌, ◌⊎◌, Bool, true, false, not}
use Rattle.std.specs.Prelude.{◌||◌, ◌&&◌, nat_eq, if◌then◌else◌, List, [], ◌∷◌, length, map}
use Rattle.std.specs.Prelude.{slice_index_or, All, Contains, Option, Some, None}
use Rattle.pra_base.specs.declared.ids.VarId.{VarId}
use Rattle.pra_base.specs.declared.code.Block.{Block}
use Rattle.pra_base.specs.declared.code.VarKind.{VarKind}
use Rattle.pra_base.specs.declared.code.VarKind.TheVariants.{Constant, Plain}
use Rattle.pra_base.specs.declared.code.VInstr.{VInstr}
use Rattle.pra_base.specs.declared.code.VInstr.TheVariants.{Copy, DivMod}
use Rattle.pra_base.specs.declared.code.VProc.{VProc}
use Rattle.pra_base.specs.Code.{kind_of, instr_at}
use Rattle.pra_base.specs.Valid.{Names, IsValid, IsSized, instruction_count}
use Rattle.vc_same.specs.Reduction.{Needed, overwrites}
use Rattle.vc_same.specs.Renaming.{renamed}
use Rattle.vc_same.specs.SameRuns.{Preserves}
use Rattle.vc_code.specs.declared.row.OperandRow.{OperandRow}
use Rattle.vc_live.specs.declared.liveness.Liveness.{Liveness}
use Rattle.vc_live.specs.Equations.{named_in}
use Rattle.vc_live.specs.Rows.{live_at, IsLiveness}
use Rattle.vc_tidy.specs.KindCounts.{KeepsKinds}
use Rattle.vc_tidy.specs.Tidy.{is_between, AreApart, CanMerge, NoCopy}
use Rattle.vc_tidy.specs.declared.places.Place.{Place}
use Rattle.vc_tidy.specs.declared.classes.Classes.{Classes}

-- valid and sized code, and its liveness
pub record IsKnown (code : VProc) (l : Liveness) : Type 0 where
  pub is_valid : IsValid code
  pub is_sized : IsSized code
  pub exact : IsLiveness code l

-- ---- names

-- the name of a variable; past the list its own number
abbrev pub name : List ℕ → ℕ → ℕ
name names v = slice_index_or names v v

-- a kind that can be the name of others: Plain or an argument's
abbrev pub varies : VarKind → Bool
varies (Constant n) = false
varies _ = true

-- Only Plain variables have another name than their own, that of a Plain variable or an argument's.
pub record AreNames (code : VProc) (names : List ℕ) : Type 0 where
  pub count : length names ≡ length code.vars
  pub within : (v : ℕ) → v < length code.vars → name names v < length code.vars
  pub plain : (v : ℕ) → name names v ≢ v →
      (kind_of code v ≡ Plain) × (varies (kind_of code (name names v)) ≡ true)

-- a copy between two variables of one name
abbrev pub is_joined : List ℕ → VInstr → Bool
is_joined names (Copy t s) = nat_eq (name names t.0) (name names s.0)
is_joined names _ = false

-- the code without copies between variables of one name, under the names
unfoldable pub joined : List ℕ → List VInstr → List VInstr
joined names [] = []
joined names (i ∷ rest) =
    if is_joined names i then joined names rest
    else renamed (name names) i ∷ joined names rest

abbrev pub joined_block : List ℕ → Block → Block
joined_block names block = record block { code = joined names block.code }

-- the same with other variables
abbrev pub joined_code : List ℕ → List VarKind → VProc → VProc
joined_code names vars code = record code {
  vars = vars;
  blocks = map (joined_block names) code.blocks;
}

-- some copy is between variables of one name
abbrev pub HasJoined : VProc → List ℕ → Type 0
HasJoined code names =
    (b k : ℕ) × (i : VInstr) × (instr_at code b k ≡ Some i) × (is_joined names i ≡ true)

-- ---- interference

-- Instruction k of block b, which is no copy between the two, has both variables, or it overwrites
-- the first one where the second one is needed behind it.
pub record MeetsAt (code : VProc) (b k v w : ℕ) : Type 0 where
  pub instr : VInstr
  pub is : instr_at code b k ≡ Some instr
  pub other : is_between v w instr ≡ false
  pub first : Names instr v
  pub second : Names instr w ⊎ ((overwrites instr v ≡ true) × Needed code b (suc k) w)

abbrev pub Meets : VProc → ℕ → ℕ → Type 0
Meets code v w = (b k : ℕ) × MeetsAt code b k v w

-- no two variables of one name meet
abbrev pub AllApart : VProc → List ℕ → Type 0
AllApart code names =
    (v w : ℕ) → v ≢ w → name names v ≡ name names w → Meets code v w → ⊥

-- the dividend of a division
abbrev pub is_dividend : VInstr → ℕ → Bool
is_dividend (DivMod q r a d) v = nat_eq a.0 v
is_dividend _ v = false

-- the same of an instruction with these operands, by a liveness
abbrev pub is_met : Liveness → VInstr → OperandRow → ℕ → ℕ → ℕ → ℕ → Bool
is_met l i row b k v w =
    not (is_between v w i) && (named_in row.reads.items w || named_in row.writes.items w
    || ((named_in row.writes.items v || is_dividend i v) && live_at l w b (2 * k + 2)))

-- a Plain variable of the code
abbrev pub IsPlain : VProc → ℕ → Type 0
IsPlain code v = (v < length code.vars) × (kind_of code v ≡ Plain)

-- a variable of the code that is Plain or an argument's
abbrev pub IsJoinable : VProc → ℕ → Type 0
IsJoinable code v = (v < length code.vars) × (varies (kind_of code v) ≡ true)

-- the instruction is no copy between two variables of the code that may be one
abbrev pub IsNoCopy : VProc → VInstr → Type 0
IsNoCopy code i =
    (t s : VarId) → i ≡ Copy t s → t.0 ≢ s.0 → t.0 < length code.vars →
    s.0 < length code.vars → CanMerge code t.0 s.0 → AreApart code t.0 s.0 → ⊥

-- some variable of one list meets one of another
abbrev pub SomeMeet : VProc → List ℕ → List ℕ → Type 0
SomeMeet code one other =
    (v w : ℕ) × Contains one v × Contains other w × Meets code v w

abbrev pub NoneMeet : VProc → List ℕ → List ℕ → Type 0
NoneMeet code one other = All (λ v. All (λ w. Meets code v w → ⊥) other) one

-- ---- where variables stand

abbrev pub places_of : List (List Place) → ℕ → List Place
places_of places v = slice_index_or places v []

-- each variable's list has the places of all instructions that have it
abbrev pub HasPlaces : VProc → List (List Place) → Type 0
HasPlaces code places =
    (b k : ℕ) (i : VInstr) → instr_at code b k ≡ Some i → (v : ℕ) → Names i v →
    Contains (places_of places v) (record { block = b; index = k })

-- ---- classes

abbrev pub group_of : List (List ℕ) → ℕ → List ℕ
group_of groups c = slice_index_or groups c []

-- a variable of the code that is a constant where the other is
abbrev pub IsLike : VProc → ℕ → ℕ → Type 0
IsLike code c v = (v < length code.vars) × (varies (kind_of code v) ≡ varies (kind_of code c))

-- The variables of one name stand in its group and do not meet, and none in the group of one that
-- varies is a constant.
pub record AreClasses (code : VProc) (classes : Classes) : Type 0 where
  pub names : AreNames code classes.names.items
  pub count : length classes.groups.items ≡ length code.vars
  pub members : (v : ℕ) → v < length code.vars →
      Contains (group_of classes.groups.items (name classes.names.items v)) v
  pub kinds : (c : ℕ) → All (IsLike code c) (group_of classes.groups.items c)
  pub apart : AllApart code classes.names.items

-- each variable has its own name and is alone in its group
pub record AreAlone (code : VProc) (classes : Classes) : Type 0 where
  pub count : length classes.names.items ≡ length code.vars
  pub groups_count : length classes.groups.items ≡ length code.vars
  pub names : (v : ℕ) → name classes.names.items v ≡ v
  pub groups : (v : ℕ) → v < length code.vars → group_of classes.groups.items v ≡ v ∷ []

-- the variables of two names have one now
abbrev pub AreJoined : Classes → Classes → ℕ → ℕ → Type 0
AreJoined old new one other =
    (v w : ℕ) → name old.names.items v ≡ one → name old.names.items w ≡ other →
    name new.names.items v ≡ name new.names.items w

-- what is known of classes: some copy is joined, or all variables are alone
pub record AreTried (code : VProc) (now : Classes) (joined : Bool) : Type 0 where
  pub classes : AreClasses code now
  pub some : joined ≡ true → HasJoined code now.names.items
  pub alone : joined ≡ false → AreAlone code now

-- names under which variables that are copied into each other are one, so that a copy goes
pub record IsFound (code : VProc) (names : List ℕ) : Type 0 where
  pub names_are : AreNames code names
  pub apart : AllApart code names
  pub some : HasJoined code names

-- code in which copies were joined, and that is shorter, or nothing where none can be
abbrev pub IsJoined : VProc → Option VProc → Type 0
IsJoined old (Some new) =
    Preserves old new × KeepsKinds old new
    × (instruction_count new.blocks < instruction_count old.blocks)
IsJoined old None = NoCopy old
