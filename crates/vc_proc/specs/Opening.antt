-- What stands before the statements of a procedure: the variables that are homes, and instructions
-- after which all locals hold 0.
use Rattle.std.specs.Prelude.{◌≡◌, ℕ, zero, suc, ◌+◌, pos, if◌then◌else◌, nat_eq, List, [], ◌∷◌}
use Rattle.std.specs.Prelude.{◌++◌, length, count_by, slice_get, Some}
use Rattle.pra_base.specs.declared.code.VInstr.{VInstr}
use Rattle.pra_base.specs.declared.code.VInstr.TheVariants.{Set, Clear}
use Rattle.pra_base.specs.declared.code.VarKind.{VarKind}
use Rattle.pra_base.specs.declared.code.VarKind.TheVariants as kind
use Rattle.pra_base.specs.declared.code.VarKind.TheVariants.{Plain}
use Rattle.pra_base.specs.declared.code.VProc.{VProc}
use Rattle.ob_syntax.specs.Storage.{all_words}
use Rattle.ob_syntax.specs.declared.checked.CheckedProc.{CheckedProc}
use Rattle.ob_syntax.specs.declared.checked.Local.{Local}
use Rattle.ob_syntax.specs.declared.checked.Param.{Param}
use Rattle.vc_build.specs.Grow.{stand_in}
use Rattle.vc_relation.specs.Homes.{in_variable, local_in_variable, variable}
use Rattle.vc_relation.specs.Layout.{is_aggregate}
use Rattle.vc_relation.specs.declared.home.Home.{Home}
use Rattle.vc_relation.specs.declared.home.Home.TheVariants.{Cell, Frame}
use Rattle.vc_select.specs.declared.target.Setting.{Setting}

-- ---- homes

-- the variable of a parameter, and that of a local, where it has one
abbrev pub param_kind : ℕ → Param → List VarKind
param_kind k param = if in_variable param then kind.Param k ∷ [] else []

abbrev pub local_kind : Local → List VarKind
local_kind local = if is_aggregate local then [] else Plain ∷ []

-- the variables of parameters from a number on
abbrev pub param_kinds : ℕ → List Param → List VarKind
param_kinds k [] = []
param_kinds k (param ∷ params) = param_kind k param ++ param_kinds (k + 1) params

abbrev pub local_kinds : List Local → List VarKind
local_kinds [] = []
local_kinds (local ∷ locals) = local_kind local ++ local_kinds locals

-- the variables that are homes: those of parameters, and then those of locals
abbrev pub home_kinds : CheckedProc → List VarKind
home_kinds proc = param_kinds 0 proc.params ++ local_kinds proc.locals

-- the home of a parameter or local, if so many variables come before its own
abbrev pub param_home_at : ℕ → ℕ → Param → Home
param_home_at k v param = if in_variable param then variable v else Cell k

abbrev pub local_home_at : ℕ → Local → Home
local_home_at v local = if is_aggregate local then Frame local.word else variable v

-- the homes of parameters from a number on, and those of locals, if so many variables come before
abbrev pub param_homes : ℕ → ℕ → List Param → List Home
param_homes k v [] = []
param_homes k v (param ∷ params) =
    param_home_at k v param ∷ param_homes (k + 1) (v + length (param_kind k param)) params

abbrev pub local_homes : ℕ → List Local → List Home
local_homes v [] = []
local_homes v (local ∷ locals) =
    local_home_at v local ∷ local_homes (v + length (local_kind local)) locals

-- ---- the first instructions

-- 0 into so many variables from one on
abbrev pub zeros : ℕ → ℕ → List VInstr
zeros v zero = []
zeros v (suc n) = Set (record { 0 = v }) (pos 0) ∷ zeros (v + 1) n

-- Clear where there are aggregates
abbrev pub clearing : ℕ → List VInstr
clearing aggregates = if nat_eq aggregates 0 then [] else Clear ∷ []

abbrev pub opening : CheckedProc → List VInstr
opening proc =
    clearing proc.aggregate_words
    ++ zeros (count_by in_variable proc.params) (count_by local_in_variable proc.locals)

-- The code at whose end statements are selected: one open block.
abbrev pub opened : ℕ → CheckedProc → VProc
opened id proc = record {
  id = record { 0 = id };
  args = length proc.params;
  aggregates = proc.aggregate_words;
  vars = home_kinds proc;
  blocks = record { depth = 0; code = opening proc; end = stand_in } ∷ [];
}

-- ---- what selection has at hand

-- What is set is of this procedure of the module: the words of the types, and the homes.
pub record IsSettingOf (g : Setting) (proc : CheckedProc) : Type 0 where
  pub there : slice_get g.program.now.procs g.id.0 ≡ Some proc
  pub words : g.words.now ≡ all_words g.program.now.types
  pub params : g.params.now ≡ param_homes 0 0 proc.params
  pub locals : g.locals.now ≡ local_homes (length (param_kinds 0 proc.params)) proc.locals
