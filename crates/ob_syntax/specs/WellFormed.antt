-- Well-formed modules, the limits on them, and the checked module that each stands for.
use Rattle.std.specs.Prelude.{◌≡◌, ℕ, ◌+◌, ◌-◌, Bool, false, not, ◌&&◌, ◌||◌, List, [], ◌∷◌, ◌++◌}
use Rattle.std.specs.Prelude.{length, map, sum, Option, Some, None, Ok, Err, nat_eq, nat_lt}
use Rattle.std.specs.Prelude.{if◌then◌else◌}
use Rattle.std.specs.List.{list_any}
use Rattle.pra_base.specs.Limits.{limit_maximum}
use Rattle.pra_base.specs.declared.limit.LimitKind.{LimitKind}
use Rattle.pra_base.specs.declared.limit.LimitKind.TheVariants.{ArrayLength, TypeWords, Procedures}
use Rattle.pra_base.specs.declared.limit.LimitKind.TheVariants.{Parameters, Scalars, AggregateWords}
use Rattle.pra_base.specs.declared.limit.LimitKind.TheVariants.{ModuleWords, Nodes}
use Rattle.ob_syntax.specs.declared.token.Token.{Token}
use Rattle.ob_syntax.specs.declared.tree.Module.{Module}
use Rattle.ob_syntax.specs.declared.checked.Checked.{Checked}
use Rattle.ob_syntax.specs.declared.checked.CheckedProc.{CheckedProc}
use Rattle.ob_syntax.specs.declared.checked.Draft.{Draft}
use Rattle.ob_syntax.specs.declared.checked.Local.{Local}
use Rattle.ob_syntax.specs.declared.checked.ModuleVar.{ModuleVar}
use Rattle.ob_syntax.specs.declared.checked.Param.{Param}
use Rattle.ob_syntax.specs.declared.checked.RArg.{RArg}
use Rattle.ob_syntax.specs.declared.checked.RArg.TheVariants.{Value, Lent}
use Rattle.ob_syntax.specs.declared.checked.RArm.{RArm-F}
use Rattle.ob_syntax.specs.declared.checked.RStep.{RStep}
use Rattle.ob_syntax.specs.declared.checked.RStmt.{RStmt, RStmt-F, fold-RStmt}
use Rattle.ob_syntax.specs.declared.checked.RVar.{RVar, out-RVar}
use Rattle.ob_syntax.specs.declared.checked.Root.{Root}
use Rattle.ob_syntax.specs.declared.checked.Root.TheVariants as root
use Rattle.ob_syntax.specs.declared.checked.Shape.{Shape}
use Rattle.ob_syntax.specs.Declarations.{Reading, reading}
use Rattle.ob_syntax.specs.Expressions.{integer, boolean}
use Rattle.ob_syntax.specs.Names.{Place, name_at}
use Rattle.ob_syntax.specs.Storage.{all_words, type_words}

-- the first rule that is broken in the module, in the order of the text, and its token
abbrev pub IsBroken : List ℕ → List Token → Module → ℕ → ℕ → Type 0
IsBroken bytes tokens m rule token = reading bytes tokens m ≡ Err (rule, token)

-- no rule is broken, and this is what the module is read as
abbrev pub IsWellFormed : List ℕ → List Token → Module → Reading → Type 0
IsWellFormed bytes tokens m r = reading bytes tokens m ≡ Ok r

-- ---- addressed variables

-- a variable or parameter itself, without selectors
abbrev pub lent_root : RVar → List Root
lent_root v = whole (out-RVar v).steps (out-RVar v).root
  where
    whole : List RStep → Root → List Root
    whole [] r = r ∷ []
    whole (s ∷ ss) r = []

abbrev pub lent_by : List RArg → List Root
lent_by [] = []
lent_by (Value e ∷ args) = lent_by args
lent_by (Lent v ∷ args) = lent_root v ++ lent_by args

abbrev pub joined : {A : Type 0} → List (List A) → List A
joined [] = []
joined (xs ∷ more) = xs ++ joined more

abbrev pub lent_step : RStmt-F (List Root) (List Root) → List Root
lent_step (RStmt-F.Assign v e) = []
lent_step (RStmt-F.If arms other) = joined arms ++ joined other
lent_step (RStmt-F.While test body) = joined body
lent_step (RStmt-F.Repeat body test) = joined body
lent_step (RStmt-F.Call p args) = lent_by args
lent_step (RStmt-F.Read v) = []
lent_step (RStmt-F.Write e) = []
lent_step RStmt-F.WriteLine = []

abbrev pub lent_in_arm : RArm-F (List Root) (List Root) → List Root
lent_in_arm arm = joined arm.body

-- the variables and parameters that a statement lends whole to VAR parameters of declared
-- procedures
abbrev pub lent_in : RStmt → List Root
lent_in = fold-RStmt (List Root) (List Root) lent_step lent_in_arm

abbrev pub lent_in_body : Draft → List Root
lent_in_body d = joined (map lent_in d.body)

abbrev pub same_root : Root → Root → Bool
same_root (root.Module i) (root.Module j) = nat_eq i j
same_root (root.Param i) (root.Param j) = nat_eq i j
same_root (root.Local i) (root.Local j) = nat_eq i j
same_root r s = false

abbrev pub is_scalar : ℕ → Bool
is_scalar type_id = nat_eq type_id integer || nat_eq type_id boolean

-- a scalar local or value parameter that is lent
abbrev pub is_addressed : List Root → Root → ℕ → Bool
is_addressed lent r type_id = is_scalar type_id && list_any (same_root r) lent

-- ---- storage

abbrev pub marked_params : List Root → ℕ → List Param → List Param
marked_params lent number [] = []
marked_params lent number (param ∷ params) =
    record param {
      addressed = not param.by_var && is_addressed lent (root.Param number) param.type_id;
    } ∷ marked_params lent (number + 1) params

-- arrays, records and addressed scalar locals
abbrev pub is_aggregate : List Root → ℕ → ℕ → Bool
is_aggregate lent number type_id =
    not (is_scalar type_id) || is_addressed lent (root.Local number) type_id

abbrev pub local_words : List Shape → List Root → ℕ → ℕ → ℕ
local_words shapes lent number type_id =
    if is_aggregate lent number type_id then type_words shapes type_id else 0

-- the locals from this number on, the first aggregate of them at this aggregate word
abbrev pub locals_from : List Shape → List Root → ℕ → ℕ → List ℕ → List Local
locals_from shapes lent number word [] = []
locals_from shapes lent number word (type_id ∷ vars) =
    record {
      type_id = type_id;
      addressed = is_addressed lent (root.Local number) type_id;
      word = if is_aggregate lent number type_id then word else 0;
    } ∷ locals_from shapes lent (number + 1) (word + local_words shapes lent number type_id) vars

abbrev pub aggregate_words_from : List Shape → List Root → ℕ → List ℕ → ℕ
aggregate_words_from shapes lent number [] = 0
aggregate_words_from shapes lent number (type_id ∷ vars) =
    local_words shapes lent number type_id + aggregate_words_from shapes lent (number + 1) vars

abbrev pub aggregate_words : List Shape → Draft → ℕ
aggregate_words shapes d = aggregate_words_from shapes (lent_in_body d) 0 d.vars

-- the module's variables, the first of them at this data word
abbrev pub module_vars_from : List Shape → ℕ → List ℕ → List ModuleVar
module_vars_from shapes word [] = []
module_vars_from shapes word (type_id ∷ vars) =
    record { type_id = type_id; word = word }
    ∷ module_vars_from shapes (word + type_words shapes type_id) vars

abbrev pub data_words : List Shape → List ℕ → ℕ
data_words shapes vars = sum (map (type_words shapes) vars)

-- ---- limits, in the order in which they are tested

-- a quantity above its maximum
abbrev pub Excess : Type 0
Excess = LimitKind × ℕ

-- the first of these numbers that is above the maximum
abbrev pub first_above : LimitKind → List ℕ → Option Excess
first_above kind [] = None
first_above kind (n ∷ ns) =
    if nat_lt (limit_maximum kind) n then Some (kind, n) else first_above kind ns

abbrev pub or_then : Option Excess → Option Excess → Option Excess
or_then (Some e) other = Some e
or_then None other = other

-- scalar parameters, VAR parameters and scalar locals
abbrev pub scalars : Draft → ℕ
scalars d = length d.params + scalar_locals d.vars
  where
    scalar_locals : List ℕ → ℕ
    scalar_locals [] = 0
    scalar_locals (t ∷ ts) = (if is_scalar t then 1 else 0) + scalar_locals ts

abbrev pub first_excess : Reading → Option Excess
first_excess r =
    or_then (first_above ArrayLength r.place.lengths)
    (or_then (first_above TypeWords (all_words r.place.types))
    (or_then (first_above Procedures ((length r.procs - 1) ∷ []))
    (or_then (first_above Parameters (map (λ d. length d.params) r.procs))
    (or_then (first_above Scalars (map scalars r.procs))
    (or_then (first_above AggregateWords (map (aggregate_words r.place.types) r.procs))
    (or_then (first_above ModuleWords (data_words r.place.types r.vars ∷ []))
    (first_above Nodes r.place.nodes)))))))

abbrev pub IsWithin : Reading → Type 0
IsWithin r = first_excess r ≡ None

-- ---- the checked module

abbrev pub checked_proc : Place → Draft → CheckedProc
checked_proc p d = record {
  id = record { 0 = d.id };
  name = name_at p d.name;
  params = marked_params (lent_in_body d) 0 d.params;
  locals = locals_from p.types (lent_in_body d) 0 0 d.vars;
  aggregate_words = aggregate_words p.types d;
  nodes = d.nodes;
  body = d.body;
}

-- what a well-formed module within the limits stands for
abbrev pub resolved : Module → Reading → Checked
resolved m r = record {
  name = name_at r.place m.name;
  types = r.place.types;
  vars = module_vars_from r.place.types 0 r.vars;
  procs = map (checked_proc r.place) r.procs;
  data_words = data_words r.place.types r.vars;
}
