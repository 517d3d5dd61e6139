-- Where variables lie, and where the parts of a variable lie in it (Wirth, Compiler Construction,
-- chapter 8): the elements of an array and the fields of a record follow one another in order,
-- without gaps, and so do the variables of a module and the aggregates of a procedure.
use Rattle.std.specs.Prelude.{◌≡◌, ℕ, ◌+◌, ◌<◌, ◌≤◌, Bool, true, false, not, ◌||◌, nat_lt}
use Rattle.std.specs.Prelude.{if◌then◌else◌, List, [], ◌∷◌, length, Option, Some, None, slice_get}
use Rattle.pra_list.specs.Options.{◌>>=◌}
use Rattle.pra_base.specs.Limits.{limit_maximum}
use Rattle.pra_base.specs.declared.limit.LimitKind.TheVariants.{AggregateWords, ModuleWords}
use Rattle.ob_syntax.specs.declared.checked.Checked.{Checked}
use Rattle.ob_syntax.specs.declared.checked.CheckedProc.{CheckedProc}
use Rattle.ob_syntax.specs.declared.checked.Local.{Local}
use Rattle.ob_syntax.specs.declared.checked.ModuleVar.{ModuleVar}
use Rattle.ob_syntax.specs.declared.checked.Param.{Param}
use Rattle.ob_syntax.specs.declared.checked.Shape.{Shape}
use Rattle.ob_syntax.specs.declared.checked.Shape.TheVariants as shape
use Rattle.ob_syntax.specs.Expressions.{integer, boolean}
use Rattle.ob_syntax.specs.Storage.{type_words, field_offset, element_offset}
use Rattle.ob_syntax.specs.WellFormed.{is_scalar}
use Rattle.ob_mean.specs.Designators.{shape_of}

-- ---- the parts of a variable

-- the type of the field or element of this number, where there is one
abbrev pub part_in : Shape → ℕ → Option ℕ
part_in (shape.Array count element) k = if nat_lt k count then Some element else None
part_in (shape.Record fields) k = slice_get fields k
part_in _ k = None

-- how many words lie before it
abbrev pub words_before : List Shape → Shape → ℕ → ℕ
words_before shapes (shape.Array count element) k = element_offset shapes element k
words_before shapes (shape.Record fields) k = field_offset shapes fields k
words_before shapes _ k = 0

-- a part of a variable: how many words lie before it in the variable, and its type
pub record Part : Type 0 where
  pub word : ℕ
  pub type_id : ℕ

abbrev pub further : ℕ → Part → Part
further words part = record { word = words + part.word; type_id = part.type_id }

-- the part of a variable of a type to which a path of fields and elements leads, where there is one
abbrev pub part_along : List Shape → ℕ → List ℕ → Option Part
part_along shapes type_id [] = Some (record { word = 0; type_id = type_id })
part_along shapes type_id (k ∷ path) = do
  element ← part_in (shape_of shapes type_id) k
  part ← part_along shapes element path
  Some (further (words_before shapes (shape_of shapes type_id) k) part)

-- ---- what a checked module has of its types and its storage

-- a type names only types of smaller numbers
abbrev pub NamesBelow : ℕ → Shape → Type 0
NamesBelow type_id (shape.Array count element) = element < type_id
NamesBelow type_id (shape.Record fields) =
    (k field : ℕ) → slice_get fields k ≡ Some field → field < type_id
NamesBelow type_id _ = Unit {0}

pub record TypesInOrder (shapes : List Shape) : Type 0 where
  pub first : slice_get shapes integer ≡ Some shape.Integer
  pub second : slice_get shapes boolean ≡ Some shape.Boolean
  pub below : (type_id : ℕ) (shape : Shape) → slice_get shapes type_id ≡ Some shape →
      NamesBelow type_id shape

-- Those that pass the test lie one behind the other, from a word on up to another one: each has a
-- first word, and so many words.
abbrev pub FollowOn :
    {A : Type 0} → (A → Bool) → (first words : A → ℕ) → (from to : ℕ) → List A → Type 0
FollowOn test first words from to [] = from ≡ to
FollowOn test first words from to (x ∷ xs) =
    (test x ≡ true → first x ≡ from)
    × FollowOn test first words (from + (if test x then words x else 0)) to xs

-- arrays, records and addressed scalars
abbrev pub is_aggregate : Local → Bool
is_aggregate l = not (is_scalar l.type_id) || l.addressed

abbrev pub local_words : List Shape → Local → ℕ
local_words shapes l = type_words shapes l.type_id

abbrev pub var_words : List Shape → ModuleVar → ℕ
var_words shapes v = type_words shapes v.type_id

-- A value parameter is a scalar. The aggregates of a procedure follow on from aggregate word 0.
pub record IsLaidIn (shapes : List Shape) (proc : CheckedProc) : Type 0 where
  pub param_types : (k : ℕ) (param : Param) → slice_get proc.params k ≡ Some param →
      param.by_var ≡ false → is_scalar param.type_id ≡ true
  pub local_types : (k : ℕ) (local : Local) → slice_get proc.locals k ≡ Some local →
      local.type_id < length shapes
  pub locals : FollowOn is_aggregate (λ l. l.word) (local_words shapes) 0 proc.aggregate_words
      proc.locals
  pub few : proc.aggregate_words ≤ limit_maximum AggregateWords

-- Storage is laid out: the variables of the module follow on from data word 0, and so do the
-- aggregates of each procedure.
pub record IsLaidOut (program : Checked) : Type 0 where
  pub types : TypesInOrder program.types
  pub var_types : (n : ℕ) (var : ModuleVar) → slice_get program.vars n ≡ Some var →
      var.type_id < length program.types
  pub vars : FollowOn (λ v. true) (λ v. v.word) (var_words program.types) 0 program.data_words
      program.vars
  pub few : program.data_words ≤ limit_maximum ModuleWords
  pub procs : (p : ℕ) (proc : CheckedProc) → slice_get program.procs p ≡ Some proc →
      IsLaidIn program.types proc
