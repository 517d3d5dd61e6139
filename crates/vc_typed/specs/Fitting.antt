-- A place of a reading fits a checked module that the reading may lead to: what is known there is
-- so in the module.
use Rattle.std.specs.Prelude.{◌≡◌, ℕ, ◌<◌, true, false, List, [], ◌∷◌, length, Some}
use Rattle.std.specs.Prelude.{slice_get}
use Rattle.ob_syntax.specs.Names.{Place, Scope}
use Rattle.ob_syntax.specs.Expressions.{field_names}
use Rattle.ob_syntax.specs.WellFormed.{is_scalar}
use Rattle.ob_syntax.specs.declared.checked.Checked.{Checked}
use Rattle.ob_syntax.specs.declared.checked.CheckedProc.{CheckedProc}
use Rattle.ob_syntax.specs.declared.checked.Meaning.{Meaning}
use Rattle.ob_syntax.specs.declared.checked.Meaning.TheVariants.{TypeName, Variable, Procedure}
use Rattle.ob_syntax.specs.declared.checked.Param.{Param}
use Rattle.ob_syntax.specs.declared.checked.Shape.{Shape}
use Rattle.ob_syntax.specs.declared.checked.Shape.TheVariants.{Record}
use Rattle.vc_relation.specs.Layout.{TypesInOrder}
use Rattle.vc_typed.specs.Typing.{typed, root_typing}

-- What a name means is there: a variable of that type, one of the types so far, or one of the
-- procedures so far.
abbrev pub IsThere : Checked → ℕ → ℕ → Meaning → Type 0
IsThere program types procs (Variable owner root type_id) =
    root_typing program owner root ≡ typed true type_id
IsThere program types procs (TypeName type_id) = type_id < types
IsThere program types procs (Procedure id) = id < procs
IsThere program types procs _ = Unit {0}

-- all that a scope shows is there
abbrev pub AllThere : Checked → ℕ → ℕ → Scope → Type 0
AllThere program types procs [] = Unit {0}
AllThere program types procs (d ∷ ds) =
    ((m : Meaning) → d.1 ≡ Some m → IsThere program types procs m)
    × AllThere program types procs ds

abbrev pub EachThere : Checked → ℕ → ℕ → List Scope → Type 0
EachThere program types procs [] = Unit {0}
EachThere program types procs (s ∷ ss) =
    AllThere program types procs s × EachThere program types procs ss

-- parameters of the same kinds and types
abbrev pub AreAlike : List Param → List Param → Type 0
AreAlike [] [] = Unit {0}
AreAlike (p ∷ ps) (q ∷ qs) = (p.by_var ≡ q.by_var) × (p.type_id ≡ q.type_id) × AreAlike ps qs
AreAlike _ _ = ⊥

-- value parameters are scalars
abbrev pub ValuesAreScalars : List Param → Type 0
ValuesAreScalars [] = Unit {0}
ValuesAreScalars (p ∷ ps) =
    (p.by_var ≡ false → is_scalar p.type_id ≡ true) × ValuesAreScalars ps

-- The module has a procedure with these parameters.
pub record HasProcedure (program : Checked) (id : ℕ) (params : List Param) : Type 0 where
  pub proc : CheckedProc
  pub there : slice_get program.procs id ≡ Some proc
  pub alike : AreAlike params proc.params
  pub scalars : ValuesAreScalars params

pub record Fits (program : Checked) (p : Place) : Type 0 where
  pub types : (k : ℕ) (shape : Shape) → slice_get p.types k ≡ Some shape →
      slice_get program.types k ≡ Some shape
  pub ordered : TypesInOrder p.types
  pub parallel : length p.fields ≡ length p.types
  -- the fields of a record have as many names as types
  pub named : (k : ℕ) (fields : List ℕ) → slice_get p.types k ≡ Some (Record fields) →
      length (field_names (slice_get p.fields k)) ≡ length fields
  pub headings : (id : ℕ) (params : List Param) → slice_get p.headings id ≡ Some params →
      HasProcedure program id params
  pub scope : AllThere program (length p.types) (length p.headings) p.scope
  pub outer : EachThere program (length p.types) (length p.headings) p.outer
