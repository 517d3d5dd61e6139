-- What a name means at a place.
--
-- A name is declared in the scope where its declaration stands: from its own token on no other
-- declaration of that scope may have it, and from the end of its declaration on it is visible there
-- and in the scopes inside. A scope is the list of its declarations, in the order of the text. A
-- name that is declared but not visible yet hides no outer one (Wirth, The Programming Language
-- Oberon, section 4).
use Rattle.std.specs.Prelude.{ℕ, Bool, true, false, ◌||◌, List, [], ◌∷◌, Option, Some, None, Result}
use Rattle.std.specs.Prelude.{Ok, Err, codes, bytes_eq, nat_eq, if◌then◌else◌}
use Rattle.ob_syntax.specs.declared.token.Token.{Token}
use Rattle.ob_syntax.specs.declared.checked.Meaning.{Meaning}
use Rattle.ob_syntax.specs.declared.checked.Meaning.TheVariants.{Constant, TypeName, Variable}
use Rattle.ob_syntax.specs.declared.checked.Meaning.TheVariants.{Standard as StandardProcedure}
use Rattle.ob_syntax.specs.declared.checked.Param.{Param}
use Rattle.ob_syntax.specs.declared.checked.Root.{Root}
use Rattle.ob_syntax.specs.declared.checked.Root.TheVariants as root
use Rattle.ob_syntax.specs.declared.checked.Shape.{Shape}
use Rattle.ob_syntax.specs.declared.checked.Standard.TheVariants.{Read, Write, WriteLine}
use Rattle.ob_syntax.specs.declared.checked.Value.TheVariants.{Truth}
use Rattle.ob_syntax.specs.Source.{Name, spelling}

-- a rule, by its number, and the token at which it is broken
abbrev pub Fault : Type 0
Fault = ℕ × ℕ

-- what a phrase is read as, or the first rule that is broken in it
abbrev pub Judged : Type 0 → Type 0
Judged A = Result A Fault

-- a name with its meaning, which is None up to the end of its declaration
abbrev pub Declaration : Type 0
Declaration = Name × Option Meaning

abbrev pub Scope : Type 0
Scope = List Declaration

-- what is known at a place of a module
pub record Place : Type 0 where
  pub bytes : List ℕ
  pub tokens : List Token
  -- the procedure in whose block the place lies; 0 is the module
  pub here : ℕ
  -- the scope in which the place lies, and those around it, the module's first
  pub scope : Scope
  pub outer : List Scope
  -- the types so far, and the names of the fields of each
  pub types : List Shape
  pub fields : List (List Name)
  -- the lengths of arrays so far, in the order of the text
  pub lengths : List ℕ
  -- the nodes of the statement parts so far, in the order of the text
  pub nodes : List ℕ
  -- the parameters of each procedure so far, by its number; the module has none
  pub headings : List (List Param)

-- the text of the name at a token
abbrev pub name_at : Place → ℕ → Name
name_at p k = spelling p.bytes p.tokens k

-- ---- one scope

abbrev pub is_declared : Name → Scope → Bool
is_declared name [] = false
is_declared name (d ∷ ds) = bytes_eq name d.0 || is_declared name ds

-- the meaning of a name that is visible
abbrev pub visible : Name → Scope → Option Meaning
visible name [] = None
visible name (d ∷ ds) = if bytes_eq name d.0 then d.1 else visible name ds

-- the scope with a new name, or with a new meaning of a name that it has
abbrev pub with_name : Name → Option Meaning → Scope → Scope
with_name name meaning [] = (name, meaning) ∷ []
with_name name meaning (d ∷ ds) =
    if bytes_eq name d.0 then (d.0, meaning) ∷ ds else d ∷ with_name name meaning ds

-- ---- all scopes

-- the names that each module has without a declaration
abbrev pub standard : Name → Option Meaning
standard name =
    if bytes_eq name (codes "INTEGER") then Some (TypeName 0) else
    if bytes_eq name (codes "BOOLEAN") then Some (TypeName 1) else
    if bytes_eq name (codes "TRUE") then Some (Constant (Truth true)) else
    if bytes_eq name (codes "FALSE") then Some (Constant (Truth false)) else
    if bytes_eq name (codes "Read") then Some (StandardProcedure Read) else
    if bytes_eq name (codes "Write") then Some (StandardProcedure Write) else
    if bytes_eq name (codes "WriteLn") then Some (StandardProcedure WriteLine) else
    None

abbrev pub or_else : {A : Type 0} → Option A → Option A → Option A
or_else (Some x) other = Some x
or_else None other = other

-- what the innermost of the scopes that shows the name makes of it, or outside them found
abbrev pub innermost : Name → Option Meaning → List Scope → Option Meaning
innermost name found [] = found
innermost name found (s ∷ inner) = innermost name (or_else (visible name s) found) inner

abbrev pub meaning : Place → Name → Option Meaning
meaning p name = or_else (visible name p.scope) (innermost name (standard name) p.outer)

-- a variable of the module, or of the procedure that the place is in
abbrev pub is_within_reach : Place → ℕ → Root → Bool
is_within_reach p owner (root.Module i) = true
is_within_reach p owner (root.Param i) = nat_eq owner p.here
is_within_reach p owner (root.Local i) = nat_eq owner p.here

-- rule 6: a name means a variable or parameter of an enclosing procedure
abbrev pub reached : Place → ℕ → Meaning → Judged Meaning
reached p k (Variable owner root type_id) =
    if is_within_reach p owner root then Ok (Variable owner root type_id) else Err (6, k)
reached p k m = Ok m

-- rule 5: a name is used that no visible scope has declared before
abbrev pub known : Place → ℕ → Option Meaning → Judged Meaning
known p k (Some m) = reached p k m
known p k None = Err (5, k)

-- the meaning of the name at token k, which is used there
abbrev pub used : Place → ℕ → Judged Meaning
used p k = known p k (meaning p (name_at p k))
