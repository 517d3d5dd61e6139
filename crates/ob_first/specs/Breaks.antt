-- Which rules a module breaks, and at which tokens.
--
-- A part of a phrase breaks a rule wherever the phrase stands, and a phrase whose parts have a
-- reading breaks one by itself, where a test of it fails. A phrase with a broken part is not tested
-- itself. Parts in one scope are looked at each by itself; so an expression, a statement, an
-- argument or the body of a procedure that breaks a rule hides no other. Behind a broken
-- declaration there is no scope in which anything could be looked at; as it stands behind, it makes
-- no difference for which rule is the first. The tests are those of ob_syntax: what is `Err` there,
-- is a broken rule with its token.
use Rattle.std.specs.Prelude.{◌≡◌, ℕ, ◌<◌, ◌≤◌, ◌⊎◌, List, Err}
use Rattle.ob_syntax.specs.declared.token.Token.{Token}
use Rattle.ob_syntax.specs.declared.tree.Module.{Module}
use Rattle.ob_syntax.specs.Declarations.{beginning, closed}
use Rattle.ob_syntax.specs.Names.{Fault}
use Rattle.ob_first.specs.Faults.{AnyOf, Behind}
use Rattle.ob_first.specs.InStatements.{InStatement}
use Rattle.ob_first.specs.InDeclarations.{behind_declarations, InDeclarations}

abbrev pub InModule : List ℕ → List Token → Module → Fault → Type 0
InModule bytes tokens m f =
    let p = beginning bytes tokens in
    InDeclarations p m.decls f ⊎
    (Behind (behind_declarations m.decls p) (λ q g. AnyOf (λ s h. InStatement q s h) m.body g) f ⊎
    Behind (behind_declarations m.decls p) (λ q g. closed 1 q m.name m.close ≡ Err g) f)

-- rule k is broken at this token
abbrev pub Breaks : List ℕ → List Token → Module → ℕ → ℕ → Type 0
Breaks bytes tokens m k token = InModule bytes tokens m (k, token)

-- The rule that is to be told: it is broken at this token, no rule at an earlier one, and none of a
-- smaller number at this one.
pub record IsFirst (bytes : List ℕ) (tokens : List Token) (m : Module) (k token : ℕ) : Type 0 where
  pub broken : Breaks bytes tokens m k token
  pub first : (j other : ℕ) → Breaks bytes tokens m j other →
      (token < other) ⊎ ((token ≡ other) × (k ≤ j))
