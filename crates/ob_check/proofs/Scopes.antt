-- The last of the scopes around a place.
use Rattle.std.proofs.Common.{◌≡◌, List, [], ◌∷◌, ◌++◌, refl, ap}
use Rattle.ob_syntax.specs.Names.{Scope}
use Rattle.ob_syntax.specs.Declarations.{last_scope}

pub last_of : (around : List Scope) (scope : Scope) →
    last_scope (around ++ scope ∷ []) ≡ (scope, around)
last_of [] scope = refl
last_of (s ∷ []) scope = refl
last_of (s ∷ t ∷ ss) scope =
    ap (λ (r : Scope × List Scope). (r.0, s ∷ r.1)) (last_of (t ∷ ss) scope)
