-- Kinds of tokens with their spellings.
use Rattle.std.specs.Prelude.{ℕ, List, map}
use Rattle.std.specs.Borrow.{Bor}
use Rattle.ob_syntax.specs.declared.token.Kind.{Kind}

-- the spellings' bytes
abbrev pub spellings : List (Kind × Bor (List ℕ)) → List (Kind × List ℕ)
spellings entries = map (λ (e : Kind × Bor (List ℕ)). (e.0, e.1.now)) entries
