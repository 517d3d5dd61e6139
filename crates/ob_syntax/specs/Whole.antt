-- Which lists of tokens are modules, which begin one, and where tokens stop beginning one.
use Rattle.std.specs.Prelude.{◌≡◌, ℕ, ◌+◌, ◌<◌, ◌≤◌, List, ◌++◌, take, length, map}
use Rattle.pra_base.specs.declared.limit.LimitKind.TheVariants.{Depth}
use Rattle.pra_base.specs.Limits.{limit_maximum}
use Rattle.ob_syntax.specs.declared.token.Kind.{Kind}
use Rattle.ob_syntax.specs.declared.token.Token.{Token}
use Rattle.ob_syntax.specs.declared.tree.Module.{Module as ModuleTree}
use Rattle.ob_syntax.specs.Grammar.{Module}
use Rattle.ob_syntax.specs.Forms.{Form, depth}
use Rattle.ob_syntax.specs.Tree.{tree}
use Rattle.ob_syntax.specs.Derives.{text}

abbrev pub kinds : List Token → List Kind
kinds = map (λ x. x.kind)

-- how deep declarations, statements, types and expressions of a module nest at most
abbrev pub most_nesting : ℕ
most_nesting = limit_maximum Depth

-- The tokens are a module of at most this depth: some productions split them.
abbrev pub IsModule : ℕ → List Kind → Type 0
IsModule room ks = (f : Form Module) × (ks ≡ text Module f) × (depth Module f ≤ room)

-- They derive the tree, as a module of at most this depth.
abbrev pub IsTreeOf : ℕ → List Kind → ModuleTree → Type 0
IsTreeOf room ks t =
    (f : Form Module) × (ks ≡ text Module f) × (depth Module f ≤ room) × (t ≡ tree Module 0 f)

-- Some continuation makes the tokens a module of at most this depth.
abbrev pub IsFront : ℕ → List Kind → Type 0
IsFront room ks = (more : List Kind) × IsModule room (ks ++ more)

-- k is the length of the longest front of the tokens that some continuation makes a module of at
-- most this depth; and if that is all of them, they are no such module.
pub record IsPlace (room : ℕ) (ks : List Kind) (k : ℕ) : Type 0 where
  pub within : k ≤ length ks
  pub front : IsFront room (take k ks)
  pub longest : k < length ks → IsFront room (take (k + 1) ks) → ⊥
  pub no_module : k ≡ length ks → IsModule room ks → ⊥

-- The first k tokens begin a module of depth at most 64, and with the next one they begin none of
-- any depth, or there is no next one.
pub record StopsAt (ks : List Kind) (k : ℕ) : Type 0 where
  pub place : IsPlace most_nesting ks k
  pub none : (d : ℕ) → k < length ks → IsFront d (take (k + 1) ks) → ⊥

-- The first k tokens begin a module of depth at most 64, and with the next one only modules of a
-- greater depth.
pub record DeepensAt (ks : List Kind) (k : ℕ) : Type 0 where
  pub place : IsPlace most_nesting ks k
  pub within : k < length ks
  pub deeper : (d : ℕ) × IsFront d (take (k + 1) ks)
