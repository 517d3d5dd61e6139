-- Which tokens derive which tree.
use Rattle.std.specs.Prelude.{◌≡◌, List, [], ◌∷◌, ◌++◌}
use Rattle.ob_syntax.specs.declared.token.Kind.{Kind}
use Rattle.ob_syntax.specs.Grammar.{Nonterminal, Symbol, right}
use Rattle.ob_syntax.specs.Forms.{Form, Parts, made, done, taken, part}
use Rattle.ob_syntax.specs.Tree.{Tree, tree}

-- the tokens of a form: those of its parts, one after another
abbrev mutual
  pub text : (n : Nonterminal) → Form n → List Kind
  text n (made _ r ps) = texts (right r) ps

  pub texts : (ss : List Symbol) → Parts ss → List Kind
  texts _ done = []
  texts _ (taken k ss ps) = k ∷ texts ss ps
  texts _ (part d m ss f ps) = text m f ++ texts ss ps

-- The tokens derive the tree as a phrase of n: some productions split them, part by part, and stand
-- for the tree.
abbrev pub Derives : (n : Nonterminal) → List Kind → Tree n → Type 0
Derives n ks t = (f : Form n) × (ks ≡ text n f) × (t ≡ tree n 0 f)
