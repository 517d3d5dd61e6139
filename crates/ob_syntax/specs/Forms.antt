-- Derivations: which production stands at each node, the tokens that they spell, and how deep they
-- nest.
use Rattle.std.specs.Prelude.{ℕ, suc, ◌+◌, max, List, [], ◌∷◌}
use Rattle.ob_syntax.specs.declared.token.Kind.{Kind}
use Rattle.ob_syntax.specs.Grammar.{Nonterminal, Nesting, level, deeper, inner, Symbol, token}
use Rattle.ob_syntax.specs.Grammar.{phrase, Rule, right}

-- A form of a nonterminal is one of its productions with a form for each symbol on its right.
mutual
  pub data Form : Nonterminal → Type 0 where
    made : (n : Nonterminal) (r : Rule n) → Parts (right r) → Form n

  pub data Parts : List Symbol → Type 0 where
    done : Parts []
    taken : (k : Kind) (ss : List Symbol) → Parts ss → Parts (token k ∷ ss)
    part : (d : Nesting) (m : Nonterminal) (ss : List Symbol) → Form m → Parts ss
        → Parts (phrase d m ∷ ss)

-- the tokens of the form, and then ks
abbrev mutual
  pub spell : (n : Nonterminal) → Form n → List Kind → List Kind
  spell n (made _ r ps) ks = spells (right r) ps ks

  pub spells : (ss : List Symbol) → Parts ss → List Kind → List Kind
  spells _ done ks = ks
  spells _ (taken k ss ps) ks = k ∷ spells ss ps ks
  spells _ (part d m ss f ps) ks = spell m f (spells ss ps ks)

-- the number of the token behind a form whose first token has number i
abbrev mutual
  pub end : (n : Nonterminal) → ℕ → Form n → ℕ
  end n i (made _ r ps) = ends (right r) i ps

  pub ends : (ss : List Symbol) → ℕ → Parts ss → ℕ
  ends _ i done = i
  ends _ i (taken k ss ps) = ends ss (i + 1) ps
  ends _ i (part d m ss f ps) = ends ss (end m i f) ps

abbrev pub nest : Nesting → ℕ → ℕ
nest level d = d
nest deeper d = suc d
nest inner d = max 1 d

-- how many levels a form has below the place where it stands
abbrev mutual
  pub depth : (n : Nonterminal) → Form n → ℕ
  depth n (made _ r ps) = depths (right r) ps

  pub depths : (ss : List Symbol) → Parts ss → ℕ
  depths _ done = 0
  depths _ (taken k ss ps) = depths ss ps
  depths _ (part d m ss f ps) = max (nest d (depth m f)) (depths ss ps)
