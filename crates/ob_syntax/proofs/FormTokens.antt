-- The tokens of a form, with what stands behind it and without.
use Rattle.std.proofs.Common.{◌≡◌, List, [], ◌∷◌, ◌++◌, refl, ap, ◌∙◌, sym, append_assoc}
use Rattle.std.proofs.Common.{append-nil}
use Rattle.ob_syntax.specs.declared.token.Kind.{Kind}
use Rattle.ob_syntax.specs.Grammar.{Nonterminal, Symbol, right}
use Rattle.ob_syntax.specs.Forms.{Form, Parts, made, done, taken, part, spell, spells}
use Rattle.ob_syntax.specs.Derives.{text, texts}

-- The two ways to say the tokens of a form are the same: part by part, and with what stands behind
-- it.
mutual
  pub spell_text : (n : Nonterminal) (f : Form n) (ks : List Kind) → spell n f ks ≡ text n f ++ ks
  spell_text n (made _ r ps) ks = spells_texts (right r) ps ks

  pub spells_texts : (ss : List Symbol) (ps : Parts ss) (ks : List Kind) → spells ss ps ks ≡
      texts ss ps ++ ks
  spells_texts _ done ks = refl
  spells_texts _ (taken k ss ps) ks = ap (λ us. k ∷ us) (spells_texts ss ps ks)
  spells_texts _ (part d m ss f ps) ks = spell_text m f (spells ss ps ks)
      ∙ ap (λ us. text m f ++ us) (spells_texts ss ps ks)
      ∙ sym (append_assoc (text m f) (texts ss ps) ks)

pub spell_whole : (n : Nonterminal) (f : Form n) → spell n f [] ≡ text n f
spell_whole n f = spell_text n f [] ∙ append-nil (text n f)
