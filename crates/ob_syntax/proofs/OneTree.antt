-- A list of tokens has at most one tree.
use Rattle.std.proofs.Common.{◌≡◌, ℕ, List, [], ap, ◌∙◌, sym, subst}
use Rattle.ob_syntax.specs.declared.token.Kind.{Kind}
use Rattle.ob_syntax.specs.declared.token.Token.{Token}
use Rattle.ob_syntax.specs.declared.tree.Module.{Module as ModuleTree}
use Rattle.ob_syntax.specs.Grammar.{Nonterminal, Module}
use Rattle.ob_syntax.specs.Forms.{Form}
use Rattle.ob_syntax.specs.Tree.{Tree, tree}
use Rattle.ob_syntax.specs.Derives.{text, Derives}
use Rattle.ob_syntax.specs.Source.{IsParsed}
use Rattle.ob_syntax.specs.Whole.{kinds, IsTreeOf}
use Rattle.ob_syntax.proofs.Texts.{one_list}
use Rattle.ob_syntax.proofs.FormTokens.{spell_whole}
use Rattle.ob_syntax.proofs.OneForm.{one_form}
use Rattle.ob_syntax.proofs.FormsAreChosen.{settled}

-- tokens have at most one form
pub one_derivation : (n : Nonterminal) (f g : Form n) → text n f ≡ text n g → f ≡ g
one_derivation n f g e =
    (one_form n f g [] [] (settled n f) (settled n g)
    (spell_whole n f ∙ e ∙ sym (spell_whole n g))).0

-- and at most one tree
pub one_tree : (n : Nonterminal) (ks : List Kind) (t u : Tree n) → Derives n ks t → Derives n ks u →
    t ≡ u
one_tree n ks t u (f, spelled, is) (g, spelled', is') =
    is ∙ ap (tree n 0) (one_derivation n f g (sym spelled ∙ spelled')) ∙ sym is'

derived : (room : ℕ) (ks : List Kind) (t : ModuleTree) → IsTreeOf room ks t → Derives Module ks t
derived room ks t (f, spelled, deep, is) = (f, spelled, is)

-- a source has at most one tree
pub one_source : (bytes : List ℕ) (list other : List Token) (t u : ModuleTree) →
    IsParsed bytes list t → IsParsed bytes other u → (list ≡ other) × (t ≡ u)
one_source bytes list other t u p q =
    let same = one_list bytes list other p.scanned.scanned q.scanned.scanned in
    let there = subst (λ ts. IsTreeOf 64 (kinds ts) u) (sym same) q.parsed in (
      same,
      one_tree Module (kinds list) t u (derived 64 (kinds list) t p.parsed)
          (derived 64 (kinds list) u there),
    )
