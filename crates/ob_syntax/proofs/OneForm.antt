-- Tokens have at most one form in front in which each production is the one that they choose.
use Rattle.std.proofs.Common.{◌≡◌, List, Some, refl, ap, ap₂, ◌∙◌, sym, subst}
use Rattle.ob_syntax.specs.declared.token.Kind.{Kind}
use Rattle.ob_syntax.specs.Grammar.{Nonterminal, Symbol, Rule, right}
use Rattle.ob_syntax.specs.Forms.{Form, Parts, made, done, taken, part, spell, spells}
use Rattle.ob_syntax.specs.ChosenRule.{choose, Ends, Follow}

some_one : {A : Type 0} (a b : A) → Some a ≡ Some b → a ≡ b
some_one a b e = cc

-- two productions that the same tokens choose are one
pub chosen_one : (n : Nonterminal) (r r' : Rule n) (ks ks' : List Kind) → choose n ks ≡ Some r →
    choose n ks' ≡ Some r' → ks ≡ ks' → r ≡ r'
chosen_one n r r' ks ks' c c' e = some_one r r' (sym c ∙ ap (choose n) e ∙ c')

abbrev Same : {A : Type 0} → A → A → List Kind → List Kind → Type 0
Same a b u v = (a ≡ b) × (u ≡ v)

mutual
  pub one_form : (n : Nonterminal) (a b : Form n) (u v : List Kind) → Ends n a u → Ends n b v →
      spell n a u ≡ spell n b v → Same a b u v
  one_form n (made _ r ps) (made _ r' qs) u v hu hv e =
      let rules = chosen_one n r r' (spells (right r) ps u) (spells (right r') qs v) hu.0 hv.0 e in
      subst (λ r'. (qs : Parts (right r')) → Follow (right r') qs v → spells (right r) ps u ≡
      spells (right r') qs v → Same (made n r ps) (made n r' qs) u v) rules
      (λ qs hv e. let q = one_parts (right r) ps qs u v hu.1 hv e in (ap (made n r) q.0, q.1)) qs
      hv.1 e

  pub one_parts : (ss : List Symbol) (a b : Parts ss) (u v : List Kind) → Follow ss a u →
      Follow ss b v → spells ss a u ≡ spells ss b v → Same a b u v
  one_parts _ done done u v hu hv e = (refl, e)
  one_parts _ (taken k ss ps) (taken _ _ qs) u v hu hv e =
      let q = one_parts ss ps qs u v hu hv cc in (ap (taken k ss) q.0, q.1)
  one_parts _ (part d m ss f ps) (part _ _ _ g qs) u v hu hv e =
      let p = one_form m f g (spells ss ps u) (spells ss qs v) hu.0 hv.0 e in
      let q = one_parts ss ps qs u v hu.1 hv.1 p.1 in
      (ap₂ (part d m ss) p.0 q.0, q.1)
