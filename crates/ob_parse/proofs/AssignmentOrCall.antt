-- A statement that begins with a name: the token behind the name tells an assignment from a call.
use Rattle.std.proofs.Common.{◌≡◌, ℕ, List, [], ◌∷◌, Some, refl, ap, ◌∙◌, sym}
use Rattle.ob_syntax.specs.declared.token.Kind.TheVariants.{Ident, Becomes}
use Rattle.ob_syntax.specs.Grammar.{Action, Selectors, Expression, ActualParameters, Symbol, level}
use Rattle.ob_syntax.specs.Grammar.{token, phrase, assignment, call}
use Rattle.ob_syntax.specs.Forms.{made, taken, ends, depth}
use Rattle.ob_syntax.specs.ChosenRule.{first, behind_name}
use Rattle.ob_syntax.specs.Tree.{tree_by, values}
use Rattle.ob_parse.specs.declared.cursor.Parser.{Parser}
use Rattle.ob_parse.specs.Reading.{left, place, IsNext}
use Rattle.ob_parse.proofs.PhraseUnderway.{Waits, opened_only, taken_only}

abbrev pub behind_target : List Symbol
behind_target = phrase level Selectors ∷ token Becomes ∷ phrase level Expression ∷ []

pub assigned : (room : ℕ) (p q : Parser) → IsNext Ident p q → behind_name (first (left q)) ≡
    Some assignment
    → Waits Action (phrase level Selectors ∷ token Becomes ∷ phrase level Expression ∷ []) room
    (λ j v. tree_by assignment (place p) j (place p, v)) p q
assigned room p q n is = record {
  plug = λ g. made Action assignment (taken Ident behind_target g);
  read = Ident ∷ [];
  from = n.from;
  count = n.place_is;
  spelled = λ g ks. refl;
  tree_is = λ g. ap (λ i. tree_by assignment (place p) (ends behind_target i g)
      (place p, values behind_target i g)) (sym n.place_is);
  end_is = λ g. ap (λ i. ends behind_target i g) (sym n.place_is);
  deep = λ g d le h. h;
  follow = λ g ks same h. (ap behind_name same ∙ is, h);
  only = λ next same f after ends eq.
      let g = opened_only Action assignment (Ident ∷ next) (ap behind_name same ∙ is) f after ends
      eq in
      taken_only Ident behind_target next after (depth Action f) g.0 g.1 g.2 g.3;
}

abbrev pub behind_procedure : List Symbol
behind_procedure = phrase level ActualParameters ∷ []

pub called : (room : ℕ) (p q : Parser) → IsNext Ident p q → behind_name (first (left q)) ≡
    Some call → Waits Action (phrase level ActualParameters ∷ []) room
    (λ j v. tree_by call (place p) j (place p, v)) p q
called room p q n is = record {
  plug = λ g. made Action call (taken Ident behind_procedure g);
  read = Ident ∷ [];
  from = n.from;
  count = n.place_is;
  spelled = λ g ks. refl;
  tree_is = λ g. ap (λ i. tree_by call (place p) (ends behind_procedure i g)
      (place p, values behind_procedure i g)) (sym n.place_is);
  end_is = λ g. ap (λ i. ends behind_procedure i g) (sym n.place_is);
  deep = λ g d le h. h;
  follow = λ g ks same h. (ap behind_name same ∙ is, h);
  only = λ next same f after ends eq.
      let g = opened_only Action call (Ident ∷ next) (ap behind_name same ∙ is) f after ends eq in
      taken_only Ident behind_procedure next after (depth Action f) g.0 g.1 g.2 g.3;
}
