use Rattle.std.proofs.Common.{◌∷◌, arith, refl, sym, ◌∙◌, ap, add-one, drop}
use Rattle.ob_parse.specs.Reading.{left}
use Rattle.ob_syntax.specs.Whole.{kinds}
use Rattle.ob_parse.proofs.KindsLeft.{below, gone}
use Rattle.ob_parse.proofs.cursor.Parser.advance.Goals as goal

pub overflow_add-self : goal.overflow_add-self
unfolding left
overflow_add-self c =
    let i = below c.args.self.now.tokens.now c.args.self.now.at c.requires in
    omega (arith, c.args.self.now.few)

pub invariant_of-self : goal.invariant_of-self
unfolding left
invariant_of-self c =
    let i = below c.args.self.now.tokens.now c.args.self.now.at c.requires in
    record { in_range = omega arith; few = c.args.self.now.few }

pub returns : goal.returns
unfolding left
returns c k e = record {
  from = gone c.args.self.now.tokens.now c.args.self.now.at k e
      ∙ ap (λ n. k ∷ kinds (drop n c.args.self.now.tokens.now)) (sym (add-one _));
  place_is = refl;
}
