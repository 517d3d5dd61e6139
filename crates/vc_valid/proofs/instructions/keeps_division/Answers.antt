use Rattle.std.proofs.Common.{Bool, true, false, not, ◌≡◌, ◌∙◌, sym, ap, refl, Some}
use Rattle.vc_live.proofs.SizedLemmas.{refused_by}
use Rattle.vc_valid.proofs.OneInstruction.{known_after, divides, same_division, four_of}
use Rattle.vc_valid.proofs.instructions.keeps_division.Goals as goal

turned : (b : Bool) → not b ≡ true → b ≡ false
turned true is = sym is
turned false is = refl

never : (b : Bool) → (b ≡ true → ⊥) → not b ≡ true
never true fails = absurd (fails refl)
never false fails = refl

pub returns-then-not-are_four : goal.returns-then-not-are_four
returns-then-not-are_four c =
    let x = c.in-DivMod in
    refused_by c.if-not-are_four.ensures
    (λ keeps. four_of c.args.code.now c.args.block c.args.index x.quotient x.remainder x.dividend
    x.divisor (keeps x.quotient x.remainder x.dividend x.divisor x.is))

pub returns-else-not-are_four : goal.returns-else-not-are_four
returns-else-not-are_four c =
    let x = c.in-DivMod in
    let code = c.args.code.now in
    let b = c.args.block in
    let k = c.args.index in
    let at = c.requires.at ∙ ap Some x.is in (
      λ yes. same_division code b k c.args.instr.now x.quotient x.remainder x.dividend x.divisor
          x.is
          (divides code c.args.live.now b k c.requires.sized c.requires.live x.quotient x.remainder
          x.dividend x.divisor at (c.if-not-are_four.ensures.0 refl)
          (sym c.at.ensures ∙ turned c.at.result yes)),
      λ keeps. never c.at.result (λ is.
          (keeps x.quotient x.remainder x.dividend x.divisor x.is).dead
          ((known_after code c.args.live.now b k c.requires.sized c.requires.live x.quotient
          x.remainder x.dividend x.divisor at).0 (sym c.at.ensures ∙ is))),
    )
