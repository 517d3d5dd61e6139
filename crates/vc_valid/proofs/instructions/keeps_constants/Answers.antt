use Rattle.std.proofs.Common.{◌≡◌, ◌∙◌, ℕ, List, ap, refl, sym, subst}
use Rattle.pra_list.proofs.Truths.{true_false, false_from}
use Rattle.pra_base.specs.Operands.{writes}
use Rattle.vc_code.specs.declared.row.Role.{Role}
use Rattle.vc_live.specs.Equations.{named_in}
use Rattle.vc_live.proofs.Steps.{writes_named}
use Rattle.vc_live.proofs.SizedLemmas.{refused_by}
use Rattle.vc_valid.specs.Rules.{IsConstantOf}
use Rattle.vc_valid.proofs.instructions.keeps_constants.Goals as goal

pub returns-then-not-avoid_constants : goal.returns-then-not-avoid_constants
returns-then-not-avoid_constants c =
    let i = c.args.instr.now in
    let named : (v : ℕ) → named_in c.as_slice.result.now v ≡ writes i v
    = λ v. ap (λ (rs : List Role). named_in rs v) c.as_slice.ensures.value
    ∙ writes_named c.operands-row.result i c.operands-row.ensures v in
    refused_by c.if-not-avoid_constants.ensures
    (λ keeps v is constant. true_false (writes i v) (sym (named v) ∙ is)
    (keeps v constant).unwritten)

pub returns : goal.returns
returns c =
    let i = c.args.instr.now in
    let vars = c.args.vars.now in
    let named : (v : ℕ) → named_in c.as_slice.result.now v ≡ writes i v
    = λ v. ap (λ (rs : List Role). named_in rs v) c.as_slice.ensures.value
    ∙ writes_named c.operands-row.result i c.operands-row.ensures v in (
      λ yes v constant. record {
        unwritten = false_from (writes i v)
            (λ is. c.avoid_constants.ensures.0 c.if-not-avoid_constants.false v (named v ∙ is)
            constant);
        uncopied = λ t s is same. c.copies_no_constant.ensures.0 yes t s is
            (subst (IsConstantOf vars) (sym same) constant);
      },
      λ keeps. c.copies_no_constant.ensures.1
          (λ t s is constant. (keeps s.0 constant).uncopied t s is refl),
    )
