use Rattle.std.proofs.Common.{◌≡◌, ◌∙◌, ℕ, List, ap}
use Rattle.pra_base.specs.Operands.{writes}
use Rattle.vc_code.specs.declared.row.Role.{Role}
use Rattle.vc_live.specs.Equations.{named_in}
use Rattle.vc_live.proofs.Steps.{writes_named}
use Rattle.vc_valid.proofs.Roles.{only_is_written}
use Rattle.vc_valid.proofs.instructions.is_apart.Goals as goal

pub returns : goal.returns
returns c =
    let i = c.args.instr.now in
    let named : (v : ℕ) → named_in c.as_slice.result.now v ≡ writes i v
    = λ v. ap (λ (rs : List Role). named_in rs v) c.as_slice.ensures.value
    ∙ writes_named c.operands-row.result i c.operands-row.ensures v in (
      λ yes v only. c.are_apart.ensures.0 yes v (named v ∙ only_is_written i v only) only,
      λ apart. c.are_apart.ensures.1 (λ v is. apart v),
    )
