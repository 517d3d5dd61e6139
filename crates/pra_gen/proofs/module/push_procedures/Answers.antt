use Rattle.std.proofs.Common.{ℕ, List, ◌*◌, ◌++◌, string_bytes, sym, ap, ◌∙◌, arith}
use Rattle.pra_gen.specs.Draws.{state_after}
use Rattle.pra_gen.specs.Module.{procedure_text}
use Rattle.pra_gen.proofs.Rows.{none_yet, one_more, state_after-zero, state_after-state_after}
use Rattle.pra_gen.proofs.module.push_procedures.Goals as goal

abbrev procedure_of : ℕ → ℕ → List ℕ
procedure_of seed k = procedure_text k (state_after seed (80 * k))

pub loop-number-init : goal.loop-number-init
loop-number-init c = (
  none_yet (string_bytes c.args.text.now) (procedure_of c.args.seed),
  sym (state_after-zero c.args.seed),
)

pub loop-number-preserved : goal.loop-number-preserved
loop-number-preserved c =
    let seed = c.args.seed in
    let n = c.loop-number.number in
    let so_far = c.loop-number.invariant in (
      one_more (string_bytes c.args.text.now) (string_bytes c.loop-number.text)
          (string_bytes c.push_procedure.new.text)
          (procedure_of seed) n so_far.0
          (c.in_ok-push_procedure.ensures.text
          ∙ ap (λ s. string_bytes c.loop-number.text ++ procedure_text n s) so_far.1),
      c.in_ok-push_procedure.ensures.state ∙ ap (λ s. state_after s 80) so_far.1
          ∙ state_after-state_after seed (80 * n) 80 ∙ ap (state_after seed) (omega arith),
    )
