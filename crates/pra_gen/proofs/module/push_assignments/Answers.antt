use Rattle.std.proofs.Common.{ℕ, List, ◌*◌, ◌++◌, string_bytes, sym, ap, ◌∙◌, arith}
use Rattle.pra_gen.specs.Draws.{state_after}
use Rattle.pra_gen.specs.Module.{statement_line, statement_from}
use Rattle.pra_gen.proofs.Rows.{none_yet, one_more, state_after-zero, state_after-state_after}
use Rattle.pra_gen.proofs.module.push_assignments.Goals as goal

abbrev line_of : ℕ → ℕ → List ℕ
line_of x i = statement_line (statement_from (state_after x (4 * i)))

pub loop-turn-init : goal.loop-turn-init
loop-turn-init c = (
  none_yet (string_bytes c.args.text.now) (line_of c.args.draws.now.state),
  sym (state_after-zero c.args.draws.now.state),
)

pub loop-turn-preserved : goal.loop-turn-preserved
loop-turn-preserved c =
    let x = c.args.draws.now.state in
    let n = c.loop-turn._turn in
    let so_far = c.loop-turn.invariant in (
      one_more (string_bytes c.args.text.now) (string_bytes c.loop-turn.text)
          (string_bytes c.push_to.new.text)
          (line_of x) n so_far.0
          (c.in_ok-push_to.ensures
          ∙ ap (λ s. string_bytes c.loop-turn.text ++ statement_line s)
          (c.drawn-statement.ensures.drawn ∙ ap statement_from so_far.1)),
      c.drawn-statement.ensures.state ∙ ap (λ s. state_after s 4) so_far.1
          ∙ state_after-state_after x (4 * n) 4 ∙ ap (state_after x) (omega arith),
    )
