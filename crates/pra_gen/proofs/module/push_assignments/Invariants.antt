use Rattle.std.proofs.Common.{◌≡◌, ◌*◌, ◌++◌, string_bytes}
use Rattle.pra_gen.specs.Draws.{state_after}
use Rattle.pra_gen.specs.Module.{in_a_row, statement_line, statement_from}
use Rattle.pra_gen.proofs.module.push_assignments.Given as goal

abbrev pub invariant-loop-turn : goal.invariant-loop-turn
invariant-loop-turn l =
    (string_bytes l.text ≡ string_bytes l.initial.text
    ++ in_a_row (λ i. statement_line (statement_from (state_after l.initial.draws.state (4 * i))))
    l._turn)
    × (l.draws.state ≡ state_after l.initial.draws.state (4 * l._turn))
