use Rattle.std.proofs.Common.{◌≡◌, ◌*◌, ◌++◌, string_bytes}
use Rattle.pra_gen.specs.Draws.{state_after}
use Rattle.pra_gen.specs.Module.{procedures}
use Rattle.pra_gen.proofs.module.push_procedures.Given as goal

abbrev pub invariant-loop-number : goal.invariant-loop-number
invariant-loop-number l =
    (string_bytes l.text ≡ string_bytes l.initial.text ++ procedures l.seed l.number) ×
    (l.draws.state ≡ state_after l.seed (80 * l.number))
