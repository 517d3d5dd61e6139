use Rattle.std.proofs.Common.{◌≡◌, ◌++◌, string_bytes}
use Rattle.pra_gen.specs.Module.{in_a_row, call_line}
use Rattle.pra_gen.proofs.module.push_calls.Given as goal

abbrev pub invariant-loop-number : goal.invariant-loop-number
invariant-loop-number l = string_bytes l.text ≡ string_bytes l.initial.text
    ++ in_a_row call_line l.number
