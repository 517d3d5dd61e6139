use Rattle.std.proofs.Common.{◌≡◌, ◌++◌, drop, string_bytes}
use Rattle.pra_report.specs.Texts.{output_text}
use Rattle.pra_report.proofs.text.output_text.Given as goal

abbrev pub invariant-loop-event : goal.invariant-loop-event
invariant-loop-event l = string_bytes l.text ++ output_text (drop l.event-index l.events) ≡
    output_text l.events
