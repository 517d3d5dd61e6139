use Rattle.std.proofs.Common.{◌∙◌, ap}
use Rattle.clap.specs.Matches.{found_of}
use Rattle.clap.specs.Simple.{is_simple}
use Rattle.clap.specs.Faults.{is_simple_and_free}
use Rattle.pra_words.specs.Command.{line_of_rows}
use Rattle.pra_words.proofs.Command.{is_free, is_plain, by_rows, taken, refused}
use Rattle.pra_words.proofs.line.read_line.Goals as goal

pub returns-in-Ok : goal.returns-in-Ok
returns-in-Ok c =
    let rows = c.in-Ok.ensures.matches (ap is_simple c.in_ok-command.ensures ∙ is_plain) in
    let none = c.in-Ok.ensures.kinds (ap is_simple_and_free c.in_ok-command.ensures ∙ is_free) in
    c.line_in.ensures ∙ by_rows (found_of c.in-Ok.matches) ∙ ap line_of_rows rows.0
    ∙ taken c.args.words.now _ c.in_ok-command.ensures none

pub returns : goal.returns
returns c =
    refused c.args.words.now _ c.in_ok-command.ensures c.in-Err.error
    (c.in-Err.ensures.kinds (ap is_simple_and_free c.in_ok-command.ensures ∙ is_free))
    (λ m. c.in_default.not-OutOfMemory (c.kind.ensures ∙ m))
