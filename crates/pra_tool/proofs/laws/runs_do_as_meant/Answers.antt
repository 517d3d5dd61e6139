use Rattle.std.proofs.Common.{refl, []}
use Rattle.pra_tool.proofs.InputWords.{numbers_are_words}
use Rattle.pra_tool.proofs.Sources.{compiled_of}
use Rattle.pra_tool.proofs.laws.runs_do_as_meant.Goals as goal

pub returns-clause-run : goal.returns-clause-run
returns-clause-run c = λ asked source input w s made.
    (compiled_of asked source made.made made.made_of).does made.numbers
    (numbers_are_words input made.numbers made.has.1)

pub returns-clause-generated : goal.returns-clause-generated
returns-clause-generated c = λ asked source input w s made.
    (compiled_of asked source made.made made.made_of).does [] refl
