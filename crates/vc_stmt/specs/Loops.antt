-- What loops mean, by the meanings of their condition and of their statements.
use Rattle.ob_mean.specs.Expressions.{Evaluation}
use Rattle.ob_mean.specs.Statements.{Execution, on_state, while_turns, repeat_turns}

abbrev pub while_of : Evaluation → Execution → Execution
while_of test body a m = while_turns a.turns (on_state test a) (body a) m

abbrev pub repeat_of : Execution → Evaluation → Execution
repeat_of body test a m = repeat_turns a.turns (body a) (on_state test a) m
