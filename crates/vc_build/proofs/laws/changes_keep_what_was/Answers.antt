use Rattle.vc_build.proofs.Growth.{put_grows, closed_grows, opened_grows, declared_grows}
use Rattle.vc_build.proofs.laws.changes_keep_what_was.Goals as goal

pub returns-clause-instruction : goal.returns-clause-instruction
returns-clause-instruction c = put_grows

pub returns-clause-end : goal.returns-clause-end
returns-clause-end c = closed_grows

pub returns-clause-block : goal.returns-clause-block
returns-clause-block c = λ from depth code. opened_grows depth code from

pub returns-clause-variable : goal.returns-clause-variable
returns-clause-variable c = λ from kind code. declared_grows kind code from
