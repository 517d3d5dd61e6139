use Rattle.vc_relation.proofs.Contents.{content_written, content_other}
use Rattle.vc_relation.proofs.laws.a_write_is_to_one_spot.Goals as goal

pub returns-clause-there : goal.returns-clause-there
returns-clause-there c = λ t s x w old h there. content_written t s x w old h there

pub returns-clause-others : goal.returns-clause-others
returns-clause-others c = λ t s x w old h spot there apart. content_other t s x w old h there spot
    apart
