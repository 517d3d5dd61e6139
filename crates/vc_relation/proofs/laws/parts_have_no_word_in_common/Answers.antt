use Rattle.vc_relation.proofs.Parts.{parts_apart}
use Rattle.vc_relation.proofs.laws.parts_have_no_word_in_common.Goals as goal

pub returns : goal.returns
returns c = parts_apart
