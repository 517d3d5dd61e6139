use Rattle.vc_proc.proofs.Followed.{calls_follow}
use Rattle.vc_proc.proofs.laws.calls_follow_their_meaning.Goals as goal

pub returns : goal.returns
returns c = λ program w turns deeper least calls selectable all lt ld. calls_follow program w
    selectable all turns deeper calls least lt ld
