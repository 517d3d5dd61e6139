use Rattle.pra_follow.proofs.Meant.{follower}
use Rattle.pra_follow.proofs.laws.followers_do_as_meant.Goals as goal

pub returns : goal.returns
returns c = λ program codes frames input image selectable are words follows.
    follower program codes selectable are frames input words image follows
