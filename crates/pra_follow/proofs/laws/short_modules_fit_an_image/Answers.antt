use Rattle.pra_follow.proofs.Room.{has_room}
use Rattle.pra_follow.proofs.laws.short_modules_fit_an_image.Goals as goal

pub returns : goal.returns
returns c = λ program codes cs limited short tidied are same.
    has_room program codes limited short tidied cs are same
