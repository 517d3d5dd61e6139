use Rattle.ia_code.proofs.OneImage.{one_image}
use Rattle.ia_code.proofs.laws.one_image.Goals as goal

pub returns : goal.returns
returns c = one_image
