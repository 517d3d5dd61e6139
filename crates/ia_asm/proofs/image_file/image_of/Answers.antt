use Rattle.std.proofs.Common.{ap, sym, ◌∙◌}
use Rattle.pra_list.proofs.Options.{none_some}
use Rattle.ia_asm.specs.Rules.{broken}
use Rattle.ia_asm.proofs.ImageFile.{broken-image_bytes_of}
use Rattle.ia_asm.proofs.image_file.image_of.Goals as goal

pub returns-in-Some-clause-only : goal.returns-in-Some-clause-only
returns-in-Some-clause-only c =
    λ image is. absurd (none_some (sym (ap broken is.1 ∙ broken-image_bytes_of image is.0)
    ∙ c.in-Some.ensures.0))
