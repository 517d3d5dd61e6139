use Rattle.std.proofs.Common.{arith, ◌∙◌}
use Rattle.ia_asm.proofs.ImageFile.{image_read}
use Rattle.ia_asm.proofs.image_file.read_image.Goals as goal

pub returns-clause-found : goal.returns-clause-found
returns-clause-found c =
    image_read c.args.bytes.now (λ k. omega (arith, c.type_inv.bytes k)) c.requires _
    (c.in_ok-code.ensures ∙ c.split_at.ensures.back) c.number.ensures
