use Rattle.std.proofs.Common.{◌+◌, ◌-◌, ◌≡◌, ap, ◌∙◌, arith}
use Rattle.std.specs.Int.{w32}
use Rattle.std.proofs.lemmas.Int.{to_z-of_z}
use Rattle.ia_code.specs.DecodeTable.{imm32}
use Rattle.ia_asm.proofs.Overwriting.{part_is_overwritten}
use Rattle.ia_asm.proofs.filling.overwrite.Goals as goal

pub returns : goal.returns
returns c =
    let place = c.args.place in
    let four : place + 4 - place ≡ 4 = omega arith in
    part_is_overwritten place (place + 4 - place) (imm32 c.args.n) c.copy_from_slice.new.self
    c.args.code.now
    (c.copy_from_slice.ensures.after ∙ c.to_le_bytes.ensures
    ∙ ap imm32 (to_z-of_z w32 c.args.n c.ranges.n)) four
