-- How much there is of sized code.
use Rattle.std.proofs.Common.{ℕ, ◌+◌, ◌<◌, length, map, ap, arith}
use Rattle.std.proofs.lemmas.List.Sums.{get_or-le-sum_by}
use Rattle.pra_base.specs.declared.code.Block.{Block}
use Rattle.pra_base.specs.declared.code.VProc.{VProc}
use Rattle.pra_base.specs.Code.{no_block}
use Rattle.pra_base.specs.Valid.{IsSized}
use Rattle.std.proofs.lemmas.List.{get_or-map, length-map}
use Rattle.net_form.specs.declared.net.NetBlock.{NetBlock}
use Rattle.net_form.specs.declared.net.Strand.{Strand}
use Rattle.net_form.specs.Formed.{IsStrandOf, no_block as no_layers}
use Rattle.net_form.specs.Network.{net_block}
use Rattle.net_form.specs.Strands.{layer_count}

pub small_block : (code : VProc) (b : ℕ) → IsSized code → b < length code.blocks →
    layer_count code b < 100000
small_block code b sized lt =
    let one = get_or-le-sum_by (λ (k : Block). length k.code) code.blocks b no_block lt in
    let all = sized.instructions in
    omega (arith, one, all)

-- a strand of a block of the code has few layers
pub small_strand : (code : VProc) (t : Strand) → IsSized code →
    IsStrandOf (map net_block code.blocks) t → t.first + length t.masks < 100001
small_strand code t sized is =
    let same = length-map code.blocks net_block in
    let block = is.block in
    let small = small_block code t.block.0 sized (omega (arith, same, block)) in
    let layers = ap (λ (k : NetBlock). k.layers)
    (get_or-map net_block code.blocks t.block.0 no_block no_layers (omega (arith, same, block)))
    in
    let within = is.within in
    let masks = is.masks in
    omega (arith, small, layers, within, masks)
