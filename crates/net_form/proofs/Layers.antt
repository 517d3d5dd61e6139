-- Layers, counted over all blocks.
use Rattle.std.proofs.Common.{ℕ, ◌≡◌, ◌+◌, ◌<◌, length, get_or, ap, ◌∙◌, arith}
use Rattle.std.proofs.lemmas.List.FromFn.{length-map-range_with_len, get_or-map-range_with_len}
use Rattle.std.proofs.lemmas.List.Sums.{sum_by_more_le}
use Rattle.net_form.specs.declared.net.NetBlock.{NetBlock}
use Rattle.net_form.specs.declared.net.NetIndex.{NetIndex}
use Rattle.net_form.specs.declared.net.Net.{Net}
use Rattle.net_form.specs.Admitted.{strand_at, no_strand}
use Rattle.net_form.specs.Formed.{IsFormed, no_block}
use Rattle.net_form.specs.Index.{first_layer}
use Rattle.net_form.specs.Rooms.{layer_total}

module _ (net : Net) (formed : IsFormed net) where
  pub layers_long : length net.index.layers ≡ length net.blocks + 1
  layers_long = ap (λ (i : NetIndex). length i.layers) formed.index
      ∙ length-map-range_with_len (first_layer net.blocks) 0 (length net.blocks + 1)

  pub layers_at : (b : ℕ) → b < length net.blocks → get_or net.index.layers b 0 ≡
      first_layer net.blocks b
  layers_at b lt = ap (λ (i : NetIndex). get_or i.layers b 0) formed.index
      ∙ get_or-map-range_with_len (first_layer net.blocks) 0 (length net.blocks + 1) b b 0
      (omega (arith, lt)) (omega arith)

  -- the number of the layer 0 of the strand's block
  abbrev pub base : ℕ → ℕ
  base s = first_layer net.blocks (strand_at net s).block.0

  pub in_layers : (s : ℕ) → s < length net.strands → base s + (strand_at net s).last <
      layer_total net.blocks
  in_layers s lt =
      let t = formed.strands s no_strand lt in
      let most = sum_by_more_le (λ (b : NetBlock). b.layers) net.blocks (strand_at net s).block.0
      no_block t.block in
      let within = t.within in
      omega (arith, most, within)
