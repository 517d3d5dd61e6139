-- The network of valid sized code is built.
use Rattle.std.proofs.Common.{ℕ, ◌≡◌, length, get_or, ◌+◌, ◌*◌, ◌%◌, ◌≢◌, sym, ◌∙◌, subst, arith}
use Rattle.std.proofs.lemmas.List.{length-map}
use Rattle.std.proofs.lemmas.List.Elements.{All-weaker, All-map}
use Rattle.net_form.specs.declared.net.NetBlock.{NetBlock}
use Rattle.pra_base.specs.declared.code.VProc.{VProc}
use Rattle.pra_base.specs.Valid.{IsValid, IsSized}
use Rattle.net_form.specs.declared.net.MemPair.{MemPair}
use Rattle.net_form.specs.declared.net.Net.{Net}
use Rattle.net_form.specs.Tables.{all_tables}
use Rattle.net_form.specs.Strands.{strands}
use Rattle.net_form.specs.Network.{net_block, net_of, ties, IsNet}
use Rattle.net_form.specs.Admitted.{strand_at}
use Rattle.net_form.proofs.NetworkFormed.{formed}
use Rattle.net_laws.specs.Built.{IsBuilt}
use Rattle.net_laws.proofs.Ordered.{in_order}
use Rattle.net_laws.proofs.Room.{leaves_room}
use Rattle.net_laws.proofs.StrandsInOrder.{net_strands_in_order, net_ends_before}
use Rattle.net_laws.proofs.Pairs.{IsPair, all_pairs}
use Rattle.net_laws.proofs.PairsApart.{one_end}
use Rattle.net_laws.proofs.TieCounts.{entries, exits, block_ties, grouped_strands}

even_layers : (n : ℕ) → (2 * n + 2) % 2 ≡ 0
even_layers n = omega arith

pub built : (code : VProc) (net : Net) → IsNet net code → IsValid code → IsSized code → IsBuilt net
built code net is valid sized =
    let n = net_of all_tables code is.live is.least in
    let tied = ties code (strands all_tables code is.live) in
    let itself : IsNet n code = record {
      live = is.live;
      is_live = is.is_live;
      least = is.least;
      are_least = is.are_least;
      is = λ i. n;
    } in
    subst IsBuilt (sym is.is) (record {
      formed = formed all_tables code n itself sized;
      in_order = in_order all_tables code n itself;
      room = leaves_room code n itself valid sized;
      blocks = let same = length-map code.blocks net_block in let few = sized.blocks in
          omega (arith, same, few);
      even = All-map (λ (k : NetBlock). k.layers % 2 ≡ 0) net_block code.blocks
          (λ k d lt. let b = get_or code.blocks k d in even_layers (length b.code));
      strands = net_strands_in_order code is.live tied is.least;
      runs = net_ends_before code is.live tied is.least;
      one_end = one_end code is.live is.is_live valid sized tied is.least;
      two_variables = All-weaker (IsPair code is.live is.is_live valid sized tied is.least)
          (λ (m : MemPair). (strand_at n m.left).var.0 ≢ (strand_at n m.right).var.0)
          (λ m pair same. pair.apart (sym pair.left_strand.var ∙ same ∙ pair.right_strand.var))
          n.pairs (all_pairs code is.live is.is_live valid sized tied is.least);
      ties = block_ties code is.live is.least is.are_least;
      groups = grouped_strands code is.live is.least is.are_least is.is_live;
      exits = exits code is.live is.least;
      entries = entries code is.live is.least;
    })
