use Rattle.std.proofs.Common.{ℕ, ◌≡◌, ◌*◌, ◌<◌, ◌∙◌, List, length, map, All, count_by, subst, sym}
use Rattle.std.proofs.Common.{ap, arith}
use Rattle.std.specs.List.{range_with_len, enumerate_from}
use Rattle.net_form.specs.declared.net.Strand.{Strand}
use Rattle.net_form.specs.declared.net.NetBlock.{NetBlock}
use Rattle.net_form.specs.declared.net.Tie.{Tie}
use Rattle.net_form.specs.Formed.{IsStrandOf}
use Rattle.net_form.specs.Groups.{IsLeastEnd, entry_end, exit_end, leads}
use Rattle.net_form.specs.Index.{index_of}
use Rattle.net_form.specs.Network.{net_block, extras, pairs, ties, grouped}
use Rattle.net_form.specs.Rooms.{layer_total}
use Rattle.net_form.specs.Strands.{strands}
use Rattle.net_form.specs.Tables.{all_tables}
use Rattle.net_form.proofs.NetworkFormed.{few_strands, strands_are_formed}
use Rattle.vc_live.specs.Rows.{live_at}
use Rattle.pra_base.specs.declared.code.VProc.{VProc}
use Rattle.net_form.specs.Strands.{Lives}
use Rattle.net_build.specs.declared.lists.Lists.{Lists}
use Rattle.net_build.specs.declared.groups.Groups.{Groups}
use Rattle.net_build.specs.Lists.{AreLists}
use Rattle.net_build.specs.Grouped.{AreGroups, AreGroupNumbers, grouped_in}
use Rattle.net_build.specs.Labels.{parent, IsBelow}
use Rattle.net_build.specs.Owners.{ArePairs}
use Rattle.net_build.proofs.Indexing.{with_groups, as_many, still_of, still_pairs}
use Rattle.net_build.proofs.LiveAt.{is_live}
use Rattle.net_build.proofs.PairsInOrder.{are_pairs}
use Rattle.net_build.proofs.Whole.{same_leads, same_group, ties_below, few_layers}
use Rattle.net_build.proofs.network.build.Goals as goal

-- the strands with their groups
found_are : (code : VProc) (live : Lives) (l : Lists) (g : Groups) (ends : ℕ) (made : List Strand) →
    AreLists code live l → AreGroups l.ties ends g → AreGroupNumbers g
    → made ≡ map (grouped_in g) (enumerate_from 0 l.strands)
    → made ≡ with_groups (ties code (strands all_tables code live)) (parent g.least)
    (strands all_tables code live)
found_are code live l g ends made are groups_are numbered is =
    let group = same_group l.ties ends g groups_are numbered in
    let sp = are.strands_are in
    is
    ∙ (λ i. map (λ (s : ℕ × Strand). record s.1
    { entry_group = group (entry_end s.0) i; exit_group = group (exit_end s.0) i })
    (enumerate_from 0 (sp i)))
    ∙ ap (λ (t : List Tie). map (grouped t (parent g.least))
    (enumerate_from 0 (strands all_tables code live))) (are.ties_are ∙ ap (ties code) sp)

pub index_of-requires : goal.index_of-requires
index_of-requires c =
    let l = c.in_ok-lists.lists in
    let are = c.in_ok-lists.ensures in
    let code = c.args.code.now in
    let live = live_at c.args.live.now in
    let g = c.in_ok-groups.groups in
    let ss = strands all_tables code live in
    let ts = ties code ss in
    let made = c.grouped.result in
    let found = found_are code live l g (2 * c.len.result) made are c.in_ok-groups.ensures.groups
    c.in_ok-groups.ensures.numbered c.grouped.ensures in
    let few = few_strands all_tables code live c.requires.sized in
    let same = ap length found ∙ as_many ts (parent g.least) ss in
    let formed = still_of ts (parent g.least) ss (map net_block code.blocks)
    (strands_are_formed all_tables code live) in
    let pp : l.pairs ≡ pairs all_tables code ss = are.pairs_are
    ∙ ap (pairs all_tables code) are.strands_are in
    record {
      few = omega (arith, few, same);
      layers = subst (λ (bs : List NetBlock). layer_total bs < 4294967296) (sym are.blocks_are)
          (few_layers code c.requires.sized);
      strands = subst (λ (bs : List NetBlock). All (IsStrandOf bs) made) (sym are.blocks_are)
          (subst (All (IsStrandOf (map net_block code.blocks))) (sym found) formed);
      pairs = subst (λ (s : List Strand). ArePairs s l.pairs) (sym found)
          (still_pairs ts (parent g.least) ss l.pairs
          (subst (ArePairs ss) (sym pp) (are_pairs all_tables code ss)));
    }

pub groups_of-requires : goal.groups_of-requires
groups_of-requires c =
    let l = c.in_ok-lists.lists in
    let are = c.in_ok-lists.ensures in
    let code = c.args.code.now in
    let few = few_strands all_tables code (live_at c.args.live.now) c.requires.sized in
    let same = ap length are.strands_are in
    let count = c.len.ensures in
    record {
      few = omega (arith, few, same, count);
      ties = subst (λ (n : ℕ). All (IsBelow (2 * n)) l.ties) (sym count)
          (subst (All (IsBelow (2 * length l.strands))) (sym are.ties_are)
          (ties_below code l.strands));
    }

pub returns : goal.returns
returns c =
    let l = c.in_ok-lists.lists in
    let are = c.in_ok-lists.ensures in
    let code = c.args.code.now in
    let live = live_at c.args.live.now in
    let g = c.in_ok-groups.groups in
    let groups_are = c.in_ok-groups.ensures.groups in
    let ends = 2 * c.len.result in
    let least = parent g.least in
    let ss = strands all_tables code live in
    let ts = ties code ss in
    let sp : l.strands ≡ ss = are.strands_are in
    let tp : l.ties ≡ ts = are.ties_are ∙ ap (ties code) sp in
    let ep : l.extras ≡ extras all_tables code ss = are.extras_are
    ∙ ap (extras all_tables code) sp in
    let pp : l.pairs ≡ pairs all_tables code ss = are.pairs_are ∙ ap (pairs all_tables code) sp in
    let found = found_are code live l g ends c.grouped.result are groups_are
    c.in_ok-groups.ensures.numbered c.grouped.ensures in
    let count : length g.least ≡ 2 * length ss = groups_are.count ∙ ap (λ (n : ℕ). 2 * n)
    (c.len.ensures ∙ ap length sp) in
    let number = c.count-count.ensures
    ∙ (λ i. count_by (same_leads l.ties ends g groups_are i) (range_with_len 0 (count i)))
    ∙ ap (λ (t : List Tie). count_by (leads t least) (range_with_len 0 (2 * length ss))) tp in
    let index = c.in_ok-index.ensures
    ∙ (λ i. index_of (are.blocks_are i) (found i) (ep i) (pp i) (tp i) (number i)) in
    record {
      live = live;
      is_live = is_live code c.args.live.now c.requires.live;
      least = least;
      are_least = λ e. subst (λ (t : List Tie). IsLeastEnd t e (least e)) tp (groups_are.least e);
      is = λ i. record {
        near = are.near_is i;
        blocks = are.blocks_are i;
        strands = found i;
        extras = ep i;
        pairs = pp i;
        ties = tp i;
        groups = number i;
        index = index i;
      };
    }
