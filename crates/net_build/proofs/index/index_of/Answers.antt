use Rattle.std.proofs.Common.{ℕ, ◌<◌, ◌∙◌, length, map, ap}
use Rattle.net_form.specs.declared.net.Extra.{Extra}
use Rattle.net_form.specs.declared.net.Tie.{Tie}
use Rattle.net_form.specs.Admitted.{no_strand}
use Rattle.net_form.specs.Index.{beginnings}
use Rattle.net_build.specs.Owners.{owner_of, by_owner, end_owners, pair_end}
use Rattle.net_build.proofs.Indexing.{beginnings_of, arrivals_are, end_list, end_beginnings}
use Rattle.net_build.proofs.index.index_of.Goals as goal

pub returns : goal.returns
returns c =
    let l = c.args.lists.now in
    let n = length l.strands in
    let count = c.len-strands.ensures in
    let masks = λ (k : ℕ) (lt : k < n). (c.requires.strands k no_strand lt).masks in
    let order = λ (k : ℕ). by_owner (end_owners l.pairs) k in
    let extras = c.in_ok-extras.ensures
    ∙ (λ i. beginnings (λ o. o) (c.in_ok-owners.ensures i) (count i))
    ∙ beginnings_of (λ (x : Extra). x.strand) l.extras n in
    let pairs = c.in_ok-ends.ensures.first
    ∙ ap (λ (k : ℕ). beginnings (λ o. o) (map (owner_of (end_owners l.pairs)) (order k)) k) count
    ∙ end_beginnings l.strands l.pairs c.requires.pairs masks in
    let ends = c.in_ok-ends.ensures.ends ∙ ap (λ (k : ℕ). map (pair_end l.pairs) (order k)) count
    ∙ end_list l.strands l.pairs c.requires.pairs masks in
    let exits = c.in_ok-exits.ensures
    ∙ (λ i. beginnings (λ o. o) (c.in_ok-sources.ensures i) (count i))
    ∙ beginnings_of (λ (t : Tie). t.from) l.ties n in
    let entries = c.in_ok-entries.ensures
    ∙ (λ i. beginnings (λ o. o) (c.in_ok-targets.ensures i) (count i))
    ∙ beginnings_of (λ (t : Tie). t.to) l.ties n in
    let arrivals = c.in_ok-arrivals.ensures ∙ (λ i. by_owner (c.in_ok-targets.ensures i) (count i))
    ∙ arrivals_are l.ties n in
    (λ i. record {
      layers = c.in_ok-layers.ensures i;
      strands = c.in_ok-places.ensures.blocks i;
      vars = c.in_ok-places.ensures.vars i;
      of_vars = c.in_ok-places.ensures.of_vars i;
      extras = extras i;
      pairs = pairs i;
      ends = ends i;
      exits = exits i;
      entries = entries i;
      arrivals = arrivals i;
      groups = c.in_ok-members.ensures.first i;
      members = c.in_ok-members.ensures.ends i;
    })
