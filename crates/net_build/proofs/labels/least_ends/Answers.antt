use Rattle.std.proofs.Common.{ℕ, ◌∙◌, List, length, get_or, sym, ap, subst, arith}
use Rattle.std.proofs.lemmas.List.FromFn.{length-range_with_len}
use Rattle.net_build.specs.Labels.{parent, IsBelow}
use Rattle.net_build.proofs.Joining.{own_parent, none_united, found}
use Rattle.net_build.proofs.labels.least_ends.Goals as goal

pub unite-requires-clause-few : goal.unite-requires-clause-few
unite-requires-clause-few c =
    let count = ap length c.in_ok-parents.ensures ∙ length-range_with_len 0 c.args.ends in
    omega (arith, count, c.ranges.ends.fits)

pub unite-requires-clause-down : goal.unite-requires-clause-down
unite-requires-clause-down c = λ e.
    let own = ap (λ (ps : List ℕ). parent ps e) c.in_ok-parents.ensures
    ∙ own_parent c.args.ends e in omega (arith, own)

pub unite-requires-clause-ties : goal.unite-requires-clause-ties
unite-requires-clause-ties c = λ k d lt.
    subst (λ (n : ℕ). IsBelow n (get_or c.args.ties.now k d))
    (sym (ap length c.in_ok-parents.ensures ∙ length-range_with_len 0 c.args.ends))
    (c.requires k d lt)

pub unite-requires-clause-alone : goal.unite-requires-clause-alone
unite-requires-clause-alone c = none_united c.args.ties.now c.in_ok-parents.parents (λ e.
    ap (λ (ps : List ℕ). parent ps e) c.in_ok-parents.ensures ∙ own_parent c.args.ends e)

pub flatten-requires-clause-few : goal.flatten-requires-clause-few
flatten-requires-clause-few c =
    let count = ap length c.in_ok-parents.ensures ∙ length-range_with_len 0 c.args.ends in
    omega (arith, count, c.ranges.ends.fits, c.unite.ensures.count)

pub returns-clause-count : goal.returns-clause-count
returns-clause-count c =
    c.flatten.ensures.count ∙ c.unite.ensures.count ∙ ap length c.in_ok-parents.ensures
    ∙ length-range_with_len 0 c.args.ends

pub returns-clause-least : goal.returns-clause-least
returns-clause-least c =
    found c.args.ties.now c.unite.new.parents c.flatten.new.parents c.unite.ensures.united
    (c.flatten.ensures.labels c.unite.ensures.united.label c.unite.ensures.united.labels)
