use Rattle.std.proofs.Common.{◌≡◌, ◌<◌, ◌∙◌, length, set, max, min, sym, subst, arith}
use Rattle.net_build.specs.Labels.{AreLabels, merged}
use Rattle.net_build.proofs.Joining.{merged_labels, greater_own, lesser_own}
use Rattle.net_build.proofs.labels.join.Goals as goal

pub returns-clause-labels : goal.returns-clause-labels
returns-clause-labels c = λ label is.
    let one = c.root-a.ensures.labels label is in
    let two = c.root-b.ensures.labels label one.0 in
    let a = label c.args.one in
    let b = label c.args.other in
    let ps = c.root-b.new.parents in
    let high : c.max.result ≡ max a b = c.max.ensures ∙ (λ i. max (one.1 i) (two.1 i)) in
    let low : c.min.result ≡ min a b = c.min.ensures ∙ (λ i. min (one.1 i) (two.1 i)) in
    let own_a = is.once c.args.one in
    let own_b = is.once c.args.other in
    let one_is = one.1 in
    let two_is = two.1 in
    let within : max a b < length ps = omega (arith, one_is, two_is) in
    subst (λ s. AreLabels s (merged (min a b) (max a b) label))
    (sym (c.set.ensures ∙ (λ i. set ps (high i) (low i))))
    (merged_labels ps (max a b) (min a b) within label two.0 (omega arith)
    (greater_own label a b own_a own_b) (lesser_own label a b own_a own_b))
