use Rattle.std.proofs.Common.{◌∙◌, ◌≤◌, List, length, get_or, take, ◌++◌, ◌∷◌, [], pos, ap, sym}
use Rattle.std.proofs.Common.{arith}
use Rattle.std.proofs.lemmas.List.{take_all}
use Rattle.net_kept.specs.declared.prices.NumberAt.{NumberAt}
use Rattle.net_kept.specs.Numbers.{joined}
use Rattle.net_kept.proofs.JoinedNumbers.{joined_more, length_joined}
use Rattle.net_kept.proofs.prices.together.Goals as goal

pub loop-at-preserved : goal.loop-at-preserved
loop-at-preserved c =
    let is = c.args.indexes.now in
    let zs = c.args.numbers.now in
    let k = c.loop-at.at in
    c.in_ok-push.ensures.items
    ∙ ap (λ (e : NumberAt). c.loop-at.entries.items ++ e ∷ []) c.entry_at.ensures
    ∙ ap (λ (es : List NumberAt). es ++ record {
      index = get_or is k 0;
      number = get_or zs k (pos 0);
    } ∷ []) c.loop-at.invariant
    ∙ sym (joined_more is zs k c.requires c.loop-at-test.true)

pub returns : goal.returns
returns c =
    let is = c.args.indexes.now in
    let zs = c.args.numbers.now in
    let many = length_joined is zs c.requires in
    let end : length (joined is zs) ≤ c.loop-at.at = omega (arith, many) in
    c.loop-at.invariant ∙ take_all c.loop-at.at (joined is zs) end
