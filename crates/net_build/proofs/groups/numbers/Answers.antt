use Rattle.std.proofs.Common.{ℕ, ◌≡◌, ◌+◌, ◌∷◌, ◌++◌, [], ◌∙◌, length, map, sym, ap, arith}
use Rattle.std.specs.Prelude.{count_by}
use Rattle.std.specs.List.{range_with_len}
use Rattle.net_build.specs.Grouped.{leading}
use Rattle.net_build.proofs.Ranges.{map_more, counted_more, counted_few}
use Rattle.net_build.proofs.groups.numbers.Goals as goal

pub overflow_add-found : goal.overflow_add-found
overflow_add-found c =
    let p = leading c.args.tied.now c.args.least.now in
    let end = c.loop-end.end in
    let found = c.loop-end.invariant.found in
    let one = c.leading.ensures in
    let more = counted_more p end in
    let few = counted_few p (end + 1) in
    omega (arith, found, one, more, few)

pub loop-end-preserved : goal.loop-end-preserved
loop-end-preserved c =
    let p = leading c.args.tied.now c.args.least.now in
    let end = c.loop-end.end in
    let found = c.loop-end.invariant.found in
    let one = c.leading.ensures in
    let more = counted_more p end in
    record {
      made = c.in_ok-push.ensures.ok ∙ (λ i. c.loop-end.invariant.made i ++ found i ∷ [])
          ∙ sym (map_more (λ e. count_by p (range_with_len 0 e)) end);
      found = omega (arith, found, one, more);
    }

pub returns : goal.returns
returns c =
    let p = leading c.args.tied.now c.args.least.now in
    let end = c.loop-end.end in
    let all : end ≡ length c.args.least.now =
    omega (
      arith,
      c.loop-end-test.false,
      c.loop-end.auto.end-end,
      c.len-end-end.ensures,
      c.requires.few,
    ) in
    c.in_ok-push-2.ensures.ok
    ∙ (λ i. c.loop-end.invariant.made i ++ c.loop-end.invariant.found i ∷ [])
    ∙ sym (map_more (λ e. count_by p (range_with_len 0 e)) end)
    ∙ ap (λ (n : ℕ). map (λ e. count_by p (range_with_len 0 e)) (range_with_len 0 (n + 1))) all
