use Rattle.std.proofs.Common.{◌≡◌, ◌<◌, ◌∙◌, ℕ, length, get_or, max, min, ap, subst, arith}
use Rattle.std.proofs.lemmas.List.{get_or_default}
use Rattle.net_form.specs.declared.net.Tie.{Tie}
use Rattle.net_form.specs.Groups.{entry_end, exit_end}
use Rattle.net_build.specs.Labels.{AreLabels, merged}
use Rattle.net_build.proofs.Joining.{united_more}
use Rattle.net_build.proofs.labels.unite.Goals as goal

pub loop-tie-preserved : goal.loop-tie-preserved
loop-tie-preserved c =
    let ties = c.args.ties.now in
    let no_tie : Tie = record { from = 0; to = 0 } in
    let i = c.loop-tie.tie-index in
    let t = get_or ties i no_tie in
    let same = c.as_slice-tie-items.ensures in
    let lt : i < length ties = let test = c.loop-tie-test.true in let count = ap length same in
    omega (arith, test, count) in
    let u = c.loop-tie.invariant.united in
    let label = u.label in
    let read = ap (λ ts. get_or ts i no_tie) same in
    let one : c.exit_end.result ≡ exit_end t.from = c.exit_end.ensures
    ∙ ap (λ (x : Tie). exit_end x.from) read in
    let other : c.entry_end.result ≡ entry_end t.to = c.entry_end.ensures
    ∙ ap (λ (x : Tie). entry_end x.to) read in
    let labels : AreLabels c.join.new.parents
    (merged (min (label (exit_end t.from)) (label (entry_end t.to)))
    (max (label (exit_end t.from)) (label (entry_end t.to))) label) =
    subst (λ (e : ℕ). AreLabels c.join.new.parents
    (merged (min (label e) (label (entry_end t.to))) (max (label e) (label (entry_end t.to)))
    label)) one
    (subst (λ (f : ℕ). AreLabels c.join.new.parents
    (merged (min (label c.exit_end.result) (label f)) (max (label c.exit_end.result) (label f))
    label)) other
    (c.join.ensures.labels label u.labels)) in
    record {
      count = c.join.ensures.count ∙ c.loop-tie.invariant.count;
      down = c.join.ensures.down;
      united = united_more ties i c.loop-tie.parents c.join.new.parents t lt
          (get_or_default ties i t no_tie lt) u labels;
    }
