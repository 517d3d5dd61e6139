use Rattle.std.proofs.Common.{◌∙◌, ◌∷◌, ◌++◌, [], ℕ, List, sym, ap}
use Rattle.pra_list.proofs.Growing.{range_next}
use Rattle.net_build.proofs.labels.alone.Goals as goal

pub loop-end-preserved : goal.loop-end-preserved
loop-end-preserved c =
    c.in_ok-push.ensures.ok ∙ ap (λ (r : List ℕ). r ++ c.loop-end.end ∷ []) c.loop-end.invariant
    ∙ sym (range_next c.loop-end.end)
