use Rattle.std.proofs.Common.{take, All}
use Rattle.vc_tidy.specs.Joined.{MeetsAt}
use Rattle.vc_tidy.proofs.meets.meets.Given as goal

abbrev pub invariant-loop-place : goal.invariant-loop-place
invariant-loop-place l = All (λ p. All (λ w. MeetsAt l.code p.block p.index l.v w → ⊥) l.others)
    (take l.place-index l.places)
