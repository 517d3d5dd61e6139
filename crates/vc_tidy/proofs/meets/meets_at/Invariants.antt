use Rattle.std.proofs.Common.{◌≡◌, false, take, All}
use Rattle.vc_tidy.specs.Joined.{is_met}
use Rattle.vc_tidy.proofs.meets.meets_at.Given as goal

abbrev pub invariant-loop-w : goal.invariant-loop-w
invariant-loop-w l = All
    (λ w. is_met l.liveness l.instr l.row l.fn.place.block l.fn.place.index l.v w ≡ false)
    (take l.w-index l.others)
