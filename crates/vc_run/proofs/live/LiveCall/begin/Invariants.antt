use Rattle.std.proofs.Common.{◌≡◌, map, take}
use Rattle.vc_code.specs.Selected.{argument}
use Rattle.vc_run.proofs.live.LiveCall.begin.Given as goal

-- the variables before this one have what they begin with
abbrev pub invariant-loop-kind : goal.invariant-loop-kind
invariant-loop-kind l = l.held.items ≡ map (argument l.arguments.items)
    (take l.kind-index l.kind-items)
