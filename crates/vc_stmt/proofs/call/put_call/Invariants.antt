use Rattle.std.proofs.Common.{◌≡◌, drop}
use Rattle.vc_build.specs.Grow.{IsOpen}
use Rattle.vc_stmt.specs.Passes.{with_pushes}
use Rattle.vc_stmt.proofs.call.put_call.Given as goal

abbrev pub invariant-loop-v : goal.invariant-loop-v
invariant-loop-v l = IsOpen l.code l.at.0 ×
    (with_pushes l.at.0 (drop l.v-index l.values) l.code ≡ with_pushes l.at.0 l.values l.fn.code)
