-- The frames so far, and those that are left, are all.
use Rattle.std.proofs.Common.{◌≡◌, ◌++◌, drop}
use Rattle.pra_compile.specs.Compiled.{frames_of}
use Rattle.pra_tool.proofs.report.frames_of.Given as goal

abbrev pub invariant-loop-proc : goal.invariant-loop-proc
invariant-loop-proc l =
    l.frames.items ++ frames_of (drop l.proc-index l.procs) ≡ frames_of l.procs
