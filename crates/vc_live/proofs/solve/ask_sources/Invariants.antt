use Rattle.std.proofs.Common.{[], length, get_or}
use Rattle.vc_live.specs.Sets.{contains}
use Rattle.vc_live.proofs.Spreads.{AskedTo}
use Rattle.vc_live.proofs.solve.ask_sources.Given as goal

abbrev pub invariant-loop-source : goal.invariant-loop-source
invariant-loop-source l = AskedTo l.code (length l.flow.constants) (contains l.flow.constants)
    l.flow.stops l.word l.initial.entries.items l.entries.items l.block
    (get_or l.flow.sources l.block []) l.initial.left.items l.left.items l.source-index
