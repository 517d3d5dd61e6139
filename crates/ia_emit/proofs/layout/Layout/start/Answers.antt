use Rattle.std.proofs.Common.{rules}
use Rattle.ia_emit.proofs.Blocks.{start_of}
use Rattle.ia_emit.proofs.layout.Layout.start.Goals as goal

pub returns : goal.returns
returns c =
    let l = c.args.self.now in
    start_of l.proc.now l.first.now l.at c.args.block.0 c.unwrap_or.result l.count c.place.result
    l.blocks l.counted (search rules) c.place.ensures
