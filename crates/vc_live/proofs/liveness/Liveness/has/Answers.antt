use Rattle.std.proofs.Common.{[], ◌∙◌, arith}
use Rattle.std.proofs.lemmas.List.{get_or_default}
use Rattle.vc_live.proofs.RowLemmas.{no_block_at, no_point_at}
use Rattle.vc_live.proofs.liveness.Liveness.has.Goals as goal

pub returns-then-block-len : goal.returns-then-block-len
returns-then-block-len c = no_block_at c.args.self.now.blocks c.args.block c.args.point c.args.v
    (omega arith)

pub returns-then-point-len : goal.returns-then-point-len
returns-then-point-len c = no_point_at c.args.self.now.blocks c.index-rows.result.now c.args.block
    c.args.point c.args.v (c.index-rows.ensures ∙ get_or_default c.args.self.now.blocks c.args.block
    _ [] (omega arith)) (omega arith)
