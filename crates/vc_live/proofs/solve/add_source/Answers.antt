use Rattle.vc_live.proofs.Sources.{source_added}
use Rattle.vc_live.proofs.solve.add_source.Goals as goal

pub returns : goal.returns
returns c = source_added c.args.sources.now.items c.args.target.0 c.args.block
    c.index_mut.result.now c.push.new.self c.requires c.index_mut.ensures.value
    c.in_ok-push.ensures.ok
