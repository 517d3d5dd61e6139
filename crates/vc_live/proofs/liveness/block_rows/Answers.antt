use Rattle.std.proofs.Common.{◌<◌, ◌/◌, subst, sym}
use Rattle.vc_live.proofs.RowLemmas.{rows_of}
use Rattle.vc_live.proofs.liveness.block_rows.Goals as goal

pub confine-requires-clause-code : goal.confine-requires-clause-code
confine-requires-clause-code c = λ k i at v named. subst (λ n. v / 64 < n)
    (sym c.in_ok-rows.ensures.words) (c.requires.code k i at v named)

pub returns-clause-rows : goal.returns-clause-rows
returns-clause-rows c = rw c.from_vec.ensures
    (rows_of _ c.args.block.now.code _ c.in_ok-rows.rows.items c.confine.new.rows.items
    c.in_ok-rows.ensures.rows c.confine.ensures.confined)
