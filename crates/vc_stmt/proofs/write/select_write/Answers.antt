use Rattle.vc_build.proofs.Open.{hands_on, hands_put}
use Rattle.vc_select.proofs.Nodes.{some_nodes}
use Rattle.vc_stmt.proofs.Amounting.{write_adds}
use Rattle.vc_stmt.proofs.Endings.{write_done}
use Rattle.vc_stmt.proofs.ReadyStores.{one_put, write_ready, put_at}
use Rattle.vc_stmt.proofs.TextOrder.{text_put}
use Rattle.vc_stmt.proofs.write.select_write.Goals as goal

pub returns-clause-does : goal.returns-clause-does
returns-clause-does c = write_done c.args.setting.now _ _ _ _ _ _ c.args.e.now
    c.in_ok-v.ensures.selects c.in_ok-put.ensures

pub returns-clause-counts : goal.returns-clause-counts
returns-clause-counts c = write_adds _ _ _ _ (some_nodes c.args.e.now) c.in_ok-v.ensures.counts
    (one_put _ _ _ _ c.in_ok-v.ensures.is_open c.in_ok-put.ensures)

pub returns-clause-ready : goal.returns-clause-ready
returns-clause-ready c =
    write_ready c.args.setting.now _ _ _ _ _ c.requires.homes c.in_ok-v.ensures.selects.extends
    (put_at _ _ _ _ c.in_ok-v.ensures.is_open c.in_ok-put.ensures)
    c.in_ok-v.ensures.counts.params
    (one_put _ _ _ _ c.in_ok-v.ensures.is_open c.in_ok-put.ensures).params _
    _ c.in_ok-v.ensures.ready c.in_ok-v.ensures.named c.in_ok-put.ensures

pub returns-clause-hands_on : goal.returns-clause-hands_on
returns-clause-hands_on c = hands_on _ _ _ _ _ _ c.in_ok-v.ensures.hands_on
    (hands_put _ _ _ _ c.in_ok-v.ensures.is_open c.in_ok-put.ensures)

pub returns-clause-text : goal.returns-clause-text
returns-clause-text c = text_put _ _ _ _ _ _ _ _ _ c.in_ok-v.ensures.text c.in_ok-v.ensures.is_open
    c.in_ok-put.ensures
