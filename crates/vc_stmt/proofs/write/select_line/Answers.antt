use Rattle.vc_build.proofs.Open.{hands_put}
use Rattle.vc_stmt.proofs.Amounting.{line_adds}
use Rattle.vc_stmt.proofs.Endings.{line_done}
use Rattle.vc_stmt.proofs.ReadyStores.{one_put, line_ready}
use Rattle.vc_select.proofs.InText.{text_none}
use Rattle.vc_stmt.proofs.TextOrder.{text_put}
use Rattle.vc_stmt.proofs.write.select_line.Goals as goal

pub returns-clause-does : goal.returns-clause-does
returns-clause-does c = line_done c.args.setting.now _ _ _ c.requires.is_open c.in_ok-put.ensures

pub returns-clause-counts : goal.returns-clause-counts
returns-clause-counts c = line_adds _ _ (one_put _ _ _ _ c.requires.is_open c.in_ok-put.ensures)

pub returns-clause-ready : goal.returns-clause-ready
returns-clause-ready c = line_ready c.args.setting.now _ _ _ _ c.requires.is_open
    c.in_ok-put.ensures

pub returns-clause-hands_on : goal.returns-clause-hands_on
returns-clause-hands_on c = hands_put _ _ _ _ c.requires.is_open c.in_ok-put.ensures

pub returns-clause-text : goal.returns-clause-text
returns-clause-text c = text_put _ _ _ _ _ _ _ _ _ (text_none _ _ _ c.requires.is_open)
    c.requires.is_open c.in_ok-put.ensures
