use Rattle.std.proofs.Common.{arith}
use Rattle.vc_select.proofs.Opens.{hands_after}
use Rattle.vc_stmt.proofs.Amounting.{some_variable, read_adds}
use Rattle.vc_stmt.proofs.Reading.{does_read}
use Rattle.vc_stmt.proofs.ReadyStores.{read_ready}
use Rattle.vc_select.proofs.InText.{text_after}
use Rattle.vc_stmt.proofs.store.select_read.Goals as goal

pub returns-clause-does : goal.returns-clause-does
returns-clause-does c = does_read c.args.setting.now _ _ _ _ _ _ c.args.v.now
    c.in_ok-target.ensures.locates c.in_ok-read.ensures.reads

pub returns-clause-counts : goal.returns-clause-counts
returns-clause-counts c = read_adds _ _ _ _ (some_variable c.args.v.now)
    c.in_ok-target.ensures.counts c.in_ok-read.ensures.counts

pub returns-clause-ready : goal.returns-clause-ready
returns-clause-ready c =
    read_ready c.args.setting.now _ _ _ _ _ c.requires.homes c.in_ok-target.ensures.locates.extends
    c.in_ok-read.ensures.reads.grows c.in_ok-target.ensures.counts.params
    c.in_ok-read.ensures.counts.params _
    _ c.in_ok-target.ensures.ready c.in_ok-target.ensures.cells c.in_ok-target.ensures.named
    c.in_ok-read.ensures.ready

pub returns-clause-hands_on : goal.returns-clause-hands_on
returns-clause-hands_on c = hands_after _ _ _ _ _ c.in_ok-target.ensures.hands_on
    c.in_ok-read.ensures.reads.grows (omega (arith, c.in_ok-read.ensures.counts.blocks))
    c.in_ok-target.ensures.is_open c.in_ok-read.ensures.is_open

pub returns-clause-text : goal.returns-clause-text
returns-clause-text c = text_after _ _ _ _ _ _ _ _ c.in_ok-target.ensures.text
    c.in_ok-read.ensures.reads.grows (omega (arith, c.in_ok-read.ensures.counts.blocks))
    c.in_ok-target.ensures.is_open
