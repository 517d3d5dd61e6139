use Rattle.std.proofs.Common.{arith}
use Rattle.vc_build.proofs.Open.{hands_on}
use Rattle.vc_select.proofs.Opens.{hands_after}
use Rattle.vc_select.proofs.Nodes.{some_nodes}
use Rattle.vc_stmt.proofs.Amounting.{some_variable, assign_adds}
use Rattle.vc_stmt.proofs.Assigning.{does_assign}
use Rattle.vc_stmt.proofs.ReadyStores.{assign_ready}
use Rattle.vc_select.proofs.InText.{text_on, text_after}
use Rattle.vc_stmt.proofs.store.select_assignment.Goals as goal

pub returns-clause-does : goal.returns-clause-does
returns-clause-does c =
    does_assign c.args.setting.now _ _ _ _ _ _ _ _ _ c.args.v.now c.args.e.now
    c.in_ok-target.ensures.locates c.in_ok-target.ensures.named c.in_ok-value.ensures.selects
    c.in_ok-store.ensures.stores

pub returns-clause-counts : goal.returns-clause-counts
returns-clause-counts c = assign_adds _ _ _ _ _ _ (some_variable c.args.v.now)
    (some_nodes c.args.e.now) c.in_ok-target.ensures.counts c.in_ok-value.ensures.counts
    c.in_ok-store.ensures.counts

pub returns-clause-ready : goal.returns-clause-ready
returns-clause-ready c =
    assign_ready c.args.setting.now _ _ _ _ _ _ _ c.requires.homes
    c.in_ok-target.ensures.locates.extends c.in_ok-value.ensures.selects.extends
    c.in_ok-store.ensures.stores.grows c.in_ok-target.ensures.counts.params
    c.in_ok-value.ensures.counts.params c.in_ok-store.ensures.counts.params
    _ c.in_ok-target.ensures.ready c.in_ok-target.ensures.cells c.in_ok-target.ensures.named _
    c.in_ok-value.ensures.ready c.in_ok-store.ensures.ready _

pub returns-clause-hands_on : goal.returns-clause-hands_on
returns-clause-hands_on c =
    hands_after _ _ _ _ _ (hands_on _ _ _ _ _ _ c.in_ok-target.ensures.hands_on
    c.in_ok-value.ensures.hands_on) c.in_ok-store.ensures.stores.grows
    (omega (arith, c.in_ok-store.ensures.counts.blocks)) c.in_ok-value.ensures.is_open
    c.in_ok-store.ensures.is_open

pub returns-clause-text : goal.returns-clause-text
returns-clause-text c =
    text_after _ _ _ _ _ _ _ _
    (text_on _ _ _ _ _ _ _ _ _ _ _ c.in_ok-target.ensures.text c.in_ok-value.ensures.text)
    c.in_ok-store.ensures.stores.grows (omega (arith, c.in_ok-store.ensures.counts.blocks))
    c.in_ok-value.ensures.is_open
