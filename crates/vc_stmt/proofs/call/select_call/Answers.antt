use Rattle.vc_build.proofs.Open.{hands_on}
use Rattle.vc_stmt.proofs.Amounting.{call_adds}
use Rattle.vc_stmt.proofs.Pushing.{pushes_open}
use Rattle.vc_stmt.proofs.ReadyCalls.{call_as, call_ready, call_text, call_hands}
use Rattle.vc_stmt.proofs.Walking.{call_done}
use Rattle.vc_stmt.proofs.call.select_call.Goals as goal

pub returns-clause-does : goal.returns-clause-does
returns-clause-does c = call_done c.args.setting.now _ _ _ _ _ c.args.callee _ _ c.args.args.now
    c.in_ok-values.ensures.passes c.as_slice.ensures.value c.in_ok-put_call.ensures.made

pub returns-clause-is_open : goal.returns-clause-is_open
returns-clause-is_open c =
    (call_done c.args.setting.now _ _ _ _ _ c.args.callee _ _ c.args.args.now
    c.in_ok-values.ensures.passes c.as_slice.ensures.value
    c.in_ok-put_call.ensures.made).extends.is_open

pub returns-clause-vars : goal.returns-clause-vars
returns-clause-vars c =
    (call_done c.args.setting.now _ _ _ _ _ c.args.callee _ _ c.args.args.now
    c.in_ok-values.ensures.passes c.as_slice.ensures.value
    c.in_ok-put_call.ensures.made).extends.grows.grows.vars

pub returns-clause-counts : goal.returns-clause-counts
returns-clause-counts c =
    call_adds _ c.args.callee c.in_ok-values.values.items c.args.args.now _ _ _
    c.in_ok-values.ensures.is_open
    (pushes_open _ c.in_ok-values.values.items _ c.in_ok-values.ensures.is_open)
    c.in_ok-values.ensures.many
    (call_as _ c.args.callee _ _ _ _ c.as_slice.ensures.value c.in_ok-put_call.ensures.made)
    c.in_ok-values.ensures.counts

pub returns-clause-ready : goal.returns-clause-ready
returns-clause-ready c =
    call_ready c.args.setting.now _ _ _ _ _ c.args.callee c.in_ok-values.values.items
    c.args.args.now c.requires.homes c.in_ok-values.ensures.passes.extends
    c.in_ok-values.ensures.counts.params c.in_ok-values.ensures.ready
    c.in_ok-values.ensures.many
    (call_as _ c.args.callee _ _ _ _ c.as_slice.ensures.value c.in_ok-put_call.ensures.made) _

pub returns-clause-hands_on : goal.returns-clause-hands_on
returns-clause-hands_on c =
    hands_on _ _ _ _ _ _ c.in_ok-values.ensures.hands_on
    (call_hands _ c.args.callee c.in_ok-values.values.items _ _ c.in_ok-values.ensures.is_open
    (call_as _ c.args.callee _ _ _ _ c.as_slice.ensures.value c.in_ok-put_call.ensures.made))

pub returns-clause-text : goal.returns-clause-text
returns-clause-text c =
    call_text _ c.args.callee c.in_ok-values.values.items _ _ c.in_ok-values.ensures.is_open
    (call_as _ c.args.callee _ _ _ _ c.as_slice.ensures.value c.in_ok-put_call.ensures.made) _ _
    _ _ _ c.in_ok-values.ensures.text
