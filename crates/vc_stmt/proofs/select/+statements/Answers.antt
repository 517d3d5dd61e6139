use Rattle.std.proofs.Common.{◌+◌, drop, refl, sym, ap, ◌∙◌, arith}
use Rattle.pra_list.proofs.Choices.{and_true}
use Rattle.ob_syntax.specs.declared.checked.RStmt.TheVariants as s
use Rattle.vc_build.proofs.Open.{hands_nothing, hands_on}
use Rattle.vc_select.proofs.Nodes.{some_nodes}
use Rattle.vc_typed.specs.Nodes.{nodes_in_stmt}
use Rattle.vc_typed.proofs.NodeEquations.{nodes-Assign, nodes-While, nodes-Repeat, nodes-Call}
use Rattle.vc_typed.proofs.NodeEquations.{nodes-Read, nodes-Write, nodes-WriteLine}
use Rattle.vc_stmt.proofs.Amounting.{jump_adds, beside_adds, open_arm_adds, open_loop_adds}
use Rattle.vc_stmt.proofs.Amounting.{statement_adds, none_adds, more_adds, while_adds, repeat_adds}
use Rattle.vc_stmt.proofs.Amounting.{arm_adds, arms_none}
use Rattle.vc_stmt.proofs.Amounting as amounting
use Rattle.vc_stmt.proofs.Entering.{loop_still_open}
use Rattle.vc_stmt.proofs.Opens.{closes_jump, hands_if, hands_arm, hands_while, hands_repeat}
use Rattle.vc_stmt.proofs.Proceeding.{keeps_as}
use Rattle.vc_stmt.proofs.ReadyIf.{arm_ready, if_ready}
use Rattle.vc_stmt.proofs.ReadyLoops.{while_ready, repeat_ready}
use Rattle.vc_stmt.proofs.Sounds.{sound_assign, sound_read, sound_write, sound_while, sound_repeat}
use Rattle.vc_stmt.proofs.Sounds.{sound_call}
use Rattle.vc_stmt.proofs.Statements.{none_ready, more_ready, no_arms_ready, more_arms_ready}
use Rattle.vc_stmt.proofs.Statements.{arm_goods, arm_nodes_are, not_empty, if_goods, if_counts}
use Rattle.vc_stmt.proofs.Statements.{else_does, else_counts, else_ready}
use Rattle.vc_stmt.proofs.Forms.{statement_assign, statement_read, statement_write, statement_line}
use Rattle.vc_stmt.proofs.Forms.{statement_while, statement_repeat, statement_call, sequence_done}
use Rattle.vc_stmt.proofs.Forms.{sequence_more, arms_done, arms_more}
use Rattle.vc_stmt.proofs.Walking.{loop_room, while_test_open, while_holds, while_fails}
use Rattle.vc_stmt.proofs.Walking.{while_waits, while_done, repeat_body_open, repeat_waits}
use Rattle.vc_stmt.proofs.Walking.{repeat_holds, repeat_fails, repeat_done, if_waits, if_apart}
use Rattle.vc_stmt.proofs.Walking.{if_real, if_done, arm_at_open, arm_holds, arm_fails, arm_waits}
use Rattle.vc_stmt.proofs.Walking.{arm_done, arm_open, arm_behind, arm_still_apart}
use Rattle.vc_stmt.specs.Arms.{take_init}
use Rattle.vc_build.specs.Text.{depth_at}
use Rattle.vc_stmt.specs.Depths.{depths_of_all, depths_of_arms, end_depths}
use Rattle.vc_stmt.proofs.Depths.{depths-Assign, depths-If, depths-While, depths-Repeat}
use Rattle.vc_stmt.proofs.Depths.{depths-Call, depths-Read, depths-Write, depths-WriteLine, if_none}
use Rattle.vc_stmt.proofs.Depths.{if_no_arms, if_both, arm_depths_are, end_depths_are, arms_last}
use Rattle.vc_stmt.proofs.Depths.{all_next, all_done, arms_next}
use Rattle.vc_stmt.proofs.Depths as depths
use Rattle.vc_stmt.proofs.LastArm.{last_holds, last_fails, last_waits, last_joins, last_adds}
use Rattle.vc_stmt.proofs.LastArm.{closes_last, hands_alone, last_ready, alone_does, alone_adds}
use Rattle.vc_stmt.proofs.LastArm.{alone_ready, alone_statement, alone_counts, alone_keeps}
use Rattle.vc_stmt.proofs.LastArm.{nothing_does, nothing_counts, nothing_ready, is_none, is_last}
use Rattle.vc_stmt.proofs.LastArm.{in_init, item_in, past_init, past_all, arms_end}
use Rattle.vc_stmt.proofs.TextOrder.{goes_as, goes_is, goes_none, goes_more, goes_at, goes_end}
use Rattle.vc_stmt.proofs.TextOrder.{enters_is, text_arm, text_last, text_if, text_alone, test_begins}
use Rattle.vc_stmt.proofs.TextOrder.{test_ends, text_while, text_repeat, turned_at}
use Rattle.vc_select.proofs.InText.{ends_begin}
use Rattle.vc_stmt.proofs.select.+statements.Goals as goal

-- ---- statements

pub select_statement-returns-in_ok-select_assignment-in-Assign-clause-does :
    goal.select_statement-returns-in_ok-select_assignment-in-Assign-clause-does
select_statement-returns-in_ok-select_assignment-in-Assign-clause-does t c =
    statement_assign c.args.setting.now _ _ _ _ c.args.t.now _ _ c.in-Assign.is
    c.in_ok-select_assignment-in-Assign.ensures.does

pub select_statement-returns-in_ok-select_read-in-Read-clause-does :
    goal.select_statement-returns-in_ok-select_read-in-Read-clause-does
select_statement-returns-in_ok-select_read-in-Read-clause-does t c =
    statement_read c.args.setting.now _ _ _ _ c.args.t.now _ c.in-Read.is
    c.in_ok-select_read-in-Read.ensures.does

pub select_statement-returns-in_ok-select_write-in-Write-clause-does :
    goal.select_statement-returns-in_ok-select_write-in-Write-clause-does
select_statement-returns-in_ok-select_write-in-Write-clause-does t c =
    statement_write c.args.setting.now _ _ _ _ c.args.t.now _ c.in-Write.is
    c.in_ok-select_write-in-Write.ensures.does

pub select_statement-returns-in_ok-select_line-in-WriteLine-clause-does :
    goal.select_statement-returns-in_ok-select_line-in-WriteLine-clause-does
select_statement-returns-in_ok-select_line-in-WriteLine-clause-does t c =
    statement_line c.args.setting.now _ _ _ _ c.args.t.now c.in-WriteLine.is
    c.in_ok-select_line-in-WriteLine.ensures.does

pub select_statement-returns-in_ok-select_while-in-While-clause-does :
    goal.select_statement-returns-in_ok-select_while-in-While-clause-does
select_statement-returns-in_ok-select_while-in-While-clause-does t c =
    statement_while c.args.setting.now _ _ _ _ c.args.t.now _ _
    (c.in-While.is ∙ ap (s.While _) (sym c.as_slice-in-While.ensures))
    c.in_ok-select_while-in-While.ensures.does

pub select_statement-returns-in_ok-select_repeat-in-Repeat-clause-does :
    goal.select_statement-returns-in_ok-select_repeat-in-Repeat-clause-does
select_statement-returns-in_ok-select_repeat-in-Repeat-clause-does t c =
    statement_repeat c.args.setting.now _ _ _ _ c.args.t.now _ _
    (c.in-Repeat.is ∙ ap (λ z. s.Repeat z c.in-Repeat.test) (sym c.as_slice-in-Repeat.ensures))
    c.in_ok-select_repeat-in-Repeat.ensures.does

pub select_statement-returns-in_ok-select_call-in-Call-clause-does :
    goal.select_statement-returns-in_ok-select_call-in-Call-clause-does
select_statement-returns-in_ok-select_call-in-Call-clause-does t c =
    statement_call c.args.setting.now _ _ _ _ c.args.t.now _ _
    (c.in-Call.is ∙ ap (s.Call c.in-Call.callee) (sym c.as_slice-in-Call.ensures))
    c.in_ok-select_call-in-Call.ensures.does

pub select_statement-confirm_waits-requires-clause-waits :
    goal.select_statement-confirm_waits-requires-clause-waits
select_statement-confirm_waits-requires-clause-waits t c =
    if_waits c.args.setting.now _ _ _ _ c.requires.is_open c.in_ok-behind-in-If.ensures.made
    c.in_ok-behind-in-If.ensures.number

pub select_statement-confirm_waits-requires-clause-apart :
    goal.select_statement-confirm_waits-requires-clause-apart
select_statement-confirm_waits-requires-clause-apart t c =
    if_apart c.args.setting.now _ _ _ _ c.requires.is_open c.in_ok-behind-in-If.ensures.made
    c.in_ok-behind-in-If.ensures.number

pub select_statement-confirm_waits-requires-clause-real :
    goal.select_statement-confirm_waits-requires-clause-real
select_statement-confirm_waits-requires-clause-real t c =
    if_real c.args.setting.now _ _ _ _ c.requires.is_open c.in_ok-behind-in-If.ensures.made
    c.in_ok-behind-in-If.ensures.number

pub select_statement-returns-in_ok-push-in-If-clause-is_open :
    goal.select_statement-returns-in_ok-push-in-If-clause-is_open
select_statement-returns-in_ok-push-in-If-clause-is_open t c =
    (if_done c.args.setting.now _ _ _ _ c.requires.is_open c.in_ok-behind-in-If.ensures.made
    c.in_ok-behind-in-If.ensures.number _ _ _ _ _ _ _ _ _ c.args.t.now c.in-If.is
    c.as_slice-in-If.ensures c.as_slice-in-If-2.ensures
    c.in_ok-select_arms-in-If.ensures.waits c.in_ok-select_arms-in-If.ensures.chooses
    c.in_ok-select_statements-in-If-2.ensures.does c.jump.ensures.made).extends.is_open

pub select_statement-returns-in_ok-push-in-If-clause-does :
    goal.select_statement-returns-in_ok-push-in-If-clause-does
select_statement-returns-in_ok-push-in-If-clause-does t c =
    if_done c.args.setting.now _ _ _ _ c.requires.is_open c.in_ok-behind-in-If.ensures.made
    c.in_ok-behind-in-If.ensures.number _ _ _ _ _ _ _ _ _ c.args.t.now c.in-If.is
    c.as_slice-in-If.ensures c.as_slice-in-If-2.ensures
    c.in_ok-select_arms-in-If.ensures.waits c.in_ok-select_arms-in-If.ensures.chooses
    c.in_ok-select_statements-in-If-2.ensures.does c.jump.ensures.made

-- ---- what statements keep

pub select_statement-returns-in_ok-select_assignment-in-Assign-clause-counts :
    goal.select_statement-returns-in_ok-select_assignment-in-Assign-clause-counts
select_statement-returns-in_ok-select_assignment-in-Assign-clause-counts t c =
    statement_adds _ _ _ _ (ap nodes_in_stmt c.in-Assign.is ∙ nodes-Assign _ _)
    c.in_ok-select_assignment-in-Assign.ensures.counts

pub select_statement-returns-in_ok-select_assignment-in-Assign-clause-ready :
    goal.select_statement-returns-in_ok-select_assignment-in-Assign-clause-ready
select_statement-returns-in_ok-select_assignment-in-Assign-clause-ready t c =
    keeps_as c.args.setting.now _ _ _ _ _ _
    (λ sound. sound_assign c.args.setting.now.program.now c.args.setting.now.id.0 c.args.t.now sound
    _ _ c.in-Assign.is) c.in_ok-select_assignment-in-Assign.ensures.ready

pub select_statement-returns-in_ok-select_read-in-Read-clause-counts :
    goal.select_statement-returns-in_ok-select_read-in-Read-clause-counts
select_statement-returns-in_ok-select_read-in-Read-clause-counts t c =
    statement_adds _ _ _ _ (ap nodes_in_stmt c.in-Read.is ∙ nodes-Read _)
    c.in_ok-select_read-in-Read.ensures.counts

pub select_statement-returns-in_ok-select_read-in-Read-clause-ready :
    goal.select_statement-returns-in_ok-select_read-in-Read-clause-ready
select_statement-returns-in_ok-select_read-in-Read-clause-ready t c =
    keeps_as c.args.setting.now _ _ _ _ _ _
    (λ sound. sound_read c.args.setting.now.program.now c.args.setting.now.id.0 c.args.t.now sound _
    c.in-Read.is) c.in_ok-select_read-in-Read.ensures.ready

pub select_statement-returns-in_ok-select_write-in-Write-clause-counts :
    goal.select_statement-returns-in_ok-select_write-in-Write-clause-counts
select_statement-returns-in_ok-select_write-in-Write-clause-counts t c =
    statement_adds _ _ _ _ (ap nodes_in_stmt c.in-Write.is ∙ nodes-Write _)
    c.in_ok-select_write-in-Write.ensures.counts

pub select_statement-returns-in_ok-select_write-in-Write-clause-ready :
    goal.select_statement-returns-in_ok-select_write-in-Write-clause-ready
select_statement-returns-in_ok-select_write-in-Write-clause-ready t c =
    keeps_as c.args.setting.now _ _ _ _ _ _
    (λ sound. sound_write c.args.setting.now.program.now c.args.setting.now.id.0 c.args.t.now sound
    _ c.in-Write.is) c.in_ok-select_write-in-Write.ensures.ready

pub select_statement-returns-in_ok-select_line-in-WriteLine-clause-counts :
    goal.select_statement-returns-in_ok-select_line-in-WriteLine-clause-counts
select_statement-returns-in_ok-select_line-in-WriteLine-clause-counts t c =
    statement_adds _ _ _ _ (ap nodes_in_stmt c.in-WriteLine.is ∙ nodes-WriteLine)
    c.in_ok-select_line-in-WriteLine.ensures.counts

pub select_statement-returns-in_ok-select_line-in-WriteLine-clause-ready :
    goal.select_statement-returns-in_ok-select_line-in-WriteLine-clause-ready
select_statement-returns-in_ok-select_line-in-WriteLine-clause-ready t c =
    keeps_as c.args.setting.now _ _ _ _ _ _ (λ sound. refl)
    c.in_ok-select_line-in-WriteLine.ensures.ready

pub select_statement-returns-in_ok-select_while-in-While-clause-counts :
    goal.select_statement-returns-in_ok-select_while-in-While-clause-counts
select_statement-returns-in_ok-select_while-in-While-clause-counts t c =
    statement_adds _ _ _ _ (ap nodes_in_stmt
    (c.in-While.is ∙ ap (s.While _) (sym c.as_slice-in-While.ensures)) ∙ nodes-While _ _)
    c.in_ok-select_while-in-While.ensures.counts

pub select_statement-returns-in_ok-select_while-in-While-clause-ready :
    goal.select_statement-returns-in_ok-select_while-in-While-clause-ready
select_statement-returns-in_ok-select_while-in-While-clause-ready t c =
    keeps_as c.args.setting.now _ _ _ _ _ _
    (λ sound. sound_while c.args.setting.now.program.now c.args.setting.now.id.0 c.args.t.now sound
    _ _ (c.in-While.is ∙ ap (s.While _) (sym c.as_slice-in-While.ensures)))
    c.in_ok-select_while-in-While.ensures.ready

pub select_statement-returns-in_ok-select_repeat-in-Repeat-clause-counts :
    goal.select_statement-returns-in_ok-select_repeat-in-Repeat-clause-counts
select_statement-returns-in_ok-select_repeat-in-Repeat-clause-counts t c =
    statement_adds _ _ _ _ (ap nodes_in_stmt
    (c.in-Repeat.is ∙ ap (λ z. s.Repeat z c.in-Repeat.test) (sym c.as_slice-in-Repeat.ensures))
    ∙ nodes-Repeat _ _) c.in_ok-select_repeat-in-Repeat.ensures.counts

pub select_statement-returns-in_ok-select_repeat-in-Repeat-clause-ready :
    goal.select_statement-returns-in_ok-select_repeat-in-Repeat-clause-ready
select_statement-returns-in_ok-select_repeat-in-Repeat-clause-ready t c =
    keeps_as c.args.setting.now _ _ _ _ _ _
    (λ sound. sound_repeat c.args.setting.now.program.now c.args.setting.now.id.0 c.args.t.now sound
    _ _ (c.in-Repeat.is ∙ ap (λ z. s.Repeat z c.in-Repeat.test) (sym c.as_slice-in-Repeat.ensures)))
    c.in_ok-select_repeat-in-Repeat.ensures.ready

pub select_statement-returns-in_ok-select_call-in-Call-clause-counts :
    goal.select_statement-returns-in_ok-select_call-in-Call-clause-counts
select_statement-returns-in_ok-select_call-in-Call-clause-counts t c =
    statement_adds _ _ _ _ (ap nodes_in_stmt
    (c.in-Call.is ∙ ap (s.Call c.in-Call.callee) (sym c.as_slice-in-Call.ensures)) ∙ nodes-Call _ _)
    c.in_ok-select_call-in-Call.ensures.counts

pub select_statement-returns-in_ok-select_call-in-Call-clause-ready :
    goal.select_statement-returns-in_ok-select_call-in-Call-clause-ready
select_statement-returns-in_ok-select_call-in-Call-clause-ready t c =
    keeps_as c.args.setting.now _ _ _ _ _ _
    (λ sound. sound_call c.args.setting.now.program.now c.args.setting.now.id.0 c.args.t.now sound _
    _ (c.in-Call.is ∙ ap (s.Call c.in-Call.callee) (sym c.as_slice-in-Call.ensures)))
    c.in_ok-select_call-in-Call.ensures.ready

pub select_statement-returns-then-is_empty-2-clause-does :
    goal.select_statement-returns-then-is_empty-2-clause-does
select_statement-returns-then-is_empty-2-clause-does t c = else_does c.args.setting.now c.args.t.now
    _ _ _ c.in-If.is (c.is_empty-in-If.ensures.0 c.if-is_empty-2.true)
    c.as_slice-then-is_empty-2.ensures _ _ _ _ c.in_ok-select_statements-in-If.ensures.does

pub select_statement-returns-then-is_empty-2-clause-counts :
    goal.select_statement-returns-then-is_empty-2-clause-counts
select_statement-returns-then-is_empty-2-clause-counts t c =
    else_counts c.args.setting.now c.args.t.now _ _ _ c.in-If.is
    (c.is_empty-in-If.ensures.0 c.if-is_empty-2.true) c.as_slice-then-is_empty-2.ensures _ _ 0 0
    c.in_ok-select_statements-in-If.ensures.counts

pub select_statement-returns-then-is_empty-2-clause-ready :
    goal.select_statement-returns-then-is_empty-2-clause-ready
select_statement-returns-then-is_empty-2-clause-ready t c =
    else_ready c.args.setting.now c.args.t.now _ _ _ c.in-If.is
    (c.is_empty-in-If.ensures.0 c.if-is_empty-2.true) c.as_slice-then-is_empty-2.ensures _ _ _ _
    c.in_ok-select_statements-in-If.ensures.ready

pub select_statement-returns-in_ok-push-in-If-clause-counts :
    goal.select_statement-returns-in_ok-push-in-If-clause-counts
select_statement-returns-in_ok-push-in-If-clause-counts t c =
    if_counts c.args.setting.now c.args.t.now _ _ _ _ c.in-If.is c.as_slice-in-If.ensures
    c.as_slice-in-If-2.ensures _ _ _ _ _
    (λ e. not_empty _ c.if-is_empty-2.false (c.is_empty-in-If.ensures.1 e))
    (beside_adds _ _ _ c.in_ok-behind-in-If.ensures.made)
    c.in_ok-select_arms-in-If.ensures.counts c.in_ok-select_statements-in-If-2.ensures.counts
    (jump_adds _ _ _ _ c.in_ok-select_statements-in-If-2.ensures.is_open c.jump.ensures.made)

pub select_statement-returns-in_ok-push-in-If-clause-ready :
    goal.select_statement-returns-in_ok-push-in-If-clause-ready
select_statement-returns-in_ok-push-in-If-clause-ready t c =
    if_ready c.args.setting.now _ _ _ _ _ _ _ _ _ _ c.requires.is_open c.requires.homes
    c.in_ok-behind-in-If.ensures.number c.in_ok-behind-in-If.ensures.made _ _
    c.in_ok-select_arms-in-If.ensures.ready c.in_ok-select_arms-in-If.ensures.chooses.extends
    c.in_ok-select_statements-in-If-2.ensures.ready
    c.in_ok-select_statements-in-If-2.ensures.does.extends
    c.jump.ensures.made _ (if_goods c.args.setting.now c.args.t.now _ _ _ _ c.in-If.is
    c.as_slice-in-If.ensures c.as_slice-in-If-2.ensures)

-- ---- sequences

pub select_statements-returns-clause-does : goal.select_statements-returns-clause-does
select_statements-returns-clause-does t c =
    c.loop-t.invariant.2 _ _
    (sequence_done c.args.setting.now _ _ c.args.body.now c.loop-t.t-index c.loop-t.invariant.0
    c.loop-t-test.false)

pub select_statements-returns-clause-counts : goal.select_statements-returns-clause-counts
select_statements-returns-clause-counts t c =
    c.loop-t.invariant.3 _ (none_adds c.args.body.now c.loop-t.t-index _ c.loop-t-test.false)

pub select_statements-returns-clause-ready : goal.select_statements-returns-clause-ready
select_statements-returns-clause-ready t c =
    c.loop-t.invariant.4 _ _ (none_ready c.args.setting.now _ _ _)

pub select_statements-loop-t-init : goal.select_statements-loop-t-init
select_statements-loop-t-init t c = (
  c.requires.is_open,
  omega arith,
  λ new to m. m,
  λ new p. p,
  λ new to p. p,
  λ new to after p. p,
  hands_nothing _ _,
)

pub select_statements-loop-t-preserved : goal.select_statements-loop-t-preserved
select_statements-loop-t-preserved t c = (
  c.in_ok-select_statement.ensures.is_open,
  omega (arith, c.loop-t.invariant.1, c.in_ok-select_statement.ensures.vars),
  λ new to m. c.loop-t.invariant.2 new to
      (sequence_more c.args.setting.now _ _ _ _ _ _ c.args.body.now c.loop-t.t-index _
      c.loop-t-test.true c.t-item.is c.in_ok-select_statement.ensures.does m),
  λ new p. c.loop-t.invariant.3 new
      (more_adds c.args.body.now c.loop-t.t-index _ _ _ new c.loop-t-test.true c.t-item.is
      c.in_ok-select_statement.ensures.counts p),
  λ new to p. c.loop-t.invariant.4 new to
      (more_ready c.args.setting.now _ _ new _ _ to c.args.body.now c.loop-t.t-index _
      c.loop-t-test.true c.t-item.is c.in_ok-select_statement.ensures.does.extends
      c.in_ok-select_statement.ensures.ready p),
  λ new to after p. c.loop-t.invariant.5 new to after
      (goes_is _ _ _ _ _ _ _ _
      (all_next c.args.body.now c.loop-t.t-index _
      (depth_at c.loop-t.ctx.code c.loop-t.ctx.at.0) c.loop-t-test.true c.t-item.is)
      (goes_more _ _ _ _ _ _ _ _ _ _ (depths_of_all (drop (c.loop-t.t-index + 1) c.args.body.now))
      c.in_ok-select_statement.ensures.text p)),
  hands_on _ _ _ _ _ _ c.loop-t.invariant.6 c.in_ok-select_statement.ensures.hands_on,
)

-- ---- WHILE

pub select_while-jump-requires : goal.select_while-jump-requires
select_while-jump-requires t c = loop_room _ _ _ _ c.requires.is_open.0 c.in_ok-blocks.ensures.made

pub select_while-confirm-requires : goal.select_while-confirm-requires
select_while-confirm-requires t c =
    while_test_open c.args.setting.now _ _ _ _ c.in_ok-blocks.blocks c.args.test.now c.args.body.now
    c.requires.is_open c.in_ok-blocks.ensures.behind c.in_ok-blocks.ensures.body
    c.in_ok-blocks.ensures.test c.in_ok-blocks.ensures.made c.jump.ensures.made

pub select_while-confirm_targets-requires-clause-holds :
    goal.select_while-confirm_targets-requires-clause-holds
select_while-confirm_targets-requires-clause-holds t c =
    while_holds c.args.setting.now _ _ _ _ c.in_ok-blocks.blocks c.args.test.now c.args.body.now
    c.requires.is_open c.in_ok-blocks.ensures.behind c.in_ok-blocks.ensures.body
    c.in_ok-blocks.ensures.test c.in_ok-blocks.ensures.made c.jump.ensures.made

pub select_while-confirm_targets-requires-clause-fails :
    goal.select_while-confirm_targets-requires-clause-fails
select_while-confirm_targets-requires-clause-fails t c =
    while_fails c.args.setting.now _ _ _ _ c.in_ok-blocks.blocks c.args.test.now c.args.body.now
    c.requires.is_open c.in_ok-blocks.ensures.behind c.in_ok-blocks.ensures.body
    c.in_ok-blocks.ensures.test c.in_ok-blocks.ensures.made c.jump.ensures.made

pub select_while-confirm-requires-2 : goal.select_while-confirm-requires-2
select_while-confirm-requires-2 t c =
    while_waits c.args.setting.now _ _ _ _ c.in_ok-blocks.blocks c.args.test.now c.args.body.now
    c.requires.is_open c.in_ok-blocks.ensures.behind c.in_ok-blocks.ensures.body
    c.in_ok-blocks.ensures.test c.in_ok-blocks.ensures.made c.jump.ensures.made _
    c.in_ok-select_test.ensures.tests

pub select_while-returns-clause-is_open : goal.select_while-returns-clause-is_open
select_while-returns-clause-is_open t c =
    (while_done c.args.setting.now _ _ _ _ c.in_ok-blocks.blocks c.args.test.now c.args.body.now
    c.requires.is_open c.in_ok-blocks.ensures.behind c.in_ok-blocks.ensures.body
    c.in_ok-blocks.ensures.test c.in_ok-blocks.ensures.made c.jump.ensures.made _
    c.in_ok-select_test.ensures.tests
    _ _ _ c.in_ok-select_statements.ensures.does c.jump-2.ensures.made).extends.is_open

pub select_while-returns-clause-does : goal.select_while-returns-clause-does
select_while-returns-clause-does t c =
    while_done c.args.setting.now _ _ _ _ c.in_ok-blocks.blocks c.args.test.now c.args.body.now
    c.requires.is_open c.in_ok-blocks.ensures.behind c.in_ok-blocks.ensures.body
    c.in_ok-blocks.ensures.test c.in_ok-blocks.ensures.made c.jump.ensures.made _
    c.in_ok-select_test.ensures.tests
    _ _ _ c.in_ok-select_statements.ensures.does c.jump-2.ensures.made

-- ---- REPEAT

pub select_repeat-jump-requires : goal.select_repeat-jump-requires
select_repeat-jump-requires t c = loop_room _ _ _ _ c.requires.is_open.0 c.in_ok-blocks.ensures.made

pub select_repeat-confirm-requires : goal.select_repeat-confirm-requires
select_repeat-confirm-requires t c =
    repeat_body_open c.args.setting.now _ _ _ _ c.in_ok-blocks.blocks c.args.test.now
    c.args.body.now c.requires.is_open c.in_ok-blocks.ensures.behind c.in_ok-blocks.ensures.body
    c.in_ok-blocks.ensures.test c.in_ok-blocks.ensures.made c.jump.ensures.made

pub select_repeat-confirm-requires-2 : goal.select_repeat-confirm-requires-2
select_repeat-confirm-requires-2 t c =
    repeat_waits c.args.setting.now _ _ _ _ c.in_ok-blocks.blocks c.args.test.now c.args.body.now
    c.requires.is_open c.in_ok-blocks.ensures.behind c.in_ok-blocks.ensures.body
    c.in_ok-blocks.ensures.test c.in_ok-blocks.ensures.made c.jump.ensures.made
    _ _ _ c.in_ok-select_statements.ensures.does c.jump-2.ensures.made

pub select_repeat-confirm_targets-requires-clause-holds :
    goal.select_repeat-confirm_targets-requires-clause-holds
select_repeat-confirm_targets-requires-clause-holds t c =
    repeat_holds c.args.setting.now _ _ _ _ c.in_ok-blocks.blocks c.args.test.now c.args.body.now
    c.requires.is_open c.in_ok-blocks.ensures.behind c.in_ok-blocks.ensures.body
    c.in_ok-blocks.ensures.test c.in_ok-blocks.ensures.made c.jump.ensures.made
    _ _ _ c.in_ok-select_statements.ensures.does c.jump-2.ensures.made

pub select_repeat-confirm_targets-requires-clause-fails :
    goal.select_repeat-confirm_targets-requires-clause-fails
select_repeat-confirm_targets-requires-clause-fails t c =
    repeat_fails c.args.setting.now _ _ _ _ c.in_ok-blocks.blocks c.args.test.now c.args.body.now
    c.requires.is_open c.in_ok-blocks.ensures.behind c.in_ok-blocks.ensures.body
    c.in_ok-blocks.ensures.test c.in_ok-blocks.ensures.made c.jump.ensures.made
    _ _ _ c.in_ok-select_statements.ensures.does c.jump-2.ensures.made

pub select_repeat-returns-clause-is_open : goal.select_repeat-returns-clause-is_open
select_repeat-returns-clause-is_open t c =
    (repeat_done c.args.setting.now _ _ _ _ c.in_ok-blocks.blocks c.args.test.now c.args.body.now
    c.requires.is_open c.in_ok-blocks.ensures.behind c.in_ok-blocks.ensures.body
    c.in_ok-blocks.ensures.test c.in_ok-blocks.ensures.made c.jump.ensures.made
    _ _ _ c.in_ok-select_statements.ensures.does c.jump-2.ensures.made _
    c.in_ok-select_test.ensures.tests).extends.is_open

pub select_repeat-returns-clause-does : goal.select_repeat-returns-clause-does
select_repeat-returns-clause-does t c =
    repeat_done c.args.setting.now _ _ _ _ c.in_ok-blocks.blocks c.args.test.now c.args.body.now
    c.requires.is_open c.in_ok-blocks.ensures.behind c.in_ok-blocks.ensures.body
    c.in_ok-blocks.ensures.test c.in_ok-blocks.ensures.made c.jump.ensures.made
    _ _ _ c.in_ok-select_statements.ensures.does c.jump-2.ensures.made _
    c.in_ok-select_test.ensures.tests

-- ---- IF

pub select_arms-returns-clause-chooses : goal.select_arms-returns-clause-chooses
select_arms-returns-clause-chooses t c =
    c.loop-arm.invariant.4 _ _
    (arms_done c.args.setting.now _ _ _ c.args.arms.now c.loop-arm.arm-index c.loop-arm.invariant.0
    c.loop-arm-test.false)

pub select_arms-returns-clause-counts : goal.select_arms-returns-clause-counts
select_arms-returns-clause-counts t c =
    c.loop-arm.invariant.5 _
    (arms_none c.args.arms.now c.loop-arm.arm-index _ c.loop-arm-test.false)

pub select_arms-returns-clause-ready : goal.select_arms-returns-clause-ready
select_arms-returns-clause-ready t c =
    c.loop-arm.invariant.6 _ _ (no_arms_ready c.args.setting.now _ _ _ _)

pub select_arms-loop-arm-init : goal.select_arms-loop-arm-init
select_arms-loop-arm-init t c = (
  c.requires.is_open,
  omega arith,
  c.requires.waits,
  c.requires.apart,
  λ new to m. m,
  λ new p. p,
  λ new to p. p,
  λ new to after p. p,
  hands_nothing _ _,
)

pub select_arms-loop-arm-preserved : goal.select_arms-loop-arm-preserved
select_arms-loop-arm-preserved t c = (
  c.in_ok-select_arm.ensures.is_open,
  omega (arith, c.loop-arm.invariant.1, c.in_ok-select_arm.ensures.vars),
  c.in_ok-select_arm.ensures.waits,
  c.in_ok-select_arm.ensures.apart,
  λ new to m. c.loop-arm.invariant.4 new to
      (arms_more c.args.setting.now _ _ _ _ _ _ _ c.args.arms.now c.loop-arm.arm-index _
      c.loop-arm-test.true c.arm-item.is c.loop-arm.invariant.2 c.in_ok-select_arm.ensures.waits
      c.in_ok-select_arm.ensures.guards m),
  λ new p. c.loop-arm.invariant.5 new
      (amounting.arms_more c.args.arms.now c.loop-arm.arm-index _ _ _ new c.loop-arm-test.true
      c.arm-item.is c.in_ok-select_arm.ensures.counts p),
  λ new to p. c.loop-arm.invariant.6 new to
      (more_arms_ready c.args.setting.now _ _ new _ _ to _ c.args.arms.now c.loop-arm.arm-index _
      c.loop-arm-test.true c.arm-item.is c.loop-arm.invariant.2.within
      c.in_ok-select_arm.ensures.guards.extends c.in_ok-select_arm.ensures.ready p),
  λ new to after p. c.loop-arm.invariant.7 new to after
      (goes_is _ _ _ _ _ _ _ _
      (arms_next c.args.arms.now c.loop-arm.arm-index _
      (depth_at c.loop-arm.ctx.code c.loop-arm.ctx.at.0) c.loop-arm-test.true c.arm-item.is)
      (goes_more _ _ _ _ _ _ _ _ _ _
      (depths_of_arms (drop (c.loop-arm.arm-index + 1) c.args.arms.now))
      c.in_ok-select_arm.ensures.text p)),
  hands_on _ _ _ _ _ _ c.loop-arm.invariant.8 c.in_ok-select_arm.ensures.hands_on,
)

pub select_arm-confirm-requires : goal.select_arm-confirm-requires
select_arm-confirm-requires t c =
    arm_at_open c.args.setting.now _ _ _ _ c.in_ok-targets.targets c.args.arm.now c.requires.is_open
    c.requires.waits c.requires.apart c.requires.real c.in_ok-targets.ensures.made
    c.in_ok-targets.ensures.fails c.in_ok-targets.ensures.holds

pub select_arm-confirm_targets-requires-clause-holds :
    goal.select_arm-confirm_targets-requires-clause-holds
select_arm-confirm_targets-requires-clause-holds t c =
    arm_holds c.args.setting.now _ _ _ _ c.in_ok-targets.targets c.args.arm.now c.requires.is_open
    c.requires.waits c.requires.apart c.requires.real c.in_ok-targets.ensures.made
    c.in_ok-targets.ensures.fails c.in_ok-targets.ensures.holds

pub select_arm-confirm_targets-requires-clause-fails :
    goal.select_arm-confirm_targets-requires-clause-fails
select_arm-confirm_targets-requires-clause-fails t c =
    arm_fails c.args.setting.now _ _ _ _ c.in_ok-targets.targets c.args.arm.now c.requires.is_open
    c.requires.waits c.requires.apart c.requires.real c.in_ok-targets.ensures.made
    c.in_ok-targets.ensures.fails c.in_ok-targets.ensures.holds

pub select_arm-confirm-requires-2 : goal.select_arm-confirm-requires-2
select_arm-confirm-requires-2 t c =
    arm_waits c.args.setting.now _ _ _ _ c.in_ok-targets.targets c.args.arm.now c.requires.is_open
    c.requires.waits c.requires.apart c.requires.real c.in_ok-targets.ensures.made
    c.in_ok-targets.ensures.fails c.in_ok-targets.ensures.holds _
    c.in_ok-select_test.ensures.tests

pub select_arm-returns-clause-is_open : goal.select_arm-returns-clause-is_open
select_arm-returns-clause-is_open t c =
    arm_open c.args.setting.now _ _ _ _ c.in_ok-targets.targets c.args.arm.now c.requires.is_open
    c.requires.waits c.requires.apart c.requires.real c.in_ok-targets.ensures.made
    c.in_ok-targets.ensures.fails c.in_ok-targets.ensures.holds _
    c.in_ok-select_test.ensures.tests
    _ _ _ _ c.as_slice.ensures c.in_ok-select_statements.ensures.does c.jump.ensures.made

pub select_arm-returns-clause-waits : goal.select_arm-returns-clause-waits
select_arm-returns-clause-waits t c =
    arm_behind c.args.setting.now _ _ _ _ c.in_ok-targets.targets c.args.arm.now c.requires.is_open
    c.requires.waits c.requires.apart c.requires.real c.in_ok-targets.ensures.made
    c.in_ok-targets.ensures.fails c.in_ok-targets.ensures.holds _
    c.in_ok-select_test.ensures.tests
    _ _ _ _ c.as_slice.ensures c.in_ok-select_statements.ensures.does c.jump.ensures.made

pub select_arm-returns-clause-apart : goal.select_arm-returns-clause-apart
select_arm-returns-clause-apart t c =
    arm_still_apart c.args.setting.now _ _ _ _ c.in_ok-targets.targets c.args.arm.now
    c.requires.is_open c.requires.waits c.requires.apart c.requires.real
    c.in_ok-targets.ensures.made c.in_ok-targets.ensures.fails c.in_ok-targets.ensures.holds _
    c.in_ok-select_test.ensures.tests
    _ _ _ _ c.as_slice.ensures c.in_ok-select_statements.ensures.does c.jump.ensures.made

pub select_arm-returns-clause-guards : goal.select_arm-returns-clause-guards
select_arm-returns-clause-guards t c =
    arm_done c.args.setting.now _ _ _ _ c.in_ok-targets.targets c.args.arm.now c.requires.is_open
    c.requires.waits c.requires.apart c.requires.real c.in_ok-targets.ensures.made
    c.in_ok-targets.ensures.fails c.in_ok-targets.ensures.holds _
    c.in_ok-select_test.ensures.tests
    _ _ _ _ c.as_slice.ensures c.in_ok-select_statements.ensures.does c.jump.ensures.made

pub select_arm-returns-clause-counts : goal.select_arm-returns-clause-counts
select_arm-returns-clause-counts t c =
    arm_adds _ _ _ _ _ _ _ _ (arm_nodes_are c.args.setting.now c.args.arm.now _ c.as_slice.ensures)
    (some_nodes _) (open_arm_adds _ _ _ c.in_ok-targets.ensures.made)
    c.in_ok-select_test.ensures.counts c.in_ok-select_statements.ensures.counts
    (jump_adds _ _ _ _ c.in_ok-select_statements.ensures.is_open c.jump.ensures.made)

pub select_arm-returns-clause-ready : goal.select_arm-returns-clause-ready
select_arm-returns-clause-ready t c =
    arm_ready c.args.setting.now _ _ _ _ _ _ _ _ _ c.in_ok-targets.targets c.requires.is_open
    c.requires.homes c.in_ok-targets.ensures.fails c.in_ok-targets.ensures.holds
    c.requires.waits.within c.requires.apart c.requires.real c.in_ok-targets.ensures.made
    c.in_ok-select_test.ensures.ready c.in_ok-select_test.ensures.tests.grows _
    c.in_ok-select_statements.ensures.ready c.in_ok-select_statements.ensures.does.extends
    c.jump.ensures.made _ _ (arm_goods c.args.setting.now c.args.arm.now _ c.as_slice.ensures)

-- ---- what loops keep

pub select_while-returns-clause-counts : goal.select_while-returns-clause-counts
select_while-returns-clause-counts t c =
    while_adds _ _ _ _ _ _ _ _ (some_nodes c.args.test.now)
    (open_loop_adds _ _ _ c.in_ok-blocks.ensures.made)
    (jump_adds _ _ _ _ (loop_still_open _ _ _ _ c.requires.is_open c.in_ok-blocks.ensures.made)
    c.jump.ensures.made)
    c.in_ok-select_test.ensures.counts c.in_ok-select_statements.ensures.counts
    (jump_adds _ _ _ _ c.in_ok-select_statements.ensures.is_open c.jump-2.ensures.made)

pub select_while-returns-clause-ready : goal.select_while-returns-clause-ready
select_while-returns-clause-ready t c =
    while_ready c.args.setting.now _ _ _ _ _ _ _ _ _ c.in_ok-blocks.blocks c.requires.is_open
    c.requires.homes c.in_ok-blocks.ensures.behind c.in_ok-blocks.ensures.body
    c.in_ok-blocks.ensures.test c.in_ok-blocks.ensures.made c.jump.ensures.made
    c.in_ok-select_test.ensures.ready c.in_ok-select_test.ensures.tests.grows _
    c.in_ok-select_statements.ensures.ready c.in_ok-select_statements.ensures.does.extends
    c.jump-2.ensures.made _ _ (λ e. and_true _ _ e)

pub select_repeat-returns-clause-counts : goal.select_repeat-returns-clause-counts
select_repeat-returns-clause-counts t c =
    repeat_adds _ _ _ _ _ _ _ _ (some_nodes c.args.test.now)
    (open_loop_adds _ _ _ c.in_ok-blocks.ensures.made)
    (jump_adds _ _ _ _ (loop_still_open _ _ _ _ c.requires.is_open c.in_ok-blocks.ensures.made)
    c.jump.ensures.made)
    c.in_ok-select_statements.ensures.counts
    (jump_adds _ _ _ _ c.in_ok-select_statements.ensures.is_open c.jump-2.ensures.made)
    c.in_ok-select_test.ensures.counts

pub select_repeat-returns-clause-ready : goal.select_repeat-returns-clause-ready
select_repeat-returns-clause-ready t c =
    repeat_ready c.args.setting.now _ _ _ _ _ _ _ _ _ c.in_ok-blocks.blocks c.requires.is_open
    c.requires.homes c.in_ok-blocks.ensures.behind c.in_ok-blocks.ensures.body
    c.in_ok-blocks.ensures.test c.in_ok-blocks.ensures.made c.jump.ensures.made
    _ c.in_ok-select_statements.ensures.ready c.in_ok-select_statements.ensures.does.extends
    c.jump-2.ensures.made c.in_ok-select_test.ensures.ready _ _ (λ e. and_true _ _ e)

-- ---- how many blocks are open

pub select_statement-returns-in_ok-push-in-If-clause-hands_on :
    goal.select_statement-returns-in_ok-push-in-If-clause-hands_on
select_statement-returns-in_ok-push-in-If-clause-hands_on t c =
    hands_if _ _ _ _ _ c.requires.is_open c.in_ok-behind-in-If.ensures.number _ _ _ _ _
    c.in_ok-behind-in-If.ensures.made c.in_ok-select_arms-in-If.ensures.hands_on
    c.in_ok-select_statements-in-If-2.ensures.hands_on
    (closes_jump _ c.in_ok-behind-in-If.behind _ _ c.in_ok-select_statements-in-If-2.ensures.is_open
    c.jump.ensures.made (if_real c.args.setting.now _ _ _ _ c.requires.is_open
    c.in_ok-behind-in-If.ensures.made c.in_ok-behind-in-If.ensures.number))

pub select_statements-returns-clause-hands_on : goal.select_statements-returns-clause-hands_on
select_statements-returns-clause-hands_on t c = c.loop-t.invariant.6

pub select_arms-returns-clause-hands_on : goal.select_arms-returns-clause-hands_on
select_arms-returns-clause-hands_on t c = c.loop-arm.invariant.8

pub select_arm-returns-clause-hands_on : goal.select_arm-returns-clause-hands_on
select_arm-returns-clause-hands_on t c =
    hands_arm _ _ _ _ _ c.requires.is_open c.in_ok-targets.ensures.fails _ _ _ _ _
    c.in_ok-targets.ensures.made c.in_ok-select_test.ensures.closes
    c.in_ok-select_statements.ensures.hands_on
    (closes_jump _ c.args.behind _ _ c.in_ok-select_statements.ensures.is_open c.jump.ensures.made
    c.requires.real)

pub select_while-returns-clause-hands_on : goal.select_while-returns-clause-hands_on
select_while-returns-clause-hands_on t c =
    hands_while _ _ _ _ _ c.requires.is_open c.in_ok-blocks.ensures.behind _ _ _ _ _ _
    c.in_ok-blocks.ensures.made
    (closes_jump _ c.in_ok-blocks.blocks.test _ _
    (loop_still_open _ _ _ _ c.requires.is_open c.in_ok-blocks.ensures.made) c.jump.ensures.made
    (λ is. omega (arith, is, c.in_ok-blocks.ensures.test)))
    c.in_ok-select_test.ensures.closes c.in_ok-select_statements.ensures.hands_on
    (closes_jump _ c.in_ok-blocks.blocks.test _ _ c.in_ok-select_statements.ensures.is_open
    c.jump-2.ensures.made (λ is. omega (arith, is, c.in_ok-blocks.ensures.test)))

pub select_repeat-returns-clause-hands_on : goal.select_repeat-returns-clause-hands_on
select_repeat-returns-clause-hands_on t c =
    hands_repeat _ _ _ _ _ c.requires.is_open c.in_ok-blocks.ensures.behind _ _ _ _ _ _
    c.in_ok-blocks.ensures.made
    (closes_jump _ c.in_ok-blocks.blocks.body _ _
    (loop_still_open _ _ _ _ c.requires.is_open c.in_ok-blocks.ensures.made) c.jump.ensures.made
    (λ is. omega (arith, is, c.in_ok-blocks.ensures.body)))
    c.in_ok-select_statements.ensures.hands_on
    (closes_jump _ c.in_ok-blocks.blocks.test _ _ c.in_ok-select_statements.ensures.is_open
    c.jump-2.ensures.made (λ is. omega (arith, is, c.in_ok-blocks.ensures.test)))
    c.in_ok-select_test.ensures.closes

-- ---- the order in which blocks are listed

pub select_statement-returns-in_ok-select_assignment-in-Assign-clause-text :
    goal.select_statement-returns-in_ok-select_assignment-in-Assign-clause-text
select_statement-returns-in_ok-select_assignment-in-Assign-clause-text t c =
    goes_as _ _ _ _ _ _ _ _ (depths-Assign _ _ _ _ c.in-Assign.is)
    c.in_ok-select_assignment-in-Assign.ensures.text

pub select_statement-returns-in_ok-select_read-in-Read-clause-text :
    goal.select_statement-returns-in_ok-select_read-in-Read-clause-text
select_statement-returns-in_ok-select_read-in-Read-clause-text t c =
    goes_as _ _ _ _ _ _ _ _ (depths-Read _ _ _ c.in-Read.is)
    c.in_ok-select_read-in-Read.ensures.text

pub select_statement-returns-in_ok-select_write-in-Write-clause-text :
    goal.select_statement-returns-in_ok-select_write-in-Write-clause-text
select_statement-returns-in_ok-select_write-in-Write-clause-text t c =
    goes_as _ _ _ _ _ _ _ _ (depths-Write _ _ _ c.in-Write.is)
    c.in_ok-select_write-in-Write.ensures.text

pub select_statement-returns-in_ok-select_line-in-WriteLine-clause-text :
    goal.select_statement-returns-in_ok-select_line-in-WriteLine-clause-text
select_statement-returns-in_ok-select_line-in-WriteLine-clause-text t c =
    goes_as 0 _ _ _ _ _ _ _ (depths-WriteLine _ _ c.in-WriteLine.is)
    c.in_ok-select_line-in-WriteLine.ensures.text

pub select_statement-returns-in_ok-select_call-in-Call-clause-text :
    goal.select_statement-returns-in_ok-select_call-in-Call-clause-text
select_statement-returns-in_ok-select_call-in-Call-clause-text t c =
    goes_as _ _ _ _ _ _ _ _ (depths-Call _ _ c.in-Call.callee _
    (c.in-Call.is ∙ ap (s.Call c.in-Call.callee) (sym c.as_slice-in-Call.ensures)))
    c.in_ok-select_call-in-Call.ensures.text

pub select_statement-returns-in_ok-select_while-in-While-clause-text :
    goal.select_statement-returns-in_ok-select_while-in-While-clause-text
select_statement-returns-in_ok-select_while-in-While-clause-text t c =
    goes_is _ _ _ _ _ _ _ _ (depths-While _ _ _ _
    (c.in-While.is ∙ ap (s.While _) (sym c.as_slice-in-While.ensures)))
    c.in_ok-select_while-in-While.ensures.text

pub select_statement-returns-in_ok-select_repeat-in-Repeat-clause-text :
    goal.select_statement-returns-in_ok-select_repeat-in-Repeat-clause-text
select_statement-returns-in_ok-select_repeat-in-Repeat-clause-text t c =
    goes_is _ _ _ _ _ _ _ _ (depths-Repeat _ _ _ _
    (c.in-Repeat.is ∙ ap (λ z. s.Repeat z c.in-Repeat.test) (sym c.as_slice-in-Repeat.ensures)))
    c.in_ok-select_repeat-in-Repeat.ensures.text

pub select_statement-returns-then-is_empty-clause-text :
    goal.select_statement-returns-then-is_empty-clause-text
select_statement-returns-then-is_empty-clause-text t c =
    goes_is _ _ _ _ _ _ _ _ (if_none c.args.t.now _ _ _ _ c.in-If.is
    (c.is_empty.ensures.0 c.if-is_empty.true) c.as_slice.ensures)
    c.in_ok-select_if-in-If.ensures.text

pub select_statement-returns-then-is_empty-clause-does :
    goal.select_statement-returns-then-is_empty-clause-does
select_statement-returns-then-is_empty-clause-does t c =
    alone_statement c.args.setting.now c.args.t.now _ _ _ c.in-If.is
    (c.is_empty.ensures.0 c.if-is_empty.true) c.as_slice.ensures _ _ _ _
    c.in_ok-select_if-in-If.ensures.does

pub select_statement-returns-then-is_empty-clause-counts :
    goal.select_statement-returns-then-is_empty-clause-counts
select_statement-returns-then-is_empty-clause-counts t c =
    alone_counts c.args.setting.now c.args.t.now _ _ _ c.in-If.is
    (c.is_empty.ensures.0 c.if-is_empty.true) c.as_slice.ensures _ _ 0 0
    c.in_ok-select_if-in-If.ensures.counts

pub select_statement-returns-then-is_empty-clause-ready :
    goal.select_statement-returns-then-is_empty-clause-ready
select_statement-returns-then-is_empty-clause-ready t c =
    alone_keeps c.args.setting.now c.args.t.now _ _ _ c.in-If.is
    (c.is_empty.ensures.0 c.if-is_empty.true) c.as_slice.ensures _ _ _ _
    c.in_ok-select_if-in-If.ensures.ready

pub select_statement-returns-then-is_empty-2-clause-text :
    goal.select_statement-returns-then-is_empty-2-clause-text
select_statement-returns-then-is_empty-2-clause-text t c =
    goes_is _ _ _ _ _ _ _ _ (if_no_arms c.args.t.now _ _ _ _ c.in-If.is
    (c.is_empty-in-If.ensures.0 c.if-is_empty-2.true) c.as_slice-then-is_empty-2.ensures)
    c.in_ok-select_statements-in-If.ensures.text

pub select_statement-returns-in_ok-push-in-If-clause-text :
    goal.select_statement-returns-in_ok-push-in-If-clause-text
select_statement-returns-in_ok-push-in-If-clause-text t c =
    goes_end _ _ _ _ _ _ _ _ c.in_ok-push-in-If.ensures.ok
    (goes_is _ _ _ _ _ _ _ _
    (if_both c.args.t.now _ _ _ _ _ c.in-If.is
    (λ e. not_empty _ c.if-is_empty-2.false (c.is_empty-in-If.ensures.1 e))
    (λ e. not_empty _ c.if-is_empty.false (c.is_empty.ensures.1 e)) c.as_slice-in-If.ensures
    c.as_slice-in-If-2.ensures)
    (text_if _ _ c.in_ok-behind-in-If.behind _ _ _ _ _ c.requires.is_open
    c.in_ok-behind-in-If.ensures.made c.in_ok-behind-in-If.ensures.number
    (depths_of_arms c.as_slice-in-If.result.now) (depths_of_all c.as_slice-in-If-2.result.now) _
    _ _ _
    c.in_ok-select_arms-in-If.ensures.text c.in_ok-select_statements-in-If-2.ensures.text
    c.in_ok-select_statements-in-If-2.ensures.is_open c.jump.ensures.made))

pub select_statements-returns-clause-text : goal.select_statements-returns-clause-text
select_statements-returns-clause-text t c =
    c.loop-t.invariant.5 _ _ _
    (goes_is _ _ _ _ _ _ _ _ (all_done c.args.body.now c.loop-t.t-index _ c.loop-t-test.false)
    (goes_none _ _ _))

pub select_arms-returns-clause-text : goal.select_arms-returns-clause-text
select_arms-returns-clause-text t c = c.loop-arm.invariant.7 _ _ _
    (goes_is _ _ _ _ _ _ _ _
    (depths.arms_done c.args.arms.now c.loop-arm.arm-index _ c.loop-arm-test.false)
    (goes_none _ _ _))

pub select_while-turn-requires-clause-begins : goal.select_while-turn-requires-clause-begins
select_while-turn-requires-clause-begins t c =
    let le = test_begins _ _ _ c.in_ok-blocks.blocks c.requires.is_open
    c.in_ok-blocks.ensures.made c.in_ok-blocks.ensures.behind c.in_ok-blocks.ensures.body
    c.in_ok-blocks.ensures.test _ _ _ _ _ _ _ _ _ (depths_of_all c.args.body.now)
    c.jump.ensures.made
    (ends_begin _ _ _ _ _ _ _ c.in_ok-push.ensures.ok c.in_ok-select_test.ensures.text)
    (goes_at _ _ _ _ _ _ _ _ c.in_ok-push-2.ensures.ok c.in_ok-select_statements.ensures.text)
    c.in_ok-select_statements.ensures.is_open c.jump-2.ensures.made in
    omega (arith, c.len-begin.ensures, c.len-middle.ensures, le)

pub select_while-turn-requires-clause-ends : goal.select_while-turn-requires-clause-ends
select_while-turn-requires-clause-ends t c =
    let le = test_ends _ _ _ c.in_ok-blocks.blocks c.requires.is_open
    c.in_ok-blocks.ensures.made c.in_ok-blocks.ensures.behind c.in_ok-blocks.ensures.body
    c.in_ok-blocks.ensures.test _ _ _ _ _ _ _ _ _ (depths_of_all c.args.body.now)
    c.jump.ensures.made
    (ends_begin _ _ _ _ _ _ _ c.in_ok-push.ensures.ok c.in_ok-select_test.ensures.text)
    (goes_at _ _ _ _ _ _ _ _ c.in_ok-push-2.ensures.ok c.in_ok-select_statements.ensures.text)
    c.in_ok-select_statements.ensures.is_open c.jump-2.ensures.made in
    omega (arith, c.len-middle.ensures, le)

pub select_while-returns-clause-text : goal.select_while-returns-clause-text
select_while-returns-clause-text t c =
    goes_end _ _ _ _ _ _ _ _ c.in_ok-push-3.ensures.ok
    (text_while _ _ _ c.in_ok-blocks.blocks c.requires.is_open c.in_ok-blocks.ensures.made
    c.in_ok-blocks.ensures.behind c.in_ok-blocks.ensures.body c.in_ok-blocks.ensures.test _ _ _
    _ _ _ _ _ _ (depths_of_all c.args.body.now) c.jump.ensures.made
    (ends_begin _ _ _ _ _ _ _ c.in_ok-push.ensures.ok c.in_ok-select_test.ensures.text)
    (goes_at _ _ _ _ _ _ _ _ c.in_ok-push-2.ensures.ok c.in_ok-select_statements.ensures.text)
    c.in_ok-select_statements.ensures.is_open c.jump-2.ensures.made _
    (turned_at _ _ _ _ _ _ c.len-begin.ensures c.len-middle.ensures c.turn.ensures))

pub select_repeat-returns-clause-text : goal.select_repeat-returns-clause-text
select_repeat-returns-clause-text t c =
    goes_end _ _ _ _ _ _ _ _ c.in_ok-push-3.ensures.ok
    (text_repeat _ _ _ c.in_ok-blocks.blocks c.requires.is_open c.in_ok-blocks.ensures.made
    c.in_ok-blocks.ensures.behind c.in_ok-blocks.ensures.body c.in_ok-blocks.ensures.test _ _ _
    _ _ _ _ _ _ (depths_of_all c.args.body.now) c.jump.ensures.made
    (goes_at _ _ _ _ _ _ _ _ c.in_ok-push.ensures.ok c.in_ok-select_statements.ensures.text)
    c.in_ok-select_statements.ensures.is_open c.jump-2.ensures.made
    (ends_begin _ _ _ _ _ _ _ c.in_ok-push-2.ensures.ok c.in_ok-select_test.ensures.text))

pub select_arm-returns-clause-text : goal.select_arm-returns-clause-text
select_arm-returns-clause-text t c =
    goes_end _ _ _ _ _ _ _ _ c.in_ok-push-2.ensures.ok
    (goes_is _ _ _ _ _ _ _ _ (arm_depths_are c.args.arm.now _ _ c.as_slice.ensures)
    (text_arm _ _ _ c.in_ok-targets.targets c.in_ok-targets.ensures.made
    c.in_ok-targets.ensures.fails c.in_ok-targets.ensures.holds _ _ c.args.behind _ _ _ _ _ _
    (depths_of_all c.as_slice.result.now) c.requires.is_open c.in_ok-select_test.ensures.text
    (goes_at _ _ _ _ _ _ _ _ c.in_ok-push.ensures.ok c.in_ok-select_statements.ensures.text)
    c.in_ok-select_statements.ensures.is_open c.jump.ensures.made))

-- ---- the last arm without ELSE, and the whole of such an IF

pub select_last_arm-confirm_targets-requires-clause-holds :
    goal.select_last_arm-confirm_targets-requires-clause-holds
select_last_arm-confirm_targets-requires-clause-holds t c =
    last_holds c.args.setting.now _ _ _ c.args.behind _ _ c.args.arm.now c.requires.is_open
    c.requires.waits c.requires.apart c.requires.real c.in_ok-holds.ensures.made
    c.in_ok-holds.ensures.number refl

pub select_last_arm-confirm_targets-requires-clause-fails :
    goal.select_last_arm-confirm_targets-requires-clause-fails
select_last_arm-confirm_targets-requires-clause-fails t c =
    last_fails c.args.setting.now _ _ _ c.args.behind _ _ c.args.arm.now c.requires.is_open
    c.requires.waits c.requires.apart c.requires.real c.in_ok-holds.ensures.made
    c.in_ok-holds.ensures.number refl

pub select_last_arm-confirm-requires : goal.select_last_arm-confirm-requires
select_last_arm-confirm-requires t c =
    last_waits c.args.setting.now _ _ _ c.args.behind _ _ c.args.arm.now c.requires.is_open
    c.requires.waits c.requires.apart c.requires.real c.in_ok-holds.ensures.made
    c.in_ok-holds.ensures.number refl _ c.in_ok-select_test.ensures.tests

pub select_last_arm-returns-clause-joins : goal.select_last_arm-returns-clause-joins
select_last_arm-returns-clause-joins t c =
    last_joins c.args.setting.now _ _ _ c.args.behind _ _ c.args.arm.now c.requires.is_open
    c.requires.waits c.requires.apart c.requires.real c.in_ok-holds.ensures.made
    c.in_ok-holds.ensures.number refl _ c.in_ok-select_test.ensures.tests
    _ _ _ _ c.as_slice.ensures c.in_ok-select_statements.ensures.does c.jump.ensures.made

pub select_last_arm-returns-clause-counts : goal.select_last_arm-returns-clause-counts
select_last_arm-returns-clause-counts t c =
    last_adds _ _ _ _ _ _ _ _ (arm_nodes_are c.args.setting.now c.args.arm.now _ c.as_slice.ensures)
    (some_nodes _) (beside_adds _ _ _ c.in_ok-holds.ensures.made)
    c.in_ok-select_test.ensures.counts c.in_ok-select_statements.ensures.counts
    (jump_adds _ _ _ _ c.in_ok-select_statements.ensures.is_open c.jump.ensures.made)

pub select_last_arm-returns-clause-ready : goal.select_last_arm-returns-clause-ready
select_last_arm-returns-clause-ready t c =
    last_ready c.args.setting.now _ _ _ _ _ _ _ _ c.args.behind _ _ refl c.requires.is_open
    c.requires.homes c.in_ok-holds.ensures.number c.requires.waits.within c.requires.apart
    c.requires.real c.in_ok-holds.ensures.made c.in_ok-select_test.ensures.ready
    c.in_ok-select_test.ensures.tests.grows _
    c.in_ok-select_statements.ensures.ready c.in_ok-select_statements.ensures.does.extends
    c.jump.ensures.made _ _ (arm_goods c.args.setting.now c.args.arm.now _ c.as_slice.ensures)

pub select_last_arm-returns-clause-closes : goal.select_last_arm-returns-clause-closes
select_last_arm-returns-clause-closes t c =
    closes_last _ _ _ _ _ _ _ _ c.in_ok-holds.ensures.made c.in_ok-select_test.ensures.closes
    c.in_ok-select_statements.ensures.hands_on
    (closes_jump _ c.args.behind _ _ c.in_ok-select_statements.ensures.is_open c.jump.ensures.made
    c.requires.real)

pub select_last_arm-returns-clause-text : goal.select_last_arm-returns-clause-text
select_last_arm-returns-clause-text t c =
    enters_is _ _ _ _ _ _ (end_depths_are c.args.arm.now _ _ c.as_slice.ensures)
    (text_last _ _ _ c.in_ok-holds.holds c.args.behind _ _ _ _ _ _ _ _
    (depths_of_all c.as_slice.result.now) c.requires.is_open c.in_ok-holds.ensures.made
    c.in_ok-holds.ensures.number c.in_ok-select_test.ensures.text
    (goes_at _ _ _ _ _ _ _ _ c.in_ok-push.ensures.ok c.in_ok-select_statements.ensures.text)
    c.in_ok-select_statements.ensures.is_open c.jump.ensures.made)

pub select_if-returns-in_default-clause-does : goal.select_if-returns-in_default-clause-does
select_if-returns-in_default-clause-does t c = nothing_does c.args.setting.now _ _ c.args.arms.now
    (is_none c.args.arms.now c.in_default.len_below) c.requires.is_open

pub select_if-returns-in_default-clause-counts : goal.select_if-returns-in_default-clause-counts
select_if-returns-in_default-clause-counts t c =
    nothing_counts c.args.setting.now _ 0 c.args.arms.now
    (is_none c.args.arms.now c.in_default.len_below)

pub select_if-returns-in_default-clause-ready : goal.select_if-returns-in_default-clause-ready
select_if-returns-in_default-clause-ready t c = nothing_ready c.args.setting.now _ _ c.args.arms.now
    (is_none c.args.arms.now c.in_default.len_below)

pub select_if-returns-in_default-clause-text : goal.select_if-returns-in_default-clause-text
select_if-returns-in_default-clause-text t c =
    goes_is _ _ _ _ _ _ _ _ (ap
    (λ l. depths_of_arms l (depth_at c.args.ctx.now.code c.args.ctx.now.at.0))
    (is_none c.args.arms.now c.in_default.len_below)) (goes_none _ _ _)

pub select_if-confirm_waits-requires-clause-waits :
    goal.select_if-confirm_waits-requires-clause-waits
select_if-confirm_waits-requires-clause-waits t c =
    if_waits c.args.setting.now _ _ _ _ c.requires.is_open c.in_ok-behind.ensures.made
    c.in_ok-behind.ensures.number

pub select_if-confirm_waits-requires-clause-apart :
    goal.select_if-confirm_waits-requires-clause-apart
select_if-confirm_waits-requires-clause-apart t c =
    if_apart c.args.setting.now _ _ _ _ c.requires.is_open c.in_ok-behind.ensures.made
    c.in_ok-behind.ensures.number

pub select_if-confirm_waits-requires-clause-real : goal.select_if-confirm_waits-requires-clause-real
select_if-confirm_waits-requires-clause-real t c =
    if_real c.args.setting.now _ _ _ _ c.requires.is_open c.in_ok-behind.ensures.made
    c.in_ok-behind.ensures.number

pub select_if-returns-clause-is_open : goal.select_if-returns-clause-is_open
select_if-returns-clause-is_open t c =
    (alone_does c.args.setting.now _ _ _ _ _ _ _ c.args.arms.now _ _
    (is_last c.args.arms.now _ c.in-len1-up.len_at_least c.last-item.is) c.requires.is_open
    c.in_ok-behind.ensures.made c.in_ok-behind.ensures.number
    c.in_ok-select_first_arms.ensures.chooses c.in_ok-select_last_arm.ensures.joins).extends.is_open

pub select_if-returns-clause-does : goal.select_if-returns-clause-does
select_if-returns-clause-does t c =
    alone_does c.args.setting.now _ _ _ _ _ _ _ c.args.arms.now _ _
    (is_last c.args.arms.now _ c.in-len1-up.len_at_least c.last-item.is) c.requires.is_open
    c.in_ok-behind.ensures.made c.in_ok-behind.ensures.number
    c.in_ok-select_first_arms.ensures.chooses c.in_ok-select_last_arm.ensures.joins

pub select_if-returns-clause-counts : goal.select_if-returns-clause-counts
select_if-returns-clause-counts t c =
    alone_adds c.args.setting.now _ _ _ _ _ 0 c.in_ok-behind.behind c.args.arms.now _ _
    (is_last c.args.arms.now _ c.in-len1-up.len_at_least c.last-item.is) c.requires.is_open
    c.in_ok-behind.ensures.made c.in_ok-behind.ensures.number
    (beside_adds _ _ _ c.in_ok-behind.ensures.made) c.in_ok-select_first_arms.ensures.counts
    c.in_ok-select_last_arm.ensures.counts

pub select_if-returns-clause-ready : goal.select_if-returns-clause-ready
select_if-returns-clause-ready t c =
    alone_ready c.args.setting.now _ _ _ _ _ _ _ c.args.arms.now _ _
    (is_last c.args.arms.now _ c.in-len1-up.len_at_least c.last-item.is) c.requires.is_open
    c.in_ok-behind.ensures.made c.in_ok-behind.ensures.number
    c.requires.homes c.in_ok-select_first_arms.ensures.ready
    c.in_ok-select_first_arms.ensures.chooses.extends c.in_ok-select_last_arm.ensures.ready
    c.in_ok-select_last_arm.ensures.joins.grows

pub select_if-returns-clause-hands_on : goal.select_if-returns-clause-hands_on
select_if-returns-clause-hands_on t c =
    hands_alone _ _ _ _ _ _ _ _ c.requires.is_open c.in_ok-behind.ensures.number
    c.in_ok-behind.ensures.made c.in_ok-select_first_arms.ensures.hands_on
    c.in_ok-select_last_arm.ensures.closes

pub select_if-returns-clause-text : goal.select_if-returns-clause-text
select_if-returns-clause-text t c =
    goes_end _ _ _ _ _ _ _ _ c.in_ok-push.ensures.ok
    (goes_is _ _ _ _ _ _ _ _
    (arms_end c.args.arms.now _ _ (depth_at c.args.ctx.now.code c.args.ctx.now.at.0)
    (is_last c.args.arms.now _ c.in-len1-up.len_at_least c.last-item.is))
    (text_alone _ _ c.in_ok-behind.behind _ _ _ _ _ c.requires.is_open c.in_ok-behind.ensures.made
    c.in_ok-behind.ensures.number (depths_of_arms (take_init c.args.arms.now))
    (end_depths c.last-item.result) _ _ c.in_ok-select_first_arms.ensures.text
    c.in_ok-select_last_arm.ensures.text))

pub select_first_arms-returns-then-left-lt2-clause-chooses :
    goal.select_first_arms-returns-then-left-lt2-clause-chooses
select_first_arms-returns-then-left-lt2-clause-chooses t c =
    c.loop-arm.invariant.4 _ _
    (arms_done c.args.setting.now _ _ _ (take_init c.args.arms.now) c.loop-arm.arm-index
    c.loop-arm.invariant.0 (past_init c.args.arms.now c.loop-arm.arm-index c.loop-arm.left
    c.loop-arm.invariant.9 c.if-left-lt2.true))

pub select_first_arms-returns-then-left-lt2-clause-counts :
    goal.select_first_arms-returns-then-left-lt2-clause-counts
select_first_arms-returns-then-left-lt2-clause-counts t c =
    c.loop-arm.invariant.5 _
    (arms_none (take_init c.args.arms.now) c.loop-arm.arm-index _
    (past_init c.args.arms.now c.loop-arm.arm-index c.loop-arm.left c.loop-arm.invariant.9
    c.if-left-lt2.true))

pub select_first_arms-returns-then-left-lt2-clause-ready :
    goal.select_first_arms-returns-then-left-lt2-clause-ready
select_first_arms-returns-then-left-lt2-clause-ready t c =
    c.loop-arm.invariant.6 _ _ (no_arms_ready c.args.setting.now _ _ _ _)

pub select_first_arms-returns-then-left-lt2-clause-text :
    goal.select_first_arms-returns-then-left-lt2-clause-text
select_first_arms-returns-then-left-lt2-clause-text t c = c.loop-arm.invariant.7 _ _ _
    (goes_is _ _ _ _ _ _ _ _
    (depths.arms_done (take_init c.args.arms.now) c.loop-arm.arm-index _
    (past_init c.args.arms.now c.loop-arm.arm-index c.loop-arm.left c.loop-arm.invariant.9
    c.if-left-lt2.true)) (goes_none _ _ _))

pub select_first_arms-returns-then-left-lt2-clause-hands_on :
    goal.select_first_arms-returns-then-left-lt2-clause-hands_on
select_first_arms-returns-then-left-lt2-clause-hands_on t c = c.loop-arm.invariant.8

pub select_first_arms-returns-clause-chooses : goal.select_first_arms-returns-clause-chooses
select_first_arms-returns-clause-chooses t c =
    c.loop-arm.invariant.4 _ _
    (arms_done c.args.setting.now _ _ _ (take_init c.args.arms.now) c.loop-arm.arm-index
    c.loop-arm.invariant.0 (past_all c.args.arms.now c.loop-arm.arm-index c.loop-arm-test.false))

pub select_first_arms-returns-clause-counts : goal.select_first_arms-returns-clause-counts
select_first_arms-returns-clause-counts t c =
    c.loop-arm.invariant.5 _
    (arms_none (take_init c.args.arms.now) c.loop-arm.arm-index _
    (past_all c.args.arms.now c.loop-arm.arm-index c.loop-arm-test.false))

pub select_first_arms-returns-clause-ready : goal.select_first_arms-returns-clause-ready
select_first_arms-returns-clause-ready t c =
    c.loop-arm.invariant.6 _ _ (no_arms_ready c.args.setting.now _ _ _ _)

pub select_first_arms-returns-clause-text : goal.select_first_arms-returns-clause-text
select_first_arms-returns-clause-text t c = c.loop-arm.invariant.7 _ _ _
    (goes_is _ _ _ _ _ _ _ _
    (depths.arms_done (take_init c.args.arms.now) c.loop-arm.arm-index _
    (past_all c.args.arms.now c.loop-arm.arm-index c.loop-arm-test.false)) (goes_none _ _ _))

pub select_first_arms-returns-clause-hands_on : goal.select_first_arms-returns-clause-hands_on
select_first_arms-returns-clause-hands_on t c = c.loop-arm.invariant.8

pub select_first_arms-loop-arm-init : goal.select_first_arms-loop-arm-init
select_first_arms-loop-arm-init t c = (
  c.requires.is_open,
  omega arith,
  c.requires.waits,
  c.requires.apart,
  λ new to m. m,
  λ new p. p,
  λ new to p. p,
  λ new to after p. p,
  hands_nothing _ _,
  omega arith,
)

pub select_first_arms-loop-arm-preserved : goal.select_first_arms-loop-arm-preserved
select_first_arms-loop-arm-preserved t c = (
  c.in_ok-select_arm.ensures.is_open,
  omega (arith, c.loop-arm.invariant.1, c.in_ok-select_arm.ensures.vars),
  c.in_ok-select_arm.ensures.waits,
  c.in_ok-select_arm.ensures.apart,
  λ new to m. c.loop-arm.invariant.4 new to
      (arms_more c.args.setting.now _ _ _ _ _ _ _ (take_init c.args.arms.now) c.loop-arm.arm-index _
      (in_init c.args.arms.now c.loop-arm.arm-index c.loop-arm.left c.loop-arm.invariant.9
      c.if-left-lt2.false) (item_in c.args.arms.now c.loop-arm.arm-index c.loop-arm.left _
      c.loop-arm.invariant.9 c.if-left-lt2.false c.arm-item.is) c.loop-arm.invariant.2
      c.in_ok-select_arm.ensures.waits c.in_ok-select_arm.ensures.guards m),
  λ new p. c.loop-arm.invariant.5 new
      (amounting.arms_more (take_init c.args.arms.now) c.loop-arm.arm-index _ _ _ new
      (in_init c.args.arms.now c.loop-arm.arm-index c.loop-arm.left c.loop-arm.invariant.9
      c.if-left-lt2.false) (item_in c.args.arms.now c.loop-arm.arm-index c.loop-arm.left _
      c.loop-arm.invariant.9 c.if-left-lt2.false c.arm-item.is) c.in_ok-select_arm.ensures.counts
      p),
  λ new to p. c.loop-arm.invariant.6 new to
      (more_arms_ready c.args.setting.now _ _ new _ _ to _ (take_init c.args.arms.now)
      c.loop-arm.arm-index _ (in_init c.args.arms.now c.loop-arm.arm-index c.loop-arm.left
      c.loop-arm.invariant.9 c.if-left-lt2.false)
      (item_in c.args.arms.now c.loop-arm.arm-index c.loop-arm.left _ c.loop-arm.invariant.9
      c.if-left-lt2.false c.arm-item.is) c.loop-arm.invariant.2.within
      c.in_ok-select_arm.ensures.guards.extends c.in_ok-select_arm.ensures.ready p),
  λ new to after p. c.loop-arm.invariant.7 new to after
      (goes_is _ _ _ _ _ _ _ _
      (arms_next (take_init c.args.arms.now) c.loop-arm.arm-index _
      (depth_at c.loop-arm.ctx.code c.loop-arm.ctx.at.0)
      (in_init c.args.arms.now c.loop-arm.arm-index c.loop-arm.left c.loop-arm.invariant.9
      c.if-left-lt2.false) (item_in c.args.arms.now c.loop-arm.arm-index c.loop-arm.left _
      c.loop-arm.invariant.9 c.if-left-lt2.false c.arm-item.is))
      (goes_more _ _ _ _ _ _ _ _ _ _
      (depths_of_arms (drop (c.loop-arm.arm-index + 1) (take_init c.args.arms.now)))
      c.in_ok-select_arm.ensures.text p)),
  hands_on _ _ _ _ _ _ c.loop-arm.invariant.8 c.in_ok-select_arm.ensures.hands_on,
  omega (arith, c.loop-arm.invariant.9, c.if-left-lt2.false),
)
