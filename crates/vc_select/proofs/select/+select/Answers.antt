use Rattle.std.proofs.Common.{◌≤◌, ◌<◌, length, refl, sym, ap, ◌∙◌, subst, arith}
use Rattle.ob_syntax.specs.declared.checked.RExpr.TheVariants as x
use Rattle.ob_mean.specs.Designators.{shape_of, array_length, element_type, field_types, field_type}
use Rattle.ob_mean.specs.Expressions.{value}
use Rattle.std.specs.Prelude.{slice_index}
use Rattle.vc_build.specs.Grow.{count}
use Rattle.vc_build.proofs.Open.{hands_declared, hands_nothing, hands_on}
use Rattle.vc_expr.specs.declared.branch.Targets.{Targets}
use Rattle.vc_select.specs.declared.target.Target.{Target}
use Rattle.vc_select.specs.Targets.{above_target, above_target_base, words_to_field, whole_of}
use Rattle.vc_select.proofs.Arms.{expr_number, expr_truth, expr_variable, expr_negate, expr_not}
use Rattle.vc_select.proofs.Arms.{expr_binary, test_binary, test_exchanged, step_field, step_index}
use Rattle.vc_select.proofs.Arms.{step_type_field, step_type_index, element_constant}
use Rattle.vc_select.proofs.Arms.{element_indexed, for_field, for_index, walk_begin, walk_on}
use Rattle.vc_select.proofs.Arms.{walk_done, variable_walked, above_shifted, above_base_shifted}
use Rattle.vc_select.proofs.Arms.{whole_shifted}
use Rattle.vc_select.proofs.Forms.{selects_as}
use Rattle.vc_select.proofs.Sides.{joined_sided}
use Rattle.vc_select.proofs.Conditions.{tests_as, tests_value, tests_relation}
use Rattle.vc_select.proofs.Walking.{above_root, above_base_within, whole_root, selects_both}
use Rattle.vc_select.proofs.Walking.{choice_holds, choice_fails, choice_waits, choice_target}
use Rattle.vc_select.proofs.Walking.{choice_plain, choice_behind, choice_no_entry, choice_selects}
use Rattle.vc_select.proofs.Walking.{split_holds, split_fails, split_waits, split_tests}
use Rattle.std.proofs.Common.{List}
use Rattle.ob_syntax.specs.declared.checked.RStep.{RStep}
use Rattle.vc_expr.specs.Counts.{AddsAtMost}
use Rattle.vc_expr.proofs.Counting.{adds_none, open_adds}
use Rattle.vc_select.specs.Certified.{StaysReadyFrom}
use Rattle.vc_typed.specs.Nodes.{nodes_in}
use Rattle.vc_typed.proofs.NodeEquations.{nodes-Number, nodes-Truth, nodes-Var}
use Rattle.vc_select.specs.Amounts.{path_nodes, AddsForPath}
use Rattle.vc_select.proofs.Nodes.{negate_nodes, not_nodes, binary_nodes, index_nodes, some_nodes}
use Rattle.vc_select.proofs.Nodes.{operation_most, value_adds, test_adds, one_node, loaded_adds}
use Rattle.vc_select.proofs.Nodes.{sides_add, choice_adds, value_test_adds, not_test_adds}
use Rattle.vc_select.proofs.Nodes.{relation_test_adds, split_test_adds, element_adds, path_adds}
use Rattle.vc_select.proofs.Nodes.{path_variable}
use Rattle.vc_select.specs.Blocks.{Needs, StaysInText, blocks_of_steps}
use Rattle.vc_select.proofs.NeedsOf.{needs-Number, needs-Truth, needs-Var, needs-Negate, needs-Not}
use Rattle.vc_select.proofs.NeedsOf.{needs-Field, needs-Index, needs_of_var-is, value_both}
use Rattle.vc_select.proofs.NeedsOf.{value_choice, test_split, test_both, test_value, steps_next}
use Rattle.vc_select.proofs.NeedsOf.{steps_done}
use Rattle.vc_select.proofs.InText.{text_as, ends_text_as, text_begin, text_end, ends_begin}
use Rattle.vc_select.proofs.InText.{text_none, text_declared, text_indexed, text_on, text_after}
use Rattle.vc_select.proofs.InText.{text_ends, text_split, text_chosen}
use Rattle.vc_select.proofs.Opens.{hands_after, closes_after, hands_indexed, hands_chosen}
use Rattle.vc_select.proofs.Opens.{closes_split}
use Rattle.vc_select.proofs.Ready.{one_ready, both_ready}
use Rattle.vc_select.proofs.ReadyTests.{exchanged_ready, split_ready}
use Rattle.vc_select.proofs.ReadyChoice.{choice_ready}
use Rattle.vc_select.proofs.ReadyTargets.{from_same, from_on, variable_ready, variable_cells}
use Rattle.vc_select.proofs.ReadyTargets.{element_ready, word_ready}
use Rattle.vc_select.proofs.ReadyArms.{constant_counts, constant_stays, negation_adds}
use Rattle.vc_select.proofs.ReadyArms.{inversion_adds, indexed_grows, shifted_ready, path_walk}
use Rattle.vc_select.proofs.ReadyArms.{value_ends, relation_ends, variable_as, path_as, ends_as}
use Rattle.vc_select.proofs.ReadyArms.{first_as}
use Rattle.vc_select.proofs.select.+select.Goals as goal

-- ---- expressions

pub select_expr-returns-in_ok-v-in-Number-clause-selects :
    goal.select_expr-returns-in_ok-v-in-Number-clause-selects
select_expr-returns-in_ok-v-in-Number-clause-selects t c =
    expr_number c.args.setting.now _ _ _ _ _ _ c.confirm_number.ensures c.requires.is_open
    c.in_ok-v-in-Number.ensures.made c.in_ok-v-in-Number.ensures.number
    c.in_ok-v-in-Number.ensures.fits

pub select_expr-returns-in_ok-v-in-Truth-clause-selects :
    goal.select_expr-returns-in_ok-v-in-Truth-clause-selects
select_expr-returns-in_ok-v-in-Truth-clause-selects t c =
    expr_truth c.args.setting.now _ _ _ _ _ _ c.in-Truth.is c.requires.is_open
    c.in_ok-v-in-Truth.ensures.made c.in_ok-v-in-Truth.ensures.number
    c.in_ok-v-in-Truth.ensures.fits

pub select_expr-returns-in_ok-v-in-Var-clause-selects :
    goal.select_expr-returns-in_ok-v-in-Var-clause-selects
select_expr-returns-in_ok-v-in-Var-clause-selects t c =
    expr_variable c.args.setting.now _ _ _ _ _ _ _ _ _ c.in-Var.is
    c.in_ok-target-in-Var.ensures.locates c.in_ok-v-in-Var.ensures.loads

pub select_expr-returns-in_ok-v-in-Negate-clause-selects :
    goal.select_expr-returns-in_ok-v-in-Negate-clause-selects
select_expr-returns-in_ok-v-in-Negate-clause-selects t c =
    expr_negate c.args.setting.now _ _ _ _ _ _ _ _ _ _
    (c.in-Negate.is ∙ ap x.Negate (sym c.get.ensures)) c.in_ok-first-in-Negate.ensures
    c.in_ok-operand-in-Negate.ensures.selects c.in_ok-v-in-Negate.ensures.converts

pub select_expr-returns-in_ok-v-in-Not-clause-selects :
    goal.select_expr-returns-in_ok-v-in-Not-clause-selects
select_expr-returns-in_ok-v-in-Not-clause-selects t c =
    expr_not c.args.setting.now _ _ _ _ _ _ _ _ _ _
    (c.in-Not.is ∙ ap x.Not (sym c.get-in-Not.ensures)) c.in_ok-first-in-Not.ensures
    c.in_ok-operand-in-Not.ensures.selects c.in_ok-v-in-Not.ensures.converts

pub select_expr-returns-in_ok-v-in-Binary-clause-selects :
    goal.select_expr-returns-in_ok-v-in-Binary-clause-selects
select_expr-returns-in_ok-v-in-Binary-clause-selects t c =
    expr_binary c.args.setting.now _ _ _ _ _ _ _ _ _ c.confirm_binary.ensures
    c.in_ok-v-in-Binary.ensures.selects

pub select_binary-returns-then-is_sided-clause-selects :
    goal.select_binary-returns-then-is_sided-clause-selects
select_binary-returns-then-is_sided-clause-selects t c =
    let p = c.args.setting.now.program.now in
    selects_as c.args.setting.now _ _ _ _ _ _ _ _ _ refl
    (λ calls store. c.is_sided.ensures.sided c.if-is_sided.true p (value p c.args.x.now) calls
    store) c.in_ok-v.ensures.selects

pub select_sides-returns-clause-selects : goal.select_sides-returns-clause-selects
select_sides-returns-clause-selects t c =
    selects_both c.args.op c.args.setting.now _ _ _ _ _ _ _ _ _ _ _ _ _ _ _ c.in_ok-first.ensures
    c.in_ok-left.ensures.named c.in_ok-left.ensures.selects c.in_ok-right.ensures.selects
    c.in_ok-v.ensures.operates

-- ---- `&` and OR over blocks

pub select_choice-confirm_targets-requires-clause-holds :
    goal.select_choice-confirm_targets-requires-clause-holds
select_choice-confirm_targets-requires-clause-holds t c =
    choice_holds c.args.op _ _ _ _ c.requires.is_open c.in_ok-choice.ensures.opens _
    c.test_of-targets.ensures

pub select_choice-confirm_targets-requires-clause-fails :
    goal.select_choice-confirm_targets-requires-clause-fails
select_choice-confirm_targets-requires-clause-fails t c =
    choice_fails c.args.op _ _ _ _ c.requires.is_open c.in_ok-choice.ensures.opens _
    c.test_of-targets.ensures

pub select_choice-confirm-requires : goal.select_choice-confirm-requires
select_choice-confirm-requires t c = choice_waits c.args.op _ _ _ _ c.requires.is_open
    c.in_ok-choice.ensures.opens c.args.setting.now _ _ _ _ c.in_ok-select_test.ensures.tests

pub select_choice-close_choice-requires-clause-target :
    goal.select_choice-close_choice-requires-clause-target
select_choice-close_choice-requires-clause-target t c =
    choice_target c.args.op _ _ _ _ c.requires.is_open c.in_ok-choice.ensures.opens
    c.args.setting.now _ _ _ _ c.in_ok-select_test.ensures.tests _ _ _ _ _ c.in_ok-v.ensures.selects

pub select_choice-close_choice-requires-clause-plain :
    goal.select_choice-close_choice-requires-clause-plain
select_choice-close_choice-requires-clause-plain t c =
    choice_plain c.args.op _ _ _ _ c.requires.is_open c.in_ok-choice.ensures.opens
    c.args.setting.now _ _ _ _ c.in_ok-select_test.ensures.tests _ _ _ _ _ c.in_ok-v.ensures.selects

pub select_choice-close_choice-requires-clause-behind :
    goal.select_choice-close_choice-requires-clause-behind
select_choice-close_choice-requires-clause-behind t c =
    choice_behind c.args.op _ _ _ _ c.requires.is_open c.in_ok-choice.ensures.opens
    c.args.setting.now _ _ _ _ c.in_ok-select_test.ensures.tests _ _ _ _ _ c.in_ok-v.ensures.selects

pub select_choice-close_choice-requires-clause-no_entry :
    goal.select_choice-close_choice-requires-clause-no_entry
select_choice-close_choice-requires-clause-no_entry t c =
    choice_no_entry c.args.op _ _ _ _ c.requires.is_open c.in_ok-choice.ensures.opens
    c.args.setting.now _ _ _ _ c.in_ok-select_test.ensures.tests _ _ _ _ _ c.in_ok-v.ensures.selects

pub select_choice-returns-clause-is_open : goal.select_choice-returns-clause-is_open
select_choice-returns-clause-is_open t c =
    (choice_selects c.args.op _ _ _ _ c.requires.is_open c.in_ok-choice.ensures.opens
    c.args.setting.now _ _ _ _ c.in_ok-select_test.ensures.tests _ _ _ _ _
    c.in_ok-v.ensures.selects c.requires.op c.test_of-targets.ensures _
    c.in_ok-close_choice.ensures.closes).extends.is_open

pub select_choice-returns-clause-named : goal.select_choice-returns-clause-named
select_choice-returns-clause-named t c =
    omega (
      arith,
      ap (λ z. length z) c.in_ok-close_choice.ensures.vars,
      choice_target c.args.op _ _ _ _ c.requires.is_open c.in_ok-choice.ensures.opens
          c.args.setting.now _ _ _ _ c.in_ok-select_test.ensures.tests _ _ _ _ _
          c.in_ok-v.ensures.selects,
    )

pub select_choice-returns-clause-selects : goal.select_choice-returns-clause-selects
select_choice-returns-clause-selects t c =
    choice_selects c.args.op _ _ _ _ c.requires.is_open c.in_ok-choice.ensures.opens
    c.args.setting.now _ _ _ _ c.in_ok-select_test.ensures.tests _ _ _ _ _
    c.in_ok-v.ensures.selects c.requires.op c.test_of-targets.ensures _
    c.in_ok-close_choice.ensures.closes

-- ---- variables

pub select_var-loop-step-init : goal.select_var-loop-step-init
select_var-loop-step-init t c =
    let g = c.args.setting.now in
    let low : above_target c.root_target-target.result ≤ length c.args.ctx.now.code.vars =
    subst (λ (z : Target). above_target z ≤ length c.args.ctx.now.code.vars)
    (sym c.root_target-target.ensures)
    (omega (
      arith,
      above_root g.program.now g.params.now g.locals.now g.id.0 c.args.v.now.root,
      c.requires.homes,
    )) in (
      c.requires.is_open,
      omega arith,
      low,
      omega (arith, low, above_base_within c.root_target-target.result, c.in_ok-first.ensures),
      λ new to end p. walk_begin g _ _ _ _ _ _ _ _ _ c.args.v.now c.root_target-target.ensures
          c.root_type-type_id.ensures c.as_slice-step-items.ensures p,
      omega arith,
      λ new p. subst (λ (l : List RStep). AddsForPath (path_nodes l) c.args.ctx.now.code new)
          c.as_slice-step-items.ensures p,
      subst (λ (z : Target). StaysReadyFrom g c.in_ok-first.first c.args.ctx.now.code
          c.args.ctx.now.code c.args.ctx.now.at.0 c.args.ctx.now.at.0 z c.root_target-target.result)
          c.root_target-target.ensures
          (from_same g c.in_ok-first.first c.args.ctx.now.code c.args.ctx.now.at.0
          c.root_target-target.result c.root_target-target.result (λ u e. e) (λ k e. e)),
      λ new to after p. subst (λ (l : List RStep). StaysInText (blocks_of_steps l)
          c.args.ctx.now.at.0 to c.args.ctx.now.code new c.args.ctx.now.order after)
          c.as_slice-step-items.ensures p,
      hands_nothing c.args.ctx.now.at.0 c.args.ctx.now.code,
      ap whole_of c.root_target-target.ensures ∙ whole_root g.program.now g.params.now g.locals.now
          g.id.0 c.args.v.now.root,
    )

pub select_var-loop-step-preserved : goal.select_var-loop-step-preserved
select_var-loop-step-preserved t c = (
  c.in_ok-reached.ensures.is_open,
  omega (arith, c.loop-step.invariant.1, c.in_ok-reached.ensures.vars),
  c.in_ok-reached.ensures.named,
  omega (arith, c.in_ok-reached.ensures.base, c.loop-step.invariant.3),
  λ new to end p. c.loop-step.invariant.4 new to end
      (walk_on c.args.setting.now _ _ _ _ _ _ _ _ _ _ _ _ _ _ c.step-item.result
      c.loop-step-test.true c.step-item.is c.in_ok-reached.ensures.type_after
      c.in_ok-reached.ensures.is_for c.in_ok-reached.ensures.leads p),
  omega (arith, c.loop-step.invariant.5, c.in_ok-reached.ensures.leads.extends.grows.grows.blocks),
  λ new p. c.loop-step.invariant.6 new
      (path_walk _ _ _ _ new c.step-item.result c.loop-step-test.true c.step-item.is
      c.in_ok-reached.ensures.counts p),
  from_on c.args.setting.now _ _ _ _ _ _ _ _ _ _ c.loop-step.invariant.5 c.loop-step.invariant.7
      c.in_ok-reached.ensures.ready,
  λ new to after p. c.loop-step.invariant.8 new to after
      (text_as _ _ _ _ _ _ _ _
      (steps_next _ _ c.step-item.result c.loop-step-test.true c.step-item.is)
      (text_on _ _ _ _ _ _ _ _ _ _ _ c.in_ok-reached.ensures.text p)),
  hands_on _ _ _ _ _ _ c.loop-step.invariant.9 c.in_ok-reached.ensures.hands_on,
  c.in_ok-reached.ensures.whole ∙ c.loop-step.invariant.10,
)

pub select_var-returns-clause-locates : goal.select_var-returns-clause-locates
select_var-returns-clause-locates t c =
    variable_walked c.args.setting.now c.in_ok-first.first _ _ _ _ _ c.args.v.now
    c.in_ok-first.ensures
    (c.loop-step.invariant.4 _ _ _
    (walk_done c.args.setting.now _ _ _ _ _ _ _ c.loop-step.invariant.0 c.loop-step-test.false))

-- ---- selectors

pub select_step-returns-in_ok-target-in-Field-clause-named :
    goal.select_step-returns-in_ok-target-in-Field-clause-named
select_step-returns-in_ok-target-in-Field-clause-named t c =
    omega (
      arith,
      ap above_target c.in_ok-target-in-Field.ensures,
      above_shifted c.in_ok-words-in-Field.words c.args.from.target,
      c.requires.named,
    )

pub select_step-returns-in_ok-target-in-Field-clause-base :
    goal.select_step-returns-in_ok-target-in-Field-clause-base
select_step-returns-in_ok-target-in-Field-clause-base t c =
    ap above_target_base c.in_ok-target-in-Field.ensures
    ∙ above_base_shifted c.in_ok-words-in-Field.words c.args.from.target

pub select_step-returns-in_ok-target-in-Field-clause-type_after :
    goal.select_step-returns-in_ok-target-in-Field-clause-type_after
select_step-returns-in_ok-target-in-Field-clause-type_after t c =
    step_type_field c.args.setting.now c.args.from.type_id c.in-Field.k _ c.args.step.now
    c.in-Field.is (c.field_type-type_id.ensures
    ∙ ap (λ z. field_type (shape_of z c.args.from.type_id) c.in-Field.k)
    c.as_slice-shapes.ensures)

pub select_step-returns-in_ok-target-in-Field-clause-is_for :
    goal.select_step-returns-in_ok-target-in-Field-clause-is_for
select_step-returns-in_ok-target-in-Field-clause-is_for t c =
    λ calls store. for_field c.args.setting.now c.in-Field.k c.args.step.now c.in-Field.is calls
    store

pub select_step-returns-in_ok-target-in-Field-clause-leads :
    goal.select_step-returns-in_ok-target-in-Field-clause-leads
select_step-returns-in_ok-target-in-Field-clause-leads t c =
    step_field c.args.setting.now _ _ _ _ _ _ _ _ c.args.step.now c.in-Field.is c.requires.is_open
    (c.in_ok-words-in-Field.ensures
    ∙ ap (λ z. words_to_field c.args.setting.now.words.now z c.in-Field.k)
    (c.field_types.ensures ∙ ap (λ z. field_types (shape_of z c.args.from.type_id))
    c.as_slice-shapes.ensures))
    c.in_ok-target-in-Field.ensures

pub select_step-returns-in_ok-target-in-Index-clause-type_after :
    goal.select_step-returns-in_ok-target-in-Index-clause-type_after
select_step-returns-in_ok-target-in-Index-clause-type_after t c =
    step_type_index c.args.setting.now c.args.from.type_id _ c.in-Index.x c.args.step.now
    c.in-Index.is (c.element_type-type_id.ensures
    ∙ ap (λ z. element_type (shape_of z c.args.from.type_id)) c.as_slice-shapes.ensures)

pub select_step-returns-in_ok-target-in-Index-clause-is_for :
    goal.select_step-returns-in_ok-target-in-Index-clause-is_for
select_step-returns-in_ok-target-in-Index-clause-is_for t c =
    λ calls store. for_index c.args.setting.now c.in-Index.x c.args.step.now c.in-Index.is calls
    store

pub select_step-returns-in_ok-target-in-Index-clause-leads :
    goal.select_step-returns-in_ok-target-in-Index-clause-leads
select_step-returns-in_ok-target-in-Index-clause-leads t c =
    step_index c.args.setting.now _ _ _ _ _ _ _ _ c.in-Index.x c.args.step.now c.in-Index.is
    c.in_ok-target-in-Index.ensures.leads

-- ---- elements

pub select_element-returns-in-Some-clause-leads : goal.select_element-returns-in-Some-clause-leads
select_element-returns-in-Some-clause-leads t c =
    element_constant c.args.setting.now _ _ _ _ _ _ _ _ _ _ c.args.x.now c.requires.is_open
    (c.array_length-count.ensures ∙ ap (λ z. array_length (shape_of z c.args.from.type_id))
    c.as_slice-shapes.ensures)
    (c.words_at-words.ensures ∙ ap (slice_index c.args.setting.now.words.now)
    (c.element_type.ensures ∙ ap (λ z. element_type (shape_of z c.args.from.type_id))
    c.as_slice-shapes.ensures))
    c.in-Some.ensures.below c.in-Some.ensures.means c.in_ok-words_before.ensures
    c.in_ok-target.ensures

pub select_element-returns-clause-leads : goal.select_element-returns-clause-leads
select_element-returns-clause-leads t c =
    element_indexed c.args.setting.now _ _ _ _ _ _ _ _ _ _ _ _ c.args.x.now c.requires.first
    c.requires.base c.requires.named
    (c.array_length-count.ensures ∙ ap (λ z. array_length (shape_of z c.args.from.type_id))
    c.as_slice-shapes.ensures)
    (c.words_at-words.ensures ∙ ap (slice_index c.args.setting.now.words.now)
    (c.element_type.ensures ∙ ap (λ z. element_type (shape_of z c.args.from.type_id))
    c.as_slice-shapes.ensures))
    c.in_ok-variable.ensures.selects c.in_ok-target-2.ensures.indexed

-- ---- conditions

pub select_test-confirm_targets-requires-clause-holds :
    goal.select_test-confirm_targets-requires-clause-holds
select_test-confirm_targets-requires-clause-holds t c =
    subst (λ (z : Targets). z.holds.0 < count c.args.ctx.now.code) (sym c.exchanged-other.ensures)
    c.requires.fails

pub select_test-confirm_targets-requires-clause-fails :
    goal.select_test-confirm_targets-requires-clause-fails
select_test-confirm_targets-requires-clause-fails t c =
    subst (λ (z : Targets). z.fails.0 < count c.args.ctx.now.code) (sym c.exchanged-other.ensures)
    c.requires.holds

pub select_test-returns-in_ok-select_test-in-Not-clause-tests :
    goal.select_test-returns-in_ok-select_test-in-Not-clause-tests
select_test-returns-in_ok-select_test-in-Not-clause-tests t c =
    test_exchanged c.args.setting.now _ _ _ _ _ _ _ (c.in-Not.is ∙ ap x.Not (sym c.get.ensures))
    c.exchanged-other.ensures c.in_ok-select_test-in-Not.ensures.tests

pub select_test-returns-in_ok-select_binary_test-in-Binary-clause-tests :
    goal.select_test-returns-in_ok-select_binary_test-in-Binary-clause-tests
select_test-returns-in_ok-select_binary_test-in-Binary-clause-tests t c =
    test_binary c.args.setting.now _ _ _ _ _ _ _ _ c.confirm_binary.ensures
    c.in_ok-select_binary_test-in-Binary.ensures.tests

pub select_test-branch_on-requires-clause-holds : goal.select_test-branch_on-requires-clause-holds
select_test-branch_on-requires-clause-holds t c =
    omega (arith, c.requires.holds, c.in_ok-v-in_default.ensures.selects.extends.grows.grows.blocks)

pub select_test-branch_on-requires-clause-fails : goal.select_test-branch_on-requires-clause-fails
select_test-branch_on-requires-clause-fails t c =
    omega (arith, c.requires.fails, c.in_ok-v-in_default.ensures.selects.extends.grows.grows.blocks)

pub select_test-returns-in_ok-branch_on-in_default-clause-blocks :
    goal.select_test-returns-in_ok-branch_on-in_default-clause-blocks
select_test-returns-in_ok-branch_on-in_default-clause-blocks t c =
    omega (
      arith,
      c.in_ok-v-in_default.ensures.selects.extends.grows.grows.blocks,
      c.in_ok-branch_on-in_default.ensures.branches.grows.grows.blocks,
    )

pub select_test-returns-in_ok-branch_on-in_default-clause-tests :
    goal.select_test-returns-in_ok-branch_on-in_default-clause-tests
select_test-returns-in_ok-branch_on-in_default-clause-tests t c =
    tests_value c.args.setting.now _ _ _ _ _ _ _ _ _ c.in_ok-v-in_default.ensures.selects
    c.in_ok-branch_on-in_default.ensures.branches

pub select_binary_test-returns-then-is_relation-clause-tests :
    goal.select_binary_test-returns-then-is_relation-clause-tests
select_binary_test-returns-then-is_relation-clause-tests t c =
    let p = c.args.setting.now.program.now in
    tests_as c.args.setting.now _ _ _ _ _ _ _ _ refl
    (λ calls store. joined_sided (value p c.args.x.now) (value p c.args.y.now) calls store
    c.args.op (sym c.is_bitwise.ensures ∙ c.if-is_bitwise.false))
    c.in_ok-select_relation_test.ensures.tests

pub select_binary_test-branch_on-requires-clause-holds :
    goal.select_binary_test-branch_on-requires-clause-holds
select_binary_test-branch_on-requires-clause-holds t c =
    omega (arith, c.requires.holds, c.in_ok-v.ensures.selects.extends.grows.grows.blocks)

pub select_binary_test-branch_on-requires-clause-fails :
    goal.select_binary_test-branch_on-requires-clause-fails
select_binary_test-branch_on-requires-clause-fails t c =
    omega (arith, c.requires.fails, c.in_ok-v.ensures.selects.extends.grows.grows.blocks)

pub select_binary_test-returns-clause-blocks : goal.select_binary_test-returns-clause-blocks
select_binary_test-returns-clause-blocks t c =
    omega (
      arith,
      c.in_ok-v.ensures.selects.extends.grows.grows.blocks,
      c.in_ok-branch_on.ensures.branches.grows.grows.blocks,
    )

pub select_binary_test-returns-clause-tests : goal.select_binary_test-returns-clause-tests
select_binary_test-returns-clause-tests t c =
    let p = c.args.setting.now.program.now in
    tests_as c.args.setting.now _ _ _ _ _ _ _ _ refl
    (λ calls store. joined_sided (value p c.args.x.now) (value p c.args.y.now) calls store
    c.args.op (sym c.is_bitwise.ensures ∙ c.if-is_bitwise.false))
    (tests_value c.args.setting.now _ _ _ _ _ _ _ _ _ c.in_ok-v.ensures.selects
    c.in_ok-branch_on.ensures.branches)

pub select_relation_test-branch_by-requires-clause-holds :
    goal.select_relation_test-branch_by-requires-clause-holds
select_relation_test-branch_by-requires-clause-holds t c =
    omega (
      arith,
      c.requires.holds,
      c.in_ok-left.ensures.selects.extends.grows.grows.blocks,
      c.in_ok-right.ensures.selects.extends.grows.grows.blocks,
    )

pub select_relation_test-branch_by-requires-clause-fails :
    goal.select_relation_test-branch_by-requires-clause-fails
select_relation_test-branch_by-requires-clause-fails t c =
    omega (
      arith,
      c.requires.fails,
      c.in_ok-left.ensures.selects.extends.grows.grows.blocks,
      c.in_ok-right.ensures.selects.extends.grows.grows.blocks,
    )

pub select_relation_test-returns-clause-blocks : goal.select_relation_test-returns-clause-blocks
select_relation_test-returns-clause-blocks t c =
    omega (
      arith,
      c.in_ok-left.ensures.selects.extends.grows.grows.blocks,
      c.in_ok-right.ensures.selects.extends.grows.grows.blocks,
      c.in_ok-branch_by.ensures.branches.grows.grows.blocks,
    )

pub select_relation_test-returns-clause-tests : goal.select_relation_test-returns-clause-tests
select_relation_test-returns-clause-tests t c =
    tests_relation c.args.op c.args.setting.now _ _ _ _ _ _ _ _ _ _ _ _ _ _
    c.in_ok-left.ensures.named c.in_ok-left.ensures.selects c.in_ok-right.ensures.selects
    c.in_ok-branch_by.ensures.branches

pub select_split_test-confirm_targets-requires-clause-holds :
    goal.select_split_test-confirm_targets-requires-clause-holds
select_split_test-confirm_targets-requires-clause-holds t c =
    split_holds c.args.op _ _ _ _ _ c.args.targets c.requires.is_open c.in_ok-right.ensures.made
    c.in_ok-right.ensures.number _ c.inner_targets-inner.ensures c.requires.holds
    c.requires.fails

pub select_split_test-confirm_targets-requires-clause-fails :
    goal.select_split_test-confirm_targets-requires-clause-fails
select_split_test-confirm_targets-requires-clause-fails t c =
    split_fails c.args.op _ _ _ _ _ c.args.targets c.requires.is_open c.in_ok-right.ensures.made
    c.in_ok-right.ensures.number _ c.inner_targets-inner.ensures c.requires.holds
    c.requires.fails

pub select_split_test-confirm-requires : goal.select_split_test-confirm-requires
select_split_test-confirm-requires t c =
    split_waits c.args.op _ _ _ _ _ c.args.targets c.requires.is_open c.in_ok-right.ensures.made
    c.in_ok-right.ensures.number c.args.setting.now _ _ _ _ c.in_ok-select_test.ensures.tests

pub select_split_test-returns-clause-tests : goal.select_split_test-returns-clause-tests
select_split_test-returns-clause-tests t c =
    split_tests c.args.op _ _ _ _ _ c.args.targets c.requires.is_open c.in_ok-right.ensures.made
    c.in_ok-right.ensures.number c.args.setting.now _ _ _ _ c.in_ok-select_test.ensures.tests
    c.requires.op c.inner_targets-inner.ensures _ _ _ c.in_ok-select_test-2.ensures.tests

-- ---- what the code keeps

pub select_expr-returns-in_ok-v-in-Number-clause-counts :
    goal.select_expr-returns-in_ok-v-in-Number-clause-counts
select_expr-returns-in_ok-v-in-Number-clause-counts t c =
    value_adds _ 1 _ _ (ap nodes_in c.confirm_number.ensures ∙ nodes-Number _)
    (one_node 0 0 1 _ _ (omega arith) (omega arith) (omega arith)
    (constant_counts c.args.setting.now _ _ 0 0 _ c.in_ok-v-in-Number.ensures.made))

pub select_expr-returns-in_ok-v-in-Number-clause-ready :
    goal.select_expr-returns-in_ok-v-in-Number-clause-ready
select_expr-returns-in_ok-v-in-Number-clause-ready t c = constant_stays c.args.setting.now _ _ _ _ _
    c.in_ok-v-in-Number.ensures.made c.in_ok-v-in-Number.ensures.number c.requires.homes

pub select_expr-returns-in_ok-v-in-Truth-clause-counts :
    goal.select_expr-returns-in_ok-v-in-Truth-clause-counts
select_expr-returns-in_ok-v-in-Truth-clause-counts t c =
    value_adds _ 1 _ _ (ap nodes_in c.in-Truth.is ∙ nodes-Truth _)
    (one_node 0 0 1 _ _ (omega arith) (omega arith) (omega arith)
    (constant_counts c.args.setting.now _ _ 0 0 _ c.in_ok-v-in-Truth.ensures.made))

pub select_expr-returns-in_ok-v-in-Truth-clause-ready :
    goal.select_expr-returns-in_ok-v-in-Truth-clause-ready
select_expr-returns-in_ok-v-in-Truth-clause-ready t c = constant_stays c.args.setting.now _ _ _ _ _
    c.in_ok-v-in-Truth.ensures.made c.in_ok-v-in-Truth.ensures.number c.requires.homes

pub select_expr-returns-in_ok-v-in-Var-clause-counts :
    goal.select_expr-returns-in_ok-v-in-Var-clause-counts
select_expr-returns-in_ok-v-in-Var-clause-counts t c = loaded_adds _ _ _ _ (some_nodes c.args.e.now)
    (variable_as _ _ _ _ (ap nodes_in c.in-Var.is ∙ nodes-Var _)
    c.in_ok-target-in-Var.ensures.counts) c.in_ok-v-in-Var.ensures.counts

pub select_expr-returns-in_ok-v-in-Var-clause-ready :
    goal.select_expr-returns-in_ok-v-in-Var-clause-ready
select_expr-returns-in_ok-v-in-Var-clause-ready t c = word_ready c.args.setting.now _ _ _ _ _ _ _
    c.requires.homes c.in_ok-target-in-Var.ensures.ready c.in_ok-target-in-Var.ensures.cells
    c.in_ok-target-in-Var.ensures.locates.extends.grows.grows
    c.in_ok-v-in-Var.ensures.loads.grows.grows c.in_ok-v-in-Var.ensures.counts.params
    c.in_ok-v-in-Var.ensures.reads

pub select_expr-returns-in_ok-v-in-Negate-clause-counts :
    goal.select_expr-returns-in_ok-v-in-Negate-clause-counts
select_expr-returns-in_ok-v-in-Negate-clause-counts t c =
    value_adds _ _ _ _ (negate_nodes _ _ (c.in-Negate.is ∙ ap x.Negate (sym c.get.ensures)))
    (negation_adds _ _ _ _ _ _ (some_nodes _) c.in_ok-operand-in-Negate.ensures.counts
    c.in_ok-v-in-Negate.ensures.counts)

pub select_expr-returns-in_ok-v-in-Negate-clause-ready :
    goal.select_expr-returns-in_ok-v-in-Negate-clause-ready
select_expr-returns-in_ok-v-in-Negate-clause-ready t c = one_ready c.args.setting.now _ _ _ _ _ _ _
    _ c.in_ok-first-in-Negate.ensures c.requires.homes c.in_ok-operand-in-Negate.ensures.ready
    c.in_ok-operand-in-Negate.ensures.selects.extends.grows.grows.blocks
    c.in_ok-v-in-Negate.ensures.converts.adds.grows.grows c.in_ok-v-in-Negate.ensures.counts.params
    c.in_ok-v-in-Negate.ensures.valid c.in_ok-v-in-Negate.ensures.converts.adds.above
    c.in_ok-v-in-Negate.ensures.reads

pub select_expr-returns-in_ok-v-in-Not-clause-counts :
    goal.select_expr-returns-in_ok-v-in-Not-clause-counts
select_expr-returns-in_ok-v-in-Not-clause-counts t c =
    value_adds _ _ _ _ (not_nodes _ _ (c.in-Not.is ∙ ap x.Not (sym c.get-in-Not.ensures)))
    (inversion_adds _ _ _ _ _ _ (some_nodes _) c.in_ok-operand-in-Not.ensures.counts
    c.in_ok-v-in-Not.ensures.counts)

pub select_expr-returns-in_ok-v-in-Not-clause-ready :
    goal.select_expr-returns-in_ok-v-in-Not-clause-ready
select_expr-returns-in_ok-v-in-Not-clause-ready t c = one_ready c.args.setting.now _ _ _ _ _ _ _ _
    c.in_ok-first-in-Not.ensures c.requires.homes c.in_ok-operand-in-Not.ensures.ready
    c.in_ok-operand-in-Not.ensures.selects.extends.grows.grows.blocks
    c.in_ok-v-in-Not.ensures.converts.adds.grows.grows c.in_ok-v-in-Not.ensures.counts.params
    c.in_ok-v-in-Not.ensures.valid c.in_ok-v-in-Not.ensures.converts.adds.above
    c.in_ok-v-in-Not.ensures.reads

pub select_expr-returns-in_ok-v-in-Binary-clause-counts :
    goal.select_expr-returns-in_ok-v-in-Binary-clause-counts
select_expr-returns-in_ok-v-in-Binary-clause-counts t c =
    value_adds _ _ _ _ (binary_nodes _ _ _ _ c.confirm_binary.ensures)
    c.in_ok-v-in-Binary.ensures.counts

pub select_sides-returns-clause-counts : goal.select_sides-returns-clause-counts
select_sides-returns-clause-counts t c = sides_add _ _ _ _ _ _ (some_nodes c.args.x.now)
    (some_nodes c.args.y.now) c.in_ok-left.ensures.counts c.in_ok-right.ensures.counts
    (operation_most 6 3 1 _ _ _ _ c.in_ok-v.ensures.counts)

pub select_sides-returns-clause-ready : goal.select_sides-returns-clause-ready
select_sides-returns-clause-ready t c = both_ready c.args.setting.now _ _ _ _ _ _ _ _ _ _ _
    c.in_ok-first.ensures c.requires.homes c.in_ok-left.ensures.named c.in_ok-left.ensures.ready
    c.in_ok-right.ensures.ready c.in_ok-left.ensures.selects.extends.grows.grows
    c.in_ok-right.ensures.selects.extends.grows.grows c.in_ok-v.ensures.operates.adds.grows.grows
    c.in_ok-v.ensures.counts.params c.in_ok-v.ensures.valid c.in_ok-v.ensures.operates.adds.above
    c.in_ok-v.ensures.reads

pub select_choice-returns-clause-counts : goal.select_choice-returns-clause-counts
select_choice-returns-clause-counts t c = choice_adds _ _ _ _ _ _ _ (some_nodes c.args.x.now)
    (some_nodes c.args.y.now) c.in_ok-choice.ensures.counts c.in_ok-select_test.ensures.counts
    c.in_ok-v.ensures.counts c.in_ok-close_choice.ensures.counts

pub select_choice-returns-clause-ready : goal.select_choice-returns-clause-ready
select_choice-returns-clause-ready t c =
    choice_ready c.args.setting.now c.args.op _ _ _ _ _ _ _ _ _ c.requires.is_open c.requires.homes
    c.in_ok-choice.ensures.opens c.in_ok-choice.ensures.counts.params
    c.in_ok-choice.ensures.valid c.in_ok-choice.ensures.reads
    (ends_as c.args.setting.now _ _ _ _ _ c.test_of-targets.ensures
    c.in_ok-select_test.ensures.ready) c.in_ok-select_test.ensures.tests.grows
    c.in_ok-select_test.ensures.counts.params
    c.in_ok-v.ensures.ready c.in_ok-v.ensures.selects.extends.grows c.in_ok-v.ensures.counts.params
    c.in_ok-v.ensures.selects.extends.apart c.in_ok-close_choice.ensures.closes.grows
    c.in_ok-close_choice.ensures.counts.params c.in_ok-close_choice.ensures.valid
    c.in_ok-close_choice.ensures.reads

pub select_var-returns-clause-counts : goal.select_var-returns-clause-counts
select_var-returns-clause-counts t c = path_variable c.args.v.now _ _
    (c.loop-step.invariant.6 _ (path_adds _ _ _ (adds_none _)))

pub select_var-returns-clause-ready : goal.select_var-returns-clause-ready
select_var-returns-clause-ready t c =
    first_as c.args.setting.now _ _ _ _ _ _ _ c.in_ok-first.ensures
    (variable_ready c.args.setting.now _ _ _ _ _ c.args.v.now.root _ c.loop-step.invariant.7)

pub select_var-returns-clause-cells : goal.select_var-returns-clause-cells
select_var-returns-clause-cells t c = variable_cells c.args.setting.now _ _ _ _ _ c.args.v.now.root
    _ c.loop-step.invariant.7

pub select_var-returns-clause-whole : goal.select_var-returns-clause-whole
select_var-returns-clause-whole t c = c.loop-step.invariant.10

pub select_step-returns-in_ok-target-in-Field-clause-whole :
    goal.select_step-returns-in_ok-target-in-Field-clause-whole
select_step-returns-in_ok-target-in-Field-clause-whole t c =
    ap whole_of c.in_ok-target-in-Field.ensures ∙ whole_shifted c.in_ok-words-in-Field.words
    c.args.from.target

pub select_step-returns-in_ok-target-in-Field-clause-counts :
    goal.select_step-returns-in_ok-target-in-Field-clause-counts
select_step-returns-in_ok-target-in-Field-clause-counts t c = path_adds _ _ _ (adds_none _)

pub select_step-returns-in_ok-target-in-Field-clause-ready :
    goal.select_step-returns-in_ok-target-in-Field-clause-ready
select_step-returns-in_ok-target-in-Field-clause-ready t c =
    shifted_ready c.args.setting.now _ _ _ _ _ _ c.in_ok-target-in-Field.ensures

pub select_step-returns-in_ok-target-in-Index-clause-counts :
    goal.select_step-returns-in_ok-target-in-Index-clause-counts
select_step-returns-in_ok-target-in-Index-clause-counts t c =
    path_as _ _ _ _ (index_nodes _ _ c.in-Index.is) c.in_ok-target-in-Index.ensures.counts

pub select_element-returns-in-Some-clause-counts : goal.select_element-returns-in-Some-clause-counts
select_element-returns-in-Some-clause-counts t c = path_adds _ _ _ (adds_none _)

pub select_element-returns-in-Some-clause-ready : goal.select_element-returns-in-Some-clause-ready
select_element-returns-in-Some-clause-ready t c = shifted_ready c.args.setting.now _ _ _ _ _ _
    c.in_ok-target.ensures

pub select_element-returns-clause-counts : goal.select_element-returns-clause-counts
select_element-returns-clause-counts t c = element_adds _ _ _ _ (some_nodes c.args.x.now)
    c.in_ok-variable.ensures.counts c.in_ok-target-2.ensures.counts

pub select_element-returns-clause-ready : goal.select_element-returns-clause-ready
select_element-returns-clause-ready t c = element_ready c.args.setting.now _ _ _ _ _ _ _ _ _
    c.requires.homes c.requires.first c.requires.named c.in_ok-variable.ensures.ready
    c.in_ok-variable.ensures.selects.extends.grows.grows
    (indexed_grows _ _ _ _ _ _ _ _ _ c.in_ok-target-2.ensures.indexed)
    c.in_ok-target-2.ensures.counts.params c.in_ok-target-2.ensures.valid
    (c.in_ok-target-2.ensures.reads c.requires.base)

pub select_test-returns-in_ok-select_test-in-Not-clause-counts :
    goal.select_test-returns-in_ok-select_test-in-Not-clause-counts
select_test-returns-in_ok-select_test-in-Not-clause-counts t c =
    test_adds _ _ _ _ (not_nodes _ _ (c.in-Not.is ∙ ap x.Not (sym c.get.ensures)))
    (not_test_adds _ _ _ c.in_ok-select_test-in-Not.ensures.counts)

pub select_test-returns-in_ok-select_test-in-Not-clause-ready :
    goal.select_test-returns-in_ok-select_test-in-Not-clause-ready
select_test-returns-in_ok-select_test-in-Not-clause-ready t c =
    exchanged_ready c.args.setting.now _ _ _ c.args.targets
    (ends_as c.args.setting.now _ _ _ _ _ c.exchanged-other.ensures
    c.in_ok-select_test-in-Not.ensures.ready)

pub select_test-returns-in_ok-select_binary_test-in-Binary-clause-counts :
    goal.select_test-returns-in_ok-select_binary_test-in-Binary-clause-counts
select_test-returns-in_ok-select_binary_test-in-Binary-clause-counts t c =
    test_adds _ _ _ _ (binary_nodes _ _ _ _ c.confirm_binary.ensures)
    c.in_ok-select_binary_test-in-Binary.ensures.counts

pub select_test-returns-in_ok-branch_on-in_default-clause-counts :
    goal.select_test-returns-in_ok-branch_on-in_default-clause-counts
select_test-returns-in_ok-branch_on-in_default-clause-counts t c =
    value_test_adds _ _ _ _ (some_nodes c.args.e.now) c.in_ok-v-in_default.ensures.counts
    c.in_ok-branch_on-in_default.ensures.counts

pub select_test-returns-in_ok-branch_on-in_default-clause-ready :
    goal.select_test-returns-in_ok-branch_on-in_default-clause-ready
select_test-returns-in_ok-branch_on-in_default-clause-ready t c =
    value_ends _ _ _ _ _ c.in_ok-v-in_default.ensures.selects.extends
    c.in_ok-branch_on-in_default.ensures.branches.grows c.args.setting.now _ c.args.targets
    c.requires.homes c.in_ok-v-in_default.ensures.ready c.in_ok-v-in_default.ensures.counts.params
    c.in_ok-branch_on-in_default.ensures.counts.params c.in_ok-branch_on-in_default.ensures.valid
    c.in_ok-branch_on-in_default.ensures.reads c.requires.holds c.requires.fails

pub select_binary_test-returns-clause-counts : goal.select_binary_test-returns-clause-counts
select_binary_test-returns-clause-counts t c =
    value_test_adds _ _ _ _ (omega arith) c.in_ok-v.ensures.counts c.in_ok-branch_on.ensures.counts

pub select_binary_test-returns-clause-ready : goal.select_binary_test-returns-clause-ready
select_binary_test-returns-clause-ready t c = value_ends _ _ _ _ _ c.in_ok-v.ensures.selects.extends
    c.in_ok-branch_on.ensures.branches.grows c.args.setting.now _ c.args.targets c.requires.homes
    c.in_ok-v.ensures.ready c.in_ok-v.ensures.counts.params c.in_ok-branch_on.ensures.counts.params
    c.in_ok-branch_on.ensures.valid c.in_ok-branch_on.ensures.reads c.requires.holds
    c.requires.fails

pub select_relation_test-returns-clause-counts : goal.select_relation_test-returns-clause-counts
select_relation_test-returns-clause-counts t c = relation_test_adds _ _ _ _ _ _
    (some_nodes c.args.x.now) (some_nodes c.args.y.now) c.in_ok-left.ensures.counts
    c.in_ok-right.ensures.counts c.in_ok-branch_by.ensures.counts

pub select_relation_test-returns-clause-ready : goal.select_relation_test-returns-clause-ready
select_relation_test-returns-clause-ready t c = relation_ends c.args.setting.now _ _ _ _ _ _ _ _ _
    c.args.targets c.in_ok-left.ensures.selects.extends c.in_ok-right.ensures.selects.extends
    c.in_ok-branch_by.ensures.branches.grows c.requires.homes c.in_ok-left.ensures.named
    c.in_ok-left.ensures.ready c.in_ok-right.ensures.ready c.in_ok-left.ensures.counts.params
    c.in_ok-right.ensures.counts.params c.in_ok-branch_by.ensures.counts.params
    c.in_ok-branch_by.ensures.valid c.in_ok-branch_by.ensures.reads c.requires.holds
    c.requires.fails

pub select_split_test-returns-clause-counts : goal.select_split_test-returns-clause-counts
select_split_test-returns-clause-counts t c = split_test_adds _ _ _ _ _ _ (some_nodes c.args.x.now)
    (some_nodes c.args.y.now)
    (subst (AddsAtMost 0 0 0 1 _) (sym c.in_ok-right.ensures.made) (open_adds _ _))
    c.in_ok-select_test.ensures.counts c.in_ok-select_test-2.ensures.counts

pub select_split_test-returns-clause-ready : goal.select_split_test-returns-clause-ready
select_split_test-returns-clause-ready t c =
    split_ready c.args.setting.now c.args.op _ _ _ _ _ _ _ c.args.targets c.requires.is_open
    c.in_ok-right.ensures.made c.in_ok-right.ensures.number c.requires.homes c.requires.holds
    c.requires.fails
    (ends_as c.args.setting.now _ _ _ _ _ c.inner_targets-inner.ensures
    c.in_ok-select_test.ensures.ready) c.in_ok-select_test.ensures.tests.grows
    c.in_ok-select_test.ensures.counts.params c.in_ok-select_test-2.ensures.ready
    c.in_ok-select_test-2.ensures.tests.grows c.in_ok-select_test-2.ensures.counts.params

-- ---- how many blocks are open

pub select_expr-returns-in_ok-v-in-Number-clause-hands_on :
    goal.select_expr-returns-in_ok-v-in-Number-clause-hands_on
select_expr-returns-in_ok-v-in-Number-clause-hands_on t c =
    hands_declared _ _ _ _ c.in_ok-v-in-Number.ensures.made

pub select_expr-returns-in_ok-v-in-Truth-clause-hands_on :
    goal.select_expr-returns-in_ok-v-in-Truth-clause-hands_on
select_expr-returns-in_ok-v-in-Truth-clause-hands_on t c =
    hands_declared _ _ _ _ c.in_ok-v-in-Truth.ensures.made

pub select_expr-returns-in_ok-v-in-Var-clause-hands_on :
    goal.select_expr-returns-in_ok-v-in-Var-clause-hands_on
select_expr-returns-in_ok-v-in-Var-clause-hands_on t c =
    hands_after _ _ _ _ _ c.in_ok-target-in-Var.ensures.hands_on
    c.in_ok-v-in-Var.ensures.loads.grows (omega (arith, c.in_ok-v-in-Var.ensures.counts.blocks))
    c.in_ok-target-in-Var.ensures.is_open c.in_ok-v-in-Var.ensures.loads.is_open

pub select_expr-returns-in_ok-v-in-Negate-clause-hands_on :
    goal.select_expr-returns-in_ok-v-in-Negate-clause-hands_on
select_expr-returns-in_ok-v-in-Negate-clause-hands_on t c =
    hands_after _ _ _ _ _ c.in_ok-operand-in-Negate.ensures.hands_on
    c.in_ok-v-in-Negate.ensures.converts.adds.grows
    (omega (arith, c.in_ok-v-in-Negate.ensures.counts.blocks))
    c.in_ok-operand-in-Negate.ensures.is_open c.in_ok-v-in-Negate.ensures.converts.adds.is_open

pub select_expr-returns-in_ok-v-in-Not-clause-hands_on :
    goal.select_expr-returns-in_ok-v-in-Not-clause-hands_on
select_expr-returns-in_ok-v-in-Not-clause-hands_on t c =
    hands_after _ _ _ _ _ c.in_ok-operand-in-Not.ensures.hands_on
    c.in_ok-v-in-Not.ensures.converts.adds.grows
    (omega (arith, c.in_ok-v-in-Not.ensures.counts.blocks)) c.in_ok-operand-in-Not.ensures.is_open
    c.in_ok-v-in-Not.ensures.converts.adds.is_open

pub select_sides-returns-clause-hands_on : goal.select_sides-returns-clause-hands_on
select_sides-returns-clause-hands_on t c =
    hands_after _ _ _ _ _ (hands_on _ _ _ _ _ _ c.in_ok-left.ensures.hands_on
    c.in_ok-right.ensures.hands_on) c.in_ok-v.ensures.operates.adds.grows
    (omega (arith, c.in_ok-v.ensures.counts.blocks)) c.in_ok-right.ensures.is_open
    c.in_ok-v.ensures.operates.adds.is_open

pub select_choice-returns-clause-hands_on : goal.select_choice-returns-clause-hands_on
select_choice-returns-clause-hands_on t c =
    hands_chosen c.args.op _ _ _ _ _ _ _ _ c.in_ok-choice.ensures.opens
    c.in_ok-select_test.ensures.closes c.in_ok-v.ensures.hands_on
    c.in_ok-close_choice.ensures.closes.grows
    (omega (arith, c.in_ok-close_choice.ensures.counts.blocks)) c.in_ok-v.ensures.is_open
    c.in_ok-close_choice.ensures.closed

pub select_var-returns-clause-hands_on : goal.select_var-returns-clause-hands_on
select_var-returns-clause-hands_on t c = c.loop-step.invariant.9

pub select_step-returns-in_ok-target-in-Field-clause-hands_on :
    goal.select_step-returns-in_ok-target-in-Field-clause-hands_on
select_step-returns-in_ok-target-in-Field-clause-hands_on t c = hands_nothing _ _

pub select_element-returns-in-Some-clause-hands_on :
    goal.select_element-returns-in-Some-clause-hands_on
select_element-returns-in-Some-clause-hands_on t c = hands_nothing _ _

pub select_element-returns-clause-hands_on : goal.select_element-returns-clause-hands_on
select_element-returns-clause-hands_on t c = hands_on _ _ _ _ _ _ c.in_ok-variable.ensures.hands_on
    (hands_indexed _ _ _ _ _ _ _ _ _ c.in_ok-target-2.ensures.indexed
    (omega (arith, c.in_ok-target-2.ensures.counts.blocks)) c.in_ok-variable.ensures.is_open)

pub select_test-returns-in_ok-branch_on-in_default-clause-closes :
    goal.select_test-returns-in_ok-branch_on-in_default-clause-closes
select_test-returns-in_ok-branch_on-in_default-clause-closes t c =
    closes_after _ _ _ _ _ c.in_ok-v-in_default.ensures.hands_on
    c.in_ok-branch_on-in_default.ensures.branches.grows
    (omega (arith, c.in_ok-branch_on-in_default.ensures.counts.blocks))
    c.in_ok-v-in_default.ensures.is_open c.in_ok-branch_on-in_default.ensures.closed

pub select_binary_test-returns-clause-closes : goal.select_binary_test-returns-clause-closes
select_binary_test-returns-clause-closes t c = closes_after _ _ _ _ _ c.in_ok-v.ensures.hands_on
    c.in_ok-branch_on.ensures.branches.grows
    (omega (arith, c.in_ok-branch_on.ensures.counts.blocks)) c.in_ok-v.ensures.is_open
    c.in_ok-branch_on.ensures.closed

pub select_relation_test-returns-clause-closes : goal.select_relation_test-returns-clause-closes
select_relation_test-returns-clause-closes t c =
    closes_after _ _ _ _ _ (hands_on _ _ _ _ _ _ c.in_ok-left.ensures.hands_on
    c.in_ok-right.ensures.hands_on) c.in_ok-branch_by.ensures.branches.grows
    (omega (arith, c.in_ok-branch_by.ensures.counts.blocks)) c.in_ok-right.ensures.is_open
    c.in_ok-branch_by.ensures.closed

pub select_split_test-returns-clause-closes : goal.select_split_test-returns-clause-closes
select_split_test-returns-clause-closes t c = closes_split _ _ _ _ _ c.in_ok-right.ensures.made
    c.in_ok-select_test.ensures.closes c.in_ok-select_test-2.ensures.closes

-- ---- the blocks that are entered

pub select_expr-returns-in_ok-v-in-Number-clause-text :
    goal.select_expr-returns-in_ok-v-in-Number-clause-text
select_expr-returns-in_ok-v-in-Number-clause-text t c =
    text_as _ 0 _ _ _ _ _ _ (ap (λ (z : Needs). z.value)
    (needs-Number _ _ c.confirm_number.ensures))
    (text_declared _ _ _ _ _ c.in_ok-v-in-Number.ensures.made c.requires.is_open)

pub select_expr-returns-in_ok-v-in-Truth-clause-text :
    goal.select_expr-returns-in_ok-v-in-Truth-clause-text
select_expr-returns-in_ok-v-in-Truth-clause-text t c =
    text_as _ 0 _ _ _ _ _ _ (ap (λ (z : Needs). z.value) (needs-Truth _ _ c.in-Truth.is))
    (text_declared _ _ _ _ _ c.in_ok-v-in-Truth.ensures.made c.requires.is_open)

pub select_expr-returns-in_ok-v-in-Var-clause-text :
    goal.select_expr-returns-in_ok-v-in-Var-clause-text
select_expr-returns-in_ok-v-in-Var-clause-text t c =
    text_as _ _ _ _ _ _ _ _ (ap (λ (z : Needs). z.value) (needs-Var _ _ c.in-Var.is))
    (text_after _ _ _ _ _ _ _ _ c.in_ok-target-in-Var.ensures.text
    c.in_ok-v-in-Var.ensures.loads.grows (omega (arith, c.in_ok-v-in-Var.ensures.counts.blocks))
    c.in_ok-target-in-Var.ensures.is_open)

pub select_expr-returns-in_ok-v-in-Negate-clause-text :
    goal.select_expr-returns-in_ok-v-in-Negate-clause-text
select_expr-returns-in_ok-v-in-Negate-clause-text t c =
    text_as _ _ _ _ _ _ _ _ (ap (λ (z : Needs). z.value)
    (needs-Negate _ _ (c.in-Negate.is ∙ ap x.Negate (sym c.get.ensures))))
    (text_after _ _ _ _ _ _ _ _ c.in_ok-operand-in-Negate.ensures.text
    c.in_ok-v-in-Negate.ensures.converts.adds.grows
    (omega (arith, c.in_ok-v-in-Negate.ensures.counts.blocks))
    c.in_ok-operand-in-Negate.ensures.is_open)

pub select_expr-returns-in_ok-v-in-Not-clause-text :
    goal.select_expr-returns-in_ok-v-in-Not-clause-text
select_expr-returns-in_ok-v-in-Not-clause-text t c =
    text_as _ _ _ _ _ _ _ _ (ap (λ (z : Needs). z.value)
    (needs-Not _ _ (c.in-Not.is ∙ ap x.Not (sym c.get-in-Not.ensures))))
    (text_after _ _ _ _ _ _ _ _ c.in_ok-operand-in-Not.ensures.text
    c.in_ok-v-in-Not.ensures.converts.adds.grows
    (omega (arith, c.in_ok-v-in-Not.ensures.counts.blocks))
    c.in_ok-operand-in-Not.ensures.is_open)

pub select_binary-returns-then-is_sided-clause-text :
    goal.select_binary-returns-then-is_sided-clause-text
select_binary-returns-then-is_sided-clause-text t c =
    text_as _ _ _ _ _ _ _ _ (value_both c.args.op _ _ _ c.requires.is
    (sym c.is_sided.ensures.is ∙ c.if-is_sided.true)) c.in_ok-v.ensures.text

pub select_binary-returns-clause-text : goal.select_binary-returns-clause-text
select_binary-returns-clause-text t c =
    text_as _ _ _ _ _ _ _ _ (value_choice c.args.op _ _ _ c.requires.is
    (sym c.is_sided.ensures.is ∙ c.if-is_sided.false)) c.in_ok-v-2.ensures.text

pub select_sides-returns-clause-text : goal.select_sides-returns-clause-text
select_sides-returns-clause-text t c =
    text_after _ _ _ _ _ _ _ _
    (text_on _ _ _ _ _ _ _ _ _ _ _ c.in_ok-left.ensures.text c.in_ok-right.ensures.text)
    c.in_ok-v.ensures.operates.adds.grows (omega (arith, c.in_ok-v.ensures.counts.blocks))
    c.in_ok-right.ensures.is_open

pub select_choice-returns-clause-text : goal.select_choice-returns-clause-text
select_choice-returns-clause-text t c =
    text_end _ _ _ _ _ _ _ _ c.in_ok-push-2.ensures.ok
    (text_chosen c.args.op _ _ _ _ _ _ _ _ _ _ _ _ _ c.requires.is_open
    c.in_ok-choice.ensures.opens c.in_ok-select_test.ensures.text
    (text_begin _ _ _ _ _ _ _ _ c.in_ok-push.ensures.ok c.in_ok-v.ensures.text)
    c.in_ok-close_choice.ensures.closes.grows
    (omega (arith, c.in_ok-close_choice.ensures.counts.blocks)))

pub select_var-returns-clause-text : goal.select_var-returns-clause-text
select_var-returns-clause-text t c =
    text_as _ _ _ _ _ _ _ _ (ap (λ z. z.blocks) (needs_of_var-is c.args.v.now))
    (c.loop-step.invariant.8 _ _ _
    (text_as _ 0 _ _ _ _ _ _ (steps_done _ _ c.loop-step-test.false)
    (text_none _ _ _ c.loop-step.invariant.0)))

pub select_step-returns-in_ok-target-in-Field-clause-text :
    goal.select_step-returns-in_ok-target-in-Field-clause-text
select_step-returns-in_ok-target-in-Field-clause-text t c =
    text_as _ 0 _ _ _ _ _ _ (ap (λ z. z.blocks) (needs-Field _ _ c.in-Field.is))
    (text_none _ _ _ c.requires.is_open)

pub select_step-returns-in_ok-target-in-Index-clause-text :
    goal.select_step-returns-in_ok-target-in-Index-clause-text
select_step-returns-in_ok-target-in-Index-clause-text t c =
    text_as _ _ _ _ _ _ _ _ (ap (λ z. z.blocks) (needs-Index _ _ c.in-Index.is))
    c.in_ok-target-in-Index.ensures.text

pub select_element-returns-in-Some-clause-text : goal.select_element-returns-in-Some-clause-text
select_element-returns-in-Some-clause-text t c =
    text_as _ 0 _ _ _ _ _ _ (c.in-Some.ensures.no_blocks) (text_none _ _ _ c.requires.is_open)

pub select_element-returns-clause-text : goal.select_element-returns-clause-text
select_element-returns-clause-text t c =
    text_indexed _ _ _ _ _ _ _ _ _ _ _ _ _ _ c.in_ok-variable.ensures.text
    c.in_ok-target-2.ensures.indexed (omega (arith, c.in_ok-target-2.ensures.counts.blocks))
    c.in_ok-variable.ensures.is_open

pub select_element-returns-clause-in_range : goal.select_element-returns-clause-in_range
select_element-returns-clause-in_range t c = λ k lt is.
    absurd (c.in_default.ensures.none refl k
    (subst (λ n. k < n) (sym
    (c.array_length-count.ensures ∙ ap (λ z. array_length (shape_of z c.args.from.type_id))
    c.as_slice-shapes.ensures)) lt) is)

pub select_test-returns-in_ok-select_test-in-Not-clause-text :
    goal.select_test-returns-in_ok-select_test-in-Not-clause-text
select_test-returns-in_ok-select_test-in-Not-clause-text t c =
    ends_text_as _ _ _ _ _ _ _
    (ap (λ (z : Needs). z.test) (needs-Not _ _ (c.in-Not.is ∙ ap x.Not (sym c.get.ensures))))
    c.in_ok-select_test-in-Not.ensures.text

pub select_test-returns-in_ok-branch_on-in_default-clause-text :
    goal.select_test-returns-in_ok-branch_on-in_default-clause-text
select_test-returns-in_ok-branch_on-in_default-clause-text t c =
    ends_text_as _ _ _ _ _ _ _
    (test_value c.args.e.now c.in_default.not-Not c.in_default.not-Binary)
    (text_ends _ _ _ _ _ _ _ _ c.in_ok-v-in_default.ensures.text
    c.in_ok-branch_on-in_default.ensures.branches.grows
    (omega (arith, c.in_ok-branch_on-in_default.ensures.counts.blocks)))

pub select_binary_test-returns-then-is_bitwise-clause-text :
    goal.select_binary_test-returns-then-is_bitwise-clause-text
select_binary_test-returns-then-is_bitwise-clause-text t c =
    ends_text_as _ _ _ _ _ _ _
    (test_split c.args.op _ _ _ c.requires.is (sym c.is_bitwise.ensures ∙ c.if-is_bitwise.true))
    c.in_ok-select_split_test.ensures.text

pub select_binary_test-returns-then-is_relation-clause-text :
    goal.select_binary_test-returns-then-is_relation-clause-text
select_binary_test-returns-then-is_relation-clause-text t c =
    ends_text_as _ _ _ _ _ _ _
    (test_both c.args.op _ _ _ c.requires.is (sym c.is_bitwise.ensures ∙ c.if-is_bitwise.false))
    c.in_ok-select_relation_test.ensures.text

pub select_binary_test-returns-clause-text : goal.select_binary_test-returns-clause-text
select_binary_test-returns-clause-text t c =
    ends_text_as _ _ _ _ _ _ _
    (test_both c.args.op _ _ _ c.requires.is (sym c.is_bitwise.ensures ∙ c.if-is_bitwise.false))
    (text_ends _ _ _ _ _ _ _ _ c.in_ok-v.ensures.text c.in_ok-branch_on.ensures.branches.grows
    (omega (arith, c.in_ok-branch_on.ensures.counts.blocks)))

pub select_relation_test-returns-clause-text : goal.select_relation_test-returns-clause-text
select_relation_test-returns-clause-text t c =
    text_ends _ _ _ _ _ _ _ _
    (text_on _ _ _ _ _ _ _ _ _ _ _ c.in_ok-left.ensures.text c.in_ok-right.ensures.text)
    c.in_ok-branch_by.ensures.branches.grows
    (omega (arith, c.in_ok-branch_by.ensures.counts.blocks))

pub select_split_test-returns-clause-text : goal.select_split_test-returns-clause-text
select_split_test-returns-clause-text t c =
    text_split _ _ _ _ _ _ _ _ _ _ _ c.requires.is_open c.in_ok-right.ensures.made
    c.in_ok-right.ensures.number c.in_ok-select_test.ensures.text
    (ends_begin _ _ _ _ _ _ _ c.in_ok-push.ensures.ok c.in_ok-select_test-2.ensures.text)
