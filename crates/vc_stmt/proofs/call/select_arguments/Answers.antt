use Rattle.std.proofs.Common.{◌≡◌, ◌++◌, List, [], ◌∷◌, length, sym, ap, ◌∙◌, subst, arith}
use Rattle.std.proofs.Common.{append-nil, append_assoc}
use Rattle.pra_base.specs.declared.ids.VarId.{VarId}
use Rattle.vc_build.proofs.Open.{hands_nothing, hands_on}
use Rattle.vc_stmt.specs.Passes.{PassesAll}
use Rattle.vc_stmt.specs.Ready.{PassesReady}
use Rattle.vc_stmt.proofs.Amounting.{arguments_none, arguments_more}
use Rattle.vc_stmt.proofs.ReadyCalls.{arguments_begin, arguments_on, many_none, many_more}
use Rattle.vc_stmt.proofs.Walking as walking
use Rattle.vc_stmt.proofs.Walking.{arguments_done}
use Rattle.vc_select.proofs.InText.{text_as, text_on, text_none}
use Rattle.vc_stmt.proofs.Depths.{arguments_next}
use Rattle.vc_stmt.proofs.Depths as depths
use Rattle.vc_stmt.proofs.call.select_arguments.Goals as goal

pub returns-clause-passes : goal.returns-clause-passes
returns-clause-passes c =
    subst (λ (vs : List VarId). PassesAll c.args.setting.now c.args.ctx.now.code c.loop-arg.ctx.code
    c.args.ctx.now.at.0 c.loop-arg.ctx.at.0 vs c.args.args.now)
    (append-nil c.loop-arg.values.items)
    (c.loop-arg.invariant.2 _ _ []
    (arguments_done c.args.setting.now _ _ c.args.args.now c.loop-arg.arg-index
    c.loop-arg.invariant.0 c.loop-arg-test.false))

pub returns-clause-many : goal.returns-clause-many
returns-clause-many c = many_none c.loop-arg.values.items c.args.args.now c.loop-arg.arg-index
    c.loop-arg-test.false c.loop-arg.invariant.3

pub returns-clause-counts : goal.returns-clause-counts
returns-clause-counts c =
    c.loop-arg.invariant.4 _
    (arguments_none c.args.args.now c.loop-arg.arg-index _ c.loop-arg-test.false)

pub returns-clause-ready : goal.returns-clause-ready
returns-clause-ready c = c.loop-arg.invariant.6

pub returns-clause-hands_on : goal.returns-clause-hands_on
returns-clause-hands_on c = c.loop-arg.invariant.8

pub loop-arg-init : goal.loop-arg-init
loop-arg-init c =
    let g = c.args.setting.now in
    let old = c.args.ctx.now.code in
    let at = c.args.ctx.now.at.0 in
    let none : c.new-values.result.items ≡ [] = c.new-values.ensures.items in (
      c.requires.is_open,
      omega arith,
      λ new to vs m. subst (λ (us : List VarId). PassesAll g old new at to
          (us ++ vs) c.args.args.now) (sym none) m,
      omega (arith, ap (λ (us : List VarId). length us) none),
      λ new p. p,
      omega arith,
      subst (λ (us : List VarId). PassesReady g old old at at us) (sym none)
          (arguments_begin g old at),
      λ new to after p. p,
      hands_nothing at old,
    )

pub loop-arg-preserved : goal.loop-arg-preserved
loop-arg-preserved c =
    let pushed : c.push.new.self.items ≡ c.loop-arg.values.items ++ c.in_ok-v.v ∷ [] =
    c.in_ok-push.ensures.items in
    let moved = λ (vs : List VarId).
    sym (ap (λ us. us ++ vs) pushed ∙ append_assoc c.loop-arg.values.items (c.in_ok-v.v ∷ [])
    vs) in (
      c.in_ok-v.ensures.is_open,
      omega (arith, c.loop-arg.invariant.1, c.in_ok-v.ensures.vars),
      λ new to vs m.
          subst (λ (us : List VarId). PassesAll c.args.setting.now c.args.ctx.now.code new
          c.args.ctx.now.at.0 to us c.args.args.now) (moved vs)
          (c.loop-arg.invariant.2 new to (c.in_ok-v.v ∷ vs)
          (walking.arguments_more c.args.setting.now _ _ _ _ _ _ c.in_ok-v.v vs c.args.args.now
          c.loop-arg.arg-index _ c.loop-arg-test.true c.arg-item.is c.in_ok-v.ensures.passes
          c.in_ok-v.ensures.named m)),
      many_more c.loop-arg.values.items c.push.new.self.items c.in_ok-v.v c.args.args.now
          c.loop-arg.arg-index _ pushed c.loop-arg-test.true c.arg-item.is c.loop-arg.invariant.3,
      λ new p. c.loop-arg.invariant.4 new
          (arguments_more c.args.args.now c.loop-arg.arg-index _ _ _ new c.loop-arg-test.true
          c.arg-item.is c.in_ok-v.ensures.counts p),
      omega (arith, c.loop-arg.invariant.5, c.in_ok-v.ensures.passes.extends.grows.grows.blocks),
      arguments_on c.args.setting.now _ _ _ _ _ _ c.loop-arg.values.items c.push.new.self.items
          c.in_ok-v.v pushed c.loop-arg.invariant.1 c.loop-arg.invariant.5 c.in_ok-v.ensures.vars
          c.loop-arg.invariant.6 c.in_ok-v.ensures.ready c.in_ok-v.ensures.named,
      λ new to after p. c.loop-arg.invariant.7 new to after
          (text_as _ _ _ _ _ _ _ _
          (arguments_next c.args.args.now c.loop-arg.arg-index _ c.loop-arg-test.true c.arg-item.is)
          (text_on _ _ _ _ _ _ _ _ _ _ _ c.in_ok-v.ensures.text p)),
      hands_on _ _ _ _ _ _ c.loop-arg.invariant.8 c.in_ok-v.ensures.hands_on,
    )

pub returns-clause-text : goal.returns-clause-text
returns-clause-text c =
    c.loop-arg.invariant.7 _ _ _
    (text_as _ 0 _ _ _ _ _ _
    (depths.arguments_done c.args.args.now c.loop-arg.arg-index c.loop-arg-test.false)
    (text_none _ _ _ c.loop-arg.invariant.0))
