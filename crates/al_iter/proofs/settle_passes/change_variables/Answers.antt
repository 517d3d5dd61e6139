use Rattle.std.proofs.Common.{sym, ap, ◌∙◌, subst, arith}
use Rattle.pra_base.specs.declared.ids.Place.{Place}
use Rattle.net_cost.specs.Models.{weights_of}
use Rattle.net_form.specs.declared.routes.Routes.{Routes}
use Rattle.net_form.specs.Cost.{cost_of}
use Rattle.net_form.specs.Flow.{flow}
use Rattle.al_laws.specs.Settled.{NoneCheaperAt}
use Rattle.al_iter.proofs.SettlePasses.{one_more_asked, not_both}
use Rattle.al_iter.proofs.settle_passes.change_variables.Goals.{then-change_variable}
use Rattle.al_iter.proofs.settle_passes.change_variables.Goals.{else-change_variable}
use Rattle.al_iter.proofs.settle_passes.change_variables.Goals as goal

pub loop-var-preserved : goal.loop-var-preserved
loop-var-preserved g c =
    let net = c.args.net.now in
    let w = weights_of c.args.model.now in
    let inv = c.loop-var.invariant in
    let now = c.change_variable.ensures in
    let family = now.family ∙ inv.family in
    elim c.if-change_variable.branch [
      | then-change_variable b ↦
          let less = now.lower b.if-change_variable.true in
          record {
            state = now.state;
            most = omega (arith, less, inv.most);
            lower = λ _. omega (arith, less, inv.most);
            same = λ off. not_both c.if-change_variable.changed b.changed-is off;
            settled = λ off. not_both c.if-change_variable.changed b.changed-is off;
            family = family;
            reserved = now.reserved;
          }
      | else-change_variable b ↦
          let same = now.same b.if-change_variable.false in
          let cost = ap (λ (rs : Routes). cost_of net w (flow net rs)) same in
          record {
            state = now.state;
            most = omega (arith, cost, inv.most);
            lower = λ on. let less = inv.lower (sym b.changed-is ∙ on) in omega (arith, cost, less);
            same = λ off. same ∙ inv.same (sym b.changed-is ∙ off);
            settled = λ off. one_more_asked (λ rs v. (p : Place) → NoneCheaperAt net w rs v p)
                c.loop-var.routes c.change_variable.new.routes c.loop-var.var same
                (inv.settled (sym b.changed-is ∙ off)) (now.settled b.if-change_variable.false);
            family = family;
            reserved = now.reserved;
          }
    ]

pub returns-clause-settled : goal.returns-clause-settled
returns-clause-settled g c = λ off v lt p.
    let inv = c.loop-var.invariant in
    subst (λ (rs : Routes). NoneCheaperAt c.args.net.now (weights_of c.args.model.now) rs v p)
    (inv.same off) (inv.settled off v (omega (arith, lt, c.loop-var-test.false)) p)
