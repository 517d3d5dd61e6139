use Rattle.std.proofs.Common.{◌≤◌, length, sym, ap, ◌∙◌, subst, arith}
use Rattle.net_cost.specs.Models.{weights_of}
use Rattle.net_form.specs.declared.routes.Routes.{Routes}
use Rattle.net_form.specs.Cost.{cost_of}
use Rattle.net_form.specs.Flow.{flow}
use Rattle.al_laws.specs.Settled.{NoneCheaper}
use Rattle.al_iter.proofs.SettlePasses.{one_more_asked, not_both}
use Rattle.al_iter.proofs.settle_passes.change_strands.Goals.{then-change_strand}
use Rattle.al_iter.proofs.settle_passes.change_strands.Goals.{else-change_strand}
use Rattle.al_iter.proofs.settle_passes.change_strands.Goals as goal

pub loop-strand-preserved : goal.loop-strand-preserved
loop-strand-preserved g c =
    let net = c.args.net.now in
    let w = weights_of c.args.model.now in
    let inv = c.loop-strand.invariant in
    let now = c.change_strand.ensures in
    let family = now.family ∙ inv.family in
    elim c.if-change_strand.branch [
      | then-change_strand b ↦
          let less = now.lower b.if-change_strand.true in
          record {
            state = now.state;
            most = omega (arith, less, inv.most);
            lower = λ _. omega (arith, less, inv.most);
            same = λ off. not_both c.if-change_strand.changed b.changed-is off;
            settled = λ off. not_both c.if-change_strand.changed b.changed-is off;
            family = family;
            reserved = now.reserved;
          }
      | else-change_strand b ↦
          let same = now.same b.if-change_strand.false in
          let cost = ap (λ (rs : Routes). cost_of net w (flow net rs)) same in
          record {
            state = now.state;
            most = omega (arith, cost, inv.most);
            lower = λ on. let less = inv.lower (sym b.changed-is ∙ on) in omega (arith, cost, less);
            same = λ off. same ∙ inv.same (sym b.changed-is ∙ off);
            settled = λ off. one_more_asked (NoneCheaper net w) c.loop-strand.routes
                c.change_strand.new.routes c.loop-strand.strand same
                (inv.settled (sym b.changed-is ∙ off)) (now.settled b.if-change_strand.false);
            family = family;
            reserved = now.reserved;
          }
    ]

pub returns-clause-settled : goal.returns-clause-settled
returns-clause-settled g c = λ off s lt.
    let inv = c.loop-strand.invariant in
    let end : length c.args.net.now.strands ≤ c.loop-strand.strand = omega arith in
    subst (λ (rs : Routes). NoneCheaper c.args.net.now (weights_of c.args.model.now) rs s)
    (inv.same off) (inv.settled off s (omega (arith, lt, end)))
