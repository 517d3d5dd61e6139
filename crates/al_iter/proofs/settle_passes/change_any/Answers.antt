use Rattle.std.proofs.Common.{◌+◌, ◌∙◌, length, ap, subst, arith}
use Rattle.std.proofs.Common.{inl, inr}
use Rattle.std.proofs.lemmas.Bool.{cases_lt}
use Rattle.net_cost.specs.Models.{weights_of}
use Rattle.net_form.specs.Cost.{cost_of}
use Rattle.net_form.specs.Flow.{flow}
use Rattle.net_form.specs.declared.routes.Routes.{Routes}
use Rattle.al_laws.specs.Settled.{NoneCheaperAt}
use Rattle.al_laws.proofs.OneStrand.{strand_settled}
use Rattle.al_laws.proofs.Variable.{variable_settled}
use Rattle.al_iter.proofs.SettlePasses.{none_beyond}
use Rattle.al_iter.proofs.settle_passes.change_any.Goals as goal

pub returns-clause-lower : goal.returns-clause-lower
returns-clause-lower g c = λ on.
    let net = c.args.net.now in
    let w = weights_of c.args.model.now in
    let less = c.change_strands-is_changed.ensures.lower on in
    let same = ap (λ (rs : Routes). cost_of net w (flow net rs))
    (c.change_variables.ensures.same c.if-change_variables.false) in
    omega (arith, less, same)

pub returns-clause-same : goal.returns-clause-same
returns-clause-same g c = λ off.
    c.change_variables.ensures.same c.if-change_variables.false
    ∙ c.change_strands-is_changed.ensures.same off

pub returns-clause-settled : goal.returns-clause-settled
returns-clause-settled g c = λ off.
    let net = c.args.net.now in
    let w = weights_of c.args.model.now in
    let routes = c.args.routes.now in
    let same = c.change_strands-is_changed.ensures.same off in
    record {
      are_routes = c.requires.state.are_routes;
      admitted = c.requires.state.admitted;
      strands = λ s lt. strand_settled net w routes s c.requires.net.formed
          c.requires.state.are_routes lt
          (c.change_strands-is_changed.ensures.settled off s lt);
      variables = λ v. variable_settled net w routes v c.requires.net
          c.requires.state.are_routes
          (elim (cases_lt (v + 1) (length net.index.vars)) [
            | inl lt ↦ λ p. subst (λ (rs : Routes). NoneCheaperAt net w rs v p) same
                (c.change_variables.ensures.settled c.if-change_variables.false v lt p)
            | inr le ↦ λ p. none_beyond net w routes c.requires.net.formed v le p
          ]);
    }
