use Rattle.std.proofs.Common.{List, take, sym, subst}
use Rattle.std.proofs.lemmas.Result.{err_from_is_err_and}
use Rattle.net_cost.specs.Models.{weights_of}
use Rattle.net_form.specs.declared.prices.Line.{Line}
use Rattle.net_laws.proofs.Built.{built}
use Rattle.al_round.specs.Watches.{gap_of, WasObeyed}
use Rattle.pra_compile.proofs.Told.{behind_one}
use Rattle.pra_compile.proofs.granted.by_rounds.Goals as goal

pub start-requires-clause-net : goal.start-requires-clause-net
start-requires-clause-net g c = built c.args.code.now c.in_ok-net.net c.in_ok-net.ensures
    c.requires.valid c.requires.sized

pub grant-requires-clause-net : goal.grant-requires-clause-net
grant-requires-clause-net g c = built c.args.code.now c.in_ok-net.net c.in_ok-net.ensures
    c.requires.valid c.requires.sized

pub returns-clause-routes : goal.returns-clause-routes
returns-clause-routes g c =
    let allocation = c.into_allocation-routes.ensures.allocation c.in_ok-net.net
    (weights_of c.args.model.now) c.in_ok-grant.ensures.rounds in
    record {
      is_net = c.in_ok-net.ensures;
      are_routes = allocation.allocated.cost.are_routes;
      admitted = allocation.allocated.cost.admitted;
    }

pub returns-clause-granted : goal.returns-clause-granted
returns-clause-granted g c =
    let gap = gap_of c.args.watch.now in
    let rounds = c.args.rounds in
    let obeyed = behind_one gap rounds _ _ c.in_ok-granted.ensures.one c.in_ok-grant.ensures.obeyed
    in
    record {
      allocation = c.into_allocation-routes.ensures.allocation c.in_ok-net.net
          (weights_of c.args.model.now) c.in_ok-grant.ensures.rounds;
      obeyed = subst (λ (lines : List Line). WasObeyed gap rounds (take 1 lines) lines)
          (sym c.into_allocation-routes.ensures.lines) obeyed;
    }

pub returns-in_err-grant-clause-routes : goal.returns-in_err-grant-clause-routes
returns-in_err-grant-clause-routes g c =
    let residual = c.from_residual-in_err-grant in
    let p = err_from_is_err_and residual.result residual.ensures.1 in
    rw p.1 tt

pub returns-in_err-grant-clause-granted : goal.returns-in_err-grant-clause-granted
returns-in_err-grant-clause-granted g c =
    let residual = c.from_residual-in_err-grant in
    let p = err_from_is_err_and residual.result residual.ensures.1 in
    rw p.1 tt
