use Rattle.std.proofs.Common.{◌≤◌, Bool, cond, length, sym, ap, arith}
use Rattle.net_cost.specs.Models.{weights_of}
use Rattle.net_form.specs.Cost.{extra_cost}
use Rattle.net_gate.proofs.Paths.{unmet}
use Rattle.net_gate.proofs.weigh.met_cost.Goals as goal

pub returns-then-strand-len-clause-value : goal.returns-then-strand-len-clause-value
returns-then-strand-len-clause-value g c =
    let le : length c.args.net.now.strands ≤ c.args.extra.now.strand = omega arith in
    sym (ap (λ (b : Bool). cond b
    (extra_cost c.args.net.now (weights_of c.args.model.now) c.args.extra.now) 0)
    (unmet c.args.net.now c.args.routes.now c.args.extra.now c.requires.routes le))
