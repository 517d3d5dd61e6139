use Rattle.std.proofs.Common.{◌≡◌, sym, subst, to_z, of_z}
use Rattle.std.specs.Int.{w128}
use Rattle.std.proofs.lemmas.Int.{to_z-of_z}
use Rattle.net_cost.specs.Models.{weights_of}
use Rattle.net_dual.specs.Priced.{AreInRange}
use Rattle.net_dual.specs.Value.{IsLagrange}
use Rattle.al_round.proofs.raised.Raised.sweep.Goals as goal

pub returns-clause-has : goal.returns-clause-has
returns-clause-has g c =
    let net = c.args.net.now in
    let w = weights_of c.args.model.now in
    let z = c.lagrange-value.result in
    let whole : z ≡ to_z w128 (of_z w128 z)
    = sym (to_z-of_z w128 z (record { sfits = c.lagrange-value.type_inv })) in
    record {
      in_range = subst (AreInRange net) (sym c.swap.ensures.x_after) c.ascend-told.ensures;
      value = subst (IsLagrange net w c.swap.new.x) whole
          (subst (λ p. IsLagrange net w p z) (sym c.swap.ensures.x_after)
          (record {
            family = c.lagrange-value.new.work.family;
            value = c.lagrange-value.ensures.value;
          }));
    }
