use Rattle.std.proofs.Common.{◌≡◌, sym, subst, to_z, of_z, arith}
use Rattle.std.specs.Int.{w64}
use Rattle.std.proofs.lemmas.Int.{to_z-of_z}
use Rattle.net_cost.specs.Models.{weights_of}
use Rattle.net_form.specs.InUse.{UsesNothing}
use Rattle.net_dual.specs.Priced.{edge_price}
use Rattle.net_dual.specs.Paths.{IsLeastCost}
use Rattle.net_dual.specs.Small.{most_sum}
use Rattle.net_dual.proofs.Leasts.{same_bits}
use Rattle.net_plain.proofs.Whole.{least_path, passes_of, price_small}
use Rattle.net_plain.proofs.least.least_plain.Goals as goal

pub narrow-requires : goal.narrow-requires
narrow-requires g c =
    let net = c.args.net.now in
    let w = weights_of c.args.model.now in
    let least = least_path net c.requires.net c.args.strand c.requires.strand c.args.ends
    c.args.taken.now w c.args.prices.now c.in-Some.cost
    (rw c.in-Some.is at c.cost_of_least.ensures) in
    let small = price_small net c.requires.net c.args.strand c.requires.strand c.args.prices.now
    c.requires.prices w c.requires.kept.valid least.way c.in-Some.cost least.is_least.goes.path
    (sym least.is) in
    rw (same_bits most_sum c.in-Some.cost (omega arith) small) small

pub returns-in-Some-clause-least : goal.returns-in-Some-clause-least
returns-in-Some-clause-least g c =
    let net = c.args.net.now in
    let w = weights_of c.args.model.now in
    let prices = c.args.prices.now in
    let taken = c.args.taken.now in
    let s = c.args.strand in
    let cost = c.in-Some.cost in
    let least = least_path net c.requires.net s c.requires.strand c.args.ends taken w prices cost
    (rw c.in-Some.is at c.cost_of_least.ensures) in
    let small = price_small net c.requires.net s c.requires.strand prices c.requires.prices w
    c.requires.kept.valid least.way cost least.is_least.goes.path (sym least.is) in
    let exact = same_bits most_sum cost (omega arith) small in
    let narrow = to_z-of_z w64 c.narrow.result (record { sfits = c.narrow.type_inv }) in
    let same : cost ≡ to_z w64 (of_z w64 c.narrow.result) = cc (exact, narrow, c.narrow.ensures) in
    subst (IsLeastCost net (edge_price net w prices) c.args.ends (UsesNothing net taken) s) same
    least

pub returns-in-None-clause-none : goal.returns-in-None-clause-none
returns-in-None-clause-none g c = λ ps goes. (rw c.in-None.is at c.cost_of_least.ensures) ps
    goes.path.long (passes_of c.args.net.now c.requires.net c.args.strand c.requires.strand
    c.args.ends c.args.taken.now ps goes)
