use Rattle.std.proofs.Common.{◌≡◌, ap, subst, arith}
use Rattle.pra_base.specs.Places.{place_count}
use Rattle.net_cost.specs.Models.{weights_of}
use Rattle.net_form.specs.Admitted.{strand_at, no_strand}
use Rattle.net_dual.specs.Small.{most_sum}
use Rattle.net_dual.specs.Leasts.{IsLeastOf, cost_at}
use Rattle.net_dual.proofs.Leasts.{same_bits}
use Rattle.cert_check.proofs.Rows.{at_end, least_cost_of, some_least, least_within}
use Rattle.cert_check.proofs.pass.least_cost.Goals as goal

pub returns-in-Some : goal.returns-in-Some
returns-in-Some g c =
    let net = c.args.net.now in
    let w = weights_of c.args.model.now in
    let prices = c.args.tolls.now.prices in
    let s = c.args.strand in
    let row = c.loop-spot.row in
    let inv = c.loop-spot.invariant in
    let same = ap (λ t. (strand_at net t).last) inv.strand in
    let last : c.loop-spot.spot.layer ≡ (strand_at net s).last = omega arith in
    let reached = at_end net w prices s c.loop-spot.spot.strand c.loop-spot.spot.layer row
    inv.strand last inv.is_row in
    let order = (c.requires.net.formed.strands s no_strand c.requires.strand).order in
    let least = least_cost_of net w prices s order row reached c.in-Some.cost
    (subst (IsLeastOf (cost_at row) place_count) c.in-Some.is c.least_in.ensures) in
    let within = least_within net w prices s c.requires.net c.requires.kept.valid
    c.requires.tolls.prices c.requires.strand c.in-Some.cost least in
    let bits = same_bits most_sum c.in-Some.cost (omega arith) within in
    record { least = rw bits least; within = rw bits within }

pub returns-in-None-clause-least : goal.returns-in-None-clause-least
returns-in-None-clause-least g c =
    let net = c.args.net.now in
    let w = weights_of c.args.model.now in
    let prices = c.args.tolls.now.prices in
    let s = c.args.strand in
    let row = c.loop-spot.row in
    let inv = c.loop-spot.invariant in
    let same = ap (λ t. (strand_at net t).last) inv.strand in
    let last : c.loop-spot.spot.layer ≡ (strand_at net s).last = omega arith in
    let reached = at_end net w prices s c.loop-spot.spot.strand c.loop-spot.spot.layer row
    inv.strand last inv.is_row in
    let order = (c.requires.net.formed.strands s no_strand c.requires.strand).order in
    absurd (some_least net w prices s order row reached c.requires.path
    (subst (IsLeastOf (cost_at row) place_count) c.in-None.is c.least_in.ensures))
