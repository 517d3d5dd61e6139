use Rattle.std.proofs.Common.{◌∙◌, ◌+◌, length, slice_index_or}
use Rattle.std.proofs.Common.{slice_set, Result, Ok, Err, OnErr, sym, ap, subst, arith}
use Rattle.std.proofs.lemmas.Option.{slice_get-get_or}
use Rattle.net_cost.specs.Models.{weights_of}
use Rattle.net_form.specs.InUse.{Takes}
use Rattle.net_dual.specs.Paths.{path_edges}
use Rattle.net_path.specs.Desk.{path_of}
use Rattle.al_iter.specs.LaidSoFar.{IsLaidSoFar, routes_of}
use Rattle.al_iter.proofs.EachOnce.{below}
use Rattle.al_iter.proofs.LaidNext.{is_blocked, so_far_next, size}
use Rattle.al_iter.proofs.laying.lay_next.Goals as goal

on_err : {T E Q : Type 0} (r : Result T E) → Q → OnErr r Q
on_err (Ok x) q = tt
on_err (Err e) q = q

pub plan_ends-ends-requires : goal.plan_ends-ends-requires
plan_ends-ends-requires g c = below (length c.args.net.now.strands) c.args.order.now
    c.requires.order c.args.at (slice_index_or c.args.order.now c.args.at 0)
    (slice_get-get_or c.args.order.now c.args.at 0 c.requires.at)

pub least-requires-clause-strand : goal.least-requires-clause-strand
least-requires-clause-strand g c = below (length c.args.net.now.strands) c.args.order.now
    c.requires.order c.args.at (slice_index_or c.args.order.now c.args.at 0)
    (slice_get-get_or c.args.order.now c.args.at 0 c.requires.at)

pub take_path-requires-clause-strand : goal.take_path-requires-clause-strand
take_path-requires-clause-strand g c = below (length c.args.net.now.strands) c.args.order.now
    c.requires.order c.args.at (slice_index_or c.args.order.now c.args.at 0)
    (slice_get-get_or c.args.order.now c.args.at 0 c.requires.at)

pub overwrite-requires-clause-at : goal.overwrite-requires-clause-at
overwrite-requires-clause-at g c =
    let lt = below (length c.args.net.now.strands) c.args.order.now c.requires.order c.args.at
    (slice_index_or c.args.order.now c.args.at 0)
    (slice_get-get_or c.args.order.now c.args.at 0 c.requires.at) in
    let many = c.requires.laid.sizes.many in
    omega (arith, lt, many)

pub returns-in_err-least-clause-blocked : goal.returns-in_err-least-clause-blocked
returns-in_err-least-clause-blocked g c =
    let is = slice_get-get_or c.args.order.now c.args.at 0 c.requires.at in
    on_err c.from_residual.result (is_blocked c.args.net.now c.requires.net
    (weights_of c.args.model.now) c.args.prices.now c.args.plan.now c.args.order.now
    c.requires.order c.args.at (slice_index_or c.args.order.now c.args.at 0) is
    (routes_of c.args.paths.now) c.args.taken.now c.requires.laid
    (rw c.plan_ends-ends.ensures at c.in_err-least.ensures.none))

pub overwrite-requires-clause-long : goal.overwrite-requires-clause-long
overwrite-requires-clause-long g c =
    let net = c.args.net.now in
    let s = slice_index_or c.args.order.now c.args.at 0 in
    let is = slice_get-get_or c.args.order.now c.args.at 0 c.requires.at in
    let lt = below (length net.strands) c.args.order.now c.requires.order c.args.at s is in
    let masks = size net c.requires.net (weights_of c.args.model.now) c.args.prices.now
    c.args.plan.now c.args.order.now c.requires.order c.args.at s is (routes_of c.args.paths.now)
    c.args.taken.now c.requires.laid (path_of c.least.new.work)
    (rw c.plan_ends-ends.ensures at c.in_ok-least.ensures.found) in
    ap length c.path-path.ensures ∙ masks ∙ sym (c.requires.laid.sizes.each s lt)

pub returns-clause-laid : goal.returns-clause-laid
returns-clause-laid g c =
    let net = c.args.net.now in
    let w = weights_of c.args.model.now in
    let s = slice_index_or c.args.order.now c.args.at 0 in
    let is = slice_get-get_or c.args.order.now c.args.at 0 c.requires.at in
    let path = path_of c.least.new.work in
    let takes : Takes net (path_edges net s path) c.args.taken.now c.take_path.new.self =
    rw c.path-path.ensures at c.take_path.ensures.takes in
    subst (λ rs. IsLaidSoFar net w c.args.prices.now c.args.plan.now c.args.order.now
    (c.args.at + 1) (routes_of rs) c.take_path.new.self)
    (sym (c.overwrite.ensures ∙ ap (slice_set c.args.paths.now s) c.path-path.ensures))
    (so_far_next net c.requires.net w c.args.prices.now c.args.plan.now c.args.order.now
    c.requires.order c.args.at s is (routes_of c.args.paths.now) c.args.taken.now c.requires.laid
    path (rw c.plan_ends-ends.ensures at c.in_ok-least.ensures.found) c.take_path.new.self
    c.take_path.ensures.room takes)
