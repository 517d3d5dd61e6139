use Rattle.std.proofs.Common.{refl, ℕ, ◌≡◌, ◌∙◌, length, sym, subst, ap, arith, rules, pos, ◌<ℤ◌}
use Rattle.std.proofs.Common.{◌^◌}
use Rattle.std.proofs.Common.{w64, to_z, of_z}
use mir.Val.{SFits}
use Rattle.std.proofs.lemmas.Int.{ints, to_z-of_z}
use Rattle.std.proofs.lemmas.List.{get_or_read, take_all}
use Rattle.net_cost.specs.Models.{weights_of}
use Rattle.net_form.specs.declared.net.Strand.{Strand}
use Rattle.net_form.specs.Admitted.{no_strand}
use Rattle.net_form.proofs.Layers.{in_layers}
use Rattle.net_path.specs.Grounds.{terrain, is_free}
use Rattle.net_path.specs.Rows.{costs_at, IsGround}
use Rattle.net_path.specs.Ways.{step_price}
use Rattle.net_path.proofs.Grounded.{ready}
use Rattle.net_path.proofs.LeastPath.{no_path, least_path, below_of}
use Rattle.net_path.proofs.search.find.Goals as goal

pub pay_backward-requires-clause-some : goal.pay_backward-requires-clause-some
pay_backward-requires-clause-some g c =
    let order = (c.requires.net.formed.strands c.args.strand no_strand c.requires.strand).order in
    omega (arith, order, c.requires.rows)

pub pay_backward-requires-clause-few : goal.pay_backward-requires-clause-few
pay_backward-requires-clause-few g c =
    let net = c.args.net.now in
    let t = ap (λ (t : Strand). t.first) (get_or_read net.strands c.args.strand c.index.result.now
    c.requires.strand c.index.ensures no_strand) in
    let within = in_layers net c.requires.net.formed c.args.strand c.requires.strand in
    let layers = c.requires.net.formed.layers in
    omega (arith, t, within, layers, c.requires.rows)

pub start-start-requires-clause-row : goal.start-start-requires-clause-row
start-start-requires-clause-row g c =
    let order = (c.requires.net.formed.strands c.args.strand no_strand c.requires.strand).order in
    c.pay_backward.ensures.debts 0 (omega (
      arith,
      order,
      c.requires.rows,
      c.pay_backward.ensures.long,
    ))

pub returns-then-start-ge-REACHED-clause-none : goal.returns-then-start-ge-REACHED-clause-none
returns-then-start-ge-REACHED-clause-none g c =
    let net = c.args.net.now in
    let w = weights_of c.args.model.now in
    let s = c.args.strand in
    let n = length c.args.rows.now in
    let t =
    get_or_read net.strands s c.index.result.now c.requires.strand c.index.ensures no_strand in
    let u = get_or_read net.strands s c.index-2.result.now c.requires.strand c.index-2.ensures
    no_strand in
    let are = ready net c.requires.net c.args._prices.now c.requires.prices
    w c.requires.kept.valid c.args._ends (is_free net c.args._taken.now) s n c.requires.rows
    c.ways_of-ways.result c.forwards.result c.depth.result c.index.result.now.first
    (length c.args.rows.now)
    c.index-2.result.now.constant (costs_at c.pay_backward.new.rows) c.args.rows.now
    c.start-start.result c.forwards.ensures.steps c.ways_of-ways.ensures.are c.depth.ensures.value
    (ap (λ (t : Strand). t.first) t) refl
    (ap (λ (t : Strand). t.constant) u) c.requires.cells c.pay_backward.ensures.rows
    c.start-start.ensures in
    let fits : SFits w64 c.start-start.result.debt.cost = search rules in
    let cost = c.start-start.result.debt.cost in
    let whole : to_z w64 (of_z w64 cost) ≡ cost = to_z-of_z w64 cost fits in
    no_path net c.requires.net c.args._prices.now c.requires.prices w c.requires.kept.valid
    c.args._ends c.args._taken.now s n c.requires.strand c.requires.rows
    (costs_at c.pay_backward.new.rows) are.rows cost are.best
    (grind (arith, ints, whole, c.if-start-ge-REACHED.true))

pub follow-requires-clause-some : goal.follow-requires-clause-some
follow-requires-clause-some g c =
    let order = (c.requires.net.formed.strands c.args.strand no_strand c.requires.strand).order in
    omega (arith, order, c.requires.rows, c.pay_backward.ensures.long)

pub follow-requires-clause-few : goal.follow-requires-clause-few
follow-requires-clause-few g c =
    let net = c.args.net.now in
    let t = ap (λ (t : Strand). t.first) (get_or_read net.strands c.args.strand c.index.result.now
    c.requires.strand c.index.ensures no_strand) in
    let within = in_layers net c.requires.net.formed c.args.strand c.requires.strand in
    let layers = c.requires.net.formed.layers in
    omega (
      arith,
      t,
      within,
      layers,
      c.requires.rows,
      c.pay_backward.ensures.long,
    )

pub follow-requires-clause-rows : goal.follow-requires-clause-rows
follow-requires-clause-rows g c = c.pay_backward.ensures.debts

pub returns-clause-found : goal.returns-clause-found
returns-clause-found g c =
    let net = c.args.net.now in
    let w = weights_of c.args.model.now in
    let s = c.args.strand in
    let n = length c.args.rows.now in
    let t =
    get_or_read net.strands s c.index.result.now c.requires.strand c.index.ensures no_strand in
    let u = get_or_read net.strands s c.index-2.result.now c.requires.strand c.index-2.ensures
    no_strand in
    let are = ready net c.requires.net c.args._prices.now c.requires.prices
    w c.requires.kept.valid c.args._ends (is_free net c.args._taken.now) s n c.requires.rows
    c.ways_of-ways.result c.forwards.result c.depth.result c.index.result.now.first
    (length c.args.rows.now)
    c.index-2.result.now.constant (costs_at c.pay_backward.new.rows) c.args.rows.now
    c.start-start.result c.forwards.ensures.steps c.ways_of-ways.ensures.are c.depth.ensures.value
    (ap (λ (t : Strand). t.first) t) refl
    (ap (λ (t : Strand). t.constant) u) c.requires.cells c.pay_backward.ensures.rows
    c.start-start.ensures in
    let fits : SFits w64 c.start-start.result.debt.cost = search rules in
    let cost = c.start-start.result.debt.cost in
    let whole : to_z w64 (of_z w64 cost) ≡ cost = to_z-of_z w64 cost fits in
    let near : cost <ℤ pos (2 ^ 61) =
    below_of (pos (2 ^ 61)) cost (rw whole at c.if-start-ge-REACHED.false) in
    let size : length c.pay_backward.new.rows ≡ n =
    c.pay_backward.ensures.long in
    let same : length c.follow.new.path ≡ n = omega arith in
    let all =
    take_all (length c.pay_backward.new.rows) c.follow.new.path (omega (arith, size, same)) in
    let ground : IsGround (step_price c.ways_of-ways.result) c.index.result.now.first
    (length c.pay_backward.new.rows)
    (terrain net w c.args._prices.now c.args._ends (is_free net c.args._taken.now) s) =
    subst (λ (k : ℕ). IsGround (step_price c.ways_of-ways.result) c.index.result.now.first k
    (terrain net w c.args._prices.now c.args._ends (is_free net c.args._taken.now) s))
    (sym size) (subst (λ (f : ℕ). IsGround (step_price c.ways_of-ways.result) f n
    (terrain net w c.args._prices.now c.args._ends (is_free net c.args._taken.now) s))
    (sym (ap (λ (t : Strand). t.first) t)) are.ground) in
    let follows = rw all at (c.follow.ensures (terrain net w c.args._prices.now c.args._ends
    (is_free net c.args._taken.now) s) ground are.good) in
    let found = least_path net c.requires.net c.args._prices.now c.requires.prices
    w c.requires.kept.valid c.args._ends c.args._taken.now s n c.requires.strand c.requires.rows
    (costs_at c.pay_backward.new.rows) are.rows cost are.best c.follow.new.path near
    same follows in
    found.0

pub returns-clause-cost : goal.returns-clause-cost
returns-clause-cost g c =
    let net = c.args.net.now in
    let w = weights_of c.args.model.now in
    let s = c.args.strand in
    let n = length c.args.rows.now in
    let t =
    get_or_read net.strands s c.index.result.now c.requires.strand c.index.ensures no_strand in
    let u = get_or_read net.strands s c.index-2.result.now c.requires.strand c.index-2.ensures
    no_strand in
    let are = ready net c.requires.net c.args._prices.now c.requires.prices
    w c.requires.kept.valid c.args._ends (is_free net c.args._taken.now) s n c.requires.rows
    c.ways_of-ways.result c.forwards.result c.depth.result c.index.result.now.first
    (length c.args.rows.now)
    c.index-2.result.now.constant (costs_at c.pay_backward.new.rows) c.args.rows.now
    c.start-start.result c.forwards.ensures.steps c.ways_of-ways.ensures.are c.depth.ensures.value
    (ap (λ (t : Strand). t.first) t) refl
    (ap (λ (t : Strand). t.constant) u) c.requires.cells c.pay_backward.ensures.rows
    c.start-start.ensures in
    let fits : SFits w64 c.start-start.result.debt.cost = search rules in
    let cost = c.start-start.result.debt.cost in
    let whole : to_z w64 (of_z w64 cost) ≡ cost = to_z-of_z w64 cost fits in
    let near : cost <ℤ pos (2 ^ 61) =
    below_of (pos (2 ^ 61)) cost (rw whole at c.if-start-ge-REACHED.false) in
    let size : length c.pay_backward.new.rows ≡ n =
    c.pay_backward.ensures.long in
    let same : length c.follow.new.path ≡ n = omega arith in
    let all =
    take_all (length c.pay_backward.new.rows) c.follow.new.path (omega (arith, size, same)) in
    let ground : IsGround (step_price c.ways_of-ways.result) c.index.result.now.first
    (length c.pay_backward.new.rows)
    (terrain net w c.args._prices.now c.args._ends (is_free net c.args._taken.now) s) =
    subst (λ (k : ℕ). IsGround (step_price c.ways_of-ways.result) c.index.result.now.first k
    (terrain net w c.args._prices.now c.args._ends (is_free net c.args._taken.now) s))
    (sym size) (subst (λ (f : ℕ). IsGround (step_price c.ways_of-ways.result) f n
    (terrain net w c.args._prices.now c.args._ends (is_free net c.args._taken.now) s))
    (sym (ap (λ (t : Strand). t.first) t)) are.ground) in
    let follows = rw all at (c.follow.ensures (terrain net w c.args._prices.now c.args._ends
    (is_free net c.args._taken.now) s) ground are.good) in
    let found = least_path net c.requires.net c.args._prices.now c.requires.prices
    w c.requires.kept.valid c.args._ends c.args._taken.now s n c.requires.strand c.requires.rows
    (costs_at c.pay_backward.new.rows) are.rows cost are.best c.follow.new.path near
    same follows in
    whole ∙ found.1
