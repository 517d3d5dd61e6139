use Rattle.std.proofs.Common.{ℕ, ◌≡◌, ◌+◌, ◌-◌, ◌∙◌, length, get_or, take, drop, None, arith, ap}
use Rattle.pra_base.specs.declared.ids.Place.TheVariants.{Eax}
use Rattle.net_form.specs.Admitted.{strand_at}
use Rattle.net_form.specs.Index.{first_layer}
use Rattle.net_form.specs.InUse.{lands_in}
use Rattle.net_form.proofs.PathUses.{uses, uses_step, uses_none}
use Rattle.net_gate.proofs.Occupied.{stands_same}
use Rattle.net_gate.proofs.bundles.go_along.Goals as goal

pub loop-rest-preserved : goal.loop-rest-preserved
loop-rest-preserved c =
    let net = c.args.net.now in
    let s = c.args.strand in
    let first = (strand_at net s).first in
    let base = first_layer net.blocks (strand_at net s).block.0 in
    let layer = c.loop-rest.layer in
    let rest = c.loop-rest.rest.now in
    let others = take (length rest - 1) (drop 1 rest) in
    let step : (n r : ℕ) → uses net n r s (layer - base) None rest ≡
    lands_in layer (get_or rest 0 Eax) n r + uses net n r s (layer + 1 - base) None others =
    λ n r. uses_step net n r s (layer - base) layer rest Eax c.in-len1-up.len_at_least
    (omega (arith, c.loop-rest.invariant.after))
    ∙ ap (λ (k : ℕ). lands_in layer (get_or rest 0 Eax) n r + uses net n r s k None others)
    (let e : layer - base + 1 ≡ layer + 1 - base = omega (arith, c.loop-rest.invariant.after) in e)
    in
    record {
      long = c.come_to-clash.ensures.long ∙ c.loop-rest.invariant.long;
      mems = c.come_to-clash.ensures.mems ∙ c.loop-rest.invariant.mems;
      after = omega (arith, c.loop-rest.invariant.after);
      layer = omega arith;
      bound = λ n r. let now = step n r in let was = c.loop-rest.invariant.bound n r in
          omega (arith, now, was);
      stands = λ d stood.
          stands_same (λ n r. d n r + (uses net n r s first None c.args.path.now - uses net n r s
          (layer - base) None rest) + lands_in layer (get_or rest 0 Eax) n r)
          (λ n r. d n r + (uses net n r s first None c.args.path.now - uses net n r s
          (layer + 1 - base) None others)) c.come_to-clash.new.taken.regs c.come_to-clash.result
          (λ n r. let now = step n r in let was = c.loop-rest.invariant.bound n r in
          omega (arith, now, was))
          (c.come_to-clash.ensures.stands
          (λ n r. d n r + (uses net n r s first None c.args.path.now - uses net n r s
          (layer - base) None rest)) (c.loop-rest.invariant.stands d stood));
    }

pub returns-clause-stands : goal.returns-clause-stands
returns-clause-stands c = λ d stood.
    let net = c.args.net.now in
    let s = c.args.strand in
    let first = (strand_at net s).first in
    let base = first_layer net.blocks (strand_at net s).block.0 in
    stands_same (λ n r. d n r + (uses net n r s first None c.args.path.now - uses net n r s
    (c.loop-rest.layer - base) None c.loop-rest.rest.now))
    (λ n r. d n r + uses net n r s first None c.args.path.now) c.loop-rest.taken.regs
    c.loop-rest.clash
    (λ n r. let none = uses_none net n r s (c.loop-rest.layer - base) c.loop-rest.rest.now
    c.in_default.len_below in omega (arith, none))
    (c.loop-rest.invariant.stands d stood)
