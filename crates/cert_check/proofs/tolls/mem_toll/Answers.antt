use Rattle.std.proofs.Common.{◌∙◌, sym}
use Rattle.net_dual.specs.Priced.{pay}
use Rattle.cert_check.specs.Tolls.{mems_sum}
use Rattle.cert_check.proofs.TollParts.{mem_part_is}
use Rattle.cert_check.proofs.tolls.mem_toll.Goals as goal

pub returns-then-not-is_mem-clause-value : goal.returns-then-not-is_mem-clause-value
returns-then-not-is_mem-clause-value c =
    sym (mem_part_is c.args.net.now c.args.prices.now c.args.spot.strand c.args.spot.layer
    c.args.place ∙ (λ i. pay ((sym c.is_mem.ensures ∙ c.if-not-is_mem.true) i)
    (mems_sum c.args.net.now.pairs c.args.prices.now c.args.spot.strand c.args.spot.layer)))

pub returns-clause-value : goal.returns-clause-value
returns-clause-value c = c.end_prices.ensures.value
    ∙ sym (mem_part_is c.args.net.now c.args.prices.now c.args.spot.strand c.args.spot.layer
    c.args.place ∙ (λ i. pay ((sym c.is_mem.ensures ∙ c.if-not-is_mem.false) i)
    (mems_sum c.args.net.now.pairs c.args.prices.now c.args.spot.strand c.args.spot.layer)))
