use Rattle.std.proofs.Common.{◌<◌, ℕ, pos, length, arith}
use Rattle.std.proofs.lemmas.Int.{ints}
use Rattle.net_form.specs.declared.net.MemPair.{MemPair}
use Rattle.net_form.specs.InUse.{no_pair}
use Rattle.net_dual.specs.Priced.{pay, mem_price}
use Rattle.net_dual.proofs.Totals.{sum_more}
use Rattle.cert_check.specs.Tolls.{is_end}
use Rattle.cert_check.proofs.tolls.end_prices.Goals as goal

pub loop-pair-preserved : goal.loop-pair-preserved
loop-pair-preserved c =
    let net = c.args.net.now in
    let lt : c.loop-pair.pair < length net.pairs = omega arith in
    let more = sum_more (λ (m : ℕ × MemPair). pay (is_end c.args.spot.strand c.args.spot.layer m.1)
    (pos (mem_price c.args.prices.now m.0))) net.pairs c.loop-pair.pair no_pair lt in
    record { total = omega (arith, ints); small = omega arith }
