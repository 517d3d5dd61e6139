use Rattle.std.proofs.Common.{ℕ, ◌∙◌, true, pos, refl, sym}
use Rattle.pra_base.specs.Places.{number}
use Rattle.net_dual.specs.Priced.{total}
use Rattle.net_path.specs.Passing.{exit_pay}
use Rattle.net_path.specs.Ties.{exit_ties, tie_pay}
use Rattle.net_path.specs.Ways.{at}
use Rattle.net_path.proofs.ExitTies.{exit_sum}
use Rattle.net_path.proofs.InMemory.{sum_of_none, same_asks}
use Rattle.net_path.proofs.passing.asked_at_exit.Goals as goal

pub returns-then-are_exits_free : goal.returns-then-are_exits_free
returns-then-are_exits_free c =
    same_asks c.args.end (λ q. pos 0) (exit_pay c.args.net.now c.args.prices.now c.args.strand)
    c.asked_nothing.result (λ q. sym (c.if-are_exits_free.ensures refl q)) c.asked_nothing.ensures

pub returns : goal.returns
returns c =
    let net = c.args.net.now in
    let s = c.args.strand in
    let prices = c.args.prices.now in
    same_asks c.args.end (λ q. at c.pay_exits.new.row.costs (number q)) (exit_pay net prices s)
    c.asked.result (λ q.
    sum_of_none (at c.unpaid_row-row.result.costs (number q))
    (total (λ (i : ℕ). tie_pay prices true i q) (exit_ties net s))
    (at c.pay_exits.new.row.costs (number q)) (c.unpaid_row-row.ensures q) (c.pay_exits.ensures q)
    ∙ exit_sum net c.requires.net.formed c.requires.net.in_order.ties s q prices
    c.requires.strand) c.asked.ensures
