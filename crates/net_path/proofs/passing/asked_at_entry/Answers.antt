use Rattle.std.proofs.Common.{ℕ, ℤ, ◌∙◌, ◌-ℤ◌, pos, false, ap, refl, sym}
use Rattle.pra_base.specs.Places.{number}
use Rattle.net_dual.specs.Priced.{total}
use Rattle.net_path.specs.Passing.{entry_pay}
use Rattle.net_path.specs.Ties.{entry_ties, tie_pay}
use Rattle.net_path.specs.Ways.{at}
use Rattle.net_path.proofs.EntryTies.{entry_sum}
use Rattle.net_path.proofs.InMemory.{sum_of_none, same_asks}
use Rattle.net_path.proofs.TieSums.{total_pay}
use Rattle.net_path.proofs.passing.asked_at_entry.Goals as goal

pub returns-then-are_entries_free : goal.returns-then-are_entries_free
returns-then-are_entries_free c =
    same_asks c.args.end (λ q. pos 0) (entry_pay c.args.net.now c.args.prices.now c.args.strand)
    c.asked_nothing.result (λ q. sym (c.if-are_entries_free.ensures refl q)) c.asked_nothing.ensures

pub returns : goal.returns
returns c =
    let net = c.args.net.now in
    let s = c.args.strand in
    let prices = c.args.prices.now in
    same_asks c.args.end (λ q. at c.pay_entries.new.row.costs (number q)) (entry_pay net prices s)
    c.asked.result (λ q.
    sum_of_none (at c.unpaid_row-row.result.costs (number q))
    (total (λ (i : ℕ). tie_pay prices false i q) (entry_ties net s))
    (at c.pay_entries.new.row.costs (number q)) (c.unpaid_row-row.ensures q) (c.pay_entries.ensures q)
    ∙ total_pay prices q (entry_ties net s)
    ∙ ap (λ (z : ℤ). pos 0 -ℤ z) (entry_sum net c.requires.net.formed prices s q)) c.asked.ensures
