-- Sums over as many procedures as a module may have.
use Rattle.std.proofs.Common.{ℕ, ◌*◌, ◌-◌, ◌^◌, ◌<◌, ◌≤◌, List, length, get_or, All, sum_by, arith}
use Rattle.std.proofs.lemmas.List.Sums.{sum_by-le}
use Rattle.pra_report.specs.declared.report.ProcOut.{ProcOut}
use Rattle.pra_report.specs.Report.{last_cost, last_bound, most_procs, HaveTotals, IsOfMany}

-- so many numbers of 112 bits have a sum of 128
sum_small : (f : ProcOut → ℕ) (procs : List ProcOut) → length procs ≤ most_procs
    → ((k : ℕ) (d : ProcOut) → k < length procs → f (get_or procs k d) < 2 ^ 112) → sum_by f procs <
    2 ^ 128
sum_small f procs few each =
    let le = sum_by-le f (2 ^ 112 - 1) procs
    (λ k d lt. let less = each k d lt in omega (arith, less)) in
    omega (arith, le, few)

pub many_have_totals : (procs : List ProcOut) → length procs ≤ most_procs → All IsOfMany procs →
    HaveTotals procs
many_have_totals procs few each = record {
  told = λ k d lt. (each k d lt).told;
  costs = sum_small (λ p. last_cost p.lines) procs few (λ k d lt. (each k d lt).cost);
  bounds = sum_small (λ p. last_bound p.lines) procs few (λ k d lt. (each k d lt).bound);
}
