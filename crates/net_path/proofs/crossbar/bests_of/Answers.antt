use Rattle.std.proofs.Common.{arith}
use Rattle.std.proofs.lemmas.Int.{ints}
use Rattle.net_path.proofs.Leasts.{least_within}
use Rattle.net_path.proofs.crossbar.bests_of.Goals as goal

pub returns-clause-within : goal.returns-clause-within
returns-clause-within g c = record {
  alone = least_within c.args.row.now.costs 0 6 _ (omega arith) (omega arith) c.requires
      c.least_of_six.ensures;
  both = least_within c.args.row.now.costs 8 6 _ (omega arith) (omega arith) c.requires
      c.least_of_six-2.ensures;
  memory = let d = c.requires 6 (omega arith) in let e = c.debt_at.ensures in
      (omega (arith, ints, d, e), omega (arith, ints, d, e));
  constant = let d = c.requires 7 (omega arith) in let e = c.debt_at-2.ensures in
      (omega (arith, ints, d, e), omega (arith, ints, d, e));
}
