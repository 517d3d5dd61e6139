use Rattle.net_path.proofs.Within.{wide_is_debts}
use Rattle.net_path.proofs.rows.pay_row.Goals as goal

pub pay_across-requires-clause-behind : goal.pay_across-requires-clause-behind
pay_across-requires-clause-behind c = wide_is_debts c.args.behind.now.costs c.requires.behind

pub pay_across-requires-in-true-false-clause-behind :
    goal.pay_across-requires-in-true-false-clause-behind
pay_across-requires-in-true-false-clause-behind c =
    wide_is_debts c.args.behind.now.costs c.requires.behind
