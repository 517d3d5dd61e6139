use Rattle.vc_expr.proofs.Unread.{entry_unread, dividend_dead}
use Rattle.vc_expr.proofs.laws.certified_code_reads_what_is_written.Goals as goal

pub returns-clause-entry : goal.returns-clause-entry
returns-clause-entry c = λ known code v. entry_unread known code v

pub returns-clause-dividends : goal.returns-clause-dividends
returns-clause-dividends c = λ known code b k q r a d. dividend_dead known code b k q r a d
