use Rattle.std.proofs.Common.{rules, ◌≡◌}
use Rattle.ob_read.proofs.Causes.{too_many}
use Rattle.ob_read.proofs.reader.tokens_of.Goals as goal

pub returns-in-Err-TokensOver-clause-cause : goal.returns-in-Err-TokensOver-clause-cause
returns-in-Err-TokensOver-clause-cause c =
    let many = rw c.in-Err-TokensOver.field-0-is at c.in-Err-TokensOver.ensures.cause in
    let same : c.from.result ≡ c.in-Err-TokensOver.count = search rules in
    λ other. rw same (too_many c.args.bytes.now c.in-Err-TokensOver.count many)
