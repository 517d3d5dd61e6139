use Rattle.ob_read.proofs.Causes.{broken, beyond}
use Rattle.ob_read.proofs.reader.checked_of.Goals as goal

pub returns-in-Err-Rule-clause-cause : goal.returns-in-Err-Rule-clause-cause
returns-in-Err-Rule-clause-cause c =
    let cause = rw c.in-Err-Rule.field-0-is at c.in-Err-Rule.ensures.cause in
    λ other. broken c.args.bytes.now c.args.tokens.now c.args.tree c.in-Err-Rule.rule
    c.in-Err-Rule.token c.byte_of-at.result c.requires.parsed (cause (λ e. cc)) c.byte_of-at.ensures

pub returns-in-Err-Limit-clause-cause : goal.returns-in-Err-Limit-clause-cause
returns-in-Err-Limit-clause-cause c =
    let cause = rw c.in-Err-Limit.field-0-is at c.in-Err-Limit.ensures.cause in
    λ other. beyond c.args.bytes.now c.args.tokens.now c.args.tree c.in-Err-Limit.kind
    c.in-Err-Limit.count c.requires.parsed (cause (λ e. cc))
