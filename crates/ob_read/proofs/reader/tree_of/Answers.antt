use Rattle.std.proofs.Common.{rules}
use Rattle.ob_read.proofs.Causes.{stopped, deepened}
use Rattle.ob_read.proofs.reader.tree_of.Goals as goal

pub returns-in-Err-Grammar-clause-cause : goal.returns-in-Err-Grammar-clause-cause
returns-in-Err-Grammar-clause-cause c =
    let token = c.in-Err-Grammar.token in
    λ other. stopped c.args.bytes.now c.args.tokens.now token c.byte_of-at.result c.requires
    (c.in-Err-Grammar.ensures.grammar token (search rules)) c.byte_of-at.ensures

pub returns-in-Err-TooDeep-clause-cause : goal.returns-in-Err-TooDeep-clause-cause
returns-in-Err-TooDeep-clause-cause c =
    let token = c.in-Err-TooDeep.token in
    λ other. deepened c.args.bytes.now c.args.tokens.now token
    c.byte_of-at-in-Err-TooDeep.result c.requires
    (c.in-Err-TooDeep.ensures.deep token (search rules)) c.byte_of-at-in-Err-TooDeep.ensures
