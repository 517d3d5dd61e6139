use Rattle.vc_order.proofs.Kept as kept
use Rattle.vc_order.proofs.laws.rules_know_no_order.Goals as goal

pub returns-clause-rules : goal.returns-clause-rules
returns-clause-rules c = λ to from old new counts is rules. kept.rules_kept to from old new is
    counts rules

pub returns-clause-certificates : goal.returns-clause-certificates
returns-clause-certificates c = λ to from old new counts known is rules certifies.
    kept.certificate_moves to from old new is counts rules known certifies

pub returns-clause-complete : goal.returns-clause-complete
returns-clause-complete c = λ to from old new counts last is rules is_open final closed params.
    kept.completes to from old new is counts rules last is_open final closed params

pub returns-clause-depths : goal.returns-clause-depths
returns-clause-depths c = λ to from old new most is all. kept.depths_kept to from old new is most
    all
