use Rattle.std.proofs.Common.{refl}
use Rattle.vc_stmt.proofs.ReadyCalls.{address_ready, address_counts}
use Rattle.vc_stmt.proofs.Walking.{lend_address_done, own_address}
use Rattle.vc_stmt.proofs.call.lend.Goals as goal

pub returns-in_ok-t-in-Memory-clause-lends : goal.returns-in_ok-t-in-Memory-clause-lends
returns-in_ok-t-in-Memory-clause-lends c = lend_address_done c.args.setting.now _ _ _ _ _ _
    c.in-Memory.is c.requires.is_open c.in_ok-t-in-Memory.ensures.made
    c.in_ok-t-in-Memory.ensures.number

pub returns-in_ok-t-in-Memory-clause-counts : goal.returns-in_ok-t-in-Memory-clause-counts
returns-in_ok-t-in-Memory-clause-counts c = address_counts _ _ _ _ _ _ c.in-Memory.is
    c.requires.is_open c.in_ok-t-in-Memory.ensures.made c.in_ok-t-in-Memory.ensures.number
    c.requires.named

pub returns-in_ok-t-in-Memory-clause-reads : goal.returns-in_ok-t-in-Memory-clause-reads
returns-in_ok-t-in-Memory-clause-reads c =
    address_ready _ _ _ _ _ _ c.in-Memory.is c.requires.is_open c.in_ok-t-in-Memory.ensures.made
    c.in_ok-t-in-Memory.ensures.number c.requires.named

pub returns-in_ok-t-in-Memory-clause-own : goal.returns-in_ok-t-in-Memory-clause-own
returns-in_ok-t-in-Memory-clause-own c =
    λ whole u own. absurd (c.in_default.ensures.none refl whole u
    (own_address c.args.target c.in-Memory.address u c.in-Memory.is own))
