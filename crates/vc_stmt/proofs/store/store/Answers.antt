use Rattle.vc_stmt.proofs.Endings.{store_done}
use Rattle.vc_stmt.proofs.ReadyStores.{one_put, stores_memory}
use Rattle.vc_stmt.proofs.store.store.Goals as goal

pub returns-in_ok-put-in-Memory-clause-stores : goal.returns-in_ok-put-in-Memory-clause-stores
returns-in_ok-put-in-Memory-clause-stores c = store_done c.args.setting.now _ _ _ _ _ _
    c.in-Memory.is c.requires.is_open c.in_ok-put-in-Memory.ensures

pub returns-in_ok-put-in-Memory-clause-counts : goal.returns-in_ok-put-in-Memory-clause-counts
returns-in_ok-put-in-Memory-clause-counts c =
    one_put _ _ _ _ c.requires.is_open c.in_ok-put-in-Memory.ensures

pub returns-in_ok-put-in-Memory-clause-ready : goal.returns-in_ok-put-in-Memory-clause-ready
returns-in_ok-put-in-Memory-clause-ready c = stores_memory c.args.setting.now _ _ _ _ _ _
    c.in-Memory.is c.requires.is_open c.requires.named c.in_ok-put-in-Memory.ensures
