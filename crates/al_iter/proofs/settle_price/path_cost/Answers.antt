use Rattle.std.proofs.Common.{sym}
use Rattle.net_cost.specs.Models.{weights_of}
use Rattle.net_form.specs.Admitted.{strand_at}
use Rattle.al_iter.proofs.StaysFree.{in_memory_free}
use Rattle.al_iter.proofs.settle_price.path_cost.Goals as goal

pub returns-then-is_in_memory-clause-value : goal.returns-then-is_in_memory-clause-value
returns-then-is_in_memory-clause-value g c =
    let net = c.args.net.now in
    let s = c.args.strand in
    sym (in_memory_free net (weights_of c.args.model.now) c.requires.net.formed s
    c.requires.strand (c.has_extras.ensures c.if-not-has_extras.true) (strand_at net s).first
    c.args.path.now (c.is_in_memory.ensures c.if-is_in_memory.true))
