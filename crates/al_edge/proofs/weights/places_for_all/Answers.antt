use Rattle.std.proofs.Common.{◌+◌}
use Rattle.net_form.specs.declared.net.BlockEnd.TheVariants.{Entry}
use Rattle.al_edge.proofs.OpenPlaces.{masked_more, memory_left}
use Rattle.al_edge.proofs.weights.places_for_all.Goals as goal

pub returns-then-is_memory_alone : goal.returns-then-is_memory_alone
returns-then-is_memory_alone c =
    let net = c.args.net.now in
    let regs = c.args.used.now.regs in
    let i = c.loop-end.end-index in
    memory_left net c.requires.net regs c.args.group (i + 1) c.narrowed-places.result
    (c.is_memory_alone.ensures c.if-is_memory_alone.true)
    (masked_more net regs c.args.group i c.ends_of-end-items.result.now
    c.ends_of-end-items.ensures.value (record { strand = 0; end = Entry }) c.loop-end-test.true
    c.loop-end.places c.narrowed-places.result c.loop-end.invariant c.narrowed-places.ensures)

pub loop-end-preserved : goal.loop-end-preserved
loop-end-preserved c =
    masked_more c.args.net.now c.args.used.now.regs c.args.group c.loop-end.end-index
    c.ends_of-end-items.result.now c.ends_of-end-items.ensures.value
    (record { strand = 0; end = Entry }) c.loop-end-test.true c.loop-end.places
    c.narrowed-places.result c.loop-end.invariant c.narrowed-places.ensures
