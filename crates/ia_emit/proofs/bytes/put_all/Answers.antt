use Rattle.std.proofs.Common.{take, sym, arith, subst}
use Rattle.std.proofs.lemmas.List.{take_more, take_all}
use Rattle.ia_emit.specs.Open.{IsOpen}
use Rattle.ia_emit.specs.Code.{target_in}
use Rattle.ia_emit.proofs.Open.{start_open, length_open}
use Rattle.ia_emit.proofs.Sizes.{sound_at, size_front, past}
use Rattle.ia_emit.proofs.bytes.put_all.Goals as goal

pub loop-item-init : goal.loop-item-init
loop-item-init c =
    start_open (target_in c.args.layout.now.proc.now c.args.layout.now.at) c.args.layout.now.at
    c.new-bytes.result.items c.new-calls.result.items c.new-bytes.ensures.items
    c.new-calls.ensures.items

pub put-requires : goal.put-requires
put-requires c =
    let l = c.args.layout.now in
    let items = c.args.items.now in
    let k = c.loop-item.item-index in
    let long = length_open (target_in l.proc.now l.at) l.at (take k items) c.loop-item.bytes.items
    c.loop-item.calls.items c.loop-item.invariant in
    let room = size_front items k past c.loop-item-test.true in
    record {
      sound = sound_at items k past c.loop-item-test.true c.requires.sound;
      room = omega (arith, long, room, c.requires.room);
    }

pub loop-item-preserved : goal.loop-item-preserved
loop-item-preserved c =
    let l = c.args.layout.now in
    let items = c.args.items.now in
    let k = c.loop-item.item-index in
    subst (λ done. IsOpen (target_in l.proc.now l.at) l.at done c.put.new.bytes.items
    c.put.new.calls.items) (sym (take_more items k past c.loop-item-test.true))
    (c.in_ok-put.ensures (take k items) c.loop-item.invariant)

pub returns : goal.returns
returns c =
    let l = c.args.layout.now in
    let items = c.args.items.now in
    let k = c.loop-item.item-index in
    subst (λ done. IsOpen (target_in l.proc.now l.at) l.at done c.loop-item.bytes.items
    c.loop-item.calls.items) (take_all k items c.loop-item-test.false) c.loop-item.invariant
