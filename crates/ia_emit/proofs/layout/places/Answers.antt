use Rattle.std.proofs.Common.{rules, ◌≡◌, ◌++◌, ◌∷◌, [], get_or, arith}
use Rattle.std.proofs.lemmas.List.{take_more}
use Rattle.ia_emit.proofs.Sizes.{none_placed, one_placed_more, all_placed, sound_at, size_take_more}
use Rattle.ia_emit.proofs.Sizes.{past}
use Rattle.ia_emit.proofs.layout.places.Goals as goal

pub loop-item-init : goal.loop-item-init
loop-item-init c = record {
  end = omega arith;
  count = search rules;
  places = none_placed c.args.items.now c.args.at c.in_ok-places.places.items;
}

pub size_of-end-requires : goal.size_of-end-requires
size_of-end-requires c = sound_at c.args.items.now c.loop-item.item-index _ c.loop-item-test.true
    c.requires.sound

pub loop-item-preserved : goal.loop-item-preserved
loop-item-preserved c =
    let items = c.args.items.now in
    let k = c.loop-item.item-index in
    let size = size_take_more items k (get_or items k past)
    (take_more items k past c.loop-item-test.true) in
    let pushed : c.push.new.self.items ≡ c.loop-item.places.items ++ c.loop-item.end ∷ [] =
    search rules in
    record {
      end = omega (arith, c.loop-item.invariant.end, c.size_of-end.ensures, size);
      count = search rules;
      places = one_placed_more items c.args.at k c.loop-item.end c.loop-item.places.items
          c.push.new.self.items c.loop-item.invariant.count c.loop-item.invariant.end pushed
          c.loop-item.invariant.places;
    }

pub returns : goal.returns
returns c = all_placed c.args.items.now c.args.at c.loop-item.item-index c.loop-item.end
    c.loop-item.places.items c.loop-item-test.false c.loop-item.invariant.count
    c.loop-item.invariant.end c.loop-item.invariant.places
