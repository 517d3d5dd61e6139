use Rattle.std.proofs.Common.{suc, ◌≡◌, ◌∷◌, [], length, Some, arith, add-one, append-nil, ◌<◌}
use Rattle.std.proofs.Common.{length-set}
use Rattle.pra_base.specs.declared.ids.Place.{Place}
use Rattle.net_path.specs.Rests.{AreBest}
use Rattle.net_path.specs.Rows.{costs_at}
use Rattle.net_path.proofs.Following.{goes_on, begins, put_behind, put_first}
use Rattle.net_path.proofs.path.follow.Goals as goal

pub loop-at-init : goal.loop-at-init
loop-at-init c = record {
  some = omega arith;
  within = omega (arith, c.requires.some);
  follows = λ t rest ground good follows.
      let is = put_first c.args.path.now rest c.args.start
      (omega (arith, c.requires.some, c.requires.room)) in
      rw is (begins t (costs_at c.args.rows.now) c.args.start rest good follows);
}

pub loop-at-preserved : goal.loop-at-preserved
loop-at-preserved c = record {
  some = omega arith;
  within = omega (arith, c.loop-at-test.true);
  follows = λ t rest ground good follows.
      let i = c.loop-at.at in
      let q = c.next_place-from.result in
      let lt : i < length c.loop-at.path = omega (
        arith,
        c.loop-at-test.true,
        c.requires.room,
        c.loop-at.auto.path,
        length-set {A = Place},
      ) in
      let is = put_behind c.loop-at.path i q rest lt in
      let behind : AreBest t (costs_at c.args.rows.now) (suc i) (Some q) rest =
      rw (← add-one i) follows in
      rw is (c.loop-at.invariant.follows t (q ∷ rest) ground good
      (goes_on c.args.ways.now c.args.first (length c.args.rows.now) t ground
      (costs_at c.args.rows.now) i c.loop-at.from q c.next_place-from.ensures.across
      c.next_place-from.ensures.crossbar rest behind));
}

pub returns : goal.returns
returns c = λ t ground good.
    let n = length c.args.rows.now in
    let end : c.loop-at.at ≡ n = omega (arith, c.loop-at-test.false, c.loop-at.invariant.within) in
    let all = c.loop-at.invariant.follows t [] ground good tt in
    let last = rw end at all in
    rw append-nil at last
