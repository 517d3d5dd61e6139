use Rattle.std.proofs.Common.{◌<◌, ◌≤◌, ◌++◌, List, length, take, None, Some}
use Rattle.pra_base.specs.declared.ids.Place.{Place}
use Rattle.net_path.specs.Rests.{Terrain, AreBest}
use Rattle.net_path.specs.Rows.{costs_at, IsGround}
use Rattle.net_path.specs.Ways.{step_price}
use Rattle.net_path.specs.Choices.{IsGoodStart}
use Rattle.net_path.proofs.path.follow.Given as goal

abbrev pub invariant-loop-at : goal.invariant-loop-at
invariant-loop-at l = record {
  some : 0 < l.at;
  within : l.at ≤ length l.rows;
  follows : (t : Terrain) (rest : List Place) → IsGround (step_price l.ways) l.first (length l.rows)
      t
      → IsGoodStart t (costs_at l.rows 0) l.fn.start
      → AreBest t (costs_at l.rows) l.at (Some l.from) rest
      → AreBest t (costs_at l.rows) 0 None (take l.at l.path ++ rest);
}
