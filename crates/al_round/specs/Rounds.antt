-- Rounds, with the room that they work in.
use Rattle.std.specs.Prelude.{◌≡◌, ◌-◌, List, length, ◌++◌, slice_get, Some, IfSome}
use Rattle.net_cost.specs.declared.weights.Weights.{Weights}
use Rattle.net_form.specs.declared.net.Net.{Net}
use Rattle.net_form.specs.declared.routes.Routes.{Routes}
use Rattle.net_form.specs.Cost.{cost_in}
use Rattle.net_path.specs.Desk.{IsReservedFor}
use Rattle.net_dual.specs.Priced.{AreInRange}
use Rattle.net_dual.specs.Value.{IsLagrange}
use Rattle.al_iter.specs.Room.{IsSpareOf}
use Rattle.al_round.specs.Allocations.{IsAllocated, IsLatest}
use Rattle.al_round.specs.Stages.{Stage, IsGreatest}
use Rattle.al_round.specs.declared.raised.Raised.{Raised}
use Rattle.al_round.specs.declared.room.RoundRoom.{RoundRoom}
use Rattle.al_round.specs.declared.rounds.Rounds.{Rounds}

-- the family of the last round
abbrev pub family_of : Rounds → Routes
family_of rounds = rounds.work.family

-- prices in range, with their value
pub record HasItsValue (net : Net) (w : Weights) (raised : Raised) : Type 0 where
  pub in_range : AreInRange net raised.prices
  pub value : IsLagrange net w raised.prices raised.value

-- room that a round works in
pub record IsRoundRoom (net : Net) (room : RoundRoom) : Type 0 where
  pub next : AreInRange net room.next
  pub work : IsReservedFor net room.work
  pub spare : IsSpareOf net room.spare

-- the raised prices of the last round are kept, with their value
pub record AreKeptRaised (net : Net) (w : Weights) (stages : List Stage) (raised : Raised)
    : Type 0 where
  pub stage : Stage
  pub is_last : slice_get stages (length stages - 1) ≡ Some stage
  pub same_prices : raised.prices ≡ stage.raised
  pub same_value : raised.value ≡ stage.raised_value
  pub has_value : HasItsValue net w raised

-- Rounds that began with `start` on this network, with this model, and went on by these stages.
pub record AreRoundsOf (net : Net) (w : Weights) (stages : List Stage) (rounds : Rounds)
    : Type 0 where
  pub allocated : IsAllocated net w stages rounds.lines rounds.best rounds.best_prices
  pub kept : IsLatest net w stages (cost_in net w rounds.best) rounds.prices
      (family_of rounds) rounds.tried
  pub raised : AreKeptRaised net w stages rounds.raised
  pub value : IsGreatest stages (length rounds.lines - 1) rounds.best_prices rounds.best_value
  pub work : IsReservedFor net rounds.work
  pub room : IfSome rounds.room (IsRoundRoom net)

-- by some stages
pub record AreRounds (net : Net) (w : Weights) (rounds : Rounds) : Type 0 where
  pub stages : List Stage
  pub are : AreRoundsOf net w stages rounds

-- By whatever stages the old rounds came where they stood, the new ones came there too, and went on
-- from there: from the prices and the family that were kept, and from those raised prices.
abbrev pub HaveGoneOn : Net → Weights → Rounds → Rounds → Type 0
HaveGoneOn net w old new = (stages : List Stage) → AreRoundsOf net w stages old →
    (more : List Stage) × AreRoundsOf net w (stages ++ more) new

-- nothing of what can be seen changed
pub record AreSame (old new : Rounds) : Type 0 where
  pub best : new.best ≡ old.best
  pub prices : new.prices ≡ old.prices
  pub best_prices : new.best_prices ≡ old.best_prices
  pub family : family_of new ≡ family_of old
  pub lines : new.lines ≡ old.lines
  pub tried : new.tried ≡ old.tried
