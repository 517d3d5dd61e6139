-- What the printed lines of a procedure say of how they came about: the prices of its rounds, and
-- what was laid by them.
use Rattle.std.specs.Prelude.{◌≡◌, ℕ, ◌≤◌, List, length, slice_get, Some}
use Rattle.net_cost.specs.declared.weights.Weights.{Weights}
use Rattle.net_form.specs.declared.net.Net.{Net}
use Rattle.net_form.specs.declared.prices.Line.{Line}
use Rattle.net_form.specs.declared.prices.Prices.{Prices}
use Rattle.net_dual.specs.Step.{IsChain}
use Rattle.al_round.specs.Ascents.{IsAscent}
use Rattle.al_round.specs.Lines.{WasTried}
use Rattle.al_round.specs.Stages.{Stage, AreStages, IsBest, chain_of, ascent_of}

-- The prices of these stages are a chain, and those that were raised an ascent. Each stage has the
-- Lagrange values of both, and the bound of its line is the greatest value of the chain until then
-- and of the ascent there, rounded up.
pub record ComeFromStages (net : Net) (w : Weights) (stages : List Stage) (lines : List Line)
    : Type 0 where
  pub chain : IsChain net w (chain_of stages)
  pub ascent : IsAscent net w (ascent_of stages)
  pub are_stages : AreStages net w stages
  pub many : length stages ≡ length lines
  pub bounds : (k : ℕ) (line : Line) → slice_get lines k ≡ Some line →
      (prices : Prices) × IsBest stages k prices line.bound

-- By the prices of these stages, for each line from the first round on, a greedy plan, its priced
-- order and what laying came to were tried; what was laid costs the line's cost at least.
pub record WereLaidBy (net : Net) (w : Weights) (stages : List Stage) (lines : List Line)
    : Type 0 where
  pub chain : IsChain net w (chain_of stages)
  pub laid : (k : ℕ) (line : Line) → 1 ≤ k → slice_get lines k ≡ Some line →
      WasTried net w stages k line.cost

-- there are stages that bounds come from
pub record ComeFromPrices (net : Net) (w : Weights) (lines : List Line) : Type 0 where
  pub stages : List Stage
  pub come : ComeFromStages net w stages lines

-- there are stages that were laid by
pub record WereLaid (net : Net) (w : Weights) (lines : List Line) : Type 0 where
  pub stages : List Stage
  pub laid : WereLaidBy net w stages lines

-- and they are the same
pub record HaveOneChain (net : Net) (w : Weights) (lines : List Line) : Type 0 where
  pub stages : List Stage
  pub come : ComeFromStages net w stages lines
  pub laid : WereLaidBy net w stages lines
