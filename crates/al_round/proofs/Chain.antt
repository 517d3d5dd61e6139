-- Prices of stages are a chain, and raised prices an ascent.
use Rattle.std.proofs.Common.{◌≡◌, ℕ, suc, ◌≤◌, List, length, Some, ap, subst, ◌∙◌}
use Rattle.std.proofs.Common.{arith}
use Rattle.std.specs.Prelude.{slice_get, option_map}
use Rattle.std.proofs.lemmas.Option.{slice_get-map}
use Rattle.net_cost.specs.declared.weights.Weights.{Weights}
use Rattle.net_form.specs.declared.net.Net.{Net}
use Rattle.net_form.specs.declared.prices.Prices.{Prices}
use Rattle.net_dual.specs.Step.{IsRound, IsChain}
use Rattle.al_round.specs.Ascents.{AreRaisedPrices, IsAscent}
use Rattle.al_round.specs.Stages.{Stage, AreStages, chain_of, ascent_of}
use Rattle.al_round.proofs.Grown.{got_within, got_mapped}

abbrev prices_of : Stage → Prices
prices_of s = s.prices

abbrev raised_of : Stage → Prices
raised_of s = s.raised

module _ (net : Net) (w : Weights) (stages : List Stage) (are : AreStages net w stages) where
  goes_on : (k : ℕ) (old new : Prices) → slice_get (chain_of stages) k ≡ Some old
      → slice_get (chain_of stages) (suc k) ≡ Some new → IsRound net w (suc k) old new
  goes_on k old new one two =
      let a = got_mapped prices_of stages k old one in
      let b = got_mapped prices_of stages (suc k) new two in
      subst (λ p. IsRound net w (suc k) p new) a.1.1
      (subst (λ p. IsRound net w (suc k) a.0.prices p) b.1.1
      (record {
        family = a.0.family;
        least = (are.values k a.0 a.1.0).least;
        next = are.goes_on k a.0 b.0 a.1.0 b.1.0;
      }))

  pub are_a_chain : 1 ≤ length stages → IsChain net w (chain_of stages)
  are_a_chain some =
      let first = got_within stages 0 (omega (arith, some)) in
      record {
        starts = slice_get-map prices_of stages 0 ∙ ap (option_map prices_of) first.1
            ∙ ap Some (are.starts first.0 first.1);
        goes_on = goes_on;
      }

  rises : (k : ℕ) (old new : Prices) → slice_get (ascent_of stages) k ≡ Some old
      → slice_get (ascent_of stages) (suc k) ≡ Some new → AreRaisedPrices net w old new
  rises k old new one two =
      let a = got_mapped raised_of stages k old one in
      let b = got_mapped raised_of stages (suc k) new two in
      subst (λ p. AreRaisedPrices net w p new) a.1.1
      (subst (λ p. AreRaisedPrices net w a.0.raised p) b.1.1 (are.rise k a.0 b.0 a.1.0 b.1.0))

  pub are_an_ascent : 1 ≤ length stages → IsAscent net w (ascent_of stages)
  are_an_ascent some =
      let first = got_within stages 0 (omega (arith, some)) in
      record {
        starts = slice_get-map raised_of stages 0 ∙ ap (option_map raised_of) first.1
            ∙ ap Some (are.rise_from first.0 first.1);
        goes_on = rises;
      }
