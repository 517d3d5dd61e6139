-- A cost model, and what is known of the function that it keeps.
use Rattle.std.specs.Prelude.{◌≡◌, ℕ, ◌≤◌}
use Rattle.std.specs.Fn.{Shared}
use Rattle.net_cost.specs.declared.event.Event.{Event}
use Rattle.net_cost.specs.declared.weights.Weights.{Weights}
use Rattle.net_cost.specs.declared.model.CostModel.{CostModel}
use Rattle.net_cost.specs.Weights.{weight_of, deepest, IsValid}

-- the function may be asked of every event at every loop depth, and answers the weight
pub record Answers {F : Type 0} (calls : Shared F (Event × (ℕ × Unit {0})) ℕ)
    (w : Weights) (f : F) : Type 0 where
  pub callable : (e : Event) (d : ℕ) → d ≤ deepest → calls.pre f (e, (d, tt))
  pub answers : (e : Event) (d r : ℕ) → d ≤ deepest → calls.post f (e, (d, tt)) r →
      r ≡ weight_of w e d

-- the weights that the model answers
abbrev pub weights_of : {F : Type 0} → CostModel F → Weights
weights_of m = m.weights

-- the model keeps a function that answers its weights
pub record Keeps {F : Type 0} (calls : Shared F (Event × (ℕ × Unit {0})) ℕ)
    (m : CostModel F) : Type 0 where
  pub valid : IsValid m.weights
  pub answers : Answers calls m.weights m.function
