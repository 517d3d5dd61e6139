-- Paths laid one after the other, each least through what those before it left.
use Rattle.std.specs.Prelude.{◌≡◌, ℕ, ◌<◌, Bool, nat_eq, List, take, slice_get, Option, Some}
use Rattle.std.specs.Prelude.{option_and_then}
use Rattle.std.specs.List.{list_any}
use Rattle.pra_base.specs.declared.ids.Place.{Place}
use Rattle.net_cost.specs.declared.weights.Weights.{Weights}
use Rattle.net_form.specs.declared.net.Net.{Net}
use Rattle.net_form.specs.declared.prices.Prices.{Prices}
use Rattle.net_form.specs.declared.routes.Ends.{Ends}
use Rattle.net_form.specs.declared.routes.Plan.{Plan}
use Rattle.net_form.specs.declared.routes.Routes.{Routes}
use Rattle.net_form.specs.declared.taken.Taken.{Taken}
use Rattle.net_form.specs.Admitted.{strand_at}
use Rattle.net_form.specs.InUse.{StandsFor, UsesNothing}
use Rattle.net_dual.specs.Paths.{IsLeast, MayGo, path_in}
use Rattle.net_dual.specs.Priced.{edge_price}
use Rattle.al_laws.specs.Parts.{ClearOf, part}

-- the plan's place for a tie group
abbrev pub planned : Plan → Option ℕ → Option Place
planned plan group = option_and_then (λ g. slice_get plan.places g) group

-- the ends that the plan gives a strand
abbrev pub plan_ends : Net → Plan → ℕ → Ends
plan_ends net plan s = record {
  first = planned plan (strand_at net s).entry_group;
  last = planned plan (strand_at net s).exit_group;
}

-- strand s is among the first k of the order
abbrev pub was_laid : List ℕ → ℕ → ℕ → Bool
was_laid order k s = list_any (nat_eq s) (take k order)

abbrev pub AreLaid : Net → Weights → Prices → Plan → List ℕ → Routes → Type 0
AreLaid net w prices plan order routes =
    (k s : ℕ) → slice_get order k ≡ Some s →
    IsLeast net (edge_price net w prices) (plan_ends net plan s)
    (ClearOf net (part net (was_laid order k) routes)) s (path_in routes s)

-- the first n strands of the order are laid
abbrev pub AreLaidBefore : Net → Weights → Prices → Plan → List ℕ → ℕ → Routes → Type 0
AreLaidBefore net w prices plan order n routes =
    (k s : ℕ) → k < n → slice_get order k ≡ Some s →
    IsLeast net (edge_price net w prices) (plan_ends net plan s)
    (ClearOf net (part net (was_laid order k) routes)) s (path_in routes s)

-- Strand s has no path with the plan's ends past what is taken, which is what the strands before it
-- in the order use, laid each through what those before it left.
pub record IsBlocked (net : Net) (w : Weights) (prices : Prices) (plan : Plan) (order : List ℕ)
    (s : ℕ) (taken : Taken) : Type 0 where
  pub at : ℕ
  pub is_next : slice_get order at ≡ Some s
  pub routes : Routes
  pub laid : AreLaidBefore net w prices plan order at routes
  pub kept : StandsFor net taken (part net (was_laid order at) routes)
  pub none : (ps : List Place) →
      MayGo net (plan_ends net plan s) (UsesNothing net taken) s ps → ⊥
