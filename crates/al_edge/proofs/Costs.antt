-- Least costs where nothing is in use, and their sums.
use Rattle.std.proofs.Common.{ℕ, ◌≡◌, ◌<◌, true, false, ℤ, pos, List, [], length, Option, Some}
use Rattle.std.proofs.Common.{None, unwrap_or, refl, sym, subst}
use Rattle.std.specs.Option.{MatchOption}
use Rattle.pra_base.specs.declared.ids.Place.{Place}
use Rattle.net_cost.specs.declared.weights.Weights.{Weights}
use Rattle.net_form.specs.declared.net.Net.{Net}
use Rattle.net_form.specs.declared.prices.Prices.{Prices}
use Rattle.net_form.specs.declared.routes.Ends.{Ends}
use Rattle.net_form.specs.declared.taken.Taken.{Taken}
use Rattle.net_form.specs.Admitted.{strand_at}
use Rattle.net_form.specs.Flow.{Edge}
use Rattle.net_form.specs.InUse.{UsesNothing, StandsFor}
use Rattle.net_laws.specs.Built.{IsBuilt}
use Rattle.net_dual.specs.Paths.{MayGo, IsLeast, IsLeastCost, Anywhere, path_edges, path_price}
use Rattle.net_dual.specs.Priced.{edge_price}
use Rattle.net_path.specs.Starts.{starting, stopping}
use Rattle.al_laws.specs.Greedy.{group_ends, is_group}
use Rattle.al_laws.proofs.EndsAnywhere.{anywhere_ends}
use Rattle.al_laws.proofs.HomePaths.{home_path}
use Rattle.al_edge.specs.OpenPlaces.{IsInMasks}
use Rattle.al_edge.specs.Weighed.{IsCostAt}
use Rattle.al_edge.proofs.OpenPlaces.{may_end}

module _ (net : Net) (taken : Taken) (free : StandsFor net taken []) where
  unused : (f : List Edge) → UsesNothing net taken f
  unused f = record {
    registers = λ k d lt has. free.registers _ _;
    pairs = λ j in_ k d lt uses. free.pairs j in_;
  }

  pub least_cost : (price : Edge → ℤ) (ends : Ends) (s : ℕ) (ps : List Place) (z : ℤ)
      → IsLeast net price ends (UsesNothing net taken) s ps → z ≡ path_price net price s ps
      → IsLeastCost net price ends Anywhere s z
  least_cost price ends s ps z least is = record {
    way = ps;
    is_least = record {
      goes = record {
        path = least.goes.path;
        has_ends = least.goes.has_ends;
        is_clear = tt;
      };
      least = λ qs goes. least.least qs (record {
        path = goes.path;
        has_ends = goes.has_ends;
        is_clear = unused (path_edges net s qs);
      });
    };
    is = sym is;
  }

  pub some_way : IsBuilt net → (g : ℕ) (p : Place) → IsInMasks net g p → (s : ℕ)
      → s < length net.strands
      → ((ps : List Place) → MayGo net (group_ends net g p s) (UsesNothing net taken) s ps → ⊥)
      → ⊥
  some_way built g p masks s lt none =
      let home = home_path net built s lt in
      let way = anywhere_ends net built s lt (group_ends net g p s)
      (may_end net built g p masks s lt) home.0 home.1 in
      none way.0 (record {
        path = way.1.path;
        has_ends = way.1.has_ends;
        is_clear = unused (path_edges net s way.0);
      })

  -- where nothing is in use, a least cost is one of all paths
  pub anywhere_cost : (price : Edge → ℤ) (ends : Ends) (s : ℕ) (z : ℤ)
      → IsLeastCost net price ends (UsesNothing net taken) s z
      → IsLeastCost net price ends Anywhere s z
  anywhere_cost price ends s z cost =
      least_cost price ends s cost.way z cost.is_least (sym cost.is)

  -- what was found for these ends, which are those of the group
  module _ (built : IsBuilt net) (w : Weights) (prices : Prices) (g s : ℕ)
      (lt : s < length net.strands) (p : Place) (masks : IsInMasks net g p) (ends : Ends)
      (are : group_ends net g p s ≡ ends) where
    pub cost_with : (o : Option ℤ)
        → MatchOption o ((ps : List Place) → MayGo net ends (UsesNothing net taken) s ps → ⊥)
        (IsLeastCost net (edge_price net w prices) ends (UsesNothing net taken) s) → (z : ℤ)
        → z ≡ unwrap_or o (pos 0) → IsCostAt net w prices g p s z
    cost_with None none z is = absurd (some_way built g p masks s lt
        (subst (λ (ends : Ends). (ps : List Place) → MayGo net ends
        (UsesNothing net taken) s ps → ⊥) (sym are) none))
    cost_with (Some x) cost z is =
        subst (λ (y : ℤ). IsCostAt net w prices g p s y) (sym is)
        (subst (λ (ends : Ends). IsLeastCost net (edge_price net w prices) ends Anywhere s x)
        (sym are) (anywhere_cost (edge_price net w prices) ends s x cost))

module _ (net : Net) (g s : ℕ) (p : Place) where
  -- the entry alone is in the group
  pub entry_ends : is_group g (strand_at net s).entry_group ≡ true
      → is_group g (strand_at net s).exit_group ≡ false → group_ends net g p s ≡ starting None p
  entry_ends entry exit = rw (entry, exit) refl

  -- the exit alone is
  pub exit_ends : is_group g (strand_at net s).entry_group ≡ false
      → is_group g (strand_at net s).exit_group ≡ true → group_ends net g p s ≡ stopping None p
  exit_ends entry exit = rw (entry, exit) refl

  -- both are
  pub both_ends : is_group g (strand_at net s).entry_group ≡ true
      → is_group g (strand_at net s).exit_group ≡ true
      → group_ends net g p s ≡ starting (Some p) p
  both_ends entry exit = rw (entry, exit) refl
