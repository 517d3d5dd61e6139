-- Least paths where other things are taken than before, but no more and no less.
use Rattle.std.proofs.Common.{ℕ, ℤ, ◌≡◌, ◌<◌, List, [], length, slice_get, Some}
use Rattle.pra_base.specs.declared.ids.Place.{Place}
use Rattle.net_form.specs.declared.net.Net.{Net}
use Rattle.net_form.specs.declared.routes.Ends.{Ends}
use Rattle.net_form.specs.declared.routes.Plan.{Plan}
use Rattle.net_form.specs.declared.taken.Taken.{Taken}
use Rattle.net_form.specs.Flow.{Edge}
use Rattle.net_form.specs.InUse.{UsesNothing, StandsFor}
use Rattle.net_laws.specs.Built.{IsBuilt}
use Rattle.net_dual.specs.Paths.{Clear, MayGo, IsLeast, Anywhere, path_edges}
use Rattle.al_laws.specs.Greedy.{IsOpen}
use Rattle.al_laws.specs.Laid.{plan_ends}
use Rattle.al_laws.proofs.EndsAnywhere.{anywhere_ends, planned_ends}
use Rattle.al_laws.proofs.HomePaths.{home_path}

-- what keeps clear of the one keeps clear of the other
module _ (net : Net) (price : Edge → ℤ) (ends : Ends) (one two : Clear) (s : ℕ)
    (there : (f : List Edge) → one f → two f) (back : (f : List Edge) → two f → one f) where
  may_go : (ps : List Place) → MayGo net ends one s ps → MayGo net ends two s ps
  may_go ps goes = record {
    path = goes.path;
    has_ends = goes.has_ends;
    is_clear = there (path_edges net s ps) goes.is_clear;
  }

  pub least_past : (ps : List Place) → IsLeast net price ends one s ps
      → IsLeast net price ends two s ps
  least_past ps least = record {
    goes = may_go ps least.goes;
    least = λ qs goes. least.least qs (record {
      path = goes.path;
      has_ends = goes.has_ends;
      is_clear = back (path_edges net s qs) goes.is_clear;
    });
  }

-- nothing is taken
module _ (net : Net) (taken : Taken) (free : StandsFor net taken []) where
  unused : (f : List Edge) → UsesNothing net taken f
  unused f = record {
    registers = λ k d lt has. free.registers _ _;
    pairs = λ j in_ k d lt uses. free.pairs j in_;
  }

  pub least_of_all : (price : Edge → ℤ) (ends : Ends) (s : ℕ) (ps : List Place)
      → IsLeast net price ends (UsesNothing net taken) s ps → IsLeast net price ends Anywhere s ps
  least_of_all price ends s ps least = least_past net price ends (UsesNothing net taken) Anywhere s
      (λ f _. tt) (λ f _. unused f) ps least

  -- with the ends of a plan of open places there is a path
  pub some_way : (plan : Plan) (s : ℕ) → IsBuilt net → s < length net.strands
      → ((g : ℕ) (p : Place) → slice_get plan.places g ≡ Some p → IsOpen net plan g p)
      → ((ps : List Place) → MayGo net (plan_ends net plan s) (UsesNothing net taken) s ps → ⊥) → ⊥
  some_way plan s built lt opens none =
      let home = home_path net built s lt in
      let way = anywhere_ends net built s lt (plan_ends net plan s)
      (planned_ends net built s lt plan opens) home.0 home.1 in
      none way.0 (record {
        path = way.1.path;
        has_ends = way.1.has_ends;
        is_clear = unused (path_edges net s way.0);
      })
