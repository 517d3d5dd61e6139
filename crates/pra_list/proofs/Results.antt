-- Results by cases.
use Rattle.std.proofs.Common.{◌≡◌, refl}
use Rattle.std.specs.Prelude.{Result, Ok, Err}
use Rattle.pra_list.specs.Results.{◌>>=◌}

-- what came of a step came of a value
pub came_of : {A B E : Type 0} (r : Result A E) (g : A → Result B E) (y : B) → (r >>= g) ≡ Ok y →
    (x : A) × (r ≡ Ok x) × (g x ≡ Ok y)
came_of (Ok x) g y e = (x, refl, e)
came_of (Err f) g y e = cc
