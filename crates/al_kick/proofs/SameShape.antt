-- What has as many paths as the routes of a network, each as long, is routes of it.
use Rattle.std.proofs.Common.{ℕ, ◌≡◌, List, [], ◌∷◌, ◌++◌, length, take, get_or, refl, ap, arith}
use Rattle.net_form.specs.declared.net.Net.{Net}
use Rattle.net_form.specs.declared.routes.Routes.{Routes}
use Rattle.net_form.specs.Flow.{AreRoutes}
use Rattle.net_form.proofs.RoutesConserve.{as_many}
use Rattle.net_dual.proofs.Strands.{each_long, has_places}

pub of_one_shape : (net : Net) (old new : Routes) → AreRoutes net old
    → length new.places ≡ length old.places
    → ((s : ℕ) → length (get_or new.places s []) ≡ length (get_or old.places s []))
    → AreRoutes net new
of_one_shape net old new has many long = has_places net.strands new.places
    (let count = as_many net.strands old.places has in omega (arith, many, count))
    (λ s lt. let was = each_long net old has s lt in let same = long s in omega (arith, was, same))

-- the front of a list that is as long as the first of its two parts is that part
pub front_whole : {A : Type 0} (xs ys : List A) → take (length xs) (xs ++ ys) ≡ xs
front_whole [] ys = refl
front_whole (x ∷ xs) ys = ap (λ (l : List _). x ∷ l) (front_whole xs ys)
