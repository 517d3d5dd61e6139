-- Routes of one network have as many paths, each as long.
use Rattle.std.proofs.Common.{◌≡◌, ℕ, ◌<◌, [], length, get_or, sym, ◌∙◌, arith}
use Rattle.net_form.specs.declared.net.Net.{Net}
use Rattle.net_form.specs.declared.routes.Routes.{Routes}
use Rattle.net_form.specs.Flow.{AreRoutes}
use Rattle.net_form.proofs.RoutesConserve.{as_many}
use Rattle.net_dual.proofs.Strands.{each_long}

module _ (net : Net) (one two : Routes) (a : AreRoutes net one) (b : AreRoutes net two) where
  pub as_many_paths : length one.places ≡ length two.places
  as_many_paths = as_many net.strands one.places a ∙ sym (as_many net.strands two.places b)

  pub each_as_long : (s : ℕ) → s < length two.places
      → length (get_or one.places s []) ≡ length (get_or two.places s [])
  each_as_long s lt =
      let many = as_many net.strands two.places b in
      let within : s < length net.strands = omega (arith, lt, many) in
      let left = each_long net one a s within in
      let right = each_long net two b s within in
      omega (arith, left, right)
