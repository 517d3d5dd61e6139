-- Where paths begin and end.
use Rattle.std.proofs.Common.{ℕ, ◌≡◌, ◌+◌, ◌-◌, ◌<◌, ◌≤◌, cond, length, get_or, slice_get}
use Rattle.std.proofs.Common.{Option, None, Some, ap, ◌∙◌, subst, arith}
use Rattle.std.specs.Prelude.{IfSome}
use Rattle.std.proofs.lemmas.Bool.{le-leb}
use Rattle.std.proofs.lemmas.Option.{slice_get-get_or}
use Rattle.pra_base.specs.declared.ids.Place.{Place}
use Rattle.pra_base.specs.declared.ids.Place.TheVariants.{Mem}
use Rattle.net_form.specs.declared.net.Net.{Net}
use Rattle.net_form.specs.declared.routes.Routes.{Routes}
use Rattle.net_form.specs.Flow.{AreRoutes}
use Rattle.net_form.specs.Admitted.{strand_at, no_strand}
use Rattle.net_form.specs.Cost.{route_at}
use Rattle.net_form.specs.Formed.{IsFormed}
use Rattle.net_dual.specs.Paths.{path_in}
use Rattle.net_dual.proofs.Strands.{each_long}

pub held : {A : Type 0} (P : A → Type 0) (o : Option A) (a : A) → IfSome o P → o ≡ Some a → P a
held P o a h is = subst (λ o. IfSome o P) is h

module _ (net : Net) (formed : IsFormed net) (routes : Routes) (has : AreRoutes net routes) (s : ℕ)
    (lt : s < length net.strands) where
  order : (strand_at net s).first ≤ (strand_at net s).last
  order = (formed.strands s no_strand lt).order

  long : (strand_at net s).first + length (path_in routes s) ≡ (strand_at net s).last + 1
  long = each_long net routes has s lt

  pub at_last : route_at net routes s (strand_at net s).last ≡ slice_get (path_in routes s)
      (length (path_in routes s) - 1)
  at_last =
      let o = order in
      let l = long in
      ap (λ b. cond b
      (slice_get (path_in routes s) ((strand_at net s).last - (strand_at net s).first)) None)
      (le-leb (strand_at net s).first (strand_at net s).last o)
      ∙ ap (slice_get (path_in routes s))
      (let e : (strand_at net s).last - (strand_at net s).first ≡ length (path_in routes s) -
      1 = omega (arith, o, l) in e)

  pub at_first : route_at net routes s (strand_at net s).first ≡ slice_get (path_in routes s) 0
  at_first =
      ap (λ b. cond b
      (slice_get (path_in routes s) ((strand_at net s).first - (strand_at net s).first)) None)
      (le-leb (strand_at net s).first (strand_at net s).first (omega arith))
      ∙ ap (slice_get (path_in routes s))
      (let e : (strand_at net s).first - (strand_at net s).first ≡ 0 = omega arith in e)

  -- there is a place
  pub last_place : Place
  last_place = get_or (path_in routes s) (length (path_in routes s) - 1) Mem

  pub first_place : Place
  first_place = get_or (path_in routes s) 0 Mem

  pub last_is : slice_get (path_in routes s) (length (path_in routes s) - 1) ≡ Some last_place
  unfolding last_place
  last_is = let o = order in let l = long in slice_get-get_or (path_in routes s)
      (length (path_in routes s) - 1) Mem (omega (arith, o, l))

  pub first_is : slice_get (path_in routes s) 0 ≡ Some first_place
  unfolding first_place
  first_is = let o = order in let l = long in slice_get-get_or (path_in routes s) 0 Mem
      (omega (arith, o, l))
