-- Routes in which one path is another.
use Rattle.std.proofs.Common.{ℕ, ◌≡◌, ◌≢◌, ◌+◌, ◌<◌, List, [], length, sym, subst, arith}
use Rattle.std.proofs.Common.{inl, inr}
use Rattle.std.specs.Prelude.{slice_set}
use Rattle.std.proofs.lemmas.Bool.{cases_eq}
use Rattle.std.proofs.lemmas.List.{get_or-set_same, get_or-set_other}
use Rattle.pra_base.specs.declared.ids.Place.{Place}
use Rattle.pra_list.proofs.Elements.{length_set}
use Rattle.net_form.specs.declared.net.Net.{Net}
use Rattle.net_form.specs.declared.routes.Routes.{Routes}
use Rattle.net_form.specs.Flow.{AreRoutes}
use Rattle.net_form.specs.Admitted.{strand_at, no_strand}
use Rattle.net_form.specs.Formed.{IsFormed}
use Rattle.net_form.proofs.RoutesConserve.{as_many}
use Rattle.net_dual.specs.Paths.{path_in}
use Rattle.net_dual.proofs.Strands.{each_long, has_places}
use Rattle.net_path.specs.Desk.{HasSizes}
use Rattle.al_laws.specs.Parts.{with_path}

module _ (net : Net) (routes : Routes) (has : AreRoutes net routes) (s : ℕ)
    (lt : s < length net.strands) where
  pub in_places : s < length routes.places
  in_places = let many = as_many net.strands routes.places has in omega (arith, lt, many)

  pub there : (ps : List Place) → path_in (with_path routes s ps) s ≡ ps
  there ps = get_or-set_same routes.places s ps [] in_places

  pub elsewhere : (ps : List Place) (r : ℕ) → r ≢ s
      → path_in (with_path routes s ps) r ≡ path_in routes r
  elsewhere ps r other = get_or-set_other routes.places s r ps [] other

  pub still_routes : (ps : List Place)
      → (strand_at net s).first + length ps ≡ (strand_at net s).last + 1
      → AreRoutes net (with_path routes s ps)
  still_routes ps long = has_places net.strands (slice_set routes.places s ps)
      (let a = length_set routes.places s ps in let b = as_many net.strands routes.places has in
      omega (arith, a, b)) (λ r r_lt. elim (cases_eq r s)
      as (λ _. (strand_at net r).first + length (path_in (with_path routes s ps) r)
      ≡ (strand_at net r).last + 1) [
        | inl same ↦ subst (λ k. (strand_at net k).first
            + length (path_in (with_path routes s ps) k) ≡ (strand_at net k).last + 1) (sym same)
            (subst (λ qs. (strand_at net s).first + length qs ≡ (strand_at net s).last + 1)
            (sym (there ps)) long)
        | inr other ↦ subst (λ qs. (strand_at net r).first + length qs
            ≡ (strand_at net r).last + 1) (sym (elsewhere ps r other))
            (each_long net routes has r r_lt)
      ])

-- a place for each layer of each strand, said in two ways
module _ (net : Net) (formed : IsFormed net) (routes : Routes) where
  pub sizes_routes : HasSizes net routes → AreRoutes net routes
  sizes_routes sizes = has_places net.strands routes.places sizes.many (λ s lt.
      let size = sizes.each s lt in
      let masks = (formed.strands s no_strand lt).masks in
      omega (arith, size, masks))

  pub routes_sizes : AreRoutes net routes → HasSizes net routes
  routes_sizes has = record {
    many = as_many net.strands routes.places has;
    each = λ s lt.
        let long = each_long net routes has s lt in
        let masks = (formed.strands s no_strand lt).masks in
        omega (arith, long, masks);
  }
