-- Paths of a strand, and what passes through its terrain.
use Rattle.std.proofs.Common.{ℕ, suc, ◌≡◌, ◌*◌, Bool, ◌&&◌, pos, ◌+ℤ◌, List, [], ◌∷◌, Option, Some}
use Rattle.std.proofs.Common.{None, All, IsTrue, refl, sym, subst, ap, ◌∙◌, arith}
use Rattle.std.proofs.lemmas.Int.{ints}
use Rattle.std.proofs.lemmas.List.Elements.{All-nil, All-cons, All-head, All-tail}
use Rattle.pra_base.specs.declared.ids.Place.{Place}
use Rattle.net_cost.specs.declared.weights.Weights.{Weights}
use Rattle.net_form.specs.declared.net.Net.{Net}
use Rattle.net_form.specs.declared.prices.Prices.{Prices}
use Rattle.net_form.specs.declared.routes.Ends.{Ends}
use Rattle.net_form.specs.Flow.{Edge, edges}
use Rattle.net_form.specs.Admitted.{strand_at, in_mask, stays_across}
use Rattle.net_form.specs.Cost.{way_cost}
use Rattle.net_form.specs.Tables.{all_tables}
use Rattle.net_dual.specs.Priced.{total, edge_price}
use Rattle.net_path.specs.Rests.{Terrain, Passes, rest_price}
use Rattle.net_path.specs.Grounds.{edge, suits_ends, is_open, there_price, layer, terrain}

module _ (net : Net) (w : Weights) (prices : Prices) (ends : Ends) (free : Edge → Bool)
    (s : ℕ) (any : (l : ℕ) (p : Option Place) (q : Place)
    → free (edge s l p q) ≡ free (edge s l None q)) where
  abbrev t : Terrain
  t = terrain net w prices ends free s

  abbrev pub IsGood : Edge → Type 0
  IsGood e = IsTrue (is_open net ends free s e) × IsTrue (stays_across e)

  open_from : (l : ℕ) (p : Option Place) (q : Place)
      → is_open net ends free s (edge s l p q) ≡ is_open net ends free s (edge s l None q)
  open_from l p q = ap (λ (b : Bool). in_mask net (edge s l None q)
      && suits_ends ends (strand_at net s) (edge s l None q) && b) (any l p q)

  pub to_edges : (k l : ℕ) (p : Option Place) (qs : List Place) → l ≡ layer net s k
      → Passes t k p qs → All IsGood (edges s l p qs)
  to_edges k l p [] e passes = All-nil IsGood
  to_edges k l p (q ∷ qs) e passes =
      let here : IsGood (edge s l p q) = (
        open_from l p q
            ∙ subst (λ (l : ℕ). IsTrue (is_open net ends free s (edge s l None q)))
            (sym e) passes.0,
        subst (λ (l : ℕ). IsTrue (stays_across (edge s l p q))) (sym e) passes.1,
      ) in
      All-cons IsGood (edge s l p q) (edges s (suc l) (Some q) qs) here
      (to_edges (suc k) (suc l) (Some q) qs (omega (arith, e)) passes.2)

  pub from_edges : (k l : ℕ) (p : Option Place) (qs : List Place) → l ≡ layer net s k
      → All IsGood (edges s l p qs) → Passes t k p qs
  from_edges k l p [] e good = tt
  from_edges k l p (q ∷ qs) e good =
      let here = All-head IsGood (edge s l p q) (edges s (suc l) (Some q) qs) good in
      let rest = from_edges (suc k) (suc l) (Some q) qs (omega (arith, e))
      (All-tail IsGood (edge s l p q) (edges s (suc l) (Some q) qs) good) in (
        subst (λ (l : ℕ). IsTrue (is_open net ends free s (edge s l None q))) e
            (sym (open_from l p q) ∙ here.0),
        subst (λ (l : ℕ). IsTrue (stays_across (edge s l p q))) e here.1,
        rest,
      )

  -- what an edge pays is its way, and what is paid for being there
  edge_pays : (l : ℕ) (p : Option Place) (q : Place) → edge_price net w prices (edge s l p q)
      ≡ pos (1024 * way_cost all_tables net w (edge s l p q))
      +ℤ there_price net w prices (edge s l None q)
  edge_pays l p q = omega (arith, ints)

  pub price_is : (k l : ℕ) (p : Option Place) (qs : List Place) → l ≡ layer net s k
      → rest_price t k p qs ≡ total (edge_price net w prices) (edges s l p qs)
  price_is k l p [] e = refl
  price_is k l p (q ∷ qs) e =
      let rest = price_is (suc k) (suc l) (Some q) qs (omega (arith, e)) in
      let here = edge_pays l p q in
      let way = ap (λ (l : ℕ). pos (1024 * way_cost all_tables net w (edge s l p q))
      +ℤ there_price net w prices (edge s l None q)) e in
      omega (arith, ints, rest, here, way)
