-- What was found is a least path, or there is none.
use Rattle.std.proofs.Common.{ℕ, suc, ◌≡◌, ◌<◌, ◌≤◌, ◌+◌, ◌-◌, ◌^◌, false, ℤ, pos, ◌≤ℤ◌, ◌<ℤ◌, List}
use Rattle.std.proofs.Common.{length, None, refl, subst, arith}
use Rattle.std.proofs.lemmas.Int.{ints}
use lib.Signed.{le_z}
use Rattle.pra_base.specs.declared.ids.Place.{Place}
use Rattle.net_cost.specs.declared.weights.Weights.{Weights}
use Rattle.net_cost.specs.Weights.{IsValid}
use Rattle.net_form.specs.declared.net.Net.{Net}
use Rattle.net_form.specs.declared.prices.Prices.{Prices}
use Rattle.net_form.specs.declared.routes.Ends.{Ends}
use Rattle.net_form.specs.declared.taken.Taken.{Taken}
use Rattle.net_form.specs.Admitted.{strand_at, no_strand}
use Rattle.net_form.specs.InUse.{UsesNothing}
use Rattle.net_form.proofs.Layers.{in_layers}
use Rattle.net_laws.specs.Built.{IsBuilt}
use Rattle.net_dual.specs.Priced.{edge_price, AreInRange}
use Rattle.net_dual.specs.Paths.{MayGo, IsLeast, path_edges, path_price}
use Rattle.net_dual.proofs.Small.{path_is_small}
use Rattle.net_path.specs.Grounds.{layer, terrain, is_free}
use Rattle.net_path.specs.Rests.{Terrain, Passes, rest_price, IsLowest, IsLeastRest, AreRows}
use Rattle.net_path.specs.Rests.{AreBest}
use Rattle.net_path.specs.Rows.{slack_at}
use Rattle.net_path.proofs.Bridges.{to_edges, from_edges, price_is}
use Rattle.net_path.proofs.GoodPaths.{good_of, path_of}
use Rattle.net_path.proofs.LeastRests.{best_is_least, followed}
use Rattle.net_path.proofs.Unused.{to_free, from_free}

module _ (net : Net) (built : IsBuilt net)
    (prices : Prices) (range : AreInRange net prices) (w : Weights) (valid : IsValid w)
    (ends : Ends) (taken : Taken) (s n : ℕ) (lt : s < length net.strands)
    (long : (strand_at net s).first + n ≡ (strand_at net s).last + 1) where
  abbrev pub t : Terrain
  t = terrain net w prices ends (is_free net taken) s

  abbrev first : ℕ
  first = (strand_at net s).first

  pub order : first ≤ (strand_at net s).last
  order = (built.formed.strands s no_strand lt).order

  pub few : n ≤ 24838
  few = let layers = built.formed.layers in let within = in_layers net built.formed s lt in
      omega (arith, long, within, layers)

  begins : first ≡ layer net s 0
  begins = omega arith

  -- each path is one of the terrain, at its price
  pub passes : (ps : List Place) → MayGo net ends (UsesNothing net taken) s ps
      → (length ps ≡ n) × Passes t 0 None ps
  passes ps goes =
      let good = good_of net ends (is_free net taken) s order ps goes.path goes.has_ends
      (to_free net taken (path_edges net s ps) goes.is_clear) in (
        let l = goes.path.long in omega (arith, l, long),
        from_edges net w prices ends
            (is_free net taken) s (λ l p q. refl) 0 first None ps begins good,
      )

  pub price_of : (ps : List Place)
      → rest_price t 0 None ps ≡ path_price net (edge_price net w prices) s ps
  price_of ps =
      price_is net w prices ends (is_free net taken) s (λ l p q. refl) 0 first None ps begins

  pub goes_of : (ps : List Place) → length ps ≡ n → Passes t 0 None ps
      → MayGo net ends (UsesNothing net taken) s ps
  goes_of ps size passes =
      let good = to_edges net w prices ends (is_free net taken) s (λ l p q. refl) 0 first None ps
      begins passes in
      let all = path_of net ends (is_free net taken) s order ps (omega (arith, size, long)) good in
      record {
        path = all.0;
        has_ends = all.1;
        is_clear = from_free net taken (path_edges net s ps) all.2;
      }

  module _ (row : ℕ → List ℤ)
      (rows : AreRows (terrain net w prices ends (is_free net taken) s) row (slack_at n) n 0)
      (z : ℤ)
      (best : IsLowest (terrain net w prices ends (is_free net taken) s) 0 None (row 0) z) where
    found : IsLeastRest t n 0 None (slack_at n 0) z
    found = subst (λ (m : ℕ). IsLeastRest t m 0 None (slack_at n 0) z)
        (let e : suc (n - 1) ≡ n = omega (arith, long, order) in e)
        (best_is_least t row (slack_at n) n (n - 1) 0 None z (omega (arith, long, order)) rows best)

    -- there is no path
    pub no_path : pos (2 ^ 61) ≤ℤ z → (ps : List Place)
        → MayGo net ends (UsesNothing net taken) s ps → ⊥
    no_path far ps goes =
        let p = passes ps goes in
        let le = found.least ps p.0 p.1 in
        let price = price_of ps in
        let small = (path_is_small net w prices s ps built valid range lt goes.path).high in
        absurd (omega (arith, ints, far, le, price, small))

    -- the path is a least one, at this price
    pub least_path : (ps : List Place) → z <ℤ pos (2 ^ 61) → length ps ≡ n → AreBest t row 0 None ps
        → IsLeast net (edge_price net w prices) ends (UsesNothing net taken) s ps
        × (z ≡ path_price net (edge_price net w prices) s ps)
    least_path ps near size follows =
        let slack : slack_at n 0 ≤ 2 ^ 60 + 2 ^ 59 = omega (arith, few) in
        let all = followed t row (slack_at n) n n 0 None ps z size (omega arith) rows follows found
        (omega (arith, ints, near, slack)) in
        let price = price_of ps in
        let above = all.1 in
        let below = found.least ps size all.0 in (
          record {
            goes = goes_of ps size all.0;
            least = λ qs goes.
                let q = passes qs goes in
                let le = found.least qs q.0 q.1 in
                let other = price_of qs in
                omega (arith, ints, above, price, le, other);
          },
          omega (arith, ints, above, below, price),
        )

pub below_of : (b z : ℤ) → le_z b z ≡ false → z <ℤ b
below_of b z h = grind (arith, ints)
