-- From what is left at the first layer to paths of the strand; and how large all that is.
use Rattle.std.proofs.Common.{◌≡◌, ℕ, suc, ◌+◌, ◌*◌, ◌^◌, ◌<◌, ◌≤◌, Bool, true, false, cond, eqb, ℤ}
use Rattle.std.proofs.Common.{List, [], ◌∷◌, length, Option, Some, None, sym, arith}
use Rattle.std.proofs.lemmas.Int.{ints}
use Rattle.pra_base.specs.declared.ids.Place.{Place}
use Rattle.net_cost.specs.declared.weights.Weights.{Weights}
use Rattle.net_cost.specs.Weights.{IsValid}
use Rattle.net_form.specs.declared.net.Net.{Net}
use Rattle.net_form.specs.declared.prices.Prices.{Prices}
use Rattle.net_form.specs.declared.routes.Ends.{Ends}
use Rattle.net_form.specs.declared.taken.Taken.{Taken}
use Rattle.net_form.specs.Admitted.{strand_at, no_strand}
use Rattle.net_form.specs.Flow.{Edge}
use Rattle.net_form.specs.InUse.{UsesNothing}
use Rattle.net_form.proofs.Layers.{in_layers}
use Rattle.net_laws.specs.Built.{IsBuilt}
use Rattle.net_dual.specs.Priced.{most_price, edge_price, AreInRange}
use Rattle.net_dual.specs.Paths.{IsPath, MayGo, IsLeastCost, path_edges, path_price}
use Rattle.net_dual.specs.Small.{IsWithin, most_sum}
use Rattle.net_dual.specs.Leasts.{IsCostWithin}
use Rattle.net_dual.proofs.Small.{edge_small, path_is_small}
use Rattle.net_dual.proofs.Within.{within-more, within-add, within-pos}
use Rattle.net_path.specs.Grounds.{edge, is_free}
use Rattle.net_path.proofs.GoodPaths.{good_of, path_of}
use Rattle.net_path.proofs.Unused.{to_free, from_free}
use Rattle.net_plain.specs.Rests.{Passes, rest_price, GoToEnd, IsCostOf, IsRest}

most_if : (b : Bool) (n : ℕ) → cond b n 0 ≤ n
most_if true n = omega arith
most_if false n = omega arith

module _ (net : Net) (built : IsBuilt net) (s : ℕ) (lt : s < length net.strands) where
  order : (strand_at net s).first ≤ (strand_at net s).last
  order = (built.formed.strands s no_strand lt).order

  few : (strand_at net s).last < 24838
  few = let layers = built.formed.layers in let within = in_layers net built.formed s lt in
      omega arith

  -- it has a place for each layer where it is as long as the masks
  pub long_of : (ps : List Place) → length ps ≡ length (strand_at net s).masks
      → GoToEnd net s (strand_at net s).first ps
  long_of ps same = let masks = (built.formed.strands s no_strand lt).masks in omega arith

  pub as_long : (ps : List Place) → GoToEnd net s (strand_at net s).first ps
      → length ps ≡ length (strand_at net s).masks
  as_long ps long = let masks = (built.formed.strands s no_strand lt).masks in omega arith

  module _ (ends : Ends) (taken : Taken) where
    pub passes_of : (ps : List Place) → MayGo net ends (UsesNothing net taken) s ps
        → Passes net ends taken s (strand_at net s).first None ps
    passes_of ps goes = good_of net ends (is_free net taken) s order ps goes.path goes.has_ends
        (to_free net taken (path_edges net s ps) goes.is_clear)

    pub goes_of : (ps : List Place) → GoToEnd net s (strand_at net s).first ps
        → Passes net ends taken s (strand_at net s).first None ps
        → MayGo net ends (UsesNothing net taken) s ps
    goes_of ps long passes =
        let all = path_of net ends (is_free net taken) s order ps long passes in record {
          path = all.0;
          has_ends = all.1;
          is_clear = from_free net taken (path_edges net s ps) all.2;
        }

    pub least_path : (w : Weights) (prices : Prices) (z : ℤ)
        → IsRest net w prices ends taken s (strand_at net s).first None (Some z)
        → IsLeastCost net (edge_price net w prices) ends (UsesNothing net taken) s z
    least_path w prices z rest = record {
      way = rest.way;
      is_least = record {
        goes = goes_of rest.way rest.long rest.passes;
        least = λ qs goes. let le = rest.least qs goes.path.long (passes_of qs goes) in
            omega (arith, ints);
      };
      is = sym rest.is;
    }

  module _ (prices : Prices) (range : AreInRange net prices) (w : Weights) (valid : IsValid w) where
    edge_within : (e : Edge) → IsWithin (2 ^ 53) (edge_price net w prices e)
    edge_within e = within-more
        (8 * most_price + (cond (eqb e.layer (strand_at net e.strand).last) (2 * most_price) 0
        + cond (eqb e.layer (strand_at net e.strand).first) (4098 * most_price) 0))
        (2 ^ 53) (edge_price net w prices e)
        (let x = most_if (eqb e.layer (strand_at net e.strand).last) (2 * most_price) in
        let y = most_if (eqb e.layer (strand_at net e.strand).first) (4098 * most_price) in
        omega arith)
        (edge_small net built prices range w valid e)

    edges_within : (l : ℕ) (p : Option Place) (qs : List Place)
        → IsWithin (2 ^ 53 * length qs) (rest_price net w prices s l p qs)
    edges_within l p [] = within-pos 0 (2 ^ 53 * 0) (omega arith)
    edges_within l p (q ∷ qs) = within-more (2 ^ 53 + 2 ^ 53 * length qs)
        (2 ^ 53 * suc (length qs)) (rest_price net w prices s l p (q ∷ qs)) (omega arith)
        (within-add (2 ^ 53) (2 ^ 53 * length qs) (edge_price net w prices (edge s l p q))
        (rest_price net w prices s (suc l) (Some q) qs) (edge_within (edge s l p q))
        (edges_within (suc l) (Some q) qs))

    long_within : (l : ℕ) (p : Option Place) (qs : List Place) (z : ℤ) → GoToEnd net s l qs
        → z ≡ rest_price net w prices s l p qs → IsWithin (2 ^ 68) z
    long_within l p qs z long is = rw is (within-more (2 ^ 53 * length qs) (2 ^ 68)
        (rest_price net w prices s l p qs) (let f = few in omega arith) (edges_within l p qs))

    pub rest_within : (ends : Ends) (taken : Taken) (l : ℕ) (p : Option Place) (o : Option ℤ)
        → IsRest net w prices ends taken s l p o → IsCostWithin (2 ^ 68) o
    rest_within ends taken l p None none = tt
    rest_within ends taken l p (Some z) rest = long_within l p rest.way z rest.long rest.is

    pub cost_within : (ends : Ends) (taken : Taken) (l : ℕ) (p : Option Place) (qs : List Place)
        (o : Option ℤ)
        → GoToEnd net s l qs → IsCostOf net w prices ends taken s l p qs o → IsCostWithin (2 ^ 68) o
    cost_within ends taken l p qs None long none = tt
    cost_within ends taken l p qs (Some z) long cost = long_within l p qs z long cost.1

    -- what a whole path costs
    pub price_small : (ps : List Place) (z : ℤ) → IsPath net s ps
        → z ≡ path_price net (edge_price net w prices) s ps → IsWithin most_sum z
    price_small ps z path is = rw is (path_is_small net w prices s ps built valid range lt path)
