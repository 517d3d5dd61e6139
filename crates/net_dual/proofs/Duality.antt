-- The law of duality, and that a value is the only one.
use Rattle.std.proofs.Common.{ℕ, ◌*◌, ◌<◌, ◌≡◌, ℤ, pos, ◌≤ℤ◌, List, length, sum_by, arith}
use Rattle.std.specs.List.{range_with_len}
use Rattle.std.proofs.lemmas.Int.{ints}
use Rattle.pra_list.proofs.Comprehensions.{All-range}
use Rattle.pra_base.specs.declared.ids.Place.{Place}
use Rattle.net_form.specs.declared.net.Net.{Net}
use Rattle.net_form.specs.declared.prices.Prices.{Prices}
use Rattle.net_form.specs.declared.routes.Routes.{Routes}
use Rattle.net_form.specs.Flow.{Edge, flow, AreRoutes}
use Rattle.net_form.specs.Admitted.{IsAdmitted}
use Rattle.net_form.specs.Formed.{IsFormed}
use Rattle.net_form.proofs.InAnyOrder.{admitted_is_routes}
use Rattle.net_cost.specs.declared.weights.Weights.{Weights}
use Rattle.net_form.specs.Cost.{cost_of}
use Rattle.net_form.specs.Tables.{all_tables}
use Rattle.net_form.proofs.EdgeCosts.{cost_by_edges}
use Rattle.net_dual.specs.Priced.{priced, cost_by_weights, AreInRange}
use Rattle.net_dual.specs.Paths.{IsPath, MayGo, AreLeast, Anywhere, any_ends, path_price, path_in}
use Rattle.net_dual.specs.Value.{routes_price, IsValue, IsLagrange}
use Rattle.net_dual.proofs.Totals.{total-le, total-same}
use Rattle.net_dual.proofs.Strands.{total-routes, each_is_path, has_places}
use Rattle.net_dual.proofs.Paid.{flow_pays}

pub anywhere : (net : Net) (s : ℕ) (ps : List Place) → IsPath net s ps
    → MayGo net any_ends Anywhere s ps
anywhere net s ps path = record {
  path = path;
  has_ends = record { first = tt; last = tt };
  is_clear = tt;
}

-- a least family costs no more than any paths
pub least_below : (net : Net) (price : Edge → ℤ) (family routes : Routes)
    → AreLeast net price family
    → ((s : ℕ) → s < length net.strands → IsPath net s (path_in routes s))
    → routes_price net price family ≤ℤ routes_price net price routes
least_below net price family routes least paths =
    total-le (λ s. path_price net price s (path_in family s))
    (λ s. path_price net price s (path_in routes s)) (range_with_len 0 (length net.strands))
    (All-range (λ s. path_price net price s (path_in family s) ≤ℤ path_price net price s
    (path_in routes s)) 0 (length net.strands) (λ s _ lt.
    let in_ : s < length net.strands = omega (arith, lt) in
    (least.each s in_).least (path_in routes s) (anywhere net s (path_in routes s) (paths s in_))))

pub family_paths : (net : Net) (price : Edge → ℤ) (family : Routes) → AreLeast net price family
    → (s : ℕ) → s < length net.strands → IsPath net s (path_in family s)
family_paths net price family least s lt = (least.each s lt).goes.path

-- two least families cost the same
pub one_price : (net : Net) (price : Edge → ℤ) (one two : Routes) → AreLeast net price one
    → AreLeast net price two
    → routes_price net price one ≡ routes_price net price two
one_price net price one two a b =
    let le = least_below net price one two a (family_paths net price two b) in
    let ge = least_below net price two one b (family_paths net price one a) in
    omega (arith, ints, le, ge)

-- a least family are routes
pub family_routes : (net : Net) (price : Edge → ℤ) (family : Routes) → AreLeast net price family
    → AreRoutes net family
family_routes net price family least = has_places net.strands family.places least.many
    (λ s lt. (family_paths net price family least s lt).long)

pub duality : (net : Net) (cost : Edge → ℕ) (prices : Prices) (family : Routes) (z : ℤ)
    (f : List Edge)
    → IsFormed net → length prices.mems ≡ length net.pairs → IsValue net cost prices family z
    → IsAdmitted net f → z ≤ℤ pos (1024 * sum_by cost f)
duality net cost prices family z f formed mems value a =
    let r = admitted_is_routes net f formed a in
    let price = priced net cost prices in
    let least = least_below net price family r.0 value.least
    (each_is_path net r.0 r.1 r.3.masks r.3.across) in
    let same = total-routes net price r.0 r.1 in
    let moved = total-same price f (flow net r.0) r.2 in
    let pays = flow_pays net prices f cost mems a in
    let is = value.is in
    omega (arith, ints, least, same, moved, pays, is)

pub one_value : (net : Net) (cost : Edge → ℕ) (prices : Prices) (one two : Routes) (y z : ℤ)
    → IsValue net cost prices one y → IsValue net cost prices two z → y ≡ z
one_value net cost prices one two y z a b =
    let same = one_price net (priced net cost prices) one two a.least b.least in
    let u = a.is in
    let v = b.is in
    omega (arith, ints, same, u, v)

pub duality_of_weights : (net : Net) (w : Weights) (prices : Prices) (z : ℤ) (f : List Edge)
    → IsFormed net → AreInRange net prices
    → IsLagrange net w prices z → IsAdmitted net f → z ≤ℤ pos (1024 * cost_of net w f)
duality_of_weights net w prices z f formed range value a =
    let le = duality net (cost_by_weights net w) prices value.family z f formed range.mems
    value.value a in
    let same = cost_by_edges all_tables net w f in
    omega (arith, ints, le, same)

pub one_lagrange : (net : Net) (w : Weights) (prices : Prices) (y z : ℤ) → IsLagrange net w prices y
    → IsLagrange net w prices z → y ≡ z
one_lagrange net w prices y z a b = one_value net (cost_by_weights net w) prices a.family b.family y
    z a.value b.value
