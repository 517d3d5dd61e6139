-- Routes strand by strand: what they cost in sum, and what each path is.
use Rattle.std.proofs.Common.{ℕ, zero, suc, ◌+◌, ◌<◌, ◌≡◌, ℤ, List, [], ◌∷◌, ◌++◌, length, get_or}
use Rattle.std.proofs.Common.{All}
use Rattle.std.proofs.Common.{IsPermutation, refl, sym, ap, ◌∙◌, subst, arith, None}
use Rattle.std.specs.Prelude.{IsTrue}
use Rattle.std.specs.List.{range_with_len}
use Rattle.std.proofs.lemmas.Int.{ints}
use Rattle.std.proofs.lemmas.List.{set-get_or}
use Rattle.std.proofs.lemmas.List.Elements.{All-head, All-tail, All-cons, All-nil}
use Rattle.std.proofs.lemmas.List.Sorted.{All-permutation}
use Rattle.std.proofs.lemmas.Option.{slice_get-get_or}
use Rattle.pra_base.specs.declared.ids.Place.{Place}
use Rattle.net_form.specs.declared.net.Strand.{Strand}
use Rattle.net_form.specs.declared.net.Net.{Net}
use Rattle.net_form.specs.declared.routes.Routes.{Routes}
use Rattle.net_form.specs.Flow.{Edge, edges, flow_from, flow_of, flow, HasPlaces, AreRoutes}
use Rattle.net_form.specs.Admitted.{strand_at, no_strand, in_mask, stays_across}
use Rattle.net_form.proofs.OneStrand.{split, others}
use Rattle.net_dual.specs.Priced.{total}
use Rattle.net_dual.specs.Paths.{path_edges, path_price, path_in, IsPath}
use Rattle.net_dual.specs.Value.{routes_price}
use Rattle.net_dual.proofs.Totals.{total-append}

All-left : {X : Type 0} (P : X → Type 0) → (xs ys : List X) → All P (xs ++ ys) → All P xs
All-left P [] ys h = All-nil P
All-left P (x ∷ xs) ys h = All-cons P x xs (All-head P x (xs ++ ys) h)
    (All-left P xs ys (All-tail P x (xs ++ ys) h))

-- a strand and its path, from number k on
pub record From (net : Net) (routes : Routes) (k : ℕ) (ts : List Strand)
    (rs : List (List Place)) : Type
    0 where
  pub strands : (i : ℕ) → get_or net.strands (k + i) no_strand ≡ get_or ts i no_strand
  pub paths : (i : ℕ) → get_or routes.places (k + i) [] ≡ get_or rs i []

pub from_next : (net : Net) (routes : Routes) (k : ℕ) (t : Strand) (ts : List Strand)
    (r : List Place)
    (rs : List (List Place))
    → From net routes k (t ∷ ts) (r ∷ rs) → From net routes (k + 1) ts rs
from_next net routes k t ts r rs f = record {
  strands = λ i. ap (λ n. get_or net.strands n no_strand)
      (let e : (k + 1) + i ≡ k + suc i = omega arith in e) ∙ f.strands (suc i);
  paths = λ i. ap (λ n. get_or routes.places n []) (let e : (k + 1) + i ≡ k + suc i = omega arith in
      e) ∙ f.paths (suc i);
}

-- what a flow costs is the sum of what its paths cost
total_from : (net : Net) (price : Edge → ℤ) (routes : Routes) (k : ℕ) (ts : List Strand)
    (rs : List (List Place)) → HasPlaces ts rs → From net routes k ts rs
    → total price (flow_from k ts rs) ≡ total (λ s. path_price net price s (path_in routes s))
    (range_with_len k (length ts))
total_from net price routes k [] [] has f = refl
total_from net price routes k [] (r ∷ rs) has f = absurd has
total_from net price routes k (t ∷ ts) [] has f = absurd has
total_from net price routes k (t ∷ ts) (r ∷ rs) has f =
    let e : k + 0 ≡ k = omega arith in
    let here : strand_at net k ≡ t = ap (λ n. get_or net.strands n no_strand) (sym e)
    ∙ f.strands 0 in
    let row : path_in routes k ≡ r = ap (λ n. get_or routes.places n []) (sym e) ∙ f.paths 0 in
    let one : path_price net price k (path_in routes k) ≡ total price (edges k t.first None r)
    = ap (λ (u : Strand). total price (edges k u.first None (path_in routes k))) here
    ∙ ap (λ ps. total price (edges k t.first None ps)) row in
    let next : suc k ≡ k + 1 = omega arith in
    let more = ap (λ n. total price (flow_from n ts rs)) next
    ∙ total_from net price routes (k + 1) ts rs has.1 (from_next net routes k t ts r rs f) in
    let sum = total-append price (edges k t.first None r) (flow_from (suc k) ts rs) in
    omega (arith, ints, one, more, sum)

pub total-routes : (net : Net) (price : Edge → ℤ) (routes : Routes) → AreRoutes net routes
    → total price (flow net routes) ≡ routes_price net price routes
total-routes net price routes has = total_from net price routes 0 net.strands routes.places has
    (record {
      strands = λ i. ap (λ n. get_or net.strands n no_strand)
          (let e : 0 + i ≡ i = omega arith in e);
      paths = λ i. ap (λ n. get_or routes.places n []) (let e : 0 + i ≡ i = omega arith in e);
    })

module _ (net : Net) (routes : Routes) (has : AreRoutes net routes) where
  -- what all edges are those of each path are
  pub of_each : (P : Edge → Type 0) → All P (flow net routes) → (s : ℕ) → s < length net.strands
      → All P (path_edges net s (path_in routes s))
  of_each P all s lt = All-left P (path_edges net s (path_in routes s))
      (others net.strands routes.places s)
      (All-permutation P (flow net routes)
      (path_edges net s (path_in routes s) ++ others net.strands routes.places s)
      (subst (λ rs. IsPermutation (flow_of net.strands rs)
      (path_edges net s (path_in routes s) ++ others net.strands routes.places s))
      (set-get_or routes.places s [])
      (split net.strands routes.places s (strand_at net s) has
      (slice_get-get_or net.strands s no_strand lt) (path_in routes s))) all)

long_at : (ts : List Strand) (rs : List (List Place)) → HasPlaces ts rs → (s : ℕ) → s < length ts
    → (get_or ts s no_strand).first + length (get_or rs s []) ≡ (get_or ts s no_strand).last + 1
long_at [] rs has s lt = absurd (omega (arith, lt))
long_at (t ∷ ts) [] has s lt = absurd has
long_at (t ∷ ts) (r ∷ rs) has zero lt = has.0
long_at (t ∷ ts) (r ∷ rs) has (suc s) lt = long_at ts rs has.1 s (omega (arith, lt))

pub each_long : (net : Net) (routes : Routes) → AreRoutes net routes → (s : ℕ)
    → s < length net.strands
    → (strand_at net s).first + length (path_in routes s) ≡ (strand_at net s).last + 1
each_long net routes has = long_at net.strands routes.places has

pub has_places : (ts : List Strand) (rs : List (List Place)) → length rs ≡ length ts
    → ((s : ℕ) → s < length ts
    → (get_or ts s no_strand).first + length (get_or rs s []) ≡ (get_or ts s no_strand).last +
    1) → HasPlaces ts rs
has_places [] [] many long = tt
has_places [] (r ∷ rs) many long = absurd (omega (arith, many))
has_places (t ∷ ts) [] many long = absurd (omega (arith, many))
has_places (t ∷ ts) (r ∷ rs) many long = (
  long 0 (omega arith),
  has_places ts rs (omega (arith, many))
      (λ s lt. long (suc s) (omega (arith, lt))),
)

-- routes whose edges are in masks and stay across instructions are paths
pub each_is_path : (net : Net) (routes : Routes) → AreRoutes net routes
    → All (λ e. IsTrue (in_mask net e)) (flow net routes)
    → All (λ e. IsTrue (stays_across e)) (flow net routes) → (s : ℕ) → s < length net.strands
    → IsPath net s (path_in routes s)
each_is_path net routes has masks across s lt = record {
  long = each_long net routes has s lt;
  masks = of_each net routes has (λ e. IsTrue (in_mask net e)) masks s lt;
  across = of_each net routes has (λ e. IsTrue (stays_across e)) across s lt;
}
