-- One path more, by the number of its strand.
use Rattle.std.proofs.Common.{ℕ, zero, suc, ◌≡◌, ◌+◌, ◌<◌, ◌≤◌, List, [], ◌∷◌, ◌++◌, length, get_or}
use Rattle.std.proofs.Common.{drop, sum_by, false, Some, None, refl, ap, ◌∙◌, arith, add-one}
use Rattle.std.proofs.Common.{drop-cons}
use Rattle.std.proofs.lemmas.List.Sums.{sum_by-append, get_or-le-sum_by}
use Rattle.pra_base.specs.declared.ids.Place.{Place}
use Rattle.net_form.specs.declared.net.NetBlock.{NetBlock}
use Rattle.net_form.specs.declared.net.Strand.{Strand}
use Rattle.net_form.specs.declared.net.Net.{Net}
use Rattle.net_form.specs.declared.routes.Routes.{Routes}
use Rattle.net_form.specs.Admitted.{strand_at, no_strand}
use Rattle.net_form.specs.declared.net.Extra.{Extra}
use Rattle.net_form.specs.Cost.{place_on, route_at, is_met}
use Rattle.net_form.specs.Flow.{Edge, edges, flow_from, HasPlaces, AreRoutes, same_start}
use Rattle.net_form.proofs.RoutesConserve.{as_many}
use Rattle.net_form.proofs.RoutesCost.{place_of-nil}
use Rattle.net_form.specs.Formed.{IsFormed, no_block, most_layers}

pub flow_drop : (ts : List Strand) (rs : List (List Place)) (i : ℕ) (d : Strand) (e : List Place) →
    i < length ts → i < length rs
    → flow_from i (drop i ts) (drop i rs) ≡ edges i (get_or ts i d).first None (get_or rs i e)
    ++ flow_from (i + 1) (drop (i + 1) ts) (drop (i + 1) rs)
flow_drop ts rs i d e one two = rw (drop-cons ts i d one, drop-cons rs i e two, add-one i) refl

pub sum_drop : (w : Edge → ℕ) (ts : List Strand) (rs : List (List Place)) (i : ℕ) (d : Strand)
    (e : List Place) → i < length ts → i < length rs
    → sum_by w (flow_from i (drop i ts) (drop i rs)) ≡
    sum_by w (edges i (get_or ts i d).first None (get_or rs i e)) + sum_by w
    (flow_from (i + 1) (drop (i + 1) ts) (drop (i + 1) rs))
sum_drop w ts rs i d e one two = ap (sum_by w) (flow_drop ts rs i d e one two)
    ∙ sum_by-append w (edges i (get_or ts i d).first None (get_or rs i e))
    (flow_from (i + 1) (drop (i + 1) ts) (drop (i + 1) rs))

-- how long a path is
pub places_at : (ts : List Strand) (rs : List (List Place)) (i : ℕ) (d : Strand) (e : List Place) →
    HasPlaces ts rs → i < length ts
    → (get_or ts i d).first + length (get_or rs i e) ≡ (get_or ts i d).last + 1
places_at [] rs i d e h lt = absurd (omega (arith, lt))
places_at (t ∷ ts) [] i d e h lt = absurd h
places_at (t ∷ ts) (r ∷ rs) zero d e h lt = h.0
places_at (t ∷ ts) (r ∷ rs) (suc i) d e h lt = places_at ts rs i d e h.1 (omega (arith, lt))

-- a strand ends before the layers of the greatest procedure do
pub last_below : (net : Net) (s : ℕ) → IsFormed net → s < length net.strands →
    (strand_at net s).last < most_layers
last_below net s formed lt =
    let t = formed.strands s no_strand lt in
    let block = get_or-le-sum_by (λ (b : NetBlock). b.layers) net.blocks (strand_at net s).block.0
    no_block t.block in
    let within = t.within in
    let all = formed.layers in
    omega (arith, block, within, all)

pub path_few : (net : Net) (routes : Routes) (s : ℕ) (e : List Place) → IsFormed net →
    AreRoutes net routes → s < length net.strands
    → (strand_at net s).first + length (get_or routes.places s e) ≤ most_layers
path_few net routes s e formed has lt =
    let long = places_at net.strands routes.places s no_strand e has lt in
    let last = last_below net s formed lt in
    omega (arith, long, last)

-- where there is no strand, there is no place
pub no_place : (net : Net) (routes : Routes) (s l : ℕ) → AreRoutes net routes → length net.strands ≤
    s → route_at net routes s l ≡ None
no_place net routes s l has le =
    let n = as_many net.strands routes.places has in
    ap (λ r. place_on r (strand_at net s).first l) (past routes.places s (omega (arith, n, le)))
    ∙ place_of-nil (strand_at net s).first l
  where
    past : (rs : List (List Place)) (s : ℕ) → length rs ≤ s → get_or rs s [] ≡ []
    past [] s le = refl
    past (r ∷ rs) zero le = absurd (omega (arith, le))
    past (r ∷ rs) (suc s) le = past rs s (omega (arith, le))

-- an extra of no strand is not met
pub unmet : (net : Net) (routes : Routes) (x : Extra) → AreRoutes net routes → length net.strands ≤
    x.strand → is_met net routes x ≡ false
unmet net routes x has le = ap (λ o. same_start o (Some x.place))
    (no_place net routes x.strand x.layer has le)
