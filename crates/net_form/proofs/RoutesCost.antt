-- What routes cost is what their flow costs.
use Rattle.std.proofs.Common.{ℕ, zero, suc, ◌≡◌, ◌+◌, ◌-◌, ◌*◌, ◌<◌, ◌≤◌, Bool, true, false, cond}
use Rattle.std.proofs.Common.{eqb, List, [], ◌∷◌, length, get_or, slice_get, count_by, sum_by, refl}
use Rattle.std.proofs.Common.{sym, ap, ◌∙◌, subst, arith, Some, None, Option, inl, inr, ◌⊎◌}
use Rattle.std.specs.Prelude.{slice_index_or}
use Rattle.std.proofs.lemmas.Bool.{and_left, ne_eqb, cases_eq, cases_lt, le-leb, lt-leb}
use Rattle.std.proofs.lemmas.List.{set-get_or}
use Rattle.std.proofs.lemmas.Option.{get_or_from_slice_get, slice_get_past, slice_get_cases}
use Rattle.std.proofs.Math.Path.{fun_ext}
use Rattle.pra_base.specs.declared.ids.Place.{Place}
use Rattle.net_cost.specs.declared.weights.Weights.{Weights}
use Rattle.net_form.specs.declared.net.Strand.{Strand}
use Rattle.net_form.specs.declared.net.Extra.{Extra}
use Rattle.net_form.specs.declared.net.Net.{Net}
use Rattle.net_form.specs.declared.routes.Routes.{Routes}
use Rattle.net_form.specs.Flow.{Edge, is_at, same_place, same_start, arrives, edges, flow_of, flow}
use Rattle.net_form.specs.Flow.{HasPlaces, AreRoutes}
use Rattle.net_form.specs.Admitted.{no_strand}
use Rattle.net_form.specs.Cost.{cost_by, routes_cost, way_cost, extra_cost, meets, place_on, is_met}
use Rattle.net_form.specs.Tables.{PlaceTables}
use Rattle.pra_list.proofs.Counts.{bit, count-none}
use Rattle.net_form.proofs.Paths.{none_earlier, first_only, later_layer}
use Rattle.pra_list.proofs.Options.{none_some}
use Rattle.net_form.proofs.RoutesConserve.{own_count, edges_are, as_many}

-- ---- the place of a path at a layer

place_of-early : (ps : List Place) (k l : ℕ) → l < k → place_on ps k l ≡ None
place_of-early ps k l lt = ap (λ b. cond b (slice_get ps (l - k)) None) (lt-leb k l lt)

place_of-here : (x : Place) (ps : List Place) (k : ℕ) → place_on (x ∷ ps) k k ≡ Some x
place_of-here x ps k =
    ap (λ b. cond b (slice_get (x ∷ ps) (k - k)) None) (le-leb k k (omega arith))
    ∙ ap (λ n. slice_get (x ∷ ps) n) (let e : k - k ≡ 0 = omega arith in e)

place_of-later : (x : Place) (ps : List Place) (k l : ℕ) → k < l
    → place_on (x ∷ ps) k l ≡ place_on ps (suc k) l
place_of-later x ps k l lt =
    ap (λ b. cond b (slice_get (x ∷ ps) (l - k)) None) (le-leb k l (omega (arith, lt)))
    ∙ ap (λ n. slice_get (x ∷ ps) n) (let e : l - k ≡ suc (l - suc k) = omega (arith, lt) in e)
    ∙ sym (ap (λ b. cond b (slice_get ps (l - suc k)) None) (le-leb (suc k) l (omega (arith, lt))))

pub place_of-nil : (k l : ℕ) → place_on [] k l ≡ None
place_of-nil k l = elim (cases_lt l k) as (λ _. place_on [] k l ≡ None) [
  | inl lt ↦ place_of-early [] k l lt
  | inr le ↦ ap (λ b. cond b (slice_get [] (l - k)) None) (le-leb k l le) ∙ slice_get_past []
      (l - k) (omega arith)
]

-- the statement for one path
abbrev IsCounted : ℕ → ℕ → Option Place → List Place → ℕ → Place → Type 0
IsCounted s k p ps l q = count_by (arrives s l q) (edges s k p ps) ≡
    bit (same_start (place_on ps k l) (Some q))

from_here : (s k : ℕ) (p : Option Place) (x : Place) (ps : List Place) (l : ℕ) (q : Place) → k ≤ l
    → IsCounted s (suc k) (Some x) ps l q → (l ≡ k) ⊎ (l ≡ k → ⊥) → IsCounted s k p (x ∷ ps) l q
from_here s k p x ps l q le more (inl same) = subst (λ l. IsCounted s k p (x ∷ ps) l q) (sym same)
    (first_only s k p x ps (λ e. same_place e.to q)
    ∙ sym (ap (λ o. bit (same_start o (Some q))) (place_of-here x ps k)))
from_here s k p x ps l q le more (inr other) =
    let lt : k < l = omega (arith, le, other) in
    later_layer s k l p x ps (λ e. same_place e.to q) lt ∙ more
    ∙ sym (ap (λ o. bit (same_start o (Some q))) (place_of-later x ps k l lt))

-- a path comes to a place at a layer once, where that is its place there, and else not
pub path_at : (s k : ℕ) (p : Option Place) (ps : List Place) (l : ℕ) (q : Place)
    → count_by (arrives s l q) (edges s k p ps) ≡ bit (same_start (place_on ps k l) (Some q))
path_at s k p [] l q = sym (ap (λ o. bit (same_start o (Some q))) (place_of-nil k l))
path_at s k p (x ∷ ps) l q = elim (cases_lt l k) as (λ _. IsCounted s k p (x ∷ ps) l q) [
  | inl lt ↦ none_earlier s k p (x ∷ ps) l (λ e. same_place e.to q) lt
      ∙ sym (ap (λ o. bit (same_start o (Some q))) (place_of-early (x ∷ ps) k l lt))
  | inr le ↦ from_here s k p x ps l q le (path_at s (suc k) (Some x) ps l q) (cases_eq l k)
]

-- ---- the flow of routes at a layer

module _ (us : List Strand) (rs : List (List Place)) (has : HasPlaces us rs) (s l : ℕ)
    (q : Place) where
  -- with the strand that is looked up
  there : (t d : Strand) → slice_get us s ≡ Some t →
      count_by (arrives s l q) (flow_of us rs) ≡
      bit (same_start (place_on (slice_index_or rs s []) (slice_index_or us s d).first l)
      (Some q))
  there t d is =
      subst (λ x. count_by (arrives s l q) (flow_of us x) ≡ count_by (arrives s l q)
      (edges s t.first None (get_or rs s []))) (set-get_or rs s [])
      (own_count us rs s t has is l (λ e. same_place e.to q) (get_or rs s []))
      ∙ path_at s t.first None (get_or rs s []) l q
      ∙ ap (λ (u : Strand). bit (same_start (place_on (get_or rs s []) u.first l) (Some q)))
      (sym (get_or_from_slice_get us s t d is))

  nowhere : (d : Strand) → length us ≤ s →
      count_by (arrives s l q) (flow_of us rs) ≡
      bit (same_start (place_on (slice_index_or rs s []) (slice_index_or us s d).first l)
      (Some q))
  nowhere d le =
      count-none (arrives s l q) (flow_of us rs) (λ k x lt.
      let e : Edge = get_or (flow_of us rs) k x in
      let m = edges_are us us 0 rs
      (λ i t is. subst (λ n. slice_get us n ≡ Some t) (let w : i ≡ 0 + i = omega arith in w) is)
      has k x lt in
      and_left (is_at s l e) (same_place e.to q)
      (and_left (eqb e.strand s) (eqb e.layer l) (ne_eqb e.strand s (λ same.
      none_some (sym (slice_get_past us e.strand (omega (arith, same, le))) ∙ m.is)))))
      ∙ sym (ap (λ r. bit (same_start (place_on r (slice_index_or us s d).first l) (Some q)))
      (past rs s (let n = as_many us rs has in omega (arith, n, le)))
      ∙ ap (λ o. bit (same_start o (Some q))) (place_of-nil (slice_index_or us s d).first l))
    where
      past : (rs : List (List Place)) (s : ℕ) → length rs ≤ s → get_or rs s [] ≡ []
      past [] s le = refl
      past (r ∷ rs) zero le = absurd (omega (arith, le))
      past (r ∷ rs) (suc s) le = past rs s (omega (arith, le))

  -- the flow comes to a place as often as the routes have the strand there
  pub flow_at : (d : Strand) → count_by (arrives s l q) (flow_of us rs) ≡
      bit (same_start (place_on (slice_index_or rs s []) (slice_index_or us s d).first l) (Some q))
  flow_at d = elim ((slice_get_cases us s).1) as (λ _. count_by (arrives s l q) (flow_of us rs) ≡
      bit (same_start (place_on (slice_index_or rs s []) (slice_index_or us s d).first l) (Some q))) [
        | inl some ↦ there some.0 d some.2
        | inr none ↦ nowhere d none.0
      ]

-- ---- costs

paid : (b : Bool) (c n : ℕ) → n ≡ bit b → cond b c 0 ≡ c * n
paid true c n h = subst (λ k. c ≡ c * k) (sym h) (let e : c ≡ c * 1 = omega arith in e)
paid false c n h = subst (λ k. 0 ≡ c * k) (sym h) (let e : 0 ≡ c * 0 = omega arith in e)

-- the law
pub cost_of_routes : (tables : PlaceTables) (net : Net) (w : Weights) (routes : Routes) →
    AreRoutes net routes
    → routes_cost tables net w routes ≡ cost_by tables net w (flow net routes)
cost_of_routes tables net w routes has =
    ap (λ (g : Extra → ℕ). sum_by (way_cost tables net w) (flow net routes) + sum_by g net.extras)
    (fun_ext (λ (x : Extra). paid (is_met net routes x) (extra_cost net w x)
    (count_by (meets x) (flow net routes))
    (flow_at net.strands routes.places has x.strand x.layer x.place no_strand)))
