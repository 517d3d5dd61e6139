-- Sums over a flow, part by part and strand by strand.
use Rattle.std.proofs.Common.{ℕ, zero, suc, ◌≡◌, ◌+◌, ◌<◌, ◌≤◌, Bool, true, false, not, cond, eqb}
use Rattle.std.proofs.Common.{List, [], ◌∷◌}
use Rattle.std.proofs.Common.{length, get_or, filter, All, sum_by, None, Some, Option, refl, sym}
use Rattle.std.proofs.Common.{ap, ◌∙◌, subst, arith, inl, inr}
use Rattle.std.specs.List.{range_with_len}
use Rattle.std.proofs.lemmas.Bool.{cases_eq, eq-eqb, ne_eqb}
use Rattle.std.proofs.lemmas.List.Elements.{All-append, All-nil, filter-append}
use Rattle.std.proofs.lemmas.List.Filters.{sum_by-filter_both}
use Rattle.std.proofs.lemmas.List.Sums.{sum_by-cons, sum_by-append}
use Rattle.pra_base.specs.declared.ids.Place.{Place}
use Rattle.net_form.specs.declared.net.Strand.{Strand}
use Rattle.net_form.specs.declared.net.Net.{Net}
use Rattle.net_form.specs.declared.routes.Routes.{Routes}
use Rattle.net_form.specs.Flow.{Edge, edges, flow_from, flow, HasPlaces, AreRoutes}
use Rattle.net_form.specs.Admitted.{strand_at, no_strand}
use Rattle.net_dual.specs.Paths.{path_edges, path_in}
use Rattle.net_dual.proofs.Strands.{From, from_next}
use Rattle.al_laws.specs.Parts.{part, rest, only_strand, AgreeBut}

-- ---- sums

pub sum_by-agree : {X : Type 0} (f g : X → ℕ) (xs : List X) → All (λ x. f x ≡ g x) xs
    → sum_by f xs ≡ sum_by g xs
sum_by-agree f g [] h = refl
sum_by-agree f g (x ∷ xs) h =
    let a = sum_by-cons f x xs in
    let b = sum_by-cons g x xs in
    let one : f x ≡ g x = h 0 x (omega arith) in
    let more = sum_by-agree f g xs (λ k d lt. h (suc k) d (omega (arith, lt))) in
    omega (arith, a, b, one, more)

-- ---- one number of a range alone

sum_none : (f : ℕ → ℕ) (s a n : ℕ) → s < a
    → sum_by (λ r. cond (eqb r s) (f r) 0) (range_with_len a n) ≡ 0
sum_none f s a zero lt = refl
sum_none f s a (suc n) lt =
    let sum = sum_by-cons (λ r. cond (eqb r s) (f r) 0) a (range_with_len (a + 1) n) in
    let here : cond (eqb a s) (f a) 0 ≡ 0 = ap (λ b. cond b (f a) 0)
    (ne_eqb a s (λ same. omega (arith, same, lt))) in
    let more = sum_none f s (a + 1) n (omega (arith, lt)) in
    omega (arith, sum, here, more)

pub sum_only : (f : ℕ → ℕ) (s a n : ℕ) → a ≤ s → s < a + n
    → sum_by (λ r. cond (eqb r s) (f r) 0) (range_with_len a n) ≡ f s
sum_only f s a zero le lt = absurd (omega (arith, le, lt))
sum_only f s a (suc n) le lt = elim (cases_eq a s)
    as (λ _. sum_by (λ r. cond (eqb r s) (f r) 0) (range_with_len a (suc n)) ≡ f s) [
      | inl same ↦
          let sum = sum_by-cons (λ r. cond (eqb r s) (f r) 0) a (range_with_len (a + 1) n) in
          let here : cond (eqb a s) (f a) 0 ≡ f s = ap (λ b. cond b (f a) 0) (eq-eqb a s same)
          ∙ ap f same in
          let none = sum_none f s (a + 1) n (omega (arith, same)) in
          omega (arith, sum, here, none)
      | inr other ↦
          let sum = sum_by-cons (λ r. cond (eqb r s) (f r) 0) a (range_with_len (a + 1) n) in
          let here : cond (eqb a s) (f a) 0 ≡ 0 = ap (λ b. cond b (f a) 0) (ne_eqb a s other) in
          let more = sum_only f s (a + 1) n (omega (arith, le, other)) (omega (arith, lt)) in
          omega (arith, sum, here, more)
    ]

-- ---- a part of the flow of routes

-- the edges of a path are all of one strand
filter_path : (mine : ℕ → Bool) (s l : ℕ) (p : Option Place) (ps : List Place)
    → filter (λ e. mine e.strand) (edges s l p ps) ≡ cond (mine s) (edges s l p ps) []
filter_path mine s l p [] = either (mine s) []
  where
    either : (b : Bool) (es : List Edge) → es ≡ cond b es es
    either true es = refl
    either false es = refl
filter_path mine s l p (q ∷ qs) =
    let e : Edge = record { strand = s; layer = l; from = p; to = q } in
    ap (λ xs. cond (mine s) (e ∷ xs) xs) (filter_path mine s (suc l) (Some q) qs)
    ∙ twice (mine s) e (edges s (suc l) (Some q) qs)
  where
    twice : (b : Bool) (e : Edge) (xs : List Edge)
        → cond b (e ∷ cond b xs []) (cond b xs []) ≡ cond b (e ∷ xs) []
    twice true e xs = refl
    twice false e xs = refl

-- what is summed over the path of a strand
abbrev pub path_sum : Net → (Edge → ℕ) → Routes → ℕ → ℕ
path_sum net g routes s = sum_by g (path_edges net s (path_in routes s))

abbrev pub own_sum : Net → (ℕ → Bool) → (Edge → ℕ) → Routes → List ℕ → ℕ
own_sum net mine g routes numbers = sum_by (λ s. cond (mine s) (path_sum net g routes s) 0) numbers

sum_cond : (g : Edge → ℕ) (b : Bool) (es : List Edge)
    → sum_by g (cond b es []) ≡ cond b (sum_by g es) 0
sum_cond g true es = refl
sum_cond g false es = refl

part_from : (net : Net) (mine : ℕ → Bool) (g : Edge
    → ℕ) (routes : Routes) (k : ℕ) (ts : List Strand) (rs : List (List Place)) → HasPlaces ts rs
    → From net routes k ts rs
    → sum_by g (filter (λ e. mine e.strand) (flow_from k ts rs)) ≡ own_sum net mine g routes
    (range_with_len k (length ts))
part_from net mine g routes k [] [] has f = refl
part_from net mine g routes k [] (r ∷ rs) has f = absurd has
part_from net mine g routes k (t ∷ ts) [] has f = absurd has
part_from net mine g routes k (t ∷ ts) (r ∷ rs) has f =
    let e : k + 0 ≡ k = omega arith in
    let here : strand_at net k ≡ t = ap (λ n. get_or net.strands n no_strand) (sym e)
    ∙ f.strands 0 in
    let row : path_in routes k ≡ r = ap (λ n. get_or routes.places n []) (sym e) ∙ f.paths 0 in
    let same : path_edges net k (path_in routes k) ≡ edges k t.first None r
    = ap (λ (u : Strand). edges k u.first None (path_in routes k)) here
    ∙ ap (λ ps. edges k t.first None ps) row in
    let split = ap (sum_by g) (filter-append (λ (e : Edge). mine e.strand) (edges k t.first None r)
    (flow_from (suc k) ts rs)) in
    let sum = sum_by-append g (filter (λ (e : Edge). mine e.strand) (edges k t.first None r))
    (filter (λ (e : Edge). mine e.strand) (flow_from (suc k) ts rs)) in
    let one : sum_by g (filter (λ (e : Edge). mine e.strand) (edges k t.first None r)) ≡ cond
    (mine k) (path_sum net g routes k) 0
    = ap (sum_by g) (filter_path mine k t.first None r)
    ∙ sum_cond g (mine k) (edges k t.first None r)
    ∙ ap (λ es. cond (mine k) (sum_by g es) 0) (sym same) in
    let next : suc k ≡ k + 1 = omega arith in
    let more = ap (λ n. sum_by g (filter (λ (e : Edge). mine e.strand) (flow_from n ts rs))) next
    ∙ part_from net mine g routes (k + 1) ts rs has.1 (from_next net routes k t ts r rs f) in
    let list = sum_by-cons (λ s. cond (mine s) (path_sum net g routes s) 0) k
    (range_with_len (k + 1) (length ts)) in
    omega (arith, split, sum, one, more, list)

module _ (net : Net) (routes : Routes) where
  abbrev pub numbers : List ℕ
  numbers = range_with_len 0 (length net.strands)

  from_first : From net routes 0 net.strands routes.places
  from_first = record {
    strands = λ i. ap (λ n. get_or net.strands n no_strand) (let e : 0 + i ≡ i = omega arith in e);
    paths = λ i. ap (λ n. get_or routes.places n []) (let e : 0 + i ≡ i = omega arith in e);
  }

  pub part_sum : AreRoutes net routes → (mine : ℕ → Bool) (g : Edge → ℕ)
      → sum_by g (part net mine routes) ≡ own_sum net mine g routes numbers
  part_sum has mine g = part_from net mine g routes 0 net.strands routes.places has from_first

  pub flow_sum : (mine : ℕ → Bool) (g : Edge → ℕ)
      → sum_by g (flow net routes) ≡ sum_by g (part net mine routes) + sum_by g
      (rest net mine routes)
  flow_sum mine g = sym (sum_by-filter_both (λ (e : Edge). mine e.strand)
      (λ (e : Edge). not (mine e.strand)) (λ e. refl) g (flow net routes))

  -- the part of one strand is its path
  pub one_sum : AreRoutes net routes → (s : ℕ) → s < length net.strands → (g : Edge → ℕ)
      → sum_by g (part net (only_strand s) routes) ≡ path_sum net g routes s
  one_sum has s lt g = part_sum has (only_strand s) g ∙ sum_only (path_sum net g routes) s 0
      (length net.strands) (omega arith) (omega (arith, lt))

-- what holds of the edges of each path holds of the flow
each_from : (net : Net) (P : Edge → Type 0) (routes : Routes) (k : ℕ) (ts : List Strand)
    (rs : List (List Place)) → From net routes k ts rs
    → ((i : ℕ) → i < length ts → All P (path_edges net (k + i) (path_in routes (k + i))))
    → All P (flow_from k ts rs)
each_from net P routes k [] rs f each = All-nil P
each_from net P routes k (t ∷ ts) [] f each = All-nil P
each_from net P routes k (t ∷ ts) (r ∷ rs) f each =
    let e : k + 0 ≡ k = omega arith in
    let same : path_edges net (k + 0) (path_in routes (k + 0)) ≡ edges k t.first None r
    = ap (λ n. edges n (get_or net.strands (k + 0) no_strand).first None (path_in routes (k + 0))) e
    ∙ ap (λ (u : Strand). edges k u.first None (path_in routes (k + 0))) (f.strands 0)
    ∙ ap (λ ps. edges k t.first None ps) (f.paths 0) in
    let next : suc k ≡ k + 1 = omega arith in
    All-append P (edges k t.first None r) (flow_from (suc k) ts rs)
    (subst (All P) same (each 0 (omega arith)))
    (subst (λ n. All P (flow_from n ts rs)) (sym next)
    (each_from net P routes (k + 1) ts rs (from_next net routes k t ts r rs f) (λ i lt.
    subst (λ n. All P (path_edges net n (path_in routes n)))
    (let e : k + suc i ≡ (k + 1) + i = omega arith in e) (each (suc i) (omega (arith, lt))))))

pub all_of_each : (net : Net) (P : Edge → Type 0) (routes : Routes)
    → ((s : ℕ) → s < length net.strands → All P (path_edges net s (path_in routes s)))
    → All P (flow net routes)
all_of_each net P routes each = each_from net P routes 0 net.strands routes.places
    (from_first net routes) (λ i lt.
    subst (λ n. All P (path_edges net n (path_in routes n))) (let e : i ≡ 0 + i = omega arith in e)
    (each i lt))

-- ---- the others

rest_row : (b : Bool) (x y : ℕ) → (b ≡ false → x ≡ y) → cond (not b) x 0 ≡ cond (not b) y 0
rest_row true x y h = refl
rest_row false x y h = h refl

-- where all others go the same way, what they sum to is the same
pub rest_agrees : (net : Net) (mine : ℕ → Bool) (one two : Routes) → AreRoutes net one
    → AreRoutes net two → AgreeBut mine one two
    → (g : Edge → ℕ) → sum_by g (rest net mine one) ≡ sum_by g (rest net mine two)
rest_agrees net mine one two a b agree g =
    part_sum net one a (λ s. not (mine s)) g
    ∙ sum_by-agree _ _ (numbers net one) (λ k d lt.
    let s = get_or (numbers net one) k d in
    rest_row (mine s) (path_sum net g one s) (path_sum net g two s)
    (λ other. ap (λ ps. sum_by g (path_edges net s ps)) (agree s other)))
    ∙ sym (part_sum net two b (λ s. not (mine s)) g)
