-- The edges of routes: one a layer, each from where the one before it came to.
use Rattle.std.proofs.Common.{◌≡◌, ℕ, zero, suc, ◌+◌, ◌<◌, ◌≤◌, ◌⊎◌, inl, inr, ⊎_elim, List, []}
use Rattle.std.proofs.Common.{◌∷◌, length, slice_get, Option, Some, None, refl, sym, ap, subst, ◌∙◌}
use Rattle.std.proofs.Common.{arith}
use Rattle.std.proofs.lemmas.Bool.{cases_eq}
use Rattle.pra_list.specs.Among.{Among}
use Rattle.pra_list.proofs.Options.{some_same}
use Rattle.pra_base.specs.declared.ids.Place.{Place}
use Rattle.net_form.specs.declared.net.Strand.{Strand}
use Rattle.net_form.specs.Flow.{Edge, edges, flow_from, HasPlaces}
use Rattle.pra_list.proofs.Among.{in_left, in_right, in_either}

-- ---- a path

pub path_after : (s l : ℕ) (p : Option Place) (ps : List Place) (e : Edge) →
    Among e (edges s l p ps) → (e.strand ≡ s) × (l ≤ e.layer) × (e.layer < l + length ps)
path_after s l p [] e i = absurd i
path_after s l p (q ∷ qs) e i =
    ⊎_elim
    (λ (same : e ≡ record { strand = s; layer = l; from = p; to = q }).
    let at : e.layer ≡ l = ap (λ (d : Edge). d.layer) same in
    (ap (λ (d : Edge). d.strand) same, omega (arith, at), omega (arith, at)))
    (λ (more : Among e (edges s (suc l) (Some q) qs)).
    let a = path_after s (suc l) (Some q) qs e more in
    let le = a.1 in
    let lt = a.2 in
    (a.0, omega (arith, le), omega (arith, lt)))
    i

pub path_one : (s l : ℕ) (p : Option Place) (ps : List Place) (e d : Edge) →
    Among e (edges s l p ps) → Among d (edges s l p ps) → e.layer ≡ d.layer → e ≡ d
path_one s l p [] e d i j same = absurd i
path_one s l p (q ∷ qs) e d i j same =
    let first : Edge = record { strand = s; layer = l; from = p; to = q } in
    ⊎_elim
    (λ (a : e ≡ first).
    ⊎_elim
    (λ (b : d ≡ first). a ∙ sym b)
    (λ (b : Among d (edges s (suc l) (Some q) qs)).
    let at : e.layer ≡ l = ap (λ (x : Edge). x.layer) a in
    let after = (path_after s (suc l) (Some q) qs d b).1 in
    absurd (omega (arith, at, after, same)))
    j)
    (λ (a : Among e (edges s (suc l) (Some q) qs)).
    ⊎_elim
    (λ (b : d ≡ first).
    let at : d.layer ≡ l = ap (λ (x : Edge). x.layer) b in
    let after = (path_after s (suc l) (Some q) qs e a).1 in
    absurd (omega (arith, at, after, same)))
    (λ (b : Among d (edges s (suc l) (Some q) qs)). path_one s (suc l) (Some q) qs e d a b same)
    j)
    i

-- the edge before it
pub record Behind (e : Edge) (es : List Edge) : Type 0 where
  pub edge : Edge
  pub in_path : Among edge es
  pub layer : suc edge.layer ≡ e.layer
  pub from : e.from ≡ Some edge.to

pub path_from : (s l : ℕ) (p : Option Place) (ps : List Place) (e : Edge) →
    Among e (edges s l p ps) → ((e.layer ≡ l) × (e.from ≡ p)) ⊎ Behind e (edges s l p ps)
path_from s l p [] e i = absurd i
path_from s l p (q ∷ qs) e i =
    let first : Edge = record { strand = s; layer = l; from = p; to = q } in
    ⊎_elim
    (λ (a : e ≡ first). inl (ap (λ (x : Edge). x.layer) a, ap (λ (x : Edge). x.from) a))
    (λ (a : Among e (edges s (suc l) (Some q) qs)).
    ⊎_elim
    (λ (b : (e.layer ≡ suc l) × (e.from ≡ Some q)). inr
    (record { edge = first; in_path = inl refl; layer = sym b.0; from = b.1 }))
    (λ (b : Behind e (edges s (suc l) (Some q) qs)). inr
    (record { edge = b.edge; in_path = inr b.in_path; layer = b.layer; from = b.from }))
    (path_from s (suc l) (Some q) qs e a))
    i

pub path_at : (s l : ℕ) (p : Option Place) (ps : List Place) (k : ℕ) → l ≤ k → k < l + length ps →
    (e : Edge) × Among e (edges s l p ps) × (e.layer ≡ k)
path_at s l p [] k le lt = absurd (omega (arith, le, lt))
path_at s l p (q ∷ qs) k le lt =
    ⊎_elim
    (λ (e : k ≡ l). (record { strand = s; layer = l; from = p; to = q }, inl refl, sym e))
    (λ (ne : k ≡ l → ⊥). let a = path_at s (suc l) (Some q) qs k (omega (arith, le, ne))
    (omega (arith, lt)) in (a.0, inr a.1, a.2))
    (cases_eq k l)

-- ---- a flow of routes

-- the edge is of strand n + number, the strand of this number in the list
pub record OfRoute (n : ℕ) (ts : List Strand) (rs : List (List Place)) (e : Edge) : Type 0 where
  pub number : ℕ
  pub strand : Strand
  pub path : List Place
  pub is_strand : slice_get ts number ≡ Some strand
  pub is_path : slice_get rs number ≡ Some path
  pub in_path : Among e (edges (n + number) strand.first None path)

pub of_flow : (n : ℕ) (ts : List Strand) (rs : List (List Place)) (e : Edge) →
    Among e (flow_from n ts rs) → OfRoute n ts rs e
of_flow n [] rs e i = absurd i
of_flow n (t ∷ ts) [] e i = absurd i
of_flow n (t ∷ ts) (ps ∷ rs) e i =
    ⊎_elim
    (λ (a : Among e (edges n t.first None ps)).
    record {
      number = 0;
      strand = t;
      path = ps;
      is_strand = refl;
      is_path = refl;
      in_path =
          subst (λ k. Among e (edges k t.first None ps))
          (let same : n ≡ n + 0 = omega arith in same)
          a;
    })
    (λ (a : Among e (flow_from (suc n) ts rs)).
    let o = of_flow (suc n) ts rs e a in
    record {
      number = suc o.number;
      strand = o.strand;
      path = o.path;
      is_strand = o.is_strand;
      is_path = o.is_path;
      in_path = subst (λ k. Among e (edges k o.strand.first None o.path))
          (let same : suc n + o.number ≡ n + suc o.number = omega arith in same) o.in_path;
    })
    (in_either (edges n t.first None ps) (flow_from (suc n) ts rs) e i)

pub in_flow : (n : ℕ) (ts : List Strand) (rs : List (List Place)) (e : Edge) → OfRoute n ts rs e →
    Among e (flow_from n ts rs)
in_flow n ts rs e o = into n ts rs o.number o.strand o.path o.is_strand o.is_path o.in_path
  where
    into : (n : ℕ) (ts : List Strand) (rs : List (List Place)) (k : ℕ) (t : Strand)
        (ps : List Place) → slice_get ts k ≡ Some t → slice_get rs k ≡ Some ps →
        Among e (edges (n + k) t.first None ps) → Among e (flow_from n ts rs)
    into n [] rs k t ps a b i = cc
    into n (u ∷ ts) [] k t ps a b i = cc
    into n (u ∷ ts) (r ∷ rs) zero t ps a b i =
        in_left (edges n u.first None r) (flow_from (suc n) ts rs) e
        (subst (λ k. Among e (edges k u.first None r)) (let same : n + 0 ≡ n = omega arith in same)
        (subst (λ x. Among e (edges (n + 0) x.first None r)) (sym (some_same u t a))
        (subst (λ x. Among e (edges (n + 0) t.first None x)) (sym (some_same r ps b)) i)))
    into n (u ∷ ts) (r ∷ rs) (suc k) t ps a b i =
        in_right (edges n u.first None r) (flow_from (suc n) ts rs) e
        (into (suc n) ts rs k t ps a b
        (subst (λ m. Among e (edges m t.first None ps))
        (let same : n + suc k ≡ suc n + k = omega arith in same) i))

pub route_of : (ts : List Strand) (rs : List (List Place)) → HasPlaces ts rs →
    (k : ℕ) (t : Strand) → slice_get ts k ≡ Some t → (ps : List Place) ×
    (slice_get rs k ≡ Some ps) × (t.first + length ps ≡ t.last + 1)
route_of [] rs has k t e = cc
route_of (u ∷ ts) [] has k t e = absurd has
route_of (u ∷ ts) (r ∷ rs) has zero t e =
    (r, refl, subst (λ x. x.first + length r ≡ x.last + 1) (some_same u t e) has.0)
route_of (u ∷ ts) (r ∷ rs) has (suc k) t e = route_of ts rs has.1 k t e
