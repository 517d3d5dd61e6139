-- The edges of routes are apart: no two of one strand at one layer.
use Rattle.std.proofs.Common.{◌≡◌, ℕ, suc, ◌+◌, inl, inr, ⊎_elim, Bool, true, false, cond, List, []}
use Rattle.std.proofs.Common.{◌∷◌, ◌++◌, Option, Some, None, refl, arith, filter}
use Rattle.pra_list.specs.Among.{Among}
use Rattle.pra_base.specs.declared.ids.Place.{Place}
use Rattle.net_form.specs.declared.net.Strand.{Strand}
use Rattle.net_form.specs.Flow.{Edge, edges, flow_from}
use Rattle.pra_list.proofs.Among.{in_either, of_filter}
use Rattle.pl_routed.proofs.Edges.{path_after, of_flow}

-- any two elements are in the relation, the earlier one first
abbrev pub EachTwo : {X : Type 0} → (X → X → Type 0) → List X → Type 0
EachTwo R [] = Unit {0}
EachTwo {X} R (x ∷ xs) = ((y : X) → Among y xs → R x y) × EachTwo R xs

abbrev pub Differ : Edge → Edge → Type 0
Differ e d = e.strand ≡ d.strand → e.layer ≡ d.layer → ⊥

two_append : {X : Type 0} (R : X → X → Type 0) (xs ys : List X) → EachTwo R xs → EachTwo R ys →
    ((x y : X) → Among x xs → Among y ys → R x y) → EachTwo R (xs ++ ys)
two_append R [] ys f g h = g
two_append R (x ∷ xs) ys f g h = (
  λ y i. ⊎_elim (λ (a : Among y xs). f.0 y a) (λ (b : Among y ys). h x y (inl refl) b)
      (in_either xs ys y i),
  two_append R xs ys f.1 g (λ z y i j. h z y (inr i) j),
)

path_apart : (s l : ℕ) (p : Option Place) (ps : List Place) → EachTwo Differ (edges s l p ps)
path_apart s l p [] = tt
path_apart s l p (q ∷ qs) = (
  λ d i strand layer. let after = (path_after s (suc l) (Some q) qs d i).1 in
      omega (arith, after, layer),
  path_apart s (suc l) (Some q) qs,
)

pub flow_apart : (n : ℕ) (ts : List Strand) (rs : List (List Place)) →
    EachTwo Differ (flow_from n ts rs)
flow_apart n [] rs = tt
flow_apart n (t ∷ ts) [] = tt
flow_apart n (t ∷ ts) (ps ∷ rs) =
    two_append Differ (edges n t.first None ps) (flow_from (suc n) ts rs)
    (path_apart n t.first None ps) (flow_apart (suc n) ts rs)
    (λ e d i j strand layer.
    let one = (path_after n t.first None ps e i).0 in
    let o = of_flow (suc n) ts rs d j in
    let other = (path_after (suc n + o.number) o.strand.first None o.path d o.in_path).0 in
    omega (arith, one, other, strand))

pub two_filter : {X : Type 0} (R : X → X → Type 0) (p : X → Bool) (xs : List X) → EachTwo R xs →
    EachTwo R (filter p xs)
two_filter R p [] f = tt
two_filter {X = X} R p (x ∷ xs) f = by_test (p x) (two_filter R p xs f.1)
  where
    by_test : (b : Bool) → EachTwo R (filter p xs) →
        EachTwo R (cond b (x ∷ filter p xs) (filter p xs))
    by_test true more = ((λ y i. f.0 y (of_filter p xs y i).0), more)
    by_test false more = more

pub two_weaker : {X : Type 0} (R S : X → X → Type 0) (xs : List X) →
    ((x y : X) → Among x xs → Among y xs → R x y → S x y) → EachTwo R xs → EachTwo S xs
two_weaker R S [] g f = tt
two_weaker R S (x ∷ xs) g f = (
  (λ y i. g x y (inl refl) (inr i) (f.0 y i)),
  two_weaker R S xs (λ a b i j. g a b (inr i) (inr j)) f.1,
)
