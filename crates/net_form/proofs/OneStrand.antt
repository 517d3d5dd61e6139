-- One strand's edges, and those of the others.
use Rattle.std.proofs.Common.{ℕ, zero, suc, ◌≡◌, ◌+◌, List, [], ◌∷◌, ◌++◌, slice_get, set, sum_by}
use Rattle.std.proofs.Common.{IsPermutation, sym, ap, ◌∙◌, subst, arith, Some, None, append_assoc}
use Rattle.std.proofs.Common.{unwrap_or}
use Rattle.std.proofs.lemmas.List.Sums.{sum_by-append}
use Rattle.std.proofs.lemmas.List.Sorted.{IsPermutation-append_comm, IsPermutation-trans}
use Rattle.std.proofs.lemmas.List.Sorted.{IsPermutation-refl, IsPermutation-append_left}
use Rattle.std.proofs.lemmas.List.Sorted.{IsPermutation-append_right, sum_by-IsPermutation}
use Rattle.pra_base.specs.declared.ids.Place.{Place}
use Rattle.net_form.specs.declared.net.Strand.{Strand}
use Rattle.net_form.specs.Flow.{Edge, edges, flow_from, flow_of, HasPlaces}
use Rattle.pra_list.proofs.Options.{none_some}

-- the edges of the routes without strand s
abbrev pub others : List Strand → List (List Place) → ℕ → List Edge
others us rs s = flow_of us (set rs s [])

-- a strand's edges, and those of the others
pub flow_split : (s : ℕ) (ts : List Strand) (rs : List (List Place)) (i : ℕ) (t : Strand)
    (ps : List Place) → HasPlaces ts rs → slice_get ts i ≡ Some t
    → IsPermutation (flow_from s ts (set rs i ps))
    (edges (s + i) t.first None ps ++ flow_from s ts (set rs i []))
flow_split s [] rs i t ps has is = absurd (none_some is)
flow_split s (u ∷ ts) [] i t ps has is = absurd has
flow_split s (u ∷ ts) (r ∷ rs) zero t ps has is =
    let same : u ≡ t = ap (λ o. unwrap_or o u) is in
    let e : s ≡ s + 0 = omega arith in
    subst (λ n. IsPermutation (edges s u.first None ps ++ flow_from (suc s) ts rs)
    (edges n t.first None ps ++ flow_from (suc s) ts rs)) e
    (subst (λ t. IsPermutation (edges s u.first None ps ++ flow_from (suc s) ts rs)
    (edges s t.first None ps ++ flow_from (suc s) ts rs)) same (IsPermutation-refl _))
flow_split s (u ∷ ts) (r ∷ rs) (suc i) t ps has is =
    let e : suc s + i ≡ s + suc i = omega arith in
    subst (λ n. IsPermutation (edges s u.first None r ++ flow_from (suc s) ts (set rs i ps))
    (edges n t.first None ps ++ (edges s u.first None r ++ flow_from (suc s) ts (set rs i []))))
    e
    (moved (edges s u.first None r) (flow_from (suc s) ts (set rs i ps))
    (edges (suc s + i) t.first None ps) (flow_from (suc s) ts (set rs i []))
    (flow_split (suc s) ts rs i t ps has.1 is))
  where
    moved : (a x b y : List Edge) → IsPermutation x (b ++ y) →
        IsPermutation (a ++ x) (b ++ (a ++ y))
    moved a x b y h = IsPermutation-trans (a ++ x) ((a ++ b) ++ y) (b ++ (a ++ y))
        (subst (IsPermutation (a ++ x)) (sym (append_assoc a b y))
        (IsPermutation-append_right a x (b ++ y) h))
        (subst (IsPermutation ((a ++ b) ++ y)) (append_assoc b a y)
        (IsPermutation-append_left y (a ++ b) (b ++ a) (IsPermutation-append_comm a b)))

module _ (us : List Strand) (rs : List (List Place)) (s : ℕ) (t : Strand) (has : HasPlaces us rs)
    (is : slice_get us s ≡ Some t) where
  pub split : (ps : List Place) → IsPermutation (flow_of us (set rs s ps))
      (edges s t.first None ps ++ others us rs s)
  split ps = let e : 0 + s ≡ s = omega arith in
      subst (λ n. IsPermutation (flow_of us (set rs s ps))
      (edges n t.first None ps ++ others us rs s)) e (flow_split 0 us rs s t ps has is)

  pub sum_split : (g : Edge → ℕ) (ps : List Place) → sum_by g (flow_of us (set rs s ps)) ≡
      sum_by g (edges s t.first None ps) + sum_by g (others us rs s)
  sum_split g ps = sym (sum_by-IsPermutation g (flow_of us (set rs s ps)) _ (split ps))
      ∙ sum_by-append g (edges s t.first None ps) (others us rs s)
