-- What is admitted and what a flow costs do not depend on the order of its edges.
use Rattle.std.proofs.Common.{ℕ, ◌≡◌, ◌+◌, ◌*◌, ◌≤◌, List, count_by, sum_by, get_or, IsPermutation}
use Rattle.std.proofs.Common.{IsTrue, sym, ap, ◌∙◌, subst, Some, None}
use Rattle.std.proofs.lemmas.List.Sorted.{All-permutation, sum_by-IsPermutation}
use Rattle.std.proofs.Math.Path.{fun_ext}
use Rattle.net_cost.specs.declared.weights.Weights.{Weights}
use Rattle.net_form.specs.declared.net.Strand.{Strand}
use Rattle.net_form.specs.declared.net.Extra.{Extra}
use Rattle.net_form.specs.declared.net.Net.{Net}
use Rattle.net_form.specs.declared.routes.Routes.{Routes}
use Rattle.net_form.specs.Flow.{Edge, IsEdge, leaves, arrives, Conserves, flow, AreRoutes}
use Rattle.net_form.specs.Admitted.{IsAdmitted, in_mask, stays_across, uses_bundle, uses_memory}
use Rattle.net_form.specs.Admitted.{exits_at, enters_at}
use Rattle.net_form.specs.Cost.{cost_by, way_cost, extra_cost, meets}
use Rattle.net_form.specs.Formed.{IsFormed}
use Rattle.net_form.specs.Tables.{PlaceTables}
use Rattle.pra_list.proofs.Counts.{count-same}
use Rattle.net_form.proofs.FlowIsRoutes.{flow_is_routes}

conserves-permutation : (ts : List Strand) (f g : List Edge) → IsPermutation f g → Conserves ts f →
    Conserves ts g
conserves-permutation ts f g same c = record {
  edges = All-permutation (IsEdge ts) f g same c.edges;
  starts = λ s t is. count-same (leaves s t.first None) f g same ∙ c.starts s t is;
  keeps = λ s l q t is le lt. count-same (arrives s l q) f g same ∙ c.keeps s l q t is le lt
      ∙ sym (count-same (leaves s (l + 1) (Some q)) f g same);
}

pub admitted-permutation : (net : Net) (f g : List Edge) → IsPermutation f g → IsAdmitted net f →
    IsAdmitted net g
admitted-permutation net f g same a = record {
  conserves = conserves-permutation net.strands f g same a.conserves;
  masks = All-permutation (λ e. IsTrue (in_mask net e)) f g same a.masks;
  across = All-permutation (λ e. IsTrue (stays_across e)) f g same a.across;
  bundles = λ n r. subst (λ k. k ≤ 1) (sym (count-same (uses_bundle net n r) f g same))
      (a.bundles n r);
  pairs = λ k d lt. subst (λ n. n ≤ 1)
      (sym (count-same (uses_memory (get_or net.pairs k d)) f g same)) (a.pairs k d lt);
  ties = λ k d lt p. count-same (exits_at net (get_or net.ties k d) p) f g same ∙ a.ties k d lt p
      ∙ sym (count-same (enters_at net (get_or net.ties k d) p) f g same);
}

pub cost-permutation : (tables : PlaceTables) (net : Net) (w : Weights) (f g : List Edge) →
    IsPermutation f g
    → cost_by tables net w g ≡ cost_by tables net w f
cost-permutation tables net w f g same =
    ap (λ n. n + sum_by (λ x. extra_cost net w x * count_by (meets x) g) net.extras)
    (sum_by-IsPermutation (way_cost tables net w) f g same)
    ∙ ap (λ (h : Extra → ℕ). sum_by (way_cost tables net w) f + sum_by h net.extras)
    (fun_ext (λ (x : Extra). ap (λ n. extra_cost net w x * n) (count-same (meets x) f g same)))

-- the law: an admitted flow is the flow of admitted routes, in some order
pub admitted_is_routes : (net : Net) (f : List Edge) → IsFormed net → IsAdmitted net f →
    (routes : Routes) × AreRoutes net routes × IsPermutation f (flow net routes) ×
    IsAdmitted net (flow net routes)
admitted_is_routes net f formed a =
    let found = flow_is_routes net.strands f (λ k d lt. (formed.strands k d lt).order)
    a.conserves in (
      record { places = found.0 },
      found.1,
      found.2,
      admitted-permutation net f (flow net (record { places = found.0 })) found.2 a,
    )
