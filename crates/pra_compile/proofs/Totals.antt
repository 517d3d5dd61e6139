-- What is kept of procedures has totals.
use Rattle.std.proofs.Common.{◌≡◌, ℕ, suc, ◌*◌, ◌^◌, ◌<◌, ◌≤◌, List, [], ◌∷◌}
use Rattle.std.proofs.Common.{length, get_or, All, Option, Some, None, refl, ap, subst, arith}
use Rattle.std.proofs.lemmas.List.{length-append}
use Rattle.std.proofs.lemmas.List.Elements.{All-head, All-tail, All-from_get_or}
use Rattle.std.proofs.lemmas.Option.{slice_get-get_or}
use Rattle.std.proofs.lemmas.List.Sums.{sum_by-le}
use Rattle.pra_base.specs.declared.ids.Place.{Place}
use Rattle.cert_form.specs.declared.codes.CodeFile.{CodeFile}
use Rattle.cert_form.specs.declared.codes.NamedCode.{NamedCode}
use Rattle.net_cost.specs.declared.weights.Weights.{Weights}
use Rattle.net_cost.specs.Weights.{IsValid, most_weight}
use Rattle.net_form.specs.declared.net.Net.{Net}
use Rattle.net_form.specs.declared.net.Strand.{Strand}
use Rattle.net_form.specs.declared.routes.Routes.{Routes}
use Rattle.net_form.specs.Admitted.{no_strand}
use Rattle.net_form.specs.Cost.{edge_cost, cost_of}
use Rattle.net_form.specs.Flow.{edges, flow_from, flow, HasPlaces, AreRoutes}
use Rattle.net_form.specs.Formed.{most_layers}
use Rattle.net_form.specs.Tables.{all_tables}
use Rattle.net_form.proofs.EdgeCosts.{cost_by_edges}
use Rattle.net_form.proofs.Layers.{in_layers}
use Rattle.net_laws.specs.Built.{IsBuilt as IsBuiltNet}
use Rattle.net_laws.proofs.Built.{built}
use Rattle.net_dual.proofs.Small.{cost_small}
use Rattle.pra_follow.specs.Codes.{AreAdmittedIn, Carriage, IsCarriage}
use Rattle.pra_report.specs.declared.report.ProcOut.{ProcOut}
use Rattle.pra_report.specs.Report.{HaveTotals, IsOfMany}
use Rattle.pra_report.proofs.Totals.{many_have_totals}
use Rattle.pra_compile.specs.declared.output.Compiled.{Compiled}
use Rattle.pra_compile.specs.Compiled.{Wanted, granted, IsProcBy, IsProcOut, IsBuiltBy, IsBuilt}
use Rattle.pra_compile.specs.Leaving.{Leaving}
use Rattle.pra_compile.proofs.Done.{there_is}
use Rattle.pra_compile.proofs.Told.{some_line, last_cost_of, last_within}

-- ---- how many edges routes have

edges_many : (s l : ℕ) (p : Option Place) (ps : List Place) → length (edges s l p ps) ≡ length ps
edges_many s l p [] = refl
edges_many s l p (q ∷ qs) = ap suc (edges_many s (suc l) (Some q) qs)

edges_few : (m s : ℕ) (ts : List Strand) (paths : List (List Place)) → HasPlaces ts paths →
    All (λ (t : Strand). t.last < m) ts → length (flow_from s ts paths) ≤ length ts * m
edges_few m s [] paths has short = omega arith
edges_few m s (t ∷ ts) [] has short = absurd has
edges_few m s (t ∷ ts) (ps ∷ paths) has short =
    let both = length-append (edges s t.first None ps) (flow_from (suc s) ts paths) in
    let here = edges_many s t.first None ps in
    let long = has.0 in
    let last = All-head (λ (t : Strand). t.last < m) t ts short in
    let rest = edges_few m (suc s) ts paths has.1 (All-tail (λ (t : Strand). t.last < m) t ts short)
    in
    omega (arith, both, here, long, last, rest)

-- ---- and what they cost

module _ (net : Net) (is : IsBuiltNet net) (w : Weights) (valid : IsValid w) (routes : Routes)
    (has : AreRoutes net routes) where
  short_strands : All (λ (t : Strand). t.last < most_layers) net.strands
  short_strands = All-from_get_or (λ (t : Strand). t.last < most_layers) net.strands no_strand
      (λ s lt.
      let inside = in_layers net is.formed s lt in
      let layers = is.formed.layers in
      omega (arith, inside, layers))

  pub cost_few : cost_of net w (flow net routes) < 2 ^ 112
  cost_few =
      let many = edges_few most_layers 0 net.strands routes.places has short_strands in
      let few = is.formed.few in
      let by_edges = cost_by_edges all_tables net w (flow net routes) in
      let most = sum_by-le (edge_cost all_tables net w) (3 * most_weight) (flow net routes)
      (λ k d lt. cost_small net is w valid (get_or (flow net routes) k d)) in
      omega (arith, many, few, by_edges, most)

out_is_one : (wanted : Wanted) (p : ℕ) (named : NamedCode) (out : ProcOut) (c : Carriage) →
    IsCarriage c → IsValid wanted.weights → IsProcOut wanted p named out c → IsOfMany out
out_is_one wanted p named out c is_carriage valid is =
    let routes = subst (λ (rs : Routes). AreAdmittedIn c.code c.net rs) is.routes is_carriage.routes in
    let is_built = built c.code c.net routes.is_net is_carriage.valid is_carriage.sized in
    let few = cost_few c.net is_built wanted.weights valid out.routes routes.are_routes in
    let same = last_cost_of wanted c.net out.routes out.prices out.lines is.allocated in
    let within = last_within wanted c.net out.routes out.prices out.lines is.allocated in
    record {
      told = some_line wanted c.net out.routes out.prices out.lines is.allocated;
      cost = omega (arith, few, same);
      bound = omega (arith, few, same, within);
    }

-- code has totals where each of its procedures is one of many
pub all_total : (file : CodeFile) (leaves : Leaving) (compiled : Compiled) →
    IsBuiltBy file leaves compiled →
    ((p : ℕ) (named : NamedCode) (out : ProcOut) (c : Carriage) → IsCarriage c →
    IsProcBy leaves p named out c → IsOfMany out) → HaveTotals compiled.procs
all_total file leaves compiled is one =
    let count = is.placement.count in
    let carriage_count = is.placement.carriage_count in
    let few = is.runnable.few in
    many_have_totals compiled.procs (omega (arith, count, few)) (λ p d lt.
    let named = there_is file.procs p (omega (arith, lt, count)) in
    let c = there_is is.placement.carriages p (omega (arith, lt, carriage_count)) in
    let out = get_or compiled.procs p d in
    one p named.0 out c.0 (is.placement.are p c.0 c.1)
    (is.placement.each p named.0 out c.0 named.1 (slice_get-get_or compiled.procs p d lt) c.1))

pub have_totals : (file : CodeFile) (wanted : Wanted) (compiled : Compiled) →
    IsBuilt file wanted compiled → IsValid wanted.weights → HaveTotals compiled.procs
have_totals file wanted compiled is valid =
    all_total file (granted wanted) compiled is
    (λ p named out c carriage. out_is_one wanted p named out c carriage valid)
