-- The certificate of compiled code holds.
use Rattle.std.proofs.Common.{◌≡◌, ℕ, ◌-◌, ◌*◌, ℤ, pos, ◌-ℤ◌, ◌≤ℤ◌, inr, List, map}
use Rattle.std.proofs.Common.{[], ◌∷◌, length, replicate, Some, refl, sym, ap, subst, ◌∙◌, arith}
use Rattle.std.specs.Prelude.{slice_get, option_map}
use Rattle.std.proofs.lemmas.Int.{ints}
use Rattle.std.proofs.lemmas.Option.{slice_get-map, slice_get_within}
use Rattle.pra_base.specs.declared.code.VProc.{VProc}
use Rattle.pra_base.specs.Valid.{counts_of}
use Rattle.cert_form.specs.declared.codes.CodeFile.{CodeFile}
use Rattle.cert_form.specs.declared.codes.NamedCode.{NamedCode}
use Rattle.net_form.specs.declared.net.Net.{Net}
use Rattle.net_form.specs.declared.routes.Routes.{Routes}
use Rattle.net_form.specs.Cost.{cost_of}
use Rattle.net_form.specs.Flow.{flow}
use Rattle.net_dual.specs.Priced.{AreInRange}
use Rattle.net_dual.specs.Value.{IsLagrange}
use Rattle.al_round.specs.Stages.{IsBest, IsRoundedUp}
use Rattle.al_round.proofs.Bounds.{greatest_in_range, greatest_value}
use Rattle.pra_report.specs.declared.report.ProcOut.{ProcOut}
use Rattle.pra_report.specs.Report.{last_cost, last_bound}
use Rattle.pra_follow.specs.Codes.{AreAdmittedIn}
use Rattle.pra_follow.proofs.Sides.{same_maps}
use Rattle.pra_compile.specs.declared.output.Compiled.{Compiled}
use Rattle.pra_compile.specs.Compiled.{Wanted, IsGranted, IsBuilt, codes_in}
use Rattle.pra_compile.proofs.Done.{there_is}
use Rattle.pra_compile.proofs.Told.{last_cost_of, last_bound_is}
use Rattle.cert_form.specs.declared.certificate.Cert.{Cert}
use Rattle.cert_form.specs.declared.certificate.Certificate.{Certificate}
use Rattle.cert_check.specs.declared.check.Reason.{Reason}
use Rattle.cert_check.specs.declared.check.Reason.TheVariants.{Code, Routes as Ways}
use Rattle.cert_check.specs.declared.check.Reason.TheVariants.{Prices as Listed, Total, Bound}
use Rattle.cert_check.specs.declared.check.CertAnswer.TheVariants.{Yes}
use Rattle.cert_check.specs.Listed.{HasPrices, prices_of, with_caps, with_tie_numbers}
use Rattle.cert_check.specs.Reasons.{weights_by, counts_in, IsBelowValue, MeetsIn}
use Rattle.vc_valid.specs.Listed.{HasCode}
use Rattle.cert_check.specs.Reasons.{Meets, MeetsAll, IsAnswerOf}
use Rattle.cert_make.specs.Made.{caps_from, numbers_from, IsCertOf, IsCertificateOf}
use Rattle.cert_make.proofs.ListedAgain.{are_caps, caps_again, are_numbers, numbers_again}

-- ---- one certificate

-- what is certified of a procedure
abbrev made : ProcOut → Cert
made out = record {
  code = out.code;
  routes = out.routes;
  caps = caps_from 0 out.prices.caps;
  mems = caps_from 0 out.prices.mems;
  ties = numbers_from 0 out.prices.ties;
  total = last_cost out.lines;
  bound = last_bound out.lines;
}

is_made : (out : ProcOut) (cert : Cert) → IsCertOf out cert → made out ≡ cert
is_made out cert is = sym (λ i. record {
  code = is.code i;
  routes = is.routes i;
  caps = is.caps i;
  mems = is.mems i;
  ties = is.ties i;
  total = is.total i;
  bound = is.bound i;
})

module _ (net : Net) (out : ProcOut) (in_range : AreInRange net out.prices) where
  priced : HasPrices net (made out)
  priced =
      let caps = in_range.caps in
      let mems = in_range.mems in
      let ties = in_range.ties in
      record {
        caps = are_caps _ 0 0 out.prices.caps (omega arith) (omega (arith, caps)) in_range.most_cap;
        mems = are_caps _ 0 0 out.prices.mems (omega arith) (omega (arith, mems)) in_range.most_mem;
        ties = are_numbers _ 0 0 out.prices.ties (omega arith) (omega (arith, ties))
            in_range.most_tie in_range.least_tie;
      }

  -- the prices that are listed are those of the bound
  same_prices : prices_of net (made out) ≡ out.prices
  same_prices =
      let caps = subst (λ n. with_caps (replicate n 0) (caps_from 0 out.prices.caps)
      ≡ out.prices.caps) in_range.caps (caps_again out.prices.caps) in
      let mems = subst (λ n. with_caps (replicate n 0) (caps_from 0 out.prices.mems)
      ≡ out.prices.mems) in_range.mems (caps_again out.prices.mems) in
      let ties = subst (λ n. with_tie_numbers (replicate n (pos 0)) (numbers_from 0 out.prices.ties)
      ≡ out.prices.ties) in_range.ties (numbers_again out.prices.ties) in
      λ i. record { caps = caps i; mems = mems i; ties = ties i }

-- a value that is rounded up to a bound is less than a unit below it
above_bound : (z : ℤ) (b bound : ℕ) → bound ≡ b → IsRoundedUp z b
    → (pos (1024 * bound) -ℤ pos 1023) ≤ℤ z
above_bound z b bound same up =
    let least = up.least in
    omega (arith, ints, same, least)

-- as many arguments
args_of : (outs : List ProcOut) → counts_of (map (λ (out : ProcOut). out.code) outs)
    ≡ map (λ (out : ProcOut). out.code.args) outs
args_of [] = refl
args_of (out ∷ outs) = ap (λ counts. out.code.args ∷ counts) (args_of outs)

module _ (file : CodeFile) (wanted : Wanted) (compiled : Compiled) (c : Certificate)
    (same : wanted.weights ≡ weights_by c.cost) (is : IsBuilt file wanted compiled)
    (certified : IsCertificateOf c.cost compiled.procs c) where
  same_counts : counts_of (codes_in file) ≡ counts_in c.procs
  same_counts =
      ap counts_of (sym is.placement.codes)
      ∙ args_of compiled.procs
      ∙ same_maps (λ (out : ProcOut). out.code.args) (λ (cert : Cert). cert.code.args)
      compiled.procs c.procs certified.count (λ k out cert a b.
      ap (λ (code : VProc). code.args) (sym (certified.each k out cert a b).code))

  -- ---- of one procedure

  module _ (p : ℕ) (out : ProcOut) (net : Net) (code : HasCode (counts_in c.procs) p out.code)
      (routes : AreAdmittedIn out.code net out.routes)
      (granted : IsGranted wanted net out.routes out.prices out.lines) where
    best : IsBest granted.allocation.stages (length out.lines - 1) out.prices
        granted.allocation.allocated.last.bound
    best = granted.allocation.allocated.bound

    in_range : AreInRange net out.prices
    in_range = greatest_in_range net wanted.weights granted.allocation.stages
        granted.allocation.allocated.are_stages (length out.lines - 1) out.prices best.value
        best.greatest

    has_total : cost_of net (weights_by c.cost) (flow net out.routes) ≡ last_cost out.lines
    has_total = subst (λ w. cost_of net w (flow net out.routes) ≡ last_cost out.lines) same
        (sym (last_cost_of wanted net out.routes out.prices out.lines granted))

    lagrange : IsLagrange net wanted.weights out.prices best.value
    lagrange = greatest_value net wanted.weights granted.allocation.stages
        granted.allocation.allocated.are_stages (length out.lines - 1) out.prices best.value
        best.greatest

    below : IsBelowValue (weights_by c.cost) net (made out)
    below = record {
      z = best.value;
      value = subst (λ w. IsLagrange net w (prices_of net (made out)) best.value) same
          (subst (λ prices. IsLagrange net wanted.weights prices best.value)
          (sym (same_prices net out in_range)) lagrange);
      below = above_bound best.value granted.allocation.allocated.last.bound (last_bound out.lines)
          (last_bound_is wanted net out.routes out.prices out.lines granted) best.rounded;
    }

    meets_in : (r : Reason) → MeetsIn (weights_by c.cost) net (made out) r
    meets_in Code = tt
    meets_in Ways = record { places = routes.are_routes; admitted = routes.admitted }
    meets_in Listed = priced net out in_range
    meets_in Total = has_total
    meets_in Bound = inr below

    meets : (r : Reason) → Meets c p (made out) r
    meets Code = code
    meets Ways = record { net = net; is_net = routes.is_net; holds = meets_in Ways }
    meets Listed = record { net = net; is_net = routes.is_net; holds = meets_in Listed }
    meets Total = record { net = net; is_net = routes.is_net; holds = meets_in Total }
    meets Bound = record { net = net; is_net = routes.is_net; holds = meets_in Bound }

  pub all_hold : IsAnswerOf c Yes
  all_hold p cert at =
      let lt = slice_get_within c.procs p cert at in
      let certs = certified.count in
      let outs = is.placement.count in
      let carriages = is.placement.carriage_count in
      let named = there_is file.procs p (omega (arith, lt, certs, outs)) in
      let out = there_is compiled.procs p (omega (arith, lt, certs)) in
      let carriage = there_is is.placement.carriages p (omega (arith, lt, certs, carriages)) in
      let kept = is.placement.each p named.0 out.0 carriage.0 named.1 out.1 carriage.1 in
      let runs = is.runnable.each p named.0.code
      (slice_get-map (λ (n : NamedCode). n.code) file.procs p
      ∙ ap (option_map (λ (n : NamedCode). n.code)) named.1) in
      let code : HasCode (counts_in c.procs) p out.0.code =
      subst (λ counts. HasCode counts p out.0.code) same_counts
      (subst (λ (d : VProc). HasCode (counts_of (codes_in file)) p d) (sym kept.code) runs) in
      let routes : AreAdmittedIn out.0.code carriage.0.net out.0.routes =
      subst (λ (d : VProc). AreAdmittedIn d carriage.0.net out.0.routes) kept.carried
      (subst (λ (rs : Routes). AreAdmittedIn carriage.0.code carriage.0.net rs) kept.routes
      (is.placement.are p carriage.0 carriage.1).routes) in
      subst (MeetsAll c p) (is_made out.0 cert (certified.each p out.0 cert out.1 at))
      (meets p out.0 carriage.0.net code routes kept.allocated)
