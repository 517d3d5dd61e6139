use Rattle.std.proofs.Common.{ℕ, ◌≡◌, ◌+◌, ◌-◌, ◌∙◌, List, [], length, drop, count_by, cond, None}
use Rattle.std.proofs.Common.{refl, sym, ap, arith}
use Rattle.std.proofs.lemmas.List.{drop_all}
use Rattle.pra_base.specs.declared.ids.Place.{Place}
use Rattle.net_form.specs.declared.net.Strand.{Strand}
use Rattle.net_form.specs.Admitted.{no_strand, strand_at, uses_bundle}
use Rattle.net_form.specs.Flow.{Edge, edges, flow, flow_from}
use Rattle.net_form.proofs.RoutesConserve.{as_many}
use Rattle.net_gate.proofs.Paths.{places_at, sum_drop}
use Rattle.net_gate.proofs.Occupied.{stands_same}
use Rattle.net_gate.proofs.bundles.first_bundle.Goals as goal

pub at-requires : goal.at-requires
at-requires c =
    let n = as_many c.args.net.now.strands c.args.routes.now.places c.requires.routes in
    omega (arith, n)

pub go_along-clash-requires-clause-path : goal.go_along-clash-requires-clause-path
go_along-clash-requires-clause-path c =
    let long = places_at c.args.net.now.strands c.args.routes.now.places c.loop-at.at no_strand
    [] c.requires.routes (omega arith) in
    let row = ap length c.at.ensures in
    omega (arith, long, row)

pub loop-at-init : goal.loop-at-init
loop-at-init c = record {
  long = refl;
  mems = refl;
  bound = λ n r. omega arith;
  stands = record {
    marks = λ n r. let none = (c.clear.ensures.nothing c.args.net.now).registers n r in
        omega (arith, none);
    first = λ n r. omega arith;
  };
}

pub loop-at-preserved : goal.loop-at-preserved
loop-at-preserved c =
    let net = c.args.net.now in
    let rs = c.args.routes.now.places in
    let i = c.loop-at.at in
    let n = as_many net.strands rs c.requires.routes in
    let row = c.at.ensures in
    let all : ℕ → ℕ → ℕ = λ n r. count_by (uses_bundle net n r) (flow net c.args.routes.now) in
    let left : ℕ → ℕ → ℕ → ℕ = λ i n r. count_by (uses_bundle net n r)
    (flow_from i (drop i net.strands) (drop i rs)) in
    let path : ℕ → ℕ → ℕ = λ n r. count_by (uses_bundle net n r)
    (edges i (strand_at net i).first None c.at.result.now) in
    let step : (n r : ℕ) → left i n r ≡ path n r + left (i + 1) n r =
    λ n r. sum_drop (λ (e : Edge). cond (uses_bundle net n r e) 1 0) net.strands rs i no_strand []
    (omega arith) (omega (arith, as_many net.strands rs c.requires.routes))
    ∙ sym (ap (λ (xs : List Place). count_by (uses_bundle net n r)
    (edges i (strand_at net i).first None xs) + left (i + 1) n r) row) in
    record {
      long = c.go_along-clash.ensures.long ∙ c.loop-at.invariant.long;
      mems = ap length c.go_along-clash.ensures.mems ∙ c.loop-at.invariant.mems;
      bound = λ n r. let now = step n r in let was = c.loop-at.invariant.bound n r in
          omega (arith, now, was);
      stands = stands_same (λ n r. all n r - left i n r + path n r)
          (λ n r. all n r - left (i + 1) n r) c.go_along-clash.new.taken.regs
          c.go_along-clash.result
          (λ n r. let now = step n r in let was = c.loop-at.invariant.bound n r in
          omega (arith, now, was))
          (c.go_along-clash.ensures.stands (λ n r. all n r - left i n r)
          c.loop-at.invariant.stands);
    }

pub returns-clause-first : goal.returns-clause-first
returns-clause-first c =
    let net = c.args.net.now in
    let rs = c.args.routes.now.places in
    let i = c.loop-at.at in
    let none : (n r : ℕ) → count_by (uses_bundle net n r)
    (flow_from i (drop i net.strands) (drop i rs)) ≡ 0 =
    λ n r. ap (λ (ts : List Strand). count_by (uses_bundle net n r) (flow_from i ts (drop i rs)))
    (drop_all i net.strands (omega arith)) in
    (stands_same (λ n r. count_by (uses_bundle net n r) (flow net c.args.routes.now) - count_by
    (uses_bundle net n r) (flow_from i (drop i net.strands) (drop i rs)))
    (λ n r. count_by (uses_bundle net n r) (flow net c.args.routes.now)) c.loop-at.taken.regs
    c.loop-at.clash
    (λ n r. let zero_ = none n r in omega (arith, zero_)) c.loop-at.invariant.stands).first
