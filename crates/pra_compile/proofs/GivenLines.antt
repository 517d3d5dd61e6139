-- What is told of a procedure whose routes were given, and what the image carries of it.
use Rattle.std.proofs.Common.{◌≡◌, ℕ, ◌^◌, ◌<◌, ◌≤◌, List, length, Some, sym, ap, subst, ◌∙◌, arith}
use Rattle.std.specs.Prelude.{slice_get}
use Rattle.pra_list.proofs.Options.{some_same}
use Rattle.cert_form.specs.declared.codes.CodeFile.{CodeFile}
use Rattle.cert_form.specs.declared.codes.NamedCode.{NamedCode}
use Rattle.net_form.specs.declared.prices.Line.{Line}
use Rattle.net_form.specs.Flow.{flow}
use Rattle.pra_follow.specs.Codes.{Carriage}
use Rattle.pra_report.specs.declared.report.ProcOut.{ProcOut}
use Rattle.pra_report.specs.Report.{last_cost, last_bound, HaveTotals, IsOfMany}
use Rattle.pra_compile.specs.declared.given.GivenRoutes.{GivenRoutes}
use Rattle.pra_compile.specs.declared.output.Compiled.{Compiled}
use Rattle.pra_compile.specs.Compiled.{IsProcBy, IsBuiltBy}
use Rattle.pra_compile.specs.Given.{IsOfGiven, given_by}
use Rattle.pra_compile.proofs.Totals.{all_total}

module _ (given : List GivenRoutes) (p : ℕ) (named : NamedCode) (out : ProcOut) (c : Carriage)
    (is : IsProcBy (given_by given) p named out c) where
  abbrev is_given : IsOfGiven given p out.routes out.prices out.lines
  is_given = is.allocated

  module _ (own : GivenRoutes) (there : slice_get given p ≡ Some own) where
    same_own : is_given.own ≡ own
    same_own = some_same is_given.own own (sym is_given.there ∙ there)

    pub cost_given : last_cost out.lines ≡ own.cost
    cost_given = ap last_cost is_given.left.one ∙ ap (λ (o : GivenRoutes). o.cost) same_own

    pub bound_given : last_bound out.lines ≡ own.bound
    bound_given = ap last_bound is_given.left.one ∙ ap (λ (o : GivenRoutes). o.bound) same_own

    same_routes : out.routes ≡ own.routes
    same_routes = is_given.left.same ∙ ap (λ (o : GivenRoutes). o.routes) same_own

    pub flow_given : flow c.net c.routes ≡ flow c.net own.routes
    flow_given = ap (flow c.net) (is.routes ∙ same_routes)

  one_of_many : IsOfMany out
  one_of_many =
      let cost = is_given.left.small_cost in
      let bound = is_given.left.small_bound in
      record {
        told = subst (λ (lines : List Line). 1 ≤ length lines) (sym is_given.left.one) (omega arith);
        cost = subst (λ (lines : List Line). last_cost lines < 2 ^ 112) (sym is_given.left.one)
            (omega (arith, cost));
        bound = subst (λ (lines : List Line). last_bound lines < 2 ^ 112) (sym is_given.left.one)
            (omega (arith, bound));
      }

pub given_totals : (file : CodeFile) (given : List GivenRoutes) (compiled : Compiled) →
    IsBuiltBy file (given_by given) compiled → HaveTotals compiled.procs
given_totals file given compiled is =
    all_total file (given_by given) compiled is
    (λ p named out c carriage. one_of_many given p named out c)
