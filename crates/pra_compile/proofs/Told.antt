-- What the lines of a procedure say.
use Rattle.std.proofs.Common.{◌≡◌, ℕ, zero, suc, ◌+◌, ◌-◌, ◌<◌, ◌≤◌, Bool, true, false, cond, List}
use Rattle.std.proofs.Common.{[], ◌∷◌, length, take, Some, refl, sym, ap, subst, ◌∙◌}
use Rattle.std.proofs.Common.{arith, nat_le}
use Rattle.std.specs.Prelude.{slice_get}
use Rattle.std.specs.Option.{option_map_or}
use Rattle.std.proofs.lemmas.Bool.Decides.{nat_tests}
use Rattle.std.proofs.lemmas.Option.{slice_get_within}
use Rattle.pra_list.proofs.Options.{some_same}
use Rattle.cert_form.specs.declared.codes.NamedCode.{NamedCode}
use Rattle.net_form.specs.declared.net.Net.{Net}
use Rattle.net_form.specs.declared.prices.Line.{Line}
use Rattle.net_form.specs.declared.prices.Prices.{Prices}
use Rattle.net_form.specs.declared.routes.Routes.{Routes}
use Rattle.net_form.specs.Admitted.{IsAdmitted}
use Rattle.net_form.specs.Cost.{cost_of}
use Rattle.net_form.specs.Flow.{Edge, flow}
use Rattle.pra_follow.specs.Codes.{Carriage}
use Rattle.al_laws.specs.Settled.{AreSettled}
use Rattle.al_round.specs.Lines.{AreLines, IsCost}
use Rattle.al_round.specs.Watches.{WasObeyed, verdict_of}
use Rattle.al_round.specs.declared.watch.Verdict.TheVariants.{Go, Stop}
use Rattle.pra_report.specs.declared.report.ProcOut.{ProcOut}
use Rattle.pra_report.specs.Report.{last_line, last_cost, last_bound}
use Rattle.al_round.proofs.Chain.{are_a_chain, are_an_ascent}
use Rattle.pra_compile.specs.Compiled.{Wanted, IsGranted, IsProcOut}
use Rattle.pra_compile.specs.Mechanism.{ComeFromStages, WereLaidBy, ComeFromPrices, WereLaid}
use Rattle.pra_compile.specs.Mechanism.{HaveOneChain}
use Rattle.pra_compile.proofs.Done.{there_is}

-- ---- rounds that began with one line

pub behind_one : (gap n : ℕ) (old new : List Line) → length old ≡ 1 → WasObeyed gap n old new →
    WasObeyed gap n (take 1 new) new
behind_one gap n old new one is =
    let begins : take 1 new ≡ old = subst (λ k. take k new ≡ old) one is.went_on.begins in
    subst (λ l. WasObeyed gap n l new) (sym begins) is

-- a verdict of Stop tells that the gap is reached
reached : (cost bound gap : ℕ) (b : Bool) → nat_le (cost - bound) gap ≡ b → cond b Stop Go ≡ Stop →
    cost ≤ bound + gap
reached cost bound gap true is e = grind (arith, nat_tests)
reached cost bound gap false is e = cc

one_long : (lines : List Line) → 1 ≤ length lines → length (take 1 lines) ≡ 1
one_long [] some = absurd (omega (arith, some))
one_long (l ∷ ls) some = refl

module _ (wanted : Wanted) (net : Net) (routes : Routes) (prices : Prices) (lines : List Line)
    (granted : IsGranted wanted net routes prices lines) where
  abbrev last : Line
  last = granted.allocation.allocated.last

  is_last : last_line lines ≡ Some last
  is_last = granted.allocation.allocated.is_last

  pub last_cost_is : last_cost lines ≡ last.cost
  last_cost_is = ap (λ o. option_map_or (λ (l : Line). l.cost) o 0) is_last

  pub last_bound_is : last_bound lines ≡ last.bound
  last_bound_is = ap (λ o. option_map_or (λ (l : Line). l.bound) o 0) is_last

  pub last_cost_of : last_cost lines ≡ cost_of net wanted.weights (flow net routes)
  last_cost_of = last_cost_is ∙ granted.allocation.allocated.cost.is

  are_lines : AreLines net wanted.weights granted.allocation.stages lines
  are_lines = granted.allocation.allocated.are_lines

  pub last_within : last_bound lines ≤ last_cost lines
  last_within =
      let within = (are_lines.each (length lines - 1) last is_last).within in
      let cost = last_cost_is in
      let bound = last_bound_is in
      omega (arith, within, cost, bound)

  pub some_line : 1 ≤ length lines
  some_line = are_lines.some

  pub no_flow_less : (k : ℕ) (line : Line) (f : List Edge) → slice_get lines k ≡ Some line →
      IsAdmitted net f → line.bound ≤ cost_of net wanted.weights f
  no_flow_less k line f there a = (are_lines.each k line there).holds f a

  pub cost_of_routes : (k : ℕ) (line : Line) → slice_get lines k ≡ Some line →
      (best : Routes) × IsCost net wanted.weights k line.cost best
  cost_of_routes k line there =
      ((are_lines.each k line there).routes, (are_lines.each k line there).cost)

  from_to : (n j : ℕ) (l m : Line) → slice_get lines j ≡ Some l → slice_get lines (n + j) ≡ Some m →
      (m.cost ≤ l.cost) × (l.bound ≤ m.bound)
  from_to zero j l m e f =
      let same : 0 + j ≡ j = omega arith in
      let here : slice_get lines j ≡ Some m = subst (λ k. slice_get lines k ≡ Some m) same f in
      subst (λ (x : Line). (x.cost ≤ l.cost) × (l.bound ≤ x.bound)) (some_same l m (sym e ∙ here))
      (omega arith, omega arith)
  from_to (suc n) j l m e f =
      let same : suc n + j ≡ n + suc j = omega arith in
      let there : slice_get lines (n + suc j) ≡ Some m =
      subst (λ k. slice_get lines k ≡ Some m) same f in
      let inside = slice_get_within lines (n + suc j) m there in
      let next = there_is lines (suc j) (omega (arith, inside)) in
      let cost = are_lines.costs j l next.0 e next.1 in
      let bound = are_lines.bounds j l next.0 e next.1 in
      let rest = from_to n (suc j) next.0 m next.1 there in
      let rest_cost = rest.0 in
      let rest_bound = rest.1 in
      (omega (arith, cost, rest_cost), omega (arith, bound, rest_bound))

  pub never_worse : (j k : ℕ) (l m : Line) → j ≤ k → slice_get lines j ≡ Some l →
      slice_get lines k ≡ Some m → (m.cost ≤ l.cost) × (l.bound ≤ m.bound)
  never_worse j k l m le e f =
      let same : k ≡ (k - j) + j = omega (arith, le) in
      from_to (k - j) j l m e (subst (λ n. slice_get lines n ≡ Some m) same f)

  pub few_rounds : length lines ≤ wanted.rounds + 1
  few_rounds =
      let many = granted.obeyed.went_on.many in
      let most = granted.obeyed.went_on.most in
      let one = one_long lines some_line in
      omega (arith, many, most, one)

  pub stopped : length lines < wanted.rounds + 1 → last_cost lines ≤ last_bound lines + wanted.gap
  stopped few =
      let one = one_long lines some_line in
      let stop = granted.obeyed.ended (omega (arith, few, one)) last is_last in
      let close = reached last.cost last.bound wanted.gap
      (nat_le (last.cost - last.bound) wanted.gap) refl stop in
      let cost = last_cost_is in
      let bound = last_bound_is in
      omega (arith, close, cost, bound)

  pub settled : 2 ≤ length lines → AreSettled net wanted.weights routes
  settled two = granted.allocation.allocated.cost.settled (omega (arith, two))

  pub some_stage : 1 ≤ length granted.allocation.stages
  some_stage =
      let many = are_lines.many in
      let some = some_line in
      omega (arith, many, some)

  come : ComeFromStages net wanted.weights granted.allocation.stages lines
  come =
      let stages = granted.allocation.stages in
      let are = granted.allocation.allocated.are_stages in
      record {
        chain = are_a_chain net wanted.weights stages are some_stage;
        ascent = are_an_ascent net wanted.weights stages are some_stage;
        are_stages = are;
        many = sym are_lines.many;
        bounds = λ k line there.
            ((are_lines.each k line there).prices, (are_lines.each k line there).bound);
      }

  laid_by : WereLaidBy net wanted.weights granted.allocation.stages lines
  laid_by = record {
    chain = come.chain;
    laid = λ k line some there. (are_lines.each k line there).tried some;
  }

  pub from_prices : ComeFromPrices net wanted.weights lines
  from_prices = record { stages = granted.allocation.stages; come = come }

  pub laid : WereLaid net wanted.weights lines
  laid = record { stages = granted.allocation.stages; laid = laid_by }

  pub one_chain : HaveOneChain net wanted.weights lines
  one_chain = record { stages = granted.allocation.stages; come = come; laid = laid_by }

  pub went_on : (k : ℕ) (line : Line) → k + 1 < length lines → slice_get lines k ≡ Some line →
      verdict_of wanted.gap line ≡ Go
  went_on k line inside there =
      let one = one_long lines some_line in
      granted.obeyed.went_on.went k line (omega (arith, one)) inside there

-- ---- of a procedure

pub last_cost_carried : (wanted : Wanted) (p : ℕ) (named : NamedCode) (out : ProcOut)
    (c : Carriage) → IsProcOut wanted p named out c → last_cost out.lines ≡
    cost_of c.net wanted.weights (flow c.net c.routes)
last_cost_carried wanted p named out c is =
    last_cost_of wanted c.net out.routes out.prices out.lines is.allocated
    ∙ ap (λ (rs : Routes). cost_of c.net wanted.weights (flow c.net rs)) (sym is.routes)

pub bound_holds : (wanted : Wanted) (p : ℕ) (named : NamedCode) (out : ProcOut) (c : Carriage)
    (k : ℕ) (line : Line) (f : List Edge) →
    IsProcOut wanted p named out c → slice_get out.lines k ≡ Some line → IsAdmitted c.net f →
    line.bound ≤ cost_of c.net wanted.weights f
bound_holds wanted p named out c k line f is there a =
    no_flow_less wanted c.net out.routes out.prices out.lines is.allocated k line f there a
