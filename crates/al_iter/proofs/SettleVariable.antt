-- Other paths for the strands of a variable, put past the marks of all others.
use Rattle.std.proofs.Common.{ℕ, ◌≡◌, ◌+◌, ◌*◌, ◌<◌, Bool, true, false, not, cond, List, []}
use Rattle.std.proofs.Common.{length, get_or, take, pos, ◌≤ℤ◌, ◌<ℤ◌, sum_by, refl, sym, ap, ◌∙◌}
use Rattle.std.proofs.Common.{arith, inl, inr, All}
use Rattle.std.specs.Prelude.{◌||◌, nat_eq}
use Rattle.std.specs.List.{range_with_len}
use Rattle.std.proofs.lemmas.Int.{ints}
use Rattle.std.proofs.lemmas.Bool.{cases_eq, cases_lt, eq-eqb, ne_eqb}
use Rattle.std.proofs.lemmas.List.{get_or_past, take_all}
use Rattle.std.proofs.lemmas.List.FromFn.{length-range_with_len, get_or-range_with_len}
use Rattle.pra_base.specs.declared.ids.Place.{Place}
use Rattle.net_cost.specs.declared.weights.Weights.{Weights}
use Rattle.net_form.specs.declared.net.Net.{Net}
use Rattle.net_form.specs.declared.routes.Routes.{Routes}
use Rattle.net_form.specs.declared.taken.Taken.{Taken}
use Rattle.net_form.specs.Admitted.{IsAdmitted, uses_bundle, uses_memory}
use Rattle.net_form.specs.Cost.{cost_of}
use Rattle.net_form.specs.Flow.{Edge, flow, AreRoutes}
use Rattle.net_form.specs.InUse.{StandsFor, pair_at}
use Rattle.net_form.specs.Tables.{all_tables}
use Rattle.net_form.proofs.EdgeCosts.{cost_by_edges}
use Rattle.net_form.proofs.RoutesConserve.{as_many}
use Rattle.net_form.proofs.TakenFlows.{apart_from_nothing, nothing_from_apart}
use Rattle.net_laws.specs.Built.{IsBuilt}
use Rattle.net_dual.specs.Paths.{path_edges, path_in}
use Rattle.net_dual.specs.Priced.{pay, cost_by_weights}
use Rattle.net_dual.proofs.FreeBound.{free_path}
use Rattle.net_dual.proofs.Totals.{total-agree, total-scale}
use Rattle.al_laws.specs.Parts.{rest, of_variable, with_path, AgreeBut}
use Rattle.al_laws.specs.Settled.{variable_price, NoneCheaperAt}
use Rattle.al_laws.proofs.Parts.{path_sum, own_sum, part_sum, flow_sum, rest_agrees, sum_by-agree}
use Rattle.al_laws.proofs.Parts.{numbers}
use Rattle.al_laws.proofs.Variable.{variable_put}
use Rattle.al_iter.specs.SettleState.{among, AreStrandsOf, AreOfOne}
use Rattle.al_iter.specs.SettleSums.{MayGoTied, PayAtLeast, IsDraft, free_price, sum_of}
use Rattle.al_iter.proofs.SettleMarks.{marks_agree}
use Rattle.al_iter.proofs.SettleRows.{there, elsewhere}
use Rattle.al_iter.proofs.SettleShut.{total_positive, pay_partly}
use Rattle.al_iter.proofs.SettleSums.{pays_something, among_take, of_each, is_among}
use Rattle.al_iter.proofs.SettleSums.{sum_of_variable}

-- ---- one more path written

module _ (net : Net) (routes draft : Routes) (has : AreRoutes net routes) (strands : List ℕ) (i : ℕ)
    (lt : i < length strands) (in_ : get_or strands i 0 < length net.strands) where
  abbrev this : ℕ
  this = get_or strands i 0

  or_left : (a b : Bool) → b ≡ false → (a || b) ≡ a
  or_left true b h = refl
  or_left false b h = h

  or_right : (a b : Bool) → b ≡ true → (a || b) ≡ true
  or_right true b h = refl
  or_right false b h = h

  pub written_more : ((s : ℕ) → among (take i strands) s ≡ true → path_in routes s ≡
      path_in draft s)
      → (s : ℕ) → among (take (i + 1) strands) s ≡ true
      → path_in (with_path routes this (path_in draft this)) s ≡ path_in draft s
  written_more mine s is = elim (cases_eq s this)
      as (λ _. path_in (with_path routes this (path_in draft this)) s ≡ path_in draft s) [
        | inl same ↦ ap (path_in (with_path routes this (path_in draft this))) same
            ∙ there net routes has this in_ (path_in draft this) ∙ ap (path_in draft) (sym same)
        | inr other ↦ elsewhere net routes has this in_ (path_in draft this) s other
            ∙ mine s (sym (among_take strands i s lt
            ∙ or_left (among (take i strands) s) (nat_eq s this) (ne_eqb s this other)) ∙ is)
      ]

  pub written_less : (was : Routes)
      → ((s : ℕ) → among (take i strands) s ≡ false → path_in routes s ≡ path_in was s)
      → (s : ℕ) → among (take (i + 1) strands) s ≡ false
      → path_in (with_path routes this (path_in draft this)) s ≡ path_in was s
  written_less was others s is = elim (cases_eq s this)
      as (λ _. path_in (with_path routes this (path_in draft this)) s ≡ path_in was s) [
        | inl same ↦ absurd (true_false (sym (among_take strands i s lt
            ∙ or_right (among (take i strands) s) (nat_eq s this) (eq-eqb s this same)) ∙ is))
        | inr other ↦ elsewhere net routes has this in_ (path_in draft this) s other
            ∙ others s (sym (among_take strands i s lt
            ∙ or_left (among (take i strands) s) (nat_eq s this) (ne_eqb s this other)) ∙ is)
      ]
    where
      true_false : true ≡ false → ⊥
      true_false e = cc

-- ---- what they pay

module _ (net : Net) (w : Weights) (strands : List ℕ) (one : AreOfOne net strands) where
  abbrev v : ℕ
  v = one.variable

  abbrev cost : Edge → ℕ
  cost = cost_by_weights net w

  pub price_is : (routes : Routes) → variable_price net w routes v ≡ sum_of net w routes strands
  price_is routes = sum_of_variable net v strands one.are
      (λ s. free_price net w s (path_in routes s))

  sum_is : (routes : Routes) → sum_of net w routes strands
      ≡ pos (1024 * own_sum net (of_variable net v) cost routes (numbers net routes))
  sum_is routes = sym (price_is routes)
      ∙ total-agree (λ s. pay (of_variable net v s) (free_price net w s (path_in routes s)))
      (λ s. pos (1024 * cond (of_variable net v s) (path_sum net cost routes s) 0))
      (numbers net routes)
      (λ k d lt. row (of_variable net v (get_or (numbers net routes) k d))
      (get_or (numbers net routes) k d))
      ∙ total-scale (λ s. cond (of_variable net v s) (path_sum net cost routes s) 0)
      (numbers net routes)
    where
      row : (b : Bool) (s : ℕ) → pay b (free_price net w s (path_in routes s))
          ≡ pos (1024 * cond b (path_sum net cost routes s) 0)
      row true s = free_path net cost s (path_in routes s)
      row false s = refl

  cost_both : (routes : Routes) → AreRoutes net routes → cost_of net w (flow net routes)
      ≡ own_sum net (of_variable net v) cost routes (numbers net routes)
      + sum_by cost (rest net (of_variable net v) routes)
  cost_both routes has =
      let all = cost_by_edges all_tables net w (flow net routes) in
      let both = flow_sum net routes (of_variable net v) cost in
      let own = part_sum net routes has (of_variable net v) cost in
      omega (arith, all, both, own)

  pub lower_cost : (old new : Routes) → AreRoutes net old → AreRoutes net new
      → AgreeBut (of_variable net v) new old → sum_of net w new strands <ℤ sum_of net w old strands
      → cost_of net w (flow net new) < cost_of net w (flow net old)
  lower_cost old new has goes agree less =
      let a = sum_is old in
      let b = sum_is new in
      let c = cost_both old has in
      let d = cost_both new goes in
      let same = rest_agrees net (of_variable net v) new old goes has agree cost in
      omega (arith, ints, less, a, b, c, d, same)

  -- ---- none is cheaper

  to_rest : (routes : Routes) → AreRoutes net routes → (h : Edge → ℕ)
      → sum_by h (rest net (among strands) routes) ≡ sum_by h (rest net (of_variable net v) routes)
  to_rest routes has h = part_sum net routes has (λ s. not (among strands s)) h
      ∙ sum_by-agree (λ s. cond (not (among strands s)) (path_sum net h routes s) 0)
      (λ s. cond (not (of_variable net v s)) (path_sum net h routes s) 0) (numbers net routes)
      (λ k d lt.
      let long = length-range_with_len 0 (length net.strands) in
      let in_ : k < length net.strands = omega (arith, lt, long) in
      let at = get_or-range_with_len 0 (length net.strands) k d in_ in
      let s = get_or (numbers net routes) k d in
      ap (λ b. cond (not b) (path_sum net h routes s) 0)
      (sym (one.are.each s (omega (arith, at, in_)))))
      ∙ sym (part_sum net routes has (λ s. not (of_variable net v s)) h)

  pub marks_of_variable : (routes : Routes) → AreRoutes net routes → (t : Taken)
      → StandsFor net t (rest net (among strands) routes)
      → StandsFor net t (rest net (of_variable net v) routes)
  marks_of_variable routes has t stands = record {
    registers = λ n r.
        let same = to_rest routes has (λ e. cond (uses_bundle net n r e) 1 0) in
        let was = stands.registers n r in
        omega (arith, same, was);
    pairs = λ k in_.
        let same = to_rest routes has (λ e. cond (uses_memory (pair_at net k) e) 1 0) in
        let was = stands.pairs k in_ in
        omega (arith, same, was);
  }

  pub none_at : (routes : Routes) → AreRoutes net routes → (t : Taken)
      → StandsFor net t (rest net (among strands) routes) → (p : Place)
      → PayAtLeast net w t strands p (sum_of net w routes strands)
      → NoneCheaperAt net w routes v p
  none_at routes has t stands p pay_ = record {
    costs = pay_.costs;
    least = λ s ps lt is goes.
        of_each (λ s. (ps : List Place) → MayGoTied net t p s ps
        → pay_.costs s ≤ℤ free_price net w s ps) strands pay_.least s (sym (one.are.each s lt) ∙ is)
        ps (record {
          path = goes.path;
          has_ends = goes.has_ends;
          is_clear = nothing_from_apart net t (path_edges net s ps)
              (rest net (of_variable net v) routes) (marks_of_variable routes has t stands)
              goes.is_clear;
        });
    in_sum =
        let sum = pay_.in_sum in
        let now = price_is routes in
        let all = sum_of_variable net v strands one.are pay_.costs in
        omega (arith, ints, sum, now, all);
  }

-- they pay something, and in two ways the same where they go the same way
pub sum_positive : (net : Net) (w : Weights) (routes : Routes) (strands : List ℕ)
    → pos 0 ≤ℤ sum_of net w routes strands
sum_positive net w routes strands = total_positive
    (λ s. free_price net w s (path_in routes s)) strands
    (λ s. pays_something net w s (path_in routes s))

pub sum_same : (net : Net) (w : Weights) (one two : Routes) (strands : List ℕ)
    → ((s : ℕ) → among strands s ≡ true → path_in one s ≡ path_in two s)
    → sum_of net w one strands ≡ sum_of net w two strands
sum_same net w one two strands same = total-agree
    (λ s. free_price net w s (path_in one s)) (λ s. free_price net w s (path_in two s)) strands
    (λ k d lt. ap (free_price net w (get_or strands k d))
    (same (get_or strands k d) (is_among strands k d lt)))

-- what all of them pay, each by a least path, they pay at least
pub pay_all : (net : Net) (w : Weights) (t : Taken) (strands : List ℕ) (p : Place) (draft : Routes)
    → All (IsDraft net w t p draft) strands
    → PayAtLeast net w t strands p (sum_of net w draft strands)
pay_all net w t strands p draft drafts = pay_partly net w t strands p draft (length strands)
    (sum_of net w draft strands) (omega arith) (λ k lt. drafts k 0 lt)
    (let all = ap (sum_of net w draft) (take_all (length strands) strands (omega arith)) in
    omega (arith, ints, all))

-- a variable that pays nothing has nothing cheaper
pub nothing_at : (net : Net) (w : Weights) (strands : List ℕ) (v : ℕ) (routes : Routes)
    → AreStrandsOf net v strands → sum_of net w routes strands ≡ pos 0 → (p : Place)
    → NoneCheaperAt net w routes v p
nothing_at net w strands v routes are none p = record {
  costs = λ s. pos 0;
  least = λ s ps lt is goes. pays_something net w s ps;
  in_sum =
      let now = sum_of_variable net v strands are (λ s. free_price net w s (path_in routes s)) in
      let all = total_positive (λ s. pay (of_variable net v s) (pos 0))
      (range_with_len 0 (length net.strands)) (λ s. zero_pay (of_variable net v s)) in
      omega (arith, ints, none, now, all);
}
  where
    zero_pay : (b : Bool) → pos 0 ≤ℤ pay b (pos 0)
    zero_pay true = omega (arith, ints)
    zero_pay false = omega (arith, ints)

-- ---- other paths for them

module _ (net : Net) (built : IsBuilt net) (strands : List ℕ) (one : AreOfOne net strands)
    (routes new : Routes) (has : AreRoutes net routes) (goes : AreRoutes net new)
    (others : (s : ℕ) → among strands s ≡ false → path_in new s ≡ path_in routes s) where
  pub agree_of_variable : AgreeBut (of_variable net one.variable) new routes
  agree_of_variable s other = elim (cases_lt s (length net.strands))
      as (λ _. path_in new s ≡ path_in routes s) [
        | inl lt ↦ others s (sym (one.are.each s lt) ∙ other)
        | inr le ↦
            let a = as_many net.strands routes.places has in
            let b = as_many net.strands new.places goes in
            get_or_past new.places s [] (omega (arith, le, b))
            ∙ sym (get_or_past routes.places s [] (omega (arith, le, a)))
      ]

  pub marks_stay : (t : Taken) → StandsFor net t (rest net (among strands) routes)
      → StandsFor net t (rest net (among strands) new)
  marks_stay t stands = marks_agree net (among strands) routes new has goes
      (λ s other. sym (others s other)) t stands

  pub put_strands : (w : Weights) → IsAdmitted net (flow net routes) → (t : Taken) (p : Place)
      → StandsFor net t (rest net (among strands) routes)
      → ((s : ℕ) → among strands s ≡ true → MayGoTied net t p s (path_in new s))
      → IsAdmitted net (flow net new)
  put_strands w a t p stands may =
      let v = one.variable in
      let marks = marks_of_variable net w strands one routes has t stands in
      let goes_ : (s : ℕ) → s < length net.strands → of_variable net v s ≡ true
      → MayGoTied net t p s (path_in new s)
      = λ s lt is. may s (sym (one.are.each s lt) ∙ is) in
      variable_put net built v routes new has goes agree_of_variable p a
      (λ s lt is. (goes_ s lt is).has_ends) (λ s lt is. (goes_ s lt is).path)
      (λ s lt is. apart_from_nothing net t (path_edges net s (path_in new s))
      (rest net (of_variable net v) routes) marks (goes_ s lt is).is_clear)
