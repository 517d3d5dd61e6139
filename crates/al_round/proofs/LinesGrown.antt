-- The first line of rounds, and one line more.
use Rattle.std.proofs.Common.{◌≡◌, ℕ, suc, ◌-◌, ◌<◌, ◌≤◌, ⊎_elim, List, []}
use Rattle.std.proofs.Common.{◌∷◌, ◌++◌, length, Some, sym, subst, arith}
use Rattle.std.specs.Prelude.{slice_get}
use Rattle.std.proofs.lemmas.List.{length_push}
use Rattle.std.proofs.lemmas.Option.{slice_get_within}
use Rattle.pra_list.proofs.Elements.{got_front, got_last}
use Rattle.net_cost.specs.declared.weights.Weights.{Weights}
use Rattle.net_form.specs.declared.net.Net.{Net}
use Rattle.net_form.specs.declared.prices.Line.{Line}
use Rattle.al_round.specs.Lines.{AreLines, IsLine}
use Rattle.al_round.specs.Stages.{Stage}
use Rattle.al_round.proofs.Grown.{got_more, got_one, greatest_stays}

-- ---- one more

pub one_less : {A : Type 0} (xs : List A) (x : A) → length (xs ++ x ∷ []) - 1 ≡ length xs
one_less xs x =
    let long = length_push xs x in
    omega (arith, long)

pub last_of_more : {A : Type 0} (xs : List A) (x : A)
    → slice_get (xs ++ x ∷ []) (length (xs ++ x ∷ []) - 1) ≡ Some x
last_of_more xs x = subst (λ n. slice_get (xs ++ x ∷ []) n ≡ Some x) (sym (one_less xs x))
    (got_last xs x [])

module _ (net : Net) (w : Weights) (stages : List Stage) (t : Stage) where
  abbrev more : List Stage
  more = stages ++ t ∷ []

  line_stays : (k : ℕ) (line : Line) → k < length stages → IsLine net w stages k line
      → IsLine net w more k line
  line_stays k line lt is = record {
    number = is.number;
    routes = is.routes;
    cost = is.cost;
    prices = is.prices;
    bound = record {
      value = is.bound.value;
      greatest = greatest_stays stages t k is.prices is.bound.value lt is.bound.greatest;
      rounded = is.bound.rounded;
    };
    holds = is.holds;
    within = is.within;
    tried = λ some.
        let was = is.tried some in
        record {
          stage = was.stage;
          there = got_front stages (t ∷ []) k was.stage was.there;
          tried = was.tried;
          is = was.is;
        };
  }

  module _ (lines : List Line) (old : AreLines net w stages lines) (last line : Line)
      (at_last : slice_get lines (length lines - 1) ≡ Some last)
      (new : IsLine net w more (length lines) line) (less : line.cost ≤ last.cost)
      (above : last.bound ≤ line.bound) where
    -- of two lines one after the other the second is an old one, or the new one behind the last
    following : (P : Line → Line → Type 0) (k : ℕ) (l m : Line)
        → slice_get (lines ++ line ∷ []) k ≡ Some l
        → slice_get (lines ++ line ∷ []) (suc k) ≡ Some m
        → (slice_get lines k ≡ Some l → slice_get lines (suc k) ≡ Some m → P l m) → P last line
        → P l m
    following P k l m one two both end = ⊎_elim
        (λ e. both (before e) e)
        (λ e. subst (P l) e.1 (subst (λ n. P n line) (is_last e.0) end))
        (got_more lines line (suc k) m two)
      where
        before : slice_get lines (suc k) ≡ Some m → slice_get lines k ≡ Some l
        before e = ⊎_elim (λ f. f)
            (λ f.
            let lt = slice_get_within lines (suc k) m e in
            let at = f.0 in
            absurd (omega (arith, lt, at)))
            (got_more lines line k l one)

        is_last : suc k ≡ length lines → last ≡ l
        is_last at = ⊎_elim
            (λ f. got_one lines k last l
            (subst (λ n. slice_get lines n ≡ Some last) (omega (arith, at)) at_last) f)
            (λ f.
            let past = f.0 in
            absurd (omega (arith, past, at)))
            (got_more lines line k l one)

    pub lines_more : AreLines net w more (lines ++ line ∷ [])
    lines_more =
        let long = length_push lines line in
        let stages_long = length_push stages t in
        let many = old.many in
        record {
          many = omega (arith, long, stages_long, many);
          some = omega (arith, long);
          each = λ k l there. ⊎_elim
              (λ e.
              let lt = slice_get_within lines k l e in
              line_stays k l (omega (arith, lt, many)) (old.each k l e))
              (λ e. subst (IsLine net w more k) e.1
              (subst (λ n. IsLine net w more n line) (sym e.0) new))
              (got_more lines line k l there);
          costs = λ k l m one two. following (λ a b. b.cost ≤ a.cost) k l m one two
              (old.costs k l m) less;
          bounds = λ k l m one two. following (λ a b. a.bound ≤ b.bound) k l m one two
              (old.bounds k l m) above;
        }
