-- How many rounds a watch let go, round by round.
use Rattle.std.proofs.Common.{◌≡◌, ℕ, ◌+◌, ◌-◌, ◌<◌, ◌≤◌, ◌⊎◌, ⊎_elim, List, []}
use Rattle.std.proofs.Common.{◌∷◌, ◌++◌, length, Some, refl, sym, subst, ◌∙◌, arith}
use Rattle.std.specs.Prelude.{slice_get}
use Rattle.std.proofs.lemmas.List.{length_push, take-append-le}
use Rattle.std.proofs.Math.Seq.{take-length}
use Rattle.net_form.specs.declared.prices.Line.{Line}
use Rattle.al_round.specs.Watches.{WentOn, WasObeyed, verdict_of}
use Rattle.al_round.specs.declared.watch.Verdict.{Verdict}
use Rattle.al_round.specs.declared.watch.Verdict.TheVariants.{Go, Stop}
use Rattle.al_round.proofs.Grown.{got_before, got_one}

-- who does not stop goes on
pub goes_on : (v : Verdict) → (v ≡ Stop → ⊥) → v ≡ Go
goes_on Go no_stop = refl
goes_on Stop no_stop = absurd (no_stop refl)

module _ (gap n : ℕ) (old : List Line) where
  pub went_none : WentOn gap n old old
  went_none = record {
    more = 0;
    many = omega arith;
    most = omega arith;
    begins = take-length old;
    went = λ k line from to there. absurd (omega (arith, from, to));
  }

  module _ (new : List Line) (went : WentOn gap n old new) where
    module _ (last line : Line) (is_last : slice_get new (length new - 1) ≡ Some last)
        (go : verdict_of gap last ≡ Go) (few : length new < length old + n) where
      goes : (k : ℕ) (l : Line) → length old ≤ k + 1 → k + 1 < length (new ++ line ∷ [])
          → slice_get (new ++ line ∷ []) k ≡ Some l → verdict_of gap l ≡ Go
      goes k l from to there =
          let long = length_push new line in
          let here = got_before new line k l there (omega (arith, to, long)) in
          ⊎_elim (λ (lt : k + 1 < length new). went.went k l from lt here)
          (λ (e : k ≡ length new - 1). subst (λ m. verdict_of gap m ≡ Go)
          (got_one new k last l (subst (λ j. slice_get new j ≡ Some last) (sym e) is_last) here)
          go)
          (either k (omega (arith, to, long)))
        where
          either : (k : ℕ) → k < length new → (k + 1 < length new) ⊎ (k ≡ length new - 1)
          either k lt = grind arith

      pub went_more : WentOn gap n old (new ++ line ∷ [])
      went_more =
          let long = length_push new line in
          let many = went.many in
          let within : length old ≤ length new = omega (arith, many) in
          record {
            more = went.more + 1;
            many = omega (arith, long, many);
            most = omega (arith, many, few);
            begins = take-append-le (length old) new (line ∷ []) within ∙ went.begins;
            went = goes;
          }

    pub obeyed_stop : (last : Line) → slice_get new (length new - 1) ≡ Some last
        → verdict_of gap last ≡ Stop → WasObeyed gap n old new
    obeyed_stop last is_last stop = record {
      went_on = went;
      ended = λ few line there. subst (λ m. verdict_of gap m ≡ Stop)
          (got_one new (length new - 1) last line is_last there) stop;
    }

    pub obeyed_all : length new ≡ length old + n → WasObeyed gap n old new
    obeyed_all all = record {
      went_on = went;
      ended = λ few line there. absurd (omega (arith, all, few));
    }
