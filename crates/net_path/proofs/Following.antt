-- A path that goes on to a best place at each layer.
use Rattle.std.proofs.Common.{ℕ, suc, ◌≡◌, ◌<◌, ◌+◌, ◌%◌, ℤ, ◌+ℤ◌, List, ◌∷◌, ◌++◌, length, take}
use Rattle.std.proofs.Common.{set, Some, None, IsTrue, refl, sym, subst, ap, ◌∙◌, inl, inr, arith}
use Rattle.std.proofs.Common.{add-one, append_assoc}
use Rattle.std.proofs.lemmas.Int.{ints}
use Rattle.std.proofs.Math.Seq.{take-suc-set}
use Rattle.pra_base.specs.declared.ids.Place.{Place}
use Rattle.pra_base.specs.Places.{number}
use Rattle.pra_base.proofs.PlaceNumbers.{number_below}
use Rattle.net_form.proofs.PlaceEquality.{same_place-refl}
use Rattle.net_path.specs.declared.crossbar.Ways.{Ways}
use Rattle.net_path.specs.declared.path.Choice.{Choice}
use Rattle.net_path.specs.Ways.{at, step_price}
use Rattle.net_path.specs.Rests.{Terrain, IsLowest, AreBest}
use Rattle.net_path.specs.Rows.{IsGround}
use Rattle.net_path.specs.Choices.{IsBestChoice, IsBestPlace, IsGoodStart}
use Rattle.net_path.proofs.Within.{parity}
use Rattle.net_path.proofs.Backward.{stays_best}

pub place_of_best : (way : ℕ → ℤ) (costs : List ℤ) (c : Choice) → IsBestChoice way costs 14 c
    → IsBestPlace way costs c.place
place_of_best way costs c best = record {
  below = λ k lt. let b = best.below k lt in let is = best.is in omega (arith, ints, b, is);
}

module _ (ways : Ways) (first n : ℕ) (t : Terrain) (ground : IsGround (step_price ways) first n t)
    (row : ℕ → List ℤ) (k : ℕ) (from next : Place) where
  abbrev Goes : Type 0
  Goes = IsTrue (t.may_come k (Some from) next)
      × IsLowest t k (Some from) (row k) (t.way k (Some from) next +ℤ at (row k) (number next))

  goes_across : (first + k) % 2 ≡ 0 → next ≡ from → Goes
  goes_across even same =
      let comes = (ground.across k from from even).0 ∙ same_place-refl from in
      let way = (ground.across k from from even).1 in
      let best = stays_best (step_price ways) first n t ground k (row k) from even in
      let is : at (row k) (number from) ≡ t.way k (Some from) from +ℤ at (row k) (number from) =
      omega (arith, ints, way) in
      subst (λ (q : Place). IsTrue (t.may_come k (Some from) q) × IsLowest t k (Some from) (row k)
      (t.way k (Some from) q +ℤ at (row k) (number q))) (sym same)
      (comes, subst (λ (z : ℤ). IsLowest t k (Some from) (row k) z) is best)

  goes_over : (first + k) % 2 ≡ 1 → IsBestPlace (step_price ways (number from)) (row k) next → Goes
  goes_over odd best =
      let way = (ground.crossbar k from next odd).1 in (
        (ground.crossbar k from next odd).0,
        record {
          below = λ q comes. let other = (ground.crossbar k from q odd).1 in
              let b = best.below (number q) (number_below q) in omega (arith, ints, way, other, b);
          met = record {
            place = next;
            comes = (ground.crossbar k from next odd).0;
            met = omega (arith, ints);
          };
        },
      )

  pub goes_on : ((first + k) % 2 ≡ 0 → next ≡ from)
      → ((first + k) % 2 ≡ 1 → IsBestPlace (step_price ways (number from)) (row k) next)
      → (rest : List Place) → AreBest t row (suc k) (Some next) rest
      → AreBest t row k (Some from) (next ∷ rest)
  goes_on across crossbar rest follows =
      elim (parity (first + k)) as (λ _. AreBest t row k (Some from) (next ∷ rest)) [
        | inl even ↦ let g = goes_across even (across even) in (g.0, g.1, follows)
        | inr odd ↦ let g = goes_over odd (crossbar odd) in (g.0, g.1, follows)
      ]

pub begins : (t : Terrain) (row : ℕ → List ℤ) (start : Place) (rest : List Place)
    → IsGoodStart t (row 0) start → AreBest t row 1 (Some start) rest
    → AreBest t row 0 None (start ∷ rest)
begins t row start rest good follows = (good.comes, good.best, follows)

pub put_behind : (path : List Place) (i : ℕ) (q : Place) (rest : List Place) → i < length path
    → take (i + 1) (set path i q) ++ rest ≡ take i path ++ (q ∷ rest)
put_behind path i q rest lt = rw (add-one i, take-suc-set path i q lt, append_assoc) refl

pub put_first : (path rest : List Place) (q : Place) → 0 < length path
    → take 1 (set path 0 q) ++ rest ≡ q ∷ rest
put_first path rest q lt = ap (λ (ps : List Place). ps ++ rest) (take-suc-set path 0 q lt)
