-- The least of going on from a place to any register but its own, or out of registers.
use Rattle.std.proofs.Common.{ℕ, ◌≡◌, ◌≢◌, ◌⊎◌, ◌<◌, ◌+◌, ℤ, ◌+ℤ◌, ◌≤ℤ◌, List, subst, sym, arith}
use Rattle.std.proofs.Common.{pos, inl, inr, ap, refl, ◌∙◌}
use Rattle.std.proofs.lemmas.Int.{ints}
use Rattle.net_path.specs.declared.crossbar.Steps.{Steps}
use Rattle.net_path.specs.declared.crossbar.Bests.{Bests}
use Rattle.net_path.specs.declared.crossbar.Onward.{Onward}
use Rattle.net_path.specs.Ways.{at, step_by, AreStepsWithin, AreBests, IsLeastOfFour, IsLeastWay}
use Rattle.net_path.specs.Ways.{IsLeastElsewhere, IsMet}
use Rattle.net_path.proofs.Classes.{Class, class_of}
use Rattle.net_path.proofs.Classes.Class.{alone, memory, constant, both}
use Rattle.net_path.proofs.Steps.{moved_within, moved_other, alone_alone, alone_both, alone_memory}
use Rattle.net_path.proofs.Steps.{both_alone, both_both, both_memory, memory_alone, memory_both}
use Rattle.net_path.proofs.Steps.{alone_constant, both_constant, constant_alone, constant_both}

-- to a class of places the way costs what is said of the class, but less to register r
pub record Bounds (way : ℕ → ℤ) (r : ℕ) (by : Onward) : Type 0 where
  pub to_alone : (s : ℕ) → s < 6 → way s ≤ℤ by.alone
  pub to_both : (s : ℕ) → s < 6 → way (8 + s) ≤ℤ by.both
  pub to_memory : way 6 ≡ by.memory
  pub to_constant : way 7 ≡ by.constant
  pub other_alone : (s : ℕ) → s < 6 → s ≢ r → way s ≡ by.alone
  pub other_both : (s : ℕ) → s < 6 → s ≢ r → way (8 + s) ≡ by.both

at_zero : (costs : List ℤ) (s : ℕ) → at costs (0 + s) ≡ at costs s
at_zero costs s = ap (λ (n : ℕ). at costs n) (omega arith)

module _ (way : ℕ → ℤ) (r : ℕ) (by : Onward) (costs : List ℤ) (bests : Bests)
    (bounds : Bounds way r by) (are : AreBests costs bests) where
  abbrev first : ℤ
  first = by.alone +ℤ bests.alone.cost

  abbrev second : ℤ
  second = by.both +ℤ bests.both.cost

  abbrev third : ℤ
  third = by.memory +ℤ bests.memory.cost

  abbrev fourth : ℤ
  fourth = by.constant +ℤ bests.constant.cost

  below : (z : ℤ) → IsLeastOfFour first second third fourth z → (q : ℕ) → Class q → q ≢ r
      → q ≢ 8 + r → z ≤ℤ (way q +ℤ at costs q)
  below z least q (alone s lt) apart other =
      let way_is = bounds.other_alone s lt apart in
      let cost = are.alone.below s lt in
      let same = at_zero costs s in
      let bound = least.first in
      omega (arith, ints, way_is, cost, same, bound)
  below z least q memory apart other = let m = least.third in let w = bounds.to_memory in
      let c = are.memory in omega (arith, ints, m, w, c)
  below z least q constant apart other = let m = least.fourth in let w = bounds.to_constant in
      let c = are.constant in omega (arith, ints, m, w, c)
  below z least q (both s lt) apart other =
      let way_is = bounds.other_both s lt (λ e. other (ap (λ (n : ℕ). 8 + n) e)) in
      let cost = are.both.below s lt in
      let bound = least.second in
      omega (arith, ints, way_is, cost, bound)

  met_first : IsMet way costs first
  met_first = record {
    place = are.alone.place;
    within = omega (arith, are.alone.within);
    met = let w = bounds.to_alone are.alone.place are.alone.within in let c = are.alone.met in
        let same = at_zero costs are.alone.place in omega (arith, ints, w, c, same);
  }

  met_second : IsMet way costs second
  met_second = record {
    place = 8 + are.both.place;
    within = omega (arith, are.both.within);
    met = let w = bounds.to_both are.both.place are.both.within in let c = are.both.met in
        omega (arith, ints, w, c);
  }

  met_third : IsMet way costs third
  met_third = record {
    place = 6;
    within = omega arith;
    met = let w = bounds.to_memory in let c = are.memory in omega (arith, ints, w, c);
  }

  met_fourth : IsMet way costs fourth
  met_fourth = record {
    place = 7;
    within = omega arith;
    met = let w = bounds.to_constant in let c = are.constant in omega (arith, ints, w, c);
  }

  met_of : (z : ℤ) → (z ≡ first) ⊎ (z ≡ second) ⊎ (z ≡ third) ⊎ (z ≡ fourth) → IsMet way costs z
  met_of z (inl e) = subst (λ (x : ℤ). IsMet way costs x) (sym e) met_first
  met_of z (inr (inl e)) = subst (λ (x : ℤ). IsMet way costs x) (sym e) met_second
  met_of z (inr (inr (inl e))) = subst (λ (x : ℤ). IsMet way costs x) (sym e) met_third
  met_of z (inr (inr (inr e))) = subst (λ (x : ℤ). IsMet way costs x) (sym e) met_fourth

  pub least_elsewhere : (z : ℤ) → IsLeastOfFour first second third fourth z
      → IsLeastElsewhere way r costs z
  least_elsewhere z least = record {
    below = λ q lt. below z least q (class_of q lt);
    met = met_of z least.met;
  }

-- no place is excluded
pub least_anywhere : (way : ℕ → ℤ) (costs : List ℤ) (z : ℤ) → IsLeastElsewhere way 14 costs z
    → IsLeastWay way costs z
least_anywhere way costs z least = record {
  below = λ q lt. least.below q lt
      (λ e. absurd (omega arith)) (λ e. absurd (omega arith));
  met = least.met;
}

module _ (steps : Steps) (within : AreStepsWithin steps) where
  pub alone_bounds : (r : ℕ) → r < 6 → Bounds (step_by steps r) r steps.alone
  alone_bounds r lr = record {
    to_alone = λ s ls. let e = alone_alone steps r s lr ls in
        let m = moved_within r s (pos 0 +ℤ pos 0) steps.alone.alone within.alone.alone.0 in
        omega (arith, ints, e, m);
    to_both = λ s ls. let e = alone_both steps r s lr ls in
        let less = within.kept_less in
        let m = moved_within r s (steps.kept +ℤ pos 0) steps.alone.both
        (omega (arith, ints, less)) in omega (arith, ints, e, m);
    to_memory = alone_memory steps r lr;
    to_constant = alone_constant steps r lr;
    other_alone = λ s ls ne. alone_alone steps r s lr ls
        ∙ moved_other r s (pos 0 +ℤ pos 0) steps.alone.alone (λ e. ne (sym e));
    other_both = λ s ls ne. alone_both steps r s lr ls
        ∙ moved_other r s (steps.kept +ℤ pos 0) steps.alone.both (λ e. ne (sym e));
  }

  pub both_bounds : (r : ℕ) → Bounds (step_by steps (8 + r)) r steps.both
  both_bounds r = record {
    to_alone = λ s ls. let e = both_alone steps r s ls in
        let less = within.left_less in
        let m = moved_within r s (pos 0 +ℤ steps.left) steps.both.alone
        (omega (arith, ints, less)) in omega (arith, ints, e, m);
    to_both = λ s ls. let e = both_both steps r s in
        let m = moved_within r s (pos 0 +ℤ pos 0) steps.both.both within.both.both.0 in
        omega (arith, ints, e, m);
    to_memory = both_memory steps r;
    to_constant = both_constant steps r;
    other_alone = λ s ls ne. both_alone steps r s ls
        ∙ moved_other r s (pos 0 +ℤ steps.left) steps.both.alone (λ e. ne (sym e));
    other_both = λ s ls ne. both_both steps r s
        ∙ moved_other r s (pos 0 +ℤ pos 0) steps.both.both (λ e. ne (sym e));
  }

  pub memory_bounds : (r : ℕ) → Bounds (step_by steps 6) r steps.memory
  memory_bounds r = record {
    to_alone = λ s ls. let e = memory_alone steps s ls in omega (arith, ints, e);
    to_both = λ s ls. let e = memory_both steps s in omega (arith, ints, e);
    to_memory = refl;
    to_constant = refl;
    other_alone = λ s ls ne. memory_alone steps s ls;
    other_both = λ s ls ne. memory_both steps s;
  }

  pub constant_bounds : (r : ℕ) → Bounds (step_by steps 7) r steps.constant
  constant_bounds r = record {
    to_alone = λ s ls. let e = constant_alone steps s ls in omega (arith, ints, e);
    to_both = λ s ls. let e = constant_both steps s in omega (arith, ints, e);
    to_memory = refl;
    to_constant = refl;
    other_alone = λ s ls ne. constant_alone steps s ls;
    other_both = λ s ls ne. constant_both steps s;
  }
