-- What the steps between places of two classes cost.
use Rattle.std.proofs.Common.{ℕ, ◌≡◌, ◌≢◌, ◌<◌, ◌+◌, ◌*◌, ◌++◌, List, Bool, true, false, ℤ, pos}
use Rattle.std.proofs.Common.{◌+ℤ◌, ◌≤ℤ◌, cond, not, eqb, arith, refl, sym, ap, ◌∙◌, [], ◌∷◌, ◌&&◌}
use Rattle.std.proofs.lemmas.Int.{ints}
use Rattle.std.proofs.lemmas.Bool.{eq-eqb, ne_eqb}
use Rattle.std.proofs.lemmas.Bool.Decides.{nat_tests}
use Rattle.std.proofs.lemmas.List.Sums.{sum_by-append}
use Rattle.pra_base.specs.Places.{has_register, register_of, needs_slot}
use Rattle.pl_moves.specs.Crossbar.{only_if, brings, register_event, load_event, store_event}
use Rattle.pl_moves.specs.Crossbar.{constant_event}
use Rattle.net_cost.specs.declared.weights.Weights.{Weights}
use Rattle.net_cost.specs.Weights.{weight_at}
use Rattle.net_form.specs.Cost.{events_weight}
use Rattle.net_path.specs.declared.crossbar.Onward.{Onward}
use Rattle.net_path.specs.declared.crossbar.Steps.{Steps}
use Rattle.net_path.specs.declared.crossbar.Ways.{Ways}
use Rattle.net_path.specs.Ways.{step_price, way_price, event_price, AreWays}
use Rattle.net_path.specs.Ways.{IsShort, IsOnward, AreStepsWithin, step_by, stays, staying, onward}
use Rattle.net_path.specs.Ways.{onward_from, IsFromAlone, IsFromBoth, IsFromMemory, IsFromConstant}
use Rattle.net_path.specs.Ways.{IsToAlone, IsToBoth, IsToMemory, IsToConstant}
use Rattle.net_path.proofs.Classes.{alone_has, alone_slot, alone_register, both_has, both_slot}
use Rattle.net_path.proofs.Classes.{both_register}

-- from a register to a register
abbrev pub moved : ℕ → ℕ → ℤ → ℤ → ℤ
moved r s kept other = cond (eqb r s) kept other

module _ (steps : Steps) where
  pub alone_alone : (r s : ℕ) → r < 6 → s < 6
      → step_by steps r s ≡ moved r s (pos 0 +ℤ pos 0) steps.alone.alone
  alone_alone r s lr ls = rw (
    alone_has s ls,
    alone_slot s ls,
    alone_has r lr,
    alone_slot r lr,
    alone_register r lr,
    alone_register s ls,
  ) refl

  pub alone_both : (r s : ℕ) → r < 6 → s < 6
      → step_by steps r (8 + s) ≡ moved r s (steps.kept +ℤ pos 0) steps.alone.both
  alone_both r s lr ls = rw (
    both_has s,
    both_slot s,
    alone_slot r lr,
    alone_has r lr,
    alone_register r lr,
    both_register s,
  ) refl

  pub alone_memory : (r : ℕ) → r < 6 → step_by steps r 6 ≡ steps.alone.memory
  alone_memory r lr = rw (alone_slot r lr, alone_has r lr) refl

  pub alone_constant : (r : ℕ) → r < 6 → step_by steps r 7 ≡ steps.alone.constant
  alone_constant r lr = rw (alone_slot r lr, alone_has r lr) refl

  pub both_alone : (r s : ℕ) → s < 6
      → step_by steps (8 + r) s ≡ moved r s (pos 0 +ℤ steps.left) steps.both.alone
  both_alone r s ls = rw (
    alone_has s ls,
    alone_slot s ls,
    both_has r,
    both_slot r,
    both_register r,
    alone_register s ls,
  ) refl

  pub both_both : (r s : ℕ)
      → step_by steps (8 + r) (8 + s) ≡ moved r s (pos 0 +ℤ pos 0) steps.both.both
  both_both r s =
      rw (both_has s, both_slot s, both_slot r, both_has r, both_register r, both_register s) refl

  pub both_memory : (r : ℕ) → step_by steps (8 + r) 6 ≡ steps.both.memory
  both_memory r = rw (both_slot r, both_has r) refl

  pub both_constant : (r : ℕ) → step_by steps (8 + r) 7 ≡ steps.both.constant
  both_constant r = rw (both_slot r, both_has r) refl

  pub memory_alone : (s : ℕ) → s < 6 → step_by steps 6 s ≡ steps.memory.alone
  memory_alone s ls = rw (alone_has s ls, alone_slot s ls) refl

  pub memory_both : (s : ℕ) → step_by steps 6 (8 + s) ≡ steps.memory.both
  memory_both s = rw (both_has s, both_slot s) refl

  pub constant_alone : (s : ℕ) → s < 6 → step_by steps 7 s ≡ steps.constant.alone
  constant_alone s ls = rw (alone_has s ls, alone_slot s ls) refl

  pub constant_both : (s : ℕ) → step_by steps 7 (8 + s) ≡ steps.constant.both
  constant_both s = rw (both_has s, both_slot s) refl

pub moved_same : (r : ℕ) (kept other : ℤ) → moved r r kept other ≡ kept
moved_same r kept other = rw (eq-eqb r r refl) refl

pub moved_within : (r s : ℕ) (kept other : ℤ) → kept ≤ℤ other → moved r s kept other ≤ℤ other
moved_within r s kept other h = within (eqb r s) where
  within : (b : Bool) → cond b kept other ≤ℤ other
  within true = h
  within false = omega (arith, ints)

pub moved_other : (r s : ℕ) (kept other : ℤ) → r ≢ s → moved r s kept other ≡ other
moved_other r s kept other ne = rw (ne_eqb r s ne) refl

-- ---- steps are short

module _ (steps : Steps) (within : AreStepsWithin steps) where
  stays_short : (sp sq : Bool)
      → IsShort (cond (sq && not sp) steps.kept (pos 0) +ℤ cond (sp && not sq) steps.left (pos 0))
  stays_short true true = (omega (arith, ints), omega (arith, ints))
  stays_short true false = let l = within.left in (omega (arith, ints, l), omega (arith, ints, l))
  stays_short false true = let k = within.kept in (omega (arith, ints, k), omega (arith, ints, k))
  stays_short false false = (omega (arith, ints), omega (arith, ints))

  onward_short : (by : Onward) → IsOnward by → (hq sq : Bool)
      → IsShort (cond hq (cond sq by.both by.alone) (cond sq by.memory by.constant))
  onward_short by is true true = is.both
  onward_short by is true false = is.alone
  onward_short by is false true = is.memory
  onward_short by is false false = is.constant

  from_short : (hp sp : Bool) (q : ℕ) → IsShort
      (cond hp (cond sp (onward steps.both q) (onward steps.alone q))
      (cond sp (onward steps.memory q) (onward steps.constant q)))
  from_short true true q = onward_short steps.both within.both (has_register q) (needs_slot q)
  from_short true false q = onward_short steps.alone within.alone (has_register q) (needs_slot q)
  from_short false true q = onward_short steps.memory within.memory (has_register q) (needs_slot q)
  from_short false false q =
      onward_short steps.constant within.constant (has_register q) (needs_slot q)

  pub step_short : (p q : ℕ) → IsShort (step_by steps p q)
  step_short p q = by (stays p q) where
    by : (b : Bool) → IsShort (cond b (staying steps p q) (onward_from steps p q))
    by true = stays_short (needs_slot p) (needs_slot q)
    by false = from_short (has_register p) (needs_slot p) q

-- ---- steps in the order of the layers, and against it

-- what a step comes to, by what its places have: a register, a slot, the same register
abbrev of_classes : Steps → Bool → Bool → Bool → Bool → Bool → ℤ
of_classes steps hp sp hq sq same =
    let to = λ (by : Onward). cond hq (cond sq by.both by.alone) (cond sq by.memory by.constant) in
    cond (hp && hq && same)
    (cond (sq && not sp) steps.kept (pos 0) +ℤ cond (sp && not sq) steps.left (pos 0))
    (cond hp (cond sp (to steps.both) (to steps.alone))
    (cond sp (to steps.memory) (to steps.constant)))

abbrev price_of : Ways → Bool → Bool → Bool → Bool → Bool → ℤ
price_of ways hp sp hq sq same =
    cond hq (cond hp (cond same (pos 0) ways.between) (cond sp ways.load ways.set)) (pos 0)
    +ℤ cond (sq && not sp) ways.store (pos 0)

pub record AreForwards (ways : Ways) (steps : Steps) : Type 0 where
  pub alone : IsFromAlone ways steps.alone
  pub both : IsFromBoth ways steps.both
  pub memory : IsFromMemory ways steps.memory
  pub constant : IsFromConstant ways steps.constant
  pub kept : steps.kept ≡ ways.store
  pub left : steps.left ≡ pos 0

pub record AreBackwards (ways : Ways) (steps : Steps) : Type 0 where
  pub alone : IsToAlone ways steps.alone
  pub both : IsToBoth ways steps.both
  pub memory : IsToMemory ways steps.memory
  pub constant : IsToConstant steps.constant
  pub kept : steps.kept ≡ pos 0
  pub left : steps.left ≡ ways.store

module _ (ways : Ways) (steps : Steps) (are : AreForwards ways steps) where
  forwards_by : (hp sp hq sq same : Bool)
      → of_classes steps hp sp hq sq same ≡ price_of ways hp sp hq sq same
  forwards_by true true true true true = omega (arith, ints)
  forwards_by true true true true false = omega (arith, ints, are.both.both)
  forwards_by true true true false true = omega (arith, ints, are.left)
  forwards_by true true true false false = omega (arith, ints, are.both.alone)
  forwards_by true true false true same = omega (arith, ints, are.both.memory)
  forwards_by true true false false same = omega (arith, ints, are.both.constant)
  forwards_by true false true true true = omega (arith, ints, are.kept)
  forwards_by true false true true false = omega (arith, ints, are.alone.both)
  forwards_by true false true false true = omega (arith, ints)
  forwards_by true false true false false = omega (arith, ints, are.alone.alone)
  forwards_by true false false true same = omega (arith, ints, are.alone.memory)
  forwards_by true false false false same = omega (arith, ints, are.alone.constant)
  forwards_by false true true true same = omega (arith, ints, are.memory.both)
  forwards_by false true true false same = omega (arith, ints, are.memory.alone)
  forwards_by false true false true same = omega (arith, ints, are.memory.memory)
  forwards_by false true false false same = omega (arith, ints, are.memory.constant)
  forwards_by false false true true same = omega (arith, ints, are.constant.both)
  forwards_by false false true false same = omega (arith, ints, are.constant.alone)
  forwards_by false false false true same = omega (arith, ints, are.constant.memory)
  forwards_by false false false false same = omega (arith, ints, are.constant.constant)

  pub forwards_are : (p q : ℕ) → step_by steps p q ≡ step_price ways p q
  forwards_are p q = forwards_by (has_register p) (needs_slot p) (has_register q) (needs_slot q)
      (eqb (register_of p) (register_of q))

module _ (ways : Ways) (steps : Steps) (are : AreBackwards ways steps) where
  backwards_by : (hp sp hq sq same : Bool)
      → of_classes steps hp sp hq sq same ≡ price_of ways hq sq hp sp same
  backwards_by true true true true true = omega (arith, ints)
  backwards_by true true true true false = omega (arith, ints, are.both.both)
  backwards_by true true true false true = omega (arith, ints, are.left)
  backwards_by true true true false false = omega (arith, ints, are.both.alone)
  backwards_by true true false true same = omega (arith, ints, are.both.memory)
  backwards_by true true false false same = omega (arith, ints, are.both.constant)
  backwards_by true false true true true = omega (arith, ints, are.kept)
  backwards_by true false true true false = omega (arith, ints, are.alone.both)
  backwards_by true false true false true = omega (arith, ints)
  backwards_by true false true false false = omega (arith, ints, are.alone.alone)
  backwards_by true false false true same = omega (arith, ints, are.alone.memory)
  backwards_by true false false false same = omega (arith, ints, are.alone.constant)
  backwards_by false true true true same = omega (arith, ints, are.memory.both)
  backwards_by false true true false same = omega (arith, ints, are.memory.alone)
  backwards_by false true false true same = omega (arith, ints, are.memory.memory)
  backwards_by false true false false same = omega (arith, ints, are.memory.constant)
  backwards_by false false true true same = omega (arith, ints, are.constant.both)
  backwards_by false false true false same = omega (arith, ints, are.constant.alone)
  backwards_by false false false true same = omega (arith, ints, are.constant.memory)
  backwards_by false false false false same = omega (arith, ints, are.constant.constant)

  turned : (a b : ℕ) → eqb a b ≡ eqb b a
  turned a b = grind (arith, nat_tests)

  pub backwards_are : (p q : ℕ) → step_by steps p q ≡ step_price ways q p
  backwards_are p q = backwards_by (has_register p) (needs_slot p) (has_register q) (needs_slot q)
      (eqb (register_of p) (register_of q))
      ∙ ap (price_of ways (has_register q) (needs_slot q) (has_register p) (needs_slot p))
      (turned (register_of p) (register_of q))

-- ---- the same, by what the moves weigh

events_weight_two : (w : Weights) (depth : ℕ) (xs ys : List ℕ)
    → events_weight w depth (xs ++ ys) ≡ events_weight w depth xs + events_weight w depth ys
events_weight_two w depth xs ys = sum_by-append (λ n. weight_at w n depth) xs ys

module _ (w : Weights) (depth : ℕ) (near : Bool) (ways : Ways)
    (are : AreWays w depth near ways) where
  abbrev pub price : List ℕ → ℤ
  price events = pos (1024 * events_weight w depth events)

  pub one : (e : ℕ) → price (e ∷ []) ≡ event_price w depth e
  one e = omega (arith, ints)

  brought : (hp eq sp : Bool) → price (cond hp (only_if (not eq) register_event)
      (cond sp (load_event near ∷ []) (constant_event ∷ [])))
      ≡ cond hp (cond eq (pos 0) ways.between) (cond sp ways.load ways.set)
  brought true true sp = refl
  brought true false sp = one register_event ∙ sym are.between
  brought false eq true = one (load_event near) ∙ sym are.load
  brought false eq false = one constant_event ∙ sym are.set

  stored : (b : Bool) → price (only_if b (store_event near)) ≡ cond b ways.store (pos 0)
  stored true = one (store_event near) ∙ sym are.store
  stored false = refl

  comes : (hq hp eq sp : Bool) → price (cond hq (cond hp (only_if (not eq) register_event)
      (cond sp (load_event near ∷ []) (constant_event ∷ []))) [])
      ≡ cond hq (cond hp (cond eq (pos 0) ways.between) (cond sp ways.load ways.set)) (pos 0)
  comes true hp eq sp = brought hp eq sp
  comes false hp eq sp = refl

  pub step_is_way : (p q : ℕ) → way_price w depth near p q ≡ step_price ways p q
  step_is_way p q =
      let first = comes (has_register q) (has_register p) (eqb (register_of p) (register_of q))
      (needs_slot p) in
      let second = stored (needs_slot q && not (needs_slot p)) in
      let split = events_weight_two w depth (cond (has_register q) (brings near p q) [])
      (only_if (needs_slot q && not (needs_slot p)) (store_event near)) in
      omega (arith, ints, first, second, split)
