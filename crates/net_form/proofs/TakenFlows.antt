-- What is marked, and the flows that it stands for.
use Rattle.std.proofs.Common.{ℕ, ◌≡◌, ◌+◌, ◌≤◌, ◌⊎◌, Bool, true, ◌&&◌, eqb, cond, List, ◌++◌}
use Rattle.std.proofs.Common.{get_or, All, count_by, refl, sym, ap, ◌∙◌, arith, inl, inr}
use Rattle.std.proofs.lemmas.Bool.{and_parts, and_from, eqb-true, eq-eqb, both_ways, cases_eq}
use Rattle.std.proofs.lemmas.Bool.{false_from_ne_true}
use Rattle.std.proofs.lemmas.List.Sums.{sum_by-append}
use Rattle.pra_list.proofs.Counts.{count-none, none-count}
use Rattle.pra_base.specs.Places.{number, has_register, register_of}
use Rattle.net_form.specs.declared.net.Net.{Net}
use Rattle.net_form.specs.declared.taken.Taken.{Taken}
use Rattle.net_form.specs.Flow.{Edge}
use Rattle.net_form.specs.Admitted.{layer_of, uses_bundle, uses_memory, IsAdmitted}
use Rattle.net_form.specs.InUse.{mark, pair_mark, no_pair, pair_at, UsesOnce, AreApart, StandsFor}
use Rattle.net_form.specs.InUse.{UsesNothing, Takes, Releases}

pub count-append : {X : Type 0} (p : X → Bool) (xs ys : List X) → count_by p (xs ++ ys) ≡
    count_by p xs + count_by p ys
count-append p xs ys = sum_by-append (λ x. cond (p x) 1 0) xs ys

-- where a thing is in use, none of the edges uses it
apart_by : (p : Edge → Bool) (used : ℕ) (f g : List Edge) → used ≡ count_by p g →
    All (λ e. p e ≡ true → used ≡ 0) f → (count_by p f ≡ 0) ⊎ (count_by p g ≡ 0)
apart_by p used f g stands nothing =
    elim (cases_eq used 0) as (λ _. (count_by p f ≡ 0) ⊎ (count_by p g ≡ 0)) [
      | inl none ↦ inr (sym stands ∙ none)
      | inr some ↦ inl (count-none p f
          (λ k d lt. false_from_ne_true (p (get_or f k d)) (λ is. some (nothing k d lt is))))
    ]

nothing_by : (p : Edge → Bool) (used : ℕ) (f g : List Edge) → used ≡ count_by p g →
    (count_by p f ≡ 0) ⊎ (count_by p g ≡ 0) → All (λ e. p e ≡ true → used ≡ 0) f
nothing_by p used f g stands (inl none) =
    λ k d lt is. absurd (both_ways (p (get_or f k d)) (none-count p f none k d lt) is)
nothing_by p used f g stands (inr none) = λ k d lt is. stands ∙ none

module _ (net : Net) (taken : Taken) (f g : List Edge) (s : StandsFor net taken g) where
  pub apart_from_nothing : UsesNothing net taken f → AreApart net f g
  apart_from_nothing u = record {
    registers = λ n r. apart_by (uses_bundle net n r) (mark taken.regs n r) f g (s.registers n r)
        (λ k d in_ is.
        let x : Edge = get_or f k d in
        let parts = and_parts (eqb (layer_of net x) n)
        (has_register (number x.to) && eqb (register_of (number x.to)) r) is in
        let comes = and_parts (has_register (number x.to)) (eqb (register_of (number x.to)) r)
        parts.1 in
        let layer : layer_of net x ≡ n = eqb-true _ n parts.0 in
        let register : register_of (number x.to) ≡ r = eqb-true _ r comes.1 in
        ap (λ n. mark taken.regs n r) (sym layer) ∙ ap (mark taken.regs (layer_of net x))
        (sym register) ∙ u.registers k d in_ comes.0);
    pairs = λ k lt. apart_by (uses_memory (pair_at net k)) (pair_mark taken.mems k) f g
        (s.pairs k lt) (u.pairs k lt);
  }

  pub nothing_from_apart : AreApart net f g → UsesNothing net taken f
  nothing_from_apart a = record {
    registers = λ k d in_ is.
        let x : Edge = get_or f k d in
        let n = layer_of net x in
        let r = register_of (number x.to) in
        nothing_by (uses_bundle net n r) (mark taken.regs n r) f g (s.registers n r)
        (a.registers n r) k d in_
        (and_from (eqb n n) (has_register (number x.to) && eqb r r) (eq-eqb n n refl)
        (and_from (has_register (number x.to)) (eqb r r) is (eq-eqb r r refl)));
    pairs = λ k lt. nothing_by (uses_memory (pair_at net k)) (pair_mark taken.mems k) f g
        (s.pairs k lt) (a.pairs k lt);
  }

-- what two flows use, each for itself and both together
module _ (net : Net) (f g : List Edge) where
  pub once_together : UsesOnce net f → UsesOnce net g → AreApart net f g → UsesOnce net (f ++ g)
  once_together one other apart = record {
    registers = λ n r. at_most (count-append (uses_bundle net n r) f g) (one.registers n r)
        (other.registers n r) (apart.registers n r);
    pairs = λ k lt. at_most (count-append (uses_memory (pair_at net k)) f g) (one.pairs k lt)
        (other.pairs k lt) (apart.pairs k lt);
  }
    where
      at_most : {a b c : ℕ} → c ≡ a + b → a ≤ 1 → b ≤ 1 → (a ≡ 0) ⊎ (b ≡ 0) → c ≤ 1
      at_most sum one other (inl none) = omega (arith, sum, other, none)
      at_most sum one other (inr none) = omega (arith, sum, one, none)

  pub apart_together : UsesOnce net (f ++ g) → AreApart net f g
  apart_together once = record {
    registers = λ n r. one_none (count-append (uses_bundle net n r) f g) (once.registers n r);
    pairs = λ k lt. one_none (count-append (uses_memory (pair_at net k)) f g) (once.pairs k lt);
  }
    where
      one_none : {a b c : ℕ} → c ≡ a + b → c ≤ 1 → (a ≡ 0) ⊎ (b ≡ 0)
      one_none {a} {b} sum small = elim (cases_eq a 0) as (λ _. (a ≡ 0) ⊎ (b ≡ 0)) [
        | inl none ↦ inl none
        | inr some ↦ inr (omega (arith, sum, small, some))
      ]

  pub once_apart : UsesOnce net (f ++ g) → UsesOnce net f × UsesOnce net g × AreApart net f g
  once_apart once = (
    record {
      registers = λ n r. let sum = count-append (uses_bundle net n r) f g in let few =
          once.registers n r in omega (arith, sum, few);
      pairs = λ k lt. let sum = count-append (uses_memory (pair_at net k)) f g in let few =
          once.pairs k lt in omega (arith, sum, few);
    },
    record {
      registers = λ n r. let sum = count-append (uses_bundle net n r) f g in let few =
          once.registers n r in omega (arith, sum, few);
      pairs = λ k lt. let sum = count-append (uses_memory (pair_at net k)) f g in let few =
          once.pairs k lt in omega (arith, sum, few);
    },
    apart_together once,
  )

pub admitted_once : (net : Net) (f : List Edge) → IsAdmitted net f → UsesOnce net f
admitted_once net f a = record { registers = a.bundles; pairs = λ k lt. a.pairs k no_pair lt }

module _ (net : Net) (old new : Taken) (f g : List Edge) where
  pub takes_more : StandsFor net old g → UsesOnce net (f ++ g) → Takes net f old new →
      StandsFor net new (f ++ g)
  takes_more stood once takes = record {
    registers = λ n r.
        let both = count-append (uses_bundle net n r) f g in
        let was = stood.registers n r in
        let small = once.registers n r in
        let now = takes.registers n r in
        omega (arith, both, was, small, now);
    pairs = λ k lt.
        let both = count-append (uses_memory (pair_at net k)) f g in
        let was = stood.pairs k lt in
        let small = once.pairs k lt in
        let now = takes.pairs k lt in
        omega (arith, both, was, small, now);
  }

  pub releases_some : StandsFor net old (f ++ g) → Releases net f old new → StandsFor net new g
  releases_some stood releases = record {
    registers = λ n r.
        let both = count-append (uses_bundle net n r) f g in
        let was = stood.registers n r in
        let now = releases.registers n r in
        omega (arith, both, was, now);
    pairs = λ k lt.
        let both = count-append (uses_memory (pair_at net k)) f g in
        let was = stood.pairs k lt in
        let now = releases.pairs k lt in
        omega (arith, both, was, now);
  }
