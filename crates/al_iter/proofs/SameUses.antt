-- Flows that use each thing as often as another.
use Rattle.std.proofs.Common.{ℕ, ◌≡◌, ◌⊎◌, ◌≤◌, Bool, true, false, List, count_by}
use Rattle.std.proofs.Common.{get_or, cond, sym, ◌∙◌, arith, inl, inr}
use Rattle.std.proofs.lemmas.Nat.Bits.{bit_at-lt}
use Rattle.net_form.specs.declared.net.Net.{Net}
use Rattle.net_form.specs.declared.taken.Taken.{Taken}
use Rattle.net_form.specs.Flow.{Edge}
use Rattle.net_form.specs.Admitted.{uses_bundle, uses_memory}
use Rattle.net_form.specs.InUse.{AreApart, StandsFor, UsesOnce, pair_at}

module _ (net : Net) (g h : List Edge) (same : (p : Edge → Bool) → count_by p g ≡ count_by p h)
  where
    pub apart_too : (f : List Edge) → AreApart net f g → AreApart net f h
    apart_too f apart = record {
      registers = λ n r. none (apart.registers n r) (same (uses_bundle net n r));
      pairs = λ k lt. none (apart.pairs k lt) (same (uses_memory (pair_at net k)));
    }
      where
        none : {a b c : ℕ} → (a ≡ 0) ⊎ (b ≡ 0) → b ≡ c → (a ≡ 0) ⊎ (c ≡ 0)
        none (inl one) is = inl one
        none (inr other) is = inr (sym is ∙ other)

    pub stands_too : (taken : Taken) → StandsFor net taken g → StandsFor net taken h
    stands_too taken stands = record {
      registers = λ n r. stands.registers n r ∙ same (uses_bundle net n r);
      pairs = λ k lt. stands.pairs k lt ∙ same (uses_memory (pair_at net k));
    }

-- what is marked is marked once
pub marked_once : (net : Net) (taken : Taken) (g : List Edge) → StandsFor net taken g
    → UsesOnce net g
marked_once net taken g stands = record {
  registers = λ n r. let is = stands.registers n r in
      let bit = bit_at-lt (get_or taken.regs n 0) r in
      omega (arith, is, bit);
  pairs = λ k lt. few (get_or taken.mems k false) (stands.pairs k lt);
}
  where
    few : (b : Bool) {n : ℕ} → cond b 1 0 ≡ n → n ≤ 1
    few true is = omega (arith, is)
    few false is = omega (arith, is)
