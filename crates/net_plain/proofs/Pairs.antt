-- Memory pairs that are in use, one after the other.
use Rattle.std.proofs.Common.{◌≡◌, ℕ, ◌<◌, Bool, true, false, ◌&&◌, length, get_or, refl, ap, arith}
use Rattle.std.specs.Prelude.{if◌then◌else◌}
use Rattle.pra_list.proofs.Truths.{false_from}
use Rattle.net_form.specs.declared.net.Net.{Net}
use Rattle.net_form.specs.declared.taken.Taken.{Taken}
use Rattle.net_form.specs.Admitted.{uses_memory}
use Rattle.net_form.specs.Flow.{Edge}
use Rattle.net_form.specs.InUse.{pair_at, pair_mark}
use Rattle.net_path.specs.Grounds.{pairs_free}
use Rattle.net_path.proofs.Unused.{to_pairs_free, of_pairs_free}

-- a mark, where both tests hold or not
not_marked : (a b : Bool) → (a && b) ≡ false → a ≡ true → b ≡ false
not_marked true b none a = none
not_marked false b none a = cc

marked : (a b : Bool) → (a && b) ≡ true → (a ≡ true) × (b ≡ true)
marked true b both = (refl, both)
marked false b both = cc

module _ (net : Net) (taken : Taken) (e : Edge) where
  abbrev in_use : ℕ → Bool
  in_use k = uses_memory (pair_at net k) e && get_or taken.mems k false

  pub none_in_use : ((k : ℕ) → k < length net.pairs → in_use k ≡ false)
      → pairs_free net taken e ≡ true
  none_in_use none = to_pairs_free net taken e (λ k lt uses.
      ap (λ (b : Bool). if b then 1 else 0)
      (not_marked (uses_memory (pair_at net k) e) (get_or taken.mems k false) (none k lt) uses))

  pub one_in_use : (k : ℕ) → k < length net.pairs → in_use k ≡ true
      → pairs_free net taken e ≡ false
  one_in_use k lt both = false_from (pairs_free net taken e) (λ free.
      let parts = marked (uses_memory (pair_at net k) e) (get_or taken.mems k false) both in
      let none = of_pairs_free net taken e free k lt parts.0 in
      let one : pair_mark taken.mems k ≡ 1 = ap (λ (b : Bool). if b then 1 else 0) parts.1 in
      absurd (omega arith))
