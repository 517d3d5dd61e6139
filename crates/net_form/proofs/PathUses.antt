-- The registers that paths are in at the layers of all blocks.
use Rattle.std.proofs.Common.{ℕ, suc, ◌≡◌, ◌+◌, ◌-◌, ◌<◌, ◌≤◌, List, [], ◌∷◌, length, get_or, take}
use Rattle.std.proofs.Common.{drop, count_by, Some, None, Option, refl, sym, ap, ◌∙◌, arith}
use Rattle.std.proofs.Common.{add-one}
use Rattle.std.proofs.lemmas.List.{take_all}
use Rattle.pra_base.specs.declared.ids.Place.{Place}
use Rattle.net_form.specs.declared.net.Net.{Net}
use Rattle.net_form.specs.Admitted.{strand_at, uses_bundle}
use Rattle.net_form.specs.Flow.{edges}
use Rattle.net_form.specs.Index.{first_layer}
use Rattle.pra_list.proofs.Counts.{count-cons}
use Rattle.net_form.specs.InUse.{lands_in}

-- where a path comes from is all the same to the registers that it is in
module _ (net : Net) (n r : ℕ) where
  abbrev pub uses : ℕ → ℕ → Option Place → List Place → ℕ
  uses s k p xs = count_by (uses_bundle net n r) (edges s k p xs)

  pub uses_from : (s k : ℕ) (p q : Option Place) (xs : List Place) → uses s k p xs ≡ uses s k q xs
  uses_from s k p q [] = refl
  uses_from s k p q (x ∷ xs) =
      let a = count-cons (uses_bundle net n r) (record { strand = s; layer = k; from = p; to = x })
      (edges s (suc k) (Some x) xs) in
      let b = count-cons (uses_bundle net n r) (record { strand = s; layer = k; from = q; to = x })
      (edges s (suc k) (Some x) xs) in
      omega (arith, a, b)

  -- the first place of a path, and the others
  pub uses_step : (s k layer : ℕ) (xs : List Place) (d : Place) → 1 ≤ length xs →
      first_layer net.blocks (strand_at net s).block.0 + k ≡ layer
      → uses s k None xs ≡ lands_in layer (get_or xs 0 d) n r + uses s (k + 1) None
      (take (length xs - 1) (drop 1 xs))
  uses_step s k layer [] d some at = absurd (omega (arith, some))
  uses_step s k layer (x ∷ xs) d some at =
      let a = count-cons (uses_bundle net n r)
      (record { strand = s; layer = k; from = None; to = x }) (edges s (suc k) (Some x) xs) in
      let here = ap (λ l. lands_in l x n r) at in
      let more = uses_from s (suc k) (Some x) None xs
      ∙ sym (ap (λ l. uses s l None xs) (add-one k))
      ∙ sym (ap (uses s (k + 1) None) (take_all (suc (length xs) - 1) xs (omega arith))) in
      omega (arith, a, here, more)

  pub uses_none : (s k : ℕ) (xs : List Place) → length xs < 1 → uses s k None xs ≡ 0
  uses_none s k [] none = refl
  uses_none s k (x ∷ xs) none = absurd (omega (arith, none))
