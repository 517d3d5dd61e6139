-- How an address finds its call among all live calls, the running one last.
use Rattle.std.proofs.Common.{◌≡◌, ℕ, ◌+◌, ◌<◌, ◌≤◌, false, nat_eq, List, [], ◌∷◌, ◌++◌, length}
use Rattle.std.proofs.Common.{reverse, take, Some, sym, ap, ◌∙◌, arith, slice_get}
use Rattle.std.proofs.lemmas.List.{take-append-le, length-append}
use Rattle.std.proofs.lemmas.Option.{slice_get_past, slice_get_within, slice_get-get_or}
use Rattle.vc_code.specs.Machine.{Shape, Activation, depth}
use Rattle.vc_code.specs.Numbered.{on_call, holds_at, has_sum, has_below}
use Rattle.vc_code.specs.Selected.{Vars}

module _ (sizes : ℕ → Shape) (calls : List (Activation Vars)) (top : Activation Vars) (n : ℕ) where
  count : length (calls ++ top ∷ []) ≡ length calls + 1
  count = length-append calls (top ∷ [])

  pub below_here : (bytes : ℕ) → n ≤ length calls →
      nat_eq bytes (depth sizes (reverse (take n calls))) ≡
      holds_at (calls ++ top ∷ []) n (has_below sizes bytes)
  below_here bytes within =
      let inside : n < length (calls ++ top ∷ []) = omega (arith, within, count) in
      let all = calls ++ top ∷ [] in
      ap (λ l. nat_eq bytes (depth sizes (reverse l)))
      (sym (take-append-le n calls (top ∷ []) within))
      ∙ ap (λ o. on_call false o (λ c. has_below sizes bytes c (reverse (take n all))))
      (sym (slice_get-get_or all n top inside))

  pub none_here : (bytes : ℕ) → length calls < n →
      false ≡ holds_at (calls ++ top ∷ []) n (has_below sizes bytes)
  none_here bytes past =
      let all = calls ++ top ∷ [] in
      ap (λ o. on_call false o (λ c. has_below sizes bytes c (reverse (take n all))))
      (sym (slice_get_past all n (omega (arith, past, count))))

  pub sum_here : (bytes : ℕ) (c : Activation Vars) → Some c ≡ slice_get (calls ++ top ∷ []) n →
      nat_eq bytes ((sizes c.proc).frame_size + depth sizes (reverse (take n calls))) ≡
      holds_at (calls ++ top ∷ []) n (has_sum sizes bytes)
  sum_here bytes c there =
      let all = calls ++ top ∷ [] in
      let inside : n < length all = slice_get_within all n c (sym there) in
      let within : n ≤ length calls = omega (arith, inside, count) in
      ap (λ l. nat_eq bytes ((sizes c.proc).frame_size + depth sizes (reverse l)))
      (sym (take-append-le n calls (top ∷ []) within))
      ∙ ap (λ o. on_call false o (λ c. has_sum sizes bytes c (reverse (take n all)))) there
