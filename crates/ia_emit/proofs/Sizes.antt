-- The sizes of items one behind the other.
use Rattle.std.proofs.Common.{◌≡◌, ℕ, zero, suc, ◌+◌, ◌≤◌, ◌<◌, List, [], ◌∷◌, ◌++◌, length, take}
use Rattle.std.proofs.Common.{sym, ap, ◌∙◌, arith, ◌⊎◌, inl, inr, get_or}
use Rattle.std.specs.Prelude.{slice_index_or}
use Rattle.std.proofs.Math.ListN.{get_or-append}
use Rattle.std.proofs.Math.Seq.{get_or-append_seam}
use Rattle.std.proofs.lemmas.List.{take_all, get_or_past}
use Rattle.std.proofs.lemmas.List.Sums.{sum_by-cons}
use Rattle.ia_code.specs.declared.ins.Ins.TheVariants.{MovRmR}
use Rattle.ia_code.specs.declared.ins.Reg.TheVariants.{Eax}
use Rattle.ia_code.specs.declared.ins.Rm.TheVariants as rm
use Rattle.ia_emit.specs.declared.item.Item.{Item}
use Rattle.ia_emit.specs.declared.item.Item.TheVariants.{Plain}
use Rattle.ia_emit.specs.Code.{size_of, size}
use Rattle.ia_emit.specs.Layout.{ArePlaces}
use Rattle.ia_emit.specs.Sound.{SoundWhereFits, EachSound}

pub size-cons : (x : Item) (xs : List Item) → size (x ∷ xs) ≡ size_of x + size xs
size-cons x xs = sum_by-cons size_of x xs

pub size-append : (xs ys : List Item) → size (xs ++ ys) ≡ size xs + size ys
size-append [] ys = omega arith
size-append (x ∷ xs) ys =
    let both = size-cons x (xs ++ ys) in
    let first = size-cons x xs in
    let more = size-append xs ys in
    omega (arith, both, first, more)

-- a front and the item behind it
pub size_front : (xs : List Item) (k : ℕ) (d : Item) → k < length xs →
    size (take k xs) + size_of (get_or xs k d) ≤ size xs
size_front [] k d lt = absurd (omega arith)
size_front (x ∷ xs) zero d lt = let first = size-cons x xs in omega (arith, first)
size_front (x ∷ xs) (suc k) d lt =
    let more = size_front xs k d (omega (arith, lt)) in
    let first = size-cons x xs in
    let front = size-cons x (take k xs) in
    omega (arith, more, first, front)

pub size_take_more : (xs : List Item) (k : ℕ) (x : Item) → take (k + 1) xs ≡ take k xs ++ x ∷ [] →
    size (take (k + 1) xs) ≡ size (take k xs) + size_of x
size_take_more xs k x e =
    let last = size-cons x [] in
    let both = ap size e ∙ size-append (take k xs) (x ∷ []) in
    omega (arith, last, both)

pub sound_at : (xs : List Item) (k : ℕ) (d : Item) → k < length xs → EachSound xs →
    SoundWhereFits (get_or xs k d)
sound_at [] k d lt s = absurd (omega arith)
sound_at (x ∷ xs) zero d lt s = s.0
sound_at (x ∷ xs) (suc k) d lt s = sound_at xs k d (omega (arith, lt)) s.1

-- ---- the places of the items so far

pub PlacedSoFar : List Item → ℕ → ℕ → List ℕ → Type 0
PlacedSoFar items at k places = (i d : ℕ) → i < k → slice_index_or places i d ≡
    at + size (take i items)

pub none_placed : (items : List Item) (at : ℕ) (places : List ℕ) → PlacedSoFar items at 0 places
unfolding PlacedSoFar
none_placed items at places i d lt = absurd (omega arith)

pub one_placed_more : (items : List Item) (at k end : ℕ) (old new : List ℕ) → length old ≡ k →
    end ≡ at + size (take k items) → new ≡ old ++ end ∷ [] →
    PlacedSoFar items at k old → PlacedSoFar items at (k + 1) new
unfolding PlacedSoFar
one_placed_more items at k end old new len is e so_far i d lt =
    elim (below_or_at i k lt) [
      | inl below ↦ ap (λ l. slice_index_or l i d) e ∙ get_or-append old (end ∷ []) d i
          (omega (arith, len, below)) ∙ so_far i d below
      | inr here ↦
          let there : i ≡ length old = here ∙ sym len in
          ap (λ l. slice_index_or l i d) e ∙ ap (λ n. slice_index_or (old ++ end ∷ []) n d) there
          ∙ get_or-append_seam old end [] d ∙ is ∙ ap (λ n. at + size (take n items)) (sym here)
    ]
  where
    below_or_at : (b k : ℕ) → b < k + 1 → (b < k) ⊎ (b ≡ k)
    below_or_at b k lt = grind arith

pub all_placed : (items : List Item) (at k end : ℕ) (places : List ℕ) → length items ≤ k →
    length places ≡ k → end ≡ at + size (take k items) →
    PlacedSoFar items at k places → ArePlaces items at places end
unfolding PlacedSoFar
all_placed items at k end places le len is so_far i =
    elim (below_or_not i k) [
      | inl below ↦ so_far i end below
      | inr beyond ↦
          get_or_past places i end (omega (arith, len, beyond)) ∙ is
          ∙ ap (λ l. at + size l) (take_all k items le
          ∙ sym (take_all i items (omega (arith, le, beyond))))
    ]
  where
    below_or_not : (b k : ℕ) → (b < k) ⊎ (k ≤ b)
    below_or_not b k = grind arith

-- what a loop over items reads past their end
abbrev pub past : Item
past = Plain (MovRmR (rm.Reg Eax) Eax)
