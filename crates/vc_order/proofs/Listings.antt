-- Lists of blocks, each once, as orders.
use Rattle.std.proofs.Common.{◌≡◌, ◌≢◌, ℕ, zero, suc, ◌+◌, ◌<◌, ◌≤◌, ◌⊎◌, inl, inr, ⊎_elim, List}
use Rattle.std.proofs.Common.{[], ◌∷◌, length, map, refl, sym, ap, ◌∙◌, arith, length-append}
use Rattle.std.specs.List.{swap}
use Rattle.std.proofs.Math.ListN.{get_or}
use Rattle.std.proofs.Math.Seq.{get_or-append_seam}
use Rattle.std.proofs.lemmas.Bool.{cases_eq, cases_lt}
use Rattle.pra_base.specs.Code.{block_of}
use Rattle.pra_base.specs.declared.ids.BlockId.{BlockId}
use Rattle.pra_base.specs.declared.code.Block.{Block}
use Rattle.pra_base.specs.declared.code.VProc.{VProc}
use Rattle.vc_build.specs.Grow.{count}
use Rattle.vc_build.specs.Text.{depth_at, is_one, times, IsLast}
use Rattle.vc_build.proofs.Text.{one_here, below_in, below_out}
use Rattle.vc_order.specs.Order.{Places, place_in, number_at, block_with, blocks_in, depths, IsOrder}
use Rattle.vc_order.specs.Order.{IsListing, IsInOrder}
use Rattle.vc_order.proofs.Orders.{any_default, swapped_first, swapped_second, swapped_other}
use Rattle.vc_order.proofs.Orders.{reordered}

abbrev none : BlockId
none = record { 0 = 0 }

-- ---- how often a block is in a list

pub at_place : (xs : List BlockId) (i : ℕ) → i < length xs → 0 < times (number_at xs i) xs
at_place [] i lt = absurd (omega (arith, lt))
at_place (x ∷ xs) zero lt = omega (arith, one_here x.0)
at_place (x ∷ xs) (suc i) lt = omega (arith, at_place xs i (omega (arith, lt)))

pub twice : (xs : List BlockId) (i j : ℕ) → i < j → j < length xs → number_at xs i ≡
    number_at xs j → 2 ≤ times (number_at xs j) xs
twice [] i j lt in_list e = absurd (omega (arith, in_list))
twice (x ∷ xs) i zero lt in_list e = absurd (omega (arith, lt))
twice (x ∷ xs) zero (suc j) lt in_list e =
    omega (
      arith,
      ap (λ z. is_one x.0 z) (sym e),
      one_here x.0,
      at_place xs j (omega (arith, in_list)),
    )
twice (x ∷ xs) (suc i) (suc j) lt in_list e =
    omega (arith, twice xs i j (omega (arith, lt)) (omega (arith, in_list)) e)

-- what is read at a place of a list
pub number_read : (xs : List BlockId) (i : ℕ) (d : BlockId) → i < length xs → (get_or xs i d).0 ≡
    number_at xs i
number_read [] i d lt = absurd (omega (arith, lt))
number_read (x ∷ xs) zero d lt = refl
number_read (x ∷ xs) (suc i) d lt = number_read xs i d (omega (arith, lt))

module _ (n : ℕ) (ids : List BlockId) (is : IsListing n ids) where
  pub listed_within : (c : ℕ) → c < n → number_at ids c < n
  listed_within c lt = ⊎_elim
      (λ (l : number_at ids c < n). l)
      (λ (ge : n ≤ number_at ids c).
      absurd (omega (
        arith,
        at_place ids c (omega (arith, lt, is.many)),
        is.once (number_at ids c),
        below_out (number_at ids c) n ge,
      )))
      (cases_lt (number_at ids c) n)

  pub listed_apart : (c d : ℕ) → c < d → d < n → number_at ids c ≢ number_at ids d
  listed_apart c d lt within e =
      omega (
        arith,
        twice ids c d lt (omega (arith, within, is.many)) e,
        is.once (number_at ids d),
        below_in (number_at ids d) n (listed_within d within),
      )

  -- the block that comes next is not among those that are in place
  module _ (to from : List ℕ) (order : IsOrder n to from) (c : ℕ) (lt : c < n)
      (so_far : (k : ℕ) → k < c → place_in from k ≡ number_at ids k) where
    pub next_place : c ≤ place_in to (number_at ids c)
    next_place =
        let there = order.there (number_at ids c) (listed_within c lt) in
        ⊎_elim
        (λ (early : place_in to (number_at ids c) < c).
        absurd (listed_apart (place_in to (number_at ids c)) c early lt
        (sym (so_far (place_in to (number_at ids c)) early) ∙ there.1)))
        (λ (late : c ≤ place_in to (number_at ids c)). late)
        (cases_lt (place_in to (number_at ids c)) c)

    pub next_brought : (from' : List ℕ) → from' ≡ swap from c (place_in to (number_at ids c)) →
        (k : ℕ) → k < c + 1 → place_in from' k ≡ number_at ids k
    next_brought from' swapped k l =
        let at = place_in to (number_at ids c) in
        let there = order.there (number_at ids c) (listed_within c lt) in
        let lc : c < length from = omega (arith, lt, order.blocks) in
        let la : at < length from = omega (arith, there.0, order.blocks) in
        ap (λ z. place_in z k) swapped
        ∙ ⊎_elim
        (λ (e : k ≡ c). ⊎_elim
        (λ (same : k ≡ at). swapped_second from c at k lc la same ∙ ap (place_in from)
        (sym e ∙ same) ∙ there.1 ∙ ap (number_at ids) (sym e))
        (λ (off : k ≢ at). swapped_first from c at k lc la off e ∙ there.1 ∙ ap (number_at ids)
        (sym e))
        (cases_eq k at))
        (λ (off : k ≢ c). swapped_other from c at k lc la
        (λ e. omega (arith, e, next_place, l, off)) off ∙ so_far k (omega (arith, l, off)))
        (cases_eq k c)

-- ---- the code

listed_depths : (code : VProc) (to : Places) (ids : List BlockId) (from : List ℕ) → length from ≡
    length ids → ((c : ℕ) → c < length ids → place_in from c ≡ number_at ids c) →
    map (λ (b : Block). b.depth) (map (λ b. block_with to (block_of code b)) from) ≡
    map (λ b. depth_at code b.0) ids
listed_depths code to [] [] long same = refl
listed_depths code to [] (c ∷ cs) long same = absurd (omega (arith, long))
listed_depths code to (x ∷ xs) [] long same = absurd (omega (arith, long))
listed_depths code to (x ∷ xs) (c ∷ cs) long same =
    ap (λ z. depth_at code z ∷ map (λ (b : Block). b.depth)
    (map (λ b. block_with to (block_of code b)) cs)) (same 0 (omega arith))
    ∙ ap (λ l. depth_at code x.0 ∷ l) (listed_depths code to xs cs (omega (arith, long)) (λ k lt.
    let l : k < length cs = omega (arith, lt, long) in
    any_default cs k k (suc k) l ∙ same (suc k) (omega (arith, lt))))

pub in_order : (to from : List ℕ) (code new : VProc) (ids : List BlockId) →
    IsOrder (count code) to from → new ≡ record code { blocks = blocks_in to from code } →
    IsListing (count code) ids → ((c : ℕ) → c < count code → place_in from c ≡ number_at ids c) →
    IsInOrder code ids new
in_order to from code new ids is made listing same = record {
  to = place_in to;
  from = place_in from;
  reordered = reordered to from code new is made;
  listed = λ c lt. same c (omega (arith, lt, listing.many));
  depths = ap (λ (p : VProc). depths p) made ∙ listed_depths code (place_in to) ids from
      (omega (arith, is.blocks, listing.many)) (λ c lt. same c (omega (arith, lt, listing.many)));
}

-- the block that is listed last stands last
pub last_place : (code new : VProc) (ids : List BlockId) (order : IsInOrder code ids new) →
    IsListing (count code) ids → (last : ℕ) → IsLast ids last → suc (order.to last) ≡ count code
last_place code new ids order listing last l =
    let long : length l.rest + 1 ≡ count code =
    omega (arith, ap (λ k. length k) l.is, length-append l.rest (l.last ∷ []), listing.many) in
    let at : length l.rest < count code = omega (arith, long) in
    let here : order.from (length l.rest) ≡ last =
    order.listed (length l.rest) (omega (arith, at, listing.many))
    ∙ ap (λ k. number_at k (length l.rest)) l.is ∙ ap (λ (z : BlockId). z.0)
    (get_or-append_seam l.rest l.last [] none) ∙ l.number in
    omega (arith, ap order.to (sym here), order.reordered.forth (length l.rest) at, long)

-- an order begins with the entry, as the list does
pub first_place : (n : ℕ) (ids : List BlockId) → IsListing n ids → (to from : List ℕ) →
    IsOrder n to from → (k : ℕ) → k < 1 → place_in from k ≡ number_at ids k
first_place n ids listing to from is k lt = let first : k ≡ 0 = omega (arith, lt) in
    ap (place_in from) first ∙ by_cases (cases_lt 0 n) ∙ sym listing.entry ∙ ap (number_at ids)
    (sym first)
  where
    none_there : (xs : List ℕ) → length xs ≡ 0 → place_in xs 0 ≡ 0
    none_there [] long = refl
    none_there (x ∷ xs) long = absurd (omega (arith, long))

    by_cases : (0 < n) ⊎ (n ≤ 0) → place_in from 0 ≡ 0
    by_cases (inl some) = ap (place_in from) (sym is.entry) ∙ (is.there 0 some).1
    by_cases (inr none_at) = none_there from (omega (arith, none_at, is.blocks))
