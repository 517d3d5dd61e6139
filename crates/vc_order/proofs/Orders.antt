-- Orders as two lists: exchanges keep them, and the blocks in an order are the code reordered.
use Rattle.std.proofs.Common.{◌≡◌, ◌≢◌, ℕ, zero, suc, ◌+◌, ◌<◌, ⊎_elim, take, List, [], ◌∷◌, ◌++◌}
use Rattle.std.proofs.Common.{length, map, slice_get, slice_index_or, Some, refl, sym, ap, ap₂, ◌∙◌}
use Rattle.std.proofs.Common.{arith}
use Rattle.std.specs.Prelude.{option_map, sum_by}
use Rattle.std.specs.List.{range_with_len}
use Rattle.std.specs.List.Sorted.{IsPermutation}
use Rattle.std.specs.List.{swap}
use Rattle.std.proofs.Math.ListN.{get_or, set}
use Rattle.std.proofs.lemmas.Bool.{cases_eq}
use Rattle.std.proofs.lemmas.List.{length-set, length-map, get_or-set_same, get_or-set_other}
use Rattle.std.proofs.lemmas.List.Edits.{swap_is}
use Rattle.std.proofs.lemmas.List.Sums.{sum_by-cons}
use Rattle.std.proofs.lemmas.List.Sorted.{IsPermutation-refl, IsPermutation-trans}
use Rattle.std.proofs.lemmas.List.Sorted.{sum_by-IsPermutation}
use Rattle.std.proofs.lemmas.Option.{slice_get-get_or, slice_get-map, slice_get_within}
use Rattle.std.proofs.lemmas.Option.{get_or_from_slice_get}
use Rattle.pra_list.proofs.Growing.{last_range}
use Rattle.pra_list.proofs.Options.{some_same}
use Rattle.pra_list.proofs.Comprehensions.{sum_by-map}
use Rattle.pra_base.specs.declared.code.Block.{Block}
use Rattle.pra_base.specs.declared.code.VProc.{VProc}
use Rattle.pra_base.specs.Code.{block_of, no_block}
use Rattle.pra_base.specs.Valid.{instruction_count}
use Rattle.vc_order.specs.Order.{place_in, IsOrder, block_with, blocks_in, Reordered}

-- within a list it makes no difference what stands for what is past its end
pub any_default : (xs : List ℕ) (k d e : ℕ) → k < length xs → get_or xs k d ≡ get_or xs k e
any_default xs k d e lt = some_same (get_or xs k d) (get_or xs k e)
    (sym (slice_get-get_or xs k d lt) ∙ slice_get-get_or xs k e lt)

-- what is read at a place of a list
pub read : (xs : List ℕ) (k r : ℕ) → k < length xs → r ≡ slice_index_or xs k r → r ≡ place_in xs k
read xs k r lt e = e ∙ any_default xs k r k lt

pub swapped_second : (xs : List ℕ) (i j k : ℕ) → i < length xs → j < length xs → k ≡ j →
    place_in (swap xs i j) k ≡ place_in xs i
swapped_second xs i j k li lj e =
    let long : length (set xs i (get_or xs j k)) ≡ length xs = length-set xs i (get_or xs j k) in
    sym (ap (λ l. get_or l k k) (swap_is xs i j k li lj))
    ∙ ap (λ z. get_or (set (set xs i (get_or xs j k)) j (get_or xs i k)) z k) e
    ∙ get_or-set_same (set xs i (get_or xs j k)) j (get_or xs i k) k (omega (arith, lj, long))
    ∙ any_default xs i k i li

pub swapped_first : (xs : List ℕ) (i j k : ℕ) → i < length xs → j < length xs → k ≢ j → k ≡ i →
    place_in (swap xs i j) k ≡ place_in xs j
swapped_first xs i j k li lj d e =
    sym (ap (λ l. get_or l k k) (swap_is xs i j k li lj))
    ∙ get_or-set_other (set xs i (get_or xs j k)) j k (get_or xs i k) k d
    ∙ ap (λ z. get_or (set xs i (get_or xs j k)) z k) e
    ∙ get_or-set_same xs i (get_or xs j k) k li
    ∙ any_default xs j k j lj

pub swapped_other : (xs : List ℕ) (i j k : ℕ) → i < length xs → j < length xs → k ≢ j → k ≢ i →
    place_in (swap xs i j) k ≡ place_in xs k
swapped_other xs i j k li lj d e =
    sym (ap (λ l. get_or l k k) (swap_is xs i j k li lj))
    ∙ get_or-set_other (set xs i (get_or xs j k)) j k (get_or xs i k) k d
    ∙ get_or-set_other xs i k (get_or xs j k) k e

swapped_long : (xs : List ℕ) (i j : ℕ) → i < length xs → j < length xs → length (swap xs i j) ≡
    length xs
swapped_long xs i j li lj =
    sym (ap (λ l. length l) (swap_is xs i j 0 li lj)) ∙ length-set (set xs i (get_or xs j 0)) j
    (get_or xs i 0) ∙ length-set xs i (get_or xs j 0)

-- ---- an exchange

module _ (n : ℕ) (to from : List ℕ) (is : IsOrder n to from) (c d : ℕ) (first : 0 < c)
    (second : 0 < d) (lc : c < n) (ld : d < n) where
  abbrev a : ℕ
  a = place_in from c

  abbrev b : ℕ
  b = place_in from d

  abbrev to' : List ℕ
  to' = swap to a b

  abbrev from' : List ℕ
  from' = swap from c d

  la : a < length to
  la = let long = is.places in omega (arith, (is.back c lc).0, long)

  lb : b < length to
  lb = let long = is.places in omega (arith, (is.back d ld).0, long)

  lc' : c < length from
  lc' = let long = is.blocks in omega (arith, lc, long)

  ld' : d < length from
  ld' = let long = is.blocks in omega (arith, ld, long)

  to_a : place_in to a ≡ c
  to_a = (is.back c lc).1

  to_b : place_in to b ≡ d
  to_b = (is.back d ld).1

  a_is : c ≡ d → a ≡ b
  a_is e = ap (place_in from) e

  pub to_there : (x : ℕ) → x < n → (place_in to' x < n) × (place_in from' (place_in to' x) ≡ x)
  to_there x lx =
      ⊎_elim
      (λ (e : x ≡ b).
      let place : place_in to' x ≡ c = swapped_second to a b x la lb e ∙ to_a in
      let block : place_in from' c ≡ x =
      ⊎_elim (λ (s : c ≡ d). swapped_second from c d c lc' ld' s ∙ a_is s ∙ sym e)
      (λ (s : c ≢ d). swapped_first from c d c lc' ld' s refl ∙ sym e) (cases_eq c d) in
      (omega (arith, place, lc), ap (place_in from') place ∙ block))
      (λ (u : x ≢ b). ⊎_elim
      (λ (e : x ≡ a).
      let place : place_in to' x ≡ d = swapped_first to a b x la lb u e ∙ to_b in (
        omega (arith, place, ld),
        ap (place_in from') place ∙ swapped_second from c d d lc' ld' refl
            ∙ sym e,
      ))
      (λ (v : x ≢ a).
      let place : place_in to' x ≡ place_in to x = swapped_other to a b x la lb u v in
      let old = is.there x lx in
      let not_d : place_in to x ≢ d = λ e. u (sym old.1 ∙ ap (place_in from) e) in
      let not_c : place_in to x ≢ c = λ e. v (sym old.1 ∙ ap (place_in from) e) in (
        omega (arith, place, old.0),
        ap (place_in from') place ∙ swapped_other from c d
            (place_in to x) lc' ld' not_d not_c ∙ old.1,
      ))
      (cases_eq x a))
      (cases_eq x b)

  pub from_back : (k : ℕ) → k < n → (place_in from' k < n) × (place_in to' (place_in from' k) ≡ k)
  from_back k lk =
      ⊎_elim
      (λ (e : k ≡ d).
      let block : place_in from' k ≡ a = swapped_second from c d k lc' ld' e in
      let place : place_in to' a ≡ k =
      ⊎_elim (λ (s : a ≡ b). swapped_second to a b a la lb s ∙ to_a ∙ sym to_a
      ∙ ap (place_in to) s ∙ to_b ∙ sym e)
      (λ (s : a ≢ b). swapped_first to a b a la lb s refl ∙ to_b ∙ sym e) (cases_eq a b) in
      (omega (arith, block, (is.back c lc).0), ap (place_in to') block ∙ place))
      (λ (u : k ≢ d). ⊎_elim
      (λ (e : k ≡ c).
      let block : place_in from' k ≡ b = swapped_first from c d k lc' ld' u e in (
        omega (arith, block, (is.back d ld).0),
        ap (place_in to') block
            ∙ swapped_second to a b b la lb refl ∙ to_a ∙ sym e,
      ))
      (λ (v : k ≢ c).
      let block : place_in from' k ≡ place_in from k = swapped_other from c d k lc' ld' u v in
      let old = is.back k lk in
      let not_b : place_in from k ≢ b = λ e. u (sym old.1 ∙ ap (place_in to) e ∙ to_b) in
      let not_a : place_in from k ≢ a = λ e. v (sym old.1 ∙ ap (place_in to) e ∙ to_a) in (
        omega (arith, block, old.0),
        ap (place_in to') block ∙ swapped_other to a b (place_in from k)
            la lb not_b not_a ∙ old.1,
      ))
      (cases_eq k c))
      (cases_eq k d)

  pub exchanged : IsPermutation from from' → IsOrder n to' from'
  exchanged moves = record {
    places = swapped_long to a b la lb ∙ is.places;
    blocks = swapped_long from c d lc' ld' ∙ is.blocks;
    entry = swapped_other to a b 0 la lb (λ e. let z : place_in to b ≡ 0 = ap (place_in to) (sym e)
        ∙ is.entry in omega (arith, z, to_b, second))
        (λ e. let z : place_in to a ≡ 0 = ap (place_in to) (sym e) ∙ is.entry in
        omega (arith, z, to_a, first)) ∙ is.entry;
    there = to_there;
    back = from_back;
    all = IsPermutation-trans (range_with_len 0 n) from from' is.all moves;
  }

-- ---- the order in which blocks stand

range_get : (m n k d : ℕ) → k < n → get_or (range_with_len m n) k d ≡ m + k
range_get m zero k d lt = absurd (omega (arith, lt))
range_get m (suc n) zero d lt = omega arith
range_get m (suc n) (suc k) d lt =
    let there : (m + 1) + k ≡ m + suc k = omega arith in range_get (m + 1) n k d (omega (arith, lt))
    ∙ there

range_long : (m n : ℕ) → length (range_with_len m n) ≡ n
range_long m zero = refl
range_long m (suc n) = ap suc (range_long (m + 1) n)

pub one_more : (xs : List ℕ) (b : ℕ) → xs ≡ range_with_len 0 b → xs ++ b ∷ [] ≡
    range_with_len 0 (b + 1)
one_more xs b e = let here : 0 + b ≡ b = omega arith in ap (λ l. l ++ b ∷ []) e
    ∙ ap (λ z. range_with_len 0 b ++ z ∷ []) (sym here) ∙ sym (last_range 0 b)

pub same_is : (n : ℕ) → IsOrder n (range_with_len 0 n) (range_with_len 0 n)
same_is n = record {
  places = range_long 0 n;
  blocks = range_long 0 n;
  entry = by_count n;
  there = λ b lt. (
    omega (arith, here b lt, lt),
    ap (place_in (range_with_len 0 n)) (here b lt)
        ∙ here b lt,
  );
  back = λ b lt. (
    omega (arith, here b lt, lt),
    ap (place_in (range_with_len 0 n)) (here b lt)
        ∙ here b lt,
  );
  all = IsPermutation-refl (range_with_len 0 n);
}
  where
    here : (b : ℕ) → b < n → place_in (range_with_len 0 n) b ≡ b
    here b lt = let there : 0 + b ≡ b = omega arith in range_get 0 n b b lt ∙ there

    by_count : (m : ℕ) → place_in (range_with_len 0 m) 0 ≡ 0
    by_count zero = refl
    by_count (suc m) = refl

-- ---- code in an order

module _ (to from : List ℕ) (code new : VProc) (is : IsOrder (length code.blocks) to from)
    (made : new ≡ record code { blocks = blocks_in to from code }) where
  abbrev n' : ℕ
  n' = length code.blocks

  abbrev with_targets : ℕ → Block
  with_targets b = block_with (place_in to) (block_of code b)

  blocks_are : new.blocks ≡ map with_targets from
  blocks_are = ap (λ (p : VProc). p.blocks) made

  within_old : (b : ℕ) (block : Block) → slice_get code.blocks b ≡ Some block → b < n'
  within_old b block e = slice_get_within code.blocks b block e

  block_there : (b : ℕ) (block : Block) → slice_get code.blocks b ≡ Some block →
      slice_get new.blocks (place_in to b) ≡ Some (block_with (place_in to) block)
  block_there b block e =
      let lt = within_old b block e in
      let there = is.there b lt in
      let long = is.blocks in
      let at : slice_get from (place_in to b) ≡ Some b = slice_get-get_or from (place_in to b)
      (place_in to b) (omega (arith, there.0, long)) ∙ ap Some there.1 in
      ap (λ bs. slice_get bs (place_in to b)) blocks_are
      ∙ slice_get-map with_targets from (place_in to b)
      ∙ ap (option_map with_targets) at
      ∙ ap (λ z. Some (block_with (place_in to) z))
      (get_or_from_slice_get code.blocks b block no_block e)

  abbrev code_length : Block → ℕ
  code_length b = length b.code

  ranged : (m : ℕ) (bs : List Block) → (all : List Block) →
      ((k : ℕ) → k < length bs → get_or all (m + k) no_block ≡ get_or bs k no_block) →
      sum_by (λ b. code_length (get_or all b no_block)) (range_with_len m (length bs)) ≡
      sum_by code_length bs
  ranged m [] all same = refl
  ranged m (x ∷ xs) all same =
      let here : m + 0 ≡ m = omega arith in
      let one : code_length (get_or all m no_block) ≡ code_length x =
      ap (λ k. code_length (get_or all k no_block)) (sym here)
      ∙ ap code_length (same 0 (omega arith)) in
      let rest = ranged (m + 1) xs all (λ k lt. let e : (m + 1) + k ≡ m + suc k = omega arith in
      ap (λ z. get_or all z no_block) e ∙ same (suc k) (omega (arith, lt))) in
      sum_by-cons (λ b. code_length (get_or all b no_block)) m (range_with_len (m + 1) (length xs))
      ∙ ap₂ (λ u v. u + v) one rest
      ∙ sym (sum_by-cons code_length x xs)

  instructions_same : instruction_count new.blocks ≡ instruction_count code.blocks
  instructions_same =
      ap instruction_count blocks_are
      ∙ sum_by-map code_length with_targets from
      ∙ sum_by-IsPermutation (λ b. code_length (get_or code.blocks b no_block))
      (range_with_len 0 n') from is.all
      ∙ ranged 0 code.blocks code.blocks (λ k lt. let there : 0 + k ≡ k = omega arith in
      ap (λ z. get_or code.blocks z no_block) there)

  pub reordered : Reordered (place_in to) (place_in from) code new
  reordered = record {
    id = ap (λ (p : VProc). p.id) made;
    args = ap (λ (p : VProc). p.args) made;
    aggregates = ap (λ (p : VProc). p.aggregates) made;
    vars = ap (λ (p : VProc). p.vars) made;
    count = ap (λ bs. length bs) blocks_are ∙ length-map from with_targets ∙ is.blocks;
    entry = is.entry;
    blocks = block_there;
    back = λ b lt. (is.there b lt).1;
    forth = λ c lt. (is.back c lt).1;
    within = λ c lt. (is.back c lt).0;
    instructions = instructions_same;
  }

-- ---- the blocks so far

pub blocks_more : (f : ℕ → Block) (xs : List ℕ) (c d : ℕ) → c < length xs →
    map f (take (c + 1) xs) ≡ map f (take c xs) ++ f (get_or xs c d) ∷ []
blocks_more f xs c d lt = let e : c + 1 ≡ suc c = omega arith in ap (λ k. map f (take k xs)) e
    ∙ go xs c lt
  where
    go : (ys : List ℕ) (k : ℕ) → k < length ys → map f (take (suc k) ys) ≡ map f (take k ys)
        ++ f (get_or ys k d) ∷ []
    go [] k l = absurd (omega (arith, l))
    go (y ∷ ys) zero l = refl
    go (y ∷ ys) (suc k) l = ap (λ z. f y ∷ z) (go ys k (omega (arith, l)))
