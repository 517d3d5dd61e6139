-- The ends of memory pairs that a path brings to memory.
use Rattle.std.proofs.Common.{ℕ, zero, suc, ◌≡◌, ◌+◌, ◌-◌, ◌<◌, ◌≤◌, Bool, true, false, ◌&&◌, ◌||◌}
use Rattle.std.proofs.Common.{cond, eqb, List, [], ◌∷◌, ◌++◌, length, map, get_or, take, All}
use Rattle.std.proofs.Common.{count_by, Option, Some, None, refl, sym, ap, ◌∙◌, arith, add-one, inl}
use Rattle.std.proofs.Common.{inr}
use Rattle.std.specs.Prelude.{nat_lt, IfSome}
use Rattle.std.specs.List.{range_with_len, flat_map, filter_map, enumerate_from, cons_option}
use Rattle.std.proofs.lemmas.Bool.Decides.{nat_tests}
use Rattle.std.proofs.lemmas.List.Sums.{count_by-le-length, count_by_more_yes, count_by_more_no}
use Rattle.std.proofs.lemmas.Bool.{cases_Bool, eq-eqb, ne_eqb, lt-ltb, le-ltb}
use Rattle.std.proofs.lemmas.List.{map-append, length-map, get_or-append_right, get_or_append_left}
use Rattle.std.proofs.lemmas.List.FromFn.{length-map-range_with_len, get_or-map-range_with_len}
use Rattle.std.proofs.lemmas.List.Elements.{All-nil, All-cons, All-map, All-head, All-tail}
use Rattle.pra_list.proofs.Comprehensions.{All-filter_map, All-flat_map, All-range, IfSome-test}
use Rattle.pra_list.proofs.Counts.{bit, count-cons, count-none}
use Rattle.pra_base.specs.declared.ids.Place.{Place}
use Rattle.pra_base.specs.declared.ids.Place.TheVariants.{Mem}
use Rattle.pra_base.specs.Places.{number, is_mem}
use Rattle.net_form.specs.declared.net.Strand.{Strand}
use Rattle.net_form.specs.declared.net.MemPair.{MemPair}
use Rattle.net_form.specs.declared.net.PairEnd.{PairEnd}
use Rattle.net_form.specs.declared.net.NetIndex.{NetIndex}
use Rattle.net_form.specs.declared.net.Net.{Net}
use Rattle.net_form.specs.Admitted.{strand_at, no_strand, uses_memory}
use Rattle.net_form.specs.Flow.{edges}
use Rattle.net_form.specs.Formed.{IsFormed}
use Rattle.net_form.specs.Index.{OwnedEnd, is_end, ends_at, owned_ends}
use Rattle.net_form.specs.InUse.{brings_end, in_memory, no_pair, pair_uses}
use Rattle.net_form.proofs.TakenFlows.{count-append}

-- ---- what comes of each element lies together, in order

module _ {A X : Type 0} (f : ℕ × A → List X) (key : X → ℕ)
    (is : (s : ℕ × A) → All (λ x. key x ≡ s.0) (f s)) where
  abbrev all : ℕ → List A → List X
  all n xs = flat_map f (enumerate_from n xs)

  -- of all from number n on, what belongs to lower numbers than k
  abbrev below : ℕ → ℕ → List A → ℕ
  below k n xs = count_by (λ x. nat_lt (key x) k) (all n xs)

  count_low : (k : ℕ) (s : ℕ × A) → s.0 < k → count_by (λ x. nat_lt (key x) k) (f s) ≡ length (f s)
  count_low k s lt = count_all (f s) (is s)
    where
      count_all : (ys : List X) → All (λ x. key x ≡ s.0) ys → count_by (λ x. nat_lt (key x) k) ys ≡
          length ys
      count_all [] h = refl
      count_all (y ∷ ys) h =
          let one = count-cons (λ x. nat_lt (key x) k) y ys in
          let same = All-head (λ x. key x ≡ s.0) y ys h in
          let yes_ = ap bit (lt-ltb (key y) k (omega (arith, same, lt))) in
          let more = count_all ys (All-tail (λ x. key x ≡ s.0) y ys h) in
          omega (arith, one, yes_, more)

  count_high : (k : ℕ) (s : ℕ × A) → k ≤ s.0 → count_by (λ x. nat_lt (key x) k) (f s) ≡ 0
  count_high k s le = count-none (λ x. nat_lt (key x) k) (f s)
      (λ i d lt. let same = is s i d lt in le-ltb (key (get_or (f s) i d)) k
      (omega (arith, same, le)))

  pub below_none : (k n : ℕ) (xs : List A) → k ≤ n → below k n xs ≡ 0
  below_none k n [] le = refl
  below_none k n (x ∷ xs) le =
      let both = count-append (λ x. nat_lt (key x) k) (f (n, x)) (all (n + 1) xs) in
      let one = count_high k (n, x) le in
      let more = below_none k (n + 1) xs (omega (arith, le)) in
      omega (arith, both, one, more)

  pub below_more : (i n : ℕ) (xs : List A) (d : A) → i < length xs → below (n + i + 1) n xs ≡
      below (n + i) n xs + length (f (n + i, get_or xs i d))
  below_more i n [] d lt = absurd (omega (arith, lt))
  below_more zero n (x ∷ xs) d lt =
      let e : n + 0 ≡ n = omega arith in
      let both = count-append (λ x. nat_lt (key x) (n + 0 + 1)) (f (n, x)) (all (n + 1) xs) in
      let none = count-append (λ x. nat_lt (key x) (n + 0)) (f (n, x)) (all (n + 1) xs) in
      let low = count_low (n + 0 + 1) (n, x) (omega arith) in
      let high = count_high (n + 0) (n, x) (omega arith) in
      let rest = below_none (n + 0 + 1) (n + 1) xs (omega arith) in
      let rest_too = below_none (n + 0) (n + 1) xs (omega arith) in
      let same = ap (λ k. length (f (k, x))) e in
      omega (arith, both, none, low, high, rest, rest_too, same)
  below_more (suc i) n (x ∷ xs) d lt =
      let e : n + 1 + i ≡ n + suc i = omega arith in
      let more = below_more i (n + 1) xs d (omega (arith, lt)) in
      let moved = ap (λ k. below (k + 1) (n + 1) xs) e in
      let moved_too = ap (λ k. below k (n + 1) xs) e in
      let size = ap (λ k. length (f (k, get_or xs i d))) e in
      let both = count-append (λ x. nat_lt (key x) (n + suc i + 1)) (f (n, x)) (all (n + 1) xs) in
      let both_too = count-append (λ x. nat_lt (key x) (n + suc i)) (f (n, x)) (all (n + 1) xs) in
      let low = count_low (n + suc i + 1) (n, x) (omega arith) in
      let low_too = count_low (n + suc i) (n, x) (omega arith) in
      omega (arith, more, moved, moved_too, size, both, both_too, low, low_too)

  pub lies_there : (i n : ℕ) (xs : List A) (d : A) (j : ℕ) (e : X) → i < length xs →
      j < length (f (n + i, get_or xs i d))
      → get_or (all n xs) (below (n + i) n xs + j) e ≡ get_or (f (n + i, get_or xs i d)) j e
  lies_there i n [] d j e lt in_ = absurd (omega (arith, lt))
  lies_there zero n (x ∷ xs) d j e lt in_ =
      let same : n + 0 ≡ n = omega arith in
      let none = count-append (λ x. nat_lt (key x) (n + 0)) (f (n, x)) (all (n + 1) xs) in
      let high = count_high (n + 0) (n, x) (omega arith) in
      let rest = below_none (n + 0) (n + 1) xs (omega arith) in
      let size = ap (λ k. length (f (k, x))) same in
      let at : below (n + 0) n (x ∷ xs) + j ≡ j = omega (arith, none, high, rest) in
      ap (λ k. get_or (f (n, x) ++ all (n + 1) xs) k e) at
      ∙ get_or_append_left (f (n, x)) (all (n + 1) xs) e j (omega (arith, in_, size))
      ∙ ap (λ k. get_or (f (k, x)) j e) (sym same)
  lies_there (suc i) n (x ∷ xs) d j e lt in_ =
      let same : n + 1 + i ≡ n + suc i = omega arith in
      let both = count-append (λ x. nat_lt (key x) (n + suc i)) (f (n, x)) (all (n + 1) xs) in
      let low = count_low (n + suc i) (n, x) (omega arith) in
      let moved = ap (λ k. below k (n + 1) xs) same in
      let size = ap (λ k. length (f (k, get_or xs i d))) same in
      let at : below (n + suc i) n (x ∷ xs) + j ≡
      length (f (n, x)) + (below (n + 1 + i) (n + 1) xs + j) =
      omega (arith, both, low, moved) in
      ap (λ k. get_or (f (n, x) ++ all (n + 1) xs) k e) at
      ∙ get_or-append_right (f (n, x)) (all (n + 1) xs) (length (f (n, x)))
      (length (f (n, x)) + (below (n + 1 + i) (n + 1) xs + j)) e refl (omega arith)
      ∙ ap (λ k. get_or (all (n + 1) xs) k e)
      (let back : length (f (n, x)) + (below (n + 1 + i) (n + 1) xs + j) - length (f (n, x)) ≡
      below (n + 1 + i) (n + 1) xs + j = omega arith in back)
      ∙ lies_there i (n + 1) xs d j e (omega (arith, lt)) (omega (arith, in_, size))
      ∙ ap (λ k. get_or (f (k, get_or xs i d)) j e) same

-- ---- the ends of a strand

abbrev pub ends_from : List MemPair → ℕ → ℕ → ℕ → List PairEnd
ends_from pairs s l n = map (λ e. e.at) (flat_map (ends_at pairs s) (range_with_len l n))

abbrev pub strand_ends : Net → ℕ → List PairEnd
strand_ends net s = ends_from net.pairs s (strand_at net s).first (length (strand_at net s).masks)

-- ---- how often a path uses a pair

module _ (s : ℕ) (at_mem : ℕ → Bool) (k : ℕ) where
  abbrev brings_owned : OwnedEnd → Bool
  brings_owned e = brings_end at_mem k e.at

  abbrev end_at : ℕ → ℕ × MemPair → Option OwnedEnd
  end_at l m = cond (is_end s l m.1)
      (Some (record { strand = s; at = record { layer = l; pair = m.0 } })) None

  one_end : (l n : ℕ) (m : MemPair) (rest : List OwnedEnd) (b : Bool) → is_end s l m ≡ b
      → count_by brings_owned (cons_option (end_at l (n, m)) rest) ≡
      bit (b && (eqb n k && at_mem l)) + count_by brings_owned rest
  one_end l n m rest true is =
      ap (λ b. count_by brings_owned
      (cons_option (cond b (Some (record { strand = s; at = record { layer = l; pair = n } }))
      None) rest)) is
      ∙ count-cons brings_owned (record { strand = s; at = record { layer = l; pair = n } }) rest
  one_end l n m rest false is =
      ap (λ b. count_by brings_owned
      (cons_option (cond b (Some (record { strand = s; at = record { layer = l; pair = n } }))
      None) rest)) is
      ∙ (let e : count_by brings_owned rest ≡ 0 + count_by brings_owned rest = omega arith in e)

  layer_none : (l n : ℕ) (ms : List MemPair) → k < n →
      count_by brings_owned (filter_map (end_at l) (enumerate_from n ms)) ≡ 0
  layer_none l n [] lt = refl
  layer_none l n (m ∷ ms) lt =
      let one = one_end l n m (filter_map (end_at l) (enumerate_from (n + 1) ms)) (is_end s l m)
      refl in
      let none = none_here (is_end s l m) (eqb n k) (at_mem l)
      (ne_eqb n k (λ same. omega (arith, same, lt))) in
      let more = layer_none l (n + 1) ms (omega (arith, lt)) in
      omega (arith, one, none, more)
    where
      none_here : (a b c : Bool) → b ≡ false → bit (a && (b && c)) ≡ 0
      none_here true b c h = ap (λ b. bit (b && c)) h
      none_here false b c h = refl

  layer_count : (l n j : ℕ) (ms : List MemPair) (d : MemPair) → n + j ≡ k → j < length ms
      → count_by brings_owned (filter_map (end_at l) (enumerate_from n ms)) ≡
      bit (is_end s l (get_or ms j d) && at_mem l)
  layer_count l n j [] d at lt = absurd (omega (arith, lt))
  layer_count l n zero (m ∷ ms) d at lt =
      let one = one_end l n m (filter_map (end_at l) (enumerate_from (n + 1) ms)) (is_end s l m)
      refl in
      let here = ap (λ b. bit (is_end s l m && (b && at_mem l))) (eq-eqb n k (omega (arith, at))) in
      let more = layer_none l (n + 1) ms (omega (arith, at)) in
      omega (arith, one, here, more)
  layer_count l n (suc j) (m ∷ ms) d at lt =
      let one = one_end l n m (filter_map (end_at l) (enumerate_from (n + 1) ms)) (is_end s l m)
      refl in
      let none = none_here (is_end s l m) (eqb n k) (at_mem l)
      (ne_eqb n k (λ same. omega (arith, same, at))) in
      let more = layer_count l (n + 1) j ms d (omega (arith, at)) (omega (arith, lt)) in
      omega (arith, one, none, more)
    where
      none_here : (a b c : Bool) → b ≡ false → bit (a && (b && c)) ≡ 0
      none_here true b c h = ap (λ b. bit (b && c)) h
      none_here false b c h = refl

  -- whichever way round an end is asked for
  same_way : (a b l n : ℕ) → (eqb a b && eqb l n) ≡ (eqb b a && eqb n l)
  same_way a b l n = grind (arith, nat_tests)

  same_end : (m : MemPair) (l : ℕ) (p : Option Place) (q : Place) (b : Bool) → b ≡ is_mem (number q)
      → (is_end s l m && b) ≡ uses_memory m (record { strand = s; layer = l; from = p; to = q })
  same_end m l p q b is =
      ap (λ x. (x || (eqb m.right s && eqb m.right_layer l)) && b)
      (same_way m.left s m.left_layer l)
      ∙ ap (λ x. ((eqb s m.left && eqb l m.left_layer) || x) && b)
      (same_way m.right s m.right_layer l)
      ∙ ap (λ x. ((eqb s m.left && eqb l m.left_layer) || (eqb s m.right && eqb l m.right_layer)) &&
      x) is

  pub path_brings : (ms : List MemPair) (d : MemPair) → k < length ms →
      (l : ℕ) (p : Option Place) (ps : List Place)
      → ((j : ℕ) → j < length ps → at_mem (l + j) ≡ is_mem (number (get_or ps j Mem)))
      → count_by (brings_end at_mem k) (ends_from ms s l (length ps)) ≡
      count_by (uses_memory (get_or ms k d)) (edges s l p ps)
  path_brings ms d lt l p [] agrees = refl
  path_brings ms d lt l p (q ∷ qs) agrees =
      let m : MemPair = get_or ms k d in
      let first = map-append (λ (e : OwnedEnd). e.at) (ends_at ms s l)
      (flat_map (ends_at ms s) (range_with_len (l + 1) (length qs))) in
      let both = ap (count_by (brings_end at_mem k)) first ∙ count-append (brings_end at_mem k)
      (map (λ (e : OwnedEnd). e.at) (ends_at ms s l)) (ends_from ms s (l + 1) (length qs)) in
      let here = count-map (λ (e : OwnedEnd). e.at) (brings_end at_mem k) (ends_at ms s l)
      ∙ layer_count l 0 k ms d (omega arith) lt in
      let mem : at_mem l ≡ is_mem (number q) = ap at_mem (let e : l ≡ l + 0 = omega arith in e)
      ∙ agrees 0 (omega arith) in
      let edge = ap bit (same_end m l p q (at_mem l) mem) in
      let all = count-cons (uses_memory m) (record { strand = s; layer = l; from = p; to = q })
      (edges s (suc l) (Some q) qs) in
      let more = path_brings ms d lt (l + 1) (Some q) qs
      (λ j in_. ap at_mem (let e : l + 1 + j ≡ l + suc j = omega arith in e)
      ∙ agrees (suc j) (omega (arith, in_))) in
      let moved = ap (λ n. count_by (uses_memory m) (edges s n (Some q) qs)) (add-one l) in
      omega (arith, both, here, edge, all, more, moved)
    where
      count-map : {X Y : Type 0} (g : X → Y) (p : Y → Bool) (xs : List X) → count_by p (map g xs) ≡
          count_by (λ x. p (g x)) xs
      count-map g p [] = refl
      count-map g p (x ∷ xs) =
          let a = count-cons p (g x) (map g xs) in
          let b = count-cons (λ x. p (g x)) x xs in
          let more = count-map g p xs in
          omega (arith, a, b, more)

-- ---- where the ends of a strand lie in the index

pub record IsEndOf (pairs first n : ℕ) (e : PairEnd) : Type 0 where
  pub pair : e.pair < pairs
  pub after : first ≤ e.layer
  pub before : e.layer < first + n

pub ends_within : (ms : List MemPair) (s l n : ℕ) → All (IsEndOf (length ms) l n)
    (ends_from ms s l n)
ends_within ms s l n = All-map (IsEndOf (length ms) l n) (λ (e : OwnedEnd). e.at)
    (flat_map (ends_at ms s) (range_with_len l n))
    (All-flat_map (λ (e : OwnedEnd). IsEndOf (length ms) l n e.at) (ends_at ms s)
    (range_with_len l n)
    (All-range (λ k. All (λ (e : OwnedEnd). IsEndOf (length ms) l n e.at) (ends_at ms s k)) l n
    (λ k le lt. layer_within k le lt 0 ms (omega arith))))
  where
    layer_within : (k : ℕ) → l ≤ k → k < l + n → (at : ℕ) (xs : List MemPair) → at + length xs ≤
        length ms
        → All (λ (e : OwnedEnd). IsEndOf (length ms) l n e.at)
        (filter_map (λ m. cond (is_end s k m.1)
        (Some (record { strand = s; at = record { layer = k; pair = m.0 } })) None)
        (enumerate_from at xs))
    layer_within k le lt at xs few = All-filter_map (λ (e : OwnedEnd). IsEndOf (length ms) l n e.at)
        (λ m. cond (is_end s k m.1)
        (Some (record { strand = s; at = record { layer = k; pair = m.0 } })) None)
        (enumerate_from at xs)
        (each at xs few)
      where
        each : (at : ℕ) (xs : List MemPair) → at + length xs ≤ length ms
            → All (λ (m : ℕ × MemPair). IfSome
            (cond (is_end s k m.1) (Some
            (record { strand = s; at = record { layer = k; pair = m.0 } })) None)
            (λ (e : OwnedEnd). IsEndOf (length ms) l n e.at)) (enumerate_from at xs)
        each at [] few = All-nil _
        each at (x ∷ xs) few = All-cons
            (λ (m : ℕ × MemPair). IfSome
            (cond (is_end s k m.1) (Some
            (record { strand = s; at = record { layer = k; pair = m.0 } })) None)
            (λ (e : OwnedEnd). IsEndOf (length ms) l n e.at)) (at, x) (enumerate_from (at + 1) xs)
            (IfSome-test (λ (e : OwnedEnd). IsEndOf (length ms) l n e.at) (is_end s k x)
            (record { strand = s; at = record { layer = k; pair = at } })
            (λ _. record { pair = omega (arith, few); after = le; before = lt }))
            (each (at + 1) xs (omega (arith, few)))

module _ (net : Net) (formed : IsFormed net) where
  abbrev pub owned_of : ℕ × Strand → List OwnedEnd
  owned_of s = flat_map (ends_at net.pairs s.0) (range_with_len s.1.first (length s.1.masks))

  pub owned_is : (s : ℕ × Strand) → All (λ (e : OwnedEnd). e.strand ≡ s.0) (owned_of s)
  owned_is s = All-flat_map (λ (e : OwnedEnd). e.strand ≡ s.0) (ends_at net.pairs s.0)
      (range_with_len s.1.first (length s.1.masks)) (λ k d lt.
      All-filter_map (λ (e : OwnedEnd). e.strand ≡ s.0) _ (enumerate_from 0 net.pairs) (λ j e in_.
      IfSome-test (λ (e : OwnedEnd). e.strand ≡ s.0)
      (is_end s.0 (get_or (range_with_len s.1.first (length s.1.masks)) k d)
      (get_or (enumerate_from 0 net.pairs) j e).1) _ (λ _. refl)))

  abbrev pub start : ℕ → ℕ
  start s = below owned_of (λ e. e.strand) owned_is s 0 net.strands

  pub pairs_long : length net.index.pairs ≡ length net.strands + 1
  pairs_long = ap (λ (i : NetIndex). length i.pairs) formed.index
      ∙ length-map-range_with_len
      (λ s. count_by (λ (e : OwnedEnd). nat_lt e.strand s) (owned_ends net.pairs net.strands)) 0
      (length net.strands + 1)

  pub pairs_begin : (s : ℕ) → s ≤ length net.strands → get_or net.index.pairs s 0 ≡ start s
  pairs_begin s le = ap (λ (i : NetIndex). get_or i.pairs s 0) formed.index
      ∙ get_or-map-range_with_len
      (λ s. count_by (λ (e : OwnedEnd). nat_lt e.strand s) (owned_ends net.pairs net.strands)) 0
      (length net.strands + 1) s s 0 (omega (arith, le)) (omega arith)

  -- as many as there are
  pub pairs_end : (s : ℕ) → s < length net.strands → get_or net.index.pairs (s + 1) 0 ≡
      get_or net.index.pairs s 0 + length (strand_ends net s)
  pairs_end s lt =
      let more = below_more owned_of (λ e. e.strand) owned_is s 0 net.strands no_strand lt in
      let a = pairs_begin s (omega (arith, lt)) in
      let b = pairs_begin (s + 1) (omega (arith, lt)) in
      let e : 0 + s ≡ s = omega arith in
      let from = ap start e in
      let to = ap (λ n. start (n + 1)) e in
      let size = ap (λ n. length (owned_of (n, strand_at net s))) e
      ∙ sym (length-map (owned_of (s, strand_at net s)) (λ (e : OwnedEnd). e.at)) in
      omega (arith, more, a, b, from, to, size)

  -- and there they are
  pub ends_there : (s j : ℕ) (d : PairEnd) → s < length net.strands → j < length (strand_ends net s)
      → get_or net.index.ends (get_or net.index.pairs s 0 + j) d ≡ get_or (strand_ends net s) j d
  ends_there s j d lt in_ =
      let e : 0 + s ≡ s = omega arith in
      let o : OwnedEnd = record { strand = 0; at = d } in
      let long = length-map (owned_of (s, strand_at net s)) (λ (e : OwnedEnd). e.at) in
      let size = ap (λ n. length (owned_of (n, strand_at net s))) e in
      ap (λ (i : NetIndex). get_or i.ends (get_or net.index.pairs s 0 + j) d) formed.index
      ∙ ap (λ n. get_or (map (λ (e : OwnedEnd). e.at) (owned_ends net.pairs net.strands)) (n + j) d)
      (pairs_begin s (omega (arith, lt)) ∙ sym (ap start e))
      ∙ mapped (λ (e : OwnedEnd). e.at) (owned_ends net.pairs net.strands) (start (0 + s) + j) o
      ∙ ap (λ (e : OwnedEnd). e.at)
      (lies_there owned_of (λ e. e.strand) owned_is s 0 net.strands no_strand j o lt
      (omega (arith, in_, long, size))
      ∙ ap (λ n. get_or (owned_of (n, strand_at net s)) j o) e)
      ∙ sym (mapped (λ (e : OwnedEnd). e.at) (owned_of (s, strand_at net s)) j o)
    where
      mapped : {X Y : Type 0} (g : X → Y) (xs : List X) (i : ℕ) (d : X) →
          get_or (map g xs) i (g d) ≡ g (get_or xs i d)
      mapped g [] i d = refl
      mapped g (x ∷ xs) zero d = refl
      mapped g (x ∷ xs) (suc i) d = mapped g xs i d

  pub ends_few : (s : ℕ) → s < length net.strands → get_or net.index.pairs (s + 1) 0 ≤
      length net.index.ends
  ends_few s lt =
      let b = pairs_begin (s + 1) (omega (arith, lt)) in
      let most = count_by-le-length (λ (e : OwnedEnd). nat_lt e.strand (s + 1))
      (owned_ends net.pairs net.strands) in
      let long = ap (λ (i : NetIndex). length i.ends) formed.index
      ∙ length-map (owned_ends net.pairs net.strands) (λ (e : OwnedEnd). e.at) in
      omega (arith, b, most, long)

-- ---- one end after another

pub count_step : {X : Type 0} (p : X → Bool) (xs : List X) (i : ℕ) (d : X) → i < length xs →
    count_by p (take (i + 1) xs) ≡ count_by p (take i xs) + bit (p (get_or xs i d))
count_step p xs i d lt =
    elim (cases_Bool (p (get_or xs i d))) as (λ _. count_by p (take (i + 1) xs) ≡
    count_by p (take i xs) + bit (p (get_or xs i d))) [
      | inl is ↦ let more = count_by_more_yes p xs i d lt is in let one = ap bit is in
          omega (arith, more, one)
      | inr is ↦ let more = count_by_more_no p xs i d lt is in let none = ap bit is in
          omega (arith, more, none)
    ]

-- all ends of a strand, and what its path uses
pub all_brought : (net : Net) (s k : ℕ) (path : List Place) → IsFormed net →
    s < length net.strands → k < length net.pairs
    → (strand_at net s).first + length path ≡ (strand_at net s).last + 1
    → count_by (brings_end (in_memory path (strand_at net s).first) k) (strand_ends net s) ≡
    pair_uses net (edges s (strand_at net s).first None path) k
all_brought net s k path formed lt in_ long =
    let first = (strand_at net s).first in
    let masks = (formed.strands s no_strand lt).masks in
    let same : length (strand_at net s).masks ≡ length path = omega (arith, masks, long) in
    ap (λ n. count_by (brings_end (in_memory path first) k) (ends_from net.pairs s first n)) same
    ∙ path_brings s (in_memory path first) k net.pairs no_pair in_ first None path (λ j j_lt.
    ap (λ n. is_mem (number (get_or path n Mem))) (let e : first + j - first ≡ j = omega arith in
    e))
