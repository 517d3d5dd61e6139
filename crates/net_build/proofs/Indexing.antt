-- The index of a network, from its owners, and of strands with and without their groups.
use Rattle.std.proofs.Common.{ℕ, zero, suc, ◌≡◌, ◌+◌, ◌<◌, Bool, true, false, Option, cond, eqb}
use Rattle.std.proofs.Common.{List, [], ◌∷◌, map, length, get_or, All, Some, None, refl, sym, ap}
use Rattle.std.proofs.Common.{◌∙◌, arith}
use Rattle.std.specs.Prelude.{nat_lt, IfSome, option_map}
use Rattle.std.specs.List.{range_with_len, flat_map, filter_map, enumerate_from, cons_option}
use Rattle.std.proofs.lemmas.List.{length-map, get_or-map}
use Rattle.std.proofs.lemmas.List.Elements.{All-map, All-weaker}
use Rattle.std.proofs.lemmas.List.FromFn.{length-enumerate_from, get_or-enumerate_from, fill_by_all}
use Rattle.pra_list.proofs.Comprehensions.{All-filter_map, All-flat_map, All-range, All-enumerate}
use Rattle.pra_list.proofs.Comprehensions.{IfSome-test, sum_by-map}
use Rattle.net_form.specs.declared.net.NetBlock.{NetBlock}
use Rattle.net_form.specs.declared.net.Strand.{Strand}
use Rattle.net_form.specs.declared.net.MemPair.{MemPair}
use Rattle.net_form.specs.declared.net.Tie.{Tie}
use Rattle.net_form.specs.Admitted.{no_strand}
use Rattle.net_form.specs.declared.net.TieEnd.{TieEnd}
use Rattle.net_form.specs.Formed.{IsStrandOf}
use Rattle.net_form.specs.Index.{OwnedEnd, Member, beginnings, owned_ends, items_of}
use Rattle.net_form.specs.Index.{by_owner as items_by, ends_in}
use Rattle.net_form.specs.Network.{grouped}
use Rattle.net_build.specs.Owners.{owner_of, if_owned, owned, by_owner, end_owners, pair_end}
use Rattle.net_build.specs.Owners.{no_end, end_at, ArePairs}
use Rattle.net_build.proofs.Comprehended.{filter_map-map, map-map, map-flat_map, by_number}
use Rattle.net_build.proofs.Comprehended.{flat_map-agree}
use Rattle.net_build.proofs.PairEnds.{ends_are}

pub beginnings_of : {X : Type 0} (owner : X → ℕ) (xs : List X) (n : ℕ) →
    beginnings (λ o. o) (map owner xs) n ≡ beginnings owner xs n
beginnings_of owner xs n = λ i. map (λ s. sum_by-map (λ o. cond (nat_lt o s) 1 0) owner xs i)
    (range_with_len 0 (n + 1))

-- each number by owner is one of an item
pub within : (owners : List ℕ) (n : ℕ) → All (λ i. i < length owners) (by_owner owners n)
within owners n = All-flat_map (λ i. i < length owners) (owned owners) (range_with_len 0 n)
    (All-range (λ k. All (λ i. i < length owners) (owned owners k)) 0 n (λ k _ _.
    All-filter_map (λ i. i < length owners) (if_owned owners k) (range_with_len 0 (length owners))
    (All-range (λ i. IfSome (if_owned owners k i) (λ j. j < length owners)) 0 (length owners)
    (λ i _ lt.
    IfSome-test (λ j. j < length owners) (eqb (owner_of owners i) k) i (λ _. omega (arith, lt))))))

-- ---- items by their owners

module _ {X : Type 0} (owner : X → ℕ) (d : X) (none : owner d ≡ 0) where
  pub owner_at : (xs : List X) (k : ℕ) → owner (get_or xs k d) ≡ owner_of (map owner xs) k
  owner_at [] k = none
  owner_at (x ∷ xs) zero = refl
  owner_at (x ∷ xs) (suc k) = owner_at xs k

  items_are : (xs : List X) (s : ℕ) → items_of owner xs s ≡ owned (map owner xs) s
  items_are xs s =
      ap (filter_map (λ t. cond (eqb (owner t.1) s) (Some t.0) None)) (by_number d xs)
      ∙ filter_map-map (λ t. cond (eqb (owner t.1) s) (Some t.0) None) (λ k. (k, get_or xs k d))
      (range_with_len 0 (length xs))
      ∙ (λ i. filter_map (λ k. cond (eqb (owner_at xs k i) s) (Some k) None)
      (range_with_len 0 (length xs)))
      ∙ sym (ap (λ n. filter_map (if_owned (map owner xs) s) (range_with_len 0 n))
      (length-map xs owner))

  pub by_owner_are : (xs : List X) (n : ℕ) → by_owner (map owner xs) n ≡ items_by owner xs n
  by_owner_are xs n = flat_map-agree (owned (map owner xs)) (items_of owner xs) n 0
      (λ k _ _. sym (items_are xs k))

pub arrivals_are : (ties : List Tie) (n : ℕ) → by_owner (map (λ (t : Tie). t.to) ties) n ≡
    items_by (λ t. t.to) ties n
arrivals_are = by_owner_are (λ (t : Tie). t.to) (record { from = 0; to = 0 }) refl

pub vars_are : (ss : List Strand) (n : ℕ) → by_owner (map (λ (t : Strand). t.var.0) ss) n ≡
    items_by (λ t. t.var.0) ss n
vars_are = by_owner_are (λ (t : Strand). t.var.0) no_strand refl

-- ---- ends of strands by their groups

abbrev no_member : Member
no_member = record { group = 0; at = no_end }

map-filter_map : {X Y Z : Type 0} (f : Y → Z) (h : X → Option Y) (xs : List X) →
    map f (filter_map h xs) ≡ filter_map (λ x. option_map f (h x)) xs
map-filter_map f h [] = refl
map-filter_map f h (x ∷ xs) = one_more f (h x) (filter_map h xs)
    (filter_map (λ x. option_map f (h x)) xs) (map-filter_map f h xs)
  where
    one_more : {Y Z : Type 0} (f : Y → Z) (o : Option Y) (ys : List Y) (zs : List Z) → map f ys ≡
        zs → map f (cons_option o ys) ≡ cons_option (option_map f o) zs
    one_more f None ys zs more = more
    one_more f (Some y) ys zs more = ap (λ r. f y ∷ r) more

at_is : (ms : List Member) (k : ℕ) → end_at (map (λ (m : Member). m.at) ms) k ≡
    (get_or ms k no_member).at
at_is [] k = refl
at_is (m ∷ ms) zero = refl
at_is (m ∷ ms) (suc k) = at_is ms k

group_ends : (ms : List Member) (g : ℕ) → map (end_at (map (λ (m : Member). m.at) ms))
    (owned (map (λ (m : Member). m.group) ms) g) ≡ ends_in ms g
group_ends ms g =
    map-filter_map (end_at (map (λ (m : Member). m.at) ms))
    (if_owned (map (λ (m : Member). m.group) ms) g)
    (range_with_len 0 (length (map (λ (m : Member). m.group) ms)))
    ∙ ap (λ n. filter_map (λ i. option_map (end_at (map (λ (m : Member). m.at) ms))
    (if_owned (map (λ (m : Member). m.group) ms) g i)) (range_with_len 0 n))
    (length-map ms (λ (m : Member). m.group))
    ∙ (λ i. filter_map (λ k. same k i) (range_with_len 0 (length ms)))
    ∙ sym (filter_map-map (λ (m : Member). cond (eqb m.group g) (Some m.at) None)
    (λ k. get_or ms k no_member) (range_with_len 0 (length ms)))
    ∙ sym (ap (filter_map (λ (m : Member). cond (eqb m.group g) (Some m.at) None))
    (fill_by_all (λ k. get_or ms k no_member) ms (length ms) no_member refl (λ k _. refl)))
  where
    chosen : (b c : Bool) (x y : TieEnd) (k : ℕ) → b ≡ c →
        end_at (map (λ (m : Member). m.at) ms) k ≡ y
        → option_map (end_at (map (λ (m : Member). m.at) ms)) (cond b (Some k) None) ≡
        cond c (Some y) None
    chosen true c x y k e f = ap Some f ∙ ap (λ t. cond t (Some y) None) e
    chosen false c x y k e f = ap (λ t. cond t (Some y) None) e

    same : (k : ℕ) → option_map (end_at (map (λ (m : Member). m.at) ms))
        (if_owned (map (λ (m : Member). m.group) ms) g k) ≡
        cond (eqb (get_or ms k no_member).group g) (Some (get_or ms k no_member).at) None
    same k = chosen (eqb (owner_of (map (λ (m : Member). m.group) ms) k) g)
        (eqb (get_or ms k no_member).group g) no_end (get_or ms k no_member).at k
        (ap (λ n. eqb n g) (sym (owner_at (λ (m : Member). m.group) no_member refl ms k)))
        (at_is ms k)

pub group_list : (ms : List Member) (n : ℕ) → map (end_at (map (λ (m : Member). m.at) ms))
    (by_owner (map (λ (m : Member). m.group) ms) n) ≡ flat_map (ends_in ms) (range_with_len 0 n)
group_list ms n =
    map-flat_map (end_at (map (λ (m : Member). m.at) ms)) (owned (map (λ (m : Member). m.group) ms))
    (range_with_len 0 n)
    ∙ flat_map-agree (λ k. map (end_at (map (λ (m : Member). m.at) ms))
    (owned (map (λ (m : Member). m.group) ms) k)) (ends_in ms) n 0 (λ k _ _. group_ends ms k)

-- ---- ends of memory pairs

module _ (ss : List Strand) (ps : List MemPair) (are : ArePairs ss ps)
    (masks : (k : ℕ) → k < length ss → (get_or ss k no_strand).first + length
    (get_or ss k no_strand).masks ≡ (get_or ss k no_strand).last + 1) where
  abbrev order : List ℕ
  order = by_owner (end_owners ps) (length ss)

  abbrev name : ℕ → OwnedEnd
  name e = record { strand = owner_of (end_owners ps) e; at = pair_end ps e }

  pub end_list : map (pair_end ps) order ≡ map (λ e. e.at) (owned_ends ps ss)
  end_list = sym (map-map (λ (e : OwnedEnd). e.at) name order)
      ∙ sym (ap (map (λ (e : OwnedEnd). e.at)) (ends_are ss ps are masks))

  pub end_beginnings : beginnings (λ o. o) (map (owner_of (end_owners ps)) order) (length ss) ≡
      beginnings (λ e. e.strand) (owned_ends ps ss) (length ss)
  end_beginnings =
      ap (λ l. beginnings (λ o. o) l (length ss))
      (sym (map-map (λ (e : OwnedEnd). e.strand) name order)
      ∙ sym (ap (map (λ (e : OwnedEnd). e.strand)) (ends_are ss ps are masks)))
      ∙ beginnings_of (λ (e : OwnedEnd). e.strand) (owned_ends ps ss) (length ss)

-- ---- strands with their groups

module _ (ts : List Tie) (least : ℕ → ℕ) (ss : List Strand) where
  abbrev pub with_groups : List Strand
  with_groups = map (grouped ts least) (enumerate_from 0 ss)

  pub as_many : length with_groups ≡ length ss
  as_many = length-map (enumerate_from 0 ss) (grouped ts least) ∙ length-enumerate_from 0 ss

  with_group : (k : ℕ) (t : Strand) → k < length ss → get_or with_groups k t ≡
      grouped ts least (0 + k, get_or ss k t)
  with_group k t lt =
      let long = length-enumerate_from 0 ss in
      get_or-map (grouped ts least) (enumerate_from 0 ss) k (0, t) t (omega (arith, lt, long))
      ∙ ap (grouped ts least) (get_or-enumerate_from 0 ss k (0, t) lt)

  pub still_of : (blocks : List NetBlock) → All (IsStrandOf blocks) ss →
      All (IsStrandOf blocks) with_groups
  still_of blocks all = All-map (IsStrandOf blocks) (grouped ts least) (enumerate_from 0 ss)
      (All-weaker (λ (s : ℕ × Strand). IsStrandOf blocks s.1)
      (λ s. IsStrandOf blocks (grouped ts least s))
      (λ s is. record { block = is.block; order = is.order; masks = is.masks; within = is.within })
      (enumerate_from 0 ss) (All-enumerate (IsStrandOf blocks) 0 ss all))

  pub still_pairs : (ps : List MemPair) → ArePairs ss ps → ArePairs with_groups ps
  still_pairs ps are = record {
    each = λ k m lt.
        let is = are.each k m lt in record {
          left = λ t in_.
              let old : (get_or ps k m).left < length ss = omega (arith, in_, as_many) in
              let at = with_group (get_or ps k m).left t old in
              let first = ap (λ (u : Strand). u.first) at in
              let last = ap (λ (u : Strand). u.last) at in
              let was = is.left t old in
              let low = was.0 in
              let high = was.1 in
              (omega (arith, first, low), omega (arith, last, high));
          right = λ t in_.
              let old : (get_or ps k m).right < length ss = omega (arith, in_, as_many) in
              let at = with_group (get_or ps k m).right t old in
              let first = ap (λ (u : Strand). u.first) at in
              let last = ap (λ (u : Strand). u.last) at in
              let was = is.right t old in
              let low = was.0 in
              let high = was.1 in
              (omega (arith, first, low), omega (arith, last, high));
          apart = λ same. let past = is.apart same in omega (arith, past, as_many);
        };
    order = λ i j m lt in_ s a b few one other. are.order i j m lt in_ s a b
        (omega (arith, few, as_many)) one other;
  }
