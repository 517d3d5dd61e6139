-- Memory pairs of code: their ends are at layers of their strands, and in order.
use Rattle.std.proofs.Common.{ℕ, ◌≡◌, ◌+◌, ◌*◌, ◌<◌, ◌≤◌, ◌⊎◌, inl, inr, Bool, true, false, cond}
use Rattle.std.proofs.Common.{not, eqb, ◌&&◌, ◌||◌, List, [], ◌∷◌, length, filter, get_or, All}
use Rattle.std.proofs.Common.{Some, None, Option, refl, sym, ap, ◌∙◌, subst, arith, true≢false}
use Rattle.std.specs.Prelude.{nat_le, IfSome}
use Rattle.std.specs.List.{AllPairs, range_with_len, filter_map, enumerate_from}
use Rattle.std.proofs.lemmas.Bool.{cases_eq, cases_lt, cases_Bool, eq-eqb, ne_eqb, eqb-true}
use Rattle.std.proofs.lemmas.Bool.{and_parts, leb-true}
use Rattle.std.proofs.lemmas.List.Elements.{All-append, All-map, All-head, All-tail}
use Rattle.std.proofs.lemmas.List.Sums.{prefix_len_stops}
use Rattle.pra_list.proofs.Comprehensions.{All-filter_map, All-flat_map, All-range}
use Rattle.pra_base.specs.declared.code.VInstr.{VInstr}
use Rattle.pra_base.specs.declared.code.VInstr.TheVariants as instr
use Rattle.pra_base.specs.declared.code.VProc.{VProc}
use Rattle.pra_base.specs.Code.{code_of}
use Rattle.pra_base.specs.Operands.{Role, Row}
use Rattle.net_form.specs.declared.net.Strand.{Strand}
use Rattle.net_form.specs.declared.net.MemPair.{MemPair}
use Rattle.net_form.specs.Admitted.{no_strand}
use Rattle.net_form.specs.Index.{is_end}
use Rattle.net_form.specs.Network.{stands_for, strand_of, marked_roles, marked, pair_of, pairs}
use Rattle.net_form.specs.Tables.{PlaceTables}
use Rattle.net_build.specs.Owners.{IsPairOf, PairEndsBefore, ArePairs}
use Rattle.net_build.proofs.Comprehended.{filter_map-map, by_number}
use Rattle.net_build.proofs.InOrder.{pairs-flat_map, pairs-filter_map, from_some}

-- a mark of instruction i
record IsMark (i : ℕ) (x : ℕ × ℕ) : Type 0 where
  low : 2 * i < x.1
  high : x.1 ≤ 2 * i + 2

marks : (i : ℕ) (row : Row) → All (IsMark i) (marked i row)
marks i row = All-append (IsMark i) (marked_roles (2 * i + 1) row.reads)
    (marked_roles (2 * i + 2) row.writes)
    (All-map (IsMark i) (λ (r : Role). (r.var, 2 * i + 1)) (filter (λ r. r.memory) row.reads)
    (λ k d lt. record { low = omega arith; high = omega arith }))
    (All-map (IsMark i) (λ (r : Role). (r.var, 2 * i + 2)) (filter (λ r. r.memory) row.writes)
    (λ k d lt. record { low = omega arith; high = omega arith }))

-- a strand of a variable at a layer of a block
record IsOver (v b l : ℕ) (t : Strand) : Type 0 where
  var : t.var.0 ≡ v
  block : t.block.0 ≡ b
  first : t.first ≤ l
  last : l ≤ t.last

module _ (ss : List Strand) where
  over : (v b l : ℕ) (t : Strand) → strand_of ss v b l < length ss →
      IsOver v b l (get_or ss (strand_of ss v b l) t)
  over v b l t lt =
      let s = get_or ss (strand_of ss v b l) t in
      let not_not = prefix_len_stops (λ s. not (stands_for v b l s)) ss t lt in
      let is = yes (stands_for v b l s) not_not in
      let p = and_parts (eqb s.var.0 v && eqb s.block.0 b && nat_le s.first l) (nat_le l s.last)
      is in
      let q = and_parts (eqb s.var.0 v && eqb s.block.0 b) (nat_le s.first l) p.0 in
      let r = and_parts (eqb s.var.0 v) (eqb s.block.0 b) q.0 in
      record {
        var = eqb-true s.var.0 v r.0;
        block = eqb-true s.block.0 b r.1;
        first =
            leb-true s.first l q.1;
        last = leb-true l s.last p.1;
      }
    where
      yes : (b : Bool) → not b ≡ false → b ≡ true
      yes true h = refl
      yes false h = absurd (true≢false h)

  -- a pair of instruction i of block b
  record IsOf (b i : ℕ) (m : MemPair) : Type 0 where
    left_low : 2 * i < m.left_layer
    left_high : m.left_layer ≤ 2 * i + 2
    right_low : 2 * i < m.right_layer
    right_high : m.right_layer ≤ 2 * i + 2
    left_block : (t : Strand) → m.left < length ss → (get_or ss m.left t).block.0 ≡ b
    right_block : (t : Strand) → m.right < length ss → (get_or ss m.right t).block.0 ≡ b
    pair : IsPairOf ss m

  abbrev made : ℕ → ℕ × ℕ → ℕ × ℕ → MemPair
  made b x y = record {
    left = strand_of ss x.0 b x.1;
    left_layer = x.1;
    right =
        strand_of ss y.0 b y.1;
    right_layer = y.1;
  }

  is_of : (b i : ℕ) (x y : ℕ × ℕ) → IsMark i x → IsMark i y → (x.0 ≡ y.0 → ⊥) →
      IsOf b i (made b x y)
  is_of b i x y one two apart = record {
    left_low = one.low;
    left_high = one.high;
    right_low = two.low;
    right_high = two.high;
    left_block = λ t lt. (over x.0 b x.1 t lt).block;
    right_block = λ t lt. (over y.0 b y.1 t lt).block;
    pair = record {
      left = λ t lt. let o = over x.0 b x.1 t lt in (o.first, o.last);
      right = λ t lt. let o = over y.0 b y.1 t lt in (o.first, o.last);
      apart = λ same. by same (cases_lt (strand_of ss x.0 b x.1) (length ss));
    };
  }
    where
      by : strand_of ss x.0 b x.1 ≡ strand_of ss y.0 b y.1 → (strand_of ss x.0 b x.1 < length ss) ⊎
          (length ss ≤ strand_of ss x.0 b x.1) → length ss ≤ strand_of ss x.0 b x.1
      by same (inr le) = le
      by same (inl lt) = absurd (apart (
          sym (over x.0 b x.1 no_strand lt).var ∙ ap (λ (k : ℕ). (get_or ss k no_strand).var.0) same
          ∙ (over y.0 b y.1 no_strand (omega (arith, same, lt))).var))

  pair_is : (b i : ℕ) (ms : List (ℕ × ℕ)) → All (IsMark i) ms → IfSome (pair_of ss b ms) (IsOf b i)
  pair_is b i [] all = tt
  pair_is b i (x ∷ []) all = tt
  pair_is b i (x ∷ y ∷ more) all =
      elim (cases_eq x.0 y.0) as (λ _. IfSome (cond (eqb x.0 y.0) None (Some (made b x y)))
      (IsOf b i)) [
        | inl same ↦ subst (λ t. IfSome (cond t None (Some (made b x y))) (IsOf b i))
            (sym (eq-eqb x.0 y.0 same)) tt
        | inr other ↦ subst (λ t. IfSome (cond t None (Some (made b x y))) (IsOf b i))
            (sym (ne_eqb x.0 y.0 other))
            (is_of b i x y (All-head (IsMark i) x (y ∷ more) all)
            (All-head (IsMark i) y more (All-tail (IsMark i) x (y ∷ more) all)) other)
      ]

  -- an end of the pair that belongs to a strand
  record IsEndOf (b i s a : ℕ) : Type 0 where
    block : (get_or ss s no_strand).block.0 ≡ b
    low : 2 * i < a
    high : a ≤ 2 * i + 2

  end_of : (b i s a : ℕ) (m : MemPair) → IsOf b i m → s < length ss → is_end s a m ≡ true →
      IsEndOf b i s a
  end_of b i s a m is lt at = by (cases_Bool (eqb m.left s && eqb m.left_layer a))
    where
      by : ((eqb m.left s && eqb m.left_layer a) ≡ true) ⊎
          ((eqb m.left s && eqb m.left_layer a) ≡ false) → IsEndOf b i s a
      by (inl here) =
          let p = and_parts (eqb m.left s) (eqb m.left_layer a) here in
          let e = eqb-true m.left s p.0 in
          let f = eqb-true m.left_layer a p.1 in
          let low = is.left_low in
          let high = is.left_high in
          record {
            block = ap (λ (k : ℕ). (get_or ss k no_strand).block.0) (sym e)
                ∙ is.left_block no_strand (omega (arith, e, lt));
            low = omega (arith, f, low);
            high =
                omega (arith, f, high);
          }
      by (inr none) =
          let p = and_parts (eqb m.right s) (eqb m.right_layer a)
          (sym (ap (λ t. t || (eqb m.right s && eqb m.right_layer a)) none) ∙ at) in
          let e = eqb-true m.right s p.0 in
          let f = eqb-true m.right_layer a p.1 in
          let low = is.right_low in
          let high = is.right_high in
          record {
            block = ap (λ (k : ℕ). (get_or ss k no_strand).block.0) (sym e)
                ∙ is.right_block no_strand (omega (arith, e, lt));
            low = omega (arith, f, low);
            high =
                omega (arith, f, high);
          }

module _ (tables : PlaceTables) (code : VProc) (ss : List Strand) where
  abbrev instr_of : ℕ → ℕ → VInstr
  instr_of b i = get_or (code_of code b) i instr.Line

  abbrev pair_at : ℕ → ℕ → Option MemPair
  pair_at b i = pair_of ss b (marked i (tables.row (instr_of b i)))

  abbrev of_block : ℕ → List MemPair
  of_block b = filter_map (λ i. pair_of ss b (marked i.0 (tables.row i.1)))
      (enumerate_from 0 (code_of code b))

  by_index : (b : ℕ) → of_block b ≡ filter_map (pair_at b)
      (range_with_len 0 (length (code_of code b)))
  by_index b =
      ap (filter_map (λ i. pair_of ss b (marked i.0 (tables.row i.1))))
      (by_number instr.Line (code_of code b))
      ∙ filter_map-map (λ i. pair_of ss b (marked i.0 (tables.row i.1))) (λ k. (k, instr_of b k))
      (range_with_len 0 (length (code_of code b)))

  at_is : (b i : ℕ) → IfSome (pair_at b i) (IsOf ss b i)
  at_is b i = pair_is ss b i (marked i (tables.row (instr_of b i)))
      (marks i (tables.row (instr_of b i)))

  there : (b i : ℕ) (m : MemPair) → pair_at b i ≡ Some m → IsOf ss b i m
  there b i m is = subst (λ o. IfSome o (IsOf ss b i)) is (at_is b i)

  record IsIn (b : ℕ) (m : MemPair) : Type 0 where
    index : ℕ
    is : IsOf ss b index m

  all_in : (b : ℕ) → All (IsIn b) (of_block b)
  all_in b = subst (All (IsIn b)) (sym (by_index b))
      (All-filter_map (IsIn b) (pair_at b) (range_with_len 0 (length (code_of code b)))
      (All-range (λ i. IfSome (pair_at b i) (IsIn b)) 0 (length (code_of code b))
      (λ i _ _. from_some (PairEndsBefore ss) (IsIn b) (pair_at b i)
      (λ m is. record { index = i; is = there b i m is }))))

  block_in_order : (b : ℕ) → AllPairs (PairEndsBefore ss) (of_block b)
  block_in_order b = subst (AllPairs (PairEndsBefore ss)) (sym (by_index b))
      (pairs-filter_map (PairEndsBefore ss) (pair_at b) (λ i j m n lt one two s x y in_ at_m at_n.
      let p = (end_of ss b i s x m (there b i m one) in_ at_m).high in
      let q = (end_of ss b j s y n (there b j n two) in_ at_n).low in
      omega (arith, p, q, lt)) 0 (length (code_of code b)))

  in_order : AllPairs (PairEndsBefore ss) (pairs tables code ss)
  in_order = pairs-flat_map (PairEndsBefore ss) of_block block_in_order
      (λ i j lt k d in_one m e in_two s x y in_ at_m at_n.
      let one = all_in i k d in_one in
      let two = all_in j m e in_two in
      let p = (end_of ss i one.index s x (get_or (of_block i) k d) one.is in_ at_m).block in
      let q = (end_of ss j two.index s y (get_or (of_block j) m e) two.is in_ at_n).block in
      absurd (omega (arith, p, q, lt))) 0 (length code.blocks)

  pub are_pairs : ArePairs ss (pairs tables code ss)
  are_pairs = record {
    each = λ k m lt. All-flat_map (IsPairOf ss) of_block (range_with_len 0 (length code.blocks))
        (All-range (λ b. All (IsPairOf ss) (of_block b)) 0 (length code.blocks)
        (λ b _ _ k d in_. (all_in b k d in_).is.pair)) k m lt;
    order = in_order;
  }
