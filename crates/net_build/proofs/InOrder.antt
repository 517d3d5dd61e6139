-- The strands of code are in order.
use Rattle.std.proofs.Common.{ℕ, zero, suc, ◌≡◌, ◌+◌, ◌<◌, List, [], ◌∷◌, ◌++◌, length, get_or, All}
use Rattle.std.proofs.Common.{Some, None, Option, IfSome, refl, sym, ◌∙◌, subst, arith}
use Rattle.std.specs.List.{AllPairs, range_with_len, flat_map, filter_map, cons_option}
use Rattle.std.proofs.lemmas.List.Elements.{All-append, All-head, All-tail, All-weaker}
use Rattle.std.proofs.lemmas.List.Kept.{AllPairs-cons}
use Rattle.pra_list.proofs.Comprehensions.{All-filter_map, All-flat_map, All-range, IfSome-test}
use Rattle.pra_base.specs.declared.code.VProc.{VProc}
use Rattle.net_form.specs.declared.net.Strand.{Strand}
use Rattle.net_form.specs.Strands.{Lives, layer_count, begins, strand, begun_strand, layer_strands}
use Rattle.net_form.specs.Strands.{block_strands, strands}
use Rattle.net_form.specs.Tables.{all_tables}
use Rattle.net_build.specs.Order.{key_of, Precedes, block, first, var, AreInOrder}

-- ---- pairs of the elements of comprehensions

module _ {X : Type 0} (R : X → X → Type 0) where
  pairs-append : (xs ys : List X) → AllPairs R xs → AllPairs R ys → All (λ x. All (R x) ys) xs →
      AllPairs R (xs ++ ys)
  pairs-append [] ys one two cross = two
  pairs-append (x ∷ xs) ys one two cross =
      AllPairs-cons R x (xs ++ ys)
      (All-append (R x) xs ys (λ k d lt. one 0 (suc k) d (omega arith) (omega (arith, lt)))
      (All-head (λ x. All (R x) ys) x xs cross))
      (pairs-append xs ys (λ i j d lt in_. one (suc i) (suc j) d (omega (arith, lt))
      (omega (arith, in_))) two (All-tail (λ x. All (R x) ys) x xs cross))

  pairs-nil : AllPairs R []
  pairs-nil i j d lt in_ = absurd (omega (arith, in_))

  pub pairs-flat_map : (f : ℕ → List X) → ((i : ℕ) → AllPairs R (f i)) →
      ((i j : ℕ) → i < j → All (λ x. All (R x) (f j)) (f i)) → (a n : ℕ) →
      AllPairs R (flat_map f (range_with_len a n))
  pairs-flat_map f each cross a zero = pairs-nil
  pairs-flat_map f each cross a (suc n) =
      pairs-append (f a) (flat_map f (range_with_len (a + 1) n)) (each a)
      (pairs-flat_map f each cross (a + 1) n)
      (λ k d lt. All-flat_map (R (get_or (f a) k d)) f (range_with_len (a + 1) n)
      (All-range (λ i. All (R (get_or (f a) k d)) (f i)) (a + 1) n
      (λ i le _. cross a i (omega (arith, le)) k d lt)))

  pub from_some : (P : X → Type 0) (o : Option X) → ((y : X) → o ≡ Some y → P y) → IfSome o P
  from_some P None h = tt
  from_some P (Some y) h = h y refl

  pub pairs-filter_map : (g : ℕ → Option X) →
      ((i j : ℕ) (x y : X) → i < j → g i ≡ Some x → g j ≡ Some y → R x y) → (a n : ℕ) →
      AllPairs R (filter_map g (range_with_len a n))
  pairs-filter_map g apart a zero = pairs-nil
  pairs-filter_map g apart a (suc n) = by (g a) refl (pairs-filter_map g apart (a + 1) n)
    where
      by : (o : Option X) → g a ≡ o → AllPairs R (filter_map g (range_with_len (a + 1) n)) →
          AllPairs R (cons_option o (filter_map g (range_with_len (a + 1) n)))
      by None is more = more
      by (Some x) is more = AllPairs-cons R x (filter_map g (range_with_len (a + 1) n))
          (All-filter_map (R x) g (range_with_len (a + 1) n)
          (All-range (λ i. IfSome (g i) (R x)) (a + 1) n
          (λ i le _. from_some (R x) (g i)
          (λ y there. apart a i x y (omega (arith, le)) is there))))
          more

-- ---- strands

module _ (code : VProc) (live : Lives) where
  pub record IsBegun (b l v : ℕ) (t : Strand) : Type 0 where
    pub block : t.block.0 ≡ b
    pub first : t.first ≡ l
    pub var : t.var.0 ≡ v

  begun : (b l v : ℕ) (t : Strand) → begun_strand all_tables code live b l v ≡ Some t →
      IsBegun b l v t
  begun b l v t is = subst (λ o. IfSome o (IsBegun b l v)) is
      (IfSome-test (IsBegun b l v) (begins all_tables code live v b l)
      (strand all_tables code live v b l)
      (λ _. record { block = refl; first = refl; var = refl }))

  record IsOfLayer (b l : ℕ) (t : Strand) : Type 0 where
    block : t.block.0 ≡ b
    first : t.first ≡ l

  of_layer : (b l : ℕ) → All (IsOfLayer b l) (layer_strands all_tables code live b l)
  of_layer b l = All-filter_map (IsOfLayer b l) (begun_strand all_tables code live b l)
      (range_with_len 0 (length code.vars))
      (All-range (λ v. IfSome (begun_strand all_tables code live b l v) (IsOfLayer b l)) 0
      (length code.vars) (λ v _ _.
      IfSome-test (IsOfLayer b l) (begins all_tables code live v b l)
      (strand all_tables code live v b l) (λ _. record { block = refl; first = refl })))

  of_block : (b : ℕ) → All (λ t. t.block.0 ≡ b) (block_strands all_tables code live b)
  of_block b = All-flat_map (λ (t : Strand). t.block.0 ≡ b) (layer_strands all_tables code live b)
      (range_with_len 0 (layer_count code b))
      (All-range (λ l. All (λ (t : Strand). t.block.0 ≡ b) (layer_strands all_tables code live b l))
      0 (layer_count code b) (λ l _ _.
      All-weaker (IsOfLayer b l) (λ (t : Strand). t.block.0 ≡ b) (λ t is. is.block)
      (layer_strands all_tables code live b l) (of_layer b l)))

  abbrev Before : Strand → Strand → Type 0
  Before s t = Precedes (key_of s) (key_of t)

  layer_in_order : (b l : ℕ) → AllPairs Before (layer_strands all_tables code live b l)
  layer_in_order b l = pairs-filter_map Before (begun_strand all_tables code live b l)
      (λ i j x y lt one two.
      let p = begun b l i x one in
      let q = begun b l j y two in
      let v = p.var in let w = q.var in
      var (p.block ∙ sym q.block) (p.first ∙ sym q.first) (omega (arith, v, w, lt))) 0
      (length code.vars)

  block_in_order : (b : ℕ) → AllPairs Before (block_strands all_tables code live b)
  block_in_order b = pairs-flat_map Before (layer_strands all_tables code live b) (layer_in_order b)
      (λ i j lt k d in_ m e in2.
      let p = of_layer b i k d in_ in
      let q = of_layer b j m e in2 in
      let v = p.first in let w = q.first in
      first (p.block ∙ sym q.block) (omega (arith, v, w, lt))) 0 (layer_count code b)

  pub strands_in_order : AreInOrder (strands all_tables code live)
  strands_in_order = pairs-flat_map Before (block_strands all_tables code live) block_in_order
      (λ i j lt k d in_ m e in2.
      let p = of_block i k d in_ in
      let q = of_block j m e in2 in
      block (omega (arith, p, q, lt))) 0 (length code.blocks)
