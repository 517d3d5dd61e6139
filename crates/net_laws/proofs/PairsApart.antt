-- Each strand has at a layer one end of a memory pair at most.
use Rattle.std.proofs.Common.{ℕ, suc, ◌≡◌, ◌-◌, ◌/◌, ◌<◌, ◌≤◌, Bool, true, ◌&&◌, eqb, List, [], ◌∷◌}
use Rattle.std.proofs.Common.{length, get_or, All, count_by, Option, Some, None, sym, ap, ◌∙◌}
use Rattle.std.proofs.Common.{subst, arith, inl, inr, ◌⊎◌}
use Rattle.std.specs.Prelude.{IfSome}
use Rattle.std.specs.List.{AllPairs, range_with_len, filter_map, enumerate_from}
use Rattle.std.proofs.lemmas.Bool.{cases_Bool, and_parts, eqb-true, or_cases, false_from_ne_true}
use Rattle.std.proofs.lemmas.List.Elements.{All-weaker}
use Rattle.pra_list.proofs.Comprehensions.{All-range, All-filter_map}
use Rattle.pra_list.proofs.Counts.{count-yes, count-no, count-none}
use Rattle.pra_base.specs.declared.code.VInstr.{VInstr}
use Rattle.pra_base.specs.declared.code.VProc.{VProc}
use Rattle.pra_base.specs.Code.{code_of}
use Rattle.pra_base.specs.Valid.{IsValid, IsSized}
use Rattle.net_form.specs.declared.net.MemPair.{MemPair}
use Rattle.net_form.specs.declared.net.Tie.{Tie}
use Rattle.net_form.specs.Index.{is_end}
use Rattle.net_form.specs.Tables.{all_tables}
use Rattle.net_form.specs.Strands.{Lives, IsLive, strands}
use Rattle.net_form.specs.Network.{pairs}
use Rattle.net_laws.proofs.Sides.{side_index}
use Rattle.net_laws.proofs.Runs.{listed, as_flat}
use Rattle.net_laws.proofs.Pairs.{at, IsPairAt, pair_at, pairs_of}
use Rattle.net_laws.proofs.StrandsInOrder.{in_order_by, range_ascends, numbers_ascend, one_listed}
use Rattle.net_laws.proofs.StrandsInOrder.{all_listed}

-- a count is one at most where no two pass
pub count_few : {X : Type 0} (p : X → Bool) (xs : List X) → AllPairs (λ x y. p x ≡ true → p y ≡ true
    → ⊥) xs → count_by p xs ≤ 1
count_few p [] apart = omega arith
count_few p (x ∷ xs) apart = elim (cases_Bool (p x)) as (λ _. count_by p (x ∷ xs) ≤ 1) [
  | inl is ↦
      let one = count-yes p x xs is in
      let none = count-none p xs (λ k d lt. false_from_ne_true (p (get_or xs k d))
      (λ too. apart 0 (suc k) d (omega arith) (omega (arith, lt)) is too)) in
      omega (arith, one, none)
  | inr no_ ↦
      let same = count-no p x xs no_ in
      let more = count_few p xs (λ i j d lt in_. apart (suc i) (suc j) d (omega (arith, lt))
      (omega (arith, in_))) in
      omega (arith, same, more)
]

module _ (code : VProc) (live : Lives) (is_live : IsLive code live) (valid : IsValid code)
    (sized : IsSized code) (ts : List Tie) (least : ℕ → ℕ) where
  abbrev block_of_end : ℕ → ℕ
  block_of_end s = (at code live is_live valid sized ts least s).block.0

  abbrev index_of_end : ℕ → ℕ
  index_of_end l = (l - 1) / 2

  -- they have no end in common
  abbrev Apart : MemPair → MemPair → Type 0
  Apart x y = (s l : ℕ) → is_end s l x ≡ true → is_end s l y ≡ true → ⊥

  -- both ends are in its block, and beside its instruction
  abbrev InBlock : ℕ → MemPair → Type 0
  InBlock b m = (s l : ℕ) → is_end s l m ≡ true → block_of_end s ≡ b

  abbrev AtIndex : ℕ → MemPair → Type 0
  AtIndex k m = (s l : ℕ) → is_end s l m ≡ true → index_of_end l ≡ k

  end_cases : (s l : ℕ) (m : MemPair) → is_end s l m ≡ true
      → ((m.left ≡ s) × (m.left_layer ≡ l)) ⊎ ((m.right ≡ s) × (m.right_layer ≡ l))
  end_cases s l m h = elim (or_cases (eqb m.left s && eqb m.left_layer l)
      (eqb m.right s && eqb m.right_layer l) h)
      as (λ _. ((m.left ≡ s) × (m.left_layer ≡ l)) ⊎ ((m.right ≡ s) × (m.right_layer ≡ l))) [
        | inl one ↦ let p = and_parts (eqb m.left s) (eqb m.left_layer l) one in inl
            (eqb-true m.left s p.0, eqb-true m.left_layer l p.1)
        | inr two ↦ let p = and_parts (eqb m.right s) (eqb m.right_layer l) two in inr
            (eqb-true m.right s p.0, eqb-true m.right_layer l p.1)
      ]

  module _ (b k : ℕ) (m : MemPair) (is : IsPairAt code live is_live valid sized ts least b k m)
    where
      left_block : block_of_end m.left ≡ b
      left_block = is.pair.left_strand.block ∙ is.in_block

      left_index : index_of_end m.left_layer ≡ k
      left_index = ap index_of_end is.pair.left.layer ∙ side_index is.pair.index is.pair.left.before
          ∙ is.at_index

      in_block : InBlock (block_of_end m.left) m
      in_block s l h = elim (end_cases s l m h) as (λ _. block_of_end s ≡ block_of_end m.left) [
        | inl one ↦ ap block_of_end (sym one.0)
        | inr two ↦ ap block_of_end (sym two.0) ∙ is.pair.right_strand.block
            ∙ sym is.pair.left_strand.block
      ]

      at_index : AtIndex (index_of_end m.left_layer) m
      at_index s l h = elim (end_cases s l m h)
          as (λ _. index_of_end l ≡ index_of_end m.left_layer) [
            | inl one ↦ ap index_of_end (sym one.1)
            | inr two ↦ ap index_of_end (sym two.1) ∙ ap index_of_end is.pair.right.layer
                ∙ side_index is.pair.index is.pair.right.before
                ∙ sym (ap index_of_end is.pair.left.layer
                ∙ side_index is.pair.index is.pair.left.before)
          ]

  abbrev at_b : ℕ → ℕ × VInstr → Option MemPair
  at_b b i = pair_at code live is_live valid sized ts least b i

  -- the pairs of a block, by instruction
  row_apart : (b : ℕ) → b < length code.blocks
      → AllPairs Apart (filter_map (at_b b) (enumerate_from 0 (code_of code b)))
  row_apart b lt = subst (AllPairs Apart)
      (sym (as_flat (at_b b) (enumerate_from 0 (code_of code b))))
      (in_order_by Apart (λ m. AtIndex (index_of_end m.left_layer) m) (λ i. i.0)
      (λ m. index_of_end m.left_layer)
      (λ x y one two less s l in_x in_y. let a = one s l in_x in let c = two s l in_y in
      omega (arith, a, c, less))
      (λ i. listed (at_b b i)) (enumerate_from 0 (code_of code b)) (numbers_ascend (code_of code b))
      (All-weaker
      (λ (i : ℕ × VInstr). IfSome (at_b b i) (IsPairAt code live is_live valid sized ts least b
      i.0))
      (λ (i : ℕ × VInstr). All (λ m. AtIndex (index_of_end m.left_layer) m
      × (index_of_end m.left_layer ≡ i.0)) (listed (at_b b i)))
      (λ i some. All-weaker (IsPairAt code live is_live valid sized ts least b i.0)
      (λ m. AtIndex (index_of_end m.left_layer) m × (index_of_end m.left_layer ≡ i.0))
      (λ m is. (at_index b i.0 m is, left_index b i.0 m is)) (listed (at_b b i))
      (all_listed (IsPairAt code live is_live valid sized ts least b i.0) (at_b b i) some))
      (enumerate_from 0 (code_of code b)) (pairs_of code live is_live valid sized ts least b lt))
      (λ k d in_. one_listed Apart (at_b b (get_or (enumerate_from 0 (code_of code b)) k d))))

  row_in : (b : ℕ) → b < length code.blocks
      → All (λ m. InBlock (block_of_end m.left) m × (block_of_end m.left ≡ b))
      (filter_map (at_b b) (enumerate_from 0 (code_of code b)))
  row_in b lt = All-filter_map (λ m. InBlock (block_of_end m.left) m × (block_of_end m.left ≡ b))
      (at_b b) (enumerate_from 0 (code_of code b))
      (All-weaker
      (λ (i : ℕ × VInstr). IfSome (at_b b i) (IsPairAt code live is_live valid sized ts least b
      i.0))
      (λ (i : ℕ × VInstr). IfSome (at_b b i) (λ m. InBlock (block_of_end m.left) m
      × (block_of_end m.left ≡ b)))
      (λ i some. weaker i.0 (at_b b i) some)
      (enumerate_from 0 (code_of code b)) (pairs_of code live is_live valid sized ts least b lt))
    where
      weaker : (k : ℕ) (o : Option MemPair)
          → IfSome o (IsPairAt code live is_live valid sized ts least b k)
          → IfSome o (λ m. InBlock (block_of_end m.left) m × (block_of_end m.left ≡ b))
      weaker k None is = tt
      weaker k (Some m) is = (in_block b k m is, left_block b k m is)

  pub pairs_apart : AllPairs Apart (pairs all_tables code (strands all_tables code live))
  pairs_apart = in_order_by Apart (λ m. InBlock (block_of_end m.left) m) (λ b. b)
      (λ m. block_of_end m.left)
      (λ x y one two less s l in_x in_y. let a = one s l in_x in let c = two s l in_y in
      omega (arith, a, c, less))
      (λ b. filter_map (at_b b) (enumerate_from 0 (code_of code b)))
      (range_with_len 0 (length code.blocks)) (range_ascends 0 (length code.blocks))
      (All-range (λ b. All (λ m. InBlock (block_of_end m.left) m × (block_of_end m.left ≡ b))
      (filter_map (at_b b) (enumerate_from 0 (code_of code b)))) 0 (length code.blocks)
      (λ b _ lt. row_in b (omega (arith, lt))))
      (All-range (λ b. AllPairs Apart (filter_map (at_b b) (enumerate_from 0 (code_of code b)))) 0
      (length code.blocks) (λ b _ lt. row_apart b (omega (arith, lt))))

  pub one_end : (s l : ℕ)
      → count_by (is_end s l) (pairs all_tables code (strands all_tables code live)) ≤ 1
  one_end s l = count_few (is_end s l) (pairs all_tables code (strands all_tables code live))
      (λ i j d lt in_. pairs_apart i j d lt in_ s l)
