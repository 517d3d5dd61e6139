-- The network of sized code is formed.
use Rattle.std.proofs.Common.{ℕ, zero, suc, ◌≡◌, ◌+◌, ◌-◌, ◌*◌, ◌^◌, ◌<◌, ◌≤◌, Bool, true, cond}
use Rattle.std.proofs.Common.{List, [], ◌∷◌, length, get_or, All, map, sum_by, refl, sym, ap, ◌∙◌}
use Rattle.std.proofs.Common.{subst, arith}
use Rattle.std.specs.Prelude.{slice_index_or, if◌then◌else◌, Option, Some, None, IfSome}
use Rattle.std.specs.List.{range_with_len, prefix_len, filter_map, enumerate_from}
use Rattle.std.proofs.lemmas.Bool.{and_parts}
use Rattle.std.proofs.lemmas.List.{get_or-map, length-map}
use Rattle.std.proofs.lemmas.List.Elements.{All-nil, All-cons, All-map, All-from_get_or, All-weaker}
use Rattle.std.proofs.lemmas.List.FromFn.{length-map-range_with_len, length-range_with_len}
use Rattle.std.proofs.lemmas.List.FromFn.{fill_by_all, length-enumerate_from}
use Rattle.std.proofs.lemmas.Nat.{mul-le}
use Rattle.std.proofs.lemmas.List.Sums.{prefix_len-le-length, sum_by-cons}
use Rattle.pra_base.specs.declared.code.VInstr.{VInstr}
use Rattle.pra_base.specs.declared.code.Block.{Block}
use Rattle.pra_base.specs.declared.code.VProc.{VProc}
use Rattle.pra_base.specs.Code.{block_of, code_of, no_block as no_code}
use Rattle.pra_base.specs.Valid.{IsSized, instruction_count}
use Rattle.net_form.specs.declared.net.NetBlock.{NetBlock}
use Rattle.net_form.specs.declared.net.Strand.{Strand}
use Rattle.net_form.specs.declared.net.MemPair.{MemPair}
use Rattle.net_form.specs.declared.net.Tie.{Tie}
use Rattle.net_form.specs.declared.net.Net.{Net}
use Rattle.net_form.specs.Tables.{PlaceTables}
use Rattle.net_form.specs.Strands.{Lives, layer_count, is_present, begins, run_from, mask_at}
use Rattle.net_form.specs.Strands.{strand, begun_strand, layer_strands, block_strands, strands}
use Rattle.net_form.specs.Strands.{layers_of}
use Rattle.net_form.specs.Network.{net_block, ties, ties_from, is_joined, pairs, pair_of, marked}
use Rattle.net_form.specs.Network.{grouped, IsNetBy}
use Rattle.net_form.specs.Admitted.{no_strand}
use Rattle.net_form.specs.Formed.{IsStrandOf, IsFormed, no_block}
use Rattle.net_form.specs.Rooms.{layer_total}
use Rattle.pra_list.proofs.Comprehensions.{All-filter_map, All-flat_map, All-range, All-enumerate}
use Rattle.pra_list.proofs.Comprehensions.{IfSome-test, length-filter_map, length-flat_map}
use Rattle.pra_list.proofs.Comprehensions.{sum_by-map, ones}

-- a run that begins where the test holds is not empty
prefix_len-yes : (p : ℕ → Bool) → (l n : ℕ) → 0 < n → p l ≡ true →
    0 < prefix_len p (range_with_len l n)
prefix_len-yes p l zero lt is = absurd (omega (arith, lt))
prefix_len-yes p l (suc n) lt is =
    subst (λ b. 0 < cond b (1 + prefix_len p (range_with_len (l + 1) n)) 0) (sym is) (omega arith)

module _ (tables : PlaceTables) (code : VProc) (live : Lives) where
  blocks : List NetBlock
  blocks = map net_block code.blocks

  block_layers : (b : ℕ) → b < length code.blocks → layer_count code b ≡
      (slice_index_or blocks b no_block).layers
  unfolding blocks
  block_layers b lt = sym (ap (λ k. k.layers)
      (get_or-map net_block code.blocks b no_code no_block lt))

  formed_at : (b l v : ℕ) → b < length code.blocks → l < layer_count code b →
      begins tables code live v b l ≡ true
      → IsStrandOf blocks (strand tables code live v b l)
  unfolding blocks
  formed_at b l v in_code in_block begun =
      let n = layer_count code b - l in
      let present = (and_parts (is_present tables code live v b l) _ begun).0 in
      let some = prefix_len-yes (is_present tables code live v b) l n (omega (arith, in_block))
      present in
      let most = prefix_len-le-length (is_present tables code live v b) (range_with_len l n) in
      let long = length-range_with_len l n in
      let masks = length-map-range_with_len (mask_at tables code live v b) l
      (run_from tables code live v b l) in
      let same = length-map code.blocks net_block in
      let layers = block_layers b in_code in record {
        block = omega (arith, same, in_code);
        order = omega (arith, some);
        masks = omega (arith, some, masks);
        within = omega (arith, some, most, long, layers, in_block);
      }

  formed_strands : All (IsStrandOf blocks) (strands tables code live)
  formed_strands = All-flat_map (IsStrandOf blocks) (block_strands tables code live)
      (range_with_len 0 (length code.blocks))
      (All-range (λ b. All (IsStrandOf blocks) (block_strands tables code live b)) 0
      (length code.blocks) (λ b _ b_lt.
      All-flat_map (IsStrandOf blocks) (layer_strands tables code live b)
      (range_with_len 0 (layer_count code b))
      (All-range (λ l. All (IsStrandOf blocks) (layer_strands tables code live b l)) 0
      (layer_count code b) (λ l _ l_lt.
      All-filter_map (IsStrandOf blocks) (begun_strand tables code live b l)
      (range_with_len 0 (length code.vars))
      (All-range _ 0 (length code.vars) (λ v _ _.
      IfSome-test (IsStrandOf blocks) (begins tables code live v b l)
      (strand tables code live v b l)
      (formed_at b l v (omega (arith, b_lt)) (omega (arith, l_lt)))))))))

  formed_groups : (ts : List Tie) (least : ℕ → ℕ)
      → All (IsStrandOf blocks)
      (map (grouped ts least) (enumerate_from 0 (strands tables code live)))
  formed_groups ts least = All-map (IsStrandOf blocks) (grouped ts least)
      (enumerate_from 0 (strands tables code live))
      (All-weaker (λ (s : ℕ × Strand). IsStrandOf blocks s.1)
      (λ s. IsStrandOf blocks (grouped ts least s))
      (λ s is. record { block = is.block; order = is.order; masks = is.masks; within = is.within })
      (enumerate_from 0 (strands tables code live))
      (All-enumerate (IsStrandOf blocks) 0 (strands tables code live) formed_strands))

-- each strand is one of a block of the code
pub strands_are_formed : (tables : PlaceTables) (code : VProc) (live : Lives)
    → All (IsStrandOf (map net_block code.blocks)) (strands tables code live)
unfolding blocks
strands_are_formed tables code live = formed_strands tables code live

pub total_layers : (bs : List Block) → layer_total (map net_block bs) ≡
    2 * instruction_count bs + 2 * length bs
total_layers [] = refl
total_layers (b ∷ bs) =
    let more = total_layers bs in
    let one = sum_by-cons (λ (k : NetBlock). k.layers) (net_block b) (map net_block bs) in
    let two = sum_by-cons (λ (k : Block). length k.code) b bs in
    omega (arith, more, one, two)

module _ (tables : PlaceTables) (code : VProc) (live : Lives) where
  layer_few : (b l : ℕ) → length (layer_strands tables code live b l) ≤ length code.vars * 1
  layer_few b l =
      let most = length-filter_map (begun_strand tables code live b l)
      (range_with_len 0 (length code.vars)) in
      let long = length-range_with_len 0 (length code.vars) in
      omega (arith, most, long)

  block_few : (b : ℕ) → length (block_strands tables code live b) ≤
      length code.vars * layer_count code b
  block_few b =
      let most = length-flat_map (layer_strands tables code live b) (λ _. 1) (length code.vars)
      (range_with_len 0 (layer_count code b)) (layer_few b) in
      let layers = ones (range_with_len 0 (layer_count code b)) ∙ length-range_with_len 0
      (layer_count code b) in
      subst (λ n. length (block_strands tables code live b) ≤ length code.vars * n) layers most

  all_layers : sum_by (layer_count code) (range_with_len 0 (length code.blocks)) ≡
      layer_total (map net_block code.blocks)
  all_layers =
      sym (sum_by-map layers_of (block_of code) (range_with_len 0 (length code.blocks)))
      ∙ sym (ap (sum_by layers_of)
      (fill_by_all (block_of code) code.blocks (length code.blocks) no_code refl (λ k _. refl)))
      ∙ sym (sum_by-map (λ (k : NetBlock). k.layers) net_block code.blocks)

  pub few_strands : IsSized code → length (strands tables code live) < 2 ^ 32
  few_strands sized =
      let most = length-flat_map (block_strands tables code live) (layer_count code)
      (length code.vars) (range_with_len 0 (length code.blocks)) block_few in
      let total = all_layers ∙ total_layers code.blocks in
      let a = sized.instructions in
      let b = sized.blocks in
      let few = mul-le (length code.vars)
      (sum_by (layer_count code) (range_with_len 0 (length code.blocks))) 16383 24838
      sized.variables (omega (arith, total, a, b)) in
      omega (arith, most, few)

-- an instruction has one memory pair at most
few_pairs : (tables : PlaceTables) (code : VProc) (ss : List Strand) →
    length (pairs tables code ss) ≤ instruction_count code.blocks
few_pairs tables code ss =
    let of_block : ℕ → List MemPair =
    λ b. filter_map (λ i. pair_of ss b (marked i.0 (tables.row i.1)))
    (enumerate_from 0 (code_of code b)) in
    let few = length-flat_map of_block (λ b. length (code_of code b)) 1
    (range_with_len 0 (length code.blocks)) (λ b.
    let most = length-filter_map (λ (i : ℕ × VInstr). pair_of ss b (marked i.0 (tables.row i.1)))
    (enumerate_from 0 (code_of code b)) in
    let long = length-enumerate_from 0 (code_of code b) in
    omega (arith, most, long)) in
    let same = sym (sum_by-map (λ (k : Block). length k.code) (block_of code)
    (range_with_len 0 (length code.blocks)))
    ∙ sym (ap (sum_by (λ (k : Block). length k.code))
    (fill_by_all (block_of code) code.blocks (length code.blocks) no_code refl (λ k _. refl)))
    in
    omega (arith, few, same)

abbrev tie_between : VProc → (ℕ × Strand) → (ℕ × Strand) → Option Tie
tie_between code s t = if is_joined code s.1 t.1 then Some (record { from = s.0; to = t.0 }) else
    None

-- the numbers of an enumeration
All-numbers : {X : Type 0} → (n : ℕ) (xs : List X) → All (λ (x : ℕ × X). x.0 < n + length xs)
    (enumerate_from n xs)
All-numbers n [] = All-nil _
All-numbers {X} n (x ∷ xs) =
    All-cons (λ (y : ℕ × X). y.0 < n + suc (length xs)) (n, x) (enumerate_from (n + 1) xs)
    (omega arith)
    (All-weaker (λ (y : ℕ × X). y.0 < (n + 1) + length xs)
    (λ (y : ℕ × X). y.0 < n + suc (length xs)) (λ y lt. omega (arith, lt)) _
    (All-numbers (n + 1) xs))

-- a tie goes from a strand
ties_within : (code : VProc) (ss : List Strand) → All (λ t. t.from < length ss) (ties code ss)
ties_within code ss = All-flat_map (λ (t : Tie). t.from < length ss) (ties_from code ss)
    (enumerate_from 0 ss)
    (All-weaker (λ (s : ℕ × Strand). s.0 < 0 + length ss)
    (λ (s : ℕ × Strand). All (λ (t : Tie). t.from < length ss) (ties_from code ss s))
    (λ s lt. All-filter_map (λ (t : Tie). t.from < length ss) (tie_between code s)
    (enumerate_from 0 ss)
    (All-from_get_or (λ x. IfSome (tie_between code s x) (λ (t : Tie). t.from < length ss))
    (enumerate_from 0 ss) (0, no_strand) (λ i _.
    let x = get_or (enumerate_from 0 ss) i (0, no_strand) in
    IfSome-test (λ (t : Tie). t.from < length ss) (is_joined code s.1 x.1)
    (record { from = s.0; to = x.0 }) (λ _. omega (arith, lt)))))
    (enumerate_from 0 ss) (All-numbers 0 ss))

pub formed : (tables : PlaceTables) (code : VProc) (net : Net) → IsNetBy tables code net →
    IsSized code → IsFormed net
unfolding blocks
formed tables code net is sized = subst IsFormed (sym is.is) (record {
  strands = formed_groups tables code is.live (ties code (strands tables code is.live)) is.least;
  few = let same = length-map (enumerate_from 0 (strands tables code is.live))
      (grouped (ties code (strands tables code is.live)) is.least) in
      let long = length-enumerate_from 0 (strands tables code is.live) in
      let few = few_strands tables code is.live sized in
      omega (arith, same, long, few);
  layers = let total = total_layers code.blocks in let a = sized.instructions in let b =
      sized.blocks in omega (arith, total, a, b);
  depths = All-map (λ (k : NetBlock). k.depth ≤ 5) net_block code.blocks
      (All-from_get_or (λ (k : Block). k.depth ≤ 5) code.blocks no_code (λ i _. sized.depths i));
  pairs =
      let few = few_pairs tables code (strands tables code is.live) in
      let a = sized.instructions in
      omega (arith, few, a);
  ties =
      let same = length-map (enumerate_from 0 (strands tables code is.live))
      (grouped (ties code (strands tables code is.live)) is.least) in
      let long = length-enumerate_from 0 (strands tables code is.live) in
      All-weaker (λ (t : Tie). t.from < length (strands tables code is.live))
      (λ (t : Tie). t.from < length
      (map (grouped (ties code (strands tables code is.live)) is.least)
      (enumerate_from 0 (strands tables code is.live))))
      (λ t lt. omega (arith, same, long, lt)) _ (ties_within code (strands tables code is.live));
  index = refl;
})
