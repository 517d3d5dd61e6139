-- The rules of valid placed code, one after the other.
use Rattle.std.proofs.Common.{◌≡◌, ◌≢◌, ℕ, ℤ, zero, suc, ◌+◌, ◌*◌, ◌≤◌, ◌<◌, inl, inr, ⊎_elim, Bool}
use Rattle.std.proofs.Common.{true, false, not, ◌&&◌, nat_eq, cond, List, [], ◌∷◌, length, map}
use Rattle.std.proofs.Common.{slice_get, slice_index_or, Any, Some, refl, sym, ap, ap₂, subst, ◌∙◌}
use Rattle.std.proofs.Common.{arith, count_by, filter}
use Rattle.std.specs.List.{range_with_len}
use Rattle.std.proofs.lemmas.Bool.{cases_lt}
use Rattle.std.proofs.lemmas.Bool.Decides.{nat_tests}
use Rattle.std.proofs.lemmas.List.{get_or_past, get_or-map, length-map}
use Rattle.std.proofs.lemmas.Option.{slice_get-map, slice_get-get_or, slice_get_within}
use Rattle.std.proofs.lemmas.Option.{get_or_from_slice_get}
use Rattle.pra_list.specs.Among.{Among}
use Rattle.pra_base.specs.declared.ids.Place.{Place}
use Rattle.pra_base.specs.declared.ids.VarId.{VarId}
use Rattle.pra_base.specs.declared.code.Block.{Block}
use Rattle.pra_base.specs.declared.code.VarKind.{VarKind}
use Rattle.pra_base.specs.declared.code.VarKind.TheVariants.{Param, Plain, Constant}
use Rattle.pra_base.specs.declared.code.End.{End}
use Rattle.pra_base.specs.declared.code.VProc.{VProc}
use Rattle.pra_base.specs.Code as base
use Rattle.pra_base.specs.Code.{code_of, instr_at, end_of, block_in, is_plain, IsTarget, EachInstr}
use Rattle.pra_base.specs.Places.{number, needs_slot}
use Rattle.pra_base.specs.Valid.{IsValid, IsSized, KeepsBlockRules, UpToDepth, ArgumentsApart}
use Rattle.pra_base.specs.Valid.{Names, NamesCell, near}
use Rattle.pra_base.proofs.Depth.{block_rules, each_instr}
use Rattle.net_form.specs.declared.net.Strand.{Strand}
use Rattle.net_form.specs.declared.net.Net.{Net}
use Rattle.net_form.specs.declared.routes.Routes.{Routes}
use Rattle.net_form.specs.Tables.{all_tables}
use Rattle.net_form.specs.Network.{IsNet}
use Rattle.net_form.specs.Flow.{Edge, flow, AreRoutes}
use Rattle.net_form.specs.Admitted.{IsAdmitted}
use Rattle.pl_moves.specs.declared.transfer.Pair.{Pair}
use Rattle.pl_moves.specs.declared.transfer.Move.{Move}
use Rattle.pl_moves.specs.declared.transfer.Move.TheVariants as move
use Rattle.pl_moves.specs.Crossbar.{InRegisters, NamesMemory, InMemory}
use Rattle.pl_moves.specs.Crossbar as crossbar
use Rattle.pl_place.specs.declared.placed.LInstr.TheVariants as placed
use Rattle.pl_place.specs.declared.placed.LBlock.{LBlock}
use Rattle.pl_place.specs.declared.placed.LProc.{LProc}
use Rattle.pl_place.specs.Placed.{kind_of, bare, bare_block}
use Rattle.pl_moves.specs.Assignment.{suits}
use Rattle.pl_place.specs.Behind.{Routed, strand_by, comes_at, constant, from_place, pair_of}
use Rattle.pl_place.specs.Behind.{in_memory, has_slot, slots_of, pairs_at}
use Rattle.pl_place.specs.Machine.{no_block}
use Rattle.pl_place.specs.Valid.{linstr_at, EachOp, EachMove, FewMoves, HasCell, MoveHasMemory}
use Rattle.pl_place.specs.Valid.{MoveNames, NumbersInRange}
use Rattle.pl_routed.specs.Routed.{routed}
use Rattle.pra_list.proofs.Among.{in_at, at_in, in_map, in_filter, in_range, of_map, of_filter}
use Rattle.pra_list.proofs.Among.{at_most_one, sum_one}
use Rattle.pl_routed.proofs.Present.{edge_inside, its_strand, in_the_flow, brings_edge, edge_from}
use Rattle.pl_routed.proofs.Present.{From}
use Rattle.pl_routed.proofs.Present.From.{Begins, Goes}
use Rattle.pra_list.proofs.Counts.{bit, count-cons}
use Rattle.pra_base.specs.declared.ids.Place.TheVariants.{Const}
use Rattle.std.specs.Prelude.{option_map}
use Rattle.pl_routed.proofs.Slots.{any_in}
use Rattle.pl_routed.proofs.Transferred.{At, edge_suits}
use Rattle.pl_made.proofs.Few.{few_at}
use Rattle.pl_made.specs.Made.{IsMade}
use Rattle.pl_made.proofs.Parts.{MoveOf, move_in, op_in, few_in, bare_in}

module _ (code : VProc) (net : Net) (routes : Routes) (is : IsNet net code)
    (has : AreRoutes net routes) (admitted : IsAdmitted net (flow net routes))
    (valid : IsValid code) (sized : IsSized code) (p : LProc)
    (made : IsMade (routed code net routes) p) where
  abbrev r : Routed
  r = routed code net routes

  -- ---- moves

  pub move_of : (b k : ℕ) (m : Move) → linstr_at p b k (placed.Move m) → MoveOf r b m
  move_of b k m at = move_in r b 0 (code_of code b) at.0.code (made.lays b at.0 at.1) m
      (in_at at.0.code k (placed.Move m) at.2)

  pub in_registers : EachMove p InRegisters
  in_registers b k m at = (move_of b k m at).in_registers

  pub few_moves : (b : ℕ) (block : LBlock) → slice_get p.blocks b ≡ Some block →
      FewMoves 0 block.code
  few_moves b block e = few_in r b 0 (code_of code b) block.code (made.lays b block e)
      (few_at code net routes is has admitted b)

  -- ---- blocks

  abbrev low_block : ℕ → Block
  low_block b = block_in (bare p) b

  block_bare : (b : ℕ) (block : LBlock) → slice_get p.blocks b ≡ Some block → low_block b ≡
      bare_block block
  block_bare b block e =
      let lt : b < length p.blocks = slice_get_within p.blocks b block e in
      get_or-map bare_block p.blocks b no_block base.no_block lt
      ∙ ap bare_block (get_or_from_slice_get p.blocks b block no_block e)

  bare_count : length (bare p) ≡ length code.blocks
  bare_count = length-map p.blocks bare_block ∙ made.count

  same_blocks : UpToDepth code.blocks (bare p)
  same_blocks = record { count = bare_count; code = same_code; end = same_end }
    where
      outside : (b : ℕ) → length code.blocks ≤ b → low_block b ≡ base.no_block
      outside b le = get_or_past (bare p) b base.no_block
          (let many = bare_count in omega (arith, many, le))

      inside : (b : ℕ) → b < length code.blocks → (block : LBlock) ×
          (slice_get p.blocks b ≡ Some block)
      inside b lt = (
        slice_index_or p.blocks b no_block,
        slice_get-get_or p.blocks b no_block
            (let many : length p.blocks ≡ length code.blocks = made.count in
            omega (arith, many, lt)),
      )

      same_code : (b : ℕ) → (low_block b).code ≡ (block_in code.blocks b).code
      same_code b =
          ⊎_elim
          (λ (lt : b < length code.blocks).
          let x = inside b lt in
          ap (λ (y : Block). y.code) (block_bare b x.0 x.1) ∙ bare_in r b 0 (code_of code b)
          x.0.code (made.lays b x.0 x.1))
          (λ (le : length code.blocks ≤ b). ap (λ (y : Block). y.code)
          (outside b le ∙ sym (get_or_past code.blocks b base.no_block le)))
          (cases_lt b (length code.blocks))

      same_end : (b : ℕ) → (low_block b).end ≡ (block_in code.blocks b).end
      same_end b =
          ⊎_elim
          (λ (lt : b < length code.blocks).
          let x = inside b lt in
          ap (λ (y : Block). y.end) (block_bare b x.0 x.1) ∙ made.ends b x.0 x.1)
          (λ (le : length code.blocks ≤ b). ap (λ (y : Block). y.end)
          (outside b le ∙ sym (get_or_past code.blocks b base.no_block le)))
          (cases_lt b (length code.blocks))

  pub keeps_rules : KeepsBlockRules p.aggregates (bare p)
  keeps_rules = subst (λ n. KeepsBlockRules n (bare p)) (sym made.aggregates)
      (block_rules code.blocks (bare p) same_blocks code.aggregates valid.block_rules)

  -- ---- memory

  abbrev EdgeIs : ℕ → ℕ → ℕ → Edge → Type 0
  EdgeIs b l v e = At code net is routes has admitted b l v e

  pub kind_is : (v : ℕ) → kind_of p v ≡ base.kind_of code v
  kind_is v = ap (λ (ks : List VarKind). slice_index_or ks v Plain) made.vars

  both : (a c : Bool) → a ≡ true → c ≡ true → (a && c) ≡ true
  both a c e f = rw (e, f) refl

  same_nat : (a c : ℕ) → a ≡ c → nat_eq a c ≡ true
  same_nat a c e = grind (arith, nat_tests)

  -- a Plain variable that is brought to memory is among the slots
  slotted_in : (b l v : ℕ) (e : Edge) → EdgeIs b l v e → needs_slot (number e.to) ≡ true →
      base.kind_of code v ≡ Plain → Among v (map (λ (u : VarId). u.0) p.slots)
  slotted_in b l v e at h plain =
      let inside = edge_inside all_tables code net is routes has admitted b l v e at in
      let var : (strand_by r e).var.0 ≡ v = ap (λ (t : Strand). t.var.0)
      (its_strand all_tables code net is routes has admitted e at.route) ∙ at.covers.var in
      let here : in_memory r v ≡ true = any_in _ (flow net routes) e
      (in_the_flow all_tables code net is routes has admitted b l v e at)
      (both (nat_eq (strand_by r e).var.0 v) (needs_slot (number e.to))
      (same_nat (strand_by r e).var.0 v var) h) in
      let slot : has_slot r v ≡ true = both (is_plain (base.kind_of code v)) (in_memory r v)
      (ap is_plain plain) here in
      subst (Among v) (sym made.slots)
      (in_filter (has_slot r) _ v
      (in_range 0 (length code.vars) v (omega arith) (let lt = inside.var in omega (arith, lt)))
      slot)

  no_memory : (n : ℤ) (q : Place) → needs_slot (number q) ≡ true → suits (Some n) (number q) ≡
      true → ⊥
  no_memory n q h e = true_false (needs_slot (number q)) h e
    where
      true_false : (t : Bool) → t ≡ true → not t ≡ true → ⊥
      true_false true h e = cc
      true_false false h e = cc

  pub has_memory : (b l v : ℕ) (e : Edge) → EdgeIs b l v e → needs_slot (number e.to) ≡ true →
      HasCell p v
  has_memory b l v e at h = by_kind (base.kind_of code v) refl
    where
      by_kind : (kind : VarKind) → base.kind_of code v ≡ kind → HasCell p v
      by_kind (Param i) k = inl (i, kind_is v ∙ k)
      by_kind Plain k =
          let u = of_map (λ (u : VarId). u.0) p.slots v (slotted_in b l v e at h k) in
          let n = at_in p.slots u.0 u.1 in
          inr (n.0, u.0, n.1, sym u.2)
      by_kind (Constant n) k =
          absurd (no_memory n e.to h
          (ap (λ c. suits (constant c) (number e.to)) (sym k) ∙ edge_suits code net is routes has
          admitted b l v e at))

  -- ---- the pairs of a layer

  any_in_list : {X : Type 0} (P : X → Type 0) (xs : List X) → Any P xs → (x : X) × Among x xs × P x
  any_in_list P xs a = (a.1, in_at xs a.0 a.1 (slice_get-get_or xs a.0 a.1 a.2 ∙ ap Some a.3), a.4)

  -- a pair that comes from memory or goes there is of a variable that has it
  pair_memory : (b k : ℕ) (y : Pair) → Among y (pairs_at r b (2 * k + 1)) → crossbar.HasMemory y →
      HasCell p y.var.0 × (y.var.0 < length code.vars)
  pair_memory b k y i h =
      let d = of_map (pair_of r) _ y i in
      let f = of_filter (comes_at r b (2 * k + 1)) (flow net routes) d.0 d.1 in
      let v = (strand_by r d.0).var.0 in
      let at = brings_edge all_tables code net is routes has admitted b (2 * k + 1) v d.0 f.0
      (both (nat_eq v v) (comes_at r b (2 * k + 1) d.0) (same_nat v v refl) f.1) in
      let inside = edge_inside all_tables code net is routes has admitted b (2 * k + 1) v d.0 at in
      let there : HasCell p v =
      ⊎_elim
      (λ (from : needs_slot (number y.from) ≡ true). by_from d.0 v
      (ap (λ (z : Pair). needs_slot (number z.from)) (sym d.2) ∙ from)
      (edge_from all_tables code net is routes has admitted b (2 * k + 1) v d.0 at))
      (λ (to : needs_slot (number y.to) ≡ true). has_memory b (2 * k + 1) v d.0 at
      (ap (λ (z : Pair). needs_slot (number z.to)) (sym d.2) ∙ to))
      h in
      subst (λ (z : Pair). HasCell p z.var.0 × (z.var.0 < length code.vars)) (sym d.2)
      (there, inside.var)
    where
      const_none : needs_slot (number Const) ≡ true → ⊥
      const_none e = cc

      by_from : (d : Edge) (v : ℕ) → needs_slot (number (from_place d.from)) ≡ true →
          From all_tables code net is routes has admitted b (2 * k + 1) v d → HasCell p v
      by_from d v h (Begins none before) =
          absurd (const_none (ap (λ o. needs_slot (number (from_place o))) (sym none) ∙ h))
      by_from d v h (Goes m x one there same) =
          has_memory b m v x there (ap (λ o. needs_slot (number (from_place o))) (sym same) ∙ h)

  named : (b k : ℕ) (u : VarId) → InMemory (pairs_at r b (2 * k + 1)) u → HasCell p u.0 ×
      (u.0 < length code.vars)
  named b k u a =
      let y = any_in_list (λ (x : Pair). (x.var ≡ u) × crossbar.HasMemory x)
      (pairs_at r b (2 * k + 1)) a in
      subst (λ (w : VarId). HasCell p w.0 × (w.0 < length code.vars)) y.2.0
      (pair_memory b k y.0 y.1 y.2.1)

  move_memory : (b k : ℕ) (m : Move) → NamesMemory (pairs_at r b (2 * k + 1)) m → MoveHasMemory p m
  move_memory b k (move.Load x v) names = (named b k v names).0
  move_memory b k (move.Store v x) names = (named b k v names).0
  move_memory b k z names = tt

  move_names : (b k : ℕ) (m : Move) → NamesMemory (pairs_at r b (2 * k + 1)) m → (v : ℕ) →
      MoveNames m v → v < length p.vars
  move_names b k (move.Copy x y) names v e = absurd e
  move_names b k (move.Swap x y) names v e = absurd e
  move_names b k (move.Load x u) names v e = let lt = (named b k u names).1 in
      let same : length p.vars ≡ length code.vars = ap length made.vars in
      omega (arith, lt, same, e)
  move_names b k (move.Store u x) names v e = let lt = (named b k u names).1 in
      let same : length p.vars ≡ length code.vars = ap length made.vars in
      omega (arith, lt, same, e)
  move_names b k (move.Set x n) names v e = absurd e

  pub moves_have_memory : EachMove p (MoveHasMemory p)
  moves_have_memory b k m at = let x = move_of b k m at in move_memory b x.index m x.names

  -- ---- slots

  in_range_less : (a n k : ℕ) → Among k (range_with_len a n) → k < a + n
  in_range_less a zero k i = absurd i
  in_range_less a (suc n) k i = ⊎_elim (λ (e : k ≡ a). omega (arith, e))
      (λ (more : Among k (range_with_len (a + 1) n)). let lt = in_range_less (a + 1) n k more in
      omega (arith, lt)) i

  slot_kind : (k : ℕ) (u : VarId) → slice_get p.slots k ≡ Some u → (u.0 < length code.vars) ×
      (base.kind_of code u.0 ≡ Plain)
  slot_kind k u e =
      let i : Among u.0 (slots_of r) = subst (Among u.0) made.slots
      (in_map (λ (w : VarId). w.0) p.slots u (in_at p.slots k u e)) in
      let f = of_filter (has_slot r) (range_with_len 0 (length code.vars)) u.0 i in
      let lt = in_range_less 0 (length code.vars) u.0 f.0 in (
        omega (arith, lt),
        is_plain_kind (base.kind_of code u.0)
            (left (is_plain (base.kind_of code u.0)) (in_memory r u.0) f.1),
      )
    where
      left : (a c : Bool) → (a && c) ≡ true → a ≡ true
      left true c e = refl
      left false c e = cc

      is_plain_kind : (kind : VarKind) → is_plain kind ≡ true → kind ≡ Plain
      is_plain_kind Plain e = refl
      is_plain_kind (Param i) e = cc
      is_plain_kind (Constant n) e = cc

  slots_plain : (k : ℕ) (u : VarId) → slice_get p.slots k ≡ Some u → slice_get p.vars u.0 ≡
      Some Plain
  slots_plain k u e =
      let s = slot_kind k u e in
      ap (λ ks. slice_get ks u.0) made.vars ∙ slice_get-get_or code.vars u.0 Plain s.0 ∙ ap Some s.1

  count_filter : (f g : ℕ → Bool) (xs : List ℕ) → count_by g (filter f xs) ≤ count_by g xs
  count_filter f g [] = omega arith
  count_filter f g (x ∷ xs) = let one = count-cons g x xs in by_test (f x) one (count_filter f g xs)
    where
      by_test : (c : Bool) → count_by g (x ∷ xs) ≡ bit (g x) + count_by g xs →
          count_by g (filter f xs) ≤ count_by g xs →
          count_by g (cond c (x ∷ filter f xs) (filter f xs)) ≤ count_by g (x ∷ xs)
      by_test true one ih = let two = count-cons g x (filter f xs) in omega (arith, one, two, ih)
      by_test false one ih = omega (arith, one, ih)

  bit_le : (c : Bool) → bit c ≤ 1
  bit_le true = omega arith
  bit_le false = omega arith

  one_slot : (v : ℕ) → count_by (nat_eq v) (slots_of r) ≤ 1
  one_slot v =
      let few = count_filter (has_slot r) (nat_eq v) (range_with_len 0 (length code.vars)) in
      let one : count_by (nat_eq v) (range_with_len 0 (length code.vars)) ≤ 1 =
      sum_one (λ i. bit (nat_eq v i)) v 0 (length code.vars) (λ i ne. ap bit (differ v i ne))
      (bit_le (nat_eq v v)) in
      omega (arith, few, one)
    where
      differ : (a i : ℕ) → (i ≡ a → ⊥) → nat_eq a i ≡ false
      differ a i ne = grind (arith, nat_tests)

  pub slots_distinct : (k j : ℕ) (u : VarId) → slice_get p.slots k ≡ Some u → slice_get p.slots j ≡
      Some u → k ≡ j
  slots_distinct k j u e f =
      let at : (n : ℕ) → slice_get p.slots n ≡ Some u → slice_get (slots_of r) n ≡ Some u.0 =
      λ n g. ap (λ xs. slice_get xs n) (sym made.slots) ∙ slice_get-map (λ (w : VarId). w.0)
      p.slots n ∙ ap (option_map (λ (w : VarId). w.0)) g in
      at_most_one (nat_eq u.0) (slots_of r) (one_slot u.0) k j u.0 u.0 (at k e)
      (same_nat u.0 u.0 refl) (at j f) (same_nat u.0 u.0 refl)

  -- ---- numbers

  ops_names : EachOp p (λ i places. (v : ℕ) → Names i v → v < length p.vars)
  ops_names b k i places at v names =
      let o = op_in r b 0 (code_of code b) at.0.code (made.lays b at.0 at.1) i places
      (in_at at.0.code k (placed.Op i places) at.2) in
      let same : length p.vars ≡ length code.vars = ap length made.vars in
      let lt = sized.variables_in_range b o.index o.instr o.here v
      (subst (λ j. Names j v) o.is_op.0 names) in
      omega (arith, lt, same)

  kind_param : (v i : ℕ) → slice_get p.vars v ≡ Some (Param i) → i < p.args
  kind_param v i e = let lt =
      sized.params_in_range v i (ap (λ ks. slice_get ks v) (sym made.vars) ∙ e) in
      let args : p.args ≡ code.args = made.args in omega (arith, lt, args)

  cells_in : EachInstr (bare p) (λ j. (i : ℕ) → NamesCell j i → i < p.args)
  cells_in = each_instr code.blocks (bare p) same_blocks (λ j. (i : ℕ) → NamesCell j i → i < p.args)
      (λ b k j at i names. let lt = sized.cells_in_range b k j at i names in let args : p.args ≡
      code.args = made.args in omega (arith, lt, args))

  targets_in : (b t : ℕ) → b < length p.blocks → IsTarget (low_block b).end t → t < length p.blocks
  targets_in b t lt target =
      let many : length p.blocks ≡ length code.blocks = made.count in
      let in_ = sized.targets_in_range b t (omega (arith, lt, many))
      (subst (λ (e : End). IsTarget e t) (same_blocks.end b) target) in
      omega (arith, in_, many)

  apart : ArgumentsApart p.vars (bare p)
  apart = record {
    params = λ v w i e f. valid.arguments_apart.params v w i
        (ap (λ ks. slice_get ks v) (sym made.vars) ∙ e)
        (ap (λ ks. slice_get ks w) (sym made.vars) ∙ f);
    cells = each_instr code.blocks (bare p) same_blocks
        (λ j. (v i : ℕ) → NamesCell j i → slice_get p.vars v ≢ Some (Param i))
        (λ b k j at v i names e. valid.arguments_apart.cells b k j at v i names
        (ap (λ ks. slice_get ks v) (sym made.vars) ∙ e));
  }

  pub numbers : NumbersInRange p
  numbers = record {
    near_is = made.near_is ∙ ap₂ near (sym made.vars) (sym made.args);
    slots_plain = slots_plain;
    ops = ops_names;
    moves = λ b k m at v e. let x = move_of b k m at in move_names b x.index m x.names v e;
    targets = targets_in;
    cells = cells_in;
    params = kind_param;
    arguments_apart = apart;
  }
