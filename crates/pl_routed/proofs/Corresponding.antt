-- Placed code of admitted routes corresponds to the selected code.
use Rattle.std.proofs.Common.{◌≡◌, ℕ, zero, suc, ◌+◌, ◌*◌, ◌<◌, ◌≤◌, inl, inr, ⊎_elim, Bool, true}
use Rattle.std.proofs.Common.{false, not, ◌&&◌, nat_eq, List, [], ◌∷◌, ◌++◌, length, map, slice_get}
use Rattle.std.proofs.Common.{slice_index_or, Option, Some, None, refl, sym, ap, subst, ◌∙◌, arith}
use Rattle.std.proofs.Common.{lit<, append-nil}
use Rattle.std.proofs.lemmas.Bool.{cases_lt}
use Rattle.std.proofs.lemmas.Bool.Decides.{nat_tests}
use Rattle.std.proofs.lemmas.List.{get_or_past}
use Rattle.std.proofs.lemmas.Option.{slice_get-get_or, slice_get_past, get_or_from_slice_get}
use Rattle.pra_list.specs.Among.{Among}
use Rattle.pra_list.proofs.Options.{some_same, none_some}
use Rattle.pra_base.specs.declared.ids.Place.{Place}
use Rattle.pra_base.specs.declared.ids.Place.TheVariants.{Eax, Ecx, Edx, Ebx, Esi, Edi, Mem, Const}
use Rattle.pra_base.specs.declared.ids.Place.TheVariants.{EaxM, EcxM, EdxM, EbxM, EsiM, EdiM}
use Rattle.pra_base.specs.declared.ids.VarId.{VarId}
use Rattle.pra_base.specs.declared.code.VarKind.{VarKind}
use Rattle.pra_base.specs.declared.code.VarKind.TheVariants.{Param, Plain, Constant}
use Rattle.pra_base.specs.declared.code.Block.{Block}
use Rattle.pra_base.specs.declared.code.VInstr.{VInstr}
use Rattle.pra_base.specs.declared.code.VProc.{VProc}
use Rattle.pra_base.specs.Code as base
use Rattle.pra_base.specs.Code.{code_of, instr_at, end_of, is_plain, IsTarget}
use Rattle.pra_base.specs.Places.{number, is_register, needs_slot}
use Rattle.pra_base.specs.Valid.{IsValid, IsSized}
use Rattle.net_form.specs.declared.net.Strand.{Strand}
use Rattle.net_form.specs.declared.net.Net.{Net}
use Rattle.net_form.specs.declared.routes.Routes.{Routes}
use Rattle.net_form.specs.Tables.{all_tables}
use Rattle.net_form.specs.Strands.{layer_count, is_param, comes_in_memory}
use Rattle.net_form.specs.Network.{IsNet}
use Rattle.net_form.specs.Flow.{Edge, flow, AreRoutes}
use Rattle.net_form.specs.Admitted.{IsAdmitted}
use Rattle.pl_moves.specs.declared.transfer.Move.{Move}
use Rattle.pl_moves.specs.declared.transfer.Move.TheVariants as move
use Rattle.pl_moves.specs.Meaning.{Memory, reg}
use Rattle.pl_moves.specs.Assignment.{suits, Assigns}
use Rattle.pl_moves.specs.Crossbar.{InRegisters}
use Rattle.pl_place.specs.declared.placed.LInstr.{LInstr}
use Rattle.pl_place.specs.declared.placed.LInstr.TheVariants as placed
use Rattle.pl_place.specs.declared.placed.LBlock.{LBlock}
use Rattle.pl_place.specs.declared.placed.LProc.{LProc}
use Rattle.pl_place.specs.Placed.{kind_of, slot_of}
use Rattle.pl_place.specs.Machine.{spot, spot_as, slotted, Slot, Argument, no_block}
use Rattle.pl_place.specs.Behind.{Routed, strand_by, constant, pairs_at, operand_places, in_memory}
use Rattle.pl_place.specs.Behind.{has_slot, IsOp, Lays, IsBehind}
use Rattle.pl_place.specs.Valid.{linstr_at, HasCell, MoveHasMemory, MoveNames, IsPlaced}
use Rattle.pra_list.specs.Each.{Each}
use Rattle.pl_simulation.specs.Correspondence.{Allocation, InFrame, IsCell, InCells, FitsAt, IsOpAt}
use Rattle.pl_simulation.specs.Correspondence.{InstrCorresponds, EndCorresponds, Comes, Corresponds}
use Rattle.pl_routed.specs.Routed.{routed}
use Rattle.pra_list.proofs.Among.{in_at, at_in, in_left, in_right, in_map, in_filter, in_range}
use Rattle.pl_routed.proofs.Present.{live as live_of, edge_inside, edge_mask, edge_there, edge_tied}
use Rattle.pl_routed.proofs.Present.{in_the_flow, its_strand}
use Rattle.pl_routed.proofs.Masks.{place_at_entry}
use Rattle.pl_routed.proofs.Lives.{present_at_exit, lives_at_entry}
use Rattle.pl_routed.proofs.Slots.{any_in, slot_there, memory_of}
use Rattle.pl_routed.proofs.Transferred.{At, alloc, edge_of, of_edge, edge_suits, transfers}
use Rattle.pl_routed.proofs.Fitted.{fits}

-- ---- what is left of a block

abbrev rest_at : (r : Routed) (b j : ℕ) (is : List VInstr) (left : List LInstr) →
    Lays r b j is left → ℕ → List LInstr
rest_at r b j is left lays zero = left
rest_at r b j [] left lays (suc k) = []
rest_at r b j (i ∷ is) left lays (suc k) = rest_at r b (suc j) is lays.2 lays.6 k

record Laid (r : Routed) (b k : ℕ) (i : VInstr) (left rest : List LInstr) : Type 0 where
  moves : List Move
  op : LInstr
  parts : left ≡ map placed.Move moves ++ op ∷ rest
  assigns : Assigns moves (pairs_at r b (2 * k + 1))
  is_op : IsOp op i (operand_places r b k i)

laid_at : (r : Routed) (b j : ℕ) (is : List VInstr) (left : List LInstr) (lays : Lays r b j is left)
    (k : ℕ) (i : VInstr) → slice_get is k ≡ Some i →
    Laid r b (j + k) i (rest_at r b j is left lays k) (rest_at r b j is left lays (suc k))
laid_at r b j [] left lays k i e = cc
laid_at r b j (x ∷ is) left lays zero i e =
    let same : j ≡ j + 0 = omega arith in
    subst (λ n. Laid r b n i left lays.2) same
    (subst (λ y. Laid r b j y left lays.2) (some_same x i e)
    (record {
      moves = lays.0;
      op = lays.1;
      parts = lays.3;
      assigns = lays.4.assigns;
      is_op =
          lays.5;
    }))
laid_at r b j (x ∷ is) left lays (suc k) i e =
    let same : suc j + k ≡ j + suc k = omega arith in
    subst (λ n. Laid r b n i (rest_at r b (suc j) is lays.2 lays.6 k)
    (rest_at r b (suc j) is lays.2 lays.6 (suc k))) same
    (laid_at r b (suc j) is lays.2 lays.6 k i e)

record LaidEnd (r : Routed) (b k : ℕ) (left : List LInstr) : Type 0 where
  moves : List Move
  parts : left ≡ map placed.Move moves
  assigns : Assigns moves (pairs_at r b (2 * k + 1))

laid_end : (r : Routed) (b j : ℕ) (is : List VInstr) (left : List LInstr)
    (lays : Lays r b j is left) → LaidEnd r b (j + length is)
    (rest_at r b j is left lays (length is))
laid_end r b j [] left lays =
    let same : j ≡ j + 0 = omega arith in
    subst (λ n. LaidEnd r b n left) same
    (record { moves = lays.0; parts = lays.1; assigns = lays.2.assigns })
laid_end r b j (x ∷ is) left lays =
    let same : suc j + length is ≡ j + suc (length is) = omega arith in
    subst (λ n. LaidEnd r b n (rest_at r b (suc j) is lays.2 lays.6 (length is))) same
    (laid_end r b (suc j) is lays.2 lays.6)

rest_in : (r : Routed) (b j : ℕ) (is : List VInstr) (left : List LInstr) (lays : Lays r b j is left)
    (k : ℕ) (x : LInstr) → Among x (rest_at r b j is left lays k) → Among x left
rest_in r b j is left lays zero x i = i
rest_in r b j [] left lays (suc k) x i = absurd i
rest_in r b j (y ∷ is) left lays (suc k) x i =
    subst (Among x) (sym lays.3)
    (in_right (map placed.Move lays.0) (lays.1 ∷ lays.2) x
    (inr (rest_in r b (suc j) is lays.2 lays.6 k x i)))

-- ---- places, registers, kinds

op_places : (op : LInstr) (i : VInstr) (ps : List (Option Place)) → IsOp op i ps →
    (qs : List Place) × IsOpAt op i (map number qs) × (map Some qs ≡ ps)
op_places (placed.Op j places) i ps is = (places.items, (is.0, refl), is.1)
op_places (placed.Move m) i ps is = absurd is

reg_cell : (p : LProc) (q : Place) → is_register (number q) ≡ true → IsCell p (reg q)
reg_cell p Eax e = lit< tt
reg_cell p Ecx e = lit< tt
reg_cell p Edx e = lit< tt
reg_cell p Ebx e = lit< tt
reg_cell p Esi e = lit< tt
reg_cell p Edi e = lit< tt
reg_cell p x e = cc

kind_param : (vars : List VarKind) (v i : ℕ) → slice_index_or vars v Plain ≡ Param i →
    slice_get vars v ≡ Some (Param i)
kind_param vars v i e =
    ⊎_elim
    (λ (lt : v < length vars). slice_get-get_or vars v Plain lt ∙ ap Some e)
    (λ (le : length vars ≤ v). absurd (differ (sym (get_or_past vars v Plain le) ∙ e)))
    (cases_lt v (length vars))
  where
    differ : Plain ≡ Param i → ⊥
    differ f = cc

memory_suits : (kind : VarKind) (q : Place) → needs_slot (number q) ≡ true →
    suits (constant kind) (number q) ≡ true → suits (constant kind) 6 ≡ true
memory_suits (Param i) q h e = refl
memory_suits Plain q h e = refl
memory_suits (Constant n) q h e = no_memory (needs_slot (number q)) h e
  where
    no_memory : (t : Bool) → t ≡ true → not t ≡ true → false ≡ true
    no_memory true h e = e
    no_memory false h e = h

each_of : (P : Move → Type 0) (ms : List Move) → ((m : Move) → Among m ms → P m) → Each P ms
each_of P [] f = tt
each_of P (m ∷ ms) f = (f m (inl refl), each_of P ms (λ x i. f x (inr i)))

-- a move of valid placed code is within the frame
module _ (p : LProc) (is : IsPlaced p) where
  has_cell : (v : ℕ) → v < length p.vars → HasCell p v → IsCell p (Memory v)
  has_cell v lt has =
      ⊎_elim
      (λ (param : (i : ℕ) × (kind_of p v ≡ Param i)).
      let here : spot p v ≡ Argument param.0 = ap (λ k. spot_as k (slot_of p v)) param.1 in
      subst (InFrame p) (sym here)
      (is.numbers_in_range.params v param.0 (kind_param p.vars v param.0 param.1)))
      (λ (slot : (k : ℕ) × (u : VarId) × (slice_get p.slots k ≡ Some u) × (u.0 ≡ v)).
      let plain : kind_of p v ≡ Plain = ap (λ w. kind_of p w) (sym slot.3)
      ∙ get_or_from_slice_get p.vars slot.1.0 Plain Plain
      (is.numbers_in_range.slots_plain slot.0 slot.1 slot.2) in
      let there = slot_there p v
      (subst (λ w. Among w (map (λ (u : VarId). u.0) p.slots)) slot.3
      (in_map (λ (u : VarId). u.0) p.slots slot.1 (in_at p.slots slot.0 slot.1 slot.2))) in
      let here : spot p v ≡ Slot there.0 = ap (λ k. spot_as k (slot_of p v)) plain
      ∙ ap slotted there.1 in
      subst (InFrame p) (sym here) there.2)
      has

  in_cells : (m : Move) → InRegisters m → MoveHasMemory p m →
      ((v : ℕ) → MoveNames m v → v < length p.vars) → InCells p m
  in_cells (move.Copy r q) regs has names = (reg_cell p r regs.0, reg_cell p q regs.1)
  in_cells (move.Swap r q) regs has names = (reg_cell p r regs.0, reg_cell p q regs.1)
  in_cells (move.Load r v) regs has names = (reg_cell p r regs, has_cell v.0 (names v.0 refl) has)
  in_cells (move.Store v r) regs has names = (has_cell v.0 (names v.0 refl) has, reg_cell p r regs)
  in_cells (move.Set r n) regs has names = reg_cell p r regs

  block_cells : (b : ℕ) (block : LBlock) → slice_get p.blocks b ≡ Some block → (m : Move) →
      Among (placed.Move m) block.code → InCells p m
  block_cells b block e m i =
      let k = at_in block.code (placed.Move m) i in
      let at : linstr_at p b k.0 (placed.Move m) = (block, e, k.1) in
      in_cells m (is.in_registers b k.0 m at) (is.memory_there.moves b k.0 m at)
      (is.numbers_in_range.moves b k.0 m at)

-- ---- the whole

module _ (code : VProc) (net : Net) (is : IsNet net code) (routes : Routes)
    (has : AreRoutes net routes) (admitted : IsAdmitted net (flow net routes))
    (valid : IsValid code) (sized : IsSized code) (p : LProc)
    (behind : IsBehind (routed code net routes) p) (placed_is : IsPlaced p) where
  abbrev r : Routed
  r = routed code net routes

  abbrev where_ : ℕ → ℕ → Allocation
  where_ b l = alloc code net is routes has admitted b l

  abbrev EdgeIs : ℕ → ℕ → ℕ → Edge → Type 0
  EdgeIs b l v e = At code net is routes has admitted b l v e

  memory : (b l v : ℕ) (e : Edge) → EdgeIs b l v e → needs_slot (number e.to) ≡ true →
      IsCell p (Memory v)
  memory b l v e at h =
      let inside = edge_inside all_tables code net is routes has admitted b l v e at in
      memory_of code p sized behind.vars behind.args v inside.var (base.kind_of code v) refl
      (λ plain.
      let var : (strand_by r e).var.0 ≡ v = ap (λ (t : Strand). t.var.0)
      (its_strand all_tables code net is routes has admitted e at.route) ∙ at.covers.var in
      let here : in_memory r v ≡ true = any_in _ (flow net routes) e
      (in_the_flow all_tables code net is routes has admitted b l v e at)
      (both (nat_eq (strand_by r e).var.0 v) (needs_slot (number e.to))
      (same_nat (strand_by r e).var.0 v var) h) in
      let slot : has_slot r v ≡ true = both (is_plain (base.kind_of code v)) (in_memory r v)
      (ap is_plain plain) here in
      subst (Among v) (sym behind.slots)
      (in_filter (has_slot r) _ v
      (in_range 0 (length code.vars) v (omega arith) (let lt = inside.var in omega (arith, lt)))
      slot))
      (memory_suits (base.kind_of code v) e.to h
      (edge_suits code net is routes has admitted b l v e at))
    where
      both : (a c : Bool) → a ≡ true → c ≡ true → (a && c) ≡ true
      both a c e f = rw (e, f) refl

      same_nat : (a c : ℕ) → a ≡ c → nat_eq a c ≡ true
      same_nat a c e = grind (arith, nat_tests)

  moves_in : (b : ℕ) (block : LBlock) (e : slice_get p.blocks b ≡ Some block) (k : ℕ)
      (ms : List Move) (more : List LInstr) → rest_at r b 0 (code_of code b) block.code
      (behind.lays b block e) k ≡ map placed.Move ms ++ more → Each (InCells p) ms
  moves_in b block e k ms more parts =
      each_of (InCells p) ms
      (λ m i.
      block_cells p placed_is b block e m
      (rest_in r b 0 (code_of code b) block.code (behind.lays b block e) k (placed.Move m)
      (subst (Among (placed.Move m)) (sym parts)
      (in_left (map placed.Move ms) more (placed.Move m) (in_map placed.Move ms m i)))))

  -- what is left of a block, where it is there
  abbrev rest_of : (b : ℕ) (o : Option LBlock) → slice_get p.blocks b ≡ o → ℕ → List LInstr
  rest_of b None e k = []
  rest_of b (Some block) e k = rest_at r b 0 (code_of code b) block.code (behind.lays b block e) k

  abbrev rest : ℕ → ℕ → List LInstr
  rest b k = rest_of b (slice_get p.blocks b) refl k

  block_there : (b : ℕ) → b < length code.blocks → slice_get p.blocks b ≡ None → ⊥
  block_there b lt e =
      let many : length p.blocks ≡ length code.blocks = behind.count in
      none_some (sym e ∙ slice_get-get_or p.blocks b no_block (omega (arith, many, lt)))

  in_code : (b k : ℕ) (i : VInstr) → instr_at code b k ≡ Some i → b < length code.blocks
  in_code b k i e =
      ⊎_elim
      (λ (lt : b < length code.blocks). lt)
      (λ (le : length code.blocks ≤ b).
      absurd (none_some (sym (ap (λ (x : Block). slice_get x.code k)
      (get_or_past code.blocks b base.no_block le)) ∙ e)))
      (cases_lt b (length code.blocks))

  abbrev before : ℕ → ℕ → Allocation
  before b k = where_ b (2 * k)

  abbrev exit : ℕ → Allocation
  exit b = where_ b (2 * length (code_of code b) + 1)

  instr_corresponds : (b k : ℕ) (i : VInstr) → instr_at code b k ≡ Some i →
      (o : Option LBlock) (e : slice_get p.blocks b ≡ o) → InstrCorresponds p i (rest_of b o e k)
      (rest_of b o e (suc k)) (before b k) (before b (suc k))
  instr_corresponds b k i here None e = absurd (block_there b (in_code b k i here) e)
  instr_corresponds b k i here (Some block) e =
      let l = laid_at r b 0 (code_of code b) block.code (behind.lays b block e) k i here in
      let zero_more : 0 + k ≡ k = omega arith in
      let assigns : Assigns l.moves (pairs_at r b (2 * k + 1)) =
      subst (λ n. Assigns l.moves (pairs_at r b (2 * n + 1))) zero_more l.assigns in
      let is_op : IsOp l.op i (operand_places r b k i) =
      subst (λ n. IsOp l.op i (operand_places r b n i)) zero_more l.is_op in
      let o = op_places l.op i (operand_places r b k i) is_op in
      let fit = fits code net is routes has admitted p behind.vars b k i here valid.constants_kept
      (λ m v d at h. memory b m v d at h) o.0 o.2 in
      let layer : 2 * k + 2 ≡ 2 * suc k = omega arith in
      record {
        moves = l.moves;
        op = l.op;
        places = map number o.0;
        parts = l.parts;
        is_op = o.1;
        at = where_ b (2 * k + 1);
        transfers = transfers code net is routes has admitted p behind.vars b k l.moves
            (moves_in b block e k l.moves
            (l.op ∷ rest_at r b 0 (code_of code b) block.code (behind.lays b block e) (suc k))
            l.parts) assigns;
        fits = subst (λ n. FitsAt p i (map number o.0) (where_ b (2 * k + 1)) (where_ b n)) layer
            fit;
      }

  end_corresponds : (b : ℕ) → b < length code.blocks →
      (o : Option LBlock) (e : slice_get p.blocks b ≡ o) → let n = length (code_of code b) in
      EndCorresponds p (rest_of b o e n) (before b n) (exit b)
  end_corresponds b lt None e = absurd (block_there b lt e)
  end_corresponds b lt (Some block) e =
      let n = length (code_of code b) in
      let l = laid_end r b 0 (code_of code b) block.code (behind.lays b block e) in
      let zero_more : 0 + n ≡ n = omega arith in
      let assigns : Assigns l.moves (pairs_at r b (2 * n + 1)) =
      subst (λ k. Assigns l.moves (pairs_at r b (2 * k + 1))) zero_more l.assigns in
      record {
        moves = l.moves;
        parts = l.parts;
        transfers = transfers code net is routes has admitted p behind.vars b n l.moves
            (moves_in b block e n l.moves [] (l.parts ∙ sym (append-nil (map placed.Move l.moves))))
            assigns;
      }

  block_corresponds : (t : ℕ) → t < length code.blocks →
      (o : Option LBlock) (e : slice_get p.blocks t ≡ o) → (block : LBlock) ×
      (slice_get p.blocks t ≡ Some block) × (block.code ≡ rest_of t o e 0) ×
      (block.end ≡ end_of code t)
  block_corresponds t lt None e = absurd (block_there t lt e)
  block_corresponds t lt (Some block) e = (block, e, refl, behind.ends t block e)

  kind_is : (v : ℕ) → kind_of p v ≡ base.kind_of code v
  kind_is v = ap (λ (ks : List VarKind). slice_index_or ks v Plain) behind.vars

  entry_comes : (v n : ℕ) → before 0 0 v ≡ Some n → Comes p v n
  entry_comes v n e =
      let x = edge_of code net is routes has admitted 0 0 v n e in
      let inside = edge_inside all_tables code net is routes has admitted 0 0 v x.0 x.1 in
      let live = live_of all_tables code net is in
      let param = valid.live_at_entry v (lives_at_entry code live is.is_live v 0 inside.present) in
      let coming : comes_in_memory code v 0 0 ≡ true =
      ap (λ k. is_param k && nat_eq 0 0 && nat_eq 0 0) param.1 in
      let place : x.0.to ≡ Mem = place_at_entry code live v 0 0 x.0.to
      (edge_mask all_tables code net is routes has admitted 0 0 v x.0 x.1) coming in
      let range = sized.params_in_range v param.0 (kind_param code.vars v param.0 param.1) in
      let args : p.args ≡ code.args = behind.args in
      record {
        argument = param.0;
        param = kind_is v ∙ param.1;
        in_memory = sym x.2 ∙ ap number place;
        in_range = omega (arith, range, args);
      }

  ties_keep : (b t : ℕ) → b < length code.blocks → IsTarget (end_of code b) t → (v n : ℕ) →
      before t 0 v ≡ Some n → exit b v ≡ Some n
  ties_keep b t lt target v n e =
      let x = edge_of code net is routes has admitted t 0 v n e in
      let inside = edge_inside all_tables code net is routes has admitted t 0 v x.0 x.1 in
      let live = live_of all_tables code net is in
      let many = length (code_of code b) in
      let end : instr_at code b many ≡ None = slice_get_past (code_of code b) many (omega arith) in
      let layer : 2 * many + 1 < layer_count code b = omega arith in
      let present = present_at_exit code live is.is_live v b many t inside.var lt layer end target
      inside.present in
      let d = edge_there all_tables code net is routes has admitted b (2 * many + 1) v present
      inside.var lt layer in
      let same = edge_tied all_tables code net is routes has admitted b t v d.0 x.0 d.1 x.1
      target in
      of_edge code net is routes has admitted b (2 * many + 1) v d.0 d.1
      ∙ ap (λ (q : Place). Some (number q)) same ∙ ap Some x.2

  pub corresponds : Corresponds code p
  corresponds = record {
    before = before;
    exit = exit;
    rest = rest;
    vars = behind.vars;
    aggregates = behind.aggregates;
    args = behind.args;
    params_apart = λ v w i e f. valid.arguments_apart.params v w i
        (kind_param code.vars v i (sym (kind_is v) ∙ e))
        (kind_param code.vars w i (sym (kind_is w) ∙ f));
    instrs = λ b k i here. instr_corresponds b k i here (slice_get p.blocks b) refl;
    ends = λ b lt. end_corresponds b lt (slice_get p.blocks b) refl;
    entry = entry_comes;
    targets = sized.targets_in_range;
    blocks = λ t lt. block_corresponds t lt (slice_get p.blocks t) refl;
    ties = ties_keep;
  }
