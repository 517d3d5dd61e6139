-- Placed code has the instructions, the blocks and no more slots than variables of the code behind
-- it.
use Rattle.std.proofs.Common.{◌≡◌, ℕ, suc, ◌+◌, ◌≤◌, Bool, true, false, cond, List, [], ◌∷◌, ◌++◌}
use Rattle.std.proofs.Common.{length, map, Some, refl, sym, ap, ◌∙◌, arith}
use Rattle.std.specs.Prelude.{slice_get, filter}
use Rattle.std.specs.List.{sum_by, filter_map, range_with_len}
use Rattle.std.proofs.lemmas.List.{length-map}
use Rattle.std.proofs.lemmas.List.Elements.{filter_map-append}
use Rattle.std.proofs.lemmas.List.FromFn.{length-range_with_len}
use Rattle.std.proofs.lemmas.List.Sums.{sum_by-cons}
use Rattle.std.proofs.lemmas.Option.{get_or_from_slice_get}
use Rattle.ia_carries.specs.Faithful.{AreBehind}
use Rattle.ia_emit.specs.Counts.{instruction_count, AreFew}
use Rattle.ia_emit.specs.Operands.{IsSmall}
use Rattle.pl_moves.specs.declared.transfer.Move.{Move}
use Rattle.pl_place.specs.declared.placed.LBlock.{LBlock}
use Rattle.pl_place.specs.declared.placed.LInstr.{LInstr}
use Rattle.pl_place.specs.declared.placed.LInstr.TheVariants as placed
use Rattle.pl_place.specs.declared.placed.LProc.{LProc}
use Rattle.pl_place.specs.Behind.{Routed, IsBehind, Lays, IsOp, has_slot, operand_places, slots_of}
use Rattle.pl_place.specs.Placed.{bare_block, op_of}
use Rattle.pra_base.specs.declared.code.Block.{Block}
use Rattle.pra_base.specs.declared.code.VInstr.{VInstr}
use Rattle.pra_base.specs.declared.ids.VarId.{VarId}
use Rattle.pra_base.specs.Code.{code_of, no_block}
use Rattle.pra_base.specs.Valid.{IsSized, instruction_count as count_of}

-- ---- lists

few_pass : {X : Type 0} (p : X → Bool) (xs : List X) → length (filter p xs) ≤ length xs
few_pass p [] = omega arith
few_pass p (x ∷ xs) = one (p x) (few_pass p xs)
  where
    one : (b : Bool) → length (filter p xs) ≤ length xs →
        length (cond b (x ∷ filter p xs) (filter p xs)) ≤ length (x ∷ xs)
    one true le = omega (arith, le)
    one false le = omega (arith, le)

-- sums over two lists whose elements give the same
same_sums : {X Y : Type 0} (f : X → ℕ) (g : Y → ℕ) (xs : List X) (ys : List Y) → length xs ≡
    length ys →
    ((k : ℕ) (x : X) (y : Y) → slice_get xs k ≡ Some x → slice_get ys k ≡ Some y → f x ≡ g y) →
    sum_by f xs ≡ sum_by g ys
same_sums f g [] [] e same = refl
same_sums f g [] (y ∷ ys) e same = absurd (omega (arith, e))
same_sums f g (x ∷ xs) [] e same = absurd (omega (arith, e))
same_sums f g (x ∷ xs) (y ∷ ys) e same =
    sum_by-cons f x xs
    ∙ ap (λ n. n + sum_by f xs) (same 0 x y refl refl)
    ∙ ap (λ n. g y + n) (same_sums f g xs ys (omega (arith, e)) (λ k. same (suc k)))
    ∙ sym (sum_by-cons g y ys)

pub sum_of_map : {X Y : Type 0} (f : Y → ℕ) (h : X → Y) (xs : List X) → sum_by f (map h xs) ≡
    sum_by (λ x. f (h x)) xs
sum_of_map f h [] = refl
sum_of_map f h (x ∷ xs) = sum_by-cons f (h x) (map h xs) ∙ ap (λ n. f (h x) + n) (sum_of_map f h xs)
    ∙ sym (sum_by-cons (λ x. f (h x)) x xs)

-- ---- instructions

no_ops : (ms : List Move) → filter_map op_of (map placed.Move ms) ≡ []
no_ops [] = refl
no_ops (m ∷ ms) = no_ops ms

is_one : (op : LInstr) (i : VInstr) (r : Routed) (b k : ℕ) (rest : List LInstr) →
    IsOp op i (operand_places r b k i) → length (filter_map op_of (op ∷ rest)) ≡
    suc (length (filter_map op_of rest))
is_one (placed.Op j places) i r b k rest is = refl
is_one (placed.Move m) i r b k rest is = absurd is

ops_are : (r : Routed) (b k : ℕ) (code : List VInstr) (left : List LInstr) → Lays r b k code left →
    length (filter_map op_of left) ≡ length code
ops_are r b k [] left lays = ap (λ l. length (filter_map op_of l)) lays.1
    ∙ ap length (no_ops lays.0)
ops_are r b k (i ∷ code) left lays =
    ap (λ l. length (filter_map op_of l)) lays.3
    ∙ ap length (filter_map-append op_of (map placed.Move lays.0) (lays.1 ∷ lays.2))
    ∙ ap (λ l. length (l ++ filter_map op_of (lays.1 ∷ lays.2))) (no_ops lays.0)
    ∙ is_one lays.1 i r b k lays.2 lays.5
    ∙ ap suc (ops_are r b (suc k) code lays.2 lays.6)

pub same_instructions : (r : Routed) (p : LProc) → IsBehind r p → instruction_count p ≡
    count_of r.code.blocks
same_instructions r p is =
    sum_of_map (λ (b : Block). length b.code) bare_block p.blocks
    ∙ same_sums (λ (b : LBlock). length (filter_map op_of b.code)) (λ (b : Block). length b.code)
    p.blocks r.code.blocks is.count
    (λ k x y one other. ops_are r k 0 (code_of r.code k) x.code (is.lays k x one)
    ∙ ap (λ (b : Block). length b.code)
    (get_or_from_slice_get r.code.blocks k y no_block other))

-- ---- limits

pub is_small : (r : Routed) (p : LProc) → IsBehind r p → IsSized r.code → IsSmall p
is_small r p is sized =
    let slots : length p.slots ≡ length (slots_of r) = sym (length-map p.slots (λ (u : VarId). u.0))
    ∙ ap length is.slots in
    let few = few_pass (has_slot r) (range_with_len 0 (length r.code.vars)) in
    let all = length-range_with_len 0 (length r.code.vars) in
    record {
      args = omega (arith, is.args, sized.args);
      aggregates = omega (arith, is.aggregates, sized.aggregates);
      slots = omega (arith, slots, few, all, sized.variables);
    }

pub are_few : (routed : List Routed) (procs : List LProc) → AreBehind routed procs →
    sum_by (λ (r : Routed). count_of r.code.blocks) routed ≤ 262401 →
    sum_by (λ (r : Routed). length r.code.blocks) routed ≤ 131586 → AreFew procs
are_few routed procs behind instructions blocks =
    let one = same_sums (λ (r : Routed). count_of r.code.blocks) instruction_count routed procs
    behind.count (λ k r p x y. sym (same_instructions r p (behind.each k r p x y))) in
    let other = same_sums (λ (r : Routed). length r.code.blocks) (λ (p : LProc). length p.blocks)
    routed procs behind.count (λ k r p x y. sym (behind.each k r p x y).count) in
    record {
      instructions = omega (arith, one, instructions);
      blocks = omega (arith, other, blocks);
    }
