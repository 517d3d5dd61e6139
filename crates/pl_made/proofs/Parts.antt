-- The parts of a block that was made.
use Rattle.std.proofs.Common.{◌≡◌, ℕ, suc, ◌+◌, ◌*◌, ◌≤◌, ◌⊎◌, ⊎_elim, List, [], ◌∷◌, ◌++◌, length}
use Rattle.std.proofs.Common.{map, slice_get, Option, Some, refl, sym, ap, subst, ◌∙◌, arith}
use Rattle.std.proofs.Common.{sum_by, append-nil}
use Rattle.std.specs.List.{filter_map}
use Rattle.pra_list.specs.Among.{Among}
use Rattle.pra_base.specs.declared.ids.Place.{Place}
use Rattle.pra_base.specs.declared.code.VInstr.{VInstr}
use Rattle.pl_moves.specs.declared.transfer.Move.{Move}
use Rattle.pl_moves.specs.Crossbar.{InRegisters, NamesMemory, most_moves}
use Rattle.pl_place.specs.declared.placed.LInstr.{LInstr}
use Rattle.pl_place.specs.declared.placed.LInstr.TheVariants as placed
use Rattle.pl_place.specs.declared.placed.LProc.{LProc}
use Rattle.pl_place.specs.Placed.{op_of}
use Rattle.pl_place.specs.Behind.{Routed, MovesInto, pairs_at, operand_places, IsOp, Lays, IsBehind}
use Rattle.pl_place.specs.Valid.{FewMoves, most_moves_before}
use Rattle.pl_made.specs.Made.{MovesAt, LaysMoves, IsMade}
use Rattle.pra_list.proofs.Among.{in_all, in_either, of_map}

into_of : (r : Routed) (b l : ℕ) (ms : List Move) → MovesAt r b l ms → MovesInto r b l ms
into_of r b l ms m = record { in_registers = m.in_registers; assigns = m.assigns }

lays_of : (r : Routed) (b k : ℕ) (is : List VInstr) (left : List LInstr) → LaysMoves r b k is left →
    Lays r b k is left
lays_of r b k [] left m = (m.0, m.1, into_of r b (2 * k + 1) m.0 m.2)
lays_of r b k (i ∷ is) left m =
    (m.0, m.1, m.2, m.3, into_of r b (2 * k + 1) m.0 m.4, m.5, lays_of r b (suc k) is m.2 m.6)

pub behind_of : (r : Routed) (p : LProc) → IsMade r p → IsBehind r p
behind_of r p m = record {
  id = m.id;
  args = m.args;
  aggregates = m.aggregates;
  vars = m.vars;
  slots = m.slots;
  count = m.count;
  ends = m.ends;
  lays = λ b block e. lays_of r b 0 _ block.code (m.lays b block e);
}

-- ---- instructions

pub record OpOf (r : Routed) (b j : ℕ) (is : List VInstr) (op : LInstr) : Type 0 where
  pub index : ℕ
  pub instr : VInstr
  pub here : slice_get is index ≡ Some instr
  pub is_op : IsOp op instr (operand_places r b (j + index) instr)

not_move : (ms : List Move) (i : VInstr) (places : _) →
    Among (placed.Op i places) (map placed.Move ms) → ⊥
not_move ms i places k = let m = of_map placed.Move ms (placed.Op i places) k in differ m.0 m.2
  where
    differ : (m : Move) → placed.Op i places ≡ placed.Move m → ⊥
    differ m e = cc

pub op_in : (r : Routed) (b j : ℕ) (is : List VInstr) (left : List LInstr) →
    LaysMoves r b j is left → (i : VInstr) (places : _) → Among (placed.Op i places) left →
    OpOf r b j is (placed.Op i places)
op_in r b j [] left m i places k =
    absurd (not_move m.0 i places (subst (Among (placed.Op i places)) m.1 k))
op_in r b j (x ∷ is) left m i places k =
    ⊎_elim
    (λ (moves : Among (placed.Op i places) (map placed.Move m.0)).
    absurd (not_move m.0 i places moves))
    (λ (more : (placed.Op i places ≡ m.1) ⊎ Among (placed.Op i places) m.2).
    ⊎_elim
    (λ (same : placed.Op i places ≡ m.1).
    let zero_more : j ≡ j + 0 = omega arith in
    record {
      index = 0;
      instr = x;
      here = refl;
      is_op =
          subst (λ n. IsOp (placed.Op i places) x (operand_places r b n x)) zero_more
          (subst (λ o. IsOp o x (operand_places r b j x)) (sym same) m.5);
    })
    (λ (later : Among (placed.Op i places) m.2).
    let o = op_in r b (suc j) is m.2 m.6 i places later in
    let one_more : suc j + o.index ≡ j + suc o.index = omega arith in
    record {
      index = suc o.index;
      instr = o.instr;
      here = o.here;
      is_op =
          subst (λ n. IsOp (placed.Op i places) o.instr (operand_places r b n o.instr)) one_more
          o.is_op;
    })
    more)
    (in_either (map placed.Move m.0) (m.1 ∷ m.2) (placed.Op i places)
    (subst (Among (placed.Op i places)) m.3 k))

-- ---- moves

pub record MoveOf (r : Routed) (b : ℕ) (m : Move) : Type 0 where
  pub index : ℕ
  pub in_registers : InRegisters m
  pub names : NamesMemory (pairs_at r b (2 * index + 1)) m

of_moves : (r : Routed) (b k : ℕ) (ms : List Move) → MovesAt r b (2 * k + 1) ms → (m : Move) →
    Among (placed.Move m) (map placed.Move ms) → MoveOf r b m
of_moves r b k ms is m i =
    let x = of_map placed.Move ms (placed.Move m) i in
    let same : m ≡ x.0 = move_same m x.0 x.2 in
    subst (MoveOf r b) (sym same)
    (record {
      index = k;
      in_registers = in_all InRegisters ms is.in_registers x.0 x.1;
      names =
          in_all (NamesMemory (pairs_at r b (2 * k + 1))) ms is.names x.0 x.1;
    })
  where
    move_same : (m n : Move) → placed.Move m ≡ placed.Move n → m ≡ n
    move_same m n e = cc

op_or : (op : LInstr) (i : VInstr) (ps : List (Option Place)) (m : Move) → IsOp op i ps →
    placed.Move m ≡ op → ⊥
op_or op i ps m is e = subst (λ o. IsOp o i ps) (sym e) is

pub move_in : (r : Routed) (b j : ℕ) (is : List VInstr) (left : List LInstr) →
    LaysMoves r b j is left → (m : Move) → Among (placed.Move m) left → MoveOf r b m
move_in r b j [] left l m k = of_moves r b j l.0 l.2 m (subst (Among (placed.Move m)) l.1 k)
move_in r b j (x ∷ is) left l m k =
    ⊎_elim
    (λ (moves : Among (placed.Move m) (map placed.Move l.0)). of_moves r b j l.0 l.4 m moves)
    (λ (more : (placed.Move m ≡ l.1) ⊎ Among (placed.Move m) l.2).
    ⊎_elim
    (λ (same : placed.Move m ≡ l.1). absurd (op_or l.1 x (operand_places r b j x) m l.5 same))
    (λ (later : Among (placed.Move m) l.2). move_in r b (suc j) is l.2 l.6 m later)
    more)
    (in_either (map placed.Move l.0) (l.1 ∷ l.2) (placed.Move m)
    (subst (Among (placed.Move m)) l.3 k))

-- ---- how many

few_moves : (n : ℕ) (ms : List Move) (rest : List LInstr) → FewMoves (n + length ms) rest →
    FewMoves n (map placed.Move ms ++ rest)
few_moves n [] rest f = let e : n + 0 ≡ n = omega arith in subst (λ k. FewMoves k rest) e f
few_moves n (m ∷ ms) rest f =
    few_moves (suc n) ms rest (let e : n + suc (length ms) ≡ suc n + length ms = omega arith in
    subst (λ k. FewMoves k rest) e f)

few_op : (n : ℕ) (op : LInstr) (i : VInstr) (ps : List (Option Place)) (rest : List LInstr) →
    IsOp op i ps → n ≤ 12 → FewMoves 0 rest → FewMoves n (op ∷ rest)
few_op n (placed.Op i places) j ps rest is le f = (le, f)
few_op n (placed.Move m) j ps rest is le f = absurd is

pub few_in : (r : Routed) (b j : ℕ) (is : List VInstr) (left : List LInstr) →
    LaysMoves r b j is left →
    ((k : ℕ) → sum_by most_moves (pairs_at r b (2 * k + 1)) ≤ most_moves_before) → FewMoves 0 left
few_in r b j [] left l most =
    let few = l.2.few in
    let all = most j in
    subst (FewMoves 0) (sym (l.1 ∙ sym (append-nil (map placed.Move l.0))))
    (few_moves 0 l.0 [] (omega (arith, few, all)))
few_in r b j (x ∷ is) left l most =
    let few = l.4.few in
    let all = most j in
    subst (FewMoves 0) (sym l.3)
    (few_moves 0 l.0 (l.1 ∷ l.2)
    (few_op (0 + length l.0) l.1 x (operand_places r b j x) l.2 l.5 (omega (arith, few, all))
    (few_in r b (suc j) is l.2 l.6 most)))

-- ---- with moves left out

bare_moves : (ms : List Move) (rest : List LInstr) → filter_map op_of (map placed.Move ms ++ rest) ≡
    filter_map op_of rest
bare_moves [] rest = refl
bare_moves (m ∷ ms) rest = bare_moves ms rest

bare_op : (op : LInstr) (i : VInstr) (ps : List (Option Place)) (rest : List LInstr) →
    IsOp op i ps → filter_map op_of (op ∷ rest) ≡ i ∷ filter_map op_of rest
bare_op (placed.Op j places) i ps rest is = ap (λ k. k ∷ filter_map op_of rest) is.0
bare_op (placed.Move m) i ps rest is = absurd is

pub bare_in : (r : Routed) (b j : ℕ) (is : List VInstr) (left : List LInstr) →
    LaysMoves r b j is left → filter_map op_of left ≡ is
bare_in r b j [] left l = ap (filter_map op_of) (l.1 ∙ sym (append-nil (map placed.Move l.0)))
    ∙ bare_moves l.0 []
bare_in r b j (x ∷ is) left l =
    ap (filter_map op_of) l.3 ∙ bare_moves l.0 (l.1 ∷ l.2) ∙ bare_op l.1 x (operand_places r b j x)
    l.2 l.5 ∙ ap (λ xs. x ∷ xs) (bare_in r b (suc j) is l.2 l.6)
