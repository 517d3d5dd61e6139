-- Rules of valid placed code, from what holds of each element of code that is written out.
use Rattle.std.proofs.Common.{◌≡◌, ◌≢◌, ℕ, zero, suc, ◌+◌, ◌<◌, ⊎_elim, true, false, nat_eq, ◌||◌}
use Rattle.std.proofs.Common.{List, [], ◌∷◌, length, refl, arith}
use Rattle.std.specs.List.{list_any}
use Rattle.std.proofs.lemmas.Bool.Decides.{nat_tests}
use Rattle.pra_base.specs.declared.ids.Place.{Place}
use Rattle.pra_base.specs.declared.code.VInstr.{VInstr}
use Rattle.pra_base.specs.declared.code.VInstr.TheVariants.{Clear}
use Rattle.pra_base.specs.declared.code.Block.{Block}
use Rattle.pra_base.specs.Code.{EachInstr}
use Rattle.pra_base.specs.Places.{allows, meet, is_mem}
use Rattle.pra_base.specs.Operands.{Role, table, operands, own_places, is_role_of}
use Rattle.pra_base.specs.Valid.{ClearFirst, Names}
use Rattle.pl_moves.specs.declared.transfer.Move.{Move}
use Rattle.pl_place.specs.declared.placed.LInstr.{LInstr}
use Rattle.pl_place.specs.declared.placed.LInstr.TheVariants as placed
use Rattle.pl_place.specs.declared.placed.LBlock.{LBlock}
use Rattle.pl_place.specs.declared.placed.LProc.{LProc}
use Rattle.pl_place.specs.Placed.{kind_of, place_in}
use Rattle.pl_place.specs.Valid.{linstr_at, EachOp, EachMove, roles, OperandsPlaced, HasCell}
use Rattle.pra_list.specs.Each.{Each, EachAt}
use Rattle.pra_list.proofs.Each.{each_at}
use Rattle.pra_list.proofs.Truths.{or_cases}

-- ---- instructions and moves

abbrev pub InBlocks : (LInstr → Type 0) → List LBlock → Type 0
InBlocks P blocks = EachAt (λ b block. EachAt (λ k i. P i) block.code) blocks

in_blocks : (P : LInstr → Type 0) (p : LProc) → InBlocks P p.blocks → (b k : ℕ) (i : LInstr) →
    linstr_at p b k i → P i
in_blocks P p each b k i h =
    each_at (λ k i. P i) h.0.code
    (each_at (λ b block. EachAt (λ k i. P i) block.code) p.blocks each b h.0 h.1) k i h.2

abbrev pub OfOp : (VInstr → List Place → Type 0) → LInstr → Type 0
OfOp P (placed.Op i places) = P i places.items
OfOp P (placed.Move m) = Unit {0}

abbrev pub OfMove : (Move → Type 0) → LInstr → Type 0
OfMove P (placed.Op i places) = Unit {0}
OfMove P (placed.Move m) = P m

pub each_op : (P : VInstr → List Place → Type 0) (p : LProc) → InBlocks (OfOp P) p.blocks →
    EachOp p P
each_op P p each b k i places h = in_blocks (OfOp P) p each b k (placed.Op i places) h

pub each_move : (P : Move → Type 0) (p : LProc) → InBlocks (OfMove P) p.blocks → EachMove p P
each_move P p each b k m h = in_blocks (OfMove P) p each b k (placed.Move m) h

pub each_instr : (P : VInstr → Type 0) (blocks : List Block) →
    EachAt (λ b block. EachAt (λ k i. P i) block.code) blocks → EachInstr blocks P
each_instr P [] each b k i h = cc
each_instr P (x ∷ xs) each zero k i h = each_at (λ k i. P i) x.code each.0 k i h
each_instr P (x ∷ xs) each (suc b) k i h = each_instr P xs each.1 b k i h

pub no_clear : (blocks : List Block) → EachInstr blocks (λ i. i ≢ Clear) → ClearFirst 0 blocks
no_clear blocks none b k = ((λ e. absurd (none b k Clear e refl)), (λ w. absurd (w.0 refl)))

-- ---- operands

abbrev pub Allowed : LProc → List Place → ℕ → Role → Type 0
Allowed p places k role = allows (meet role.mask (own_places (kind_of p role.var)))
    (place_in places k) ≡ true

abbrev pub InPlace : List Place → ℕ → List Role → ℕ → Role → Type 0
InPlace places count writes k read =
    EachAt (λ j write. read.var ≡ write.var → place_in places k ≡ place_in places (count + j))
    writes

abbrev pub Apart : List Place → ℕ → Role → ℕ → Role → Type 0
Apart places k one j other = one.memory ≡ true → other.memory ≡ true → k ≢ j →
    is_mem (place_in places k) ≡ true → is_mem (place_in places j) ≡ false

abbrev pub Paired : List Place → List Role → ℕ → Role → Type 0
Paired places all k one = EachAt (Apart places k one) all

pub placed_at : (p : LProc) (i : VInstr) (places : List Place) → length places ≡ length (roles i) →
    EachAt (Allowed p places) (roles i) →
    EachAt (InPlace places (length (operands i).reads) (operands i).writes) (operands i).reads →
    EachAt (Paired places (roles i)) (roles i) → OperandsPlaced p i places
placed_at p i places count allowed same pairs = record {
  count = count;
  allowed = λ k role h. each_at (Allowed p places) (roles i) allowed k role h;
  in_place = λ k j read write r w e.
      each_at (λ j write. read.var ≡ write.var → place_in places k ≡
      place_in places (length (operands i).reads + j)) (operands i).writes
      (each_at (InPlace places (length (operands i).reads) (operands i).writes) (operands i).reads
      same k read r) j write w e;
  pair = λ k j one other a b m n ne mem.
      each_at (Apart places k one) (roles i)
      (each_at (Paired places (roles i)) (roles i) pairs k one a) j other b m n ne mem;
}

abbrev pub InMemory : LProc → List Place → ℕ → Role → Type 0
InMemory p places k role = is_mem (place_in places k) ≡ true → HasCell p role.var

-- ---- names

below : (n v w : ℕ) → w < n → nat_eq w v ≡ true → v < n
below n v w lt h = grind (arith, nat_tests)

roles_below : (n v : ℕ) (all : List Role) → Each (λ role. role.var < n) all →
    list_any (is_role_of v) all ≡ true → v < n
roles_below n v [] each h = cc
roles_below n v (x ∷ xs) each h =
    ⊎_elim (λ (e : nat_eq x.var v ≡ true). below n v x.var each.0 e)
    (λ (e : list_any (is_role_of v) xs ≡ true). roles_below n v xs each.1 e)
    (or_cases (nat_eq x.var v) (list_any (is_role_of v) xs) h)

numbers_below : (n v : ℕ) (all : List ℕ) → Each (λ w. w < n) all → list_any (nat_eq v) all ≡ true →
    v < n
numbers_below n v [] each h = cc
numbers_below n v (x ∷ xs) each h =
    ⊎_elim (λ (e : nat_eq v x ≡ true). other n v x each.0 e)
    (λ (e : list_any (nat_eq v) xs ≡ true). numbers_below n v xs each.1 e)
    (or_cases (nat_eq v x) (list_any (nat_eq v) xs) h)
  where
    other : (n v w : ℕ) → w < n → nat_eq v w ≡ true → v < n
    other n v w lt h = grind (arith, nat_tests)

-- what an instruction names is below a number, where each variable of its row is
pub names_below : (n : ℕ) (i : VInstr) → Each (λ role. role.var < n) (table i).reads →
    Each (λ w. w < n) (table i).in_place → Each (λ role. role.var < n) (table i).writes →
    (v : ℕ) → Names i v → v < n
names_below n i reads in_place writes v h =
    ⊎_elim (λ (e : list_any (is_role_of v) (table i).reads ≡ true). roles_below n v (table i).reads
    reads e)
    (λ (e : (list_any (nat_eq v) (table i).in_place || list_any (is_role_of v) (table i).writes) ≡
    true).
    ⊎_elim (λ (e : list_any (nat_eq v) (table i).in_place ≡ true). numbers_below n v
    (table i).in_place in_place e)
    (λ (e : list_any (is_role_of v) (table i).writes ≡ true). roles_below n v (table i).writes
    writes e)
    (or_cases (list_any (nat_eq v) (table i).in_place) (list_any (is_role_of v) (table i).writes)
    e))
    h
