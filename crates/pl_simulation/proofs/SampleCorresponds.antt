-- Some placed code corresponds to selected code: a variable in memory, a constant as an immediate,
-- and a move that makes a both place.
use Rattle.std.proofs.Common.{◌≡◌, ◌≢◌, ℕ, zero, suc, ◌<◌, ◌⊎◌, inl, inr, false, nat_eq}
use Rattle.std.proofs.Common.{if◌then◌else◌, List, [], ◌∷◌, slice_get, length, Some, None, refl, ap}
use Rattle.std.proofs.Common.{subst, arith, lit<}
use Rattle.std.specs.Prelude.{pos}
use Rattle.std.proofs.lemmas.Bool.Decides.{nat_tests}
use Rattle.pra_list.specs.Among.{Among}
use Rattle.pra_list.proofs.Options.{some_same}
use Rattle.pra_base.specs.declared.ids.Place.TheVariants.{Eax, Mem, Const, EaxM}
use Rattle.pra_base.specs.declared.code.VarKind.TheVariants.{Param}
use Rattle.pra_base.specs.declared.code.VInstr.{VInstr}
use Rattle.pra_base.specs.declared.code.VInstr.TheVariants.{Set, Add, Write}
use Rattle.pra_base.specs.declared.code.VProc.{VProc}
use Rattle.pra_base.specs.Code.{code_of, block_in, instr_at, end_of, IsTarget}
use Rattle.pra_base.specs.Valid.{PushesLead, PushesBeforeCalls, TakesArgs}
use Rattle.net_form.specs.Examples.{set_add_write}
use Rattle.pl_moves.specs.declared.transfer.Move.TheVariants.{Load}
use Rattle.pl_moves.specs.declared.transfer.Pair.{Pair}
use Rattle.pl_moves.specs.Meaning.{Cell, Register, Memory, Fixed, same_cell, with_cell}
use Rattle.pl_moves.specs.Assignment.{source}
use Rattle.pl_place.specs.declared.placed.LInstr.{LInstr}
use Rattle.pl_place.specs.declared.placed.LInstr.TheVariants.{Move}
use Rattle.pl_place.specs.declared.placed.LBlock.{LBlock}
use Rattle.pl_place.specs.declared.placed.LProc.{LProc}
use Rattle.pl_place.specs.Placed.{kind_of}
use Rattle.pl_place.specs.Machine.{cells}
use Rattle.pl_place.specs.Sample.{v0, v1, op}
use Rattle.pl_place.specs.SampleRoutes.{in_memory}
use Rattle.pra_list.specs.Each.{Each}
use Rattle.pl_simulation.specs.Correspondence.{Allocation, Transfers, Brings, Written, Stays}
use Rattle.pl_simulation.specs.Correspondence.{FitsAt}
use Rattle.pl_simulation.specs.Correspondence.{InstrCorresponds, EndCorresponds, Corresponds}
use Rattle.pl_simulation.specs.Correspondence.{AllCorrespond}
use Rattle.pl_simulation.proofs.Simulated.{no_moves}

-- the layers: nothing; v in memory; k beside it; v in EAX too
abbrev none : Allocation
none v = None

abbrev at : ℕ → Allocation
at place zero = Some place
at place (suc v) = None

abbrev with_constant : Allocation
with_constant zero = Some 6
with_constant (suc zero) = Some 7
with_constant (suc (suc v)) = None

abbrev p : LProc
p = in_memory

abbrev set : LInstr
set = op (Set v0 (pos 3)) (Mem ∷ [])

abbrev add : LInstr
add = op (Add v0 v1) (Mem ∷ Const ∷ Mem ∷ [])

abbrev write : LInstr
write = op (Write v0) (EaxM ∷ [])

abbrev before : ℕ → ℕ → Allocation
before zero (suc zero) v = at 6 v
before zero (suc (suc zero)) v = at 6 v
before b k v = None

abbrev rest : ℕ → ℕ → List LInstr
rest zero zero = set ∷ add ∷ Move (Load Eax v0) ∷ write ∷ []
rest zero (suc zero) = add ∷ Move (Load Eax v0) ∷ write ∷ []
rest zero (suc (suc zero)) = Move (Load Eax v0) ∷ write ∷ []
rest b k = []

-- ---- moves

some_at : (place : ℕ) → cells p 0 place ≢ [] → (v q : ℕ) → at place v ≡ Some q → cells p v q ≢ []
some_at place some zero q e = subst (λ r. cells p 0 r ≢ []) (some_same place q e) some
some_at place some (suc v) q e = cc

-- the constant comes from its number
brings_constant : (v q : ℕ) → with_constant v ≡ Some q → Brings p [] (at 6) v q
brings_constant zero q e = subst (Brings p [] (at 6) 0) (some_same 6 q e)
    (record { some = λ n. cc; from = 6; comes = inl refl; each = (inl refl, tt) })
brings_constant (suc zero) q e = subst (Brings p [] (at 6) 1) (some_same 7 q e)
    (record { some = λ n. cc; from = 7; comes = inr refl; each = (inl refl, tt) })
brings_constant (suc (suc v)) q e = cc

keeps : Transfers p [] (at 6) with_constant
keeps = record {
  in_cells = tt;
  pairs = [];
  assigns =
      record { after = λ c. c; runs = refl; each = λ c. refl };
  brings = brings_constant;
}

abbrev loaded : List Pair
loaded = record { var = v0; from = Mem; to = EaxM; constant = None } ∷ []

turned : (k r : ℕ) (x y : Cell) → (if nat_eq r k then x else y) ≡ (if nat_eq k r then x else y)
turned k r x y = let e : nat_eq r k ≡ nat_eq k r = grind (arith, nat_tests) in
    ap (λ b. if b then x else y) e

each_loaded : (c : Cell) → with_cell (λ x. x) (Register 0) (Memory 0) c ≡ source loaded c
each_loaded (Register r) = turned 0 r (Memory 0) (Register r)
each_loaded (Memory v) = refl
each_loaded (Fixed n) = refl

brings_loaded : (v q : ℕ) → at 8 v ≡ Some q → Brings p loaded (at 6) v q
brings_loaded zero q e = subst (Brings p loaded (at 6) 0) (some_same 8 q e)
    (record { some = λ n. cc; from = 6; comes = inl refl; each = (inl refl, (inl refl, tt)) })
brings_loaded (suc v) q e = cc

loads : Transfers p (Load Eax v0 ∷ []) (at 6) (at 8)
loads = record {
  in_cells = ((lit< tt, lit< tt), tt);
  pairs = loaded;
  assigns = record {
    after = with_cell (λ x. x) (Register 0) (Memory 0);
    runs = refl;
    each =
        each_loaded;
  };
  brings = brings_loaded;
}

-- ---- instructions

abbrev Apart : ℕ → ℕ → Type 0
Apart v q = Each (λ other. same_cell other (Memory 0) ≡ false) (cells p v q)

apart : (v q : ℕ) → at 6 v ≡ Some q → v ≢ 0 → Apart v q
apart zero q e ne = absurd (ne refl)
apart (suc v) q e ne = cc

written : Written p (at 6) 0 6
written = record {
  at_place = refl;
  cell = Memory 0;
  one = refl;
  is_cell = lit< tt;
  varies =
      λ x. refl;
  apart = apart;
}

set_stays : (v q : ℕ) → at 6 v ≡ Some q → Among v (0 ∷ []) ⊎ Stays p (Set v0 (pos 3)) none v q
set_stays zero q e = inl (inl refl)
set_stays (suc v) q e = cc

add_stays : (v q : ℕ) → at 6 v ≡ Some q → Among v (0 ∷ []) ⊎ Stays p (Add v0 v1) with_constant v q
add_stays zero q e = inl (inl refl)
add_stays (suc v) q e = cc

sets : FitsAt p (Set v0 (pos 3)) (6 ∷ []) none (at 6)
sets = record { reads = tt; writes = (written, tt); stays = set_stays }

adds : FitsAt p (Add v0 v1) (6 ∷ 7 ∷ 6 ∷ []) with_constant (at 6)
adds = record { reads = (refl, (refl, tt)); writes = (written, tt); stays = add_stays }

writes : FitsAt p (Write v0) (8 ∷ []) (at 8) none
writes = record { reads = (refl, tt); writes = tt; stays = λ v q e. cc }

instrs : (b k : ℕ) (i : VInstr) → instr_at set_add_write b k ≡ Some i →
    InstrCorresponds p i (rest b k) (rest b (suc k)) (before b k) (before b (suc k))
instrs zero zero i e = subst (λ j. InstrCorresponds p j (rest 0 0) (rest 0 1) (before 0 0)
    (before 0 1)) (some_same (Set v0 (pos 3)) i e)
    (record {
      moves = [];
      op = set;
      places = 6 ∷ [];
      parts = refl;
      is_op = (refl, refl);
      at = none;
      transfers = no_moves p none (λ v q f. cc);
      fits = sets;
    })
instrs zero (suc zero) i e =
    subst (λ j. InstrCorresponds p j (rest 0 1) (rest 0 2) (before 0 1) (before 0 2))
    (some_same (Add v0 v1) i e)
    (record {
      moves = [];
      op = add;
      places = 6 ∷ 7 ∷ 6 ∷ [];
      parts = refl;
      is_op = (refl, refl);
      at = with_constant;
      transfers = keeps;
      fits = adds;
    })
instrs zero (suc (suc zero)) i e =
    subst (λ j. InstrCorresponds p j (rest 0 2) (rest 0 3) (before 0 2) (before 0 3))
    (some_same (Write v0) i e)
    (record {
      moves = Load Eax v0 ∷ [];
      op = write;
      places = 8 ∷ [];
      parts = refl;
      is_op =
          (refl, refl);
      at = at 8;
      transfers = loads;
      fits = writes;
    })
instrs zero (suc (suc (suc k))) i e = cc
instrs (suc b) k i e = cc

no_end : EndCorresponds p [] none none
no_end = record { moves = []; parts = refl; transfers = no_moves p none (λ v q f. cc) }

ends : (b : ℕ) → b < 1 → let n = length (code_of set_add_write b) in EndCorresponds p (rest b n)
    (before b n) none
ends zero lt = no_end
ends (suc b) lt = absurd (omega arith)

no_target : (b t : ℕ) → b < 1 → IsTarget (end_of set_add_write b) t → ⊥
no_target zero t lt target = target
no_target (suc b) t lt target = absurd (omega arith)

blocks : (t : ℕ) → t < 1 → (block : LBlock) × (slice_get p.blocks t ≡ Some block) ×
    (block.code ≡ rest t 0) × (block.end ≡ end_of set_add_write t)
blocks zero lt = (_, refl, refl, refl)
blocks (suc t) lt = absurd (omega arith)

no_param : (v i : ℕ) → kind_of p v ≡ Param i → ⊥
no_param zero i e = cc
no_param (suc zero) i e = cc
no_param (suc (suc v)) i e = cc

corresponds : Corresponds set_add_write p
corresponds = record {
  before = before;
  exit = λ b. none;
  rest = rest;
  vars = refl;
  aggregates = refl;
  args = refl;
  params_apart = λ v w i e f. absurd (no_param v i e);
  instrs = instrs;
  ends = ends;
  entry = λ v q e. cc;
  targets = λ b t lt target. absurd (no_target b t lt target);
  blocks = blocks;
  ties = λ b t lt target. absurd (no_target b t lt target);
}

abbrev First : (VProc → Type 0) → ℕ → Type 0
First P n = (code : VProc) → slice_get (set_add_write ∷ []) n ≡ Some code → P code

only : (P : VProc → Type 0) → P set_add_write → (n : ℕ) → First P n
only P x zero code e = subst P (some_same set_add_write code e) x
only P x (suc n) code e = cc

pushes : (b : ℕ) → PushesLead (TakesArgs (0 ∷ [])) 0 (block_in set_add_write.blocks b).code
pushes zero = (refl, (refl, (refl, refl)))
pushes (suc b) = refl

each : (n : ℕ) (code : VProc) (q : LProc) → slice_get (set_add_write ∷ []) n ≡ Some code →
    slice_get (in_memory ∷ []) n ≡ Some q → Corresponds code q
each zero code q e f = subst (λ c. Corresponds c q) (some_same set_add_write code e)
    (subst (Corresponds set_add_write) (some_same in_memory q f) corresponds)
each (suc n) code q e f = cc

pub all_correspond : AllCorrespond (set_add_write ∷ []) (in_memory ∷ [])
all_correspond = record {
  count = refl;
  each = each;
  entry_blocks = only (λ code. 0 < length code.blocks) (lit< tt);
  pushes = only (λ code. PushesBeforeCalls (TakesArgs (0 ∷ [])) code.blocks) pushes;
  body = refl;
}
