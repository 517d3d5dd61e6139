-- Some placed code was made: a variable in memory until it is written out, where it is loaded into
-- EAX beside it.
use Rattle.std.proofs.Common.{◌≡◌, ℕ, zero, suc, Bool, true, false, nat_eq, if◌then◌else◌, List, []}
use Rattle.std.proofs.Common.{◌∷◌, slice_get, Some, inl, refl, sym, ap, subst, arith}
use Rattle.std.proofs.lemmas.Bool.Decides.{nat_tests}
use Rattle.pra_list.proofs.Each.{all_of_each}
use Rattle.pra_base.specs.declared.ids.Place.TheVariants.{Eax}
use Rattle.pra_base.specs.Code.{code_of, end_of}
use Rattle.pl_moves.specs.declared.transfer.Move.TheVariants.{Load}
use Rattle.pl_moves.specs.declared.transfer.Pair.{Pair}
use Rattle.pl_moves.specs.Meaning.{Cell, Register, Memory, Fixed, with_cell}
use Rattle.pl_moves.specs.Assignment.{source, Assigns}
use Rattle.pl_moves.specs.Crossbar.{InRegisters, NamesMemory, Counted}
use Rattle.pl_place.specs.declared.placed.LBlock.{LBlock}
use Rattle.pl_place.specs.Behind.{Routed, pairs_at}
use Rattle.pl_place.specs.Sample.{v0}
use Rattle.pl_place.specs.SampleRoutes.{both_places_routes, in_memory}
use Rattle.pl_place.specs.SampleRoutes as sample
use Rattle.pl_made.specs.Made.{MovesAt, LaysMoves, IsMade}

abbrev r : Routed
r = sample.routed both_places_routes

counted_none : (pairs : List Pair) → ((near : Bool) → Counted near [] pairs) →
    ((cell : Cell) → source pairs cell ≡ cell) → (l : ℕ) → pairs ≡ pairs_at r 0 l → MovesAt r 0 l []
counted_none pairs counted stays l e = subst (λ ps. MovesAt r 0 l []) e (record {
  assigns = subst (Assigns []) e
      (record { after = λ c. c; runs = refl; each = λ c. sym (stays c) });
  in_registers = all_of_each InRegisters [] tt;
  names = all_of_each (NamesMemory (pairs_at r 0 l)) [] tt;
  counted = λ near. subst (Counted near []) e (counted near);
  few = omega arith;
})

none_counted : (near : Bool) → Counted near [] []
none_counted true = record { between = omega arith; loads = refl; stores = refl; sets = refl }
none_counted false = record { between = omega arith; loads = refl; stores = refl; sets = refl }

added_counted : (near : Bool) → Counted near [] (pairs_at r 0 3)
added_counted true = record { between = omega arith; loads = refl; stores = refl; sets = refl }
added_counted false = record { between = omega arith; loads = refl; stores = refl; sets = refl }

loaded_counted : (near : Bool) → Counted near (Load Eax v0 ∷ []) (pairs_at r 0 5)
loaded_counted true = record { between = omega arith; loads = refl; stores = refl; sets = refl }
loaded_counted false = record { between = omega arith; loads = refl; stores = refl; sets = refl }

added : (cell : Cell) → source (pairs_at r 0 3) cell ≡ cell
added (Register n) = refl
added x = refl

turned : (k n : ℕ) (x y : Cell) → (if nat_eq n k then x else y) ≡ (if nat_eq k n then x else y)
turned k n x y = let e : nat_eq n k ≡ nat_eq k n = grind (arith, nat_tests) in
    ap (λ b. if b then x else y) e

loads : (cell : Cell) → with_cell (λ c. c) (Register 0) (Memory 0) cell ≡
    source (pairs_at r 0 5) cell
loads (Register n) = turned 0 n (Memory 0) (Register n)
loads (Memory v) = refl
loads (Fixed n) = refl

loaded : MovesAt r 0 5 (Load Eax v0 ∷ [])
loaded = record {
  assigns = record {
    after = with_cell (λ c. c) (Register 0) (Memory 0);
    runs = refl;
    each =
        loads;
  };
  in_registers = all_of_each InRegisters (Load Eax v0 ∷ []) (refl, tt);
  names = all_of_each (NamesMemory (pairs_at r 0 5)) (Load Eax v0 ∷ [])
      ((0, _, omega arith, refl, (refl, inl refl)), tt);
  counted = loaded_counted;
  few = omega arith;
}

at_zero : (P : ℕ → LBlock → Type 0) (first : LBlock) → P 0 first → (b : ℕ) (block : LBlock) →
    slice_get (first ∷ []) b ≡ Some block → P b block
at_zero P first p zero block e = let is : first ≡ block = cc in subst (P 0) is p
at_zero P first p (suc b) block e = cc

nothing : (l : ℕ) → [] ≡ pairs_at r 0 l → MovesAt r 0 l []
nothing l e = counted_none [] none_counted (λ c. refl) l e

pub sample_is : IsMade r in_memory
sample_is = record {
  id = refl;
  args = refl;
  aggregates = refl;
  vars = refl;
  slots = refl;
  near_is = refl;
  count = refl;
  ends = at_zero (λ b block. block.end ≡ end_of r.code b) _ refl;
  lays = at_zero (λ b block. LaysMoves r b 0 (code_of r.code b) block.code) _ (
    [],
    _,
    _,
    refl,
    nothing 1 refl,
    (refl, refl),
    (
      [],
      _,
      _,
      refl,
      counted_none (pairs_at r 0 3) added_counted added 3 refl,
      (refl, refl),
      (Load Eax v0 ∷ [], _, _, refl, loaded, (refl, refl), ([], refl, nothing 7 refl)),
    ),
  );
}
