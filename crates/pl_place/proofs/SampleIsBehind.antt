-- Two routes of one code are behind the code that they place.
use Rattle.std.proofs.Common.{◌≡◌, ℕ, zero, suc, Bool, true, false, nat_eq, if◌then◌else◌, [], ◌∷◌}
use Rattle.std.proofs.Common.{slice_get, Some, refl, sym, ap, subst, arith}
use Rattle.std.proofs.lemmas.Bool.Decides.{nat_tests}
use Rattle.net_form.specs.Examples.{in_register_routes}
use Rattle.pra_list.proofs.Each.{all_of_each}
use Rattle.pra_base.specs.declared.ids.Place.TheVariants.{Eax}
use Rattle.pl_moves.specs.declared.transfer.Move.TheVariants.{Load}
use Rattle.pra_base.specs.Code.{code_of, end_of}
use Rattle.pl_moves.specs.Meaning.{Cell, Register, Memory, Fixed, with_cell}
use Rattle.pl_moves.specs.Assignment.{source}
use Rattle.pl_moves.specs.Crossbar.{InRegisters}
use Rattle.pl_place.specs.declared.placed.LBlock.{LBlock}
use Rattle.pl_place.specs.Behind.{Routed, IsBehind, Lays, MovesInto, pairs_at}
use Rattle.pl_place.specs.Sample.{v0}
use Rattle.pl_place.specs.SampleRoutes.{routed, both_places_routes, in_register, in_memory}

-- ---- moves

none : (r : Routed) (l : ℕ) → ((cell : Cell) → source (pairs_at r 0 l) cell ≡ cell) →
    MovesInto r 0 l []
none r l each = record {
  in_registers = all_of_each InRegisters [] tt;
  assigns = record { after = λ cell. cell; runs = refl; each = λ cell. sym (each cell) };
}

same : (b : Bool) (k r : ℕ) → (b ≡ true → k ≡ r) → (if b then Register k else Register r) ≡
    Register r
same true k r f = let e : k ≡ r = f refl in rw e refl
same false k r f = refl

own : (k r : ℕ) → (if nat_eq k r then Register k else Register r) ≡ Register r
own k r = same (nat_eq k r) k r (λ e. grind (arith, nat_tests))

turned : (k r : ℕ) (x y : Cell) → (if nat_eq r k then x else y) ≡ (if nat_eq k r then x else y)
turned k r x y = let e : nat_eq r k ≡ nat_eq k r = grind (arith, nat_tests) in
    ap (λ b. if b then x else y) e

at_zero : (P : ℕ → LBlock → Type 0) (first : LBlock) → P 0 first → (b : ℕ) (block : LBlock) →
    slice_get (first ∷ []) b ≡ Some block → P b block
at_zero P first p zero block e = let is : first ≡ block = cc in subst (P 0) is p
at_zero P first p (suc b) block e = cc

-- ---- in EAX

abbrev one : Routed
one = routed in_register_routes

eax_added : (cell : Cell) → source (pairs_at one 0 3) cell ≡ cell
eax_added (Register r) = own 0 r
eax_added (Memory v) = refl
eax_added (Fixed n) = refl

eax_written : (cell : Cell) → source (pairs_at one 0 5) cell ≡ cell
eax_written (Register r) = own 0 r
eax_written (Memory v) = refl
eax_written (Fixed n) = refl

pub register_is : IsBehind one in_register
register_is = record {
  id = refl;
  args = refl;
  aggregates = refl;
  vars = refl;
  slots = refl;
  count = refl;
  ends = at_zero (λ b block. block.end ≡ end_of one.code b) _ refl;
  lays = at_zero (λ b block. Lays one b 0 (code_of one.code b) block.code) _ (
    [],
    _,
    _,
    refl,
    none one 1 (λ cell. refl),
    (refl, refl),
    (
      [],
      _,
      _,
      refl,
      none one 3 eax_added,
      (refl, refl),
      (
        [],
        _,
        _,
        refl,
        none one 5 eax_written,
        (refl, refl),
        ([], refl, none one 7 (λ cell. refl)),
      ),
    ),
  );
}

-- ---- in memory

abbrev other : Routed
other = routed both_places_routes

memory_added : (cell : Cell) → source (pairs_at other 0 3) cell ≡ cell
memory_added (Register r) = refl
memory_added (Memory v) = refl
memory_added (Fixed n) = refl

abbrev loaded : Cell → Cell
loaded = with_cell (λ cell. cell) (Register 0) (Memory 0)

loads : (cell : Cell) → loaded cell ≡ source (pairs_at other 0 5) cell
loads (Register r) = turned 0 r (Memory 0) (Register r)
loads (Memory v) = refl
loads (Fixed n) = refl

loading : MovesInto other 0 5 (Load Eax v0 ∷ [])
loading = record {
  in_registers = all_of_each InRegisters (Load Eax v0 ∷ []) (refl, tt);
  assigns = record { after = loaded; runs = refl; each = loads };
}

pub memory_is : IsBehind other in_memory
memory_is = record {
  id = refl;
  args = refl;
  aggregates = refl;
  vars = refl;
  slots = refl;
  count = refl;
  ends = at_zero (λ b block. block.end ≡ end_of other.code b) _ refl;
  lays = at_zero (λ b block. Lays other b 0 (code_of other.code b) block.code) _ (
    [],
    _,
    _,
    refl,
    none other 1 (λ cell. refl),
    (refl, refl),
    (
      [],
      _,
      _,
      refl,
      none other 3 memory_added,
      (refl, refl),
      (
        Load Eax v0 ∷ [],
        _,
        _,
        refl,
        loading,
        (refl, refl),
        ([], refl, none other 7 (λ cell. refl)),
      ),
    ),
  );
}
