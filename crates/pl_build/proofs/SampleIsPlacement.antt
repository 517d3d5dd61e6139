-- A module whose procedure was placed: a variable in memory until it is written out, a constant as
-- an immediate, a both place.
use Rattle.std.proofs.Common.{◌≡◌, ℕ, ℤ, zero, suc, ◌<◌, ◌≤◌, ⊎_elim, Bool, true, false, ◌&&◌, ◌||◌}
use Rattle.std.proofs.Common.{List, [], ◌∷◌, count_by, IsTrue, slice_get, Some, None, refl, subst}
use Rattle.std.proofs.Common.{arith, lit≤}
use Rattle.std.specs.Prelude.{nat_eq, ◌↔◌, pos, ◌≤ℤ◌}
use Rattle.std.proofs.lemmas.Bool.{cases_lt}
use Rattle.std.proofs.lemmas.Bool.Decides.{nat_tests}
use Rattle.pra_list.proofs.Each.{each_at, all_of_each}
use Rattle.pra_list.proofs.Counts.{bit, count-cons}
use Rattle.pra_base.specs.declared.ids.Place.TheVariants.{Mem, EaxM, Const}
use Rattle.pra_base.specs.declared.ids.ShiftOp.{ShiftOp}
use Rattle.pra_base.specs.declared.ids.VarId.{VarId}
use Rattle.pra_base.specs.declared.code.VarKind.TheVariants.{Param}
use Rattle.pra_base.specs.declared.code.VInstr.{VInstr}
use Rattle.pra_base.specs.declared.code.VInstr.TheVariants.{Set, Add, Write, Clear, DivMod, Check}
use Rattle.pra_base.specs.declared.code.VInstr.TheVariants.{Shift}
use Rattle.pra_base.specs.declared.code.End.TheVariants.{Return}
use Rattle.pra_base.specs.declared.code.VProc.{VProc}
use Rattle.pra_base.specs.Code.{block_in, EachInstr, IsTarget}
use Rattle.pra_base.specs.Live.{reads_at}
use Rattle.pra_base.specs.Operands.{reads, writes, only_writes}
use Rattle.pra_base.specs.Valid.{EntryBlock, LastReturn, CmpBeforeBranch, RolesApart, DivisionApart}
use Rattle.pra_base.specs.Valid.{KeepsConstant, ConstantsKept, LiveAtEntry, PushesBeforeCalls}
use Rattle.pra_base.specs.Valid.{TakesAny, TakesArgs, ClearFirst, ArgumentsApart, CheckRange}
use Rattle.pra_base.specs.Valid.{ShiftRange}
use Rattle.pra_base.specs.Valid.{NamesCell, Names, counts_of, IsValid, IsSized, AreValid}
use Rattle.net_form.specs.declared.net.MemPair.{MemPair}
use Rattle.net_form.specs.declared.net.Tie.{Tie}
use Rattle.net_form.specs.Admitted.{in_mask, stays_across, uses_bundle, uses_memory, KeepsTie}
use Rattle.net_form.specs.Admitted.{IsAdmitted}
use Rattle.net_form.specs.Examples.{set_add_write, set_add_write_live, set_add_write_net}
use Rattle.net_form.specs.Flow.{Edge, flow}
use Rattle.net_form.specs.Tables.{all_tables}
use Rattle.net_form.proofs.ExampleLiveness.{set_add_write-is_live, set_add_write-is_net}
use Rattle.net_form.proofs.NetworkFormed.{formed}
use Rattle.net_form.proofs.RoutesConserve.{flow_conserves}
use Rattle.pl_made.proofs.SampleIsMade.{sample_is}
use Rattle.pl_place.specs.Sample.{v0, v1}
use Rattle.pl_place.specs.SampleRoutes.{both_places_routes, in_memory}
use Rattle.pl_build.specs.Placement.{IsPlacement, ArePlacements}

-- ---- facts about each instruction

abbrev code_is : List VInstr
code_is = Set v0 (pos 3) ∷ Add v0 v1 ∷ Write v0 ∷ []

each_instr : (P : VInstr → Type 0) → P (Set v0 (pos 3)) → P (Add v0 v1) → P (Write v0) →
    EachInstr set_add_write.blocks P
each_instr P a c d zero k i h = each_at (λ k i. P i) code_is (a, (c, (d, tt))) k i h
each_instr P a c d (suc b) k i h = cc

out_of_one : {A : Type 0} (b : ℕ) → suc b < 1 → A
out_of_one b h = absurd (omega arith)

-- ---- valid

entry : EntryBlock set_add_write.blocks
entry = record { there = omega arith; no_target = no_target }
  where
    no_target : (b : ℕ) → b < 1 → IsTarget (block_in set_add_write.blocks b).end 0 → ⊥
    no_target zero lt h = h
    no_target (suc b) lt h = out_of_one b lt

last : LastReturn set_add_write.blocks
last = record { there = omega arith; exactly = exactly }
  where
    exactly : (b : ℕ) → b < 1 → ((block_in set_add_write.blocks b).end ≡ Return) ↔ (suc b ≡ 1)
    exactly zero lt = ((λ e. refl), (λ e. refl))
    exactly (suc b) lt = out_of_one b lt

branches : CmpBeforeBranch set_add_write.blocks
branches zero condition one other e = cc
branches (suc b) condition one other e = cc

pushes : (Takes : ℕ → ℕ → Type 0) → PushesBeforeCalls Takes set_add_write.blocks
pushes Takes zero = (refl, (refl, (refl, refl)))
pushes Takes (suc b) = refl

clears : ClearFirst 0 set_add_write.blocks
clears b k = (
  (λ e. absurd (each_instr (λ i. i ≡ Clear → ⊥) (λ c. cc) (λ c. cc) (λ c. cc) b k Clear
      e refl)),
  (λ w. absurd (w.0 refl)),
)

checks : CheckRange set_add_write.blocks
checks = each_instr (λ i. (v : VarId) (n : ℤ) → i ≡ Check v n → (pos 0 ≤ℤ n) ×
    (n ≤ℤ pos 2147483647)) (λ v n e. cc) (λ v n e. cc) (λ v n e. cc)

shifts : ShiftRange set_add_write.blocks
shifts = each_instr (λ i. (op : ShiftOp) (v : VarId) (n : ℕ) → i ≡ Shift op v n →
    (1 ≤ n) × (n ≤ 31)) (λ op v n e. cc) (λ op v n e. cc) (λ op v n e. cc)

roles : RolesApart set_add_write.blocks
roles = each_instr (λ i. (v : ℕ) → only_writes i v ≡ true → reads i v ≡ false) (λ v h. refl)
    (λ v h. cc) (λ v h. cc)

division : DivisionApart set_add_write
division b k q r a d h =
    absurd (each_instr (λ i. i ≡ DivMod q r a d → ⊥) (λ c. cc) (λ c. cc) (λ c. cc) b k
    (DivMod q r a d) h refl)

constants : ConstantsKept set_add_write
constants zero n e = cc
constants (suc zero) n e = each_instr (KeepsConstant 1)
    (record { unwritten = refl; uncopied = λ t s e. cc })
    (record { unwritten = refl; uncopied = λ t s e. cc })
    (record { unwritten = refl; uncopied = λ t s e. cc })
constants (suc (suc v)) n e = cc

-- no instruction reads a variable past the end
first_only : (w : ℕ) → 2 ≤ w → (nat_eq 0 w || false) ≡ false
first_only w h = grind (arith, nat_tests)

either : (w : ℕ) → 2 ≤ w → (nat_eq 0 w || (nat_eq 1 w || false)) ≡ false
either w h = grind (arith, nat_tests)

in_place : (w : ℕ) → 2 ≤ w → ((nat_eq w 0 || false) || false) ≡ false
in_place w h = grind (arith, nat_tests)

not_both : (a : Bool) → a ≡ true → a ≡ false → ⊥
not_both a e h = cc

not_read : (w b k : ℕ) → 2 ≤ w → reads_at set_add_write w (record { block = b; index = k }) ≡ false
not_read w zero zero h = refl
not_read w zero (suc zero) h = either w h
not_read w zero (suc (suc zero)) h = first_only w h
not_read w zero (suc (suc (suc k))) h = refl
not_read w (suc b) k h = refl

entries : LiveAtEntry set_add_write
entries zero lives = absurd (not_live ((set_add_write-is_live 0 0 0).1 (refl, lives)))
  where
    not_live : IsTrue (set_add_write_live 0 0 0) → ⊥
    not_live h = cc
entries (suc zero) lives = absurd (not_live ((set_add_write-is_live 1 0 0).1 (refl, lives)))
  where
    not_live : IsTrue (set_add_write_live 1 0 0) → ⊥
    not_live h = cc
entries (suc (suc v)) lives =
    absurd (not_both (reads_at set_add_write (suc (suc v)) lives.to) lives.read
    (not_read (suc (suc v)) lives.to.block lives.to.index (omega arith)))

arguments : ArgumentsApart set_add_write.vars set_add_write.blocks
arguments = record {
  params = λ v w i h g. absurd (no_param v i h);
  cells = λ b k j at v i names. no_param v i;
}
  where
    no_param : (v i : ℕ) → slice_get set_add_write.vars v ≡ Some (Param i) → ⊥
    no_param zero i h = cc
    no_param (suc zero) i h = cc
    no_param (suc (suc v)) i h = cc

pub code_valid : IsValid set_add_write
code_valid = record {
  entry_block = entry;
  block_rules = record {
    last_return = last;
    cmp_before_branch = branches;
    pushes_before_calls =
        pushes TakesAny;
    clear_first = clears;
    check_range = checks;
    shift_range = shifts;
  };
  roles_apart = roles;
  division_apart = division;
  constants_kept = constants;
  live_at_entry = entries;
  arguments_apart = arguments;
}

module_valid : AreValid (set_add_write ∷ [])
module_valid = record {
  each = λ p code h. each_at (λ p code. IsValid code) (set_add_write ∷ []) (code_valid, tt) p code
      h;
  pushes_before_calls = λ p code h. each_at
      (λ p (code : VProc). PushesBeforeCalls (TakesArgs (counts_of (set_add_write ∷ [])))
      code.blocks) (set_add_write ∷ [])
      (pushes (TakesArgs (counts_of (set_add_write ∷ []))), tt) p code h;
  body = refl;
}

-- ---- sized

two_variables : (i : VInstr) → ((w : ℕ) → 2 ≤ w → reads i w ≡ false) →
    ((w : ℕ) → 2 ≤ w → writes i w ≡ false) → (v : ℕ) → Names i v → v < 2
two_variables i f g v names =
    ⊎_elim
    (λ (lt : v < 2). lt)
    (λ (le : 2 ≤ v). ⊎_elim (λ (h : reads i v ≡ true). absurd (not_both (reads i v) h (f v le)))
    (λ (h : writes i v ≡ true). absurd (not_both (writes i v) h (g v le))) names)
    (cases_lt v 2)

pub code_sized : IsSized set_add_write
code_sized = record {
  variables_in_range = each_instr (λ i. (v : ℕ) → Names i v → v < 2)
      (two_variables (Set v0 (pos 3)) (λ w h. refl) first_only)
      (two_variables (Add v0 v1) either in_place)
      (two_variables (Write v0) first_only (λ w h. refl));
  targets_in_range = targets;
  cells_in_range = each_instr (λ j. (i : ℕ) → NamesCell j i → i < 0) (λ i e. cc) (λ i e. cc)
      (λ i e. cc);
  params_in_range = params;
  depths = depths;
  instructions = lit≤ tt;
  blocks = lit≤ tt;
  variables = lit≤ tt;
  args = lit≤ tt;
  aggregates = lit≤ tt;
}
  where
    targets : (b t : ℕ) → b < 1 → IsTarget (block_in set_add_write.blocks b).end t → t < 1
    targets zero t lt h = absurd h
    targets (suc b) t lt h = out_of_one b lt

    params : (v i : ℕ) → slice_get set_add_write.vars v ≡ Some (Param i) → i < 0
    params zero i h = cc
    params (suc zero) i h = cc
    params (suc (suc v)) i h = cc

    depths : (b : ℕ) → (block_in set_add_write.blocks b).depth ≤ 5
    depths zero = lit≤ tt
    depths (suc b) = lit≤ tt

-- ---- admitted

abbrev f : List Edge
f = flow set_add_write_net both_places_routes

no_bit : (a : Bool) → bit (a && false) ≡ 0
no_bit true = refl
no_bit false = refl

small_bit : (a : Bool) → bit a ≤ 1
small_bit true = lit≤ tt
small_bit false = lit≤ tt

-- one edge alone comes to a register
one_register : (n r : ℕ) → count_by (uses_bundle set_add_write_net n r) f ≤ 1
one_register n r =
    let p : Edge → Bool = uses_bundle set_add_write_net n r in
    let e0 : Edge = record { strand = 0; layer = 2; from = None; to = Mem } in
    let e1 : Edge = record { strand = 0; layer = 3; from = Some Mem; to = Mem } in
    let e2 : Edge = record { strand = 0; layer = 4; from = Some Mem; to = Mem } in
    let e3 : Edge = record { strand = 0; layer = 5; from = Some Mem; to = EaxM } in
    let e4 : Edge = record { strand = 1; layer = 3; from = None; to = Const } in
    let c0 = count-cons p e0 (e1 ∷ e2 ∷ e3 ∷ e4 ∷ []) in
    let c1 = count-cons p e1 (e2 ∷ e3 ∷ e4 ∷ []) in
    let c2 = count-cons p e2 (e3 ∷ e4 ∷ []) in
    let c3 = count-cons p e3 (e4 ∷ []) in
    let c4 = count-cons p e4 [] in
    let b0 = no_bit (nat_eq 2 n) in
    let b1 = no_bit (nat_eq 3 n) in
    let b2 = no_bit (nat_eq 4 n) in
    let b3 = small_bit (p e3) in
    let b4 = no_bit (nat_eq 3 n) in
    omega (arith, c0, c1, c2, c3, c4, b0, b1, b2, b3, b4)

admitted : IsAdmitted set_add_write_net f
admitted = record {
  conserves = flow_conserves set_add_write_net.strands both_places_routes.places
      (λ k d lt. ((formed all_tables set_add_write set_add_write_net set_add_write-is_net
      code_sized).strands k d lt).order) (refl, (refl, tt));
  masks = all_of_each (λ e. IsTrue (in_mask set_add_write_net e)) f
      (refl, (refl, (refl, (refl, (refl, tt)))));
  across = all_of_each (λ e. IsTrue (stays_across e)) f (refl, (refl, (refl, (refl, (refl, tt)))));
  bundles = one_register;
  pairs = all_of_each (λ (m : MemPair). count_by (uses_memory m) f ≤ 1) set_add_write_net.pairs
      (lit≤ tt, tt);
  ties = all_of_each (λ (t : Tie). KeepsTie set_add_write_net f t) [] tt;
}

placement : IsPlacement set_add_write in_memory
placement = record {
  net = set_add_write_net;
  routes = both_places_routes;
  is_net = set_add_write-is_net;
  are_routes = (refl, (refl, tt));
  admitted = admitted;
  made = sample_is;
}

pub placements : ArePlacements (set_add_write ∷ []) (in_memory ∷ [])
placements = record {
  valid = module_valid;
  count = refl;
  sized = λ n code e. each_at (λ n code. IsSized code) (set_add_write ∷ []) (code_sized, tt) n code
      e;
  each = λ n code p e h. by_number n code p e h;
}
  where
    by_number : (n : ℕ) (code : VProc) (p : _) → slice_get (set_add_write ∷ []) n ≡ Some code →
        slice_get (in_memory ∷ []) n ≡ Some p → IsPlacement code p
    by_number zero code p e h = let a : set_add_write ≡ code = cc in let c : in_memory ≡ p = cc in
        subst (λ x. IsPlacement x p) a (subst (IsPlacement set_add_write) c placement)
    by_number (suc n) code p e h = cc
