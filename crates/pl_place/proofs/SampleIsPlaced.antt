-- The sample is valid placed code, rule by rule.
use Rattle.std.proofs.Common.{◌≡◌, ◌≢◌, ℕ, zero, suc, ◌<◌, ◌⊎◌, inr, ⊎_elim, true, List, [], ◌∷◌}
use Rattle.std.proofs.Common.{slice_get, Some, refl, arith, lit≤, lit<}
use Rattle.std.specs.Prelude.{ℤ, ◌↔◌, pos, ◌≤ℤ◌, ◌≤◌}
use Rattle.pra_base.specs.declared.ids.Place.{Place}
use Rattle.pra_base.specs.declared.ids.Place.TheVariants.{Eax, Ecx, Mem, EaxM}
use Rattle.pra_base.specs.declared.ids.ShiftOp.{ShiftOp}
use Rattle.pra_base.specs.declared.ids.VarId.{VarId}
use Rattle.pra_base.specs.declared.code.VarKind.TheVariants.{Param, Plain}
use Rattle.pra_base.specs.declared.code.VInstr.{VInstr}
use Rattle.pra_base.specs.declared.code.VInstr.TheVariants.{Set, Push, Call, Load, Cmp, Clear}
use Rattle.pra_base.specs.declared.code.VInstr.TheVariants.{Check, Shift}
use Rattle.pra_base.specs.declared.code.End.TheVariants.{Return}
use Rattle.pra_base.specs.Code.{block_in, EachInstr, IsTarget}
use Rattle.pra_base.specs.Places.{is_mem}
use Rattle.pra_base.specs.Operands.{Role}
use Rattle.pra_base.specs.Valid.{LastReturn, CmpBeforeBranch, PushesBeforeCalls, TakesAny}
use Rattle.pra_base.specs.Valid.{TakesArgs, ClearFirst, CheckRange, ShiftRange}
use Rattle.pra_base.specs.Valid.{ArgumentsApart, Names}
use Rattle.pra_base.specs.Valid.{NamesCell}
use Rattle.pl_moves.specs.declared.transfer.Move.{Move}
use Rattle.pl_moves.specs.Crossbar.{InRegisters}
use Rattle.pl_place.specs.Placed.{place_in, bare}
use Rattle.pl_place.specs.Valid.{EachOp, roles, OperandsPlaced, HasCell, MoveHasMemory}
use Rattle.pl_place.specs.Valid.{MemoryThere, FewMoves, MoveNames, NumbersInRange, IsPlaced}
use Rattle.pl_place.specs.Valid.{counts_of, ArePlaced}
use Rattle.pl_place.specs.Sample.{v0, v1, callee, word_0, caller, called, sample}
use Rattle.pra_list.specs.Each.{EachAt}
use Rattle.pra_list.proofs.Each.{each_at}
use Rattle.pl_place.proofs.PlacedCode.{each_op, each_move, placed_at, InMemory, names_below}

-- ---- operands

caller_operands : EachOp caller (OperandsPlaced caller)
caller_operands = each_op (OperandsPlaced caller) caller (
  (
    placed_at caller Clear [] refl tt tt tt,
    (
      placed_at caller (Set v0 (pos 5)) (Eax ∷ []) refl (refl, tt) tt
          (((λ m n ne mem. cc), tt), tt),
      (
        tt,
        (
          placed_at caller (Push v0) (EaxM ∷ []) refl (refl, tt) (tt, tt)
              (((λ m n ne mem. cc), tt), tt),
          (
            placed_at caller (Call callee) [] refl tt tt tt,
            (
              placed_at caller (Load v1 word_0) (Ecx ∷ []) refl (refl, tt) tt
                  (((λ m n ne mem. cc), tt), tt),
              (
                placed_at caller (Cmp v1 v0) (Ecx ∷ Mem ∷ []) refl (refl, (refl, tt)) (tt, (tt, tt)) (
                  ((λ m n ne mem. cc), ((λ m n ne mem. cc), tt)),
                  (((λ m n ne mem. refl), ((λ m n ne mem. absurd (ne refl)), tt)), tt),
                ),
                tt,
              ),
            ),
          ),
        ),
      ),
    ),
  ),
  (tt, tt),
)

slot_0 : HasCell caller 0
slot_0 = inr (0, v0, refl, refl)

caller_memory : MemoryThere caller
caller_memory = record {
  moves = each_move (MoveHasMemory caller) caller (
    (tt, (tt, (slot_0, (tt, (tt, (tt, (tt, tt))))))),
    (tt, tt),
  );
  operands_there = each_op (λ i places. (k : ℕ) (role : Role) → slice_get (roles i) k ≡ Some role →
      is_mem (place_in places k) ≡ true → HasCell caller role.var) caller (
        (
          (λ k role h mem. cc),
          (
            (λ k role h. each_at (InMemory caller (Eax ∷ [])) (roles (Set v0 (pos 5)))
                ((λ mem. cc), tt)
                k role h),
            (
              tt,
              (
                (λ k role h. each_at (InMemory caller (EaxM ∷ [])) (roles (Push v0))
                    ((λ mem. cc), tt) k
                    role h),
                (
                  (λ k role h mem. cc),
                  (
                    (λ k role h. each_at (InMemory caller (Ecx ∷ [])) (roles (Load v1 word_0))
                        ((λ mem. cc), tt) k role h),
                    (
                      (λ k role h. each_at (InMemory caller (Ecx ∷ Mem ∷ [])) (roles (Cmp v1 v0))
                          ((λ mem. cc), ((λ mem. slot_0), tt)) k role h),
                      tt,
                    ),
                  ),
                ),
              ),
            ),
          ),
        ),
        (tt, tt),
      );
  distinct = λ k j u a b.
      each_at (λ k u. slice_get caller.slots j ≡ Some u → k ≡ j) caller.slots
      ((λ c. each_at (λ j u. 0 ≡ j) caller.slots (refl, tt) j v0 c), tt) k u a b;
}

-- ---- blocks

out_of_two : (b : ℕ) → suc (suc b) < 2 → ⊥
out_of_two b h = omega arith

caller_last : LastReturn (bare caller)
caller_last = record { there = omega arith; exactly = exactly }
  where
    exactly : (b : ℕ) → b < 2 → ((block_in (bare caller) b).end ≡ Return) ↔ (suc b ≡ 2)
    exactly zero lt = ((λ e. cc), (λ e. absurd (omega arith)))
    exactly (suc zero) lt = ((λ e. refl), (λ e. refl))
    exactly (suc (suc b)) lt = absurd (out_of_two b lt)

called_last : LastReturn (bare called)
called_last = record { there = omega arith; exactly = exactly }
  where
    exactly : (b : ℕ) → b < 1 → ((block_in (bare called) b).end ≡ Return) ↔ (suc b ≡ 1)
    exactly zero lt = ((λ e. refl), (λ e. refl))
    exactly (suc b) lt = absurd (omega arith)

caller_branches : CmpBeforeBranch (bare caller)
caller_branches zero condition one other e = (v1, v0, refl)
caller_branches (suc zero) condition one other e = cc
caller_branches (suc (suc b)) condition one other e = cc

called_branches : CmpBeforeBranch (bare called)
called_branches zero condition one other e = cc
called_branches (suc b) condition one other e = cc

caller_pushes : PushesBeforeCalls TakesAny (bare caller)
caller_pushes zero = (refl, (refl, (tt, (refl, (refl, refl)))))
caller_pushes (suc zero) = refl
caller_pushes (suc (suc b)) = refl

called_pushes : (Takes : ℕ → ℕ → Type 0) → PushesBeforeCalls Takes (bare called)
called_pushes Takes zero = refl
called_pushes Takes (suc b) = refl

no_suc : (k : ℕ) → suc k ≡ 0 → ⊥
no_suc k h = omega arith

caller_clear : ClearFirst 1 (bare caller)
caller_clear zero zero = ((λ e. ((λ one. absurd (no_suc 0 one)), refl, refl)), (λ w. refl))
caller_clear zero (suc k) = (
  (λ e. absurd (each_at (λ j i. i ≢ Clear)
      (Set v0 (pos 5) ∷ Push v0 ∷ Call callee ∷ Load v1 word_0 ∷ Cmp v1 v0 ∷ [])
      ((λ c. cc), ((λ c. cc), ((λ c. cc), ((λ c. cc), ((λ c. cc), tt))))) k Clear e refl)),
  (λ w. absurd (no_suc k w.2)),
)
caller_clear (suc zero) k = ((λ e. cc), (λ w. absurd (no_suc 0 w.1)))
caller_clear (suc (suc b)) k = ((λ e. cc), (λ w. absurd (no_suc (suc b) w.1)))

called_clear : ClearFirst 0 (bare called)
called_clear zero k = ((λ e. cc), (λ w. absurd (w.0 refl)))
called_clear (suc b) k = ((λ e. cc), (λ w. absurd (w.0 refl)))

abbrev InRange : VInstr → Type 0
InRange i = (v : VarId) (n : ℤ) → i ≡ Check v n → (pos 0 ≤ℤ n) × (n ≤ℤ pos 2147483647)

abbrev caller_code : List VInstr
caller_code = Clear ∷ Set v0 (pos 5) ∷ Push v0 ∷ Call callee ∷ Load v1 word_0 ∷ Cmp v1 v0 ∷ []

of_caller : (P : VInstr → Type 0) → EachAt (λ k i. P i) caller_code → EachInstr (bare caller) P
of_caller P each zero k i h = each_at (λ k i. P i) caller_code each k i h
of_caller P each (suc zero) k i h = cc
of_caller P each (suc (suc b)) k i h = cc

of_called : (P : VInstr → Type 0) → EachInstr (bare called) P
of_called P zero k i h = cc
of_called P (suc b) k i h = cc

caller_checks : CheckRange (bare caller)
caller_checks = of_caller InRange (
  (λ v n e. cc),
  (
    (λ v n e. cc),
    ((λ v n e. cc), ((λ v n e. cc), ((λ v n e. cc), ((λ v n e. cc), tt)))),
  ),
)

abbrev Shifts : VInstr → Type 0
Shifts i = (op : ShiftOp) (v : VarId) (n : ℕ) → i ≡ Shift op v n → (1 ≤ n) × (n ≤ 31)

caller_shifts : ShiftRange (bare caller)
caller_shifts = of_caller Shifts (
  (λ op v n e. cc),
  (
    (λ op v n e. cc),
    ((λ op v n e. cc), ((λ op v n e. cc), ((λ op v n e. cc), ((λ op v n e. cc), tt)))),
  ),
)

-- ---- numbers

abbrev NamesWithin : VInstr → List Place → Type 0
NamesWithin i places = (v : ℕ) → Names i v → v < 2

caller_names : EachOp caller NamesWithin
caller_names = each_op NamesWithin caller (
  (
    names_below 2 Clear tt tt tt,
    (
      names_below 2 (Set v0 (pos 5)) tt tt (lit< tt, tt),
      (
        tt,
        (
          names_below 2 (Push v0) (lit< tt, tt) tt tt,
          (
            names_below 2 (Call callee) tt tt tt,
            (
              names_below 2 (Load v1 word_0) tt tt (lit< tt, tt),
              (
                names_below 2 (Cmp v1 v0) (lit< tt, (lit< tt, tt)) tt tt,
                tt,
              ),
            ),
          ),
        ),
      ),
    ),
  ),
  (tt, tt),
)

abbrev MoveWithin : Move → Type 0
MoveWithin m = (v : ℕ) → MoveNames m v → v < 2

zero_below : (v : ℕ) → 0 ≡ v → v < 2
zero_below v e = omega arith

one_below : (t : ℕ) → (1 ≡ t) ⊎ (1 ≡ t) → t < 2
one_below t h = ⊎_elim (λ (e : 1 ≡ t). omega arith) (λ (e : 1 ≡ t). omega arith) h

caller_targets : (b t : ℕ) → b < 2 → IsTarget (block_in (bare caller) b).end t → t < 2
caller_targets zero t lt h = one_below t h
caller_targets (suc zero) t lt h = absurd h
caller_targets (suc (suc b)) t lt h = absurd (out_of_two b lt)

called_targets : (b t : ℕ) → b < 1 → IsTarget (block_in (bare called) b).end t → t < 1
called_targets zero t lt h = absurd h
called_targets (suc b) t lt h = absurd (omega arith)

caller_arguments : ArgumentsApart caller.vars (bare caller)
caller_arguments = record {
  params = λ v w i h g. each_at (λ v kind. kind ≡ Param i → v ≡ w) caller.vars
      ((λ e. cc), ((λ e. cc), tt)) v (Param i) h refl;
  cells = of_caller (λ j. (v i : ℕ) → NamesCell j i → slice_get caller.vars v ≢ Some (Param i)) (
    (λ v i c. cc),
    (
      (λ v i c. cc),
      ((λ v i c. cc), ((λ v i c. cc), ((λ v i c. cc), ((λ v i c. cc), tt)))),
    ),
  );
}

called_arguments : ArgumentsApart called.vars (bare called)
called_arguments = record {
  params = λ v w i h g. each_at (λ v kind. slice_get called.vars w ≡ Some kind → v ≡ w) called.vars
      ((λ e. first w e), tt) v (Param i) h g;
  cells = of_called (λ j. (v i : ℕ) → NamesCell j i → slice_get called.vars v ≢ Some (Param i));
}
  where
    first : (w : ℕ) → slice_get called.vars w ≡ Some (Param 0) → 0 ≡ w
    first zero e = refl
    first (suc w) e = cc

caller_numbers : NumbersInRange caller
caller_numbers = record {
  near_is = refl;
  slots_plain = λ k u h. each_at (λ k u. slice_get caller.vars u.0 ≡ Some Plain) caller.slots
      (refl, tt) k u h;
  ops = caller_names;
  moves = each_move MoveWithin caller
      ((tt, (tt, ((λ v h. zero_below v h), (tt, (tt, (tt, (tt, tt))))))), (tt, tt));
  targets = caller_targets;
  cells = of_caller (λ j. (i : ℕ) → NamesCell j i → i < 0)
      ((λ i c. cc), ((λ i c. cc), ((λ i c. cc), ((λ i c. cc), ((λ i c. cc), ((λ i c. cc), tt))))));
  params = λ v i h. each_at (λ v kind. kind ≡ Param i → i < 0) caller.vars
      ((λ e. cc), ((λ e. cc), tt)) v (Param i) h refl;
  arguments_apart = caller_arguments;
}

called_numbers : NumbersInRange called
called_numbers = record {
  near_is = refl;
  slots_plain = λ k u h. cc;
  ops = each_op (λ i places. (v : ℕ) → Names i v → v < 1) called (tt, tt);
  moves = each_move (λ m. (v : ℕ) → MoveNames m v → v < 1) called (tt, tt);
  targets = called_targets;
  cells = of_called (λ j. (i : ℕ) → NamesCell j i → i < 1);
  params = λ v i h. each_at (λ v kind. kind ≡ Param i → i < 1) called.vars ((λ e. within i e), tt) v
      (Param i) h refl;
  arguments_apart = called_arguments;
}
  where
    within : (i : ℕ) → Param 0 ≡ Param i → i < 1
    within i e = let same : 0 ≡ i = cc in omega arith

-- ---- the whole

caller_is : IsPlaced caller
caller_is = record {
  operands_placed = caller_operands;
  memory_there = caller_memory;
  block_rules = record {
    last_return = caller_last;
    cmp_before_branch = caller_branches;
    pushes_before_calls = caller_pushes;
    clear_first = caller_clear;
    check_range = caller_checks;
    shift_range = caller_shifts;
  };
  in_registers = each_move InRegisters caller (
    (tt, (tt, (refl, (tt, (tt, (tt, (tt, tt))))))),
    (tt, tt),
  );
  few_moves = λ b block h. each_at (λ b block. FewMoves 0 block.code) caller.blocks
      ((lit≤ tt, (lit≤ tt, (lit≤ tt, (lit≤ tt, (lit≤ tt, (lit≤ tt, lit≤ tt)))))), (lit≤ tt, tt)) b
      block h;
  numbers_in_range = caller_numbers;
}

called_is : IsPlaced called
called_is = record {
  operands_placed = each_op (OperandsPlaced called) called (tt, tt);
  memory_there = record {
    moves = each_move (MoveHasMemory called) called (tt, tt);
    operands_there = each_op (λ i places. (k : ℕ) (role : Role) → slice_get (roles i) k ≡
        Some role → is_mem (place_in places k) ≡ true → HasCell called role.var) called (tt, tt);
    distinct = λ k j u a b. cc;
  };
  block_rules = record {
    last_return = called_last;
    cmp_before_branch = called_branches;
    pushes_before_calls = called_pushes TakesAny;
    clear_first = called_clear;
    check_range = of_called InRange;
    shift_range = of_called Shifts;
  };
  in_registers = each_move InRegisters called (tt, tt);
  few_moves = λ b block h. each_at (λ b block. FewMoves 0 block.code) called.blocks (lit≤ tt, tt) b
      block h;
  numbers_in_range = called_numbers;
}

caller_takes : PushesBeforeCalls (TakesArgs (counts_of sample)) (bare caller)
caller_takes zero = (refl, (refl, (refl, (refl, (refl, refl)))))
caller_takes (suc zero) = refl
caller_takes (suc (suc b)) = refl

pub sample_is : ArePlaced sample
sample_is = record {
  each = λ p code h. each_at (λ p code. IsPlaced code) sample (caller_is, (called_is, tt)) p code h;
  pushes_before_calls = λ p code h. each_at
      (λ p code. PushesBeforeCalls (TakesArgs (counts_of sample)) (bare code)) sample
      (caller_takes, (called_pushes (TakesArgs (counts_of sample)), tt)) p code h;
  body = refl;
}
