-- Facts about each element of a list, as far as a loop has come, and what they say of all blocks.
use Rattle.std.proofs.Common.{◌≡◌, ℕ, ◌+◌, ◌<◌, ◌≤◌, ◌↔◌, ◌⊎◌, inl, inr, Bool, true, false, ◌||◌}
use Rattle.std.proofs.Common.{◌&&◌, IsTrue, nat_eq, nat_lt, nat_le, List, [], ◌∷◌, pos, Some}
use Rattle.std.proofs.Common.{length, get_or, take, refl, sym, ◌∙◌, subst, arith}
use Rattle.std.proofs.lemmas.Bool.{cases_eq, cases_order, eqb-true, ltb-true, lt-ltb, leb-true}
use Rattle.std.proofs.lemmas.Bool.{le-leb}
use Rattle.std.proofs.lemmas.List.{get_or_past, get_or_read, get_or_default}
use Rattle.std.specs.List.{slice_get, list_all}
use Rattle.std.proofs.lemmas.Option.{slice_get_read, slice_get_within, slice_get-get_or}
use Rattle.pra_base.specs.declared.ids.BlockId.{BlockId}
use Rattle.pra_base.specs.declared.ids.Cond.{Cond}
use Rattle.pra_base.specs.declared.code.VInstr.{VInstr}
use Rattle.pra_base.specs.declared.code.VInstr.TheVariants.{Set}
use Rattle.pra_base.specs.declared.code.End.{End}
use Rattle.pra_base.specs.declared.code.End.TheVariants.{Jump, Branch}
use Rattle.pra_base.specs.declared.code.Block.{Block}
use Rattle.pra_base.specs.declared.code.VarKind.TheVariants.{Param}
use Rattle.pra_base.specs.declared.code.VProc.{VProc}
use Rattle.pra_base.specs.Valid.{most_loops, most_instructions, most_blocks, most_variables}
use Rattle.pra_base.specs.Valid.{most_arguments, most_aggregates}
use Rattle.pra_base.specs.Operands as table
use Rattle.pra_base.specs.Code.{no_block, block_in, IsTarget, EachInstr}
use Rattle.pra_base.specs.Valid.{IsSized, instruction_count}
use Rattle.vc_code.specs.declared.row.Role.{Role}
use Rattle.vc_code.specs.declared.row.OperandRow.{OperandRow}
use Rattle.vc_code.specs.Rows.{row_of}
use Rattle.vc_live.specs.Equations.{named_in}
use Rattle.vc_live.specs.Sized.{Each, NamesBelow, CellsBelow, TargetsBelow}
use Rattle.vc_live.proofs.Steps.{no_role, named_more, reads_named, writes_named}

-- the fact holds of the first so many elements
pub record Holds {A : Type 0} (P : A → Type 0) (xs : List A) (count : ℕ) : Type 0 where
  pub each : (k : ℕ) (x : A) → k < count → slice_get xs k ≡ Some x → P x

-- one element more
pub one_more : {A : Type 0} (P : A → Type 0) (xs : List A) (k : ℕ) (x : A) → Holds P xs k →
    k < length xs → x ≡ get_or xs k x → P x → Holds P xs (k + 1)
one_more P xs k x so_far within read here = record {
  each = λ j y below at. elim (cases_eq j k) [
    | inl is ↦ let there = slice_get_read xs (length xs) k x refl within read in
        let first : slice_get xs k ≡ Some y = subst (λ n. slice_get xs n ≡ Some y) is at in
        let same : x ≡ y = cc in subst P same here
    | inr apart ↦ so_far.each j y (omega arith) at
  ];
}

-- the element that a loop over values that are copied reads
pub one_more_read : {A : Type 0} (P : A → Type 0) (xs : List A) (k : ℕ) (d : A) → Holds P xs k →
    k < length xs → P (get_or xs k d) → Holds P xs (k + 1)
one_more_read P xs k d so_far within here = one_more P xs k (get_or xs k d) so_far within
    (get_or_default xs k d (get_or xs k d) within) here

-- the fact holds of as many elements as there are
pub of_each : {A : Type 0} (P : A → Type 0) (xs : List A) (count : ℕ) → Holds P xs count →
    length xs ≤ count → (k : ℕ) (x : A) → slice_get xs k ≡ Some x → P x
of_each P xs count held whole k x at =
    held.each k x (let within = slice_get_within xs k x at in omega arith) at

-- what a reading past the end of instructions gives
abbrev pub no_instr : VInstr
no_instr = Set (record { 0 = 0 }) (pos 0)

-- ---- blocks

within_or_past : (blocks : List Block) (b : ℕ) → (b < length blocks) ⊎
    (block_in blocks b ≡ no_block)
within_or_past blocks b = elim (cases_order b (length blocks)) [
  | inl at ↦ inr (get_or_past blocks b no_block (omega arith))
  | inr (inl before) ↦ inl before
  | inr (inr after) ↦ inr (get_or_past blocks b no_block (omega arith))
]

-- what holds of each block there is
pub of_within : (P : Block → Type 0) (blocks : List Block) (count : ℕ) → Holds P blocks count →
    length blocks ≤ count → (b : ℕ) → b < length blocks → P (block_in blocks b)
of_within P blocks count held whole b within = held.each b (block_in blocks b) (omega arith)
    (slice_get-get_or blocks b no_block within)

-- what holds of each block there is, and of a block past the end
pub of_all : (P : Block → Type 0) (blocks : List Block) (count : ℕ) → Holds P blocks count →
    length blocks ≤ count → P no_block → (b : ℕ) → P (block_in blocks b)
of_all P blocks count held whole past b = elim (within_or_past blocks b) [
  | inl within ↦ of_within P blocks count held whole b within
  | inr is ↦ subst P (sym is) past
]

-- what holds of a block by its number holds of the block that was read
pub of_one : (P : Block → Type 0) (blocks : List Block) (b : ℕ) (block : Block) →
    b < length blocks → block ≡ get_or blocks b block → P (block_in blocks b) → P block
of_one P blocks b block within read here =
    subst P (sym (get_or_read blocks b block within read no_block)) here

pub nothing_in : (P : VInstr → Type 0) → Each [] P
nothing_in P k i at = cc

-- ---- a test's answer

pub granted : {P : Type 0} → P → (IsTrue true ↔ P)
granted holds = (λ yes. holds, λ p. refl)

pub refused : {P : Type 0} → (P → ⊥) → (IsTrue false ↔ P)
refused fails = (λ is. cc, λ p. absurd (fails p))

pub refused_by : {P Q : Type 0} → (IsTrue false ↔ Q) → (P → Q) → (IsTrue false ↔ P)
refused_by known gives = (λ is. cc, λ p. known.1 (gives p))

-- ---- roles

pub below_more : (roles : List Role) (k count : ℕ) →
    ((v : ℕ) → named_in (take k roles) v ≡ true → v < count) → k < length roles →
    (get_or roles k no_role).var.0 < count → (v : ℕ) → named_in (take (k + 1) roles) v ≡ true →
    v < count
below_more roles k count so_far within here v named =
    split _ _ refl refl (sym (named_more roles k no_role within v) ∙ named)
  where
    split : (before now : Bool) → named_in (take k roles) v ≡ before →
        nat_eq (get_or roles k no_role).var.0 v ≡ now → (before || now) ≡ true → v < count
    split true now is at one = so_far v is
    split false true is at one = subst (λ n. n < count) (eqb-true _ _ at) here
    split false false is at one = cc

-- ---- what an instruction names

pub names_both : (row : OperandRow) (i : VInstr) (count : ℕ) → row_of row ≡ table.operands i →
    ((v : ℕ) → named_in row.reads.items v ≡ true → v < count) →
    ((v : ℕ) → named_in row.writes.items v ≡ true → v < count) → NamesBelow count i
names_both row i count is read written v (inl reads) = read v (reads_named row i is v ∙ reads)
names_both row i count is read written v (inr writes) = written v (writes_named row i is v ∙ writes)

pub names_reads : (row : OperandRow) (i : VInstr) (count : ℕ) → row_of row ≡ table.operands i →
    NamesBelow count i → (v : ℕ) → named_in row.reads.items v ≡ true → v < count
names_reads row i count is below v named = below v (inl (sym (reads_named row i is v) ∙ named))

pub names_writes : (row : OperandRow) (i : VInstr) (count : ℕ) → row_of row ≡ table.operands i →
    NamesBelow count i → (v : ℕ) → named_in row.writes.items v ≡ true → v < count
names_writes row i count is below v named = below v (inr (sym (writes_named row i is v) ∙ named))

-- ---- ends

pub jump_below : (count : ℕ) (end : End) (b : BlockId) → end ≡ Jump b →
    (IsTrue (nat_lt b.0 count) ↔ TargetsBelow count end)
jump_below count end b is = subst (λ e. IsTrue (nat_lt b.0 count) ↔ TargetsBelow count e) (sym is)
    (λ yes t at. rw (← at) (ltb-true b.0 count yes), λ below. lt-ltb b.0 count (below b.0 refl))

pub branch_below : (count : ℕ) (end : End) (condition : Cond) (one other : BlockId) →
    end ≡ Branch condition one other → one.0 < count →
    (IsTrue (nat_lt other.0 count) ↔ TargetsBelow count end)
branch_below count end condition one other is first =
    subst (λ e. IsTrue (nat_lt other.0 count) ↔ TargetsBelow count e) (sym is) (
      λ yes t at. elim at [
        | inl e ↦ rw (← e) first
        | inr e ↦
            rw (← e) (ltb-true other.0 count yes)
      ],
      λ below. lt-ltb other.0 count (below other.0 (inr refl)),
    )

pub branch_past : (count : ℕ) (end : End) (condition : Cond) (one other : BlockId) →
    end ≡ Branch condition one other → count ≤ one.0 →
    (IsTrue (nat_lt one.0 count) ↔ TargetsBelow count end)
branch_past count end condition one other is first =
    subst (λ e. IsTrue (nat_lt one.0 count) ↔ TargetsBelow count e) (sym is) (
      λ yes. absurd (let h = ltb-true one.0 count yes in omega arith),
      λ below. absurd (let h : one.0 < count = below one.0 (inl refl) in omega arith),
    )

-- ---- all tests

both : (a b : Bool) → (a && b) ≡ true → (a ≡ true) × (b ≡ true)
both true b is = (refl, is)
both false b is = cc

made : (a b : Bool) → a ≡ true → b ≡ true → (a && b) ≡ true
made true b one other = other
made false b one other = cc

-- the tests of `is_sized` together
pub all_tests : (code : VProc) (names targets cells params depths few : Bool) →
    (IsTrue names ↔ EachInstr code.blocks (NamesBelow (length code.vars))) →
    (IsTrue targets ↔ ((b t : ℕ) → b < length code.blocks →
    IsTarget (block_in code.blocks b).end t → t < length code.blocks)) →
    (IsTrue cells ↔ EachInstr code.blocks (CellsBelow code.args)) →
    (IsTrue params ↔ ((v i : ℕ) → slice_get code.vars v ≡ Some (Param i) → i < code.args)) →
    (IsTrue depths ↔ ((b : ℕ) → (block_in code.blocks b).depth ≤ most_loops)) →
    (IsTrue few ↔ (instruction_count code.blocks ≤ most_instructions)) →
    (IsTrue (list_all (λ test. test)
    (names ∷ targets ∷ cells ∷ params ∷ depths ∷ few ∷ nat_le (length code.blocks)
    most_blocks ∷ nat_le (length code.vars) most_variables ∷ nat_le code.args most_arguments ∷
    nat_le code.aggregates most_aggregates ∷ [])) ↔ IsSized code)
all_tests code names targets cells params depths few of_names of_targets of_cells of_params
    of_depths of_few = (
      λ yes.
          let t1 = both names _ yes in
          let t2 = both targets _ t1.1 in
          let t3 = both cells _ t2.1 in
          let t4 = both params _ t3.1 in
          let t5 = both depths _ t4.1 in
          let t6 = both few _ t5.1 in
          let t7 = both (nat_le (length code.blocks) most_blocks) _ t6.1 in
          let t8 = both (nat_le (length code.vars) most_variables) _ t7.1 in
          let t9 = both (nat_le code.args most_arguments) _ t8.1 in
          let t10 = both (nat_le code.aggregates most_aggregates) _ t9.1 in
          record {
            variables_in_range = of_names.0 t1.0;
            targets_in_range = of_targets.0 t2.0;
            cells_in_range = of_cells.0 t3.0;
            params_in_range = of_params.0 t4.0;
            depths = of_depths.0 t5.0;
            instructions = of_few.0 t6.0;
            blocks = leb-true _ _ t7.0;
            variables = leb-true _ _ t8.0;
            args = leb-true _ _ t9.0;
            aggregates = leb-true _ _ t10.0;
          },
      λ sized.
          made names _ (of_names.1 sized.variables_in_range)
          (made targets _ (of_targets.1 sized.targets_in_range)
          (made cells _ (of_cells.1 sized.cells_in_range)
          (made params _ (of_params.1 sized.params_in_range)
          (made depths _ (of_depths.1 sized.depths)
          (made few _ (of_few.1 sized.instructions)
          (made _ _ (le-leb (length code.blocks) most_blocks sized.blocks)
          (made _ _ (le-leb (length code.vars) most_variables sized.variables)
          (made _ _ (le-leb code.args most_arguments sized.args)
          (made _ _ (le-leb code.aggregates most_aggregates sized.aggregates) refl))))))))),
    )
