-- The rules of instructions, of blocks and of the whole, together.
use Rattle.std.proofs.Common.{◌≡◌, ◌≢◌, ℕ, ◌<◌, ◌≤◌, ◌⊎◌, inl, inr, true, true≢false, nat_eq}
use Rattle.std.proofs.Common.{Option, Some, None, List, [], ◌∷◌, length, refl, sym, ap, ◌∙◌, subst}
use Rattle.std.proofs.Common.{arith}
use Rattle.std.proofs.lemmas.Bool.{cases_lt}
use Rattle.std.proofs.lemmas.List.{get_or_past}
use Rattle.std.specs.List.{slice_get}
use Rattle.std.proofs.lemmas.Option.{slice_get-get_or, slice_get_within}
use Rattle.pra_list.proofs.Options.{some_same}
use Rattle.pra_base.specs.declared.code.VarKind.{VarKind}
use Rattle.pra_base.specs.declared.code.VarKind.TheVariants.{Param, Plain, Constant}
use Rattle.pra_base.specs.declared.code.VInstr.{VInstr}
use Rattle.pra_base.specs.declared.code.VInstr.TheVariants.{Clear, DivMod}
use Rattle.pra_base.specs.declared.code.Block.{Block}
use Rattle.pra_base.specs.declared.code.VProc.{VProc}
use Rattle.pra_base.specs.Code.{no_block, block_in, instr_at, kind_of}
use Rattle.pra_base.specs.Operands.{reads}
use Rattle.pra_base.specs.Live.{LiveAs, ReadBeforeWritten, reads_at, passes}
use Rattle.pra_base.specs.declared.code.End.TheVariants.{Jump, Branch}
use Rattle.pra_base.specs.Valid.{IsSized, IsValid, LiveAtEntry, EndsWithCmp, CmpBeforeBranch}
use Rattle.pra_base.specs.Valid.{PushesLead, PushesBeforeCalls, TakesAny, ClearFirst, ConstantsKept}
use Rattle.pra_base.specs.Valid.{KeepsConstant}
use Rattle.vc_live.specs.declared.liveness.Liveness.{Liveness}
use Rattle.vc_live.specs.Rows.{live_at, IsLiveness}
use Rattle.vc_valid.specs.Rules.{KeepsRules, KeepsBlock}

pub filled : {A : Type 0} (xs : List A) → (xs ≡ [] → ⊥) → 0 < length xs
filled [] some = absurd (some refl)
filled (x ∷ xs) some = omega arith

module _ (code : VProc) where
  there : (v : ℕ) → v < length code.vars → slice_get code.vars v ≡ Some (kind_of code v)
  there v lt = slice_get-get_or code.vars v Plain lt

  kind_at : (v : ℕ) (kind : VarKind) → slice_get code.vars v ≡ Some kind → kind_of code v ≡ kind
  kind_at v kind at = some_same (kind_of code v) kind
      (sym (there v (slice_get_within code.vars v kind at)) ∙ at)

  module _ (sized : IsSized code) (live : Liveness) (exact : IsLiveness code live)
      (some : 0 < length code.blocks) where
    read_there : (v b k : ℕ) → reads_at code v (record { block = b; index = k }) ≡ true →
        v < length code.vars
    read_there v b k read = by (instr_at code b k) refl read
      where
        by : (o : Option VInstr) → instr_at code b k ≡ o → passes (λ i. reads i v) o ≡ true →
            v < length code.vars
        by None at is = absurd (true≢false (sym is))
        by (Some i) at is = sized.variables_in_range b k i at v (inl is)

    pub only_params : ((v : ℕ) (kind : VarKind) → slice_get code.vars v ≡ Some kind →
        live_at live v 0 0 ≡ true → (i : ℕ) × (kind ≡ Param i)) → LiveAtEntry code
    only_params each v lives = by (cases_lt v (length code.vars))
      where
        by : (v < length code.vars) ⊎ (length code.vars ≤ v) → (i : ℕ) × (kind_of code v ≡ Param i)
        by (inl lt) = each v (kind_of code v) (there v lt)
            ((exact.exact v 0 0 lt some (omega arith)).1 lives)
        by (inr le) =
            let r : ReadBeforeWritten code v (record { block = 0; index = 0 }) =
            subst (λ kind. LiveAs kind code v 0 0) (get_or_past code.vars v Plain le) lives in
            let lt = read_there v r.to.block r.to.index r.read in
            absurd (omega (arith, lt, le))

    -- what is live at the entry is a parameter
    pub is_param_at : LiveAtEntry code → (v : ℕ) → v < length code.vars → live_at live v 0 0 ≡
        true → (i : ℕ) × (kind_of code v ≡ Param i)
    is_param_at entry v lt is = entry v ((exact.exact v 0 0 lt some (omega arith)).0 is)

  module _ (some : 0 < length code.blocks)
      (blocks : (b : ℕ) → b < length code.blocks → KeepsBlock (length code.blocks) b
      (block_in code.blocks b))
      (clear : code.aggregates ≢ 0 → slice_get (block_in code.blocks 0).code 0 ≡ Some Clear)
      (params : (v w i : ℕ) → slice_get code.vars v ≡ Some (Param i) → slice_get code.vars w ≡
      Some (Param i) → v ≡ w)
      (entry : LiveAtEntry code)
      (rules : (b k : ℕ) (i : VInstr) → instr_at code b k ≡ Some i → KeepsRules code b k i) where
    compared : CmpBeforeBranch code.blocks
    compared b condition one other is =
        elim (cases_lt b (length code.blocks)) as (λ _. EndsWithCmp (block_in code.blocks b).code) [
          | inl lt ↦ (blocks b lt).compared condition one other is
          | inr le ↦
              let jumps : Jump (record { 0 = 0 }) ≡ Branch condition one other =
              sym (ap (λ (x : Block). x.end) (get_or_past code.blocks b no_block le)) ∙ is in
              absurd (cc)
        ]

    pushed : PushesBeforeCalls TakesAny code.blocks
    pushed b = elim (cases_lt b (length code.blocks))
        as (λ _. PushesLead TakesAny 0 (block_in code.blocks b).code) [
          | inl lt ↦ (blocks b lt).pushes
          | inr le ↦ subst (λ (x : Block). PushesLead TakesAny 0 x.code)
              (sym (get_or_past code.blocks b no_block le)) refl
        ]

    cleared : ClearFirst code.aggregates code.blocks
    cleared b k = (
      λ at. (rules b k Clear at).clear refl,
      λ first. subst (λ n. slice_get (block_in code.blocks b).code n ≡ Some Clear) (sym first.2)
          (subst (λ n. slice_get (block_in code.blocks n).code 0 ≡ Some Clear) (sym first.1)
          (clear first.0)),
    )

    kept : ConstantsKept code
    kept v n is b k i at = elim (cases_lt v (length code.vars)) as (λ _. KeepsConstant v i) [
      | inl lt ↦ (rules b k i at).constants v (n, there v lt ∙ ap Some is)
      | inr le ↦ let plain : Plain ≡ Constant n = sym (get_or_past code.vars v Plain le) ∙ is in
          absurd (cc)
    ]

    pub valid : IsValid code
    valid = record {
      entry_block = record { there = some; no_target = λ b lt. (blocks b lt).no_entry };
      block_rules = record {
        last_return = record { there = some; exactly = λ b lt. (blocks b lt).last };
        cmp_before_branch = compared;
        pushes_before_calls = pushed;
        clear_first = cleared;
        check_range = λ b k i at. (rules b k i at).range;
        shift_range = λ b k i at. (rules b k i at).shift;
      };
      roles_apart = λ b k i at. (rules b k i at).apart;
      division_apart = λ b k q r a d at. (rules b k (DivMod q r a d) at).division q r a d refl;
      constants_kept = kept;
      live_at_entry = entry;
      arguments_apart = record {
        params = params;
        cells = λ b k j at v i names is. (rules b k j at).cells v i names is;
      };
    }

  -- ---- and what valid code keeps

  pub blocks_of : IsValid code → (b : ℕ) → b < length code.blocks →
      KeepsBlock (length code.blocks) b (block_in code.blocks b)
  blocks_of valid b lt = record {
    no_entry = valid.entry_block.no_target b lt;
    last = valid.block_rules.last_return.exactly b lt;
    compared = valid.block_rules.cmp_before_branch b;
    pushes = valid.block_rules.pushes_before_calls b;
  }

  pub clear_of : IsValid code → code.aggregates ≢ 0 → slice_get (block_in code.blocks 0).code 0 ≡
      Some Clear
  clear_of valid some = (valid.block_rules.clear_first 0 0).1 (some, refl, refl)

  pub rules_of : IsValid code → (b k : ℕ) (i : VInstr) → instr_at code b k ≡ Some i →
      KeepsRules code b k i
  rules_of valid b k i at = record {
    apart = valid.roles_apart b k i at;
    constants = λ v constant. valid.constants_kept v constant.0
        (kind_at v (Constant constant.0) constant.1) b k i at;
    cells = λ v j names is. valid.arguments_apart.cells b k i at v j names is;
    division = λ q r a d is. valid.division_apart b k q r a d (at ∙ ap Some is);
    range = valid.block_rules.check_range b k i at;
    shift = valid.block_rules.shift_range b k i at;
    clear = λ is. (valid.block_rules.clear_first b k).0 (at ∙ ap Some is);
  }
