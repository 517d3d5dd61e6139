-- How much the code has at whose end statements are selected, and how much there may be.
use Rattle.std.proofs.Common.{◌≡◌, ℕ, ◌+◌, ◌≤◌, Bool, true, false, not, cond, ⊎_elim, List, [], ◌∷◌}
use Rattle.std.proofs.Common.{length, Some, refl, ap, arith, length-append}
use Rattle.std.specs.Prelude.{slice_get, count_by, nat_eq, ◌||◌, if◌then◌else◌}
use Rattle.std.proofs.lemmas.List.Sums.{sum_by-append, sum_by-cons, count_by-le-length}
use Rattle.pra_list.proofs.Counts.{count-cons}
use Rattle.pra_base.specs.Code.{is_plain}
use Rattle.pra_base.specs.Valid.{instruction_count}
use Rattle.pra_base.specs.declared.code.Block.{Block}
use Rattle.pra_base.specs.declared.code.VInstr.TheVariants.{Clear}
use Rattle.pra_base.specs.declared.code.VarKind.{VarKind}
use Rattle.pra_base.specs.declared.code.VarKind.TheVariants.{Param, Plain, Constant}
use Rattle.ob_syntax.specs.WellFormed.{is_scalar}
use Rattle.ob_syntax.specs.declared.checked.CheckedProc.{CheckedProc}
use Rattle.ob_syntax.specs.declared.checked.Local.{Local}
use Rattle.vc_expr.specs.Readable.{is_constant}
use Rattle.vc_relation.specs.Homes.{in_variable, local_in_variable}
use Rattle.vc_typed.specs.TypedModules.{scalar_locals}
use Rattle.vc_proc.specs.Opening.{param_kinds, local_kinds, home_kinds, clearing, zeros, opening}
use Rattle.vc_proc.specs.Opening.{opened}
use Rattle.vc_proc.proofs.Gets.{bits, count_within}
use Rattle.vc_proc.proofs.HomeVariables.{params_length, locals_length, FromParam, FromLocal}
use Rattle.vc_proc.proofs.HomeVariables.{from_param, local_kind_there, kind_from}
use Rattle.vc_proc.proofs.Zeroing.{entry_block, zeros_length}

-- ---- counts of kinds

none_counted : {A : Type 0} (p : A → Bool) (xs : List A) →
    ((k : ℕ) (x : A) → slice_get xs k ≡ Some x → p x ≡ false) → count_by p xs ≤ 0
none_counted p xs none = count_within p xs [] (λ k x e is. absurd (never (p x) is (none k x e)))
  where
    never : (b : Bool) → b ≡ true → b ≡ false → ⊥
    never b t f = cc

fewer_counted : {A : Type 0} (p q : A → Bool) (xs : List A) → ((x : A) → p x ≡ true → q x ≡ true) →
    count_by p xs ≤ count_by q xs
fewer_counted p q [] h = omega arith
fewer_counted p q (x ∷ xs) h =
    omega (
      arith,
      bits (p x) (q x) (h x),
      count-cons p x xs,
      count-cons q x xs,
      fewer_counted p q xs h,
    )

-- an argument's variable
abbrev pub is_argument : VarKind → Bool
is_argument (Param i) = true
is_argument _ = false

-- each variable is of one of three kinds
pub three_kinds : (kinds : List VarKind) → length kinds ≡ count_by is_plain kinds + count_by
    is_constant kinds + count_by is_argument kinds
three_kinds [] = refl
three_kinds (Param i ∷ ks) =
    omega (
      arith,
      three_kinds ks,
      count-cons is_plain (Param i) ks,
      count-cons is_constant (Param i) ks,
      count-cons is_argument (Param i) ks,
    )
three_kinds (Plain ∷ ks) =
    omega (
      arith,
      three_kinds ks,
      count-cons is_plain Plain ks,
      count-cons is_constant Plain ks,
      count-cons is_argument Plain ks,
    )
three_kinds (Constant n ∷ ks) =
    omega (
      arith,
      three_kinds ks,
      count-cons is_plain (Constant n) ks,
      count-cons is_constant (Constant n) ks,
      count-cons is_argument (Constant n) ks,
    )

module _ (id : ℕ) (proc : CheckedProc) where
  counted : (p : VarKind → Bool) → count_by p (home_kinds proc) ≡
      count_by p (param_kinds 0 proc.params) + count_by p (local_kinds proc.locals)
  counted p = sum_by-append (λ x. cond (p x) 1 0) (param_kinds 0 proc.params)
      (local_kinds proc.locals)

  -- a local in a variable is a scalar
  scalar_in_variable : (local : Local) → local_in_variable local ≡ true → is_scalar local.type_id ≡
      true
  scalar_in_variable local e = by (is_scalar local.type_id) local.addressed e
    where
      by : (b c : Bool) → not (not b || c) ≡ true → b ≡ true
      by true c e = refl
      by false c e = cc

  pub few_locals : count_by local_in_variable proc.locals ≤ scalar_locals proc
  few_locals = fewer_counted local_in_variable (λ local. is_scalar local.type_id) proc.locals
      scalar_in_variable

  pub plain_homes : count_by is_plain (home_kinds proc) ≤ scalar_locals proc
  plain_homes =
      let params = none_counted is_plain (param_kinds 0 proc.params)
      (λ v x e. ap is_plain (from_param 0 proc.params v x e).is) in
      omega (
        arith,
        counted is_plain,
        params,
        count_by-le-length is_plain (local_kinds proc.locals),
        locals_length proc.locals,
        few_locals,
      )

  pub constant_homes : count_by is_constant (home_kinds proc) ≤ 0
  constant_homes =
      none_counted is_constant (home_kinds proc)
      (λ v x e. ⊎_elim (λ (f : FromParam 0 proc.params v x). ap is_constant f.is)
      (λ (l : FromLocal proc v x). ap is_constant l.is) (kind_from proc v x e))

  pub argument_homes : count_by is_argument (home_kinds proc) ≤ length proc.params
  argument_homes =
      let locals = none_counted is_argument (local_kinds proc.locals)
      (λ v x e. ap is_argument (local_kind_there proc.locals v x e)) in
      omega (
        arith,
        counted is_argument,
        locals,
        count_by-le-length is_argument
            (param_kinds 0 proc.params),
        params_length 0 proc.params,
        count_by-le-length in_variable proc.params,
      )

  pub few_instructions : instruction_count (opened id proc).blocks ≤ scalar_locals proc + 1
  few_instructions =
      let one = sum_by-cons (λ (b : Block). length b.code) (entry_block (opening proc)) [] in
      omega (
        arith,
        one,
        clearing_length (nat_eq proc.aggregate_words 0),
        length-append (clearing proc.aggregate_words)
            (zeros (count_by in_variable proc.params) (count_by local_in_variable proc.locals)),
        zeros_length (count_by in_variable proc.params) (count_by local_in_variable proc.locals),
        few_locals,
      )
    where
      clearing_length : (b : Bool) → length (if b then [] else Clear ∷ []) ≤ 1
      clearing_length true = omega arith
      clearing_length false = omega arith
