-- The code at whose end statements are selected, and the instructions in it.
use Rattle.std.proofs.Common.{◌≡◌, ℕ, zero, suc, ◌+◌, ◌-◌, ◌<◌, ◌≤◌, List, [], ◌∷◌, ◌++◌, length}
use Rattle.std.proofs.Common.{Some, refl, sym, ap, ◌∙◌, arith, append_assoc}
use Rattle.std.specs.Prelude.{pos, slice_get, count_by}
use Rattle.pra_list.proofs.Options.{none_some, some_same}
use Rattle.pra_base.specs.declared.ids.ProcId.{ProcId}
use Rattle.pra_base.specs.declared.code.Block.{Block}
use Rattle.pra_base.specs.declared.code.VInstr.{VInstr}
use Rattle.pra_base.specs.declared.code.VInstr.TheVariants.{Set}
use Rattle.pra_base.specs.declared.code.VarKind.{VarKind}
use Rattle.pra_base.specs.declared.code.VProc.{VProc}
use Rattle.ob_syntax.specs.declared.checked.CheckedProc.{CheckedProc}
use Rattle.vc_build.specs.Grow.{stand_in}
use Rattle.vc_relation.specs.Homes.{in_variable, local_in_variable}
use Rattle.vc_proc.specs.Opening.{param_kinds, home_kinds, zeros, clearing, opening, opened}
use Rattle.vc_proc.proofs.HomeVariables.{params_length, kinds_length}

abbrev pub zero_at : ℕ → VInstr
zero_at v = Set (record { 0 = v }) (pos 0)

-- ---- the loop that makes them

pub zeros_more : (done whole : List VInstr) (v end : ℕ) → v < end → done ++ zeros v (end - v) ≡
    whole → (done ++ zero_at v ∷ []) ++ zeros (v + 1) (end - (v + 1)) ≡ whole
zeros_more done whole v end lt e =
    let count : end - v ≡ suc (end - (v + 1)) = omega (arith, lt) in
    append_assoc done (zero_at v ∷ []) (zeros (v + 1) (end - (v + 1)))
    ∙ ap (λ n. done ++ zeros v n) (sym count)
    ∙ e

-- ---- the whole

abbrev pub entry_block : List VInstr → Block
entry_block code = record { depth = 0; code = code; end = stand_in }

abbrev pub with_blocks : ProcId → ℕ → ℕ → List VarKind → List Block → VProc
with_blocks id args aggregates vars blocks =
    record { id = id; args = args; aggregates = aggregates; vars = vars; blocks = blocks }

module _ (id : ProcId) (proc : CheckedProc) (args : ℕ) (vars : List VarKind) (code : List VInstr)
    (first end : ℕ) where
  pub opened_is : args ≡ length proc.params → vars ≡ home_kinds proc →
      first ≡ length (param_kinds 0 proc.params) → end ≡ length vars →
      code ≡ clearing proc.aggregate_words ++ zeros first (end - first) →
      with_blocks id args proc.aggregate_words vars (entry_block code ∷ []) ≡ opened id.0 proc
  opened_is args_are vars_are first_is end_is code_is =
      let many : length vars ≡ length (home_kinds proc) = ap (λ vs. length vs) vars_are in
      let first_of : first ≡ count_by in_variable proc.params =
      omega (arith, first_is, params_length 0 proc.params) in
      let count : end - first ≡ count_by local_in_variable proc.locals =
      omega (arith, end_is, many, first_of, kinds_length proc) in
      let is : code ≡ opening proc =
      code_is ∙ ap (λ n. clearing proc.aggregate_words ++ zeros first n) count
      ∙ ap (λ n. clearing proc.aggregate_words ++ zeros n (count_by local_in_variable proc.locals))
      first_of in
      ap (λ n. with_blocks id n proc.aggregate_words vars (entry_block code ∷ [])) args_are
      ∙ ap (λ vs. with_blocks id (length proc.params) proc.aggregate_words vs
      (entry_block code ∷ [])) vars_are
      ∙ ap (λ instrs. with_blocks id (length proc.params) proc.aggregate_words (home_kinds proc)
      (entry_block instrs ∷ [])) is

-- ---- what stands there

pub zeros_length : (v n : ℕ) → length (zeros v n) ≡ n
zeros_length v zero = refl
zeros_length v (suc n) = omega (arith, zeros_length (v + 1) n)

pub zeros_there : (v n j : ℕ) → j < n → slice_get (zeros v n) j ≡ Some (zero_at (v + j))
zeros_there v zero j lt = absurd (omega (arith, lt))
zeros_there v (suc n) zero lt = let same : v ≡ v + 0 = omega arith in
    ap (λ u. Some (zero_at u)) same
zeros_there v (suc n) (suc j) lt =
    let same : v + 1 + j ≡ v + suc j = omega arith in
    zeros_there (v + 1) n j (omega (arith, lt)) ∙ ap (λ u. Some (zero_at u)) same

-- an instruction of the list sets a variable of the range to 0
pub record IsZero (v n : ℕ) (i : VInstr) : Type 0 where
  pub variable : ℕ
  pub above : v ≤ variable
  pub below : variable < v + n
  pub is : i ≡ zero_at variable

pub zeros_only : (v n j : ℕ) (i : VInstr) → slice_get (zeros v n) j ≡ Some i → IsZero v n i
zeros_only v zero j i e = absurd (none_some e)
zeros_only v (suc n) zero i e =
    record {
      variable = v;
      above = omega arith;
      below = omega arith;
      is =
          sym (some_same (zero_at v) i e);
    }
zeros_only v (suc n) (suc j) i e =
    let z = zeros_only (v + 1) n j i e in
    record {
      variable = z.variable;
      above = omega (arith, z.above);
      below = omega (arith, z.below);
      is = z.is;
    }
