use Rattle.std.proofs.Common.{◌≡◌, ◌≢◌, ◌<◌, ℕ, Some, List, [], length, true≢false, refl, sym}
use Rattle.std.proofs.Common.{subst, arith}
use Rattle.std.specs.List.{slice_get}
use Rattle.pra_base.specs.declared.code.VarKind.{VarKind}
use Rattle.pra_base.specs.declared.code.VarKind.TheVariants.{Param}
use Rattle.pra_base.specs.declared.code.VInstr.TheVariants.{Clear}
use Rattle.pra_base.specs.declared.code.Block.{Block}
use Rattle.pra_base.specs.Code.{block_in}
use Rattle.vc_live.proofs.SizedLemmas.{refused_by}
use Rattle.vc_valid.specs.Rules.{KeepsBlock}
use Rattle.vc_valid.proofs.Together.{filled, valid, blocks_of, clear_of, rules_of}
use Rattle.vc_valid.proofs.whole.is_valid.Goals as goal

pub returns-then-not-keep_blocks : goal.returns-then-not-keep_blocks
returns-then-not-keep_blocks c = refused_by c.if-not-keep_blocks.ensures (λ is.
    subst (λ (bs : List Block). (b : ℕ) → b < length bs → KeepsBlock (length bs) b (block_in bs b))
    (sym c.as_slice-blocks.ensures) (blocks_of c.args.code.now is))

pub returns-then-not-has_clear : goal.returns-then-not-has_clear
returns-then-not-has_clear c = refused_by c.if-not-has_clear.ensures (λ is.
    subst (λ (bs : List Block). c.args.code.now.aggregates ≢ 0 → slice_get (block_in bs 0).code 0 ≡
    Some Clear) (sym c.as_slice-blocks.ensures) (clear_of c.args.code.now is))

pub returns-then-not-are_params_apart : goal.returns-then-not-are_params_apart
returns-then-not-are_params_apart c = refused_by c.if-not-are_params_apart.ensures (λ is.
    subst (λ (vars : List VarKind). (v w i : ℕ) → slice_get vars v ≡ Some (Param i) →
    slice_get vars w ≡ Some (Param i) → v ≡ w) (sym c.as_slice.ensures)
    is.arguments_apart.params)

pub returns : goal.returns
returns c =
    let code = c.args.code.now in (
      λ yes.
          valid code (filled code.blocks (λ none. true≢false (sym (c.if-is_empty.ensures.1 none))))
          (subst (λ (bs : List Block). (b : ℕ) → b < length bs →
          KeepsBlock (length bs) b (block_in bs b)) c.as_slice-blocks.ensures
          (c.if-not-keep_blocks.ensures.0 refl))
          (subst (λ (bs : List Block). code.aggregates ≢ 0 → slice_get (block_in bs 0).code 0 ≡
          Some Clear) c.as_slice-blocks.ensures (c.if-not-has_clear.ensures.0 refl))
          (subst (λ (vars : List VarKind). (v w i : ℕ) → slice_get vars v ≡ Some (Param i) →
          slice_get vars w ≡ Some (Param i) → v ≡ w) c.as_slice.ensures
          (c.if-not-are_params_apart.ensures.0 refl))
          (c.if-not-are_params_live.ensures.0 refl)
          (c.keep_rules.ensures.0 yes),
      λ is. c.keep_rules.ensures.1 (rules_of code is),
    )
