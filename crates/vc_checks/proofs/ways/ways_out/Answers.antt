use Rattle.std.proofs.Common.{◌∙◌, Option, Some, None, sym, subst, true}
use Rattle.std.specs.Prelude.{IfSome}
use Rattle.pra_base.specs.Code.{kind_of}
use Rattle.vc_checks.specs.declared.ways.Comparison.{Comparison}
use Rattle.vc_checks.specs.Ways.{Compares}
use Rattle.vc_checks.proofs.Leaving.{arms, no_arms, out}
use Rattle.vc_checks.proofs.ways.ways_out.Goals.{in-Some, in-None}
use Rattle.vc_checks.proofs.ways.ways_out.Goals as goal

pub returns : goal.returns
returns c =
    let kind = kind_of c.args.code.now in
    let block = c.args.block.now in
    elim c.match-holds.branch [
      | in-Some w ↦ λ held t all goes.
          out kind held (Some w.in-Some.holds) w.failed-fails.result block.end t
          c.in_ok-one.one.items c.in_ok-other.other.items
          (arms kind block w.in-Some.holds w.failed-fails.result w.in-Some.ensures
          w.failed-fails.ensures held t goes)
          (λ h. c.in_ok-one.ensures held all (subst (λ (o : Option Comparison).
          IfSome o (λ x. Compares kind held x true)) (sym w.holds-is) h))
          (λ h. c.in_ok-other.ensures held all (subst (λ (o : Option Comparison).
          IfSome o (λ x. Compares kind held x true)) (sym w.fails-is) h))
      | in-None w ↦ λ held t all goes.
          out kind held None None block.end t c.in_ok-one.one.items c.in_ok-other.other.items
          (no_arms kind block held t goes)
          (λ h. c.in_ok-one.ensures held all (subst (λ (o : Option Comparison).
          IfSome o (λ x. Compares kind held x true)) (sym (w.holds-is ∙ w.in-None.is)) h))
          (λ h. c.in_ok-other.ensures held all (subst (λ (o : Option Comparison).
          IfSome o (λ x. Compares kind held x true)) (sym w.fails-is) h))
    ]
