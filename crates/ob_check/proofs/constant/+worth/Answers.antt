use Rattle.std.proofs.Common.{sym, ◌∙◌, ap, arith}
use Rattle.ob_syntax.specs.Types.{worth, worth_of_both}
use Rattle.ob_check.specs.declared.constant.Pending.TheVariants.{Negate, Not, Operate}
use Rattle.ob_check.specs.Pending.{all_applied}
use Rattle.ob_check.proofs.Pendings.{behind, none_stays}
use Rattle.ob_check.proofs.Worths.{operators, operators-Negate, operators-Not, operators-Binary}
use Rattle.ob_check.proofs.Worths.{worth-Var, worth-Negate, worth-Not, worth-Binary}
use Rattle.ob_check.proofs.constant.+worth.Goals as goal

pub returns-in-Var : goal.returns-in-Var
returns-in-Var t c =
    sym (none_stays c.loop-left.pending.items)
    ∙ ap (all_applied c.loop-left.pending.items)
    (sym (ap worth c.in-Var.is ∙ worth-Var c.in-Var.field-0))
    ∙ c.loop-left.invariant.same

pub loop-left-preserved-in-Negate : goal.loop-left-preserved-in-Negate
loop-left-preserved-in-Negate t c = record {
  same =
      rw c.get-left.ensures
      (behind c.loop-left.pending.items c.push.new.self.items Negate (worth c.loop-left.left.now)
      (worth c.in-Negate.inner) (worth c.args.expr.now) c.loop-left.invariant.same
      (ap worth c.in-Negate.is ∙ worth-Negate c.in-Negate.inner)
      c.in_ok-push-in-Negate.ensures.items);
  no_more =
      omega (
        arith,
        c.loop-left.invariant.no_more,
        ap operators c.get-left.ensures,
        ap operators c.in-Negate.is,
        operators-Negate c.in-Negate.inner,
      );
}

pub loop-left-preserved-in-Not : goal.loop-left-preserved-in-Not
loop-left-preserved-in-Not t c = record {
  same =
      rw c.get-left-in-Not.ensures
      (behind c.loop-left.pending.items c.push-in-Not.new.self.items Not
      (worth c.loop-left.left.now) (worth c.in-Not.inner) (worth c.args.expr.now)
      c.loop-left.invariant.same (ap worth c.in-Not.is ∙ worth-Not c.in-Not.inner)
      c.in_ok-push-in-Not.ensures.items);
  no_more =
      omega (
        arith,
        c.loop-left.invariant.no_more,
        ap operators c.get-left-in-Not.ensures,
        ap operators c.in-Not.is,
        operators-Not c.in-Not.inner,
      );
}

pub loop-left-preserved : goal.loop-left-preserved
loop-left-preserved t c =
    let here = c.in-Binary in
    let right = c.in_ok-right-in-Binary in record {
      same =
          rw c.get-left-in-Binary.ensures
          (behind c.loop-left.pending.items c.push-in-Binary.new.self.items
          (Operate here.op right.right) (worth c.loop-left.left.now) (worth here.first)
          (worth c.args.expr.now) c.loop-left.invariant.same
          (ap worth here.is ∙ worth-Binary here.op here.first here.right
          ∙ ap (λ w. worth_of_both here.op (worth here.first) w)
          (ap worth (sym c.get.ensures) ∙ sym right.ensures))
          c.in_ok-push-in-Binary.ensures.items);
      no_more =
          omega (
            arith,
            c.loop-left.invariant.no_more,
            ap operators c.get-left-in-Binary.ensures,
            ap operators here.is,
            operators-Binary here.op here.first here.right,
          );
    }

pub worth-requires : goal.worth-requires
worth-requires t c =
    let here = c.in-Binary in (
      omega (
        arith,
        c.decreases,
        c.loop-left.invariant.no_more,
        ap operators c.get.ensures,
        ap operators here.is,
        operators-Binary here.op here.first here.right,
      ),
      tt,
    )
