use Rattle.std.proofs.Common.{◌≤◌, Some, sym, subst, arith}
use Rattle.pra_base.specs.Words.{word, signed}
use Rattle.vc_expr.proofs.Added.{same_valid}
use Rattle.vc_expr.proofs.Counting.{adds_none, adds_more}
use Rattle.vc_select.specs.Certified.{ReadsTarget}
use Rattle.vc_select.specs.Targets.{above_target_base}
use Rattle.vc_select.specs.declared.target.Target.{Target}
use Rattle.vc_select.specs.declared.target.Target.TheVariants.{Var, Memory}
use Rattle.vc_select.proofs.ReadyTargets.{target_variable, target_indexed}
use Rattle.vc_select.proofs.element.indexed.Goals as goal

pub returns-in-Var-clause-counts : goal.returns-in-Var-clause-counts
returns-in-Var-clause-counts c = adds_more 0 0 0 0 5 2 1 0 c.args.code.now c.args.code.now
    (omega arith) (omega arith) (omega arith) (omega arith) (adds_none c.args.code.now)

pub returns-in-Var-clause-valid : goal.returns-in-Var-clause-valid
returns-in-Var-clause-valid c = same_valid c.args.code.now

pub returns-in-Var-clause-reads : goal.returns-in-Var-clause-reads
returns-in-Var-clause-reads c = λ low.
    subst (λ (t : Target). ReadsTarget c.args.first c.args.at.0 c.args.code.now c.args.code.now t
    c.args.index.variable.0 (Var c.in-Var.v)) (sym c.in-Var.is)
    (target_variable c.args.first c.args.at.0 c.args.code.now c.in-Var.v c.args.index.variable.0)

pub returns-in_ok-index-in-Memory-clause-reads : goal.returns-in_ok-index-in-Memory-clause-reads
returns-in_ok-index-in-Memory-clause-reads c = λ low.
    let a = c.in-Memory.address in
    let u = c.in_ok-index-in-Memory.index in
    subst (λ (t : Target). ReadsTarget c.args.first c.args.at.0 c.args.code.now
    c.select_index.new.code t c.args.index.variable.0
    (Memory (record { base = a.base; offset = signed (word a.offset); index = Some u })))
    (sym c.in-Memory.is)
    (target_indexed c.args.first c.args.at.0 c.args.code.now c.select_index.new.code a
    (signed (word a.offset)) c.args.index.variable.0 u
    (subst (λ (t : Target). above_target_base t ≤ c.args.first) c.in-Memory.is low)
    c.in_ok-index-in-Memory.ensures.reads)
