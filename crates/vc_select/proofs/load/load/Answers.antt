use Rattle.std.proofs.Common.{◌≤◌, length, sym, subst, arith}
use Rattle.pra_base.specs.declared.code.VarKind.TheVariants.{Plain}
use Rattle.pra_base.specs.declared.code.VInstr.TheVariants.{Load}
use Rattle.pra_base.specs.declared.code.VProc.{VProc}
use Rattle.vc_build.specs.Grow.{with_instr, with_variable}
use Rattle.vc_select.specs.declared.target.Target.{Target}
use Rattle.vc_expr.specs.Counts.{AddsAtMost}
use Rattle.vc_expr.proofs.Counting.{adds_none, adds_more}
use Rattle.vc_select.specs.Certified.{ReadsWord}
use Rattle.vc_select.specs.Targets.{above_target}
use Rattle.vc_select.specs.declared.target.Target.TheVariants.{Memory}
use Rattle.vc_select.specs.Selects.{Loads}
use Rattle.vc_select.proofs.Loading.{loads_variable, loads_word}
use Rattle.vc_select.proofs.ReadyTargets.{word_of_variable, word_loaded, word_adds}
use Rattle.vc_select.proofs.load.load.Goals as goal

pub returns-in-Var-clause-loads : goal.returns-in-Var-clause-loads
returns-in-Var-clause-loads c =
    subst (λ (t : Target). Loads c.args.setting.now c.args.at.0 c.args.code.now c.args.code.now t
    c.in-Var.v.0) (sym c.in-Var.is)
    (loads_variable c.args.setting.now c.args.code.now c.args.at.0 c.in-Var.v c.requires.is_open)

pub returns-in_ok-v-in-Memory-clause-loads : goal.returns-in_ok-v-in-Memory-clause-loads
returns-in_ok-v-in-Memory-clause-loads c =
    let g = c.args.setting.now in
    let old = c.args.code.now in
    let v = c.in_ok-v-in-Memory.v in
    let made = with_instr c.args.at.0 (Load v c.in-Memory.address) (with_variable Plain old) in
    subst (λ (z : VProc). Loads g c.args.at.0 old z c.args.target v.0)
    (sym c.in_ok-v-in-Memory.ensures.made)
    (subst (λ (t : Target). Loads g c.args.at.0 old made t v.0) (sym c.in-Memory.is)
    (loads_word g old c.args.at.0 c.in-Memory.address v c.requires.is_open
    c.in_ok-v-in-Memory.ensures.number))

pub returns-in-Var-clause-counts : goal.returns-in-Var-clause-counts
returns-in-Var-clause-counts c = adds_more 0 0 0 0 1 1 0 0 c.args.code.now c.args.code.now
    (omega arith) (omega arith) (omega arith) (omega arith) (adds_none c.args.code.now)

pub returns-in-Var-clause-reads : goal.returns-in-Var-clause-reads
returns-in-Var-clause-reads c =
    subst (λ (t : Target). ReadsWord c.args.at.0 c.args.code.now c.args.code.now t c.in-Var.v.0)
    (sym c.in-Var.is) (word_of_variable c.args.at.0 c.args.code.now c.in-Var.v)

pub returns-in_ok-v-in-Memory-clause-counts : goal.returns-in_ok-v-in-Memory-clause-counts
returns-in_ok-v-in-Memory-clause-counts c =
    let low : above_target (Memory c.in-Memory.address) ≤ length c.args.code.now.vars =
    subst (λ (t : Target). above_target t ≤ length c.args.code.now.vars) c.in-Memory.is
    c.requires.named in
    subst (λ (z : VProc). AddsAtMost 1 1 0 0 c.args.code.now z)
    (sym c.in_ok-v-in-Memory.ensures.made)
    (word_adds c.args.at.0 c.args.code.now c.in_ok-v-in-Memory.v c.in-Memory.address
    c.requires.is_open c.in_ok-v-in-Memory.ensures.number low)

pub returns-in_ok-v-in-Memory-clause-reads : goal.returns-in_ok-v-in-Memory-clause-reads
returns-in_ok-v-in-Memory-clause-reads c =
    let old = c.args.code.now in
    let v = c.in_ok-v-in-Memory.v in
    let made = with_instr c.args.at.0 (Load v c.in-Memory.address) (with_variable Plain old) in
    let low : above_target (Memory c.in-Memory.address) ≤ length old.vars =
    subst (λ (t : Target). above_target t ≤ length old.vars) c.in-Memory.is c.requires.named in
    subst (λ (z : VProc). ReadsWord c.args.at.0 old z c.args.target v.0)
    (sym c.in_ok-v-in-Memory.ensures.made)
    (subst (λ (t : Target). ReadsWord c.args.at.0 old made t v.0) (sym c.in-Memory.is)
    (word_loaded c.args.at.0 old v c.in-Memory.address c.requires.is_open
    c.in_ok-v-in-Memory.ensures.number low))
