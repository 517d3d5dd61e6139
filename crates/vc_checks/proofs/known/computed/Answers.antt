use Rattle.std.proofs.Common.{ℕ, Some, ap, sym, subst, ◌∙◌}
use Rattle.std.specs.Prelude.{bit_and}
use Rattle.pra_base.specs.Code.{kind_of}
use Rattle.pra_base.specs.Words.{sum32, diff32}
use Rattle.pra_base.specs.declared.ids.VarId.{VarId}
use Rattle.pra_base.specs.declared.code.VInstr.TheVariants as instr
use Rattle.vc_code.specs.declared.value.Value.TheVariants.{Num}
use Rattle.vc_checks.specs.declared.fact.Fact.{Fact}
use Rattle.vc_checks.specs.Facts.{Bounds, IsBetween}
use Rattle.vc_checks.proofs.Knowing.{both_known, computed_tells, second_known}
use Rattle.vc_checks.proofs.known.computed.Goals.{in-Add+in_ok-one-in-Add+in_ok-fact-in-Add}
use Rattle.vc_checks.proofs.known.computed.Goals.{in-Sub+in_ok-one-in-Sub+in_ok-fact-in-Sub}
use Rattle.vc_checks.proofs.known.computed.Goals.{in-And+in_ok-other-in-And+in_ok-fact-in-And}
use Rattle.vc_checks.proofs.known.computed.Goals as goal

pub returns : goal.returns
returns c =
    let kind = kind_of c.args.code.now in
    let known = c.args.known.now in
    let fact = c.match-instr.fact in
    elim c.match-instr.branch [
      | in-Add+in_ok-one-in-Add+in_ok-fact-in-Add w ↦
          let v = w.in-Add.v in
          let s = w.in-Add.s in
          let knows = w.in_ok-one-in-Add.ensures in
          let found = w.in_ok-fact-in-Add.ensures in
          rw w.in-Add.is (computed_tells kind known sum32 (instr.Add v s) v.0 s.0 fact
          c.changing.result (λ held new passes. passes.tells)
          (both_known kind known sum32 v.0 s.0
          w.in_ok-one-in-Add.one w.in_ok-one-in-Add.other fact knows.0 knows.1
          (subst (λ (f : Fact). Bounds sum32 w.in_ok-one-in-Add.one w.in_ok-one-in-Add.other f)
          (sym w.fact-is) found.1))
          (ap (λ (f : Fact). f.var.0) w.fact-is ∙ ap (λ (x : VarId). x.0) found.0)
          c.changing.ensures.is c.changing.ensures.changes)
      | in-Sub+in_ok-one-in-Sub+in_ok-fact-in-Sub w ↦
          let v = w.in-Sub.v in
          let s = w.in-Sub.s in
          let knows = w.in_ok-one-in-Sub.ensures in
          let found = w.in_ok-fact-in-Sub.ensures in
          rw w.in-Sub.is (computed_tells kind known diff32 (instr.Sub v s) v.0 s.0 fact
          c.changing.result (λ held new passes. passes.tells)
          (both_known kind known diff32 v.0 s.0
          w.in_ok-one-in-Sub.one w.in_ok-one-in-Sub.other fact knows.0 knows.1
          (subst (λ (f : Fact). Bounds diff32 w.in_ok-one-in-Sub.one w.in_ok-one-in-Sub.other f)
          (sym w.fact-is) found.1))
          (ap (λ (f : Fact). f.var.0) w.fact-is ∙ ap (λ (x : VarId). x.0) found.0)
          c.changing.ensures.is c.changing.ensures.changes)
      | in-And+in_ok-other-in-And+in_ok-fact-in-And w ↦
          let v = w.in-And.v in
          let s = w.in-And.s in
          let knows = w.in_ok-other-in-And.ensures in
          let found = w.in_ok-fact-in-And.ensures in
          rw w.in-And.is (computed_tells kind known bit_and (instr.And v s) v.0 s.0 fact
          c.changing.result (λ held new passes. passes.tells)
          (second_known kind known bit_and v.0 s.0 w.in_ok-other-in-And.other fact knows
          (subst (λ (f : Fact). (a b : ℕ) →
          IsBetween w.in_ok-other-in-And.other.low w.in_ok-other-in-And.other.high (Some (Num b)) →
          IsBetween f.low f.high (Some (Num (bit_and a b)))) (sym w.fact-is) found.1))
          (ap (λ (f : Fact). f.var.0) w.fact-is ∙ ap (λ (x : VarId). x.0) found.0)
          c.changing.ensures.is c.changing.ensures.changes)
    ]
