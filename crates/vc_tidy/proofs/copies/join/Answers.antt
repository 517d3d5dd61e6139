use Rattle.std.proofs.Common.{◌<◌, ℕ, List, refl, sym, ap₂, subst, ◌∙◌}
use Rattle.pra_base.specs.declared.code.VarKind.{VarKind}
use Rattle.pra_base.specs.declared.code.VProc.{VProc}
use Rattle.pra_base.specs.Valid.{instruction_count}
use Rattle.vc_same.specs.SameRuns.{Preserves}
use Rattle.vc_tidy.specs.Joined.{joined_code}
use Rattle.vc_tidy.specs.KindCounts.{KeepsKinds}
use Rattle.vc_tidy.proofs.Joining.{code_less}
use Rattle.vc_tidy.proofs.Grouped.{found_preserves}
use Rattle.vc_tidy.proofs.KeptKinds.{same_kinds}
use Rattle.vc_tidy.proofs.copies.join.Goals as goal

pub returns : goal.returns
returns c =
    let code = c.args.code.now in
    let found = rw c.in-Some.is at c.in_ok-names.ensures in
    let made = found_preserves code c.in-Some.names.items c.requires.is_valid c.requires.is_sized
    found in
    let less = code_less code c.in-Some.names.items code.vars found.some in
    subst (λ (n : VProc). Preserves code n × KeepsKinds code n ×
    (instruction_count n.blocks < instruction_count code.blocks))
    (sym (c.in_ok-new.ensures ∙ ap₂ (λ (ns : List ℕ) (vs : List VarKind). joined_code ns vs code)
    c.as_slice-2.ensures.value (c.in_ok-vars.ensures ∙ c.as_slice.ensures)))
    (made, same_kinds code (joined_code c.in-Some.names.items code.vars code) refl, less)
