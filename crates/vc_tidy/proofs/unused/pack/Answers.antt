use Rattle.std.proofs.Common.{◌≡◌, ◌≢◌, ◌<◌, ◌≤◌, ℕ, List, Bool, length, sym, ap₂, subst, ◌∙◌}
use Rattle.std.proofs.Common.{arith}
use Rattle.pra_base.specs.declared.code.VarKind.{VarKind}
use Rattle.pra_base.specs.declared.code.VProc.{VProc}
use Rattle.vc_same.specs.SameRuns.{Preserves}
use Rattle.vc_tidy.specs.Joined.{joined_code}
use Rattle.vc_tidy.specs.KindCounts.{KeepsKinds}
use Rattle.vc_tidy.specs.Unused.{AreNumbers}
use Rattle.vc_tidy.proofs.Numbered.{numbered_preserves, numbered_kinds, all_used}
use Rattle.vc_tidy.proofs.unused.pack.Goals as goal

pub returns-then-len : goal.returns-then-len
returns-then-len c =
    let code = c.args.code.now in
    let numbers = subst (λ (ms : List Bool). AreNumbers code ms c.in_ok-kept.kept.names.items
    c.in_ok-kept.kept.vars.items (length code.vars)) c.as_slice.ensures.value
    c.in_ok-kept.ensures in
    let many : length c.in_ok-kept.kept.vars.items ≡ length code.vars =
    omega (arith, c.if-len.true, c.len.ensures, c.len-2.ensures) in
    all_used code c.in_ok-marks.marks.items c.in_ok-kept.kept.names.items
    c.in_ok-kept.kept.vars.items c.requires.sized c.requires.valid c.in_ok-marks.ensures numbers
    many

pub returns : goal.returns
returns c =
    let code = c.args.code.now in
    let names = c.in_ok-kept.kept.names.items in
    let vars = c.in_ok-kept.kept.vars.items in
    let numbers = subst (λ (ms : List Bool). AreNumbers code ms names vars (length code.vars))
    c.as_slice.ensures.value c.in_ok-kept.ensures in
    let few : length vars ≤ length code.vars = numbers.fewer in
    let other : length vars ≢ length code.vars =
    λ e. c.if-len.false (omega (arith, e, c.len.ensures, c.len-2.ensures)) in
    let less : length vars < length code.vars = omega (arith, few, other) in
    subst (λ (n : VProc). Preserves code n × KeepsKinds code n × (length n.vars < length code.vars))
    (sym (c.in_ok-new.ensures ∙ ap₂ (λ (ns : List ℕ) (vs : List VarKind). joined_code ns vs code)
    c.as_slice-2.ensures.value c.from_vec.ensures)) (
      numbered_preserves code c.in_ok-marks.marks.items names vars c.requires.sized c.requires.valid
          c.in_ok-marks.ensures numbers,
      numbered_kinds code c.in_ok-marks.marks.items names vars c.requires.sized c.requires.valid
          c.in_ok-marks.ensures numbers,
      less,
    )
