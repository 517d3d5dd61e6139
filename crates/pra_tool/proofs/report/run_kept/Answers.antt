use Rattle.std.proofs.Common.{ℕ, List, ap, ◌∙◌}
use Rattle.pra_base.specs.declared.code.VProc.{VProc}
use Rattle.pra_compile.specs.Compiled.{codes_of, frames_of}
use Rattle.vc_run.specs.Run.{code_run}
use Rattle.pra_tool.specs.Interpreted.{code_kept}
use Rattle.pra_tool.specs.Reports.{codes_behind}
use Rattle.pra_tool.proofs.report.run_kept.Goals as goal

pub returns : goal.returns
returns c =
    let compiled = c.args.compiled.now in
    let words = compiled.image.data_words in
    let frames = c.deref-2.result.now in
    c.in_ok-out.ensures
    ∙ ap (λ (codes : List VProc). code_run (record { procs = codes; data_words = words }) frames
    c.args.numbers.now c.args.steps)
    (ap codes_behind c.deref.ensures.value ∙ c.in_ok-codes.ensures
    ∙ ap codes_of c.as_slice-2.ensures)
    ∙ ap (λ (sizes : List ℕ). code_run (code_kept compiled) sizes c.args.numbers.now c.args.steps)
    (c.deref-2.ensures.value ∙ c.in_ok-frames.ensures ∙ ap frames_of c.as_slice.ensures)
