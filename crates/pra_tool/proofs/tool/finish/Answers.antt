use Rattle.pra_tool.specs.declared.tool.Then.TheVariants.{Run, Write, Interpret, Certify}
use Rattle.pra_words.specs.Written.{asked_by}
use Rattle.pra_tool.specs.Outside.{stream_seen}
use Rattle.pra_tool.proofs.CompiledEnds.{ends_by}
use Rattle.pra_tool.proofs.tool.finish.Goals as goal

pub returns-in-Run-clause-ends : goal.returns-in-Run-clause-ends
returns-in-Run-clause-ends g c = λ source made.
    ends_by Run c.args.then (asked_by c.args.request.now) source _ _ _ c.in-Run.is
    (c.run_compiled.ensures source made)

pub returns-in-Write-clause-ends : goal.returns-in-Write-clause-ends
returns-in-Write-clause-ends g c = λ source made.
    ends_by Write c.args.then (asked_by c.args.request.now) source _ _ _ c.in-Write.is
    (c.write_compiled.ensures source
    (stream_seen g.I.Source.left g.I.Source.faults c.args.input.now) made)

pub returns-in-Interpret-clause-ends : goal.returns-in-Interpret-clause-ends
returns-in-Interpret-clause-ends g c = λ source made.
    ends_by Interpret c.args.then (asked_by c.args.request.now) source _ _ _ c.in-Interpret.is
    (c.interpret_made.ensures source made)

pub returns-in-Certify-clause-ends : goal.returns-in-Certify-clause-ends
returns-in-Certify-clause-ends g c = λ source made.
    ends_by Certify c.args.then (asked_by c.args.request.now) source _ _ _ c.in-Certify.is
    (c.certify_made.ensures source
    (stream_seen g.I.Source.left g.I.Source.faults c.args.input.now) made)
