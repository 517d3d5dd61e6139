use Rattle.pra_words.specs.Written.{asked_by}
use Rattle.pra_tool.proofs.Sources.{totals_of}
use Rattle.pra_tool.proofs.compiler.compile_source.Goals as goal

pub returns-clause-totals : goal.returns-clause-totals
returns-clause-totals c =
    totals_of (asked_by c.args.request.now) c.args.sourced.file c.in_ok-compiled.compiled
    c.in_ok-compiled.ensures.built
