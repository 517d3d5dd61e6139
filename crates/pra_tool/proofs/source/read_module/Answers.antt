use Rattle.pra_tool.proofs.CodeReads.{module_source}
use Rattle.pra_tool.proofs.Sources.{selectable_of, nodes_of}
use Rattle.pra_tool.proofs.source.read_module.Goals as goal

pub code_of_module-requires-clause-selectable : goal.code_of_module-requires-clause-selectable
code_of_module-requires-clause-selectable c =
    selectable_of c.args.bytes.now c.in-Ok.checked c.in-Ok.ensures.module

pub code_of_module-requires-clause-nodes : goal.code_of_module-requires-clause-nodes
code_of_module-requires-clause-nodes c =
    nodes_of c.args.bytes.now c.in-Ok.checked c.in-Ok.ensures.module

pub returns-clause-sourced : goal.returns-clause-sourced
returns-clause-sourced c =
    module_source c.args.bytes.now c.in-Ok.checked c.in_ok-file.file c.in-Ok.ensures.module
    c.in_ok-file.ensures
