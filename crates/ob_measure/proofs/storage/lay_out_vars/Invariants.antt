-- What is laid out, with what is left, is all; and so are the words.
use Rattle.std.proofs.Common.{◌≡◌, ◌+◌, ◌++◌, drop}
use Rattle.ob_syntax.specs.WellFormed.{module_vars_from, data_words}
use Rattle.ob_measure.proofs.storage.lay_out_vars.Given as goal

abbrev pub invariant-loop-type_id : goal.invariant-loop-type_id
invariant-loop-type_id l =
    let left = drop l.type_id-index l.type_ids in
    (l.vars.items ++ module_vars_from l.types.shapes l.next left ≡ module_vars_from l.types.shapes 0
    l.type_ids)
    × (l.next + data_words l.types.shapes left ≡ data_words l.types.shapes l.type_ids)
