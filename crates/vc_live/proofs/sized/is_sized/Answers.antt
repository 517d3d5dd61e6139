use Rattle.vc_live.proofs.SizedLemmas.{all_tests}
use Rattle.vc_live.proofs.sized.is_sized.Goals as goal

pub returns : goal.returns
returns c = rw (c.all_hold.ensures, c.as_slice-blocks.ensures, c.as_slice-vars.ensures)
    (all_tests c.args.code.now
    c.are_variables_in_range.result c.are_targets_in_range.result c.are_cells_in_range.result
    c.are_params_in_range.result c.are_depths_in_range.result c.are_instructions_few.result
    (rw (c.as_slice-blocks.ensures, c.as_slice-vars.ensures) at c.are_variables_in_range.ensures)
    (rw c.as_slice-blocks.ensures at c.are_targets_in_range.ensures)
    (rw c.as_slice-blocks.ensures at c.are_cells_in_range.ensures)
    (rw c.as_slice-vars.ensures at c.are_params_in_range.ensures)
    (rw c.as_slice-blocks.ensures at c.are_depths_in_range.ensures)
    (rw c.as_slice-blocks.ensures at c.are_instructions_few.ensures))
