-- The masks of a run, as the sweep over a block makes them.
use Rattle.std.specs.Prelude.{ℕ, if◌then◌else◌, List, map, Option, Some, None}
use Rattle.std.specs.List.{range_with_len}
use Rattle.pra_base.specs.declared.code.VProc.{VProc}
use Rattle.net_form.specs.Strands.{Lives, is_present, run_from, mask_at}
use Rattle.net_form.specs.Tables.{all_tables}

-- where a variable may be at each layer of the run that begins at layer l
abbrev pub run_masks : VProc → Lives → ℕ → ℕ → ℕ → List ℕ
run_masks code live v b l =
    map (mask_at all_tables code live v b) (range_with_len l (run_from all_tables code live v b l))

-- where it may be at a layer, if it is present there
abbrev pub present_mask : VProc → Lives → ℕ → ℕ → ℕ → Option ℕ
present_mask code live v b l =
    if is_present all_tables code live v b l then Some (mask_at all_tables code live v b l)
    else None
