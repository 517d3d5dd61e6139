use Rattle.std.proofs.Common.{◌≡◌, ◌+◌, drop, map}
use Rattle.std.specs.Prelude.{sum, slice_index}
use Rattle.vc_select.proofs.parts.sum_of.Given as goal

-- the words so far, and those of what is left
abbrev pub invariant-loop-type_id : goal.invariant-loop-type_id
invariant-loop-type_id l =
    l.total + sum (map (slice_index l.words) (drop l.type_id-index l.type_ids)) ≡
    sum (map (slice_index l.words) l.type_ids)
