use Rattle.std.proofs.Common.{ℕ, ◌&&◌, ◌++◌, Bool, List, ap, ap₂, sym, ◌∙◌, arith}
use Rattle.pra_base.specs.Code.{is_plain, kind_of}
use Rattle.pl_place.specs.Behind.{has_slot}
use Rattle.pl_routed.specs.Routed.{routed}
use Rattle.pl_build.specs.Slots.{only_if}
use Rattle.pl_build.proofs.Marked.{filter_next}
use Rattle.pl_build.proofs.slots.slots_of.Goals as goal

pub loop-v-preserved : goal.loop-v-preserved
loop-v-preserved c =
    let code = c.args.code.now in
    let v = c.loop-v.v in
    let lt = c.loop-v-test.true in
    let all = c.len-v-end.ensures in
    c.in_ok-add_slot.ensures
    ∙ ap₂ (λ (us vs : List ℕ). us ++ vs) c.loop-v.invariant
    (ap (λ (b : Bool). only_if (is_plain (kind_of code v) && b) v)
    (c.in_ok-marks.ensures.marks v (omega (arith, lt, all))))
    ∙ sym (filter_next (has_slot (routed code c.args.net.now c.args.routes.now)) v)
