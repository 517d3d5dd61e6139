use Rattle.std.proofs.Common.{rules, ◌≡◌, ◌<◌, ◌≤◌, Some, length, get_or, sym, ap, subst, ◌∙◌}
use Rattle.std.proofs.Common.{arith}
use Rattle.std.specs.Prelude.{slice_get, slice_set}
use Rattle.std.proofs.lemmas.Option.{slice_get-get_or}
use Rattle.ia_emit.proofs.Tables.{in_table, one_entered, all_entered, slot_again}
use Rattle.pra_base.specs.declared.ids.VarId.{VarId}
use Rattle.ia_emit.proofs.table.table.Goals as goal

pub index_mut-requires : goal.index_mut-requires
index_mut-requires c =
    let p = c.args.proc.now in
    let k = c.loop-k.k in
    let u : VarId = get_or c.as_slice-slot-items.result.now k (record { 0 = 0 }) in
    let got : slice_get p.slots k ≡ Some u =
    ap (λ l. slice_get l k) (sym c.as_slice-slot-items.ensures)
    ∙ slice_get-get_or c.as_slice-slot-items.result.now k (record { 0 = 0 })
    c.loop-k-test.true in
    let lt : u.0 < length c.loop-k.table.items = in_table p c.requires.placed k c.loop-k.table.items
    u c.loop-k.invariant got in
    search rules

pub loop-k-preserved : goal.loop-k-preserved
loop-k-preserved c =
    let p = c.args.proc.now in
    let k = c.loop-k.k in
    let u : VarId = get_or c.as_slice-slot-items.result.now k (record { 0 = 0 }) in
    let got : slice_get p.slots k ≡ Some u =
    ap (λ l. slice_get l k) (sym c.as_slice-slot-items.ensures)
    ∙ slice_get-get_or c.as_slice-slot-items.result.now k (record { 0 = 0 })
    c.loop-k-test.true in
    let below : k < length p.slots = subst (λ l. k < length l) c.as_slice-slot-items.ensures
    c.loop-k-test.true in
    one_entered p c.requires.placed k c.loop-k.table.items _ u c.loop-k.invariant got
    (ap (slice_set c.loop-k.table.items u.0)
    (slot_again k c.slot_at.result (omega (arith, below, c.requires.small.slots))
    c.slot_at.ensures))

pub returns : goal.returns
returns c =
    all_entered c.args.proc.now c.requires.placed c.loop-k.k c.loop-k.table.items
    (subst (λ l. length l ≤ c.loop-k.k) c.as_slice-slot-items.ensures c.loop-k-test.false)
    c.loop-k.invariant
