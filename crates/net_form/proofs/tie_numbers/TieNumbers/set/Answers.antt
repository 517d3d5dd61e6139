use Rattle.std.proofs.Common.{◌∙◌, ◌+◌, ◌*◌, ℕ, ℤ, pos, List, length, get_or, set, ap, sym}
use Rattle.std.proofs.Common.{arith, vec_capacity, to_z, of_z}
use Rattle.std.specs.Int.{w64}
use Rattle.std.proofs.lemmas.Int.{to_z-of_z}
use Rattle.std.proofs.lemmas.List.{set-get_or}
use Rattle.net_form.specs.Sparse.{flat}
use Rattle.net_form.proofs.SparseNumbers.{length_flat, flat_zero, same_flat, put_flat}
use Rattle.net_form.proofs.tie_numbers.TieNumbers.set.Goals as goal

pub row_at-requires : goal.row_at-requires
row_at-requires c =
    let view = ap length c.self.view_is in
    let long = length_flat c.self.inside.rows.items c.self.inside.numbers.items in
    let same = ap length c.deref.ensures.value in
    let within = c.requires.tie in
    omega (arith, view, long, same, within)

pub returns-then-row_at-eq0 : goal.returns-then-row_at-eq0
returns-then-row_at-eq0 c =
    let rows = c.self.inside.rows.items in
    let numbers = c.self.inside.numbers.items in
    let view = ap length c.self.view_is in
    let at : ℕ = 13 * c.args.tie + c.args.slot in
    let row = c.row_at.ensures
    ∙ ap (λ (xs : List ℕ). get_or xs c.args.tie 0) c.deref.ensures.value in
    sym (set-get_or c.args.self.now at (pos 0))
    ∙ ap (set c.args.self.now at)
    (ap (λ (zs : List ℤ). get_or zs at (pos 0)) (sym c.self.view_is)
    ∙ flat_zero rows numbers (vec_capacity c.self.inside.numbers) c.args.tie c.args.slot
    c.requires.slot (omega (arith, view, c.requires.tie))
    (sym row ∙ c.if-row_at-eq0.true) c.self.invariant
    ∙ sym (ap (to_z w64) c.if-number-eq0.true)
    ∙ to_z-of_z w64 c.args.number c.ranges.number)

pub open-requires-clause-tie : goal.open-requires-clause-tie
open-requires-clause-tie c =
    let view = ap length c.self.view_is in
    let long = length_flat c.self.inside.rows.items c.self.inside.numbers.items in
    let within = c.requires.tie in
    omega (arith, view, long, within)

pub returns : goal.returns
returns c =
    let rows = c.open.new.rows.items in
    let numbers = c.open.new.numbers.items in
    let old_rows = c.self.inside.rows.items in
    let old_numbers = c.self.inside.numbers.items in
    let at : ℕ = 13 * c.args.tie + c.args.slot in
    let view = ap length c.self.view_is in
    let long = length_flat old_rows old_numbers in
    let many = c.open.ensures.long in
    let row = c.row_at-row.ensures
    ∙ ap (λ (xs : List ℕ). get_or xs c.args.tie 0) c.deref-2.ensures.value in
    let z : ℤ = to_z w64 (of_z w64 c.args.number) in
    put_flat rows numbers (vec_capacity c.open.new.numbers) c.args.tie c.row_at-row.result
    c.args.slot z (omega (arith, view, long, many, c.requires.tie)) row
    (omega (arith, row, c.open.ensures.own)) c.requires.slot c.open.ensures.rows
    ∙ ap (set (flat rows numbers) at) (to_z-of_z w64 c.args.number c.ranges.number)
    ∙ ap (λ (zs : List ℤ). set zs at c.args.number)
    (same_flat old_rows rows old_numbers numbers many c.open.ensures.same ∙ c.self.view_is)
