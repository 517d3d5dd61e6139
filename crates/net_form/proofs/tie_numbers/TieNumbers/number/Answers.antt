use Rattle.std.proofs.Common.{◌∙◌, ◌+◌, ◌*◌, ℕ, ℤ, pos, List, length, get_or, ap, arith}
use Rattle.std.specs.Int.{w64}
use Rattle.std.proofs.lemmas.Int.{to_z-of_z}
use Rattle.net_form.proofs.SparseNumbers.{length_flat, flat_slot}
use Rattle.net_form.proofs.tie_numbers.TieNumbers.number.Goals as goal

pub row_at-row-requires : goal.row_at-row-requires
row_at-row-requires c =
    let view = ap length c.self.view_is in
    let long = length_flat c.self.inside.rows.items c.self.inside.numbers.items in
    let same = ap length c.deref.ensures.value in
    let within = c.requires.tie in
    omega (arith, view, long, same, within)

pub number_in-requires : goal.number_in-requires
number_in-requires c =
    let rows = c.self.inside.rows.items in
    let view = ap length c.self.view_is in
    let long = length_flat rows c.self.inside.numbers.items in
    let same = ap length c.deref-2.ensures.value in
    let row = c.row_at-row.ensures
    ∙ ap (λ (xs : List ℕ). get_or xs c.args.tie 0) c.deref.ensures.value in
    let there = c.self.invariant.there c.args.tie (omega (arith, view, long, c.requires.tie)) in
    omega (arith, row, same, there, c.requires.slot)

pub returns : goal.returns
returns c =
    let rows = c.self.inside.rows.items in
    let numbers = c.self.inside.numbers.items in
    let view = ap length c.self.view_is in
    let row = c.row_at-row.ensures
    ∙ ap (λ (xs : List ℕ). get_or xs c.args.tie 0) c.deref.ensures.value in
    to_z-of_z w64 c.number_in.result (record { sfits = c.number_in.type_inv })
    ∙ c.number_in.ensures
    ∙ ap (λ (zs : List ℤ). get_or zs (13 * c.row_at-row.result + c.args.slot) (pos 0))
    c.deref-2.ensures.value
    ∙ ap (λ (r : ℕ). get_or numbers (13 * r + c.args.slot) (pos 0)) row
    ∙ flat_slot rows numbers c.args.tie c.args.slot c.requires.slot
    (omega (arith, view, c.requires.tie))
    ∙ ap (λ (zs : List ℤ). get_or zs (13 * c.args.tie + c.args.slot) (pos 0)) c.self.view_is
