use Rattle.std.proofs.Common.{◌∙◌, ◌+◌, ◌*◌, ℕ, ℤ, pos, List, length, get_or, ap, sym, arith}
use Rattle.std.proofs.Common.{vec_capacity}
use Rattle.std.proofs.lemmas.Bool.{eqb-true}
use Rattle.net_form.proofs.SparseNumbers.{length_flat, flat_zero}
use Rattle.net_form.proofs.tie_numbers.TieNumbers.is_zero.Goals as goal

pub row_at-requires : goal.row_at-requires
row_at-requires c =
    let view = ap length c.self.view_is in
    let long = length_flat c.self.inside.rows.items c.self.inside.numbers.items in
    let same = ap length c.deref.ensures.value in
    let within = c.requires in
    omega (arith, view, long, same, within)

pub returns : goal.returns
returns c =
    let rows = c.self.inside.rows.items in
    let numbers = c.self.inside.numbers.items in
    let view = ap length c.self.view_is in
    let long = length_flat rows numbers in
    let row = c.row_at.ensures
    ∙ ap (λ (xs : List ℕ). get_or xs c.args.tie 0) c.deref.ensures.value in
    λ none slot small.
    ap (λ (zs : List ℤ). get_or zs (13 * c.args.tie + slot) (pos 0)) (sym c.self.view_is)
    ∙ flat_zero rows numbers (vec_capacity c.self.inside.numbers) c.args.tie slot small
    (omega (arith, view, long, small, c.requires))
    (sym row ∙ eqb-true c.row_at.result 0 none) c.self.invariant
