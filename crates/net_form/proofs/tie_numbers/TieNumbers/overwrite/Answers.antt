use Rattle.std.proofs.Common.{◌≡◌, ◌∙◌, pos, length, ap, sym, arith}
use Rattle.std.proofs.Common.{vec_len}
use Rattle.std.proofs.lemmas.Bool.{eqb-true}
use Rattle.std.proofs.lemmas.List.{ext_get_or}
use Rattle.net_form.proofs.SparseNumbers.{length_flat}
use Rattle.net_form.proofs.tie_numbers.TieNumbers.overwrite.Goals as goal

pub returns-then-is_empty : goal.returns-then-is_empty
returns-then-is_empty c =
    let view = ap length c.self.view_is in
    let long = length_flat c.self.inside.rows.items c.self.inside.numbers.items in
    let none = eqb-true (vec_len c.self.inside.rows) 0
    (sym c.is_empty.ensures ∙ c.if-is_empty.true) in
    let nothing : length c.args.self.now ≡ 0 = omega (arith, view, long, none) in
    ext_get_or (pos 0) c.args.self.now c.args.from.now (sym c.requires)
    (λ k lt. absurd (omega (arith, lt, nothing)))

pub copy_from_slice-requires : goal.copy_from_slice-requires
copy_from_slice-requires c =
    let view = ap length c.self.view_is in
    let long = length_flat c.self.inside.rows.items c.self.inside.numbers.items in
    let from_view = ap length c.from.view_is in
    let from_long = length_flat c.from.inside.rows.items c.from.inside.numbers.items in
    let same = c.as_slice.ensures.len in
    let many = c.requires in
    omega (arith, view, long, from_view, from_long, same, many)
