use Rattle.std.proofs.Common.{◌≡◌, ◌∙◌, ℕ, List, get_or, ap, arith}
use Rattle.net_form.proofs.SparseNumbers.{not_all_own}
use Rattle.net_form.proofs.tie_numbers.open.Goals as goal

pub overflow_cast-row : goal.overflow_cast-row
overflow_cast-row c =
    let rows = c.args.rows.now.items in
    let is = c.row_at.ensures
    ∙ ap (λ (xs : List ℕ). get_or xs c.args.tie 0) c.deref.ensures.value in
    let none : get_or rows c.args.tie 0 ≡ 0 = omega (arith, is, c.if-row_at-ne0.false) in
    let some = not_all_own rows c.args.tie c.requires.tie none in
    let full = c.requires.rows.full in
    let few = c.requires.rows.few in
    let size = c.len.ensures in
    record { fits = omega (arith, some, full, few, size) }

pub push_row-requires : goal.push_row-requires
push_row-requires c =
    let rows = c.args.rows.now.items in
    let is = c.row_at.ensures
    ∙ ap (λ (xs : List ℕ). get_or xs c.args.tie 0) c.deref.ensures.value in
    let none : get_or rows c.args.tie 0 ≡ 0 = omega (arith, is, c.if-row_at-ne0.false) in
    let some = not_all_own rows c.args.tie c.requires.tie none in
    let full = c.requires.rows.full in
    let room = c.requires.rows.room (omega (arith, c.requires.tie)) in
    omega (arith, some, full, room)
