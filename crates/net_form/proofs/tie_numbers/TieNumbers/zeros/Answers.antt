use Rattle.std.proofs.Common.{◌∙◌, ℤ, pos, List, get_or, ap, rules}
use Rattle.net_form.proofs.SparseNumbers.{flat_zeros}
use Rattle.net_form.proofs.tie_numbers.TieNumbers.zeros.Goals as goal

pub returns : goal.returns
returns c =
    flat_zeros c.in_ok-rows.rows.items c.push_row.new.numbers.items c.args.ties
    (c.in_ok-rows.ensures.items_if_clones_equal (search rules))
    (λ k. c.push_row.ensures.same k
    ∙ ap (λ (zs : List ℤ). get_or zs k (pos 0)) c.in_ok-numbers.ensures.items)
