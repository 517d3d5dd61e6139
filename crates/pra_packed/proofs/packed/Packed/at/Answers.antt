use Rattle.std.proofs.Common.{List, length, ap, arith}
use Rattle.pra_packed.proofs.Parts.{length_parts}
use Rattle.pra_packed.proofs.packed.Packed.at.Goals as goal

pub part-requires-clause-at : goal.part-requires-clause-at
part-requires-clause-at g c =
    let ends = c.self.inside.ends.items in
    let many = length_parts 0 ends c.self.inside.items.items in
    let seen = ap (λ (xs : List (List _)). length xs) c.self.view_is in
    let same = ap (λ (xs : List _). length xs) c.as_slice.ensures.value in
    omega (arith, many, seen, same, c.requires)
