use Rattle.std.proofs.Common.{◌∙◌, List, length, ap, sym}
use Rattle.pra_packed.proofs.Parts.{length_parts}
use Rattle.pra_packed.proofs.packed.Packed.len.Goals as goal

pub returns : goal.returns
returns g c =
    ap (λ (xs : List _). length xs) c.as_slice.ensures.value
    ∙ sym (length_parts 0 c.self.inside.ends.items c.self.inside.items.items)
    ∙ ap (λ (xs : List (List _)). length xs) c.self.view_is
