use Rattle.std.proofs.Common.{◌≡◌, ◌∙◌, ℕ, ◌++◌, List, length, take, drop, ap, sym}
use Rattle.std.specs.Vec.{vec_len}
use Rattle.std.proofs.Math.Seq.{take-append_seam}
use Rattle.pra_packed.specs.Parts.{parts}
use Rattle.pra_packed.proofs.Parts.{are_over}
use Rattle.pra_packed.proofs.packed.Packed.overwrite_all.Goals as goal

pub copy_from_slice-requires : goal.copy_from_slice-requires
copy_from_slice-requires g c =
    let over = are_over c.self.inside.ends.items c.lists.inside.ends.items
    c.self.inside.items.items c.lists.inside.items.items c.args.self.now c.args.lists.now
    c.self.invariant c.lists.invariant c.self.view_is c.lists.view_is c.requires.many
    c.requires.long in
    ap (λ (xs : List _). length xs) c.as_mut_slice.ensures.value ∙ over.long
    ∙ ap (λ (xs : List _). length xs) (sym c.as_slice.ensures.value)

pub returns : goal.returns
returns g c =
    let over = are_over c.self.inside.ends.items c.lists.inside.ends.items
    c.self.inside.items.items c.lists.inside.items.items c.args.self.now c.args.lists.now
    c.self.invariant c.lists.invariant c.self.view_is c.lists.view_is c.requires.many
    c.requires.long in
    let new = c.copy_from_slice.new.self in
    let many : length new ≡ vec_len c.self.inside.items =
    c.copy_from_slice.ensures.len ∙ c.as_mut_slice.ensures.len in
    let whole : take (vec_len c.self.inside.items)
    (new ++ drop (length new) c.self.inside.items.items) ≡ c.lists.inside.items.items =
    ap (λ (n : ℕ). take n (new ++ drop (length new) c.self.inside.items.items)) (sym many)
    ∙ take-append_seam new (drop (length new) c.self.inside.items.items)
    ∙ c.copy_from_slice.ensures.after ∙ c.as_slice.ensures.value in
    ap (λ (xs : List _). parts 0 c.self.inside.ends.items xs) whole
    ∙ ap (λ (es : List ℕ). parts 0 es c.lists.inside.items.items) over.same
    ∙ c.lists.view_is
