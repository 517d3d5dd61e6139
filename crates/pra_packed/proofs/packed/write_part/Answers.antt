use Rattle.std.proofs.Common.{◌≡◌, ◌∙◌, ℕ, ◌+◌, ◌-◌, List, [], ◌++◌, length, get_or, take, drop, ap}
use Rattle.std.proofs.Common.{arith, sym, refl, length-drop}
use Rattle.std.proofs.lemmas.List.{drop-drop, length-take-le}
use Rattle.pra_packed.specs.Parts.{parts}
use Rattle.pra_packed.proofs.Parts.{get_or_parts, parts_spliced}
use Rattle.pra_packed.proofs.packed.write_part.Goals as goal

pub copy_from_slice-requires : goal.copy_from_slice-requires
copy_from_slice-requires g c =
    rw c.begin_of-begin.ensures.is (sym (c.requires.long
    ∙ ap (λ (xs : List _). length xs)
    (get_or_parts 0 c.args.ends.now c.args.items.now c.args.at [] c.requires.at)))

pub returns-clause-parts : goal.returns-clause-parts
returns-clause-parts g c =
    let ends = c.args.ends.now in
    let items = c.args.items.now in
    let begin = c.begin_of-begin.result in
    let end = get_or ends c.args.at 0 in
    let rest : drop (end - begin) (drop begin items) ≡ drop end items =
    drop-drop (end - begin) begin items
    ∙ ap (λ (n : ℕ). drop n items) (omega (arith, c.begin_of-begin.ensures.rises)) in
    let part : length c.args.list.now ≡ length (take (end - begin) (drop begin items)) =
    rw c.begin_of-begin.ensures.is (c.requires.long
    ∙ ap (λ (xs : List _). length xs) (get_or_parts 0 ends items c.args.at [] c.requires.at)) in
    let whole : begin + length c.args.list.now ≡ end =
    let left = length-take-le (end - begin) (drop begin items)
    (rw (length-drop begin items)
    (omega (arith, c.begin_of-begin.ensures.rises, c.begin_of-begin.ensures.within))) in
    omega (arith, c.begin_of-begin.ensures.rises, left, part) in
    ap (λ (xs : List _).
    parts 0 ends (take begin items ++ (xs ++ drop (end - begin) (drop begin items))))
    c.copy_from_slice.ensures.after
    ∙ ap (λ (xs : List _). parts 0 ends (take begin items ++ (c.args.list.now ++ xs))) rest
    ∙ parts_spliced 0 ends items c.args.list.now c.args.at begin end c.requires.ends c.requires.at
    c.begin_of-begin.ensures.is refl whole
