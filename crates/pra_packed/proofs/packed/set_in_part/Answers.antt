use Rattle.std.proofs.Common.{◌≡◌, ◌∙◌, ℕ, ◌+◌, ◌-◌, List, [], ◌++◌, length, get_or, set, take}
use Rattle.std.proofs.Common.{drop}
use Rattle.std.proofs.Common.{ap, arith, sym, refl, length-drop, length-set}
use Rattle.std.proofs.lemmas.List.{drop-drop, length-take-le}
use Rattle.pra_packed.specs.Parts.{parts}
use Rattle.pra_packed.proofs.Parts.{get_or_parts, parts_spliced}
use Rattle.pra_packed.proofs.packed.set_in_part.Goals as goal

pub put-requires : goal.put-requires
put-requires g c =
    let part = ap (λ (xs : List _). length xs)
    (get_or_parts 0 c.args.ends.now c.args.items.now c.args.at [] c.requires.at) in
    rw c.begin_of-begin.ensures.is (omega (arith, c.requires.number, part))

pub returns-clause-parts : goal.returns-clause-parts
returns-clause-parts g c =
    let ends = c.args.ends.now in
    let items = c.args.items.now in
    let begin = c.begin_of-begin.result in
    let end = get_or ends c.args.at 0 in
    let list = get_or (parts 0 ends items) c.args.at [] in
    let new = set list c.args.number c.args.item in
    let rest : drop (end - begin) (drop begin items) ≡ drop end items =
    drop-drop (end - begin) begin items
    ∙ ap (λ (n : ℕ). drop n items) (omega (arith, c.begin_of-begin.ensures.rises)) in
    let part : take (end - begin) (drop begin items) ≡ list =
    rw c.begin_of-begin.ensures.is
    (sym (get_or_parts 0 ends items c.args.at [] c.requires.at)) in
    let whole : begin + length new ≡ end =
    let left = length-take-le (end - begin) (drop begin items)
    (rw (length-drop begin items)
    (omega (arith, c.begin_of-begin.ensures.rises, c.begin_of-begin.ensures.within))) in
    let same = ap (λ (xs : List _). length xs) part in
    let kept = length-set list c.args.number c.args.item in
    omega (arith, c.begin_of-begin.ensures.rises, left, same, kept) in
    ap (λ (xs : List _).
    parts 0 ends (take begin items ++ (xs ++ drop (end - begin) (drop begin items))))
    (c.put.ensures ∙ ap (λ (xs : List _). set xs c.args.number c.args.item) part)
    ∙ ap (λ (xs : List _). parts 0 ends (take begin items ++ (new ++ xs))) rest
    ∙ parts_spliced 0 ends items new c.args.at begin end c.requires.ends c.requires.at
    c.begin_of-begin.ensures.is refl whole
