use Rattle.std.proofs.Common.{rules, ◌≡◌, ◌∙◌, ℕ, ◌+◌, List, [], ◌∷◌, ◌++◌, length, replicate}
use Rattle.std.proofs.Common.{ap, arith}
use Rattle.std.proofs.lemmas.List.{length-replicate}
use Rattle.pra_packed.proofs.Parts.{IsAdded, added}
use Rattle.pra_packed.proofs.packed.Packed.push_filled.Given as given
use Rattle.pra_packed.proofs.packed.Packed.push_filled.Goals as goal

-- what the vectors hold in the end
more : (g : given.Over) (c : goal.After-push_reserved g)
    → IsAdded c.self.inside.ends.items c.push_reserved.new.self.items c.self.inside.items.items
    c.add_filled.new.items.items (replicate c.args.count c.args.item)
more g c =
    let ends = c.self.inside.ends.items in
    let items = c.self.inside.items.items in
    let list = replicate c.args.count c.args.item in
    let grown : c.push_reserved.new.self.items ≡ ends ++ c.in_ok-end.end ∷ [] =
    c.push_reserved.ensures.items
    ∙ ap (λ (es : List ℕ). es ++ c.in_ok-end.end ∷ []) c.reserve.ensures.items in
    let filled : c.add_filled.new.items.items ≡ items ++ list = search rules in
    let end : c.in_ok-end.end ≡ length items + c.args.count = search rules in
    let behind : c.in_ok-end.end ≡ length items + length list =
    let many = length-replicate c.args.count c.args.item in
    omega (arith, end, many) in
    added ends c.push_reserved.new.self.items items c.add_filled.new.items.items list
    c.in_ok-end.end c.self.invariant grown filled behind

pub invariant_of-self-2 : goal.invariant_of-self-2
invariant_of-self-2 g c = (more g c).are_ends

pub returns-clause-ok : goal.returns-clause-ok
returns-clause-ok g c =
    (more g c).lists
    ∙ ap (λ (ls : List (List _)). ls ++ replicate c.args.count c.args.item ∷ []) c.self.view_is
