use Rattle.std.proofs.Common.{rules, ◌≡◌, ◌∙◌, ℕ, ◌+◌, List, [], ◌∷◌, ◌++◌, length, ap}
use Rattle.pra_packed.proofs.Parts.{IsAdded, added}
use Rattle.pra_packed.proofs.packed.Packed.push.Given as given
use Rattle.pra_packed.proofs.packed.Packed.push.Goals as goal

-- what the vectors hold in the end
more : (g : given.Over) (c : goal.After-push_reserved g)
    → IsAdded c.self.inside.ends.items c.push_reserved.new.self.items c.self.inside.items.items
    c.extend_from_slice.new.self.items c.args.list.now
more g c =
    let ends = c.self.inside.ends.items in
    let grown : c.push_reserved.new.self.items ≡ ends ++ c.in_ok-end.end ∷ [] =
    c.push_reserved.ensures.items
    ∙ ap (λ (es : List ℕ). es ++ c.in_ok-end.end ∷ []) c.reserve.ensures.items in
    let filled : c.extend_from_slice.new.self.items
    ≡ c.self.inside.items.items ++ c.args.list.now = search rules in
    let behind : c.in_ok-end.end
    ≡ length c.self.inside.items.items + length c.args.list.now = search rules in
    added ends c.push_reserved.new.self.items c.self.inside.items.items
    c.extend_from_slice.new.self.items c.args.list.now c.in_ok-end.end c.self.invariant grown
    filled behind

pub invariant_of-self-2 : goal.invariant_of-self-2
invariant_of-self-2 g c = (more g c).are_ends

pub returns-clause-ok : goal.returns-clause-ok
returns-clause-ok g c =
    (more g c).lists ∙ ap (λ (ls : List (List _)). ls ++ c.args.list.now ∷ []) c.self.view_is
