use Rattle.std.proofs.Common.{◌≡◌, ◌∙◌, ℕ, ◌+◌, ◌<◌, ◌≤◌}
use Rattle.std.proofs.Common.{Bool, not, true, false, ◌&&◌, List, [], length}
use Rattle.std.proofs.Common.{get_or, drop, refl, sym, ap, arith}
use Rattle.std.proofs.lemmas.List.{drop_more, drop_all}
use Rattle.std.specs.Cmp.Lexicographic.{pointwise}
use Rattle.pra_packed.proofs.packed.PackedPartialEq.eq.Goals as goal

-- what is left of two lists of lists, by the next lists
rest : {X Y : Type 0} (E : X → Y → Bool) (xs : List X) (ys : List Y) (k : ℕ) (d : X) (e : Y)
    → k < length xs → k < length ys
    → pointwise E (drop k xs) (drop k ys)
    ≡ (E (get_or xs k d) (get_or ys k e) && pointwise E (drop (k + 1) xs) (drop (k + 1) ys))
rest E xs ys k d e left right = rw (drop_more xs k d left, drop_more ys k e right) refl

differs : (b : Bool) → true ≡ not b → b ≡ false
differs true h = h
differs false h = refl

agrees : (b : Bool) → false ≡ not b → b ≡ true
agrees true h = refl
agrees false h = h

pub loop-at-init : goal.loop-at-init
loop-at-init g c = refl

pub returns-then-ne : goal.returns-then-ne
returns-then-ne g c =
    let E = g.T.PartialEq.eq in
    let xs = c.args.self.now in
    let ys = c.args.other.now in
    let k = c.loop-at.at in
    let left : k < length xs = omega (arith, c.loop-at-test.true, c.len-at-end.ensures) in
    let right : k < length ys =
    omega (arith, left, c.len.ensures, c.len-2.ensures, c.if-len.false) in
    let one : pointwise E (get_or xs k []) (get_or ys k []) ≡ false =
    rw (sym c.at.ensures, sym c.at-in-loop-at.ensures) (differs _ c.if-ne.ensures) in
    sym (sym c.loop-at.invariant ∙ rest (pointwise E) xs ys k [] [] left right
    ∙ ap (λ (b : Bool). b && pointwise (pointwise E) (drop (k + 1) xs) (drop (k + 1) ys)) one)

pub loop-at-preserved : goal.loop-at-preserved
loop-at-preserved g c =
    let E = g.T.PartialEq.eq in
    let xs = c.args.self.now in
    let ys = c.args.other.now in
    let k = c.loop-at.at in
    let left : k < length xs = omega (arith, c.loop-at-test.true, c.len-at-end.ensures) in
    let right : k < length ys =
    omega (arith, left, c.len.ensures, c.len-2.ensures, c.if-len.false) in
    let one : pointwise E (get_or xs k []) (get_or ys k []) ≡ true =
    rw (sym c.at.ensures, sym c.at-in-loop-at.ensures) (agrees _ c.if-ne.ensures) in
    sym (sym c.loop-at.invariant ∙ rest (pointwise E) xs ys k [] [] left right
    ∙ ap (λ (b : Bool). b && pointwise (pointwise E) (drop (k + 1) xs) (drop (k + 1) ys)) one)

pub returns : goal.returns
returns g c =
    let xs = c.args.self.now in
    let ys = c.args.other.now in
    let left : length xs ≤ c.loop-at.at =
    omega (arith, c.loop-at-test.false, c.len-at-end.ensures) in
    let right : length ys ≤ c.loop-at.at =
    omega (arith, left, c.len.ensures, c.len-2.ensures, c.if-len.false) in
    rw (drop_all c.loop-at.at xs left, drop_all c.loop-at.at ys right) at c.loop-at.invariant
