-- What a phrase of an expression is read as has at most the nodes of the phrase.
use Rattle.std.proofs.Common.{◌≡◌, ℕ, ◌+◌, ◌≤◌, List, [], ◌∷◌, ◌++◌, map, Option, Some, None, refl}
use Rattle.std.proofs.Common.{ap, sym, ◌∙◌, arith}
use Rattle.std.specs.Prelude.{Ok, Err, sum}
use Rattle.pra_list.proofs.Results.{came_of}
use Rattle.pra_list.proofs.Choices.{by_test}
use Rattle.pra_list.specs.Results.{◌>>=◌}
use Rattle.ob_syntax.specs.declared.checked.Meaning.{Meaning}
use Rattle.ob_syntax.specs.declared.checked.Meaning.TheVariants as meaning
use Rattle.ob_syntax.specs.declared.checked.ROp.{ROp}
use Rattle.ob_syntax.specs.declared.checked.ROp.TheVariants as op
use Rattle.ob_syntax.specs.declared.checked.RExpr.{RExpr}
use Rattle.ob_syntax.specs.declared.checked.RExpr.TheVariants as x
use Rattle.ob_syntax.specs.declared.checked.RStep.{RStep}
use Rattle.ob_syntax.specs.declared.checked.RStep.TheVariants as step
use Rattle.ob_syntax.specs.declared.checked.Root.{Root}
use Rattle.ob_syntax.specs.declared.checked.Shape.{Shape}
use Rattle.ob_syntax.specs.declared.checked.Shape.TheVariants.{Integer, Boolean, Array, Record}
use Rattle.ob_syntax.specs.declared.checked.Typed.{Typed}
use Rattle.ob_syntax.specs.declared.checked.Value.{Value}
use Rattle.ob_syntax.specs.declared.checked.Value.TheVariants.{Number, Truth}
use Rattle.ob_syntax.specs.declared.token.Kind.{Kind}
use Rattle.ob_syntax.specs.declared.token.Kind.TheVariants as kind
use Rattle.ob_syntax.specs.Expressions.{Phrase, Next, Selected, Selection, integer, boolean}
use Rattle.ob_syntax.specs.Expressions.{of_type, operand, binary, are_alike, the_field}
use Rattle.ob_syntax.specs.Expressions.{field_number, field, element, selected, variable, literal}
use Rattle.ob_syntax.specs.Expressions.{designated, typed, chained, signed_term, compared_alike}
use Rattle.ob_syntax.specs.Expressions.{related}
use Rattle.ob_syntax.specs.Names.{Place}
use Rattle.vc_typed.specs.Nodes.{nodes_in, nodes_in_step, nodes_in_var}
use Rattle.vc_typed.proofs.Bindings.{ok_same, ok_err, of_type_is}
use Rattle.vc_typed.proofs.NodeEquations.{sum-last, nodes-Number, nodes-Truth, nodes-Var}
use Rattle.vc_typed.proofs.NodeEquations.{nodes-Negate, nodes-Binary, nodes-Field, nodes-Index}
use Rattle.vc_typed.proofs.NodeEquations.{nodes_in_var-is}

-- what is read of the phrase has at most so many nodes
pub record Bounded (most : ℕ) (e : Phrase) : Type 0 where
  pub few : (p : Place) (y : Typed) → e.judge p ≡ Ok y → nodes_in y.expr ≤ most

-- operators, each with the operand behind it
abbrev pub Chain : ℕ → List Next → Type 0
Chain most [] = Unit {0}
Chain most (n ∷ ns) = (k : ℕ) × (l : ℕ) × (k + 1 + l ≤ most) × Bounded k n.1 × Chain l ns

pub record BoundedStep (most : ℕ) (s : Selection) : Type 0 where
  pub few : (p : Place) (type_id : ℕ) (r : RStep × ℕ) → s p type_id ≡ Ok r → nodes_in_step r.0 ≤
      most

abbrev pub Selectors : ℕ → List Selection → Type 0
Selectors most [] = Unit {0}
Selectors most (s ∷ ss) = (k : ℕ) × (l : ℕ) × (k + l ≤ most) × BoundedStep k s × Selectors l ss

abbrev pub SignAt : ℕ → Option Kind → Type 0
SignAt most None = Unit {0}
SignAt most (Some k) = 1 ≤ most

-- ---- operators

pub of_type_nodes : (rule type_id token : ℕ) (e : Typed) (y : RExpr) →
    of_type rule type_id token e ≡ Ok y → nodes_in e.expr ≡ nodes_in y
of_type_nodes rule type_id token e y is = ap nodes_in (of_type_is rule type_id token e y is).1

operand_nodes : (o : ROp) (token : ℕ) (e : Typed) (y : RExpr) → operand o token e ≡ Ok y →
    nodes_in e.expr ≡ nodes_in y
operand_nodes op.Mul token e y is = of_type_nodes 15 integer token e y is
operand_nodes op.Div token e y is = of_type_nodes 15 integer token e y is
operand_nodes op.Mod token e y is = of_type_nodes 15 integer token e y is
operand_nodes op.Both token e y is = of_type_nodes 16 boolean token e y is
operand_nodes op.Add token e y is = of_type_nodes 15 integer token e y is
operand_nodes op.Sub token e y is = of_type_nodes 15 integer token e y is
operand_nodes op.Either token e y is = of_type_nodes 16 boolean token e y is
operand_nodes op.Equal token e y is = of_type_nodes 15 integer token e y is
operand_nodes op.Unequal token e y is = of_type_nodes 15 integer token e y is
operand_nodes op.Less token e y is = of_type_nodes 15 integer token e y is
operand_nodes op.LessEqual token e y is = of_type_nodes 15 integer token e y is
operand_nodes op.Greater token e y is = of_type_nodes 15 integer token e y is
operand_nodes op.GreaterEqual token e y is = of_type_nodes 15 integer token e y is

pub chained_nodes : (p : Place) (last : ℕ) (so_far : Typed) (ns : List Next) (most : ℕ)
    (e : Typed) → Chain most ns → chained p last so_far ns ≡ Ok e → nodes_in e.expr ≤
    nodes_in so_far.expr + most
chained_nodes p last so_far [] most e chain is = let same = ap (λ (y : Typed). nodes_in y.expr)
    (ok_same so_far e is) in omega (arith, same)
chained_nodes p last so_far (n ∷ ns) most e (k, l, room, one, rest) is =
    let first = came_of (operand n.0 last so_far)
    (λ left. n.1.judge p >>= λ y. operand n.0 n.1.last y >>= λ right. chained p n.1.last
    (binary n.0 left right) ns) e is in
    let second = came_of (n.1.judge p)
    (λ y. operand n.0 n.1.last y >>= λ right. chained p n.1.last (binary n.0 first.0 right) ns)
    e first.2 in
    let third = came_of (operand n.0 n.1.last second.0)
    (λ right. chained p n.1.last (binary n.0 first.0 right) ns) e second.2 in
    let left = operand_nodes n.0 last so_far first.0 first.1 in
    let right = operand_nodes n.0 n.1.last second.0 third.0 third.1 in
    let few = one.few p second.0 second.1 in
    let whole = nodes-Binary n.0 first.0 third.0 in
    let more = chained_nodes p n.1.last (binary n.0 first.0 third.0) ns l e rest third.2 in
    joined (nodes_in e.expr) (nodes_in so_far.expr) (nodes_in first.0) (nodes_in second.0.expr)
    (nodes_in third.0) _ k l most left right few whole more room
  where
    joined : (e so_far first second third both k l most : ℕ) → so_far ≡ first → second ≡ third →
        second ≤ k → both ≡ first + 1 + third → e ≤ both + l → k + 1 + l ≤ most → e ≤ so_far + most
    joined e so_far first second third both k l most a b c d f g = omega (arith, a, b, c, d, f, g)

pub signed_nodes : (sign : Option Kind) (token most : ℕ) (y e : Typed) → SignAt most sign →
    signed_term sign token y ≡ Ok e → nodes_in e.expr ≤ nodes_in y.expr + most
signed_nodes None token most y e room is = let same = ap (λ (y : Typed). nodes_in y.expr)
    (ok_same y e is) in omega (arith, same)
signed_nodes (Some kind.Minus) token most y e room is =
    let of = came_of (of_type 15 integer token y) (λ number. Ok (typed integer (x.Negate number))) e
    is in
    let same = ap (λ (y : Typed). nodes_in y.expr) (ok_same (typed integer (x.Negate of.0)) e of.2)
    in
    negated (nodes_in e.expr) (nodes_in y.expr) (nodes_in of.0) most (sym same ∙ nodes-Negate of.0)
    (of_type_nodes 15 integer token y of.0 of.1) room
  where
    negated : (e y z most : ℕ) → e ≡ 1 + z → y ≡ z → 1 ≤ most → e ≤ y + most
    negated e y z most a b c = omega (arith, a, b, c)
signed_nodes (Some k) token most y e room is =
    let of = came_of (of_type 15 integer token y) (λ number. Ok (typed integer number)) e is in
    let same = ap (λ (y : Typed). nodes_in y.expr) (ok_same (typed integer of.0) e of.2) in
    left_out (nodes_in e.expr) (nodes_in y.expr) (nodes_in of.0) most (sym same)
    (of_type_nodes 15 integer token y of.0 of.1)
  where
    left_out : (e y z most : ℕ) → e ≡ z → y ≡ z → e ≤ y + most
    left_out e y z most a b = omega (arith, a, b)

-- both sides and the operator
pub between : (e l r left right k : ℕ) → e ≡ l + 1 + r → left ≡ l → right ≡ r → right ≤ k →
    e ≤ left + 1 + k
between e l r left right k a b c d = omega (arith, a, b, c, d)

compared_nodes : (token : ℕ) (o : ROp) (left right e : Typed) (k : ℕ) → nodes_in right.expr ≤ k →
    compared_alike o token left right ≡ Ok e → nodes_in e.expr ≤ nodes_in left.expr + 1 + k
compared_nodes token o left right e k few is =
    by_test (are_alike left.type_id right.type_id) (Ok (binary o left.expr right.expr))
    (Err (17, token)) (Ok e)
    (λ b same.
    let is = ap (λ (y : Typed). nodes_in y.expr) (ok_same (binary o left.expr right.expr) e same) in
    between (nodes_in e.expr) (nodes_in left.expr) (nodes_in right.expr) (nodes_in left.expr)
    (nodes_in right.expr) k (sym is ∙ nodes-Binary o left.expr right.expr) refl refl few)
    (λ no same. absurd (ok_err same)) is

ordered_nodes : (p : Place) (last : ℕ) (left : Typed) (o : ROp) (right : Phrase) (k : ℕ)
    (e : Typed) → Bounded k right
    → (operand o last left >>= λ l. right.judge p >>= λ y. operand o right.last y >>= λ r. Ok
    (binary o l r)) ≡ Ok e → nodes_in e.expr ≤ nodes_in left.expr + 1 + k
ordered_nodes p last left o right k e few is =
    let one = came_of (operand o last left)
    (λ l. right.judge p >>= λ y. operand o right.last y >>= λ r. Ok (binary o l r)) e is in
    let two = came_of (right.judge p) (λ y. operand o right.last y >>= λ r. Ok (binary o one.0 r)) e
    one.2 in
    let three = came_of (operand o right.last two.0) (λ r. Ok (binary o one.0 r)) e two.2 in
    let is = ap (λ (y : Typed). nodes_in y.expr) (ok_same (binary o one.0 three.0) e three.2) in
    between (nodes_in e.expr) (nodes_in one.0) (nodes_in three.0) (nodes_in left.expr)
    (nodes_in two.0.expr) k (sym is ∙ nodes-Binary o one.0 three.0)
    (operand_nodes o last left one.0 one.1)
    (operand_nodes o right.last two.0 three.0 three.1) (few.few p two.0 two.1)

pub related_nodes : (p : Place) (last : ℕ) (left : Typed) (o : ROp) (right : Phrase) (k : ℕ)
    (e : Typed) → Bounded k right → related p last left (o, right) ≡ Ok e → nodes_in e.expr ≤
    nodes_in left.expr + 1 + k
related_nodes p last left op.Equal right k e few is =
    let of = came_of (right.judge p) (λ y. compared_alike op.Equal right.last left y) e is in
    compared_nodes right.last op.Equal left of.0 e k (few.few p of.0 of.1) of.2
related_nodes p last left op.Unequal right k e few is =
    let of = came_of (right.judge p) (λ y. compared_alike op.Unequal right.last left y) e is in
    compared_nodes right.last op.Unequal left of.0 e k (few.few p of.0 of.1) of.2
related_nodes p last left op.Mul right k e few is = ordered_nodes p last left op.Mul right k e few
    is
related_nodes p last left op.Div right k e few is = ordered_nodes p last left op.Div right k e few
    is
related_nodes p last left op.Mod right k e few is = ordered_nodes p last left op.Mod right k e few
    is
related_nodes p last left op.Both right k e few is = ordered_nodes p last left op.Both right k e few
    is
related_nodes p last left op.Add right k e few is = ordered_nodes p last left op.Add right k e few
    is
related_nodes p last left op.Sub right k e few is = ordered_nodes p last left op.Sub right k e few
    is
related_nodes p last left op.Either right k e few is = ordered_nodes p last left op.Either right k e
    few is
related_nodes p last left op.Less right k e few is = ordered_nodes p last left op.Less right k e few
    is
related_nodes p last left op.LessEqual right k e few is =
    ordered_nodes p last left op.LessEqual right k e few is
related_nodes p last left op.Greater right k e few is = ordered_nodes p last left op.Greater right k
    e few is
related_nodes p last left op.GreaterEqual right k e few is =
    ordered_nodes p last left op.GreaterEqual right k e few is

-- ---- selectors

the_field_nodes : (token : ℕ) (types : List ℕ) (found : Option ℕ) (r : RStep × ℕ) →
    the_field token types found ≡ Ok r → nodes_in_step r.0 ≤ 2
the_field_nodes token types None r is = absurd (ok_err is)
the_field_nodes token types (Some k) r is = let same = ap (λ (z : RStep × ℕ). nodes_in_step z.0)
    (ok_same _ r is) in let two = nodes-Field k in omega (arith, same, two)

pub field_nodes : (p : Place) (token type_id : ℕ) (shape : Option Shape) (r : RStep × ℕ) →
    field p token type_id shape ≡ Ok r → nodes_in_step r.0 ≤ 2
field_nodes p token type_id (Some (Record types)) r is = the_field_nodes token types
    (field_number p token type_id) r is
field_nodes p token type_id (Some Integer) r is = absurd (ok_err is)
field_nodes p token type_id (Some Boolean) r is = absurd (ok_err is)
field_nodes p token type_id (Some (Array count item)) r is = absurd (ok_err is)
field_nodes p token type_id None r is = absurd (ok_err is)

pub element_nodes : (token : ℕ) (index : RExpr) (shape : Option Shape) (r : RStep × ℕ) →
    element token index shape ≡ Ok r → nodes_in_step r.0 ≡ 1 + nodes_in index
element_nodes token index (Some (Array count item)) r is =
    sym (ap (λ (z : RStep × ℕ). nodes_in_step z.0) (ok_same (step.Index index, item) r is))
    ∙ nodes-Index index
element_nodes token index (Some (Record types)) r is = absurd (ok_err is)
element_nodes token index (Some Integer) r is = absurd (ok_err is)
element_nodes token index (Some Boolean) r is = absurd (ok_err is)
element_nodes token index None r is = absurd (ok_err is)

selected_nodes : (p : Place) (ss : List Selection) (most : ℕ) (done : List RStep) (type_id : ℕ)
    (r : List RStep × ℕ) → Selectors most ss → selected p done type_id ss ≡ Ok r →
    sum (map nodes_in_step r.0) ≤ sum (map nodes_in_step done) + most
selected_nodes p [] most done type_id r all is = let same =
    ap (λ (z : List RStep × ℕ). sum (map nodes_in_step z.0)) (ok_same (done, type_id) r is) in
    omega (arith, same)
selected_nodes p (s ∷ ss) most done type_id r (k, l, room, one, rest) is =
    let of = came_of (s p type_id) (λ one. selected p (done ++ one.0 ∷ []) one.1 ss) r is in
    let more = selected_nodes p ss l (done ++ of.0.0 ∷ []) of.0.1 r rest of.2 in
    let few = one.few p type_id of.0 of.1 in
    let last = sum-last nodes_in_step done of.0.0 in omega (arith, more, few, last, room)

pub selected_variable : (p : Place) (d : Selected) (most : ℕ) (r : Root) (type_id : ℕ)
    (steps : List RStep × ℕ) → Selectors most d.selectors → selected p [] type_id d.selectors ≡
    Ok steps → nodes_in_var (variable r steps) ≤ 1 + most
selected_variable p d most r type_id steps all is =
    let few = selected_nodes p d.selectors most [] type_id steps all is in
    let whole = nodes_in_var-is r steps.0 steps.1 in
    let none : sum (map nodes_in_step []) ≡ 0 = refl in omega (arith, few, whole, none)

literal_nodes : (v : Value) → nodes_in (literal v).expr ≡ 1
literal_nodes (Number n) = nodes-Number n
literal_nodes (Truth b) = nodes-Truth b

pub designated_nodes : (p : Place) (d : Selected) (most : ℕ) (m : Meaning) (e : Typed) →
    Selectors most d.selectors → designated p d m ≡ Ok e → nodes_in e.expr ≤ 1 + most
designated_nodes p d most (meaning.Constant v) e all is =
    let of = came_of (selected p [] (literal v).type_id d.selectors) (λ none. Ok (literal v)) e
    is in
    let same = ap (λ (y : Typed). nodes_in y.expr) (ok_same (literal v) e of.2) in let one =
    literal_nodes v in omega (arith, same, one)
designated_nodes p d most (meaning.Variable owner r type_id) e all is =
    let of = came_of (selected p [] type_id d.selectors)
    (λ steps. Ok (typed steps.1 (x.Var (variable r steps)))) e is in
    let same = ap (λ (y : Typed). nodes_in y.expr)
    (ok_same (typed of.0.1 (x.Var (variable r of.0))) e of.2) in
    let whole = nodes-Var (variable r of.0) in
    let few = selected_variable p d most r type_id of.0 all of.1 in omega (arith, same, whole, few)
designated_nodes p d most (meaning.TypeName v) e all is = absurd (ok_err is)
designated_nodes p d most (meaning.Procedure v) e all is = absurd (ok_err is)
designated_nodes p d most (meaning.Standard v) e all is = absurd (ok_err is)
