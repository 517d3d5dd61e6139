-- The code of a block, instruction by instruction.
use Rattle.std.proofs.Common.{◌≡◌, ℕ, suc, ◌+◌, ◌*◌, ◌<◌, List, [], ◌∷◌, ◌++◌, length, get_or, drop}
use Rattle.std.proofs.Common.{map, Some, refl, sym, ap, ap₂, subst, ◌∙◌, arith, append_assoc}
use Rattle.std.proofs.Common.{add-one, drop-cons}
use Rattle.std.specs.Prelude.{slice_get}
use Rattle.std.proofs.lemmas.Option.{slice_get-get_or}
use Rattle.pra_base.specs.declared.code.VInstr.{VInstr}
use Rattle.pl_moves.specs.declared.transfer.Pair.{Pair}
use Rattle.pl_moves.specs.declared.transfer.Move.{Move}
use Rattle.pl_made.specs.Made.{MovesAt, LaysMoves}
use Rattle.pl_place.specs.declared.placed.LInstr.{LInstr}
use Rattle.pl_place.specs.declared.placed.LInstr.TheVariants as placed
use Rattle.pl_place.specs.Behind.{Routed, pairs_at, operand_places, IsOp}
use Rattle.pra_base.specs.Operands.{var_of}
use Rattle.vc_code.specs.declared.row.Role.{Role}
use Rattle.vc_code.specs.Rows.{roles_of}
use Rattle.pl_build.specs.Laid.{role_vars, Moves, AddsMoves, AddsInstr, AreLayers, operands_by}
use Rattle.pl_build.specs.Layers.{layer}

moves_at : (r : Routed) (b l : ℕ) (pairs : List Pair) (ms : List Move) → pairs ≡ pairs_at r b l →
    Moves pairs ms → MovesAt r b l ms
moves_at r b l pairs ms same are =
    let at : Moves (pairs_at r b l) ms = subst (λ ps. Moves ps ms) same are in
    record {
      assigns = at.assigns;
      in_registers = at.in_registers;
      names = at.names;
      counted =
          at.counted;
      few = at.few;
    }

-- what follows the instruction is laid behind it
pub one_laid : (r : Routed) (b k : ℕ) (code : List VInstr) (first : ℕ) (layers : List (List Pair))
    (i d : VInstr) (before behind : List Pair) (old new : List LInstr) →
    AreLayers r b code first layers → k < length code → i ≡ get_or code k d →
    before ≡ layer layers (first + 2 * k + 1) → behind ≡ layer layers (first + 2 * k + 2) →
    AddsInstr before behind i old new →
    ((more : List LInstr) → LaysMoves r b k (drop k code) more → LaysMoves r b 0 code (old ++ more))
    →
    (more : List LInstr) → LaysMoves r b (k + 1) (drop (k + 1) code) more →
    LaysMoves r b 0 code (new ++ more)
one_laid r b k code first layers i d before behind old new are lt is before_is behind_is adds done
    more laid =
    let at : slice_get code k ≡ Some i = slice_get-get_or code k d lt ∙ ap Some (sym is) in
    let odd : first + 2 * k + 1 ≡ first + (2 * k + 1) = omega arith in
    let even : first + 2 * k + 2 ≡ first + (2 * k + 2) = omega arith in
    let from : before ≡ pairs_at r b (2 * k + 1) = before_is ∙ ap (layer layers) odd
    ∙ are.pairs (2 * k + 1) (omega (arith, lt)) in
    let to : behind ≡ pairs_at r b (2 * k + 2) = behind_is ∙ ap (layer layers) even
    ∙ are.pairs (2 * k + 2) (omega (arith, lt)) in
    let same : (old ++ (map placed.Move adds.moves ++ adds.op ∷ [])) ++ more ≡ old
    ++ (map placed.Move adds.moves ++ adds.op ∷ more) =
    append_assoc old (map placed.Move adds.moves ++ adds.op ∷ []) more
    ∙ ap (λ (xs : List LInstr). old ++ xs)
    (append_assoc (map placed.Move adds.moves) (adds.op ∷ []) more) in
    let rest : LaysMoves r b (suc k) (drop (suc k) code) more =
    subst (λ n. LaysMoves r b n (drop n code) more) (add-one k) laid in
    let places : map Some (operands_by before behind i) ≡ operand_places r b k i =
    ap₂ (λ (ps qs : List Pair). map Some (operands_by ps qs i)) from to ∙ are.operands k i at in
    let one : LaysMoves r b k (i ∷ drop (suc k) code) (map placed.Move adds.moves ++ adds.op ∷ more)
    = (
      adds.moves,
      adds.op,
      more,
      refl,
      moves_at r b (2 * k + 1) before adds.moves from adds.are,
      subst (IsOp adds.op i) places adds.is_op,
      rest,
    ) in
    let code_is : drop k code ≡ i ∷ drop (suc k) code = drop-cons code k d lt
    ∙ ap (λ x. x ∷ drop (suc k) code) (sym is) in
    subst (LaysMoves r b 0 code) (sym (ap (λ (xs : List LInstr). xs ++ more) adds.new_is ∙ same))
    (done (map placed.Move adds.moves ++ adds.op ∷ more)
    (subst (λ is. LaysMoves r b k is (map placed.Move adds.moves ++ adds.op ∷ more))
    (sym code_is) one))

nothing_left : (xs : List VInstr) → drop (length xs) xs ≡ []
nothing_left [] = refl
nothing_left (x ∷ xs) = nothing_left xs

-- the moves before the end
pub end_laid : (r : Routed) (b k : ℕ) (code : List VInstr) (first : ℕ) (layers : List (List Pair))
    (before : List Pair) (old new : List LInstr) →
    AreLayers r b code first layers → k ≡ length code →
    before ≡ layer layers (first + 2 * length code + 1) →
    AddsMoves before old new →
    ((more : List LInstr) → LaysMoves r b k (drop k code) more → LaysMoves r b 0 code (old ++ more))
    →
    LaysMoves r b 0 code new
end_laid r b k code first layers before old new are all before_is adds done =
    let odd : first + 2 * length code + 1 ≡ first + (2 * length code + 1) = omega arith in
    let from : before ≡ pairs_at r b (2 * length code + 1) = before_is ∙ ap (layer layers) odd
    ∙ are.pairs (2 * length code + 1) (omega arith) in
    let last : LaysMoves r b (length code) [] (map placed.Move adds.moves) = (
      adds.moves,
      refl,
      moves_at r b (2 * length code + 1) before adds.moves from adds.are,
    ) in
    let left : LaysMoves r b (length code) (drop (length code) code) (map placed.Move adds.moves) =
    subst (λ is. LaysMoves r b (length code) is (map placed.Move adds.moves))
    (sym (nothing_left code)) last in
    subst (LaysMoves r b 0 code) (sym adds.new_is)
    (done (map placed.Move adds.moves)
    (subst (λ n. LaysMoves r b n (drop n code) (map placed.Move adds.moves)) (sym all) left))

-- the variables of roles as the code has them
pub vars_of_roles : (roles : List Role) → role_vars roles ≡ map var_of (roles_of roles)
vars_of_roles [] = refl
vars_of_roles (x ∷ roles) = ap (λ vs. x.var.0 ∷ vs) (vars_of_roles roles)
