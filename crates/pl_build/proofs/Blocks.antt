-- Blocks, one after the other, by what moves into each layer.
use Rattle.std.proofs.Common.{◌≡◌, ℕ, zero, suc, ◌+◌, ◌*◌, ◌<◌, ◌≤◌, ◌⊎◌, inl, inr, ⊎_elim, List}
use Rattle.std.proofs.Common.{[], ◌∷◌, ◌++◌, length, All, slice_get, Some, refl, sym, ap, subst}
use Rattle.std.proofs.Common.{◌∙◌, arith, length-append}
use Rattle.std.specs.Prelude.{IsTrue}
use Rattle.std.proofs.lemmas.List.Sums.{sum_by_more_le}
use Rattle.std.proofs.lemmas.Option.{slice_get-get_or}
use Rattle.pra_list.proofs.Options.{some_same}
use Rattle.pra_base.specs.declared.code.VProc.{VProc}
use Rattle.pra_base.specs.Code.{code_of, end_of}
use Rattle.pra_base.specs.Valid.{IsSized}
use Rattle.net_form.specs.declared.net.NetBlock.{NetBlock}
use Rattle.net_form.specs.declared.net.Net.{Net}
use Rattle.net_form.specs.declared.routes.Routes.{Routes}
use Rattle.net_form.specs.Admitted.{IsAdmitted}
use Rattle.net_form.specs.Flow.{flow, AreRoutes}
use Rattle.net_form.specs.Formed.{IsFormed, no_block}
use Rattle.net_form.specs.Index.{first_layer}
use Rattle.net_form.specs.Network.{IsNet}
use Rattle.net_form.specs.Rooms.{layer_total}
use Rattle.net_form.specs.Tables.{all_tables}
use Rattle.net_form.proofs.NetworkFormed.{formed}
use Rattle.pl_made.proofs.CanMove.{can_move_at}
use Rattle.pl_moves.specs.declared.transfer.Pair.{Pair}
use Rattle.pl_moves.specs.Assignment.{can_move}
use Rattle.pl_made.specs.Made.{LaysMoves}
use Rattle.pl_place.specs.declared.placed.LBlock.{LBlock}
use Rattle.pl_place.specs.Behind.{Routed, pairs_at}
use Rattle.pl_routed.specs.Routed.{routed}
use Rattle.pl_routed.proofs.Present.{net_strand}
use Rattle.pl_build.specs.Laid.{AreLayers, AreBlocks}
use Rattle.pl_build.specs.Layers.{layer, pairs_into}
use Rattle.pl_build.proofs.Brought.{all_brought}
use Rattle.pl_build.proofs.Layered.{blocks_many, layers_of_block, layer_pairs}

-- what is got from a list with one element more
get_pushed : {X : Type 0} (xs : List X) (x y : X) (j : ℕ) → slice_get (xs ++ x ∷ []) j ≡ Some y →
    (slice_get xs j ≡ Some y) ⊎ ((j ≡ length xs) × (x ≡ y))
get_pushed [] x y zero e = inr (refl, some_same x y e)
get_pushed [] x y (suc j) e = cc
get_pushed (z ∷ xs) x y zero e = inl e
get_pushed (z ∷ xs) x y (suc j) e =
    ⊎_elim (λ (old : slice_get xs j ≡ Some y). inl old)
    (λ (new : (j ≡ length xs) × (x ≡ y)). inr (ap suc new.0, new.1)) (get_pushed xs x y j e)

-- one block more
pub block_more : (r : Routed) (b : ℕ) (blocks new : List LBlock) (x : LBlock) → new ≡ blocks
    ++ x ∷ [] → x.end ≡ end_of r.code b → LaysMoves r b 0 (code_of r.code b) x.code →
    AreBlocks r b blocks → AreBlocks r (b + 1) new
block_more r b blocks new x is end lays so = subst (AreBlocks r (b + 1)) (sym is)
    (record { count = count; ends = ends; lays = all })
  where
    count : length (blocks ++ x ∷ []) ≡ b + 1
    count = let many = length-append blocks (x ∷ []) in let old = so.count in
        omega (arith, many, old)

    ends : (c : ℕ) (block : LBlock) → slice_get (blocks ++ x ∷ []) c ≡ Some block → block.end ≡
        end_of r.code c
    ends c block e =
        ⊎_elim
        (λ (old : slice_get blocks c ≡ Some block). so.ends c block old)
        (λ (here : (c ≡ length blocks) × (x ≡ block)).
        ap (λ (y : LBlock). y.end) (sym here.1) ∙ end ∙ ap (end_of r.code)
        (sym (here.0 ∙ so.count)))
        (get_pushed blocks x block c e)

    all : (c : ℕ) (block : LBlock) → slice_get (blocks ++ x ∷ []) c ≡ Some block →
        LaysMoves r c 0 (code_of r.code c) block.code
    all c block e =
        ⊎_elim
        (λ (old : slice_get blocks c ≡ Some block). so.lays c block old)
        (λ (here : (c ≡ length blocks) × (x ≡ block)).
        subst (λ (n : ℕ). LaysMoves r n 0 (code_of r.code n) block.code) (sym (here.0 ∙ so.count))
        (subst (λ (y : LBlock). LaysMoves r b 0 (code_of r.code b) y.code) here.1 lays))
        (get_pushed blocks x block c e)

module _ (code : VProc) (net : Net) (routes : Routes) (is : IsNet net code)
    (has : AreRoutes net routes) (admitted : IsAdmitted net (flow net routes))
    (sized : IsSized code) where
  abbrev r : Routed
  r = routed code net routes

  pub is_formed : IsFormed net
  is_formed = formed all_tables code net is sized

  -- the variables of strands are there
  pub vars_in : All (λ t. t.var.0 < length code.vars) net.strands
  vars_in k d lt = (net_strand all_tables code net is k _ (slice_get-get_or net.strands k d lt)).var

  module _ (layers : List (List Pair)) (long : length layers ≡ layer_total net.blocks)
      (pairs : (n : ℕ) → layer layers n ≡ pairs_into code net n (flow net routes)) (b first : ℕ)
      (b_in : b < length code.blocks) (begins : first ≡ first_layer net.blocks b) where
    layer_is : (l : ℕ) → l < 2 * length (code_of code b) + 2 → layer layers (first + l) ≡
        pairs_at r b l
    layer_is l lt = pairs (first + l) ∙ ap (λ n. pairs_into code net (n + l) (flow net routes))
        begins ∙ layer_pairs code net routes is is_formed has admitted b l b_in lt

    pub within : first + 2 * length (code_of code b) + 2 ≤ length layers
    within =
        let many = blocks_many code net routes is is_formed has admitted in
        let most = sum_by_more_le (λ (k : NetBlock). k.layers) net.blocks b no_block
        (omega (arith, many, b_in)) in
        let here = layers_of_block code net routes is is_formed has admitted b b_in in
        omega (arith, most, here, long, begins)

    pub movable : (k : ℕ) → k ≤ length (code_of code b) →
        IsTrue (can_move (layer layers (first + 2 * k + 1)))
    movable k le =
        let odd : first + 2 * k + 1 ≡ first + (2 * k + 1) = omega arith in
        ap can_move (ap (layer layers) odd ∙ layer_is (2 * k + 1) (omega (arith, le)))
        ∙ can_move_at code net routes is has admitted b k

    pub are_layers : AreLayers r b (code_of code b) first layers
    are_layers = record {
      pairs = layer_is;
      operands = λ k i here. all_brought code net routes is has admitted sized b k i here b_in;
    }
