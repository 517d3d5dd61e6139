-- The pairs of a layer of a block, where the layers of all blocks are counted together.
use Rattle.std.proofs.Common.{◌≡◌, ℕ, zero, suc, ◌+◌, ◌<◌, ◌≤◌, inl, inr, Bool, true, false, cond}
use Rattle.std.proofs.Common.{List, [], ◌∷◌, length, get_or, take, map, filter, sum_by, refl, sym}
use Rattle.std.proofs.Common.{ap, ap₂, ◌∙◌, arith}
use Rattle.std.specs.Prelude.{nat_eq, slice_index_or}
use Rattle.std.proofs.lemmas.Bool.{eq-eqb, eqb-true, and_parts}
use Rattle.std.proofs.lemmas.List.{get_or-map, length-map, take_all}
use Rattle.std.proofs.lemmas.List.FromFn.{length-map-range_with_len, get_or-map-range_with_len}
use Rattle.std.proofs.lemmas.List.Sums.{sum_by-cons, sum_by_more, sum_by-take-le}
use Rattle.pra_list.proofs.Truths.{both_true}
use Rattle.pra_list.specs.Among.{Among}
use Rattle.pra_base.specs.declared.code.VProc.{VProc}
use Rattle.pra_base.specs.Code.{no_block as no_code}
use Rattle.net_form.specs.declared.net.NetBlock.{NetBlock}
use Rattle.net_form.specs.declared.net.NetIndex.{NetIndex}
use Rattle.net_form.specs.declared.net.Net.{Net}
use Rattle.net_form.specs.declared.routes.Routes.{Routes}
use Rattle.net_form.specs.Admitted.{layer_of, strand_at, IsAdmitted}
use Rattle.net_form.specs.Flow.{Edge, flow, AreRoutes}
use Rattle.net_form.specs.Formed.{IsFormed, no_block}
use Rattle.net_form.specs.Index.{first_layer}
use Rattle.net_form.specs.Network.{net_block, IsNet}
use Rattle.net_form.specs.Rooms.{layer_total}
use Rattle.net_form.specs.Strands.{layer_count}
use Rattle.net_form.specs.Tables.{all_tables}
use Rattle.pl_place.specs.Behind.{Routed, comes_at, pair_of, pairs_at}
use Rattle.pl_routed.specs.Routed.{routed}
use Rattle.pl_routed.proofs.Present.{brings_edge}
use Rattle.pl_routed.proofs.Present as present
use Rattle.pl_build.specs.Layers.{comes_into, pairs_into}

-- ---- layers counted together

abbrev pub layers_in : List NetBlock → ℕ → ℕ
layers_in blocks b = (slice_index_or blocks b no_block).layers

more : (x : NetBlock) (blocks : List NetBlock) (b : ℕ) → first_layer (x ∷ blocks) (suc b) ≡
    x.layers + first_layer blocks b
more x blocks b = sum_by-cons (λ (k : NetBlock). k.layers) x (take b blocks)

-- no two layers have one number
pub one_layer : (blocks : List NetBlock) (b c l m : ℕ) → l < layers_in blocks b →
    m < layers_in blocks c → first_layer blocks b + l ≡ first_layer blocks c + m → (b ≡ c) × (l ≡ m)
one_layer [] b c l m lt lt' same = absurd (omega (arith, lt))
one_layer (x ∷ blocks) zero zero l m lt lt' same = (refl, omega (arith, same))
one_layer (x ∷ blocks) zero (suc c) l m lt lt' same = let one = more x blocks c in
    absurd (omega (arith, lt, one, same))
one_layer (x ∷ blocks) (suc b) zero l m lt lt' same = let one = more x blocks b in
    absurd (omega (arith, lt', one, same))
one_layer (x ∷ blocks) (suc b) (suc c) l m lt lt' same =
    let one = more x blocks b in
    let two = more x blocks c in
    let s = one_layer blocks b c l m lt lt' (omega (arith, one, two, same)) in
    (ap suc s.0, s.1)

pub all_layers : (blocks : List NetBlock) → first_layer blocks (length blocks) ≡ layer_total blocks
all_layers blocks = ap (sum_by (λ (k : NetBlock). k.layers))
    (take_all (length blocks) blocks (omega arith))

pub next_block : (blocks : List NetBlock) (b : ℕ) → b < length blocks → first_layer blocks (b + 1) ≡
    first_layer blocks b + layers_in blocks b
next_block blocks b lt = sum_by_more (λ (k : NetBlock). k.layers) blocks b no_block lt

pub first_most : (blocks : List NetBlock) (b : ℕ) → first_layer blocks b ≤ layer_total blocks
first_most blocks b = sum_by-take-le (λ (k : NetBlock). k.layers) blocks b

module _ (net : Net) (formed : IsFormed net) where
  pub layers_long : length net.index.layers ≡ length net.blocks + 1
  layers_long = ap (λ (i : NetIndex). length i.layers) formed.index
      ∙ length-map-range_with_len (first_layer net.blocks) 0 (length net.blocks + 1)

  pub layers_at : (b : ℕ) → b ≤ length net.blocks → get_or net.index.layers b 0 ≡
      first_layer net.blocks b
  layers_at b le = ap (λ (i : NetIndex). get_or i.layers b 0) formed.index
      ∙ get_or-map-range_with_len (first_layer net.blocks) 0 (length net.blocks + 1) b b 0
      (omega (arith, le)) (omega arith)

-- ---- tests that agree

same_bool : (a b : Bool) → (a ≡ true → b ≡ true) → (b ≡ true → a ≡ true) → a ≡ b
same_bool true true f g = refl
same_bool true false f g = sym (f refl)
same_bool false true f g = g refl
same_bool false false f g = refl

filter_agrees : {X : Type 0} (p q : X → Bool) (xs : List X) → ((x : X) → Among x xs → p x ≡ q x) →
    filter p xs ≡ filter q xs
filter_agrees p q [] same = refl
filter_agrees p q (x ∷ xs) same =
    ap₂ (λ (b : Bool) (ys : List _). cond b (x ∷ ys) ys) (same x (inl refl))
    (filter_agrees p q xs (λ y i. same y (inr i)))

-- ---- a layer of a block

module _ (code : VProc) (net : Net) (routes : Routes) (is : IsNet net code) (formed : IsFormed net)
    (has : AreRoutes net routes) (admitted : IsAdmitted net (flow net routes)) where
  abbrev r : Routed
  r = routed code net routes

  pub blocks_are : net.blocks ≡ map net_block code.blocks
  blocks_are = ap (λ (n : Net). n.blocks) is.is

  pub blocks_many : length net.blocks ≡ length code.blocks
  blocks_many = ap length blocks_are ∙ length-map code.blocks net_block

  pub layers_of_block : (b : ℕ) → b < length code.blocks → layers_in net.blocks b ≡
      layer_count code b
  layers_of_block b lt = ap (λ (bs : List NetBlock). layers_in bs b) blocks_are
      ∙ ap (λ (k : NetBlock). k.layers) (get_or-map net_block code.blocks b no_code no_block lt)

  -- an edge comes to a layer of its block
  edge_within : (e : Edge) → Among e (flow net routes) → e.layer < layers_in net.blocks
      (strand_at net e.strand).block.0
  edge_within e i =
      let v = (strand_at net e.strand).var.0 in
      let b = (strand_at net e.strand).block.0 in
      let at = brings_edge all_tables code net is routes has admitted b e.layer v e i
      (both_true (nat_eq v v) (comes_at r b e.layer e) (eq-eqb v v refl)
      (both_true (nat_eq b b) (nat_eq e.layer e.layer) (eq-eqb b b refl)
      (eq-eqb e.layer e.layer refl))) in
      let inside = present.edge_inside all_tables code net is routes has admitted b e.layer v e
      at in
      let lt = inside.layer in
      let long = layers_of_block b inside.block in
      omega (arith, lt, long)

  comes : (b l : ℕ) → b < length code.blocks → l < layer_count code b → (e : Edge) →
      Among e (flow net routes) → comes_into net (first_layer net.blocks b + l) e ≡ comes_at r b l e
  comes b l b_in l_in e i =
      let c = (strand_at net e.strand).block.0 in
      same_bool (comes_into net (first_layer net.blocks b + l) e) (comes_at r b l e)
      (λ t.
      let long = layers_of_block b b_in in
      let one = one_layer net.blocks c b e.layer l (edge_within e i) (omega (arith, long, l_in))
      (eqb-true (layer_of net e) (first_layer net.blocks b + l) t) in
      both_true (nat_eq c b) (nat_eq e.layer l) (eq-eqb c b one.0) (eq-eqb e.layer l one.1))
      (λ t.
      let parts = and_parts (nat_eq c b) (nat_eq e.layer l) t in
      eq-eqb (layer_of net e) (first_layer net.blocks b + l)
      (ap₂ (λ (x y : ℕ). first_layer net.blocks x + y) (eqb-true c b parts.0)
      (eqb-true e.layer l parts.1)))

  pub layer_pairs : (b l : ℕ) → b < length code.blocks → l < layer_count code b →
      pairs_into code net (first_layer net.blocks b + l) (flow net routes) ≡ pairs_at r b l
  layer_pairs b l b_in l_in =
      ap (map (pair_of r)) (filter_agrees (comes_into net (first_layer net.blocks b + l))
      (comes_at r b l) (flow net routes) (comes b l b_in l_in))
