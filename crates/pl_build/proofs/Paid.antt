-- All moves of a procedure have at most so many bytes as the ways of its edges weigh by size.
use Rattle.std.proofs.Common.{◌≡◌, ℕ, zero, suc, ◌+◌, ◌*◌, ◌^◌, ◌%◌, ◌≤◌, inl, inr, Bool, true}
use Rattle.std.proofs.Common.{false, cond, not, ◌&&◌, if◌then◌else◌, List, [], ◌∷◌, ◌++◌, length}
use Rattle.std.proofs.Common.{map, filter, sum_by, All, slice_get, Option, Some, None, refl, sym}
use Rattle.std.proofs.Common.{ap, subst, ◌∙◌, arith}
use Rattle.std.specs.Prelude.{nat_eq, slice_index}
use Rattle.std.specs.List.{range_with_len, filter_map}
use Rattle.std.proofs.lemmas.Bool.{eqb-true, eq-eqb, ne_eqb}
use Rattle.std.proofs.lemmas.List.Sums.{sum_by-cons, sum_by-append}
use Rattle.pra_list.specs.Among.{Among}
use Rattle.pra_base.specs.declared.ids.Place.{Place}
use Rattle.pra_base.specs.declared.ids.Place.TheVariants.{Eax, Ecx, Edx, Ebx, Esi, Edi, Mem, Const}
use Rattle.pra_base.specs.declared.ids.Place.TheVariants.{EaxM, EcxM, EdxM, EbxM, EsiM, EdiM}
use Rattle.pra_base.specs.declared.code.VarKind.{VarKind}
use Rattle.pra_base.specs.declared.code.VarKind.TheVariants.{Param, Plain, Constant}
use Rattle.pra_base.specs.declared.code.VInstr.{VInstr}
use Rattle.pra_base.specs.declared.code.VProc.{VProc}
use Rattle.pra_base.specs.Code.{kind_of, code_of}
use Rattle.pra_base.specs.Places.{number, needs_slot}
use Rattle.net_cost.specs.Weights.{size_weights, weight_at}
use Rattle.net_form.specs.declared.net.Strand.{Strand}
use Rattle.net_form.specs.declared.net.Net.{Net}
use Rattle.net_form.specs.declared.routes.Routes.{Routes}
use Rattle.net_form.specs.Admitted.{strand_at, is_across, IsAdmitted}
use Rattle.net_form.specs.Cost.{events_from, events_weight, way_cost, depth_at}
use Rattle.net_form.specs.Flow.{Edge, flow, AreRoutes}
use Rattle.net_form.specs.Network.{IsNet}
use Rattle.net_form.specs.Strands.{is_constant}
use Rattle.net_form.specs.Tables.{all_tables, begun}
use Rattle.pl_moves.specs.declared.transfer.Move.{Move}
use Rattle.pl_moves.specs.Assignment.{suits}
use Rattle.pl_moves.specs.Crossbar.{events, crossbar}
use Rattle.pl_moves.specs.Lengths.{move_bytes}
use Rattle.pl_place.proofs.MovesArePaid.{moves_paid}
use Rattle.pl_made.specs.Made.{MovesAt, LaysMoves, IsMade}
use Rattle.pl_place.specs.declared.placed.LInstr.{LInstr}
use Rattle.pl_place.specs.declared.placed.LInstr.TheVariants as placed
use Rattle.pl_place.specs.declared.placed.LBlock.{LBlock}
use Rattle.pl_place.specs.declared.placed.LProc.{LProc}
use Rattle.pl_place.specs.Behind.{Routed, strand_by, comes_at, constant, from_place, pair_of}
use Rattle.pl_place.specs.Behind.{pairs_at, operand_places, IsOp}
use Rattle.net_form.specs.Network.{ties}
use Rattle.net_form.specs.Strands.{strands}
use Rattle.net_laws.proofs.Runs.{IsRun, net_runs}
use Rattle.pl_routed.specs.Routed.{routed}
use Rattle.pra_list.proofs.Among.{in_all, in_at, of_filter, sum_zero}
use Rattle.pl_routed.proofs.Lives.{changes, begins_constant}
use Rattle.pl_routed.proofs.Present.{live as live_of, its_strand, brings_edge, edge_inside}
use Rattle.pl_routed.proofs.Present.{edge_from, From}
use Rattle.pl_routed.proofs.Present.From.{Begins, Goes}
use Rattle.pl_routed.proofs.Transferred.{At, edge_suits}
use Rattle.pl_build.specs.Placement.{move_of, moves_of}
use Rattle.pl_build.proofs.Spread.{sum_flat, sum_in_order, sum_less, taken, taken_all, spread}
use Rattle.pl_build.proofs.Spread.{one_bit}

-- ---- the moves of a block, layer by layer

only_moves : (ms : List Move) (rest : List LInstr) →
    filter_map move_of (map placed.Move ms ++ rest) ≡ ms ++ filter_map move_of rest
only_moves [] rest = refl
only_moves (m ∷ ms) rest = ap (λ xs. m ∷ xs) (only_moves ms rest)

no_move : (op : LInstr) (i : VInstr) (ps : List (Option Place)) (rest : List LInstr) →
    IsOp op i ps → filter_map move_of (op ∷ rest) ≡ filter_map move_of rest
no_move (placed.Op j places) i ps rest is = refl
no_move (placed.Move m) i ps rest is = absurd is

module _ (r : Routed) (b : ℕ) (near : Bool) where
  abbrev pub bytes : List Move → ℕ
  bytes ms = sum_by (move_bytes near) ms

  -- what the ways into layer 2 * k + 1 weigh
  abbrev pub ways : ℕ → ℕ
  ways k = events_weight size_weights 0 (events near (pairs_at r b (2 * k + 1)))

  layer_paid : (k : ℕ) (ms : List Move) → MovesAt r b (2 * k + 1) ms → bytes ms ≤ ways k
  layer_paid k ms at = moves_paid near ms (pairs_at r b (2 * k + 1)) (at.counted near)

  pub block_paid : (k : ℕ) (is : List VInstr) (left : List LInstr) → LaysMoves r b k is left →
      bytes (filter_map move_of left) ≤ sum_by ways (range_with_len k (suc (length is)))
  block_paid k [] left lays =
      let all : filter_map move_of left ≡ lays.0 = ap (filter_map move_of) lays.1
      ∙ moves_alone lays.0 in
      let same = ap bytes all in
      let paid = layer_paid k lays.0 lays.2 in
      let one = sum_by-cons ways k [] in
      omega (arith, same, paid, one)
    where
      moves_alone : (ms : List Move) → filter_map move_of (map placed.Move ms) ≡ ms
      moves_alone [] = refl
      moves_alone (m ∷ ms) = ap (λ xs. m ∷ xs) (moves_alone ms)
  block_paid k (i ∷ is) left lays =
      let all : filter_map move_of left ≡ lays.0 ++ filter_map move_of lays.2 =
      ap (filter_map move_of) lays.3 ∙ only_moves lays.0 (lays.1 ∷ lays.2) ∙ ap (λ xs. lays.0 ++ xs)
      (no_move lays.1 i (operand_places r b k i) lays.2 lays.5) in
      let same = ap bytes all ∙ sum_by-append (move_bytes near) lays.0
      (filter_map move_of lays.2) in
      let paid = layer_paid k lays.0 lays.4 in
      let more : bytes (filter_map move_of lays.2) ≤
      sum_by ways (range_with_len (k + 1) (suc (length is))) =
      (let e : suc k ≡ k + 1 = omega arith in
      subst (λ n. bytes (filter_map move_of lays.2) ≤
      sum_by ways (range_with_len n (suc (length is)))) e (block_paid (suc k) is lays.2 lays.6))
      in
      let one = sum_by-cons ways k (range_with_len (k + 1) (suc (length is))) in
      omega (arith, same, paid, more, one)

-- ---- what a way weighs

one_power : (d : ℕ) → 1 ^ d ≡ 1
one_power zero = refl
one_power (suc d) = let more = one_power d in omega (arith, more)

-- by size the loop depth is all the same
any_depth : (d : ℕ) (es : List ℕ) → events_weight size_weights d es ≡
    events_weight size_weights 0 es
any_depth d [] = refl
any_depth d (e ∷ es) =
    let one = sum_by-cons (λ n. weight_at size_weights n d) e es in
    let other = sum_by-cons (λ n. weight_at size_weights n 0) e es in
    let first : weight_at size_weights e d ≡ weight_at size_weights e 0 =
    ap (λ n. slice_index size_weights.list e * n) (one_power d) in
    let more = any_depth d es in
    omega (arith, one, other, first, more)

-- a constant that begins before an instruction is made there
begins_as : (near : Bool) (q : Place) → needs_slot (number q) ≡ false → crossbar near (number Const)
    (number q) ≡ begun true q
begins_as near Mem e = cc
begins_as near EaxM e = cc
begins_as near EcxM e = cc
begins_as near EdxM e = cc
begins_as near EbxM e = cc
begins_as near EsiM e = cc
begins_as near EdiM e = cc
begins_as near x e = refl

constant_kind : (kind : VarKind) → changes kind ≡ false → is_constant kind ≡ true
constant_kind (Param i) e = cc
constant_kind Plain e = cc
constant_kind (Constant n) e = refl

constant_place : (kind : VarKind) (q : ℕ) → changes kind ≡ false → suits (constant kind) q ≡ true →
    needs_slot q ≡ false
constant_place (Param i) q e s = cc
constant_place Plain q e s = cc
constant_place (Constant n) q e s = not_true (needs_slot q) s
  where
    not_true : (a : Bool) → not a ≡ true → a ≡ false
    not_true true e = cc
    not_true false e = refl

module _ (code : VProc) (net : Net) (routes : Routes) (is : IsNet net code)
    (has : AreRoutes net routes) (admitted : IsAdmitted net (flow net routes)) where
  abbrev r : Routed
  r = routed code net routes

  abbrev w : Edge → ℕ
  w e = way_cost all_tables net size_weights e

  abbrev pair_events : Edge → List ℕ
  pair_events e = crossbar net.near (number (from_place e.from)) (number e.to)

  strand_constant : (e : Edge) (s : ℕ) (t : Strand) → slice_get net.strands s ≡ Some t →
      t.constant ≡ is_constant (kind_of code t.var.0)
  strand_constant e s t at =
      (in_all (IsRun code (live_of all_tables code net is)) net.strands runs t
      (in_at net.strands s t at)).constant
    where
      runs : All (IsRun code (live_of all_tables code net is)) net.strands
      runs = subst (All (IsRun code (live_of all_tables code net is)))
          (sym (ap (λ (n : Net). n.strands) is.is))
          (net_runs code (live_of all_tables code net is)
          (ties code (strands all_tables code (live_of all_tables code net is))) is.least)

  module _ (b k : ℕ) where
    abbrev l : ℕ
    l = 2 * k + 1

    abbrev var : Edge → ℕ
    var e = (strand_by r e).var.0

    odd : (e : Edge) → e.layer ≡ l → is_across e ≡ false
    odd e at = let one : e.layer % 2 ≡ 1 = omega (arith, at) in
        ne_eqb (e.layer % 2) 0 (λ zero_. omega (arith, one, zero_))

    way_events : (e : Edge) (o : Option Place) → e.from ≡ o → At code net is routes has admitted b l
        (var e) e → pair_events e ≡ events_from all_tables net e o
    way_events e (Some p) from at =
        ap (λ x. crossbar net.near (number (from_place x)) (number e.to)) from
        ∙ sym (ap (λ t. if t then [] else crossbar net.near (number p) (number e.to))
        (odd e at.layer))
    way_events e None from at =
        by_from (edge_from all_tables code net is routes has admitted b l (var e) e at)
      where
        none_some : (q : Place) → e.from ≡ Some q → ⊥
        none_some q some = cc

        by_from : From all_tables code net is routes has admitted b l (var e) e → pair_events e ≡
            events_from all_tables net e None
        by_from (Goes m d one there some) = absurd (none_some d.to some)
        by_from (Begins none before) =
            let inside = edge_inside all_tables code net is routes has admitted b l (var e) e at in
            let one : suc (2 * k) ≡ 2 * k + 1 = omega arith in
            let kind : changes (kind_of code (var e)) ≡ false =
            begins_constant code (live_of all_tables code net is) is.is_live (var e) b k inside.var
            inside.block inside.layer inside.present (before (2 * k) one) in
            let place = constant_place (kind_of code (var e)) (number e.to) kind
            (edge_suits code net is routes has admitted b l (var e) e at) in
            let strand = its_strand all_tables code net is routes has admitted e at.route in
            let flag : (strand_at net e.strand).constant ≡ true =
            ap (λ (t : Strand). t.constant) strand ∙ strand_constant e at.route.number
            at.route.strand at.route.is_strand
            ∙ ap (λ (t : Strand). is_constant (kind_of code t.var.0)) (sym strand)
            ∙ constant_kind (kind_of code (var e)) kind in
            ap (λ x. crossbar net.near (number (from_place x)) (number e.to)) from
            ∙ begins_as net.near e.to place
            ∙ ap (λ c. begun c e.to) (sym flag)

    edge_weighs : (e : Edge) → Among e (flow net routes) → comes_at r b l e ≡ true →
        events_weight size_weights 0 (pair_events e) ≡ w e
    edge_weighs e i t =
        let at = brings_edge all_tables code net is routes has admitted b l (var e) e i
        (both_true (nat_eq (var e) (var e)) (comes_at r b l e) (eq-eqb (var e) (var e) refl) t)
        in
        ap (events_weight size_weights 0) (way_events e e.from refl at)
        ∙ sym (any_depth (depth_at net e.strand) (events_from all_tables net e e.from))
      where
        both_true : (a c : Bool) → a ≡ true → c ≡ true → (a && c) ≡ true
        both_true a c e f = rw (e, f) refl

    edges_weigh : (es : List Edge) →
        ((e : Edge) → Among e es → events_weight size_weights 0 (pair_events e) ≡ w e) →
        events_weight size_weights 0 (events net.near (map (pair_of r) es)) ≡ sum_by w es
    edges_weigh [] each = refl
    edges_weigh (e ∷ es) each =
        let one = sum_by-append (λ n. weight_at size_weights n 0) (pair_events e)
        (events net.near (map (pair_of r) es)) in
        let two = sum_by-cons w e es in
        let first = each e (inl refl) in
        let more = edges_weigh es (λ d i. each d (inr i)) in
        omega (arith, one, two, first, more)

    ways_weigh : ways r b net.near k ≡ taken w (comes_at r b l) (flow net routes)
    ways_weigh = edges_weigh (filter (comes_at r b l) (flow net routes))
        (λ e i. let f = of_filter (comes_at r b l) (flow net routes) e i in edge_weighs e f.0 f.1)

  -- ---- all blocks

  abbrev in_block : ℕ → Edge → Bool
  in_block b e = nat_eq (strand_by r e).block.0 b

  -- an edge goes into one layer of its block
  one_way : (b n : ℕ) (e : Edge) (v : ℕ) → sum_by (λ k. cond (comes_at r b (2 * k + 1) e) v 0)
      (range_with_len 0 n) ≤ cond (in_block b e) v 0
  one_way b n e v = by_test (in_block b e)
    where
      by_test : (t : Bool) → sum_by (λ k. cond (t && nat_eq e.layer (2 * k + 1)) v 0)
          (range_with_len 0 n) ≤ cond t v 0
      by_test true = one_bit (λ k. nat_eq e.layer (2 * k + 1)) v 0 n (λ i j x y.
          let a = eqb-true e.layer (2 * i + 1) x in
          let c = eqb-true e.layer (2 * j + 1) y in
          omega (arith, a, c))
      by_test false = let none = sum_zero (λ k. 0) 0 n (λ i le. refl) in omega (arith, none)

  block_ways : (b n : ℕ) → sum_by (ways r b net.near) (range_with_len 0 n) ≤ taken w (in_block b)
      (flow net routes)
  block_ways b n =
      let less = sum_less (ways r b net.near)
      (λ k. taken w (comes_at r b (2 * k + 1)) (flow net routes)) 0 n
      (λ k. let same = ways_weigh b k in omega (arith, same)) in
      let all = spread w (λ k. comes_at r b (2 * k + 1)) (in_block b) 0 n (flow net routes)
      (one_way b n) in
      omega (arith, less, all)

  one_block : (n : ℕ) (e : Edge) (v : ℕ) → sum_by (λ b. cond (in_block b e) v 0)
      (range_with_len 0 n) ≤ v
  one_block n e v = one_bit (λ b. in_block b e) v 0 n
      (λ i j x y. sym (eqb-true (strand_by r e).block.0 i x) ∙ eqb-true (strand_by r e).block.0 j y)

  all_blocks : (n : ℕ) → sum_by (λ b. taken w (in_block b) (flow net routes)) (range_with_len 0 n) ≤
      sum_by w (flow net routes)
  all_blocks n =
      let most = spread w in_block (λ e. true) 0 n (flow net routes) (one_block n) in
      let all = taken_all w (flow net routes) in
      omega (arith, most, all)

  pub all_paid : (p : LProc) → IsMade r p → sum_by (move_bytes p.near) (moves_of p) ≤
      sum_by w (flow net routes)
  all_paid p made =
      let near_is : p.near ≡ net.near = made.near_is ∙ sym (ap (λ (n : Net). n.near) is.is) in
      let flat = sum_flat (move_bytes net.near) (λ (block : LBlock). filter_map move_of block.code)
      p.blocks in
      let each = sum_in_order (λ (block : LBlock). sum_by (move_bytes net.near)
      (filter_map move_of block.code)) (λ b. taken w (in_block b) (flow net routes)) 0 p.blocks
      (λ b block at.
      let paid = block_paid r b net.near 0 (code_of code b) block.code (made.lays b block at) in
      let most = block_ways b (suc (length (code_of code b))) in
      let e : 0 + b ≡ b = omega arith in
      subst (λ n. sum_by (move_bytes net.near) (filter_map move_of block.code) ≤
      taken w (in_block n) (flow net routes)) (sym e) (omega (arith, paid, most))) in
      let most = all_blocks (length p.blocks) in
      subst (λ near. sum_by (move_bytes near) (moves_of p) ≤ sum_by w (flow net routes))
      (sym near_is) (omega (arith, flat, each, most))
