-- The moves of a layer transfer the allocation of the layer before it to its own.
use Rattle.std.proofs.Common.{◌≡◌, ◌≢◌, ℕ, suc, ◌+◌, ◌*◌, inl, inr, ⊎_elim, Bool, true, false, not}
use Rattle.std.proofs.Common.{◌&&◌, nat_eq, List, [], slice_index_or, Option, Some, None, refl, sym}
use Rattle.std.proofs.Common.{ap, subst, ◌∙◌, arith}
use Rattle.std.specs.Prelude.{option_map}
use Rattle.pra_list.proofs.Truths.{true_false, truth}
use Rattle.pra_list.specs.Among.{Among}
use Rattle.pra_list.proofs.Options.{some_same}
use Rattle.pra_base.specs.declared.ids.Place.{Place}
use Rattle.pra_base.specs.declared.ids.Place.TheVariants.{Const}
use Rattle.pra_base.specs.declared.code.VarKind.{VarKind}
use Rattle.pra_base.specs.declared.code.VarKind.TheVariants.{Plain}
use Rattle.pra_base.specs.declared.code.VProc.{VProc}
use Rattle.pra_base.specs.Code as code_of_
use Rattle.pra_base.specs.Places.{number, has_register, register_of, needs_slot}
use Rattle.net_form.specs.declared.net.Strand.{Strand}
use Rattle.net_form.specs.declared.net.Net.{Net}
use Rattle.net_form.specs.declared.routes.Routes.{Routes}
use Rattle.net_form.specs.Tables.{all_tables}
use Rattle.net_form.specs.Network.{IsNet}
use Rattle.net_form.specs.Flow.{Edge, flow, AreRoutes}
use Rattle.net_form.specs.Admitted.{in_register, IsAdmitted}
use Rattle.pl_moves.specs.declared.transfer.Pair.{Pair}
use Rattle.pl_moves.specs.declared.transfer.Move.{Move}
use Rattle.pl_moves.specs.Meaning.{Register, Memory}
use Rattle.pl_moves.specs.Assignment.{suits, into_memory, fills, origin, source, Assigns}
use Rattle.pl_place.specs.declared.placed.LProc.{LProc}
use Rattle.pl_place.specs.Placed.{kind_of}
use Rattle.pl_place.specs.Machine.{cells}
use Rattle.pl_place.specs.Behind.{Routed, strand_by, comes_at, where_is, constant, from_place}
use Rattle.pl_place.specs.Behind.{pair_of, pairs_at}
use Rattle.pra_list.specs.Each.{Each}
use Rattle.pl_simulation.specs.Correspondence.{Allocation, InCells, ComesFrom, Brings, Transfers}
use Rattle.pra_list.proofs.Among.{in_filter, of_filter, in_map, of_map}
use Rattle.pl_routed.proofs.Present.{EdgeAt, r as routed, live as live_of, edge_of_place}
use Rattle.pl_routed.proofs.Present.{place_of_edge, brings_edge, one_edge, edge_inside, edge_mask}
use Rattle.pl_routed.proofs.Present.{edge_from, From, edge_apart, its_strand, nat_is, is_nat}
use Rattle.pl_routed.proofs.Present.{in_the_flow}
use Rattle.pl_routed.proofs.Present.From.{Begins, Goes}
use Rattle.pl_routed.proofs.Masks.{place_suits}
use Rattle.pl_routed.proofs.Lives.{changes, begins_constant}
use Rattle.pl_routed.proofs.Sources.{source_of, source_kept, numbers_stay, origin_among}
use Rattle.pl_routed.proofs.Sources.{memory_among, each_cell, some_cells, const_or, constant_at}

pub mapped_some : (o : Option Place) (n : ℕ) → option_map number o ≡ Some n → (q : Place) ×
    (o ≡ Some q) × (number q ≡ n)
mapped_some None n e = cc
mapped_some (Some q) n e = (q, refl, some_same (number q) n e)

module _ (code : VProc) (net : Net) (is : IsNet net code) (routes : Routes)
    (has : AreRoutes net routes) (admitted : IsAdmitted net (flow net routes)) where
  abbrev r : Routed
  r = routed all_tables code net is routes has admitted

  abbrev pub At : ℕ → ℕ → ℕ → Edge → Type 0
  At b l v e = EdgeAt all_tables code net is routes has admitted b l v e

  -- where the variables are at a layer
  abbrev pub alloc : ℕ → ℕ → Allocation
  alloc b l v = option_map number (where_is r b l v)

  pub edge_of : (b l v n : ℕ) → alloc b l v ≡ Some n → (e : Edge) × At b l v e × (number e.to ≡ n)
  edge_of b l v n e =
      let q = mapped_some (where_is r b l v) n e in
      let x = edge_of_place all_tables code net is routes has admitted b l v q.0 q.1 in
      (x.0, x.1, ap number x.2 ∙ q.2)

  pub of_edge : (b l v : ℕ) (e : Edge) → At b l v e → alloc b l v ≡ Some (number e.to)
  of_edge b l v e at = ap (option_map number)
      (place_of_edge all_tables code net is routes has admitted b l v e at)

  pub edge_suits : (b l v : ℕ) (e : Edge) → At b l v e → suits (constant (code_of_.kind_of code v))
      (number e.to) ≡ true
  edge_suits b l v e at = place_suits code (live_of all_tables code net is) v b l e.to
      (edge_mask all_tables code net is routes has admitted b l v e at)

  -- ---- one edge's pair

  module _ (p : LProc) (vars : p.vars ≡ code.vars) where
    pub same_kind : (v : ℕ) → kind_of p v ≡ code_of_.kind_of code v
    same_kind v = ap (λ (ks : List VarKind). slice_index_or ks v Plain) vars

    pub cells_there : (b l v : ℕ) (e : Edge) → At b l v e → cells p v (number e.to) ≢ []
    cells_there b l v e at =
        some_cells p v e.to (ap (λ k. suits (constant k) (number e.to)) (same_kind v)
        ∙ edge_suits b l v e at)

    module _ (b k v : ℕ) (e : Edge) (at : At b (2 * k + 1) v e) where
      abbrev pairs : List Pair
      pairs = pairs_at r b (2 * k + 1)

      abbrev x : Pair
      x = pair_of r e

      abbrev from : Place
      from = from_place e.from

      var : (strand_by r e).var.0 ≡ v
      var = ap (λ (t : Strand). t.var.0)
          (its_strand all_tables code net is routes has admitted e at.route) ∙ at.covers.var

      block : (strand_by r e).block.0 ≡ b
      block = ap (λ (t : Strand). t.block.0)
          (its_strand all_tables code net is routes has admitted e at.route) ∙ at.covers.block

      both_true : (c d : Bool) → c ≡ true → d ≡ true → (c && d) ≡ true
      both_true c d f g = rw (f, g) refl

      is_in : Among x pairs
      is_in = in_map (pair_of r) _ e
          (in_filter (comes_at r b (2 * k + 1)) (flow net routes) e
          (in_the_flow all_tables code net is routes has admitted b (2 * k + 1) v e at)
          (both_true (nat_eq (strand_by r e).block.0 b) (nat_eq e.layer (2 * k + 1))
          (is_nat all_tables code net is routes has admitted (strand_by r e).block.0 b block)
          (is_nat all_tables code net is routes has admitted e.layer (2 * k + 1) at.layer)))

      -- a pair of this layer is of an edge of it
      edge_of_pair : (y : Pair) → Among y pairs → (d : Edge) × (y ≡ pair_of r d) ×
          At b (2 * k + 1) (strand_by r d).var.0 d
      edge_of_pair y i =
          let d = of_map (pair_of r) _ y i in
          let f = of_filter (comes_at r b (2 * k + 1)) (flow net routes) d.0 d.1 in (
            d.0,
            d.2,
            brings_edge all_tables code net is routes has admitted b (2 * k + 1)
                (strand_by r d.0).var.0 d.0 f.0
                (both_true (nat_eq (strand_by r d.0).var.0 (strand_by r d.0).var.0)
                (comes_at r b (2 * k + 1) d.0)
                (is_nat all_tables code net is routes has admitted (strand_by r d.0).var.0
                (strand_by r d.0).var.0 refl) f.1),
          )

      same_edge : (d : Edge) → At b (2 * k + 1) (strand_by r d).var.0 d → (strand_by r d).var.0 ≡
          v → d ≡ e
      same_edge d c same = one_edge all_tables code net is routes has admitted b (2 * k + 1) v d e
          (subst (λ w. At b (2 * k + 1) w d) same c) at

      -- the pairs that fill a cell of the place
      one_register : has_register (number e.to) ≡ true → (y : Pair) → Among y pairs →
          fills y (Register (register_of (number e.to))) ≡ true → y ≡ x
      one_register h y i t =
          let d = edge_of_pair y i in
          let here : in_register (register_of (number e.to)) e.to ≡ true =
          both_true (has_register (number e.to))
          (nat_eq (register_of (number e.to)) (register_of (number e.to))) h
          (is_nat all_tables code net is routes has admitted (register_of (number e.to))
          (register_of (number e.to)) refl) in
          let there : in_register (register_of (number e.to)) d.0.to ≡ true =
          ap (λ (z : Pair). fills z (Register (register_of (number e.to)))) (sym d.1) ∙ t in
          let same = edge_apart all_tables code net is routes has admitted b (2 * k + 1)
          (strand_by r d.0).var.0 v (register_of (number e.to)) d.0 e d.2 at there here in
          d.1 ∙ ap (pair_of r) (same_edge d.0 d.2 same)

      memory_var : (y : Pair) → Among y pairs → fills y (Memory v) ≡ true → y ≡ x
      memory_var y i t =
          let d = edge_of_pair y i in
          let parts = split (into_memory y) (nat_eq y.var.0 v) t in
          let same : (strand_by r d.0).var.0 ≡ v = ap (λ (z : Pair). z.var.0) (sym d.1)
          ∙ nat_is all_tables code net is routes has admitted y.var.0 v parts.1 in
          d.1 ∙ ap (pair_of r) (same_edge d.0 d.2 same)
        where
          split : (c d : Bool) → (c && d) ≡ true → (c ≡ true) × (d ≡ true)
          split true d e = (refl, e)
          split false d e = cc

      -- what comes from nowhere is a constant
      from_const : from ≡ Const → changes (kind_of p v) ≡ false
      from_const e_is = ap changes (same_kind v)
          ∙ by_from (edge_from all_tables code net is routes has admitted b (2 * k + 1) v e at)
        where
          by_from : From all_tables code net is routes has admitted b (2 * k + 1) v e →
              changes (code_of_.kind_of code v) ≡ false
          by_from (Begins none before) =
              let inside = edge_inside all_tables code net is routes has admitted b (2 * k + 1) v e
              at in
              let one : suc (2 * k) ≡ 2 * k + 1 = omega arith in
              begins_constant code (live_of all_tables code net is) is.is_live v b k inside.var
              inside.block inside.layer inside.present (before (2 * k) one)
          by_from (Goes m d one there same) =
              let to_const : d.to ≡ Const = ap from_place (sym same) ∙ e_is in
              constant_at (code_of_.kind_of code v)
              (ap (λ (q : Place). suits (constant (code_of_.kind_of code v)) (number q))
              (sym to_const) ∙ edge_suits b m v d there)

      origin_in : Among (origin x) (cells p v (number from))
      origin_in = origin_among p v x.var.0 x.constant from var
          (ap (λ w. constant (code_of_.kind_of code w)) var ∙ ap constant (sym (same_kind v)))
          from_const

      register_from : has_register (number e.to) ≡ true →
          Among (source pairs (Register (register_of (number e.to)))) (cells p v (number from))
      register_from h =
          let t : fills x (Register (register_of (number e.to))) ≡ true =
          both_true (has_register (number e.to))
          (nat_eq (register_of (number e.to)) (register_of (number e.to))) h
          (is_nat all_tables code net is routes has admitted (register_of (number e.to))
          (register_of (number e.to)) refl) in
          subst (λ c. Among c (cells p v (number from)))
          (sym (source_of pairs (Register (register_of (number e.to))) x is_in t
          (one_register h))) origin_in

      memory_from : needs_slot (number e.to) ≡ true → Among (source pairs (Memory v))
          (cells p v (number from))
      memory_from h =
          ⊎_elim
          (λ (had : needs_slot (number from) ≡ true).
          let none : (y : Pair) → Among y pairs → fills y (Memory v) ≡ false =
          λ y i. false_from (fills y (Memory v))
          (λ t. let same = memory_var y i t in true_false (fills x (Memory v))
          (sym (ap (λ z. fills z (Memory v)) same) ∙ t)
          (kept (needs_slot (number e.to)) (needs_slot (number from)) (nat_eq x.var.0 v) had))
          in
          subst (λ c. Among c (cells p v (number from))) (sym (source_kept pairs (Memory v) none))
          (memory_among p v from had))
          (λ (had : needs_slot (number from) ≡ false).
          let t : fills x (Memory v) ≡ true = filled (needs_slot (number e.to))
          (needs_slot (number from)) (nat_eq x.var.0 v) h had
          (is_nat all_tables code net is routes has admitted x.var.0 v var) in
          subst (λ c. Among c (cells p v (number from)))
          (sym (source_of pairs (Memory v) x is_in t memory_var)) origin_in)
          (truth (needs_slot (number from)))
        where
          false_from : (c : Bool) → (c ≡ true → ⊥) → c ≡ false
          false_from true f = absurd (f refl)
          false_from false f = refl

          kept : (a c d : Bool) → c ≡ true → ((a && not c) && d) ≡ false
          kept true c d f = rw f refl
          kept false c d f = refl

          filled : (a c d : Bool) → a ≡ true → c ≡ false → d ≡ true → ((a && not c) && d) ≡ true
          filled a c d f g h = rw (f, g, h) refl

      -- from where it was, or from its number
      comes : ComesFrom (alloc b (2 * k)) v (number from)
      comes = by_from (edge_from all_tables code net is routes has admitted b (2 * k + 1) v e at)
        where
          by_from : From all_tables code net is routes has admitted b (2 * k + 1) v e →
              ComesFrom (alloc b (2 * k)) v (number (from_place e.from))
          by_from (Begins none before) = inr (ap (λ o. number (from_place o)) none)
          by_from (Goes m d one there same) =
              let layer : m ≡ 2 * k = omega (arith, one) in
              inl (of_edge b (2 * k) v d (subst (λ l. At b l v d) layer there)
              ∙ ap (λ o. Some (number (from_place o))) (sym same))

      brings_it : Brings p pairs (alloc b (2 * k)) v (number e.to)
      brings_it =
          ⊎_elim
          (λ (c : e.to ≡ Const).
          record {
            some = cells_there b (2 * k + 1) v e at;
            from = number Const;
            comes = inr refl;
            each = subst (λ (q : Place). Each
                (λ cell. Among (source pairs cell) (cells p v (number Const)))
                (cells p v (number q))) (sym c) (numbers_stay pairs (kind_of p v));
          })
          (λ (ne : e.to ≡ Const → ⊥).
          record {
            some = cells_there b (2 * k + 1) v e at;
            from = number from;
            comes = comes;
            each = each_cell (λ cell. Among (source pairs cell) (cells p v (number from))) p v e.to
                ne register_from memory_from;
          })
          (const_or e.to)

    -- ---- the moves before instruction k, or before the end

    pub transfers : (b k : ℕ) (ms : List Move) → Each (InCells p) ms →
        Assigns ms (pairs_at r b (2 * k + 1)) → Transfers p ms (alloc b (2 * k))
        (alloc b (2 * k + 1))
    transfers b k ms in_cells assigns = record {
      in_cells = in_cells;
      pairs = pairs_at r b (2 * k + 1);
      assigns = assigns;
      brings = λ v n e.
          let x = edge_of b (2 * k + 1) v n e in
          subst (λ q. Brings p (pairs_at r b (2 * k + 1)) (alloc b (2 * k)) v q) x.2
          (brings_it b k v x.0 x.1);
    }
