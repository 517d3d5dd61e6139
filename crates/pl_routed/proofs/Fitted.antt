-- An instruction fits the allocations before and behind it.
use Rattle.std.proofs.Common.{◌≡◌, ◌≢◌, ℕ, ℤ, suc, ◌+◌, ◌*◌, ◌%◌, inl, inr, ⊎_elim, Bool, true}
use Rattle.std.proofs.Common.{false, nat_eq, if◌then◌else◌, List, [], ◌∷◌, ◌++◌, length, map, drop}
use Rattle.std.proofs.Common.{Option, Some, refl, sym, ap, subst, ◌∙◌, arith, lit<}
use Rattle.std.specs.Prelude.{option_map}
use Rattle.std.specs.List.{list_any}
use Rattle.pra_base.proofs.Roles.{writes_among, among_writes}
use Rattle.pra_list.proofs.Elements.{head_same, tail_same, nil_cons}
use Rattle.pra_list.proofs.Truths.{true_false, truth}
use Rattle.pra_list.specs.Among.{Among}
use Rattle.net_form.specs.Strands.{roles_at}
use Rattle.std.proofs.lemmas.Bool.Decides.{nat_tests}
use Rattle.pra_base.specs.declared.ids.Place.{Place}
use Rattle.pra_base.specs.declared.ids.Place.TheVariants.{Eax, Ecx, Edx, Ebx, Esi, Edi, Mem, Const}
use Rattle.pra_base.specs.declared.ids.Place.TheVariants.{EaxM, EcxM, EdxM, EbxM, EsiM, EdiM}
use Rattle.pra_base.specs.declared.code.VarKind.{VarKind}
use Rattle.pra_base.specs.declared.code.VarKind.TheVariants.{Param, Plain, Constant}
use Rattle.pra_base.specs.declared.code.VInstr.{VInstr}
use Rattle.pra_base.specs.declared.code.VProc.{VProc}
use Rattle.pra_base.specs.Code.{instr_at}
use Rattle.pra_base.specs.Operands.{table, read_by, written_by, writes, is_role_of}
use Rattle.pra_base.specs.Places.{number, allows, has_register, register_of, needs_slot}
use Rattle.pra_base.specs.Valid.{ConstantsKept}
use Rattle.net_form.specs.declared.net.Net.{Net}
use Rattle.net_form.specs.declared.routes.Routes.{Routes}
use Rattle.net_form.specs.Tables.{all_tables}
use Rattle.net_form.specs.Network.{IsNet}
use Rattle.net_form.specs.Flow.{Edge, flow, AreRoutes}
use Rattle.net_form.specs.Admitted.{in_register, IsAdmitted}
use Rattle.vc_code.specs.Value.{Held}
use Rattle.vc_code.specs.Selected.{valued}
use Rattle.pl_moves.specs.Meaning.{Cell, Register, Memory, Fixed, same_cell}
use Rattle.pl_place.specs.declared.placed.LProc.{LProc}
use Rattle.pl_place.specs.Placed.{kind_of}
use Rattle.pl_place.specs.Machine.{cells, fixed}
use Rattle.pl_place.specs.Behind.{Routed, where_is}
use Rattle.pra_list.specs.Each.{Each}
use Rattle.pl_simulation.specs.Correspondence.{Allocation, IsCell, AllRead, Written, AllWritten}
use Rattle.pl_simulation.specs.Correspondence.{is_destroyed, Stays, FitsAt}
use Rattle.pl_routed.proofs.Present.{r as routed, live as live_of, edge_of_place, edge_inside}
use Rattle.pl_routed.proofs.Present.{edge_mask, edge_from, From, edge_stays, edge_apart, is_nat}
use Rattle.pl_routed.proofs.Present.From.{Begins, Goes}
use Rattle.pl_routed.proofs.Masks.{is_single, one_cell, kept_out, place_of_role, place_kept}
use Rattle.pl_routed.proofs.Lives.{was_present}
use Rattle.pl_routed.proofs.Sources.{each_cell, const_or}
use Rattle.pl_routed.proofs.Roles.{row_writes, written_role, roles_are, not_coming, clobbered_is}
use Rattle.pl_routed.proofs.Transferred.{At, alloc, edge_of, of_edge, same_kind}

cons_nil : {X : Type 0} (x : X) (xs : List X) → x ∷ xs ≡ [] → ⊥
cons_nil x xs e = cc

-- ---- the one cell of a written place

abbrev cell_at : Place → ℕ → Cell
cell_at q w = if has_register (number q) then Register (register_of (number q)) else Memory w

single_cells : (p : LProc) (w : ℕ) (q : Place) → is_single (number q) ≡ true →
    cells p w (number q) ≡ cell_at q w ∷ []
single_cells p w Const e = cc
single_cells p w EaxM e = cc
single_cells p w EcxM e = cc
single_cells p w EdxM e = cc
single_cells p w EbxM e = cc
single_cells p w EsiM e = cc
single_cells p w EdiM e = cc
single_cells p w x e = refl

single_is : (p : LProc) (w : ℕ) (q : Place) → is_single (number q) ≡ true →
    (needs_slot (number q) ≡ true → IsCell p (Memory w)) → IsCell p (cell_at q w)
single_is p w Eax e f = lit< tt
single_is p w Ecx e f = lit< tt
single_is p w Edx e f = lit< tt
single_is p w Ebx e f = lit< tt
single_is p w Esi e f = lit< tt
single_is p w Edi e f = lit< tt
single_is p w Mem e f = f refl
single_is p w x e f = cc

differ : (a b : ℕ) → (a ≡ b → ⊥) → nat_eq a b ≡ false
differ a b ne = grind (arith, nat_tests)

register_apart : (a w : ℕ) (q : Place) →
    (has_register (number q) ≡ true → a ≡ register_of (number q) → ⊥) →
    same_cell (Register a) (cell_at q w) ≡ false
register_apart a w q f = by_test (has_register (number q)) f
  where
    by_test : (t : Bool) → (t ≡ true → a ≡ register_of (number q) → ⊥) →
        same_cell (Register a) (if t then Register (register_of (number q)) else Memory w) ≡ false
    by_test true f = differ a (register_of (number q)) (f refl)
    by_test false f = refl

memory_apart : (v w : ℕ) (q : Place) → v ≢ w → same_cell (Memory v) (cell_at q w) ≡ false
memory_apart v w q ne = by_test (has_register (number q))
  where
    by_test : (t : Bool) → same_cell (Memory v)
        (if t then Register (register_of (number q)) else Memory w) ≡ false
    by_test true = refl
    by_test false = differ v w ne

fixed_apart : (kind : VarKind) (c : Cell) → Each (λ x. same_cell x c ≡ false) (fixed kind)
fixed_apart (Param i) c = tt
fixed_apart Plain c = tt
fixed_apart (Constant n) c = (same c, tt)
  where
    same : (c : Cell) → same_cell (Fixed n) c ≡ false
    same (Register r) = refl
    same x = refl

fixed_kept : (kind : VarKind) (c : ℕ) → Each (λ x. is_destroyed c x ≡ false) (fixed kind)
fixed_kept (Param i) c = tt
fixed_kept Plain c = tt
fixed_kept (Constant n) c = (refl, tt)

varies_by : (kind : VarKind) → ((n : ℤ) → kind ≡ Constant n → ⊥) → (x : Held) → valued kind x ≡ x
varies_by (Param i) f x = refl
varies_by Plain f x = refl
varies_by (Constant n) f x = absurd (f n refl)

-- ---- operands that are written, behind those that are read

module _ (f g : ℕ → Option Place) where
  pub written_part : (vs ws : List ℕ) (qs : List Place) → map Some qs ≡ map f vs ++ map g ws →
      (rest : List Place) × (drop (length vs) (map number qs) ≡ map number rest) ×
      (map Some rest ≡ map g ws)
  written_part [] ws qs e = (qs, refl, e)
  written_part (v ∷ vs) ws [] e = absurd (nil_cons _ _ e)
  written_part (v ∷ vs) ws (q ∷ qs) e =
      written_part vs ws qs (tail_same (Some q) (f v) (map Some qs) (map f vs ++ map g ws) e)

module _ (code : VProc) (net : Net) (is : IsNet net code) (routes : Routes)
    (has : AreRoutes net routes) (admitted : IsAdmitted net (flow net routes)) (p : LProc)
    (vars : p.vars ≡ code.vars) where
  abbrev r : Routed
  r = routed all_tables code net is routes has admitted

  abbrev EdgeIs : ℕ → ℕ → ℕ → Edge → Type 0
  EdgeIs b l v e = At code net is routes has admitted b l v e

  abbrev where_ : ℕ → ℕ → Allocation
  where_ b l = alloc code net is routes has admitted b l

  all_read : (b l : ℕ) (vs : List ℕ) (qs : List Place) (rest : List (Option Place)) → map Some qs ≡
      map (where_is r b l) vs ++ rest → AllRead (where_ b l) vs (map number qs)
  all_read b l [] qs rest e = tt
  all_read b l (v ∷ vs) [] rest e = absurd (nil_cons _ _ e)
  all_read b l (v ∷ vs) (q ∷ qs) rest e = (
    ap (option_map number) (sym
        (head_same (Some q) (where_is r b l v) (map Some qs) (map (where_is r b l) vs ++ rest) e)),
    all_read b l vs qs rest (tail_same (Some q) (where_is r b l v) (map Some qs)
        (map (where_is r b l) vs ++ rest) e),
  )

  all_written : (b l : ℕ) (ws : List ℕ) (qs : List Place) → map Some qs ≡ map (where_is r b l) ws →
      ((w : ℕ) (q : Place) → Among w ws → where_is r b l w ≡ Some q →
      Written p (where_ b l) w (number q)) → AllWritten p (where_ b l) ws (map number qs)
  all_written b l [] qs e f = tt
  all_written b l (w ∷ ws) [] e f = absurd (nil_cons _ _ e)
  all_written b l (w ∷ ws) (q ∷ qs) e f = (
    f w q (inl refl) (sym (head_same (Some q) (where_is r b l w) (map Some qs)
        (map (where_is r b l) ws) e)),
    all_written b l ws qs (tail_same (Some q) (where_is r b l w) (map Some qs)
        (map (where_is r b l) ws) e) (λ u x k. f u x (inr k)),
  )

  module _ (b k : ℕ) (i : VInstr) (here : instr_at code b k ≡ Some i)
      (constants : ConstantsKept code) (memory : (l v : ℕ) (e : Edge) → EdgeIs b l v e →
      needs_slot (number e.to) ≡ true → IsCell p (Memory v)) where
    abbrev l : ℕ
    l = 2 * k + 2

    no_constant : (w : ℕ) → Among w (written_by i) → (n : ℤ) → kind_of p w ≡ Constant n → ⊥
    no_constant w k_in n e = true_false (writes i w) (among_writes i w k_in)
        (constants w n (sym (same_kind code net is routes has admitted p vars w) ∙ e) b k i
        here).unwritten

    written_one : (w : ℕ) (e : Edge) → Among w (written_by i) → EdgeIs b l w e →
        Written p (where_ b l) w (number e.to)
    written_one w e k_in at =
        let role = written_role i w k_in in
        let mask = edge_mask all_tables code net is routes has admitted b l w e at in
        let live = live_of all_tables code net is in
        let single : is_single (number e.to) ≡ true =
        one_cell i w k_in e.to
        (ap (λ m. allows m (number e.to)) (sym role.mask)
        ∙ place_of_role code live w b l e.to mask role.role
        (subst (λ rs. Among role.role rs) (sym (roles_are code live b k i here)) role.in_row)
        (is_nat all_tables code net is routes has admitted role.role.var w role.var)
        (not_coming code live b k i here w)) in
        record {
          at_place = of_edge code net is routes has admitted b l w e at;
          cell = cell_at e.to w;
          one = single_cells p w e.to single;
          is_cell = single_is p w e.to single (memory l w e at);
          varies = varies_by (kind_of p w) (no_constant w k_in);
          apart = λ v n present ne.
              let d = edge_of code net is routes has admitted b l v n present in
              subst (λ q. Each (λ other. same_cell other (cell_at e.to w) ≡ false) (cells p v q))
              d.2
              (⊎_elim
              (λ (c : d.0.to ≡ Const).
              subst (λ (q : Place). Each (λ other. same_cell other (cell_at e.to w) ≡ false)
              (cells p v (number q))) (sym c) (fixed_apart (kind_of p v) (cell_at e.to w)))
              (λ (nc : d.0.to ≡ Const → ⊥).
              each_cell (λ other. same_cell other (cell_at e.to w) ≡ false) p v d.0.to nc
              (λ h. register_apart (register_of (number d.0.to)) w e.to
              (λ g same. ne (edge_apart all_tables code net is routes has admitted b l v w
              (register_of (number e.to)) d.0 e d.1 at (uses d.0.to h same)
              (uses e.to g refl))))
              (λ h. memory_apart v w e.to ne))
              (const_or d.0.to));
        }
      where
        uses : (q : Place) → has_register (number q) ≡ true → {m : ℕ} → register_of (number q) ≡ m →
            in_register m q ≡ true
        uses q h {m} same = let x : nat_eq (register_of (number q)) m ≡ true =
            grind (arith, nat_tests) in rw (h, x) refl

    -- what else is present was there
    stays_one : (v : ℕ) (e : Edge) → EdgeIs b l v e → writes i v ≡ false →
        Stays p i (where_ b (2 * k + 1)) v (number e.to)
    stays_one v e at free = by_from
        (edge_from all_tables code net is routes has admitted b l v e at)
      where
        by_from : From all_tables code net is routes has admitted b l v e →
            Stays p i (where_ b (2 * k + 1)) v (number e.to)
        by_from (Begins none before) =
            let inside = edge_inside all_tables code net is routes has admitted b l v e at in
            let live = live_of all_tables code net is in
            let old : list_any (is_role_of v) (roles_at all_tables code b l) ≡ false =
            ap (list_any (is_role_of v)) (roles_are code live b k i here) ∙ row_writes i v
            ∙ free in
            let one : suc (2 * k + 1) ≡ 2 * k + 2 = omega arith in
            absurd (true_false _ (was_present code live is.is_live v b k i inside.var inside.block
            inside.layer here free old inside.present) (before (2 * k + 1) one))
        by_from (Goes m d one there same) =
            let live = live_of all_tables code net is in
            let layer : m ≡ 2 * k + 1 = omega (arith, one) in
            let was : EdgeIs b (2 * k + 1) v d = subst (λ x. EdgeIs b x v d) layer there in
            let even : (2 * k + 2) % 2 ≡ 0 = omega arith in
            let place : d.to ≡ e.to = edge_stays all_tables code net is routes has admitted b l v e
            d.to at even same in
            let mask = edge_mask all_tables code net is routes has admitted b l v e at in
            let present = (edge_inside all_tables code net is routes has admitted b (2 * k + 1) v d
            was).present in
            let out = place_kept code live v b l e.to mask (table i).clobbers
            (clobbered_is code live b k i here v present) (not_coming code live b k i here v) in
            record {
              same = of_edge code net is routes has admitted b (2 * k + 1) v d was
                  ∙ ap (λ (q : Place). Some (number q)) place;
              kept = ⊎_elim
                  (λ (c : e.to ≡ Const). subst (λ (q : Place). Each
                  (λ x. is_destroyed (table i).clobbers x ≡ false) (cells p v (number q)))
                  (sym c) (fixed_kept (kind_of p v) (table i).clobbers))
                  (λ (nc : e.to ≡ Const → ⊥). each_cell
                  (λ x. is_destroyed (table i).clobbers x ≡ false) p v e.to nc
                  (λ h. kept_out i e.to out h) (λ h. refl))
                  (const_or e.to);
            }

    pub fits : (qs : List Place) → map Some qs ≡ map (where_is r b (2 * k + 1)) (read_by i)
        ++ map (where_is r b (2 * k + 2)) (written_by i) →
        FitsAt p i (map number qs) (where_ b (2 * k + 1)) (where_ b (2 * k + 2))
    fits qs e =
        let w = written_part (where_is r b (2 * k + 1)) (where_is r b (2 * k + 2)) (read_by i)
        (written_by i) qs e in
        record {
          reads = all_read b (2 * k + 1) (read_by i) qs
              (map (where_is r b (2 * k + 2)) (written_by i)) e;
          writes = subst (AllWritten p (where_ b l) (written_by i)) (sym w.1)
              (all_written b l (written_by i) w.0 w.2
              (λ u q k_in at.
              let x = edge_of_place all_tables code net is routes has admitted b l u q at in
              subst (λ y. Written p (where_ b l) u (number y)) x.2 (written_one u x.0 k_in x.1)));
          stays = λ v n present.
              let d = edge_of code net is routes has admitted b l v n present in
              ⊎_elim
              (λ (yes : writes i v ≡ true). inl (writes_among i v yes))
              (λ (free : writes i v ≡ false). inr
              (subst (Stays p i (where_ b (2 * k + 1)) v) d.2 (stays_one v d.0 d.1 free)))
              (truth (writes i v));
        }
