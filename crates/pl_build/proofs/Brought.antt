-- The operands of an instruction are brought to their places by the pairs of the layers beside it.
use Rattle.std.proofs.Common.{◌≡◌, ℕ, ◌+◌, ◌*◌, ◌/◌, ◌<◌, inl, inr, ⊎_elim, Bool, true, false, cond}
use Rattle.std.proofs.Common.{not, ◌&&◌, ◌||◌, List, [], ◌∷◌, ◌++◌, length, map, filter, Option}
use Rattle.std.proofs.Common.{Some, refl, sym, ap, ap₂, subst, ◌∙◌, arith}
use Rattle.std.specs.Prelude.{nat_eq, nat_lt, option_map, find}
use Rattle.std.specs.List.{list_any}
use Rattle.std.proofs.lemmas.Bool.{eq-eqb, lt-ltb}
use Rattle.std.proofs.lemmas.List.{map-append}
use Rattle.std.proofs.lemmas.Option.{slice_get_within}
use Rattle.pra_base.proofs.Roles.{among_writes}
use Rattle.pra_list.specs.Among.{Among}
use Rattle.pra_base.specs.declared.ids.Place.{Place}
use Rattle.pra_base.specs.declared.code.VInstr.{VInstr}
use Rattle.pra_base.specs.declared.code.VProc.{VProc}
use Rattle.pra_base.specs.declared.code.VarKind.{VarKind}
use Rattle.pra_base.specs.declared.code.VarKind.TheVariants.{Param, Plain, Constant}
use Rattle.pra_base.specs.Code.{kind_of, code_of, instr_at}
use Rattle.pra_base.specs.Live.{LiveAs, Path, reads_at, passes}
use Rattle.pra_base.specs.Live.Path.{stays}
use Rattle.pra_base.specs.Operands.{Role, table, reads, writes, is_role_of, var_of, read_by}
use Rattle.pra_base.specs.Operands.{written_by}
use Rattle.pra_base.specs.Valid.{IsSized}
use Rattle.net_form.specs.declared.net.Net.{Net}
use Rattle.net_form.specs.declared.routes.Routes.{Routes}
use Rattle.net_form.specs.Admitted.{IsAdmitted}
use Rattle.net_form.specs.Flow.{Edge, flow, AreRoutes}
use Rattle.net_form.specs.Network.{IsNet}
use Rattle.net_form.specs.Strands.{Lives, is_within, is_before, is_present, layer_count, roles_at}
use Rattle.net_form.specs.Tables.{all_tables}
use Rattle.pl_moves.specs.declared.transfer.Pair.{Pair}
use Rattle.pl_place.specs.Behind.{Routed, strand_by, comes_at, brings, where_is, pair_of, pairs_at}
use Rattle.pl_place.specs.Behind.{operand_places}
use Rattle.pl_routed.specs.Routed.{routed}
use Rattle.pl_routed.proofs.Present.{live as live_of, edge_there, place_of_edge}
use Rattle.pl_routed.proofs.Lives.{after_even}
use Rattle.pl_routed.proofs.Roles.{row_writes, roles_are}
use Rattle.pl_build.specs.Laid.{brought, or_eax, places_by, operands_by}

-- ---- the pair of a variable is its edge

found : (r : Routed) (b l v : ℕ) (f : List Edge) →
    brought (map (pair_of r) (filter (comes_at r b l) f)) v ≡ option_map (λ (e : Edge). e.to)
    (find (brings r b l v) f)
found r b l v [] = refl
found r b l v (e ∷ f) = by_tests (comes_at r b l e) (nat_eq (strand_by r e).var.0 v) refl refl
    (found r b l v f)
  where
    by_tests : (here same : Bool) → comes_at r b l e ≡ here → nat_eq (strand_by r e).var.0 v ≡ same
        → brought (map (pair_of r) (filter (comes_at r b l) f)) v ≡ option_map (λ (d : Edge). d.to)
        (find (brings r b l v) f)
        → brought (map (pair_of r)
        (cond here (e ∷ filter (comes_at r b l) f) (filter (comes_at r b l) f))) v ≡
        option_map (λ (d : Edge). d.to) (cond (same && here) (Some e) (find (brings r b l v) f))
    by_tests true true h s more =
        ap (λ t. option_map (λ (p : Pair). p.to)
        (cond t (Some (pair_of r e))
        (find (λ (p : Pair). nat_eq p.var.0 v) (map (pair_of r) (filter (comes_at r b l) f))))) s
    by_tests true false h s more =
        ap (λ t. option_map (λ (p : Pair). p.to)
        (cond t (Some (pair_of r e))
        (find (λ (p : Pair). nat_eq p.var.0 v) (map (pair_of r) (filter (comes_at r b l) f))))) s
        ∙ more
    by_tests false true h s more = more
    by_tests false false h s more = more

pub brought_is : (r : Routed) (b l v : ℕ) → brought (pairs_at r b l) v ≡ where_is r b l v
brought_is r b l v = found r b l v r.flow

all_places : (r : Routed) (b l : ℕ) (vs : List ℕ) →
    ((v : ℕ) → Among v vs → (q : Place) × (where_is r b l v ≡ Some q)) →
    map Some (places_by (pairs_at r b l) vs) ≡ map (where_is r b l) vs
all_places r b l [] there = refl
all_places r b l (v ∷ vs) there =
    let q = there v (inl refl) in
    ap₂ (λ (o : Option Place) (os : List (Option Place)). o ∷ os)
    (ap (λ (o : Option Place). Some (or_eax o)) (brought_is r b l v ∙ q.1) ∙ sym q.1)
    (all_places r b l vs (λ w i. there w (inr i)))

-- ---- operands are present

any_role : (roles : List Role) (v : ℕ) → Among v (map var_of roles) →
    list_any (is_role_of v) roles ≡ true
any_role [] v i = absurd i
any_role (x ∷ roles) v i =
    ⊎_elim
    (λ (e : v ≡ x.var). ap (λ t. t || list_any (is_role_of v) roles) (eq-eqb x.var v (sym e)))
    (λ (more : Among v (map var_of roles)). or_true (nat_eq x.var v) (list_any (is_role_of v) roles)
    (any_role roles v more))
    i
  where
    or_true : (a b : Bool) → b ≡ true → (a || b) ≡ true
    or_true true b e = refl
    or_true false b e = e

-- what is read before an instruction is live there
lives : (kind : VarKind) (code : VProc) (v b k : ℕ) →
    reads_at code v (record { block = b; index = k }) ≡ true → LiveAs kind code v b (2 * k + 1)
lives (Constant n) code v b k read =
    record {
      first = k;
      last = k;
      reads_first = read;
      reads_last = read;
      from = omega arith;
      to =
          omega arith;
    }
lives Plain code v b k read = let half : k ≡ (2 * k + 1) / 2 = omega arith in
    record {
      to = record { block = b; index = k };
      path =
          subst (λ n. Path code v (record { block = b; index = n })
          (record { block = b; index = k }))
          half stays;
      read = read;
    }
lives (Param j) code v b k read = let half : k ≡ (2 * k + 1) / 2 = omega arith in
    record {
      to = record { block = b; index = k };
      path =
          subst (λ n. Path code v (record { block = b; index = n })
          (record { block = b; index = k }))
          half stays;
      read = read;
    }

or_first : (a c : Bool) → a ≡ true → (a || c) ≡ true
or_first true c e = refl
or_first false c e = cc

or_second : (a c : Bool) → c ≡ true → (a || c) ≡ true
or_second true c e = refl
or_second false c e = e

module _ (code : VProc) (net : Net) (routes : Routes) (is : IsNet net code)
    (has : AreRoutes net routes) (admitted : IsAdmitted net (flow net routes))
    (sized : IsSized code) where
  abbrev r : Routed
  r = routed code net routes

  abbrev live : Lives
  live = live_of all_tables code net is

  module _ (b k : ℕ) (i : VInstr) (here : instr_at code b k ≡ Some i)
      (b_in : b < length code.blocks) where
    k_in : k < length (code_of code b)
    k_in = slice_get_within (code_of code b) k i here

    read_there : (v : ℕ) → Among v (read_by i) → (q : Place) × (where_is r b (2 * k + 1) v ≡ Some q)
    read_there v among =
        let reads_it : reads i v ≡ true = any_role (table i).reads v among in
        let v_in = sized.variables_in_range b k i here v (inl reads_it) in
        let l_in : 2 * k + 1 < layer_count code b = (let lt = k_in in omega (arith, lt)) in
        let within : is_within code v b (2 * k + 1) ≡ true =
        three_true (nat_lt v (length code.vars)) (nat_lt b (length code.blocks))
        (nat_lt (2 * k + 1) (layer_count code b))
        (lt-ltb v (length code.vars) v_in) (lt-ltb b (length code.blocks) b_in)
        (lt-ltb (2 * k + 1) (layer_count code b) l_in) in
        let read : reads_at code v (record { block = b; index = k }) ≡ true =
        ap (passes (λ j. reads j v)) here ∙ reads_it in
        let now : is_present all_tables code live v b (2 * k + 1) ≡ true =
        or_first (live v b (2 * k + 1))
        (not (is_before (2 * k + 1)) && list_any (is_role_of v)
        (roles_at all_tables code b (2 * k + 1)))
        ((is.is_live v b (2 * k + 1)).1 (within, lives (kind_of code v) code v b k read)) in
        let e = edge_there all_tables code net is routes has admitted b (2 * k + 1) v now v_in b_in
        l_in in
        (e.0.to, place_of_edge all_tables code net is routes has admitted b (2 * k + 1) v e.0 e.1)
      where
        three_true : (x y z : Bool) → x ≡ true → y ≡ true → z ≡ true → ((x && y) && z) ≡ true
        three_true x y z e f g = rw (e, f, g) refl

    written_there : (v : ℕ) → Among v (written_by i) → (q : Place) ×
        (where_is r b (2 * k + 2) v ≡ Some q)
    written_there v among =
        let writes_it : writes i v ≡ true = among_writes i v among in
        let v_in = sized.variables_in_range b k i here v (inr writes_it) in
        let l_in : 2 * k + 2 < layer_count code b = (let lt = k_in in omega (arith, lt)) in
        let role : list_any (is_role_of v) (roles_at all_tables code b (2 * k + 2)) ≡ true =
        ap (list_any (is_role_of v)) (roles_are code live b k i here) ∙ row_writes i v
        ∙ writes_it in
        let now : is_present all_tables code live v b (2 * k + 2) ≡ true =
        or_second (live v b (2 * k + 2))
        (not (is_before (2 * k + 2)) && list_any (is_role_of v)
        (roles_at all_tables code b (2 * k + 2)))
        (ap₂ (λ x y. not x && y) (after_even k) role) in
        let e = edge_there all_tables code net is routes has admitted b (2 * k + 2) v now v_in b_in
        l_in in
        (e.0.to, place_of_edge all_tables code net is routes has admitted b (2 * k + 2) v e.0 e.1)

    pub all_brought : map Some (operands_by (pairs_at r b (2 * k + 1)) (pairs_at r b (2 * k + 2)) i)
        ≡ operand_places r b k i
    all_brought =
        map-append Some (places_by (pairs_at r b (2 * k + 1)) (read_by i))
        (places_by (pairs_at r b (2 * k + 2)) (written_by i))
        ∙ ap₂ (λ (os ps : List (Option Place)). os ++ ps)
        (all_places r b (2 * k + 1) (read_by i) read_there)
        (all_places r b (2 * k + 2) (written_by i) written_there)
