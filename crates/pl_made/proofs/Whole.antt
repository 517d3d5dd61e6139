-- Placed code that was made is valid.
use Rattle.std.proofs.Common.{◌≡◌, ◌≢◌, ℕ, zero, suc, ◌+◌, ◌*◌, ◌≤◌, ◌<◌, ⊎_elim, Bool, true, false}
use Rattle.std.proofs.Common.{◌||◌, nat_eq, List, [], ◌∷◌, ◌++◌, length, map, slice_get, Some, refl}
use Rattle.std.proofs.Common.{sym, ap, ap₂, subst, ◌∙◌, arith, count_by}
use Rattle.std.proofs.lemmas.Bool.{cases_eq, cases_lt}
use Rattle.std.proofs.lemmas.Bool.Decides.{nat_tests}
use Rattle.std.proofs.lemmas.Option.{slice_get_within}
use Rattle.pra_list.proofs.Truths.{false_from}
use Rattle.pra_list.specs.Among.{Among}
use Rattle.pra_base.specs.declared.ids.Place.{Place}
use Rattle.pra_base.specs.declared.code.VInstr.{VInstr}
use Rattle.pra_base.specs.declared.code.VProc.{VProc}
use Rattle.pra_base.specs.Code as base
use Rattle.pra_base.specs.Code.{code_of, instr_at}
use Rattle.pra_base.specs.Places.{number, allows, meet, is_mem, is_both, needs_slot}
use Rattle.pra_base.specs.Operands.{Role, table, operands, own_places, is_star_of}
use Rattle.pra_base.specs.Valid.{IsValid, IsSized}
use Rattle.net_form.specs.declared.net.Net.{Net}
use Rattle.net_form.specs.declared.routes.Routes.{Routes}
use Rattle.net_form.specs.Network.{marked, IsNet}
use Rattle.net_form.specs.Flow.{Edge, flow, AreRoutes}
use Rattle.net_form.specs.Admitted.{IsAdmitted}
use Rattle.pl_place.specs.declared.placed.LInstr.TheVariants as placed
use Rattle.pl_place.specs.declared.placed.LProc.{LProc}
use Rattle.pl_place.specs.Placed.{place_in}
use Rattle.pl_place.specs.Behind.{where_is, operand_places}
use Rattle.pl_place.specs.Valid.{linstr_at, EachOp, roles, HasCell, OperandsPlaced, IsPlaced}
use Rattle.pl_routed.specs.Routed.{routed}
use Rattle.pra_list.proofs.Among.{in_at, at_most_one}
use Rattle.pl_routed.proofs.Masks.{both_allow}
use Rattle.pl_routed.proofs.Transferred.{At}
use Rattle.pl_made.specs.Made.{IsMade}
use Rattle.pl_made.proofs.Marked.{few_marked, two_of_two, read_marked, write_marked}
use Rattle.pl_made.proofs.Pairs.{stars, no_memory, mask_either, not_both}
use Rattle.pl_made.proofs.Parts.{op_in}
use Rattle.pl_made.proofs.Placed.{RoleAt, find_role, place_is, edge_for, allowed, stays_place}
use Rattle.pl_made.proofs.Placed.{count}
use Rattle.pl_made.proofs.Placed.RoleAt.{Read, Write}
use Rattle.pl_made.proofs.Rules.{in_registers, few_moves, keeps_rules, has_memory}
use Rattle.pl_made.proofs.Rules.{moves_have_memory, slots_distinct, numbers, kind_is}

get_left : {X : Type 0} (xs ys : List X) (n : ℕ) (x : X) → slice_get xs n ≡ Some x →
    slice_get (xs ++ ys) n ≡ Some x
get_left [] ys n x e = cc
get_left (z ∷ zs) ys zero x e = e
get_left (z ∷ zs) ys (suc n) x e = get_left zs ys n x e

get_right : {X : Type 0} (xs ys : List X) (j : ℕ) (y : X) → slice_get ys j ≡ Some y →
    slice_get (xs ++ ys) (length xs + j) ≡ Some y
get_right [] ys j y e = let s : j ≡ 0 + j = omega arith in subst (λ n. slice_get ys n ≡ Some y) s e
get_right (z ∷ zs) ys j y e = let s : suc (length zs + j) ≡ suc (length zs) + j = omega arith in
    subst (λ n. slice_get (z ∷ (zs ++ ys)) n ≡ Some y) s (get_right zs ys j y e)

mem_six : (n : ℕ) → is_mem n ≡ true → n ≡ 6
mem_six n e = grind (arith, nat_tests)

mem_needs : (n : ℕ) → is_mem n ≡ true → needs_slot n ≡ true
mem_needs n e = or_left (is_mem n) (is_both n) e
  where
    or_left : (a c : Bool) → a ≡ true → (a || c) ≡ true
    or_left true c e = refl
    or_left false c e = cc

module _ (code : VProc) (net : Net) (routes : Routes) (is : IsNet net code)
    (has : AreRoutes net routes) (admitted : IsAdmitted net (flow net routes)) (b k : ℕ)
    (i : VInstr) (here : instr_at code b k ≡ Some i) (b_in : b < length code.blocks)
    (places : List Place) (same : map Some places ≡ operand_places (routed code net routes) b k i)
  where
    abbrev EdgeIs : ℕ → ℕ → Edge → Type 0
    EdgeIs l v e = At code net is routes has admitted b l v e

    pub found : (n : ℕ) (role : Role) → slice_get (roles i) n ≡ Some role →
        RoleAt (λ v. where_is (routed code net routes) b (2 * k + 1) v)
        (λ v. where_is (routed code net routes) b (2 * k + 2) v) (operands i).reads
        (operands i).writes places n role
    found n role e = find_role code net routes is has admitted b k i here places same n role e

    -- where an operand is, at its layer
    pub record Side (n : ℕ) (role : Role) : Type 0 where
      pub layer : ℕ
      pub marks : role.memory ≡ true → Among (role.var, layer) (marked k (operands i))
      pub edge : Edge
      pub at : EdgeIs layer role.var edge
      pub place : place_in places n ≡ number edge.to

    pub side : (n : ℕ) (role : Role) → slice_get (roles i) n ≡ Some role → Side n role
    side n role e = by_role (found n role e)
      where
        by_role : RoleAt (λ v. where_is (routed code net routes) b (2 * k + 1) v)
            (λ v. where_is (routed code net routes) b (2 * k + 2) v) (operands i).reads
            (operands i).writes places n role → Side n role
        by_role (Read q at in_reads f) =
            let x = edge_for code net routes is has admitted b k i here places same
            (2 * k + 1) role.var q f in
            record {
              layer = 2 * k + 1;
              marks = λ m. read_marked k i n role in_reads m;
              edge = x.0;
              at = x.1;
              place = place_is code net routes is has admitted b k i here places same n q
                  at ∙ ap number (sym x.2);
            }
        by_role (Write q j at s in_writes g) =
            let x = edge_for code net routes is has admitted b k i here places same
            (2 * k + 2) role.var q g in
            record {
              layer = 2 * k + 2;
              marks = λ m. write_marked k i j role in_writes m;
              edge = x.0;
              at = x.1;
              place = place_is code net routes is has admitted b k i here places same n q
                  at ∙ ap number (sym x.2);
            }

    is_star : (v : ℕ) (role : Role) → role.var ≡ v → role.memory ≡ true → is_star_of v role ≡ true
    is_star v role e m = let x : nat_eq role.var v ≡ true = grind (arith, nat_tests) in
        rw (x, m) refl

    -- two marked operands of one variable are not in memory
    one_variable : (n j : ℕ) (one other : Role) → slice_get (roles i) n ≡ Some one →
        slice_get (roles i) j ≡ Some other → one.memory ≡ true → other.memory ≡ true → n ≢ j →
        is_mem (place_in places n) ≡ true → one.var ≡ other.var → ⊥
    one_variable n j one other e f m o ne mem var =
        let v = one.var in
        let counted = stars i v in
        ⊎_elim
        (λ (lt : 1 < count_by (is_star_of v) (roles i)).
        let ok = allowed code net routes is has admitted b k i here places same n one e in
        let mask = (both_allow one.mask (own_places (base.kind_of code v)) (place_in places n) ok).0
        in
        let is_mask = mask_either (table i) (table i).reads (table i).in_place (table i).writes n
        one
        e in
        no_memory i v (omega (arith, lt, counted))
        (ap₂ allows (sym is_mask) (sym (mem_six (place_in places n) mem)) ∙ mask))
        (λ (le : count_by (is_star_of v) (roles i) ≤ 1).
        ne (at_most_one (is_star_of v) (roles i) le n j one other e (is_star v one refl m) f
        (is_star v other (sym var) o)))
        (cases_lt 1 (count_by (is_star_of v) (roles i)))

    pub pair_rule : (n j : ℕ) (one other : Role) → slice_get (roles i) n ≡ Some one →
        slice_get (roles i) j ≡ Some other → one.memory ≡ true → other.memory ≡ true → n ≢ j →
        is_mem (place_in places n) ≡ true → is_mem (place_in places j) ≡ false
    pair_rule n j one other e f m o ne mem = false_from (is_mem (place_in places j))
        (λ too. never too)
      where
        never : is_mem (place_in places j) ≡ true → ⊥
        never too =
            let x = side n one e in
            let y = side j other f in
            let x_mem : is_mem (number x.edge.to) ≡ true = ap is_mem (sym x.place) ∙ mem in
            let y_mem : is_mem (number y.edge.to) ≡ true = ap is_mem (sym y.place) ∙ too in
            ⊎_elim
            (λ (same_var : one.var ≡ other.var). one_variable n j one other e f m o ne mem same_var)
            (λ (differ : one.var ≡ other.var → ⊥).
            ⊎_elim
            (λ (xy : marked k (operands i) ≡ (one.var, x.layer) ∷ (other.var, y.layer) ∷ []).
            not_both
            code net routes is has admitted b k i here b_in (one.var, x.layer)
            (other.var, y.layer) x.edge y.edge xy differ x.at y.at x_mem y_mem)
            (λ (yx : marked k (operands i) ≡ (other.var, y.layer) ∷ (one.var, x.layer) ∷ []).
            not_both
            code net routes is has admitted b k i here b_in (other.var, y.layer)
            (one.var, x.layer) y.edge x.edge yx (λ s. differ (sym s)) y.at x.at y_mem x_mem)
            (two_of_two (marked k (operands i)) (few_marked k i) (one.var, x.layer)
            (other.var, y.layer) (x.marks m) (y.marks o) differ))
            (cases_eq one.var other.var)

    abbrev Found : ℕ → Role → Type 0
    Found m role = RoleAt (λ v. where_is (routed code net routes) b (2 * k + 1) v)
        (λ v. where_is (routed code net routes) b (2 * k + 2) v) (operands i).reads
        (operands i).writes places m role

    pub place_rule : (n j : ℕ) (read write : Role) → slice_get (operands i).reads n ≡ Some read →
        slice_get (operands i).writes j ≡ Some write → read.var ≡ write.var → place_in places n ≡
        place_in places (length (operands i).reads + j)
    place_rule n j read write e f var =
        by_role (found n read (get_left (operands i).reads (operands i).writes n read e))
        (found (length (operands i).reads + j) write
        (get_right (operands i).reads (operands i).writes j write f))
      where
        within : n < length (operands i).reads
        within = slice_get_within (operands i).reads n read e

        outside : (x : Role) → slice_get (operands i).reads (length (operands i).reads + j) ≡
            Some x →
            ⊥
        outside x g = let lt = slice_get_within (operands i).reads (length (operands i).reads + j) x
            g in omega (arith, lt)

        by_role : Found n read → Found (length (operands i).reads + j) write → place_in places n ≡
            place_in places (length (operands i).reads + j)
        by_role (Read q at in_reads g) (Write s m too at_j in_writes h) =
            let same_place : q ≡ s = stays_place code net routes is has admitted b k i here places
            same read.var q s g (ap (λ v. where_is (routed code net routes) b (2 * k + 2) v) var
            ∙ h) in
            place_is code net routes is has admitted b k i here places same n q at
            ∙ ap number same_place ∙ sym (place_is code net routes is has admitted b k i here
            places same (length (operands i).reads + j) s too)
        by_role (Read q at in_reads g) (Read s too in_too h) = absurd (outside write in_too)
        by_role (Write q m at eq in_writes g) other = let lt = within in
            absurd (omega (arith, lt, eq))

module _ (code : VProc) (net : Net) (routes : Routes) (is : IsNet net code)
    (has : AreRoutes net routes) (admitted : IsAdmitted net (flow net routes))
    (valid : IsValid code) (sized : IsSized code) (p : LProc)
    (made : IsMade (routed code net routes) p) where
  -- an instruction of the placed code, as one of the selected code
  record OpHere (b : ℕ) (i : VInstr) (places : List Place) : Type 0 where
    index : ℕ
    here : instr_at code b index ≡ Some i
    inside : b < length code.blocks
    same : map Some places ≡ operand_places (routed code net routes) b index i

  op_here : (b k : ℕ) (i : VInstr) (places : _) → linstr_at p b k (placed.Op i places) →
      OpHere b i places.items
  op_here b k i places at =
      let o = op_in (routed code net routes) b 0 (code_of code b) at.0.code (made.lays b at.0 at.1)
      i places (in_at at.0.code k (placed.Op i places) at.2) in
      let lt = slice_get_within p.blocks b at.0 at.1 in
      let many : length p.blocks ≡ length code.blocks = made.count in
      let zero_more : 0 + o.index ≡ o.index = omega arith in
      let same : map Some places.items ≡ operand_places (routed code net routes) b o.index o.instr =
      subst (λ n. map Some places.items ≡ operand_places (routed code net routes) b n o.instr)
      zero_more o.is_op.1 in
      record {
        index = o.index;
        here = o.here ∙ ap Some (sym o.is_op.0);
        inside = omega (arith, lt, many);
        same = subst (λ j. map Some places.items ≡ operand_places (routed code net routes) b o.index
            j) (sym o.is_op.0) same;
      }

  pub operands_placed : EachOp p (OperandsPlaced p)
  operands_placed b k i places at =
      let o = op_here b k i places at in record {
        count = count code net routes is has admitted b o.index i o.here places.items o.same;
        allowed = λ n role e.
            ap (λ kind. allows (meet role.mask (own_places kind)) (place_in places.items n))
            (kind_is code net routes is has admitted valid sized p made role.var)
            ∙ allowed code net routes is has admitted b o.index i o.here places.items o.same n role
            e;
        in_place = place_rule code net routes is has admitted b o.index i o.here o.inside
            places.items o.same;
        pair = pair_rule code net routes is has admitted b o.index i o.here o.inside places.items
            o.same;
      }

  pub operands_there : EachOp p (λ i places. (n : ℕ) (role : Role) → slice_get (roles i) n ≡
      Some role → is_mem (place_in places n) ≡ true → HasCell p role.var)
  operands_there b k i places at n role e mem =
      let o = op_here b k i places at in
      let x = side code net routes is has admitted b o.index i o.here o.inside places.items o.same n
      role e in
      has_memory code net routes is has admitted valid sized p made b x.layer role.var x.edge x.at
      (mem_needs (number x.edge.to) (ap is_mem (sym x.place) ∙ mem))

  pub is_placed : IsPlaced p
  is_placed = record {
    operands_placed = operands_placed;
    memory_there = record {
      moves = moves_have_memory code net routes is has admitted valid sized p made;
      operands_there = operands_there;
      distinct = slots_distinct code net routes is has admitted valid sized p made;
    };
    block_rules = keeps_rules code net routes is has admitted valid sized p made;
    in_registers = in_registers code net routes is has admitted valid sized p made;
    few_moves = few_moves code net routes is has admitted valid sized p made;
    numbers_in_range = numbers code net routes is has admitted valid sized p made;
  }
