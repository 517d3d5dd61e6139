-- Operands are at places of their masks.
use Rattle.std.proofs.Common.{◌≡◌, ℕ, zero, suc, ◌+◌, ◌-◌, ◌*◌, ◌/◌, ◌%◌, Bool, true, false, ◌&&◌}
use Rattle.std.proofs.Common.{nat_eq, min, if◌then◌else◌, List, [], ◌∷◌, ◌++◌, length, map}
use Rattle.std.proofs.Common.{slice_get, Option, Some, None, refl, sym, ap, ap₂, subst, ◌∙◌, arith}
use Rattle.std.proofs.Common.{length-append}
use Rattle.std.specs.Int.{bit_at}
use Rattle.std.proofs.lemmas.Bool.Decides.{nat_tests}
use Rattle.std.proofs.lemmas.List.{length-map}
use Rattle.std.proofs.lemmas.Nat.Bits.{bit_at_and}
use Rattle.std.proofs.lemmas.Option.{get_or_from_slice_get}
use Rattle.pra_list.proofs.Elements.{head_same, tail_same, nil_cons}
use Rattle.pra_list.proofs.Truths.{true_false}
use Rattle.pra_list.specs.Among.{Among}
use Rattle.pra_list.proofs.Options.{some_same}
use Rattle.pra_base.specs.declared.ids.Place.{Place}
use Rattle.pra_base.specs.declared.ids.Place.TheVariants.{Eax, Mem}
use Rattle.pra_base.specs.declared.code.VInstr.{VInstr}
use Rattle.pra_base.specs.declared.code.VProc.{VProc}
use Rattle.pra_base.specs.Code as base
use Rattle.pra_base.specs.Code.{instr_at}
use Rattle.pra_base.specs.Places.{number, allows, meet, only, without}
use Rattle.pra_base.specs.Operands.{Role, Line, table, operands, read_by, written_by, var_of}
use Rattle.pra_base.specs.Operands.{settled, rewritten, own_places}
use Rattle.net_form.specs.declared.net.Net.{Net}
use Rattle.net_form.specs.declared.routes.Routes.{Routes}
use Rattle.net_form.specs.Tables.{all_tables}
use Rattle.net_form.specs.Strands.{Lives, beside, roles_beside, roles_at, is_param, comes_in_memory}
use Rattle.net_form.specs.Strands.{met_mask, clobbered, mask_at}
use Rattle.net_form.specs.Network.{IsNet}
use Rattle.net_form.specs.Flow.{Edge, flow, AreRoutes}
use Rattle.net_form.specs.Admitted.{IsAdmitted}
use Rattle.pl_place.specs.Placed.{place_in}
use Rattle.pl_place.specs.Behind.{Routed, where_is, operand_places}
use Rattle.pl_place.specs.Valid.{roles}
use Rattle.pl_routed.specs.Routed.{routed}
use Rattle.pra_list.proofs.Among.{in_at}
use Rattle.pl_routed.proofs.Present.{live as live_of, edge_of_place, edge_inside, edge_mask}
use Rattle.pl_routed.proofs.Present.{edge_from, From, edge_stays, one_edge}
use Rattle.pl_routed.proofs.Present.From.{Begins, Goes}
use Rattle.pl_routed.proofs.Masks.{both_allow, fold_allows, place_of_role}
use Rattle.pl_routed.proofs.Lives.{before_odd}
use Rattle.pl_routed.proofs.Roles.{roles_are, not_coming}
use Rattle.pl_routed.proofs.Transferred.{At}

-- ---- roles and their places

module _ (f g : ℕ → Option Place) where
  pub data RoleAt (reads writes : List Role) (places : List Place) (k : ℕ) (role : Role) : Type 0
    where
      Read : (q : Place) → slice_get places k ≡ Some q → slice_get reads k ≡ Some role →
          f role.var ≡
          Some q → RoleAt reads writes places k role
      Write : (q : Place) (j : ℕ) → slice_get places k ≡ Some q → k ≡ length reads + j →
          slice_get writes j ≡ Some role → g role.var ≡ Some q → RoleAt reads writes places k role

  write_at : (writes : List Role) (places : List Place) → map Some places ≡
      map g (map var_of writes) → (j : ℕ) (role : Role) → slice_get writes j ≡ Some role →
      (q : Place) × (slice_get places j ≡ Some q) × (g role.var ≡ Some q)
  write_at [] places e j role i = cc
  write_at (x ∷ writes) [] e j role i = absurd (nil_cons _ _ e)
  write_at (x ∷ writes) (q ∷ places) e zero role i = (
    q,
    refl,
    ap (λ (y : Role). g y.var) (sym (some_same x role i))
        ∙ sym (head_same (Some q) (g x.var) (map Some places) (map g (map var_of writes)) e),
  )
  write_at (x ∷ writes) (q ∷ places) e (suc j) role i =
      write_at writes places (tail_same (Some q) (g x.var) (map Some places)
      (map g (map var_of writes)) e) j role i

  pub role_at : (reads writes : List Role) (places : List Place) → map Some places ≡
      map f (map var_of reads) ++ map g (map var_of writes) → (k : ℕ) (role : Role) →
      slice_get (reads ++ writes) k ≡ Some role → RoleAt reads writes places k role
  role_at [] writes places e k role i = let w = write_at writes places e k role i in
      Write w.0 k w.1 (let z : k ≡ 0 + k = omega arith in z) i w.2
  role_at (x ∷ reads) writes [] e k role i = absurd (nil_cons _ _ e)
  role_at (x ∷ reads) writes (q ∷ places) e zero role i =
      Read q refl i (ap (λ (y : Role). f y.var) (sym (some_same x role i))
      ∙ sym (head_same (Some q) (f x.var) (map Some places)
      (map f (map var_of reads) ++ map g (map var_of writes)) e))
  role_at (x ∷ reads) writes (q ∷ places) e (suc k) role i =
      later (role_at reads writes places
      (tail_same (Some q) (f x.var) (map Some places)
      (map f (map var_of reads) ++ map g (map var_of writes)) e) k role i)
    where
      later : RoleAt reads writes places k role → RoleAt (x ∷ reads) writes (q ∷ places)
          (suc k) role
      later (Read p a b c) = Read p a b c
      later (Write p j a b c d) =
          Write p j a (let z : suc k ≡ suc (length reads) + j = omega (arith, b) in z) c d

settled_vars : (l : Line) (rs : List Role) → map var_of (map (settled l) rs) ≡ map var_of rs
settled_vars l [] = refl
settled_vars l (x ∷ rs) = ap (λ vs. x.var ∷ vs) (settled_vars l rs)

written_vars : (l : Line) (ws : List ℕ) (rs : List Role) →
    map var_of (map (rewritten l) ws ++ map (settled l) rs) ≡ ws ++ map var_of rs
written_vars l [] rs = settled_vars l rs
written_vars l (w ∷ ws) rs = ap (λ vs. w ∷ vs) (written_vars l ws rs)

pub reads_vars : (i : VInstr) → map var_of (operands i).reads ≡ read_by i
reads_vars i = settled_vars (table i) (table i).reads

pub writes_vars : (i : VInstr) → map var_of (operands i).writes ≡ written_by i
writes_vars i = written_vars (table i) (table i).in_place (table i).writes

-- ---- masks

meet_allows : (a b p : ℕ) → allows a p ≡ true → allows b p ≡ true → allows (meet a b) p ≡ true
meet_allows a b p e f =
    let x : bit_at a p ≡ 1 = one_true (bit_at a p) e in
    let y : bit_at b p ≡ 1 = one_true (bit_at b p) f in
    let z : bit_at (meet a b) p ≡ 1 = bit_at_and a b p ∙ ap₂ min x y in
    ap (λ n. nat_eq n 1) z
  where
    one_true : (n : ℕ) → nat_eq n 1 ≡ true → n ≡ 1
    one_true n e = grind (arith, nat_tests)

own_allowed : (code : VProc) (live : Lives) (v b l : ℕ) (q : Place) →
    allows (mask_at all_tables code live v b l) (number q) ≡ true → comes_in_memory code v b l ≡
    false → allows (own_places (base.kind_of code v)) (number q) ≡ true
own_allowed code live v b l q ok later =
    let mask = ap (λ t. allows
    (if t then only Mem else without (met_mask all_tables code v b l)
    (clobbered all_tables code live v b l)) (number q)) (sym later) ∙ ok in
    (fold_allows v (own_places (base.kind_of code v)) (roles_at all_tables code b l) (number q)
    (both_allow (met_mask all_tables code v b l) _ (number q) mask).0).0

module _ (code : VProc) (b k : ℕ) (i : VInstr) (here : instr_at code b k ≡ Some i) where
  not_entry : nat_eq (2 * k + 1) 0 ≡ false
  not_entry = grind (arith, nat_tests)

  beside_is : beside code b (2 * k + 1) ≡ Some i
  beside_is =
      let half : (2 * k + 1 - 1) / 2 ≡ k = omega arith in
      ap (λ t. if t then None else instr_at code b ((2 * k + 1 - 1) / 2)) not_entry
      ∙ ap (instr_at code b) half ∙ here

  reads_are : roles_at all_tables code b (2 * k + 1) ≡ (operands i).reads
  reads_are = ap₂ (λ t o. roles_beside t operands o) (before_odd k) beside_is

  not_coming_odd : (v : ℕ) → comes_in_memory code v b (2 * k + 1) ≡ false
  not_coming_odd v = last_false (is_param (base.kind_of code v) && nat_eq b 0)
      (nat_eq (2 * k + 1) 0) not_entry
    where
      last_false : (a c : Bool) → c ≡ false → (a && c) ≡ false
      last_false true c e = e
      last_false false c e = refl

module _ (code : VProc) (net : Net) (routes : Routes) (is : IsNet net code)
    (has : AreRoutes net routes) (admitted : IsAdmitted net (flow net routes)) (b k : ℕ)
    (i : VInstr) (here : instr_at code b k ≡ Some i) (places : List Place)
    (same : map Some places ≡ operand_places (routed code net routes) b k i) where
  abbrev r : Routed
  r = routed code net routes

  abbrev EdgeIs : ℕ → ℕ → Edge → Type 0
  EdgeIs l v e = At code net is routes has admitted b l v e

  abbrev before : ℕ → Option Place
  before v = where_is r b (2 * k + 1) v

  abbrev after : ℕ → Option Place
  after v = where_is r b (2 * k + 2) v

  by_roles : map Some places ≡ map before (map var_of (operands i).reads)
      ++ map after (map var_of (operands i).writes)
  by_roles = same ∙ sym (ap₂ (λ vs ws. map before vs ++ map after ws) (reads_vars i)
      (writes_vars i))

  abbrev RoleIs : ℕ → Role → Type 0
  RoleIs n role = RoleAt before after (operands i).reads (operands i).writes places n role

  pub find_role : (n : ℕ) (role : Role) → slice_get (roles i) n ≡ Some role → RoleIs n role
  find_role n role e = role_at before after (operands i).reads (operands i).writes places by_roles n
      role e

  pub place_is : (n : ℕ) (q : Place) → slice_get places n ≡ Some q → place_in places n ≡ number q
  place_is n q e = ap number (get_or_from_slice_get places n q Eax e)

  pub edge_for : (l v : ℕ) (q : Place) → where_is r b l v ≡ Some q → (e : Edge) × EdgeIs l v e ×
      (e.to ≡ q)
  edge_for l v q e = edge_of_place all_tables code net is routes has admitted b l v q e

  itself : (v : ℕ) → nat_eq v v ≡ true
  itself v = grind (arith, nat_tests)

  allowed_at : (l : ℕ) (role : Role) (q : Place) → Among role (roles_at all_tables code b l) →
      comes_in_memory code role.var b l ≡ false → where_is r b l role.var ≡ Some q →
      allows (meet role.mask (own_places (base.kind_of code role.var))) (number q) ≡ true
  allowed_at l role q k_in later e =
      let x = edge_for l role.var q e in
      let ok = edge_mask all_tables code net is routes has admitted b l role.var x.0 x.1 in
      let live = live_of all_tables code net is in
      ap (λ (y : Place). allows (meet role.mask (own_places (base.kind_of code role.var)))
      (number y)) (sym x.2)
      ∙ meet_allows role.mask (own_places (base.kind_of code role.var)) (number x.0.to)
      (place_of_role code live role.var b l x.0.to ok role k_in (itself role.var) later)
      (own_allowed code live role.var b l x.0.to ok later)

  pub allowed : (n : ℕ) (role : Role) → slice_get (roles i) n ≡ Some role →
      allows (meet role.mask (own_places (base.kind_of code role.var))) (place_in places n) ≡ true
  allowed n role e = by_role (find_role n role e)
    where
      by_role : RoleIs n role → allows (meet role.mask (own_places (base.kind_of code role.var)))
          (place_in places n) ≡ true
      by_role (Read q at in_reads f) =
          ap (allows (meet role.mask (own_places (base.kind_of code role.var)))) (place_is n q at)
          ∙ allowed_at (2 * k + 1) role q
          (subst (Among role) (sym (reads_are code b k i here))
          (in_at (operands i).reads n role in_reads)) (not_coming_odd code b k i here role.var)
          f
      by_role (Write q j at m in_writes g) =
          ap (allows (meet role.mask (own_places (base.kind_of code role.var)))) (place_is n q at)
          ∙ allowed_at (2 * k + 2) role q
          (subst (Among role) (sym (roles_are code (live_of all_tables code net is) b k i here))
          (in_at (operands i).writes j role in_writes))
          (not_coming code (live_of all_tables code net is) b k i here role.var) g

  -- what is read and written stays
  pub stays_place : (v : ℕ) (q s : Place) → before v ≡ Some q → after v ≡ Some s → q ≡ s
  stays_place v q s e f =
      let x = edge_for (2 * k + 1) v q e in
      let y = edge_for (2 * k + 2) v s f in
      by_from x.0 y.0 x.1 y.1 x.2 y.2
      (edge_from all_tables code net is routes has admitted b (2 * k + 2) v y.0 y.1)
    where
      by_from : (d c : Edge) → EdgeIs (2 * k + 1) v d → EdgeIs (2 * k + 2) v c → d.to ≡ q →
          c.to ≡ s → From all_tables code net is routes has admitted b (2 * k + 2) v c → q ≡ s
      by_from d c at to d_is c_is (Begins none fresh) =
          let one : suc (2 * k + 1) ≡ 2 * k + 2 = omega arith in
          absurd (true_false _ (edge_inside all_tables code net is routes has admitted b
          (2 * k + 1) v d at).present (fresh (2 * k + 1) one))
      by_from d c at to d_is c_is (Goes m x one there from) =
          let layer : m ≡ 2 * k + 1 = omega (arith, one) in
          let even : (2 * k + 2) % 2 ≡ 0 = omega arith in
          let same_edge : x ≡ d = one_edge all_tables code net is routes has admitted b
          (2 * k + 1) v x d (subst (λ l. EdgeIs l v x) layer there) at in
          sym d_is ∙ ap (λ (z : Edge). z.to) (sym same_edge) ∙ edge_stays all_tables code net is
          routes has admitted b (2 * k + 2) v c x.to to even from ∙ c_is

  pub count : length places ≡ length (roles i)
  count =
      let a = sym (length-map places (λ (q : Place). Some q)) in
      let c = ap length by_roles in
      let d = length-append (map before (map var_of (operands i).reads))
      (map after (map var_of (operands i).writes)) in
      let e = length-map (map var_of (operands i).reads) before in
      let f = length-map (map var_of (operands i).writes) after in
      let g = length-map (operands i).reads var_of in
      let h = length-map (operands i).writes var_of in
      let j = length-append (operands i).reads (operands i).writes in
      omega (arith, a, c, d, e, f, g, h, j)
