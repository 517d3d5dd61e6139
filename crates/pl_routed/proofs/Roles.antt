-- The roles that an instruction writes, at the layer behind it.
use Rattle.std.proofs.Common.{◌≡◌, ℕ, ◌+◌, ◌-◌, ◌*◌, ◌/◌, inl, inr, ⊎_elim, Bool, true, false, ◌&&◌}
use Rattle.std.proofs.Common.{◌||◌, nat_eq, if◌then◌else◌, List, [], ◌∷◌, map, Some, None, refl}
use Rattle.std.proofs.Common.{sym, ap, ap₂, ◌∙◌, arith}
use Rattle.std.specs.List.{list_any}
use Rattle.std.proofs.lemmas.Bool.Decides.{nat_tests}
use Rattle.std.proofs.lemmas.List.Folds.{list_any-append}
use Rattle.pra_list.specs.Among.{Among}
use Rattle.pra_base.specs.declared.code.VInstr.{VInstr}
use Rattle.pra_base.specs.declared.code.VProc.{VProc}
use Rattle.pra_base.specs.Code.{kind_of, instr_at}
use Rattle.pra_base.specs.Operands.{Role, Line, table, is_role_of, mask_of, settled, rewritten}
use Rattle.pra_base.specs.Operands.{operands, written_by, var_of, writes}
use Rattle.net_form.specs.Tables.{all_tables}
use Rattle.net_form.specs.Strands.{Lives, beside, across, roles_beside, roles_at, clobbers_beside}
use Rattle.net_form.specs.Strands.{is_present, is_param, comes_in_memory, clobbered}
use Rattle.pra_list.proofs.Among.{in_left, in_right, in_either}
use Rattle.pl_routed.proofs.Lives.{after_even}

turned : (a b : ℕ) → nat_eq a b ≡ nat_eq b a
turned a b = grind (arith, nat_tests)

-- ---- the roles of its row

any_rewritten : (l : Line) (ws : List ℕ) (v : ℕ) → list_any (is_role_of v) (map (rewritten l) ws) ≡
    list_any (nat_eq v) ws
any_rewritten l [] v = refl
any_rewritten l (w ∷ ws) v = ap₂ (λ a b. a || b) (turned w v) (any_rewritten l ws v)

any_settled : (l : Line) (roles : List Role) (v : ℕ) →
    list_any (is_role_of v) (map (settled l) roles) ≡ list_any (is_role_of v) roles
any_settled l [] v = refl
any_settled l (x ∷ roles) v = ap (λ b. is_role_of v x || b) (any_settled l roles v)

pub row_writes : (i : VInstr) (v : ℕ) → list_any (is_role_of v) (operands i).writes ≡ writes i v
row_writes i v =
    let l = table i in
    list_any-append (is_role_of v) (map (rewritten l) l.in_place) (map (settled l) l.writes)
    ∙ ap₂ (λ a b. a || b) (any_rewritten l l.in_place v) (any_settled l l.writes v)

-- a role of a written variable
pub record WrittenRole (i : VInstr) (w : ℕ) : Type 0 where
  pub role : Role
  pub in_row : Among role (operands i).writes
  pub var : role.var ≡ w
  pub mask : role.mask ≡ mask_of (table i) w

in_place_role : (l : Line) (ws : List ℕ) (w : ℕ) → Among w ws → (role : Role) ×
    Among role (map (rewritten l) ws) × (role.var ≡ w) × (role.mask ≡ mask_of l w)
in_place_role l [] w k = absurd k
in_place_role l (x ∷ ws) w k =
    ⊎_elim
    (λ (e : w ≡ x). (rewritten l x, inl refl, sym e, ap (mask_of l) (sym e)))
    (λ (more : Among w ws). let a = in_place_role l ws w more in (a.0, inr a.1, a.2, a.3))
    k

settled_role : (l : Line) (roles : List Role) (w : ℕ) → Among w (map var_of roles) → (role : Role) ×
    Among role (map (settled l) roles) × (role.var ≡ w) × (role.mask ≡ mask_of l w)
settled_role l [] w k = absurd k
settled_role l (x ∷ roles) w k =
    ⊎_elim
    (λ (e : w ≡ x.var). (settled l x, inl refl, sym e, ap (mask_of l) (sym e)))
    (λ (more : Among w (map var_of roles)). let a = settled_role l roles w more in
    (a.0, inr a.1, a.2, a.3))
    k

pub written_role : (i : VInstr) (w : ℕ) → Among w (written_by i) → WrittenRole i w
written_role i w k =
    let l = table i in
    ⊎_elim
    (λ (a : Among w l.in_place). let r = in_place_role l l.in_place w a in
    record {
      role = r.0;
      in_row = in_left (map (rewritten l) l.in_place)
          (map (settled l) l.writes) r.0 r.1;
      var = r.2;
      mask = r.3;
    })
    (λ (b : Among w (map var_of l.writes)). let r = settled_role l l.writes w b in
    record {
      role = r.0;
      in_row = in_right (map (rewritten l) l.in_place)
          (map (settled l) l.writes) r.0 r.1;
      var = r.2;
      mask = r.3;
    })
    (in_either l.in_place (map var_of l.writes) w k)

-- ---- the layer behind an instruction

module _ (code : VProc) (live : Lives) (b k : ℕ) (i : VInstr) (here : instr_at code b k ≡ Some i)
  where
    abbrev l : ℕ
    l = 2 * k + 2

    not_entry : nat_eq l 0 ≡ false
    not_entry = grind (arith, nat_tests)

    beside_is : beside code b l ≡ Some i
    beside_is =
        let half : (l - 1) / 2 ≡ k = omega arith in
        ap (λ t. if t then None else instr_at code b ((l - 1) / 2)) not_entry
        ∙ ap (instr_at code b) half ∙ here

    pub roles_are : roles_at all_tables code b l ≡ (operands i).writes
    roles_are = ap₂ (λ t o. roles_beside t operands o) (after_even k) beside_is

    pub not_coming : (v : ℕ) → comes_in_memory code v b l ≡ false
    not_coming v = last_false (is_param (kind_of code v) && nat_eq b 0) (nat_eq l 0) not_entry
      where
        last_false : (a c : Bool) → c ≡ false → (a && c) ≡ false
        last_false true c e = e
        last_false false c e = refl

    pub clobbered_is : (v : ℕ) → is_present all_tables code live v b (2 * k + 1) ≡ true →
        clobbered all_tables code live v b l ≡ (table i).clobbers
    clobbered_is v e =
        let other : across l ≡ 2 * k + 1 = ap (λ t. if t then l + 1 else l - 1) (after_even k)
        ∙ (let a : l - 1 ≡ 2 * k + 1 = omega arith in a) in
        ap (λ m. if is_present all_tables code live v b m then clobbers_beside operands
        (beside code b l) else 0) other
        ∙ ap (λ t. if t then clobbers_beside operands (beside code b l) else 0) e
        ∙ ap (clobbers_beside operands) beside_is
