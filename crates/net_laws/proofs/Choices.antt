-- How many registers a strand has to choose from, and how many strands compete with it.
use Rattle.std.proofs.Common.{ℕ, zero, suc, ◌≡◌, ◌<◌, ◌≤◌, Bool, true, false, not, ◌&&◌, ◌||◌, cond}
use Rattle.std.proofs.Common.{eqb, [], ◌∷◌, length, All, refl, sym, ap, ◌∙◌, subst, arith, inl, inr}
use Rattle.std.proofs.Common.{◌⊎◌, Option, Some}
use Rattle.std.specs.List.{list_any}
use Rattle.std.proofs.lemmas.Bool.{and_from, eqb-true, or_cases, false≢true}
use Rattle.std.proofs.lemmas.List.Elements.{All-weaker}
use Rattle.pra_list.proofs.Counts.{count-yes, some_count}
use Rattle.pra_base.specs.declared.code.VarKind.{VarKind}
use Rattle.pra_base.specs.declared.code.VarKind.TheVariants.{Param, Plain, Constant}
use Rattle.pra_base.specs.declared.code.VInstr.{VInstr}
use Rattle.pra_base.specs.declared.code.VProc.{VProc}
use Rattle.pra_base.specs.Code.{kind_of, instr_at}
use Rattle.pra_base.specs.Operands.{is_role_of, reads, writes, operands, table, every, but_memory}
use Rattle.pra_base.specs.Operands.{own_places}
use Rattle.pra_base.specs.Places.{allows, without}
use Rattle.pra_base.specs.Valid.{IsValid, IsSized}
use Rattle.net_form.specs.declared.net.Strand.{Strand}
use Rattle.net_form.specs.Tables.{all_tables}
use Rattle.net_form.specs.Strands.{Lives, IsLive, is_present, across, roles_beside, clobbers_beside}
use Rattle.net_form.specs.Strands.{mask_at}
use Rattle.net_laws.specs.Homes.{is_there, allowed, choices, registers, is_rival, rivals}
use Rattle.net_laws.proofs.Bits.{nothing_lost}
use Rattle.net_laws.proofs.Few.{few, range_none}
use Rattle.net_laws.proofs.Sides.{side, side_across, mask_has}
use Rattle.net_laws.proofs.Rows.{line_has, roles_have, WideRole, FirstRole, is_wide, wide_at}
use Rattle.net_laws.proofs.Rows.{vars_of, named}
use Rattle.net_laws.proofs.Homes.{allowed_has}
use Rattle.net_laws.proofs.Needs.{net, at, run_of, apart, IsRivalAt}

pub four : (m : ℕ) → is_wide m ≡ true → 4 ≤ choices m
four m w =
    let p = allows m in
    let a = count-yes p 0 (1 ∷ 2 ∷ 3 ∷ 4 ∷ 5 ∷ []) (wide_at m 0 w (omega arith)) in
    let b = count-yes p 1 (2 ∷ 3 ∷ 4 ∷ 5 ∷ []) (wide_at m 1 w (omega arith)) in
    let c = count-yes p 2 (3 ∷ 4 ∷ 5 ∷ []) (wide_at m 2 w (omega arith)) in
    let d = count-yes p 3 (4 ∷ 5 ∷ []) (wide_at m 3 w (omega arith)) in
    omega (arith, a, b, c, d)

-- one of the first registers
pub one : (m p : ℕ) → p < 6 → allows m p ≡ true → 0 < choices m
one m zero lt h = some_count (allows m) registers 0 0 (omega arith) h
one m (suc zero) lt h = some_count (allows m) registers 1 0 (omega arith) h
one m (suc (suc zero)) lt h = some_count (allows m) registers 2 0 (omega arith) h
one m (suc (suc (suc zero))) lt h = some_count (allows m) registers 3 0 (omega arith) h
one m (suc (suc (suc (suc zero)))) lt h = some_count (allows m) registers 4 0 (omega arith) h
one m (suc (suc (suc (suc (suc zero))))) lt h = some_count (allows m) registers 5 0 (omega arith) h
one m (suc (suc (suc (suc (suc (suc p)))))) lt h = absurd (omega (arith, lt))

pub own_wide : (kind : VarKind) → is_wide (own_places kind) ≡ true
own_wide (Constant n) = refl
own_wide Plain = refl
own_wide (Param i) = refl

module _ (code : VProc) (live : Lives) (is_live : IsLive code live) (valid : IsValid code)
    (sized : IsSized code) (least : ℕ → ℕ)
    (s : ℕ) (s_lt : s < length (net code live is_live valid sized least).strands) (l k : ℕ)
    (before : Bool) (at_l : l ≡ side k before) (i : VInstr) where
  abbrev t : Strand
  t = at code live is_live valid sized least s

  abbrev v : ℕ
  v = t.var.0

  abbrev Rival : ℕ → Type 0
  Rival r = IsRivalAt code live is_live valid sized least s l k i r

  -- a register that all the variable's roles have, where none is destroyed
  pub may_be : instr_at code t.block.0 k ≡ Some i → is_there t l ≡ true → (table i).clobbers ≡ 0 →
      (p : ℕ) → p < 14 → allows (own_places (kind_of code v)) p ≡ true
      → ((c : Bool) → All (λ r. is_role_of v r ≡ true → allows r.mask p ≡ true)
      (roles_beside c operands (Some i))) → allows (allowed t l) p ≡ true
  may_be is there none p lt own roles_p =
      allowed_has code live t (run_of code live is_live valid sized least s s_lt) l p there
      (ap (λ l. allows (mask_at all_tables code live v t.block.0 l) p) at_l ∙ one_side before)
      (λ _. ap (λ l. allows (mask_at all_tables code live v t.block.0 (across l)) p) at_l
      ∙ ap (λ l. allows (mask_at all_tables code live v t.block.0 l) p) (side_across k before)
      ∙ one_side (not before))
    where
      kept : (x : Bool) (o : Option VInstr) → o ≡ Some i → (m : ℕ) → allows m p ≡ true →
          allows (without m (cond x (clobbers_beside operands o) 0)) p ≡ true
      kept true o same m h = ap (λ o. allows (without m (clobbers_beside operands o)) p) same
          ∙ ap (λ n. allows (without m n) p) none ∙ nothing_lost m p lt h
      kept false o same m h = nothing_lost m p lt h

      one_side : (c : Bool) → allows (mask_at all_tables code live v t.block.0 (side k c)) p ≡ true
      one_side c = mask_has code live v t.block.0 k c p own
          (subst (λ o. All (λ r. is_role_of v r ≡ true → allows r.mask p ≡ true)
          (roles_beside c operands o)) (sym is) (roles_p c))
          (λ m h. kept (is_present all_tables code live v t.block.0 (side k (not c)))
          (instr_at code t.block.0 k) is m h)

  -- as many rivals as variables at most
  pub few_rivals : instr_at code t.block.0 k ≡ Some i →
      ((r : ℕ) → r < length (net code live is_live valid sized least).strands →
      is_rival (net code live is_live valid sized least) s l r ≡ true → Rival r)
      → rivals (net code live is_live valid sized least) s l ≤ length (vars_of i)
  few_rivals is rival_of = few (λ r. (at code live is_live valid sized least r).var.0)
      (is_rival (net code live is_live valid sized least) s l) 0
      (length (net code live is_live valid sized least).strands) (vars_of i)
      (λ r _ lt competes. let x = rival_of r (omega (arith, lt)) competes in
      named (at code live is_live valid sized least r).var.0 i ∙ x.named)
      (λ x y _ less lt cx cy var.
      let a = rival_of x (omega (arith, lt, less)) cx in
      let b = rival_of y (omega (arith, lt)) cy in
      apart code live is_live valid sized least x y k a.before b.before (omega (arith, lt, less))
      (omega (arith, lt)) (λ e. omega (arith, e, less)) var (a.block ∙ sym b.block) a.there
      b.there)

  pub wide_room : instr_at code t.block.0 k ≡ Some i → is_there t l ≡ true →
      ((r : ℕ) → r < length (net code live is_live valid sized least).strands →
      is_rival (net code live is_live valid sized least) s l r ≡ true → Rival r)
      → (table i).clobbers ≡ 0 → All WideRole (table i).reads → All WideRole (table i).writes →
      length (vars_of i) ≤ 3
      → rivals (net code live is_live valid sized least) s l < choices (allowed t l)
  wide_room is there rival_of none reads_wide writes_wide small =
      let most = few_rivals is rival_of in
      let many = four (allowed t l)
      (and_from (allows m 0 && allows m 1 && allows m 2) (allows m 3)
      (and_from (allows m 0 && allows m 1) (allows m 2)
      (and_from (allows m 0) (allows m 1) (bit 0 (omega arith)) (bit 1 (omega arith)))
      (bit 2 (omega arith))) (bit 3 (omega arith))) in
      omega (arith, most, many, small)
    where
      m : ℕ
      m = allowed t l

      bit : (p : ℕ) → p < 4 → allows m p ≡ true
      bit p lt = may_be is there none p (omega (arith, lt))
          (wide_at (own_places (kind_of code v)) p (own_wide (kind_of code v)) lt)
          (λ c. roles_have i v p c
          (line_has i v p (wide_at every p refl lt) (wide_at (but_memory every) p refl lt)
          (All-weaker WideRole (λ r. is_role_of v r ≡ true → allows r.mask p ≡ true)
          (λ r w _. wide_at r.mask p w lt) (table i).reads reads_wide)
          (All-weaker WideRole (λ r. is_role_of v r ≡ true → allows r.mask p ≡ true)
          (λ r w _. wide_at r.mask p w lt) (table i).writes writes_wide)))

  no_rivals : ((r : ℕ) → r < length (net code live is_live valid sized least).strands →
      is_rival (net code live is_live valid sized least) s l r ≡ true → ⊥) →
      rivals (net code live is_live valid sized least) s l ≡ 0
  no_rivals none = range_none (is_rival (net code live is_live valid sized least) s l) 0
      (length (net code live is_live valid sized least).strands)
      (λ r _ lt competes. none r (omega (arith, lt)) competes)

  pub lone_room : ((r : ℕ) → r < length (net code live is_live valid sized least).strands →
      is_rival (net code live is_live valid sized least) s l r ≡ true → ⊥) → (p : ℕ) → p < 6 →
      allows (allowed t l) p ≡ true
      → rivals (net code live is_live valid sized least) s l < choices (allowed t l)
  lone_room none p lt h = let zero_ = no_rivals none in let some = one (allowed t l) p lt h in
      omega (arith, zero_, some)

  same_strand : (x : ℕ) → list_any (eqb v) (x ∷ []) ≡ true → v ≡ x
  same_strand x any = elim (or_cases (eqb v x) false any) as (λ _. v ≡ x)
      [ inl is ↦ eqb-true v x is | inr no_ ↦ absurd (false≢true no_) ]

  -- one variable has no rivals
  pub single_room : instr_at code t.block.0 k ≡ Some i → is_there t l ≡ true →
      (reads i v || writes i v) ≡ true →
      ((r : ℕ) → r < length (net code live is_live valid sized least).strands →
      is_rival (net code live is_live valid sized least) s l r ≡ true → Rival r)
      → (x : ℕ) → (table i).clobbers ≡ 0 → vars_of i ≡ x ∷ [] → All FirstRole (table i).reads →
      All FirstRole (table i).writes
      → rivals (net code live is_live valid sized least) s l < choices (allowed t l)
  single_room is there mine rival_of x none one_var reads_first writes_first = lone_room
      (λ r lt competes.
      let o = rival_of r lt competes in
      let u = (at code live is_live valid sized least r).var.0 in
      let same : u ≡ v = single_var u o.named ∙ sym (single_var v mine) in
      apart code live is_live valid sized least r s k o.before before lt s_lt o.other same o.block
      o.there (subst (λ l. is_there t l ≡ true) at_l there))
      0 (omega arith)
      (may_be is there none 0 (omega arith)
      (wide_at (own_places (kind_of code v)) 0 (own_wide (kind_of code v)) (omega arith))
      (λ c. roles_have i v 0 c (line_has i v 0 refl refl
      (All-weaker FirstRole (λ r. is_role_of v r ≡ true → allows r.mask 0 ≡ true) (λ r w _. w)
      (table i).reads reads_first)
      (All-weaker FirstRole (λ r. is_role_of v r ≡ true → allows r.mask 0 ≡ true) (λ r w _. w)
      (table i).writes writes_first))))
    where
      single_var : (u : ℕ) → (reads i u || writes i u) ≡ true → u ≡ x
      single_var u h = by (or_cases (eqb u x) false
          (sym (ap (list_any (eqb u)) one_var) ∙ named u i ∙ h))
        where
          by : (eqb u x ≡ true) ⊎ (false ≡ true) → u ≡ x
          by (inl is) = eqb-true u x is
          by (inr no_) = absurd (false≢true no_)
