-- The rows of the operand table: whose roles they are, and which registers their masks have.
use Rattle.std.proofs.Common.{ℕ, zero, suc, ◌≡◌, ◌+◌, ◌<◌, ◌≤◌, Bool, true, false, ◌&&◌, ◌||◌, cond}
use Rattle.std.proofs.Common.{eqb, ltb, List, [], ◌∷◌, ◌++◌, length, get_or, All, map, count_by}
use Rattle.std.proofs.Common.{refl, sym, ap, ◌∙◌, arith, inl, inr, ◌⊎◌, Option, Some, None, max}
use Rattle.std.proofs.Common.{length-append}
use Rattle.std.specs.Int.{bit_at}
use Rattle.std.specs.List.{list_any}
use Rattle.std.proofs.lemmas.Bool.{cases_eq, cases_Bool, eq-eqb, ne_eqb, and_parts, eqb-true}
use Rattle.std.proofs.lemmas.Bool.{false≢true}
use Rattle.std.proofs.lemmas.List.{length-map}
use Rattle.std.proofs.lemmas.List.Elements.{All-nil, All-head, All-tail, All-append, All-map}
use Rattle.std.proofs.lemmas.List.Elements.{All-weaker}
use Rattle.std.proofs.lemmas.List.Folds.{list_any-append}
use Rattle.std.proofs.lemmas.Nat.Bits.{bit_at_or, bit_at-lt}
use Rattle.pra_list.specs.Each.{Each}
use Rattle.pra_list.proofs.Each.{all_of_each}
use Rattle.pra_list.proofs.Mapped.{list_any-map}
use Rattle.pra_base.specs.declared.ids.VarId.{VarId}
use Rattle.pra_base.specs.declared.code.Base.{Base}
use Rattle.pra_base.specs.declared.code.Base.TheVariants.{Via, Global, Frame, Cell}
use Rattle.pra_base.specs.declared.code.Addr.{Addr}
use Rattle.pra_base.specs.declared.code.VInstr.{VInstr}
use Rattle.pra_base.specs.declared.code.VInstr.TheVariants as instr
use Rattle.pra_base.specs.Operands.{Role, Line, is_role_of, line_writes, reads, writes, read_by}
use Rattle.pra_base.specs.Operands.{written_by, var_of, operands, settled, rewritten, widened}
use Rattle.pra_base.specs.Operands.{all_roles, common, mask_of, is_star_of, but_memory, table}
use Rattle.pra_base.specs.Operands.{every, via, index, addressed, R, K}
use Rattle.pra_base.specs.Places.{allows, with_both, ◌∪◌}
use Rattle.net_form.specs.Strands.{roles_beside}
use Rattle.net_laws.proofs.Bits.{both_allow, met_allows, fold_allows, fold_role}

-- ---- the roles of a row name what is read and written

swapped : (a b : ℕ) → eqb a b ≡ eqb b a
swapped a b = elim (cases_eq a b) as (λ _. eqb a b ≡ eqb b a) [
  | inl same ↦ eq-eqb a b same ∙ sym (eq-eqb b a (sym same))
  | inr other ↦ ne_eqb a b other ∙ sym (ne_eqb b a (λ e. other (sym e)))
]

any-rewritten : (line : Line) (vars : List ℕ) (v : ℕ) →
    list_any (is_role_of v) (map (rewritten line) vars) ≡ list_any (eqb v) vars
any-rewritten line [] v = refl
any-rewritten line (x ∷ xs) v = ap (λ b. b || list_any (is_role_of v) (map (rewritten line) xs))
    (swapped x v) ∙ ap (λ b. eqb v x || b) (any-rewritten line xs v)

pub read_roles : (v : ℕ) (i : VInstr) →
    list_any (is_role_of v) (roles_beside true operands (Some i)) ≡ reads i v
read_roles v i = list_any-map (is_role_of v) (settled (table i)) (table i).reads

pub written_roles : (v : ℕ) (i : VInstr) →
    list_any (is_role_of v) (roles_beside false operands (Some i)) ≡ writes i v
written_roles v i =
    let line = table i in
    list_any-append (is_role_of v) (map (rewritten line) line.in_place)
    (map (settled line) line.writes)
    ∙ ap (λ b. b || list_any (is_role_of v) (map (settled line) line.writes))
    (any-rewritten line line.in_place v)
    ∙ ap (λ b. list_any (eqb v) line.in_place || b)
    (list_any-map (is_role_of v) (settled line) line.writes)

-- ---- the mask of a variable in all its roles

module _ (i : VInstr) (v p : ℕ) where
  abbrev Has : Role → Type 0
  Has r = is_role_of v r ≡ true → allows r.mask p ≡ true

  settled_has : allows (mask_of (table i) v) p ≡ true → (r : Role) → Has (settled (table i) r)
  settled_has h r is = ap (λ u. allows (mask_of (table i) u) p) (eqb-true r.var v is) ∙ h

  rewritten_has : allows (mask_of (table i) v) p ≡ true → (u : ℕ) → Has (rewritten (table i) u)
  rewritten_has h u is = ap (λ u. allows (mask_of (table i) u) p) (eqb-true u v is) ∙ h

  all_map : {X : Type 0} (f : X → Role) (xs : List X) → ((x : X) → Has (f x)) → All Has (map f xs)
  all_map f xs h = All-map Has f xs (λ k d lt. h (get_or xs k d))

  pub roles_have : (b : Bool) → allows (mask_of (table i) v) p ≡ true →
      All Has (roles_beside b operands (Some i))
  roles_have true h = all_map (settled (table i)) (table i).reads (settled_has h)
  roles_have false h = All-append Has (map (rewritten (table i)) (table i).in_place)
      (map (settled (table i)) (table i).writes)
      (all_map (rewritten (table i)) (table i).in_place (rewritten_has h))
      (all_map (settled (table i)) (table i).writes (settled_has h))

  -- a role has the mask of its variable
  from_map : {X : Type 0} (f : X → Role) (xs : List X) →
      ((x : X) → is_role_of v (f x) ≡ true → (f x).mask ≡ mask_of (table i) v)
      → All Has (map f xs) → list_any (is_role_of v) (map f xs) ≡ true →
      allows (mask_of (table i) v) p ≡ true
  from_map f [] same all any = absurd (false≢true any)
  from_map f (x ∷ xs) same all any =
      elim (cases_Bool (is_role_of v (f x))) as (λ _. allows (mask_of (table i) v) p ≡ true) [
        | inl is ↦ sym (ap (λ m. allows m p) (same x is)) ∙ All-head Has (f x) (map f xs) all is
        | inr no_ ↦ from_map f xs same (All-tail Has (f x) (map f xs) all)
            (sym (ap (λ t. t || list_any (is_role_of v) (map f xs)) no_) ∙ any)
      ]

  pub read_mask : All Has (roles_beside true operands (Some i)) → reads i v ≡ true →
      allows (mask_of (table i) v) p ≡ true
  read_mask all any = from_map (settled (table i)) (table i).reads
      (λ r is. ap (mask_of (table i)) (eqb-true r.var v is)) all (read_roles v i ∙ any)

  -- what each of its roles in the line has, it has
  pub line_has : allows every p ≡ true → allows (but_memory every) p ≡ true →
      All Has (table i).reads → All Has (table i).writes → allows (mask_of (table i) v) p ≡ true
  line_has all_places kept read written =
      starless (nat_stars (table i)) (fold_allows v every p (all_roles (table i)) all_places
      (All-append Has (map (widened (table i)) (table i).reads) (table i).writes
      (All-map Has (widened (table i)) (table i).reads
      (All-weaker Has (λ r. Has (widened (table i) r)) (λ r h is. wide_has r (h is)) (table i).reads
      read)) written))
    where
      nat_stars : Line → Bool
      nat_stars l = ltb 1 (count_by (is_star_of v) (l.reads ++ l.writes))

      starless : (b : Bool) → allows (common (all_roles (table i)) v) p ≡ true
          → allows (cond b (but_memory (common (all_roles (table i)) v))
          (common (all_roles (table i)) v)) p ≡ true
      starless true h = both_allow (common (all_roles (table i)) v) _ p h
          (met_allows every _ p kept).1
      starless false h = h

      joined : (a b : ℕ) → allows a p ≡ true → allows (a ∪ b) p ≡ true
      joined a b h = ap (λ k. eqb k 1)
          (bit_at_or a b p ∙ (let one = eqb-true (bit_at a p) 1 h in let few = bit_at-lt b p in
          let e : max (bit_at a p) (bit_at b p) ≡ 1 = omega (arith, one, few) in e))

      wide_has : (r : Role) → allows r.mask p ≡ true → allows (widened (table i) r).mask p ≡ true
      wide_has r h = by (line_writes (table i) r.var)
        where
          by : (b : Bool) → allows (cond b r.mask (with_both r.mask)) p ≡ true
          by true = h
          by false = joined r.mask _ h

-- ---- the rows by their shape

-- the registers with a low byte are in the mask
abbrev pub is_wide : ℕ → Bool
is_wide m = allows m 0 && allows m 1 && allows m 2 && allows m 3

pub wide_at : (m p : ℕ) → is_wide m ≡ true → p < 4 → allows m p ≡ true
wide_at m zero h lt = (and_parts (allows m 0) (allows m 1)
    (and_parts (allows m 0 && allows m 1) (allows m 2)
    (and_parts (allows m 0 && allows m 1 && allows m 2) (allows m 3) h).0).0).0
wide_at m (suc zero) h lt =
    (and_parts (allows m 0) (allows m 1)
    (and_parts (allows m 0 && allows m 1) (allows m 2)
    (and_parts (allows m 0 && allows m 1 && allows m 2) (allows m 3) h).0).0).1
wide_at m (suc (suc zero)) h lt =
    (and_parts (allows m 0 && allows m 1) (allows m 2)
    (and_parts (allows m 0 && allows m 1 && allows m 2) (allows m 3) h).0).1
wide_at m (suc (suc (suc zero))) h lt =
    (and_parts (allows m 0 && allows m 1 && allows m 2) (allows m 3) h).1
wide_at m (suc (suc (suc (suc p)))) h lt = absurd (omega (arith, lt))

abbrev pub WideRole : Role → Type 0
WideRole r = is_wide r.mask ≡ true

abbrev pub FirstRole : Role → Type 0
FirstRole r = allows r.mask 0 ≡ true

-- the variables of an instruction
abbrev pub vars_of : VInstr → List ℕ
vars_of i = read_by i ++ written_by i

pub data Shape (i : VInstr) : Type 0 where
  -- three roles at most, each of which may be in any register with a low byte
  wide : (table i).clobbers ≡ 0 → All WideRole (table i).reads → All WideRole (table i).writes →
      length (vars_of i) ≤ 3 → Shape i
  -- no variable
  bare : vars_of i ≡ [] → Shape i
  -- one variable, at EAX
  single : (v : ℕ) → (table i).clobbers ≡ 0 → vars_of i ≡ v ∷ [] → All FirstRole (table i).reads →
      All FirstRole (table i).writes → Shape i
  divides : (q r a d : VarId) → i ≡ instr.DivMod q r a d → Shape i

wide_via : (b : Base) → Each WideRole (via b)
wide_via (Global n) = tt
wide_via (Frame n) = tt
wide_via (Cell n) = tt
wide_via (Via v) = (refl, tt)

few_via : (b : Base) → length (via b) ≤ 1
few_via (Global n) = omega arith
few_via (Frame n) = omega arith
few_via (Cell n) = omega arith
few_via (Via v) = omega arith

wide_index : (o : Option VarId) → Each WideRole (index o)
wide_index None = tt
wide_index (Some v) = (refl, tt)

few_index : (o : Option VarId) → length (index o) ≤ 1
few_index None = omega arith
few_index (Some v) = omega arith

wide_address : (a : Addr) → All WideRole (addressed a)
wide_address a = All-append WideRole (via a.base) (index a.index)
    (all_of_each WideRole (via a.base) (wide_via a.base))
    (all_of_each WideRole (index a.index) (wide_index a.index))

few_address : (a : Addr) → length (addressed a) ≤ 2
few_address a = let e = length-append (via a.base) (index a.index) in let x = few_via a.base in
    let y = few_index a.index in omega (arith, e, x, y)

-- as many variables as roles
var_count : (i : VInstr) → length (vars_of i) ≡
    length (table i).reads + (length (table i).in_place + length (table i).writes)
var_count i =
    let l = table i in
    let a = length-append (read_by i) (written_by i) in
    let b = length-append l.in_place (map var_of l.writes) in
    let c = length-map l.reads var_of in
    let d = length-map l.writes var_of in
    omega (arith, a, b, c, d)

wide_row : (i : VInstr) → (table i).clobbers ≡ 0 → Each WideRole (table i).reads →
    Each WideRole (table i).writes
    → length (table i).reads + (length (table i).in_place + length (table i).writes) ≤ 3 → Shape i
wide_row i none reads writes few = wide none (all_of_each WideRole (table i).reads reads)
    (all_of_each WideRole (table i).writes writes)
    (let e = var_count i in omega (arith, e, few))

abbrev stored : VarId → Role
stored s = record { var = s.0; mask = R ∪ K; memory = false }

pub shape : (i : VInstr) → Shape i
shape (instr.Set v n) = wide_row (instr.Set v n) refl tt (refl, tt) (omega arith)
shape (instr.Copy v s) = wide_row (instr.Copy v s) refl (refl, tt) (refl, tt) (omega arith)
shape (instr.Add v s) = wide_row (instr.Add v s) refl (refl, (refl, tt)) tt (omega arith)
shape (instr.Sub v s) = wide_row (instr.Sub v s) refl (refl, (refl, tt)) tt (omega arith)
shape (instr.And v s) = wide_row (instr.And v s) refl (refl, (refl, tt)) tt (omega arith)
shape (instr.Or v s) = wide_row (instr.Or v s) refl (refl, (refl, tt)) tt (omega arith)
shape (instr.Xor v s) = wide_row (instr.Xor v s) refl (refl, (refl, tt)) tt (omega arith)
shape (instr.Mul v s) = wide_row (instr.Mul v s) refl (refl, (refl, tt)) tt (omega arith)
shape (instr.Neg v) = wide_row (instr.Neg v) refl (refl, tt) tt (omega arith)
shape (instr.Shift op v n) = wide_row (instr.Shift op v n) refl (refl, tt) tt (omega arith)
shape (instr.Cmp a b) = wide_row (instr.Cmp a b) refl (refl, (refl, tt)) tt (omega arith)
shape (instr.CmpSet c v a b) = wide_row (instr.CmpSet c v a b) refl (refl, (refl, tt)) (refl, tt)
    (omega arith)
shape (instr.DivMod q r a d) = divides q r a d refl
shape (instr.Check v n) = wide_row (instr.Check v n) refl (refl, tt) tt (omega arith)
shape (instr.CheckPos d) = wide_row (instr.CheckPos d) refl (refl, tt) tt (omega arith)
shape (instr.Load v a) =
    wide refl (wide_address a) (all_of_each WideRole (table (instr.Load v a)).writes (refl, tt))
    (let e = var_count (instr.Load v a) in let f = few_address a in omega (arith, e, f))
shape (instr.Store a s) = wide refl
    (All-append WideRole (addressed a) (stored s ∷ []) (wide_address a)
    (all_of_each WideRole (stored s ∷ []) (refl, tt)))
    (All-nil _)
    (let e = var_count (instr.Store a s) in let f = few_address a in
    let g = length-append (addressed a) (stored s ∷ []) in omega (arith, e, f, g))
shape (instr.Addr v a) =
    wide refl (wide_address a) (all_of_each WideRole (table (instr.Addr v a)).writes (refl, tt))
    (let e = var_count (instr.Addr v a) in let f = few_address a in omega (arith, e, f))
shape (instr.Push s) = wide_row (instr.Push s) refl (refl, tt) tt (omega arith)
shape (instr.Call p) = bare refl
shape (instr.Read v) = single v.0 refl refl (All-nil _)
    (all_of_each FirstRole (table (instr.Read v)).writes (refl, tt))
shape (instr.Write s) = single s.0 refl refl
    (all_of_each FirstRole (table (instr.Write s)).reads (refl, tt)) (All-nil _)
shape instr.Line = bare refl
shape instr.Clear = bare refl

-- ---- whose roles there are

any-vars : (v : ℕ) (rs : List Role) → list_any (eqb v) (map var_of rs) ≡ list_any (is_role_of v) rs
any-vars v [] = refl
any-vars v (r ∷ rs) = ap (λ b. b || list_any (eqb v) (map var_of rs)) (swapped v r.var)
    ∙ ap (λ b. eqb r.var v || b) (any-vars v rs)

pub named : (v : ℕ) (i : VInstr) → list_any (eqb v) (vars_of i) ≡ (reads i v || writes i v)
named v i =
    let l = table i in
    list_any-append (eqb v) (read_by i) (written_by i)
    ∙ ap (λ b. b || list_any (eqb v) (written_by i)) (any-vars v l.reads)
    ∙ ap (λ b. reads i v || b) (list_any-append (eqb v) l.in_place (map var_of l.writes)
    ∙ ap (λ b. list_any (eqb v) l.in_place || b) (any-vars v l.writes))

-- ---- what is destroyed

pub clobbers_three : (i : VInstr) → ((table i).clobbers ≡ 0) ⊎
    (((table i).clobbers ≡ 2) ⊎ ((table i).clobbers ≡ 7))
clobbers_three (instr.Call p) = inr (inr refl)
clobbers_three instr.Clear = inr (inl refl)
clobbers_three _ = inl refl

-- what the mask has, each of its roles has
pub line_had : (i : VInstr) (v p : ℕ) → allows (mask_of (table i) v) p ≡ true →
    All (λ r. is_role_of v r ≡ true → allows r.mask p ≡ true) (all_roles (table i))
line_had i v p h = fold_role v every p (all_roles (table i))
    (starless (ltb 1 (count_by (is_star_of v) ((table i).reads ++ (table i).writes))) h)
  where
    starless : (b : Bool) → allows
        (cond b (but_memory (common (all_roles (table i)) v)) (common (all_roles (table i)) v)) p ≡
        true → allows (common (all_roles (table i)) v) p ≡ true
    starless true h = (met_allows (common (all_roles (table i)) v) _ p h).0
    starless false h = h
