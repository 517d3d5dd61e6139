-- What the masks of a network allow.
use Rattle.std.proofs.Common.{◌≡◌, ℕ, ℤ, ◌<◌, ◌⊎◌, inl, inr, ⊎_elim, Bool, true, false, not, ◌&&◌}
use Rattle.std.proofs.Common.{◌||◌, nat_eq, min, if◌then◌else◌, List, [], ◌∷◌, map, fold, Some}
use Rattle.std.proofs.Common.{None, refl, sym, ap, subst, ◌∙◌, arith}
use Rattle.std.specs.Int.{bit_at}
use Rattle.std.proofs.lemmas.Bool.{and_parts}
use Rattle.std.proofs.lemmas.Bool.Decides.{nat_tests}
use Rattle.std.proofs.lemmas.Nat.Bits.{bit_at_and, bit_at-lt}
use Rattle.pra_list.proofs.Truths.{true_false, itself}
use Rattle.pra_list.specs.Among.{Among}
use Rattle.pra_base.specs.declared.ids.Place.{Place}
use Rattle.pra_base.specs.declared.ids.Place.TheVariants.{Eax, Ecx, Edx, Ebx, Esi, Edi, Mem, Const}
use Rattle.pra_base.specs.declared.ids.Place.TheVariants.{EaxM, EcxM, EdxM, EbxM, EsiM, EdiM}
use Rattle.pra_base.specs.declared.code.VarKind.{VarKind}
use Rattle.pra_base.specs.declared.code.VarKind.TheVariants.{Param, Plain, Constant}
use Rattle.pra_base.specs.declared.code.VInstr.{VInstr}
use Rattle.pra_base.specs.declared.code.VInstr.TheVariants as instr
use Rattle.pra_base.specs.declared.code.VProc.{VProc}
use Rattle.pra_base.specs.Code.{kind_of}
use Rattle.pra_base.specs.Places.{number, allows, meet, with_both, mask_where, lies_in, only}
use Rattle.pra_base.specs.Places.{without, has_register, register_of, is_register, is_mem, ◌∪◌}
use Rattle.pra_base.specs.Operands.{R, M, B, RM, none, Role, Line, table, own_places, is_role_of}
use Rattle.pra_base.specs.Operands.{line_writes, widened, all_roles, meets, common, but_memory}
use Rattle.pra_base.specs.Operands.{mask_of, written_by, every}
use Rattle.net_form.specs.Tables.{all_tables}
use Rattle.net_form.specs.Strands.{Lives, is_param, comes_in_memory, met_mask, clobbered, mask_at}
use Rattle.net_form.specs.Strands.{roles_at}
use Rattle.pl_moves.specs.Assignment.{suits}
use Rattle.pl_place.specs.Behind.{constant}
use Rattle.pl_simulation.specs.Correspondence.{is_destroyed}
use Rattle.pra_list.proofs.Among.{in_left, in_right, in_map}
use Rattle.pl_moves.specs.Meaning.{Register}

-- ---- bits

min_one : (a b : ℕ) → a < 2 → b < 2 → min a b ≡ 1 → (a ≡ 1) × (b ≡ 1)
min_one a b f g e = (omega (arith, f, g, e), omega (arith, f, g, e))

one_true : (a : ℕ) → nat_eq a 1 ≡ true → a ≡ 1
one_true a e = grind (arith, nat_tests)

true_one : (a : ℕ) → a ≡ 1 → nat_eq a 1 ≡ true
true_one a e = grind (arith, nat_tests)

pub both_allow : (a b p : ℕ) → allows (meet a b) p ≡ true → (allows a p ≡ true) ×
    (allows b p ≡ true)
both_allow a b p e =
    let m = min_one (bit_at a p) (bit_at b p) (bit_at-lt a p) (bit_at-lt b p)
    (sym (bit_at_and a b p) ∙ one_true _ e) in
    (true_one _ m.0, true_one _ m.1)

-- ---- what the roles of a variable have in common

abbrev AllowsOf : ℕ → List Role → ℕ → Type 0
AllowsOf v roles p = (role : Role) → Among role roles → is_role_of v role ≡ true →
    allows role.mask p ≡ true

pub fold_allows : (v m : ℕ) (roles : List Role) (p : ℕ) → allows (fold (meets v) m roles) p ≡ true →
    (allows m p ≡ true) × AllowsOf v roles p
fold_allows v m [] p e = (e, λ role i of. absurd i)
fold_allows v m (x ∷ roles) p e =
    let more = fold_allows v (meets v m x) roles p e in
    let first = by_test (is_role_of v x) (more.0) in (
      first.0,
      λ role i of. ⊎_elim
          (λ (same : role ≡ x). subst (λ y. allows y.mask p ≡ true) (sym same)
          (first.1 (sym (ap (is_role_of v) same) ∙ of)))
          (λ (later : Among role roles). more.1 role later of) i,
    )
  where
    by_test : (b : Bool) → allows (if b then meet m x.mask else m) p ≡ true → (allows m p ≡ true) ×
        (b ≡ true → allows x.mask p ≡ true)
    by_test true e = let both = both_allow m x.mask p e in (both.0, λ _. both.1)
    by_test false e = (e, λ t. cc)

-- ---- a variable that is written

-- a register alone, or memory alone
abbrev pub is_single : ℕ → Bool
is_single p = is_register p || is_mem p

if_allows : (b : Bool) (m : ℕ) (p : ℕ) → allows (if b then but_memory m else m) p ≡ true →
    allows m p ≡ true
if_allows true m p e = (both_allow m _ p e).0
if_allows false m p e = e

mask_allows : (l : Line) (v p : ℕ) → allows (mask_of l v) p ≡ true → AllowsOf v (all_roles l) p
mask_allows l v p e = (fold_allows v every (all_roles l) p
    (if_allows _ (common (all_roles l) v) p e)).1

-- a role that is only written
of_write : (l : Line) (role : Role) (p : ℕ) → Among role l.writes → allows (mask_of l role.var) p ≡
    true → allows role.mask p ≡ true
of_write l role p i e = mask_allows l role.var p e role
    (in_right (map (widened l) l.reads) l.writes role i) (itself role.var)

-- a role that is read, of a variable that is written too
of_read : (l : Line) (role : Role) (p : ℕ) → Among role l.reads → line_writes l role.var ≡ true →
    allows (mask_of l role.var) p ≡ true → allows role.mask p ≡ true
of_read l role p i w e =
    let wide = mask_allows l role.var p e (widened l role)
    (in_left (map (widened l) l.reads) l.writes (widened l role)
    (in_map (widened l) l.reads role i)) (itself role.var) in
    by_test (line_writes l role.var) w (with_both role.mask) wide
  where
    by_test : (b : Bool) → b ≡ true → (m : ℕ) → allows (if b then role.mask else m) p ≡ true →
        allows role.mask p ≡ true
    by_test true e m f = f
    by_test false e m f = cc

abbrev Single : ℕ → Type 0
Single m = (q : Place) → allows m (number q) ≡ true → is_single (number q) ≡ true

single_rm : Single (R ∪ M)
single_rm Const e = cc
single_rm EaxM e = cc
single_rm EcxM e = cc
single_rm EdxM e = cc
single_rm EbxM e = cc
single_rm EsiM e = cc
single_rm EdiM e = cc
single_rm x e = refl

single_r : Single R
single_r Eax e = refl
single_r Ecx e = refl
single_r Edx e = refl
single_r Ebx e = refl
single_r Esi e = refl
single_r Edi e = refl
single_r x e = cc

single_b : Single B
single_b Eax e = refl
single_b Ecx e = refl
single_b Edx e = refl
single_b Ebx e = refl
single_b x e = cc

single_eax : Single (only Eax)
single_eax Eax e = refl
single_eax x e = cc

single_edx : Single (only Edx)
single_edx Edx e = refl
single_edx x e = cc

-- the place of a written variable is one cell
abbrev OneCell : Line → ℕ → Type 0
OneCell l w = (q : Place) → allows (mask_of l w) (number q) ≡ true → is_single (number q) ≡ true

one_written : (l : Line) (role : Role) → Among role l.writes → Single role.mask → OneCell l role.var
one_written l role i single q e = single q (of_write l role (number q) i e)

one_in_place : (l : Line) (role : Role) → Among role l.reads → line_writes l role.var ≡ true →
    Single role.mask → OneCell l role.var
one_in_place l role i w single q e = single q (of_read l role (number q) i w e)

one_of : (l : Line) (w v : ℕ) → (w ≡ v) ⊎ Among w [] → OneCell l v → OneCell l w
one_of l w v is one = ⊎_elim (λ (e : w ≡ v). subst (OneCell l) (sym e) one) (λ (no : ⊥). absurd no)
    is

or_yes : (a b : Bool) → a ≡ true → (a || b) ≡ true
or_yes true b e = refl
or_yes false b e = cc

self_written : (v : ℕ) (l : Line) (more : Bool) → ((nat_eq v v || false) || more) ≡ true
self_written v l more = or_yes (nat_eq v v || false) more (or_yes (nat_eq v v) false (itself v))

none_written : {X : Type 0} → ⊥ → X
none_written e = absurd e

pub one_cell : (i : VInstr) (w : ℕ) → Among w (written_by i) → OneCell (table i) w
one_cell (instr.Set v n) w is = one_of (table (instr.Set v n)) w v.0 is
    (one_written (table (instr.Set v n)) _ (inl refl) single_rm)
one_cell (instr.Copy v s) w is = one_of (table (instr.Copy v s)) w v.0 is
    (one_written (table (instr.Copy v s)) _ (inl refl) single_rm)
one_cell (instr.Add v s) w is = one_of (table (instr.Add v s)) w v.0 is
    (one_in_place (table (instr.Add v s)) _ (inl refl)
    (self_written v.0 (table (instr.Add v s)) false) single_rm)
one_cell (instr.Sub v s) w is = one_of (table (instr.Sub v s)) w v.0 is
    (one_in_place (table (instr.Sub v s)) _ (inl refl)
    (self_written v.0 (table (instr.Add v s)) false) single_rm)
one_cell (instr.And v s) w is = one_of (table (instr.And v s)) w v.0 is
    (one_in_place (table (instr.And v s)) _ (inl refl)
    (self_written v.0 (table (instr.Add v s)) false) single_rm)
one_cell (instr.Or v s) w is = one_of (table (instr.Or v s)) w v.0 is
    (one_in_place (table (instr.Or v s)) _ (inl refl)
    (self_written v.0 (table (instr.Add v s)) false) single_rm)
one_cell (instr.Xor v s) w is = one_of (table (instr.Xor v s)) w v.0 is
    (one_in_place (table (instr.Xor v s)) _ (inl refl)
    (self_written v.0 (table (instr.Add v s)) false) single_rm)
one_cell (instr.Mul v s) w is = one_of (table (instr.Mul v s)) w v.0 is
    (one_in_place (table (instr.Mul v s)) _ (inl refl)
    (self_written v.0 (table (instr.Add v s)) false) single_r)
one_cell (instr.Neg v) w is = one_of (table (instr.Neg v)) w v.0 is
    (one_in_place (table (instr.Neg v)) _ (inl refl) (self_written v.0 (table (instr.Neg v)) false)
    single_rm)
one_cell (instr.Shift op v n) w is = one_of (table (instr.Shift op v n)) w v.0 is
    (one_in_place (table (instr.Shift op v n)) _ (inl refl)
    (self_written v.0 (table (instr.Shift op v n)) false) single_rm)
one_cell (instr.CmpSet c v a b) w is = one_of (table (instr.CmpSet c v a b)) w v.0 is
    (one_written (table (instr.CmpSet c v a b)) _ (inl refl) single_b)
one_cell (instr.DivMod q r a d) w is =
    ⊎_elim
    (λ (e : w ≡ q.0). subst (OneCell (table (instr.DivMod q r a d))) (sym e)
    (one_written (table (instr.DivMod q r a d)) _ (inl refl) single_eax))
    (λ (more : (w ≡ r.0) ⊎ Among w []). one_of (table (instr.DivMod q r a d)) w r.0 more
    (one_written (table (instr.DivMod q r a d)) _ (inr (inl refl)) single_edx))
    is
one_cell (instr.Load v a) w is = one_of (table (instr.Load v a)) w v.0 is
    (one_written (table (instr.Load v a)) _ (inl refl) single_r)
one_cell (instr.Addr v a) w is = one_of (table (instr.Addr v a)) w v.0 is
    (one_written (table (instr.Addr v a)) _ (inl refl) single_r)
one_cell (instr.Read v) w is = one_of (table (instr.Read v)) w v.0 is
    (one_written (table (instr.Read v)) _ (inl refl) single_eax)
one_cell x w is = absurd is

-- ---- masks at a layer

only_mem : (q : Place) → allows (only Mem) (number q) ≡ true → q ≡ Mem
only_mem Mem e = refl
only_mem x e = cc

-- ---- registers that an instruction destroys

abbrev pub others : ℕ → ℕ
others c = mask_where (λ p. not (lies_in c p))

abbrev KeptOut : ℕ → Type 0
KeptOut c = (q : Place) → allows (others c) (number q) ≡ true → has_register (number q) ≡ true →
    is_destroyed c (Register (register_of (number q))) ≡ false

none_destroyed : KeptOut none
none_destroyed Mem e h = cc
none_destroyed Const e h = cc
none_destroyed x e h = refl

call_destroys : KeptOut (only Eax ∪ only Ecx ∪ only Edx)
call_destroys Ebx e h = refl
call_destroys Esi e h = refl
call_destroys Edi e h = refl
call_destroys EbxM e h = refl
call_destroys EsiM e h = refl
call_destroys EdiM e h = refl
call_destroys x e h = cc

clear_destroys : KeptOut (only Ecx)
clear_destroys Ecx e h = cc
clear_destroys Mem e h = cc
clear_destroys Const e h = cc
clear_destroys EcxM e h = cc
clear_destroys x e h = refl

pub kept_out : (i : VInstr) → KeptOut (table i).clobbers
kept_out (instr.Call p) = call_destroys
kept_out instr.Clear = clear_destroys
kept_out x = none_destroyed

-- ---- a variable's own places

constant_suits : (n : ℤ) (q : Place) → allows (own_places (Constant n)) (number q) ≡ true →
    suits (Some n) (number q) ≡ true
constant_suits n Mem e = cc
constant_suits n EaxM e = cc
constant_suits n EcxM e = cc
constant_suits n EdxM e = cc
constant_suits n EbxM e = cc
constant_suits n EsiM e = cc
constant_suits n EdiM e = cc
constant_suits n x e = refl

-- the places of a variable that is no Constant
abbrev changing : ℕ
changing = R ∪ RM ∪ M

changing_suits : (q : Place) → allows changing (number q) ≡ true → suits None (number q) ≡ true
changing_suits Const e = cc
changing_suits x e = refl

own_suits : (kind : VarKind) (q : Place) → allows (own_places kind) (number q) ≡ true →
    suits (constant kind) (number q) ≡ true
own_suits (Param i) q e = changing_suits q e
own_suits Plain q e = changing_suits q e
own_suits (Constant n) q e = constant_suits n q e

memory_suits : (kind : VarKind) → is_param kind ≡ true → suits (constant kind) (number Mem) ≡ true
memory_suits (Param i) e = refl
memory_suits Plain e = cc
memory_suits (Constant n) e = cc

-- ---- what is allowed at a layer

module _ (code : VProc) (live : Lives) (v b l : ℕ) (q : Place)
    (ok : allows (mask_at all_tables code live v b l) (number q) ≡ true) where
  -- a parameter comes in memory; else the mask is that of the roles, without what is destroyed
  by_mask : (t : Bool) → allows
      (if t then only Mem else without (met_mask all_tables code v b l)
      (clobbered all_tables code live v b l)) (number q) ≡ true →
      ((t ≡ true) × (q ≡ Mem)) ⊎
      ((allows (met_mask all_tables code v b l) (number q) ≡ true) ×
      (allows (others (clobbered all_tables code live v b l)) (number q) ≡ true))
  by_mask true e = inl (refl, only_mem q e)
  by_mask false e = inr (both_allow (met_mask all_tables code v b l)
      (others (clobbered all_tables code live v b l)) (number q) e)

  cases : ((comes_in_memory code v b l ≡ true) × (q ≡ Mem)) ⊎
      ((allows (met_mask all_tables code v b l) (number q) ≡ true) ×
      (allows (others (clobbered all_tables code live v b l)) (number q) ≡ true))
  cases = by_mask (comes_in_memory code v b l) ok

  pub place_suits : suits (constant (kind_of code v)) (number q) ≡ true
  place_suits =
      ⊎_elim
      (λ (c : (comes_in_memory code v b l ≡ true) × (q ≡ Mem)).
      subst (λ x. suits (constant (kind_of code v)) (number x) ≡ true) (sym c.1)
      (memory_suits (kind_of code v)
      (and_parts (is_param (kind_of code v)) (nat_eq b 0)
      (and_parts (is_param (kind_of code v) && nat_eq b 0) (nat_eq l 0) c.0).0).0))
      (λ (c : (allows (met_mask all_tables code v b l) (number q) ≡ true) ×
      (allows (others (clobbered all_tables code live v b l)) (number q) ≡ true)).
      own_suits (kind_of code v) q
      (fold_allows v (own_places (kind_of code v)) (roles_at all_tables code b l)
      (number q) c.0).0)
      cases

  -- a parameter at the entry
  pub place_at_entry : comes_in_memory code v b l ≡ true → q ≡ Mem
  place_at_entry e = only_mem q
      (sym (ap (λ t. allows (if t then only Mem else without (met_mask all_tables code v b l)
      (clobbered all_tables code live v b l)) (number q)) e) ∙ ok)

  -- where the variable has a role
  pub place_of_role : (role : Role) → Among role (roles_at all_tables code b l) →
      is_role_of v role ≡ true → comes_in_memory code v b l ≡ false → allows role.mask (number q) ≡
      true
  place_of_role role i of later =
      ⊎_elim
      (λ (c : (comes_in_memory code v b l ≡ true) × (q ≡ Mem)).
      absurd (true_false (comes_in_memory code v b l) c.0 later))
      (λ (c : (allows (met_mask all_tables code v b l) (number q) ≡ true) ×
      (allows (others (clobbered all_tables code live v b l)) (number q) ≡ true)).
      (fold_allows v (own_places (kind_of code v)) (roles_at all_tables code b l) (number q) c.0).1
      role i of)
      cases

  -- what is destroyed is not its register
  pub place_kept : (c : ℕ) → clobbered all_tables code live v b l ≡ c → comes_in_memory code v b l ≡
      false → allows (others c) (number q) ≡ true
  place_kept c e later =
      ⊎_elim
      (λ (x : (comes_in_memory code v b l ≡ true) × (q ≡ Mem)).
      absurd (true_false (comes_in_memory code v b l) x.0 later))
      (λ (x : (allows (met_mask all_tables code v b l) (number q) ≡ true) ×
      (allows (others (clobbered all_tables code live v b l)) (number q) ≡ true)).
      ap (λ k. allows (others k) (number q)) (sym e) ∙ x.1)
      cases
