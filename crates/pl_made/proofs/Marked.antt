-- Of the two operands of a memory pair one at most is in memory.
use Rattle.std.proofs.Common.{◌≡◌, ℕ, zero, suc, ◌+◌, ◌*◌, ◌≤◌, ◌⊎◌, inl, inr, ⊎_elim, Bool, true}
use Rattle.std.proofs.Common.{false, not, cond, List, [], ◌∷◌, ◌++◌, length, map, filter, slice_get}
use Rattle.std.proofs.Common.{Option, Some, None, refl, sym, ap, ap₂, subst, ◌∙◌, arith}
use Rattle.std.proofs.Common.{append_assoc}
use Rattle.std.specs.List.{prefix_len}
use Rattle.pra_list.specs.Among.{Among}
use Rattle.pra_list.proofs.Options.{some_same}
use Rattle.pra_base.specs.declared.code.Base.{Base}
use Rattle.pra_base.specs.declared.code.Base.TheVariants as base
use Rattle.pra_base.specs.declared.ids.VarId.{VarId}
use Rattle.pra_base.specs.declared.code.VInstr.{VInstr}
use Rattle.pra_base.specs.declared.code.VInstr.TheVariants as instr
use Rattle.pra_base.specs.Operands.{Role, Line, via, index, addressed, table, operands, settled}
use Rattle.net_form.specs.Network.{marked_roles, marked}
use Rattle.pra_list.proofs.Among.{in_at, in_map, in_filter, in_left, in_right}

-- ---- how many are marked

abbrev marks : Line → List Role → List Role
marks l rs = filter (λ r. r.memory) (map (settled l) rs)

via_unmarked : (l : Line) (bs : Base) (rest : List Role) → marks l (via bs ++ rest) ≡ marks l rest
via_unmarked l (base.Global w) rest = refl
via_unmarked l x rest = refl

index_unmarked : (l : Line) (ix : Option VarId) (rest : List Role) → marks l (index ix ++ rest) ≡
    marks l rest
index_unmarked l None rest = refl
index_unmarked l (Some v) rest = refl

addressed_unmarked : (l : Line) (bs : Base) (ix : Option VarId) (rest : List Role) →
    marks l ((via bs ++ index ix) ++ rest) ≡ marks l rest
addressed_unmarked l bs ix rest = ap (marks l) (append_assoc (via bs) (index ix) rest)
    ∙ via_unmarked l bs (index ix ++ rest) ∙ index_unmarked l ix rest

addressed_alone : (l : Line) (bs : Base) (ix : Option VarId) → marks l (via bs ++ index ix) ≡ []
addressed_alone l bs ix = via_unmarked l bs (index ix) ∙ index_alone ix
  where
    index_alone : (ix : Option VarId) → marks l (index ix) ≡ []
    index_alone None = refl
    index_alone (Some v) = refl

few_by : (rs : List Role) (n : ℕ) (more : List (ℕ × ℕ)) → rs ≡ [] → length more ≤ 2 →
    length (map (λ (r : Role). (r.var, n)) rs ++ more) ≤ 2
few_by rs n more e le = subst (λ xs. length (map (λ (r : Role). (r.var, n)) xs ++ more) ≤ 2)
    (sym e) le

pub few_marked : (k : ℕ) (i : VInstr) → length (marked k (operands i)) ≤ 2
few_marked k (instr.Load v a) = few_by (marks (table (instr.Load v a)) (addressed a)) (2 * k + 1) []
    (addressed_alone (table (instr.Load v a)) a.base a.index) (omega arith)
few_marked k (instr.Store a s) =
    few_by (marks (table (instr.Store a s)) (table (instr.Store a s)).reads) (2 * k + 1) []
    (addressed_unmarked (table (instr.Store a s)) a.base a.index _) (omega arith)
few_marked k (instr.Addr v a) = few_by (marks (table (instr.Addr v a)) (addressed a)) (2 * k + 1) []
    (addressed_alone (table (instr.Addr v a)) a.base a.index) (omega arith)
few_marked k x = omega arith

-- two of two
pub two_of_two : (xs : List (ℕ × ℕ)) → length xs ≤ 2 → (x y : ℕ × ℕ) → Among x xs → Among y xs →
    (x.0 ≡ y.0 → ⊥) → (xs ≡ x ∷ y ∷ []) ⊎ (xs ≡ y ∷ x ∷ [])
two_of_two [] le x y i j ne = absurd i
two_of_two (a ∷ []) le x y i j ne =
    ⊎_elim (λ (e : x ≡ a). ⊎_elim (λ (f : y ≡ a). absurd (ne (ap (λ (z : ℕ × ℕ). z.0) (e ∙ sym f))))
    (λ (b : ⊥). absurd b) j) (λ (b : ⊥). absurd b) i
two_of_two (a ∷ b ∷ []) le x y i j ne =
    ⊎_elim
    (λ (e : x ≡ a).
    ⊎_elim
    (λ (f : y ≡ a). absurd (ne (ap (λ (z : ℕ × ℕ). z.0) (e ∙ sym f))))
    (λ (more : (y ≡ b) ⊎ ⊥). ⊎_elim (λ (f : y ≡ b). inl (ap₂ (λ u w. u ∷ w ∷ []) (sym e) (sym f)))
    (λ (c : ⊥). absurd c) more)
    j)
    (λ (rest : (x ≡ b) ⊎ ⊥).
    ⊎_elim
    (λ (e : x ≡ b).
    ⊎_elim
    (λ (f : y ≡ a). inr (ap₂ (λ u w. u ∷ w ∷ []) (sym f) (sym e)))
    (λ (more : (y ≡ b) ⊎ ⊥). ⊎_elim
    (λ (f : y ≡ b). absurd (ne (ap (λ (z : ℕ × ℕ). z.0) (e ∙ sym f)))) (λ (c : ⊥). absurd c)
    more)
    j)
    (λ (c : ⊥). absurd c)
    rest)
    i
two_of_two (a ∷ b ∷ c ∷ xs) le x y i j ne = absurd (omega arith)

-- a marked role is among them
pub read_marked : (k : ℕ) (i : VInstr) (n : ℕ) (x : Role) → slice_get (operands i).reads n ≡
    Some x → x.memory ≡ true → Among (x.var, 2 * k + 1) (marked k (operands i))
read_marked k i n x e m =
    in_left (marked_roles (2 * k + 1) (operands i).reads)
    (marked_roles (2 * k + 2) (operands i).writes) (x.var, 2 * k + 1)
    (in_map (λ (r : Role). (r.var, 2 * k + 1)) (filter (λ (r : Role). r.memory) (operands i).reads)
    x (in_filter (λ (r : Role). r.memory) (operands i).reads x (in_at (operands i).reads n x e)
    m))

pub write_marked : (k : ℕ) (i : VInstr) (n : ℕ) (x : Role) → slice_get (operands i).writes n ≡
    Some x → x.memory ≡ true → Among (x.var, 2 * k + 2) (marked k (operands i))
write_marked k i n x e m =
    in_right (marked_roles (2 * k + 1) (operands i).reads)
    (marked_roles (2 * k + 2) (operands i).writes) (x.var, 2 * k + 2)
    (in_map (λ (r : Role). (r.var, 2 * k + 2)) (filter (λ (r : Role). r.memory) (operands i).writes)
    x (in_filter (λ (r : Role). r.memory) (operands i).writes x
    (in_at (operands i).writes n x e) m))

-- ---- the number of a strand

pub prefix_is : {X : Type 0} (p : X → Bool) (xs : List X) (n : ℕ) (x : X) → slice_get xs n ≡
    Some x → p x ≡ true → ((m : ℕ) (y : X) → slice_get xs m ≡ Some y → p y ≡ true → m ≡ n) →
    prefix_len (λ s. not (p s)) xs ≡ n
prefix_is p [] n x e t one = cc
prefix_is p (z ∷ zs) zero x e t one = ap (λ b. cond (not b) (1 + prefix_len (λ s. not (p s)) zs) 0)
    (ap p (some_same z x e) ∙ t)
prefix_is p (z ∷ zs) (suc n) x e t one =
    by_test (p z) refl (prefix_is p zs n x e t
    (λ m y f u. let s : suc m ≡ suc n = one (suc m) y f u in omega (arith, s)))
  where
    by_test : (b : Bool) → p z ≡ b → prefix_len (λ s. not (p s)) zs ≡ n →
        cond (not b) (1 + prefix_len (λ s. not (p s)) zs) 0 ≡ suc n
    by_test true f ih = let s : 0 ≡ suc n = one 0 z refl f in absurd (omega (arith, s))
    by_test false f ih = omega (arith, ih)
