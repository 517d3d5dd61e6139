-- Marks of variables.
use Rattle.std.proofs.Common.{◌≡◌, pos, ℕ, zero, suc, ◌+◌, ◌<◌, ◌⊎◌, inl, inr, ⊎_elim, Bool, true}
use Rattle.std.proofs.Common.{false, not, ◌||◌, ◌&&◌, nat_eq, if◌then◌else◌, List, [], ◌∷◌, length}
use Rattle.std.proofs.Common.{take, slice_get, slice_set, Some, None, refl, sym, ap, subst, ◌∙◌}
use Rattle.std.proofs.Common.{arith}
use Rattle.std.proofs.lemmas.Bool.{cases_eq}
use Rattle.std.proofs.lemmas.Bool.Decides.{nat_tests}
use Rattle.std.proofs.lemmas.List.{get_or-set_same, get_or-set_other}
use Rattle.std.specs.List.{list_any}
use Rattle.pra_list.proofs.Truths.{or_right, or_left, or_cases}
use Rattle.vc_code.specs.declared.row.Role.{Role}
use Rattle.vc_live.specs.Equations.{named_in}
use Rattle.pra_list.proofs.Options.{some_same}
use Rattle.pra_base.specs.declared.code.VInstr.{VInstr}
use Rattle.pra_base.specs.declared.code.VInstr.TheVariants.{Set}
use Rattle.pra_base.specs.Valid.{Names}
use Rattle.vc_tidy.specs.Thinned.{is_marked, IsIn}

pub marked_set : (marks : List Bool) (i v : ℕ) (m : Bool) → i < length marks →
    is_marked (slice_set marks i m) v ≡ (if nat_eq i v then m else is_marked marks v)
marked_set marks i v m lt =
    ⊎_elim
    (λ (e : v ≡ i).
    let test : nat_eq i v ≡ true = grind (arith, nat_tests) in
    subst (λ u. is_marked (slice_set marks i m) u ≡ m) (sym e) (get_or-set_same marks i m false lt)
    ∙ sym (ap (λ b. if b then m else is_marked marks v) test))
    (λ (n : v ≡ i → ⊥).
    let test : nat_eq i v ≡ false = grind (arith, nat_tests) in
    get_or-set_other marks i v m false n ∙ sym (ap (λ b. if b then m else is_marked marks v) test))
    (cases_eq v i)

-- one more role
pub mark_more : (now old x m : Bool) (named eq : Bool) → now ≡ (if named then m else old) →
    (eq ≡ true → x ≡ m) → (if eq then x else now) ≡ (if (named || eq) then m else old)
mark_more now old x m true true is e = e refl
mark_more now old x m true false is e = is
mark_more now old x m false true is e = e refl
mark_more now old x m false false is e = is

pub same_at : (f : ℕ → Bool) (i v : ℕ) → nat_eq i v ≡ true → f i ≡ f v
same_at f i v e = let same : i ≡ v = grind (arith, nat_tests) in ap f same

step_marks_by : (old new mid r w : Bool) → mid ≡ (if w then false else old) →
    new ≡ (if r then true else mid) → new ≡ (r || (old && not w))
step_marks_by old new mid true w e f = f
step_marks_by old new mid false true e f = f ∙ e ∙ sym (and_false old)
  where
    and_false : (b : Bool) → (b && false) ≡ false
    and_false true = refl
    and_false false = refl
step_marks_by old new mid false false e f = f ∙ e ∙ sym (and_true old)
  where
    and_true : (b : Bool) → (b && true) ≡ b
    and_true true = refl
    and_true false = refl

pub step_marks : (old new mid r w r' w' : Bool) → mid ≡ (if w' then false else old) → w' ≡ w →
    new ≡ (if r' then true else mid) → r' ≡ r → new ≡ (r || (old && not w))
step_marks old new mid r w r' w' e we f re = step_marks_by old new mid r w
    (e ∙ ap (λ b. if b then false else old) we) (f ∙ ap (λ b. if b then true else mid) re)

-- both roles of an instruction
live_marks_by : (old new mid r w m : Bool) → mid ≡ (if r then m else old) →
    new ≡ (if w then m else mid) → (old ≡ m) ⊎ ((r ≡ true) ⊎ (w ≡ true)) → new ≡ m
live_marks_by old new mid r true m e f g = f
live_marks_by old new mid true false m e f g = f ∙ e
live_marks_by old new mid false false m e f (inl g) = f ∙ e ∙ g
live_marks_by old new mid false false m e f (inr (inl g)) = cc
live_marks_by old new mid false false m e f (inr (inr g)) = cc

pub live_marks : (old new mid r w m r' w' : Bool) → mid ≡ (if r' then m else old) → r' ≡ r →
    new ≡ (if w' then m else mid) → w' ≡ w → (old ≡ m) ⊎ ((r ≡ true) ⊎ (w ≡ true)) → new ≡ m
live_marks old new mid r w m r' w' e re f we c = live_marks_by old new mid r w m
    (e ∙ ap (λ b. if b then m else old) re) (f ∙ ap (λ b. if b then m else mid) we) c

-- both roles are marked
pub both_marked : (old new mid r w r' w' : Bool) → mid ≡ (if r' then true else old) → r' ≡ r →
    new ≡ (if w' then true else mid) → w' ≡ w → (old ≡ true) ⊎ ((r ≡ true) ⊎ (w ≡ true)) →
    new ≡ true
both_marked old new mid r w r' w' e re f we c =
    by old new mid r w (e ∙ ap (λ b. if b then true else old) re)
    (f ∙ ap (λ b. if b then true else mid) we) c
  where
    by : (old new mid r w : Bool) → mid ≡ (if r then true else old) →
        new ≡ (if w then true else mid) → (old ≡ true) ⊎ ((r ≡ true) ⊎ (w ≡ true)) → new ≡ true
    by old new mid r true e f c = f
    by old new mid true false e f c = f ∙ e
    by old new mid false false e f (inl g) = f ∙ e ∙ g
    by old new mid false false e f (inr (inl g)) = cc
    by old new mid false false e f (inr (inr g)) = cc

pub marked_by : (old new mid r w r' w' : Bool) → mid ≡ (if r' then true else old) → r' ≡ r →
    new ≡ (if w' then true else mid) → w' ≡ w → new ≡ true → (old ≡ true) ⊎
    ((r ≡ true) ⊎ (w ≡ true))
marked_by old new mid r w r' w' e re f we m =
    by old new mid r w (e ∙ ap (λ b. if b then true else old) re)
    (f ∙ ap (λ b. if b then true else mid) we) m
  where
    by : (old new mid r w : Bool) → mid ≡ (if r then true else old) →
        new ≡ (if w then true else mid) → new ≡ true → (old ≡ true) ⊎ ((r ≡ true) ⊎ (w ≡ true))
    by old new mid r true e f m = inr (inr refl)
    by old new mid true false e f m = inr (inl refl)
    by old new mid false false e f m = inl (sym (f ∙ e) ∙ m)

-- ---- variables of a list of instructions

get_take : (xs : List VInstr) (n k : ℕ) (i : VInstr) → slice_get (take n xs) k ≡ Some i → (k < n) ×
    (slice_get xs k ≡ Some i)
get_take [] zero k i e = cc
get_take [] (suc n) k i e = cc
get_take (x ∷ xs) zero k i e = cc
get_take (x ∷ xs) (suc n) zero i e = (omega arith, e)
get_take (x ∷ xs) (suc n) (suc k) i e = let r = get_take xs n k i e in let lt : k < n = r.0 in
    (omega (arith, lt), r.1)

take_get : (xs : List VInstr) (n k : ℕ) (i : VInstr) → k < n → slice_get xs k ≡ Some i →
    slice_get (take n xs) k ≡ Some i
take_get [] n k i lt e = cc
take_get (x ∷ xs) zero k i lt e = absurd (omega (arith, lt))
take_get (x ∷ xs) (suc n) zero i lt e = e
take_get (x ∷ xs) (suc n) (suc k) i lt e = take_get xs n k i (omega (arith, lt)) e

-- of one instruction more
pub in_more : (xs : List VInstr) (n v : ℕ) (i : VInstr) → slice_get xs n ≡ Some i →
    IsIn (take (n + 1) xs) v → IsIn (take n xs) v ⊎ Names i v
in_more xs n v i is m =
    let g = get_take xs (n + 1) m.0 m.1 m.2 in
    let lt : m.0 < n + 1 = g.0 in
    ⊎_elim
    (λ (e : m.0 ≡ n). inr (subst (λ j. Names j v)
    (some_same m.1 i (sym g.1 ∙ ap (λ k. slice_get xs k) e ∙ is)) m.3))
    (λ (other : m.0 ≡ n → ⊥). inl (
      m.0,
      m.1,
      take_get xs n m.0 m.1 (omega (arith, lt, other)) g.1,
      m.3,
    ))
    (cases_eq m.0 n)

pub in_none : (xs : List VInstr) (v : ℕ) → IsIn (take 0 xs) v → ⊥
in_none [] v m = none m.2
  where
    none : {i : VInstr} → None ≡ Some i → ⊥
    none e = cc
in_none (x ∷ xs) v m = none m.2
  where
    none : {i : VInstr} → None ≡ Some i → ⊥
    none e = cc

pub in_here : (xs : List VInstr) (k v : ℕ) (i : VInstr) → slice_get xs k ≡ Some i → Names i v →
    IsIn xs v
in_here xs k v i is named = (k, i, is, named)

-- ---- roles of which none, or one, is marked

or_none : (a b : Bool) → (a || b) ≡ false → (a ≡ false) × (b ≡ false)
or_none true b e = (cc, cc)
or_none false b e = (refl, e)

pub any_none : (marks : List Bool) (roles : List Role) (v : ℕ) →
    list_any (λ (role : Role). is_marked marks role.var.0) roles ≡ false → named_in roles v ≡ true →
    is_marked marks v ≡ false
unfolding named_in
any_none marks [] v e m = cc
any_none marks (r ∷ rs) v e m =
    let n = or_none (is_marked marks r.var.0) _ e in
    here (or_cases (nat_eq r.var.0 v) _ m) n.0 (λ more. any_none marks rs v n.1 more)
  where
    here : (nat_eq r.var.0 v ≡ true) ⊎ (list_any (λ (role : Role). nat_eq role.var.0 v) rs ≡ true) →
        is_marked marks r.var.0 ≡ false →
        (list_any (λ (role : Role). nat_eq role.var.0 v) rs ≡ true → is_marked marks v ≡ false) →
        is_marked marks v ≡ false
    here (inl e) free more = sym (same_at (is_marked marks) r.var.0 v e) ∙ free
    here (inr e) free more = more e

pub any_some : (marks : List Bool) (roles : List Role) →
    list_any (λ (role : Role). is_marked marks role.var.0) roles ≡ true → (v : ℕ) ×
    (named_in roles v ≡ true) × (is_marked marks v ≡ true)
unfolding named_in
any_some marks [] e = cc
any_some marks (r ∷ rs) e = here (or_cases (is_marked marks r.var.0) _ e)
    (λ more. any_some marks rs more)
  where
    itself : (n : ℕ) → nat_eq n n ≡ true
    itself n = grind (arith, nat_tests)

    here : (is_marked marks r.var.0 ≡ true) ⊎
        (list_any (λ (role : Role). is_marked marks role.var.0) rs ≡ true) →
        (list_any (λ (role : Role). is_marked marks role.var.0) rs ≡ true → (v : ℕ) ×
        (list_any (λ (role : Role). nat_eq role.var.0 v) rs ≡ true) × (is_marked marks v ≡ true)) →
        (v : ℕ) × (list_any (λ (role : Role). nat_eq role.var.0 v) (r ∷ rs) ≡ true) ×
        (is_marked marks v ≡ true)
    here (inl m) more = (r.var.0, or_left (nat_eq r.var.0 r.var.0) _ (itself r.var.0), m)
    here (inr m) more = let q = more m in (q.0, or_right (nat_eq r.var.0 q.0) _ q.1, q.2)

-- what a reading past the end of a list of instructions gives
abbrev pub no_instr : VInstr
no_instr = Set (record { 0 = 0 }) (pos 0)
