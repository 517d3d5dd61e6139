-- What is known before and behind an instruction.
use Rattle.std.proofs.Common.{◌≡◌, ◌≢◌, ℕ, zero, suc, ◌<◌, ◌⊎◌, inl, inr, ℤ, pos, negsuc, ◌-ℤ◌}
use Rattle.std.proofs.Common.{◌+ℤ◌, ◌≤ℤ◌, ◌<ℤ◌, ◌≤◌, ◌-◌, ◌^◌, ⊎_elim, Bool, true, false}
use Rattle.std.proofs.Common.{◌&&◌, not, nat_eq, int_le, int_lt}
use Rattle.std.proofs.Common.{List, [], ◌∷◌, ◌++◌, length, filter, slice_get, slice_index_or}
use Rattle.std.proofs.Common.{Option, Some, None, refl, sym, ap, ap₂, subst, ◌∙◌, arith}
use Rattle.std.specs.Prelude.{IfSome}
use Rattle.std.specs.Int.{w32, cast_signed, cast_unsigned}
use Rattle.std.specs.Int.RustNames.{FitsSigned}
use Rattle.std.proofs.lemmas.Int.{ints, to_z-of_z}
use Rattle.std.proofs.lemmas.Bool.{cases_lt}
use Rattle.std.proofs.lemmas.Bool.Decides.{nat_tests}
use Rattle.std.proofs.lemmas.Option.{slice_get-get_or}
use Rattle.pra_list.specs.Among.{Among}
use Rattle.pra_list.proofs.Among.{in_at, in_either, of_filter}
use Rattle.pra_list.proofs.Truths.{false_from}
use Rattle.pra_base.proofs.Roles.{writes_among}
use Rattle.pra_base.specs.Operands.{writes, written_by}
use Rattle.pra_base.specs.Words.{word, signed, sum32, diff32}
use Rattle.pra_base.specs.declared.ids.VarId.{VarId}
use Rattle.pra_base.specs.declared.code.VarKind.{VarKind}
use Rattle.pra_base.specs.declared.code.VarKind.TheVariants.{Param, Plain, Constant}
use Rattle.pra_base.specs.declared.code.VInstr.{VInstr}
use Rattle.pra_base.specs.declared.code.VInstr.TheVariants.{Copy, Check, CheckPos}
use Rattle.vc_code.specs.declared.value.Value.TheVariants.{Num}
use Rattle.vc_code.specs.Value.{Held, Words}
use Rattle.vc_code.specs.Selected.{read, valued}
use Rattle.vc_checks.specs.declared.fact.Fact.{Fact}
use Rattle.vc_checks.specs.Facts.{Kinds, IsBetween, Bounds, Computes, Holds, AllHold, Entail}
use Rattle.vc_checks.specs.Facts.{Know, Passes, Follow, is_other, listed}

-- ---- numbers

pub both_of : (a b : Bool) → (a && b) ≡ true → (a ≡ true) × (b ≡ true)
both_of true b e = (refl, e)
both_of false b e = cc

le_from : (x y : ℤ) → int_le x y ≡ true → x ≤ℤ y
le_from x y e = grind (arith, ints)

lt_from : (x y : ℤ) → int_lt x y ≡ true → x <ℤ y
lt_from x y e = grind (arith, ints)

pub signed_most : (a : ℕ) → signed a ≤ℤ pos 2147483647
signed_most a = omega (arith, ints)

-- which of two a word is
abbrev Reads : ℕ → Type 0
Reads n = ((n < 2147483648) × (signed n ≡ pos n))
    ⊎ ((2147483648 ≤ n) × (signed n ≡ negsuc (4294967295 - n)))

reads : (n : ℕ) → Reads n
reads n = ⊎_elim
    (λ (lt : n < 2147483648). inl (lt, omega (arith, ints, lt)))
    (λ (le : 2147483648 ≤ n). inr (le, grind (arith, ints)))
    (cases_lt n 2147483648)

-- a number that is not below 0 as a signed one is a word
pub unsigned : (a : ℕ) → pos 0 ≤ℤ signed a → a < 2 ^ 32
unsigned a le = by (reads a)
  where
    by : Reads a → a < 2 ^ 32
    by (inl x) = omega (arith, x.0)
    by (inr x) = absurd (omega (arith, ints, subst (λ z. pos 0 ≤ℤ z) x.1 le))

fits_word : (n : ℤ) → FitsSigned w32 n → word n < 2 ^ 32
fits_word n fits = omega (arith, ints)

number_itself : (n : ℤ) → FitsSigned w32 n → (n ≤ℤ signed (word n)) × (signed (word n) ≤ℤ n)
number_itself n fits = let e : signed (word n) ≡ n = to_z-of_z w32 n fits in
    (subst (λ z. n ≤ℤ z) (sym e) (same n), subst (λ z. z ≤ℤ n) (sym e) (same n))
  where
    same : (z : ℤ) → z ≤ℤ z
    same z = omega (arith, ints)

-- the greatest index below a number above 0 fits
pub index_high : (limit : ℤ) → FitsSigned w32 limit → int_le limit (pos 0) ≡ false →
    cast_signed w32 (cast_unsigned w32 (limit -ℤ pos 1)) ≡ limit -ℤ pos 1
index_high (pos zero) fits some = cc
index_high (pos (suc n)) fits some = to_z-of_z w32 (pos (suc n) -ℤ pos 1) (less n fits)
  where
    less : (n : ℕ) → FitsSigned w32 (pos (suc n)) → FitsSigned w32 (pos (suc n) -ℤ pos 1)
    less n fits = omega (arith, ints)
index_high (negsuc n) fits some = cc

-- ---- facts

abbrev pub no_fact : Fact
no_fact = record { var = record { 0 = 0 }; low = pos 0; high = pos 0 }

pub among_at : (facts : List Fact) (k : ℕ) → k < length facts →
    Among (slice_index_or facts k no_fact) facts
among_at facts k lt = in_at facts k (slice_index_or facts k no_fact)
    (slice_get-get_or facts k no_fact lt)

pub one_holds : (kind : Kinds) (held : Words) (f : Fact) → Holds kind held f →
    AllHold kind held (f ∷ [])
one_holds kind held f h g (inl e) = subst (λ x. Holds kind held x) (sym e) h
one_holds kind held f h g (inr none) = absurd none

pub same_number : (a b : ℕ) → Some (Num a) ≡ Some (Num b) → a ≡ b
same_number a b e = cc

pub both_hold : (kind : Kinds) (one other : Fact) (low high : ℤ) → other.var.0 ≡ one.var.0 →
    ((z : ℤ) → one.low ≤ℤ z → other.low ≤ℤ z → low ≤ℤ z) →
    ((z : ℤ) → z ≤ℤ one.high → z ≤ℤ other.high → z ≤ℤ high) →
    Entail kind (one ∷ other ∷ []) (record { var = one.var; low = low; high = high } ∷ [])
both_hold kind one other low high same below above held all =
    let a = all one (inl refl) in
    let b = all other (inr (inl refl)) in
    let number : b.0 ≡ a.0 = same_number b.0 a.0 (sym b.1 ∙ ap (read kind held) same ∙ a.1) in
    one_holds kind held (record { var = one.var; low = low; high = high }) (
      a.0,
      a.1,
      below (signed a.0) a.2 (subst (λ n. other.low ≤ℤ signed n) number b.2),
      above (signed a.0) a.3 (subst (λ n. signed n ≤ℤ other.high) number b.3),
      a.4,
    )

-- ---- what is known of one variable

pub past_plain : (vars : List VarKind) (v : ℕ) → None ≡ slice_get vars v → (n : ℤ) →
    slice_index_or vars v Plain ≡ Constant n → ⊥
past_plain [] v e n k = cc
past_plain (x ∷ vars) zero e n k = cc
past_plain (x ∷ vars) (suc v) e n k = past_plain vars v e n k

pub constant_known : (kind : Kinds) (known : List Fact) (v : ℕ) (n : ℤ) → FitsSigned w32 n →
    kind v ≡ Constant n → Know kind known v (IsBetween n n)
constant_known kind known v n fits is held all =
    let both = number_itself n fits in (
      word n,
      ap (λ (k : VarKind). valued k (slice_index_or held v None)) is,
      both.0,
      both.1,
      fits_word n fits,
    )

pub fact_known : (kind : Kinds) (known : List Fact) (v : ℕ) (f : Fact) → Among f known →
    f.var.0 ≡ v → Know kind known v (IsBetween f.low f.high)
fact_known kind known v f among same held all =
    subst (λ u. IsBetween f.low f.high (read kind held u)) same (all f among)

pub found_known : (kind : Kinds) (known : List Fact) (v : ℕ) (o : Option Fact) →
    IfSome o (λ f. Among f known × (f.var.0 ≡ v)) →
    IfSome o (λ f. Know kind known v (IsBetween f.low f.high))
found_known kind known v None is = tt
found_known kind known v (Some f) is = fact_known kind known v f is.0 is.1

-- ---- what instructions tell

plain : (k : VarKind) → ((n : ℤ) → k ≢ Constant n) → (h : Held) → valued k h ≡ h
plain (Param i) changes h = refl
plain Plain changes h = refl
plain (Constant n) changes h = absurd (changes n refl)

pub copy_tells : (kind : Kinds) (known : List Fact) (v s : VarId) (low high : ℤ) (o : Option Fact) →
    Know kind known s.0 (IsBetween low high) →
    IfSome o (λ f. f ≡ record { var = v; low = low; high = high }) →
    IfSome o (λ f. (m : ℤ) → kind v.0 ≢ Constant m) →
    IfSome o (λ f. Follow kind (Copy v s) known (f ∷ []))
copy_tells kind known v s low high None knows is changes = tt
copy_tells kind known v s low high (Some f) knows is changes = λ held new all passes.
    one_holds kind new f (subst (λ x. Holds kind new x) (sym is)
    (subst (λ h. IsBetween low high h)
    (sym (passes.tells ∙ plain (kind v.0) changes (read kind held s.0))) (knows held all)))

-- an instruction that writes nothing keeps what is known
all_kept : (kind : Kinds) (i : VInstr) (held new : Words) (known : List Fact) →
    ((v : ℕ) → writes i v ≡ false) → Passes kind i held new → AllHold kind held known →
    AllHold kind new known
all_kept kind i held new known free passes all f among =
    subst (λ h. IsBetween f.low f.high h) (sym (passes.kept f.var.0 (free f.var.0))) (all f among)

-- one more fact holds
pub one_more : (kind : Kinds) (held : Words) (fact : Fact) (known : List Fact) →
    Holds kind held fact → AllHold kind held known → AllHold kind held (fact ∷ known)
one_more kind held fact known h all g (inl e) = subst (λ x. Holds kind held x) (sym e) h
one_more kind held fact known h all g (inr m) = all g m

pub check_tells : (kind : Kinds) (known : List Fact) (v : VarId) (limit high : ℤ) (r : Fact) →
    high ≡ limit -ℤ pos 1 →
    Entail kind (record { var = v; low = pos 0; high = high } ∷ known) (r ∷ []) →
    Follow kind (Check v limit) known (r ∷ [])
check_tells kind known v limit high r is entail held new all passes =
    let t = passes.tells in
    let same : read kind new v.0 ≡ read kind held v.0 = passes.kept v.0 refl in
    let both = both_of (int_le (pos 0) (signed t.0)) (int_lt (signed t.0) limit) t.2 in
    entail new (one_more kind new (record { var = v; low = pos 0; high = high }) known (
      t.0,
      same ∙ t.1,
      le_from (pos 0) (signed t.0) both.0,
      below (signed t.0) (lt_from (signed t.0) limit both.1),
      unsigned t.0 (le_from (pos 0) (signed t.0) both.0),
    ) (all_kept kind (Check v limit) held new known (λ u. refl) passes all))
  where
    below : (z : ℤ) → z <ℤ limit → z ≤ℤ high
    below z p = omega (arith, ints)

pub positive_tells : (kind : Kinds) (known : List Fact) (v : VarId) (r : Fact) →
    Entail kind (record { var = v; low = pos 1; high = pos 2147483647 } ∷ known) (r ∷ []) →
    Follow kind (CheckPos v) known (r ∷ [])
positive_tells kind known v r entail held new all passes =
    let t = passes.tells in
    let same : read kind new v.0 ≡ read kind held v.0 = passes.kept v.0 refl in
    entail new (one_more kind new (record { var = v; low = pos 1; high = pos 2147483647 }) known (
      t.0,
      same ∙ t.1,
      above (signed t.0) (lt_from (pos 0) (signed t.0) t.2),
      signed_most t.0,
      unsigned t.0 (not_below (signed t.0) (above (signed t.0) (lt_from (pos 0) (signed t.0) t.2))),
    ) (all_kept kind (CheckPos v) held new known (λ u. refl) passes all))
  where
    above : (z : ℤ) → pos 0 <ℤ z → pos 1 ≤ℤ z
    above z p = omega (arith, ints)

    not_below : (z : ℤ) → pos 1 ≤ℤ z → pos 0 ≤ℤ z
    not_below z p = omega (arith, ints)

-- ---- what is forgotten and learned

pub other_from : (f : Fact) (v : ℕ) → is_other v f ≡ true → f.var.0 ≢ v
other_from f v e same = by (nat_eq f.var.0 v) refl e
  where
    by : (b : Bool) → nat_eq f.var.0 v ≡ b → not b ≡ true → ⊥
    by true t e = cc
    by false t e = grind (arith, nat_tests)

pub other_to : (f : Fact) (v : ℕ) → (f.var.0 ≡ v → ⊥) → is_other v f ≡ true
other_to f v n = ap not (false_from (nat_eq f.var.0 v) (λ e. n (grind (arith, nat_tests))))

pub same_to : (f : Fact) (v : ℕ) → f.var.0 ≡ v → is_other v f ≡ false
same_to f v e = let t : nat_eq f.var.0 v ≡ true = grind (arith, nat_tests) in ap not t

pub left_of : (facts : List Fact) (v : ℕ) (f : Fact) → Among f (filter (is_other v) facts) →
    Among f facts × (f.var.0 ≢ v)
left_of facts v f m = let o = of_filter (is_other v) facts f m in (o.0, other_from f v o.1)

pub forgot_some : (known left : List Fact) (v : VarId) (o : Option VarId) → o ≡ Some v →
    left ≡ filter (is_other v.0) known → (f : Fact) → Among f left →
    Among f known × ((w : VarId) → o ≡ Some w → f.var.0 ≢ w.0)
forgot_some known left v o is e f m =
    let l = left_of known v.0 f (subst (λ (fs : List Fact). Among f fs) e m) in
    (l.0, λ w there same. l.1 (same ∙ sym (number w (sym is ∙ there))))
  where
    number : (w : VarId) → Some v ≡ Some w → v.0 ≡ w.0
    number w e = cc

pub learned : (known left new : List Fact) (more : Fact) (o : Option Fact) → o ≡ Some more →
    left ≡ filter (is_other more.var.0) known → new ≡ left ++ more ∷ [] → (f : Fact) →
    Among f new → Among f known ⊎ (o ≡ Some f)
learned known left new more o is e n f m =
    by (in_either left (more ∷ []) f (subst (λ (fs : List Fact). Among f fs) n m))
  where
    by : Among f left ⊎ Among f (more ∷ []) → Among f known ⊎ (o ≡ Some f)
    by (inl l) = inl (left_of known more.var.0 f (subst (λ (fs : List Fact). Among f fs) e l)).0
    by (inr (inl q)) = inr (is ∙ ap Some (sym q))
    by (inr (inr none)) = absurd none

pub not_written : (i : VInstr) (one other : Option VarId) (u : ℕ) →
    listed (one, other) ≡ written_by i → ((v : VarId) → one ≡ Some v → u ≢ v.0) →
    ((v : VarId) → other ≡ Some v → u ≢ v.0) → writes i u ≡ false
not_written i one other u is first second = false_from (writes i u)
    (λ e. by one other first second (subst (λ vs. Among u vs) (sym is) (writes_among i u e)))
  where
    by : (one other : Option VarId) → ((v : VarId) → one ≡ Some v → u ≢ v.0) →
        ((v : VarId) → other ≡ Some v → u ≢ v.0) → Among u (listed (one, other)) → ⊥
    by None other first second m = absurd m
    by (Some v) None first second (inl e) = first v refl e
    by (Some v) None first second (inr m) = absurd m
    by (Some v) (Some w) first second (inl e) = first v refl e
    by (Some v) (Some w) first second (inr (inl e)) = second w refl e
    by (Some v) (Some w) first second (inr (inr m)) = absurd m

pub pass_follows : (kind : Kinds) (i : VInstr) (known left new : List Fact) (news : Option Fact) →
    IfSome news (λ f. Follow kind i known (f ∷ [])) →
    ((f : Fact) → Among f left → Among f known × (writes i f.var.0 ≡ false)) →
    ((f : Fact) → Among f new → Among f left ⊎ (news ≡ Some f)) → Follow kind i known new
pass_follows kind i known left new news tells forgets learns held after all passes f m =
    by (learns f m)
  where
    told : (o : Option Fact) → o ≡ Some f → IfSome o (λ f. Follow kind i known (f ∷ [])) →
        Holds kind after f
    told None e follow = cc
    told (Some g) e follow = let same : g ≡ f = cc in
        subst (λ x. Holds kind after x) same (follow held after all passes g (inl refl))

    by : Among f left ⊎ (news ≡ Some f) → Holds kind after f
    by (inl l) = let k = forgets f l in
        subst (λ h. IsBetween f.low f.high h) (sym (passes.kept f.var.0 k.1)) (all f k.0)
    by (inr e) = told news e tells

-- ---- sums and differences that don't wrap

module _ (one other : Fact) (low high : ℤ) (f : FitsSigned w32 low) (g : FitsSigned w32 high)
    (a b : ℕ) (aw : a < 2 ^ 32) (bw : b < 2 ^ 32) (al : one.low ≤ℤ signed a)
    (ah : signed a ≤ℤ one.high) (bl : other.low ≤ℤ signed b) (bh : signed b ≤ℤ other.high) where
  pub sum_between : low ≡ one.low +ℤ other.low → high ≡ one.high +ℤ other.high →
      (low ≤ℤ signed (sum32 a b)) × (signed (sum32 a b) ≤ℤ high) × (sum32 a b < 2 ^ 32)
  sum_between p q = by (reads a) (reads b) (reads (sum32 a b))
    where
      by : Reads a → Reads b → Reads (sum32 a b) →
          (low ≤ℤ signed (sum32 a b)) × (signed (sum32 a b) ≤ℤ high) × (sum32 a b < 2 ^ 32)
      by (inl x) (inl y) (inl z) = (omega (arith, ints), omega (arith, ints), omega arith)
      by (inl x) (inl y) (inr z) = (omega (arith, ints), omega (arith, ints), omega arith)
      by (inl x) (inr y) (inl z) = (omega (arith, ints), omega (arith, ints), omega arith)
      by (inl x) (inr y) (inr z) = (omega (arith, ints), omega (arith, ints), omega arith)
      by (inr x) (inl y) (inl z) = (omega (arith, ints), omega (arith, ints), omega arith)
      by (inr x) (inl y) (inr z) = (omega (arith, ints), omega (arith, ints), omega arith)
      by (inr x) (inr y) (inl z) = (omega (arith, ints), omega (arith, ints), omega arith)
      by (inr x) (inr y) (inr z) = (omega (arith, ints), omega (arith, ints), omega arith)

  pub difference_between : low ≡ one.low -ℤ other.high → high ≡ one.high -ℤ other.low →
      (low ≤ℤ signed (diff32 a b)) × (signed (diff32 a b) ≤ℤ high) × (diff32 a b < 2 ^ 32)
  difference_between p q = by (reads a) (reads b) (reads (diff32 a b))
    where
      by : Reads a → Reads b → Reads (diff32 a b) →
          (low ≤ℤ signed (diff32 a b)) × (signed (diff32 a b) ≤ℤ high) × (diff32 a b < 2 ^ 32)
      by (inl x) (inl y) (inl z) = (omega (arith, ints), omega (arith, ints), omega arith)
      by (inl x) (inl y) (inr z) = (omega (arith, ints), omega (arith, ints), omega arith)
      by (inl x) (inr y) (inl z) = (omega (arith, ints), omega (arith, ints), omega arith)
      by (inl x) (inr y) (inr z) = (omega (arith, ints), omega (arith, ints), omega arith)
      by (inr x) (inl y) (inl z) = (omega (arith, ints), omega (arith, ints), omega arith)
      by (inr x) (inl y) (inr z) = (omega (arith, ints), omega (arith, ints), omega arith)
      by (inr x) (inr y) (inl z) = (omega (arith, ints), omega (arith, ints), omega arith)
      by (inr x) (inr y) (inr z) = (omega (arith, ints), omega (arith, ints), omega arith)

-- what an operation gives of the numbers that two variables hold, where facts hold
abbrev pub Gives : Kinds → List Fact → (ℕ → ℕ → ℕ) → ℕ → ℕ → Fact → Type 0
Gives kind known f v s fact =
    (held : Words) (a b : ℕ) → AllHold kind held known → read kind held v ≡ Some (Num a) →
    read kind held s ≡ Some (Num b) → IsBetween fact.low fact.high (Some (Num (f a b)))

pub both_known : (kind : Kinds) (known : List Fact) (f : ℕ → ℕ → ℕ) (v s : ℕ)
    (one other fact : Fact) → Know kind known v (IsBetween one.low one.high) →
    Know kind known s (IsBetween other.low other.high) → Bounds f one other fact →
    Gives kind known f v s fact
both_known kind known f v s one other fact knows knows_other bounds held a b all p q =
    bounds a b (subst (λ h. IsBetween one.low one.high h) p (knows held all))
    (subst (λ h. IsBetween other.low other.high h) q (knows_other held all))

pub second_known : (kind : Kinds) (known : List Fact) (f : ℕ → ℕ → ℕ) (v s : ℕ)
    (other fact : Fact) → Know kind known s (IsBetween other.low other.high) →
    ((a b : ℕ) → IsBetween other.low other.high (Some (Num b)) →
    IsBetween fact.low fact.high (Some (Num (f a b)))) → Gives kind known f v s fact
second_known kind known f v s other fact knows bounds held a b all p q =
    bounds a b (subst (λ h. IsBetween other.low other.high h) q (knows held all))

-- what an operation tells of its result
pub computed_tells : (kind : Kinds) (known : List Fact) (f : ℕ → ℕ → ℕ) (i : VInstr) (v s : ℕ)
    (fact : Fact) (o : Option Fact) →
    ((held new : Words) → Passes kind i held new → Computes f kind v s held new) →
    Gives kind known f v s fact → fact.var.0 ≡ v → IfSome o (λ g. g ≡ fact) →
    IfSome o (λ g. (n : ℤ) → kind fact.var.0 ≢ Constant n) →
    IfSome o (λ g. Follow kind i known (g ∷ []))
computed_tells kind known f i v s fact None tells gives var is changes = tt
computed_tells kind known f i v s fact (Some g) tells gives var is changes =
    λ held new all passes.
    let t = tells held new passes in
    let holds : Holds kind new fact =
    subst (λ (u : ℕ). IsBetween fact.low fact.high (read kind new u)) (sym var)
    (subst (λ h. IsBetween fact.low fact.high h)
    (sym (t.4 ∙ plain (kind v) (subst (λ (u : ℕ). (n : ℤ) → kind u ≢ Constant n) var changes)
    (Some (Num (f t.0 t.1)))))
    (gives held t.0 t.1 all t.2 t.3)) in
    one_holds kind new g (subst (λ x. Holds kind new x) (sym is) holds)

pub bounds_by : (f : ℕ → ℕ → ℕ) (one other fact : Fact) →
    ((a b : ℕ) → a < 2 ^ 32 → b < 2 ^ 32 → one.low ≤ℤ signed a → signed a ≤ℤ one.high →
    other.low ≤ℤ signed b → signed b ≤ℤ other.high →
    (fact.low ≤ℤ signed (f a b)) × (signed (f a b) ≤ℤ fact.high) × (f a b < 2 ^ 32)) →
    Bounds f one other fact
bounds_by f one other fact by a b x y =
    let r = by x.0 y.0 x.4 y.4 x.2 x.3 y.2 y.3 in (
      f x.0 y.0,
      ap₂ (λ m n. Some (Num (f m n))) (same_number a x.0 x.1) (same_number b y.0 y.1),
      r.0,
      r.1,
      r.2,
    )
