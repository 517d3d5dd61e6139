-- Variables that are kept and their numbers.
use Rattle.std.proofs.Common.{◌≡◌, ◌≢◌, ℕ, suc, ◌+◌, ◌<◌, ◌≤◌, ◌⊎◌, inl, inr, ⊎_elim, Bool, true}
use Rattle.std.proofs.Common.{false, ◌||◌, List, [], ◌∷◌, ◌++◌, take, length, get_or, slice_get}
use Rattle.std.proofs.Common.{slice_index_or, Some, refl, sym, ap, subst, ◌∙◌, arith}
use Rattle.std.specs.Prelude.{count_by, cond}
use Rattle.std.specs.List.{list_any}
use Rattle.std.proofs.lemmas.Bool.{cases_eq, cases_lt}
use Rattle.std.proofs.lemmas.List.{get_or_append_left, take_all, take_more, length-append}
use Rattle.std.proofs.lemmas.List.Folds.{list_any-append, list_any_more}
use Rattle.std.proofs.lemmas.List.Sums.{sum_by-append}
use Rattle.std.proofs.lemmas.Option.{slice_get-get_or, slice_get_within}
use Rattle.std.proofs.Math.Seq.{get_or-append_seam}
use Rattle.pra_list.proofs.Truths.{true_false, or_left, or_cases}
use Rattle.pra_list.proofs.Options.{some_same}
use Rattle.pra_base.specs.declared.code.VarKind.{VarKind}
use Rattle.pra_base.specs.declared.code.VarKind.TheVariants.{Param, Plain, Constant}
use Rattle.pra_base.specs.declared.code.Block.{Block}
use Rattle.pra_base.specs.declared.code.VInstr.{VInstr}
use Rattle.pra_base.specs.declared.code.VProc.{VProc}
use Rattle.pra_base.specs.Code.{kind_of, block_in, instr_at, no_block}
use Rattle.pra_base.specs.Valid.{Names, IsSized, IsValid}
use Rattle.vc_code.specs.Machine.{is_param}
use Rattle.vc_same.specs.Reduction.{Needed, IsNamed, ParamsApart}
use Rattle.vc_same.specs.SameRuns.{Preserves}
use Rattle.vc_same.proofs.Kept.{reads_here}
use Rattle.vc_tidy.specs.KindCounts.{KeepsKinds}
use Rattle.vc_tidy.specs.Tidy.{NoUnused}
use Rattle.vc_tidy.specs.Thinned.{is_marked, IsIn}
use Rattle.vc_tidy.specs.Joined.{name, joined_code}
use Rattle.vc_tidy.specs.Unused.{AreNamed, AreNumbers, is_argument, is_kept}
use Rattle.vc_tidy.proofs.Joining.{Joins, joined_preserves}
use Rattle.vc_tidy.proofs.Overwriting.{overwritten_named}

or_none : (a b : Bool) → (a || b) ≡ false → b ≡ false
or_none true b e = cc
or_none false b e = e

or_same : (a b : Bool) → b ≡ false → (a || b) ≡ a
or_same true b e = refl
or_same false b e = e

-- ---- no variable yet, and one more

pub none_numbered : (code : VProc) (marks : List Bool) (names : List ℕ) (vars : List VarKind) →
    names ≡ [] → vars ≡ [] → AreNumbers code marks names vars 0
none_numbered code marks names vars no_names no_vars = record {
  count = ap length no_names;
  fewer = let e = ap length no_vars in omega (arith, e);
  kinds = λ v lt kept. absurd (omega (arith, lt));
  rising = λ v w lt less kept. absurd (omega (arith, less));
  from = λ j lt. let e = ap length no_vars in absurd (omega (arith, e, lt));
  homes = λ i. ap (λ (ks : List VarKind). list_any (is_param i) ks) no_vars
      ∙ sym (ap (λ (ks : List VarKind). list_any (is_param i) ks) (take_none code.vars));
  counts = λ kind. let e = ap (λ (ks : List VarKind). count_by kind ks) no_vars in omega (arith, e);
  all = λ e v lt. absurd (omega (arith, lt));
}
  where
    take_none : (ks : List VarKind) → take 0 ks ≡ []
    take_none [] = refl
    take_none (k ∷ ks) = refl

counted : (kind : VarKind → Bool) (ks more : List VarKind) → count_by kind (ks ++ more) ≡
    count_by kind ks + count_by kind more
counted kind ks more = sum_by-append (λ k. cond (kind k) 1 0) ks more

not_argument : (i : ℕ) (k : VarKind) → is_argument k ≡ false → is_param i k ≡ false
not_argument i (Param j) e = cc
not_argument i Plain e = refl
not_argument i (Constant n) e = refl

module _ (code : VProc) (marks : List Bool) (names : List ℕ) (vars : List VarKind) (n : ℕ)
    (are : AreNumbers code marks names vars n) (inside : n < length code.vars) where
  abbrev more : List ℕ
  more = names ++ length vars ∷ []

  old_name : (v : ℕ) → v < n → name more v ≡ name names v
  old_name v lt = let count = are.count in get_or_append_left names (length vars ∷ []) v v
      (omega (arith, count, lt))

  last_name : (v : ℕ) → v ≡ n → name more v ≡ length vars
  last_name v e = ap (λ u. slice_index_or more u v) (e ∙ sym are.count) ∙ get_or-append_seam names
      (length vars) [] v

  name_cases : (v : ℕ) → v < n + 1 → (v < n) ⊎ (v ≡ n)
  name_cases v lt = ⊎_elim (λ (e : v ≡ n). inr e) (λ (ne : v ≢ n). inl (omega (arith, lt, ne)))
      (cases_eq v n)

  longer : length more ≡ n + 1
  longer = let count = are.count in let e : length more ≡ length names + 1 =
      length-append names (length vars ∷ []) in omega (arith, e, count)

  rising_more : (v w : ℕ) → v < w → w < n + 1 → is_kept code marks v ≡ true → name more v <
      name more w
  rising_more v w lt less kept = by (name_cases w less)
    where
      by : (w < n) ⊎ (w ≡ n) → name more v < name more w
      by (inl l) = let one = old_name v (omega (arith, lt, l)) in let two = old_name w l in let up =
          are.rising v w lt l kept in omega (arith, one, two, up)
      by (inr e) = let l : v < n = omega (arith, lt, e) in let one = old_name v l in let two =
          last_name w e in let up = (are.kinds v l kept).0 in omega (arith, one, two, up)

  counted_next : (kind : VarKind → Bool) → count_by kind (take (n + 1) code.vars) ≡
      count_by kind (take n code.vars) + count_by kind (kind_of code n ∷ [])
  counted_next kind = ap (λ (ks : List VarKind). count_by kind ks)
      (take_more code.vars n Plain inside) ∙ counted kind (take n code.vars) (kind_of code n ∷ [])

  -- the variable is left out
  pub one_left_out : is_kept code marks n ≡ false → AreNumbers code marks more vars (n + 1)
  one_left_out out = record {
    count = longer;
    fewer = let few = are.fewer in omega (arith, few);
    kinds = λ v lt kept.
        ⊎_elim
        (λ (l : v < n). subst (λ u. (u < length vars) ×
        (slice_index_or vars u Plain ≡ kind_of code v)) (sym (old_name v l))
        (are.kinds v l kept))
        (λ (e : v ≡ n). absurd (true_false (is_kept code marks v) kept
        (ap (λ u. is_kept code marks u) e ∙ out)))
        (name_cases v lt);
    rising = rising_more;
    from = λ j lt. let f = are.from j lt in let l = f.1 in
        (f.0, omega (arith, l), f.2, old_name f.0 l ∙ f.3);
    homes = λ i. are.homes i
        ∙ sym (or_same (list_any (is_param i) (take n code.vars)) (is_param i (kind_of code n))
        (not_argument i (kind_of code n)
        (or_none (is_marked marks n) (is_argument (kind_of code n)) out)))
        ∙ sym (list_any_more (is_param i) code.vars n Plain inside);
    counts = λ kind. let few = are.counts kind in let next = counted_next kind in
        omega (arith, few, next);
    all = λ e v lt. let few = are.fewer in absurd (omega (arith, few, e));
  }

  abbrev vars_more : List VarKind
  vars_more = vars ++ kind_of code n ∷ []

  one_longer : length vars_more ≡ length vars + 1
  one_longer = length-append vars (kind_of code n ∷ [])

  old_kind : (j : ℕ) → j < length vars → slice_index_or vars_more j Plain ≡
      slice_index_or vars j Plain
  old_kind j lt = get_or_append_left vars (kind_of code n ∷ []) Plain j lt

  last_kind : slice_index_or vars_more (length vars) Plain ≡ kind_of code n
  last_kind = get_or-append_seam vars (kind_of code n) [] Plain

  -- the variable is kept
  pub one_kept : is_kept code marks n ≡ true → AreNumbers code marks more vars_more (n + 1)
  one_kept kept_here = record {
    count = longer;
    fewer = let few = are.fewer in let l = one_longer in omega (arith, few, l);
    kinds = λ v lt kept.
        ⊎_elim
        (λ (l : v < n).
        let k = are.kinds v l kept in let less = k.0 in let long = one_longer in
        subst (λ u. (u < length vars_more) × (slice_index_or vars_more u Plain ≡ kind_of code v))
        (sym (old_name v l)) (omega (arith, less, long), old_kind (name names v) less ∙ k.1))
        (λ (e : v ≡ n).
        let long = one_longer in
        subst (λ u. (u < length vars_more) × (slice_index_or vars_more u Plain ≡ kind_of code v))
        (sym (last_name v e)) (
          omega (arith, long),
          last_kind ∙ ap (λ u. kind_of code u)
              (sym e),
        ))
        (name_cases v lt);
    rising = rising_more;
    from = λ j lt.
        ⊎_elim
        (λ (l : j < length vars). let f = are.from j l in let m = f.1 in
        (f.0, omega (arith, m), f.2, old_name f.0 m ∙ f.3))
        (λ (le : length vars ≤ j). let long = one_longer in let same : length vars ≡ j =
        omega (arith, long, lt, le) in (n, omega arith, kept_here, last_name n refl ∙ same))
        (cases_lt j (length vars));
    homes = λ i. list_any-append (is_param i) vars (kind_of code n ∷ [])
        ∙ ap (λ (b : Bool). b || list_any (is_param i) (kind_of code n ∷ [])) (are.homes i)
        ∙ ap (λ (b : Bool). list_any (is_param i) (take n code.vars) || b)
        (alone (is_param i (kind_of code n)))
        ∙ sym (list_any_more (is_param i) code.vars n Plain inside);
    counts = λ kind. let few = are.counts kind in let next = counted_next kind in let more =
        counted kind vars (kind_of code n ∷ []) in omega (arith, few, next, more);
    all = λ e v lt.
        ⊎_elim
        (λ (l : v < n). let long = one_longer in are.all (omega (arith, long, e)) v l)
        (λ (f : v ≡ n). ap (λ u. is_kept code marks u) f ∙ kept_here)
        (name_cases v lt);
  }
    where
      alone : (b : Bool) → (b || false) ≡ b
      alone true = refl
      alone false = refl

pub kind_read : (code : VProc) (v : ℕ) (x : VarKind) → v < length code.vars →
    x ≡ get_or code.vars v x → x ≡ kind_of code v
kind_read code v x lt e =
    e ∙ some_same _ _ (sym (slice_get-get_or code.vars v x lt) ∙ slice_get-get_or code.vars v Plain
    lt)

-- ---- which variables some instruction has

pub marked_block : (code : VProc) (n : ℕ) (x : Block) (xs : List VInstr) (old new : List Bool) →
    n < length code.blocks → x ≡ get_or code.blocks n x → xs ≡ x.code →
    ((v : ℕ) → is_marked old v ≡ true → is_marked new v ≡ true) →
    ((v : ℕ) → IsIn xs v → is_marked new v ≡ true) →
    ((b k v : ℕ) (i : VInstr) → b < n → instr_at code b k ≡ Some i → Names i v → is_marked old v ≡
    true) → (b k v : ℕ) (i : VInstr) → b < n + 1 → instr_at code b k ≡ Some i → Names i v →
    is_marked new v ≡ true
marked_block code n x xs old new lt x_is xs_is kept here was b k v i less is named =
    ⊎_elim
    (λ (e : b ≡ n).
    let same : x ≡ block_in code.blocks n =
    x_is ∙ some_same _ _ (sym (slice_get-get_or code.blocks n x lt)
    ∙ slice_get-get_or code.blocks n no_block lt) in
    here v (
      k,
      i,
      ap (λ (ys : List VInstr). slice_get ys k)
          (xs_is ∙ ap (λ (y : Block). y.code) same) ∙ ap (λ m. instr_at code m k) (sym e) ∙ is,
      named,
    ))
    (λ (ne : b ≢ n). kept v (was b k v i (omega (arith, less, ne)) is named))
    (cases_eq b n)

pub named_block : (code : VProc) (n v : ℕ) (x : Block) (xs : List VInstr) → n < length code.blocks →
    x ≡ get_or code.blocks n x → xs ≡ x.code → IsIn xs v → IsNamed code v
named_block code n v x xs lt x_is xs_is m =
    let same : x ≡ block_in code.blocks n =
    x_is ∙ some_same _ _ (sym (slice_get-get_or code.blocks n x lt)
    ∙ slice_get-get_or code.blocks n no_block lt) in (
      n,
      m.0,
      m.1,
      ap (λ (ys : List VInstr). slice_get ys m.0)
          (sym (xs_is ∙ ap (λ (y : Block). y.code) same)) ∙ m.2,
      m.3,
    )

-- ---- the code under the new numbers

module _ (code : VProc) (marks : List Bool) (names : List ℕ) (vars : List VarKind)
    (sized : IsSized code) (valid_ : IsValid code)
    (named_ : AreNamed code marks) (are : AreNumbers code marks names vars (length code.vars)) where
  in_range : (v : ℕ) → IsNamed code v → v < length code.vars
  in_range v m = sized.variables_in_range m.0 m.1 m.2 m.3 v m.4

  named_kept : (v : ℕ) → IsNamed code v → is_kept code marks v ≡ true
  named_kept v m = or_left (is_marked marks v) (is_argument (kind_of code v)) (named_.marked v m)

  one_number : (v w : ℕ) → IsNamed code v → IsNamed code w → name names w ≡ name names v → w ≡ v
  one_number v w mv mw same =
      ⊎_elim
      (λ (lt : w < v). let up = are.rising w v lt (in_range v mv) (named_kept w mw) in
      absurd (omega (arith, up, same)))
      (λ (le : v ≤ w).
      ⊎_elim
      (λ (e : w ≡ v). e)
      (λ (ne : w ≢ v). let up = are.rising v w (omega (arith, le, ne)) (in_range w mw)
      (named_kept v mv) in absurd (omega (arith, up, same)))
      (cases_eq w v))
      (cases_lt w v)

  needed_named : (b k w : ℕ) → Needed code b k w → IsNamed code w
  needed_named b k w needed = let r = reads_here code w needed.to needed.read in
      (needed.to.block, needed.to.index, r.0, r.1, inl r.2)

  kept_kind : (v : ℕ) → IsNamed code v → slice_index_or vars (name names v) Plain ≡ kind_of code v
  kept_kind v m = (are.kinds v (in_range v m) (named_kept v m)).1

  joins : Joins code names vars
  joins = record {
    homes = λ i. are.homes i ∙ ap (λ (ks : List VarKind). list_any (is_param i) ks)
        (take_all (length code.vars) code.vars (omega arith));
    fewer = are.fewer;
    kinds = λ v m. inl (kept_kind v m);
    in_range = λ v m. (are.kinds v (in_range v m) (named_kept v m)).0;
    one_each = λ b k i is kept v w one other same. one_number v w (b, k, i, is, one)
        (b, k, i, is, other) same;
    apart = λ b k i is kept v w over needed same. one_number v w
        (b, k, i, is, overwritten_named i v over) (needed_named b (suc k) w needed) same;
    constants = λ v w n kind one other same. one_number v w one other same;
    entry = λ v needed. kept_kind v (needed_named 0 0 v needed);
  }

  params : ParamsApart (joined_code names vars code)
  params v w i ev ew =
      let f = are.from v (slice_get_within vars v (Param i) ev) in
      let g = are.from w (slice_get_within vars w (Param i) ew) in
      let same = valid_.arguments_apart.params f.0 g.0 i (param f.0 v f.1 f.2 f.3 ev)
      (param g.0 w g.1 g.2 g.3 ew) in
      sym f.3 ∙ ap (λ u. name names u) same ∙ g.3
    where
      read : (ks : List VarKind) (u : ℕ) → slice_get ks u ≡ Some (Param i) →
          slice_index_or ks u Plain ≡ Param i
      read ks u e = some_same _ _
          (sym (slice_get-get_or ks u Plain (slice_get_within ks u (Param i) e)) ∙ e)

      param : (u j : ℕ) → u < length code.vars → is_kept code marks u ≡ true → name names u ≡ j →
          slice_get vars j ≡ Some (Param i) → slice_get code.vars u ≡ Some (Param i)
      param u j lt kept e at =
          slice_get-get_or code.vars u Plain lt
          ∙ ap Some (sym (are.kinds u lt kept).1 ∙ ap (λ x. slice_index_or vars x Plain) e
          ∙ read vars j at)

  pub numbered_preserves : Preserves code (joined_code names vars code)
  numbered_preserves = joined_preserves code names vars joins params valid_ sized

  pub numbered_kinds : KeepsKinds code (joined_code names vars code)
  numbered_kinds = record {
    counts = λ kind.
        let few = are.counts kind in
        let all = ap (λ (ks : List VarKind). count_by kind ks)
        (take_all (length code.vars) code.vars (omega arith)) in
        omega (arith, few, all);
  }

  pub all_used : length vars ≡ length code.vars → NoUnused code
  all_used e v lt = by (or_cases (is_marked marks v) (is_argument (kind_of code v))
      (are.all e v lt))
    where
      argument : (k : VarKind) → is_argument k ≡ true → (i : ℕ) × (k ≡ Param i)
      argument (Param i) e = (i, refl)
      argument Plain e = cc
      argument (Constant n) e = cc

      by : (is_marked marks v ≡ true) ⊎ (is_argument (kind_of code v) ≡ true) →
          ((i : ℕ) × (kind_of code v ≡ Param i)) ⊎ IsNamed code v
      by (inl m) = inr (named_.named v m)
      by (inr a) = inl (argument (kind_of code v) a)
