-- Classes of variables: how they begin, how two are joined, and what names of classes make of code.
use Rattle.std.proofs.Common.{◌≡◌, ◌≢◌, ℕ, suc, ◌+◌, ◌<◌, ◌≤◌, ◌⊎◌, inl, inr, ⊎_elim, ℤ, Bool}
use Rattle.std.proofs.Common.{true, false, ◌||◌, ◌&&◌, nat_eq, if◌then◌else◌, List, [], ◌∷◌, ◌++◌, length}
use Rattle.std.proofs.Common.{All, Contains, get_or, slice_set, Some, refl, sym, ap, subst, ◌∙◌}
use Rattle.std.proofs.Common.{arith}
use Rattle.std.proofs.lemmas.Bool.{cases_eq, cases_lt}
use Rattle.std.proofs.lemmas.Bool.Decides.{nat_tests}
use Rattle.std.proofs.lemmas.List.{get_or_past, get_or-set_same, get_or-set_other, length-set}
use Rattle.std.proofs.lemmas.List.Elements.{All-nil, All-cons, All-append, All-weaker, All-contains}
use Rattle.std.proofs.lemmas.List.Elements.{Contains-append_left, Contains-append_right}
use Rattle.std.proofs.lemmas.List.Elements.{Contains-push}
use Rattle.std.proofs.lemmas.Option.{slice_get-get_or, slice_get_within}
use Rattle.pra_base.proofs.Roles.{among_reads, among_writes}
use Rattle.pra_list.proofs.Truths.{true_false, truth, nat_is}
use Rattle.pra_list.proofs.Options.{some_same}
use Rattle.pra_base.specs.declared.ids.VarId.{VarId}
use Rattle.pra_base.specs.declared.code.VarKind.{VarKind}
use Rattle.pra_base.specs.declared.code.VarKind.TheVariants.{Param, Plain, Constant}
use Rattle.pra_base.specs.declared.code.VInstr.{VInstr}
use Rattle.pra_base.specs.declared.code.VInstr.TheVariants as instr
use Rattle.pra_base.specs.declared.code.VProc.{VProc}
use Rattle.pra_base.specs.Code.{kind_of, code_of, instr_at}
use Rattle.pra_base.specs.Operands.{reads}
use Rattle.pra_base.specs.Valid.{IsSized, IsValid, Names}
use Rattle.vc_same.specs.Reduction.{Needed, StandsFor, overwrites}
use Rattle.vc_same.specs.SameRuns.{Preserves}
use Rattle.vc_tidy.specs.Tidy.{is_between, AreApart, CanMerge, can_merge, NoCopyAt}
use Rattle.vc_tidy.specs.Joined.{name, varies, is_joined, joined_code, AreNames, IsPlain}
use Rattle.vc_tidy.specs.Joined.{IsJoinable, Meets, SomeMeet, NoneMeet, group_of, IsLike, AreClasses}
use Rattle.vc_tidy.specs.Joined.{AreAlone, AreTried, IsFound, IsNoCopy}
use Rattle.vc_tidy.specs.declared.classes.Classes.{Classes}
use Rattle.vc_tidy.proofs.Joining.{Joins, joined_preserves}
use Rattle.vc_tidy.proofs.Meeting.{in_block, varying_live, apart_back, meeting_cant}
use Rattle.vc_tidy.proofs.Meeting.{meeting_back_cant}
use Rattle.vc_tidy.proofs.Overwriting.{overwritten_named}

eq_true : (a b : ℕ) → a ≡ b → nat_eq a b ≡ true
eq_true a b e = grind (arith, nat_tests)

eq_false : (a b : ℕ) → a ≢ b → nat_eq a b ≡ false
eq_false a b e = grind (arith, nat_tests)

-- ---- each variable alone

in_one : (v w : ℕ) → Contains (v ∷ []) w → w ≡ v
in_one v w c = All-contains (λ (u : ℕ). u ≡ v) (v ∷ []) w
    (All-cons (λ (u : ℕ). u ≡ v) v [] refl (All-nil (λ (u : ℕ). u ≡ v))) c

pub alone_classes : (code : VProc) (classes : Classes) → AreAlone code classes →
    AreClasses code classes
alone_classes code classes alone = record {
  names = record {
    count = alone.count;
    within = λ v lt. subst (λ u. u < length code.vars) (sym (alone.names v)) lt;
    plain = λ v other. absurd (other (alone.names v));
  };
  count = alone.groups_count;
  members = λ v lt. subst (λ (c : ℕ). Contains (group_of classes.groups.items c) v)
      (sym (alone.names v)) (subst (λ (g : List ℕ). Contains g v) (sym (alone.groups v lt))
      (Contains-push [] v));
  kinds = λ c.
      ⊎_elim
      (λ (lt : c < length code.vars). subst (λ (g : List ℕ). All (IsLike code c) g)
      (sym (alone.groups c lt))
      (All-cons (IsLike code c) c [] (lt, refl) (All-nil (IsLike code c))))
      (λ (le : length code.vars ≤ c). let many = alone.groups_count in
      subst (λ (g : List ℕ). All (IsLike code c) g)
      (sym (get_or_past classes.groups.items c [] (omega (arith, many, le))))
      (All-nil (IsLike code c)))
      (cases_lt c (length code.vars));
  apart = λ v w other same. absurd (other (sym (alone.names v) ∙ same ∙ alone.names w));
}

pub alone_name : (code : VProc) (classes : Classes) → AreAlone code classes → (v c : ℕ) →
    c ≡ name classes.names.items v → c ≡ v
alone_name code classes alone v c e = e ∙ alone.names v

meet_one : (code : VProc) (x y : List ℕ) (a b : ℕ) → x ≡ a ∷ [] → y ≡ b ∷ [] → SomeMeet code x y →
    Meets code a b
meet_one code x y a b ex ey m =
    let v_is = in_one a m.0 (subst (λ (g : List ℕ). Contains g m.0) ex m.2) in
    let w_is = in_one b m.1 (subst (λ (g : List ℕ). Contains g m.1) ey m.3) in
    subst (λ v. Meets code v b) v_is (subst (λ w. Meets code m.0 w) w_is m.4)

-- variables that are alone and meet can't be one
pub alone_cant : (code : VProc) (classes : Classes) → AreAlone code classes → (t s : ℕ) →
    IsJoinable code t → IsJoinable code s →
    SomeMeet code (group_of classes.groups.items t) (group_of classes.groups.items s) ⊎
    SomeMeet code (group_of classes.groups.items s) (group_of classes.groups.items t) →
    AreApart code t s → ⊥
alone_cant code classes alone t s jt js (inl m) = meeting_cant code t s js
    (meet_one code _ _ t s (alone.groups t jt.0) (alone.groups s js.0) m)
alone_cant code classes alone t s jt js (inr m) = meeting_back_cant code t s jt
    (meet_one code _ _ s t (alone.groups s js.0) (alone.groups t jt.0) m)

-- ---- kinds of which one can be the name of the other

no_truth : false ≡ true → ⊥
no_truth e = cc

stands : (new old : VarKind) → varies new ≡ true → old ≡ Plain → StandsFor new old
stands Plain old e plain = inl (sym plain)
stands (Param i) old e plain = inr (plain, (i, refl))
stands (Constant n) old e plain = absurd (no_truth e)

merge_left : (k l : VarKind) → can_merge k l ≡ true → varies k ≡ true
merge_left Plain l e = refl
merge_left (Param i) l e = refl
merge_left (Constant n) l e = absurd (no_truth e)

merge_right : (k l : VarKind) → can_merge k l ≡ true → varies l ≡ true
merge_right k Plain e = refl
merge_right k (Param i) e = refl
merge_right Plain (Constant n) e = absurd (no_truth e)
merge_right (Param i) (Constant n) e = absurd (no_truth e)
merge_right (Constant m) (Constant n) e = absurd (no_truth e)

merge_plain : (k l : VarKind) → can_merge k l ≡ true → (l ≡ Plain → ⊥) → k ≡ Plain
merge_plain Plain l e other = refl
merge_plain (Param i) Plain e other = absurd (other refl)
merge_plain (Param i) (Param j) e other = absurd (no_truth e)
merge_plain (Param i) (Constant n) e other = absurd (no_truth e)
merge_plain (Constant m) l e other = absurd (no_truth e)

-- two variables that can merge: the second one is Plain, or the first one is
merge_named : (code : VProc) (t s : ℕ) → t < length code.vars → IsPlain code s →
    CanMerge code t s → IsJoinable code t × IsPlain code s
merge_named code t s tl plain can = ((tl, merge_left (kind_of code t) (kind_of code s) can), plain)

merge_turned : (code : VProc) (t s : ℕ) → t < length code.vars → s < length code.vars →
    (IsPlain code s → ⊥) → CanMerge code t s → IsJoinable code s × IsPlain code t
merge_turned code t s tl sl other can = (
  (sl, merge_right (kind_of code t) (kind_of code s) can),
  (tl, merge_plain (kind_of code t) (kind_of code s) can (λ e. other (sl, e))),
)

pub plain_joinable : (code : VProc) (v : ℕ) → IsPlain code v → IsJoinable code v
plain_joinable code v plain = (plain.0, ap varies plain.1)

-- two names are kept apart with cause
abbrev pub Cant : VProc → ℕ → ℕ → Type 0
Cant code to from = to ≢ from → IsJoinable code to → IsPlain code from → AreApart code to from → ⊥

-- the same of variables that are alone, by their names
pub pair_cant : (code : VProc) (t s one other : ℕ) → one ≡ t → other ≡ s → Cant code one other →
    IsPlain code other → t ≢ s → t < length code.vars → CanMerge code t s → AreApart code t s → ⊥
pair_cant code t s one other one_t other_s cant plain ne tl can apart =
    let m = merge_named code t s tl (subst (λ u. IsPlain code u) other_s plain) can in
    subst (λ y. Cant code t y) other_s (subst (λ x. Cant code x other) one_t cant) ne m.0 m.1 apart

pub pair_turned : (code : VProc) (t s one other : ℕ) → one ≡ t → other ≡ s →
    Cant code other one → (IsPlain code other → ⊥) → t ≢ s → t < length code.vars →
    s < length code.vars → CanMerge code t s → AreApart code t s → ⊥
pair_turned code t s one other one_t other_s cant varying ne tl sl can apart =
    let m = merge_turned code t s tl sl
    (λ p. varying (subst (λ u. IsPlain code u) (sym other_s) p)) can in
    subst (λ y. Cant code s y) one_t (subst (λ x. Cant code x one) other_s cant)
    (λ e. ne (sym e)) m.0 m.1 (apart_back code t s apart)

-- ---- two classes are joined

module _ (code : VProc) (old new : Classes) (are : AreClasses code old) (to from : ℕ)
    (differ : to ≢ from) (to_joinable : IsJoinable code to) (from_plain : IsPlain code from)
    (count_ : length new.names.items ≡ length old.names.items)
    (names_ : (v : ℕ) → v < length old.names.items → name new.names.items v ≡
    (if nat_eq (name old.names.items v) from then to else name old.names.items v))
    (groups_ : new.groups.items ≡ slice_set old.groups.items to
    (group_of old.groups.items to ++ group_of old.groups.items from)) where
  abbrev was : ℕ → ℕ
  was = name old.names.items

  abbrev now : ℕ → ℕ
  now = name new.names.items

  abbrev n : ℕ
  n = length code.vars

  abbrev group : ℕ → List ℕ
  group = group_of old.groups.items

  past : (v : ℕ) → n ≤ v → was v ≡ v
  past v le = let count = are.names.count in get_or_past old.names.items v v
      (omega (arith, count, le))

  in_range : (v : ℕ) → was v < n → v < n
  in_range v lt =
      ⊎_elim (λ (l : v < n). l)
      (λ (le : n ≤ v). let e = past v le in absurd (omega (arith, e, le, lt))) (cases_lt v n)

  how : (v : ℕ) → ((was v ≡ from) × (now v ≡ to)) ⊎ ((was v ≢ from) × (now v ≡ was v))
  how v =
      ⊎_elim
      (λ (lt : v < n).
      let is : now v ≡ (if nat_eq (was v) from then to else was v) =
      names_ v (let count = are.names.count in omega (arith, count, lt)) in
      ⊎_elim
      (λ (e : was v ≡ from). inl
      (e, is ∙ ap (λ (b : Bool). if b then to else was v) (eq_true (was v) from e)))
      (λ (ne : was v ≢ from). inr
      (ne, is ∙ ap (λ (b : Bool). if b then to else was v) (eq_false (was v) from ne)))
      (cases_eq (was v) from))
      (λ (le : n ≤ v).
      let e = past v le in
      let below : from < n = from_plain.0 in
      inr (
        (λ f. absurd (omega (arith, e, f, le, below))),
        (let count = are.names.count in get_or_past new.names.items v v
            (omega (arith, count_, count, le))) ∙ sym e,
      ))
      (cases_lt v n)

  member : (v c : ℕ) → was v ≡ c → c < n → Contains (group c) v
  member v c e lt = subst (λ u. Contains (group u) v) e
      (are.members v (in_range v (subst (λ u. u < n) (sym e) lt)))

  at_to : group_of new.groups.items to ≡ group to ++ group from
  at_to = ap (λ (gs : List (List ℕ)). group_of gs to) groups_ ∙ get_or-set_same old.groups.items to
      (group to ++ group from) [] (let count = are.count in let lt = to_joinable.0 in
      omega (arith, count, lt))

  elsewhere : (c : ℕ) → c ≢ to → group_of new.groups.items c ≡ group c
  elsewhere c other = ap (λ (gs : List (List ℕ)). group_of gs c) groups_
      ∙ get_or-set_other old.groups.items to c (group to ++ group from) [] other

  was_plain : (v : ℕ) → was v ≡ from → kind_of code v ≡ Plain
  was_plain v e =
      ⊎_elim
      (λ (same : was v ≡ v). ap (λ u. kind_of code u) (sym same ∙ e) ∙ from_plain.1)
      (λ (other : was v ≢ v). (are.names.plain v other).0)
      (cases_eq (was v) v)

  names_are : AreNames code new.names.items
  names_are = record {
    count = count_ ∙ are.names.count;
    within = λ v lt.
        ⊎_elim
        (λ (h : (was v ≡ from) × (now v ≡ to)). subst (λ u. u < n) (sym h.1) to_joinable.0)
        (λ (h : (was v ≢ from) × (now v ≡ was v)). subst (λ u. u < n) (sym h.1)
        (are.names.within v lt))
        (how v);
    plain = λ v other.
        ⊎_elim
        (λ (h : (was v ≡ from) × (now v ≡ to)). (
          was_plain v h.0,
          ap (λ u. varies (kind_of code u)) h.1 ∙ to_joinable.1,
        ))
        (λ (h : (was v ≢ from) × (now v ≡ was v)).
        let p = are.names.plain v (λ e. other (h.1 ∙ e)) in
        (p.0, ap (λ u. varies (kind_of code u)) h.1 ∙ p.1))
        (how v);
  }

  members_ : (v : ℕ) → v < n → Contains (group_of new.groups.items (now v)) v
  members_ v lt =
      ⊎_elim
      (λ (h : (was v ≡ from) × (now v ≡ to)).
      subst (λ u. Contains (group_of new.groups.items u) v) (sym h.1)
      (subst (λ (g : List ℕ). Contains g v) (sym at_to)
      (Contains-append_right (group to) (group from) v (member v from h.0 from_plain.0))))
      (λ (h : (was v ≢ from) × (now v ≡ was v)).
      ⊎_elim
      (λ (e : was v ≡ to). subst (λ u. Contains (group_of new.groups.items u) v) (sym (h.1 ∙ e))
      (subst (λ (g : List ℕ). Contains g v) (sym at_to)
      (Contains-append_left (group to) (group from) v (member v to e to_joinable.0))))
      (λ (ne : was v ≢ to). subst (λ u. Contains (group_of new.groups.items u) v) (sym h.1)
      (subst (λ (g : List ℕ). Contains g v) (sym (elsewhere (was v) ne)) (are.members v lt)))
      (cases_eq (was v) to))
      (how v)

  kinds_ : (c : ℕ) → All (IsLike code c) (group_of new.groups.items c)
  kinds_ c =
      ⊎_elim
      (λ (e : c ≡ to).
      subst (λ u. All (IsLike code u) (group_of new.groups.items u)) (sym e)
      (subst (λ (g : List ℕ). All (IsLike code to) g) (sym at_to)
      (All-append (IsLike code to) (group to) (group from) (are.kinds to)
      (All-weaker (IsLike code from) (IsLike code to)
      (λ v p. (p.0, p.1 ∙ ap varies from_plain.1 ∙ sym to_joinable.1)) (group from) (are.kinds from)))))
      (λ (ne : c ≢ to). subst (λ (g : List ℕ). All (IsLike code c) g) (sym (elsewhere c ne))
      (are.kinds c))
      (cases_eq c to)

  free : (one other : ℕ) → one < n → other < n → NoneMeet code (group one) (group other) →
      (v w : ℕ) → was v ≡ one → was w ≡ other → Meets code v w → ⊥
  free one other ol tl none v w ev ew =
      All-contains (λ (u : ℕ). Meets code v u → ⊥) (group other) w
      (All-contains (λ (u : ℕ). All (λ (x : ℕ). Meets code u x → ⊥) (group other)) (group one) v
      none (member v one ev ol))
      (member w other ew tl)

  pub classes_joined : NoneMeet code (group to) (group from) →
      NoneMeet code (group from) (group to) → AreClasses code new
  classes_joined there back = record {
    names = names_are;
    count = ap length groups_ ∙ length-set old.groups.items to (group to ++ group from) ∙ are.count;
    members = members_;
    kinds = kinds_;
    apart = λ v w other same. by v w other same (how v) (how w);
  }
    where
      by : (v w : ℕ) → v ≢ w → now v ≡ now w → ((was v ≡ from) × (now v ≡ to)) ⊎
          ((was v ≢ from) × (now v ≡ was v)) → ((was w ≡ from) × (now w ≡ to)) ⊎
          ((was w ≢ from) × (now w ≡ was w)) → Meets code v w → ⊥
      by v w other same (inl h) (inl g) = are.apart v w other (h.0 ∙ sym g.0)
      by v w other same (inl h) (inr g) = free from to from_plain.0 to_joinable.0 back v w h.0
          (sym g.1 ∙ sym same ∙ h.1)
      by v w other same (inr h) (inl g) = free to from to_joinable.0 from_plain.0 there v w
          (sym h.1 ∙ same ∙ g.1) g.0
      by v w other same (inr h) (inr g) = are.apart v w other (sym h.1 ∙ same ∙ g.1)

  pub now_one : (t s : ℕ) → was t ≡ to → was s ≡ from → now t ≡ now s
  now_one t s et es = by (how t) (how s)
    where
      by : ((was t ≡ from) × (now t ≡ to)) ⊎ ((was t ≢ from) × (now t ≡ was t)) →
          ((was s ≡ from) × (now s ≡ to)) ⊎ ((was s ≢ from) × (now s ≡ was s)) → now t ≡ now s
      by (inl h) g = absurd (differ (sym et ∙ h.0))
      by (inr h) (inl g) = h.1 ∙ et ∙ sym g.1
      by (inr h) (inr g) = absurd (g.0 es)

-- the group of a name that varies, as it is read
pub group_is : (code : VProc) (classes : Classes) → AreClasses code classes → (c : ℕ) →
    IsJoinable code c → (g x : List ℕ) → x ≡ get_or classes.groups.items c x → g ≡ x →
    g ≡ group_of classes.groups.items c
group_is code classes are c joinable g x x_is g_is =
    let lt : c < length classes.groups.items =
    (let count = are.count in let l = joinable.0 in omega (arith, count, l)) in
    g_is ∙ x_is ∙ some_same _ _
    (sym (slice_get-get_or classes.groups.items c x lt)
    ∙ slice_get-get_or classes.groups.items c [] lt)

pub group_joinable : (code : VProc) (classes : Classes) → AreClasses code classes → (c : ℕ) →
    IsJoinable code c → (g x : List ℕ) → x ≡ get_or classes.groups.items c x → g ≡ x →
    All (IsJoinable code) g
group_joinable code classes are c joinable g x x_is g_is =
    subst (λ (h : List ℕ). All (IsJoinable code) h)
    (sym (group_is code classes are c joinable g x x_is g_is))
    (All-weaker (IsLike code c) (IsJoinable code) (λ v p. (p.0, p.1 ∙ joinable.1))
    (group_of classes.groups.items c) (are.kinds c))

-- the name of a variable, as it is read
pub class_is : (names : List ℕ) (v c : ℕ) → v < length names → c ≡ get_or names v c →
    c ≡ name names v
class_is names v c lt c_is =
    c_is ∙ some_same _ _ (sym (slice_get-get_or names v c lt) ∙ slice_get-get_or names v v lt)

-- ---- one more instruction is tried

pub no_false : true ≡ false → ⊥
no_false e = cc

pub tried_joined : (code : VProc) (new : Classes) (b k : ℕ) (i : VInstr) → AreClasses code new →
    instr_at code b k ≡ Some i → is_joined new.names.items i ≡ true → AreTried code new true
tried_joined code new b k i are is j =
    record { classes = are; some = λ e. (b, k, i, is, j); alone = λ e. absurd (no_false e) }

pub tried_alone : (code : VProc) (classes : Classes) → AreAlone code classes →
    AreTried code classes false
tried_alone code classes alone =
    record {
      classes = alone_classes code classes alone;
      some = λ e. absurd (no_false (sym e));
      alone = λ e. alone;
    }

pub tried_same : (code : VProc) (old new : Classes) (joined : Bool) → AreTried code old joined →
    new ≡ old → AreTried code new joined
tried_same code old new joined tried same = subst (λ (c : Classes). AreTried code c joined)
    (sym same) tried

copy_apart : (code : VProc) (b k : ℕ) (t s : VarId) → IsValid code → instr_at code b k ≡
    Some (instr.Copy t s) → t.0 ≢ s.0
copy_apart code b k t s valid_ is e =
    true_false (reads (instr.Copy t s) t.0)
    (among_reads (instr.Copy t s) t.0 (inl e))
    (valid_.roles_apart b k (instr.Copy t s) is t.0 (only t.0))
  where
    only : (v : ℕ) → (nat_eq v v || false) ≡ true
    only v = by (nat_eq v v) (eq_true v v refl)
      where
        by : (c : Bool) → c ≡ true → (c || false) ≡ true
        by true f = refl
        by false f = cc

pub no_copy_here : (code : VProc) (b k : ℕ) (i : VInstr) → IsValid code → IsSized code →
    instr_at code b k ≡ Some i → IsNoCopy code i → NoCopyAt code b k
no_copy_here code b k i valid_ sized is none t s at can =
    let i_is : i ≡ instr.Copy t s = some_same i (instr.Copy t s) (sym is ∙ at) in
    none t s i_is (copy_apart code b k t s valid_ at)
    (sized.variables_in_range b k (instr.Copy t s) at t.0
    (inr (among_writes (instr.Copy t s) t.0 (inl refl))))
    (sized.variables_in_range b k (instr.Copy t s) at s.0
    (inl (among_reads (instr.Copy t s) s.0 (inl refl)))) can

pub no_copy_more : (code : VProc) (b n : ℕ) → NoCopyAt code b n →
    ((k : ℕ) → k < n → NoCopyAt code b k) → (k : ℕ) → k < n + 1 → NoCopyAt code b k
no_copy_more code b n here was k lt =
    ⊎_elim (λ (e : k ≡ n). subst (λ m. NoCopyAt code b m) (sym e) here)
    (λ (ne : k ≢ n). was k (omega (arith, lt, ne))) (cases_eq k n)

pub no_copy_all : (code : VProc) (b n : ℕ) (xs : List VInstr) → xs ≡ code_of code b → length xs ≤
    n → ((k : ℕ) → k < n → NoCopyAt code b k) → (k : ℕ) → NoCopyAt code b k
no_copy_all code b n xs xs_is le none k t s at =
    let lt = slice_get_within (code_of code b) k (instr.Copy t s) at in
    let same : length xs ≡ length (code_of code b) = ap length xs_is in
    none k (omega (arith, lt, same, le)) t s at

pub no_copy_block : (code : VProc) (n : ℕ) → ((k : ℕ) → NoCopyAt code n k) →
    ((b k : ℕ) → b < n → NoCopyAt code b k) → (b k : ℕ) → b < n + 1 → NoCopyAt code b k
no_copy_block code n here was b k lt =
    ⊎_elim (λ (e : b ≡ n). subst (λ m. NoCopyAt code m k) (sym e) (here k))
    (λ (ne : b ≢ n). was b k (omega (arith, lt, ne))) (cases_eq b n)

pub no_copy_code : (code : VProc) (n : ℕ) → length code.blocks ≤ n →
    ((b k : ℕ) → b < n → NoCopyAt code b k) → (b k : ℕ) → NoCopyAt code b k
no_copy_code code n le none b k t s at =
    let lt = in_block code b k (instr.Copy t s) at in
    none b k (omega (arith, lt, le)) t s at

-- ---- the code under names of classes

between_joined : (names : List ℕ) (v w : ℕ) (i : VInstr) → name names v ≡ name names w →
    is_between v w i ≡ true → is_joined names i ≡ true
between_joined names v w (instr.Copy t s) same e =
    by (nat_eq t.0 v) (nat_eq s.0 w) (nat_eq t.0 w) (nat_eq s.0 v) (nat_is t.0 v) (nat_is s.0 w)
    (nat_is t.0 w) (nat_is s.0 v) e
  where
    by : (a b c d : Bool) → (a ≡ true → t.0 ≡ v) → (b ≡ true → s.0 ≡ w) → (c ≡ true → t.0 ≡ w) →
        (d ≡ true → s.0 ≡ v) → ((a && b) || (c && d)) ≡ true →
        nat_eq (name names t.0) (name names s.0) ≡ true
    by true true c d p q r u e =
        eq_true _ _ (ap (λ x. name names x) (p refl) ∙ same ∙ sym (ap (λ x. name names x) (q refl)))
    by true false true true p q r u e =
        eq_true _ _ (ap (λ x. name names x) (r refl) ∙ sym same
        ∙ sym (ap (λ x. name names x) (u refl)))
    by false b true true p q r u e =
        eq_true _ _ (ap (λ x. name names x) (r refl) ∙ sym same
        ∙ sym (ap (λ x. name names x) (u refl)))
    by true false true false p q r u e = cc
    by true false false d p q r u e = cc
    by false b true false p q r u e = cc
    by false b false d p q r u e = cc
between_joined names v w (instr.Set x n) same e = cc
between_joined names v w (instr.Add x s) same e = cc
between_joined names v w (instr.Sub x s) same e = cc
between_joined names v w (instr.And x s) same e = cc
between_joined names v w (instr.Or x s) same e = cc
between_joined names v w (instr.Xor x s) same e = cc
between_joined names v w (instr.Mul x s) same e = cc
between_joined names v w (instr.Neg x) same e = cc
between_joined names v w (instr.Shift op x n) same e = cc
between_joined names v w (instr.Cmp a b) same e = cc
between_joined names v w (instr.CmpSet c x a b) same e = cc
between_joined names v w (instr.DivMod q r a d) same e = cc
between_joined names v w (instr.Check x n) same e = cc
between_joined names v w (instr.CheckPos x) same e = cc
between_joined names v w (instr.Load x a) same e = cc
between_joined names v w (instr.Store a s) same e = cc
between_joined names v w (instr.Addr x a) same e = cc
between_joined names v w (instr.Push s) same e = cc
between_joined names v w (instr.Call p) same e = cc
between_joined names v w (instr.Read x) same e = cc
between_joined names v w (instr.Write s) same e = cc
between_joined names v w instr.Line same e = cc
between_joined names v w instr.Clear same e = cc

module _ (code : VProc) (names : List ℕ) (valid_ : IsValid code) (sized : IsSized code)
    (found : IsFound code names) where
  not_constant : (n : ℤ) → Plain ≡ Constant n → ⊥
  not_constant n e = cc

  not_argument : (i : ℕ) → Plain ≡ Param i → ⊥
  not_argument i e = cc

  constant_fixed : (k : VarKind) (n : ℤ) → varies k ≡ true → k ≡ Constant n → ⊥
  constant_fixed k n e is = true_false (varies k) e (ap varies is)

  -- what meets has other names
  one_named : (b k v w : ℕ) (i : VInstr) → instr_at code b k ≡ Some i → is_joined names i ≡ false →
      name names w ≡ name names v → Names i v →
      Names i w ⊎ ((overwrites i v ≡ true) × Needed code b (suc k) w) → w ≡ v
  one_named b k v w i is kept same first second =
      ⊎_elim
      (λ (e : w ≡ v). e)
      (λ (ne : w ≢ v).
      ⊎_elim
      (λ (yes_ : is_between v w i ≡ true).
      absurd (true_false (is_joined names i) (between_joined names v w i (sym same) yes_)
      kept))
      (λ (no_ : is_between v w i ≡ false).
      absurd (found.apart v w (λ e. ne (sym e)) (sym same)
      (b, k, record { instr = i; is = is; other = no_; first = first; second = second })))
      (truth (is_between v w i)))
      (cases_eq w v)

  at_entry : (v : ℕ) → Needed code 0 0 v → kind_of code (name names v) ≡ kind_of code v
  at_entry v needed =
      ⊎_elim
      (λ (same : name names v ≡ v). ap (λ u. kind_of code u) same)
      (λ (other : name names v ≢ v).
      let plain = (found.names_are.plain v other).0 in
      let argument = valid_.live_at_entry v
      (varying_live code v 0 0 0 (ap varies plain) (omega arith) needed) in
      absurd (not_argument argument.0 (sym plain ∙ argument.1)))
      (cases_eq (name names v) v)

  joins : Joins code names code.vars
  joins = record {
    homes = λ i. refl;
    fewer = omega arith;
    kinds = λ v named.
        ⊎_elim
        (λ (same : name names v ≡ v). inl (ap (λ u. kind_of code u) same))
        (λ (other : name names v ≢ v). let p = found.names_are.plain v other in
        stands (kind_of code (name names v)) (kind_of code v) p.1 p.0)
        (cases_eq (name names v) v);
    in_range = λ v named. found.names_are.within v
        (sized.variables_in_range named.0 named.1 named.2 named.3 v named.4);
    one_each = λ b k i is kept v w one other same. one_named b k v w i is kept same one (inl other);
    apart = λ b k i is kept v w over needed same. one_named b k v w i is kept same
        (overwritten_named i v over) (inr (over, needed));
    constants = λ v w n kind one other same.
        let v_own : name names v ≡ v = ⊎_elim (λ (e : name names v ≡ v). e)
        (λ (ne : name names v ≢ v).
        absurd (not_constant n (sym (found.names_are.plain v ne).0 ∙ kind)))
        (cases_eq (name names v) v) in
        let w_own : name names w ≡ w = ⊎_elim (λ (e : name names w ≡ w). e)
        (λ (ne : name names w ≢ w).
        absurd (constant_fixed (kind_of code (name names w)) n (found.names_are.plain w ne).1
        (ap (λ u. kind_of code u) (same ∙ v_own) ∙ kind))) (cases_eq (name names w) w) in
        sym w_own ∙ same ∙ v_own;
    entry = at_entry;
  }

  pub found_preserves : Preserves code (joined_code names code.vars code)
  found_preserves = joined_preserves code names code.vars joins valid_.arguments_apart.params valid_
      sized
