-- Different scalar locations have different spots.
use Rattle.std.proofs.Common.{◌≡◌, ℕ, zero, suc, ◌+◌, ◌<◌, ◌≤◌, Bool, true, false, not, List, []}
use Rattle.std.proofs.Common.{◌∷◌, length, take, Some, None, refl, sym, ap, ◌∙◌, subst, arith, ◌⊎◌}
use Rattle.std.proofs.Common.{⊎_elim, count_by}
use Rattle.std.specs.Prelude.{slice_get, nat_eq, if◌then◌else◌, ◌||◌}
use Rattle.std.proofs.lemmas.List.{take_all}
use Rattle.std.proofs.lemmas.Bool.{eqb-true, cases_order}
use Rattle.std.proofs.lemmas.Option.{slice_get_within}
use Rattle.pra_list.specs.Options.{◌>>=◌}
use Rattle.pra_list.proofs.Options.{some_same, none_some, bind_some}
use Rattle.pra_list.proofs.Choices.{by_test}
use Rattle.pra_list.proofs.Counts.{count-cons, count-yes}
use Rattle.ob_syntax.specs.declared.checked.Checked.{Checked}
use Rattle.ob_syntax.specs.declared.checked.CheckedProc.{CheckedProc}
use Rattle.ob_syntax.specs.declared.checked.Local.{Local}
use Rattle.ob_syntax.specs.declared.checked.ModuleVar.{ModuleVar}
use Rattle.ob_syntax.specs.declared.checked.Param.{Param}
use Rattle.ob_syntax.specs.Storage.{type_words}
use Rattle.ob_syntax.specs.WellFormed.{is_scalar}
use Rattle.ob_mean.specs.declared.store.LiveCall.{LiveCall}
use Rattle.ob_mean.specs.declared.store.Location.{Location}
use Rattle.ob_mean.specs.declared.store.Object.{Object}
use Rattle.ob_mean.specs.declared.store.Object.TheVariants as mean
use Rattle.ob_mean.specs.Program.{live_frames}
use Rattle.vc_code.specs.declared.value.Object.TheVariants.{Data, Aggregates, Cell}
use Rattle.vc_relation.specs.declared.home.Home.TheVariants.{Frame}
use Rattle.vc_relation.specs.declared.home.Home.TheVariants as home
use Rattle.vc_relation.specs.Layout.{Part, part_along, is_aggregate, local_words, var_words}
use Rattle.vc_relation.specs.Layout.{FollowOn, IsLaidOut}
use Rattle.vc_relation.specs.Homes.{in_variable, local_in_variable, param_variable, local_variable}
use Rattle.vc_relation.specs.Homes.{variable, param_home, local_home}
use Rattle.vc_relation.specs.Spots.{Spot, InVariable, InWord, Placed, placed_at, call_at, here_of}
use Rattle.vc_relation.specs.Spots.{home_spot, param_of, local_of, param_placed, local_placed}
use Rattle.vc_relation.specs.Spots.{object_placed, beyond, part_placed, placed}
use Rattle.vc_relation.proofs.Parts.{scalar_within, scalar_words, lies_within, one_path}

-- ---- what lies one behind the other

module _ {A : Type 0} (test : A → Bool) (first words : A → ℕ) where
  abbrev size : A → ℕ
  size x = if test x then words x else 0

  sized : (x : A) → test x ≡ true → size x ≡ words x
  sized x e = ap (λ b. if b then words x else 0) e

  follow_above : (from to : ℕ) (xs : List A) (k : ℕ) (x : A) →
      FollowOn test first words from to xs → slice_get xs k ≡ Some x → test x ≡ true →
      from ≤ first x
  follow_above from to [] k x f e t = absurd (none_some e)
  follow_above from to (y ∷ ys) zero x f e t =
      let is = some_same y x e in
      let at : first y ≡ from = f.0 (ap test is ∙ t) in
      let same : first y ≡ first x = ap first is in
      omega (arith, at, same)
  follow_above from to (y ∷ ys) (suc k) x f e t =
      omega (arith, follow_above (from + size y) to ys k x f.1 e t)

  pub follow_apart : (from to : ℕ) (xs : List A) (j k : ℕ) (x y : A) →
      FollowOn test first words from to xs → slice_get xs j ≡ Some x → slice_get xs k ≡ Some y →
      test x ≡ true → test y ≡ true → j < k → first x + words x ≤ first y
  follow_apart from to [] j k x y f e d t u lt = absurd (none_some e)
  follow_apart from to (z ∷ zs) j zero x y f e d t u lt = absurd (omega (arith, lt))
  follow_apart from to (z ∷ zs) zero (suc k) x y f e d t u lt =
      let is = some_same z x e in
      let at : first z ≡ from = f.0 (ap test is ∙ t) in
      let same : first z ≡ first x = ap first is in
      let wide : size z ≡ words x = ap size is ∙ sized x t in
      omega (arith, at, same, wide, follow_above (from + size z) to zs k y f.1 d u)
  follow_apart from to (z ∷ zs) (suc j) (suc k) x y f e d t u lt =
      follow_apart (from + size z) to zs j k x y f.1 e d t u (omega (arith, lt))

  -- a word is of one of them
  pub one_holder : (from to : ℕ) (xs : List A) (j k a b : ℕ) (x y : A) →
      FollowOn test first words from to xs → slice_get xs j ≡ Some x → slice_get xs k ≡ Some y →
      test x ≡ true → test y ≡ true → a < words x → b < words y → first x + a ≡ first y + b → j ≡ k
  one_holder from to xs j k a b x y f e d t u l m same =
      ⊎_elim (λ (h : j ≡ k). h)
      (λ (h : (j < k) ⊎ (k < j)). ⊎_elim
      (λ (lt : j < k). absurd (omega
      (arith, l, m, same, follow_apart from to xs j k x y f e d t u lt)))
      (λ (lt : k < j). absurd (omega
      (arith, l, m, same, follow_apart from to xs k j y x f d e u t lt)))
      h)
      (cases_order j k)

-- ---- counts of variables

module _ {A : Type 0} (test : A → Bool) where
  count_rises : (xs : List A) (j k : ℕ) (x : A) → slice_get xs j ≡ Some x → test x ≡ true → j < k →
      count_by test (take j xs) < count_by test (take k xs)
  count_rises [] j k x e t lt = absurd (none_some e)
  count_rises (y ∷ ys) j zero x e t lt = absurd (omega (arith, lt))
  count_rises (y ∷ ys) zero (suc k) x e t lt =
      let yes : test y ≡ true = ap test (some_same y x e) ∙ t in
      omega (arith, count-yes test y (take k ys) yes)
  count_rises (y ∷ ys) (suc j) (suc k) x e t lt =
      omega (
        arith,
        count-cons test y (take j ys),
        count-cons test y (take k ys),
        count_rises ys j k x e t (omega (arith, lt)),
      )

  pub count_below : (xs : List A) (j : ℕ) (x : A) → slice_get xs j ≡ Some x → test x ≡ true →
      count_by test (take j xs) < count_by test xs
  count_below xs j x e t =
      subst (λ all. count_by test (take j xs) < count_by test all)
      (take_all (length xs) xs (omega arith))
      (count_rises xs j (length xs) x e t (slice_get_within xs j x e))

  one_count : (xs : List A) (j k : ℕ) (x y : A) → slice_get xs j ≡ Some x → slice_get xs k ≡
      Some y → test x ≡ true → test y ≡ true → count_by test (take j xs) ≡
      count_by test (take k xs) → j ≡ k
  one_count xs j k x y e d t u same =
      ⊎_elim (λ (h : j ≡ k). h)
      (λ (h : (j < k) ⊎ (k < j)). ⊎_elim
      (λ (lt : j < k). absurd (omega (arith, same, count_rises xs j k x e t lt)))
      (λ (lt : k < j). absurd (omega (arith, same, count_rises xs k j y d u lt)))
      h)
      (cases_order j k)

-- a parameter or local that is this variable of its call
pub data Owner (proc : CheckedProc) (depth : ℕ) (o : Object) (v : ℕ) : Type 0 where
  OfParam : (k : ℕ) (param : Param) → o ≡ mean.Param depth k → slice_get proc.params k ≡
      Some param → in_variable param ≡ true → param.by_var ≡ false → v ≡ param_variable proc k →
      Owner proc depth o v
  OfLocal : (k : ℕ) (local : Local) → o ≡ mean.Local depth k → slice_get proc.locals k ≡
      Some local → local_in_variable local ≡ true → v ≡ local_variable proc k → Owner proc depth o v

one_owner : (proc : CheckedProc) (depth : ℕ) (o p : Object) (v : ℕ) → Owner proc depth o v →
    Owner proc depth p v → o ≡ p
one_owner proc depth o p v (OfParam k x a e t n is) (OfParam j y b d u m as_well) =
    a ∙ ap (mean.Param depth) (one_count in_variable proc.params k j x y e d t u (sym is ∙ as_well))
    ∙ sym b
one_owner proc depth o p v (OfParam k x a e t n is) (OfLocal j y b d u as_well) =
    absurd (omega (arith, is, as_well, count_below in_variable proc.params k x e t))
one_owner proc depth o p v (OfLocal k x a e t is) (OfParam j y b d u m as_well) =
    absurd (omega (arith, is, as_well, count_below in_variable proc.params j y d u))
one_owner proc depth o p v (OfLocal k x a e t is) (OfLocal j y b d u as_well) =
    a ∙ ap (mean.Local depth)
    (one_count local_in_variable proc.locals k j x y e d t u (omega (arith, is, as_well)))
    ∙ sym b

-- it is not that of a VAR parameter
pub owner_apart : (proc : CheckedProc) (depth : ℕ) (o : Object) (v k : ℕ) (param : Param) →
    Owner proc depth o v → slice_get proc.params k ≡ Some param → param.by_var ≡ true →
    in_variable param ≡ true → param_variable proc k ≡ v → ⊥
owner_apart proc depth o v k param (OfParam j x a e t n is) d by_var u same =
    let at : j ≡ k = one_count in_variable proc.params j k x param e d t u (sym is ∙ sym same) in
    let one : x ≡ param = some_same x param (sym e ∙ ap (slice_get proc.params) at ∙ d) in
    differ (sym by_var ∙ sym (ap (λ (p : Param). p.by_var) one) ∙ n)
  where
    differ : true ≡ false → ⊥
    differ h = cc
owner_apart proc depth o v k param (OfLocal j x a e t is) d by_var u same =
    omega (arith, is, same, count_below in_variable proc.params k param d u)

-- ---- live calls

pub call_depth : {A : Type 0} (calls : List A) (depth : ℕ) (c : A × List A) → call_at calls depth ≡
    Some c → depth ≡ suc (length c.1)
call_depth [] depth c e = absurd (none_some e)
call_depth {A} (x ∷ below) depth c e =
    by_test (nat_eq depth (suc (length below))) (Some (x, below)) (call_at below depth) (Some c)
    (λ is at. let here : length below ≡ length c.1 = ap (λ (p : A × List A). length p.1)
    (some_same (x, below) c at) in omega (arith, here, eqb-true depth (suc (length below)) is))
    (λ is at. call_depth below depth c at)
    e

-- ---- where an object begins

-- the sort of a spot: module data, a variable, a cell, or aggregates; and its numbers
abbrev sort : Spot → ℕ
sort (InWord Data w) = 0
sort (InVariable depth v) = 1
sort (InWord (Cell n below k) w) = 2
sort (InWord (Aggregates n sum) w) = 3

abbrev calls_below : Spot → ℕ
calls_below (InVariable depth v) = depth
calls_below (InWord (Cell n below k) w) = n
calls_below (InWord (Aggregates n sum) w) = n
calls_below (InWord Data w) = 0

abbrev entry : Spot → ℕ
entry (InVariable depth v) = v
entry (InWord (Cell n below k) w) = k
entry (InWord (Aggregates n sum) w) = w
entry (InWord Data w) = w

plain : (s a : Bool) → (not s || a) ≡ false → s ≡ true
plain true a e = refl
plain false a e = cc

module _ (program : Checked) (frames : List ℕ) (calls : List LiveCall) where
  -- where an object begins, and what is known of it there
  pub data Standing (o : Object) (x : Placed) : Type 0 where
    IsData : (n : ℕ) (var : ModuleVar) → o ≡ mean.Module n → slice_get program.vars n ≡ Some var →
        x ≡ placed_at (InWord Data var.word) var.type_id → Standing o x
    IsVariable : (depth v : ℕ) (call : LiveCall × List LiveCall) (proc : CheckedProc) →
        call_at calls depth ≡ Some call → slice_get program.procs call.0.proc.0 ≡ Some proc →
        x.spot ≡ InVariable depth v → is_scalar x.type_id ≡ true → Owner proc depth o v →
        Standing o x
    IsCell : (depth k : ℕ) (call : LiveCall × List LiveCall) → call_at calls depth ≡ Some call →
        o ≡ mean.Param depth k →
        x.spot ≡ InWord (Cell (length call.1) (live_frames frames call.1) k) 0 →
        is_scalar x.type_id ≡ true → Standing o x
    IsAggregate : (depth k : ℕ) (call : LiveCall × List LiveCall) (proc : CheckedProc)
        (local : Local) → call_at calls depth ≡ Some call → slice_get program.procs call.0.proc.0 ≡
        Some proc →
        o ≡ mean.Local depth k → slice_get proc.locals k ≡ Some local → is_aggregate local ≡ true →
        x ≡ placed_at (InWord (Aggregates (length call.1) (live_frames frames (call.0 ∷ call.1)))
        local.word) local.type_id → Standing o x

  module _ (laid : IsLaidOut program) where
    param_stands : (depth k : ℕ) (x : Placed) → object_placed program frames calls
        (mean.Param depth k) ≡ Some x → Standing (mean.Param depth k) x
    param_stands depth k x e =
        let one = bind_some (call_at calls depth)
        (λ c. param_of program c.0 k >>= λ p. param_placed depth (here_of frames c) k p) x e in
        let two = bind_some (param_of program one.0.0 k)
        (λ p. param_placed depth (here_of frames one.0) k p) x one.2 in
        let three = bind_some (slice_get program.procs one.0.0.proc.0)
        (λ proc. slice_get proc.params k >>= λ param. Some (proc, param)) two.0 two.1 in
        let four = bind_some (slice_get three.0.params k) (λ param. Some (three.0, param)) two.0
        three.2 in
        let is : (three.0, four.0) ≡ two.0 = some_same (three.0, four.0) two.0 four.2 in
        let end : param_placed depth (here_of frames one.0) k (three.0, four.0) ≡ Some x =
        ap (param_placed depth (here_of frames one.0) k) is ∙ two.2 in
        by_test four.0.by_var None
        (Some (placed_at (home_spot depth (here_of frames one.0) (param_home three.0 k four.0))
        four.0.type_id)) (Some x)
        (λ t at. absurd (none_some at))
        (λ t at.
        let same = some_same (placed_at
        (home_spot depth (here_of frames one.0) (param_home three.0 k four.0)) four.0.type_id) x
        at in
        let scalar : is_scalar x.type_id ≡ true =
        sym (ap (λ (y : Placed). is_scalar y.type_id) same)
        ∙ (laid.procs one.0.0.proc.0 three.0 three.1).param_types k four.0 four.1 t in
        by_home (in_variable four.0) depth k x one.0 three.0 four.0 one.1 three.1 four.1 refl t
        scalar (sym (ap (λ (y : Placed). y.spot) same)))
        end
      where
        by_home : (b : Bool) (depth k : ℕ) (x : Placed) (call : LiveCall × List LiveCall)
            (proc : CheckedProc) (param : Param) → call_at calls depth ≡ Some call →
            slice_get program.procs call.0.proc.0 ≡ Some proc →
            slice_get proc.params k ≡ Some param → in_variable param ≡ b → param.by_var ≡ false →
            is_scalar x.type_id ≡ true →
            x.spot ≡ home_spot depth (here_of frames call)
            (if b then variable (param_variable proc k) else home.Cell k) →
            Standing (mean.Param depth k) x
        by_home true depth k x call proc param at there has is n scalar spot =
            IsVariable depth (param_variable proc k) call proc at there spot scalar
            (OfParam k param refl has is n refl)
        by_home false depth k x call proc param at there has is n scalar spot =
            IsCell depth k call at refl spot scalar

    local_stands : (depth k : ℕ) (x : Placed) → object_placed program frames calls
        (mean.Local depth k) ≡ Some x → Standing (mean.Local depth k) x
    local_stands depth k x e =
        let one = bind_some (call_at calls depth)
        (λ c. local_of program c.0 k >>= λ p. local_placed depth (here_of frames c) k p) x e in
        let two = bind_some (local_of program one.0.0 k)
        (λ p. local_placed depth (here_of frames one.0) k p) x one.2 in
        let three = bind_some (slice_get program.procs one.0.0.proc.0)
        (λ proc. slice_get proc.locals k >>= λ local. Some (proc, local)) two.0 two.1 in
        let four = bind_some (slice_get three.0.locals k) (λ local. Some (three.0, local)) two.0
        three.2 in
        let is : (three.0, four.0) ≡ two.0 = some_same (three.0, four.0) two.0 four.2 in
        let same : placed_at (home_spot depth (here_of frames one.0) (local_home three.0 k four.0))
        four.0.type_id ≡ x = some_same _ x
        (ap (local_placed depth (here_of frames one.0) k) is ∙ two.2) in
        by_home (is_aggregate four.0) depth k x one.0 three.0 four.0 one.1 three.1 four.1 refl
        (sym same)
      where
        by_home : (b : Bool) (depth k : ℕ) (x : Placed) (call : LiveCall × List LiveCall)
            (proc : CheckedProc) (local : Local) → call_at calls depth ≡ Some call →
            slice_get program.procs call.0.proc.0 ≡ Some proc →
            slice_get proc.locals k ≡ Some local → is_aggregate local ≡ b →
            x ≡ placed_at (home_spot depth (here_of frames call)
            (if b then Frame local.word else variable (local_variable proc k))) local.type_id →
            Standing (mean.Local depth k) x
        by_home true depth k x call proc local at there has is same =
            IsAggregate depth k call proc local at there refl has is same
        by_home false depth k x call proc local at there has is same =
            let scalar : is_scalar local.type_id ≡ true =
            plain (is_scalar local.type_id) local.addressed is in
            IsVariable depth (local_variable proc k) call proc at there
            (ap (λ (y : Placed). y.spot) same)
            (ap (λ (y : Placed). is_scalar y.type_id) same ∙ scalar)
            (OfLocal k local refl has (ap not is) refl)

    pub stands : (o : Object) (x : Placed) → object_placed program frames calls o ≡ Some x →
        Standing o x
    stands (mean.Module n) x e =
        let one = bind_some (slice_get program.vars n)
        (λ var. Some (placed_at (InWord Data var.word) var.type_id)) x e in
        IsData n one.0 refl one.1 (sym (some_same _ x one.2))
    stands (mean.Param depth k) x e = param_stands depth k x e
    stands (mean.Local depth k) x e = local_stands depth k x e

    -- ---- objects apart

    sort_beyond : (s : Spot) (i : ℕ) → sort (beyond s i) ≡ sort s
    sort_beyond (InVariable depth v) i = refl
    sort_beyond (InWord Data w) i = refl
    sort_beyond (InWord (Cell n below k) w) i = refl
    sort_beyond (InWord (Aggregates n sum) w) i = refl

    abbrev sort_of : (o : Object) (x : Placed) → Standing o x → ℕ
    sort_of o x (IsData n var a b c) = 0
    sort_of o x (IsVariable depth v call proc a b c d f) = 1
    sort_of o x (IsCell depth k call a b c d) = 2
    sort_of o x (IsAggregate depth k call proc local a b c d f g) = 3

    sort_is : (o : Object) (x : Placed) (s : Standing o x) → sort x.spot ≡ sort_of o x s
    sort_is o x (IsData n var a b c) = ap (λ (y : Placed). sort y.spot) c
    sort_is o x (IsVariable depth v call proc a b c d f) = ap sort c
    sort_is o x (IsCell depth k call a b c d) = ap sort c
    sort_is o x (IsAggregate depth k call proc local a b c d f g) =
        ap (λ (y : Placed). sort y.spot) g

    same_call : (depth other : ℕ) (c d : LiveCall × List LiveCall) → call_at calls depth ≡ Some c →
        call_at calls other ≡ Some d → depth ≡ other → c ≡ d
    same_call depth other c d at also same = some_same c d (sym at ∙ ap (call_at calls) same ∙ also)

    same_proc : (c d : LiveCall × List LiveCall) (p q : CheckedProc) →
        slice_get program.procs c.0.proc.0 ≡ Some p → slice_get program.procs d.0.proc.0 ≡ Some q →
        c ≡ d → p ≡ q
    same_proc c d p q at also same =
        some_same p q (sym at ∙ ap (λ (e : LiveCall × List LiveCall). slice_get program.procs
        e.0.proc.0) same ∙ also)

    module _ (o p : Object) (x y : Placed) (i j : ℕ) (li : i < type_words program.types x.type_id)
        (lj : j < type_words program.types y.type_id) (same : beyond x.spot i ≡ beyond y.spot j)
      where
        sorts : (s : Standing o x) (r : Standing p y) → sort_of o x s ≡ sort_of p y r
        sorts s r = sym (sort_is o x s) ∙ sym (sort_beyond x.spot i) ∙ ap sort same
            ∙ sort_beyond y.spot j ∙ sort_is p y r

        one_object : (s : Standing o x) (r : Standing p y) → sort_of o x s ≡ sort_of p y r → o ≡ p
        one_object (IsData n var a b c) (IsData m var' a' b' c') sorted =
            let word : var.word + i ≡ var'.word + j =
            sym (ap (λ (z : Placed). entry (beyond z.spot i)) c) ∙ ap entry same
            ∙ ap (λ (z : Placed). entry (beyond z.spot j)) c' in
            let wi : type_words program.types x.type_id ≡ var_words program.types var =
            ap (λ (z : Placed). type_words program.types z.type_id) c in
            let wj : type_words program.types y.type_id ≡ var_words program.types var' =
            ap (λ (z : Placed). type_words program.types z.type_id) c' in
            a ∙ ap mean.Module (one_holder (λ v. true) (λ v. v.word) (var_words program.types) 0
            program.data_words program.vars n m i j var var' laid.vars b b' refl refl
            (omega (arith, li, wi)) (omega (arith, lj, wj)) word) ∙ sym a'
        one_object (IsVariable depth v call proc a b c d f)
            (IsVariable depth' v' call' proc' a' b' c' d' f') sorted =
            let spots : InVariable depth v ≡ InVariable depth' v' = sym (ap (λ s. beyond s i) c)
            ∙ same ∙ ap (λ s. beyond s j) c' in
            let depths : depth ≡ depth' = ap calls_below spots in
            let vs : v ≡ v' = ap entry spots in
            let procs : proc ≡ proc' = same_proc call call' proc proc' b b'
            (same_call depth depth' call call' a a' depths) in
            one_owner proc' depth' o p v'
            (subst (λ q. Owner q depth' o v') procs
            (subst (λ n. Owner proc n o v') depths (subst (λ n. Owner proc depth o n) vs f))) f'
        one_object (IsCell depth k call a b c d) (IsCell depth' k' call' a' b' c' d') sorted =
            let below : length call.1 ≡ length call'.1 = sym (ap (λ s. calls_below (beyond s i)) c)
            ∙ ap calls_below same ∙ ap (λ s. calls_below (beyond s j)) c' in
            let depths : depth ≡ depth' =
            omega (arith, below, call_depth calls depth call a, call_depth calls depth' call' a')
            in
            let ks : k ≡ k' = sym (ap (λ s. entry (beyond s i)) c) ∙ ap entry same
            ∙ ap (λ s. entry (beyond s j)) c' in
            b ∙ ap (λ n. mean.Param n k) depths ∙ ap (mean.Param depth') ks ∙ sym b'
        one_object (IsAggregate depth k call proc local a b c d f g)
            (IsAggregate depth' k' call' proc' local' a' b' c' d' f' g') sorted =
            let below : length call.1 ≡ length call'.1 =
            sym (ap (λ (z : Placed). calls_below (beyond z.spot i)) g) ∙ ap calls_below same
            ∙ ap (λ (z : Placed). calls_below (beyond z.spot j)) g' in
            let depths : depth ≡ depth' =
            omega (arith, below, call_depth calls depth call a, call_depth calls depth' call' a')
            in
            let procs : proc ≡ proc' = same_proc call call' proc proc' b b'
            (same_call depth depth' call call' a a' depths) in
            let word : local.word + i ≡ local'.word + j =
            sym (ap (λ (z : Placed). entry (beyond z.spot i)) g) ∙ ap entry same
            ∙ ap (λ (z : Placed). entry (beyond z.spot j)) g' in
            let wi : type_words program.types x.type_id ≡ local_words program.types local =
            ap (λ (z : Placed). type_words program.types z.type_id) g in
            let wj : type_words program.types y.type_id ≡ local_words program.types local' =
            ap (λ (z : Placed). type_words program.types z.type_id) g' in
            let ks : k ≡ k' = one_holder is_aggregate (λ l. l.word) (local_words program.types) 0
            proc'.aggregate_words proc'.locals k k' i j local local'
            (laid.procs call'.0.proc.0 proc' b').locals
            (subst (λ q. slice_get q.locals k ≡ Some local) procs d) d' f f'
            (omega (arith, li, wi)) (omega (arith, lj, wj)) word in
            c ∙ ap (λ n. mean.Local n k) depths ∙ ap (mean.Local depth') ks ∙ sym c'
        one_object (IsData n var a b c) (IsVariable depth' v' call' proc' a' b' c' d' f') sorted =
            absurd (omega (arith, sorted))
        one_object (IsData n var a b c) (IsCell depth' k' call' a' b' c' d') sorted =
            absurd (omega (arith, sorted))
        one_object (IsData n var a b c) (IsAggregate depth' k' call' proc' local' a' b' c' d' f' g')
            sorted = absurd (omega (arith, sorted))
        one_object (IsVariable depth v call proc a b c d f) (IsData m var' a' b' c') sorted =
            absurd (omega (arith, sorted))
        one_object (IsVariable depth v call proc a b c d f) (IsCell depth' k' call' a' b' c' d')
            sorted = absurd (omega (arith, sorted))
        one_object (IsVariable depth v call proc a b c d f)
            (IsAggregate depth' k' call' proc' local' a' b' c' d' f' g') sorted =
            absurd (omega (arith, sorted))
        one_object (IsCell depth k call a b c d) (IsData m var' a' b' c') sorted =
            absurd (omega (arith, sorted))
        one_object (IsCell depth k call a b c d) (IsVariable depth' v' call' proc' a' b' c' d' f')
            sorted = absurd (omega (arith, sorted))
        one_object (IsCell depth k call a b c d)
            (IsAggregate depth' k' call' proc' local' a' b' c' d' f' g') sorted =
            absurd (omega (arith, sorted))
        one_object (IsAggregate depth k call proc local a b c d f g) (IsData m var' a' b' c')
            sorted =
            absurd (omega (arith, sorted))
        one_object (IsAggregate depth k call proc local a b c d f g)
            (IsVariable depth' v' call' proc' a' b' c' d' f') sorted =
            absurd (omega (arith, sorted))
        one_object (IsAggregate depth k call proc local a b c d f g)
            (IsCell depth' k' call' a' b' c' d') sorted = absurd (omega (arith, sorted))

    -- ---- locations apart

    -- the object of a location, and the part that it is
    pub record Found (l : Location) (x : Placed) : Type 0 where
      pub begin : Placed
      pub part : Part
      pub object_there : object_placed program frames calls l.object ≡ Some begin
      pub part_there : part_along program.types begin.type_id l.path ≡ Some part
      pub is : part_placed begin part ≡ x

    pub found : (l : Location) (x : Placed) → placed program frames calls l ≡ Some x → Found l x
    found l x e =
        let one = bind_some (object_placed program frames calls l.object)
        (λ b. part_along program.types b.type_id l.path >>= λ q. Some (part_placed b q)) x e in
        let two = bind_some (part_along program.types one.0.type_id l.path)
        (λ q. Some (part_placed one.0 q)) x one.2 in
        record {
          begin = one.0;
          part = two.0;
          object_there = one.1;
          part_there = two.1;
          is =
              some_same (part_placed one.0 two.0) x two.2;
        }

    pub type_within : (o : Object) (x : Placed) → Standing o x → x.type_id < length program.types
    type_within o x (IsData n var a b c) = subst (λ (z : Placed). z.type_id < length program.types)
        (sym c) (laid.var_types n var b)
    type_within o x (IsVariable depth v call proc a b c d f) =
        scalar_within program.types laid.types x.type_id d
    type_within o x (IsCell depth k call a b c d) = scalar_within program.types laid.types x.type_id
        d
    type_within o x (IsAggregate depth k call proc local a b c d f g) =
        subst (λ (z : Placed). z.type_id < length program.types) (sym g)
        ((laid.procs call.0.proc.0 proc b).local_types k local d)

    abbrev location_of : Object × List ℕ → Location
    location_of z = record { object = z.0; path = z.1 }

    pub own_spots : (l m : Location) (x y : Placed) → placed program frames calls l ≡ Some x →
        placed program frames calls m ≡ Some y → is_scalar x.type_id ≡ true → is_scalar y.type_id ≡
        true → x.spot ≡ y.spot → l ≡ m
    own_spots l m x y e d s r same =
        let a = found l x e in
        let b = found m y d in
        let f = stands l.object a.begin a.object_there in
        let g = stands m.object b.begin b.object_there in
        let sa : is_scalar a.part.type_id ≡ true = ap (λ (z : Placed). is_scalar z.type_id) a.is
        ∙ s in
        let sb : is_scalar b.part.type_id ≡ true = ap (λ (z : Placed). is_scalar z.type_id) b.is
        ∙ r in
        let la = lies_within program.types laid.types a.begin.type_id l.path a.part
        (type_within l.object a.begin f) a.part_there in
        let lb = lies_within program.types laid.types b.begin.type_id m.path b.part
        (type_within m.object b.begin g) b.part_there in
        let wa = scalar_words program.types laid.types a.part.type_id sa in
        let wb = scalar_words program.types laid.types b.part.type_id sb in
        let spots : beyond a.begin.spot a.part.word ≡ beyond b.begin.spot b.part.word =
        ap (λ (z : Placed). z.spot) a.is ∙ same ∙ sym (ap (λ (z : Placed). z.spot) b.is) in
        let objects : l.object ≡ m.object = one_object l.object m.object a.begin b.begin a.part.word
        b.part.word (omega (arith, la, wa)) (omega (arith, lb, wb)) spots f g
        (sorts l.object m.object a.begin b.begin a.part.word b.part.word (omega (arith, la, wa))
        (omega (arith, lb, wb)) spots f g) in
        let begins : a.begin ≡ b.begin =
        some_same a.begin b.begin
        (sym a.object_there ∙ ap (object_placed program frames calls) objects ∙ b.object_there)
        in
        let words : a.part.word ≡ b.part.word = one_word m.object b.begin a.part.word b.part.word g
        (omega (arith, la, wa, ap (λ (z : Placed). type_words program.types z.type_id) begins))
        (omega (arith, lb, wb)) (sym (ap (λ (z : Placed). beyond z.spot a.part.word) begins)
        ∙ spots) in
        let paths : l.path ≡ m.path = one_path program.types laid.types b.begin.type_id l.path
        m.path a.part b.part (type_within m.object b.begin g)
        (subst (λ (z : Placed). part_along program.types z.type_id l.path ≡ Some a.part) begins
        a.part_there) b.part_there sa sb words in
        let parts : ◌≡◌ {A = Object × List ℕ} (l.object, l.path) (m.object, m.path) =
        ap (λ o. (o, l.path)) objects ∙ ap (λ path. (m.object, path)) paths in
        ap (λ (z : Object × List ℕ). location_of z) parts
      where
        one_word : (o : Object) (x : Placed) (i j : ℕ) → Standing o x →
            i < type_words program.types x.type_id → j < type_words program.types x.type_id →
            beyond x.spot i ≡ beyond x.spot j → i ≡ j
        one_word o x i j (IsData n var a b c) li lj e =
            let w : var.word + i ≡ var.word + j =
            sym (ap (λ (z : Placed). entry (beyond z.spot i)) c) ∙ ap entry e
            ∙ ap (λ (z : Placed). entry (beyond z.spot j)) c in
            omega (arith, w)
        one_word o x i j (IsVariable depth v call proc a b c d f) li lj e =
            omega (arith, li, lj, scalar_words program.types laid.types x.type_id d)
        one_word o x i j (IsCell depth k call a b c d) li lj e =
            omega (arith, li, lj, scalar_words program.types laid.types x.type_id d)
        one_word o x i j (IsAggregate depth k call proc local a b c d f g) li lj e =
            let w : local.word + i ≡ local.word + j =
            sym (ap (λ (z : Placed). entry (beyond z.spot i)) g) ∙ ap entry e
            ∙ ap (λ (z : Placed). entry (beyond z.spot j)) g in
            omega (arith, w)
