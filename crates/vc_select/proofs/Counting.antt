-- The code of an index.
use Rattle.std.proofs.Common.{◌≡◌, ℕ, suc, ◌+◌, ◌*◌, ◌^◌, ◌<◌, ◌≤◌, Bool, true, false, [], ◌∷◌}
use Rattle.std.proofs.Common.{length, Option, Some, None, Result, Ok, Err, refl, sym, ap, ◌∙◌}
use Rattle.std.proofs.Common.{subst, arith}
use Rattle.std.specs.Prelude.{ℤ, pos, negsuc, ◌+ℤ◌, ◌*ℤ◌, ◌&&◌, int_lt, int_le, nat_lt}
use Rattle.std.specs.Prelude.{slice_index_or, if◌then◌else◌}
use Rattle.std.specs.Int.{w32}
use Rattle.std.specs.Int.RustNames.{FitsSigned}
use Rattle.std.proofs.lemmas.Bool.{ltb-true, le-leb}
use Rattle.std.proofs.lemmas.Int.{ints, to_z-of_z, int_wrap_fits}
use Rattle.std.proofs.Common.{length-append}
use Rattle.pra_base.specs.Code as code
use Rattle.pra_base.specs.Code.{kind_of}
use Rattle.pra_base.specs.RunEnd.{Trapped}
use Rattle.pra_base.specs.Operands.{written_by}
use Rattle.pra_base.specs.Words.{word}
use Rattle.pra_base.specs.declared.event.TrapKind.{TrapKind}
use Rattle.pra_base.specs.declared.event.TrapKind.TheVariants.{Index}
use Rattle.pra_base.specs.declared.ids.VarId.{VarId}
use Rattle.pra_base.specs.declared.code.VInstr.{VInstr}
use Rattle.pra_base.specs.declared.code.VInstr.TheVariants.{Check}
use Rattle.pra_base.specs.declared.code.VarKind.TheVariants.{Constant}
use Rattle.pra_base.specs.declared.code.VProc.{VProc}
use Rattle.ob_syntax.specs.Operators.{number, wrapped}
use Rattle.ob_syntax.specs.declared.checked.ROp.TheVariants.{Mul, Add}
use Rattle.ob_syntax.specs.declared.checked.Value.{Value}
use Rattle.ob_syntax.specs.declared.checked.Value.TheVariants.{Number}
use Rattle.ob_mean.specs.Designators.{picked}
use Rattle.vc_code.specs.declared.action.Action.{Action}
use Rattle.vc_code.specs.declared.action.Action.TheVariants.{Nothing, Trap}
use Rattle.vc_code.specs.declared.value.Value.TheVariants.{Num}
use Rattle.vc_code.specs.Value.{is_index}
use Rattle.vc_code.specs.Machine.{Activation, State, here, apply, with_top, ended}
use Rattle.vc_code.specs.Operation.{operate}
use Rattle.vc_code.specs.Selected.{Vars, valued, shape, selected, code_of, at_point, written}
use Rattle.vc_build.specs.Grow.{IsOpen, with_instr, with_variable}
use Rattle.vc_build.specs.Runs.{Codes, runs, Stands, RunsIn, SameBelow, acted, Reaches, Traps}
use Rattle.vc_build.specs.Runs.{Yields}
use Rattle.vc_build.proofs.Growth.{grows_at_again, grows_at_same, put_code, put_open, put_grows}
use Rattle.vc_build.proofs.Growth.{declared_kind, declared_count, declared_grows}
use Rattle.vc_build.proofs.Steps.{same_self, same_on, reaches_after, rests, runs_in_earlier}
use Rattle.vc_build.proofs.Steps.{runs_in_on, performs}
use Rattle.vc_expr.specs.Operators.{HasValue, Gives, Operates}
use Rattle.vc_expr.proofs.Starts.{reads_are}
use Rattle.vc_expr.proofs.Operations.{read_on, same_fewer}
use Rattle.vc_select.specs.Indexes.{HasCount, Counts, Checks, Scales, HasIndex, Sums, Indexes}
use Rattle.vc_select.specs.Targets.{above_index}

-- ---- what a value leads to, where it is known

pub yields_at : {A : Type 0} (w : Codes) (s : State Vars) (Q : A → Activation Vars → Type 0)
    (R : A → Activation Vars → Type 0) (r : Result A TrapKind) →
    Yields w s Q r → ((x : A) (c : Activation Vars) → r ≡ Ok x → Q x c →
    Reaches w (with_top s c) (R x)) → Yields w s R r
yields_at w s Q R (Ok x) y go = reaches_after w s y.call y.steps y.there (R x)
    (go x y.call refl y.good)
yields_at w s Q R (Err trap) y go = y

-- ---- the test

-- an index that is picked lies below the count
pub picked_below : (count k : ℕ) (z : ℤ) → picked count z ≡ Ok k → (k < count) × (z ≡ pos k)
picked_below count k (pos n) e = by_test (nat_lt n count) refl e
  where
    ok_same : (x y : ℕ) → ◌≡◌ {A = Result ℕ TrapKind} (Ok x) (Ok y) → x ≡ y
    ok_same x y d = cc

    by_test : (b : Bool) → nat_lt n count ≡ b → (if b then Ok n else Err Index) ≡ Ok k →
        (k < count) × (pos n ≡ pos k)
    by_test true is d = let same = ok_same n k d in
        (omega (arith, same, ltb-true n count is), ap pos same)
    by_test false is d = cc
picked_below count k (negsuc n) e = cc

module _ (at : ℕ) (old : VProc) (index : VarId) (count : ℕ) (o : IsOpen old at) where
  abbrev i : VInstr
  i = Check index (pos count)

  abbrev new : VProc
  new = with_instr at i old

  module _ (w : Codes) (id n : ℕ) (s : State Vars) (x : Value) (r : RunsIn w id new s)
      (stands : Stands old at s.top) (hx : HasValue w id index.0 s.top x) where
    acts : acted w i s ≡ (if is_index (word (number x)) (pos count) then Some Nothing else Some
        (Trap Index))
    acts = ap (operate (here (shape w.procs w.frames) s) i)
        (reads_are w id s r.proc (index.0 ∷ []) ∙ ap (λ h. h ∷ []) hx.held)

    tested : is_index (word (number x)) (pos count) ≡
        (int_le (pos 0) (number x) && int_lt (number x) (pos count))
    tested = ap (λ z. int_le (pos 0) z && int_lt z (pos count)) (to_z-of_z w32 (number x) hx.fits)

    abbrev behind : Activation Vars
    behind = at_point s.top s.top.home.block (suc s.top.home.index) s.top.home.held

    abbrev Q : ℕ → Activation Vars → Type 0
    Q k c = Stands new at c × SameBelow n s.top c

    does : (a : Action) → acted w i s ≡ Some a → runs w 1 s ≡ apply (selected w.procs w.frames)
        (λ xs. written s.top (written_by i) xs) (Some a) s
    does a is = performs w id at old s o stands i r
        ∙ ap (λ z. apply (selected w.procs w.frames) (λ xs. written s.top (written_by i) xs) z s) is

    passes : acted w i s ≡ Some Nothing → (k : ℕ) → Reaches w s (Q k)
    passes is k = record {
      steps = 1;
      call = behind;
      there = does Nothing is;
      good = (
        record {
          block = stands.block;
          index = omega (
            arith,
            stands.index,
            ap (λ l. length l) (put_code at i old o),
            length-append (code.code_of old at) (i ∷ []),
          );
        },
        record { proc = refl; aggregates = refl; args = refl; room = refl; held = λ v lt. refl },
      );
    }

    fails : acted w i s ≡ Some (Trap Index) → Traps w s Index
    fails is = record {
      steps = 1;
      call = s.top;
      there = does (Trap Index) is ∙ ap (λ c. ended (record s { compared = c }) (Trapped Index))
          r.compared;
    }

    by_number : (z : ℤ) → number x ≡ z → Yields w s Q (picked count z)
    by_number (pos m) e = by_test (nat_lt m count) refl
      where
        test_is : is_index (word (number x)) (pos count) ≡ nat_lt m count
        test_is = tested ∙ ap (λ z. int_le (pos 0) z && int_lt z (pos count)) e
            ∙ ap (λ b. b && nat_lt m count) (le-leb 0 m (omega arith))

        by_test : (b : Bool) → nat_lt m count ≡ b → Yields w s Q (if b then Ok m else Err Index)
        by_test true is = passes
            (acts ∙ ap (λ b. if b then Some Nothing else Some (Trap Index)) (test_is ∙ is)) m
        by_test false is = fails
            (acts ∙ ap (λ b. if b then Some Nothing else Some (Trap Index)) (test_is ∙ is))
    by_number (negsuc m) e =
        fails (acts ∙ ap (λ b. if b then Some Nothing else Some (Trap Index))
        (tested ∙ ap (λ z. int_le (pos 0) z && int_lt z (pos count)) e))

  pub checks : Checks at old new index.0 count
  checks = record {
    grows = put_grows at i old o;
    is_open = put_open at i old o;
    vars = refl;
    means = λ w id n s x r stands hx. by_number w id n s x r stands hx (number x) refl;
  }

-- ---- sums and products that fit

pub fits_count : (n : ℕ) → n < 2 ^ 31 → FitsSigned w32 (pos n)
fits_count n lt = omega (arith, lt, ints)

-- a value that is given is the number that it comes to
counted : (w : Codes) (id : ℕ) (made : VProc) (at v first : ℕ) (s : State Vars) (z : ℤ) (n : ℕ) →
    z ≡ pos n → Reaches w s (Gives w id made at v first s.top (Number z)) →
    Counts w id made at v first s n
counted w id made at v first s z n e y =
    subst (λ m. Reaches w s (Gives w id made at v first s.top (Number m))) e y

-- ---- the factor

module _ (first at : ℕ) (old : VProc) (index : ℕ) (o : IsOpen old at)
    (named : index < length old.vars) where
  pub scales_nothing : Scales first at old old index 1 index
  scales_nothing = record {
    grows = grows_at_same old at;
    is_open = o;
    named = named;
    means = λ w id s k r stands has lt.
        let one : k * 1 ≡ k = omega arith in
        counted w id old at index first s (pos k) (k * 1) (ap pos (sym one))
        (rests w s (Gives w id old at index first s.top (Number (pos k))) r.compared
        (record {
          fits = has.fits;
          holds =
              record { stands = stands; same = same_self first s.top; value = has.held };
        }));
  }

module _ (first at : ℕ) (old new : VProc) (index factor : ℕ) (m v : ℕ) (small : m < 2 ^ 31)
    (is_new : factor ≡ length old.vars) (low : first ≤ length old.vars)
    (p : Operates Mul first at (with_variable (Constant (pos m)) old) new index factor v) where
  abbrev mid : VProc
  mid = with_variable (Constant (pos m)) old

  factor_named : factor < length mid.vars
  factor_named = omega (arith, is_new, declared_count (Constant (pos m)) old)

  has_factor : (w : Codes) (id : ℕ) (s : State Vars) → RunsIn w id new s →
      HasCount w id factor s.top m
  has_factor w id s r =
      let inside : factor < length new.vars =
      omega (arith, factor_named, p.adds.grows.grows.vars) in
      let kind : kind_of (code_of w.procs id) factor ≡ Constant (pos m) =
      r.holds.kinds factor inside ∙ p.adds.grows.grows.kinds factor factor_named
      ∙ ap (kind_of mid) is_new ∙ declared_kind (Constant (pos m)) old in
      record {
        fits = fits_count m small;
        held =
            ap (λ k. valued k (slice_index_or s.top.home.held factor None)) kind;
      }

  pub scales_by : Scales first at old new index m v
  scales_by = record {
    grows = grows_at_again old mid new at (declared_grows (Constant (pos m)) old at) p.adds.grows;
    is_open = p.adds.is_open;
    named = p.adds.named;
    means = λ w id s k r stands has lt.
        counted w id new at v first s (wrapped (pos k *ℤ pos m)) (k * m)
        (int_wrap_fits w32 (pos (k * m)) (fits_count (k * m) lt))
        (p.means w id s (Number (pos k)) (Number (pos m)) r
        (record { block = stands.block; index = stands.index }) has (has_factor w id s r) tt);
  }

-- ---- the sum

module _ (first at : ℕ) (old : VProc) (index : ℕ) (o : IsOpen old at)
    (named : index < length old.vars) where
  pub sums_nothing : Sums first at old old None index index
  sums_nothing = record {
    grows = grows_at_same old at;
    is_open = o;
    named = named;
    means = λ w id s n k r stands none has lt.
        let all : n + k ≡ k = omega (arith, none) in
        counted w id old at index first s (pos k) (n + k) (ap pos (sym all))
        (rests w s (Gives w id old at index first s.top (Number (pos k))) r.compared
        (record {
          fits = has.fits;
          holds =
              record { stands = stands; same = same_self first s.top; value = has.held };
        }));
  }

pub sums_on : (first at : ℕ) (old new : VProc) (so_far : VarId) (index v : ℕ) →
    Operates Add first at old new so_far.0 index v → Sums first at old new (Some so_far) index v
sums_on first at old new so_far index v p = record {
  grows = p.adds.grows;
  is_open = p.adds.is_open;
  named = p.adds.named;
  means = λ w id s n k r stands before has lt.
      counted w id new at v first s (wrapped (pos n +ℤ pos k)) (n + k)
      (int_wrap_fits w32 (pos (n + k)) (fits_count (n + k) lt))
      (p.means w id s (Number (pos n)) (Number (pos k)) r stands before has tt);
}

-- ---- all of it

module _ (first before at : ℕ) (old one two new : VProc) (so_far : Option VarId)
    (index count factor scaled v : ℕ)
    (low : first ≤ before) (below : above_index so_far ≤ before) (within : before ≤ length old.vars)
    (named : index < length old.vars)
    (p : Checks at old one index count) (q : Scales before at one two index factor scaled)
    (r : Sums first at two new so_far scaled v) where
  index_stays : (w : Codes) (id : ℕ) (a c : Activation Vars) (n : ℕ) (i : Option VarId) →
      above_index i ≤ before → SameBelow before a c → HasIndex w id i a n → HasIndex w id i c n
  index_stays w id a c n None le same has = has
  index_stays w id a c n (Some j) le same has =
      record {
        fits = has.fits;
        held = read_on w id before j.0 a c (Some (Num (word (pos n)))) same
            (omega (arith, le)) has.held;
      }

  module _ (w : Codes) (id : ℕ) (s : State Vars) (n : ℕ) (x : Value) (runs_in : RunsIn w id new s)
      (stands : Stands old at s.top) (has_index : HasIndex w id so_far s.top n)
      (hx : HasValue w id index s.top x)
      (bound : (k : ℕ) → k < count → n + k * factor < 2 ^ 31) where
    two_runs : RunsIn w id two s
    two_runs = runs_in_earlier w id two new s r.grows.grows runs_in

    one_runs : RunsIn w id one s
    one_runs = runs_in_earlier w id one two s q.grows.grows two_runs

    abbrev R : ℕ → Activation Vars → Type 0
    R k c = (k < count) × Gives w id new at v first s.top (Number (pos (n + k * factor))) c

    abbrev most : ℕ
    most = length old.vars

    -- a value that is given to a call as it was before
    since : (k : ℕ) (c : Activation Vars) → k < count → SameBelow first s.top c →
        Counts w id new at v first (with_top s c) (n + k * factor) → Reaches w (with_top s c) (R k)
    since k c lt same y = record {
      steps = y.steps;
      call = y.call;
      there = y.there;
      good = (
        lt,
        record {
          fits = y.good.fits;
          holds = record {
            stands = y.good.holds.stands;
            same = same_on first first s.top c y.call
                (omega arith) same y.good.holds.same;
            value = y.good.holds.value;
          };
        },
      );
    }

    summed : (k : ℕ) (c d : Activation Vars) → k < count → SameBelow most s.top c →
        Gives w id two at scaled before c (Number (pos (k * factor))) d →
        Reaches w (with_top s d) (R k)
    summed k c d lt same given =
        let far : SameBelow before s.top d = same_on before before s.top c d (omega arith)
        (same_fewer before most s.top c within same) given.holds.same in
        since k d lt (same_fewer first before s.top d low far)
        (r.means w id (with_top s d) n (k * factor) (runs_in_on w id before new s d far runs_in)
        given.holds.stands
        (index_stays w id s.top d n so_far below far has_index)
        (record { fits = given.fits; held = given.holds.value }) (bound k lt))

    checked : (k : ℕ) (c : Activation Vars) → picked count (number x) ≡ Ok k → Stands one at c ×
        SameBelow most s.top c → Reaches w (with_top s c) (R k)
    checked k c is good =
        let known = picked_below count k (number x) is in
        let value : HasCount w id index c k = record {
          fits = subst (FitsSigned w32) known.1 hx.fits;
          held = read_on w id most index s.top c (Some (Num (word (pos k)))) good.1 named
              (hx.held ∙ ap (λ z. Some (Num (word z))) known.1);
        } in
        let y = q.means w id (with_top s c) k (runs_in_on w id most two s c good.1 two_runs) good.0
        value (omega (arith, bound k known.0)) in
        reaches_after w (with_top s c) y.call y.steps y.there (R k)
        (summed k c y.call known.0 good.1 y.good)

    all : Yields w s R (picked count (number x))
    all = yields_at w s (λ k c. Stands one at c × SameBelow most s.top c) R
        (picked count (number x)) (p.means w id most s x one_runs stands hx) checked

  pub indexes : Indexes first at old new so_far index count factor v
  indexes = record {
    grows = grows_at_again old one new at p.grows (grows_at_again one two new at q.grows r.grows);
    is_open = r.is_open;
    named = r.named;
    means = all;
  }
