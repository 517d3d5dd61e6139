-- What is live on one side of an instruction or a jump is live on the other.
use Rattle.std.proofs.Common.{◌≡◌, ℕ, suc, ◌+◌, ◌*◌, ◌/◌, ◌%◌, ◌<◌, ◌⊎◌, inl, inr, ⊎_elim, Bool}
use Rattle.std.proofs.Common.{true, false, not, ◌&&◌, nat_eq, nat_lt, length, Some, None, refl, sym}
use Rattle.std.proofs.Common.{ap, subst, ◌∙◌, arith}
use Rattle.std.specs.List.{list_any}
use Rattle.std.proofs.lemmas.Bool.{and_parts}
use Rattle.std.proofs.lemmas.Bool.Decides.{nat_tests}
use Rattle.pra_list.proofs.Truths.{true_false, or_left, or_cases}
use Rattle.pra_base.specs.declared.code.VarKind.{VarKind}
use Rattle.pra_base.specs.declared.code.VarKind.TheVariants.{Param, Plain, Constant}
use Rattle.pra_base.specs.declared.code.VInstr.{VInstr}
use Rattle.pra_base.specs.declared.code.VProc.{VProc}
use Rattle.pra_base.specs.Code.{kind_of, instr_at, end_of, IsTarget}
use Rattle.pra_base.specs.Operands.{writes, is_role_of}
use Rattle.pra_base.specs.Live.{Live, LiveAs, ReadBeforeWritten, Point, point_at, passes}
use Rattle.pra_base.specs.Live.Goes.{over, leaves}
use Rattle.pra_base.specs.Live.Path.{then}
use Rattle.net_form.specs.Tables.{all_tables}
use Rattle.net_form.specs.Strands.{Lives, IsLive, layer_count, is_within, is_before, is_present}
use Rattle.net_form.specs.Strands.{roles_at}

-- ---- layers

half_odd : (k : ℕ) → (2 * k + 1) / 2 ≡ k
half_odd k = omega arith

half_even : (k : ℕ) → (2 * k) / 2 ≡ k
half_even k = omega arith

half_behind : (k : ℕ) → (2 * k + 2) / 2 ≡ suc k
half_behind k = omega arith

pub before_odd : (k : ℕ) → is_before (2 * k + 1) ≡ true
before_odd k = let e : (2 * k + 1) % 2 ≡ 1 = omega arith in ap (λ n. nat_eq n 1) e

pub after_even : (k : ℕ) → is_before (2 * k + 2) ≡ false
after_even k = let e : (2 * k + 2) % 2 ≡ 0 = omega arith in ap (λ n. nat_eq n 1) e

-- ---- kinds

abbrev pub changes : VarKind → Bool
changes (Constant n) = false
changes Plain = true
changes (Param i) = true

opened : (kind : VarKind) (code : VProc) (v b l : ℕ) → changes kind ≡ true →
    LiveAs kind code v b l → ReadBeforeWritten code v (point_at b l)
opened (Constant n) code v b l c h = cc
opened Plain code v b l c h = h
opened (Param i) code v b l c h = h

closed : (kind : VarKind) (code : VProc) (v b l : ℕ) → changes kind ≡ true →
    ReadBeforeWritten code v (point_at b l) → LiveAs kind code v b l
closed (Constant n) code v b l c h = cc
closed Plain code v b l c h = h
closed (Param i) code v b l c h = h

-- ---- over what control goes

abbrev at : ℕ → ℕ → Point
at b k = record { block = b; index = k }

pub over_instr : (code : VProc) (v b k : ℕ) (i : VInstr) → instr_at code b k ≡ Some i → writes i v ≡
    false → ReadBeforeWritten code v (at b (suc k)) → ReadBeforeWritten code v (at b k)
over_instr code v b k i here free rest =
    record {
      to = rest.to;
      path = then (ap (passes (λ j. writes j v)) here ∙ free)
          (over here) rest.path;
      read = rest.read;
    }

over_end : (code : VProc) (v b k t : ℕ) → instr_at code b k ≡ None → IsTarget (end_of code b) t →
    ReadBeforeWritten code v (at t 0) → ReadBeforeWritten code v (at b k)
over_end code v b k t here target rest =
    record {
      to = rest.to;
      path = then (ap (passes (λ j. writes j v)) here) (leaves here target)
          rest.path;
      read = rest.read;
    }

-- before an instruction that does not write it, a variable is live that is live behind it
live_over : (kind : VarKind) (code : VProc) (v b k : ℕ) (i : VInstr) → instr_at code b k ≡ Some i →
    writes i v ≡ false → LiveAs kind code v b (2 * k + 2) → LiveAs kind code v b (2 * k + 1)
live_over (Constant n) code v b k i here free h =
    let from = h.from in
    let to = h.to in
    record {
      first = h.first;
      last = h.last;
      reads_first = h.reads_first;
      reads_last = h.reads_last;
      from = omega (arith, from);
      to = omega (arith, to);
    }
live_over Plain code v b k i here free h =
    subst (λ n. ReadBeforeWritten code v (at b n)) (sym (half_odd k))
    (over_instr code v b k i here free
    (subst (λ n. ReadBeforeWritten code v (at b n)) (half_behind k) h))
live_over (Param j) code v b k i here free h =
    subst (λ n. ReadBeforeWritten code v (at b n)) (sym (half_odd k))
    (over_instr code v b k i here free
    (subst (λ n. ReadBeforeWritten code v (at b n)) (half_behind k) h))

-- both layers before an instruction stand at one point
live_same : (kind : VarKind) (code : VProc) (v b k : ℕ) → changes kind ≡ true →
    LiveAs kind code v b (2 * k + 1) → LiveAs kind code v b (2 * k)
live_same (Constant n) code v b k c h = cc
live_same Plain code v b k c h = subst (λ n. ReadBeforeWritten code v (at b n))
    (half_odd k ∙ sym (half_even k)) h
live_same (Param i) code v b k c h = subst (λ n. ReadBeforeWritten code v (at b n))
    (half_odd k ∙ sym (half_even k)) h

-- at the exit of a block that is live which is live at the entry of a block that follows
live_leaves : (kind : VarKind) (code : VProc) (v b n t : ℕ) → instr_at code b n ≡ None →
    IsTarget (end_of code b) t → LiveAs kind code v t 0 → LiveAs kind code v b (2 * n + 1)
live_leaves (Constant m) code v b n t here target h = let from = h.from in
    absurd (omega (arith, from))
live_leaves Plain code v b n t here target h = subst (λ k. ReadBeforeWritten code v (at b k))
    (sym (half_odd n)) (over_end code v b n t here target
    (subst (λ k. ReadBeforeWritten code v (at t k)) (let e : 0 / 2 ≡ 0 = omega arith in e) h))
live_leaves (Param i) code v b n t here target h = subst (λ k. ReadBeforeWritten code v (at b k))
    (sym (half_odd n)) (over_end code v b n t here target
    (subst (λ k. ReadBeforeWritten code v (at t k)) (let e : 0 / 2 ≡ 0 = omega arith in e) h))

-- ---- what is present

and_false : (a b : Bool) → a ≡ true → (not a && b) ≡ false
and_false true b e = refl
and_false false b e = cc

module _ (code : VProc) (live : Lives) (is : IsLive code live) where
  abbrev present : ℕ → ℕ → ℕ → Bool
  present v b l = is_present all_tables code live v b l

  -- the variable has a role there, after the instruction
  abbrev new : ℕ → ℕ → ℕ → Bool
  new v b l = list_any (is_role_of v) (roles_at all_tables code b l)

  within : (v b l : ℕ) → v < length code.vars → b < length code.blocks → l < layer_count code b →
      is_within code v b l ≡ true
  within v b l f g h =
      let x : nat_lt v (length code.vars) ≡ true = grind (arith, nat_tests) in
      let y : nat_lt b (length code.blocks) ≡ true = grind (arith, nat_tests) in
      let z : nat_lt l (layer_count code b) ≡ true = grind (arith, nat_tests) in
      rw (x, y, z) refl

  is_there : (v b l : ℕ) → v < length code.vars → b < length code.blocks → l < layer_count code b →
      Live code v b l → present v b l ≡ true
  is_there v b l f g h lives = or_left (live v b l) _ ((is v b l).1 (within v b l f g h, lives))

  -- before an instruction a variable is present where it is live
  pub lives_before : (v b k : ℕ) → present v b (2 * k + 1) ≡ true → Live code v b (2 * k + 1)
  lives_before v b k e =
      ⊎_elim
      (λ (l : live v b (2 * k + 1) ≡ true). ((is v b (2 * k + 1)).0 l).1)
      (λ (n : (not (is_before (2 * k + 1)) && new v b (2 * k + 1)) ≡ true).
      absurd (true_false _ n (and_false (is_before (2 * k + 1)) (new v b (2 * k + 1))
      (before_odd k))))
      (or_cases (live v b (2 * k + 1)) _ e)

  -- behind one where it is live or was written
  pub lives_behind : (v b l : ℕ) → present v b l ≡ true → Live code v b l ⊎ (new v b l ≡ true)
  lives_behind v b l e =
      ⊎_elim
      (λ (yes : live v b l ≡ true). inl ((is v b l).0 yes).1)
      (λ (n : (not (is_before l) && new v b l) ≡ true). inr
      (and_parts (not (is_before l)) (new v b l) n).1)
      (or_cases (live v b l) _ e)

  -- what comes up only before an instruction is a constant
  pub begins_constant : (v b k : ℕ) → v < length code.vars → b < length code.blocks → 2 * k + 1 <
      layer_count code b → present v b (2 * k + 1) ≡ true → present v b (2 * k) ≡ false →
      changes (kind_of code v) ≡ false
  begins_constant v b k f g h now before = by_kind (changes (kind_of code v)) refl
    where
      by_kind : (c : Bool) → changes (kind_of code v) ≡ c → c ≡ false
      by_kind false e = refl
      by_kind true e =
          let lives = live_same (kind_of code v) code v b k e (lives_before v b k now) in
          absurd (true_false (present v b (2 * k))
          (is_there v b (2 * k) f g (omega (arith, h)) lives) before)

  -- what is not written was there before the instruction
  pub was_present : (v b k : ℕ) (i : VInstr) → v < length code.vars → b < length code.blocks →
      2 * k + 2 < layer_count code b → instr_at code b k ≡ Some i → writes i v ≡ false →
      new v b (2 * k + 2) ≡ false → present v b (2 * k + 2) ≡ true → present v b (2 * k + 1) ≡ true
  was_present v b k i f g h here free old now =
      ⊎_elim
      (λ (lives : Live code v b (2 * k + 2)). is_there v b (2 * k + 1) f g (omega (arith, h))
      (live_over (kind_of code v) code v b k i here free lives))
      (λ (n : new v b (2 * k + 2) ≡ true). absurd (true_false (new v b (2 * k + 2)) n old))
      (lives_behind v b (2 * k + 2) now)

  -- what is present at an entry is present at the exits before it
  pub present_at_exit : (v b n t : ℕ) → v < length code.vars → b < length code.blocks → 2 * n + 1 <
      layer_count code b → instr_at code b n ≡ None → IsTarget (end_of code b) t → present v t 0 ≡
      true → present v b (2 * n + 1) ≡ true
  present_at_exit v b n t f g h here target now =
      ⊎_elim
      (λ (lives : Live code v t 0). is_there v b (2 * n + 1) f g h
      (live_leaves (kind_of code v) code v b n t here target lives))
      (λ (e : new v t 0 ≡ true). absurd (true_false false e refl))
      (lives_behind v t 0 now)

  pub lives_at_entry : (v b : ℕ) → present v b 0 ≡ true → Live code v b 0
  lives_at_entry v b now =
      ⊎_elim
      (λ (lives : Live code v b 0). lives)
      (λ (e : new v b 0 ≡ true). absurd (true_false false e refl))
      (lives_behind v b 0 now)
