-- Turns of loops in counted runs: a loop goes on as if each of its turns were its first, since no
-- run has more turns than units.
use Rattle.std.proofs.Common.{◌≡◌, ◌⊎◌, inl, inr, ℕ, zero, suc, ◌+◌, ◌≤◌, Bool, true, false, List}
use Rattle.std.proofs.Common.{[], ◌∷◌, map, Result, Ok, Err, refl, sym, ap, ◌∙◌, subst, arith}
use Rattle.std.specs.Prelude.{if◌then◌else◌, nat_lt}
use Rattle.std.proofs.lemmas.Bool.{le-ltb}
use Rattle.pra_base.specs.Words.{stack_limit}
use Rattle.pra_base.specs.declared.event.TrapKind.{TrapKind}
use Rattle.pra_base.specs.declared.event.TrapKind.TheVariants.{Stack}
use Rattle.ob_syntax.specs.Operators.{Outcome, is_true}
use Rattle.ob_syntax.specs.declared.checked.Checked.{Checked}
use Rattle.ob_syntax.specs.declared.checked.RStmt.{RStmt, RStmt-F, roll-RStmt, map-RStmt, ind-RStmt}
use Rattle.ob_syntax.specs.declared.checked.RStmt.{fold-roll-RStmt}
use Rattle.ob_syntax.specs.declared.checked.RArm.{RArm, RArm-F, roll-RArm, fold-roll-RArm}
use Rattle.ob_mean.specs.declared.store.Argument.{Argument}
use Rattle.ob_mean.specs.declared.store.LiveCall.{LiveCall}
use Rattle.ob_mean.specs.Expressions.{value}
use Rattle.ob_mean.specs.Statements.{Completion, Normal, Run, arguments, stmt_step}
use Rattle.ob_mean.specs.Program.{body, live_frames, frame_of}
use Rattle.ob_interp.specs.Units.{Counted, Halt, Done, Failed, Stopped, Counting, unit, then_go}
use Rattle.ob_interp.specs.Units.{given, halt, does, while_units, repeat_units, Granted}
use Rattle.ob_interp.specs.Units.{CountedStatement, CountedArm, in_order, on_counted, first_true}
use Rattle.ob_interp.specs.Units.{alone, counted_step, counted_arm_step, counted, counted_arm}
use Rattle.ob_interp.specs.Units.{counted_all, in_call, within_stack, counted_call}

-- ---- one after the other

pub then_after : (h : Halt) (f g : Counting) → then_go (then_go h f) g
    ≡ then_go h (λ c. then_go (f c) g)
then_after (Done c) f g = refl
then_after h f g = refl

pub given_then : {A : Type 0} (x : Result A TrapKind) (c : Counted) (f : A → Halt) (g : Counting) →
    then_go (given x c f) g ≡ given x c (λ a. then_go (f a) g)
given_then (Ok a) c f g = refl
given_then (Err trap) c f g = refl

pub chosen_then : (b : Bool) (x y : Halt) (g : Counting) → then_go (if b then x else y) g
    ≡ (if b then then_go x g else then_go y g)
chosen_then true x y g = refl
chosen_then false x y g = refl

-- what follows the unit of a test
abbrev pub while_turn : ℕ → ℕ → (Counted → Outcome) → Counting → Counting
while_turn n granted test r d = given (test d) d (λ x. if is_true x then then_go (r d)
    (while_units n granted test r) else Done d)

abbrev pub until_turn : ℕ → ℕ → Counting → (Counted → Outcome) → Counting
until_turn n granted r test d = given (test d)
    d (λ x. if is_true x then Done d else repeat_units n granted r test d)

-- ---- units are never taken back

abbrev pub Later : Counted → Halt → Type 0
Later c (Done d) = c.units ≤ d.units
Later c (Failed trap d) = Unit {0}
Later c (Stopped d) = Unit {0}

pub record Adds (r : Counting) : Type 0 where
  pub later : (c : Counted) → Later c (r c)

later_then : (c : Counted) (h : Halt) (r : Counting) → Later c h → Adds r → Later c (then_go h r)
later_then c (Done d) r l a = after c d (r d) l (a.later d)
  where
    after : (c d : Counted) (h : Halt) → c.units ≤ d.units → Later d h → Later c h
    after c d (Done e) l m = omega (arith, l, m)
    after c d (Failed trap e) l m = tt
    after c d (Stopped e) l m = tt
later_then c (Failed trap d) r l a = tt
later_then c (Stopped d) r l a = tt

then_adds : (r q : Counting) → Adds r → Adds q → Adds (λ c. then_go (r c) q)
then_adds r q a b = record { later = λ c. later_then c (r c) q (a.later c) b }

done_adds : Adds Done
done_adds = record { later = λ c. omega arith }

later_given : {A : Type 0} (x : Result A TrapKind) (c : Counted) (f : A → Halt) → ((a : A) →
    Later c (f a)) → Later c (given x c f)
later_given (Ok a) c f h = h a
later_given (Err trap) c f h = tt

later_if : (b : Bool) (c : Counted) (x y : Halt) → Later c x → Later c y →
    Later c (if b then x else y)
later_if true c x y p q = p
later_if false c x y p q = q

begun_later : (c : Counted) (h : Halt) → Later (record c { units = c.units + 1 }) h → Later c h
begun_later c (Done d) l = omega (arith, l)
begun_later c h l = tt

unit_adds : (granted : ℕ) (r : Counting) → Adds r → Adds (unit granted r)
unit_adds granted r a = record {
  later = λ c. later_if (nat_lt c.units granted) c _ (Stopped c)
      (begun_later c (r (record c { units = c.units + 1 }))
      (a.later (record c { units = c.units + 1 }))) tt;
}

halt_later : (units : ℕ) (m : Completion) (c : Counted) → c.units ≡ units → Later c (halt units m)
halt_later units (Normal s) c e = omega (arith, e)
halt_later units m c e = tt

does_adds : (m : Run) → Adds (does m)
does_adds m = record { later = λ c. halt_later c.units (m c.state) c refl }

test_adds : (x : Counted → Outcome) (r q : Counting) → Adds r → Adds q →
    Adds (λ d. given (x d) d (λ v. if is_true v then r d else q d))
test_adds x r q a b = record {
  later = λ c. later_given (x c)
      c _ (λ v. later_if (is_true v) c _ _ (a.later c) (b.later c));
}

while_adds : (n granted : ℕ) (test : Counted → Outcome) (r : Counting) → Adds r →
    Adds (while_units n granted test r)
while_adds zero granted test r a = record { later = λ c. tt }
while_adds (suc n) granted test r a = record {
  later = (unit_adds granted _ (test_adds test (λ d. then_go (r d) (while_units n granted test r))
      Done (then_adds r _ a (while_adds n granted test r a)) done_adds)).later;
}

repeat_adds : (n granted : ℕ) (r : Counting) (test : Counted → Outcome) → Adds r →
    Adds (repeat_units n granted r test)
repeat_adds zero granted r test a = record { later = λ c. tt }
repeat_adds (suc n) granted r test a = record {
  later = (then_adds r _ a (unit_adds granted _ (test_adds test Done (repeat_units n granted r
      test) done_adds (repeat_adds n granted r test a)))).later;
}

-- statements, where calls add too
abbrev pub AddsUnits : Granted → Type 0
AddsUnits a = (proc : ℕ) (args : List Argument) → Adds (a.call proc args)

pub record Fair (f : CountedStatement) : Type 0 where
  pub at : (a : Granted) → AddsUnits a → Adds (f a)

call_adds : (x : Counted → Result (List Argument) TrapKind) (call : List Argument → Counting) →
    ((args : List Argument) → Adds (call args)) → Adds (λ c. given (x c) c (λ xs. call xs c))
call_adds x call h = record { later = λ c. later_given (x c) c _ (λ xs. (h xs).later c) }

module _ (program : Checked) where
  pub counted_roll : (y : RStmt-F RStmt RArm) → counted program (roll-RStmt y)
      ≡ counted_step program (map-RStmt RStmt RArm CountedStatement CountedArm (counted program)
      (counted_arm program) y)
  counted_roll = fold-roll-RStmt CountedStatement CountedArm (counted_step program)
      (counted_arm_step program)

  pub counted_arm_roll : (y : RArm-F RStmt RArm) → counted_arm program (roll-RArm y)
      ≡ (value program y.test, map (counted program) y.body)
  counted_arm_roll = fold-roll-RArm CountedStatement CountedArm (counted_step program)
      (counted_arm_step program)

  abbrev IsFair : RStmt → Type 0
  IsFair t = Fair (counted program t)

  abbrev IsFairArm : RArm → Type 0
  IsFairArm arm = Fair (in_order (counted_arm program arm).1)

  in_order_adds : (ts : List ((t : RStmt) × IsFair t)) (a : Granted) → AddsUnits a →
      Adds (in_order (map (counted program) (map (λ e. e.0) ts)) a)
  in_order_adds [] a h = done_adds
  in_order_adds (t ∷ ts) a h =
      then_adds (counted program t.0 a) _ (t.1.at a h) (in_order_adds ts a h)

  first_adds : (arms : List ((t : RArm) × IsFairArm t)) (other : List ((t : RStmt) × IsFair t))
      (a : Granted) → AddsUnits a →
      Adds (first_true (map (counted_arm program) (map (λ e. e.0) arms))
      (map (counted program) (map (λ e. e.0) other)) a)
  first_adds [] other a h = in_order_adds other a h
  first_adds (arm ∷ arms) other a h =
      test_adds (on_counted (counted_arm program arm.0).0 a) _ _ (arm.1.at a h)
      (first_adds arms other a h)

  abbrev WithFair : Type 0
  WithFair = RStmt-F ((t : RStmt) × IsFair t) ((t : RArm) × IsFairArm t)

  abbrev plain : WithFair → RStmt-F RStmt RArm
  plain = map-RStmt ((t : RStmt) × IsFair t) ((t : RArm) × IsFairArm t) RStmt RArm (λ e. e.0)
      (λ e. e.0)

  stmt_adds : (y : WithFair) (a : Granted) → AddsUnits a → Adds (counted_step program
      (map-RStmt RStmt RArm CountedStatement CountedArm (counted program) (counted_arm program)
      (plain y)) a)
  stmt_adds (RStmt-F.If arms other) a h =
      unit_adds a.granted _ (first_adds arms other a h)
  stmt_adds (RStmt-F.While test ts) a h =
      while_adds a.granted a.granted _ _ (in_order_adds ts a h)
  stmt_adds (RStmt-F.Repeat ts test) a h =
      repeat_adds a.granted a.granted _ _ (in_order_adds ts a h)
  stmt_adds (RStmt-F.Call proc args) a h =
      unit_adds a.granted _ (call_adds (λ c. arguments program a.calls c.state.store args)
      (a.call proc.0) (h proc.0))
  stmt_adds RStmt-F.WriteLine a h =
      unit_adds a.granted _ (does_adds (stmt_step program RStmt-F.WriteLine (alone a.calls)))
  stmt_adds y a h = unit_adds a.granted _ (does_adds _)

  arm_fair : (y : RArm-F ((t : RStmt) × IsFair t) ((t : RArm) × IsFairArm t)) →
      IsFairArm (roll-RArm (record { test = y.test; body = map (λ e. e.0) y.body }))
  arm_fair y =
      let here : RArm-F RStmt RArm = record { test = y.test; body = map (λ e. e.0) y.body } in
      subst (λ (z : CountedArm). Fair (in_order z.1)) (sym (counted_arm_roll here))
      (record { at = in_order_adds y.body })

  pub fair : (t : RStmt) → IsFair t
  fair = ind-RStmt IsFair IsFairArm
      (λ x y is. subst (λ z. IsFair (roll-RStmt z)) is
      (subst Fair (sym (counted_roll (plain y))) (record { at = stmt_adds y })))
      (λ x y is. subst (λ z. IsFairArm (roll-RArm z)) is (arm_fair y))

  pub all_adds : (ts : List RStmt) (a : Granted) → AddsUnits a → Adds (counted_all program ts a)
  all_adds [] a h = done_adds
  all_adds (t ∷ ts) a h = then_adds (counted program t a) (counted_all program ts a)
      ((fair t).at a h) (all_adds ts a h)

  stack_adds : (frames : List ℕ) (calls : List LiveCall) (proc : ℕ) (r : Counting) → Adds r →
      Adds (within_stack frames calls proc r)
  stack_adds frames calls proc r a = record {
    later = λ c. later_if (nat_lt stack_limit
        (live_frames frames calls + frame_of frames proc)) c (Failed Stack c) (r c) tt (a.later c);
  }

  enters_adds : (depth : ℕ) (args : List Argument) (r : Counting) → Adds r →
      Adds (λ c. r (in_call depth args c))
  enters_adds depth args r a = record { later = λ c. a.later (in_call depth args c) }

  pub calls_add : (frames : List ℕ) (granted deeper : ℕ) (calls : List LiveCall) (proc : ℕ)
      (args : List Argument) → Adds (counted_call program frames granted deeper calls proc args)
  calls_add frames granted zero calls proc args = record {
    later = (stack_adds frames calls proc
        Stopped (record { later = λ c. tt })).later;
  }
  calls_add frames granted (suc deeper) calls proc args = record {
    later = (stack_adds frames calls proc _ (enters_adds _ args _ (all_adds (body program proc) _
        (calls_add frames granted deeper _)))).later;
  }

-- ---- where no unit is left

unit_idle : (granted : ℕ) (h : Halt) (c : Counted) → granted ≤ c.units →
    (if nat_lt c.units granted then h else Stopped c) ≡ Stopped c
unit_idle granted h c le = ap (λ b. if b then h else Stopped c) (le-ltb c.units granted le)

pub record Idles (f : CountedStatement) : Type 0 where
  pub at : (a : Granted) (c : Counted) → a.granted ≤ c.units → f a c ≡ Stopped c

abbrev pub Waits : Counted → Halt → Type 0
Waits c h = (h ≡ Done c) ⊎ (h ≡ Stopped c)

while_idle : (n granted : ℕ) (test : Counted → Outcome) (r : Counting) (c : Counted) →
    granted ≤ c.units → while_units n granted test r c ≡ Stopped c
while_idle zero granted test r c le = refl
while_idle (suc n) granted test r c le = unit_idle granted _ c le

waits_then : (c : Counted) (h : Halt) (k : Counting) → Waits c h → k c ≡ Stopped c → then_go h k
    ≡ Stopped c
waits_then c h k (inl e) s = ap (λ x. then_go x k) e ∙ s
waits_then c h k (inr e) s = ap (λ x. then_go x k) e

repeat_idle : (n granted : ℕ) (r : Counting) (test : Counted → Outcome) (c : Counted) →
    granted ≤ c.units → Waits c (r c) → repeat_units n granted r test c ≡ Stopped c
repeat_idle zero granted r test c le w = refl
repeat_idle (suc n) granted r test c le w = waits_then c (r c)
    (unit granted (until_turn n granted r test)) w (unit_idle granted _ c le)

module _ (program : Checked) where
  abbrev IsIdle : RStmt → Type 0
  IsIdle t = Idles (counted program t)

  abbrev AnyArm : RArm → Type 0
  AnyArm arm = Unit {0}

  in_order_idle : (ts : List ((t : RStmt) × IsIdle t)) (a : Granted) (c : Counted) →
      a.granted ≤ c.units → Waits c (in_order (map (counted program) (map (λ e. e.0) ts)) a c)
  in_order_idle [] a c le = inl refl
  in_order_idle (t ∷ ts) a c le =
      inr (ap (λ h. then_go h (in_order (map (counted program) (map (λ e. e.0) ts)) a))
      (t.1.at a c le))

  abbrev plain_idle : RStmt-F ((t : RStmt) × IsIdle t) ((t : RArm) × AnyArm t) → RStmt-F RStmt RArm
  plain_idle = map-RStmt ((t : RStmt) × IsIdle t) ((t : RArm) × AnyArm t) RStmt RArm (λ e. e.0)
      (λ e. e.0)

  stmt_idle : (y : RStmt-F ((t : RStmt) × IsIdle t) ((t : RArm) × AnyArm t)) (a : Granted)
      (c : Counted) → a.granted ≤ c.units → counted_step program
      (map-RStmt RStmt RArm CountedStatement CountedArm (counted program) (counted_arm program)
      (plain_idle y)) a c ≡ Stopped c
  stmt_idle (RStmt-F.While test ts) a c le = while_idle a.granted a.granted _ _ c le
  stmt_idle (RStmt-F.Repeat ts test) a c le =
      repeat_idle a.granted a.granted _ _ c le (in_order_idle ts a c le)
  stmt_idle y a c le = unit_idle a.granted _ c le

  pub idle : (t : RStmt) → IsIdle t
  idle = ind-RStmt IsIdle AnyArm
      (λ x y is. subst (λ z. IsIdle (roll-RStmt z)) is
      (subst Idles (sym (counted_roll program (plain_idle y))) (record { at = stmt_idle y })))
      (λ x y is. tt)

  pub all_wait : (ts : List RStmt) (a : Granted) (c : Counted) → a.granted ≤ c.units →
      Waits c (counted_all program ts a c)
  all_wait [] a c le = inl refl
  all_wait (t ∷ ts) a c le = inr (ap (λ h. then_go h (counted_all program ts a))
      ((idle t).at a c le))

-- ---- a loop of more turns than units are left

same_given : {A : Type 0} (x : Result A TrapKind) (c : Counted) (f g : A → Halt) → ((a : A) → f a
    ≡ g a) → given x c f ≡ given x c g
same_given (Ok a) c f g h = h a
same_given (Err trap) c f g h = refl

same_unit : (granted : ℕ) (r q : Counting) (c : Counted) → r (record c { units = c.units + 1 })
    ≡ q (record c { units = c.units + 1 }) → unit granted r c ≡ unit granted q c
same_unit granted r q c e = ap (λ h. if nat_lt c.units granted then h else Stopped c) e

same_then : (c : Counted) (h : Halt) (k q : Counting) → Later c h → ((d : Counted) →
    c.units ≤ d.units → k d ≡ q d) → then_go h k ≡ then_go h q
same_then c (Done d) k q l e = e d l
same_then c h k q l e = refl

pub while_more : (n granted : ℕ) (test : Counted → Outcome) (r : Counting) → Adds r →
    (c : Counted) → granted ≤ c.units + n → while_units n granted test r c
    ≡ while_units (suc n) granted test r c
while_more zero granted test r a c le =
    sym (unit_idle granted _ c (omega (arith, le)))
while_more (suc n) granted test r a c le =
    let d : Counted = record c { units = c.units + 1 } in
    same_unit granted (while_turn n granted test r) (while_turn (suc n) granted test r)
    c (same_given (test d) d _ _ (λ x.
    ap (λ h. if is_true x then h else Done d)
    (same_then d (r d) (while_units n granted test r) (while_units (suc n) granted test r)
    (a.later d) (λ e l. while_more n granted test r a e (omega (arith, le, l))))))

pub repeat_more : (n granted : ℕ) (r : Counting) (test : Counted → Outcome) → Adds r →
    ((c : Counted) → granted ≤ c.units → Waits c (r c)) → (c : Counted) → granted ≤ c.units + n →
    repeat_units n granted r test c ≡ repeat_units (suc n) granted r test c
repeat_more zero granted r test a w c le = sym (waits_then c (r c)
    (unit granted (until_turn zero granted r test)) (w c (omega (arith, le)))
    (unit_idle granted _ c (omega (arith, le))))
repeat_more (suc n) granted r test a w c le =
    same_then c (r c) (unit granted (until_turn n granted r test))
    (unit granted (until_turn (suc n) granted r test)) (a.later c) (λ d l.
    let e : Counted = record d { units = d.units + 1 } in
    same_unit granted (until_turn n granted r test) (until_turn (suc n) granted r test)
    d (same_given (test e) e _ _ (λ x.
    ap (λ h. if is_true x then Done e else h)
    (repeat_more n granted r test a w e (omega (arith, le, l))))))
