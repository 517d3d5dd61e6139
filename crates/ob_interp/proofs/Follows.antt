-- A run that counts units, beside the meaning with as many turns and calls.
use Rattle.std.proofs.Common.{◌≡◌, ◌≢◌, ℕ, zero, suc, ◌+◌, ℤ, Bool, true, false, List, [], ◌∷◌}
use Rattle.std.proofs.Common.{◌++◌, map, None, Result, Ok, Err, refl, sym, ap, ◌∙◌, subst, arith}
use Rattle.std.proofs.Common.{append_assoc, append-nil}
use Rattle.std.specs.Prelude.{if◌then◌else◌, nat_lt}
use Rattle.pra_base.specs.Agreement.{Progress, IsPrefix}
use Rattle.pra_base.specs.RunEnd.{RunEnd}
use Rattle.pra_base.specs.Words.{stack_limit}
use Rattle.pra_base.specs.declared.event.OutEvent.{OutEvent}
use Rattle.pra_base.specs.declared.event.OutEvent.TheVariants as event
use Rattle.pra_base.specs.declared.event.TrapKind.{TrapKind}
use Rattle.ob_syntax.specs.Operators.{Outcome, is_true, number}
use Rattle.ob_syntax.specs.declared.checked.Checked.{Checked}
use Rattle.ob_syntax.specs.declared.checked.RVar.{RVar}
use Rattle.ob_syntax.specs.declared.checked.RExpr.{RExpr}
use Rattle.ob_syntax.specs.declared.checked.RStmt.{RStmt, RStmt-F, roll-RStmt, map-RStmt, ind-RStmt}
use Rattle.ob_syntax.specs.declared.checked.RArm.{RArm, RArm-F, roll-RArm}
use Rattle.ob_mean.specs.declared.store.Argument.{Argument}
use Rattle.ob_mean.specs.declared.store.Location.{Location}
use Rattle.ob_mean.specs.declared.store.LiveCall.{LiveCall}
use Rattle.ob_mean.specs.Designators.{depth}
use Rattle.ob_mean.specs.Expressions.{Evaluation, value, location}
use Rattle.ob_mean.specs.Statements.{State, Completion, Normal, Trapped, Going, Run, then_do, with}
use Rattle.ob_mean.specs.Statements.{store_at, written, read_to, while_turns, repeat_turns, Around}
use Rattle.ob_mean.specs.Statements.{Execution, Arm, in_turn, on_state, chosen, arguments}
use Rattle.ob_mean.specs.Statements.{stmt_step, arm_of, exec, exec_all}
use Rattle.ob_mean.specs.Program.{on_stack, live_frames, frame_of, call_with, entered, body, around}
use Rattle.ob_mean.specs.Program.{only_body, start, progress_of, completion, mean}
use Rattle.ob_mean.proofs.Budgets.{After}
use Rattle.ob_mean.proofs.Equations.{exec_roll, arm_of_roll}
use Rattle.ob_interp.proofs.Turns.{counted_roll, counted_arm_roll}
use Rattle.ob_interp.specs.Units.{Counted, Halt, Done, Failed, Stopped, Counting, unit, then_go}
use Rattle.ob_interp.specs.Units.{given, halt, does, while_units, repeat_units, Granted}
use Rattle.ob_interp.specs.Units.{CountedStatement, CountedArm, in_order, on_counted, first_true}
use Rattle.ob_interp.specs.Units.{counted_step, counted, counted_arm, counted_all}
use Rattle.ob_interp.specs.Units.{in_call, within_stack, granted_around, units_run, progress_in}

abbrev done : State → Progress OutEvent RunEnd
done s = progress_of (Going s)

-- ---- the meaning only adds

same_prefix : (p : Progress OutEvent RunEnd) → IsPrefix p p
same_prefix p = ([], sym (append-nil p.events), omega arith)

prefix_trans : (a b c : Progress OutEvent RunEnd) → IsPrefix a b → IsPrefix b c → IsPrefix a c
prefix_trans a b c p q = (
  p.0 ++ q.0,
  q.1 ∙ ap (λ l. l ++ q.0) p.1
      ∙ append_assoc a.events p.0 q.0,
  omega (arith, p.2, q.2),
)

at_once : (s : State) → After s (Normal s)
at_once s = record { prefix = same_prefix (done s) }

trapped_at_once : (trap : TrapKind) (s : State) → After s (Trapped trap s)
trapped_at_once trap s = record { prefix = same_prefix (done s) }

going_at_once : (s : State) → After s (Going s)
going_at_once s = record { prefix = same_prefix (done s) }

after_then : (s : State) (m : Completion) (k : Run) → After s m → ((t : State) → After t (k t)) →
    After s (then_do m k)
after_then s (Normal t) k h g = record {
  prefix = prefix_trans (done s) (done t) (progress_of (k t))
      h.prefix (g t).prefix;
}
after_then s m k h g = h

with_after : {A : Type 0} (x : Result A TrapKind) (s : State) (k : A → Completion) → ((a : A) →
    After s (k a)) → After s (with x s k)
with_after (Ok a) s k h = h a
with_after (Err trap) s k h = trapped_at_once trap s

either_after : (b : Bool) (s : State) (m n : Completion) → After s m → After s n →
    After s (if b then m else n)
either_after true s m n p q = p
either_after false s m n p q = q

-- ---- halts and completions

abbrev pub Meets : Halt → Completion → Type 0
Meets (Done c) m = m ≡ Normal c.state
Meets (Failed trap c) m = m ≡ Trapped trap c.state
Meets (Stopped c) m = After c.state m

-- a counted run does what the other does, or stops before its end
pub record Beside (r : Counting) (m : Run) : Type 0 where
  pub grows : (s : State) → After s (m s)
  pub meets : (c : Counted) → Meets (r c) (m c.state)

then_meets : (h : Halt) (m : Completion) (r : Counting) (k : Run) → Meets h m → Beside r k →
    Meets (then_go h r) (then_do m k)
then_meets (Done c) m r k h b = subst (λ z. Meets (r c) (then_do z k)) (sym h) (b.meets c)
then_meets (Failed trap c) m r k h b = ap (λ z. then_do z k) h
then_meets (Stopped c) m r k h b = after_then c.state m k h b.grows

then_beside : (r q : Counting) (m k : Run) → Beside r m → Beside q k →
    Beside (λ c. then_go (r c) q) (λ s. then_do (m s) k)
then_beside r q m k b d = record {
  grows = λ s. after_then s (m s) k (b.grows s) d.grows;
  meets = λ c. then_meets (r c) (m c.state) q k (b.meets c) d;
}

given_meets : {A : Type 0} (x : Result A TrapKind) (c : Counted) (h : A → Halt) (m : A →
    Completion) → ((a : A) → Meets (h a) (m a)) → Meets (given x c h) (with x c.state m)
given_meets (Ok a) c h m p = p a
given_meets (Err trap) c h m p = refl

either_meets : (b : Bool) (h g : Halt) (m n : Completion) → Meets h m → Meets g n →
    Meets (if b then h else g) (if b then m else n)
either_meets true h g m n p q = p
either_meets false h g m n p q = q

unit_meets : (b : Bool) (h : Halt) (c : Counted) (m : Completion) → Meets h m → After c.state m →
    Meets (if b then h else Stopped c) m
unit_meets true h c m p g = p
unit_meets false h c m p g = g

-- a run that begins with a unit
unit_beside : (granted : ℕ) (r : Counting) (m : Run) → Beside r m → Beside (unit granted r) m
unit_beside granted r m b = record {
  grows = b.grows;
  meets = λ c. unit_meets (nat_lt c.units granted) _ c (m c.state)
      (b.meets (record c { units = c.units + 1 })) (b.grows c.state);
}

halt_meets : (units : ℕ) (m : Completion) → Meets (halt units m) m
halt_meets units (Normal s) = refl
halt_meets units (Trapped trap s) = refl
halt_meets units (Going s) = going_at_once s

does_beside : (m : Run) → ((s : State) → After s (m s)) → Beside (does m) m
does_beside m g = record { grows = g; meets = λ c. halt_meets c.units (m c.state) }

-- a choice by what was evaluated
choice_beside : (x : Counted → Outcome) (y : State → Outcome) → ((c : Counted) → x c ≡ y c.state) →
    (r q : Counting) (m k : Run) → Beside r m → Beside q k →
    Beside (λ c. given (x c) c (λ v. if is_true v then r c else q c)) (λ s. with (y s)
    s (λ v. if is_true v then m s else k s))
choice_beside x y same r q m k b d = record {
  grows = λ s. with_after (y s) s _ (λ v. either_after (is_true v) s _ _ (b.grows s) (d.grows s));
  meets = λ c. rw (same c) (given_meets (y c.state)
      c _ _ (λ v. either_meets (is_true v) _ _ _ _ (b.meets c) (d.meets c)));
}

done_beside : Beside Done Normal
done_beside = record { grows = at_once; meets = λ c. refl }

stops_beside : Beside Stopped Going
stops_beside = record { grows = going_at_once; meets = λ c. going_at_once c.state }

-- ---- statements

-- the same live calls, as many turns as units are granted, and calls that do what they mean
pub record Near (a : Granted) (b : Around) : Type 0 where
  pub turns : b.turns ≡ a.granted
  pub calls : b.calls ≡ a.calls
  pub call : (proc : ℕ) (args : List Argument) → Beside (a.call proc args) (b.call proc args)

pub record Fits (f : CountedStatement) (e : Execution) : Type 0 where
  pub at : (a : Granted) (b : Around) → Near a b → Beside (f a) (e b)

same_test : (x : Evaluation) (a : Granted) (b : Around) → Near a b → (c : Counted) →
    on_counted x a c ≡ on_state x b c.state
same_test x a b w c = ap (λ calls. x calls c.state.store) (sym w.calls)

-- ---- loops

module _ (x : Evaluation) (a : Granted) (b : Around) (w : Near a b) (r : Counting) (m : Run)
    (beside : Beside r m) where
  while_beside : (n : ℕ) → Beside (while_units n a.granted (on_counted x a) r)
      (while_turns n (on_state x b) m)
  while_beside zero = record { grows = stops_beside.grows; meets = stops_beside.meets }
  while_beside (suc n) =
      let u = unit_beside a.granted _ _ (choice_beside (on_counted x a) (on_state x b)
      (same_test x a b w) _ _ _ _ (then_beside r _ m _ beside (while_beside n)) done_beside) in
      record { grows = u.grows; meets = u.meets }

  repeat_beside : (n : ℕ) → Beside (repeat_units n a.granted r (on_counted x a))
      (repeat_turns n m (on_state x b))
  repeat_beside zero = record { grows = stops_beside.grows; meets = stops_beside.meets }
  repeat_beside (suc n) =
      let u = then_beside r _ m _ beside (unit_beside a.granted _ _
      (choice_beside (on_counted x a) (on_state x b) (same_test x a b w) _ _ _ _ done_beside
      (repeat_beside n))) in
      record { grows = u.grows; meets = u.meets }

  while_fits : Beside (while_units a.granted a.granted (on_counted x a) r)
      (while_turns b.turns (on_state x b) m)
  while_fits = subst (λ n. Beside (while_units n a.granted (on_counted x a) r)
      (while_turns b.turns (on_state x b) m)) w.turns (while_beside b.turns)

  repeat_fits : Beside (repeat_units a.granted a.granted r (on_counted x a))
      (repeat_turns b.turns m (on_state x b))
  repeat_fits = subst (λ n. Beside (repeat_units n a.granted r (on_counted x a))
      (repeat_turns b.turns m (on_state x b))) w.turns (repeat_beside b.turns)

-- ---- trees

module _ (program : Checked) where
  abbrev Fit : RStmt → Type 0
  Fit t = Fits (counted program t) (exec program t)

  abbrev FitArm : RArm → Type 0
  FitArm arm = ((counted_arm program arm).0 ≡ (arm_of program arm).0)
      × Fits (in_order (counted_arm program arm).1) (in_turn (arm_of program arm).1)

  in_order_beside : (ts : List ((t : RStmt) × Fit t)) (a : Granted) (b : Around) → Near a b →
      Beside (in_order (map (counted program) (map (λ e. e.0) ts)) a)
      (in_turn (map (exec program) (map (λ e. e.0) ts)) b)
  in_order_beside [] a b w = record { grows = at_once; meets = λ c. refl }
  in_order_beside (t ∷ ts) a b w =
      then_beside _ _ _ _ (t.1.at a b w) (in_order_beside ts a b w)

  first_beside : (arms : List ((t : RArm) × FitArm t)) (other : List ((t : RStmt) × Fit t))
      (a : Granted) (b : Around) → Near a b →
      Beside (first_true (map (counted_arm program) (map (λ e. e.0) arms))
      (map (counted program) (map (λ e. e.0) other)) a)
      (chosen (map (arm_of program) (map (λ e. e.0) arms))
      (map (exec program) (map (λ e. e.0) other)) b)
  first_beside [] other a b w = in_order_beside other a b w
  first_beside (arm ∷ arms) other a b w =
      let test = (arm_of program arm.0).0 in
      choice_beside (on_counted (counted_arm program arm.0).0 a) (on_state test b)
      (λ c. ap (λ e. e a.calls c.state.store) arm.1.0 ∙ same_test test a b w c)
      _ _ _ _ (arm.1.1.at a b w) (first_beside arms other a b w)

  abbrev WithFit : Type 0
  WithFit = RStmt-F ((t : RStmt) × Fit t) ((t : RArm) × FitArm t)

  abbrev plain : WithFit → RStmt-F RStmt RArm
  plain = map-RStmt ((t : RStmt) × Fit t) ((t : RArm) × FitArm t) RStmt RArm (λ e. e.0) (λ e. e.0)

  abbrev counting : RStmt-F RStmt RArm → RStmt-F CountedStatement CountedArm
  counting = map-RStmt RStmt RArm CountedStatement CountedArm (counted program)
      (counted_arm program)

  abbrev executing : RStmt-F RStmt RArm → RStmt-F Execution Arm
  executing = map-RStmt RStmt RArm Execution Arm (exec program) (arm_of program)

  -- ---- statements that hold no others

  abbrev assigned_by : RVar → RExpr → List LiveCall → Run
  assigned_by v e calls s = with (location program v calls s.store)
      s (λ l. with (value program e calls s.store) s (λ y. Normal (store_at s l y)))

  assign_after : (v : RVar) (e : RExpr) (calls : List LiveCall) (s : State) →
      After s (assigned_by v e calls s)
  assign_after v e calls s = with_after (location program v calls s.store)
      s _ (λ l. with_after (value program e calls s.store)
      s _ (λ y. record { prefix = same_prefix (done s) }))

  read_after : (words : List ℤ) (l : Location) (s : State) → After s (read_to words l s)
  read_after [] l s = trapped_at_once _ s
  read_after (word ∷ rest) l s = record { prefix = ([], sym (append-nil s.events), omega arith) }

  write_after : (e : OutEvent) (s : State) → After s (Normal (written s e))
  write_after e s = record { prefix = (e ∷ [], refl, omega arith) }

  -- a unit that does what a run means
  single_beside : (a : Granted) (b : Around) → Near a b → (m : List LiveCall → Run) →
      ((s : State) → After s (m b.calls s)) →
      Beside (unit a.granted (does (m a.calls))) (m b.calls)
  single_beside a b w m g = rw (sym w.calls)
      (unit_beside a.granted (does (m b.calls)) (m b.calls) (does_beside (m b.calls) g))

  abbrev read_by : RVar → List LiveCall → Run
  read_by v calls s = with (location program v calls s.store) s (λ l. read_to s.input l s)

  abbrev written_by : RExpr → List LiveCall → Run
  written_by e calls s = with (value program e calls s.store)
      s (λ y. Normal (written s (event.Number (number y))))

  -- ---- each form

  -- the arguments of a call, and the call
  called_beside : (a : Granted) (b : Around) → Near a b → (x : List LiveCall → State →
      Result (List Argument) TrapKind) (proc : ℕ) →
      Beside (λ c. given (x a.calls c.state) c (λ xs. a.call proc xs c)) (λ s. with (x b.calls s)
      s (λ xs. b.call proc xs s))
  called_beside a b w x proc = record {
    grows = λ s. with_after (x b.calls s) s _ (λ xs. (w.call proc xs).grows s);
    meets = λ c. subst (λ calls. Meets (given (x calls c.state) c (λ xs. a.call proc xs c))
        (with (x b.calls c.state) c.state (λ xs. b.call proc xs c.state))) w.calls
        (given_meets (x b.calls c.state) c _ _ (λ xs. (w.call proc xs).meets c));
  }

  stmt_case : (y : WithFit) (a : Granted) (b : Around) → Near a b →
      Beside (counted_step program (counting (plain y)) a)
      (stmt_step program (executing (plain y)) b)
  stmt_case (RStmt-F.Assign v e) a b w =
      single_beside a b w (assigned_by v e) (assign_after v e b.calls)
  stmt_case (RStmt-F.If arms other) a b w =
      unit_beside a.granted _ _ (first_beside arms other a b w)
  stmt_case (RStmt-F.While test ts) a b w =
      while_fits (value program test) a b w _ _ (in_order_beside ts a b w)
  stmt_case (RStmt-F.Repeat ts test) a b w =
      repeat_fits (value program test) a b w _ _ (in_order_beside ts a b w)
  stmt_case (RStmt-F.Call proc args) a b w =
      unit_beside a.granted _ _
      (called_beside a b w (λ calls s. arguments program calls s.store args) proc.0)
  stmt_case (RStmt-F.Read v) a b w =
      single_beside a b w (read_by v)
      (λ s. with_after (location program v b.calls s.store) s _ (λ l. read_after s.input l s))
  stmt_case (RStmt-F.Write e) a b w =
      single_beside a b w (written_by e) (λ s. with_after (value program e b.calls s.store)
      s _ (λ y. write_after (event.Number (number y)) s))
  stmt_case RStmt-F.WriteLine a b w =
      single_beside a b w (λ calls s. Normal (written s event.Line)) (write_after event.Line)

  stmt_fit : (y : WithFit) → Fit (roll-RStmt (plain y))
  stmt_fit y =
      rw (exec_roll program (plain y)) (rw (counted_roll program (plain y))
      (record { at = stmt_case y }))

  arm_case : (y : RArm-F ((t : RStmt) × Fit t) ((t : RArm) × FitArm t)) →
      FitArm (roll-RArm (record { test = y.test; body = map (λ e. e.0) y.body }))
  arm_case y =
      let here : RArm-F RStmt RArm = record { test = y.test; body = map (λ e. e.0) y.body } in
      rw (counted_arm_roll program here) (rw (arm_of_roll program here)
      (refl, record { at = in_order_beside y.body }))

  pub fits : (t : RStmt) → Fit t
  fits = ind-RStmt Fit FitArm
      (λ x y is. subst (λ z. Fit (roll-RStmt z)) is (stmt_fit y))
      (λ x y is. subst (λ z. FitArm (roll-RArm z)) is (arm_case y))

  all_beside : (ts : List RStmt) (a : Granted) (b : Around) → Near a b →
      Beside (counted_all program ts a) (exec_all program ts b)
  all_beside [] a b w = record { grows = at_once; meets = λ c. refl }
  all_beside (t ∷ ts) a b w = then_beside (counted program t a) (counted_all program ts a)
      (exec program t b) (exec_all program ts b) ((fits t).at a b w) (all_beside ts a b w)

  -- ---- calls

  either_beside : (t : Bool) (r q : Counting) (m k : Run) → Beside r m → Beside q k →
      Beside (λ c. if t then r c else q c) (λ s. if t then m s else k s)
  either_beside true r q m k b d = b
  either_beside false r q m k b d = d

  stack_beside : (frames : List ℕ) (calls : List LiveCall) (proc : ℕ) (r : Counting) (m : Run) →
      Beside r m →
      Beside (within_stack frames calls proc r) (λ s. on_stack frames calls proc s (m s))
  stack_beside frames calls proc r m b =
      either_beside (nat_lt stack_limit (live_frames frames calls + frame_of frames proc)) _ r _ m
      (record { grows = λ s. trapped_at_once _ s; meets = λ c. refl }) b

  enters_beside : (calls : List LiveCall) (args : List Argument) (r : Counting) (m : Run) →
      Beside r m →
      Beside (λ c. r (in_call (suc (depth calls)) args c))
      (λ s. m (record s { store = entered (suc (depth calls)) args s.store }))
  enters_beside calls args r m b = record {
    grows = λ s. record {
      prefix = (b.grows (record s {
        store = entered (suc (depth calls)) args
            s.store;
      })).prefix;
    };
    meets = λ c. b.meets (in_call (suc (depth calls)) args c);
  }

  around_near : (frames : List ℕ) (granted deeper : ℕ) (calls : List LiveCall) →
      Near (granted_around program frames granted deeper calls)
      (around program frames granted deeper calls)
  around_near frames granted zero calls = record {
    turns = refl;
    calls = refl;
    call = λ proc args. stack_beside frames calls proc Stopped Going stops_beside;
  }
  around_near frames granted (suc deeper) calls = record {
    turns = refl;
    calls = refl;
    call = λ proc args. stack_beside frames calls proc _ _ (enters_beside calls args _ _
        (all_beside (body program proc)
        _ _ (around_near frames granted deeper (call_with proc args ∷ calls))));
  }

  -- ---- the whole

  module_meets : (frames : List ℕ) (input : List ℤ) (k : ℕ) →
      Meets (units_run program frames input k) (completion program frames input k)
  module_meets frames input k = (all_beside (body program 0)
      _ _ (around_near frames k k only_body)).meets (record { state = start input; units = 0 })

  ends_in : (h : Halt) (m : Completion) → Meets h m → (progress_in h).ending ≢ None →
      progress_in h ≡ progress_of m
  ends_in (Done c) m h over = sym (ap progress_of h)
  ends_in (Failed trap c) m h over = sym (ap progress_of h)
  ends_in (Stopped c) m h over = absurd (over refl)

  goes_in : (h : Halt) (m : Completion) → Meets h m → IsPrefix (progress_in h) (progress_of m)
  goes_in (Done c) m h = rw h (same_prefix (progress_in (Done c)))
  goes_in (Failed trap c) m h = rw h (same_prefix (progress_in (Failed trap c)))
  goes_in (Stopped c) m h = h.prefix

  pub units_end_as_meant : (frames : List ℕ) (input : List ℤ) (k : ℕ) →
      (progress_in (units_run program frames input k)).ending ≢ None →
      progress_in (units_run program frames input k) ≡ mean program frames input k
  units_end_as_meant frames input k over = ends_in (units_run program frames input k)
      (completion program frames input k) (module_meets frames input k) over

  pub units_go_as_meant : (frames : List ℕ) (input : List ℤ) (k : ℕ) →
      IsPrefix (progress_in (units_run program frames input k)) (mean program frames input k)
  units_go_as_meant frames input k = goes_in (units_run program frames input k)
      (completion program frames input k) (module_meets frames input k)
