-- What is left of a run, step by step: what each form of statement is due for, and what a unit
-- leaves.
use Rattle.std.proofs.Common.{◌≡◌, ℕ, suc, ◌+◌, ◌-◌, ◌<◌, ◌≤◌, ℤ, Bool, true, false, List, [], ◌∷◌}
use Rattle.std.proofs.Common.{map, length, drop, get_or, drop-cons, Option, Some, None, Ok, refl}
use Rattle.std.proofs.Common.{sym, ap, ◌∙◌, subst, arith}
use Rattle.std.specs.Prelude.{if◌then◌else◌, nat_lt}
use Rattle.std.specs.Borrow.{Bor}
use Rattle.std.proofs.lemmas.Bool.{lt-ltb, le-ltb}
use Rattle.pra_base.specs.Words.{stack_limit}
use Rattle.pra_base.specs.declared.ids.ProcId.{ProcId}
use Rattle.pra_base.specs.declared.event.TrapKind.TheVariants.{Stack}
use Rattle.ob_syntax.specs.Operators.{Outcome, is_true}
use Rattle.ob_syntax.specs.declared.checked.Checked.{Checked}
use Rattle.ob_syntax.specs.declared.checked.Value.{Value}
use Rattle.ob_syntax.specs.declared.checked.RArg.{RArg}
use Rattle.ob_syntax.specs.declared.checked.RVar.{RVar}
use Rattle.ob_syntax.specs.declared.checked.RExpr.{RExpr}
use Rattle.ob_syntax.specs.declared.checked.RStmt.{RStmt, RStmt-F, roll-RStmt, out-RStmt}
use Rattle.ob_syntax.specs.declared.checked.RStmt.{roll-out-RStmt, map-RStmt, fold-roll-RStmt}
use Rattle.ob_syntax.specs.declared.checked.RStmt.TheVariants as stmt
use Rattle.ob_syntax.specs.declared.checked.RArm.{RArm, fold-RArm, fold_out-RArm}
use Rattle.ob_mean.specs.declared.store.Argument.{Argument}
use Rattle.ob_mean.specs.declared.store.LiveCall.{LiveCall}
use Rattle.ob_mean.specs.Expressions.{value}
use Rattle.ob_mean.specs.Statements.{arguments}
use Rattle.ob_mean.specs.Program.{live_frames, frame_of, call_with, entered, body}
use Rattle.ob_interp.specs.Units.{Counted, Halt, Done, Failed, Stopped, Counting, unit, then_go}
use Rattle.ob_interp.specs.Units.{given, does, while_units, repeat_units, Granted, CountedStatement}
use Rattle.ob_interp.specs.Units.{CountedArm, in_order, on_counted, first_true, counted_step}
use Rattle.ob_interp.specs.Units.{counted_arm_step, counted, counted_arm, counted_all, in_call}
use Rattle.ob_interp.specs.Units.{counted_call, granted_around}
use Rattle.ob_interp.specs.declared.running.Running.{Running}
use Rattle.ob_interp.specs.declared.running.Finish.{Finish}
use Rattle.ob_interp.specs.declared.running.Finish.TheVariants as finish
use Rattle.ob_interp.specs.declared.task.Task.{Task}
use Rattle.ob_interp.specs.declared.task.Task.TheVariants as task
use Rattle.ob_interp.specs.declared.task.Due.TheVariants as due
use Rattle.ob_interp.specs.declared.task.First.{First}
use Rattle.ob_interp.specs.declared.task.First.TheVariants as first
use Rattle.ob_interp.specs.Running.{store_of, leads, weight, weight_step, weighed, weights}
use Rattle.ob_interp.specs.Running.{counted_of, halt_of, assigning, reading, writing, ending_line}
use Rattle.ob_interp.specs.Running.{here, begun_of, due_of, goes_on, ends_in}
use Rattle.ob_interp.proofs.Turns.{then_after, counted_roll, all_adds, calls_add, while_more}
use Rattle.ob_interp.proofs.Turns.{repeat_more, all_wait, AddsUnits}

-- the next of a list by its index
pub next-item : {A : Type 0} (xs : List A) (i : ℕ) (x : A) → i < length xs → x ≡ get_or xs i x →
    drop i xs ≡ x ∷ drop (i + 1) xs
next-item xs i x h is =
    let one : suc i ≡ i + 1 = omega arith in
    drop-cons xs i x h ∙ ap (λ y. y ∷ drop (suc i) xs) (sym is) ∙ ap (λ k. x ∷ drop k xs) one

then_same : (h : Halt) (f g : Counting) → ((c : Counted) → f c ≡ g c) → then_go h f ≡ then_go h g
then_same (Done c) f g e = e c
then_same h f g e = refl

-- ---- what statements are due for

module _ (program : Checked) where
  in_order-all : (ts : List RStmt) (a : Granted) → in_order (map (counted program) ts) a
      ≡ counted_all program ts a
  in_order-all [] a = refl
  in_order-all (t ∷ ts) a = ap {B = Counting} (λ (k : Counting) c. then_go (counted program t a c)
      k) (in_order-all ts a)

  pub arm-is : (arm : RArm) → counted_arm program arm
      ≡ (value program arm.test, map (counted program) arm.body)
  arm-is arm = fold_out-RArm CountedStatement CountedArm (counted_step program)
      (counted_arm_step program) arm

  by_form : (t : RStmt) (y : RStmt-F RStmt RArm) → roll-RStmt y ≡ t → (a : Granted)
      (c : Counted) → counted program t a c ≡ counted_step program
      (map-RStmt RStmt RArm CountedStatement CountedArm (counted program) (counted_arm program) y)
      a c
  by_form t y e a c =
      ap (λ z. counted program z a c) (sym e)
      ∙ ap (λ (f : CountedStatement). f a c) (counted_roll program y)

  pub counted-Assign : (v : RVar) (e : RExpr) (a : Granted) (c : Counted) →
      counted program (stmt.Assign v e) a c ≡ unit a.granted (does (assigning program a.calls v e))
      c
  counted-Assign v e a c = by_form _ (RStmt-F.Assign v e) (stmt.rolls-Assign v e) a c

  pub counted-If : (arms : List RArm) (other : List RStmt) (a : Granted) (c : Counted) →
      counted program (stmt.If arms other) a c
      ≡ unit a.granted (first_true (map (counted_arm program) arms) (map (counted program) other) a)
      c
  counted-If arms other a c = by_form _ (RStmt-F.If arms other) (stmt.rolls-If arms other) a c

  pub counted-Call : (proc : ProcId) (args : List RArg) (a : Granted) (c : Counted) →
      counted program (stmt.Call proc args) a c
      ≡ unit a.granted (λ d. given (arguments program a.calls d.state.store args)
      d (λ xs. a.call proc.0 xs d)) c
  counted-Call proc args a c = by_form _ (RStmt-F.Call proc args) (stmt.rolls-Call proc args) a c

  pub counted-Read : (v : RVar) (a : Granted) (c : Counted) → counted program (stmt.Read v) a c
      ≡ unit a.granted (does (reading program a.calls v)) c
  counted-Read v a c = by_form _ (RStmt-F.Read v) (stmt.rolls-Read v) a c

  pub counted-Write : (e : RExpr) (a : Granted) (c : Counted) → counted program (stmt.Write e) a c
      ≡ unit a.granted (does (writing program a.calls e)) c
  counted-Write e a c = by_form _ (RStmt-F.Write e) (stmt.rolls-Write e) a c

  pub counted-WriteLine : (a : Granted) (c : Counted) → counted program stmt.WriteLine a c
      ≡ unit a.granted (does ending_line) c
  counted-WriteLine a c = by_form _ RStmt-F.WriteLine stmt.rolls-WriteLine a c

  -- what a test of WHILE is due for, and one of REPEAT
  abbrev pub while_due : RExpr → List RStmt → Granted → Counting
  while_due test ts a =
      unit a.granted (λ c. given (on_counted (value program test) a c) c (λ x.
      if is_true x
      then then_go (counted_all program ts a c)
      (while_units a.granted a.granted (on_counted (value program test) a)
      (counted_all program ts a))
      else Done c))

  abbrev pub until_due : List RStmt → RExpr → Granted → Counting
  until_due ts test a =
      unit a.granted (λ c. given (on_counted (value program test) a c) c (λ x.
      if is_true x then Done c
      else repeat_units a.granted a.granted (counted_all program ts a)
      (on_counted (value program test) a) c))

  enough : (a : Granted) (c : Counted) → a.granted ≤ c.units + a.granted
  enough a c = omega arith

  -- calls are those of a program
  pub here_adds : (frames : List ℕ) (granted : ℕ) (calls : List LiveCall) →
      AddsUnits (here program frames granted calls)
  here_adds frames granted calls = calls_add program frames granted (granted + 1 - length calls)
      calls

  pub turns_are_due : (test : RExpr) (ts : List RStmt) (a : Granted) → AddsUnits a → (c : Counted) →
      while_units a.granted a.granted (on_counted (value program test) a) (counted_all program ts a)
      c ≡ while_due test ts a c
  turns_are_due test ts a h c = while_more a.granted a.granted (on_counted (value program test) a)
      (counted_all program ts a) (all_adds program ts a h) c (enough a c)

  pub counted-While : (test : RExpr) (ts : List RStmt) (a : Granted) → AddsUnits a →
      (c : Counted) → counted program (stmt.While test ts) a c ≡ while_due test ts a c
  counted-While test ts a h c =
      by_form _ (RStmt-F.While test ts) (stmt.rolls-While test ts) a c
      ∙ ap (λ (r : Counting). while_units a.granted a.granted (on_counted (value program test) a)
      r c) (in_order-all ts a)
      ∙ turns_are_due test ts a h c

  -- a REPEAT is its statements and then a test
  pub again : (ts : List RStmt) (test : RExpr) (a : Granted) → AddsUnits a → (c : Counted) →
      repeat_units a.granted a.granted (counted_all program ts a) (on_counted (value program test)
      a) c ≡ then_go (counted_all program ts a c) (until_due ts test a)
  again ts test a h c = repeat_more a.granted a.granted (counted_all program ts a)
      (on_counted (value program test) a) (all_adds program ts a h) (all_wait program ts a)
      c (enough a c)

  pub counted-Repeat : (ts : List RStmt) (test : RExpr) (a : Granted) → AddsUnits a →
      (c : Counted) → counted program (stmt.Repeat ts test) a c
      ≡ then_go (counted_all program ts a c) (until_due ts test a)
  counted-Repeat ts test a h c =
      by_form _ (RStmt-F.Repeat ts test) (stmt.rolls-Repeat ts test) a c
      ∙ ap (λ (r : Counting). repeat_units a.granted a.granted r (on_counted (value program test) a)
      c) (in_order-all ts a)
      ∙ again ts test a h c

  -- ---- one step of an IF

  pub arm-step : (arms rest : List RArm) (arm : RArm) (other : List CountedStatement) (a : Granted)
      (c : Counted) (r : Outcome) → arms ≡ arm ∷ rest → r
      ≡ value program arm.test a.calls c.state.store →
      given r c (λ x. if is_true x then counted_all program arm.body a c else first_true (map
      (counted_arm program) rest) other a c)
      ≡ first_true (map (counted_arm program) arms) other a c
  arm-step arms rest arm other a c r is v =
      rw is (rw v (rw (arm-is arm) (rw (in_order-all arm.body a) refl)))

  pub others-are : (other : List RStmt) (a : Granted) (c : Counted) →
      first_true [] (map (counted program) other) a c ≡ counted_all program other a c
  others-are other a c = ap (λ (k : Counting). k c) (in_order-all other a)

-- ---- a unit begins

pub begins : (granted : ℕ) (go : Counting) (c d : Counted) → c.units < granted → d
    ≡ (record c { units = c.units + 1 }) → unit granted go c ≡ go d
begins granted go c d lt is = ap (λ b. if b then go (record c { units = c.units + 1 })
    else Stopped c) (lt-ltb c.units granted lt) ∙ ap go (sym is)

pub stops : (granted : ℕ) (go : Counting) (c : Counted) → c.units ≡ granted → unit granted go c
    ≡ Stopped c
stops granted go c is = ap (λ b. if b then go (record c { units = c.units + 1 }) else Stopped c)
    (le-ltb c.units granted (omega (arith, is)))

-- ---- how a part of a run goes on

pub ended : (f : Finish) (c : Counted) (h : Halt) (next : Counting) (goes : Option Finish) →
    halt_of f c ≡ h → goes ≡ ends_in f → (go : Option Finish → Halt) → ((g : Finish) → go (Some g)
    ≡ halt_of g c) → go None ≡ next c →
    go goes ≡ then_go h next
ended finish.Done c h next goes is e go some none = ap go e ∙ none ∙ ap (λ k. then_go k next) is
ended (finish.Failed trap) c h next goes is e go some none = ap go e ∙ some (finish.Failed trap)
    ∙ ap (λ k. then_go k next) is
ended finish.Stopped c h next goes is e go some none = ap go e ∙ some finish.Stopped
    ∙ ap (λ k. then_go k next) is

-- ---- a call

pub called : (program : Checked) (frames : List ℕ) (granted : ℕ) (calls : List LiveCall) (proc : ℕ)
    (args : List Argument) (c d : Counted) →
    length calls ≤ granted → nat_lt stack_limit (live_frames frames calls + frame_of frames proc)
    ≡ false → d ≡ in_call (length calls + 1) args c →
    (here program frames granted calls).call proc args c ≡ counted_all program (body program proc)
    (here program frames granted (call_with proc args ∷ calls)) d
called program frames granted calls proc args c d le low is =
    let some : granted + 1 - length calls ≡ suc (granted - length calls) = omega arith in
    let fewer : granted - length calls ≡ granted + 1 - length (call_with proc args ∷ calls)
    = omega arith in
    let one : suc (length calls) ≡ length calls + 1 = omega arith in
    let entry : in_call (suc (length calls)) args c ≡ d =
    ap (λ k. in_call k args c) one ∙ sym is in
    ap (λ k. counted_call program frames granted k calls proc args c) some
    ∙ (λ i. if low i then Failed Stack c else counted_all program (body program proc)
    (granted_around program frames granted (fewer i) (call_with proc args ∷ calls)) (entry i))

pub stack-full : (program : Checked) (frames : List ℕ) (granted : ℕ) (calls : List LiveCall)
    (proc : ℕ) (args : List Argument) (c : Counted) →
    length calls ≤ granted → nat_lt stack_limit (live_frames frames calls + frame_of frames proc)
    ≡ true →
    (here program frames granted calls).call proc args c ≡ Failed Stack c
stack-full program frames granted calls proc args c le high =
    let some : granted + 1 - length calls ≡ suc (granted - length calls) = omega arith in
    ap (λ k. counted_call program frames granted k calls proc args c) some
    ∙ ap (λ b. if b then Failed Stack c else counted_all program (body program proc)
    (granted_around program frames granted (granted - length calls)
    (call_with proc args ∷ calls)) (in_call (suc (length calls)) args c)) high

-- ---- weights

module _ where
  weight_roll : (y : RStmt-F RStmt RArm) → weight (roll-RStmt y)
      ≡ weight_step (map-RStmt RStmt RArm ℕ ℕ weight (fold-RArm ℕ ℕ weight_step (λ arm. 0)) y)
  weight_roll = fold-roll-RStmt ℕ ℕ weight_step (λ arm. 0)

  summed : (ts : List RStmt) → weighed (map weight ts) ≡ weights ts
  summed [] = refl
  summed (t ∷ ts) = ap (λ n. weight t + n) (summed ts)

  pub weight-Repeat : (ts : List RStmt) (test : RExpr) → weight (stmt.Repeat ts test)
      ≡ 3 + weights ts
  weight-Repeat ts test = ap weight (sym (stmt.rolls-Repeat ts test))
      ∙ weight_roll (RStmt-F.Repeat ts test) ∙ ap (λ n. 3 + n) (summed ts)

  pub weight-other : (y : RStmt-F RStmt RArm) →
      1 ≤ weight_step (map-RStmt RStmt RArm ℕ ℕ weight (fold-RArm ℕ ℕ weight_step (λ arm. 0)) y)
  weight-other (RStmt-F.Repeat ts test) = omega arith
  weight-other y = omega arith

  pub weight-some : (t : RStmt) → 1 ≤ weight t
  weight-some t = subst (λ z. 1 ≤ weight z) (roll-out-RStmt t) (subst (λ n. 1 ≤ n)
      (sym (weight_roll (out-RStmt t))) (weight-other (out-RStmt t)))

-- ---- the statements at the head of what is left

pub at_head : (program : Checked) (frames : List ℕ) (k : ℕ) (calls : List LiveCall) (c : Counted)
    (all more : List RStmt) (t : RStmt) (next : Counting) (f : First) → all ≡ t ∷ more →
    counted program t (here program frames k calls) c
    ≡ leads program f (here program frames k calls) c →
    then_go (leads program f (here program frames k calls) c)
    (λ d. then_go (counted_all program more (here program frames k calls) d) next)
    ≡ then_go (counted_all program all (here program frames k calls) c) next
at_head program frames k calls c all more t next f is led =
    ap (λ h. then_go h (λ d. then_go (counted_all program more (here program frames k calls) d)
    next)) (sym led)
    ∙ sym (then_after (counted program t (here program frames k calls) c)
    (counted_all program more (here program frames k calls)) next)
    ∙ ap (λ ts. then_go (counted_all program ts (here program frames k calls) c) next) (sym is)

-- ---- a turn of a loop is pushed: the statements, and the next test behind them

module _ (program : Checked) (frames : List ℕ) (k : ℕ) (calls : List LiveCall) (c : Counted) where
  abbrev around : Granted
  around = here program frames k calls

  pub turned : (test : Bor RExpr) (ts : Bor (List RStmt)) (x : Value) (tasks one two : List Task) →
      Ok x ≡ value program test.now calls c.state.store → is_true x ≡ true →
      one ≡ task.While test ts ∷ tasks → two ≡ task.Statements ts ∷ one →
      goes_on program frames k two calls c ≡ then_go (begun_of program (due.While test ts)
      (here program frames k calls) c) (goes_on program frames k tasks calls)
  turned test ts x tasks one two v truth pushed more =
      let turn = counted_all program ts.now around in
      let rest = goes_on program frames k tasks calls in
      let loop = while_units k k (on_counted (value program test.now) around) turn in
      ap (λ l. goes_on program frames k l calls c) (more ∙ ap (λ l. task.Statements ts ∷ l) pushed)
      ∙ sym (then_same (turn c) (λ d. then_go (loop d) rest)
      (goes_on program frames k (task.While test ts ∷ tasks) calls)
      (λ d. ap (λ h. then_go h rest)
      (turns_are_due program test.now ts.now around (here_adds program frames k calls) d)))
      ∙ sym (then_after (turn c) loop rest)
      ∙ ap (λ (b : Bool). then_go (if b then then_go (turn c) loop else Done c) rest) (sym truth)
      ∙ ap (λ r. then_go (given r c (λ y. if is_true y then then_go (turn c) loop else Done c))
      rest) v

  pub turned-back : (ts : Bor (List RStmt)) (test : Bor RExpr) (x : Value)
      (tasks one two : List Task) → Ok x ≡ value program test.now calls c.state.store → is_true x
      ≡ false →
      one ≡ task.Until ts test ∷ tasks → two ≡ task.Statements ts ∷ one →
      goes_on program frames k two calls c ≡ then_go (begun_of program (due.Until ts test)
      (here program frames k calls) c) (goes_on program frames k tasks calls)
  turned-back ts test x tasks one two v truth pushed more =
      let turn = counted_all program ts.now around in
      let rest = goes_on program frames k tasks calls in
      let loop = repeat_units k k turn (on_counted (value program test.now) around) in
      ap (λ l. goes_on program frames k l calls c) (more ∙ ap (λ l. task.Statements ts ∷ l) pushed)
      ∙ sym (then_after (turn c) (until_due program ts.now test.now around) rest)
      ∙ ap (λ h. then_go h rest)
      (sym (again program ts.now test.now around (here_adds program frames k calls) c))
      ∙ ap (λ (b : Bool). then_go (if b then Done c else loop c) rest) (sym truth)
      ∙ ap (λ r. then_go (given r c (λ y. if is_true y then Done c else loop c)) rest) v

-- ---- how statements begin

module _ (program : Checked) (frames : List ℕ) (k : ℕ) (calls : List LiveCall) (c : Counted) where
  pub leads-If : (arms : Bor (List RArm)) (other : Bor (List RStmt)) (ys : List RArm)
      (zs : List RStmt) → arms.now ≡ ys → other.now ≡ zs →
      counted program (stmt.If ys zs) (here program frames k calls) c
      ≡ due_of program (due.If arms other) (here program frames k calls) c
  leads-If arms other ys zs e d =
      rw (sym e) (rw (sym d)
      (counted-If program arms.now other.now (here program frames k calls) c))

  pub leads-While : (test : Bor RExpr) (ts : Bor (List RStmt)) (e : RExpr) (zs : List RStmt) →
      test.now ≡ e → ts.now ≡ zs →
      counted program (stmt.While e zs) (here program frames k calls) c
      ≡ due_of program (due.While test ts) (here program frames k calls) c
  leads-While test ts e zs is same =
      rw (sym is) (rw (sym same) (counted-While program test.now ts.now
      (here program frames k calls) (here_adds program frames k calls) c))

  pub leads-Repeat : (ts : Bor (List RStmt)) (test : Bor RExpr) (zs : List RStmt) (e : RExpr) →
      ts.now ≡ zs → test.now ≡ e →
      counted program (stmt.Repeat zs e) (here program frames k calls) c
      ≡ leads program (first.Repeat ts test) (here program frames k calls) c
  leads-Repeat ts test zs e same is =
      rw (sym is) (rw (sym same) (counted-Repeat program ts.now test.now
      (here program frames k calls) (here_adds program frames k calls) c))

  pub leads-Call : (proc : ProcId) (args : Bor (List RArg)) (ys : List RArg) → args.now ≡ ys →
      counted program (stmt.Call proc ys) (here program frames k calls) c
      ≡ due_of program (due.Call proc.0 args) (here program frames k calls) c
  leads-Call proc args ys same =
      rw (sym same) (counted-Call program proc args.now (here program frames k calls) c)

-- the statements of a REPEAT, its test, and what is behind them
pub repeated : (program : Checked) (frames : List ℕ) (k : ℕ) (calls : List LiveCall) (c : Counted)
    (ts : Bor (List RStmt)) (test : Bor RExpr) (next : Counting) →
    then_go (counted_all program ts.now (here program frames k calls) c)
    (λ d. then_go (due_of program (due.Until ts test) (here program frames k calls) d) next)
    ≡ then_go (leads program (first.Repeat ts test) (here program frames k calls) c) next
repeated program frames k calls c ts test next =
    sym (then_after (counted_all program ts.now (here program frames k calls) c)
    (due_of program (due.Until ts test) (here program frames k calls)) next)

-- ---- a call goes on with its body, and then returns

pub called-goes : (program : Checked) (frames : List ℕ) (k : ℕ) (calls mid : List LiveCall)
    (proc : ℕ) (args : Bor (List RArg)) (xs : List Argument) (body' : Bor (List RStmt))
    (c d : Counted) (tasks one two : List Task) →
    length calls ≤ k → nat_lt stack_limit (live_frames frames calls + frame_of frames proc)
    ≡ false → d ≡ in_call (length calls + 1) xs c → mid ≡ call_with proc xs ∷ calls →
    Ok xs ≡ arguments program calls c.state.store args.now → body'.now ≡ body program proc →
    one ≡ task.Return ∷ tasks → two ≡ task.Statements body' ∷ one →
    goes_on program frames k two mid d ≡ then_go (begun_of program (due.Call proc args)
    (here program frames k calls) c) (goes_on program frames k tasks calls)
called-goes program frames k calls mid proc args xs body' c d tasks one two le low at is given'
    same pushed more =
    ap (λ l. goes_on program frames k l mid d) (more ∙ ap (λ l. task.Statements body' ∷ l) pushed)
    ∙ ap (λ l. goes_on program frames k (task.Statements body' ∷ task.Return ∷ tasks) l d) is
    ∙ ap (λ ts. then_go (counted_all program ts (here program frames k (call_with proc xs ∷ calls))
    d) (goes_on program frames k tasks calls)) same
    ∙ ap (λ h. then_go h (goes_on program frames k tasks calls))
    (sym (called program frames k calls proc xs c d le low at))
    ∙ ap (λ r. then_go (given r c (λ l. (here program frames k calls).call proc l c))
    (goes_on program frames k tasks calls)) given'

pub entered-counted : (input : List ℤ) (r new : Running) (depth : ℕ) (args : List Argument) →
    store_of new ≡ entered depth args (store_of r) → new.events ≡ r.events → new.taken ≡ r.taken →
    new.units ≡ r.units →
    counted_of input new ≡ in_call depth args (counted_of input r)
entered-counted input r new depth args store events taken units = λ i. record {
  state = record {
    store = store i;
    input = drop (taken i) input;
    events = events i;
    taken = taken i;
  };
  units = units i;
}
