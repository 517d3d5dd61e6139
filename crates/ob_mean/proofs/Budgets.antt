-- More turns and deeper calls keep a run that ends, and prolong one that goes on.
use Rattle.std.proofs.Common.{◌≡◌, ◌≢◌, ℕ, zero, suc, ◌+◌, ◌≤◌, ℤ, Bool, true, false, List, [], ◌∷◌}
use Rattle.std.proofs.Common.{◌++◌, map, None, Result, Ok, Err, refl, sym, ap, ◌∙◌, subst, arith}
use Rattle.std.proofs.Common.{append_assoc, append-nil}
use Rattle.std.specs.Prelude.{if◌then◌else◌, nat_lt}
use Rattle.pra_base.specs.Agreement.{Progress, IsPrefix, Keeps}
use Rattle.pra_base.specs.RunEnd.{RunEnd}
use Rattle.pra_base.specs.Words.{stack_limit}
use Rattle.pra_base.specs.declared.event.OutEvent.{OutEvent}
use Rattle.pra_base.specs.declared.event.OutEvent.TheVariants as event
use Rattle.pra_base.specs.declared.event.TrapKind.{TrapKind}
use Rattle.ob_syntax.specs.Operators.{Outcome, is_true, number}
use Rattle.ob_syntax.specs.declared.checked.Checked.{Checked}
use Rattle.ob_syntax.specs.declared.checked.Value.{Value}
use Rattle.ob_syntax.specs.declared.checked.RStmt.{RStmt, RStmt-F, roll-RStmt, map-RStmt, ind-RStmt}
use Rattle.ob_syntax.specs.declared.checked.RArm.{RArm, roll-RArm}
use Rattle.ob_mean.specs.declared.store.Argument.{Argument}
use Rattle.ob_mean.specs.declared.store.Location.{Location}
use Rattle.ob_mean.specs.declared.store.LiveCall.{LiveCall}
use Rattle.ob_mean.specs.Designators.{depth}
use Rattle.ob_mean.specs.Expressions.{Evaluation, value, location}
use Rattle.ob_mean.specs.Statements.{State, Completion, Normal, Trapped, Going, Run, then_do, with}
use Rattle.ob_mean.specs.Statements.{store_at, written, read_to, while_turns, repeat_turns, Around}
use Rattle.ob_mean.specs.Statements.{Execution, Arm, in_turn, on_state, chosen, arguments}
use Rattle.ob_mean.specs.Statements.{stmt_step, arm_of, exec, exec_all}
use Rattle.ob_mean.specs.Program.{on_stack, live_frames, frame_of, call_with, entered, body, around}
use Rattle.ob_mean.specs.Program.{only_body, start, progress_of, completion, mean}
use Rattle.ob_mean.proofs.Equations.{exec_roll, arm_of_roll}

-- what was done before a state
abbrev pub done : State → Progress OutEvent RunEnd
done s = progress_of (Going s)

-- ---- prolonging

-- a run from s did what was done before s, and perhaps more
pub record After (s : State) (c : Completion) : Type 0 where
  pub prefix : IsPrefix (done s) (progress_of c)

same_prefix : (p : Progress OutEvent RunEnd) → IsPrefix p p
same_prefix p = ([], sym (append-nil p.events), omega arith)

prefix_trans : (a b c : Progress OutEvent RunEnd) → IsPrefix a b → IsPrefix b c → IsPrefix a c
prefix_trans a b c p q = (
  p.0 ++ q.0,
  q.1 ∙ ap (λ l. l ++ q.0) p.1 ∙ append_assoc a.events p.0 q.0,
  omega (arith, p.2, q.2),
)

at_once : (s : State) → After s (Normal s)
at_once s = record { prefix = same_prefix (done s) }

trapped_at_once : (trap : TrapKind) (s : State) → After s (Trapped trap s)
trapped_at_once trap s = record { prefix = same_prefix (done s) }

going_at_once : (s : State) → After s (Going s)
going_at_once s = record { prefix = same_prefix (done s) }

-- ---- of two completions, the first of smaller budgets

abbrev pub Below : Completion → Completion → Type 0
Below (Normal s) c = c ≡ Normal s
Below (Trapped trap s) c = c ≡ Trapped trap s
Below (Going s) c = After s c

-- of two runs, the first with smaller budgets
pub record Pair (r r' : Run) : Type 0 where
  pub grows : (s : State) → After s (r s)
  pub grows' : (s : State) → After s (r' s)
  pub steady : (s : State) → Below (r s) (r' s)

after_then : (s : State) (c : Completion) (k : Run) → After s c → ((t : State) → After t (k t)) →
    After s (then_do c k)
after_then s (Normal t) k h g =
    record { prefix = prefix_trans (done s) (done t) (progress_of (k t)) h.prefix (g t).prefix }
after_then s (Trapped trap t) k h g = h
after_then s (Going t) k h g = h

then_below : (c c' : Completion) (k k' : Run) → Below c c' → Pair k k' →
    Below (then_do c k) (then_do c' k')
then_below (Normal s) c' k k' b p = subst (λ z. Below (k s) (then_do z k')) (sym b) (p.steady s)
then_below (Trapped trap s) c' k k' b p = ap (λ z. then_do z k') b
then_below (Going s) c' k k' b p = after_then s c' k' b p.grows'

pair_then : (r r' k k' : Run) → Pair r r' → Pair k k' → Pair (λ s. then_do (r s) k)
    (λ s. then_do (r' s) k')
pair_then r r' k k' p q = record {
  grows = λ s. after_then s (r s) k (p.grows s) q.grows;
  grows' = λ s. after_then s (r' s) k' (p.grows' s) q.grows';
  steady = λ s. then_below (r s) (r' s) k k' (p.steady s) q;
}

with_after : {A : Type 0} (x : Result A TrapKind) (s : State) (k : A → Completion) →
    ((a : A) → After s (k a)) → After s (with x s k)
with_after (Ok a) s k h = h a
with_after (Err trap) s k h = trapped_at_once trap s

with_below : {A : Type 0} (x : Result A TrapKind) (s : State) (k k' : A → Completion) →
    ((a : A) → Below (k a) (k' a)) → Below (with x s k) (with x s k')
with_below (Ok a) s k k' h = h a
with_below (Err trap) s k k' h = refl

either_after : (b : Bool) (s : State) (c d : Completion) → After s c → After s d →
    After s (if b then c else d)
either_after true s c d p q = p
either_after false s c d p q = q

either_below : (b : Bool) (c d c' d' : Completion) → Below c c' → Below d d' →
    Below (if b then c else d) (if b then c' else d')
either_below true c d c' d' p q = p
either_below false c d c' d' p q = q

-- ---- loops

while_after : (n : ℕ) (test : State → Outcome) (r : Run) → ((s : State) → After s (r s)) →
    (s : State) → After s (while_turns n test r s)
while_after zero test r g s = going_at_once s
while_after (suc n) test r g s =
    with_after (test s) s _ (λ x. either_after (is_true x) s _ _
    (after_then s (r s) (while_turns n test r) (g s) (while_after n test r g)) (at_once s))

while_pair : (n m : ℕ) (test : State → Outcome) (r r' : Run) → n ≤ m → Pair r r' →
    Pair (while_turns n test r) (while_turns m test r')
while_pair zero m test r r' l p = record {
  grows = while_after zero test r p.grows;
  grows' = while_after m test r' p.grows';
  steady = while_after m test r' p.grows';
}
while_pair (suc n) zero test r r' l p = absurd (omega arith)
while_pair (suc n) (suc m) test r r' l p = record {
  grows = while_after (suc n) test r p.grows;
  grows' = while_after (suc m) test r' p.grows';
  steady = λ s. with_below (test s) s _ _ (λ x. either_below (is_true x) _ _ _ _
      (then_below (r s) (r' s) _ _ (p.steady s) (while_pair n m test r r' (omega arith) p)) refl);
}

-- the test at the end of a turn of REPEAT, and what follows
abbrev tested : (State → Outcome) → Run → Run
tested test k s = with (test s) s (λ x. if is_true x then Normal s else k s)

tested_pair : (test : State → Outcome) (k k' : Run) → Pair k k' →
    Pair (tested test k) (tested test k')
tested_pair test k k' p = record {
  grows = λ s. with_after (test s) s _
      (λ x. either_after (is_true x) s _ _ (at_once s) (p.grows s));
  grows' = λ s. with_after (test s) s _
      (λ x. either_after (is_true x) s _ _ (at_once s) (p.grows' s));
  steady = λ s. with_below (test s) s _ _ (λ x. either_below (is_true x) _ _ _ _ refl (p.steady s));
}

repeat_after : (n : ℕ) (r : Run) (test : State → Outcome) → ((s : State) → After s (r s)) →
    (s : State) → After s (repeat_turns n r test s)
repeat_after zero r test g s = going_at_once s
repeat_after (suc n) r test g s =
    after_then s (r s) (tested test (repeat_turns n r test)) (g s)
    (λ t. with_after (test t) t _
    (λ x. either_after (is_true x) t _ _ (at_once t) (repeat_after n r test g t)))

repeat_pair : (n m : ℕ) (r r' : Run) (test : State → Outcome) → n ≤ m → Pair r r' →
    Pair (repeat_turns n r test) (repeat_turns m r' test)
repeat_pair zero m r r' test l p = record {
  grows = repeat_after zero r test p.grows;
  grows' = repeat_after m r' test p.grows';
  steady = repeat_after m r' test p.grows';
}
repeat_pair (suc n) zero r r' test l p = absurd (omega arith)
repeat_pair (suc n) (suc m) r r' test l p =
    pair_then r r' (tested test (repeat_turns n r test)) (tested test (repeat_turns m r' test)) p
    (tested_pair test _ _ (repeat_pair n m r r' test (omega arith) p))

-- ---- statements

-- more turns, the same calls, and calls that go on longer
pub record Wider (a b : Around) : Type 0 where
  pub turns : a.turns ≤ b.turns
  pub calls : b.calls ≡ a.calls
  pub call : (proc : ℕ) (args : List Argument) → Pair (a.call proc args) (b.call proc args)

pub record Good (f : Execution) : Type 0 where
  pub at : (a b : Around) → Wider a b → Pair (f a) (f b)

abbrev pub AllGood : List Execution → Type 0
AllGood [] = Unit {0}
AllGood (f ∷ fs) = Good f × AllGood fs

pub in_turn_pair : (fs : List Execution) → AllGood fs → (a b : Around) → Wider a b →
    Pair (in_turn fs a) (in_turn fs b)
in_turn_pair [] g a b w = record { grows = at_once; grows' = at_once; steady = λ s. refl }
in_turn_pair (f ∷ fs) g a b w = pair_then (f a) (f b) (in_turn fs a) (in_turn fs b) (g.0.at a b w)
    (in_turn_pair fs g.1 a b w)

abbrev pub ArmsGood : List Arm → Type 0
ArmsGood [] = Unit {0}
ArmsGood (arm ∷ arms) = AllGood arm.1 × ArmsGood arms

-- two runs that evaluate the same first
pair_with : {A : Type 0} (a b : Around) → Wider a b →
    (x : List LiveCall → State → Result A TrapKind) (k k' : A → Run) →
    ((y : A) → Pair (k y) (k' y)) → Pair (λ s. with (x a.calls s) s (λ y. k y s))
    (λ s. with (x b.calls s) s (λ y. k' y s))
pair_with a b w x k k' p = record {
  grows = λ s. with_after (x a.calls s) s _ (λ y. (p y).grows s);
  grows' = λ s. with_after (x b.calls s) s _ (λ y. (p y).grows' s);
  steady = λ s.
      subst (λ c. Below (with (x a.calls s) s (λ y. k y s)) (with (x c s) s (λ y. k' y s)))
      (sym w.calls)
      (with_below (x a.calls s) s _ _ (λ y. (p y).steady s));
}

pair_either : (t : Bool) (r r' k k' : Run) → Pair r r' → Pair k k' →
    Pair (λ s. if t then r s else k s) (λ s. if t then r' s else k' s)
pair_either true r r' k k' p q = p
pair_either false r r' k k' p q = q

chosen_pair : (arms : List Arm) (other : List Execution) → ArmsGood arms → AllGood other →
    (a b : Around) → Wider a b → Pair (chosen arms other a) (chosen arms other b)
chosen_pair [] other g h a b w = in_turn_pair other h a b w
chosen_pair (arm ∷ arms) other g h a b w =
    pair_with a b w (λ calls s. arm.0 calls s.store) _ _
    (λ x. pair_either (is_true x) _ _ _ _ (in_turn_pair arm.1 g.0 a b w)
    (chosen_pair arms other g.1 h a b w))

-- a run that depends on no budget
alone : (r : Run) → ((s : State) → After s (r s)) → ((s : State) → Below (r s) (r s)) → Pair r r
alone r g b = record { grows = g; grows' = g; steady = b }

while_loops : (x : Evaluation) (fs : List Execution) → AllGood fs → (a b : Around) → Wider a b →
    Pair (while_turns a.turns (on_state x a) (in_turn fs a))
    (while_turns b.turns (on_state x b) (in_turn fs b))
while_loops x fs g a b w =
    subst (λ c. Pair (while_turns a.turns (on_state x a) (in_turn fs a))
    (while_turns b.turns (λ s. x c s.store) (in_turn fs b))) (sym w.calls)
    (while_pair _ _ (on_state x a) _ _ w.turns (in_turn_pair fs g a b w))

repeat_loops : (x : Evaluation) (fs : List Execution) → AllGood fs → (a b : Around) → Wider a b →
    Pair (repeat_turns a.turns (in_turn fs a) (on_state x a))
    (repeat_turns b.turns (in_turn fs b) (on_state x b))
repeat_loops x fs g a b w =
    subst (λ c. Pair (repeat_turns a.turns (in_turn fs a) (on_state x a))
    (repeat_turns b.turns (in_turn fs b) (λ s. x c s.store))) (sym w.calls)
    (repeat_pair _ _ _ _ (on_state x a) w.turns (in_turn_pair fs g a b w))

store_pair : (l : Location) (y : Value) → Pair (λ s. Normal (store_at s l y))
    (λ s. Normal (store_at s l y))
store_pair l y = alone _ (λ s. record { prefix = same_prefix (done s) }) (λ s. refl)

write_pair : (e : OutEvent) → Pair (λ s. Normal (written s e)) (λ s. Normal (written s e))
write_pair e = alone _ (λ s. record { prefix = (e ∷ [], refl, omega arith) }) (λ s. refl)

read_after : (words : List ℤ) (l : Location) (s : State) → After s (read_to words l s)
read_after [] l s = trapped_at_once _ s
read_after (word ∷ rest) l s = record { prefix = ([], sym (append-nil s.events), omega arith) }

read_below : (words : List ℤ) (l : Location) (s : State) →
    Below (read_to words l s) (read_to words l s)
read_below [] l s = refl
read_below (word ∷ rest) l s = refl

read_pair : (l : Location) → Pair (λ s. read_to s.input l s) (λ s. read_to s.input l s)
read_pair l = alone _ (λ s. read_after s.input l s) (λ s. read_below s.input l s)

module _ (program : Checked) where
  abbrev Steady : RStmt → Type 0
  Steady t = Good (exec program t)

  abbrev SteadyArm : RArm → Type 0
  SteadyArm arm = AllGood (arm_of program arm).1

  all_good : (ts : List ((t : RStmt) × Steady t)) → AllGood (map (exec program) (map (λ e. e.0) ts))
  all_good [] = tt
  all_good (t ∷ ts) = (t.1, all_good ts)

  arms_good : (ts : List ((t : RArm) × SteadyArm t)) →
      ArmsGood (map (arm_of program) (map (λ e. e.0) ts))
  arms_good [] = tt
  arms_good (t ∷ ts) = (t.1, arms_good ts)

  -- a layer whose children each have their proof beside them
  abbrev With : Type 0
  With = RStmt-F ((t : RStmt) × Steady t) ((t : RArm) × SteadyArm t)

  abbrev bare : With → RStmt-F RStmt RArm
  bare = map-RStmt ((t : RStmt) × Steady t) ((t : RArm) × SteadyArm t) RStmt RArm (λ e. e.0)
      (λ e. e.0)

  good_from : (y : RStmt-F RStmt RArm) →
      Good (stmt_step program (map-RStmt RStmt RArm Execution Arm (exec program) (arm_of program)
      y)) → Steady (roll-RStmt y)
  good_from y g = subst Good (sym (exec_roll program y)) g

  stmt_case : (y : With) → Steady (roll-RStmt (bare y))
  stmt_case (RStmt-F.Assign v e) = good_from _ (record {
    at = λ a b w. pair_with a b w (λ calls s. location program v calls s.store) _ _
        (λ l. pair_with a b w (λ calls s. value program e calls s.store) _ _ (λ y. store_pair l y));
  })
  stmt_case (RStmt-F.If arms other) =
      good_from _ (record { at = λ a b w. chosen_pair _ _ (arms_good arms) (all_good other) a b w })
  stmt_case (RStmt-F.While test body) = good_from _ (record {
    at = λ a b w. while_loops (value program test) _ (all_good body) a b w;
  })
  stmt_case (RStmt-F.Repeat body test) = good_from _ (record {
    at = λ a b w. repeat_loops (value program test) _ (all_good body) a b w;
  })
  stmt_case (RStmt-F.Call proc args) = good_from _ (record {
    at = λ a b w. pair_with a b w (λ calls s. arguments program calls s.store args) _ _
        (λ xs. w.call proc.0 xs);
  })
  stmt_case (RStmt-F.Read v) = good_from _ (record {
    at = λ a b w. pair_with a b w (λ calls s. location program v calls s.store) _ _
        (λ l. read_pair l);
  })
  stmt_case (RStmt-F.Write e) = good_from _ (record {
    at = λ a b w. pair_with a b w (λ calls s. value program e calls s.store) _ _
        (λ y. write_pair (event.Number (number y)));
  })
  stmt_case RStmt-F.WriteLine = good_from _ (record { at = λ a b w. write_pair event.Line })

  pub steady : (t : RStmt) → Good (exec program t)
  steady = ind-RStmt Steady SteadyArm
      (λ x y is. subst (λ z. Steady (roll-RStmt z)) is (stmt_case y))
      (λ x y is. subst (λ z. SteadyArm (roll-RArm z)) is
      (subst (λ z. AllGood z.1) (sym (arm_of_roll program _)) (all_good y.body)))

  exec_all_pair : (ts : List RStmt) (a b : Around) → Wider a b → Pair (exec_all program ts a)
      (exec_all program ts b)
  exec_all_pair [] a b w = record { grows = at_once; grows' = at_once; steady = λ s. refl }
  exec_all_pair (t ∷ ts) a b w = pair_then (exec program t a) (exec program t b)
      (exec_all program ts a) (exec_all program ts b) ((steady t).at a b w) (exec_all_pair ts a b w)

  -- ---- calls

  stack_pair : (frames : List ℕ) (calls : List LiveCall) (proc : ℕ) (r r' : Run) → Pair r r' →
      Pair (λ s. on_stack frames calls proc s (r s)) (λ s. on_stack frames calls proc s (r' s))
  stack_pair frames calls proc r r' p =
      pair_either (nat_lt stack_limit (live_frames frames calls + frame_of frames proc)) _ _ r r'
      (alone _ (λ s. trapped_at_once _ s) (λ s. refl)) p

  -- a call does the body of its procedure from the state that it is entered in
  enters : (calls : List LiveCall) (args : List Argument) (r r' : Run) → Pair r r' →
      Pair (λ s. r (record s { store = entered (suc (depth calls)) args s.store }))
      (λ s. r' (record s { store = entered (suc (depth calls)) args s.store }))
  enters calls args r r' p = record {
    grows = λ s. record {
      prefix =
          (p.grows (record s { store = entered (suc (depth calls)) args s.store })).prefix;
    };
    grows' = λ s. record {
      prefix =
          (p.grows' (record s { store = entered (suc (depth calls)) args s.store })).prefix;
    };
    steady = λ s. p.steady (record s { store = entered (suc (depth calls)) args s.store });
  }

  -- a call that the budget does not allow, and one that a greater budget does
  going_pair : (r : Run) → ((s : State) → After s (r s)) → Pair (λ s. Going s) r
  going_pair r g = record { grows = going_at_once; grows' = g; steady = g }

  around_wider : (frames : List ℕ) (n m d e : ℕ) (calls : List LiveCall) → n ≤ m → d ≤ e →
      Wider (around program frames n d calls) (around program frames m e calls)
  around_wider frames n m zero zero calls l h = record {
    turns = l;
    calls = refl;
    call = λ proc args. stack_pair frames calls proc _ _ (going_pair (λ s. Going s) going_at_once);
  }
  around_wider frames n m zero (suc e) calls l h = record {
    turns = l;
    calls = refl;
    call = λ proc args.
        let deeper = around program frames m e (call_with proc args ∷ calls) in
        let same = around_wider frames m m e e (call_with proc args ∷ calls) (omega arith)
        (omega arith) in
        let all = exec_all_pair (body program proc) deeper deeper same in
        stack_pair frames calls proc _ _ (going_pair _ (enters calls args _ _ all).grows);
  }
  around_wider frames n m (suc d) zero calls l h = absurd (omega arith)
  around_wider frames n m (suc d) (suc e) calls l h = record {
    turns = l;
    calls = refl;
    call = λ proc args. stack_pair frames calls proc _ _ (enters calls args _ _
        (exec_all_pair (body program proc) _ _
        (around_wider frames n m d e (call_with proc args ∷ calls) l (omega arith))));
  }

  -- ---- the whole

  completions : (frames : List ℕ) (input : List ℤ) (m n : ℕ) → m ≤ n →
      Below (completion program frames input m) (completion program frames input n)
  completions frames input m n l =
      (exec_all_pair (body program 0) _ _ (around_wider frames m n m n only_body l l)).steady
      (start input)

  stays : (c d : Completion) → Below c d → (progress_of c).ending ≢ None → progress_of d ≡
      progress_of c
  stays (Normal s) d b over = ap progress_of b
  stays (Trapped trap s) d b over = ap progress_of b
  stays (Going s) d b over = absurd (over refl)

  prolongs : (c d : Completion) → Below c d → IsPrefix (progress_of c) (progress_of d)
  prolongs (Normal s) d b = subst (λ e. IsPrefix (progress_of (Normal s)) (progress_of e)) (sym b)
      (same_prefix (progress_of (Normal s)))
  prolongs (Trapped trap s) d b =
      subst (λ e. IsPrefix (progress_of (Trapped trap s)) (progress_of e)) (sym b)
      (same_prefix (progress_of (Trapped trap s)))
  prolongs (Going s) d b = b.prefix

  pub mean_keeps : (frames : List ℕ) (input : List ℤ) → Keeps (mean program frames input)
  mean_keeps frames input = record {
    stays = λ m n l over. stays (completion program frames input m)
        (completion program frames input n) (completions frames input m n l) over;
    grows = λ m n l. prolongs (completion program frames input m)
        (completion program frames input n) (completions frames input m n l);
  }
