-- The machine as one of the machines whose runs are compared, and how a run goes on.
use Rattle.std.proofs.Common.{◌≡◌, ◌≢◌, ℕ, zero, suc, ◌+◌, ◌-◌, ◌≤◌, true, false, List, [], ◌++◌}
use Rattle.std.proofs.Common.{None, refl, sym, ap, ◌∙◌, subst, arith, append-nil, append_assoc}
use Rattle.std.proofs.Common.{length-append, ◌⊎◌, ⊎_elim}
use Rattle.std.specs.Prelude.{ℤ, Result, Ok, Err, OnErr}
use Rattle.pra_base.specs.declared.event.OutEvent.{OutEvent}
use Rattle.pra_base.specs.Agreement.{IsPrefix, Keeps}
use Rattle.pra_base.specs.System.{run, IsMachine}
use Rattle.pra_base.proofs.Simulation.{run_more, run_over, keeps}
use Rattle.ia_code.specs.declared.image.Image.{Image}
use Rattle.ia_step.specs.declared.out.StepOut.{StepOut}
use Rattle.ia_step.specs.declared.out.StepOut.TheVariants as out
use Rattle.ia_step.specs.declared.out.Ending.{Ending}
use Rattle.ia_step.specs.declared.out.Ending.TheVariants as ending
use Rattle.ia_step.specs.State.{State, start}
use Rattle.ia_step.specs.Step.{step}
use Rattle.ia_step.specs.Kept.{Kept}
use Rattle.ia_step.specs.Run.{Ran, noted, begin, after, advance_from, advance, is_going, ran}
use Rattle.ia_step.specs.Run.{run_end, view, progress}
use Rattle.ia_step.proofs.StepsKeep.{kept_step}

-- a step only adds to the events
pub noted_more : (events : List OutEvent) (o : StepOut) → (more : List OutEvent) ×
    (noted events o ≡ events ++ more)
noted_more events (out.Wrote n) = (_, refl)
noted_more events out.Line = (_, refl)
noted_more events out.Going = ([], sym (append-nil events))
noted_more events out.Ended = ([], sym (append-nil events))
noted_more events (out.Trap k) = ([], sym (append-nil events))
noted_more events (out.Fault k) = ([], sym (append-nil events))

here : (r : Ran) → IsPrefix (view r) (view r)
here r = ([], sym (append-nil r.events), omega arith)

grows_from : (r : Ran) (e : Ending) → IsPrefix (view r) (view (advance_from r e))
grows_from r ending.Going = let more = noted_more r.events (step r.state).1 in
    (more.0, more.1, omega (arith, (kept_step r.state).taken))
grows_from r ending.Ended = here r
grows_from r (ending.Trap k) = here r
grows_from r (ending.Fault k) = here r

stays_from : (r : Ran) (e : Ending) → run_end e ≢ None → advance_from r e ≡ r
stays_from r ending.Going over = absurd (over refl)
stays_from r ending.Ended over = refl
stays_from r (ending.Trap k) over = refl
stays_from r (ending.Fault k) over = refl

pub is_machine : IsMachine advance view
is_machine = record {
  stays = λ r over. stays_from r r.state.ending over;
  grows =
      λ r. grows_from r r.state.ending;
}

pub progress_keeps : (image : Image) (input : List ℤ) → Keeps (progress image input)
progress_keeps image input = keeps advance view is_machine (begin (start image input))

-- one step more
pub ran_more : (s : State) (m : ℕ) → ran s (m + 1) ≡ advance (ran s m)
ran_more s m = run_more advance m 1 (begin s)

going_is : (e : Ending) → is_going e ≡ true → e ≡ ending.Going
going_is ending.Going h = refl
going_is ending.Ended h = cc
going_is (ending.Trap k) h = cc
going_is (ending.Fault k) h = cc

over_is : (e : Ending) → is_going e ≡ false → run_end e ≢ None
over_is ending.Going h = λ _. cc
over_is ending.Ended h = λ e. cc
over_is (ending.Trap k) h = λ e. cc
over_is (ending.Fault k) h = λ e. cc

kept_twice : (s t u : State) (m n : ℕ) → Kept s t m → Kept t u n → Kept s u (m + n)
kept_twice s t u m n p q = record {
  code = q.code ∙ p.code;
  data_size = q.data_size ∙ p.data_size;
  stack_size = q.stack_size ∙ p.stack_size;
  front = p.front ++ q.front;
  input = p.input ∙ ap (λ l. p.front ++ l) q.input ∙ sym (append_assoc p.front q.front u.input);
  taken = omega (arith, p.taken, q.taken, length-append p.front q.front);
  few = omega (arith, p.few, q.few, length-append p.front q.front);
}

kept_at_once : (r : Ran) (n : ℕ) → Kept r.state r.state n
kept_at_once r n = record {
  code = refl;
  data_size = refl;
  stack_size = refl;
  front = [];
  input =
      refl;
  taken = omega arith;
  few = omega arith;
}

kept_advance : (r : Ran) (e : Ending) → Kept r.state (advance_from r e).state 1
kept_advance r ending.Going = kept_step r.state
kept_advance r ending.Ended = kept_at_once r 1
kept_advance r (ending.Trap k) = kept_at_once r 1
kept_advance r (ending.Fault k) = kept_at_once r 1

pub kept_run : (m : ℕ) (r : Ran) → Kept r.state (run advance m r).state m
kept_run zero r = kept_at_once r 0
kept_run (suc m) r =
    let e : 1 + m ≡ suc m = omega arith in
    subst (λ n. Kept r.state (run advance m (advance r)).state n) e
    (kept_twice r.state (advance r).state (run advance m (advance r)).state 1 m
    (kept_advance r r.state.ending) (kept_run m (advance r)))

-- A run of k steps from s has come to t.
module _ (s t : State) (k : ℕ) (events : List OutEvent)
    (same : ran s k ≡ record { state = t; events = events; steps = k }) where
  -- it goes on by the next step
  pub stepped : (new : State) (x : StepOut) → is_going t.ending ≡ true →
      ◌≡◌ {A = State × StepOut} (new, x) (step t) →
      ran s (k + 1) ≡ record { state = new; events = noted events x; steps = k + 1 }
  stepped new x going e =
      let r : Ran = record { state = t; events = events; steps = k } in
      ran_more s k ∙ ap advance same ∙ ap (λ e. advance_from r e) (going_is t.ending going)
      ∙ ap (after r) (sym e)

  -- it has come to m steps where m is k, or where t has ended
  pub finished : (m : ℕ) → k ≤ m → (m ≤ k) ⊎ (is_going t.ending ≡ false) → ran s m ≡
      record { state = t; events = events; steps = k }
  finished m le c =
      ⊎_elim
      (λ (g : m ≤ k). let z : m ≡ k = omega arith in ap (ran s) z ∙ same)
      (λ (o : is_going t.ending ≡ false).
      let z : m ≡ k + (m - k) = omega arith in
      let over : (view (ran s k)).ending ≢ None = subst (λ (r : Ran). (view r).ending ≢ None)
      (sym same) (over_is t.ending o) in
      ap (ran s) z ∙ run_more advance k (m - k) (begin s) ∙ run_over advance view is_machine (m - k)
      (ran s k) over ∙ same)
      c

  pub kept_here : Kept s t k
  kept_here = subst (λ (r : Ran). Kept s r.state k) same (kept_run k (begin s))

pub on_err : {X E : Type 0} (P : Type 0) (r : Result X E) → P → OnErr r P
on_err P (Ok x) p = tt
on_err P (Err e) p = p

-- Longer runs

split_ran : (s : State) (m n : ℕ) → m ≤ n → ran s n ≡ run advance (n - m) (ran s m)
split_ran s m n le = let e : n ≡ m + (n - m) = omega arith in ap (ran s) e ∙ run_more advance m
    (n - m) (begin s)

pub events_grow : (s : State) (m n : ℕ) → m ≤ n → (more : List OutEvent) ×
    ((ran s n).events ≡ (ran s m).events ++ more)
events_grow s m n le = let p = (progress_keeps_from s).grows m n le in (p.0, p.1)
  where
    progress_keeps_from : (s : State) → Keeps (λ n. view (ran s n))
    progress_keeps_from s = keeps advance view is_machine (begin s)

steps_from : (r : Ran) (e : Ending) → (r.steps ≤ (advance_from r e).steps) ×
    ((advance_from r e).steps ≤ r.steps + 1)
steps_from r ending.Going = (omega arith, omega arith)
steps_from r ending.Ended = (omega arith, omega arith)
steps_from r (ending.Trap k) = (omega arith, omega arith)
steps_from r (ending.Fault k) = (omega arith, omega arith)

steps_run : (m : ℕ) (r : Ran) → (r.steps ≤ (run advance m r).steps) ×
    ((run advance m r).steps ≤ r.steps + m)
steps_run zero r = (omega arith, omega arith)
steps_run (suc m) r =
    let one = steps_from r r.state.ending in
    let rest = steps_run m (advance r) in
    (omega (arith, one.0, rest.0), omega (arith, one.1, rest.1))

pub steps_grow : (s : State) (m n : ℕ) → m ≤ n → (ran s m).steps ≤ (ran s n).steps
steps_grow s m n le = subst (λ (r : Ran). (ran s m).steps ≤ r.steps) (sym (split_ran s m n le))
    (steps_run (n - m) (ran s m)).0

pub steps_most : (s : State) (m : ℕ) → (ran s m).steps ≤ m
steps_most s m = let most = (steps_run m (begin s)).1 in omega (arith, most)

-- a machine that is over stays so
stopped : (m : ℕ) (r : Ran) (e : Ending) → r.state.ending ≡ e → run_end e ≢ None →
    (run advance m r).state.ending ≢ ending.Going
stopped m r e is over =
    let same : run advance m r ≡ r = run_over advance view is_machine m r
    (subst (λ e. run_end e ≢ None) (sym is) over) in
    λ going. over (ap run_end (sym is ∙ ap (λ (r : Ran). r.state.ending) (sym same) ∙ going))

-- one that is still going on has made all its steps
all_from : (m : ℕ) (r : Ran) (e : Ending) → r.state.ending ≡ e →
    (run advance (suc m) r).state.ending ≡ ending.Going →
    (run advance m (advance r)).steps ≡ (advance r).steps + m → (run advance (suc m) r).steps ≡
    r.steps + suc m
all_from m r ending.Going is going rest =
    let one : (advance r).steps ≡ r.steps + 1 = ap (λ (e : Ending). (advance_from r e).steps) is in
    omega (arith, one, rest)
all_from m r ending.Ended is going rest = absurd (stopped (suc m) r ending.Ended is (λ e. cc) going)
all_from m r (ending.Trap k) is going rest =
    absurd (stopped (suc m) r (ending.Trap k) is (λ e. cc) going)
all_from m r (ending.Fault k) is going rest =
    absurd (stopped (suc m) r (ending.Fault k) is (λ e. cc) going)

all_run : (m : ℕ) (r : Ran) → (run advance m r).state.ending ≡ ending.Going →
    (run advance m r).steps ≡ r.steps + m
all_run zero r going = omega arith
all_run (suc m) r going = all_from m r r.state.ending refl going (all_run m (advance r) going)

pub steps_all : (s : State) (m : ℕ) → (ran s m).state.ending ≡ ending.Going → (ran s m).steps ≡ m
steps_all s m going = let all = all_run m (begin s) going in omega (arith, all)

-- Two runs in a row: what the second one does, behind what r did
behind : Ran → Ran → Ran
behind r q = record { state = q.state; events = r.events ++ q.events; steps = r.steps + q.steps }

noted-append : (a b : List OutEvent) (o : StepOut) → noted (a ++ b) o ≡ a ++ noted b o
noted-append a b (out.Wrote n) = append_assoc a b _
noted-append a b out.Line = append_assoc a b _
noted-append a b out.Going = refl
noted-append a b out.Ended = refl
noted-append a b (out.Trap k) = refl
noted-append a b (out.Fault k) = refl

advance-behind : (r q : Ran) (e : Ending) → advance_from (behind r q) e ≡
    behind r (advance_from q e)
unfolding behind
advance-behind r q ending.Going =
    let count : r.steps + q.steps + 1 ≡ r.steps + (q.steps + 1) = omega arith in
    rw (noted-append r.events q.events (step q.state).1, count) refl
advance-behind r q ending.Ended = refl
advance-behind r q (ending.Trap k) = refl
advance-behind r q (ending.Fault k) = refl

run-behind : (n : ℕ) (r q : Ran) → run advance n (behind r q) ≡ behind r (run advance n q)
unfolding behind
run-behind zero r q = refl
run-behind (suc n) r q = ap (run advance n) (advance-behind r q q.state.ending)
    ∙ run-behind n r (advance q)

behind-begin : (r : Ran) → behind r (begin r.state) ≡ r
unfolding behind
behind-begin r =
    let count : r.steps + 0 ≡ r.steps = omega arith in
    rw (append-nil r.events, count) refl

pub joined : (s : State) (m n : ℕ) → ran s (m + n) ≡ record {
  state = (ran (ran s m).state n).state;
  events = (ran s m).events ++ (ran (ran s m).state n).events;
  steps = (ran s m).steps + (ran (ran s m).state n).steps;
}
unfolding behind
joined s m n =
    let r : Ran = ran s m in
    run_more advance m n (begin s) ∙ ap (run advance n) (sym (behind-begin r))
    ∙ run-behind n r (begin r.state)
