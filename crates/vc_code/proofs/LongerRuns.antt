-- Every machine of live calls is a machine: what is over stays, and a step only adds to the events
-- and to the words taken.
use Rattle.std.proofs.Common.{◌≡◌, ◌≢◌, ℕ, suc, ◌≤◌, ◌/◌, ℤ, Bool, true, false, nat_lt}
use Rattle.std.proofs.Common.{if◌then◌else◌, List, [], ◌∷◌, ◌++◌, Option, Some, None, refl, sym}
use Rattle.std.proofs.Common.{◌∙◌, arith, append-nil}
use Rattle.pra_base.specs.Agreement.{Keeps}
use Rattle.pra_base.specs.System.{IsMachine}
use Rattle.pra_base.specs.RunEnd.{RunEnd}
use Rattle.pra_base.proofs.Simulation.{keeps}
use Rattle.pra_base.specs.declared.event.OutEvent.{OutEvent}
use Rattle.pra_base.specs.declared.ids.Cond.{Cond}
use Rattle.pra_base.specs.declared.code.End.{End}
use Rattle.pra_base.specs.declared.code.End.TheVariants.{Jump, Branch, Return}
use Rattle.vc_code.specs.declared.value.Object.{Object}
use Rattle.vc_code.specs.declared.value.Object.TheVariants.{Data, Aggregates, Cell}
use Rattle.vc_code.specs.declared.value.Value.{Value}
use Rattle.vc_code.specs.declared.value.Value.TheVariants.{Num}
use Rattle.vc_code.specs.declared.action.Action.{Action}
use Rattle.vc_code.specs.declared.action.Action.TheVariants.{Nothing, Give, GiveBoth, Compare, Push}
use Rattle.vc_code.specs.declared.action.Action.TheVariants.{Call, Load, Store, Tell, Input, Clear}
use Rattle.vc_code.specs.declared.action.Action.TheVariants.{Trap}
use Rattle.vc_code.specs.Value.{Held}
use Rattle.pra_base.specs.Words.{word, compares, stack_limit}
use Rattle.vc_code.specs.Operation.{operate, number}
use Rattle.vc_code.specs.Machine.{Shape, Activation, State, Next, Instr, Moves, Ends, Machine, here}
use Rattle.vc_code.specs.Machine.{with_calls, with_object, found, with_top, returned, takes, apply}
use Rattle.vc_code.specs.Machine.{branched, leave, act, act_on, step, view, progress, depth}
use Rattle.vc_code.specs.Machine.{calls_with, joined, word_at, object}

record Grows {H : Type 0} (s t : State H) : Type 0 where
  more : List OutEvent
  events : t.events ≡ s.events ++ more
  taken : s.taken ≤ t.taken

still : {H : Type 0} (s t : State H) → t.events ≡ s.events → t.taken ≡ s.taken → Grows s t
still s t same count = record {
  more = [];
  events = same ∙ sym (append-nil s.events);
  taken =
      omega arith;
}

found_grows : {H A : Type 0} (s : State H) (o : Option A) (go : A → State H) →
    ((x : A) → Grows s (go x)) → Grows s (found s o go)
found_grows s None go f = still s _ refl refl
found_grows s (Some x) go f = f x

if_grows : {H : Type 0} (b : Bool) (s t u : State H) → Grows s t → Grows s u →
    Grows s (if b then t else u)
if_grows true s t u f g = f
if_grows false s t u f g = g

calls_still : {H : Type 0} (s : State H) (c : Activation H) (calls : List (Activation H)) →
    Grows s (with_calls (with_top s c) calls)
calls_still s c [] = still s _ refl refl
calls_still s c (d ∷ calls) = still s _ refl refl

object_still : {H : Type 0} (shape : ℕ → Shape) (s : State H) (c : Activation H) (x : Object)
    (w : ℕ) (h : Held) → Grows s (with_object shape (with_top s c) x w h)
object_still shape s c Data w h = still s _ refl refl
object_still shape s c (Aggregates n sum) w h =
    calls_still s c (calls_with shape (c ∷ s.below) (Aggregates n sum) w h)
object_still shape s c (Cell n below i) w h =
    calls_still s c (calls_with shape (c ∷ s.below) (Cell n below i) w h)

le_suc : (n : ℕ) → n ≤ suc n
le_suc n = omega arith

le_same : (n : ℕ) → n ≤ n
le_same n = omega arith

takes_grows : {H : Type 0} (s : State H) (input : List ℤ)
    (after : List Value → Option (Activation H)) → Grows s (takes s input after)
takes_grows s [] after = still s _ refl refl
takes_grows s (n ∷ rest) after = found_grows s (after (Num (word n) ∷ [])) _
    (λ c. record { more = []; events = sym (append-nil s.events); taken = le_suc s.taken })

apply_grows : {H : Type 0} (m : Machine H) (after : List Value → Option (Activation H))
    (a : Option Action) (s : State H) → Grows s (apply m after a s)
apply_grows m after None s = still s _ refl refl
apply_grows m after (Some Nothing) s = found_grows s (after []) _ (λ c. still s _ refl refl)
apply_grows m after (Some (Give x)) s = found_grows s (after (x ∷ [])) _ (λ c. still s _ refl refl)
apply_grows m after (Some (GiveBoth x y)) s = found_grows s (after (x ∷ y ∷ [])) _
    (λ c. still s _ refl refl)
apply_grows m after (Some (Compare a b)) s = found_grows s (after []) _ (λ c. still s _ refl refl)
apply_grows m after (Some (Push x)) s = found_grows s (after []) _ (λ c. still s _ refl refl)
apply_grows m after (Some (Call p)) s =
    found_grows s (after []) _
    (λ c. found_grows s (m.begin p.0 s.pushed) _
    (λ callee. if_grows (nat_lt stack_limit (depth m.shape (callee ∷ c ∷ s.below))) s _ _
    (still s _ refl refl) (still s _ refl refl)))
apply_grows m after (Some (Load x o)) s =
    found_grows s (number (joined (word_at (object m.shape s x) o))) _
    (λ n. found_grows s (after (Num n ∷ [])) _ (λ c. still s _ refl refl))
apply_grows m after (Some (Store x o n)) s =
    found_grows s (after []) _
    (λ c. found_grows s (word_at (object m.shape (with_top s c) x) o) _
    (λ old. object_still m.shape s c x (o / 4) (Some (Num n))))
apply_grows m after (Some (Tell e)) s =
    found_grows s (after []) _
    (λ c. record { more = e ∷ []; events = refl; taken = le_same s.taken })
apply_grows m after (Some Input) s = takes_grows s s.input after
apply_grows m after (Some Clear) s = found_grows s (after []) _ (λ c. still s _ refl refl)
apply_grows m after (Some (Trap k)) s = still s _ refl refl

branched_grows : {H : Type 0} (m : Machine H) (k : Cond) (one other : ℕ) (o : Option (ℕ × ℕ))
    (s : State H) → Grows s (branched m k one other o s)
branched_grows m k one other None s = still s _ refl refl
branched_grows m k one other (Some (a, b)) s =
    found_grows s (m.jump (if compares k a b then one else other) s.top) _
    (λ c. still s _ refl refl)

returned_grows : {H : Type 0} (s : State H) (calls : List (Activation H)) →
    Grows s (returned s calls)
returned_grows s [] = still s _ refl refl
returned_grows s (c ∷ calls) = still s _ refl refl

leave_grows : {H : Type 0} (m : Machine H) (e : End) (s : State H) → Grows s (leave m e s)
leave_grows m (Jump b) s = found_grows s (m.jump b.0 s.top) _ (λ c. still s _ refl refl)
leave_grows m (Branch k one other) s = branched_grows m k one.0 other.0 s.compared s
leave_grows m Return s = returned_grows s s.below

act_grows : {H : Type 0} (m : Machine H) (n : Next H) (s : State H) → Grows s (act m n s)
act_grows m (Instr i held after) s = apply_grows m after (operate (here m.shape s) i held) s
act_grows m (Moves after) s = found_grows s after _ (λ c. still s _ refl refl)
act_grows m (Ends e) s = leave_grows m e s

on_grows : {H : Type 0} (m : Machine H) (o : Option RunEnd) (s : State H) → Grows s (act_on m o s)
on_grows m (Some e) s = still s s refl refl
on_grows m None s = act_grows m (m.next s.top) s

on_stays : {H : Type 0} (m : Machine H) (o : Option RunEnd) (s : State H) → o ≢ None →
    act_on m o s ≡ s
on_stays m (Some e) s over = refl
on_stays m None s over = absurd (over refl)

pub is_machine : {H : Type 0} (m : Machine H) → IsMachine (step m) view
is_machine m = record {
  stays = λ s over. on_stays m s.over s over;
  grows = λ s. let g =
      on_grows m s.over s in (g.more, g.events, g.taken);
}

-- longer runs of any machine keep an ending and prolong the rest
pub longer_runs_keep : {H : Type 0} (m : Machine H) (s : State H) → Keeps (progress m s)
longer_runs_keep m s = keeps (step m) view (is_machine m) s
