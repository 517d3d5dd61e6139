-- At a Call of valid code so many pushes stand as the procedure has parameters.
use Rattle.std.proofs.Common.{◌≡◌, ℕ, zero, suc, ◌/◌, ℤ, Bool, true, false, ◌&&◌, nat_eq, nat_lt}
use Rattle.std.proofs.Common.{if◌then◌else◌, List, [], ◌∷◌, length, map, drop, slice_get, slice_set}
use Rattle.std.proofs.Common.{Option, Some, None, refl, sym, ap, subst}
use Rattle.pra_list.proofs.Options.{some_same}
use Rattle.pra_list.specs.Options.{◌>>=◌}
use Rattle.pra_base.specs.RunEnd.{RunEnd}
use Rattle.pra_base.specs.Words.{stack_limit, word, compares, is_positive}
use Rattle.pra_base.specs.declared.ids.Cond.{Cond}
use Rattle.pra_base.specs.declared.ids.ProcId.{ProcId}
use Rattle.pra_base.specs.declared.code.End.{End}
use Rattle.pra_base.specs.declared.code.End.TheVariants.{Jump, Branch, Return}
use Rattle.pra_base.specs.declared.code.VInstr.{VInstr}
use Rattle.pra_base.specs.declared.code.VInstr.TheVariants as instr
use Rattle.pra_base.specs.declared.code.VProc.{VProc}
use Rattle.pra_base.specs.Code.{kind_of, code_of, instr_at, end_of}
use Rattle.pra_base.specs.Operands.{read_by, written_by}
use Rattle.pra_base.specs.Valid.{PushesLead}
use Rattle.vc_code.specs.declared.value.Object.{Object}
use Rattle.vc_code.specs.declared.value.Object.TheVariants.{Data, Aggregates, Cell}
use Rattle.vc_code.specs.declared.value.Value.{Value}
use Rattle.vc_code.specs.declared.value.Value.TheVariants.{Num}
use Rattle.vc_code.specs.declared.action.Here.{Here}
use Rattle.vc_code.specs.declared.action.Action.{Action}
use Rattle.vc_code.specs.declared.action.Action.TheVariants as action
use Rattle.vc_code.specs.Value.{Held, Words, is_index}
use Rattle.vc_code.specs.Operation.{operate, both, number_at, value_at, placed, address_count}
use Rattle.vc_code.specs.Operation.{number}
use Rattle.vc_code.specs.Machine.{Shape, Activation, State, Machine, here, depth, word_at, object}
use Rattle.vc_code.specs.Machine.{joined, with_aggregates, with_args, calls_with, with_calls}
use Rattle.vc_code.specs.Machine.{with_object, found, with_top, returned, takes, apply, goes_to}
use Rattle.vc_code.specs.Machine.{branched, leave, act, act_on, step, last_set}
use Rattle.vc_code.specs.Selected.{Vars, read, at_point, behind, written, selected, next_of}
use Rattle.vc_code.specs.Selected.{put_all}
use Rattle.vc_code.specs.Selected as high
use Rattle.pl_simulation.proofs.Located.{behind_is}
use Rattle.pl_simulation.proofs.Simulated.{jumped, entered_is}

-- ---- what an instruction comes to, as far as pushes go

abbrev pushes_nothing : Option Action → Bool
pushes_nothing (Some (action.Push x)) = false
pushes_nothing (Some (action.Call p)) = false
pushes_nothing _ = true

bound : {A : Type 0} (o : Option A) (f : A → Option Action) →
    ((x : A) → pushes_nothing (f x) ≡ true) → pushes_nothing (o >>= f) ≡ true
bound None f g = refl
bound (Some x) f g = g x

chosen : (b : Bool) (x y : Option Action) → pushes_nothing x ≡ true → pushes_nothing y ≡ true →
    pushes_nothing (if b then x else y) ≡ true
chosen true x y f g = f
chosen false x y f g = g

module _ (here : Here) (held : List Held) (T : ℕ → ℕ → Type 0) where
  -- what stands before the rest, after an action
  abbrev Then : ℕ → List VInstr → Option Action → Type 0
  Then n rest None = Unit {0}
  Then n rest (Some (action.Push x)) = PushesLead T (suc n) rest
  Then n rest (Some (action.Call p)) = T p.0 n × PushesLead T 0 rest
  Then n rest (Some _) = PushesLead T n rest

  plain : (n : ℕ) (rest : List VInstr) (a : Option Action) → pushes_nothing a ≡ true → (n ≡ 0) ×
      PushesLead T 0 rest → Then n rest a
  plain n rest a e k = then_is a e (subst (λ m. PushesLead T m rest) (sym k.0) k.1)
    where
      then_is : (a : Option Action) → pushes_nothing a ≡ true → PushesLead T n rest → Then n rest a
      then_is None e k = tt
      then_is (Some action.Nothing) e k = k
      then_is (Some (action.Give x)) e k = k
      then_is (Some (action.GiveBoth x y)) e k = k
      then_is (Some (action.Compare x y)) e k = k
      then_is (Some (action.Push x)) e k = cc
      then_is (Some (action.Call p)) e k = cc
      then_is (Some (action.Load x o)) e k = k
      then_is (Some (action.Store x o m)) e k = k
      then_is (Some (action.Tell x)) e k = k
      then_is (Some action.Input) e k = k
      then_is (Some action.Clear) e k = k
      then_is (Some (action.Trap x)) e k = k

  pushed_one : (n : ℕ) (rest : List VInstr) (o : Option Value) → PushesLead T (suc n) rest →
      Then n rest (o >>= λ x. Some (action.Push x))
  pushed_one n rest None k = tt
  pushed_one n rest (Some x) k = k

  operated : (n : ℕ) (rest : List VInstr) (i : VInstr) → PushesLead T n (i ∷ rest) →
      Then n rest (operate here i held)
  operated n rest (instr.Set v m) k = plain n rest (operate here (instr.Set v m) held) refl k
  operated n rest (instr.Copy v s) k = plain n rest _ (bound (value_at held 0) _ (λ x. refl)) k
  operated n rest (instr.Add v s) k = plain n rest _ (bound (both held) _ (λ x. refl)) k
  operated n rest (instr.Sub v s) k = plain n rest _ (bound (both held) _ (λ x. refl)) k
  operated n rest (instr.And v s) k = plain n rest _ (bound (both held) _ (λ x. refl)) k
  operated n rest (instr.Or v s) k = plain n rest _ (bound (both held) _ (λ x. refl)) k
  operated n rest (instr.Xor v s) k = plain n rest _ (bound (both held) _ (λ x. refl)) k
  operated n rest (instr.Mul v s) k = plain n rest _ (bound (both held) _ (λ x. refl)) k
  operated n rest (instr.Neg v) k = plain n rest _ (bound (number_at held 0) _ (λ x. refl)) k
  operated n rest (instr.Shift op v count) k =
      plain n rest _ (bound (number_at held 0) _ (λ x. refl)) k
  operated n rest (instr.Cmp a b) k = plain n rest _ (bound (both held) _ (λ x. refl)) k
  operated n rest (instr.CmpSet c v a b) k = plain n rest _ (bound (both held) _ (λ x. refl)) k
  operated n rest (instr.DivMod q r a d) k =
      plain n rest _ (bound (both held) _ (λ x. chosen (is_positive x.1) _ _ refl refl)) k
  operated n rest (instr.Check i m) k =
      plain n rest _ (bound (number_at held 0) _ (λ x. chosen (is_index x m) _ _ refl refl)) k
  operated n rest (instr.CheckPos d) k =
      plain n rest _ (bound (number_at held 0) _ (λ x. chosen (is_positive x) _ _ refl refl)) k
  operated n rest (instr.Load v a) k = plain n rest _ (bound (placed here a held) _ (λ x. refl)) k
  operated n rest (instr.Store a s) k =
      plain n rest _ (bound (placed here a held) _
      (λ x. bound (number_at held (address_count a)) _ (λ y. refl))) k
  operated n rest (instr.Addr v a) k = plain n rest _ (bound (placed here a held) _ (λ x. refl)) k
  operated n rest (instr.Push s) k = pushed_one n rest (value_at held 0) k
  operated n rest (instr.Call p) k = k
  operated n rest (instr.Read v) k = plain n rest (operate here (instr.Read v) held) refl k
  operated n rest (instr.Write s) k = plain n rest _ (bound (number_at held 0) _ (λ x. refl)) k
  operated n rest instr.Line k = plain n rest (operate here instr.Line held) refl k
  operated n rest instr.Clear k = plain n rest (operate here instr.Clear held) refl k

-- ---- what is left of a block

drop_some : (code : List VInstr) (k : ℕ) (i : VInstr) → slice_get code k ≡ Some i → drop k code ≡
    i ∷ drop (suc k) code
drop_some [] k i e = cc
drop_some (j ∷ code) zero i e = ap (λ x. x ∷ code) (some_same j i e)
drop_some (j ∷ code) (suc k) i e = drop_some code k i e

drop_none : (code : List VInstr) (k : ℕ) → slice_get code k ≡ None → drop k code ≡ []
drop_none [] zero e = refl
drop_none [] (suc k) e = refl
drop_none (j ∷ code) zero e = cc
drop_none (j ∷ code) (suc k) e = drop_none code k e

-- ---- live calls

module _ (T : ℕ → ℕ → Type 0) (codes : List VProc) (frames : List ℕ)
    (starts : (n b : ℕ) → PushesLead T 0 (code_of (high.code_of codes n) b)) where
  abbrev left : Activation Vars → List VInstr
  left c = drop c.home.index (code_of (high.code_of codes c.proc) c.home.block)

  -- with n pushes that wait at the first call, and none at those below
  abbrev pub AllLed : ℕ → List (Activation Vars) → Type 0
  AllLed n [] = Unit {0}
  AllLed n (c ∷ calls) = PushesLead T n (left c) × AllLed 0 calls

  abbrev pub Pending : State Vars → Type 0
  Pending s = AllLed (length s.pushed) (s.top ∷ s.below)

  abbrev m : Machine Vars
  m = selected codes frames

  found_led : {X : Type 0} (s : State Vars) (o : Option X) (go : X → State Vars) → Pending s →
      ((x : X) → o ≡ Some x → Pending (go x)) → Pending (found s o go)
  found_led s None go k f = k
  found_led s (Some x) go k f = f x refl

  either_led : (b : Bool) (n : ℕ) (xs ys : List (Activation Vars)) → AllLed n xs → AllLed n ys →
      AllLed n (if b then xs else ys)
  either_led true n xs ys f g = f
  either_led false n xs ys f g = g

  either_pending : (b : Bool) (s t : State Vars) → Pending s → Pending t →
      Pending (if b then s else t)
  either_pending true s t f g = f
  either_pending false s t f g = g

  calls_led : (n : ℕ) (shape : ℕ → Shape) (calls : List (Activation Vars)) (x : Object) (w : ℕ)
      (h : Held) → AllLed n calls → AllLed n (calls_with shape calls x w h)
  calls_led n shape [] x w h k = tt
  calls_led n shape (c ∷ calls) Data w h k = k
  calls_led n shape (c ∷ calls) (Aggregates a sum) w h k =
      either_led (nat_eq a (length calls) && nat_eq sum (depth shape (c ∷ calls))) n
      (with_aggregates c (slice_set c.aggregates w h) ∷ calls)
      (c ∷ calls_with shape calls (Aggregates a sum) w h)
      (k.0, k.1) (k.0, calls_led 0 shape calls (Aggregates a sum) w h k.1)
  calls_led n shape (c ∷ calls) (Cell a below i) w h k =
      either_led (nat_eq a (length calls) && nat_eq below (depth shape calls)) n
      (with_args c (last_set c.args i h) ∷ calls)
      (c ∷ calls_with shape calls (Cell a below i) w h)
      (k.0, k.1) (k.0, calls_led 0 shape calls (Cell a below i) w h k.1)

  with_calls_led : (s : State Vars) (calls : List (Activation Vars)) → Pending s →
      AllLed (length s.pushed) calls → Pending (with_calls s calls)
  with_calls_led s [] k l = k
  with_calls_led s (c ∷ calls) k l = l

  object_led : (shape : ℕ → Shape) (s : State Vars) (x : Object) (w : ℕ) (h : Held) → Pending s →
      Pending (with_object shape s x w h)
  object_led shape s Data w h k = k
  object_led shape s (Aggregates a sum) w h k =
      with_calls_led s _ k (calls_led (length s.pushed) shape (s.top ∷ s.below) (Aggregates a sum) w
      h k)
  object_led shape s (Cell a below i) w h k =
      with_calls_led s _ k (calls_led (length s.pushed) shape (s.top ∷ s.below) (Cell a below i) w h
      k)

  begun_led : (p : ℕ) (args : Words) (c : Activation Vars) (o : Option VProc) → slice_get codes p ≡
      o → high.begin p o args ≡ Some c → PushesLead T 0 (left c)
  begun_led p args c None is e = cc
  begun_led p args c (Some code) is e =
      let begun : high.begun p code args ≡ c = entered_is (nat_lt 0 (length code.blocks))
      (high.begun p code args) c e in
      subst (λ d. PushesLead T 0 (left d)) begun (starts p 0)

  module _ (s : State Vars) (k : Pending s) (rest : List VInstr)
      (after : List Value → Option (Activation Vars))
      (behind_left : (xs : List Value) (c : Activation Vars) → after xs ≡ Some c → left c ≡ rest)
    where
      top_led : (n : ℕ) (xs : List Value) (c : Activation Vars) → after xs ≡ Some c →
          PushesLead T n rest → PushesLead T n (left c)
      top_led n xs c e l = subst (PushesLead T n) (sym (behind_left xs c e)) l

      takes_led : (input : List ℤ) → PushesLead T (length s.pushed) rest →
          Pending (takes s input after)
      takes_led [] l = k
      takes_led (x ∷ input) l = found_led s (after (Num (word x) ∷ [])) _ k
          (λ c e. (top_led (length s.pushed) (Num (word x) ∷ []) c e l, k.1))

      apply_led : (here : Here) (held : List Held) (a : Option Action) →
          Then here held T (length s.pushed) rest a → Pending (apply m after a s)
      apply_led here held None l = k
      apply_led here held (Some action.Nothing) l =
          found_led s (after []) _ k (λ c e. (top_led (length s.pushed) [] c e l, k.1))
      apply_led here held (Some (action.Give x)) l = found_led s (after (x ∷ [])) _ k
          (λ c e. (top_led (length s.pushed) (x ∷ []) c e l, k.1))
      apply_led here held (Some (action.GiveBoth x y)) l = found_led s (after (x ∷ y ∷ [])) _ k
          (λ c e. (top_led (length s.pushed) (x ∷ y ∷ []) c e l, k.1))
      apply_led here held (Some (action.Compare a b)) l =
          found_led s (after []) _ k (λ c e. (top_led (length s.pushed) [] c e l, k.1))
      apply_led here held (Some (action.Push x)) l =
          found_led s (after []) _ k (λ c e. (top_led (suc (length s.pushed)) [] c e l, k.1))
      apply_led here held (Some (action.Call p)) l =
          found_led s (after []) _ k
          (λ c e. found_led s (m.begin p.0 s.pushed) _ k
          (λ callee g. either_pending (nat_lt stack_limit (depth m.shape (callee ∷ c ∷ s.below))) _
          _
          k (
            begun_led p.0 s.pushed callee (slice_get codes p.0) refl g,
            (top_led 0 [] c e l.1, k.1),
          )))
      apply_led here held (Some (action.Load x o)) l =
          found_led s (number (joined (word_at (object m.shape s x) o))) _ k
          (λ n _. found_led s (after (Num n ∷ [])) _ k
          (λ c e. (top_led (length s.pushed) (Num n ∷ []) c e l, k.1)))
      apply_led here held (Some (action.Store x o n)) l =
          found_led s (after []) _ k
          (λ c e. found_led s (word_at (object m.shape (with_top s c) x) o) _ k
          (λ old _. object_led m.shape (with_top s c) x (o / 4) (Some (Num n))
          (top_led (length s.pushed) [] c e l, k.1)))
      apply_led here held (Some (action.Tell x)) l =
          found_led s (after []) _ k (λ c e. (top_led (length s.pushed) [] c e l, k.1))
      apply_led here held (Some action.Input) l = takes_led s.input l
      apply_led here held (Some action.Clear) l =
          found_led s (after []) _ k (λ c e. (top_led (length s.pushed) [] c e l, k.1))
      apply_led here held (Some (action.Trap x)) l = k

  -- ---- the end of a block

  goes_led : (s : State Vars) → Pending s → length s.pushed ≡ 0 → (b : ℕ) → Pending (goes_to m s b)
  goes_led s k none b =
      found_led s (m.jump b s.top) _ k
      (λ c e. let is = jumped s.top c b (slice_get (high.code_of codes s.top.proc).blocks b) e in (
        subst (λ d. PushesLead T (length s.pushed) (left d)) is
            (subst (λ n. PushesLead T n (code_of (high.code_of codes s.top.proc) b)) (sym none)
            (starts s.top.proc b)),
        k.1,
      ))

  branched_led : (s : State Vars) → Pending s → length s.pushed ≡ 0 →
      (c : Cond) (one other : ℕ) (o : Option (ℕ × ℕ)) → Pending (branched m c one other o s)
  branched_led s k none c one other None = k
  branched_led s k none c one other (Some (a, b)) =
      goes_led s k none (if compares c a b then one else other)

  returned_led : (s : State Vars) → Pending s → length s.pushed ≡ 0 →
      (calls : List (Activation Vars)) → AllLed 0 calls → Pending (returned s calls)
  returned_led s k none [] l = k
  returned_led s k none (c ∷ calls) l = (subst (λ n. PushesLead T n (left c)) (sym none) l.0, l.1)

  leave_led : (s : State Vars) → Pending s → length s.pushed ≡ 0 → (e : End) → Pending (leave m e s)
  leave_led s k none (Jump b) = goes_led s k none b.0
  leave_led s k none (Branch c one other) = branched_led s k none c one.0 other.0 s.compared
  leave_led s k none Return = returned_led s k none s.below k.1

  -- ---- a step

  abbrev at_top : State Vars → Option VInstr
  at_top s = instr_at (high.code_of codes s.top.proc) s.top.home.block s.top.home.index

  -- what its operands hold
  abbrev read_at : State Vars → VInstr → List Held
  read_at s i = map (read (kind_of (high.code_of codes s.top.proc)) s.top.home.held) (read_by i)

  -- the instruction that comes next, with the rest behind it
  top_code : (s : State Vars) (i : VInstr) → at_top s ≡ Some i → Pending s →
      PushesLead T (length s.pushed)
      (i ∷ drop (suc s.top.home.index) (code_of (high.code_of codes s.top.proc) s.top.home.block))
  top_code s i is k = subst (PushesLead T (length s.pushed))
      (drop_some (code_of (high.code_of codes s.top.proc) s.top.home.block) s.top.home.index i is)
      k.0

  next_led : (s : State Vars) → Pending s → (o : Option VInstr) → at_top s ≡ o →
      Pending (act m (next_of (high.code_of codes s.top.proc) s.top o) s)
  next_led s k (Some i) is =
      let rest = drop (suc s.top.home.index)
      (code_of (high.code_of codes s.top.proc) s.top.home.block) in
      apply_led s k rest (λ xs. written s.top (written_by i) xs)
      (λ xs c e. let b = behind_is s.top c (put_all (Some s.top.home.held) (written_by i) xs) e in
      ap left b.2)
      (here m.shape s) (read_at s i) (operate (here m.shape s) i (read_at s i))
      (operated (here m.shape s) (read_at s i) T (length s.pushed) rest i (top_code s i is k))
  next_led s k None is = leave_led s k
      (subst (PushesLead T (length s.pushed))
      (drop_none (code_of (high.code_of codes s.top.proc) s.top.home.block) s.top.home.index is)
      k.0) (end_of (high.code_of codes s.top.proc) s.top.home.block)

  pub step_led : (s : State Vars) → Pending s → Pending (step m s)
  step_led s k = on_led s.over
    where
      on_led : (o : Option RunEnd) → Pending (act_on m o s)
      on_led (Some e) = k
      on_led None = next_led s k (at_top s) refl

  -- a Call is of a procedure that takes what was pushed
  pub call_takes : (s : State Vars) → Pending s → (i : VInstr) (held : List Held) (p : ProcId) →
      at_top s ≡ Some i → operate (here m.shape s) i held ≡ Some (action.Call p) →
      T p.0 (length s.pushed)
  call_takes s k i held p is e =
      let rest = drop (suc s.top.home.index)
      (code_of (high.code_of codes s.top.proc) s.top.home.block) in
      let l : Then (here m.shape s) held T (length s.pushed) rest (Some (action.Call p)) =
      subst (Then (here m.shape s) held T (length s.pushed) rest) e
      (operated (here m.shape s) held T (length s.pushed) rest i (top_code s i is k)) in
      l.0
