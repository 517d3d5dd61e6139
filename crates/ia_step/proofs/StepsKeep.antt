-- No step changes the code, the input or the size of a region, and none takes more than one input
-- word; and its answer tells the ending.
use Rattle.std.proofs.Common.{◌≡◌, ◌≢◌, ℕ, Bool, true, false, length, Option, Some, None, refl, sym}
use Rattle.std.proofs.Common.{ap, ◌∙◌, subst, arith}
use Rattle.std.specs.Prelude.{Result, Ok, Err, ℤ, if◌then◌else◌, List, [], ◌∷◌}
use Rattle.ia_code.specs.declared.services.Service.{Service}
use Rattle.ia_code.specs.declared.services.Service.TheVariants as services
use Rattle.ia_code.specs.Services.{service_of, trap_of}
use Rattle.ia_code.specs.Regions.{data_base, stack_base}
use Rattle.pra_base.specs.declared.event.TrapKind.{TrapKind}
use Rattle.pra_base.specs.declared.ids.ShiftOp.{ShiftOp}
use Rattle.ia_code.specs.declared.ins.Reg.{Reg}
use Rattle.ia_code.specs.declared.ins.AluOp.{AluOp}
use Rattle.ia_code.specs.declared.ins.AluOp.TheVariants.{Add, Or, And, Sub, Xor, Cmp}
use Rattle.ia_code.specs.declared.ins.Rm.{Rm}
use Rattle.ia_code.specs.declared.ins.Rm.TheVariants as rm
use Rattle.ia_code.specs.declared.ins.Ins.{Ins}
use Rattle.ia_code.specs.declared.ins.Ins.TheVariants.{MovRmR, MovRRm, MovRI, MovRmI, AluRmR}
use Rattle.ia_code.specs.declared.ins.Ins.TheVariants.{AluRRm, AluRmI, AluRmB, ImulRRm, ImulI}
use Rattle.ia_code.specs.declared.ins.Ins.TheVariants.{ImulB, Neg, Shift, Idiv, Cdq, Lea, PushR}
use Rattle.ia_code.specs.declared.ins.Ins.TheVariants.{PopR}
use Rattle.ia_code.specs.declared.ins.Ins.TheVariants.{PushM, PushI, Call, Ret, RetI, Jmp, Jcc, Set}
use Rattle.ia_code.specs.declared.ins.Ins.TheVariants.{Movzx, Xchg, Test, Int}
use Rattle.ia_step.specs.declared.out.StepOut.{StepOut}
use Rattle.ia_step.specs.declared.out.StepOut.TheVariants as out
use Rattle.ia_step.specs.declared.out.FaultKind.{FaultKind}
use Rattle.ia_step.specs.declared.out.Ending.{Ending}
use Rattle.ia_step.specs.declared.out.Ending.TheVariants as ending
use Rattle.ia_step.specs.Arithmetic.{holds}
use Rattle.ia_step.specs.State.{State, at, over}
use Rattle.ia_step.specs.Effect.{Done, goes, lies_in, load, store, read_rm, write_rm, push, pop}
use Rattle.ia_step.specs.Effect.{mov, keep_result, alu, imul, neg, shift, divided, idiv, branch}
use Rattle.ia_step.specs.Effect.{set, take_input, trapped, serve, service, effect}
use Rattle.pra_list.specs.Results.{◌>>=◌}
use Rattle.ia_step.specs.Step.{fetch, execute, settled, step_from, step, ending_told}
use Rattle.ia_step.specs.Kept.{Kept}
use Rattle.ia_step.specs.Views.{OnDone}
use Rattle.ia_step.proofs.MemoryWords.{length_put}

-- P of what an Ok has
pub data IfGiven {A : Type 0} (P : A → Type 0) : Result A FaultKind → Type 0 where
  given : {x : A} → P x → IfGiven P (Ok x)
  failed : {e : FaultKind} → IfGiven P (Err e)

pub bound : {A B : Type 0} (P : A → Type 0) (Q : B → Type 0) (r : Result A FaultKind)
    (f : A → Result B FaultKind) → IfGiven P r → ((x : A) → P x → IfGiven Q (f x)) →
    IfGiven Q (r >>= f)
bound P Q (Ok x) f (given p) h = h x p
bound P Q (Err e) f failed h = failed

pub either : {A : Type 0} (P : A → Type 0) (b : Bool) (x y : A) → P x → P y → P (if b then x else y)
either P true x y p q = p
either P false x y p q = q

pub any : {A : Type 0} (r : Result A FaultKind) → IfGiven (λ x. Unit {0}) r
any (Ok x) = given tt
any (Err e) = failed

-- only registers, flags, EIP and bytes of data and stack change
record Quiet (s t : State) : Type 0 where
  code : t.code ≡ s.code
  input : t.input ≡ s.input
  data_size : length t.storage ≡ length s.storage
  stack_size : length t.stack ≡ length s.stack
  taken : t.taken ≡ s.taken
  ending : t.ending ≡ s.ending

-- by computation
plain : (s t : State) → t.code ≡ s.code → t.input ≡ s.input → length t.storage ≡ length s.storage →
    length t.stack ≡ length s.stack → t.taken ≡ s.taken → t.ending ≡ s.ending → Quiet s t
plain s t c i d k p e = record {
  code = c;
  input = i;
  data_size = d;
  stack_size = k;
  taken = p;
  ending = e;
}

quiet_on : (s t u : State) → Quiet s t → u.code ≡ t.code → u.input ≡ t.input → length u.storage ≡
    length t.storage → length u.stack ≡ length t.stack → u.taken ≡ t.taken → u.ending ≡ t.ending →
    Quiet s u
quiet_on s t u q c i d k p e = record {
  code = c ∙ q.code;
  input = i ∙ q.input;
  data_size = d ∙ q.data_size;
  stack_size = k ∙ q.stack_size;
  taken = p ∙ q.taken;
  ending = e ∙ q.ending;
}

same : (s t : State) → t.code ≡ s.code → t.input ≡ s.input → length t.storage ≡ length s.storage →
    length t.stack ≡ length s.stack → t.taken ≡ s.taken → Kept s t 1
same s t c i d k p = record {
  code = c;
  data_size = d;
  stack_size = k;
  front = [];
  input = sym i;
  taken = omega (arith, p);
  few = omega arith;
}

-- an instruction tells its ending, and no fault
Told : Ending → Ending → StepOut → Type 0
Told before now out.Going = now ≡ before
Told before now (out.Wrote n) = now ≡ before
Told before now out.Line = now ≡ before
Told before now out.Ended = now ≡ ending.Ended
Told before now (out.Trap k) = now ≡ ending.Trap k
Told before now (out.Fault k) = ⊥

record GoesOn (s : State) (x : State × StepOut) : Type 0 where
  later : Kept s x.0 1
  told : Told s.ending x.0.ending x.1

went : (s t : State) → Quiet s t → GoesOn s (t, out.Going)
unfolding Told
went s t q = record {
  later = same s t q.code q.input q.data_size q.stack_size q.taken;
  told =
      q.ending;
}

module _ (s : State) where
  quiet_store : (a v : ℕ) → IfGiven (Quiet s) (store s a v)
  unfolding store
  quiet_store a v =
      either (IfGiven (Quiet s)) (lies_in a data_base s.storage) _ _
      (given (plain s _ refl refl (length_put _ _ _) refl refl refl))
      (either (IfGiven (Quiet s)) (lies_in a stack_base s.stack) _ _
      (given (plain s _ refl refl refl (length_put _ _ _) refl refl)) failed)

  quiet_write : (r : Rm) (v : ℕ) → IfGiven (Quiet s) (write_rm s r v)
  unfolding write_rm
  quiet_write (rm.Reg r) v = given (plain s _ refl refl refl refl refl refl)
  quiet_write (rm.Mem a) v = quiet_store _ v

  quiet_push : (v : ℕ) → IfGiven (Quiet s) (push s v)
  unfolding push
  quiet_push v = bound (Quiet s) (Quiet s) (store s _ v) _ (quiet_store _ v)
      (λ t q. given (quiet_on s t _ q refl refl refl refl refl refl))

  quiet_pop : IfGiven (λ x. Quiet s x.1) (pop s)
  unfolding pop
  quiet_pop = bound (λ v. Unit {0}) (λ x. Quiet s x.1) (load s _) _ (any (load s _))
      (λ v _. given (plain s _ refl refl refl refl refl refl))

  quiet_keep : (op : AluOp) (dest : Rm) (v : ℕ) → IfGiven (Quiet s) (keep_result op s dest v)
  quiet_keep Cmp dest v = given (plain s _ refl refl refl refl refl refl)
  quiet_keep Add dest v = quiet_write dest v
  quiet_keep Or dest v = quiet_write dest v
  quiet_keep And dest v = quiet_write dest v
  quiet_keep Sub dest v = quiet_write dest v
  quiet_keep Xor dest v = quiet_write dest v

  Goes : Done → Type 0
  Goes r = IfGiven (GoesOn s) r

  -- a state that is quiet by computation
  goes_plain : (t : State) → t.code ≡ s.code → t.input ≡ s.input → length t.storage ≡
      length s.storage → length t.stack ≡ length s.stack → t.taken ≡ s.taken → t.ending ≡ s.ending →
      Goes (goes t)
  unfolding Goes
  goes_plain t c i d k p e = given (went s t (plain s t c i d k p e))

  goes_on : (t u : State) → Quiet s t → u.code ≡ t.code → u.input ≡ t.input → length u.storage ≡
      length t.storage → length u.stack ≡ length t.stack → u.taken ≡ t.taken → u.ending ≡ t.ending →
      Goes (goes u)
  unfolding Goes
  goes_on t u q c i d k p e = given (went s u (quiet_on s t u q c i d k p e))

  from_state : (r : Result State FaultKind) (f : State → Done) → IfGiven (Quiet s) r →
      ((t : State) → Quiet s t → Goes (f t)) → Goes (r >>= f)
  unfolding Goes
  from_state r f q h = bound (Quiet s) (GoesOn s) r f q h

  from_word : (r : Result ℕ FaultKind) (f : ℕ → Done) → ((v : ℕ) → Goes (f v)) → Goes (r >>= f)
  unfolding Goes
  from_word r f h = bound (λ v. Unit {0}) (GoesOn s) r f (any r) (λ v _. h v)

  from_pop : (f : ℕ × State → Done) → ((x : ℕ × State) → Quiet s x.1 → Goes (f x)) →
      Goes (pop s >>= f)
  unfolding Goes
  from_pop f h = bound (λ x. Quiet s x.1) (GoesOn s) (pop s) f quiet_pop h

  after_mov : (dest : Rm) (v : ℕ) → Goes (mov s dest v)
  unfolding mov
  after_mov dest v = from_state (write_rm s dest v) _ (quiet_write dest v)
      (λ t q. goes_on t t q refl refl refl refl refl refl)

  after_alu : (op : AluOp) (dest : Rm) (v : ℕ) → Goes (alu op s dest v)
  unfolding alu
  after_alu op dest v =
      from_word (read_rm s dest) _ (λ w.
      from_state (keep_result op s dest _) _ (quiet_keep op dest _)
      (λ t q. goes_on t _ q refl refl refl refl refl refl))

  after_imul : (dest : Reg) (a b : ℕ) → Goes (imul s dest a b)
  unfolding imul
  after_imul dest a b = goes_plain _ refl refl refl refl refl refl

  after_neg : (dest : Rm) → Goes (neg s dest)
  unfolding neg
  after_neg dest =
      from_word (read_rm s dest) _ (λ w.
      from_state (write_rm s dest _) _ (quiet_write dest _)
      (λ t q. goes_on t _ q refl refl refl refl refl refl))

  after_shift : (op : ShiftOp) (dest : Rm) (n : ℕ) → Goes (shift op s dest n)
  unfolding shift
  after_shift op dest n =
      from_word (read_rm s dest) _ (λ w.
      from_state (write_rm s dest _) _ (quiet_write dest _)
      (λ t q. goes_on t _ q refl refl refl refl refl refl))

  after_divided : (x : Option (ℕ × ℕ)) → Goes (divided s x)
  unfolding Goes
  after_divided None = failed
  after_divided (Some x) = goes_plain _ refl refl refl refl refl refl

  after_idiv : (v : ℕ) → Goes (idiv s v)
  unfolding idiv
  after_idiv v = after_divided _

  after_branch : (d : ℤ) (b : Option Bool) → Goes (branch s d b)
  unfolding Goes
  after_branch d None = failed
  after_branch d (Some true) = goes_plain _ refl refl refl refl refl refl
  after_branch d (Some false) = goes_plain _ refl refl refl refl refl refl

  after_set : (dest : Reg) (b : Option Bool) → Goes (set s dest b)
  unfolding Goes
  after_set dest None = failed
  after_set dest (Some b) = goes_plain _ refl refl refl refl refl refl

  after_input : (words : List ℤ) → s.input ≡ words → Goes (take_input s words)
  unfolding Goes Told
  after_input [] e = given (record { later = same s _ refl refl refl refl refl; told = refl })
  after_input (n ∷ rest) e = given (record {
    later = record {
      code = refl;
      data_size = refl;
      stack_size = refl;
      front = n ∷ [];
      input = e;
      taken = refl;
      few = omega arith;
    };
    told = refl;
  })

  after_trapped : (k : Option TrapKind) → Goes (trapped s k)
  unfolding Goes Told
  after_trapped None = failed
  after_trapped (Some k) = given (record { later = same s _ refl refl refl refl refl; told = refl })

  after_serve : (k : Option Service) → Goes (serve s k)
  unfolding Goes Told
  after_serve None = failed
  after_serve (Some services.End) =
      given (record { later = same s _ refl refl refl refl refl; told = refl })
  after_serve (Some services.WriteNumber) =
      given (record { later = same s _ refl refl refl refl refl; told = refl })
  after_serve (Some services.WriteLine) =
      given (record { later = same s _ refl refl refl refl refl; told = refl })
  after_serve (Some services.ReadNumber) = after_input s.input refl
  after_serve (Some services.Trap) = after_trapped (trap_of s.regs.eax)

  after_service : (k : ℕ) → Goes (service s k)
  unfolding service
  after_service k = after_serve (service_of k)

  after_effect : (i : Ins) → Goes (effect s i)
  unfolding effect
  after_effect (MovRmR dest src) = after_mov dest _
  after_effect (MovRRm dest src) = from_word (read_rm s src) _ (after_mov _)
  after_effect (MovRI dest n) = after_mov _ _
  after_effect (MovRmI dest n) = after_mov dest _
  after_effect (AluRmR op dest src) = after_alu op dest _
  after_effect (AluRRm op dest src) = from_word (read_rm s src) _ (after_alu op _)
  after_effect (AluRmI op dest n) = after_alu op dest _
  after_effect (AluRmB op dest n) = after_alu op dest _
  after_effect (ImulRRm dest src) = from_word (read_rm s src) _ (after_imul dest _)
  after_effect (ImulI dest src n) = from_word (read_rm s src) _ (after_imul dest _)
  after_effect (ImulB dest src n) = from_word (read_rm s src) _ (after_imul dest _)
  after_effect (Neg dest) = after_neg dest
  after_effect (Shift op dest n) = after_shift op dest n
  after_effect (Idiv src) = from_word (read_rm s src) _ after_idiv
  after_effect Cdq = goes_plain _ refl refl refl refl refl refl
  after_effect (Lea dest a) = goes_plain _ refl refl refl refl refl refl
  after_effect (PushR src) = from_state (push s _) _ (quiet_push _)
      (λ t q. goes_on t t q refl refl refl refl refl refl)
  after_effect (PushM src) =
      from_word (load s _) _ (λ v. from_state (push s v) _ (quiet_push v)
      (λ t q. goes_on t t q refl refl refl refl refl refl))
  after_effect (PushI n) = from_state (push s _) _ (quiet_push _)
      (λ t q. goes_on t t q refl refl refl refl refl refl)
  after_effect (PopR dest) = from_pop _ (λ x q. goes_on x.1 _ q refl refl refl refl refl refl)
  after_effect (Call d) = from_state (push s _) _ (quiet_push _)
      (λ t q. goes_on t _ q refl refl refl refl refl refl)
  after_effect Ret = from_pop _ (λ x q. goes_on x.1 _ q refl refl refl refl refl refl)
  after_effect (RetI n) = from_pop _ (λ x q. goes_on x.1 _ q refl refl refl refl refl refl)
  after_effect (Jmp d) = goes_plain _ refl refl refl refl refl refl
  after_effect (Jcc c d) = after_branch d (holds s.flags c)
  after_effect (Set c dest) = after_set dest (holds s.flags c)
  after_effect (Movzx dest src) = goes_plain _ refl refl refl refl refl refl
  after_effect (Xchg dest src) = goes_plain _ refl refl refl refl refl refl
  after_effect (Test a b) = goes_plain _ refl refl refl refl refl refl
  after_effect (Int k) = after_service k

-- EIP does not count
moved : (s : State) (n : ℕ) (r : Done) → IfGiven (GoesOn (at s n)) r → IfGiven (GoesOn s) r
moved s n (Ok x) (given k) =
    let l : Kept (at s n) x.0 1 = k.later in
    given (record {
      later = record {
        code = l.code;
        data_size = l.data_size;
        stack_size = l.stack_size;
        front =
            l.front;
        input = l.input;
        taken = l.taken;
        few = l.few;
      };
      told = k.told;
    })
moved s n (Err e) k = failed

after_execute : (s : State) → IfGiven (GoesOn s) (execute s)
unfolding Goes
after_execute s = bound (λ x. Unit {0}) (GoesOn s) (fetch s) _ (any (fetch s))
    (λ x _. moved s x.1 _ (after_effect (at s x.1) x.0))

of_given : {A : Type 0} (P : A → Type 0) (x : A) → IfGiven P (Ok x) → P x
of_given P x (given p) = p

-- whatever came of an instruction, the code is the same
pub done_keeps_code : (s t : State) (r : Result StepOut FaultKind) → OnDone s t r (execute s) →
    t.code ≡ s.code
done_keeps_code s t (Ok o) is =
    (of_given (GoesOn s) (t, o) (subst (IfGiven (GoesOn s)) is (after_execute s))).later.code
done_keeps_code s t (Err e) is = ap (λ (u : State). u.code) is.1

kept_settled : (s : State) (r : Done) → IfGiven (GoesOn s) r → Kept s (settled s r).0 1
kept_settled s (Ok x) (given k) = k.later
kept_settled s (Err e) k = same s _ refl refl refl refl refl

kept_from : (s : State) (e : Ending) → Kept s (step_from s e).0 1
kept_from s ending.Going = kept_settled s (execute s) (after_execute s)
kept_from s ending.Ended = same s _ refl refl refl refl refl
kept_from s (ending.Trap k) = same s _ refl refl refl refl refl
kept_from s (ending.Fault k) = same s _ refl refl refl refl refl

pub kept_step : (s : State) → Kept s (step s).0 1
unfolding step
kept_step s = kept_from s s.ending

-- the answer of a step tells the ending
told_is : (now : Ending) (o : StepOut) → Told ending.Going now o → now ≡ ending_told o
unfolding Told
told_is now out.Going t = t
told_is now (out.Wrote n) t = t
told_is now out.Line t = t
told_is now out.Ended t = t
told_is now (out.Trap k) t = t
told_is now (out.Fault k) t = absurd t

told_settled : (s : State) (r : Done) → s.ending ≡ ending.Going → IfGiven (GoesOn s) r →
    (settled s r).0.ending ≡ ending_told (settled s r).1
told_settled s (Ok x) going (given k) =
    told_is x.0.ending x.1 (subst (λ e. Told e x.0.ending x.1) going k.told)
told_settled s (Err e) going k = refl

told_from : (s : State) (e : Ending) → s.ending ≡ e → (step_from s e).0.ending ≡
    ending_told (step_from s e).1
told_from s ending.Going is = told_settled s (execute s) is (after_execute s)
told_from s ending.Ended is = is
told_from s (ending.Trap k) is = is
told_from s (ending.Fault k) is = is

pub step_told : (s : State) → (step s).0.ending ≡ ending_told (step s).1
unfolding step
step_told s = told_from s s.ending refl

-- a fault changes nothing but the ending
fault_none : (now : Ending) (o : StepOut) (k : FaultKind) → Told ending.Going now o →
    o ≡ out.Fault k → ⊥
unfolding Told
fault_none now out.Going k t e = cc
fault_none now (out.Wrote n) k t e = cc
fault_none now out.Line k t e = cc
fault_none now out.Ended k t e = cc
fault_none now (out.Trap j) k t e = cc
fault_none now (out.Fault j) k t e = t

fault_settled : (s : State) (r : Done) (k : FaultKind) → s.ending ≡ ending.Going →
    IfGiven (GoesOn s) r → (settled s r).1 ≡ out.Fault k → (settled s r).0 ≡ over s (ending.Fault k)
fault_settled s (Ok x) k going (given g) e =
    absurd (fault_none x.0.ending x.1 k (subst (λ e. Told e x.0.ending x.1) going g.told) e)
fault_settled s (Err j) k going g e = let same_kind : j ≡ k = cc in
    ap (λ k. over s (ending.Fault k)) same_kind

pub step_fault : (s : State) (k : FaultKind) → s.ending ≡ ending.Going → (step s).1 ≡ out.Fault k →
    (step s).0 ≡ over s (ending.Fault k)
unfolding step
step_fault s k going e =
    let from : step_from s s.ending ≡ settled s (execute s) = ap (step_from s) going in
    ap (λ (x : State × StepOut). x.0) from ∙ fault_settled s (execute s) k going (after_execute s)
    (ap (λ (x : State × StepOut). x.1) (sym from) ∙ e)

-- after an ending a step changes nothing
over_from : (s : State) (e : Ending) → e ≢ ending.Going → (step_from s e).0 ≡ s
over_from s ending.Going over = absurd (over refl)
over_from s ending.Ended over = refl
over_from s (ending.Trap k) over = refl
over_from s (ending.Fault k) over = refl

pub step_over : (s : State) → s.ending ≢ ending.Going → (step s).0 ≡ s
unfolding step
step_over s over = over_from s s.ending over
