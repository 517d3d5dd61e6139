-- Steps of added code, and how they are put together.
use Rattle.std.proofs.Common.{◌≡◌, ◌≢◌, ℕ, zero, suc, ◌+◌, ◌<◌, ◌≤◌, [], ◌∷◌, length, Option, Some}
use Rattle.std.proofs.Common.{None, Result, Ok, Err, refl, ap, ◌∙◌, arith}
use Rattle.std.specs.Prelude.{slice_get, slice_set, slice_index_or, if◌then◌else◌}
use Rattle.std.proofs.Common.{length-append}
use Rattle.std.proofs.lemmas.Bool.{lt-ltb}
use Rattle.std.proofs.lemmas.List.{get_or-set_same, get_or-set_other, length-set}
use Rattle.pra_list.specs.Results.{◌>>=◌}
use Rattle.pra_base.specs.System.{run}
use Rattle.pra_base.specs.Operands.{written_by}
use Rattle.pra_base.specs.declared.code.VarKind.TheVariants.{Plain}
use Rattle.pra_base.specs.declared.event.TrapKind.{TrapKind}
use Rattle.pra_base.specs.Code as code
use Rattle.pra_base.specs.declared.code.VInstr.{VInstr}
use Rattle.pra_base.specs.declared.code.End.{End}
use Rattle.pra_base.specs.declared.code.VProc.{VProc}
use Rattle.vc_code.specs.declared.action.Action.TheVariants.{Give}
use Rattle.vc_code.specs.declared.value.Value.{Value}
use Rattle.vc_code.specs.Value.{Words}
use Rattle.vc_code.specs.Machine.{Activation, State, step, act, act_on, apply, found, leave}
use Rattle.vc_code.specs.Machine.{with_top}
use Rattle.vc_code.specs.Selected.{Vars, code_of, selected, valued, put_all, at_point, behind}
use Rattle.vc_code.specs.Selected.{written, next_of}
use Rattle.vc_build.specs.Grow.{stand_in, IsOpen, with_instr, with_end, Grows}
use Rattle.vc_build.specs.Runs.{Codes, runs, Stands, RunsIn, SameBelow, acted, performed, left}
use Rattle.vc_build.specs.Runs.{Reaches, Traps, Holds, Yields}
use Rattle.vc_build.proofs.Growth.{grows_on, put_code, put_there, closed_there, closed_end}

-- ---- runs one after the other

pub run_more : {S : Type 0} (f : S → S) (m n : ℕ) (s : S) → run f (m + n) s ≡ run f n (run f m s)
run_more f zero n s = let e : zero + n ≡ n = omega arith in ap (λ k. run f k s) e
run_more f (suc m) n s =
    let e : suc m + n ≡ suc (m + n) = omega arith in
    ap (λ k. run f k s) e ∙ run_more f m n (f s)

pub same_self : (n : ℕ) (c : Activation Vars) → SameBelow n c c
same_self n c = record {
  proc = refl;
  aggregates = refl;
  args = refl;
  room = refl;
  held =
      λ v lt. refl;
}

pub same_on : (n m : ℕ) (one two three : Activation Vars) → n ≤ m → SameBelow n one two →
    SameBelow m two three → SameBelow n one three
same_on n m one two three le p q = record {
  proc = q.proc ∙ p.proc;
  aggregates = q.aggregates ∙ p.aggregates;
  args = q.args ∙ p.args;
  room = q.room ∙ p.room;
  held = λ v lt. q.held v (omega (arith, lt, le)) ∙ p.held v lt;
}

module _ (w : Codes) (s : State Vars) (c : Activation Vars) (m : ℕ)
    (there : runs w m s ≡ with_top s c) where
  more : (n : ℕ) → runs w (m + n) s ≡ runs w n (with_top s c)
  more n = run_more (step (selected w.procs w.frames)) m n s ∙ ap (runs w n) there

  pub traps_after : (trap : TrapKind) → Traps w (with_top s c) trap → Traps w s trap
  traps_after trap p = record { steps = m + p.steps; call = p.call; there = more p.steps ∙ p.there }

  pub reaches_after : (Q : Activation Vars → Type 0) → Reaches w (with_top s c) Q → Reaches w s Q
  reaches_after Q p = record {
    steps = m + p.steps;
    call = p.call;
    there = more p.steps ∙ p.there;
    good = p.good;
  }

  pub yields_after : {A : Type 0} (Q : A → Activation Vars → Type 0) (r : Result A TrapKind) →
      Yields w (with_top s c) Q r → Yields w s Q r
  yields_after Q (Ok x) y = reaches_after (Q x) y
  yields_after Q (Err trap) y = traps_after trap y

-- what a part gives goes on into the whole
pub yields_on : {A B : Type 0} (w : Codes) (s : State Vars) (Q : A → Activation Vars → Type 0)
    (R : B → Activation Vars → Type 0) (r : Result A TrapKind) (h : A → Result B TrapKind) →
    Yields w s Q r → ((x : A) (c : Activation Vars) → Q x c → Yields w (with_top s c) R (h x)) →
    Yields w s R (r >>= h)
yields_on w s Q R (Ok x) h y go = yields_after w s y.call y.steps y.there R (h x)
    (go x y.call y.good)
yields_on w s Q R (Err trap) h y go = y

pub reaches_on : {B : Type 0} (w : Codes) (s : State Vars) (Q : Activation Vars → Type 0)
    (R : B → Activation Vars → Type 0) (r : Result B TrapKind) →
    Reaches w s Q → ((c : Activation Vars) → Q c → Yields w (with_top s c) R r) → Yields w s R r
reaches_on w s Q R r y go = yields_after w s y.call y.steps y.there R r (go y.call y.good)

-- no step at all
pub rests : (w : Codes) (s : State Vars) (Q : Activation Vars → Type 0) → s.compared ≡ None →
    Q s.top → Reaches w s Q
rests w s Q compared good =
    record {
      steps = 0;
      call = s.top;
      there = ap (λ o. record s { compared = o }) compared;
      good =
          good;
    }

-- ---- one step

pub runs_in_earlier : (w : Codes) (id : ℕ) (earlier later : VProc) (s : State Vars) →
    Grows earlier later → RunsIn w id later s → RunsIn w id earlier s
runs_in_earlier w id earlier later s g r =
    record {
      proc = r.proc;
      holds = grows_on earlier later (code_of w.procs id) g r.holds;
      going =
          r.going;
      compared = r.compared;
      room = r.room;
    }

-- a state that differs from one of a run in the running call alone is one of a run
pub runs_in_on : (w : Codes) (id n : ℕ) (made : VProc) (s : State Vars) (c : Activation Vars) →
    SameBelow n s.top c → RunsIn w id made s → RunsIn w id made (with_top s c)
runs_in_on w id n made s c same r =
    record {
      proc = same.proc ∙ r.proc;
      holds = r.holds;
      going = r.going;
      compared = refl;
      room =
          same.room ∙ r.room;
    }

module _ (w : Codes) (id at : ℕ) (old made : VProc) (s : State Vars) (r : RunsIn w id made s)
    (stands : Stands old at s.top) where
  abbrev C : VProc
  C = code_of w.procs id

  fetches : (i : Option VInstr) → slice_get (code.code_of C at) (length (code.code_of old at)) ≡ i →
      code.instr_at (code_of w.procs s.top.proc) s.top.home.block s.top.home.index ≡ i
  fetches i fetched =
      ap (λ p. code.instr_at (code_of w.procs p) s.top.home.block s.top.home.index) r.proc
      ∙ ap (λ b. code.instr_at C b s.top.home.index) stands.block
      ∙ ap (code.instr_at C at) stands.index
      ∙ fetched

  steps_by : (i : Option VInstr) → slice_get (code.code_of C at) (length (code.code_of old at)) ≡
      i → runs w 1 s ≡ act (selected w.procs w.frames)
      (next_of (code_of w.procs s.top.proc) s.top i) s
  steps_by i fetched =
      ap (λ o. act_on (selected w.procs w.frames) o s) r.going
      ∙ ap (λ j. act (selected w.procs w.frames) (next_of (code_of w.procs s.top.proc) s.top j) s)
      (fetches i fetched)

module _ (w : Codes) (id at : ℕ) (old : VProc) (s : State Vars) (o : IsOpen old at)
    (stands : Stands old at s.top) where
  pub performs : (i : VInstr) → RunsIn w id (with_instr at i old) s → runs w 1 s ≡ performed w i s
  performs i r = steps_by w id at old (with_instr at i old) s r stands (Some i)
      (put_there at i old o (code_of w.procs id) r.holds)

  pub leaves : (end : End) → end ≢ stand_in → RunsIn w id (with_end at end old) s → runs w 1 s ≡
      left w end s
  leaves end real r =
      let C = code_of w.procs id in
      let ends : code.end_of (code_of w.procs s.top.proc) s.top.home.block ≡ end =
      ap (λ p. code.end_of (code_of w.procs p) s.top.home.block) r.proc
      ∙ ap (code.end_of C) stands.block ∙ closed_end at end old o real C r.holds in
      steps_by w id at old (with_end at end old) s r stands None
      (closed_there at end old o real C r.holds)
      ∙ ap (λ e. leave (selected w.procs w.frames) e s) ends

  module _ (i : VInstr) (r : RunsIn w id (with_instr at i old) s) where
    -- an instruction that gives one variable a value
    module _ (v n : ℕ) (x : Value) (writes : written_by i ≡ v ∷ [])
        (acts : acted w i s ≡ Some (Give x)) (le : n ≤ v)
        (kind : code.kind_of (code_of w.procs id) v ≡ Plain)
        (declared : v < length (code_of w.procs id).vars) where
      abbrev held_after : Words
      held_after = slice_set s.top.home.held v (Some x)

      abbrev call_after : Activation Vars
      call_after = at_point s.top s.top.home.block (suc s.top.home.index) held_after

      writes_it : written s.top (written_by i) (x ∷ []) ≡ Some call_after
      writes_it =
          ap (λ vs. written s.top vs (x ∷ [])) writes
          ∙ ap (λ b. behind s.top (put_all (if b then Some held_after else None) [] []))
          (lt-ltb v (length s.top.home.held) (omega (arith, declared, r.room)))

      gives_it : runs w 1 s ≡ with_top s call_after
      gives_it =
          performs i r
          ∙ ap (λ a. apply (selected w.procs w.frames) (λ xs. written s.top (written_by i) xs) a s)
          acts
          ∙ ap (λ c. found s c (with_top s)) writes_it

      pub holds_after : Holds w id (with_instr at i old) at v n s.top x call_after
      holds_after = record {
        stands = record {
          block = stands.block;
          index = omega (
            arith,
            stands.index,
            ap (λ l. length l) (put_code at i old o),
            length-append (code.code_of old at) (i ∷ []),
          );
        };
        same = record {
          proc = refl;
          aggregates = refl;
          args = refl;
          room = length-set s.top.home.held v (Some x);
          held = λ u lt. get_or-set_other s.top.home.held v u (Some x) None
              (λ e. omega (arith, e, lt, le));
        };
        value = ap (λ k. valued k (slice_index_or held_after v None)) kind
            ∙ get_or-set_same s.top.home.held v (Some x) None (omega (arith, declared, r.room));
      }

      pub gives : Reaches w s (Holds w id (with_instr at i old) at v n s.top x)
      gives = record { steps = 1; call = call_after; there = gives_it; good = holds_after }
