-- A run from the begin of a call to where its statements begin.
use Rattle.std.proofs.Common.{◌≡◌, ◌≢◌, ℕ, zero, suc, ◌+◌, ◌<◌, ◌≤◌, Bool, true, false, inl, inr}
use Rattle.std.proofs.Common.{◌⊎◌, List, [], ◌∷◌, ◌++◌, length, map, replicate, Option, Some, None}
use Rattle.std.proofs.Common.{refl, sym, ap, ◌∙◌, arith, length-append}
use Rattle.std.specs.Prelude.{slice_get, slice_set, slice_index_or, nat_eq, count_by, option_map}
use Rattle.std.specs.Prelude.{if◌then◌else◌}
use Rattle.std.proofs.lemmas.Bool.{lt-ltb, cases_eq, eqb-true}
use Rattle.std.proofs.lemmas.List.{get_or-set_same, get_or-set_other, length-set, length-map}
use Rattle.std.proofs.lemmas.List.{length-replicate}
use Rattle.std.proofs.lemmas.Option.{slice_get-get_or, slice_get-map}
use Rattle.pra_list.proofs.Elements.{got_front, got_back}
use Rattle.pra_base.specs.Code as code
use Rattle.pra_base.specs.declared.code.VInstr.{VInstr}
use Rattle.pra_base.specs.declared.code.VInstr.TheVariants.{Clear}
use Rattle.pra_base.specs.declared.code.VProc.{VProc}
use Rattle.vc_code.specs.declared.value.Value.TheVariants.{Num}
use Rattle.vc_code.specs.Value.{Held, Words}
use Rattle.vc_code.specs.Machine.{Activation, State, act, act_on, found, joined, with_top}
use Rattle.vc_code.specs.Machine.{with_aggregates, zeroed}
use Rattle.vc_code.specs.Selected.{Vars, argument, begun, code_of, selected, next_of, at_point}
use Rattle.vc_code.specs.Selected.{behind, put_all}
use Rattle.vc_build.specs.Grow.{Kept, Grows}
use Rattle.vc_build.specs.Runs.{Codes, runs, Reaches}
use Rattle.vc_build.proofs.Steps.{rests, reaches_after}
use Rattle.ob_syntax.specs.declared.checked.CheckedProc.{CheckedProc}
use Rattle.vc_relation.specs.Homes.{in_variable, local_in_variable, home_count}
use Rattle.vc_proc.specs.Opening.{clearing, zeros, opening, opened}
use Rattle.vc_proc.proofs.HomeVariables.{kinds_length}
use Rattle.vc_proc.proofs.Zeroing.{zero_at, zeros_length, zeros_there}

-- ---- one step

-- the running call behind an instruction that sets a variable to 0, and behind one that does so
-- with all aggregates
abbrev with_zero : State Vars → ℕ → Activation Vars
with_zero s v = at_point s.top s.top.home.block (suc s.top.home.index)
    (slice_set s.top.home.held v (Some (Num 0)))

abbrev cleared : State Vars → Activation Vars
cleared s = with_aggregates (at_point s.top s.top.home.block (suc s.top.home.index) s.top.home.held)
    (zeroed s.top.aggregates)

module _ (w : Codes) (s : State Vars) (going : s.over ≡ None) where
  abbrev running : VProc
  running = code_of w.procs s.top.proc

  abbrev next_instr : Option VInstr
  next_instr = code.instr_at running s.top.home.block s.top.home.index

  stepped : (i : Option VInstr) → next_instr ≡ i → runs w 1 s ≡ act (selected w.procs w.frames)
      (next_of running s.top i) s
  stepped i e =
      ap (λ o. act_on (selected w.procs w.frames) o s) going
      ∙ ap (λ j. act (selected w.procs w.frames) (next_of running s.top j) s) e

  sets : (v : ℕ) → next_instr ≡ Some (zero_at v) → v < length s.top.home.held → runs w 1 s ≡
      with_top s (with_zero s v)
  sets v e lt =
      stepped (Some (zero_at v)) e
      ∙ ap (λ b. found s (behind s.top
      (put_all (if b then Some (slice_set s.top.home.held v (Some (Num 0))) else None) [] []))
      (with_top s)) (lt-ltb v (length s.top.home.held) lt)

  clears : next_instr ≡ Some Clear → runs w 1 s ≡ with_top s (cleared s)
  clears e = stepped (Some Clear) e

-- ---- so many variables are set to 0

-- Variables from one on hold 0, and all else is as it was. The call stands so many instructions
-- further on.
record Zeroes (first n : ℕ) (old new : Activation Vars) : Type 0 where
  pub proc : new.proc ≡ old.proc
  pub aggregates : new.aggregates ≡ old.aggregates
  pub args : new.args ≡ old.args
  pub block : new.home.block ≡ old.home.block
  pub index : new.home.index ≡ old.home.index + n
  pub room : length new.home.held ≡ length old.home.held
  pub below : (v : ℕ) → v < first → slice_index_or new.home.held v None ≡
      slice_index_or old.home.held v None
  pub zero : (v : ℕ) → first ≤ v → v < first + n → slice_index_or new.home.held v None ≡
      Some (Num 0)

-- what one variable and then the others make of the call
zeroes_more : (first n : ℕ) (s : State Vars) (new : Activation Vars) →
    first < length s.top.home.held → Zeroes (first + 1) n (with_zero s first) new →
    Zeroes first (suc n) s.top new
zeroes_more first n s new lt z = record {
  proc = z.proc;
  aggregates = z.aggregates;
  args = z.args;
  block = z.block;
  index = omega (arith, z.index);
  room = z.room ∙ length-set s.top.home.held first (Some (Num 0));
  below = λ v l. z.below v (omega (arith, l)) ∙ get_or-set_other s.top.home.held first v
      (Some (Num 0)) None (λ e. omega (arith, e, l));
  zero = λ v le l. by v le l (cases_eq v first);
}
  where
    by : (v : ℕ) → first ≤ v → v < first + suc n → (v ≡ first) ⊎ (v ≢ first) →
        slice_index_or new.home.held v None ≡ Some (Num 0)
    by v le l (inl e) = ap (λ u. slice_index_or new.home.held u None) e
        ∙ z.below first (omega arith) ∙ get_or-set_same s.top.home.held first (Some (Num 0)) None lt
    by v le l (inr d) = z.zero v (omega (arith, le, d)) (omega (arith, l))

zeroing : (w : Codes) (n first : ℕ) (s : State Vars) → s.over ≡ None → s.compared ≡ None →
    first + n ≤ length s.top.home.held →
    ((j : ℕ) → j < n → code.instr_at (code_of w.procs s.top.proc) s.top.home.block
    (s.top.home.index + j) ≡ Some (zero_at (first + j))) →
    Reaches w s (Zeroes first n s.top)
zeroing w zero first s going compared room there = rests w s (Zeroes first 0 s.top) compared
    (record {
      proc = refl;
      aggregates = refl;
      args = refl;
      block = refl;
      index = omega arith;
      room = refl;
      below = λ v l. refl;
      zero = λ v le l. absurd (omega (arith, le, l));
    })
zeroing w (suc n) first s going compared room there =
    let here : code.instr_at (code_of w.procs s.top.proc) s.top.home.block s.top.home.index ≡
    Some (zero_at first) =
    ap (code.instr_at (code_of w.procs s.top.proc) s.top.home.block) (same_index s.top.home.index)
    ∙ there 0 (omega arith) ∙ ap (λ v. Some (zero_at v)) (same_first first) in
    let one = sets w s going first here (omega (arith, room)) in
    let rest = zeroing w n (first + 1) (with_top s (with_zero s first)) going refl
    (omega (arith, room, length-set s.top.home.held first (Some (Num 0))))
    (λ j lt. ap (code.instr_at (code_of w.procs s.top.proc) s.top.home.block)
    (next_index s.top.home.index j) ∙ there (suc j) (omega (arith, lt))
    ∙ ap (λ v. Some (zero_at v)) (next_first first j)) in
    reaches_after w s (with_zero s first) 1 one (Zeroes first (suc n) s.top)
    (record {
      steps = rest.steps;
      call = rest.call;
      there = rest.there;
      good =
          zeroes_more first n s rest.call (omega (arith, room)) rest.good;
    })
  where
    same_index : (i : ℕ) → i ≡ i + 0
    same_index i = omega arith

    same_first : (v : ℕ) → v + 0 ≡ v
    same_first v = omega arith

    next_index : (i j : ℕ) → suc i + j ≡ i + suc j
    next_index i j = omega arith

    next_first : (v j : ℕ) → v + suc j ≡ v + 1 + j
    next_first v j = omega arith

-- ---- the whole

-- where the aggregates have been set to 0
record Cleared (p : ℕ) (proc : CheckedProc) (pushed held : Words) (c : Activation Vars) : Type 0
  where
    pub proc_is : c.proc ≡ p
    pub args : c.args ≡ pushed
    pub block : c.home.block ≡ 0
    pub index : c.home.index ≡ length (clearing proc.aggregate_words)
    pub held_is : c.home.held ≡ held
    pub aggregates : (v : ℕ) → v < proc.aggregate_words → joined (slice_get c.aggregates v) ≡
        Some (Num 0)

-- where the locals have been set to 0 too
pub record Entered (p : ℕ) (proc : CheckedProc) (pushed held : Words) (c : Activation Vars) : Type 0
  where
    pub proc_is : c.proc ≡ p
    pub args : c.args ≡ pushed
    pub block : c.home.block ≡ 0
    pub index : c.home.index ≡ length (opening proc)
    pub room : length c.home.held ≡ length held
    pub aggregates : (v : ℕ) → v < proc.aggregate_words → joined (slice_get c.aggregates v) ≡
        Some (Num 0)
    pub params : (v : ℕ) → v < count_by in_variable proc.params →
        slice_index_or c.home.held v None ≡
        slice_index_or held v None
    pub locals : (v : ℕ) → count_by in_variable proc.params ≤ v → v < home_count proc →
        slice_index_or c.home.held v None ≡ Some (Num 0)

zero_words : (n : ℕ) (words : Words) (v : ℕ) → words ≡ replicate n None → v < n →
    joined (slice_get (zeroed words) v) ≡ Some (Num 0)
zero_words n words v is lt =
    let long : length words ≡ n = ap (λ (l : Words). length l) is ∙ length-replicate n None in
    let there : slice_get words v ≡ Some (slice_index_or words v None) =
    slice_get-get_or words v None (omega (arith, lt, long)) in
    ap joined (slice_get-map (λ (h : Held). Some (Num 0)) words v)
    ∙ ap (λ (o : Option Held). joined (option_map (λ (h : Held). Some (Num 0)) o)) there

module _ (w : Codes) (p : ℕ) (proc : CheckedProc) (s : State Vars) (pushed : Words)
    (top : s.top ≡ begun p (code_of w.procs p) pushed) (going : s.over ≡ None)
    (compared : s.compared ≡ None)
    (grows : Grows (opened p proc) (code_of w.procs p)) where
  abbrev final : VProc
  final = code_of w.procs p

  abbrev begins_with : Words
  begins_with = map (argument pushed) final.vars

  abbrev kept : Kept (code.block_of (opened p proc) 0) (code.block_of final 0)
  kept = grows.kept 0 (omega arith)

  proc_is : s.top.proc ≡ p
  proc_is = ap (λ (c : Activation Vars). c.proc) top

  block_is : s.top.home.block ≡ 0
  block_is = ap (λ (c : Activation Vars). c.home.block) top

  index_is : s.top.home.index ≡ 0
  index_is = ap (λ (c : Activation Vars). c.home.index) top

  held_is : s.top.home.held ≡ begins_with
  held_is = ap (λ (c : Activation Vars). c.home.held) top

  -- what stands in the first block of the whole code
  instr_is : (q b k : ℕ) → q ≡ p → b ≡ 0 → code.instr_at (code_of w.procs q) b k ≡
      slice_get (opening proc ++ kept.more) k
  instr_is q b k q_is b_is =
      ap (λ n. code.instr_at (code_of w.procs n) b k) q_is
      ∙ ap (λ n. code.instr_at final n k) b_is
      ∙ ap (λ (l : List VInstr). slice_get l k) kept.code

  clearing_done : Reaches w s (Cleared p proc pushed begins_with)
  clearing_done = by (nat_eq proc.aggregate_words 0) refl
    where
      by : (b : Bool) → nat_eq proc.aggregate_words 0 ≡ b →
          Reaches w s (Cleared p proc pushed begins_with)
      by true e = rests w s (Cleared p proc pushed begins_with) compared (record {
        proc_is = proc_is;
        args = ap (λ (c : Activation Vars). c.args) top;
        block = block_is;
        index = index_is ∙ sym (ap (λ b. length (if b then [] else Clear ∷ [])) e);
        held_is = held_is;
        aggregates = λ v lt. let none : proc.aggregate_words ≡ 0 =
            eqb-true proc.aggregate_words 0 e in absurd (omega (arith, lt, none));
      })
      by false e =
          let first : slice_get (opening proc ++ kept.more) 0 ≡ Some Clear =
          ap (λ b. slice_get (((if b then [] else Clear ∷ [])
          ++ zeros (count_by in_variable proc.params) (count_by local_in_variable proc.locals))
          ++ kept.more) 0) e in
          let here : code.instr_at (code_of w.procs s.top.proc) s.top.home.block s.top.home.index ≡
          Some Clear =
          ap (code.instr_at (code_of w.procs s.top.proc) s.top.home.block) index_is
          ∙ instr_is s.top.proc s.top.home.block 0 proc_is block_is ∙ first in
          record {
            steps = 1;
            call = cleared s;
            there = clears w s going here;
            good = record {
              proc_is = proc_is;
              args = ap (λ (c : Activation Vars). c.args) top;
              block = block_is;
              index = ap suc index_is ∙ sym (ap (λ b. length (if b then [] else Clear ∷ [])) e);
              held_is = held_is;
              aggregates = λ v lt.
                  zero_words proc.aggregate_words s.top.aggregates v
                  (ap (λ (c : Activation Vars). c.aggregates) top
                  ∙ ap (λ n. replicate n None) grows.aggregates) lt;
            };
          }

  module _ (c : Activation Vars) (done : Cleared p proc pushed begins_with c) where
    abbrev of_params : ℕ
    of_params = count_by in_variable proc.params

    abbrev of_locals : ℕ
    of_locals = count_by local_in_variable proc.locals

    long : length c.home.held ≡ length begins_with
    long = ap (λ (l : Words). length l) done.held_is

    enough : of_params + of_locals ≤ length c.home.held
    enough = omega (
      arith,
      long,
      length-map final.vars (argument pushed),
      grows.vars,
      kinds_length proc,
    )

    zeros_stand : (j : ℕ) → j < of_locals → code.instr_at (code_of w.procs c.proc) c.home.block
        (c.home.index + j) ≡ Some (zero_at (of_params + j))
    zeros_stand j lt =
        let place : c.home.index + j ≡ length (clearing proc.aggregate_words) + j =
        ap (λ n. n + j) done.index in
        instr_is c.proc c.home.block (c.home.index + j) done.proc_is done.block
        ∙ got_front (opening proc) kept.more (c.home.index + j) (zero_at (of_params + j))
        (got_back (clearing proc.aggregate_words) (zeros of_params of_locals) (c.home.index + j) j
        place ∙ zeros_there of_params of_locals j lt)

    enters_by : (new : Activation Vars) → Zeroes of_params of_locals c new →
        Entered p proc pushed begins_with new
    enters_by new z = record {
      proc_is = z.proc ∙ done.proc_is;
      args = z.args ∙ done.args;
      block = z.block ∙ done.block;
      index = omega (
        arith,
        z.index,
        done.index,
        length-append (clearing proc.aggregate_words)
            (zeros of_params of_locals),
        zeros_length of_params of_locals,
      );
      room = z.room ∙ long;
      aggregates = λ v lt. ap (λ (l : Words). joined (slice_get l v)) z.aggregates
          ∙ done.aggregates v lt;
      params = λ v lt. z.below v lt ∙ ap (λ (l : Words). slice_index_or l v None) done.held_is;
      locals = λ v le lt. z.zero v le lt;
    }

    zeroed_done : Reaches w (with_top s c) (Entered p proc pushed begins_with)
    zeroed_done =
        let r = zeroing w of_locals of_params (with_top s c) going refl enough zeros_stand in
        record { steps = r.steps; call = r.call; there = r.there; good = enters_by r.call r.good }

  -- a call that begins comes to where its statements begin
  pub enters : Reaches w s (Entered p proc pushed begins_with)
  enters =
      let one = clearing_done in
      reaches_after w s one.call one.steps one.there (Entered p proc pushed begins_with)
      (zeroed_done one.call one.good)
