-- Live calls of code without checks that cannot fail, beside those of the old code, and what the
-- old code has compared.
use Rattle.std.proofs.Common.{◌≡◌, ℕ, zero, suc, ◌/◌, ℤ, Bool, true, false, nat_lt}
use Rattle.std.proofs.Common.{if◌then◌else◌, List, [], ◌∷◌, drop, map, slice_get, slice_index_or}
use Rattle.std.proofs.Common.{replicate, Option, Some, None, sym, ap, ap₂, subst, refl, ◌∙◌}
use Rattle.pra_list.specs.Options.{◌>>=◌}
use Rattle.pra_list.proofs.Options.{some_same, not_both}
use Rattle.pra_base.specs.RunEnd.{Trapped}
use Rattle.pra_base.specs.Words.{word, compares, stack_limit}
use Rattle.pra_base.specs.declared.event.TrapKind.TheVariants as trap
use Rattle.pra_base.specs.declared.ids.Cond.{Cond}
use Rattle.pra_base.specs.declared.ids.VarId.{VarId}
use Rattle.pra_base.specs.declared.code.VInstr.{VInstr}
use Rattle.pra_base.specs.declared.code.VInstr.TheVariants.{Cmp}
use Rattle.pra_base.specs.declared.code.End.{End}
use Rattle.pra_base.specs.declared.code.End.TheVariants.{Jump, Branch, Return}
use Rattle.pra_base.specs.declared.code.VProc.{VProc}
use Rattle.pra_base.specs.Code.{kind_of, code_of, end_of}
use Rattle.pra_base.specs.Operands.{read_by, written_by}
use Rattle.vc_code.specs.declared.value.Object.{Object}
use Rattle.vc_code.specs.declared.value.Object.TheVariants.{Data, Aggregates, Cell}
use Rattle.vc_code.specs.declared.value.Value.{Value}
use Rattle.vc_code.specs.declared.value.Value.TheVariants.{Num}
use Rattle.vc_code.specs.declared.action.Action.{Action}
use Rattle.vc_code.specs.declared.action.Action.TheVariants as action
use Rattle.vc_code.specs.Value.{Held, Words}
use Rattle.vc_code.specs.Operation.{both, operate}
use Rattle.vc_code.specs.Machine.{Shape, Activation, State, Machine, last_get, last_set, is_home}
use Rattle.vc_code.specs.Machine.{cell, cell_words, depth, here, word_at, object, with_calls}
use Rattle.vc_code.specs.Machine.{with_object, ended, found, with_top, with_compared, with_pushed}
use Rattle.vc_code.specs.Machine.{with_event, with_call, with_cleared, with_rest, entered, returned}
use Rattle.vc_code.specs.Machine.{takes, number_in, apply, act, act_on, step, branched, leave}
use Rattle.vc_code.specs.Selected.{Vars, read, argument, begun, shape, at_point, behind, written}
use Rattle.vc_code.specs.Selected.{put_all, held_by, next_of, selected}
use Rattle.vc_code.specs.Selected as selection
use Rattle.vc_coupling.specs.Coupled.{Couples}
use Rattle.vc_checks.specs.declared.fact.Fact.{Fact}
use Rattle.vc_checks.specs.Facts.{AllHold}
use Rattle.vc_checks.specs.LeftOut.{Begins, Part, IsWithout}

-- the instruction that stands just before a place of a block
abbrev pub before : ℕ → List VInstr → Option VInstr
before zero xs = None
before (suc k) xs = slice_get xs k

-- The calls stand before parts of a block of which the one is the other without checks that cannot
-- fail, by facts that hold there.
pub record Tracks (olds news : List VProc) (begins : ℕ → Begins) (c d : Activation Vars) : Type 0
  where
    pub proc : d.proc ≡ c.proc
    pub args : d.args ≡ c.args
    pub aggregates : d.aggregates ≡ c.aggregates
    pub block : d.home.block ≡ c.home.block
    pub held : d.home.held ≡ c.home.held
    pub known : List Fact
    pub part : Part (kind_of (selection.code_of olds c.proc)) (begins c.proc)
        (end_of (selection.code_of olds c.proc) c.home.block)
        (before c.home.index (code_of (selection.code_of olds c.proc) c.home.block)) known
        (drop c.home.index (code_of (selection.code_of olds c.proc) c.home.block))
        (drop d.home.index (code_of (selection.code_of news c.proc) c.home.block))
    pub hold : AllHold (kind_of (selection.code_of olds c.proc)) c.home.held known

module _ (olds news : List VProc) (begins : ℕ → Begins) (frames : List ℕ)
    (all : (p : ℕ) → IsWithout (begins p) (selection.code_of olds p)
    (selection.code_of news p)) where
  abbrev R : Activation Vars → Activation Vars → Type 0
  R = Tracks olds news begins

  abbrev one : ℕ → Shape
  one = shape olds frames

  abbrev other : ℕ → Shape
  other = shape news frames

  same_cells : (c d : Activation Vars) → R c d → (i : ℕ) → cell other d i ≡ cell one c i
  same_cells c d r i =
      let home : is_home (other d.proc) i ≡ is_home (one c.proc) i =
      ap (λ p. is_home (other p) i) r.proc
      ∙ ap (λ kinds. is_home (record
      { kinds = kinds; frame_size = slice_index_or frames c.proc 0 }) i) (all c.proc).vars in
      ap₂ (λ (b : Bool) (args : Words). if b then [] else cell_words (last_get args i)) home r.args

  pub couples : Couples one other R
  couples = record {
    frames = λ c d r. ap (λ p. slice_index_or frames p 0) r.proc;
    aggregates = λ c d r. r.aggregates;
    cells = same_cells;
    set_aggregates = λ c d r words. record {
      proc = r.proc;
      args = r.args;
      aggregates = refl;
      block = r.block;
      held = r.held;
      known = r.known;
      part = r.part;
      hold = r.hold;
    };
    set_cell = λ c d r i h n. record {
      proc = r.proc;
      args = ap (λ (args : Words). last_set args i h) r.args;
      aggregates = r.aggregates;
      block = r.block;
      held = r.held;
      known = r.known;
      part = r.part;
      hold = r.hold;
    };
  }

  -- two calls that begin with the same arguments
  pub begun_tracks : (p : ℕ) (args : Words) → R (begun p (selection.code_of olds p) args)
      (begun p (selection.code_of news p) args)
  begun_tracks p args = record {
    proc = refl;
    args = refl;
    aggregates = ap (λ n. replicate n None) (all p).aggregates;
    block = refl;
    held = ap (map (argument args)) (all p).vars;
    known = begins p 0;
    part = (all p).code 0;
    hold = subst (λ (facts : List Fact). AllHold (kind_of (selection.code_of olds p))
        (map (argument args) (selection.code_of olds p).vars) facts) (sym (all p).entry)
        (λ f none. absurd none);
  }

-- ---- what was compared

-- These are the numbers that the operands hold of a comparison that stands just before the call's
-- place.
abbrev pub AreCompared : List VProc → Activation Vars → ℕ → ℕ → Type 0
AreCompared olds c a b =
    (x y : VarId) →
    before c.home.index (code_of (selection.code_of olds c.proc) c.home.block) ≡ Some (Cmp x y) →
    (read (kind_of (selection.code_of olds c.proc)) c.home.held x.0 ≡ Some (Num a))
    × (read (kind_of (selection.code_of olds c.proc)) c.home.held y.0 ≡ Some (Num b))

-- what the state has compared is what the operands still hold
abbrev pub HasCompared : List VProc → State Vars → Type 0
HasCompared olds s = (a b : ℕ) → s.compared ≡ Some (a, b) → AreCompared olds s.top a b

pub behind_is : (c x : Activation Vars) (o : Option Words) → behind c o ≡ Some x →
    (held : Words) × (o ≡ Some held) × (x ≡ at_point c c.home.block (suc c.home.index) held)
behind_is c x None e = absurd (not_both None x refl e)
behind_is c x (Some held) e = (held, refl, sym (some_same _ _ e))

-- the numbers that a comparison takes are those of its operands
operands : (x y : Held) (a b : ℕ) →
    (both (x ∷ y ∷ []) >>= (λ ab. Some (action.Compare ab.0 ab.1))) ≡ Some (action.Compare a b) →
    (x ≡ Some (Num a)) × (y ≡ Some (Num b))
operands (Some (Num c)) (Some (Num d)) a b e = (cc, cc)
operands _ _ a b e = cc

module _ (olds : List VProc) (frames : List ℕ) where
  abbrev m : Machine Vars
  m = selected olds frames

  abbrev old : ℕ → VProc
  old p = selection.code_of olds p

  abbrev Good : State Vars → Type 0
  Good s = HasCompared olds s

  -- nothing was compared
  nothing : (s : State Vars) → s.compared ≡ None → Good s
  nothing s e a b f = absurd (not_both s.compared (a, b) e f)

  found_good : {A : Type 0} (s : State Vars) (o : Option A) (go : A → State Vars) → Good s →
      ((x : A) → o ≡ Some x → Good (go x)) → Good (found s o go)
  found_good s None go good f = good
  found_good s (Some x) go good f = f x refl

  calls_nothing : (s : State Vars) (cs : List (Activation Vars)) → s.compared ≡ None →
      Good (with_calls s cs)
  calls_nothing s [] e = nothing s e
  calls_nothing s (c ∷ cs) e = nothing (with_calls s (c ∷ cs)) e

  object_nothing : (s : State Vars) (x : Object) (w : ℕ) (h : Held) → s.compared ≡ None →
      Good (with_object m.shape s x w h)
  object_nothing s Data w h e = nothing (with_object m.shape s Data w h) e
  object_nothing s (Aggregates n sum) w h e = calls_nothing s _ e
  object_nothing s (Cell n below i) w h e = calls_nothing s _ e

  module _ (s : State Vars) (good : Good s) where
    abbrev code : List VInstr
    code = code_of (old s.top.proc) s.top.home.block

    top_good : (o : Option (Activation Vars)) → Good (found s o (λ c. with_top s c))
    top_good o = found_good s o _ good (λ c _. nothing (with_top s c) refl)

    takes_good : (after : List Value → Option (Activation Vars)) (input : List ℤ) →
        Good (takes s input after)
    takes_good after [] = good
    takes_good after (n ∷ rest) = found_good s (after (Num (word n) ∷ [])) _ good
        (λ c _. nothing (with_rest rest s c) refl)

    entered_good : (c : Activation Vars) (below : List (Activation Vars)) →
        Good (entered m.shape s c below)
    entered_good c below = by (nat_lt stack_limit (depth m.shape (c ∷ below)))
      where
        by : (full : Bool) →
            Good (if full then ended s (Trapped trap.Stack) else with_call s c below)
        by true = good
        by false = nothing (with_call s c below) refl

    -- only a comparison leaves what it compared
    apply_good : (after : List Value → Option (Activation Vars)) (a : Option Action) →
        ((x y : ℕ) (c : Activation Vars) → a ≡ Some (action.Compare x y) → after [] ≡ Some c →
        Good (with_compared x y s c)) →
        Good (apply m after a s)
    apply_good after None f = good
    apply_good after (Some action.Nothing) f = top_good (after [])
    apply_good after (Some (action.Give x)) f = top_good (after (x ∷ []))
    apply_good after (Some (action.GiveBoth x y)) f = top_good (after (x ∷ y ∷ []))
    apply_good after (Some (action.Compare x y)) f = found_good s (after []) _ good
        (λ c e. f x y c refl e)
    apply_good after (Some (action.Push x)) f = found_good s (after []) _ good
        (λ c _. nothing (with_pushed x s c) refl)
    apply_good after (Some (action.Call p)) f = found_good s (after []) _ good
        (λ c _. found_good s (m.begin p.0 s.pushed) _ good
        (λ callee _. entered_good callee (c ∷ s.below)))
    apply_good after (Some (action.Load x o)) f = found_good s (number_in m.shape s x o) _ good
        (λ n _. top_good (after (Num n ∷ [])))
    apply_good after (Some (action.Store x o n)) f = found_good s (after []) _ good
        (λ c _. found_good s (word_at (object m.shape (with_top s c) x) o) _ good
        (λ _ _. object_nothing (with_top s c) x (o / 4) (Some (Num n)) refl))
    apply_good after (Some (action.Tell x)) f = found_good s (after []) _ good
        (λ c _. nothing (with_event x s c) refl)
    apply_good after (Some action.Input) f = takes_good after s.input
    apply_good after (Some action.Clear) f = found_good s (after []) _ good
        (λ c _. nothing (with_cleared s c) refl)
    apply_good after (Some (action.Trap kind)) f = good

    -- a comparison stands just before the place behind it, and its operands hold what they held
    compared : (i : VInstr) → slice_get code s.top.home.index ≡ Some i → (a b : ℕ)
        (c : Activation Vars) →
        operate (here m.shape s) i (held_by (old s.top.proc) s.top (read_by i)) ≡
        Some (action.Compare a b) →
        written s.top (written_by i) [] ≡ Some c → Good (with_compared a b s c)
    compared i at a b c acts there d e same =
        let w = behind_is s.top c (put_all (Some s.top.home.held) (written_by i) []) there in
        subst (λ z. AreCompared olds z d e) (sym w.2) (λ x y is.
        let one : ℕ × ℕ = (a, b) in
        let other : ℕ × ℕ = (d, e) in
        let numbers : one ≡ other = some_same one other same in
        let reads = by i acts w.0 w.1 x y (some_same i (Cmp x y) (sym at ∙ is)) in (
          reads.0 ∙ ap (λ (z : ℕ × ℕ). Some (Num z.0)) numbers,
          reads.1 ∙ ap (λ (z : ℕ × ℕ). Some (Num z.1)) numbers,
        ))
      where
        by : (i : VInstr) →
            operate (here m.shape s) i (held_by (old s.top.proc) s.top (read_by i)) ≡
            Some (action.Compare a b) →
            (after : Words) → put_all (Some s.top.home.held) (written_by i) [] ≡ Some after →
            (x y : VarId) → i ≡ Cmp x y →
            (read (kind_of (old s.top.proc)) after x.0 ≡ Some (Num a))
            × (read (kind_of (old s.top.proc)) after y.0 ≡ Some (Num b))
        by i acts after put x y is =
            let held : s.top.home.held ≡ after = some_same s.top.home.held after
            (subst (λ z. put_all (Some s.top.home.held) (written_by z) [] ≡ Some after) is put) in
            subst (λ h. (read (kind_of (old s.top.proc)) h x.0 ≡ Some (Num a))
            × (read (kind_of (old s.top.proc)) h y.0 ≡ Some (Num b))) held
            (operands (read (kind_of (old s.top.proc)) s.top.home.held x.0)
            (read (kind_of (old s.top.proc)) s.top.home.held y.0) a b
            (subst (λ z. operate (here m.shape s) z
            (held_by (old s.top.proc) s.top (read_by z)) ≡ Some (action.Compare a b)) is acts))

    instr_good : (i : VInstr) → slice_get code s.top.home.index ≡ Some i →
        Good (act m (next_of (old s.top.proc) s.top (Some i)) s)
    instr_good i at = apply_good (λ xs. written s.top (written_by i) xs) _ (compared i at)

    branched_good : (k : Cond) (one other : ℕ) (o : Option (ℕ × ℕ)) →
        Good (branched m k one other o s)
    branched_good k one other None = good
    branched_good k one other (Some (a, b)) =
        top_good (m.jump (if compares k a b then one else other) s.top)

    returned_good : (calls : List (Activation Vars)) → Good (returned s calls)
    returned_good [] = good
    returned_good (c ∷ calls) = nothing (returned s (c ∷ calls)) refl

    leave_good : (e : End) → Good (leave m e s)
    leave_good (Jump b) = top_good (m.jump b.0 s.top)
    leave_good (Branch k one other) = branched_good k one.0 other.0 s.compared
    leave_good Return = returned_good s.below

    next_good : (o : Option VInstr) → slice_get code s.top.home.index ≡ o →
        Good (act m (next_of (old s.top.proc) s.top o) s)
    next_good None at = leave_good (end_of (old s.top.proc) s.top.home.block)
    next_good (Some i) at = instr_good i at

    -- what a step has compared is what the operands hold behind it
    pub step_compared : s.over ≡ None → Good (step m s)
    step_compared going = subst (λ e. Good (act_on m e s)) (sym going)
        (next_good (slice_get code s.top.home.index) refl)
