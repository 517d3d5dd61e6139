-- A comparison and an end with two targets, over all later code; an end with one target.
use Rattle.std.proofs.Common.{◌≡◌, ◌≢◌, ℕ, suc, ◌<◌, Bool, true, false, [], ◌∷◌, length, Some, None}
use Rattle.std.proofs.Common.{refl, sym, ap, ◌∙◌, subst, arith, length-append}
use Rattle.std.specs.Prelude.{pos, slice_get, if◌then◌else◌}
use Rattle.std.proofs.lemmas.Int.{ints}
use Rattle.std.proofs.lemmas.Option.{slice_get-get_or}
use Rattle.pra_base.specs.Code as code
use Rattle.pra_base.specs.Words.{word, compares}
use Rattle.pra_base.specs.declared.ids.BlockId.{BlockId}
use Rattle.pra_base.specs.declared.ids.Cond.{Cond}
use Rattle.pra_base.specs.declared.ids.VarId.{VarId}
use Rattle.pra_base.specs.declared.code.VarKind.TheVariants.{Constant}
use Rattle.pra_base.specs.declared.code.VInstr.TheVariants.{Cmp}
use Rattle.pra_base.specs.declared.code.End.{End}
use Rattle.pra_base.specs.declared.code.End.TheVariants.{Jump, Branch}
use Rattle.pra_base.specs.declared.code.VProc.{VProc}
use Rattle.ob_syntax.specs.Operators.{number, is_true}
use Rattle.ob_syntax.specs.declared.checked.ROp.{ROp}
use Rattle.ob_syntax.specs.declared.checked.ROp.TheVariants.{Unequal}
use Rattle.ob_syntax.specs.declared.checked.Value.TheVariants.{Number, Truth}
use Rattle.vc_code.specs.declared.action.Action.TheVariants.{Compare}
use Rattle.vc_code.specs.declared.value.Value.TheVariants.{Num}
use Rattle.vc_code.specs.Machine.{Activation, State, here, step, act, act_on, apply, found, leave}
use Rattle.vc_code.specs.Machine.{with_top, with_compared}
use Rattle.vc_code.specs.Operation.{operate}
use Rattle.vc_code.specs.Selected.{Vars, read, selected, held_by, shape, code_of, at_point}
use Rattle.vc_code.specs.Selected.{at_block, next_of}
use Rattle.vc_build.specs.Grow.{count, stand_in, IsOpen, with_instr, with_end, with_variable, Grows}
use Rattle.vc_build.specs.Grow.{GrowsAt}
use Rattle.vc_build.specs.Runs.{Codes, runs, Stands, RunsIn, acted, Reaches, Yields}
use Rattle.vc_build.proofs.Growth.{grows_at_again, put_code, put_open, put_grows, closed_there}
use Rattle.vc_build.proofs.Growth.{closed_end, closed_grows, declared_kind, declared_count}
use Rattle.vc_build.proofs.Growth.{declared_grows}
use Rattle.vc_build.proofs.Open.{jump_real, branch_real}
use Rattle.vc_build.proofs.Steps.{run_more, performs, leaves, runs_in_earlier}
use Rattle.vc_expr.specs.Operators.{is_relation, condition_of}
use Rattle.vc_expr.specs.Branches.{Enters, chosen as chosen_of, BranchesBy, BranchesOn}
use Rattle.vc_expr.specs.declared.branch.Targets.{Targets}
use Rattle.vc_expr.proofs.Starts.{reads_are}
use Rattle.vc_expr.proofs.Divisions.{has_constant}
use Rattle.vc_expr.proofs.Relations.{related_words}

-- a block that has a number is there
block_there : (made : VProc) (b : ℕ) → b < count made → slice_get made.blocks b ≡
    Some (code.block_of made b)
block_there made b lt = slice_get-get_or made.blocks b code.no_block lt

-- the call at the begin of a block
abbrev pub entered : Activation Vars → ℕ → Activation Vars
entered c b = at_point c b 0 c.home.held

pub enters_itself : (n b : ℕ) (c : Activation Vars) → Enters b n c (entered c b)
enters_itself n b c = record {
  block = refl;
  index = refl;
  same =
      record { proc = refl; aggregates = refl; args = refl; room = refl; held = λ v lt. refl };
}

-- on to a block that is there
goes : (w : Codes) (id b : ℕ) (s : State Vars) → s.top.proc ≡ id → b < count (code_of w.procs id) →
    found s (at_block s.top b (slice_get (code_of w.procs s.top.proc).blocks b))
    (λ c. with_top s c) ≡ with_top s (entered s.top b)
goes w id b s proc lt =
    ap (λ p. found s (at_block s.top b (slice_get (code_of w.procs p).blocks b))
    (λ c. with_top s c)) proc
    ∙ ap (λ o. found s (at_block s.top b o) (λ c. with_top s c))
    (block_there (code_of w.procs id) b lt)

-- ---- an end with one target

module _ (w : Codes) (id at : ℕ) (old : VProc) (target : BlockId) (o : IsOpen old at)
    (some : target.0 ≢ 0) (there : target.0 < count old) (s : State Vars)
    (stands : Stands old at s.top) (r : RunsIn w id (with_end at (Jump target) old) s) where
  pub jumps : runs w 1 s ≡ with_top s (entered s.top target.0)
  jumps =
      leaves w id at old s o stands (Jump target) (jump_real target some) r
      ∙ goes w id target.0 s r.proc
      (omega (arith, there, (closed_grows at (Jump target) old o).grows.blocks, r.holds.blocks))

-- ---- a comparison, and an end with two targets

-- what ends the block, where the call stands behind all that it has, whatever was compared
module _ (w : Codes) (id at : ℕ) (old : VProc) (s : State Vars) (o : IsOpen old at) (end : End)
    (real : end ≢ stand_in) (holds : Grows (with_end at end old) (code_of w.procs id))
    (proc : s.top.proc ≡ id) (going : s.over ≡ None) (stands : Stands old at s.top) where
  abbrev C : VProc
  C = code_of w.procs id

  fetches : code.instr_at (code_of w.procs s.top.proc) s.top.home.block s.top.home.index ≡ None
  fetches =
      ap (λ p. code.instr_at (code_of w.procs p) s.top.home.block s.top.home.index) proc
      ∙ ap (λ b. code.instr_at C b s.top.home.index) stands.block
      ∙ ap (code.instr_at C at) stands.index
      ∙ closed_there at end old o real C holds

  ends : code.end_of (code_of w.procs s.top.proc) s.top.home.block ≡ end
  ends = ap (λ p. code.end_of (code_of w.procs p) s.top.home.block) proc
      ∙ ap (code.end_of C) stands.block ∙ closed_end at end old o real C holds

  leaves_compared : runs w 1 s ≡ leave (selected w.procs w.frames) end s
  leaves_compared =
      ap (λ x. act_on (selected w.procs w.frames) x s) going
      ∙ ap (λ j. act (selected w.procs w.frames) (next_of (code_of w.procs s.top.proc) s.top j) s)
      fetches
      ∙ ap (λ e. leave (selected w.procs w.frames) e s) ends

module _ (at : ℕ) (old : VProc) (k : Cond) (left right : VarId) (targets : Targets)
    (o : IsOpen old at) (one_there : targets.holds.0 < count old)
    (other_there : targets.fails.0 < count old) where
  abbrev one : BlockId
  one = targets.holds

  abbrev other : BlockId
  other = targets.fails

  abbrev mid : VProc
  mid = with_instr at (Cmp left right) old

  abbrev new : VProc
  new = with_end at (Branch k one other) mid

  mid_open : IsOpen mid at
  mid_open = put_open at (Cmp left right) old o

  branch_grows : GrowsAt at old new
  branch_grows = grows_at_again old mid new at (put_grows at (Cmp left right) old o)
      (closed_grows at (Branch k one other) mid mid_open)

  module _ (w : Codes) (id : ℕ) (s : State Vars) (x y : ℕ) (r : RunsIn w id new s)
      (stands : Stands old at s.top)
      (held : held_by (code_of w.procs s.top.proc) s.top (left.0 ∷ right.0 ∷ []) ≡
      Some (Num x) ∷ Some (Num y) ∷ []) where
    abbrev moved : Activation Vars
    moved = at_point s.top s.top.home.block (suc s.top.home.index) s.top.home.held

    abbrev compared : State Vars
    compared = with_compared x y s moved

    acts : acted w (Cmp left right) s ≡ Some (Compare x y)
    acts = ap (operate (here (shape w.procs w.frames) s) (Cmp left right)) held

    compares_them : runs w 1 s ≡ compared
    compares_them =
        performs w id at old s o stands (Cmp left right)
        (runs_in_earlier w id mid new s
        (closed_grows at (Branch k one other) mid mid_open).grows r)
        ∙ ap (λ a. apply (selected w.procs w.frames) (λ xs. Some moved) a s) acts

    stands_behind : Stands mid at moved
    stands_behind = record {
      block = stands.block;
      index = omega (
        arith,
        stands.index,
        ap (λ l. length l) (put_code at (Cmp left right) old o),
        length-append (code.code_of old at) (Cmp left right ∷ []),
      );
    }

    abbrev chosen : ℕ
    chosen = if compares k x y then one.0 else other.0

    chosen_there : (b : Bool) → (if b then one.0 else other.0) < count (code_of w.procs id)
    chosen_there true = omega (arith, one_there, branch_grows.grows.blocks, r.holds.blocks)
    chosen_there false = omega (arith, other_there, branch_grows.grows.blocks, r.holds.blocks)

    pub branches : runs w 2 s ≡ with_top s (entered s.top chosen)
    branches =
        run_more (step (selected w.procs w.frames)) 1 1 s
        ∙ ap (runs w 1) compares_them
        ∙ leaves_compared w id at mid compared mid_open (Branch k one other)
        (branch_real k one other) r.holds r.proc r.going stands_behind
        ∙ goes w id chosen compared r.proc (chosen_there (compares k x y))

  pub branches_by : (op : ROp) → is_relation op ≡ true → k ≡ condition_of op →
      BranchesBy op at old new left.0 right.0 targets
  branches_by op relation is = record {
    grows = branch_grows;
    means = λ w id s x y r stands hx hy.
        let held : held_by (code_of w.procs s.top.proc) s.top (left.0 ∷ right.0 ∷ []) ≡
        Some (Num (word (number x))) ∷ Some (Num (word (number y))) ∷ [] =
        reads_are w id s r.proc (left.0 ∷ right.0 ∷ [])
        ∙ ap (λ h. h ∷ read (code.kind_of (code_of w.procs id)) s.top.home.held right.0 ∷ [])
        hx.held ∙ ap (λ h. Some (Num (word (number x))) ∷ h ∷ []) hy.held in
        let related = related_words op relation x y hx.fits hy.fits in
        let choice : (if compares k (word (number x)) (word (number y)) then one.0 else other.0) ≡
        (if is_true (Truth related.answer) then one.0 else other.0) =
        ap (λ c. if compares c (word (number x)) (word (number y)) then one.0 else other.0) is
        ∙ ap (λ b. if b then one.0 else other.0) (related.words ∙ sym (truth_is related.answer)) in
        subst (Yields w s (λ z c. Enters (chosen_of targets (is_true z)) (length old.vars) s.top c))
        (sym related.value)
        (record {
          steps = 2;
          call = entered s.top (if compares k (word (number x)) (word (number y)) then one.0 else
              other.0);
          there = branches w id s (word (number x)) (word (number y)) r stands held;
          good = subst (λ b. Enters b (length old.vars) s.top
              (entered s.top (if compares k (word (number x)) (word (number y)) then one.0 else
              other.0))) choice
              (enters_itself (length old.vars)
              (if compares k (word (number x)) (word (number y)) then one.0 else other.0)
              s.top);
        });
  }
    where
      truth_is : (b : Bool) → is_true (Truth b) ≡ b
      truth_is true = refl
      truth_is false = refl

-- by a truth value: it is not 0
module _ (at : ℕ) (old new : VProc) (v : ℕ) (targets : Targets) (zero : VarId)
    (is_new : zero.0 ≡ length old.vars)
    (b : BranchesBy Unequal at (with_variable (Constant (pos 0)) old) new v zero.0 targets) where
  abbrev before : VProc
  before = with_variable (Constant (pos 0)) old

  zero_named : zero.0 < length before.vars
  zero_named = omega (arith, is_new, declared_count (Constant (pos 0)) old)

  truth_of : (t : Bool) → is_true (Truth t) ≡ t
  truth_of true = refl
  truth_of false = refl

  pub branches_on : BranchesOn at old new v targets
  branches_on = record {
    grows = grows_at_again old before new at (declared_grows (Constant (pos 0)) old at) b.grows;
    means = λ w id s x r stands hx.
        let kind = r.holds.kinds zero.0 (omega (arith, zero_named, b.grows.grows.vars))
        ∙ b.grows.grows.kinds zero.0 zero_named ∙ ap (code.kind_of before) is_new
        ∙ declared_kind (Constant (pos 0)) old in
        let y : Reaches w s (Enters (chosen_of targets (is_true (Truth (is_true x))))
        (length before.vars) s.top) =
        b.means w id s x (Number (pos 0)) r (record { block = stands.block; index = stands.index })
        hx (has_constant w id zero.0 s.top (pos 0) (omega (arith, ints)) kind) in
        record {
          steps = y.steps;
          call = y.call;
          there = y.there;
          good = record {
            block = y.good.block ∙ ap (chosen_of targets) (truth_of (is_true x));
            index = y.good.index;
            same = record {
              proc = y.good.same.proc;
              aggregates = y.good.same.aggregates;
              args =
                  y.good.same.args;
              room = y.good.same.room;
              held =
                  λ u lt. y.good.same.held u
                  (omega (arith, lt, declared_count (Constant (pos 0)) old));
            };
          };
        };
  }
