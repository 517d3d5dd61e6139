-- What stays while code is added and runs: where the run may go on, and what a target names.
use Rattle.std.proofs.Common.{◌≡◌, ℕ, ◌+◌, ◌<◌, ◌≤◌, List, [], ◌∷◌, ◌++◌, length, map, Option, Some}
use Rattle.std.proofs.Common.{None, refl, ap, ◌∙◌, arith}
use Rattle.std.specs.Prelude.{slice_get}
use Rattle.pra_base.specs.Code.{kind_of}
use Rattle.pra_base.specs.Operands.{via, index, var_of}
use Rattle.pra_base.specs.declared.ids.VarId.{VarId}
use Rattle.pra_base.specs.declared.code.Addr.{Addr}
use Rattle.pra_base.specs.declared.code.Base.{Base}
use Rattle.pra_base.specs.declared.code.Base.TheVariants as base
use Rattle.pra_base.specs.declared.code.VProc.{VProc}
use Rattle.ob_syntax.specs.declared.checked.Checked.{Checked}
use Rattle.ob_mean.specs.Store.{Store}
use Rattle.ob_mean.specs.declared.store.LiveCall.{LiveCall}
use Rattle.ob_mean.specs.declared.store.Location.{Location}
use Rattle.vc_code.specs.declared.action.Here.{Here}
use Rattle.vc_code.specs.Value.{Held}
use Rattle.vc_code.specs.Machine.{Activation, State, here, depth, with_top}
use Rattle.vc_code.specs.Operation.{based, indexed, base_count}
use Rattle.vc_code.specs.Selected.{Vars, read, valued, code_of, shape}
use Rattle.vc_build.specs.Grow.{Grows, GrowsAt, IsOpen}
use Rattle.vc_build.specs.Runs.{Codes, Stands, SameBelow}
use Rattle.vc_build.proofs.Growth.{grows_at_on}
use Rattle.vc_build.proofs.Steps.{runs_in_earlier, runs_in_on}
use Rattle.vc_relation.specs.Relation.{Represents, SameButVariables, homes_in, homes_of}
use Rattle.vc_relation.proofs.Variables.{freed}
use Rattle.vc_select.specs.declared.target.Setting.{Setting}
use Rattle.vc_select.specs.declared.target.Target.{Target}
use Rattle.vc_select.specs.declared.target.Target.TheVariants.{Var, Memory}
use Rattle.vc_select.specs.Targets.{above_base, above_index, above_target, held_for, IsNamed}
use Rattle.vc_select.specs.Selects.{home_variables, selected_module, Starts, Extends}

module _ (w : Codes) (n : ℕ) (s : State Vars) (c : Activation Vars) (same : SameBelow n s.top c)
  where
    abbrev now : ℕ → Held
    now v = read (kind_of (code_of w.procs c.proc)) c.home.held v

    abbrev before : ℕ → Held
    before v = read (kind_of (code_of w.procs s.top.proc)) s.top.home.held v

    pub read_same : (v : ℕ) → v < n → now v ≡ before v
    read_same v lt = ap (λ p. read (kind_of (code_of w.procs p)) c.home.held v) same.proc
        ∙ ap (valued (kind_of (code_of w.procs s.top.proc) v)) (same.held v lt)

    index_same : (i : Option VarId) → above_index i ≤ n → map now (map var_of (index i)) ≡
        map before (map var_of (index i))
    index_same None le = refl
    index_same (Some v) le = ap (λ h. h ∷ []) (read_same v.0 (omega (arith, le)))

    reads_same : (b : Base) (i : Option VarId) → above_base b ≤ n → above_index i ≤ n →
        map now (map var_of (via b ++ index i)) ≡ map before (map var_of (via b ++ index i))
    reads_same (base.Via v) i lb li = ap (λ h. h ∷ map now (map var_of (index i)))
        (read_same v.0 (omega (arith, lb))) ∙ ap (λ hs. before v.0 ∷ hs) (index_same i li)
    reads_same (base.Global x) i lb li = index_same i li
    reads_same (base.Frame x) i lb li = index_same i li
    reads_same (base.Cell x) i lb li = index_same i li

    pub held_same : (a : Addr) → above_target (Memory a) ≤ n → held_for w (with_top s c) a ≡
        held_for w s a
    held_same a le = reads_same a.base a.index (omega (arith, le)) (omega (arith, le))

    abbrev here_by : ℕ → Here
    here_by p = record {
      calls = length s.below;
      sum = (shape w.procs w.frames p).frame_size + depth (shape w.procs w.frames) s.below;
      below = depth (shape w.procs w.frames) s.below;
    }

    pub here_same : here (shape w.procs w.frames) (with_top s c) ≡ here (shape w.procs w.frames) s
    here_same = ap here_by same.proc

    -- a target names the same location while its variables stay
    pub named_on : (program : Checked) (calls : List LiveCall) (target : Target) (l : Location)
        (type_id : ℕ) → above_target target ≤ n → IsNamed program w calls s target l type_id →
        IsNamed program w calls (with_top s c) target l type_id
    named_on program calls (Var v) l type_id le x = x
    named_on program calls (Memory a) l type_id le x = record {
      object = x.object;
      word = x.word;
      place = x.place;
      begin = x.begin;
      offset = x.offset;
      index = x.index;
      base_is = ap (λ h. based h a.base (held_for w (with_top s c) a)) here_same
          ∙ ap (based (here (shape w.procs w.frames) s) a.base) (held_same a le) ∙ x.base_is;
      offset_is = x.offset_is;
      index_is = ap (λ hs. indexed a.index hs (base_count a.base)) (held_same a le) ∙ x.index_is;
      sum = x.sum;
    }

-- ---- where the run goes on

module _ (g : Setting) (w : Codes) (old one : VProc) (from : ℕ) (calls : List LiveCall)
    (store : Store) (s : State Vars) (starts : Starts g w old one from calls store s) where
  pub starts_earlier : (earlier : VProc) → Grows earlier one →
      Starts g w old earlier from calls store s
  starts_earlier earlier grows = record {
    set = starts.set;
    homes = starts.homes;
    variables = starts.variables;
    runs = runs_in_earlier w g.id.0 earlier one s grows starts.runs;
    stands = starts.stands;
    represents = starts.represents;
  }

  module _ (n : ℕ) (c : Activation Vars) (low : home_variables g ≤ n) (same : SameBelow n s.top c)
    where
      but : SameButVariables s (with_top s c)
      but = record {
        proc = same.proc;
        aggregates = same.aggregates;
        args = same.args;
        below = refl;
        globals = refl;
      }

      homes_here : homes_of (selected_module g.program.now w) s ≡ home_variables g
      homes_here = ap (λ p. homes_in (slice_get g.program.now.procs p)) starts.runs.proc

      pub represents_on : Represents (selected_module g.program.now w) calls store (with_top s c)
      represents_on =
          freed (selected_module g.program.now w) s (with_top s c) but calls store starts.set.laid
          starts.represents
          (λ u lt. same.held u (omega (arith, lt, homes_here, low)))

      -- code that was added later runs on behind code that was added before
      pub starts_on : (made later : VProc) (b : ℕ) → Stands made b c → length old.vars ≤
          length made.vars → Grows later one → Starts g w made later b calls store (with_top s c)
      starts_on made later b stands vars grows = record {
        set = starts.set;
        homes = omega (arith, starts.homes, vars);
        variables = starts.variables;
        runs = runs_in_on w g.id.0 n later s c same
            (runs_in_earlier w g.id.0 later one s grows starts.runs);
        stands = stands;
        represents = represents_on;
      }

-- ---- what is added in pieces

pub extends_on : (from mid to : ℕ) (one two three : VProc) → Extends from mid one two →
    Extends mid to two three → Extends from to one three
extends_on from mid to one two three p q = record {
  grows = grows_at_on one two three from mid p.grows q.grows p.apart;
  is_open = q.is_open;
  apart = λ b lt off. q.apart b (omega (arith, lt, p.grows.grows.blocks)) (p.apart b lt off);
}

-- added at the end of the same block
pub extends_at : (at : ℕ) (one two : VProc) → GrowsAt at one two → IsOpen two at →
    Extends at at one two
extends_at at one two grows is_open =
    record { grows = grows; is_open = is_open; apart = λ b lt off. off }
