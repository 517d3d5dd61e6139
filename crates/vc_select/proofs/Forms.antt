-- The code of each form of expression gives its value.
use Rattle.std.proofs.Common.{◌≡◌, ℕ, ◌<◌, ◌≤◌, true, List, length, Option, Some, None, Ok, refl}
use Rattle.std.proofs.Common.{sym, ap, ◌∙◌, subst, arith}
use Rattle.std.specs.Prelude.{ℤ, pos, ◌&&◌, slice_index_or, unwrap_or}
use Rattle.std.specs.FinMap as map
use Rattle.std.specs.Int.{w32}
use Rattle.std.specs.Int.RustNames.{FitsSigned}
use Rattle.pra_list.specs.Results.{◌>>=◌}
use Rattle.pra_list.proofs.Choices.{and_true}
use Rattle.pra_base.specs.Code.{kind_of}
use Rattle.pra_base.specs.Words.{word}
use Rattle.pra_base.specs.declared.code.VarKind.TheVariants.{Constant}
use Rattle.pra_base.specs.declared.code.VProc.{VProc}
use Rattle.ob_syntax.specs.Expressions.{boolean}
use Rattle.ob_syntax.specs.Operators.{Outcome, number}
use Rattle.ob_syntax.specs.WellFormed.{is_scalar}
use Rattle.ob_syntax.specs.declared.checked.Value.{Value}
use Rattle.ob_syntax.specs.declared.checked.Value.TheVariants.{Number}
use Rattle.ob_mean.specs.Designators.{Located}
use Rattle.ob_mean.specs.Expressions.{Evaluation}
use Rattle.ob_mean.specs.Store.{Store, read}
use Rattle.ob_mean.specs.declared.store.LiveCall.{LiveCall}
use Rattle.vc_code.specs.declared.value.Value.TheVariants.{Num}
use Rattle.vc_code.specs.Machine.{Activation, State, with_top}
use Rattle.vc_code.specs.Selected.{Vars, valued, code_of}
use Rattle.vc_build.specs.Grow.{IsOpen, with_variable, Grows, GrowsAt}
use Rattle.vc_build.specs.Runs.{Codes, Stands, RunsIn, SameBelow, Reaches, Yields}
use Rattle.vc_build.proofs.Growth.{grows_on, declared_kind, declared_count, declared_grows}
use Rattle.vc_build.proofs.Steps.{same_self, same_on, rests, yields_on, runs_in_on}
use Rattle.vc_expr.specs.Operators.{HasValue, Gives, IsBit}
use Rattle.vc_expr.proofs.Operations.{read_on}
use Rattle.vc_select.specs.declared.target.Setting.{Setting}
use Rattle.vc_select.specs.declared.target.Target.{Target}
use Rattle.vc_typed.specs.Typing.{Typing, typed}
use Rattle.vc_select.specs.Selects.{Starts, Results, Selects, Finds, Locates, Loads}
use Rattle.vc_select.proofs.Counting.{yields_at}
use Rattle.vc_select.proofs.Keeping.{starts_earlier, starts_on, extends_on, extends_at}

-- what is said of a tree is said of one that means the same
pub selects_as : (g : Setting) (old new : VProc) (from to v : ℕ) (one other : Typing)
    (e f : Evaluation) → other ≡ one →
    ((calls : List LiveCall) (store : Store) → f calls store ≡ e calls store) →
    Selects g old new from to v one e → Selects g old new from to v other f
selects_as g old new from to v one other e f types values p = record {
  extends = p.extends;
  means = λ w calls store s starts good.
      subst (Yields w s (Results w g.id.0 new to v (length old.vars) s.top other.type_id))
      (sym (values calls store))
      (subst (λ (t : Typing). Yields w s
      (Results w g.id.0 new to v (length old.vars) s.top t.type_id) (e calls store)) (sym types)
      (p.means w calls store s starts (ap (λ (t : Typing). t.good) (sym types) ∙ good)));
}

-- what is reached from a call that is as it was is reached from the first one
pub results_since : (w : Codes) (id : ℕ) (made : VProc) (b v n m : ℕ) (s : State Vars)
    (a c : Activation Vars) (type_id : ℕ) (x : Value) → n ≤ m → SameBelow n a c →
    Reaches w s (Results w id made b v m c type_id x) →
    Reaches w s (Results w id made b v n a type_id x)
results_since w id made b v n m s a c type_id x le same y = record {
  steps = y.steps;
  call = y.call;
  there = y.there;
  good = record {
    gives = record {
      fits = y.good.gives.fits;
      holds = record {
        stands = y.good.gives.holds.stands;
        same =
            same_on n m a c y.call le same y.good.gives.holds.same;
        value =
            y.good.gives.holds.value;
      };
    };
    bit = y.good.bit;
  };
}

-- ---- numbers and truth values

pub selects_constant : (g : Setting) (old : VProc) (at v : ℕ) (n : ℤ) (typing : Typing)
    (x : Value) → IsOpen old at → v ≡ length old.vars → FitsSigned w32 n → number x ≡ n →
    (typing.type_id ≡ boolean → IsBit x) →
    Selects g old (with_variable (Constant n) old) at at v typing (λ calls store. Ok x)
selects_constant g old at v n typing x o is_new fits is bit =
    let new = with_variable (Constant n) old in
    record {
      extends = extends_at at old new (declared_grows (Constant n) old at) o;
      means = λ w calls store s starts good.
          let named : v < length new.vars =
          omega (arith, is_new, declared_count (Constant n) old) in
          let kind : kind_of (code_of w.procs g.id.0) v ≡ Constant n =
          starts.runs.holds.kinds v named ∙ ap (kind_of new) is_new
          ∙ declared_kind (Constant n) old in
          rests w s (Results w g.id.0 new at v (length old.vars) s.top typing.type_id x)
          starts.runs.compared (record {
            gives = record {
              fits = subst (FitsSigned w32) (sym is) fits;
              holds = record {
                stands = record { block = starts.stands.block; index = starts.stands.index };
                same = same_self (length old.vars) s.top;
                value = ap (λ k. valued k (slice_index_or s.top.home.held v None)) kind
                    ∙ ap (λ z. Some (Num (word z))) (sym is);
              };
            };
            bit = bit;
          });
    }

-- ---- variables

-- what nothing was assigned to is 0 or FALSE
number_read : (o : Option Value) (start : Value) → number start ≡ pos 0 →
    number (unwrap_or o start) ≡ number (unwrap_or o (Number (pos 0)))
number_read None start e = e
number_read (Some x) start e = refl

module _ (g : Setting) (old mid new : VProc) (from to v : ℕ) (target : Target) (typing : Typing)
    (find : List LiveCall → Store → Located) (start : Value) (zero_start : number start ≡ pos 0)
    (p : Locates g old mid from to target typing find) (q : Loads g to mid new target v) where
  abbrev scalar_typing : Typing
  scalar_typing = typed (typing.good && is_scalar typing.type_id) typing.type_id

  abbrev content_of : Evaluation
  content_of calls store = find calls store >>= λ l. Ok (read store start l)

  pub selects_variable : Selects g old new from to v scalar_typing content_of
  selects_variable = record {
    extends = extends_on from to to old mid new p.extends (extends_at to mid new q.grows q.is_open);
    means = λ w calls store s starts good.
        let parts = and_true typing.good (is_scalar typing.type_id) good in
        yields_on w s (Finds g w mid to calls s (length old.vars) target typing.type_id)
        (Results w g.id.0 new to v (length old.vars) s.top typing.type_id) (find calls store)
        (λ l. Ok (read store start l))
        (p.means w calls store s
        (starts_earlier g w old new from calls store s starts mid q.grows.grows) parts.0)
        (λ l c found.
        results_since w g.id.0 new to v (length old.vars) (length mid.vars) (with_top s c) s.top c
        typing.type_id (read store start l) p.extends.grows.grows.vars found.same
        (q.means w calls store (with_top s c) l typing.type_id (read store start l)
        (starts_on g w old new from calls store s starts (length old.vars) c starts.homes found.same
        mid new to found.stands p.extends.grows.grows.vars (grows_itself new))
        found.named parts.1 (number_read (map.get store l) start zero_start)));
  }
    where
      grows_itself : (x : VProc) → Grows x x
      grows_itself x = (Rattle.vc_build.proofs.Growth.grows_at_same x 0).grows

-- ---- one operand

module _ (g : Setting) (old mid new : VProc) (from to u v : ℕ) (typing after : Typing)
    (e : Evaluation) (f : Value → Value) (p : Selects g old mid from to u typing e)
    (grows : GrowsAt to mid new) (is_open : IsOpen new to)
    (goods : after.good ≡ true → typing.good ≡ true) (bits : (x : Value) → after.type_id ≡ boolean →
    IsBit (f x))
    (does : after.good ≡ true → (w : Codes) (s : State Vars) (x : Value) → RunsIn w g.id.0 new s →
    Stands mid to s.top → HasValue w g.id.0 u s.top x → (typing.type_id ≡ boolean → IsBit x) →
    Reaches w s (Gives w g.id.0 new to v (length old.vars) s.top (f x))) where
  pub selects_one : Selects g old new from to v after
      (λ calls store. e calls store >>= λ x. Ok (f x))
  selects_one = record {
    extends = extends_on from to to old mid new p.extends (extends_at to mid new grows is_open);
    means = λ w calls store s starts good.
        yields_on w s (Results w g.id.0 mid to u (length old.vars) s.top typing.type_id)
        (Results w g.id.0 new to v (length old.vars) s.top after.type_id) (e calls store)
        (λ x. Ok (f x))
        (p.means w calls store s
        (starts_earlier g w old new from calls store s starts mid grows.grows) (goods good))
        (λ x c res.
        let y = does good w (with_top s c) x
        (runs_in_on w g.id.0 (length old.vars) new s c res.gives.holds.same starts.runs)
        res.gives.holds.stands (record { fits = res.gives.fits; held = res.gives.holds.value })
        res.bit in
        record {
          steps = y.steps;
          call = y.call;
          there = y.there;
          good = record {
            gives = record {
              fits = y.good.fits;
              holds = record {
                stands = y.good.holds.stands;
                same =
                    same_on (length old.vars) (length old.vars) s.top c y.call (omega arith)
                    res.gives.holds.same y.good.holds.same;
                value = y.good.holds.value;
              };
            };
            bit = bits x;
          };
        });
  }

-- ---- two operands

module _ (g : Setting) (old one two new : VProc) (from between to u v r : ℕ)
    (left right after : Typing) (e f : Evaluation) (op : Value → Value → Outcome)
    (named : u < length one.vars)
    (p : Selects g old one from between u left e) (q : Selects g one two between to v right f)
    (grows : GrowsAt to two new) (is_open : IsOpen new to)
    (goods : after.good ≡ true → (left.good ≡ true) × (right.good ≡ true))
    (bits : (x y z : Value) → (left.type_id ≡ boolean → IsBit x) →
    (right.type_id ≡ boolean → IsBit y) → after.good ≡ true → after.type_id ≡ boolean →
    op x y ≡ Ok z → IsBit z)
    (does : after.good ≡ true → (w : Codes) (s : State Vars) (x y : Value) → RunsIn w g.id.0 new s →
    Stands two to s.top → HasValue w g.id.0 u s.top x → HasValue w g.id.0 v s.top y →
    (left.type_id ≡ boolean → IsBit x) → (right.type_id ≡ boolean → IsBit y) →
    Yields w s (Gives w g.id.0 new to r (length old.vars) s.top) (op x y)) where
  module _ (w : Codes) (calls : List LiveCall) (store : Store) (s : State Vars)
      (starts : Starts g w old new from calls store s) (good : after.good ≡ true) where
    abbrev R : Value → Activation Vars → Type 0
    R z c = Results w g.id.0 new to r (length old.vars) s.top after.type_id z c

    one_new : Grows one new
    one_new = grows_on one two new q.extends.grows.grows grows.grows

    behind : (x y : Value) (c d : Activation Vars) → Results w g.id.0 one between u
        (length old.vars) s.top left.type_id x c → Results w g.id.0 two to v (length one.vars) c
        right.type_id y d → Yields w (with_top s d) R (op x y)
    behind x y c d a b =
        let same = same_on (length old.vars) (length one.vars) s.top c d p.extends.grows.grows.vars
        a.gives.holds.same b.gives.holds.same in
        yields_at w (with_top s d) (Gives w g.id.0 new to r (length old.vars) d) R (op x y)
        (does good w (with_top s d) x y
        (runs_in_on w g.id.0 (length old.vars) new s d same starts.runs) b.gives.holds.stands
        (record {
          fits = a.gives.fits;
          held = read_on w g.id.0 (length one.vars) u c d
              (Some (Num (word (number x)))) b.gives.holds.same named a.gives.holds.value;
        })
        (record { fits = b.gives.fits; held = b.gives.holds.value }) a.bit b.bit)
        (λ z k is given.
        rests w (with_top s k) (R z) refl (record {
          gives = record {
            fits = given.fits;
            holds = record {
              stands = given.holds.stands;
              same =
                  same_on (length old.vars) (length old.vars) s.top d k (omega arith) same
                  given.holds.same;
              value = given.holds.value;
            };
          };
          bit = λ t. bits x y z a.bit b.bit good t is;
        }))

    all : Yields w s R (e calls store >>= λ x. f calls store >>= λ y. op x y)
    all =
        yields_on w s (Results w g.id.0 one between u (length old.vars) s.top left.type_id) R
        (e calls store) (λ x. f calls store >>= λ y. op x y)
        (p.means w calls store s (starts_earlier g w old new from calls store s starts one one_new)
        (goods good).0)
        (λ x c a.
        yields_on w (with_top s c) (Results w g.id.0 two to v (length one.vars) c right.type_id) R
        (f calls store) (λ y. op x y)
        (q.means w calls store (with_top s c)
        (starts_on g w old new from calls store s starts (length old.vars) c starts.homes
        a.gives.holds.same one two between a.gives.holds.stands p.extends.grows.grows.vars
        grows.grows) (goods good).1)
        (λ y d b. behind x y c d a b))

  pub selects_two : Selects g old new from to r after
      (λ calls store. e calls store >>= λ x. f calls store >>= λ y. op x y)
  selects_two = record {
    extends = extends_on from to to old two new
        (extends_on from between to old one two p.extends q.extends)
        (extends_at to two new grows is_open);
    means = all;
  }
