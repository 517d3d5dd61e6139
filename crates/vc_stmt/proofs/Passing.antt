-- The code of an argument gives a variable what is pushed for it.
use Rattle.std.proofs.Common.{◌≡◌, ℕ, ◌<◌, true, List, [], ◌∷◌, ◌++◌, length, Result, Ok, Err, refl}
use Rattle.std.proofs.Common.{sym, ap, ◌∙◌, subst, append-nil}
use Rattle.std.specs.Prelude.{not}
use Rattle.pra_list.specs.Results.{◌>>=◌}
use Rattle.pra_list.proofs.Choices.{and_true, not_true}
use Rattle.pra_base.specs.Code.{kind_of}
use Rattle.pra_base.specs.declared.event.TrapKind.{TrapKind}
use Rattle.pra_base.specs.declared.ids.VarId.{VarId}
use Rattle.pra_base.specs.declared.code.VProc.{VProc}
use Rattle.ob_syntax.specs.WellFormed.{lent_root, lent_by}
use Rattle.ob_syntax.specs.declared.checked.Param.{Param}
use Rattle.ob_syntax.specs.declared.checked.RArg.{RArg}
use Rattle.ob_syntax.specs.declared.checked.RArg.TheVariants as arg
use Rattle.ob_syntax.specs.declared.checked.RExpr.{RExpr}
use Rattle.ob_syntax.specs.declared.checked.RVar.{RVar}
use Rattle.ob_mean.specs.Expressions.{value, location}
use Rattle.ob_mean.specs.Statements.{argument, arguments}
use Rattle.ob_mean.specs.Store.{Store}
use Rattle.ob_mean.specs.declared.store.Argument.{Argument}
use Rattle.ob_mean.specs.declared.store.Argument.TheVariants.{Passed, Lent}
use Rattle.ob_mean.specs.declared.store.LiveCall.{LiveCall}
use Rattle.vc_code.specs.Machine.{Activation, State, with_top}
use Rattle.vc_code.specs.Selected.{Vars, read, code_of}
use Rattle.vc_build.specs.Grow.{IsOpen}
use Rattle.vc_build.specs.Runs.{Codes, Stands, SameBelow, Reaches, Yields}
use Rattle.vc_build.proofs.Growth.{grows_same}
use Rattle.vc_build.proofs.Steps.{same_on, same_self, yields_after, yields_on, rests}
use Rattle.vc_expr.proofs.Operations.{read_on}
use Rattle.vc_relation.specs.Relation.{IsAddressOf}
use Rattle.vc_select.specs.declared.target.Setting.{Setting}
use Rattle.vc_select.specs.declared.target.Target.{Target}
use Rattle.vc_select.specs.Selects.{Starts, Selects, Results, Locates, Finds, selected_module}
use Rattle.vc_select.proofs.Keeping.{starts_earlier, starts_on, extends_on, extends_at}
use Rattle.vc_select.proofs.Sides.{of_type}
use Rattle.vc_typed.specs.TypedStatements.{is_passed, are_passed}
use Rattle.vc_typed.specs.Typing.{Typing, typing, variable_typing, is_of}
use Rattle.vc_call.specs.Begins.{IsPushed}
use Rattle.vc_stmt.specs.Passes.{HasArgument, HaveArguments, Passes, PassesAll, Lends}
use Rattle.vc_stmt.specs.Sound.{addressed}
use Rattle.vc_stmt.proofs.Lending.{in_memory}
use Rattle.vc_stmt.proofs.Sounds.{parted}
use Rattle.vc_stmt.proofs.Storing.{value_typed}

-- as yields_on, and what the part gave is known
yields_known : {A B : Type 0} (w : Codes) (s : State Vars) (Q : A → Activation Vars → Type 0)
    (R : B → Activation Vars → Type 0) (r : Result A TrapKind) (h : A → Result B TrapKind) →
    Yields w s Q r → ((x : A) (c : Activation Vars) → r ≡ Ok x → Q x c →
    Yields w (with_top s c) R (h x)) → Yields w s R (r >>= h)
yields_known w s Q R (Ok x) h y go = yields_after w s y.call y.steps y.there R (h x)
    (go x y.call refl y.good)
yields_known w s Q R (Err trap) h y go = y

-- ---- a value

module _ (g : Setting) (old new : VProc) (from to v : ℕ) (e : RExpr) (a : RArg)
    (is : a ≡ arg.Value e) (p : Selects g old new from to v (typing g.program.now g.id.0 e)
    (value g.program.now e)) where
  abbrev its_typing : Typing
  its_typing = typing g.program.now g.id.0 e

  value_passes : (w : Codes) (calls : List LiveCall) (store : Store) (s : State Vars)
      (param : Param) → Starts g w old new from calls store s → is_passed g.program.now g.id.0 param
      (arg.Value e) ≡ true →
      Yields w s (λ x c. Stands new to c × SameBelow (length old.vars) s.top c ×
      HasArgument g.program.now w g.id.0 calls param x v c)
      (argument g.program.now calls store (arg.Value e))
  value_passes w calls store s param starts passed =
      let both = and_true (not param.by_var) (is_of param.type_id its_typing) passed in
      let type_is = of_type param.type_id its_typing both.1 in
      yields_on w s (Results w g.id.0 new to v (length old.vars) s.top its_typing.type_id)
      (λ x c. Stands new to c × SameBelow (length old.vars) s.top c ×
      HasArgument g.program.now w g.id.0 calls param x v c)
      (value g.program.now e calls store) (λ y. Ok (Passed y))
      (p.means w calls store s starts type_is.0)
      (λ y c found.
      rests w (with_top s c) (λ d. Stands new to d × SameBelow (length old.vars) s.top d ×
      HasArgument g.program.now w g.id.0 calls param (Passed y) v d) refl (
        found.gives.holds.stands,
        found.gives.holds.same,
        (
          not_true param.by_var both.0,
          record {
            typed = value_typed param.type_id y found.gives.fits
                (λ boolean. found.bit (type_is.1 ∙ boolean));
            word = found.gives.holds.value;
          },
        ),
      ))

  pub passes_value : Passes g old new from to v a
  passes_value = record {
    extends = p.extends;
    means = λ w calls store s param starts passed has.
        subst (λ (z : RArg). Yields w s
        (λ x c. Stands new to c × SameBelow (length old.vars) s.top c ×
        HasArgument g.program.now w g.id.0 calls param x v c)
        (argument g.program.now calls store z)) (sym is)
        (value_passes w calls store s param starts
        (sym (ap (is_passed g.program.now g.id.0 param) is) ∙ passed));
  }

-- ---- what is lent

module _ (g : Setting) (old mid new : VProc) (from to t : ℕ) (target : Target) (v : RVar) (a : RArg)
    (is : a ≡ arg.Lent v) (p : Locates g old mid from to target
    (variable_typing g.program.now g.id.0 v) (location g.program.now v))
    (r : Lends g to mid new target t) where
  abbrev lent_typing : Typing
  lent_typing = variable_typing g.program.now g.id.0 v

  lent_passes : (w : Codes) (calls : List LiveCall) (store : Store) (s : State Vars)
      (param : Param) → Starts g w old new from calls store s → is_passed g.program.now g.id.0 param
      (arg.Lent v) ≡ true → addressed g.program.now g.id.0 (lent_root v) ≡ true →
      Yields w s (λ x c. Stands new to c × SameBelow (length old.vars) s.top c ×
      HasArgument g.program.now w g.id.0 calls param x t c)
      (argument g.program.now calls store (arg.Lent v))
  lent_passes w calls store s param starts passed has =
      let both = and_true param.by_var (is_of param.type_id lent_typing) passed in
      let type_is = of_type param.type_id lent_typing both.1 in
      let R = λ (x : Argument) (c : Activation Vars). Stands new to c ×
      SameBelow (length old.vars) s.top c × HasArgument g.program.now w g.id.0 calls param x t
      c in
      yields_known w s (Finds g w mid to calls s (length old.vars) target lent_typing.type_id) R
      (location g.program.now v calls store) (λ l. Ok (Lent l))
      (p.means w calls store s
      (starts_earlier g w old new from calls store s starts mid r.grows.grows) type_is.0)
      (λ l c names found.
      let t_s = with_top s c in
      let at_mid = starts_on g w old new from calls store s starts (length old.vars) c starts.homes
      found.same mid new to found.stands p.extends.grows.grows.vars (grows_same new) in
      let never = in_memory g starts.set w calls store t_s at_mid.represents at_mid.runs.proc v l
      has names in
      let y = r.means w calls store t_s l lent_typing.type_id at_mid found.named never in
      record {
        steps = y.steps;
        call = y.call;
        there = y.there;
        good = (
          y.good.0,
          same_on (length old.vars) (length mid.vars) s.top c y.call p.extends.grows.grows.vars
              found.same y.good.1,
          (
            both.0,
            subst (λ k. IsAddressOf (selected_module g.program.now w) calls l k
                (read (kind_of (code_of w.procs g.id.0)) y.call.home.held t)) type_is.1 y.good.2,
          ),
        );
      })

  pub passes_lent : Passes g old new from to t a
  passes_lent = record {
    extends = extends_on from to to old mid new p.extends (extends_at to mid new r.grows r.is_open);
    means = λ w calls store s param starts passed has.
        subst (λ (z : RArg). Yields w s
        (λ x c. Stands new to c × SameBelow (length old.vars) s.top c ×
        HasArgument g.program.now w g.id.0 calls param x t c)
        (argument g.program.now calls store z)) (sym is)
        (lent_passes w calls store s param starts
        (sym (ap (is_passed g.program.now g.id.0 param) is) ∙ passed)
        (sym (ap (addressed g.program.now g.id.0) (append-nil (lent_root v)))
        ∙ sym (ap (λ z. addressed g.program.now g.id.0 (lent_by (z ∷ []))) is) ∙ has));
  }

-- ---- all arguments

-- what a variable has for an argument stays while the variable does
pushed_on : (program_g : Setting) (w : Codes) (calls : List LiveCall) (param : Param) (x : Argument)
    (v n : ℕ) (c d : Activation Vars) → v < n → SameBelow n c d →
    HasArgument program_g.program.now w program_g.id.0 calls param x v c →
    HasArgument program_g.program.now w program_g.id.0 calls param x v d
pushed_on g w calls param x v n c d lt same has =
    subst (IsPushed (selected_module g.program.now w) calls param x)
    (sym (read_on w g.id.0 n v c d (read (kind_of (code_of w.procs g.id.0)) c.home.held v) same lt
    refl)) has

pub passes_none : (g : Setting) (old : VProc) (at : ℕ) → IsOpen old at →
    PassesAll g old old at at [] []
passes_none g old at o = record {
  extends = extends_at at old old (record { grows = grows_same old; others = λ b lt off. refl }) o;
  means = λ w calls store s params starts passed has. by_params w calls store s starts params
      passed;
}
  where
    by_params : (w : Codes) (calls : List LiveCall) (store : Store) (s : State Vars) →
        Starts g w old old at calls store s → (params : List Param) →
        are_passed g.program.now g.id.0 params [] ≡ true →
        Reaches w s (λ c. Stands old at c × SameBelow (length old.vars) s.top c ×
        HaveArguments g.program.now w g.id.0 calls params [] [] c)
    by_params w calls store s starts [] passed = rests w s _ starts.runs.compared
        (starts.stands, same_self (length old.vars) s.top, tt)
    by_params w calls store s starts (param ∷ params) passed = absurd (cc)

module _ (g : Setting) (old mid new : VProc) (from between to : ℕ) (v : VarId) (vs : List VarId)
    (a : RArg) (args : List RArg) (p : Passes g old mid from between v.0 a)
    (named : v.0 < length mid.vars) (q : PassesAll g mid new between to vs args) where
  split : addressed g.program.now g.id.0 (lent_by (a ∷ args)) ≡ true →
      (addressed g.program.now g.id.0 (lent_by (a ∷ [])) ≡ true) ×
      (addressed g.program.now g.id.0 (lent_by args) ≡ true)
  split has = parted g.program.now g.id.0 (lent_by (a ∷ [])) (lent_by args)
      (ap (addressed g.program.now g.id.0) (apart a) ∙ has)
    where
      apart : (b : RArg) → (lent_by (b ∷ []) ++ lent_by args) ≡ lent_by (b ∷ args)
      apart (arg.Value e) = refl
      apart (arg.Lent x) = ap (λ z. z ++ lent_by args) (append-nil (lent_root x))

  module _ (w : Codes) (calls : List LiveCall) (store : Store) (s : State Vars)
      (starts : Starts g w old new from calls store s)
      (has : addressed g.program.now g.id.0 (lent_by (a ∷ args)) ≡ true) where
    more : (params : List Param) → are_passed g.program.now g.id.0 params (a ∷ args) ≡ true →
        Yields w s (λ xs c. Stands new to c × SameBelow (length old.vars) s.top c ×
        HaveArguments g.program.now w g.id.0 calls params xs (v ∷ vs) c)
        (arguments g.program.now calls store (a ∷ args))
    more [] passed = absurd (cc)
    more (param ∷ params) passed =
        let both = and_true (is_passed g.program.now g.id.0 param a)
        (are_passed g.program.now g.id.0 params args) passed in
        let halves = split has in
        let R = λ (xs : List Argument) (c : Activation Vars). Stands new to c ×
        SameBelow (length old.vars) s.top c × HaveArguments g.program.now w g.id.0 calls
        (param ∷ params) xs (v ∷ vs) c in
        yields_on w s (λ x c. Stands mid between c × SameBelow (length old.vars) s.top c ×
        HasArgument g.program.now w g.id.0 calls param x v.0 c) R
        (argument g.program.now calls store a)
        (λ x. arguments g.program.now calls store args >>= λ xs. Ok (x ∷ xs))
        (p.means w calls store s param
        (starts_earlier g w old new from calls store s starts mid q.extends.grows.grows) both.0
        halves.0)
        (λ x c first.
        yields_on w (with_top s c) (λ xs d. Stands new to d × SameBelow (length mid.vars) c d ×
        HaveArguments g.program.now w g.id.0 calls params xs vs d) R
        (arguments g.program.now calls store args) (λ xs. Ok (x ∷ xs))
        (q.means w calls store (with_top s c) params
        (starts_on g w old new from calls store s starts (length old.vars) c starts.homes first.1
        mid new between first.0 p.extends.grows.grows.vars (grows_same new)) both.1 halves.1)
        (λ xs d rest.
        rests w (with_top s d) (λ e. Stands new to e × SameBelow (length old.vars) s.top e ×
        HaveArguments g.program.now w g.id.0 calls (param ∷ params) (x ∷ xs) (v ∷ vs) e) refl (
          rest.0,
          same_on (length old.vars) (length mid.vars) s.top c d p.extends.grows.grows.vars first.1
              rest.1,
          (pushed_on g w calls param x v.0 (length mid.vars) c d named rest.1 first.2, rest.2),
        )))

  pub passes_more : PassesAll g old new from to (v ∷ vs) (a ∷ args)
  passes_more = record {
    extends = extends_on from between to old mid new p.extends q.extends;
    means = λ w calls store s params starts passed has. more w calls store s starts has params
        passed;
  }
