-- What selection answers for a procedure, from what its parts leave.
use Rattle.std.proofs.Common.{◌≡◌, ℕ, suc, ◌≤◌, Bool, true, false, List, [], ◌∷◌, length, Some}
use Rattle.std.proofs.Common.{refl, sym, ap, ◌∙◌, subst, arith}
use Rattle.std.specs.Prelude.{slice_get, count_by, ◌||◌}
use Rattle.std.specs.List.{list_any}
use Rattle.std.proofs.lemmas.Bool.{eqb-true, false_from_ne_true}
use Rattle.std.proofs.lemmas.Option.{get_or_from_slice_get, slice_get_within}
use Rattle.pra_list.proofs.Options.{some_same}
use Rattle.pra_base.specs.Code.{kind_of, is_plain}
use Rattle.pra_base.specs.Valid.{IsValid, IsSized}
use Rattle.pra_base.specs.declared.ids.BlockId.{BlockId}
use Rattle.pra_base.specs.declared.ids.ProcId.{ProcId}
use Rattle.pra_base.specs.declared.code.End.TheVariants.{Return}
use Rattle.pra_base.specs.declared.code.VarKind.{VarKind}
use Rattle.pra_base.specs.declared.code.VarKind.TheVariants as kind
use Rattle.pra_base.specs.declared.code.VarKind.TheVariants.{Plain, Constant}
use Rattle.pra_base.specs.declared.code.VProc.{VProc}
use Rattle.ob_syntax.specs.declared.checked.Checked.{Checked}
use Rattle.ob_syntax.specs.declared.checked.CheckedProc.{CheckedProc}
use Rattle.ob_syntax.specs.declared.checked.Param.{Param}
use Rattle.ob_syntax.specs.declared.checked.RStmt.{RStmt}
use Rattle.ob_mean.specs.Statements.{exec_all}
use Rattle.vc_code.specs.Machine.{is_param}
use Rattle.vc_build.specs.Grow.{with_end}
use Rattle.vc_build.specs.Text.{depth_at, GoesOn}
use Rattle.vc_order.specs.Order.{depths}
use Rattle.vc_expr.specs.Readable.{is_constant}
use Rattle.vc_relation.specs.Homes.{in_variable, param_home, local_home}
use Rattle.vc_relation.specs.declared.home.Home.{Home}
use Rattle.vc_select.specs.Selects.{IsSet}
use Rattle.vc_select.specs.declared.target.Setting.{Setting}
use Rattle.vc_stmt.specs.Amounts.{AddsForStatements}
use Rattle.vc_stmt.specs.Depths.{depths_of_all}
use Rattle.vc_stmt.proofs.AtMost.{few_deep}
use Rattle.vc_stmt.specs.Does.{Does}
use Rattle.vc_stmt.specs.Procedures.{Embodies}
use Rattle.vc_stmt.specs.Ready.{Proceeds, KeepsReady, parameter_counts}
use Rattle.vc_stmt.specs.Sound.{are_sound}
use Rattle.vc_typed.specs.Nodes.{nodes_in_all, HaveTheirNodes}
use Rattle.vc_typed.specs.TypedModules.{IsSelectable}
use Rattle.vc_proc.specs.Finished.{ParamsApart, KeepsOn, IsFinished}
use Rattle.vc_proc.specs.Opening.{home_kinds, opened, IsSettingOf}
use Rattle.vc_proc.specs.Selected.{KeepsCounts, IsSelected}
use Rattle.vc_proc.proofs.Gets.{count_within}
use Rattle.vc_proc.proofs.HomeVariables.{home_of_param, home_of_local, param_number}
use Rattle.vc_proc.proofs.Embodying as embodying
use Rattle.vc_proc.proofs.InText.{few_depths, depths_are}
use Rattle.vc_proc.proofs.OpenRules.{at_entry, known_param, params_apart, open_ready}
use Rattle.vc_proc.proofs.Sizes.{is_argument, three_kinds, plain_homes, constant_homes}
use Rattle.vc_proc.proofs.Sizes.{argument_homes, few_instructions}

-- ---- lists of variables

none_any : {A : Type 0} (p : A → Bool) (xs : List A) →
    ((k : ℕ) (x : A) → slice_get xs k ≡ Some x → p x ≡ false) → list_any p xs ≡ false
none_any p [] none = refl
none_any p (x ∷ xs) none = either (p x) (list_any p xs) (none 0 x refl)
    (none_any p xs (λ k z e. none (suc k) z e))
  where
    either : (a b : Bool) → a ≡ false → b ≡ false → (a || b) ≡ false
    either true b e f = e
    either false b e f = f

-- a variable of an argument, by the argument's number
argument_is : (k : ℕ) (x : VarKind) → is_param k x ≡ true → x ≡ kind.Param k
argument_is k (kind.Param j) e = ap kind.Param (eqb-true j k e)
argument_is k Plain e = cc
argument_is k (Constant n) e = cc

module _ (g : Setting) (proc : CheckedProc) (of : IsSettingOf g proc)
    (selectable : IsSelectable g.program.now) where
  abbrev program : Checked
  program = g.program.now

  abbrev p : ℕ
  p = g.id.0

  abbrev old : VProc
  old = opened p proc

  same_proc : (other : CheckedProc) → slice_get program.procs p ≡ Some other → proc ≡ other
  same_proc other e = some_same proc other (sym of.there ∙ e)

  pub is_set : IsSet g
  is_set = record {
    laid = selectable.laid;
    words = of.words;
    params = λ other k param e at.
        subst (λ (z : CheckedProc). slice_get z.params k ≡ Some param → slice_get g.params.now k ≡
        Some (param_home z k param)) (same_proc other e)
        (λ here. ap (λ (hs : List Home). slice_get hs k) of.params
        ∙ home_of_param proc k param here) at;
    locals = λ other k local e at.
        subst (λ (z : CheckedProc). slice_get z.locals k ≡ Some local → slice_get g.locals.now k ≡
        Some (local_home z k local)) (same_proc other e)
        (λ here. ap (λ (hs : List Home). slice_get hs k) of.locals
        ∙ home_of_local proc k local here) at;
  }

  module _ (nodes : HaveTheirNodes program) (new : VProc) (to : ℕ)
      (does : Does g old new 0 to (are_sound program p proc.body) (exec_all program proc.body))
      (adds : AddsForStatements (nodes_in_all proc.body) old new)
      (ready : KeepsReady g old new 0 to (are_sound program p proc.body))
      (after : List BlockId) (text : GoesOn 0 to old new (record { 0 = 0 } ∷ []) after
      (depths_of_all proc.body 0)) where
    abbrev counts : List ℕ
    counts = parameter_counts program

    -- a parameter that is in its cell has no variable
    cells : (k : ℕ) (param : Param) → slice_get proc.params k ≡ Some param → in_variable param ≡
        false → list_any (is_param k) new.vars ≡ false
    cells k param at outside =
        none_any (is_param k) new.vars
        (λ v x e. false_from_ne_true (is_param k x) (λ is.
        let n = param_number proc v k (adds.params v k (e ∙ ap Some (argument_is k x is))) in
        never (in_variable param) outside
        (ap in_variable (some_same param n.0 (sym at ∙ n.1)) ∙ n.2)))
      where
        never : (b : Bool) → b ≡ false → b ≡ true → ⊥
        never b f t = cc

    embodies : Embodies program p (with_end to Return new)
    embodies = embodying.embodies g is_set proc of.there new to cells does

    proceeds : Proceeds g counts (at_entry p proc) old new 0 to
    proceeds = ready.stays counts (at_entry p proc) refl
        (embodying.sound g is_set proc of.there new to cells does selectable)
        (open_ready p proc g of.params of.locals counts)

    apart : ParamsApart new.vars
    apart v w i d e = params_apart p proc v w i (adds.params v i d) (adds.params w i e)

    entry : (v : ℕ) → proceeds.closes.next 0 v ≡ true → (i : ℕ) × (kind_of new v ≡ kind.Param i)
    entry v e =
        let known = known_param p proc 0 v (sym (proceeds.closes.same 0 v (omega arith)) ∙ e) in
        let below = slice_get_within (home_kinds proc) v (kind.Param known.0) known.1 in (
          known.0,
          does.extends.grows.grows.kinds v below ∙ get_or_from_slice_get (home_kinds proc) v
              (kind.Param known.0) Plain known.1,
        )

    module _ (code : VProc) (finished : IsFinished new to after code) where
      args_are : code.args ≡ length proc.params
      args_are = finished.args ∙ does.extends.grows.grows.args

      aggregates_are : code.aggregates ≡ proc.aggregate_words
      aggregates_are = finished.aggregates ∙ does.extends.grows.grows.aggregates

      valid : IsValid code
      valid = finished.valid counts proceeds.closes.next proceeds.ready.rules
          proceeds.ready.certifies apart entry

      keeps : KeepsOn counts code
      keeps = finished.keeps counts proceeds.ready.rules

      few : KeepsCounts proc code
      few =
          let most = nodes p proc of.there in
          let blocks : length code.blocks ≡ length new.blocks = finished.count in
          let instructions = finished.instructions in
          let plain : count_by is_plain code.vars ≡ count_by is_plain new.vars =
          ap (λ (ks : List VarKind). count_by is_plain ks) finished.vars in
          let constant : count_by is_constant code.vars ≡ count_by is_constant new.vars =
          ap (λ (ks : List VarKind). count_by is_constant ks) finished.vars in
          record {
            instructions = omega (
              arith,
              most,
              instructions,
              adds.instructions,
              few_instructions p proc,
            );
            blocks = omega (arith, most, blocks, adds.blocks);
            locals = omega (arith, most, plain, adds.locals, plain_homes p proc);
            constants = omega (arith, most, constant, adds.constants, constant_homes p proc);
          }

      few_arguments : count_by is_argument code.vars ≤ length proc.params
      few_arguments =
          let same : count_by is_argument code.vars ≡ count_by is_argument new.vars =
          ap (λ (ks : List VarKind). count_by is_argument ks) finished.vars in
          let fewer = count_within is_argument new.vars old.vars stays in
          omega (arith, same, fewer, argument_homes p proc)
        where
          stays : (k : ℕ) (x : VarKind) → slice_get new.vars k ≡ Some x → is_argument x ≡ true →
              slice_get old.vars k ≡ Some x
          stays k (kind.Param i) e is = adds.params k i e
          stays k Plain e is = cc
          stays k (Constant n) e is = cc

      text_depths : depths code ≡ 0 ∷ depths_of_all proc.body 0
      text_depths = finished.depths ∙ depths_are p proc new after (depths_of_all proc.body 0)
          text.enters

      sized : IsSized code
      sized =
          let limits = selectable.limited.procs p proc of.there in
          let laid = selectable.laid.procs p proc of.there in
          record {
            variables_in_range = λ b k i e v n. (keeps.obeys b k i e).named v n;
            targets_in_range = keeps.targets;
            cells_in_range = λ b k i e n named. ((keeps.obeys b k i e).cells n named).0;
            params_in_range = λ v i e.
                let n = param_number proc v i
                (adds.params v i (ap (λ (ks : List VarKind). slice_get ks v) (sym finished.vars)
                ∙ e)) in
                omega (arith, args_are, slice_get_within proc.params i n.0 n.1);
            depths = few_depths code (0 ∷ depths_of_all proc.body 0) text_depths
                (omega arith, few_deep proc.body 0 (omega arith));
            instructions = omega (arith, few.instructions, limits.nodes, limits.scalars);
            blocks = omega (arith, few.blocks, limits.nodes);
            variables = omega (
              arith,
              three_kinds code.vars,
              few.locals,
              few.constants,
              few_arguments,
              limits.nodes,
              limits.scalars,
            );
            args = omega (arith, args_are, limits.params);
            aggregates = omega (arith, aggregates_are, laid.few);
          }

      pub selected : IsSelected program p proc code
      selected = record {
        made = with_end to Return new;
        embodies = embodies;
        same = finished.same;
        id = ap (λ (i : ProcId). i.0) (finished.id ∙ does.extends.grows.grows.id);
        args = args_are;
        aggregates = aggregates_are;
        valid = valid;
        sized = sized;
        pushes = keeps.pushes;
        counts = few;
        depths = text_depths;
      }

  -- What selection of statements leaves.
  pub record Left (start : VProc) (body : List RStmt) (new : VProc) (to : ℕ)
      (after : List BlockId) : Type 0 where
    pub does : Does g start new 0 to (are_sound program p body) (exec_all program body)
    pub adds : AddsForStatements (nodes_in_all body) start new
    pub ready : KeepsReady g start new 0 to (are_sound program p body)
    pub text : GoesOn 0 to start new (record { 0 = 0 } ∷ []) after
        (depths_of_all body (depth_at start 0))

  pub selected_from : HaveTheirNodes program → (start : VProc) → start ≡ old → (body : List RStmt) →
      body ≡ proc.body → (new : VProc) (to : ℕ) (after : List BlockId) →
      Left start body new to after → (code : VProc) → IsFinished new to after code →
      IsSelected program p proc code
  selected_from nodes start start_is body body_is new to after left code finished =
      let l = subst (λ (b : List RStmt). Left old b new to after) body_is
      (subst (λ (z : VProc). Left z body new to after) start_is left) in
      selected nodes new to l.does l.adds l.ready after l.text code finished
