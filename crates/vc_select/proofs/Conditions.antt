-- The code of a condition comes to the block that its value chooses.
use Rattle.std.proofs.Common.{◌≡◌, ℕ, ◌+◌, ◌<◌, ◌≤◌, Bool, true, false, not, List, length, Ok, refl}
use Rattle.std.proofs.Common.{sym, ap, ◌∙◌, subst, arith}
use Rattle.std.specs.Prelude.{Some, if◌then◌else◌}
use Rattle.pra_list.specs.Results.{◌>>=◌}
use Rattle.pra_base.specs.Code.{block_of, code_of}
use Rattle.pra_base.specs.Words.{word}
use Rattle.pra_base.specs.declared.ids.BlockId.{BlockId}
use Rattle.pra_base.specs.declared.code.VProc.{VProc}
use Rattle.ob_syntax.specs.Expressions.{boolean}
use Rattle.ob_syntax.specs.Operators.{Outcome, number, is_true, inverted}
use Rattle.ob_syntax.specs.declared.checked.ROp.{ROp}
use Rattle.ob_syntax.specs.declared.checked.ROp.TheVariants.{Mul, Div, Mod, Both, Add, Sub, Either}
use Rattle.ob_syntax.specs.declared.checked.ROp.TheVariants.{Equal, Unequal, Less, LessEqual}
use Rattle.ob_syntax.specs.declared.checked.ROp.TheVariants.{Greater, GreaterEqual}
use Rattle.ob_syntax.specs.declared.checked.Value.{Value}
use Rattle.ob_syntax.specs.declared.checked.Value.TheVariants.{Truth}
use Rattle.ob_mean.specs.Expressions.{Evaluation}
use Rattle.ob_mean.specs.Store.{Store}
use Rattle.ob_mean.specs.declared.store.LiveCall.{LiveCall}
use Rattle.vc_code.specs.declared.value.Value.TheVariants.{Num}
use Rattle.vc_code.specs.Machine.{Activation, State, with_top}
use Rattle.vc_code.specs.Selected.{Vars}
use Rattle.vc_build.specs.Grow.{count, IsOpen, with_open_block, Grows, GrowsAt}
use Rattle.vc_build.specs.Runs.{Codes, SameBelow, Reaches, Yields}
use Rattle.vc_build.proofs.Growth.{grows_on, grows_at_on, grows_at_again, grows_at_same}
use Rattle.vc_build.proofs.Growth.{opened_kept, opened_count, opened_block, opened_grows}
use Rattle.vc_build.proofs.Steps.{same_on, rests, yields_on, runs_in_on}
use Rattle.vc_expr.specs.Operators.{of_values, is_bitwise}
use Rattle.vc_expr.specs.Branches.{Enters, chosen, BranchesBy, BranchesOn}
use Rattle.vc_expr.specs.declared.branch.Targets.{Targets}
use Rattle.vc_expr.proofs.Operations.{read_on}
use Rattle.vc_select.specs.declared.target.Setting.{Setting}
use Rattle.vc_typed.specs.Typing.{Typing, typed, is_of, binary_typing}
use Rattle.vc_select.specs.Selects.{Starts, Results, Selects, Tests, sided, joined, inner_targets}
use Rattle.vc_select.specs.Selects.{exchanged}
use Rattle.vc_select.proofs.Counting.{yields_at}
use Rattle.vc_select.proofs.Keeping.{starts_earlier, starts_on}
use Rattle.vc_select.proofs.Sides.{of_type, sides_good}

pub tests_as : (g : Setting) (old new : VProc) (from : ℕ) (targets : Targets) (one other : Typing)
    (e f : Evaluation) → other ≡ one →
    ((calls : List LiveCall) (store : Store) → f calls store ≡ e calls store) →
    Tests g old new from targets one e → Tests g old new from targets other f
tests_as g old new from targets one other e f types values p = record {
  grows = p.grows;
  means = λ w calls store s starts good.
      subst (Yields w s (λ x c. Enters (chosen targets (is_true x)) (length old.vars) s.top c))
      (sym (values calls store))
      (p.means w calls store s starts (ap (λ (t : Typing). t.good) (sym types) ∙ good));
}

enters_since : (b n m : ℕ) (one two three : Activation Vars) → n ≤ m → SameBelow n one two →
    Enters b m two three → Enters b n one three
enters_since b n m one two three le same e =
    record { block = e.block; index = e.index; same = same_on n m one two three le same e.same }

-- ---- any value

module _ (g : Setting) (old mid new : VProc) (from to v : ℕ) (targets : Targets) (typing : Typing)
    (e : Evaluation) (p : Selects g old mid from to v typing e)
    (q : BranchesOn to mid new v targets) where
  pub tests_value : Tests g old new from targets typing e
  tests_value = record {
    grows = grows_at_on old mid new from to p.extends.grows q.grows p.extends.apart;
    means = λ w calls store s starts good.
        yields_at w s (Results w g.id.0 mid to v (length old.vars) s.top typing.type_id)
        (λ x c. Enters (chosen targets (is_true x)) (length old.vars) s.top c) (e calls store)
        (p.means w calls store s
        (starts_earlier g w old new from calls store s starts mid q.grows.grows) good)
        (λ x c is res.
        let y = q.means w g.id.0 (with_top s c) x
        (runs_in_on w g.id.0 (length old.vars) new s c res.gives.holds.same starts.runs)
        res.gives.holds.stands (record { fits = res.gives.fits; held = res.gives.holds.value })
        in
        record {
          steps = y.steps;
          call = y.call;
          there = y.there;
          good = enters_since (chosen targets (is_true x)) (length old.vars) (length mid.vars) s.top
              c y.call p.extends.grows.grows.vars res.gives.holds.same y.good;
        });
  }

-- ---- `~` exchanges the targets

chosen_exchanged : (targets : Targets) (b : Bool) → chosen targets (is_true (Truth (not b))) ≡
    chosen (exchanged targets) b
chosen_exchanged targets true = refl
chosen_exchanged targets false = refl

pub tests_not : (g : Setting) (old new : VProc) (from : ℕ) (targets : Targets) (typing : Typing)
    (e : Evaluation) → Tests g old new from (exchanged targets) typing e →
    Tests g old new from targets (typed (is_of boolean typing) boolean)
    (λ calls store. e calls store >>= λ x. Ok (inverted x))
tests_not g old new from targets typing e p = record {
  grows = p.grows;
  means = λ w calls store s starts good.
      yields_on w s (λ x c. Enters (chosen (exchanged targets) (is_true x)) (length old.vars) s.top
      c) (λ x c. Enters (chosen targets (is_true x)) (length old.vars) s.top c) (e calls store)
      (λ x. Ok (inverted x))
      (p.means w calls store s starts (of_type boolean typing good).0)
      (λ x c enters.
      rests w (with_top s c) (λ d. Enters (chosen targets (is_true (inverted x))) (length old.vars)
      s.top d) refl
      (subst (λ b. Enters b (length old.vars) s.top c) (sym (chosen_exchanged targets (is_true x)))
      enters));
}

-- ---- relations

module _ (op : ROp) (g : Setting) (old one two new : VProc) (from between to u v : ℕ)
    (targets : Targets) (left right : Typing) (e f : Evaluation) (named : u < length one.vars)
    (p : Selects g old one from between u left e) (q : Selects g one two between to v right f)
    (r : BranchesBy op to two new u v targets) where
  module _ (w : Codes) (calls : List LiveCall) (store : Store) (s : State Vars)
      (starts : Starts g w old new from calls store s)
      (good : (binary_typing op left right).good ≡ true) where
    abbrev R : Value → Activation Vars → Type 0
    R z c = Enters (chosen targets (is_true z)) (length old.vars) s.top c

    one_new : Grows one new
    one_new = grows_on one two new q.extends.grows.grows r.grows.grows

    behind : (x y : Value) (c d : Activation Vars) → Results w g.id.0 one between u
        (length old.vars) s.top left.type_id x c → Results w g.id.0 two to v (length one.vars) c
        right.type_id y d → Yields w (with_top s d) R (of_values op x y)
    behind x y c d a b =
        let same = same_on (length old.vars) (length one.vars) s.top c d p.extends.grows.grows.vars
        a.gives.holds.same b.gives.holds.same in
        yields_at w (with_top s d)
        (λ z k. Enters (chosen targets (is_true z)) (length two.vars) d k) R (of_values op x y)
        (r.means w g.id.0 (with_top s d) x y
        (runs_in_on w g.id.0 (length old.vars) new s d same starts.runs) b.gives.holds.stands
        (record {
          fits = a.gives.fits;
          held = read_on w g.id.0 (length one.vars) u c d
              (Some (Num (word (number x)))) b.gives.holds.same named a.gives.holds.value;
        })
        (record { fits = b.gives.fits; held = b.gives.holds.value }))
        (λ z k is enters.
        rests w (with_top s k) (R z) refl
        (enters_since (chosen targets (is_true z)) (length old.vars) (length two.vars) s.top d k
        (omega (arith, p.extends.grows.grows.vars, q.extends.grows.grows.vars)) same enters))

    all : Yields w s R (e calls store >>= λ x. f calls store >>= λ y. of_values op x y)
    all =
        yields_on w s (Results w g.id.0 one between u (length old.vars) s.top left.type_id) R
        (e calls store) (λ x. f calls store >>= λ y. of_values op x y)
        (p.means w calls store s (starts_earlier g w old new from calls store s starts one one_new)
        (sides_good op left right good).0)
        (λ x c a.
        yields_on w (with_top s c) (Results w g.id.0 two to v (length one.vars) c right.type_id) R
        (f calls store) (λ y. of_values op x y)
        (q.means w calls store (with_top s c)
        (starts_on g w old new from calls store s starts (length old.vars) c starts.homes
        a.gives.holds.same one two between a.gives.holds.stands p.extends.grows.grows.vars
        r.grows.grows) (sides_good op left right good).1)
        (λ y d b. behind x y c d a b))

  pub tests_relation : Tests g old new from targets (binary_typing op left right) (sided op e f)
  tests_relation = record {
    grows = grows_at_on old two new from to
        (grows_at_on old one two from between p.extends.grows q.extends.grows p.extends.apart)
        r.grows (λ b lt off. q.extends.apart b (omega (arith, lt, p.extends.grows.grows.blocks))
        (p.extends.apart b lt off));
    means = all;
  }

-- ---- `&` and OR

module _ (op : ROp) (g : Setting) (old one two new : VProc) (from depth : ℕ) (right : BlockId)
    (targets : Targets) (left_typing right_typing : Typing) (e f : Evaluation) (o : IsOpen old from)
    (opened : one ≡ with_open_block depth old) (number_is : right.0 ≡ count old)
    (p : Tests g one two from (inner_targets op right targets) left_typing e)
    (q : Tests g two new right.0 targets right_typing f) where
  one_grows : GrowsAt from old one
  one_grows = subst (GrowsAt from old) (sym opened) (opened_grows depth old from)

  count_one : count one ≡ count old + 1
  count_one = ap count opened ∙ opened_count depth old

  old_two : GrowsAt from old two
  old_two = grows_at_again old one two from one_grows p.grows

  right_block : block_of two right.0 ≡ Rattle.vc_build.specs.Grow.open_block depth
  right_block =
      p.grows.others right.0 (omega (arith, number_is, count_one))
      (λ e. absurd (omega (arith, e, number_is, o.0)))
      ∙ ap (λ z. block_of z right.0) opened ∙ ap (block_of (with_open_block depth old)) number_is
      ∙ opened_block depth old

  pub right_open : IsOpen two right.0
  right_open = (
    omega (arith, number_is, count_one, p.grows.grows.blocks),
    ap (λ b. b.end) right_block,
  )

  right_empty : length (code_of two right.0) ≡ 0
  right_empty = ap (λ b. length b.code) right_block

  whole : GrowsAt from old new
  whole = grows_at_on old two new from right.0 old_two q.grows
      (λ b lt off same. absurd (omega (arith, same, number_is, lt)))

  module _ (w : Codes) (calls : List LiveCall) (store : Store) (s : State Vars)
      (starts : Starts g w old new from calls store s) (good_left : left_typing.good ≡ true)
      (good_right : right_typing.good ≡ true) where
    abbrev S : Value → Activation Vars → Type 0
    S z c = Enters (chosen targets (is_true z)) (length old.vars) s.top c

    one_starts : Starts g w one two from calls store s
    one_starts = record {
      set = starts.set;
      homes = omega (arith, starts.homes, one_grows.grows.vars);
      variables = starts.variables;
      runs = (starts_earlier g w old new from calls store s starts two q.grows.grows).runs;
      stands = record {
        block = starts.stands.block;
        index = starts.stands.index
            ∙ sym (ap (λ z. length (code_of z from)) opened ∙ ap (λ b. length b.code)
            (opened_kept depth old from o.0));
      };
      represents = starts.represents;
    }

    -- the right side
    goes_on : (c : Activation Vars) → Enters right.0 (length one.vars) s.top c →
        Yields w (with_top s c) S (f calls store)
    goes_on c enters =
        let same : SameBelow (length old.vars) s.top c = Rattle.vc_expr.proofs.Operations.same_fewer
        (length old.vars) (length one.vars) s.top c one_grows.grows.vars enters.same in
        yields_at w (with_top s c)
        (λ x d. Enters (chosen targets (is_true x)) (length two.vars) c d) S (f calls store)
        (q.means w calls store (with_top s c)
        (starts_on g w old new from calls store s starts (length old.vars) c starts.homes same two
        new right.0 (record { block = enters.block; index = enters.index ∙ sym right_empty })
        old_two.grows.vars (grows_at_same new 0).grows)
        good_right)
        (λ x d is inner. rests w (with_top s d) (S x) refl
        (enters_since (chosen targets (is_true x)) (length old.vars) (length two.vars) s.top c d
        old_two.grows.vars same inner))

    decides : (b : Bool) (c : Activation Vars) → Enters (chosen targets b) (length one.vars) s.top
        c → Reaches w (with_top s c) (S (Truth b))
    decides b c enters =
        rests w (with_top s c) (S (Truth b)) refl (record {
          block = enters.block ∙ same_choice b;
          index = enters.index;
          same = Rattle.vc_expr.proofs.Operations.same_fewer (length old.vars) (length one.vars)
              s.top c one_grows.grows.vars enters.same;
        })
      where
        same_choice : (z : Bool) → chosen targets z ≡ chosen targets (is_true (Truth z))
        same_choice true = refl
        same_choice false = refl

    by_both : (b : Bool) (c : Activation Vars) → Enters (if b then right.0 else targets.fails.0)
        (length one.vars) s.top c →
        Yields w (with_top s c) S (if b then f calls store else Ok (Truth false))
    by_both true c enters = goes_on c enters
    by_both false c enters = decides false c enters

    by_either : (b : Bool) (c : Activation Vars) → Enters (if b then targets.holds.0 else right.0)
        (length one.vars) s.top c →
        Yields w (with_top s c) S (if b then Ok (Truth true) else f calls store)
    by_either true c enters = decides true c enters
    by_either false c enters = goes_on c enters

    by_op : (z : ROp) → z ≡ op → is_bitwise z ≡ true → Yields w s S (joined z e f calls store)
    by_op Both is bitwise =
        yields_on w s (λ x c. Enters (if is_true x then right.0 else targets.fails.0)
        (length one.vars) s.top c) S (e calls store)
        (λ x. Rattle.ob_syntax.specs.Operators.both x (f calls store))
        (subst (λ z. Yields w s (λ x c. Enters (chosen (inner_targets z right targets) (is_true x))
        (length one.vars) s.top c) (e calls store)) (sym is)
        (p.means w calls store s one_starts good_left))
        (λ x c enters. by_both (is_true x) c enters)
    by_op Either is bitwise =
        yields_on w s (λ x c. Enters (if is_true x then targets.holds.0 else right.0)
        (length one.vars) s.top c) S (e calls store)
        (λ x. Rattle.ob_syntax.specs.Operators.either x (f calls store))
        (subst (λ z. Yields w s (λ x c. Enters (chosen (inner_targets z right targets) (is_true x))
        (length one.vars) s.top c) (e calls store)) (sym is)
        (p.means w calls store s one_starts good_left))
        (λ x c enters. by_either (is_true x) c enters)
    by_op Equal is bitwise = absurd (cc)
    by_op Unequal is bitwise = absurd (cc)
    by_op Mul is bitwise = absurd (cc)
    by_op Div is bitwise = absurd (cc)
    by_op Mod is bitwise = absurd (cc)
    by_op Add is bitwise = absurd (cc)
    by_op Sub is bitwise = absurd (cc)
    by_op Less is bitwise = absurd (cc)
    by_op LessEqual is bitwise = absurd (cc)
    by_op Greater is bitwise = absurd (cc)
    by_op GreaterEqual is bitwise = absurd (cc)

  pub tests_split : is_bitwise op ≡ true → Tests g old new from targets
      (binary_typing op left_typing right_typing) (joined op e f)
  tests_split bitwise = record {
    grows = whole;
    means = λ w calls store s starts good.
        let parts = sides_good op left_typing right_typing good in
        by_op w calls store s starts parts.0 parts.1 op refl bitwise;
  }
