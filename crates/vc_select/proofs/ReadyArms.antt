-- What code keeps, form by form: counts, certificates and depths together.
use Rattle.std.proofs.Common.{◌≡◌, ◌≢◌, ℕ, suc, ◌+◌, ◌<◌, ◌≤◌, List, length, map, drop, get_or, inl}
use Rattle.std.proofs.Common.{inr, refl, sym, subst, arith}
use Rattle.std.proofs.lemmas.List.Sums.{sum_by-cons}
use Rattle.std.specs.Prelude.{ℤ}
use Rattle.pra_base.specs.declared.code.VarKind.TheVariants.{Constant}
use Rattle.pra_base.specs.declared.code.VProc.{VProc}
use Rattle.ob_syntax.specs.declared.checked.RStep.{RStep}
use Rattle.vc_build.specs.Grow.{count, Grows, GrowsAt, with_variable}
use Rattle.vc_build.proofs.Growth.{grows_same, grows_at_on}
use Rattle.vc_expr.specs.Counts.{AddsAtMost, OperationAdds}
use Rattle.vc_expr.specs.Readable.{ReadsSides}
use Rattle.vc_expr.specs.Rules.{StaysValid}
use Rattle.vc_expr.specs.declared.branch.Targets.{Targets}
use Rattle.vc_expr.proofs.Counting.{adds_more, constant_adds}
use Rattle.vc_select.specs.declared.target.Setting.{Setting}
use Rattle.vc_select.specs.declared.target.Target.{Target}
use Rattle.vc_select.specs.declared.target.Target.TheVariants.{Var, Memory}
use Rattle.vc_select.specs.Indexes.{IndexedBy}
use Rattle.vc_typed.specs.Nodes.{nodes_in_step}
use Rattle.vc_select.specs.Amounts.{path_nodes, AddsForPath, AddsForVariable, AddsForValue}
use Rattle.vc_select.specs.Selects.{Extends}
use Rattle.vc_select.specs.Targets.{above_setting, shifted}
use Rattle.vc_select.specs.Certified.{AddsNoParam, StaysReady, IsAnswer, StaysReadyFrom, EndsReady}
use Rattle.vc_select.proofs.Arms.{next_item}
use Rattle.vc_select.proofs.Nodes.{operation_most, sign_adds, path_on}
use Rattle.vc_select.proofs.Ready.{InBoth, constant_ready, both_continues}
use Rattle.vc_select.proofs.ReadyTargets.{from_same, in_shifted, cell_of_shifted}
use Rattle.vc_select.proofs.ReadyTests.{ends_ready}

-- ---- a constant

module _ (g : Setting) (old new : VProc) (at v : ℕ) (n : ℤ)
    (made : new ≡ with_variable (Constant n) old) where
  pub constant_counts : AddsAtMost 0 0 1 0 old new
  constant_counts = subst (AddsAtMost 0 0 1 0 old) (sym made) (constant_adds n old)

  pub constant_stays : v ≡ length old.vars → above_setting g ≤ length old.vars →
      StaysReady g (length old.vars) old new at at (IsAnswer v)
  constant_stays is_new low = subst (λ z. StaysReady g (length old.vars) old z at at (IsAnswer v))
      (sym made) (constant_ready g old at v n is_new low)

-- ---- signs

pub negation_adds : (n first u : ℕ) (old mid new : VProc) → 0 < n → AddsForValue n old mid →
    OperationAdds 1 0 0 first u mid new → AddsForValue (suc n) old new
negation_adds n first u old mid new some a b = sign_adds n old mid new some a
    (adds_more 2 1 0 0 2 1 1 0 mid new (omega arith) (omega arith) (omega arith) (omega arith)
    (operation_most 1 0 0 first u mid new b))

pub inversion_adds : (n first u : ℕ) (old mid new : VProc) → 0 < n → AddsForValue n old mid →
    OperationAdds 1 0 1 first u mid new → AddsForValue (suc n) old new
inversion_adds n first u old mid new some a b = sign_adds n old mid new some a
    (operation_most 1 0 1 first u mid new b)

-- ---- an index

pub indexed_grows : (first at : ℕ) (old new : VProc) (begin end : Target)
    (index length_is factor : ℕ) → IndexedBy first at old new begin index length_is factor end →
    Grows old new
indexed_grows first at old new (Var v) end index length_is factor q = subst (Grows old) (sym q.1)
    (grows_same old)
indexed_grows first at old new (Memory a) end index length_is factor q = q.2.grows.grows

-- ---- a target that is so many words further on

pub shifted_ready : (g : Setting) (first : ℕ) (old : VProc) (at : ℕ) (begin end : Target) (n : ℕ) →
    end ≡ shifted n begin → StaysReadyFrom g first old old at at begin end
shifted_ready g first old at begin end n is = subst (StaysReadyFrom g first old old at at begin)
    (sym is) (from_same g first old at begin (shifted n begin) (in_shifted n begin)
    (cell_of_shifted n begin))

-- ---- selector after selector

pub path_walk : (all : List RStep) (i : ℕ) (old mid new : VProc) (s : RStep) → i < length all →
    s ≡ get_or all i s → AddsForPath (nodes_in_step s) old mid →
    AddsForPath (path_nodes (drop (i + 1) all)) mid new → AddsForPath (path_nodes (drop i all)) old
    new
path_walk all i old mid new s lt is one rest = subst (λ l. AddsForPath (path_nodes l) old new)
    (sym (next_item all i s lt is))
    (subst (λ n. AddsForPath n old new)
    (sym (sum_by-cons (λ n. n) (nodes_in_step s) (map nodes_in_step (drop (i + 1) all))))
    (path_on (nodes_in_step s) (path_nodes (drop (i + 1) all)) old mid new one rest))

-- ---- conditions

module _ (old mid new : VProc) (from to : ℕ) (e : Extends from to old mid) (q : GrowsAt to mid new)
  where
    pub test_grows : GrowsAt from old new
    test_grows = grows_at_on old mid new from to e.grows q e.apart

    -- by a truth value in a variable
    pub value_ends : (g : Setting) (v : ℕ) (targets : Targets) → above_setting g ≤ length old.vars →
        StaysReady g (length old.vars) old mid from to (IsAnswer v) → AddsNoParam old mid →
        AddsNoParam mid new →
        (0 < targets.holds.0 → 0 < targets.fails.0 → StaysValid mid new) →
        ReadsSides to mid new v v targets → targets.holds.0 < count old → targets.fails.0 <
        count old → EndsReady g old new from targets
    value_ends g v targets low p params more valid reads holds fails =
        ends_ready g old mid new from to v v targets (IsAnswer v) refl refl low p.stays test_grows
        (λ x k is. params x k (more x k is)) valid reads holds fails

-- by a relation of two variables
module _ (g : Setting) (old one two new : VProc) (from between to u v : ℕ) (targets : Targets)
    (x : Extends from between old one) (y : Extends between to one two) (q : GrowsAt to two new)
  where
    both_grows : GrowsAt from old two
    both_grows = grows_at_on old one two from between x.grows y.grows x.apart

    to_apart : (b : ℕ) → b < count old → b ≢ from → b ≢ to
    to_apart b lt off = y.apart b (omega (arith, lt, x.grows.grows.blocks)) (x.apart b lt off)

    all_grows : GrowsAt from old new
    all_grows = grows_at_on old two new from to both_grows q to_apart

    pub relation_ends : above_setting g ≤ length old.vars → u < length one.vars →
        StaysReady g (length old.vars) old one from between (IsAnswer u) →
        StaysReady g (length one.vars) one two between to (IsAnswer v) → AddsNoParam old one →
        AddsNoParam one two → AddsNoParam two new →
        (0 < targets.holds.0 → 0 < targets.fails.0 → StaysValid two new) →
        ReadsSides to two new u v targets → targets.holds.0 < count old → targets.fails.0 <
        count old → EndsReady g old new from targets
    relation_ends low named left right p1 p2 p3 valid reads holds fails =
        ends_ready g old two new from to u v targets (InBoth u v) (inl refl) (inr refl) low
        (both_continues g old one two from between to u v named left right x.grows.grows)
        all_grows (λ z k is. p1 z k (p2 z k (p3 z k is))) valid reads holds fails

-- ---- by equations

pub variable_as : (n m : ℕ) (old new : VProc) → n ≡ m → AddsForVariable m old new →
    AddsForVariable n old new
variable_as n m old new e = subst (λ k. AddsForVariable k old new) (sym e)

pub path_as : (n m : ℕ) (old new : VProc) → n ≡ m → AddsForPath m old new → AddsForPath n old new
path_as n m old new e = subst (λ k. AddsForPath k old new) (sym e)

pub ends_as : (g : Setting) (old new : VProc) (from : ℕ) (t u : Targets) → u ≡ t →
    EndsReady g old new from u → EndsReady g old new from t
ends_as g old new from t u e = subst (EndsReady g old new from) e

pub first_as : (g : Setting) (n m : ℕ) (old new : VProc) (from to : ℕ) (A : ℕ → Type 0) → n ≡ m →
    StaysReady g n old new from to A → StaysReady g m old new from to A
first_as g n m old new from to A e = subst (λ k. StaysReady g k old new from to A) e
