-- A checked module is laid out.
use Rattle.std.proofs.Common.{◌≡◌, ℕ, zero, suc, ◌+◌, ◌<◌, ◌≤◌, Bool, true, false, not, ◌&&◌, List}
use Rattle.std.proofs.Common.{[], ◌∷◌, length, map, Some, refl, ap, sym, ◌∙◌, subst, arith}
use Rattle.std.specs.Prelude.{slice_get, if◌then◌else◌}
use Rattle.std.proofs.lemmas.List.Sums.{sum_by-cons}
use Rattle.pra_list.proofs.Options.{some_same, none_some}
use Rattle.pra_base.specs.Limits.{limit_maximum}
use Rattle.pra_base.specs.declared.limit.LimitKind.TheVariants.{AggregateWords}
use Rattle.ob_syntax.specs.declared.checked.CheckedProc.{CheckedProc}
use Rattle.ob_syntax.specs.declared.checked.Draft.{Draft}
use Rattle.ob_syntax.specs.declared.checked.Local.{Local}
use Rattle.ob_syntax.specs.declared.checked.ModuleVar.{ModuleVar}
use Rattle.ob_syntax.specs.declared.checked.Param.{Param}
use Rattle.ob_syntax.specs.declared.checked.Root.{Root}
use Rattle.ob_syntax.specs.declared.checked.Root.TheVariants as root
use Rattle.ob_syntax.specs.declared.checked.Shape.{Shape}
use Rattle.ob_syntax.specs.declared.tree.Module.{Module}
use Rattle.ob_syntax.specs.Declarations.{Reading}
use Rattle.ob_syntax.specs.Names.{Place}
use Rattle.ob_syntax.specs.Storage.{type_words}
use Rattle.ob_syntax.specs.WellFormed.{is_scalar, is_addressed, is_aggregate, local_words}
use Rattle.ob_syntax.specs.WellFormed.{lent_in_body, marked_params, locals_from}
use Rattle.ob_syntax.specs.WellFormed.{aggregate_words_from, aggregate_words, module_vars_from}
use Rattle.ob_syntax.specs.WellFormed.{data_words, IsWithin, checked_proc, resolved}
use Rattle.vc_relation.specs.Layout as layout
use Rattle.vc_relation.specs.Layout.{FollowOn, var_words, IsLaidIn, IsLaidOut}
use Rattle.vc_typed.specs.Fitting.{ValuesAreScalars}
use Rattle.vc_typed.proofs.Limits.{few}
use Rattle.vc_typed.proofs.TypeTrees.{AllBelow}
use Rattle.vc_typed.proofs.ProcedureTrees.{AllDrafts, ReadingSound}

-- ---- the variables of the module

vars_follow : (shapes : List Shape) (vars : List ℕ) (from : ℕ) → FollowOn (λ v. true) (λ v. v.word)
    (var_words shapes) from (from + data_words shapes vars) (module_vars_from shapes from vars)
vars_follow shapes [] from = omega arith
vars_follow shapes (t ∷ vars) from = (
  (λ yes. refl),
  subst (λ to. FollowOn (λ v. true) (λ v. v.word) (var_words shapes) (from + type_words shapes t) to
      (module_vars_from shapes (from + type_words shapes t) vars))
      (omega (arith, sum_by-cons (λ n. n) (type_words shapes t) (map (type_words shapes) vars)))
      (vars_follow shapes vars (from + type_words shapes t)),
)

vars_below : (shapes : List Shape) (vars : List ℕ) (from n : ℕ) → AllBelow n vars →
    (k : ℕ) (v : ModuleVar) → slice_get (module_vars_from shapes from vars) k ≡ Some v → v.type_id <
    n
vars_below shapes [] from n below k v at = absurd (none_some at)
vars_below shapes (t ∷ vars) from n below zero v at = subst (λ (z : ModuleVar). z.type_id < n)
    (some_same (record { type_id = t; word = from }) v at) (below 0 t refl)
vars_below shapes (t ∷ vars) from n below (suc k) v at =
    vars_below shapes vars (from + type_words shapes t) n (λ j x is. below (suc j) x is) k v at

-- ---- locals

locals_below : (shapes : List Shape) (lent : List Root) (vars : List ℕ) (number word n : ℕ) →
    AllBelow n vars → (k : ℕ) (l : Local) → slice_get (locals_from shapes lent number word vars) k ≡
    Some l → l.type_id < n
locals_below shapes lent [] number word n below k l at = absurd (none_some at)
locals_below shapes lent (t ∷ vars) number word n below zero l at =
    let first : Local = record {
      type_id = t;
      addressed = is_addressed lent (root.Local number) t;
      word = if is_aggregate lent number t then word else 0;
    } in
    subst (λ (z : Local). z.type_id < n) (some_same first l at) (below 0 t refl)
locals_below shapes lent (t ∷ vars) number word n below (suc k) l at = locals_below shapes lent vars
    (number + 1) (word + local_words shapes lent number t) n (λ j x is. below (suc j) x is) k l at

chosen_first : (b : Bool) (word : ℕ) → b ≡ true → (if b then word else 0) ≡ word
chosen_first true word is = refl
chosen_first false word is = absurd (cc)

locals_follow : (shapes : List Shape) (lent : List Root) (vars : List ℕ) (number from : ℕ)
    → FollowOn layout.is_aggregate (λ l. l.word) (layout.local_words shapes) from
    (from + aggregate_words_from shapes lent number vars)
    (locals_from shapes lent number from vars)
locals_follow shapes lent [] number from = omega arith
locals_follow shapes lent (t ∷ vars) number from =
    let words = local_words shapes lent number t in (
      (λ yes. chosen_first (is_aggregate lent number t) from yes),
      subst (λ to. FollowOn layout.is_aggregate (λ l. l.word) (layout.local_words shapes)
          (from + words) to (locals_from shapes lent (number + 1) (from + words) vars))
          (omega arith) (locals_follow shapes lent vars (number + 1) (from + words)),
    )

-- ---- parameters

params_scalar : (lent : List Root) (params : List Param) (number : ℕ) → ValuesAreScalars params →
    (k : ℕ) (q : Param) → slice_get (marked_params lent number params) k ≡ Some q → q.by_var ≡
    false → is_scalar q.type_id ≡ true
params_scalar lent [] number all k q at value = absurd (none_some at)
params_scalar lent (x ∷ params) number (one, rest) zero q at value =
    let marked : Param = record x
    { addressed = not x.by_var && is_addressed lent (root.Param number) x.type_id } in
    let same = some_same marked q at in
    ap (λ (z : Param). is_scalar z.type_id) (sym same)
    ∙ one (ap (λ (z : Param). z.by_var) same ∙ value)
params_scalar lent (x ∷ params) number (one, rest) (suc k) q at value =
    params_scalar lent params (number + 1) rest k q at value

-- ---- procedures

from_zero : (n : ℕ) → 0 + n ≡ n
from_zero n = omega arith

record Drafted (p : Place) (n : ℕ) (proc : CheckedProc) (k : ℕ) (ds : List Draft) : Type 0 where
  draft : Draft
  vars : AllBelow n draft.vars
  values : ValuesAreScalars draft.params
  same : checked_proc p draft ≡ proc
  words : slice_get (map (aggregate_words p.types) ds) k ≡ Some (aggregate_words p.types draft)

draft_of : (p : Place) (n : ℕ) (ds : List Draft) → AllDrafts n ds → (k : ℕ) (proc : CheckedProc) →
    slice_get (map (checked_proc p) ds) k ≡ Some proc → Drafted p n proc k ds
draft_of p n [] all k proc at = absurd (none_some at)
draft_of p n (d ∷ ds) ((vars, values), rest) zero proc at =
    record {
      draft = d;
      vars = vars;
      values = values;
      same = some_same (checked_proc p d) proc at;
      words = refl;
    }
draft_of p n (d ∷ ds) (one, rest) (suc k) proc at =
    let more = draft_of p n ds rest k proc at in
    record {
      draft = more.draft;
      vars = more.vars;
      values = more.values;
      same = more.same;
      words = more.words;
    }

laid_in : (p : Place) (d : Draft) → AllBelow (length p.types) d.vars → ValuesAreScalars d.params →
    aggregate_words p.types d ≤ limit_maximum AggregateWords → IsLaidIn p.types (checked_proc p d)
laid_in p d vars values few = record {
  param_types = λ k q at value. params_scalar (lent_in_body d) d.params 0 values k q at value;
  local_types = λ k l at. locals_below p.types (lent_in_body d) d.vars 0 0 (length p.types) vars k l
      at;
  locals = subst (λ to. FollowOn layout.is_aggregate (λ l. l.word) (layout.local_words p.types) 0 to
      (locals_from p.types (lent_in_body d) 0 0 d.vars)) (from_zero (aggregate_words p.types d))
      (locals_follow p.types (lent_in_body d) d.vars 0 0);
  few = few;
}

pub laid_out : (m : Module) (r : Reading) → ReadingSound r → IsWithin r → IsLaidOut (resolved m r)
laid_out m r sound within = record {
  types = sound.ordered;
  var_types = λ n v at. vars_below r.place.types r.vars 0 (length r.place.types) sound.vars n v at;
  vars = subst (λ to. FollowOn (λ v. true) (λ v. v.word) (var_words r.place.types) 0 to
      (module_vars_from r.place.types 0 r.vars)) (from_zero (data_words r.place.types r.vars))
      (vars_follow r.place.types r.vars 0);
  few = (few r within).vars;
  procs = λ k proc at.
      let of = draft_of r.place (length r.place.types) r.procs sound.drafts k proc at in
      subst (IsLaidIn r.place.types) of.same
      (laid_in r.place of.draft of.vars of.values
      ((few r within).aggregates k (aggregate_words r.place.types of.draft) of.words));
}
