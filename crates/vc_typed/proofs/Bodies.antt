-- Each body of a checked module is typed, and what it lends has an address.
use Rattle.std.proofs.Common.{◌≡◌, ℕ, zero, suc, ◌+◌, ◌<◌, Bool, true, false, not, ◌&&◌, ◌||◌, List}
use Rattle.std.proofs.Common.{[], ◌∷◌, length, map, Some, refl, ap, sym, ◌∙◌, subst, arith, lt-ltb}
use Rattle.std.proofs.Common.{ltb-true}
use Rattle.std.specs.Prelude.{slice_get, option_map}
use Rattle.std.specs.List.{list_any}
use Rattle.std.proofs.lemmas.Option.{slice_get-map}
use Rattle.pra_list.proofs.Truths.{or_right}
use Rattle.pra_list.proofs.Choices.{and_true}
use Rattle.pra_list.proofs.Options.{some_same, none_some}
use Rattle.ob_syntax.specs.declared.checked.Checked.{Checked}
use Rattle.ob_syntax.specs.declared.checked.CheckedProc.{CheckedProc}
use Rattle.ob_syntax.specs.declared.checked.Draft.{Draft}
use Rattle.ob_syntax.specs.declared.checked.Local.{Local}
use Rattle.ob_syntax.specs.declared.checked.ModuleVar.{ModuleVar}
use Rattle.ob_syntax.specs.declared.checked.Param.{Param}
use Rattle.ob_syntax.specs.declared.checked.Root.{Root}
use Rattle.ob_syntax.specs.declared.checked.Root.TheVariants as root
use Rattle.ob_syntax.specs.declared.checked.Shape.{Shape}
use Rattle.ob_syntax.specs.declared.tree.Module.{Module}
use Rattle.ob_syntax.specs.Declarations.{Reading}
use Rattle.ob_syntax.specs.Names.{Place}
use Rattle.ob_syntax.specs.Storage.{type_words}
use Rattle.ob_syntax.specs.WellFormed.{same_root, is_scalar, local_words, lent_in_body}
use Rattle.ob_syntax.specs.WellFormed.{marked_params, locals_from, module_vars_from, checked_proc}
use Rattle.ob_syntax.specs.WellFormed.{resolved}
use Rattle.ob_mean.specs.Designators.{type_at}
use Rattle.vc_typed.specs.Fitting.{AreAlike, ValuesAreScalars}
use Rattle.vc_typed.specs.TypedModules.{param_has_address, local_has_address, has_address}
use Rattle.vc_typed.specs.TypedModules.{all_have_addresses, IsTypedProc, IsTyped}
use Rattle.vc_typed.specs.TypedStatements.{all_true, are_typed}
use Rattle.vc_typed.specs.Typing as t
use Rattle.vc_typed.specs.Typing.{is_declared, is_declared_in}
use Rattle.vc_typed.proofs.Beginning.{body_there}
use Rattle.vc_typed.proofs.Bindings.{eq_self}
use Rattle.vc_typed.proofs.DeclarationTrees.{VarsIn}
use Rattle.vc_typed.proofs.LentRoots.{AllDeclared, body_declared}
use Rattle.vc_typed.proofs.ProcedureTrees.{AllDrafts, DraftIn, AllIn, AllTyped, Numbered}
use Rattle.vc_typed.proofs.ProcedureTrees.{ReadingSound}

-- ---- the variables of the module

module_var_at : (shapes : List Shape) (vars : List ℕ) (word k type_id : ℕ) → slice_get vars k ≡
    Some type_id → (k < length (module_vars_from shapes word vars)) ×
    (type_at (λ (v : ModuleVar). v.type_id) (module_vars_from shapes word vars) k ≡ type_id)
module_var_at shapes [] word k type_id at = absurd (none_some at)
module_var_at shapes (x ∷ vars) word zero type_id at = (omega arith, some_same x type_id at)
module_var_at shapes (x ∷ vars) word (suc k) type_id at = let rest =
    module_var_at shapes vars (word + type_words shapes x) k type_id at in let lt = rest.0 in
    (omega (arith, lt), rest.1)

module_vars_in : (m : Module) (r : Reading) → VarsIn (resolved m r) 0 r.vars
module_vars_in m r k type_id at =
    let vars = module_vars_from r.place.types 0 r.vars in
    let of = module_var_at r.place.types r.vars 0 k type_id at in
    ap (λ b. t.typed b (type_at (λ (v : ModuleVar). v.type_id) vars k))
    (lt-ltb k (length vars) of.0) ∙ ap (t.typed true) of.1

-- ---- parameters and locals of a procedure

marked_alike : (lent : List Root) (number : ℕ) (params : List Param) →
    AreAlike params (marked_params lent number params)
marked_alike lent number [] = tt
marked_alike lent number (x ∷ params) = (refl, refl, marked_alike lent (number + 1) params)

local_types : (shapes : List Shape) (lent : List Root) (number word : ℕ) (vars : List ℕ) →
    map (λ (l : Local). l.type_id) (locals_from shapes lent number word vars) ≡ vars
local_types shapes lent number word [] = refl
local_types shapes lent number word (x ∷ vars) =
    ap (λ z. x ∷ z) (local_types shapes lent (number + 1) (word + local_words shapes lent number x)
    vars)

-- ---- drafts

draft_at : (p : Place) (before : Draft) (ds : List Draft) (d : Draft) (k : ℕ) → slice_get ds k ≡
    Some d → slice_get (map (checked_proc p) (before ∷ ds)) (suc k) ≡ Some (checked_proc p d)
draft_at p before ds d k at = slice_get-map (checked_proc p) ds k ∙ ap (option_map (checked_proc p))
    at

number_at : (n : ℕ) (ds : List Draft) → Numbered n ds → (k : ℕ) (d : Draft) → slice_get ds k ≡
    Some d → d.id ≡ n + k
number_at n [] all k d at = absurd (none_some at)
number_at n (x ∷ ds) (one, rest) zero d at = ap (λ (z : Draft). z.id) (sym (some_same x d at)) ∙ one
    ∙ omega arith
number_at n (x ∷ ds) (one, rest) (suc k) d at = let later = number_at (suc n) ds rest k d at in
    omega (arith, later)

each_in : (program : Checked) (ds : List Draft) →
    ((k : ℕ) (d : Draft) → slice_get ds k ≡ Some d → DraftIn program d) → AllIn program ds
each_in program [] of = tt
each_in program (d ∷ ds) of = (of 0 d refl, each_in program ds (λ k x at. of (suc k) x at))

draft_in : (m : Module) (r : Reading) (sound : ReadingSound r) (k : ℕ) (d : Draft) →
    slice_get sound.procs k ≡ Some d → DraftIn (resolved m r) d
draft_in m r sound k d at = record {
  proc = checked_proc r.place d;
  there = ap (slice_get (map (checked_proc r.place) r.procs))
      (number_at 1 sound.procs sound.numbered k d at ∙ one_more k)
      ∙ ap (λ ds. slice_get (map (checked_proc r.place) ds) (suc k)) sound.first
      ∙ draft_at r.place sound.body sound.procs d k at;
  params = marked_alike (lent_in_body d) 0 d.params;
  locals = local_types r.place.types (lent_in_body d) 0 0 d.vars;
}
  where
    one_more : (k : ℕ) → 1 + k ≡ suc k
    one_more k = omega arith

-- all bodies are typed
pub bodies_typed : (m : Module) (r : Reading) (sound : ReadingSound r) →
    AllTyped (resolved m r) (sound.body ∷ sound.procs)
bodies_typed m r sound =
    sound.typed (resolved m r) (λ k shape at. at)
    (each_in (resolved m r) sound.procs (draft_in m r sound)) (module_vars_in m r)
    (body_there m r sound)

-- ---- addresses of what is lent

same_itself : (r : Root) → same_root r r ≡ true
same_itself (root.Module n) = eq_self n
same_itself (root.Param n) = eq_self n
same_itself (root.Local n) = eq_self n

not_or_self : (b : Bool) → (not b || b) ≡ true
not_or_self true = refl
not_or_self false = refl

marked_address : (b scalar addressed : Bool) → (b ≡ false → scalar ≡ true) → addressed ≡ true →
    (b || (not b && (scalar && addressed))) ≡ true
marked_address true scalar addressed value lent = refl
marked_address false scalar addressed value lent = ap (λ s. s && addressed) (value refl) ∙ lent

param_lent : (lent : List Root) (params : List Param) (number k : ℕ) → ValuesAreScalars params →
    list_any (same_root (root.Param (number + k))) lent ≡ true →
    k < length (marked_params lent number params)
    → param_has_address (slice_get (marked_params lent number params) k) ≡ true
param_lent lent [] number k all is lt = absurd (omega (arith, lt))
param_lent lent (x ∷ params) number zero (one, rest) is lt =
    marked_address x.by_var (is_scalar x.type_id) (list_any (same_root (root.Param number)) lent)
    one (subst (λ n. list_any (same_root (root.Param n)) lent ≡ true) (omega arith) is)
param_lent lent (x ∷ params) number (suc k) (one, rest) is lt =
    param_lent lent params (number + 1) k rest
    (subst (λ n. list_any (same_root (root.Param n)) lent ≡ true) (omega arith) is)
    (omega (arith, lt))

local_address : (scalar addressed : Bool) → addressed ≡ true →
    (not scalar || (scalar && addressed)) ≡ true
local_address true addressed lent = lent
local_address false addressed lent = refl

local_lent : (shapes : List Shape) (lent : List Root) (vars : List ℕ) (number word k : ℕ) →
    list_any (same_root (root.Local (number + k))) lent ≡ true →
    k < length (locals_from shapes lent number word vars)
    → local_has_address (slice_get (locals_from shapes lent number word vars) k) ≡ true
local_lent shapes lent [] number word k is lt = absurd (omega (arith, lt))
local_lent shapes lent (x ∷ vars) number word zero is lt =
    local_address (is_scalar x) (list_any (same_root (root.Local number)) lent)
    (subst (λ n. list_any (same_root (root.Local n)) lent ≡ true) (omega arith) is)
local_lent shapes lent (x ∷ vars) number word (suc k) is lt =
    local_lent shapes lent vars (number + 1) (word + local_words shapes lent number x) k
    (subst (λ n. list_any (same_root (root.Local n)) lent ≡ true) (omega arith) is)
    (omega (arith, lt))

root_lent : (program : Checked) (here : ℕ) (p : Place) (d : Draft) (r : Root) →
    slice_get program.procs here ≡ Some (checked_proc p d) → ValuesAreScalars d.params →
    list_any (same_root r) (lent_in_body d) ≡ true → is_declared program here r ≡ true
    → has_address (checked_proc p d) r ≡ true
root_lent program here p d (root.Module n) there scalars lent declared = refl
root_lent program here p d (root.Param k) there scalars lent declared =
    param_lent (lent_in_body d) d.params 0 k scalars
    (subst (λ n. list_any (same_root (root.Param n)) (lent_in_body d) ≡ true) (omega arith)
    lent)
    (ltb-true k (length (marked_params (lent_in_body d) 0 d.params))
    (ap (λ o. is_declared_in o (root.Param k)) (sym there) ∙ declared))
root_lent program here p d (root.Local k) there scalars lent declared =
    local_lent p.types (lent_in_body d) d.vars 0 0 k
    (subst (λ n. list_any (same_root (root.Local n)) (lent_in_body d) ≡ true) (omega arith)
    lent)
    (ltb-true k (length (locals_from p.types (lent_in_body d) 0 0 d.vars))
    (ap (λ o. is_declared_in o (root.Local k)) (sym there) ∙ declared))

roots_lent : (program : Checked) (here : ℕ) (p : Place) (d : Draft) → slice_get program.procs here ≡
    Some (checked_proc p d) → ValuesAreScalars d.params
    → (rs : List Root) → ((r : Root) → list_any (same_root r) rs ≡ true →
    list_any (same_root r) (lent_in_body d) ≡ true) → AllDeclared program here rs →
    all_have_addresses (checked_proc p d) rs ≡ true
roots_lent program here p d there scalars [] among all = refl
roots_lent program here p d there scalars (r ∷ rs) among all =
    let both = and_true (is_declared program here r) (all_true (map (is_declared program here) rs))
    all in
    let first = root_lent program here p d r there scalars
    (among r (ap (λ b. b || list_any (same_root r) rs) (same_itself r))) both.0 in
    ap (λ b. b && all_have_addresses (checked_proc p d) rs) first
    ∙ roots_lent program here p d there scalars rs
    (λ x is. among x (or_right (same_root x r) (list_any (same_root x) rs) is)) both.1

-- ---- procedures

typed_proc : (program : Checked) (number : ℕ) (p : Place) (d : Draft) →
    slice_get program.procs number ≡ Some (checked_proc p d) → d.id ≡ number →
    ValuesAreScalars d.params → are_typed program number d.body ≡ true →
    IsTypedProc program number (checked_proc p d)
typed_proc program number p d there id scalars typed = record {
  id = id;
  typed = typed;
  lends = roots_lent program number p d there scalars (lent_in_body d) (λ r is. is)
      (body_declared program number d.body typed);
}

record Found (program : Checked) (p : Place) (number : ℕ) (proc : CheckedProc) : Type 0 where
  draft : Draft
  same : checked_proc p draft ≡ proc
  id : draft.id ≡ number
  scalars : ValuesAreScalars draft.params
  typed : are_typed program draft.id draft.body ≡ true

found : (program : Checked) (p : Place) (types n : ℕ) (ds : List Draft) → Numbered n ds →
    AllTyped program ds → AllDrafts types ds → (k : ℕ) (proc : CheckedProc) →
    slice_get (map (checked_proc p) ds) k ≡ Some proc → Found program p (n + k) proc
found program p types n [] numbered typed drafts k proc at = absurd (none_some at)
found program p types n (d ∷ ds) (id, ids) (typed, more) ((vars, scalars), drafts) zero proc at =
    record {
      draft = d;
      same = some_same (checked_proc p d) proc at;
      id = id ∙ omega arith;
      scalars = scalars;
      typed = typed;
    }
found program p types n (d ∷ ds) (id, ids) (typed, more) (one, drafts) (suc k) proc at =
    subst (λ j. Found program p j proc) (omega arith)
    (found program p types (suc n) ds ids more drafts k proc at)

typed_at : (m : Module) (r : Reading) → ReadingSound r → (number : ℕ) (proc : CheckedProc) →
    slice_get (resolved m r).procs number ≡ Some proc → IsTypedProc (resolved m r) number proc
typed_at m r sound number proc at =
    let ds = sound.body ∷ sound.procs in
    let there = ap (λ z. slice_get (map (checked_proc r.place) z) number) (sym sound.first) ∙ at in
    let of = found (resolved m r) r.place (length r.place.types) 0 ds (sound.id, sound.numbered)
    (bodies_typed m r sound) (subst (AllDrafts (length r.place.types)) sound.first sound.drafts)
    number proc there in
    let id : of.draft.id ≡ number = of.id ∙ omega arith in
    subst (IsTypedProc (resolved m r) number) of.same
    (typed_proc (resolved m r) number r.place of.draft (at ∙ ap (λ z. Some z) (sym of.same)) id
    of.scalars (subst (λ n. are_typed (resolved m r) n of.draft.body ≡ true) id of.typed))

-- the parameters and the locals of a body that has none
no_params : (p : Place) (d : Draft) → d.params ≡ [] → (checked_proc p d).params ≡ []
no_params p d none = ap (marked_params (lent_in_body d) 0) none

no_locals : (p : Place) (d : Draft) → d.vars ≡ [] → (checked_proc p d).locals ≡ []
no_locals p d none = ap (locals_from p.types (lent_in_body d) 0 0) none

pub module_typed : (m : Module) (r : Reading) → ReadingSound r → IsTyped (resolved m r)
module_typed m r sound = record {
  procs = typed_at m r sound;
  body = checked_proc r.place sound.body;
  first = ap (λ ds. slice_get (map (checked_proc r.place) ds) 0) sound.first;
  no_params = no_params r.place sound.body sound.no_params;
  no_locals = no_locals r.place sound.body sound.no_locals;
}
