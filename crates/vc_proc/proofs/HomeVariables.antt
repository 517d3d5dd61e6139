-- The variables that are homes, and the homes of parameters and locals, by their numbers.
use Rattle.std.proofs.Common.{◌≡◌, ℕ, zero, suc, ◌+◌, ◌<◌, ◌≤◌, Bool, true, false, inl, inr, ⊎_elim}
use Rattle.std.proofs.Common.{◌⊎◌, List, [], ◌∷◌, ◌++◌, length, take, Some, refl, sym, ap, ◌∙◌}
use Rattle.std.proofs.Common.{arith, length-append}
use Rattle.std.specs.Prelude.{slice_get, count_by, not, if◌then◌else◌}
use Rattle.pra_list.proofs.Elements.{got_front, got_back}
use Rattle.pra_list.proofs.Counts.{count-cons}
use Rattle.pra_list.proofs.Options.{none_some, some_same}
use Rattle.pra_base.specs.declared.code.VarKind.{VarKind}
use Rattle.pra_base.specs.declared.code.VarKind.TheVariants as kind
use Rattle.pra_base.specs.declared.code.VarKind.TheVariants.{Plain}
use Rattle.ob_syntax.specs.declared.checked.CheckedProc.{CheckedProc}
use Rattle.ob_syntax.specs.declared.checked.Local.{Local}
use Rattle.ob_syntax.specs.declared.checked.Param.{Param}
use Rattle.vc_relation.specs.Homes.{in_variable, local_in_variable, param_variable, local_variable}
use Rattle.vc_relation.specs.Homes.{home_count, param_home, local_home}
use Rattle.vc_relation.specs.Layout.{is_aggregate}
use Rattle.vc_proc.specs.Opening.{param_kind, local_kind, param_kinds, local_kinds, home_kinds}
use Rattle.vc_proc.specs.Opening.{param_home_at, local_home_at, param_homes, local_homes}
use Rattle.vc_proc.proofs.Gets.{InBack, got_either, count_before}

-- ---- how many

abbrev one_where : Bool → VarKind → List VarKind
one_where b x = if b then x ∷ [] else []

one_length : (b : Bool) (x : VarKind) → length (one_where b x) ≡ (if b then 1 else 0)
one_length true x = refl
one_length false x = refl

abbrev one_unless : Bool → VarKind → List VarKind
one_unless b x = if b then [] else x ∷ []

unless_length : (b : Bool) (x : VarKind) → length (one_unless b x) ≡ (if not b then 1 else 0)
unless_length true x = refl
unless_length false x = refl

pub param_kind_length : (k : ℕ) (param : Param) → length (param_kind k param) ≡
    (if in_variable param then 1 else 0)
param_kind_length k param = one_length (in_variable param) (kind.Param k)

pub local_kind_length : (local : Local) → length (local_kind local) ≡
    (if local_in_variable local then 1 else 0)
local_kind_length local = unless_length (is_aggregate local) Plain

pub params_length : (k : ℕ) (params : List Param) → length (param_kinds k params) ≡
    count_by in_variable params
params_length k [] = refl
params_length k (p ∷ ps) =
    let whole = length-append (param_kind k p) (param_kinds (k + 1) ps) in
    let first = param_kind_length k p in
    omega (arith, whole, first, params_length (k + 1) ps, count-cons in_variable p ps)

pub locals_length : (locals : List Local) → length (local_kinds locals) ≡
    count_by local_in_variable locals
locals_length [] = refl
locals_length (l ∷ ls) =
    let whole = length-append (local_kind l) (local_kinds ls) in
    let first = local_kind_length l in
    omega (arith, whole, first, locals_length ls, count-cons local_in_variable l ls)

pub kinds_length : (proc : CheckedProc) → length (home_kinds proc) ≡ home_count proc
kinds_length proc = omega (
  arith,
  length-append (param_kinds 0 proc.params) (local_kinds proc.locals),
  params_length 0 proc.params,
  locals_length proc.locals,
)

-- ---- homes by number

pub param_homes_length : (k v : ℕ) (params : List Param) → length (param_homes k v params) ≡
    length params
param_homes_length k v [] = refl
param_homes_length k v (p ∷ ps) =
    omega (arith, param_homes_length (k + 1) (v + length (param_kind k p)) ps)

pub local_homes_length : (v : ℕ) (locals : List Local) → length (local_homes v locals) ≡
    length locals
local_homes_length v [] = refl
local_homes_length v (l ∷ ls) = omega (arith, local_homes_length (v + length (local_kind l)) ls)

param_home_there : (k v : ℕ) (params : List Param) (j : ℕ) (param : Param) → slice_get params j ≡
    Some param →
    slice_get (param_homes k v params) j ≡
    Some (param_home_at (k + j) (v + count_by in_variable (take j params)) param)
param_home_there k v [] j param e = absurd (none_some e)
param_home_there k v (p ∷ ps) zero param e =
    let same : param_home_at k v p ≡ param_home_at k v param =
    ap (param_home_at k v) (some_same p param e) in
    let number : k ≡ k + 0 = omega arith in
    let before : v ≡ v + count_by in_variable (take 0 (p ∷ ps)) = omega arith in
    ap Some (same ∙ ap (λ n. param_home_at n v param) number
    ∙ ap (λ n. param_home_at (k + 0) n param) before)
param_home_there k v (p ∷ ps) (suc j) param e =
    let rest = param_home_there (k + 1) (v + length (param_kind k p)) ps j param e in
    let number : k + 1 + j ≡ k + suc j = omega arith in
    let before : v + length (param_kind k p) + count_by in_variable (take j ps) ≡
    v + count_by in_variable (take (suc j) (p ∷ ps)) =
    omega (arith, param_kind_length k p, count-cons in_variable p (take j ps)) in
    rest ∙ ap (λ n. Some (param_home_at n
    (v + length (param_kind k p) + count_by in_variable (take j ps)) param)) number
    ∙ ap (λ n. Some (param_home_at (k + suc j) n param)) before

local_home_there : (v : ℕ) (locals : List Local) (j : ℕ) (local : Local) → slice_get locals j ≡
    Some local →
    slice_get (local_homes v locals) j ≡
    Some (local_home_at (v + count_by local_in_variable (take j locals)) local)
local_home_there v [] j local e = absurd (none_some e)
local_home_there v (l ∷ ls) zero local e =
    let before : v ≡ v + count_by local_in_variable (take 0 (l ∷ ls)) = omega arith in
    ap Some (ap (local_home_at v) (some_same l local e) ∙ ap (λ n. local_home_at n local) before)
local_home_there v (l ∷ ls) (suc j) local e =
    let rest = local_home_there (v + length (local_kind l)) ls j local e in
    let before : v + length (local_kind l) + count_by local_in_variable (take j ls) ≡
    v + count_by local_in_variable (take (suc j) (l ∷ ls)) =
    omega (arith, local_kind_length l, count-cons local_in_variable l (take j ls)) in
    rest ∙ ap (λ n. Some (local_home_at n local)) before

module _ (proc : CheckedProc) where
  abbrev of_params : ℕ
  of_params = count_by in_variable proc.params

  abbrev of_locals : ℕ
  of_locals = count_by local_in_variable proc.locals

  pub home_of_param : (k : ℕ) (param : Param) → slice_get proc.params k ≡ Some param →
      slice_get (param_homes 0 0 proc.params) k ≡ Some (param_home proc k param)
  home_of_param k param e =
      let number : 0 + k ≡ k = omega arith in
      let before : 0 + count_by in_variable (take k proc.params) ≡ param_variable proc k =
      omega arith in
      param_home_there 0 0 proc.params k param e
      ∙ ap (λ n. Some (param_home_at n (0 + count_by in_variable (take k proc.params)) param))
      number
      ∙ ap (λ n. Some (param_home_at k n param)) before

  pub home_of_local : (k : ℕ) (local : Local) → slice_get proc.locals k ≡ Some local →
      slice_get (local_homes (length (param_kinds 0 proc.params)) proc.locals) k ≡
      Some (local_home proc k local)
  home_of_local k local e =
      let before : length (param_kinds 0 proc.params) + count_by local_in_variable
      (take k proc.locals) ≡ local_variable proc k =
      omega (arith, params_length 0 proc.params) in
      local_home_there (length (param_kinds 0 proc.params)) proc.locals k local e
      ∙ ap (λ n. Some (local_home_at n local)) before

-- ---- the variable of a parameter

first_where : (b : Bool) (x : VarKind) (rest : List VarKind) → b ≡ true →
    slice_get (one_where b x ++ rest) 0 ≡ Some x
first_where b x rest e = ap (λ c. slice_get (one_where c x ++ rest) 0) e

param_kind_there : (k : ℕ) (params : List Param) (j : ℕ) (param : Param) → slice_get params j ≡
    Some param → in_variable param ≡ true →
    slice_get (param_kinds k params) (count_by in_variable (take j params)) ≡
    Some (kind.Param (k + j))
param_kind_there k [] j param e is = absurd (none_some e)
param_kind_there k (p ∷ ps) zero param e is =
    let here : in_variable p ≡ true = ap in_variable (some_same p param e) ∙ is in
    let number : k ≡ k + 0 = omega arith in
    first_where (in_variable p) (kind.Param k) (param_kinds (k + 1) ps) here
    ∙ ap (λ n. Some (kind.Param n)) number
param_kind_there k (p ∷ ps) (suc j) param e is =
    let place : count_by in_variable (take (suc j) (p ∷ ps)) ≡ length (param_kind k p) + count_by
    in_variable (take j ps) =
    omega (arith, param_kind_length k p, count-cons in_variable p (take j ps)) in
    let number : k + 1 + j ≡ k + suc j = omega arith in
    got_back (param_kind k p) (param_kinds (k + 1) ps)
    (count_by in_variable (take (suc j) (p ∷ ps))) (count_by in_variable (take j ps)) place
    ∙ param_kind_there (k + 1) ps j param e is
    ∙ ap (λ n. Some (kind.Param n)) number

-- a variable of a parameter, with the parameter
pub record FromParam (k : ℕ) (params : List Param) (v : ℕ) (x : VarKind) : Type 0 where
  pub number : ℕ
  pub param : Param
  pub there : slice_get params number ≡ Some param
  pub placed : in_variable param ≡ true
  pub before : v ≡ count_by in_variable (take number params)
  pub is : x ≡ kind.Param (k + number)

-- the one variable of a parameter that has one
one_there : (b : Bool) (x : VarKind) (v : ℕ) (z : VarKind) → slice_get (one_where b x) v ≡ Some z →
    (b ≡ true) × (v ≡ 0) × (x ≡ z)
one_there true x zero z e = (refl, refl, some_same x z e)
one_there true x (suc v) z e = absurd (none_some e)
one_there false x v z e = absurd (none_some e)

pub from_param : (k : ℕ) (params : List Param) (v : ℕ) (x : VarKind) →
    slice_get (param_kinds k params) v ≡ Some x → FromParam k params v x
from_param k [] v x e = absurd (none_some e)
from_param k (p ∷ ps) v x e =
    ⊎_elim
    (λ (d : slice_get (param_kind k p) v ≡ Some x). here
    (one_there (in_variable p) (kind.Param k) v x d))
    (λ (b : InBack (param_kind k p) (param_kinds (k + 1) ps) v x). behind b
    (from_param (k + 1) ps b.place x b.there))
    (got_either (param_kind k p) (param_kinds (k + 1) ps) v x e)
  where
    here : (in_variable p ≡ true) × (v ≡ 0) × (kind.Param k ≡ x) → FromParam k (p ∷ ps) v x
    here h = record {
      number = 0;
      param = p;
      there = refl;
      placed = h.0;
      before = h.1;
      is = let number : k ≡ k + 0 = omega arith in sym h.2 ∙ ap kind.Param number;
    }

    behind : (b : InBack (param_kind k p) (param_kinds (k + 1) ps) v x) →
        FromParam (k + 1) ps b.place x → FromParam k (p ∷ ps) v x
    behind b f = record {
      number = suc f.number;
      param = f.param;
      there = f.there;
      placed = f.placed;
      before = omega (
        arith,
        b.number,
        param_kind_length k p,
        f.before,
        count-cons in_variable p (take f.number ps),
      );
      is = let number : k + 1 + f.number ≡ k + suc f.number = omega arith in
          f.is ∙ ap kind.Param number;
    }

pub local_kind_there : (locals : List Local) (v : ℕ) (x : VarKind) →
    slice_get (local_kinds locals) v ≡ Some x → x ≡ Plain
local_kind_there [] v x e = absurd (none_some e)
local_kind_there (l ∷ ls) v x e =
    ⊎_elim
    (λ (d : slice_get (local_kind l) v ≡ Some x). one_plain (is_aggregate l) v x d)
    (λ (b : InBack (local_kind l) (local_kinds ls) v x). local_kind_there ls b.place x b.there)
    (got_either (local_kind l) (local_kinds ls) v x e)
  where
    one_plain : (b : Bool) (v : ℕ) (x : VarKind) → slice_get (one_unless b Plain) v ≡ Some x →
        x ≡ Plain
    one_plain true v x e = absurd (none_some e)
    one_plain false zero x e = sym (some_same Plain x e)
    one_plain false (suc v) x e = absurd (none_some e)

-- ---- the variables of a procedure

module _ (proc : CheckedProc) where
  -- a variable of a local
  pub record FromLocal (v : ℕ) (x : VarKind) : Type 0 where
    pub behind : count_by in_variable proc.params ≤ v
    pub is : x ≡ Plain

  pub kind_from : (v : ℕ) (x : VarKind) → slice_get (home_kinds proc) v ≡ Some x →
      FromParam 0 proc.params v x ⊎ FromLocal v x
  kind_from v x e =
      ⊎_elim
      (λ (d : slice_get (param_kinds 0 proc.params) v ≡ Some x). inl
      (from_param 0 proc.params v x d))
      (λ (b : InBack (param_kinds 0 proc.params) (local_kinds proc.locals) v x). inr
      (record {
        behind = omega (arith, b.number, params_length 0 proc.params);
        is =
            local_kind_there proc.locals b.place x b.there;
      }))
      (got_either (param_kinds 0 proc.params) (local_kinds proc.locals) v x e)

  pub kind_of_param : (k : ℕ) (param : Param) → slice_get proc.params k ≡ Some param →
      in_variable param ≡ true → slice_get (home_kinds proc) (param_variable proc k) ≡
      Some (kind.Param k)
  kind_of_param k param e is =
      let number : 0 + k ≡ k = omega arith in
      got_front (param_kinds 0 proc.params) (local_kinds proc.locals) (param_variable proc k)
      (kind.Param k) (param_kind_there 0 proc.params k param e is
      ∙ ap (λ n. Some (kind.Param n)) number)

  pub param_below : (k : ℕ) (param : Param) → slice_get proc.params k ≡ Some param →
      in_variable param ≡ true → param_variable proc k < count_by in_variable proc.params
  param_below k param e is = count_before in_variable proc.params k param e is

  pub local_above : (k : ℕ) → count_by in_variable proc.params ≤ local_variable proc k
  local_above k = omega arith

  pub local_below : (k : ℕ) (local : Local) → slice_get proc.locals k ≡ Some local →
      local_in_variable local ≡ true → local_variable proc k < home_count proc
  local_below k local e is = omega (arith, count_before local_in_variable proc.locals k local e is)

  -- the number of a parameter names its one variable
  pub param_number : (v i : ℕ) → slice_get (home_kinds proc) v ≡ Some (kind.Param i) →
      (param : Param) × (slice_get proc.params i ≡ Some param) × (in_variable param ≡ true) ×
      (v ≡ param_variable proc i)
  param_number v i e =
      ⊎_elim
      (λ (f : FromParam 0 proc.params v (kind.Param i)).
      let same : f.number ≡ i = number_is f.number i f.is in (
        f.param,
        ap (slice_get proc.params) (sym same) ∙ f.there,
        f.placed,
        f.before ∙ ap (param_variable proc) same,
      ))
      (λ (l : FromLocal v (kind.Param i)). absurd (never i l.is))
      (kind_from v (kind.Param i) e)
    where
      number_is : (n i : ℕ) → kind.Param i ≡ kind.Param (0 + n) → n ≡ i
      number_is n i d = let same : i ≡ 0 + n = cc in omega (arith, same)

      never : (i : ℕ) → kind.Param i ≡ Plain → ⊥
      never i d = cc
