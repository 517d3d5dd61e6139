-- The body of a module of one variable starts.
use Rattle.std.proofs.Common.{◌≡◌, ℕ, zero, suc, ◌<◌, true, false, List, [], ◌∷◌, length, Option}
use Rattle.std.proofs.Common.{Some, None, refl, sym, ap, ◌∙◌, subst, arith}
use Rattle.std.specs.Prelude.{Bool, pos, unwrap_or, slice_get, nat_eq, if◌then◌else◌}
use Rattle.pra_list.specs.Options.{◌>>=◌}
use Rattle.std.proofs.lemmas.List.{length-replicate}
use Rattle.pra_list.proofs.Each.{each_at}
use Rattle.pra_list.proofs.Options.{none_some, some_same}
use Rattle.pra_base.specs.declared.code.VProc.{VProc}
use Rattle.ob_syntax.specs.Storage.{all_words}
use Rattle.ob_syntax.specs.declared.checked.Checked.{Checked}
use Rattle.ob_syntax.specs.declared.checked.CheckedProc.{CheckedProc}
use Rattle.ob_syntax.specs.declared.checked.Param.{Param}
use Rattle.ob_syntax.specs.declared.checked.Local.{Local}
use Rattle.std.specs.FinMap.{get-empty}
use Rattle.ob_syntax.specs.Operators.{number}
use Rattle.ob_syntax.specs.declared.checked.Value.{Value}
use Rattle.ob_syntax.specs.declared.checked.Value.TheVariants.{Number}
use Rattle.ob_mean.specs.Store.{new_store, location_cmp}
use Rattle.ob_mean.specs.declared.store.Location.{Location}
use Rattle.ob_mean.specs.declared.store.LiveCall.{LiveCall}
use Rattle.ob_mean.specs.declared.store.Object.{Object}
use Rattle.ob_mean.specs.declared.store.Object.TheVariants as source
use Rattle.vc_code.specs.declared.value.Object.TheVariants.{Data}
use Rattle.vc_code.specs.Selected.{code_of}
use Rattle.vc_build.specs.Grow.{Grows}
use Rattle.vc_relation.specs.Layout.{NamesBelow, IsLaidIn, IsLaidOut, part_along}
use Rattle.vc_relation.specs.Spots.{Spot, InWord, Placed, placed_at, placed, part_placed, param_of}
use Rattle.vc_relation.specs.Spots.{local_of, param_placed, local_placed, here_of}
use Rattle.vc_relation.specs.Relation.{IsKept, Represents, content, number_at}
use Rattle.vc_select.specs.declared.target.Setting.{Setting}
use Rattle.vc_select.specs.Sample.{sample, IsForSample, begun, alone, one_call, at_begin}
use Rattle.vc_select.specs.Selects.{IsSet, Starts, home_variables, selected_module}

pub laid : IsLaidOut sample
laid = record {
  types = record {
    first = refl;
    second = refl;
    below = each_at NamesBelow sample.types
        (tt, (tt, tt));
  };
  var_types = each_at (λ n var. var.type_id < 2) sample.vars (omega arith, tt);
  vars = ((λ e. refl), refl);
  few = omega arith;
  procs = each_at (λ p proc. IsLaidIn sample.types proc) sample.procs (
    record {
      param_types = λ k param e. absurd (none_some e);
      local_types =
          λ k local e. absurd (none_some e);
      locals = refl;
      few = omega arith;
    },
    tt,
  );
}

-- the body is the one call, at depth 1
abbrev call_if : Bool → Option (LiveCall × List LiveCall)
call_if b = if b then Some (record { proc = record { 0 = 0 }; lent = [] }, []) else None

abbrev part_of : List ℕ → Option Placed → Option Placed
part_of path o = o >>= λ begin. part_along sample.types begin.type_id path >>= λ part. Some
    (part_placed begin part)

abbrev param_if : Bool → ℕ → ℕ → Option Placed
param_if b depth k = call_if b >>= λ call. param_of sample call.0 k >>= λ param. param_placed depth
    (here_of (20 ∷ []) call) k param

abbrev local_if : Bool → ℕ → ℕ → Option Placed
local_if b depth k = call_if b >>= λ call. local_of sample call.0 k >>= λ local. local_placed depth
    (here_of (20 ∷ []) call) k local

no_param_placed : (b : Bool) (depth k : ℕ) (path : List ℕ) (p : Placed) →
    part_of path (param_if b depth k) ≡ Some p → ⊥
no_param_placed true depth k path p e = none_some e
no_param_placed false depth k path p e = none_some e

no_local_placed : (b : Bool) (depth k : ℕ) (path : List ℕ) (p : Placed) →
    part_of path (local_if b depth k) ≡ Some p → ⊥
no_local_placed true depth k path p e = none_some e
no_local_placed false depth k path p e = none_some e

no_params : (b : Bool) (k : ℕ) (call : LiveCall) (below : List LiveCall) (proc : CheckedProc)
    (param : Param) → call_if b ≡ Some (call, below) → param_of sample call k ≡ Some (proc, param) →
    ⊥
no_params true k call below proc param e p =
    let same : (record { proc = record { 0 = 0 }; lent = [] }, []) ≡ (call, below) =
    some_same (record { proc = record { 0 = 0 }; lent = [] }, []) (call, below) e in
    none_some (ap (λ (c : LiveCall × List LiveCall). param_of sample c.0 k) same ∙ p)
no_params false k call below proc param e p = absurd (none_some e)

kept : (code : VProc) (object : Object) (path : List ℕ) (spot : Spot) (type_id : ℕ) →
    placed sample (20 ∷ []) one_call (record { object = object; path = path }) ≡
    Some (placed_at spot type_id) →
    IsKept type_id (pos 0) (content (selected_module sample (alone code)) (at_begin code) spot)
kept code (source.Module zero) [] spot type_id e =
    let same : placed_at (InWord Data 0) 0 ≡ placed_at spot type_id =
    some_same (placed_at (InWord Data 0) 0) (placed_at spot type_id) e in
    subst (λ (p : Placed). IsKept p.type_id (pos 0)
    (content (selected_module sample (alone code)) (at_begin code) p.spot)) same
    (record { typed = refl; word = refl })
kept code (source.Module zero) (k ∷ path) spot type_id e = absurd (none_some e)
kept code (source.Module (suc n)) path spot type_id e = absurd (none_some e)
kept code (source.Param depth k) path spot type_id e =
    absurd (no_param_placed (nat_eq depth 1) depth k path (placed_at spot type_id) e)
kept code (source.Local depth k) path spot type_id e =
    absurd (no_local_placed (nat_eq depth 1) depth k path (placed_at spot type_id) e)

no_number : (l : Location) → number_at new_store l ≡ pos 0
no_number l = ap (λ (o : Option Value). number (unwrap_or o (Number (pos 0))))
    (get-empty location_cmp l)

represents : (code : VProc) → Represents (selected_module sample (alone code)) one_call new_store
    (at_begin code)
represents code = record {
  same_calls = refl;
  values = λ l spot type_id e scalar.
      subst (λ n. IsKept type_id n
      (content (selected_module sample (alone code)) (at_begin code) spot)) (sym (no_number l))
      (kept code l.object l.path spot type_id e);
  params = λ depth k call below proc param at of.
      absurd (no_params (nat_eq depth 1) k call below proc param at of);
}

no_homes : (g : Setting) → IsForSample g → home_variables g ≡ 0
no_homes g is = ap (λ n. Rattle.vc_relation.specs.Relation.homes_in
    (slice_get g.program.now.procs n)) is.id
    ∙ ap (λ (p : Checked). Rattle.vc_relation.specs.Relation.homes_in (slice_get p.procs 0))
    is.program

is_set : (g : Setting) → IsForSample g → IsSet g
is_set g is = record {
  laid = subst IsLaidOut (sym is.program) laid;
  words = is.words ∙ ap (λ (p : Checked). all_words p.types) (sym is.program);
  params = λ proc k param there at. absurd (no_param g is proc k param there at);
  locals = λ proc k local there at. absurd (no_local g is proc k local there at);
}
  where
    its : (g : Setting) → IsForSample g → (proc : CheckedProc) →
        slice_get g.program.now.procs g.id.0 ≡ Some proc →
        proc ≡ Rattle.vc_relation.specs.Sample.procedure 0 [] [] 0
    its g is proc there = sym (some_same (Rattle.vc_relation.specs.Sample.procedure 0 [] [] 0) proc
        (sym (ap (λ n. slice_get g.program.now.procs n) is.id
        ∙ ap (λ (p : Checked). slice_get p.procs 0) is.program) ∙ there))

    no_param : (g : Setting) → IsForSample g → (proc : CheckedProc) (k : ℕ) (param : Param) →
        slice_get g.program.now.procs g.id.0 ≡ Some proc → slice_get proc.params k ≡ Some param → ⊥
    no_param g is proc k param there at =
        none_some (ap (λ (p : CheckedProc). slice_get p.params k) (sym (its g is proc there)) ∙ at)

    no_local : (g : Setting) → IsForSample g → (proc : CheckedProc) (k : ℕ) (local : Local) →
        slice_get g.program.now.procs g.id.0 ≡ Some proc → slice_get proc.locals k ≡ Some local → ⊥
    no_local g is proc k local there at =
        none_some (ap (λ (p : CheckedProc). slice_get p.locals k) (sym (its g is proc there)) ∙ at)

pub starts : (g : Setting) (code : VProc) → IsForSample g → Grows begun code →
    Starts g (alone code) begun code 0 one_call new_store (at_begin code)
starts g code is grows = record {
  set = is_set g is;
  homes = omega (arith, no_homes g is);
  variables = λ v lt. absurd (omega (arith, lt, no_homes g is));
  runs = record {
    proc = sym is.id;
    holds = subst (λ n. Grows code (code_of (code ∷ []) n)) (sym is.id)
        (Rattle.vc_build.proofs.Growth.grows_same code);
    going = refl;
    compared = refl;
    room = length-replicate (length code.vars) None ∙ ap (λ n. length (code_of (code ∷ []) n).vars)
        (sym is.id);
  };
  stands = record { block = refl; index = refl };
  represents = subst (λ p. Represents (selected_module p (alone code)) one_call new_store
      (at_begin code)) (sym is.program) (represents code);
}
