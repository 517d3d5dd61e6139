-- What is at the spots after a change of the state.
use Rattle.std.proofs.Common.{◌≡◌, ◌≢◌, ℕ, suc, Bool, true, false, List, [], ◌∷◌, length, Option}
use Rattle.std.proofs.Common.{Some, None, refl, ap, ◌∙◌}
use Rattle.std.specs.Prelude.{slice_get, slice_index_or, nat_eq, if◌then◌else◌}
use Rattle.pra_list.proofs.Options.{none_some}
use Rattle.vc_code.specs.declared.value.Object.{Object}
use Rattle.vc_code.specs.declared.value.Value.{Value}
use Rattle.vc_code.specs.Value.{Held}
use Rattle.vc_code.specs.Machine.{Shape, Activation, State, calls_with, with_object, live_in}
use Rattle.vc_code.specs.Machine.{object, joined}
use Rattle.vc_code.specs.Selected.{Vars}
use Rattle.vc_relation.specs.Spots.{Spot, InVariable, InWord, call_at}
use Rattle.vc_relation.specs.Relation.{SelectedModule, shapes_of, variable_in, content}
use Rattle.vc_relation.proofs.Words.{named, put_in, with_cons, home_put, same_length, live_after}
use Rattle.vc_relation.proofs.Words.{written_object, other_object}

joined_some : (o : Option Held) (v : Value) → joined o ≡ Some v → o ≡ Some (Some v)
joined_some None v e = absurd (none_some e)
joined_some (Some h) v e = ap Some e

module _ (shape : ℕ → Shape) (x : Object) (w : ℕ) (h : Held) (d v : ℕ) where
  same_variables : (calls : List (Activation Vars)) →
      variable_in (call_at (calls_with shape calls x w h) d) v ≡ variable_in (call_at calls d) v
  same_variables [] = refl
  same_variables (c ∷ calls) = ap (λ cs. variable_in (call_at cs d) v)
      (with_cons shape x w h c calls) ∙ by_name (same_variables calls) (named shape x c calls)
    where
      by_depth : (b : Bool) (one other : Activation Vars) (below rest : List (Activation Vars)) →
          one.home ≡ other.home → variable_in (call_at below d) v ≡ variable_in (call_at rest d) v →
          variable_in (if b then Some (one, below) else call_at below d) v ≡
          variable_in (if b then Some (other, rest) else call_at rest d) v
      by_depth true one other below rest same more = ap (λ (z : Vars). slice_index_or z.held v None)
          same
      by_depth false one other below rest same more = more

      by_name : variable_in (call_at (calls_with shape calls x w h) d) v ≡
          variable_in (call_at calls d) v → (b : Bool) →
          variable_in (call_at (if b then put_in shape x w h c ∷ calls else c ∷ calls_with shape
          calls x w h) d) v ≡ variable_in (call_at (c ∷ calls) d) v
      by_name more true = by_depth (nat_eq d (suc (length calls))) (put_in shape x w h c) c calls
          calls (home_put shape x w h c) refl
      by_name more false =
          ap (λ n. variable_in (if nat_eq d (suc n) then Some (c, calls_with shape calls x w h) else
          call_at (calls_with shape calls x w h) d) v) (same_length shape x w h calls)
          ∙ by_depth (nat_eq d (suc (length calls))) c c (calls_with shape calls x w h) calls refl
          more

module _ (t : SelectedModule) (s : State Vars) (x : Object) (w : ℕ) (old : Value) (h : Held)
    (there : content t s (InWord x w) ≡ Some old) where
  pub content_written : content t (with_object (shapes_of t) s x w h) (InWord x w) ≡ h
  content_written = ap joined
      (written_object (shapes_of t) s w h (Some old) x
      (joined_some (slice_get (object (shapes_of t) s x) w) old there))

  pub content_other : (spot : Spot) → spot ≢ InWord x w →
      content t (with_object (shapes_of t) s x w h) spot ≡ content t s spot
  content_other (InVariable d v) apart =
      ap (λ cs. variable_in (call_at cs d) v) (live_after (shapes_of t) s x w h)
      ∙ same_variables (shapes_of t) x w h d v (live_in s)
  content_other (InWord y k) apart =
      ap joined (other_object (shapes_of t) s w h (Some old) x y k
      (joined_some (slice_get (object (shapes_of t) s x) w) old there)
      (λ e f. apart (ap (λ z. InWord z k) e ∙ ap (InWord x) f)))
