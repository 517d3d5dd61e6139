-- The relation is kept by assignments, by writes to temporaries, and by returns.
use Rattle.std.proofs.Common.{◌≡◌, ◌≢◌, ℕ, true, List, map, Option, Some, refl, sym, ap, ◌∙◌, subst}
use Rattle.std.proofs.Common.{◌⊎◌, inl, inr, ⊎_elim}
use Rattle.std.specs.Prelude.{ℤ, pos}
use Rattle.std.specs.Cmp.{tied_itself}
use Rattle.std.specs.declared.cmp.Ordering.{Ordering}
use Rattle.std.specs.declared.cmp.Ordering.TheVariants.{Less, Equal, Greater}
use Rattle.pra_base.specs.Words.{word}
use Rattle.pra_list.proofs.Options.{some_same}
use Rattle.ob_syntax.specs.declared.checked.Param.{Param}
use Rattle.ob_syntax.specs.declared.checked.Value.{Value as SourceValue}
use Rattle.ob_syntax.specs.declared.checked.Value.TheVariants.{Number}
use Rattle.ob_syntax.specs.Operators.{number}
use Rattle.ob_syntax.specs.WellFormed.{is_scalar}
use Rattle.ob_mean.specs.declared.store.LiveCall.{LiveCall}
use Rattle.ob_mean.specs.declared.store.Location.{Location}
use Rattle.ob_mean.specs.Store.{Store, assigned, location_cmp}
use Rattle.ob_mean.proofs.Stores.{ordered, tied, read-assigned, read-assigned_other}
use Rattle.vc_code.specs.declared.value.Object.{Object}
use Rattle.vc_code.specs.declared.value.Value.TheVariants.{Num}
use Rattle.vc_code.specs.Value.{Held}
use Rattle.vc_code.specs.Machine.{State, with_object, live_in}
use Rattle.vc_code.specs.Selected.{Vars}
use Rattle.vc_relation.specs.Layout.{IsLaidOut}
use Rattle.vc_relation.specs.Homes.{param_variable}
use Rattle.vc_relation.specs.Spots.{Spot, InVariable, InWord, Placed, placed_at, placed}
use Rattle.vc_relation.specs.Relation.{SelectedModule, shapes_of, content, number_at, is_of_type}
use Rattle.vc_relation.specs.Relation.{IsKept, IsGiven, lent_in, Represents}
use Rattle.vc_relation.proofs.Apart.{own_spots}
use Rattle.vc_relation.proofs.Words.{live_after, same_procs}
use Rattle.vc_relation.proofs.Contents.{content_written, content_other}

-- ---- locations are equal or not

by_order : (r : Ordering) (l m : Location) → location_cmp l m ≡ r → (l ≡ m) ⊎ (l ≢ m)
by_order Equal l m e = inl (tied l m e)
by_order Less l m e = inr (λ same. let at : location_cmp l l ≡ Less = ap (location_cmp l) same
    ∙ e in absurd (not_less (sym (tied_itself ordered l) ∙ at)))
  where
    not_less : Equal ≡ Less → ⊥
    not_less d = cc
by_order Greater l m e =
    inr (λ same. let at : location_cmp l l ≡ Greater = ap (location_cmp l) same ∙ e in
    absurd (not_greater (sym (tied_itself ordered l) ∙ at)))
  where
    not_greater : Equal ≡ Greater → ⊥
    not_greater d = cc

pub same_or_not : (l m : Location) → (l ≡ m) ⊎ (l ≢ m)
same_or_not l m = by_order (location_cmp l m) l m refl

-- ---- what is given of a parameter goes by what its variable holds

pub given_on : (t : SelectedModule) (below : List LiveCall) (param : Param) (lent : Option Location)
    (one other : Held) → other ≡ one → IsGiven t below param lent one →
    IsGiven t below param lent other
given_on t below param lent one other e g = subst (IsGiven t below param lent) (sym e) g

pub kept_on : (type_id : ℕ) (m n : ℤ) (one other : Held) → n ≡ m → other ≡ one →
    IsKept type_id m one → IsKept type_id n other
kept_on type_id m n one other e f k = subst (λ z. IsKept type_id z other) (sym e)
    (subst (IsKept type_id m) (sym f) k)

-- ---- an assignment to a word

module _ (t : SelectedModule) (calls : List LiveCall) (store : Store) (s : State Vars)
    (l : Location) (x : Object) (w type_id : ℕ) (v : SourceValue)
    (laid : IsLaidOut t.program) (represents : Represents t calls store s)
    (there : placed t.program t.frames calls l ≡ Some (placed_at (InWord x w) type_id))
    (scalar : is_scalar type_id ≡ true) (typed : is_of_type type_id (number v) ≡ true) where
  abbrev written : State Vars
  written = with_object (shapes_of t) s x w (Some (Num (word (number v))))

  before : content t s (InWord x w) ≡ Some (Num (word (number_at store l)))
  before = (represents.values l (InWord x w) type_id there scalar).word

  variable_is_none : (d u : ℕ) → InVariable d u ≢ InWord x w
  variable_is_none d u e = cc

  values_after : (m : Location) (spot : Spot) (other : ℕ) → placed t.program t.frames calls m ≡
      Some (placed_at spot other) → is_scalar other ≡ true →
      IsKept other (number_at (assigned store l v) m) (content t written spot)
  values_after m spot other at also =
      ⊎_elim
      (λ (same : m ≡ l).
      let places = some_same (placed_at spot other) (placed_at (InWord x w) type_id)
      (sym at ∙ ap (placed t.program t.frames calls) same ∙ there) in
      let spots : spot ≡ InWord x w = ap (λ (p : Placed). p.spot) places in
      let types : other ≡ type_id = ap (λ (p : Placed). p.type_id) places in
      let value : number_at (assigned store l v) m ≡ number v =
      ap (number_at (assigned store l v)) same
      ∙ ap number (read-assigned store l v (Number (pos 0))) in
      let new : IsKept type_id (number v) (Some (Num (word (number v)))) =
      record { typed = typed; word = refl } in
      subst (λ k. IsKept k (number_at (assigned store l v) m) (content t written spot)) (sym types)
      (kept_on type_id (number v) (number_at (assigned store l v) m) (Some (Num (word (number v))))
      (content t written spot) value
      (ap (content t written) spots ∙ content_written t s x w _ (Some (Num (word (number v))))
      before) new))
      (λ (apart : m ≢ l).
      let off : spot ≢ InWord x w =
      λ e. apart (own_spots t.program t.frames calls laid m l (placed_at spot other)
      (placed_at (InWord x w) type_id) at there also scalar e) in
      kept_on other (number_at store m) (number_at (assigned store l v) m) (content t s spot)
      (content t written spot)
      (ap number (read-assigned_other store l m v (Number (pos 0)) apart))
      (content_other t s x w _ (Some (Num (word (number v)))) before spot off)
      (represents.values m spot other at also))
      (same_or_not m l)

  pub assigned_word : Represents t calls (assigned store l v) written
  assigned_word = record {
    same_calls = ap (map (λ c. c.proc))
        (live_after (shapes_of t) s x w (Some (Num (word (number v)))))
        ∙ same_procs (shapes_of t) x w (Some (Num (word (number v)))) (live_in s)
        ∙ represents.same_calls;
    values = values_after;
    params = λ d k call below proc param at has.
        given_on t below param (lent_in call k) (content t s (InVariable d (param_variable proc k)))
        (content t written (InVariable d (param_variable proc k)))
        (content_other t s x w _ (Some (Num (word (number v)))) before
        (InVariable d (param_variable proc k)) (variable_is_none d (param_variable proc k)))
        (represents.params d k call below proc param at has);
  }
