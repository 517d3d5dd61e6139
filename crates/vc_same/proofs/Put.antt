-- What variables hold once an instruction's results are written, in one machine and in two.
use Rattle.std.proofs.Common.{◌≡◌, ◌≢◌, ℕ, ◌<◌, ◌≤◌, ◌⊎◌, inl, inr, ⊎_elim, nat_lt, List, [], ◌∷◌}
use Rattle.std.proofs.Common.{length, map, slice_set, slice_index_or, Some, None, refl, sym, ap}
use Rattle.std.proofs.Common.{subst, ◌∙◌, arith}
use Rattle.std.proofs.lemmas.Bool.{cases_eq, cases_lt}
use Rattle.std.proofs.lemmas.Bool.Decides.{nat_tests}
use Rattle.std.proofs.lemmas.List.{get_or-set_same, get_or-set_other, length-set}
use Rattle.pra_list.proofs.Truths.{if_true, if_false}
use Rattle.pra_list.proofs.Options.{some_same}
use Rattle.pra_base.specs.Code.{kind_of}
use Rattle.pra_base.specs.declared.code.VarKind.{VarKind}
use Rattle.pra_base.specs.declared.code.VProc.{VProc}
use Rattle.vc_code.specs.declared.value.Value.{Value}
use Rattle.vc_code.specs.Value.{Held, Words}
use Rattle.vc_code.specs.Selected.{read, valued, put, put_all}
use Rattle.vc_same.specs.Renaming.{Names}
use Rattle.vc_same.specs.Reduction.{StandsFor}
use Rattle.vc_same.proofs.OtherKinds.{stands_valued}
use Rattle.pra_list.specs.Among.{Among}

put_inside : (held : Words) (w : ℕ) (h : Held) → w < length held → put held w h ≡
    Some (slice_set held w h)
put_inside held w h lt = if_true (nat_lt w (length held)) (Some (slice_set held w h)) None
    (grind (arith, nat_tests))

put_outside : (held : Words) (w : ℕ) (h : Held) → length held ≤ w → put held w h ≡ None
put_outside held w h le = if_false (nat_lt w (length held)) (Some (slice_set held w h)) None
    (grind (arith, nat_tests))

read_put_same : (kind : ℕ → VarKind) (held : Words) (w : ℕ) (h : Held) → w < length held →
    read kind (slice_set held w h) w ≡ valued (kind w) h
read_put_same kind held w h lt = ap (λ x. valued (kind w) x) (get_or-set_same held w h None lt)

read_put_other : (kind : ℕ → VarKind) (held : Words) (w v : ℕ) (h : Held) → v ≢ w →
    read kind (slice_set held w h) v ≡ read kind held v
read_put_other kind held w v h other = ap (λ x. valued (kind v) x)
    (get_or-set_other held w v h None other)

none_is : {X : Type 0} (x : X) → None ≡ Some x → ⊥
none_is x e = cc

not_first : (v w : ℕ) (ws : List ℕ) → (Among v (w ∷ ws) → ⊥) → (v ≢ w) × (Among v ws → ⊥)
not_first v w ws n = (λ e. n (inl e), λ m. n (inr m))

-- ---- one machine: what is not written stays

pub put_rest : (vs : List ℕ) (xs : List Value) (held new : Words) → put_all (Some held) vs xs ≡
    Some new →
    (length new ≡ length held) ×
    ((v : ℕ) → (Among v vs → ⊥) → slice_index_or new v None ≡ slice_index_or held v None)
put_rest [] xs held new e = (
  ap length (sym (some_same held new e)),
  λ v n. ap (λ (ws : Words). slice_index_or ws v None)
      (sym (some_same held new e)),
)
put_rest (w ∷ vs) [] held new e = absurd (none_is new e)
put_rest (w ∷ vs) (x ∷ xs) held new e =
    ⊎_elim
    (λ (lt : w < length held).
    let more = put_rest vs xs (slice_set held w (Some x)) new
    (ap (λ o. put_all o vs xs) (sym (put_inside held w (Some x) lt)) ∙ e) in (
      more.0 ∙ length-set held w (Some x),
      λ v n. let f = not_first v w vs n in more.1 v f.1 ∙ get_or-set_other held w v (Some x) None
          f.0,
    ))
    (λ (le : length held ≤ w).
    absurd (none_is new (ap (λ o. put_all o vs xs) (sym (put_outside held w (Some x) le)) ∙ e)))
    (cases_lt w (length held))

pub put_one : (held new : Words) (w : ℕ) (x : Value) → put_all (Some held) (w ∷ []) (x ∷ []) ≡
    Some new → slice_index_or new w None ≡ Some x
put_one held new w x e =
    ⊎_elim
    (λ (lt : w < length held).
    ap (λ (ws : Words). slice_index_or ws w None)
    (sym (some_same _ _ (ap (λ o. put_all o [] []) (sym (put_inside held w (Some x) lt)) ∙ e)))
    ∙ get_or-set_same held w (Some x) None lt)
    (λ (le : length held ≤ w).
    absurd (none_is new (ap (λ o. put_all o [] []) (sym (put_outside held w (Some x) le)) ∙ e)))
    (cases_lt w (length held))

-- ---- two machines: what is good holds the same

module _ (to : Names) (old new : VProc) (Good : ℕ → Type 0)
    (kinds : (v : ℕ) → Good v → StandsFor (kind_of new (to v)) (kind_of old v)) where
  -- the new variable holds what the old one holds
  abbrev pub Both : Words → Words → ℕ → Type 0
  Both held there v = read (kind_of new) there (to v) ≡ read (kind_of old) held v

  both_first : (w v : ℕ) (vs : List ℕ) (held there : Words) (x : Value) → w < length held →
      to w < length there → (to v ≡ to w → v ≡ w) → Good v → Among v (w ∷ vs) ⊎ Both held there v →
      Among v vs ⊎ Both (slice_set held w (Some x)) (slice_set there (to w) (Some x)) v
  both_first w v vs held there x lt there_lt apart good was =
      ⊎_elim
      (λ (same : v ≡ w).
      let new_value : read (kind_of new) (slice_set there (to w) (Some x)) (to v) ≡
      valued (kind_of new (to v)) (Some x) =
      subst (λ u. read (kind_of new) (slice_set there (to w) (Some x)) (to u) ≡
      valued (kind_of new (to u)) (Some x)) (sym same)
      (read_put_same (kind_of new) there (to w) (Some x) there_lt) in
      let old_value : read (kind_of old) (slice_set held w (Some x)) v ≡ valued (kind_of old v)
      (Some x) =
      subst (λ u. read (kind_of old) (slice_set held w (Some x)) u ≡ valued (kind_of old u)
      (Some x)) (sym same) (read_put_same (kind_of old) held w (Some x) lt) in
      inr (new_value ∙ stands_valued (kind_of new (to v)) (kind_of old v) (Some x) (kinds v good)
      ∙ sym old_value))
      (λ (other : v ≢ w). later other was)
      (cases_eq v w)
    where
      later : v ≢ w → Among v (w ∷ vs) ⊎ Both held there v → Among v vs ⊎
          Both (slice_set held w (Some x)) (slice_set there (to w) (Some x)) v
      later other (inl (inl e)) = absurd (other e)
      later other (inl (inr m)) = inl m
      later other (inr b) = inr
          (read_put_other (kind_of new) there (to w) (to v) (Some x) (λ e. other (apart e)) ∙ b
          ∙ sym (read_put_other (kind_of old) held w v (Some x) other))

  pub put_both : (vs : List ℕ) (xs : List Value) (held after there : Words) → length held ≡
      length old.vars → length there ≡ length new.vars →
      ((w : ℕ) → Among w vs → w < length old.vars → to w < length new.vars) →
      ((w v : ℕ) → Among w vs → Good v → to v ≡ to w → v ≡ w) →
      ((v : ℕ) → Good v → Among v vs ⊎ Both held there v) →
      put_all (Some held) vs xs ≡ Some after →
      (beside : Words) × (put_all (Some there) (map to vs) xs ≡ Some beside) ×
      (length after ≡ length old.vars) × (length beside ≡ length new.vars) ×
      ((v : ℕ) → Good v → Both after beside v)
  put_both [] xs held after there l m range apart both e =
      let same : held ≡ after = some_same held after e in (
        there,
        refl,
        ap length (sym same) ∙ l,
        m,
        λ v good. subst (λ h. Both h there v) same
            (⊎_elim (λ (n : Among v []). absurd n) (λ (b : Both held there v). b) (both v good)),
      )
  put_both (w ∷ vs) [] held after there l m range apart both e = absurd (none_is after e)
  put_both (w ∷ vs) (x ∷ xs) held after there l m range apart both e =
      ⊎_elim
      (λ (lt : w < length held).
      let in_new : to w < length new.vars = range w (inl refl) (omega (arith, lt, l)) in
      let there_lt : to w < length there = omega (arith, in_new, m) in
      let held_long : length (slice_set held w (Some x)) ≡ length old.vars =
      length-set held w (Some x) ∙ l in
      let there_long : length (slice_set there (to w) (Some x)) ≡ length new.vars =
      length-set there (to w) (Some x) ∙ m in
      let more = put_both vs xs (slice_set held w (Some x)) after (slice_set there (to w) (Some x))
      held_long there_long
      (λ u n. range u (inr n))
      (λ u v n. apart u v (inr n))
      (λ v good. both_first w v vs held there x lt there_lt (apart w v (inl refl) good) good
      (both v good))
      (ap (λ o. put_all o vs xs) (sym (put_inside held w (Some x) lt)) ∙ e) in (
        more.0,
        ap (λ o. put_all o (map to vs) xs) (put_inside there (to w) (Some x) there_lt) ∙ more.1,
        more.2,
        more.3,
        more.4,
      ))
      (λ (le : length held ≤ w).
      absurd (none_is after (ap (λ o. put_all o vs xs) (sym (put_outside held w (Some x) le))
      ∙ e)))
      (cases_lt w (length held))
