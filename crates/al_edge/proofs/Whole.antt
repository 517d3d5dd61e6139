-- When every strand has its path, the routes are admitted, and home routes.
use Rattle.std.proofs.Common.{ℕ, zero, suc, ◌≡◌, ◌+◌, ◌-◌, ◌%◌, ◌<◌, ◌≤◌, Bool, true, false, not}
use Rattle.std.proofs.Common.{◌&&◌, cond, eqb, leb, List, [], ◌∷◌, length, get_or, All, count_by}
use Rattle.std.proofs.Common.{slice_get, refl, sym, ap, ◌∙◌, subst, arith, inl, inr, ◌⊎◌, Option}
use Rattle.std.proofs.Common.{Some, None, slice_index}
use Rattle.std.specs.Prelude.{nat_lt}
use Rattle.std.specs.List.{prefix_len}
use Rattle.std.proofs.lemmas.Bool.{cases_Bool, cases_eq, cases_lt, and_cases, and_parts, and_from}
use Rattle.std.proofs.lemmas.Bool.{or_cases, or_parts, or_left, or_right, or_from, eqb-true, eq-eqb}
use Rattle.std.proofs.lemmas.Bool.{ne_eqb, lt-ltb, leb-true, le-leb, both_ways, not-true, not-false}
use Rattle.std.proofs.lemmas.Bool.{false_from_ne_true, true_from_ne_false}
use Rattle.std.proofs.lemmas.List.Elements.{All-nil, All-cons, All-append, All-weaker}
use Rattle.std.proofs.lemmas.List.Elements.{Contains-get_or}
use Rattle.std.proofs.lemmas.List.Folds.{list_any_at}
use Rattle.std.proofs.lemmas.Nat.Bits.{bit_at-lt}
use Rattle.std.proofs.lemmas.Option.{slice_get-get_or, slice_get_past}
use Rattle.pra_list.proofs.Options.{some_same, none_some}
use Rattle.pra_list.proofs.Counts.{bit}
use Rattle.pra_base.specs.declared.ids.Place.{Place}
use Rattle.pra_base.specs.declared.ids.Place.TheVariants.{Mem, Const}
use Rattle.pra_base.specs.Places.{number, allows, meet, is_register}
use Rattle.net_form.specs.declared.net.Strand.{Strand}
use Rattle.net_form.specs.declared.net.MemPair.{MemPair}
use Rattle.net_form.specs.declared.net.Tie.{Tie}
use Rattle.net_form.specs.declared.net.Net.{Net}
use Rattle.net_form.specs.declared.routes.Routes.{Routes}
use Rattle.net_form.specs.Flow.{Edge, edges, flow_from, flow, HasPlaces, AreRoutes, same_place}
use Rattle.net_form.specs.Flow.{same_start}
use Rattle.net_form.specs.Strands.{across}
use Rattle.net_form.specs.Admitted.{strand_at, no_strand, in_mask, stays_across, is_across}
use Rattle.net_form.specs.Admitted.{uses_bundle, uses_memory, KeepsTie, IsAdmitted}
use Rattle.net_form.specs.Cost.{route_at}
use Rattle.net_form.specs.Formed.{IsFormed, IsStrandOf}
use Rattle.net_form.proofs.PlaceEquality.{same_place-refl, same_place-true, same_start-refl}
use Rattle.net_form.proofs.RoutesConserve.{flow_conserves}
use Rattle.net_form.specs.InUse.{mark}
use Rattle.net_gate.proofs.Ends.{arrivals, tie_kept, two_ends, one_end, arrivals_small}
use Rattle.net_laws.specs.Homes.{HasRoom, is_there, passes, mask_in, allowed, has_home, left_stays}
use Rattle.net_laws.specs.Homes.{is_right, yields_at, yields, needs_register}
use Rattle.net_laws.proofs.Bits.{met_allows, allows_meet}
use Rattle.net_laws.proofs.Found.{first_that}
use Rattle.net_laws.proofs.Needs.{no_pair}
use Rattle.al_edge.specs.HomeRoutes.{IsAway, unfit, unfit_across, AreHome}
use Rattle.al_edge.specs.HomeRoutes as why
use Rattle.al_edge.specs.HomePaths.{IsHomePath}

has_places : (ts : List Strand) (rs : List (List Place)) → length rs ≡ length ts
    → ((x : ℕ) → x < length rs → (get_or ts x no_strand).first + length (get_or rs x []) ≡
    (get_or ts x no_strand).last + 1) → HasPlaces ts rs
has_places [] [] same long = tt
has_places [] (r ∷ rs) same long = absurd (omega (arith, same))
has_places (t ∷ ts) [] same long = absurd (omega (arith, same))
has_places (t ∷ ts) (r ∷ rs) same long = (
  long 0 (omega arith),
  has_places ts rs (omega (arith, same))
      (λ x lt. long (suc x) (omega (arith, lt))),
)

-- where place j of a path comes from
abbrev prev : Option Place → List Place → ℕ → Option Place
prev p ps zero = p
prev p ps (suc j) = Some (get_or ps j Mem)

abbrev edge : ℕ → ℕ → Option Place → Place → Edge
edge s l p q = record { strand = s; layer = l; from = p; to = q }

All-edges : (Q : Edge → Type 0) (s k : ℕ) (p : Option Place) (ps : List Place) →
    ((j : ℕ) → j < length ps → Q (edge s (k + j) (prev p ps j) (get_or ps j Mem))) →
    All Q (edges s k p ps)
All-edges Q s k p [] all = All-nil _
All-edges Q s k p (q ∷ qs) all = All-cons Q (edge s k p q) (edges s (suc k) (Some q) qs)
    (subst (λ n. Q (edge s n p q)) (let e : k + 0 ≡ k = omega arith in e) (all 0 (omega arith)))
    (All-edges Q s (suc k) (Some q) qs
    (λ j lt. subst (λ n. Q (edge s n (prev (Some q) qs j) (get_or qs j Mem)))
    (let e : k + suc j ≡ suc k + j = omega arith in e)
    (subst (λ o. Q (edge s (k + suc j) o (get_or qs j Mem))) (same j)
    (all (suc j) (omega (arith, lt))))))
  where
    same : (j : ℕ) → prev p (q ∷ qs) (suc j) ≡ prev (Some q) qs j
    same zero = refl
    same (suc j) = refl

All-flow : (Q : Edge → Type 0) (k : ℕ) (ts : List Strand) (rs : List (List Place)) → length rs ≡
    length ts
    → ((x : ℕ) → x < length rs →
    All Q (edges (k + x) (get_or ts x no_strand).first None (get_or rs x []))) →
    All Q (flow_from k ts rs)
All-flow Q k [] rs same all = All-nil _
All-flow Q k (t ∷ ts) [] same all = absurd (omega (arith, same))
All-flow Q k (t ∷ ts) (r ∷ rs) same all = All-append Q (edges k t.first None r)
    (flow_from (suc k) ts rs)
    (subst (λ n. All Q (edges n t.first None r)) (let e : k + 0 ≡ k = omega arith in e)
    (all 0 (omega arith)))
    (All-flow Q (suc k) ts rs (omega (arith, same))
    (λ x lt. subst (λ n. All Q (edges n (get_or ts x no_strand).first None (get_or rs x [])))
    (let e : k + suc x ≡ suc k + x = omega arith in e)
    (all (suc x) (omega (arith, lt)))))

module _ (net : Net) (formed : IsFormed net) (room : HasRoom net) (rs : List (List Place))
    (regs : List ℕ)
    (marks : (n r : ℕ) → mark regs n r ≡ count_by (uses_bundle net n r)
    (flow_from 0 net.strands rs))
    (placed : (x : ℕ) → x < length rs → IsHomePath net x (get_or rs x []))
    (every : length rs ≡ length net.strands) where
  abbrev routes : Routes
  routes = record { places = rs }

  abbrev t : ℕ → Strand
  t x = strand_at net x

  abbrev path : ℕ → List Place
  path x = get_or rs x []

  abbrev place : ℕ → ℕ → Place
  place x l = get_or (path x) (l - (t x).first) Mem

  pub are_routes : AreRoutes net routes
  are_routes = has_places net.strands rs every (λ x lt. (placed x lt).long)

  there_at : (x j : ℕ) → x < length rs → j < length (path x) → is_there (t x) ((t x).first + j) ≡
      true
  there_at x j lt j_lt =
      let long = (placed x lt).long in
      and_from (leb (t x).first ((t x).first + j)) (leb ((t x).first + j) (t x).last)
      (le-leb (t x).first ((t x).first + j) (omega arith))
      (le-leb ((t x).first + j) (t x).last (omega (arith, long, j_lt)))

  place_j : (x j : ℕ) → place x ((t x).first + j) ≡ get_or (path x) j Mem
  place_j x j = ap (λ n. get_or (path x) n Mem) (let e : (t x).first + j - (t x).first ≡ j =
      omega arith in e)

  inside_mask : (x l : ℕ) (p : Place) → allows (allowed (t x) l) (number p) ≡ true →
      allows (mask_in (t x) l) (number p) ≡ true
  inside_mask x l p h = elim (cases_Bool (passes (t x) l)) as (λ _. allows (mask_in (t x) l)
      (number p) ≡ true) [
        | inl is ↦ (met_allows (mask_in (t x) l) (mask_in (t x) (across l)) (number p)
            (sym (ap (λ b. allows (cond b (meet (mask_in (t x) l) (mask_in (t x) (across l)))
            (mask_in (t x) l)) (number p)) is) ∙ h)).0
        | inr no_ ↦ sym (ap (λ b. allows
            (cond b (meet (mask_in (t x) l) (mask_in (t x) (across l))) (mask_in (t x) l))
            (number p))
            no_) ∙ h
      ]

  zero_plus : (x : ℕ) → 0 + x ≡ x
  zero_plus x = omega arith

  all_masks : All (λ e. in_mask net e ≡ true) (flow net routes)
  all_masks = All-flow (λ e. in_mask net e ≡ true) 0 net.strands rs every (λ x lt.
      subst (λ n. All (λ e. in_mask net e ≡ true) (edges n (t x).first None (path x)))
      (sym (zero_plus x))
      (All-edges (λ e. in_mask net e ≡ true) x (t x).first None (path x) (λ j j_lt.
      inside_mask x ((t x).first + j) (get_or (path x) j Mem)
      (ap (λ p. allows (allowed (t x) ((t x).first + j)) (number p)) (sym (place_j x j))
      ∙ ((placed x lt).good ((t x).first + j) (there_at x j lt j_lt)).inside))))

  stays_edge : (x j : ℕ) → x < length rs → j < length (path x) →
      stays_across (edge x ((t x).first + j) (prev None (path x) j) (get_or (path x) j Mem)) ≡ true
  stays_edge x zero lt j_lt =
      or_right (not (is_across (edge x ((t x).first + 0) None (get_or (path x) 0 Mem)))) true refl
  stays_edge x (suc j) lt j_lt =
      let l = (t x).first + suc j in
      elim (cases_eq (l % 2) 0)
      as (λ _. stays_across (edge x l (Some (get_or (path x) j Mem))
      (get_or (path x) (suc j) Mem)) ≡ true) [
        | inr odd ↦ or_left (not (eqb (l % 2) 0))
            (same_place (get_or (path x) j Mem) (get_or (path x) (suc j) Mem))
            (ap not (ne_eqb (l % 2) 0 odd))
        | inl even ↦
            let back : across l ≡ (t x).first + j = ap (λ b. cond b (l + 1) (l - 1))
            (ne_eqb (l % 2) 1 (λ e. omega (arith, e, even)))
            ∙ (let e : l - 1 ≡ (t x).first + j = omega arith in e) in
            let pass : passes (t x) l ≡ true = and_from (nat_lt 0 l) (is_there (t x) (across l))
            (lt-ltb 0 l (omega arith))
            (ap (is_there (t x)) back ∙ there_at x j lt (omega (arith, j_lt))) in
            let same : get_or (path x) (suc j) Mem ≡ get_or (path x) j Mem = sym (place_j x (suc j))
            ∙ (placed x lt).stays l (there_at x (suc j) lt j_lt) pass ∙ ap (place x) back
            ∙ place_j x j in
            or_right (not (eqb (l % 2) 0))
            (same_place (get_or (path x) j Mem) (get_or (path x) (suc j) Mem))
            (ap (same_place (get_or (path x) j Mem)) same ∙ same_place-refl
            (get_or (path x) j Mem))
      ]

  all_across : All (λ e. stays_across e ≡ true) (flow net routes)
  all_across = All-flow (λ e. stays_across e ≡ true) 0 net.strands rs every (λ x lt.
      subst (λ n. All (λ e. stays_across e ≡ true) (edges n (t x).first None (path x)))
      (sym (zero_plus x))
      (All-edges (λ e. stays_across e ≡ true) x (t x).first None (path x)
      (λ j j_lt. stays_edge x j lt j_lt)))

  -- ---- places

  at_place : (x l : ℕ) → x < length rs → is_there (t x) l ≡ true → route_at net routes x l ≡
      Some (place x l)
  at_place x l lt there =
      let p = and_parts (leb (t x).first l) (leb l (t x).last) there in
      let lo = leb-true (t x).first l p.0 in
      let hi = leb-true l (t x).last p.1 in
      let long = (placed x lt).long in
      ap (λ b. cond b (slice_get (path x) (l - (t x).first)) None) p.0 ∙ slice_get-get_or (path x)
      (l - (t x).first) Mem (omega (arith, lo, hi, long))

  no_memory : (p : Place) → is_register (number p) ≡ true → p ≡ Mem → ⊥
  no_memory p is e = both_ways (is_register (number Mem)) refl
      (sym (ap (λ p. is_register (number p)) e) ∙ is)

  -- who is in memory does not need a register and is no constant
  in_memory : (x l : ℕ) → x < length rs → is_there (t x) l ≡ true → place x l ≡ Mem →
      (needs_register net x l ≡ false) × ((t x).constant ≡ false)
  in_memory x l lt there e =
      let g = (placed x lt).good l there in
      let no_need = false_from_ne_true (needs_register net x l)
      (λ need. no_memory (place x l) (g.moved need) e) in (
        no_need,
        false_from_ne_true (t x).constant
            (λ c. const_not (sym (g.kept no_need ∙ ap (λ b. cond b Const Mem) c) ∙ e)),
      )
    where
      const_not : Const ≡ Mem → ⊥
      const_not e = let h = ap number e in omega (arith, h)

  home_memory : (x l : ℕ) → x < length rs → is_there (t x) l ≡ true → needs_register net x l ≡
      false → (t x).constant ≡ false → place x l ≡ Mem
  home_memory x l lt there no_need c = ((placed x lt).good l there).kept no_need
      ∙ ap (λ b. cond b Const Mem) c

  not_both : (i : ℕ) (d : MemPair) → i < length net.pairs → let m = get_or net.pairs i d in
      place m.left m.left_layer ≡ Mem → place m.right m.right_layer ≡ Mem → ⊥
  not_both i d i_lt a b =
      let m : MemPair = get_or net.pairs i d in
      let free = room.pairs i d i_lt in
      let l_lt = free.left_strand in
      let r_lt = free.right_strand in
      let left = in_memory m.left m.left_layer (omega (arith, every, l_lt)) free.left a in
      let right = in_memory m.right m.right_layer (omega (arith, every, r_lt)) free.right b in
      let home = not-false (has_home (t m.left) m.left_layer)
      (or_parts (not (has_home (t m.left) m.left_layer))
      (not (t m.left).constant && yields net m.left m.left_layer) left.0).0 in
      let stays : left_stays net m ≡ true = and_from (not (t m.left).constant)
      (has_home (t m.left) m.left_layer) (ap not left.1) home in
      let here : (is_right m.right m.right_layer m && left_stays net m) ≡ true =
      and_from (is_right m.right m.right_layer m) (left_stays net m)
      (and_from (eqb m.right m.right) (eqb m.right_layer m.right_layer)
      (eq-eqb m.right m.right refl) (eq-eqb m.right_layer m.right_layer refl)) stays in
      let gives : yields_at net m.right m.right_layer ≡ true =
      list_any_at (λ p. is_right m.right m.right_layer p && left_stays net p) net.pairs i d i_lt
      here in
      both_ways (needs_register net m.right m.right_layer) right.0
      (or_right (not (has_home (t m.right) m.right_layer))
      (not (t m.right).constant && yields net m.right m.right_layer)
      (and_from (not (t m.right).constant) (yields net m.right m.right_layer) (ap not right.1)
      (or_left (yields_at net m.right m.right_layer)
      (passes (t m.right) m.right_layer && yields_at net m.right (across m.right_layer))
      gives)))

  arrives_at : (x l : ℕ) → x < length rs → is_there (t x) l ≡ true → (b : Bool) →
      same_start (route_at net routes x l) (Some Mem) ≡ b → (b ≡ true → place x l ≡ Mem)
  arrives_at x l lt there b is yes_ = same_place-true (place x l) Mem
      (sym (ap (λ o. same_start o (Some Mem)) (at_place x l lt there)) ∙ is ∙ yes_)

  pair_kept : (i : ℕ) (d : MemPair) → i < length net.pairs →
      count_by (uses_memory (get_or net.pairs i d)) (flow net routes) ≤ 1
  pair_kept i d i_lt =
      let m : MemPair = get_or net.pairs i d in
      let free = room.pairs i d i_lt in
      let l_lt = free.left_strand in
      let r_lt = free.right_strand in
      let a = arrivals net routes are_routes m.left m.left_layer Mem in
      let b = arrivals net routes are_routes m.right m.right_layer Mem in
      let small_a = arrivals_small net routes are_routes m.left m.left_layer Mem in
      let small_b = arrivals_small net routes are_routes m.right m.right_layer Mem in
      elim (cases_Bool (eqb m.left m.right && eqb m.left_layer m.right_layer))
      as (λ _. count_by (uses_memory m) (flow net routes) ≤ 1) [
        | inl same ↦ let one = one_end m same (flow net routes) in omega (arith, one, small_a)
        | inr two ↦
            let sum = two_ends m two (flow net routes) in
            elim (cases_Bool (same_start (route_at net routes m.left m.left_layer) (Some Mem)))
            as (λ _. count_by (uses_memory m) (flow net routes) ≤ 1) [
              | inr no_ ↦ let z = ap bit no_ in omega (arith, sum, a, z, small_b)
              | inl left ↦ elim (cases_Bool
                  (same_start (route_at net routes m.right m.right_layer) (Some Mem)))
                  as (λ _. count_by (uses_memory m) (flow net routes) ≤ 1) [
                    | inr no_ ↦ let z = ap bit no_ in omega (arith, sum, b, z, small_a)
                    | inl right ↦ absurd (not_both i d i_lt
                        (arrives_at m.left m.left_layer (omega (arith, every, l_lt)) free.left true
                        left
                        refl) (arrives_at m.right m.right_layer (omega (arith, every, r_lt))
                        free.right
                        true right refl))
                  ]
            ]
      ]

  tie_at : (i : ℕ) (d : Tie) → i < length net.ties → KeepsTie net (flow net routes)
      (get_or net.ties i d)
  tie_at i d i_lt =
      let tie : Tie = get_or net.ties i d in
      let from_lt = formed.ties i d i_lt in
      let to_lt = room.targets i d i_lt in
      let f = formed.strands tie.from no_strand from_lt in
      let g = formed.strands tie.to no_strand to_lt in
      let ends = and_from (leb (t tie.from).first (t tie.from).last)
      (leb (t tie.from).last (t tie.from).last)
      (le-leb (t tie.from).first (t tie.from).last f.order)
      (le-leb (t tie.from).last (t tie.from).last (omega arith)) in
      let starts = and_from (leb (t tie.to).first (t tie.to).first)
      (leb (t tie.to).first (t tie.to).last)
      (le-leb (t tie.to).first (t tie.to).first (omega arith))
      (le-leb (t tie.to).first (t tie.to).last g.order) in
      let a = at_place tie.from (t tie.from).last (omega (arith, every, from_lt)) ends
      ∙ ap Some (((placed tie.from (omega (arith, every, from_lt))).good (t tie.from).last
      ends).kept (room.exits i d i_lt)) in
      let b = at_place tie.to (t tie.to).first (omega (arith, every, to_lt)) starts
      ∙ ap Some (((placed tie.to (omega (arith, every, to_lt))).good (t tie.to).first
      starts).kept (room.entries i d i_lt)) in
      let same : route_at net routes tie.from (t tie.from).last ≡ route_at net routes tie.to
      (t tie.to).first = a ∙ ap (λ c. Some (cond c Const Mem)) (room.alike i d i_lt) ∙ sym b in
      tie_kept net routes are_routes tie
      (ap (λ o. same_start o (route_at net routes tie.to (t tie.to).first)) same
      ∙ same_start-refl (route_at net routes tie.to (t tie.to).first))

  pub admitted : IsAdmitted net (flow net routes)
  admitted = record {
    conserves = flow_conserves net.strands rs
        (All-weaker (IsStrandOf net.blocks) (λ (u : Strand). u.first ≤ u.last) (λ u is. is.order)
        net.strands formed.strands) are_routes;
    masks = all_masks;
    across = all_across;
    bundles = λ n r. let m = marks n r in let small = bit_at-lt (slice_index regs n) r in
        omega (arith, m, small);
    pairs = pair_kept;
    ties = tie_at;
  }

  -- ---- home

  record IsThere (x l : ℕ) (p : Place) : Type 0 where
    within : x < length rs
    there : is_there (t x) l ≡ true
    is : p ≡ place x l

  where_is : (x l : ℕ) (p : Place) → route_at net routes x l ≡ Some p → IsThere x l p
  where_is x l p at = elim (cases_Bool (leb (t x).first l)) as (λ _. IsThere x l p) [
    | inr early ↦ absurd (none_some
        (sym (ap (λ b. cond b (slice_get (path x) (l - (t x).first)) None) early) ∙ at))
    | inl after ↦
        let got : slice_get (path x) (l - (t x).first) ≡ Some p =
        sym (ap (λ b. cond b (slice_get (path x) (l - (t x).first)) None) after) ∙ at in
        elim (cases_lt (l - (t x).first) (length (path x))) as (λ _. IsThere x l p) [
          | inr past ↦ absurd (none_some (sym (slice_get_past (path x) (l - (t x).first) past)
              ∙ got))
          | inl lt ↦ elim (cases_lt x (length rs)) as (λ _. IsThere x l p) [
            | inr none ↦ absurd (let z = ap length (past_end rs x none) in omega (arith, z, lt))
            | inl x_lt ↦
                let lo = leb-true (t x).first l after in
                let long = (placed x x_lt).long in record {
                  within = x_lt;
                  there = and_from (leb (t x).first l) (leb l (t x).last) after
                      (le-leb l (t x).last (omega (arith, lo, lt, long)));
                  is = some_same p (place x l)
                      (sym got ∙ slice_get-get_or (path x) (l - (t x).first) Mem lt);
                }
          ]
        ]
  ]
    where
      past_end : (rs : List (List Place)) (x : ℕ) → length rs ≤ x → get_or rs x [] ≡ []
      past_end [] x le = refl
      past_end (r ∷ rs) zero le = absurd (omega (arith, le))
      past_end (r ∷ rs) (suc x) le = past_end rs x (omega (arith, le))

  away_unfit : (x l : ℕ) → (t x).constant ≡ false → has_home (t x) l ≡ false → IsAway net routes x l
  away_unfit x l c no_ =
      let lacks : allows (allowed (t x) l) 6 ≡ false =
      sym (ap (λ b. allows (allowed (t x) l) (number (cond b Const Mem))) c) ∙ no_ in
      elim (cases_Bool (passes (t x) l)) as (λ _. IsAway net routes x l) [
        | inr alone ↦ unfit (sym
            (ap (λ b. allows (cond b (meet (mask_in (t x) l) (mask_in (t x) (across l)))
            (mask_in (t x) l)) 6) alone) ∙ lacks)
        | inl pass ↦
            elim (and_cases (allows (mask_in (t x) l) 6) (allows (mask_in (t x) (across l)) 6)
            (sym (allows_meet (mask_in (t x) l) (mask_in (t x) (across l)) 6)
            ∙ sym (ap (λ b. allows (cond b (meet (mask_in (t x) l) (mask_in (t x) (across l)))
            (mask_in (t x) l)) 6) pass) ∙ lacks)) as (λ _. IsAway net routes x l) [
              | inl here ↦ unfit here
              | inr beyond ↦ unfit_across pass beyond
            ]
      ]

  away_yields : (x l k : ℕ) → (k ≡ l) ⊎ ((passes (t x) l ≡ true) × (k ≡ across l)) →
      yields_at net x k ≡ true → IsAway net routes x l
  away_yields x l k side some = by (prefix_len (λ m. not (test m)) net.pairs) f.0 f.1
    where
      test : MemPair → Bool
      test m = is_right x k m && left_stays net m

      f : (prefix_len (λ m. not (is_right x k m && left_stays net m)) net.pairs < length net.pairs)
          × ((is_right x k (get_or net.pairs
          (prefix_len (λ m. not (is_right x k m && left_stays net m)) net.pairs) no_pair)
          && left_stays net (get_or net.pairs
          (prefix_len (λ m. not (is_right x k m && left_stays net m)) net.pairs) no_pair)) ≡
          true)
      f = first_that (λ m. is_right x k m && left_stays net m) net.pairs no_pair some

      by : (i : ℕ) → i < length net.pairs →
          (is_right x k (get_or net.pairs i no_pair) && left_stays net (get_or net.pairs i no_pair))
          ≡ true → IsAway net routes x l
      by i i_lt is =
          let m : MemPair = get_or net.pairs i no_pair in
          let parts = and_parts (is_right x k m) (left_stays net m) is in
          let right = and_parts (eqb m.right x) (eqb m.right_layer k) parts.0 in
          let free = room.pairs i no_pair i_lt in
          let l_lt = free.left_strand in
          let stays = and_parts (not (t m.left).constant) (has_home (t m.left) m.left_layer)
          parts.1 in
          let layer = eqb-true m.right_layer k right.1 in
          why.yields m (Contains-get_or net.pairs i no_pair i_lt) (eqb-true m.right x right.0)
          (subst (λ k. (k ≡ l) ⊎ ((passes (t x) l ≡ true) × (k ≡ across l))) (sym layer) side)
          (at_place m.left m.left_layer (omega (arith, every, l_lt)) free.left
          ∙ ap Some (home_memory m.left m.left_layer (omega (arith, every, l_lt)) free.left
          (free.stays parts.1) (not-true (t m.left).constant stays.0)))

  pub are_home : AreHome net routes
  are_home = record {
    values = λ x l p at c apart.
        let w = where_is x l p at in
        let g = (placed x w.within).good l w.there in
        let need = true_from_ne_false (needs_register net x l)
        (λ no_. apart (w.is ∙ g.kept no_ ∙ ap (λ b. cond b Const Mem) c)) in
        elim (or_cases (not (has_home (t x) l)) (not (t x).constant && yields net x l) need)
        as (λ _. IsAway net routes x l) [
          | inl not_home ↦ away_unfit x l c (not-true (has_home (t x) l) not_home)
          | inr both ↦ elim (or_cases (yields_at net x l)
              (passes (t x) l && yields_at net x (across l))
              (and_parts (not (t x).constant) (yields net x l) both).1)
              as (λ _. IsAway net routes x l) [
                | inl here ↦ away_yields x l l (inl refl) here
                | inr beyond ↦ let q = and_parts (passes (t x) l) (yields_at net x (across l))
                    beyond in
                    away_yields x l (across l) (inr (q.0, refl)) q.1
              ]
        ];
    constants = λ x l p at c has.
        let w = where_is x l p at in
        let g = (placed x w.within).good l w.there in
        let home : has_home (t x) l ≡ true =
        ap (λ b. allows (allowed (t x) l) (number (cond b Const Mem))) c ∙ has in
        let no_need : needs_register net x l ≡ false = or_from (not (has_home (t x) l))
        (not (t x).constant && yields net x l) (ap not home)
        (ap (λ b. not b && yields net x l) c) in
        w.is ∙ g.kept no_need ∙ ap (λ b. cond b Const Mem) c;
  }
