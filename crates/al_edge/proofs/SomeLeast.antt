-- A strand that may go some way has one that costs least.
use Rattle.std.proofs.Common.{ℕ, zero, suc, ◌≡◌, ◌⊎◌, ◌+◌, ◌-◌, ◌<◌, ◌≤◌, Bool, true, false, eqb}
use Rattle.std.proofs.Common.{ℤ, pos, negsuc, ◌-ℤ◌, ◌≤ℤ◌, List, [], ◌∷◌, length, All, Option, None}
use Rattle.std.proofs.Common.{Some, slice_get, refl, sym, ap, subst, arith, inl, inr}
use Rattle.std.specs.Prelude.{IfSome}
use Rattle.std.specs.List.{list_all}
use Rattle.std.proofs.lemmas.Bool.{cases_lt, eqb-true, eq-eqb, false≢true}
use Rattle.std.proofs.lemmas.Int.{ints}
use Rattle.std.proofs.lemmas.List.Elements.{All-nil, All-cons, All-get_or}
use Rattle.std.proofs.lemmas.List.Sums.{AllPass-from_list_all, list_all-from_AllPass}
use Rattle.pra_base.specs.declared.ids.Place.{Place}
use Rattle.pra_base.specs.declared.ids.Place.TheVariants.{Eax, Mem}
use Rattle.pra_base.specs.Places.{number, all_places}
use Rattle.pra_base.proofs.PlaceNumbers.{number_below, place_at-number}
use Rattle.net_cost.specs.declared.weights.Weights.{Weights}
use Rattle.net_form.specs.declared.net.Net.{Net}
use Rattle.net_form.specs.declared.prices.Prices.{Prices}
use Rattle.net_form.specs.declared.routes.Ends.{Ends}
use Rattle.net_form.specs.Admitted.{strand_at, in_mask, stays_across}
use Rattle.net_form.specs.Flow.{Edge, same_start}
use Rattle.net_form.proofs.PlaceEquality.{same_start-true, same_start-refl}
use Rattle.net_laws.specs.Built.{IsBuilt}
use Rattle.net_dual.specs.Paths.{MayGo, IsLeastCost, Anywhere, path_edges, path_price}
use Rattle.net_dual.specs.Priced.{edge_price}
use Rattle.al_laws.specs.Greedy.{group_ends}
use Rattle.al_laws.proofs.EndsAnywhere.{anywhere_ends}
use Rattle.al_laws.proofs.HomePaths.{home_path}
use Rattle.al_edge.specs.OpenPlaces.{suits_all}
use Rattle.al_edge.specs.Weighed.{IsCostAt, IsLightest}
use Rattle.al_edge.proofs.OpenPlaces.{may_end, in_masks, memory_suits}

-- ---- the best of all lists of a length

-- one with P that is no worse than the old one, nor than any with P that has n places more
record Best (f : List Place → ℤ) (P : List Place → Type 0) (old : List Place) (n : ℕ)
    (more : List Place → List Place) : Type 0 where
  pub best : List Place
  pub has : P best
  pub no_more : f best ≤ℤ f old
  pub least : (qs : List Place) → length qs ≡ n → P (more qs) → f best ≤ℤ f (more qs)

-- z is no more than f of any with P that has place p and n more
abbrev IsBelow : (List Place → ℤ) → (List Place → Type 0) → ℕ → (List Place → List Place) → ℤ
    → Place → Type 0
IsBelow f P n more z p =
    (qs : List Place) → length qs ≡ n → P (more (p ∷ qs)) → z ≤ℤ f (more (p ∷ qs))

-- the same of n + 1 places more, where the first of them is among some
record BestOver (f : List Place → ℤ) (P : List Place → Type 0) (old : List Place) (n : ℕ)
    (more : List Place → List Place) (places : List Place) : Type 0 where
  pub best : List Place
  pub has : P best
  pub no_more : f best ≤ℤ f old
  pub least : All (IsBelow f P n more (f best)) places

either : (x y : ℤ) → (x ≤ℤ y) ⊎ (y ≤ℤ x)
either x y = by (y -ℤ x) refl
  where
    by : (d : ℤ) → d ≡ y -ℤ x → (x ≤ℤ y) ⊎ (y ≤ℤ x)
    by (pos n) is = inl (omega (arith, ints, is))
    by (negsuc n) is = inr (omega (arith, ints, is))

below : (x y z : ℤ) → x ≤ℤ y → y ≤ℤ z → x ≤ℤ z
below x y z one other = omega (arith, ints, one, other)

itself : (x : ℤ) → x ≤ℤ x
itself x = omega (arith, ints)

empty : (qs : List Place) → length qs ≡ 0 → [] ≡ qs
empty [] long = refl
empty (q ∷ qs) long = absurd (omega (arith, long))

module _ (f : List Place → ℤ) (P : List Place → Type 0)
    (decide : (ps : List Place) → P ps ⊎ (P ps → ⊥)) where
  -- the old one or the one with no place more
  no_place : (more : List Place → List Place) (old : List Place) → P old → Best f P old 0 more
  no_place more old has = elim (decide (more [])) as (λ _. Best f P old 0 more) [
    | inr none ↦ record {
      best = old;
      has = has;
      no_more = itself (f old);
      least = λ qs long other. absurd (none (subst (λ (qs : List Place). P (more qs))
          (sym (empty qs long)) other));
    }
    | inl new ↦ elim (either (f old) (f (more []))) as (λ _. Best f P old 0 more) [
      | inl less ↦ record {
        best = old;
        has = has;
        no_more = itself (f old);
        least = λ qs long other. subst (λ (qs : List Place). f old ≤ℤ f (more qs))
            (empty qs long) less;
      }
      | inr less ↦ record {
        best = more [];
        has = new;
        no_more = less;
        least = λ qs long other. subst (λ (qs : List Place). f (more []) ≤ℤ f (more qs))
            (empty qs long) (itself (f (more [])));
      }
    ]
  ]

  -- place after place
  over : (n : ℕ)
      → ((more : List Place → List Place) (old : List Place) → P old → Best f P old n more)
      → (more : List Place → List Place) (places old : List Place) → P old
      → BestOver f P old n more places
  over n each more [] old has = record {
    best = old;
    has = has;
    no_more = itself (f old);
    least = All-nil (IsBelow f P n more (f old));
  }
  over n each more (p ∷ ps) old has =
      let here = each (λ qs. more (p ∷ qs)) old has in
      let rest = over n each more ps here.best here.has in record {
        best = rest.best;
        has = rest.has;
        no_more = below (f rest.best) (f here.best) (f old) rest.no_more here.no_more;
        least = All-cons (IsBelow f P n more (f rest.best)) p ps
            (λ qs long other. below (f rest.best) (f here.best) (f (more (p ∷ qs))) rest.no_more
            (here.least qs long other)) rest.least;
      }

  -- and so whichever place is the first
  of_all : (n : ℕ) (more : List Place → List Place) (z : ℤ)
      → All (IsBelow f P n more z) all_places → (qs : List Place) → length qs ≡ suc n
      → P (more qs) → z ≤ℤ f (more qs)
  of_all n more z all [] long other = absurd (omega (arith, long))
  of_all n more z all (q ∷ qs) long other = subst (IsBelow f P n more z) (place_at-number q)
      (All-get_or (IsBelow f P n more z) all_places (number q) Eax (number_below q) all) qs
      (omega (arith, long)) other

  -- there is a best one
  best_of : (n : ℕ) (more : List Place → List Place) (old : List Place) → P old
      → Best f P old n more
  best_of zero more old has = no_place more old has
  best_of (suc n) more old has =
      let all = over n (best_of n) more all_places old has in record {
        best = all.best;
        has = all.has;
        no_more = all.no_more;
        least = of_all n more (f all.best) all.least;
      }

-- ---- whether a strand may go a way

by_test : (b : Bool) (P : Type 0) → (b ≡ true → P) → (P → b ≡ true) → P ⊎ (P → ⊥)
by_test true P yes_ no_ = inl (yes_ refl)
by_test false P yes_ no_ = inr (λ is. false≢true (no_ is))

both : (P Q : Type 0) → P ⊎ (P → ⊥) → Q ⊎ (Q → ⊥) → (P × Q) ⊎ ((P × Q) → ⊥)
both P Q (inr none) q = inr (λ is. none is.0)
both P Q (inl p) (inr none) = inr (λ is. none is.1)
both P Q (inl p) (inl q) = inl (p, q)

all_pass : {X : Type 0} (test : X → Bool) (xs : List X)
    → All (λ x. test x ≡ true) xs ⊎ (All (λ x. test x ≡ true) xs → ⊥)
all_pass test xs = by_test (list_all test xs) (All (λ x. test x ≡ true) xs)
    (AllPass-from_list_all test xs) (list_all-from_AllPass test xs)

is_there : (o at : Option Place)
    → IfSome o (λ p. at ≡ Some p) ⊎ (IfSome o (λ p. at ≡ Some p) → ⊥)
is_there None at = inl tt
is_there (Some p) at = by_test (same_start at (Some p)) (at ≡ Some p)
    (same_start-true at (Some p)) (λ is. subst (λ (o : Option Place). same_start o (Some p) ≡ true)
    (sym is) (same_start-refl (Some p)))

module _ (net : Net) (ends : Ends) (s : ℕ) where
  abbrev Goes : List Place → Type 0
  Goes ps = MayGo net ends Anywhere s ps

  may_go : (ps : List Place) → Goes ps ⊎ (Goes ps → ⊥)
  may_go ps =
      let t = strand_at net s in
      let long = by_test (eqb (t.first + length ps) (t.last + 1))
      (t.first + length ps ≡ t.last + 1) (eqb-true (t.first + length ps) (t.last + 1))
      (eq-eqb (t.first + length ps) (t.last + 1)) in
      let masks = all_pass (in_mask net) (path_edges net s ps) in
      let across = all_pass stays_across (path_edges net s ps) in
      let first = is_there ends.first (slice_get ps 0) in
      let last = is_there ends.last (slice_get ps (length ps - 1)) in
      elim (both _ _ long (both _ _ (both _ _ masks across) (both _ _ first last)))
      as (λ _. Goes ps ⊎ (Goes ps → ⊥)) [
        | inl is ↦ inl (record {
          path = record { long = is.0; masks = is.1.0.0; across = is.1.0.1 };
          has_ends = record { first = is.1.1.0; last = is.1.1.1 };
          is_clear = tt;
        })
        | inr none ↦ inr (λ goes. none (
          goes.path.long,
          (
            (goes.path.masks, goes.path.across),
            (goes.has_ends.first, goes.has_ends.last),
          ),
        ))
      ]

  -- from any way a least one
  pub some_least : (price : Edge → ℤ) (ps : List Place) → Goes ps
      → (z : ℤ) × IsLeastCost net price ends Anywhere s z
  some_least price ps goes =
      let found = best_of (path_price net price s) Goes may_go (length ps) (λ qs. qs) ps goes in (
        path_price net price s found.best,
        record {
          way = found.best;
          is_least = record {
            goes = found.has;
            least = λ qs other.
                let one = goes.path.long in
                let two = other.path.long in
                found.least qs (omega (arith, one, two)) other;
          };
          is = refl;
        },
      )

-- ---- a group that has memory alone

module _ (net : Net) (built : IsBuilt net) (w : Weights) (prices : Prices) (regs : List ℕ) (g : ℕ)
    (alone : (p : Place) → suits_all net regs g p ≡ true → p ≡ Mem) where
  cost_in_memory : (s : ℕ) → s < length net.strands → (z : ℤ) × IsCostAt net w prices g Mem s z
  cost_in_memory s lt =
      let home = home_path net built s lt in
      let way = anywhere_ends net built s lt (group_ends net g Mem s) (may_end net built g Mem
      (in_masks net regs g Mem (memory_suits net built regs g)) s lt) home.0 home.1 in
      some_least net (group_ends net g Mem s) s (edge_price net w prices) way.0 way.1

  cost_of : (s : ℕ) → (s < length net.strands) ⊎ (length net.strands ≤ s) → ℤ
  cost_of s (inl lt) = (cost_in_memory s lt).0
  cost_of s (inr none) = pos 0

  cost_is : (s : ℕ) (o : (s < length net.strands) ⊎ (length net.strands ≤ s))
      → s < length net.strands → IsCostAt net w prices g Mem s (cost_of s o)
  unfolding cost_of
  cost_is s (inl lt) there = (cost_in_memory s lt).1
  cost_is s (inr none) there = absurd (omega (arith, none, there))

  abbrev least_in_memory : ℕ → ℤ
  least_in_memory s = cost_of s (cases_lt s (length net.strands))

  -- where memory alone is open, it is the lightest place
  pub memory_alone : IsLightest net w prices (suits_all net regs g) g Mem
  memory_alone = record {
    least = λ q s. least_in_memory s;
    costs = λ q s opened lt has. subst (λ p. IsCostAt net w prices g p s (least_in_memory s))
        (sym (alone q opened)) (cost_is s (cases_lt s (length net.strands)) lt);
    opened = memory_suits net built regs g;
    first = λ q opened. inr (refl, let same = ap number (alone q opened) in omega (arith, same));
  }
