-- The extras of a layer, each paid at its place.
use Rattle.std.proofs.Common.{ℕ, ◌≡◌, ◌≢◌, ◌⊎◌, ◌<◌, ◌≤◌, ◌+◌, ◌*◌, false, ℤ, pos, List}
use Rattle.std.proofs.Common.{get_or, slice_get, Some, None, sym, subst, inl, inr, arith}
use Rattle.std.proofs.lemmas.Bool.{cases_eq, eq-eqb, ne_eqb}
use Rattle.pra_base.specs.declared.ids.Place.{Place}
use Rattle.pra_base.specs.Places.{number}
use Rattle.net_cost.specs.declared.weights.Weights.{Weights}
use Rattle.net_form.specs.declared.net.Extra.{Extra}
use Rattle.net_form.specs.declared.net.Net.{Net}
use Rattle.net_form.specs.Cost.{is_extra_at, extra_cost}
use Rattle.net_form.specs.Ordered.{AreExtras, first_extra, extra_there}
use Rattle.net_form.proofs.ExtrasInOrder.{all_before, none_costs, one_costs, nowhere}
use Rattle.net_form.proofs.ExtrasInOrder.{earlier_not_there, still_none}
use Rattle.net_path.specs.declared.cells.Spot.{Spot}
use Rattle.net_path.specs.Cells.{spot_extras, IsCellWith}

module _ (net : Net) (w : Weights) (spot : Spot) (places : ℕ) (caps : List ℕ) where
  -- it is paid, or none of the first n extras is at the place
  abbrev pub IsSoFar : ℕ → Place → ℤ → Type 0
  IsSoFar n place z =
      IsCellWith places caps (spot_extras net w spot place) place z
      ⊎ (IsCellWith places caps (pos 0) place z × ((k : ℕ) (d : Extra) → k < n
      → is_extra_at spot.strand spot.layer place (get_or net.extras k d) ≡ false))

  module _ (are : AreExtras net) (place : Place) where
    pub none_so_far : (n : ℕ) (z : ℤ) → n ≡ first_extra net spot.strand spot.layer
        → IsCellWith places caps (pos 0) place z → IsSoFar n place z
    none_so_far n z first cell = inr (
      cell,
      λ k d lt.
          nowhere spot.strand spot.layer place (get_or net.extras k d)
          (earlier_not_there spot.strand spot.layer (get_or net.extras k d)
          (all_before net are spot.strand spot.layer k d (omega (arith, lt, first)))),
    )

    pub one_more : (n : ℕ) (x : Extra) (old z : ℤ)
        → extra_there spot.strand spot.layer (slice_get net.extras n) ≡ Some x
        → IsSoFar n place old → (number place ≢ number x.place → z ≡ old)
        → (number x.place ≡ number place
        → IsCellWith places caps (pos (1024 * extra_cost net w x)) place z)
        → IsSoFar (n + 1) place z
    one_more n x old z is so_far others here = elim (cases_eq (number x.place) (number place))
        as (λ _. IsSoFar (n + 1) place z) [
          | inl same ↦ inl (subst (λ (e : ℕ). IsCellWith places caps (pos (1024 * e)) place z)
              (one_costs net are spot.strand spot.layer place w n x is
              (eq-eqb (number x.place) (number place) same)) (here same))
          | inr other ↦ subst (IsSoFar (n + 1) place) (sym (others (λ e. other (sym e))))
              (elim so_far as (λ _. IsSoFar (n + 1) place old) [
                | inl paid ↦ inl paid
                | inr none ↦ inr (
                  none.0,
                  still_none net are spot.strand spot.layer place w n x is
                      (ne_eqb (number x.place) (number place) other) none.1,
                )
              ])
        ]

    pub all_paid : (n : ℕ) (z : ℤ) → first_extra net spot.strand spot.layer ≤ n
        → extra_there spot.strand spot.layer (slice_get net.extras n) ≡ None
        → IsSoFar n place z → IsCellWith places caps (spot_extras net w spot place) place z
    all_paid n z first end so_far = elim so_far
        as (λ _. IsCellWith places caps (spot_extras net w spot place) place z) [
          | inl paid ↦ paid
          | inr none ↦ subst (λ (e : ℕ). IsCellWith places caps (pos (1024 * e)) place z)
              (none_costs net are spot.strand spot.layer place w n first none.1 end) none.0
        ]
