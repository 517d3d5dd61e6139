-- Strands are laid one after the other: none, one more, and all.
use Rattle.std.proofs.Common.{ℕ, ◌≡◌, ◌≢◌, ◌+◌, ◌<◌, ◌≤◌, Bool, true, false, ◌||◌, cond, eqb, List}
use Rattle.std.proofs.Common.{[], ◌++◌, length, get_or, set, slice_get, Some, IsPermutation, sum_by}
use Rattle.std.proofs.Common.{count_by, replicate, refl, sym, subst, ap, ◌∙◌, arith, inl, inr}
use Rattle.std.specs.List.{range_with_len}
use Rattle.std.proofs.lemmas.List.{length-map, length-replicate, get_or-map}
use Rattle.std.proofs.lemmas.Option.{slice_get_within}
use Rattle.std.proofs.lemmas.Bool.{cases_eq, eqb-true, both_ways}
use Rattle.pra_list.proofs.Among.{sum_zero}
use Rattle.pra_list.proofs.Options.{some_same}
use Rattle.pra_base.specs.declared.ids.Place.{Place}
use Rattle.pra_base.specs.declared.ids.Place.TheVariants.{Eax}
use Rattle.net_cost.specs.declared.weights.Weights.{Weights}
use Rattle.net_form.specs.declared.net.Net.{Net}
use Rattle.net_form.specs.declared.net.Strand.{Strand}
use Rattle.net_form.specs.declared.prices.Prices.{Prices}
use Rattle.net_form.specs.declared.routes.Plan.{Plan}
use Rattle.net_form.specs.declared.routes.Routes.{Routes}
use Rattle.net_form.specs.declared.taken.Taken.{Taken}
use Rattle.net_form.specs.Admitted.{strand_at, no_strand, IsAdmitted}
use Rattle.net_form.specs.Flow.{Edge, flow, AreRoutes}
use Rattle.net_form.specs.InUse.{UsesNothing, UsesOnce, Takes, StandsFor, pair_at, no_pair}
use Rattle.net_form.specs.Rooms.{IsRoomOf, some_routes}
use Rattle.net_form.proofs.EdgeCosts.{sum_by-plus}
use Rattle.net_form.proofs.TakenFlows.{apart_from_nothing, nothing_from_apart, once_together}
use Rattle.net_form.proofs.TakenFlows.{takes_more, count-append}
use Rattle.net_laws.specs.Built.{IsBuilt}
use Rattle.net_dual.specs.Paths.{MayGo, IsLeast, path_edges, path_in}
use Rattle.net_dual.specs.Priced.{edge_price}
use Rattle.net_dual.proofs.Strands.{has_places}
use Rattle.net_path.specs.Desk.{HasSizes}
use Rattle.net_path.proofs.Renewed.{renewed_at, renewed_other, renewed_sizes}
use Rattle.al_laws.specs.Laid.{AreLaid, AreLaidBefore, was_laid, plan_ends}
use Rattle.al_laws.specs.Parts.{ClearOf, part}
use Rattle.al_laws.proofs.Laid.{laid_admitted}
use Rattle.al_laws.proofs.Once.{path_register_once, path_pair_once}
use Rattle.al_laws.proofs.Parts.{numbers, path_sum, part_sum, sum_only, sum_by-agree}
use Rattle.al_iter.specs.LaidSoFar.{IsBlockedStrand, IsLaidSoFar}
use Rattle.al_iter.proofs.Before.{before_next, not_before}
use Rattle.al_iter.proofs.EachOnce.{below, others}
use Rattle.al_iter.proofs.SameUses.{apart_too, stands_too, marked_once}
use Rattle.al_iter.proofs.Unused.{least_past}

-- paths of the right sizes are routes
pub sized_routes : (net : Net) (routes : Routes) → IsBuilt net → HasSizes net routes
    → AreRoutes net routes
sized_routes net routes built sizes = has_places net.strands routes.places sizes.many (λ s lt.
    let masks = (built.formed.strands s no_strand lt).masks in
    let size = sizes.each s lt in
    omega (arith, masks, size))

-- parts of strands that go the same way
agree_row : (b : Bool) (x y : ℕ) → (b ≡ true → x ≡ y) → cond b x 0 ≡ cond b y 0
agree_row true x y h = h refl
agree_row false x y h = refl

pub parts_agree : (net : Net) (mine : ℕ → Bool) (one two : Routes) → AreRoutes net one
    → AreRoutes net two → ((s : ℕ) → mine s ≡ true → path_in one s ≡ path_in two s)
    → (g : Edge → ℕ) → sum_by g (part net mine one) ≡ sum_by g (part net mine two)
parts_agree net mine one two a b agree g = part_sum net one a mine g
    ∙ sum_by-agree (λ s. cond (mine s) (path_sum net g one s) 0)
    (λ s. cond (mine s) (path_sum net g two s) 0) (numbers net one) (λ k d lt.
    let s = get_or (numbers net one) k d in
    agree_row (mine s) (path_sum net g one s) (path_sum net g two s)
    (λ is. ap (λ ps. sum_by g (path_edges net s ps)) (agree s is)))
    ∙ sym (part_sum net two b mine g)

-- one strand joins a part
join_row : (b c d : Bool) (x y z : ℕ) → d ≡ (b || c) → (b ≡ true → c ≡ true → ⊥)
    → (b ≡ true → x ≡ y) → (c ≡ true → x ≡ z) → cond d x 0 ≡ cond c z 0 + cond b y 0
join_row true true d x y z is both one two = absurd (both refl refl)
join_row true false d x y z is both one two = let e = ap (λ b. cond b x 0) is in
    let o = one refl in omega (arith, e, o)
join_row false true d x y z is both one two = let e = ap (λ b. cond b x 0) is in
    let t = two refl in omega (arith, e, t)
join_row false false d x y z is both one two = let e = ap (λ b. cond b x 0) is in omega (arith, e)

module _ (net : Net) (built : IsBuilt net) (w : Weights) (prices : Prices) (plan : Plan)
    (order : List ℕ) (each : IsPermutation (range_with_len 0 (length net.strands)) order) (k s : ℕ)
    (is_next : slice_get order k ≡ Some s) (routes : Routes) (taken : Taken)
    (so_far : IsLaidSoFar net w prices plan order k routes taken) where
  pub lt : s < length net.strands
  lt = below (length net.strands) order each k s is_next

  pub is_blocked : ((ps : List Place)
      → MayGo net (plan_ends net plan s) (UsesNothing net taken) s ps → ⊥)
      → IsBlockedStrand net w prices plan order s taken
  is_blocked none = record {
    strand = lt;
    blocked = record {
      at = k;
      is_next = is_next;
      routes = routes;
      laid = so_far.laid;
      kept = so_far.stands;
      none = none;
    };
    room = so_far.room;
  }

  module _ (ps : List Place) (least : IsLeast net (edge_price net w prices) (plan_ends net plan s)
      (UsesNothing net taken) s ps) where
    pub size : length ps ≡ length (strand_at net s).masks
    size =
        let long = least.goes.path.long in
        let masks = (built.formed.strands s no_strand lt).masks in
        omega (arith, long, masks)

    abbrev now : Routes
    now = record { places = set routes.places s ps }

    was_routes : AreRoutes net routes
    was_routes = sized_routes net routes built so_far.sizes

    sizes : HasSizes net now
    sizes = renewed_sizes net routes now s ps so_far.sizes lt size refl

    are_routes : AreRoutes net now
    are_routes = sized_routes net now built sizes

    at : path_in now s ≡ ps
    at = renewed_at net routes now s ps so_far.sizes lt size refl

    other : (x : ℕ) → x ≢ s → path_in now x ≡ path_in routes x
    other = renewed_other net routes now s ps so_far.sizes lt size refl

    itself : (j : ℕ) → j ≤ k → was_laid order j s ≡ false
    itself j le = not_before (length net.strands) order each j k s le is_next

    differs : (j x : ℕ) → j ≤ k → was_laid order j x ≡ true → x ≢ s
    differs j x le before same = both_ways (was_laid order j x)
        (ap (was_laid order j) same ∙ itself j le) before

    -- what those before use is what it was
    before_same : (j : ℕ) → j ≤ k → (g : Edge → ℕ)
        → sum_by g (part net (was_laid order j) routes) ≡ sum_by g
        (part net (was_laid order j) now)
    before_same j le = parts_agree net (was_laid order j) routes now was_routes are_routes
        (λ x before. sym (other x (differs j x le before)))

    -- and with it there is its path
    joined : (g : Edge → ℕ) → sum_by g (part net (was_laid order (k + 1)) now)
        ≡ sum_by g (path_edges net s ps) + sum_by g (part net (was_laid order k) routes)
    joined g =
        let whole = part_sum net now are_routes (was_laid order (k + 1)) g in
        let rows = sum_by-agree
        (λ x. cond (was_laid order (k + 1) x) (path_sum net g now x) 0)
        (λ x. cond (eqb x s) (path_sum net g now x) 0
        + cond (was_laid order k x) (path_sum net g routes x) 0) (numbers net now)
        (λ i d in_. row (get_or (numbers net now) i d)) in
        let both = sum_by-plus (λ x. cond (eqb x s) (path_sum net g now x) 0)
        (λ x. cond (was_laid order k x) (path_sum net g routes x) 0) (numbers net now) in
        let one = sum_only (path_sum net g now) s 0 (length net.strands) (omega arith)
        (let l = lt in omega (arith, l)) in
        let own = ap (λ qs. sum_by g (path_edges net s qs)) at in
        let old = part_sum net routes was_routes (was_laid order k) g in
        omega (arith, whole, rows, both, one, own, old)
      where
        row : (x : ℕ) → cond (was_laid order (k + 1) x) (path_sum net g now x) 0
            ≡ cond (eqb x s) (path_sum net g now x) 0
            + cond (was_laid order k x) (path_sum net g routes x) 0
        row x = join_row (was_laid order k x) (eqb x s) (was_laid order (k + 1) x)
            (path_sum net g now x) (path_sum net g routes x) (path_sum net g now x)
            (before_next order k s x is_next)
            (λ before same. differs k x (omega arith) before (eqb-true x s same))
            (λ before. ap (λ qs. sum_by g (path_edges net x qs))
            (other x (differs k x (omega arith) before)))
            (λ _. refl)

    abbrev path : List Edge
    path = path_edges net s ps

    abbrev before : List Edge
    before = part net (was_laid order k) routes

    path_once : UsesOnce net path
    path_once = record {
      registers = λ n r. path_register_once net s n r ps;
      pairs = λ j in_. path_pair_once net s (pair_at net j) ps
          (λ same. built.two_variables j no_pair in_ (ap (λ r. (strand_at net r).var.0) same));
    }

    once : UsesOnce net (path ++ before)
    once = once_together net path before path_once
        (marked_once net taken before so_far.stands)
        (apart_from_nothing net taken path before so_far.stands least.goes.is_clear)

    pub stands_next : (new : Taken) → Takes net path taken new
        → StandsFor net new (part net (was_laid order (k + 1)) now)
    stands_next new takes = stands_too net (path ++ before)
        (part net (was_laid order (k + 1)) now)
        (λ p. let sum = joined (λ e. cond (p e) 1 0) in
        let parts = count-append p path before in
        omega (arith, sum, parts)) new
        (takes_more net taken new path before so_far.stands once takes)

    laid_at : (x : ℕ) → x ≡ s → IsLeast net (edge_price net w prices) (plan_ends net plan x)
        (ClearOf net (part net (was_laid order k) now)) x (path_in now x)
    laid_at x same = subst (λ x. IsLeast net (edge_price net w prices) (plan_ends net plan x)
        (ClearOf net (part net (was_laid order k) now)) x (path_in now x)) (sym same)
        (subst (IsLeast net (edge_price net w prices) (plan_ends net plan s)
        (ClearOf net (part net (was_laid order k) now)) s) (sym at)
        (least_past net (edge_price net w prices) (plan_ends net plan s) (UsesNothing net taken)
        (ClearOf net (part net (was_laid order k) now)) s
        (λ f nothing. apart_too net before (part net (was_laid order k) now)
        (λ p. before_same k (omega arith) (λ e. cond (p e) 1 0)) f
        (apart_from_nothing net taken f before so_far.stands nothing))
        (λ f apart. nothing_from_apart net taken f before so_far.stands
        (apart_too net (part net (was_laid order k) now) before
        (λ p. sym (before_same k (omega arith) (λ e. cond (p e) 1 0))) f apart)) ps least))

    laid_before : (j x : ℕ) → j < k → slice_get order j ≡ Some x
        → IsLeast net (edge_price net w prices) (plan_ends net plan x)
        (ClearOf net (part net (was_laid order j) now)) x (path_in now x)
    laid_before j x less is =
        let apart = others (length net.strands) order each j k x s less is is_next in
        subst (IsLeast net (edge_price net w prices) (plan_ends net plan x)
        (ClearOf net (part net (was_laid order j) now)) x) (sym (other x apart))
        (least_past net (edge_price net w prices) (plan_ends net plan x)
        (ClearOf net (part net (was_laid order j) routes))
        (ClearOf net (part net (was_laid order j) now)) x
        (λ f. apart_too net (part net (was_laid order j) routes)
        (part net (was_laid order j) now)
        (λ p. before_same j (omega (arith, less)) (λ e. cond (p e) 1 0)) f)
        (λ f. apart_too net (part net (was_laid order j) now)
        (part net (was_laid order j) routes)
        (λ p. sym (before_same j (omega (arith, less)) (λ e. cond (p e) 1 0))) f)
        (path_in routes x) (so_far.laid j x less is))

    pub laid_next : AreLaidBefore net w prices plan order (k + 1) now
    laid_next j x less is = elim (cases_eq j k) as (λ _. IsLeast net (edge_price net w prices)
        (plan_ends net plan x) (ClearOf net (part net (was_laid order j) now)) x
        (path_in now x)) [
          | inl here ↦ subst (λ i. IsLeast net (edge_price net w prices) (plan_ends net plan x)
              (ClearOf net (part net (was_laid order i) now)) x (path_in now x)) (sym here)
              (laid_at x (some_same x s (sym is ∙ ap (slice_get order) here ∙ is_next)))
          | inr not ↦ laid_before j x (omega (arith, less, not)) is
        ]

    pub so_far_next : (new : Taken) → IsRoomOf net new → Takes net path taken new
        → IsLaidSoFar net w prices plan order (k + 1) now new
    so_far_next new room takes = record {
      sizes = sizes;
      laid = laid_next;
      room = room;
      stands = stands_next new takes;
    }

-- ---- at the beginning and at the end

-- some place for each layer
pub some_sizes : (net : Net) → HasSizes net (some_routes net)
some_sizes net = record {
  many = length-map net.strands (λ (t : Strand). replicate (length t.masks) Eax);
  each = λ s lt. ap length (get_or-map (λ (t : Strand). replicate (length t.masks) Eax)
      net.strands s no_strand [] lt) ∙ length-replicate (length (strand_at net s).masks) Eax;
}

-- nobody is laid
module _ (net : Net) (built : IsBuilt net) (w : Weights) (prices : Prices) (plan : Plan)
    (order : List ℕ) (taken : Taken) (room : IsRoomOf net taken) (free : StandsFor net taken [])
  where
    nobody : (p : Edge → Bool) → count_by p [] ≡ count_by p
        (part net (was_laid order 0) (some_routes net))
    nobody p =
        let sum = part_sum net (some_routes net)
        (sized_routes net (some_routes net) built (some_sizes net)) (was_laid order 0)
        (λ e. cond (p e) 1 0) in
        let none = sum_zero (λ s. 0) 0 (length net.strands) (λ i le. refl) in
        sym (sum ∙ none)

    pub none_so_far : IsLaidSoFar net w prices plan order 0 (some_routes net) taken
    none_so_far = record {
      sizes = some_sizes net;
      laid = λ k s lt is. absurd (omega (arith, lt));
      room = room;
      stands = stands_too net [] (part net (was_laid order 0) (some_routes net)) nobody taken free;
    }

-- everybody is laid
module _ (net : Net) (built : IsBuilt net) (w : Weights) (prices : Prices) (plan : Plan)
    (order : List ℕ) (each : IsPermutation (range_with_len 0 (length net.strands)) order) (n : ℕ)
    (routes : Routes) (taken : Taken) (le : length order ≤ n)
    (so_far : IsLaidSoFar net w prices plan order n routes taken) where
  pub all_laid : AreLaid net w prices plan order routes
  all_laid k s is =
      let lt = slice_get_within order k s is in
      so_far.laid k s (omega (arith, lt, le)) is

  pub all_routes : AreRoutes net routes
  all_routes = sized_routes net routes built so_far.sizes

  pub all_admitted : length plan.places ≡ net.groups → IsAdmitted net (flow net routes)
  all_admitted many = laid_admitted net built w prices plan order routes many so_far.sizes.many each
      all_laid
