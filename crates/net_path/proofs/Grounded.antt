-- The terrain of a strand is as its ways say, and where a path may begin.
use Rattle.std.proofs.Common.{cond, ℕ, ◌≡◌, ◌+◌, ◌*◌, ◌%◌, Bool, true, false, ◌&&◌, ◌||◌, not, ℤ}
use Rattle.std.proofs.Common.{pos, List, [], length, Option, Some, None, refl, sym, subst, ap, ◌∙◌}
use Rattle.std.proofs.Common.{arith}
use mathlib.Core.List.{reverse}
use Rattle.std.proofs.lemmas.Int.{ints}
use Rattle.std.proofs.lemmas.Bool.{eq-eqb, ne_eqb}
use Rattle.pra_base.specs.declared.ids.Place.{Place}
use Rattle.pra_base.specs.Places.{number, has_register}
use Rattle.pra_base.proofs.PlaceNumbers.{number_below}
use Rattle.pl_moves.specs.Crossbar.{only_if, constant_event, crossbar}
use Rattle.net_cost.specs.declared.weights.Weights.{Weights}
use Rattle.net_cost.specs.Weights.{IsValid}
use Rattle.net_form.specs.declared.net.Net.{Net}
use Rattle.net_form.specs.declared.prices.Prices.{Prices}
use Rattle.net_form.specs.declared.routes.Ends.{Ends}
use Rattle.net_form.specs.Admitted.{strand_at, is_across}
use Rattle.net_form.specs.Cost.{depth_at, events_weight}
use Rattle.net_form.specs.Flow.{Edge, same_place}
use Rattle.net_laws.specs.Built.{IsBuilt}
use Rattle.net_dual.specs.Priced.{AreInRange}
use Rattle.net_dual.proofs.Small.{cost_small}
use Rattle.net_path.specs.declared.crossbar.Steps.{Steps}
use Rattle.net_path.specs.declared.crossbar.Ways.{Ways}
use Rattle.net_path.specs.declared.path.Choice.{Choice}
use Rattle.net_path.specs.Choices.{IsBestChoice, IsGoodStart}
use Rattle.net_path.specs.Grounds.{edge, layer, terrain}
use Rattle.net_path.specs.declared.crossbar.Row.{Row}
use Rattle.net_path.specs.Rests.{Terrain, IsLowest, AreRows}
use Rattle.net_path.specs.Rows.{IsGround, AreCells, slack_at}
use Rattle.net_path.specs.Ways.{AreWays, start_price, step_price, step_by}
use Rattle.net_path.proofs.Steps.{step_is_way, one}
use Rattle.net_path.proofs.Turned.{turned, turned_ground, turned_cells}
use Rattle.net_path.proofs.WholeCells.{there_about}

module _ (net : Net) (built : IsBuilt net) (prices : Prices) (range : AreInRange net prices)
    (w : Weights) (valid : IsValid w) (ends : Ends) (free : Edge → Bool)
    (s n : ℕ) (long : (strand_at net s).first + n ≡ (strand_at net s).last + 1) (ways : Ways)
    (are : AreWays w (depth_at net s) net.near ways) where
  abbrev t : Terrain
  t = terrain net w prices ends free s

  abbrev e : ℕ → Option Place → Place → Edge
  e k p q = edge s (layer net s k) p q

  across_true : (k : ℕ) (p : Option Place) (q : Place) → (layer net s k) % 2 ≡ 0
      → is_across (e k p q) ≡ true
  across_true k p q even = eq-eqb (layer net s k % 2) 0 even

  across_false : (k : ℕ) (p : Option Place) (q : Place) → (layer net s k) % 2 ≡ 1
      → is_across (e k p q) ≡ false
  across_false k p q odd = ne_eqb (layer net s k % 2) 0 (λ h. omega (arith, odd, h))

  pub grounded : IsGround (step_price ways) (strand_at net s).first n t
  grounded = record {
    across = λ k p q even. (
      ap (λ (b : Bool). not b || same_place p q) (across_true k (Some p) q even),
      ap (λ (b : Bool). pos (1024 * events_weight w (depth_at net s)
          (cond b [] (crossbar net.near (number p) (number q))))) (across_true k (Some p) q even),
    );
    crossbar = λ k p q odd. (
      ap (λ (b : Bool). not b || same_place p q) (across_false k (Some p) q odd),
      ap (λ (b : Bool). pos (1024 * events_weight w (depth_at net s)
          (cond b [] (crossbar net.near (number p) (number q))))) (across_false k (Some p) q odd)
          ∙ step_is_way w (depth_at net s) net.near ways are (number p) (number q),
    );
    way_low = λ k p q. omega (arith, ints);
    way_high = λ k p q. let small = cost_small net built w valid (e k p q) in
        omega (arith, ints, small);
    cells = λ k q lt opened. there_about net built prices range w valid s n k q lt long;
  }

  -- ---- the start
  made : (b : Bool) → pos (1024 * events_weight w (depth_at net s) (only_if b constant_event))
      ≡ cond b ways.set (pos 0)
  made true = one w (depth_at net s) net.near ways are constant_event ∙ sym are.set
  made false = refl

  start_way : (q : Place) → t.way 0 None q ≡ start_price ways (strand_at net s).constant (number q)
  start_way q = made ((strand_at net s).constant && has_register (number q))

  start_comes : (q : Place) → t.may_come 0 None q ≡ true
  start_comes q = by (is_across (e 0 None q)) where
    by : (b : Bool) → (not b || true) ≡ true
    by true = refl
    by false = refl

  pub best_of_start : (costs : List ℤ) (start : Choice)
      → IsBestChoice (start_price ways (strand_at net s).constant) costs 14 start
      → IsLowest t 0 None costs start.debt.cost
  best_of_start costs start best = record {
    below = λ q comes. let way = start_way q in let b = best.below (number q) (number_below q) in
        omega (arith, ints, way, b);
    met = record {
      place = start.place;
      comes = start_comes start.place;
      met = let way = start_way start.place in let is = best.is in omega (arith, ints, way, is);
    };
  }

  pub good_start : (costs : List ℤ) (start : Choice)
      → IsBestChoice (start_price ways (strand_at net s).constant) costs 14 start
      → IsGoodStart t costs start.place
  good_start costs start best = record {
    comes = start_comes start.place;
    best = subst (λ (z : ℤ). IsLowest t 0 None costs z) (let way = start_way start.place in
        let is = best.is in omega (arith, ints, way, is)) (best_of_start costs start best);
  }

-- steps that cost the same
pub same_ground : (a b : ℕ → ℕ → ℤ) (first n : ℕ) (t : Terrain) → ((p q : ℕ) → a p q ≡ b p q)
    → IsGround b first n t → IsGround a first n t
same_ground a b first n t same ground = record {
  across = ground.across;
  crossbar = λ k p q odd. let g = ground.crossbar k p q odd in
      (g.0, g.1 ∙ sym (same (number p) (number q)));
  way_low = ground.way_low;
  way_high = ground.way_high;
  cells = ground.cells;
}

-- the same, with what the code read of the network
pub record Ready (net : Net) (prices : Prices) (w : Weights) (ends : Ends) (free : Edge → Bool)
    (s n : ℕ) (ways : Ways) (row : ℕ → List ℤ) (start : Choice) : Type 0 where
  pub ground : IsGround (step_price ways) (strand_at net s).first n
      (terrain net w prices ends free s)
  pub rows : AreRows (terrain net w prices ends free s) row (slack_at n) n 0
  pub best : IsLowest (terrain net w prices ends free s) 0 None (row 0) start.debt.cost
  pub good : IsGoodStart (terrain net w prices ends free s) (row 0) start.place

pub ready : (net : Net) (built : IsBuilt net) (prices : Prices) (range : AreInRange net prices)
    (w : Weights) (valid : IsValid w) (ends : Ends) (free : Edge → Bool)
    (s n : ℕ) (long : (strand_at net s).first + n ≡ (strand_at net s).last + 1) (ways : Ways)
    (steps : Steps) (depth first m : ℕ) (constant : Bool) (row : ℕ → List ℤ) (cells : List Row)
    (start : Choice) → ((p q : ℕ) → step_by steps p q ≡ step_price ways p q)
    → AreWays w depth net.near ways → depth ≡ depth_at net s → first ≡ (strand_at net s).first
    → m ≡ n → constant ≡ (strand_at net s).constant
    → AreCells (terrain net w prices ends free s) cells
    → ((t : Terrain) → IsGround (step_by steps) first m t → AreCells t cells
    → AreRows t row (slack_at m) m 0)
    → IsBestChoice (start_price ways constant) (row 0) 14 start
    → Ready net prices w ends free s n ways row start
ready net built prices range w valid ends free s n long ways steps depth first m constant row cells
    start same are is_depth is_first is_n is_constant paid rows best =
    let t = terrain net w prices ends free s in
    let ways_are = subst (λ (d : ℕ). AreWays w d net.near ways) is_depth are in
    let ground = grounded net built prices range w valid ends free s n long ways ways_are in
    let ground2 : IsGround (step_by steps) first m t =
    subst (λ (k : ℕ). IsGround (step_by steps) first k t) (sym is_n)
    (subst (λ (f : ℕ). IsGround (step_by steps) f n t) (sym is_first)
    (same_ground (step_by steps) (step_price ways) (strand_at net s).first n t same ground)) in
    let chosen =
    subst (λ (b : Bool). IsBestChoice (start_price ways b) (row 0) 14 start) is_constant best in
    record {
      ground = ground;
      rows = subst (λ (k : ℕ). AreRows t row (slack_at k) k 0) is_n (rows t ground2 paid);
      best = best_of_start net built prices range w valid ends free s n long ways ways_are
          (row 0) start chosen;
      good = good_start net built prices range w valid ends free s n long ways ways_are
          (row 0) start chosen;
    }

-- the rows alone, and what it costs to begin at a place
pub record ReadyRows (net : Net) (prices : Prices) (w : Weights) (ends : Ends) (free : Edge → Bool)
    (s n : ℕ) (ways : Ways) (constant : Bool) (row : ℕ → List ℤ) : Type 0 where
  pub rows : AreRows (terrain net w prices ends free s) row (slack_at n) n 0
  pub way : (q : Place) → (terrain net w prices ends free s).way 0 None q
      ≡ start_price ways constant (number q)

pub rows_ready : (net : Net) (built : IsBuilt net) (prices : Prices) (range : AreInRange net prices)
    (w : Weights) (valid : IsValid w) (ends : Ends) (free : Edge → Bool)
    (s n : ℕ) (long : (strand_at net s).first + n ≡ (strand_at net s).last + 1) (ways : Ways)
    (steps : Steps) (depth first m : ℕ) (constant : Bool) (row : ℕ → List ℤ) (cells : List Row)
    → ((p q : ℕ) → step_by steps p q ≡ step_price ways p q) → AreWays w depth net.near ways →
    depth ≡ depth_at net s → first ≡ (strand_at net s).first
    → m ≡ n → constant ≡ (strand_at net s).constant
    → AreCells (terrain net w prices ends free s) cells
    → ((t : Terrain) → IsGround (step_by steps) first m t → AreCells t cells
    → AreRows t row (slack_at m) m 0)
    → ReadyRows net prices w ends free s n ways constant row
rows_ready net built prices range w valid ends free s n long ways steps depth first m constant row
    cells same are is_depth is_first is_n is_constant paid rows =
    let t = terrain net w prices ends free s in
    let ways_are = subst (λ (d : ℕ). AreWays w d net.near ways) is_depth are in
    let ground = grounded net built prices range w valid ends free s n long ways ways_are in
    let ground2 : IsGround (step_by steps) first m t =
    subst (λ (k : ℕ). IsGround (step_by steps) first k t) (sym is_n)
    (subst (λ (f : ℕ). IsGround (step_by steps) f n t) (sym is_first)
    (same_ground (step_by steps) (step_price ways) (strand_at net s).first n t same ground)) in
    record {
      rows = subst (λ (k : ℕ). AreRows t row (slack_at k) k 0) is_n (rows t ground2 paid);
      way = λ q. start_way net built prices range w valid ends free s n long ways ways_are q
          ∙ ap (λ (b : Bool). start_price ways b (number q)) (sym is_constant);
    }

-- the rows of a strand that is no constant and is read against the order of its layers
pub rows_back : (net : Net) (built : IsBuilt net) (prices : Prices) (range : AreInRange net prices)
    (w : Weights) (valid : IsValid w) (ends : Ends) (free : Edge → Bool)
    (s n : ℕ) (long : (strand_at net s).first + n ≡ (strand_at net s).last + 1) (ways : Ways)
    (steps : Steps) (depth first m : ℕ) (row : ℕ → List ℤ) (cells : List Row)
    → ((p q : ℕ) → step_by steps p q ≡ step_price ways q p) → AreWays w depth net.near ways
    → depth ≡ depth_at net s → first % 2 ≡ ((strand_at net s).last + 1) % 2 → m ≡ n
    → length cells ≡ n → AreCells (terrain net w prices ends free s) cells
    → ((t : Terrain) → IsGround (step_by steps) first m t → AreCells t (reverse cells)
    → AreRows t row (slack_at m) m 0)
    → AreRows (turned (terrain net w prices ends free s) n) row (slack_at n) n 0
rows_back net built prices range w valid ends free s n long ways steps depth first m row cells same
    are is_depth is_first is_m is_n paid rows =
    let t = terrain net w prices ends free s in
    let ways_are = subst (λ (d : ℕ). AreWays w d net.near ways) is_depth are in
    let ground = grounded net built prices range w valid ends free s n long ways ways_are in
    let back = turned_ground (step_price ways) (strand_at net s).first n first t
    (omega (arith, is_first, long)) ground in
    let ground2 : IsGround (step_by steps) first m (turned t n) =
    subst (λ (k : ℕ). IsGround (step_by steps) first k (turned t n)) (sym is_m)
    (same_ground (step_by steps) (λ p q. step_price ways q p) first n (turned t n) same back) in
    let turned_paid : AreCells (turned t n) (reverse cells) =
    subst (λ (k : ℕ). AreCells (turned t k) (reverse cells)) is_n (turned_cells cells t paid) in
    subst (λ (k : ℕ). AreRows (turned t n) row (slack_at k) k 0) is_m
    (rows (turned t n) ground2 turned_paid)

-- where it begins nothing is paid for the way
pub no_start : (net : Net) (built : IsBuilt net) (prices : Prices) (range : AreInRange net prices)
    (w : Weights) (ends : Ends) (free : Edge → Bool) (s : ℕ) → (strand_at net s).constant ≡ false
    → (q : Place) → (terrain net w prices ends free s).way 0 None q ≡ pos 0
no_start net built prices range w ends free s value q =
    ap (λ (b : Bool). pos (1024 * events_weight w (depth_at net s)
    (only_if (b && has_register (number q)) constant_event))) value
