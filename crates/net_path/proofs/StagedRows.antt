-- The rows of a strand, stage by stage.
use Rattle.std.proofs.Common.{ℕ, suc, ◌≡◌, ◌⊎◌, ◌+◌, ◌^◌, ◌<◌, ◌≤◌, ◌∙◌, Bool, true, false, ℤ, pos}
use Rattle.std.proofs.Common.{◌+ℤ◌, ◌-ℤ◌, List, length, get_or, set, None, sym, subst, ap, inl, inr}
use Rattle.std.proofs.Common.{arith, get_or-set_same, get_or-set_other}
use Rattle.std.proofs.lemmas.Int.{ints}
use Rattle.std.proofs.lemmas.Bool.{cases_eq}
use Rattle.pra_base.specs.declared.ids.Place.{Place}
use Rattle.pra_base.specs.Places.{number}
use Rattle.pra_base.proofs.PlaceNumbers.{place_of}
use Rattle.net_cost.specs.declared.weights.Weights.{Weights}
use Rattle.net_cost.specs.Weights.{IsValid}
use Rattle.net_form.specs.declared.net.Net.{Net}
use Rattle.net_form.specs.declared.prices.Prices.{Prices}
use Rattle.net_form.specs.declared.routes.Ends.{Ends}
use Rattle.net_form.specs.declared.taken.Taken.{Taken}
use Rattle.net_form.specs.Admitted.{strand_at, no_strand}
use Rattle.net_form.specs.Flow.{Edge}
use Rattle.net_form.proofs.Layers.{in_layers}
use Rattle.net_laws.specs.Built.{IsBuilt}
use Rattle.net_dual.specs.Priced.{total, mem_part, exit_part, entry_part, AreInRange}
use Rattle.net_path.specs.declared.crossbar.Row.{Row}
use Rattle.net_path.specs.Cells.{alone_price, ArePlainRows}
use Rattle.net_path.specs.Ends.{IsMemory, AreMemoryRows, strand_ends}
use Rattle.net_path.specs.Grounds.{edge, layer, is_free, is_open, there_price}
use Rattle.net_path.specs.Rests.{unreached}
use Rattle.net_path.specs.Rows.{costs_at, no_row, IsAbout, IsCell, AreCellsWithin, cell_bound}
use Rattle.net_path.specs.Ties.{HaveTieRoom, ArePaidInAll, IsSumMore, exit_ties, entry_ties}
use Rattle.net_path.specs.Ties.{tie_pay}
use Rattle.net_path.specs.Ways.{at}
use Rattle.net_path.proofs.Stages.{with_pairs, mem_about, exit_about, exits_pay, entries_pay}
use Rattle.net_path.proofs.Stages.{cell_more, cell_same, room_of, whole_price}
use Rattle.net_path.proofs.WholeCells.{no_exit, no_entry, alone_about, there_about}

module _ (net : Net) (built : IsBuilt net) (prices : Prices) (range : AreInRange net prices)
    (w : Weights) (valid : IsValid w) (s : ℕ) (lt : s < length net.strands) (ends : Ends)
    (taken : Taken) (n : ℕ) (long : (strand_at net s).first + n ≡ (strand_at net s).last + 1) where
  abbrev e : ℕ → Place → Edge
  e k q = edge s (layer net s k) None q

  abbrev opened : ℕ → Place → Bool
  opened k q = is_open net ends (is_free net taken) s (e k q)

  abbrev paid_one : ℕ → Place → ℤ
  paid_one k q = alone_price net w prices (e k q) +ℤ mem_part net prices (e k q)

  abbrev paid_two : ℕ → Place → ℤ
  paid_two k q = paid_one k q +ℤ exit_part net prices (e k q)

  abbrev pub AreCellsOf : (ℕ → Place → ℤ) → List Row → Type 0
  AreCellsOf paid rows = (k : ℕ) (q : Place) → k < n
      → IsCell (opened k q) (paid k q) (at (costs_at rows k) (number q))

  few : n ≤ 2 ^ 15
  few = let layers = built.formed.layers in let within = in_layers net built.formed s lt in
      omega (arith, long, within, layers)

  as_many : length (strand_at net s).masks ≡ n
  as_many = let masks = (built.formed.strands s no_strand lt).masks in omega (arith, masks, long)

  one_about : (k : ℕ) (q : Place) → k < n → IsAbout (2 ^ 56) (paid_one k q)
  one_about k q in_ =
      let a = alone_about net built prices range w valid (e k q) in
      let m = mem_about net built prices range w valid s lt ends taken (layer net s k) (omega arith)
      (omega (arith, as_many, in_)) q (omega (arith, as_many, few)) in
      (omega (arith, ints, a, m), omega (arith, ints, a, m))

  two_about : (k : ℕ) (q : Place) → k < n → IsAbout (2 ^ 57) (paid_two k q)
  two_about k q in_ =
      let a = one_about k q in_ in
      let x = exit_about net built prices range w valid s lt (layer net s k) q in
      (omega (arith, ints, a, x), omega (arith, ints, a, x))

  -- ---- memory pairs
  pub cells_one : (plain rows : List Row)
      → length plain ≡ n → ArePlainRows net w prices ends taken s n plain
      → AreMemoryRows prices taken (strand_at net s).first (strand_ends net s) plain rows
      → AreCellsOf paid_one rows
  cells_one plain rows size are memory k q in_ =
      let row = memory k (omega (arith, size, in_)) in
      with_pairs net built prices range w valid s lt ends taken (layer net s k)
      (omega arith) (omega (arith, as_many, in_)) q (at (costs_at plain k) (number q))
      (at (costs_at rows k) (number q))
      (are k in_ q).is (λ other. row.others (number q) other)
      (λ here. subst (λ (p : ℕ). IsMemory prices taken (layer net s k) (strand_ends net s)
      (at (costs_at plain k) p) (at (costs_at rows k) p)) (sym here) row.memory)

  pub room_one : (rows : List Row) → AreCellsOf paid_one rows → (k : ℕ) → k < n
      → HaveTieRoom (costs_at rows k)
  room_one rows are k in_ q = let a = one_about k q in_ in
      room_of (opened k q) (paid_one k q) (at (costs_at rows k) (number q)) (are k q in_)
      (omega (arith, ints, a), omega (arith, ints, a))

  -- ---- exits
  pub cells_two : (rows : List Row) (row : Row) (k' : ℕ)
      → suc k' ≡ n → length rows ≡ n → AreCellsOf paid_one rows
      → ArePaidInAll (λ q. total (λ i. tie_pay prices true i q) (exit_ties net s))
      (costs_at rows k') row.costs
      → AreCellsOf paid_two (set rows k' row)
  cells_two rows row k' last size are paid k q in_ = elim (cases_eq k k')
      as (λ _. IsCell (opened k q) (paid_two k q) (at (costs_at (set rows k' row) k) (number q))) [
        | inl here ↦
            let is : get_or (set rows k' row) k no_row ≡ row =
            ap (λ (j : ℕ). get_or (set rows k' row) j no_row) here
            ∙ get_or-set_same rows k' row no_row (omega (arith, last, size)) in
            let same : costs_at rows k' ≡ costs_at rows k =
            ap (λ (j : ℕ). costs_at rows j) (sym here) in
            let at_last : (strand_at net s).last ≡ layer net s k =
            omega (arith, here, last, long) in
            let pays : total (λ i. tie_pay prices true i q) (exit_ties net s)
            ≡ exit_part net prices (e k q) =
            exits_pay net built prices range w valid s lt q
            ∙ ap (λ (l : ℕ). exit_part net prices (edge s l None q)) at_last in
            let more = subst (λ (x : ℤ). IsSumMore (at (costs_at rows k') (number q)) x
            (at row.costs (number q))) pays (paid q) in
            let more2 = subst (λ (xs : List ℤ). IsSumMore (at xs (number q))
            (exit_part net prices (e k q)) (at row.costs (number q))) same more in
            let a = one_about k q in_ in
            subst (λ (r : Row). IsCell (opened k q) (paid_two k q) (at r.costs (number q))) (sym is)
            (cell_more (opened k q) (paid_one k q) (exit_part net prices (e k q))
            (at (costs_at rows k) (number q)) (at row.costs (number q)) (are k q in_)
            (omega (arith, ints, a), omega (arith, ints, a)) more2)
        | inr other ↦
            let is : get_or (set rows k' row) k no_row ≡ get_or rows k no_row =
            get_or-set_other rows k' k row no_row other in
            let none =
            no_exit net prices s (layer net s k) q (λ h. other (omega (arith, h, last, long))) in
            subst (λ (r : Row). IsCell (opened k q) (paid_two k q) (at r.costs (number q))) (sym is)
            (cell_same (opened k q) (paid_one k q) (paid_two k q) (at (costs_at rows k) (number q))
            (omega (arith, ints, none)) (are k q in_))
      ]

  pub room_two : (rows : List Row) → AreCellsOf paid_two rows → (k : ℕ) → k < n
      → HaveTieRoom (costs_at rows k)
  room_two rows are k in_ q = let a = two_about k q in_ in
      room_of (opened k q) (paid_two k q) (at (costs_at rows k) (number q)) (are k q in_)
      (omega (arith, ints, a), omega (arith, ints, a))

  -- ---- entries
  abbrev pub paid_three : ℕ → Place → ℤ
  paid_three k q = there_price net w prices (e k q)

  pub cells_three : (rows : List Row) (row : Row) → 0 < n
      → length rows ≡ n → AreCellsOf paid_two rows
      → ArePaidInAll (λ q. total (λ i. tie_pay prices false i q) (entry_ties net s))
      (costs_at rows 0) row.costs → AreCellsOf paid_three (set rows 0 row)
  cells_three rows row some size are paid k q in_ = elim (cases_eq k 0)
      as (λ _. IsCell (opened k q) (paid_three k q) (at (costs_at (set rows 0 row) k) (number q))) [
        | inl here ↦
            let is : get_or (set rows 0 row) k no_row ≡ row =
            ap (λ (j : ℕ). get_or (set rows 0 row) j no_row) here
            ∙ get_or-set_same rows 0 row no_row (omega (arith, some, size)) in
            let same : costs_at rows 0 ≡ costs_at rows k =
            ap (λ (j : ℕ). costs_at rows j) (sym here) in
            let at_first : (strand_at net s).first ≡ layer net s k = omega (arith, here) in
            let pays : total (λ i. tie_pay prices false i q) (entry_ties net s)
            ≡ pos 0 -ℤ entry_part net prices (e k q) =
            entries_pay net built prices range w valid s lt q
            ∙ ap (λ (l : ℕ). pos 0 -ℤ entry_part net prices (edge s l None q)) at_first in
            let more = subst (λ (x : ℤ). IsSumMore (at (costs_at rows 0) (number q)) x
            (at row.costs (number q))) pays (paid q) in
            let more2 = subst (λ (xs : List ℤ). IsSumMore (at xs (number q))
            (pos 0 -ℤ entry_part net prices (e k q)) (at row.costs (number q))) same more in
            let a = two_about k q in_ in
            subst (λ (r : Row). IsCell (opened k q) (paid_three k q) (at r.costs (number q)))
            (sym is)
            (cell_same (opened k q) (paid_two k q +ℤ (pos 0 -ℤ entry_part net prices (e k q)))
            (paid_three k q) (at row.costs (number q)) (whole_price net w prices (e k q))
            (cell_more (opened k q) (paid_two k q) (pos 0 -ℤ entry_part net prices (e k q))
            (at (costs_at rows k) (number q)) (at row.costs (number q)) (are k q in_)
            (omega (arith, ints, a), omega (arith, ints, a)) more2))
        | inr other ↦
            let is : get_or (set rows 0 row) k no_row ≡ get_or rows k no_row =
            get_or-set_other rows 0 k row no_row other in
            let none = no_entry net prices s (layer net s k) q (λ h. other (omega (arith, h))) in
            let whole = whole_price net w prices (e k q) in
            subst (λ (r : Row). IsCell (opened k q) (paid_three k q) (at r.costs (number q)))
            (sym is)
            (cell_same (opened k q) (paid_two k q) (paid_three k q)
            (at (costs_at rows k) (number q))
            (omega (arith, ints, none, whole)) (are k q in_))
      ]

  pub all_within : (rows : List Row) → length rows ≡ n → AreCellsOf paid_three rows
      → AreCellsWithin rows
  all_within rows size are k p in_ lp =
      let q = place_of p lp in
      let b = there_about net built prices range w valid s n k q.place
      (omega (arith, size, in_)) long in
      rw size (subst (λ (p : ℕ). (at (costs_at rows k) p ≡ unreached)
      ⊎ IsAbout (cell_bound n k) (at (costs_at rows k) p)) q.is
      (of (opened k q.place) (are k q.place (omega (arith, size, in_))) b))
    where
      of : {c z : ℤ} {m : ℕ} (b : Bool) → IsCell b c z → IsAbout m c → (z ≡ unreached) ⊎ IsAbout m z
      of {c} {z} {m} true is about = inr (subst (IsAbout m) (sym is) about)
      of {c} {z} {m} false is about = inl is
