-- A strand that passes by has a least path in memory, at the price of its ties.
use Rattle.std.proofs.Common.{cond, ℕ, zero, suc, ◌≡◌, ◌+◌, ◌-◌, ◌%◌, ◌<◌, ◌≤◌, Bool}
use Rattle.std.proofs.Common.{true, false, ◌&&◌, ◌||◌, not, eqb, ℤ, pos, ◌-ℤ◌, ◌≤ℤ◌, List, []}
use Rattle.std.proofs.Common.{◌∷◌, length, get_or, count_by, Option, Some, None, All, IsTrue, refl}
use Rattle.std.proofs.Common.{sym, subst, ap, ◌∙◌, inl, inr, arith}
use Rattle.std.specs.Prelude.{nat_lt, nat_eq, sum_by, IfSome}
use Rattle.std.specs.List.{enumerate_from}
use Rattle.std.proofs.lemmas.Int.{ints}
use Rattle.std.proofs.lemmas.Bool.{cases_eq, eq-eqb, ne_eqb, and_from, and_parts}
use Rattle.std.proofs.lemmas.Bool.{and_left, false≢true}
use Rattle.std.proofs.lemmas.Bool.Decides.{nat_tests}
use Rattle.std.proofs.lemmas.List.{nil_from_length}
use Rattle.std.proofs.lemmas.List.FromFn.{get_or-map-range_with_len}
use Rattle.std.proofs.lemmas.List.Sums.{sum_by-cons}
use Rattle.pra_list.proofs.Counts.{bit, count-cons}
use Rattle.pra_base.specs.declared.ids.Place.{Place}
use Rattle.pra_base.specs.declared.ids.Place.TheVariants.{Mem}
use Rattle.pra_base.specs.Places.{number}
use Rattle.net_cost.specs.declared.weights.Weights.{Weights}
use Rattle.net_cost.specs.Weights.{IsValid}
use Rattle.net_form.specs.declared.net.Extra.{Extra}
use Rattle.net_form.specs.declared.net.MemPair.{MemPair}
use Rattle.net_form.specs.declared.net.Net.{Net}
use Rattle.net_form.specs.declared.net.NetIndex.{NetIndex}
use Rattle.net_form.specs.declared.prices.Prices.{Prices}
use Rattle.net_form.specs.declared.routes.Ends.{Ends}
use Rattle.net_form.specs.declared.taken.Taken.{Taken}
use Rattle.net_form.specs.Admitted.{strand_at, no_strand, in_mask, is_across, uses_memory}
use Rattle.net_form.specs.Bundles.{bundle_of}
use Rattle.net_form.specs.Cost.{extras_cost, extra_cost, is_extra_at, depth_at}
use Rattle.net_form.specs.Flow.{Edge}
use Rattle.net_form.specs.Formed.{IsFormed}
use Rattle.net_form.specs.InUse.{UsesNothing}
use Rattle.net_form.proofs.PairUses.{pairs_end}
use Rattle.pl_moves.specs.Crossbar.{register_event, load_event, store_event, constant_event}
use Rattle.net_laws.specs.Built.{IsBuilt}
use Rattle.net_dual.specs.Priced.{AreInRange, total, pay, cap_part, mem_price, cap_price}
use Rattle.net_dual.specs.Priced.{exit_part, entry_part, in_any_register, edge_price}
use Rattle.net_dual.specs.Paths.{IsLeast, path_price}
use Rattle.net_path.specs.declared.crossbar.Ways.{Ways}
use Rattle.net_path.specs.Ends.{strand_ends, ends_sum, busy, mem_number}
use Rattle.net_path.specs.Grounds.{edge, layer, terrain, is_free, suits_ends, wants}
use Rattle.net_path.specs.Grounds.{register_free, pairs_free, pairs_in_use}
use Rattle.net_path.specs.Rests.{Terrain, Passes, rest_price}
use Rattle.net_path.specs.Passing.{PassesBy, AsksLeast, AsksLeastInAll, IsLeastAnyhow}
use Rattle.net_path.specs.Rows.{IsGround}
use Rattle.net_path.specs.Ties.{IsSumMore}
use Rattle.net_path.specs.Ways.{event_price, step_price}
use Rattle.net_path.proofs.Grounded.{grounded, no_start}
use Rattle.net_path.proofs.LeastPath.{passes, price_of, goes_of}
use Rattle.net_path.proofs.WholeCells.{mem_sum, busy_sum, no_exit, no_entry}

-- ---- a path in memory, through any terrain

abbrev stay : ℕ → List Place
stay zero = []
stay (suc n) = Mem ∷ stay n

as_stay : (ps : List Place) (n : ℕ) → length ps ≡ n → All (λ p. p ≡ Mem) ps → ps ≡ stay n
as_stay [] zero e all = refl
as_stay [] (suc n) e all = absurd (omega (arith, e))
as_stay (p ∷ ps) zero e all = absurd (omega (arith, e))
as_stay (p ∷ ps) (suc n) e all = ap (λ (q : Place). q ∷ ps) (all 0 p (omega arith))
    ∙ ap (λ (qs : List Place). Mem ∷ qs)
    (as_stay ps n (omega (arith, e)) (λ k d lt. all (suc k) d (omega (arith, lt))))

stay_long : (n : ℕ) → length (stay n) ≡ n
stay_long zero = refl
stay_long (suc n) = let more = stay_long n in omega (arith, more)

-- it may come from there to memory, for nothing
record Fits (t : Terrain) (k : ℕ) (p : Option Place) : Type 0 where
  comes : IsTrue (t.may_come k p Mem)
  free : t.way k p Mem ≡ pos 0

module _ (t : Terrain) (n : ℕ) (opens : (k : ℕ) → k < n → IsTrue (t.is_open k Mem))
    (fits : (k : ℕ) → Fits t k (Some Mem)) where
  stays : (m k : ℕ) (p : Option Place) → k + m ≤ n → Fits t k p → Passes t k p (stay m)
  stays zero k p le f = tt
  stays (suc m) k p le f = (
    opens k (omega (arith, le)),
    f.comes,
    stays m (suc k) (Some Mem) (omega (arith, le)) (fits (suc k)),
  )

  module _ (way_low : (k : ℕ) (p : Option Place) (q : Place) → pos 0 ≤ℤ t.way k p q)
      (cells : (k : ℕ) (q : Place) → k < n → IsTrue (t.is_open k q)
      → t.cell k Mem ≤ℤ t.cell k q) where
    no_less : (m k : ℕ) (p r : Option Place) (qs : List Place) → k + m ≤ n → Fits t k p
        → length qs ≡ m → Passes t k r qs → rest_price t k p (stay m) ≤ℤ rest_price t k r qs
    no_less zero k p r [] le f e pass = omega (arith, ints)
    no_less zero k p r (q ∷ qs) le f e pass = absurd (omega (arith, e))
    no_less (suc m) k p r [] le f e pass = absurd (omega (arith, e))
    no_less (suc m) k p r (q ∷ qs) le f e pass =
        let more = no_less m (suc k) (Some Mem) (Some q) qs (omega (arith, le)) (fits (suc k))
        (omega (arith, e)) pass.2 in
        let way = way_low k r q in
        let cell = cells k q (omega (arith, le)) pass.0 in
        let free = f.free in
        omega (arith, ints, more, way, cell, free)

  -- of layers that pay x and are paid y, where x is of the last one alone, and y of the first
  module _ (x y : ℕ → ℤ) (is : (k : ℕ) → k < n → t.cell k Mem ≡ x k -ℤ y k)
      (x_none : (k : ℕ) → suc k < n → x k ≡ pos 0) (y_none : (k : ℕ) → 0 < k → y k ≡ pos 0) where
    price : (m k : ℕ) (p : Option Place) → suc (k + m) ≡ n → Fits t k p
        → rest_price t k p (stay (suc m)) ≡ x (n - 1) -ℤ y k
    price zero k p e f =
        let at = ap x (let g : k ≡ n - 1 = omega (arith, e) in g) in
        let here = is k (omega (arith, e)) in
        let free = f.free in
        omega (arith, ints, at, here, free)
    price (suc m) k p e f =
        let more = price m (suc k) (Some Mem) (omega (arith, e)) (fits (suc k)) in
        let none = x_none k (omega (arith, e)) in
        let behind = y_none (suc k) (omega arith) in
        let here = is k (omega (arith, e)) in
        let free = f.free in
        omega (arith, ints, more, none, behind, here, free)

-- ---- a strand that no extra concerns

abbrev before : ℕ → Extra → Bool
before s x = nat_lt x.strand s

abbrev own : ℕ → Extra → Bool
own s x = nat_eq x.strand s

one_split : (s : ℕ) (x : Extra) → cond (nat_lt x.strand (s + 1)) 1 0
    ≡ cond (nat_lt x.strand s) 1 0 + cond (nat_eq x.strand s) 1 0
one_split s x = grind (arith, nat_tests)

split : (s : ℕ) (xs : List Extra)
    → count_by (before (s + 1)) xs ≡ count_by (before s) xs + count_by (own s) xs
split s [] = refl
split s (x ∷ xs) =
    let a = count-cons (before (s + 1)) x xs in
    let b = count-cons (before s) x xs in
    let c = count-cons (own s) x xs in
    let o = one_split s x in
    let more = split s xs in
    omega (arith, a, b, c, o, more)

module _ (net : Net) (w : Weights) (s l : ℕ) (p : Place) where
  abbrev costs : Extra → ℕ
  costs x = cond (is_extra_at s l p x) (extra_cost net w x) 0

  nothing : (xs : List Extra) → count_by (own s) xs ≡ 0 → sum_by costs xs ≡ 0
  nothing [] h = refl
  nothing (x ∷ xs) h =
      let c = count-cons (own s) x xs in
      let all = sum_by-cons costs x xs in
      elim (cases_eq x.strand s) as (λ _. sum_by costs (x ∷ xs) ≡ 0) [
        | inl same ↦ let one = ap (λ (b : Bool). bit b) (eq-eqb x.strand s same) in
            absurd (omega (arith, c, h, one))
        | inr other ↦
            let more = nothing xs (omega (arith, c, h)) in
            let here : costs x ≡ 0 = ap (λ (b : Bool). cond b (extra_cost net w x) 0)
            (and_left (eqb s x.strand && eqb l x.layer) (eqb (number p) (number x.place))
            (and_left (eqb s x.strand) (eqb l x.layer)
            (ne_eqb s x.strand (λ e. other (sym e))))) in
            omega (arith, all, here, more)
      ]

  pub no_extras : IsFormed net → s < length net.strands
      → get_or net.index.extras (s + 1) 0 ≡ get_or net.index.extras s 0
      → extras_cost net w s l p ≡ 0
  no_extras formed lt same =
      let begin = λ (k : ℕ) (le : k ≤ length net.strands).
      ap (λ (i : NetIndex). get_or i.extras k 0) formed.index
      ∙ get_or-map-range_with_len (λ n. count_by (before n) net.extras) 0
      (length net.strands + 1) k k 0 (omega (arith, le)) (omega arith) in
      let a = begin s (omega (arith, lt)) in
      let b = begin (s + 1) (omega (arith, lt)) in
      let more = split s net.extras in
      nothing net.extras (omega (arith, a, b, more, same))

-- ---- the terrain of a strand that passes by

or_from : (b c : Bool) → c ≡ true → (not b || c) ≡ true
or_from true c h = h
or_from false c h = refl

or_then : (b c : Bool) → b ≡ true → (not b || c) ≡ true → c ≡ true
or_then true c h or_ = or_
or_then false c h or_ = absurd (false≢true h)

pay_low : (b : Bool) (n : ℕ) → pos 0 ≤ℤ pay b (pos n)
pay_low true n = omega (arith, ints)
pay_low false n = omega (arith, ints)

total_low : {X : Type 0} (test : X → Bool) (f : X → ℕ) (xs : List X)
    → pos 0 ≤ℤ total (λ x. pay (test x) (pos (f x))) xs
total_low test f [] = omega (arith, ints)
total_low test f (x ∷ xs) =
    let one = pay_low (test x) (f x) in
    let more = total_low test f xs in
    omega (arith, ints, one, more)

module _ (net : Net) (built : IsBuilt net) (prices : Prices) (range : AreInRange net prices)
    (w : Weights) (valid : IsValid w) (ends : Ends) (taken : Taken) (s n : ℕ)
    (lt : s < length net.strands)
    (long : (strand_at net s).first + n ≡ (strand_at net s).last + 1)
    (by : PassesBy net s) (z : ℤ) (asks : AsksLeastInAll net prices ends s z) where
  abbrev ground_of : Terrain
  ground_of = terrain net w prices ends (is_free net taken) s

  abbrev first : ℕ
  first = (strand_at net s).first

  abbrev last : ℕ
  last = (strand_at net s).last

  abbrev e : ℕ → Place → Edge
  e k q = edge s (layer net s k) None q

  -- ---- its ways
  abbrev ways : Ways
  ways = record {
    between = event_price w (depth_at net s) register_event;
    load = event_price w (depth_at net s) (load_event net.near);
    store = event_price w (depth_at net s) (store_event net.near);
    set = event_price w (depth_at net s) constant_event;
  }

  ground : IsGround (step_price ways) first n ground_of
  ground = grounded net built prices range w valid ends (is_free net taken) s n long ways (record {
    between = refl;
    load = refl;
    store = refl;
    set = refl;
  })

  fits : (k : ℕ) → Fits ground_of k (Some Mem)
  fits k = elim (cases_eq ((first + k) % 2) 0) as (λ _. Fits ground_of k (Some Mem)) [
    | inl even ↦ let g = ground.across k Mem Mem even in record { comes = g.0; free = g.1 }
    | inr odd ↦ let g = ground.crossbar k Mem Mem (omega (arith, odd)) in
        record { comes = g.0; free = g.1 }
  ]

  begins : Fits ground_of 0 None
  begins = record {
    comes = or_from (is_across (e 0 Mem)) true refl;
    free = no_start net built prices range w ends (is_free net taken) s by.value Mem;
  }

  -- ---- its places
  none_there : strand_ends net s ≡ []
  none_there = nil_from_length (strand_ends net s)
      (let count = pairs_end net built.formed s lt in let same = by.pairs in
      omega (arith, count, same))

  masks_long : first + length (strand_at net s).masks ≡ last + 1
  masks_long = (built.formed.strands s no_strand lt).masks

  unpaired : (k : ℕ) → k < n → pairs_in_use net taken (e k Mem) ≡ 0
  unpaired k in_ =
      let sum = busy_sum net s (first + k) (omega arith) (omega (arith, in_, long, masks_long))
      taken in
      let none = ap (ends_sum (busy taken) (first + k)) none_there in
      omega (arith, ints, sum, none)

  opens : (k : ℕ) → k < n → IsTrue (ground_of.is_open k Mem)
  opens k in_ =
      let edge_k = e k Mem in
      let free = is_free net taken edge_k in
      let suits = suits_ends ends (strand_at net s) edge_k in
      and_from (in_mask net edge_k && suits) free
      (and_from (in_mask net edge_k) suits
      (by.masks (first + k - first) 0 (omega (arith, in_, long, masks_long)))
      (and_from (not (eqb (first + k) first) || wants ends.first Mem)
      (not (eqb (first + k) last) || wants ends.last Mem)
      (or_from (eqb (first + k) first) (wants ends.first Mem) asks.at_entry.suits)
      (or_from (eqb (first + k) last) (wants ends.last Mem) asks.at_exit.suits)))
      (and_from (register_free net taken edge_k) (pairs_free net taken edge_k) refl
      (eq-eqb (pairs_in_use net taken edge_k) 0 (unpaired k in_)))

  -- ---- what it pays there
  abbrev x : ℕ → ℤ
  x k = exit_part net prices (e k Mem)

  abbrev y : ℕ → ℤ
  y k = entry_part net prices (e k Mem)

  cell_is : (k : ℕ) → k < n → ground_of.cell k Mem ≡ x k -ℤ y k
  cell_is k in_ =
      let extras = no_extras net w s (layer net s k) Mem built.formed lt by.extras in
      let sum = mem_sum net s (first + k) (omega arith) (omega (arith, in_, long, masks_long))
      prices in
      let none = ap (ends_sum (mem_number prices) (first + k)) none_there in
      let cap : cap_part net prices (e k Mem) ≡ pos 0 = refl in
      omega (arith, ints, extras, sum, none, cap)

  exit_there : (k : ℕ) (q : Place) → IsTrue (not (eqb (first + k) last) || wants ends.last q)
      → x k ≤ℤ exit_part net prices (e k q)
  exit_there k q suits = elim (cases_eq (first + k) last)
      as (λ _. x k ≤ℤ exit_part net prices (e k q)) [
        | inl same ↦
            let least = asks.at_exit.least q
            (or_then (eqb (first + k) last) (wants ends.last q) (eq-eqb (first + k) last same)
            suits) in
            let is = asks.at_exit.is in
            let here = ap (λ (l : ℕ). exit_part net prices (edge s l None Mem)) same in
            let there = ap (λ (l : ℕ). exit_part net prices (edge s l None q)) same in
            omega (arith, ints, least, is, here, there)
        | inr other ↦
            let here = no_exit net prices s (first + k) Mem other in
            let there = no_exit net prices s (first + k) q other in
            omega (arith, ints, here, there)
      ]

  entry_there : (k : ℕ) (q : Place) → IsTrue (not (eqb (first + k) first) || wants ends.first q)
      → entry_part net prices (e k q) ≤ℤ y k
  entry_there k q suits = elim (cases_eq (first + k) first)
      as (λ _. entry_part net prices (e k q) ≤ℤ y k) [
        | inl same ↦
            let least = asks.at_entry.least q
            (or_then (eqb (first + k) first) (wants ends.first q) (eq-eqb (first + k) first same)
            suits) in
            let is = asks.at_entry.is in
            let here = ap (λ (l : ℕ). entry_part net prices (edge s l None Mem)) same in
            let there = ap (λ (l : ℕ). entry_part net prices (edge s l None q)) same in
            omega (arith, ints, least, is, here, there)
        | inr other ↦
            let here = no_entry net prices s (first + k) Mem other in
            let there = no_entry net prices s (first + k) q other in
            omega (arith, ints, here, there)
      ]

  cells_least : (k : ℕ) (q : Place) → k < n → IsTrue (ground_of.is_open k q)
      → ground_of.cell k Mem ≤ℤ ground_of.cell k q
  cells_least k q in_ opened =
      let edge_k = e k q in
      let free = is_free net taken edge_k in
      let all = suits_ends ends (strand_at net s) edge_k in
      let one = and_parts (in_mask net edge_k && all) free opened in
      let two = and_parts (in_mask net edge_k) all one.0 in
      let suits = and_parts (not (eqb (first + k) first) || wants ends.first q)
      (not (eqb (first + k) last) || wants ends.last q) two.1 in
      let is = cell_is k in_ in
      let exit = exit_there k q suits.1 in
      let entry = entry_there k q suits.0 in
      let cap = pay_low (in_any_register edge_k) (cap_price prices (bundle_of net edge_k)) in
      let mem = total_low (λ (m : ℕ × MemPair). uses_memory m.1 edge_k)
      (λ m. mem_price prices m.0) (enumerate_from 0 net.pairs) in
      omega (arith, ints, is, exit, entry, cap, mem)

  -- ---- the path
  abbrev home : List Place
  home = stay n

  goes : Passes ground_of 0 None home
  goes = stays ground_of n opens fits n 0 None (omega arith) begins

  least_home : IsLeast net (edge_price net w prices) ends (UsesNothing net taken) s home
  least_home = record {
    goes = goes_of net built prices range w valid ends taken s n lt long home (stay_long n) goes;
    least = λ qs other.
        let q = passes net built prices range w valid ends taken s n lt long qs other in
        let le = no_less ground_of n opens fits ground.way_low cells_least n 0 None None qs
        (omega arith) begins q.0 q.1 in
        let a = price_of net built prices range w valid ends taken s n lt long home in
        let b = price_of net built prices range w valid ends taken s n lt long qs in
        omega (arith, ints, le, a, b);
  }

  price_home : (m : ℕ) → suc m ≡ n
      → z ≡ path_price net (edge_price net w prices) s (stay (suc m))
  price_home m is =
      let p = price ground_of n opens fits x y cell_is
      (λ k behind. no_exit net prices s (first + k) Mem (λ h. omega (arith, h, behind, long)))
      (λ k after. no_entry net prices s (first + k) Mem (λ h. omega (arith, h, after)))
      m 0 None (omega (arith, is)) begins in
      let a = price_of net built prices range w valid ends taken s n lt long (stay (suc m)) in
      let exit = ap (λ (l : ℕ). exit_part net prices (edge s l None Mem))
      (let g : first + (n - 1) ≡ last = omega (arith, is, long) in g) in
      let entry = ap (λ (l : ℕ). entry_part net prices (edge s l None Mem))
      (let g : first + 0 ≡ first = omega arith in g) in
      let at_exit = asks.at_exit.is in
      let at_entry = asks.at_entry.is in
      let all = asks.is in
      omega (arith, ints, p, a, exit, entry, at_exit, at_entry, all)

-- what the path costs and that it is a least one, whatever events weigh and whatever is in use
pub least_anyhow : (net : Net) (built : IsBuilt net) (prices : Prices) (range : AreInRange net prices)
    (ends : Ends) (s : ℕ) (lt : s < length net.strands) (ps : List Place) (z : ℤ)
    → (strand_at net s).first + length ps ≡ (strand_at net s).last + 1
    → All (λ p. p ≡ Mem) ps → PassesBy net s → AsksLeastInAll net prices ends s z
    → IsLeastAnyhow net prices ends s ps z
least_anyhow net built prices range ends s lt ps z long all by asks =
    let n = length ps in
    let order = (built.formed.strands s no_strand lt).order in
    let m = n - 1 in
    let is : suc m ≡ n = omega (arith, long, order) in
    let nothing_taken : Taken = record { regs = []; mems = [] } in record {
      least = λ w taken valid.
          subst (λ (qs : List Place). IsLeast net (edge_price net w prices) ends
          (UsesNothing net taken) s qs) (sym (as_stay ps n refl all))
          (least_home net built prices range w valid ends taken s n lt long by z asks);
      cost = λ w valid.
          subst (λ (qs : List Place). z ≡ path_price net (edge_price net w prices) s qs)
          (sym (as_stay ps (suc m) (sym is) all))
          (price_home net built prices range w valid ends nothing_taken s n lt long by z asks m is);
    }

-- ---- what a row of nothing holds once ties are paid

pub sum_of_none : (cost price z : ℤ) → cost ≡ pos 0 → IsSumMore cost price z → z ≡ price
sum_of_none cost price z none more =
    let is = more.opened (omega (arith, ints, none), omega (arith, ints, none)) in
    omega (arith, ints, is, none)

pub same_asks : (end : Option Place) (f g : Place → ℤ) (o : Option ℤ) → ((q : Place) → f q ≡ g q)
    → IfSome o (AsksLeast end f) → IfSome o (AsksLeast end g)
same_asks end f g None same asks = tt
same_asks end f g (Some z) same asks = record {
  suits = asks.suits;
  least = λ q wanted. let le = asks.least q wanted in let e = same q in omega (arith, ints, le, e);
  is = asks.is ∙ same Mem;
}
