-- What is paid at a place of a layer, stage by stage.
use Rattle.std.proofs.Common.{cond, ℕ, suc, ◌≡◌, ◌≢◌, ◌+◌, ◌-◌, ◌*◌, ◌^◌, ◌<◌, ◌≤◌, ◌∙◌, Bool, true}
use Rattle.std.proofs.Common.{false, ◌&&◌, ◌||◌, eqb, ℤ, pos, List, [], ◌∷◌, length, get_or}
use Rattle.std.proofs.Common.{count_by, None, refl, sym, ap, inl, inr, arith}
use Rattle.std.specs.List.{enumerate_from}
use Rattle.std.proofs.lemmas.Int.{ints}
use Rattle.std.proofs.lemmas.Bool.{cases_eq, eq-eqb, ne_eqb, and_left, and_right}
use Rattle.std.proofs.lemmas.Bool.Decides.{nat_tests}
use Rattle.pra_list.proofs.Counts.{count-cons, count-none}
use Rattle.pra_base.specs.declared.ids.Place.{Place}
use Rattle.pra_base.specs.declared.ids.Place.TheVariants.{Mem}
use Rattle.pra_base.specs.Places.{number, is_mem}
use Rattle.net_cost.specs.declared.weights.Weights.{Weights}
use Rattle.net_cost.specs.Weights.{IsValid}
use Rattle.net_form.specs.declared.net.MemPair.{MemPair}
use Rattle.net_form.specs.declared.net.Net.{Net}
use Rattle.net_form.specs.declared.net.Tie.{Tie}
use Rattle.net_form.specs.declared.prices.Prices.{Prices}
use Rattle.net_form.specs.declared.taken.Taken.{Taken}
use Rattle.net_form.specs.Admitted.{strand_at, uses_memory}
use Rattle.net_form.specs.Flow.{Edge, is_at}
use Rattle.net_form.specs.Index.{is_end}
use Rattle.net_laws.specs.Built.{IsBuilt}
use Rattle.net_form.specs.Bundles.{bundle_of}
use Rattle.net_dual.specs.Priced.{in_any_register, cap_price}
use Rattle.net_dual.specs.Priced.{total, pay, mem_part, mem_price, exit_part, entry_part, exits}
use Rattle.net_dual.specs.Priced.{enters, cap_part, tie_price, AreInRange, most_price}
use Rattle.net_dual.proofs.Totals.{total-agree, total-nothing}
use Rattle.net_dual.proofs.Small.{cost_small, cap_small, edge_small}
use Rattle.net_path.specs.Cells.{alone_price}
use Rattle.net_path.specs.Ends.{ends_sum, busy, mem_number, strand_ends}
use Rattle.net_path.specs.Grounds.{edge, pairs_in_use, there_price}
use Rattle.net_path.specs.Rows.{IsAbout, cell_bound}
use Rattle.net_path.proofs.EndSums.{all_sum}

-- ---- memory pairs

-- ones are counted
total_ones : {X : Type 0} (p : X → Bool) (xs : List X)
    → total (λ x. pay (p x) (pos 1)) xs ≡ pos (count_by p xs)
total_ones p [] = refl
total_ones p (x ∷ xs) =
    let all = count-cons p x xs in
    let one = by (p x) in
    let more = total_ones p xs in
    omega (arith, ints, all, one, more)
  where
    by : (b : Bool) → pay b (pos 1) ≡ pos (cond b 1 0)
    by true = refl
    by false = refl

pay_both : (a b : Bool) (z : ℤ) → pay a (pay b z) ≡ pay (a && b) z
pay_both true b z = refl
pay_both false b z = refl

module _ (net : Net) (s l : ℕ) where
  abbrev in_memory : Edge
  in_memory = edge s l None Mem

  same_end : (m : MemPair) → is_end s l m ≡ uses_memory m in_memory
  same_end m = grind (arith, nat_tests)

  module _ (first : (strand_at net s).first ≤ l)
      (last : l < (strand_at net s).first + length (strand_at net s).masks) where
    pub mem_sum : (prices : Prices)
        → ends_sum (mem_number prices) l (strand_ends net s) ≡ mem_part net prices in_memory
    mem_sum prices = all_sum (mem_number prices) net.pairs s l (strand_at net s).first
        (length (strand_at net s).masks) first last
        ∙ total-agree (λ (m : ℕ × MemPair). pay (is_end s l m.1) (mem_number prices m.0))
        (λ m. pay (uses_memory m.1 in_memory) (pos (mem_price prices m.0)))
        (enumerate_from 0 net.pairs)
        (λ k d lt. let m : ℕ × MemPair = get_or (enumerate_from 0 net.pairs) k d in
        ap (λ (b : Bool). pay b (pos (mem_price prices m.0))) (same_end m.1))

    pub busy_sum : (taken : Taken)
        → ends_sum (busy taken) l (strand_ends net s) ≡ pos (pairs_in_use net taken in_memory)
    busy_sum taken = all_sum (busy taken) net.pairs s l (strand_at net s).first
        (length (strand_at net s).masks) first last
        ∙ total-agree (λ (m : ℕ × MemPair). pay (is_end s l m.1) (busy taken m.0))
        (λ m. pay (uses_memory m.1 in_memory && get_or taken.mems m.0 false) (pos 1))
        (enumerate_from 0 net.pairs)
        (λ k d lt. let m : ℕ × MemPair = get_or (enumerate_from 0 net.pairs) k d in
        ap (λ (b : Bool). pay b (busy taken m.0)) (same_end m.1)
        ∙ pay_both (uses_memory m.1 in_memory) (get_or taken.mems m.0 false) (pos 1))
        ∙ total_ones (λ (m : ℕ × MemPair). uses_memory m.1 in_memory && get_or taken.mems m.0 false)
        (enumerate_from 0 net.pairs)

-- elsewhere than in memory no pair is met
not_memory : (e : Edge) (m : MemPair) → is_mem (number e.to) ≡ false → uses_memory m e ≡ false
not_memory e m h = and_right (is_at m.left m.left_layer e || is_at m.right m.right_layer e)
    (is_mem (number e.to)) h

pub no_mem_part : (net : Net) (prices : Prices) (e : Edge) → is_mem (number e.to) ≡ false
    → mem_part net prices e ≡ pos 0
no_mem_part net prices e h =
    total-agree (λ (m : ℕ × MemPair). pay (uses_memory m.1 e) (pos (mem_price prices m.0)))
    (λ m. pos 0) (enumerate_from 0 net.pairs)
    (λ k d lt. let m : ℕ × MemPair = get_or (enumerate_from 0 net.pairs) k d in
    ap (λ (b : Bool). pay b (pos (mem_price prices m.0))) (not_memory e m.1 h))
    ∙ total-nothing (enumerate_from 0 net.pairs)

pub no_pair_in_use : (net : Net) (taken : Taken) (e : Edge) → is_mem (number e.to) ≡ false
    → pairs_in_use net taken e ≡ 0
no_pair_in_use net taken e h = count-none (λ (m : ℕ × MemPair). uses_memory m.1 e
    && get_or taken.mems m.0 false) (enumerate_from 0 net.pairs)
    (λ k d lt. let m : ℕ × MemPair = get_or (enumerate_from 0 net.pairs) k d in
    and_left (uses_memory m.1 e) (get_or taken.mems m.0 false) (not_memory e m.1 h))

-- ---- ties

total_none : {X : Type 0} (f : X → ℤ) (xs : List X) → ((x : X) → f x ≡ pos 0) → total f xs ≡ pos 0
total_none f xs none = total-agree f (λ x. pos 0) xs (λ k d lt. none (get_or xs k d))
    ∙ total-nothing xs

pub no_exit : (net : Net) (prices : Prices) (s l : ℕ) (q : Place) → l ≢ (strand_at net s).last
    → exit_part net prices (edge s l None q) ≡ pos 0
no_exit net prices s l q other =
    total_none (λ (t : ℕ × Tie). pay (exits net t.1 (edge s l None q)) (tie_price prices t.0 q))
    (enumerate_from 0 net.ties)
    (λ t. ap (λ (b : Bool). pay b (tie_price prices t.0 q))
    (elim (cases_eq s t.1.from) as (λ _. exits net t.1 (edge s l None q) ≡ false) [
      | inl same ↦ and_right (eqb s t.1.from) (eqb l (strand_at net t.1.from).last)
          (ne_eqb l (strand_at net t.1.from).last
          (λ e. other (e ∙ ap (λ (k : ℕ). (strand_at net k).last) (sym same))))
      | inr apart ↦ and_left (eqb s t.1.from) (eqb l (strand_at net t.1.from).last)
          (ne_eqb s t.1.from apart)
    ]))

pub no_entry : (net : Net) (prices : Prices) (s l : ℕ) (q : Place) → l ≢ (strand_at net s).first
    → entry_part net prices (edge s l None q) ≡ pos 0
no_entry net prices s l q other =
    total_none (λ (t : ℕ × Tie). pay (enters net t.1 (edge s l None q)) (tie_price prices t.0 q))
    (enumerate_from 0 net.ties)
    (λ t. ap (λ (b : Bool). pay b (tie_price prices t.0 q))
    (elim (cases_eq s t.1.to) as (λ _. enters net t.1 (edge s l None q) ≡ false) [
      | inl same ↦ and_right (eqb s t.1.to) (eqb l (strand_at net t.1.to).first)
          (ne_eqb l (strand_at net t.1.to).first
          (λ e. other (e ∙ ap (λ (k : ℕ). (strand_at net k).first) (sym same))))
      | inr apart ↦ and_left (eqb s t.1.to) (eqb l (strand_at net t.1.to).first)
          (ne_eqb s t.1.to apart)
    ]))

-- ---- bounds

cond_is : {b c : Bool} (n : ℕ) → b ≡ c → cond b n 0 ≡ cond c n 0
cond_is n e = ap (λ (b : Bool). cond b n 0) e

module _ (net : Net) (built : IsBuilt net) (prices : Prices) (range : AreInRange net prices)
    (w : Weights) (valid : IsValid w) where
  cap_about : (e : Edge) → IsAbout (2 ^ 40) (cap_part net prices e)
  cap_about e = by (in_any_register e) where
    by : (b : Bool) → IsAbout (2 ^ 40) (pay b (pos (cap_price prices (bundle_of net e))))
    by true = let le = cap_small net built prices range (bundle_of net e) in
        (omega (arith, ints), omega (arith, ints, le))
    by false = (omega (arith, ints), omega (arith, ints))

  pub alone_about : (e : Edge) → IsAbout (2 ^ 43) (alone_price net w prices e)
  alone_about e =
      let cost = cost_small net built w valid e in
      let cap = cap_about e in
      (omega (arith, ints, cost, cap), omega (arith, ints, cost, cap))

  -- n layers, of which this is number k
  pub there_about : (s n k : ℕ) (q : Place)
      → k < n → (strand_at net s).first + n ≡ (strand_at net s).last + 1 → IsAbout (cell_bound n k)
      (there_price net w prices (edge s ((strand_at net s).first + k) None q))
  there_about s n k q lt long =
      let e = edge s ((strand_at net s).first + k) None q in
      let cost = cost_small net built w valid e in
      let small = edge_small net built prices range w valid e in
      let low = small.low in
      let high = small.high in
      let exit : cond (eqb e.layer (strand_at net s).last) (2 * most_price) 0
      ≤ 2 ^ 55 * (1 - (n - suc k)) =
      elim (cases_eq e.layer (strand_at net s).last) as (λ _. cond
      (eqb e.layer (strand_at net s).last) (2 * most_price) 0 ≤ 2 ^ 55 * (1 - (n - suc k))) [
        | inl same ↦
            let is = cond_is (2 * most_price) (eq-eqb e.layer (strand_at net s).last same) in
            omega (arith, is, same, long)
        | inr other ↦
            let is = cond_is (2 * most_price) (ne_eqb e.layer (strand_at net s).last other) in
            omega (arith, is)
      ] in
      let entry : cond (eqb e.layer (strand_at net s).first) (4098 * most_price) 0
      ≤ 2 ^ 55 * (1 - k) =
      elim (cases_eq e.layer (strand_at net s).first) as (λ _. cond
      (eqb e.layer (strand_at net s).first) (4098 * most_price) 0 ≤ 2 ^ 55 * (1 - k)) [
        | inl same ↦
            let is = cond_is (4098 * most_price) (eq-eqb e.layer (strand_at net s).first same) in
            omega (arith, is, same)
        | inr other ↦
            let is = cond_is (4098 * most_price) (ne_eqb e.layer (strand_at net s).first other) in
            omega (arith, is)
      ] in
      (omega (arith, ints, cost, low, exit, entry), omega (arith, ints, cost, high, exit, entry))
