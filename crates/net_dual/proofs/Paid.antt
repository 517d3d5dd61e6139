-- What the edges of an admitted flow pay is at most their cost and all prices.
use Rattle.std.proofs.Common.{ℕ, ◌+◌, ◌*◌, ◌≤◌, ◌≡◌, pos, ◌+ℤ◌, ◌-ℤ◌, ◌≤ℤ◌, List, [], ◌∷◌, length}
use Rattle.std.proofs.Common.{get_or, eqb}
use Rattle.std.proofs.Common.{count_by, sum_by, sum, refl, sym, ap, ◌∙◌, All, arith}
use Rattle.std.specs.List.{range_with_len, enumerate_from}
use Rattle.std.proofs.lemmas.Int.{ints}
use Rattle.std.proofs.lemmas.List.{get_or_past}
use Rattle.std.proofs.lemmas.List.Elements.{All-head, All-tail}
use Rattle.pra_base.specs.Places.{all_places}
use Rattle.net_form.specs.declared.net.MemPair.{MemPair}
use Rattle.net_form.specs.declared.net.Tie.{Tie}
use Rattle.net_form.specs.declared.net.Net.{Net}
use Rattle.net_form.specs.declared.prices.Prices.{Prices}
use Rattle.net_form.specs.Flow.{Edge, same_place}
use Rattle.net_form.specs.Admitted.{uses_memory, uses_bundle, exits_at, enters_at, KeepsTie}
use Rattle.net_form.specs.Admitted.{IsAdmitted}
use Rattle.net_form.specs.Bundles.{bundle_of, comes_to_bundle}
use Rattle.net_dual.specs.Priced.{total, pay, in_any_register, exits, enters, cap_price, mem_price}
use Rattle.net_dual.specs.Priced.{tie_price}
use Rattle.net_dual.specs.Priced.{cap_part, mem_part, exit_part, entry_part, priced}
use Rattle.net_dual.specs.Value.{all_paid}
use Rattle.net_dual.proofs.Totals.{total-add, total-sub, total-le, total-agree, total-swap}
use Rattle.net_dual.proofs.Totals.{total-pay, total-by_key, total-scale}
use Rattle.net_dual.proofs.Totals.{times, times-once, look-up-from, range-sum, enumerated-range}
use Rattle.net_dual.proofs.Keys.{key_once, look-up-place}

module _ (net : Net) (prices : Prices) (f : List Edge) where
  caps_paid : ((n r : ℕ) → count_by (uses_bundle net n r) f ≤ 1)
      → total (cap_part net prices) f ≤ℤ pos (sum prices.caps)
  caps_paid once =
      let keys = range_with_len 0 (length prices.caps) in
      let keyed = total-by_key in_any_register (λ e q. eqb (bundle_of net e) q)
      (λ e. pos (cap_price prices (bundle_of net e))) (λ q. pos (cap_price prices q)) keys
      (λ e. look-up-from (λ q. pos (cap_price prices q)) (bundle_of net e) 0 (length prices.caps)
      (omega arith)
      (λ past. ap pos (get_or_past prices.caps (bundle_of net e) 0 (omega (arith, past))))) f in
      let le = total-le (λ q. times (count_by (comes_to_bundle net q) f) (pos (cap_price prices q)))
      (λ q. pos (cap_price prices q)) keys
      (λ k d lt. times-once _ _ (key_once net f once (get_or keys k d)) (omega (arith, ints))) in
      let sum = range-sum prices.caps in
      omega (arith, ints, keyed, le, sum)

  mems_each : (k : ℕ) (ms : List MemPair) → All (λ m. count_by (uses_memory m) f ≤ 1) ms
      → total (λ m. total (λ e. pay (uses_memory m.1 e) (pos (mem_price prices m.0))) f)
      (enumerate_from k ms)
      ≤ℤ total (λ m. pos (mem_price prices m.0)) (enumerate_from k ms)
  mems_each k [] once = omega (arith, ints)
  mems_each k (m ∷ ms) once =
      let one = total-pay (uses_memory m) (pos (mem_price prices k)) f in
      let le = times-once (count_by (uses_memory m) f) (pos (mem_price prices k))
      (All-head (λ m. count_by (uses_memory m) f ≤ 1) m ms once) (omega (arith, ints)) in
      let more = mems_each (k + 1) ms (All-tail (λ m. count_by (uses_memory m) f ≤ 1) m ms once) in
      omega (arith, ints, one, le, more)

  mem_sum : length prices.mems ≡ length net.pairs
      → total (λ m. pos (mem_price prices m.0)) (enumerate_from 0 net.pairs) ≡ pos (sum prices.mems)
  mem_sum same = enumerated-range (λ q. pos (mem_price prices q)) 0 net.pairs
      ∙ ap (λ n. total (λ q. pos (mem_price prices q)) (range_with_len 0 n)) (sym same)
      ∙ range-sum prices.mems

  mems_paid : length prices.mems ≡ length net.pairs
      → All (λ m. count_by (uses_memory m) f ≤ 1) net.pairs
      → total (mem_part net prices) f ≤ℤ pos (sum prices.mems)
  mems_paid same once =
      let swap = total-swap (λ e m. pay (uses_memory m.1 e) (pos (mem_price prices m.0))) f
      (enumerate_from 0 net.pairs) in
      let each = mems_each 0 net.pairs once in
      let sum = mem_sum same in
      omega (arith, ints, swap, each, sum)

  -- what is paid at the two ends of a tie is the same
  ties_even : (k : ℕ) (ts : List Tie) → All (KeepsTie net f) ts
      → total (λ t. total (λ e. pay (exits net t.1 e) (tie_price prices t.0 e.to)) f)
      (enumerate_from k ts)
      ≡ total (λ t. total (λ e. pay (enters net t.1 e) (tie_price prices t.0 e.to)) f)
      (enumerate_from k ts)
  ties_even k [] even = refl
  ties_even k (t ∷ ts) even =
      let same = All-head (KeepsTie net f) t ts even in
      let one = total-by_key (exits net t) (λ e p. same_place e.to p) (λ e. tie_price prices k e.to)
      (tie_price prices k) all_places
      (λ e. look-up-place (tie_price prices k) e.to) f in
      let two = total-by_key (enters net t) (λ e p. same_place e.to p)
      (λ e. tie_price prices k e.to) (tie_price prices k) all_places
      (λ e. look-up-place (tie_price prices k) e.to) f in
      let counts = total-agree (λ p. times (count_by (exits_at net t p) f) (tie_price prices k p))
      (λ p. times (count_by (enters_at net t p) f) (tie_price prices k p)) all_places
      (λ j d lt. ap (λ n. times n (tie_price prices k (get_or all_places j d)))
      (same (get_or all_places j d))) in
      let more = ties_even (k + 1) ts (All-tail (KeepsTie net f) t ts even) in
      omega (arith, ints, one, two, counts, more)

  pub flow_pays : (cost : Edge → ℕ) → length prices.mems ≡ length net.pairs → IsAdmitted net f
      → total (priced net cost prices) f ≤ℤ (pos (1024 * sum_by cost f) +ℤ pos (all_paid prices))
  flow_pays cost same a =
      let parts = total-add
      (λ e. pos (1024 * cost e) +ℤ (cap_part net prices e +ℤ mem_part net prices e))
      (λ e. exit_part net prices e -ℤ entry_part net prices e) f in
      let left = total-add (λ e. pos (1024 * cost e))
      (λ e. cap_part net prices e +ℤ mem_part net prices e) f in
      let used = total-add (cap_part net prices) (mem_part net prices) f in
      let tied = total-sub (exit_part net prices) (entry_part net prices) f in
      let scaled = total-scale cost f in
      let caps = caps_paid a.bundles in
      let mems = mems_paid same a.pairs in
      let out = total-swap (λ e t. pay (exits net t.1 e) (tie_price prices t.0 e.to)) f
      (enumerate_from 0 net.ties) in
      let in_ = total-swap (λ e t. pay (enters net t.1 e) (tie_price prices t.0 e.to)) f
      (enumerate_from 0 net.ties) in
      let even = ties_even 0 net.ties a.ties in
      omega (arith, ints, parts, left, used, tied, scaled, caps, mems, out, in_, even)
