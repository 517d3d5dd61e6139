-- A path that stays in memory and meets no extra costs nothing, and is a least one.
use Rattle.std.proofs.Common.{ℕ, suc, ◌≡◌, ◌+◌, ◌<◌, Bool, true, false, cond, List, [], ◌∷◌}
use Rattle.std.proofs.Common.{length, get_or, Option, None, Some, All, refl, subst, sym, arith}
use Rattle.std.proofs.Common.{inl, inr, ℤ, pos, ◌*◌, ◌∙◌, IsTrue, replicate}
use Rattle.std.specs.List.{enumerate_from}
use Rattle.std.proofs.lemmas.Int.{ints}
use Rattle.std.proofs.lemmas.Bool.{cases_lt}
use Rattle.std.proofs.lemmas.List.{get_or-replicate, get_or_past, length-replicate}
use Rattle.std.specs.Prelude.{sum_by}
use Rattle.std.proofs.lemmas.List.Elements.{All-tail}
use Rattle.std.proofs.lemmas.List.Sums.{sum_by-cons}
use Rattle.pra_base.specs.declared.ids.Place.{Place}
use Rattle.pra_base.specs.declared.ids.Place.TheVariants.{Mem}
use Rattle.net_cost.specs.declared.weights.Weights.{Weights}
use Rattle.net_form.specs.declared.net.Net.{Net}
use Rattle.net_form.specs.Admitted.{strand_at, is_across}
use Rattle.net_form.specs.Cost.{way_cost, events_weight, depth_at}
use Rattle.net_form.specs.Formed.{IsFormed}
use Rattle.net_form.specs.Flow.{Edge, edges}
use Rattle.net_form.specs.Tables.{all_tables, begun}
use Rattle.net_form.specs.declared.routes.Ends.{Ends}
use Rattle.net_form.specs.Rooms.{zero_prices}
use Rattle.net_laws.specs.Built.{IsBuilt}
use Rattle.net_dual.specs.Priced.{cost_by_weights, total, pay, number_at_slot, tie_slot, exits}
use Rattle.net_dual.specs.Priced.{enters, exit_part, entry_part}
use Rattle.net_dual.proofs.Ranges.{zero_in_range}
use Rattle.net_dual.proofs.Totals.{total-agree, total-nothing}
use Rattle.net_path.specs.Grounds.{edge, wants}
use Rattle.net_path.specs.Passing.{AsksLeast, IsLeastAnyhow, exit_pay, entry_pay}
use Rattle.net_path.proofs.InMemory.{no_extras, least_anyhow}
use Rattle.al_iter.specs.Staying.{StaysFree}

-- who begins in memory or stays there pays nothing for the way
begun_free : (w : Weights) (depth : ℕ) (b : Bool) → events_weight w depth (begun b Mem) ≡ 0
begun_free w depth true = refl
begun_free w depth false = refl

begins_free : (net : Net) (w : Weights) (s l : ℕ)
    → way_cost all_tables net w (record { strand = s; layer = l; from = None; to = Mem }) ≡ 0
begins_free net w s l = begun_free w (depth_at net s) (strand_at net s).constant

no_events : (w : Weights) (depth : ℕ) (b : Bool) → events_weight w depth (cond b [] []) ≡ 0
no_events w depth true = refl
no_events w depth false = refl

stays_free : (net : Net) (w : Weights) (s l : ℕ)
    → way_cost all_tables net w (record { strand = s; layer = l; from = Some Mem; to = Mem }) ≡ 0
stays_free net w s l = no_events w (depth_at net s)
    (is_across (record { strand = s; layer = l; from = Some Mem; to = Mem }))

module _ (net : Net) (w : Weights) (formed : IsFormed net) (s : ℕ) (lt : s < length net.strands)
    (none : get_or net.index.extras (s + 1) 0 ≡ get_or net.index.extras s 0) where
  abbrev cost : Edge → ℕ
  cost e = cost_by_weights net w e

  pays_nothing : (p : Option Place) (l : ℕ) (ps : List Place)
      → ((l : ℕ) → way_cost all_tables net w
      (record { strand = s; layer = l; from = p; to = Mem }) ≡ 0)
      → All (λ q. q ≡ Mem) ps → sum_by cost (edges s l p ps) ≡ 0
  pays_nothing p l [] free all = refl
  pays_nothing p l (q ∷ qs) free all = subst
      (λ (r : Place). sum_by cost (edges s l p (r ∷ qs)) ≡ 0) (sym (all 0 q (omega arith)))
      (let one = free l in
      let extras = no_extras net w s l Mem formed lt none in
      let more = pays_nothing (Some Mem) (suc l) qs (stays_free net w s)
      (All-tail (λ (q : Place). q ≡ Mem) q qs all) in
      let split = sum_by-cons cost (record { strand = s; layer = l; from = p; to = Mem })
      (edges s (suc l) (Some Mem) qs) in
      omega (arith, one, extras, more, split))

  pub in_memory_free : (l : ℕ) (ps : List Place) → All (λ p. p ≡ Mem) ps
      → sum_by cost (edges s l None ps) ≡ 0
  in_memory_free l ps all = pays_nothing None l ps (begins_free net w s) all

-- ---- at prices of nothing a strand that passes by has no cheaper path

none_in_all : {X : Type 0} (f : X → ℤ) (xs : List X) → ((x : X) → f x ≡ pos 0) → total f xs ≡ pos 0
none_in_all f xs none = total-agree f (λ x. pos 0) xs (λ k d lt. none (get_or xs k d))
    ∙ total-nothing xs

pay_none : (b : Bool) (z : ℤ) → z ≡ pos 0 → pay b z ≡ pos 0
pay_none true z h = h
pay_none false z h = refl

none_there : (n k : ℕ) → get_or (replicate n (pos 0)) k (pos 0) ≡ pos 0
none_there n k = elim (cases_lt k n) as (λ _. get_or (replicate n (pos 0)) k (pos 0) ≡ pos 0) [
  | inl lt ↦ get_or-replicate n k (pos 0) (pos 0) lt
  | inr le ↦ get_or_past (replicate n (pos 0)) k (pos 0)
      (let long = length-replicate n (pos 0) in omega (arith, long, le))
]

module _ (net : Net) where
  slot_none : (i : ℕ) (o : Option ℕ) → number_at_slot (zero_prices net).ties i o ≡ pos 0
  slot_none i None = refl
  slot_none i (Some j) = none_there (13 * length net.ties) (13 * i + j)

  exit_none : (e : Edge) → exit_part net (zero_prices net) e ≡ pos 0
  exit_none e = none_in_all _ (enumerate_from 0 net.ties)
      (λ t. pay_none (exits net t.1 e) _ (slot_none t.0 (tie_slot e.to)))

  entry_none : (e : Edge) → entry_part net (zero_prices net) e ≡ pos 0
  entry_none e = none_in_all _ (enumerate_from 0 net.ties)
      (λ t. pay_none (enters net t.1 e) _ (slot_none t.0 (tie_slot e.to)))

  exit_pays : (s : ℕ) (q : Place) → exit_pay net (zero_prices net) s q ≡ pos 0
  exit_pays s q = exit_none (edge s (strand_at net s).last None q)

  entry_pays : (s : ℕ) (q : Place) → entry_pay net (zero_prices net) s q ≡ pos 0
  entry_pays s q = let none = entry_none (edge s (strand_at net s).first None q) in
      omega (arith, ints, none)

  asks_none : (end : Option Place) (pays : Place → ℤ) → ((q : Place) → pays q ≡ pos 0)
      → IsTrue (wants end Mem) → AsksLeast end pays (pos 0)
  asks_none end pays none suits = record {
    suits = suits;
    least = λ q _. let is = none q in omega (arith, ints, is);
    is = sym (none Mem);
  }

  pub stays_least : (built : IsBuilt net) (ends : Ends) (s : ℕ) → s < length net.strands
      → (ps : List Place) → (strand_at net s).first + length ps ≡ (strand_at net s).last + 1
      → StaysFree net ends s ps → IsLeastAnyhow net (zero_prices net) ends s ps (pos 0)
  stays_least built ends s lt ps long free =
      least_anyhow net built (zero_prices net) (zero_in_range net) ends s lt ps (pos 0) long
      free.memory free.by (record {
        exit = pos 0;
        entry = pos 0;
        at_exit = asks_none ends.last (exit_pay net (zero_prices net) s) (exit_pays s) free.last;
        at_entry = asks_none ends.first (entry_pay net (zero_prices net) s) (entry_pays s)
            free.first;
        is = refl;
      })
