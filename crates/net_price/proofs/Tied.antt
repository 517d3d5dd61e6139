-- The numbers of ties after a step, one by one.
use Rattle.std.proofs.Common.{ℕ, ◌≡◌, ◌+◌, ◌-◌, ◌*◌, ◌/◌, ◌%◌, ◌<◌, ◌≤◌, Bool, true, false, cond}
use Rattle.std.proofs.Common.{ℤ, pos, negsuc, min, All}
use Rattle.std.proofs.Common.{◌+ℤ◌, ◌-ℤ◌, ◌*ℤ◌, ◌≤ℤ◌, ◌^◌, List, length, get_or, slice_get}
use Rattle.std.proofs.Common.{count_by}
use Rattle.std.proofs.Common.{None, Some, sym, ap, ◌∙◌, arith, inl, inr}
use Rattle.std.specs.Int.Signed.{mag}
use Rattle.std.proofs.lemmas.Int.{ints}
use Rattle.std.proofs.lemmas.Bool.{cases_lt, le-leb}
use Rattle.std.proofs.lemmas.List.{get_or_past}
use Rattle.std.proofs.lemmas.Option.{slice_get-get_or}
use Rattle.pra_base.specs.declared.ids.Place.{Place}
use Rattle.pra_list.proofs.Counts.{bit}
use Rattle.pra_list.proofs.Options.{none_some}
use Rattle.net_form.specs.declared.net.Strand.{Strand}
use Rattle.net_form.specs.declared.net.Net.{Net}
use Rattle.net_form.specs.declared.routes.Routes.{Routes}
use Rattle.net_form.specs.Flow.{Edge, flow, arrives, same_place, same_start, AreRoutes}
use Rattle.net_form.specs.Admitted.{strand_at, no_strand, tie_at, no_tie, exits_at, enters_at}
use Rattle.net_form.specs.Cost.{place_on}
use Rattle.net_form.proofs.RoutesCost.{flow_at}
use Rattle.net_laws.specs.Built.{IsBuilt}
use Rattle.net_dual.specs.Paths.{path_in}
use Rattle.net_dual.specs.Priced.{most_price}
use Rattle.net_dual.specs.Step.{clamp, tied_price}
use Rattle.net_dual.proofs.Strands.{each_long}
use Rattle.net_price.specs.Tied.{slot_place, moved_number, next_number}

-- a step up, a step down, both or neither
steps : (s : ℕ) (a b : Bool) → pos s *ℤ (pos (bit a) -ℤ pos (bit b))
    ≡ cond a (pos s) (pos 0) -ℤ cond b (pos s) (pos 0)
steps s true true = grind (arith, ints)
steps s true false = grind (arith, ints)
steps s false true = grind (arith, ints)
steps s false false = grind (arith, ints)

pub clamped : (result number old : ℤ) (s : ℕ) (a b : Bool) → result ≡ clamp number
    → number ≡ (old +ℤ cond a (pos s) (pos 0)) -ℤ cond b (pos s) (pos 0)
    → result ≡ tied_price s old (bit a) (bit b)
clamped result number old s a b is sum =
    let step = steps s a b in
    is ∙ ap clamp (let e : number ≡ old +ℤ (pos s *ℤ (pos (bit a) -ℤ pos (bit b)))
    = omega (arith, ints, sum, step) in e)

-- the flow comes to a place at a layer once, if the path is there, and else not
pub count_there : (net : Net) (family : Routes) → AreRoutes net family → (s l : ℕ) (p q : Place)
    → s < length net.strands → (strand_at net s).first ≤ l → l ≤ (strand_at net s).last
    → p ≡ get_or (path_in family s) (l - (strand_at net s).first) p
    → bit (same_place p q) ≡ count_by (arrives s l q) (flow net family)
count_there net family has s l p q lt after before is =
    let path = path_in family s in
    let first = (strand_at net s).first in
    let long = each_long net family has s lt in
    let some : place_on path first l ≡ Some p
    = ap (λ b. cond b (slice_get path (l - first)) None) (le-leb first l after)
    ∙ slice_get-get_or path (l - first) p (omega (arith, long, after, before))
    ∙ ap Some (sym is) in
    sym (flow_at net.strands family.places has s l q no_strand
    ∙ ap (λ o. bit (same_start o (Some q))) some)

-- the strand to which a tie leads has a group, so it is one of the strands
pub leads_within : (net : Net) → IsBuilt net → (i : ℕ) → i < length net.ties
    → (tie_at net i).to < length net.strands
leads_within net built i lt =
    let to = (tie_at net i).to in
    elim (cases_lt to (length net.strands)) [
      | inl within ↦ within
      | inr past ↦
          absurd (none_some (sym (ap (λ (t : Strand). t.entry_group)
          (get_or_past net.strands to no_strand past)) ∙ (built.ties i no_tie lt).entry_group))
    ]

pub small_number : (z old : ℤ) → z ≡ old → (pos 0 -ℤ pos most_price) ≤ℤ old
    → old ≤ℤ pos most_price → mag z < 2 ^ 63
small_number (pos n) old same low high = omega (arith, ints, same, high)
small_number (negsuc n) old same low high = omega (arith, ints, same, low)

-- ---- what stays

clamp_stays : (z : ℤ) → (pos 0 -ℤ pos most_price) ≤ℤ z → z ≤ℤ pos most_price → clamp z ≡ z
clamp_stays (pos n) low high =
    let e : min n most_price ≡ n = omega (arith, ints, high) in ap pos e
clamp_stays (negsuc n) low high =
    let e : min n (most_price - 1) ≡ n = omega (arith, ints, low) in ap negsuc e

-- where the family leaves and enters, or does neither
no_step : (s : ℕ) (z : ℤ) (a : Bool) → z +ℤ (pos s *ℤ (pos (bit a) -ℤ pos (bit a))) ≡ z
no_step s z true = grind (arith, ints)
no_step s z false = grind (arith, ints)

pub stays : (s : ℕ) (z : ℤ) (a b : Bool) → a ≡ b → (pos 0 -ℤ pos most_price) ≤ℤ z
    → z ≤ℤ pos most_price → tied_price s z (bit a) (bit b) ≡ z
stays s z a b same low high =
    ap (λ b. tied_price s z (bit a) (bit b)) (sym same)
    ∙ ap clamp (no_step s z a) ∙ clamp_stays z low high

-- each number of such a list, and what is read behind it, is in range
pub in_range : (zs : List ℤ) → All (λ z. (pos 0 -ℤ pos most_price) ≤ℤ z) zs
    → All (λ z. z ≤ℤ pos most_price) zs → (k : ℕ)
    → ((pos 0 -ℤ pos most_price) ≤ℤ get_or zs k (pos 0)) × (get_or zs k (pos 0) ≤ℤ pos most_price)
in_range zs least most k =
    elim (cases_lt k (length zs)) [
      | inl lt ↦ (least k (pos 0) lt, most k (pos 0) lt)
      | inr past ↦
          let none = get_or_past zs k (pos 0) past in
          (omega (arith, ints, none), omega (arith, ints, none))
    ]

-- what a number of a tie becomes, by where the family leaves and enters
pub moved_is_next : (net : Net) (f : List Edge) (s t slot : ℕ) (left entered : Place) (z : ℤ)
    → slot < 13
    → ((q : Place) → bit (same_place left q) ≡ count_by (exits_at net (tie_at net t) q) f)
    → ((q : Place) → bit (same_place entered q) ≡ count_by (enters_at net (tie_at net t) q) f)
    → moved_number s left entered slot z ≡ next_number net f s (13 * t + slot) z
moved_is_next net f s t slot left entered z small leaves enters =
    let place = slot_place slot in
    let at : (13 * t + slot) / 13 ≡ t = omega (arith, small) in
    let part : (13 * t + slot) % 13 ≡ slot = omega (arith, small) in
    let price = λ (i j : ℕ). tied_price s z
    (count_by (exits_at net (tie_at net i) (slot_place j)) f)
    (count_by (enters_at net (tie_at net i) (slot_place j)) f) in
    ap (λ n. tied_price s z n (bit (same_place entered place))) (leaves place)
    ∙ ap (tied_price s z (count_by (exits_at net (tie_at net t) place) f)) (enters place)
    ∙ ap (λ i. price i slot) (sym at) ∙ ap (price ((13 * t + slot) / 13)) (sym part)

-- ---- one number after the other

-- the numbers of one tie more are done
pub tie_done : (next : ℕ → ℤ → ℤ) (initial ties new : List ℤ) (t : ℕ)
    → ((k : ℕ) → k < 13 * t → get_or ties k (pos 0) ≡ next k (get_or initial k (pos 0)))
    → ((k : ℕ) → 13 * t ≤ k → get_or ties k (pos 0) ≡ get_or initial k (pos 0))
    → ((k : ℕ) → k < 13 * t → get_or new k (pos 0) ≡ get_or ties k (pos 0))
    → ((j : ℕ) → j < 13 → get_or new (13 * t + j) (pos 0)
    ≡ next (13 * t + j) (get_or ties (13 * t + j) (pos 0)))
    → (k : ℕ) → k < 13 * (t + 1) → get_or new k (pos 0) ≡ next k (get_or initial k (pos 0))
tie_done next initial ties new t done left before moved k lt =
    elim (cases_lt k (13 * t))
    as (λ _. get_or new k (pos 0) ≡ next k (get_or initial k (pos 0))) [
      | inl low ↦ before k low ∙ done k low
      | inr high ↦
          let j : ℕ = k - 13 * t in
          let is : 13 * t + j ≡ k = omega (arith, high) in
          ap (λ n. get_or new n (pos 0)) (sym is)
          ∙ moved j (omega (arith, lt, high))
          ∙ ap (λ n. next n (get_or ties n (pos 0))) is
          ∙ ap (next k) (left k high)
    ]
