-- Where routes bring ends of memory pairs and of ties.
use Rattle.std.proofs.Common.{ℕ, ◌≡◌, ◌+◌, ◌<◌, ◌≤◌, Bool, true, false, ◌&&◌, ◌||◌, eqb, List, []}
use Rattle.std.proofs.Common.{◌∷◌, length, get_or, All, count_by, suc, Some, None, Option, refl}
use Rattle.std.proofs.Common.{sym, ap, ◌∙◌, arith, true≢false}
use Rattle.std.specs.Prelude.{nat_lt}
use Rattle.std.proofs.lemmas.List.Elements.{All-head, All-tail, All-weaker}
use Rattle.std.proofs.lemmas.List.FromFn.{length-map-range_with_len, get_or-map-range_with_len}
use Rattle.std.proofs.lemmas.Bool.{and_parts, eqb-true, eq-eqb, lt-ltb}
use Rattle.pra_base.specs.declared.ids.Place.{Place}
use Rattle.pra_base.specs.declared.ids.Place.TheVariants.{Mem}
use Rattle.pra_base.specs.Places.{number, is_mem}
use Rattle.net_form.specs.declared.net.MemPair.{MemPair}
use Rattle.net_form.specs.declared.net.Tie.{Tie}
use Rattle.net_form.specs.declared.net.Net.{Net}
use Rattle.net_form.specs.declared.routes.Routes.{Routes}
use Rattle.net_form.specs.Flow.{Edge, is_at, arrives, flow, AreRoutes, same_start}
use Rattle.net_form.specs.Admitted.{strand_at, no_strand, uses_memory, KeepsTie}
use Rattle.net_form.specs.Cost.{route_at}
use Rattle.net_form.specs.Formed.{IsFormed}
use Rattle.net_form.specs.declared.net.NetIndex.{NetIndex}
use Rattle.pra_list.proofs.Counts.{bit, count-cons, count-yes, count-agree}
use Rattle.net_form.proofs.PlaceEquality.{same_start-true, same_start-refl}
use Rattle.net_form.proofs.RoutesCost.{flow_at}

module _ (net : Net) (routes : Routes) (has : AreRoutes net routes) where
  -- the flow comes to a place as often as the routes have the strand there
  pub arrivals : (s l : ℕ) (q : Place) → count_by (arrives s l q) (flow net routes) ≡
      bit (same_start (route_at net routes s l) (Some q))
  arrivals s l q = flow_at net.strands routes.places has s l q no_strand

  pub arrivals_small : (s l : ℕ) (q : Place) → count_by (arrives s l q) (flow net routes) ≤ 1
  arrivals_small s l q = let is = arrivals s l q in let small =
      bit_small (same_start (route_at net routes s l) (Some q)) in omega (arith, is, small)
    where
      bit_small : (b : Bool) → bit b ≤ 1
      bit_small true = omega arith
      bit_small false = omega arith

  -- ---- ties

  pub tie_kept : (t : Tie) → same_start (route_at net routes t.from (strand_at net t.from).last)
      (route_at net routes t.to (strand_at net t.to).first) ≡ true
      → KeepsTie net (flow net routes) t
  tie_kept t same q =
      arrivals t.from (strand_at net t.from).last q
      ∙ ap (λ o. bit (same_start o (Some q))) (same_start-true _ _ same)
      ∙ sym (arrivals t.to (strand_at net t.to).first q)

  pub kept_tie : (t : Tie) → KeepsTie net (flow net routes) t
      → same_start (route_at net routes t.from (strand_at net t.from).last)
      (route_at net routes t.to (strand_at net t.to).first) ≡ true
  kept_tie t keeps = agree (route_at net routes t.from (strand_at net t.from).last)
      (route_at net routes t.to (strand_at net t.to).first) (λ q.
      sym (arrivals t.from (strand_at net t.from).last q) ∙ keeps q
      ∙ arrivals t.to (strand_at net t.to).first q)
    where
      one_bit : (b : Bool) → 1 ≡ bit b → b ≡ true
      one_bit true h = refl
      one_bit false h = absurd (omega (arith, h))

      agree : (x y : Option Place) →
          ((q : Place) → bit (same_start x (Some q)) ≡ bit (same_start y (Some q))) →
          same_start x y ≡ true
      agree None None h = refl
      agree None (Some q) h = absurd (let e = h q in let r = ap bit (same_start-refl (Some q)) in
          omega (arith, e, r))
      agree (Some p) y h =
          let r = ap bit (same_start-refl (Some p)) in
          let is = same_start-true y (Some p) (one_bit (same_start y (Some p)) (sym r ∙ h p)) in
          ap (same_start (Some p)) is ∙ same_start-refl (Some p)

-- ---- how many ties there are

count-all : {X : Type 0} (p : X → Bool) → (xs : List X) → All (λ x. p x ≡ true) xs → count_by p xs ≡
    length xs
count-all p [] h = refl
count-all p (x ∷ xs) h = count-yes p x xs (All-head (λ x. p x ≡ true) x xs h) ∙ ap (λ n. 1 + n)
    (count-all p xs (All-tail (λ x. p x ≡ true) x xs h)) ∙ one_more (length xs)
  where
    one_more : (n : ℕ) → 1 + n ≡ suc n
    one_more n = omega arith

module _ (net : Net) (formed : IsFormed net) where
  pub exits_long : length net.index.exits ≡ length net.strands + 1
  exits_long = ap (λ (i : NetIndex). length i.exits) formed.index
      ∙ length-map-range_with_len (λ s. count_by (λ (t : Tie). nat_lt t.from s) net.ties) 0
      (length net.strands + 1)

  pub exits_end : get_or net.index.exits (length net.strands) 0 ≡ length net.ties
  exits_end = ap (λ (i : NetIndex). get_or i.exits (length net.strands) 0) formed.index
      ∙ get_or-map-range_with_len (λ s. count_by (λ (t : Tie). nat_lt t.from s) net.ties) 0
      (length net.strands + 1) (length net.strands) (length net.strands) 0 (omega arith)
      (omega arith)
      ∙ count-all (λ (t : Tie). nat_lt t.from (length net.strands)) net.ties
      (All-weaker (λ (t : Tie). t.from < length net.strands)
      (λ t. nat_lt t.from (length net.strands) ≡ true)
      (λ t lt. lt-ltb t.from (length net.strands) lt) net.ties formed.ties)

-- ---- memory pairs

both : (a b c : Bool) → (a ≡ true → b ≡ true → ⊥) → bit ((a || b) && c) ≡ bit (a && c) + bit
    (b && c)
both true true c apart = absurd (apart refl refl)
both true false c apart = omega arith
both false b c apart = omega arith

once : (a b c : Bool) → a ≡ b → ((a || b) && c) ≡ (a && c)
once true b c same = refl
once false b c same = ap (λ b. b && c) (sym same)

abbrev is_one : MemPair → Bool
is_one m = eqb m.left m.right && eqb m.left_layer m.right_layer

module _ (m : MemPair) where
  abbrev left : Edge → Bool
  left e = is_at m.left m.left_layer e

  abbrev right : Edge → Bool
  right e = is_at m.right m.right_layer e

  abbrev in_memory : Edge → Bool
  in_memory e = is_mem (number e.to)

  -- two ends are apart
  apart : is_one m ≡ false → (e : Edge) → left e ≡ true → right e ≡ true → ⊥
  apart two e l r =
      let a = and_parts (eqb e.strand m.left) (eqb e.layer m.left_layer) l in
      let b = and_parts (eqb e.strand m.right) (eqb e.layer m.right_layer) r in
      let s = sym (eqb-true e.strand m.left a.0) ∙ eqb-true e.strand m.right b.0 in
      let k = sym (eqb-true e.layer m.left_layer a.1) ∙ eqb-true e.layer m.right_layer b.1 in
      true≢false (sym (ap (λ b. b && eqb m.left_layer m.right_layer) (eq-eqb m.left m.right s)
      ∙ eq-eqb m.left_layer m.right_layer k) ∙ two)

  pub two_ends : is_one m ≡ false → (f : List Edge)
      → count_by (uses_memory m) f ≡ count_by (arrives m.left m.left_layer Mem) f + count_by
      (arrives m.right m.right_layer Mem) f
  two_ends two [] = refl
  two_ends two (e ∷ f) =
      let all = count-cons (uses_memory m) e f in
      let one = count-cons (arrives m.left m.left_layer Mem) e f in
      let other = count-cons (arrives m.right m.right_layer Mem) e f in
      let here = both (left e) (right e) (in_memory e) (apart two e) in
      let more = two_ends two f in
      omega (arith, all, one, other, here, more)

  pub one_end : is_one m ≡ true → (f : List Edge) → count_by (uses_memory m) f ≡
      count_by (arrives m.left m.left_layer Mem) f
  one_end one f = count-agree (uses_memory m) (arrives m.left m.left_layer Mem) f (λ k d lt.
      let e : Edge = get_or f k d in
      let is = and_parts (eqb m.left m.right) (eqb m.left_layer m.right_layer) one in
      once (left e) (right e) (in_memory e)
      (ap (λ s. eqb e.strand s && eqb e.layer m.left_layer) (eqb-true m.left m.right is.0)
      ∙ ap (λ l. eqb e.strand m.right && eqb e.layer l)
      (eqb-true m.left_layer m.right_layer is.1)))
