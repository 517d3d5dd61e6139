-- The lists of a network stand in order.
use Rattle.std.proofs.Common.{ℕ, suc, ◌≡◌, ◌+◌, ◌<◌, ◌≤◌, Bool, true, false, cond, List, [], ◌∷◌}
use Rattle.std.proofs.Common.{◌++◌, length, get_or, All, Option, Some, None, refl, sym, ap, ◌∙◌}
use Rattle.std.proofs.Common.{subst, arith}
use Rattle.std.specs.Prelude.{IfSome}
use Rattle.std.specs.List.{AllPairs, flat_map, filter_map, enumerate_from, cons_option}
use Rattle.std.proofs.lemmas.List.Elements.{All-append, All-head, All-tail, All-weaker, All-cons}
use Rattle.std.proofs.lemmas.List.Elements.{All-nil}
use Rattle.std.proofs.lemmas.List.Kept.{AllPairs-cons}
use Rattle.std.proofs.lemmas.List.FromFn.{length-enumerate_from, get_or-enumerate_from}
use Rattle.std.proofs.lemmas.List.{length-map, get_or-map, get_or_default}
use Rattle.pra_list.proofs.Comprehensions.{All-filter_map, All-flat_map, IfSome-test}
use Rattle.pra_base.specs.declared.ids.Place.{Place}
use Rattle.pra_base.specs.declared.ids.Place.TheVariants.{Mem, Const}
use Rattle.pra_base.specs.Places.{number, allows}
use Rattle.pra_base.specs.declared.code.VProc.{VProc}
use Rattle.net_cost.specs.declared.event.Event.{Event}
use Rattle.net_form.specs.declared.net.Strand.{Strand}
use Rattle.net_form.specs.declared.net.Extra.{Extra}
use Rattle.net_form.specs.declared.net.Tie.{Tie}
use Rattle.net_form.specs.declared.net.Net.{Net}
use Rattle.net_form.specs.Admitted.{no_strand}
use Rattle.net_form.specs.Strands.{Lives, beside, strands}
use Rattle.net_form.specs.Network.{extra_of, extra_at, event_beside, priced_places, extras}
use Rattle.net_form.specs.Network.{is_joined, ties_from, ties, grouped, net_of, IsNetBy}
use Rattle.net_form.specs.Tables.{PlaceTables}
use Rattle.net_form.proofs.NetworkFormed.{strands_are_formed}
use Rattle.net_form.specs.Ordered.{ExtraBefore, IsExtraOf}
use Rattle.net_form.specs.Ordered.ExtraBefore.{strand, layer, place}
use Rattle.net_laws.specs.Ordered.{TieBefore, IsInOrder}
use Rattle.net_laws.specs.Ordered.TieBefore.{from, to}

-- ---- pairs of the elements of comprehensions

-- the numbers of an enumeration
pub numbers_from : {A : Type 0} (n : ℕ) (xs : List A) → All (λ (s : ℕ × A). n ≤ s.0)
    (enumerate_from n xs)
numbers_from n [] = All-nil _
numbers_from {A} n (x ∷ xs) =
    All-cons (λ (s : ℕ × A). n ≤ s.0) (n, x) (enumerate_from (n + 1) xs) (omega arith)
    (All-weaker (λ (s : ℕ × A). n + 1 ≤ s.0) (λ (s : ℕ × A). n ≤ s.0) (λ s le. omega (arith, le))
    (enumerate_from (n + 1) xs) (numbers_from (n + 1) xs))

pub numbers_below : {A : Type 0} (n : ℕ) (xs : List A) → All (λ (s : ℕ × A). s.0 < n + length xs)
    (enumerate_from n xs)
numbers_below n [] = All-nil _
numbers_below {A} n (x ∷ xs) =
    All-cons (λ (s : ℕ × A). s.0 < n + suc (length xs)) (n, x) (enumerate_from (n + 1) xs)
    (omega arith)
    (All-weaker (λ (s : ℕ × A). s.0 < (n + 1) + length xs)
    (λ (s : ℕ × A). s.0 < n + suc (length xs)) (λ s lt. omega (arith, lt))
    (enumerate_from (n + 1) xs) (numbers_below (n + 1) xs))

module _ {X : Type 0} (R : X → X → Type 0) where
  pub none : AllPairs R []
  none i j d lt in_ = absurd (omega (arith, in_))

  pub joined : (xs ys : List X) → AllPairs R xs → AllPairs R ys → All (λ x. All (R x) ys) xs →
      AllPairs R (xs ++ ys)
  joined [] ys one two cross = two
  joined (x ∷ xs) ys one two cross =
      AllPairs-cons R x (xs ++ ys)
      (All-append (R x) xs ys (λ k d lt. one 0 (suc k) d (omega arith) (omega (arith, lt)))
      (All-head (λ x. All (R x) ys) x xs cross))
      (joined xs ys (λ i j d lt in_. one (suc i) (suc j) d (omega (arith, lt)) (omega (arith, in_)))
      two (All-tail (λ x. All (R x) ys) x xs cross))

  -- what each element of an enumeration brings has its number as its key
  pub by_key : {A : Type 0} (P : X → Type 0) (key : X → ℕ) →
      ((x y : X) → P x → P y → key x < key y → R x y) → (f : ℕ × A → List X)
      → ((s : ℕ × A) → All (λ x. P x × (key x ≡ s.0)) (f s)) → ((s : ℕ × A) → AllPairs R (f s)) →
      (n : ℕ) (xs : List A) → AllPairs R (flat_map f (enumerate_from n xs))
  by_key P key apart f has each n [] = none
  by_key {A} P key apart f has each n (a ∷ more) =
      joined (f (n, a)) (flat_map f (enumerate_from (n + 1) more)) (each (n, a))
      (by_key P key apart f has each (n + 1) more) (λ k d lt.
      let x = get_or (f (n, a)) k d in
      let here = has (n, a) k d lt in
      let at = here.1 in
      All-flat_map (R x) f (enumerate_from (n + 1) more)
      (All-weaker (λ (s : ℕ × A). n + 1 ≤ s.0) (λ (s : ℕ × A). All (R x) (f s)) (λ s le m e in_.
      let there = has s m e in_ in
      let after = there.1 in
      apart x (get_or (f s) m e) here.0 there.0 (omega (arith, at, after, le)))
      (enumerate_from (n + 1) more) (numbers_from (n + 1) more)))

-- ---- extras

record Stands (s l : ℕ) (p : Place) (x : Extra) : Type 0 where
  of_strand : x.strand ≡ s
  at_layer : x.layer ≡ l
  at_place : x.place ≡ p

module _ (tables : PlaceTables) (code : VProc) where
  stands_at : (allowed : Bool) (e : Option Event) (s l : ℕ) (p : Place) →
      IfSome (cond allowed (extra_of s l p e) None) (Stands s l p)
  stands_at false e s l p = tt
  stands_at true None s l p = tt
  stands_at true (Some e) s l p = record { of_strand = refl; at_layer = refl; at_place = refl }

  stands : (s : ℕ) (t : Strand) (at : ℕ × ℕ) (p : Place) → IfSome (extra_at tables code s t at p)
      (Stands s at.0 p)
  stands s t at p = stands_at (allows at.1 (number p))
      (event_beside tables code t.var.0 at.0 p (beside code t.block.0 at.0)) s at.0 p

  abbrev of_layer : ℕ → Strand → ℕ × ℕ → List Extra
  of_layer s t at = filter_map (extra_at tables code s t at) priced_places

  abbrev of_strand_ : ℕ × Strand → List Extra
  of_strand_ s = flat_map (of_layer s.0 s.1) (enumerate_from s.1.first s.1.masks)

  record IsOf (s l : ℕ) (x : Extra) : Type 0 where
    of_strand : x.strand ≡ s
    at_layer : x.layer ≡ l

  weaker_some : {X : Type 0} (P Q : X → Type 0) → ((x : X) → P x → Q x) → (o : Option X) →
      IfSome o P → IfSome o Q
  weaker_some P Q gives None is = tt
  weaker_some P Q gives (Some x) is = gives x is

  layer_is : (s : ℕ) (t : Strand) (at : ℕ × ℕ) → All (IsOf s at.0) (of_layer s t at)
  layer_is s t at = All-filter_map (IsOf s at.0) (extra_at tables code s t at) priced_places
      (λ k d lt.
      let p = get_or priced_places k d in
      weaker_some (Stands s at.0 p) (IsOf s at.0)
      (λ x is. record { of_strand = is.of_strand; at_layer = is.at_layer })
      (extra_at tables code s t at p) (stands s t at p))

  two : (s l : ℕ) (a b : Option Extra) → IfSome a (Stands s l Mem) → IfSome b (Stands s l Const) →
      AllPairs ExtraBefore (cons_option a (cons_option b []))
  two s l None None one other = none ExtraBefore
  two s l None (Some y) one other = AllPairs-cons ExtraBefore y [] (All-nil (ExtraBefore y))
      (none ExtraBefore)
  two s l (Some x) None one other = AllPairs-cons ExtraBefore x [] (All-nil (ExtraBefore x))
      (none ExtraBefore)
  two s l (Some x) (Some y) one other =
      let p = ap number one.at_place in
      let q = ap number other.at_place in
      AllPairs-cons ExtraBefore x (y ∷ [])
      (All-cons (ExtraBefore x) y []
      (place (one.of_strand ∙ sym other.of_strand) (one.at_layer ∙ sym other.at_layer)
      (omega (arith, p, q))) (All-nil (ExtraBefore x)))
      (AllPairs-cons ExtraBefore y [] (All-nil (ExtraBefore y)) (none ExtraBefore))

  layer_in_order : (s : ℕ) (t : Strand) (at : ℕ × ℕ) → AllPairs ExtraBefore (of_layer s t at)
  layer_in_order s t at = two s at.0 (extra_at tables code s t at Mem)
      (extra_at tables code s t at Const) (stands s t at Mem) (stands s t at Const)

  strand_is : (s : ℕ × Strand) → All (λ x. Unit {0} × (x.strand ≡ s.0)) (of_strand_ s)
  strand_is s = All-flat_map (λ (x : Extra). Unit {0} × (x.strand ≡ s.0)) (of_layer s.0 s.1)
      (enumerate_from s.1.first s.1.masks) (λ k d lt.
      let at = get_or (enumerate_from s.1.first s.1.masks) k d in
      All-weaker (IsOf s.0 at.0) (λ (x : Extra). Unit {0} × (x.strand ≡ s.0))
      (λ x is. (tt, is.of_strand)) (of_layer s.0 s.1 at) (layer_is s.0 s.1 at))

  strand_in_order : (s : ℕ × Strand) → AllPairs ExtraBefore (of_strand_ s)
  strand_in_order s = by_key ExtraBefore (λ x. x.strand ≡ s.0) (λ x. x.layer)
      (λ x y one other lt. layer (one ∙ sym other) lt) (of_layer s.0 s.1)
      (λ at. All-weaker (IsOf s.0 at.0) (λ (x : Extra). (x.strand ≡ s.0) × (x.layer ≡ at.0))
      (λ x is. (is.of_strand, is.at_layer)) (of_layer s.0 s.1 at) (layer_is s.0 s.1 at))
      (layer_in_order s.0 s.1) s.1.first s.1.masks

  pub extras_in_order : (ss : List Strand) → AllPairs ExtraBefore (extras tables code ss)
  extras_in_order ss = by_key ExtraBefore (λ x. Unit {0}) (λ x. x.strand)
      (λ x y one other lt. strand lt) of_strand_ strand_is strand_in_order 0 ss

-- ---- ties

module _ (code : VProc) where
  abbrev tie : ℕ × Strand → ℕ × Strand → Option Tie
  tie s t = cond (is_joined code s.1 t.1) (Some (record { from = s.0; to = t.0 })) None

  tie_is : (s t : ℕ × Strand) → IfSome (tie s t) (λ x. (x.from ≡ s.0) × (x.to ≡ t.0))
  tie_is s t = IfSome-test (λ (x : Tie). (x.from ≡ s.0) × (x.to ≡ t.0)) (is_joined code s.1 t.1)
      (record { from = s.0; to = t.0 }) (λ _. (refl, refl))

  from_is : (s : ℕ × Strand) (ss : List (ℕ × Strand)) → All (λ x. Unit {0} × (x.from ≡ s.0))
      (filter_map (tie s) ss)
  from_is s ss = All-filter_map (λ (x : Tie). Unit {0} × (x.from ≡ s.0)) (tie s) ss (λ k d lt.
      IfSome-test (λ (x : Tie). Unit {0} × (x.from ≡ s.0)) (is_joined code s.1 (get_or ss k d).1)
      (record { from = s.0; to = (get_or ss k d).0 }) (λ _. (tt, refl)))

  -- ties from one strand, by the strands that they go to
  from_in_order : (s : ℕ × Strand) (n : ℕ) (ss : List Strand) →
      AllPairs TieBefore (filter_map (tie s) (enumerate_from n ss))
  from_in_order s n [] = none TieBefore
  from_in_order s n (t ∷ ts) = by (tie s (n, t)) (tie_is s (n, t)) (from_in_order s (n + 1) ts)
    where
      later : (x : Tie) → x.from ≡ s.0 → x.to ≡ n →
          All (TieBefore x) (filter_map (tie s) (enumerate_from (n + 1) ts))
      later x at on = All-filter_map (TieBefore x) (tie s) (enumerate_from (n + 1) ts)
          (All-weaker (λ (u : ℕ × Strand). n + 1 ≤ u.0)
          (λ (u : ℕ × Strand). IfSome (tie s u) (TieBefore x)) (λ u le.
          IfSome-test (TieBefore x) (is_joined code s.1 u.1) (record { from = s.0; to = u.0 })
          (λ _. to at (omega (arith, on, le))))
          (enumerate_from (n + 1) ts) (numbers_from (n + 1) ts))

      by : (o : Option Tie) → IfSome o (λ x. (x.from ≡ s.0) × (x.to ≡ n)) →
          AllPairs TieBefore (filter_map (tie s) (enumerate_from (n + 1) ts))
          → AllPairs TieBefore (cons_option o (filter_map (tie s) (enumerate_from (n + 1) ts)))
      by None is more = more
      by (Some x) is more = AllPairs-cons TieBefore x
          (filter_map (tie s) (enumerate_from (n + 1) ts)) (later x is.0 is.1) more

  pub ties_in_order : (ss : List Strand) → AllPairs TieBefore (ties code ss)
  ties_in_order ss = by_key TieBefore (λ x. Unit {0}) (λ x. x.from) (λ x y one other lt. from lt)
      (ties_from code ss)
      (λ s. from_is s (enumerate_from 0 ss)) (λ s. from_in_order s 0 ss) 0 ss

-- ---- what extras and ties name is there

module _ (tables : PlaceTables) (code : VProc) (ss : List Strand) where
  record IsWithin (x : Extra) : Type 0 where
    named : x.strand < length ss
    after : (get_or ss x.strand no_strand).first ≤ x.layer
    before : x.layer < (get_or ss x.strand no_strand).first + length
        (get_or ss x.strand no_strand).masks

  of_number : (n k : ℕ) (t : Strand) → n ≡ k → k < length ss → get_or ss k no_strand ≡ t →
      All IsWithin (of_strand_ tables code (n, t))
  of_number n k t same lt is = All-flat_map IsWithin (of_layer tables code n t)
      (enumerate_from t.first t.masks) (λ j e in_.
      let long = length-enumerate_from t.first t.masks in
      let at = get_or (enumerate_from t.first t.masks) j e in
      let low = numbers_from t.first t.masks j e in_ in
      let high = numbers_below t.first t.masks j e in_ in
      All-weaker (IsOf tables code n at.0) IsWithin (λ x of_.
      let s = of_.of_strand in
      let l = of_.at_layer in
      let here : get_or ss x.strand no_strand ≡ t = ap (λ i. get_or ss i no_strand) (s ∙ same)
      ∙ is in
      let first = ap (λ (u : Strand). u.first) here in
      let masks = ap (λ (u : Strand). length u.masks) here in record {
        named = omega (arith, s, same, lt);
        after = omega (arith, first, l, low);
        before = omega (arith, first, masks, l, high);
      }) (of_layer tables code n t at) (layer_is tables code n t at))

  extras_within : All IsWithin (extras tables code ss)
  extras_within = All-flat_map IsWithin (of_strand_ tables code) (enumerate_from 0 ss) (λ k d in_.
      let long = length-enumerate_from 0 ss in
      let lt : k < length ss = omega (arith, in_, long) in
      subst (λ s. All IsWithin (of_strand_ tables code s)) (sym (get_or-enumerate_from 0 ss k d lt))
      (of_number (0 + k) k (get_or ss k d.1) (omega arith) lt
      (get_or_default ss k no_strand d.1 lt)))

ties_within : (code : VProc) (ss : List Strand) → All (λ t. t.to < length ss) (ties code ss)
ties_within code ss = All-flat_map (λ (t : Tie). t.to < length ss) (ties_from code ss)
    (enumerate_from 0 ss) (λ k d in_.
    let s = get_or (enumerate_from 0 ss) k d in
    All-filter_map (λ (t : Tie). t.to < length ss) (tie code s) (enumerate_from 0 ss)
    (All-weaker (λ (u : ℕ × Strand). u.0 < 0 + length ss)
    (λ (u : ℕ × Strand). IfSome (tie code s u) (λ (t : Tie). t.to < length ss)) (λ u lt.
    IfSome-test (λ (t : Tie). t.to < length ss) (is_joined code s.1 u.1)
    (record { from = s.0; to = u.0 }) (λ _. omega (arith, lt)))
    (enumerate_from 0 ss) (numbers_below 0 ss)))

module _ (tables : PlaceTables) (code : VProc) (live : Lives) (least : ℕ → ℕ) where
  abbrev ss : List Strand
  ss = strands tables code live

  abbrev m : Net
  m = net_of tables code live least

  long : length m.strands ≡ length ss
  long = length-map (enumerate_from 0 ss) (grouped (ties code ss) least)
      ∙ length-enumerate_from 0 ss

  grouped_is : (k : ℕ) → k < length ss → get_or m.strands k no_strand ≡ grouped (ties code ss) least
      (0 + k, get_or ss k no_strand)
  grouped_is k lt =
      let same = length-enumerate_from 0 ss in
      get_or-map (grouped (ties code ss) least) (enumerate_from 0 ss) k (0, no_strand) no_strand
      (omega (arith, lt, same))
      ∙ ap (grouped (ties code ss) least) (get_or-enumerate_from 0 ss k (0, no_strand) lt)

  net_in_order : IsInOrder m
  net_in_order = record {
    extras = extras_in_order tables code ss;
    there = All-weaker (IsWithin tables code ss) (IsExtraOf m) (λ x w.
        let same = grouped_is x.strand w.named in
        let first = ap (λ (u : Strand). u.first) same in
        let last = ap (λ (u : Strand). u.last) same in
        let run = (strands_are_formed tables code live x.strand no_strand w.named).masks in
        let after = w.after in
        let before = w.before in
        let named = w.named in record {
          strand = omega (arith, long, named);
          after = omega (arith, first, after);
          before = omega (arith, last, run, before);
        }) (extras tables code ss) (extras_within tables code ss);
    ties = ties_in_order code ss;
    targets = All-weaker (λ (t : Tie). t.to < length ss) (λ (t : Tie). t.to < length m.strands)
        (λ t lt. omega (arith, lt, long)) (ties code ss) (ties_within code ss);
  }

pub in_order : (tables : PlaceTables) (code : VProc) (net : Net) → IsNetBy tables code net →
    IsInOrder net
in_order tables code net is = subst IsInOrder (sym is.is)
    (net_in_order tables code is.live is.least)
