-- Priced sums of the paths of a built network are small.
use Rattle.std.proofs.Common.{ℕ, suc, ◌≡◌, ◌+◌, ◌*◌, ◌<◌, ◌≤◌, Bool, true, false, ◌&&◌, ◌||◌, not}
use Rattle.std.proofs.Common.{cond, eqb, pos, ◌+ℤ◌, ◌-ℤ◌}
use Rattle.std.proofs.Common.{List, [], ◌∷◌, length, get_or, All, count_by, sum_by, Option, Some}
use Rattle.std.proofs.Common.{None, refl, sym, ap, ◌∙◌, subst, arith, inl, inr}
use Rattle.std.specs.List.{enumerate_from}
use Rattle.std.proofs.lemmas.Bool.{and_parts, and_from, eqb-true, eq-eqb, cases_Bool, cases_lt}
use Rattle.std.proofs.lemmas.Bool.{or_cases, or_left, or_right, false_from_ne_true, false≢true}
use Rattle.std.proofs.lemmas.List.{get_or_past}
use Rattle.std.proofs.lemmas.List.Elements.{All-head, All-tail}
use Rattle.std.proofs.lemmas.List.Sums.{sum_by-append, sum_by-cons}
use Rattle.pra_base.specs.declared.ids.Place.{Place}
use Rattle.pra_base.specs.Places.{number, has_register, is_mem, needs_slot, register_of}
use Rattle.pra_list.proofs.Counts.{count-none}
use Rattle.pl_moves.specs.Crossbar.{crossbar, brings, only_if, store_event, load_event}
use Rattle.net_cost.specs.declared.event.Event.TheVariants.{E0, E1, E2, E3, E4, E5}
use Rattle.net_cost.specs.declared.weights.Weights.{Weights}
use Rattle.net_cost.specs.Weights.{IsValid, weight_at, most_weight}
use Rattle.net_cost.proofs.Powers.{weight_of-le}
use Rattle.net_form.specs.declared.net.Net.{Net}
use Rattle.net_form.specs.declared.net.NetBlock.{NetBlock}
use Rattle.net_form.specs.declared.net.Extra.{Extra}
use Rattle.net_form.specs.declared.net.MemPair.{MemPair}
use Rattle.net_form.specs.declared.net.Tie.{Tie}
use Rattle.net_form.specs.declared.prices.Prices.{Prices}
use Rattle.net_form.specs.Flow.{Edge, edges, is_at}
use Rattle.net_form.specs.Admitted.{strand_at, uses_memory, is_across}
use Rattle.net_form.specs.Bundles.{bundle_of}
use Rattle.net_form.specs.Cost.{depth_at, events_weight, events_from, way_cost, extras_cost}
use Rattle.net_form.specs.Cost.{extra_cost, is_extra_at}
use Rattle.net_form.specs.Formed.{no_block, most_layers}
use Rattle.net_form.specs.Index.{is_end}
use Rattle.net_form.specs.Tables.{all_tables}
use Rattle.net_form.proofs.ExtrasInOrder.{apart_places}
use Rattle.net_form.proofs.Layers.{in_layers}
use Rattle.net_form.proofs.Paths.{of_path}
use Rattle.net_form.proofs.RoutesConserve.{at_most_once}
use Rattle.net_laws.specs.Built.{IsBuilt, goes_from}
use Rattle.net_laws.proofs.PairsApart.{count_few}
use Rattle.net_laws.proofs.Arrivals.{few_arrivals, leads_to_strand}
use Rattle.net_laws.proofs.TieCounts.{count_either}
use Rattle.net_dual.specs.Priced.{total, pay, most_price, cap_price, mem_price, tie_price, tie_slot}
use Rattle.net_dual.specs.Priced.{number_at_slot, in_any_register, exits, enters}
use Rattle.net_dual.specs.Priced.{cap_part, mem_part, exit_part, entry_part, cost_by_weights}
use Rattle.net_dual.specs.Priced.{edge_price, AreInRange}
use Rattle.net_dual.specs.Paths.{path_edges, path_price, IsPath}
use Rattle.net_dual.specs.Small.{IsWithin, most_of_path, most_sum}
use Rattle.net_dual.proofs.Within.{within-more, within-add, within-sub, within-pos, within-pay}
use Rattle.net_dual.proofs.Within.{within-total, sum_passing, sum_once, count-numbered}

-- what passes the one test passes the other
count_more : {X : Type 0} (p q : X → Bool) (xs : List X) → All (λ x. p x ≡ true → q x ≡ true) xs
    → count_by p xs ≤ count_by q xs
count_more p q xs h =
    let either = count_either p q (λ _. false) xs (λ k d lt is. inl (h k d lt is)) in
    let none = count-none (λ _. false) xs (λ k d lt. refl) in
    omega (arith, either, none)

listed_most : (xs : List ℕ) (n k : ℕ) → All (λ x. x ≤ n) xs → get_or xs k 0 ≤ n
listed_most xs n k all = elim (cases_lt k (length xs)) as (λ _. get_or xs k 0 ≤ n) [
  | inl lt ↦ all k 0 lt
  | inr le ↦ let past = get_or_past xs k 0 le in omega (arith, past)
]

-- ---- costs

module _ (w : Weights) (valid : IsValid w) (d : ℕ) (depth : d ≤ 5) where
  one_event : (b : Bool) (n : ℕ) → weight_at w n d ≤ most_weight
      → events_weight w d (only_if b n) ≤ most_weight
  one_event true n le = let sum = sum_by-cons (λ n. weight_at w n d) n [] in omega (arith, sum, le)
  one_event false n le = omega arith

  load_small : (near : Bool) → weight_at w (load_event near) d ≤ most_weight
  load_small true = weight_of-le w E1 d valid depth
  load_small false = weight_of-le w E3 d valid depth

  store_small : (near : Bool) → weight_at w (store_event near) d ≤ most_weight
  store_small true = weight_of-le w E2 d valid depth
  store_small false = weight_of-le w E4 d valid depth

  brings_small : (near : Bool) (p q : ℕ) → events_weight w d (brings near p q) ≤ most_weight
  brings_small near p q = by (has_register p) (needs_slot p)
    where
      by : (a b : Bool)
          → events_weight w d (cond a (only_if (not (eqb (register_of p) (register_of q))) 0)
          (cond b (load_event near ∷ []) (5 ∷ []))) ≤ most_weight
      by true b = one_event (not (eqb (register_of p) (register_of q))) 0
          (weight_of-le w E0 d valid depth)
      by false true = one_event true (load_event near) (load_small near)
      by false false = one_event true 5 (weight_of-le w E5 d valid depth)

  crossbar_small : (near : Bool) (p q : ℕ) → events_weight w d (crossbar near p q) ≤ 2 * most_weight
  crossbar_small near p q =
      let sum = sum_by-append (λ n. weight_at w n d) (cond (has_register q) (brings near p q) [])
      (only_if (needs_slot q && not (needs_slot p)) (store_event near)) in
      let one = by (has_register q) in
      let two = one_event (needs_slot q && not (needs_slot p)) (store_event near) (store_small near)
      in
      omega (arith, sum, one, two)
    where
      by : (b : Bool) → events_weight w d (cond b (brings near p q) []) ≤ most_weight
      by true = brings_small near p q
      by false = omega arith

module _ (net : Net) (built : IsBuilt net) (w : Weights) (valid : IsValid w) where
  depth_small : (s : ℕ) → depth_at net s ≤ 5
  depth_small s = elim (cases_lt (strand_at net s).block.0 (length net.blocks))
      as (λ _. depth_at net s ≤ 5) [
        | inl lt ↦ built.formed.depths (strand_at net s).block.0 no_block lt
        | inr le ↦ let past = ap (λ (b : NetBlock). b.depth)
            (get_or_past net.blocks (strand_at net s).block.0 no_block le) in omega (arith, past)
      ]

  way_small : (e : Edge) → way_cost all_tables net w e ≤ 2 * most_weight
  way_small e = by e.from
    where
      across : (b : Bool) (p : Place)
          → events_weight w (depth_at net e.strand)
          (cond b [] (crossbar net.near (number p) (number e.to))) ≤ 2 * most_weight
      across true p = omega arith
      across false p = crossbar_small w valid (depth_at net e.strand) (depth_small e.strand)
          net.near (number p) (number e.to)

      by : (o : Option Place)
          → events_weight w (depth_at net e.strand) (events_from all_tables net e o)
          ≤ 2 * most_weight
      by None = let le = one_event w valid (depth_at net e.strand) (depth_small e.strand)
          ((strand_at net e.strand).constant && has_register (number e.to)) 5
          (weight_of-le w E5 (depth_at net e.strand) valid (depth_small e.strand)) in
          omega (arith, le)
      by (Some p) = across (is_across e) p

  -- an extra at most is met
  extras_small : (s l : ℕ) (p : Place) → extras_cost net w s l p ≤ most_weight
  extras_small s l p =
      let one = count_few (is_extra_at s l p) net.extras (λ i j d lt in_ x y.
      apart_places s l p (get_or net.extras i d) (get_or net.extras j d)
      (built.in_order.extras i j d lt in_) x y) in
      let once = sum_once (is_extra_at s l p) most_weight net.extras one in
      let less = sum_less net.extras in
      omega (arith, once, less)
    where
      paid : (b : Bool) (x : Extra) → cond b (extra_cost net w x) 0 ≤ cond b most_weight 0
      paid true x = weight_of-le w x.event (depth_at net x.strand) valid (depth_small x.strand)
      paid false x = omega arith

      sum_less : (xs : List Extra)
          → sum_by (λ x. cond (is_extra_at s l p x) (extra_cost net w x) 0) xs ≤ sum_by
          (λ x. cond (is_extra_at s l p x) most_weight 0) xs
      sum_less [] = omega arith
      sum_less (x ∷ xs) =
          let a = sum_by-cons (λ x. cond (is_extra_at s l p x) (extra_cost net w x) 0) x xs in
          let b = sum_by-cons (λ x. cond (is_extra_at s l p x) most_weight 0) x xs in
          let one = paid (is_extra_at s l p x) x in
          let more = sum_less xs in
          omega (arith, a, b, one, more)

  pub cost_small : (e : Edge) → cost_by_weights net w e ≤ 3 * most_weight
  cost_small e =
      let way = way_small e in
      let extras = extras_small e.strand e.layer e.to in
      omega (arith, way, extras)

-- ---- prices

module _ (net : Net) (built : IsBuilt net) (prices : Prices) (range : AreInRange net prices) where
  pub cap_small : (k : ℕ) → cap_price prices k ≤ most_price
  cap_small k = listed_most prices.caps most_price k range.most_cap

  pub mem_small : (k : ℕ) → mem_price prices k ≤ most_price
  mem_small k = listed_most prices.mems most_price k range.most_mem

  pub tie_small : (i : ℕ) (p : Place) → IsWithin most_price (tie_price prices i p)
  tie_small i p = by (tie_slot p)
    where
      by : (o : Option ℕ) → IsWithin most_price (number_at_slot prices.ties i o)
      by None = within-pos 0 most_price (omega arith)
      by (Some j) = elim (cases_lt (13 * i + j) (length prices.ties))
          as (λ _. IsWithin most_price (number_at_slot prices.ties i (Some j))) [
            | inl lt ↦ record {
              low = range.least_tie (13 * i + j) (pos 0) lt;
              high = range.most_tie
                  (13 * i + j) (pos 0) lt;
            }
            | inr le ↦ subst (IsWithin most_price)
                (sym (get_or_past prices.ties (13 * i + j) (pos 0) le))
                (within-pos 0 most_price (omega arith))
          ]

  cap_part_small : (e : Edge) → IsWithin most_price (cap_part net prices e)
  cap_part_small e = paid (in_any_register e)
    where
      paid : (b : Bool) → IsWithin most_price (pay b (pos (cap_price prices (bundle_of net e))))
      paid true = within-pos (cap_price prices (bundle_of net e)) most_price
          (cap_small (bundle_of net e))
      paid false = within-pos 0 most_price (omega arith)

  -- a pair at most is used
  pair_end : (e : Edge) (m : MemPair) → uses_memory m e ≡ true → is_end e.strand e.layer m ≡ true
  pair_end e m h = elim (or_cases (is_at m.left m.left_layer e) (is_at m.right m.right_layer e)
      (and_parts (is_at m.left m.left_layer e || is_at m.right m.right_layer e)
      (is_mem (number e.to)) h).0)
      as (λ _. is_end e.strand e.layer m ≡ true) [
        | inl left ↦ let p = and_parts (eqb e.strand m.left) (eqb e.layer m.left_layer) left in
            or_left (eqb m.left e.strand && eqb m.left_layer e.layer)
            (eqb m.right e.strand && eqb m.right_layer e.layer)
            (and_from (eqb m.left e.strand) (eqb m.left_layer e.layer)
            (eq-eqb m.left e.strand (sym (eqb-true e.strand m.left p.0)))
            (eq-eqb m.left_layer e.layer (sym (eqb-true e.layer m.left_layer p.1))))
        | inr right ↦ let p = and_parts (eqb e.strand m.right) (eqb e.layer m.right_layer) right in
            or_right (eqb m.left e.strand && eqb m.left_layer e.layer)
            (eqb m.right e.strand && eqb m.right_layer e.layer)
            (and_from (eqb m.right e.strand) (eqb m.right_layer e.layer)
            (eq-eqb m.right e.strand (sym (eqb-true e.strand m.right p.0)))
            (eq-eqb m.right_layer e.layer (sym (eqb-true e.layer m.right_layer p.1))))
      ]

  mem_part_small : (e : Edge) → IsWithin most_price (mem_part net prices e)
  mem_part_small e =
      let within = within-total (λ (m : ℕ × MemPair). pay (uses_memory m.1 e)
      (pos (mem_price prices m.0))) (λ m. cond (uses_memory m.1 e) most_price 0)
      (enumerate_from 0 net.pairs)
      (λ k d lt. let m = get_or (enumerate_from 0 net.pairs) k d in within-pay (uses_memory m.1 e)
      most_price (pos (mem_price prices m.0)) (within-pos (mem_price prices m.0) most_price
      (mem_small m.0))) in
      let few = count_more (λ m. uses_memory m e) (is_end e.strand e.layer) net.pairs
      (λ k d lt. pair_end e (get_or net.pairs k d)) in
      let numbered = count-numbered (λ (m : MemPair). uses_memory m e) 0 net.pairs in
      let one = built.one_end e.strand e.layer in
      let once = sum_once (λ (m : ℕ × MemPair). uses_memory m.1 e) most_price
      (enumerate_from 0 net.pairs) (omega (arith, few, numbered, one)) in
      within-more _ most_price (mem_part net prices e) once within

  -- the ties of a test, of which so many pass
  ties_small : (test : Tie → Bool) (p : Place) (n : ℕ) → count_by test net.ties ≤ n
      → IsWithin (most_price * n) (total (λ t. pay (test t.1) (tie_price prices t.0 p))
      (enumerate_from 0 net.ties))
  ties_small test p n few =
      let within = within-total (λ (t : ℕ × Tie). pay (test t.1) (tie_price prices t.0 p))
      (λ t. cond (test t.1) most_price 0) (enumerate_from 0 net.ties)
      (λ k d lt. let t = get_or (enumerate_from 0 net.ties) k d in within-pay (test t.1) most_price
      (tie_price prices t.0 p) (tie_small t.0 p)) in
      let sum = sum_passing (λ (t : ℕ × Tie). test t.1) (enumerate_from 0 net.ties) in
      let numbered = count-numbered test 0 net.ties in
      within-more _ (most_price * n) _ (omega (arith, sum, numbered, few)) within

  exit_small : (e : Edge)
      → IsWithin (cond (eqb e.layer (strand_at net e.strand).last) (2 * most_price) 0)
      (exit_part net prices e)
  exit_small e = elim (cases_Bool (eqb e.layer (strand_at net e.strand).last))
      as (λ _. IsWithin (cond (eqb e.layer (strand_at net e.strand).last) (2 * most_price) 0)
      (exit_part net prices e)) [
        | inl last ↦ subst (λ b. IsWithin (cond b (2 * most_price) 0) (exit_part net prices e))
            (sym last)
            (within-more (most_price * 2) (2 * most_price) (exit_part net prices e) (omega arith)
            (ties_small (λ t. exits net t e) e.to 2
            (let few = count_more (λ t. exits net t e) (goes_from e.strand) net.ties
            (λ k d lt h. from_it (get_or net.ties k d) h) in let two = built.exits e.strand in
            omega (arith, few, two))))
        | inr no_ ↦ subst (λ b. IsWithin (cond b (2 * most_price) 0) (exit_part net prices e))
            (sym no_)
            (within-more (most_price * 0) 0 (exit_part net prices e) (omega arith)
            (ties_small (λ t. exits net t e) e.to 0
            (let none = count-none (λ t. exits net t e) net.ties
            (λ k d lt. false_from_ne_true (exits net (get_or net.ties k d) e)
            (λ h. false≢true (sym no_ ∙ at_last (get_or net.ties k d) h))) in
            omega (arith, none))))
      ]
    where
      from_it : (t : Tie) → exits net t e ≡ true → goes_from e.strand t ≡ true
      from_it t h = eq-eqb t.from e.strand
          (sym (eqb-true e.strand t.from
          (and_parts (eqb e.strand t.from) (eqb e.layer (strand_at net t.from).last) h).0))

      at_last : (t : Tie) → exits net t e ≡ true → eqb e.layer (strand_at net e.strand).last ≡ true
      at_last t h = let p = and_parts (eqb e.strand t.from)
          (eqb e.layer (strand_at net t.from).last) h in
          ap (λ s. eqb e.layer (strand_at net s).last) (eqb-true e.strand t.from p.0) ∙ p.1

  entry_small : (e : Edge)
      → IsWithin (cond (eqb e.layer (strand_at net e.strand).first) (4098 * most_price) 0)
      (entry_part net prices e)
  entry_small e = elim (cases_Bool (eqb e.layer (strand_at net e.strand).first))
      as (λ _. IsWithin (cond (eqb e.layer (strand_at net e.strand).first) (4098 * most_price) 0)
      (entry_part net prices e)) [
        | inl first ↦ subst (λ b. IsWithin (cond b (4098 * most_price) 0) (entry_part net prices e))
            (sym first)
            (within-more (most_price * 4098) (4098 * most_price) (entry_part net prices e)
            (omega arith)
            (ties_small (λ t. enters net t e) e.to 4098
            (let few = count_more (λ t. enters net t e) (leads_to_strand e.strand) net.ties
            (λ k d lt h. to_it (get_or net.ties k d) h) in let most = few_arrivals net built
            e.strand in omega (arith, few, most))))
        | inr no_ ↦ subst (λ b. IsWithin (cond b (4098 * most_price) 0) (entry_part net prices e))
            (sym no_)
            (within-more (most_price * 0) 0 (entry_part net prices e) (omega arith)
            (ties_small (λ t. enters net t e) e.to 0
            (let none = count-none (λ t. enters net t e) net.ties
            (λ k d lt. false_from_ne_true (enters net (get_or net.ties k d) e)
            (λ h. false≢true (sym no_ ∙ at_first (get_or net.ties k d) h))) in
            omega (arith, none))))
      ]
    where
      to_it : (t : Tie) → enters net t e ≡ true → leads_to_strand e.strand t ≡ true
      to_it t h = eq-eqb t.to e.strand
          (sym (eqb-true e.strand t.to
          (and_parts (eqb e.strand t.to) (eqb e.layer (strand_at net t.to).first) h).0))

      at_first : (t : Tie) → enters net t e ≡ true
          → eqb e.layer (strand_at net e.strand).first ≡ true
      at_first t h = let p = and_parts (eqb e.strand t.to) (eqb e.layer (strand_at net t.to).first)
          h in
          ap (λ s. eqb e.layer (strand_at net s).first) (eqb-true e.strand t.to p.0) ∙ p.1

  -- ---- an edge, and a path

  module _ (w : Weights) (valid : IsValid w) where
    abbrev exit_most : Edge → ℕ
    exit_most e = cond (eqb e.layer (strand_at net e.strand).last) (2 * most_price) 0

    abbrev entry_most : Edge → ℕ
    entry_most e = cond (eqb e.layer (strand_at net e.strand).first) (4098 * most_price) 0

    pub edge_small : (e : Edge)
        → IsWithin (8 * most_price + (exit_most e + entry_most e)) (edge_price net w prices e)
    edge_small e =
        let cost = cost_small net built w valid e in
        within-more ((6 * most_price + (most_price + most_price)) + (exit_most e + entry_most e))
        (8 * most_price + (exit_most e + entry_most e)) (edge_price net w prices e)
        (omega arith)
        (within-add (6 * most_price + (most_price + most_price)) (exit_most e + entry_most e)
        (pos (1024 * cost_by_weights net w e) +ℤ
        (cap_part net prices e +ℤ mem_part net prices e))
        (exit_part net prices e -ℤ entry_part net prices e)
        (within-add (6 * most_price) (most_price + most_price)
        (pos (1024 * cost_by_weights net w e)) (cap_part net prices e +ℤ mem_part net prices e)
        (within-pos (1024 * cost_by_weights net w e) (6 * most_price) (omega (arith, cost)))
        (within-add most_price most_price (cap_part net prices e) (mem_part net prices e)
        (cap_part_small e) (mem_part_small e)))
        (within-sub (exit_most e) (entry_most e) (exit_part net prices e) (entry_part net prices e)
        (exit_small e) (entry_small e)))

    module _ (s : ℕ) where
      exit_at : (x : ℕ) (k : ℕ) (l : ℕ) (p : Option Place) (ps : List Place)
          → sum_by (λ e. cond (eqb e.layer x) k 0) (edges s l p ps) ≤ k
      exit_at x k l p ps = sum_once (λ (e : Edge). eqb e.layer x) k (edges s l p ps)
          (at_most_once (λ (e : Edge). eqb e.layer x) s l p ps
          (λ a b _ _ one two. eqb-true a.layer x one ∙ sym (eqb-true b.layer x two)))

      sums : (f g : Edge → ℕ) (es : List Edge)
          → sum_by (λ e. 8 * most_price + (f e + g e)) es ≡ 8 * most_price * length
          es + (sum_by f es + sum_by g es)
      sums f g [] = refl
      sums f g (e ∷ es) =
          let a = sum_by-cons (λ e. 8 * most_price + (f e + g e)) e es in
          let b = sum_by-cons f e es in
          let c = sum_by-cons g e es in
          let more = sums f g es in
          omega (arith, a, b, c, more)

      length-edges : (l : ℕ) (p : Option Place) (ps : List Place)
          → length (edges s l p ps) ≡ length ps
      length-edges l p [] = refl
      length-edges l p (q ∷ qs) = ap suc (length-edges (suc l) (Some q) qs)

      same_sum : (f g : Edge → ℕ) (es : List Edge) → All (λ e. f e ≡ g e) es
          → sum_by f es ≡ sum_by g es
      same_sum f g [] h = refl
      same_sum f g (e ∷ es) h =
          let a = sum_by-cons f e es in
          let b = sum_by-cons g e es in
          let one = All-head (λ e. f e ≡ g e) e es h in
          let more = same_sum f g es (All-tail (λ e. f e ≡ g e) e es h) in
          omega (arith, a, b, one, more)

      pub path_small : (ps : List Place)
          → IsWithin (most_of_path (length ps) * most_price)
          (path_price net (edge_price net w prices) s ps)
      path_small ps =
          let t = strand_at net s in
          let es = path_edges net s ps in
          let within = within-total (edge_price net w prices)
          (λ e. 8 * most_price + (exit_most e + entry_most e)) es
          (λ k d lt. edge_small (get_or es k d)) in
          let sum = sums exit_most entry_most es in
          let long = length-edges t.first None ps in
          let of = of_path s t.first None ps in
          let out = same_sum exit_most (λ e. cond (eqb e.layer t.last) (2 * most_price) 0) es
          (λ k d lt. ap (λ r. cond (eqb (get_or es k d).layer (strand_at net r).last)
          (2 * most_price) 0) (of k d lt).strand) in
          let in_ = same_sum entry_most (λ e. cond (eqb e.layer t.first) (4098 * most_price) 0) es
          (λ k d lt. ap (λ r. cond (eqb (get_or es k d).layer (strand_at net r).first)
          (4098 * most_price) 0) (of k d lt).strand) in
          let two = exit_at t.last (2 * most_price) t.first None ps in
          let many = exit_at t.first (4098 * most_price) t.first None ps in
          within-more _ (most_of_path (length ps) * most_price) _
          (omega (arith, sum, long, out, in_, two, many)) within

pub part_is_small : (net : Net) (w : Weights) (prices : Prices) (s : ℕ) (ps : List Place)
    → IsBuilt net → IsValid w → AreInRange net prices
    → length ps ≤ most_layers → IsWithin most_sum (path_price net (edge_price net w prices) s ps)
part_is_small net w prices s ps built valid range few =
    within-more (most_of_path (length ps) * most_price) most_sum _ (omega (arith, few))
    (path_small net built prices range w valid s ps)

pub path_is_small : (net : Net) (w : Weights) (prices : Prices) (s : ℕ) (ps : List Place)
    → IsBuilt net → IsValid w → AreInRange net prices
    → s < length net.strands → IsPath net s ps
    → IsWithin most_sum (path_price net (edge_price net w prices) s ps)
path_is_small net w prices s ps built valid range lt path =
    let within = in_layers net built.formed s lt in
    let layers = built.formed.layers in
    let long = path.long in
    part_is_small net w prices s ps built valid range (omega (arith, within, layers, long))
