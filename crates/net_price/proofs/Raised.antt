-- Prices that are raised, use by use.
use Rattle.std.proofs.Common.{ℕ, zero, suc, ◌≡◌, ◌+◌, ◌-◌, ◌*◌, ◌^◌, ◌<◌, ◌≤◌, Bool, ◌&&◌, eqb}
use Rattle.std.proofs.Common.{List, [], ◌∷◌, ◌++◌, length, get_or, set, take, drop, count_by}
use Rattle.std.proofs.Common.{None, Some, Option, refl, sym, ap, ◌∙◌, arith, add-one, inl, inr}
use Rattle.std.proofs.lemmas.Bool.{cases_eq, cases_lt, eq-eqb, ne_eqb}
use Rattle.std.proofs.lemmas.List.{get_or-set_same, get_or-set_other, get_or_past, take_all}
use Rattle.pra_base.specs.declared.ids.Place.{Place}
use Rattle.pra_base.specs.Places.{number, has_register, register_of}
use Rattle.pra_list.proofs.Counts.{bit, count-cons}
use Rattle.net_form.specs.declared.net.Strand.{Strand}
use Rattle.net_form.specs.declared.net.Net.{Net}
use Rattle.net_form.specs.declared.routes.Routes.{Routes}
use Rattle.net_form.specs.Flow.{Edge, edges, flow_from, HasPlaces, AreRoutes}
use Rattle.net_form.specs.Admitted.{strand_at, no_strand}
use Rattle.net_form.specs.Bundles.{bundle_key, comes_to_bundle}
use Rattle.net_form.specs.Index.{first_layer}
use Rattle.net_form.proofs.TakenFlows.{count-append}
use Rattle.net_dual.specs.Paths.{path_edges, path_in}
use Rattle.net_price.specs.Raised.{raised, AreRaised, AreWords}

-- ---- uses add up

spread : (s a b : ℕ) → s * (a + b) ≡ s * a + s * b
spread s a b = grind arith

pub raised-twice : (s old a b : ℕ) → raised s (raised s old a) b ≡ raised s old (a + b)
raised-twice s old a b = let e = spread s a b in omega (arith, e)

pub raised-none : (s old uses : ℕ) → old < 2 ^ 64 → uses ≡ 0 → raised s old uses ≡ old
raised-none s old uses small none =
    let e : s * uses ≡ s * 0 = ap (λ n. s * n) none in
    omega (arith, e, small)

pub raised-word : (s old uses : ℕ) → raised s old uses < 2 ^ 64
raised-word s old uses = omega arith

pub raised-set : (s : ℕ) (old : List ℕ) (at price : ℕ) → at < length old → AreWords old
    → price ≡ raised s (get_or old at 0) 1
    → AreRaised s (λ k. bit (eqb at k)) old (set old at price)
raised-set s old at price within words is k lt =
    elim (cases_eq k at)
    as (λ _. get_or (set old at price) k 0 ≡ raised s (get_or old k 0) (bit (eqb at k))) [
      | inl same ↦
          let one = ap bit (eq-eqb at k (sym same)) in
          ap (λ n. get_or (set old at price) n 0) same
          ∙ get_or-set_same old at price 0 within ∙ is
          ∙ ap (λ n. raised s (get_or old n 0) 1) (sym same)
          ∙ ap (raised s (get_or old k 0)) (sym one)
      | inr apart ↦
          get_or-set_other old at k price 0 apart
          ∙ sym (raised-none s (get_or old k 0) (bit (eqb at k)) (words k)
          (ap bit (ne_eqb at k (λ e. apart (sym e)))))
    ]

pub words_raised : (s : ℕ) (uses : ℕ → ℕ) (old new : List ℕ) → length new ≡ length old
    → AreRaised s uses old new → AreWords new
words_raised s uses old new long raised k = elim (cases_lt k (length new)) [
  | inl lt ↦
      let is = raised k (omega (arith, lt, long)) in
      let word = raised-word s (get_or old k 0) (uses k) in
      omega (arith, is, word)
  | inr past ↦ let none = get_or_past new k 0 past in omega (arith, none)
]

-- ---- along a path

-- one where who comes to that place at that layer is in the register of this number
abbrev pub place_uses : ℕ → Place → ℕ → ℕ
place_uses layer to k =
    bit (has_register (number to) && eqb (bundle_key layer (register_of (number to))) k)

module _ (net : Net) (k : ℕ) where
  abbrev pub uses : ℕ → ℕ → Option Place → List Place → ℕ
  uses s l p xs = count_by (comes_to_bundle net k) (edges s l p xs)

  uses_from : (s l : ℕ) (p q : Option Place) (xs : List Place) → uses s l p xs ≡ uses s l q xs
  uses_from s l p q [] = refl
  uses_from s l p q (x ∷ xs) =
      let rest = edges s (suc l) (Some x) xs in
      let a = count-cons (comes_to_bundle net k)
      (record { strand = s; layer = l; from = p; to = x }) rest in
      let b = count-cons (comes_to_bundle net k)
      (record { strand = s; layer = l; from = q; to = x }) rest in
      omega (arith, a, b)

  -- the first place of a path, and the others
  pub uses_step : (s l layer : ℕ) (xs : List Place) (d : Place) → 1 ≤ length xs
      → first_layer net.blocks (strand_at net s).block.0 + l ≡ layer
      → uses s l None xs ≡ place_uses layer (get_or xs 0 d) k
      + uses s (l + 1) None (take (length xs - 1) (drop 1 xs))
  uses_step s l layer [] d some at = absurd (omega (arith, some))
  uses_step s l layer (x ∷ xs) d some at =
      let a = count-cons (comes_to_bundle net k)
      (record { strand = s; layer = l; from = None; to = x }) (edges s (suc l) (Some x) xs) in
      let here = ap (λ n. place_uses n x k) at in
      let more = uses_from s (suc l) (Some x) None xs
      ∙ sym (ap (λ n. uses s n None xs) (add-one l))
      ∙ sym (ap (uses s (l + 1) None) (take_all (suc (length xs) - 1) xs (omega arith))) in
      omega (arith, a, here, more)

  pub uses_none : (s l : ℕ) (xs : List Place) → length xs < 1 → uses s l None xs ≡ 0
  uses_none s l [] none = refl
  uses_none s l (x ∷ xs) none = absurd (omega (arith, none))

-- ---- strand by strand

pub flow_next : (n i : ℕ) (ts : List Strand) (rs : List (List Place)) → HasPlaces ts rs
    → i < length ts
    → flow_from n (drop i ts) (drop i rs)
    ≡ edges n (get_or ts i no_strand).first None (get_or rs i [])
    ++ flow_from (suc n) (drop (suc i) ts) (drop (suc i) rs)
flow_next n i [] rs has lt = absurd (omega (arith, lt))
flow_next n i (t ∷ ts) [] has lt = absurd has
flow_next n zero (t ∷ ts) (r ∷ rs) has lt = refl
flow_next n (suc i) (t ∷ ts) (r ∷ rs) has lt = flow_next n i ts rs has.1 (omega (arith, lt))

pub flow_end : (n i : ℕ) (ts : List Strand) (rs : List (List Place)) → length ts ≤ i
    → flow_from n (drop i ts) rs ≡ []
flow_end n zero [] rs past = refl
flow_end n (suc i) [] rs past = refl
flow_end n zero (t ∷ ts) rs past = absurd (omega (arith, past))
flow_end n (suc i) (t ∷ ts) rs past = flow_end n i ts rs (omega (arith, past))

-- how often the strands from number i on pass a test
abbrev pub left : (Edge → Bool) → Net → Routes → ℕ → ℕ
left p net family i =
    count_by p (flow_from i (drop i net.strands) (drop i family.places))

pub left_next : (p : Edge → Bool) (net : Net) (family : Routes) (i : ℕ) → AreRoutes net family
    → i < length net.strands
    → left p net family i ≡ count_by p (path_edges net i (path_in family i))
    + left p net family (i + 1)
left_next p net family i has lt =
    let path = path_edges net i (path_in family i) in
    ap (count_by p) (flow_next i i net.strands family.places has lt)
    ∙ count-append p path
    (flow_from (suc i) (drop (suc i) net.strands) (drop (suc i) family.places))
    ∙ ap (λ n. count_by p path + left p net family n) (sym (add-one i))

pub left_none : (p : Edge → Bool) (net : Net) (family : Routes) (i : ℕ)
    → length net.strands ≤ i → left p net family i ≡ 0
left_none p net family i past =
    ap (count_by p) (flow_end i i net.strands (drop i family.places) past)
