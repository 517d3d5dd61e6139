-- Marks of a part of the routes, with one strand more or less.
use Rattle.std.proofs.Common.{ℕ, ◌≡◌, ◌≢◌, ◌+◌, ◌<◌, Bool, true, false, not, cond, List, [], ◌∷◌}
use Rattle.std.proofs.Common.{length, filter, sum_by, refl, ap, ◌∙◌, arith}
use Rattle.std.proofs.Common.{inl, inr, ◌⊎◌, ◌≤◌, sym}
use Rattle.std.proofs.Common.{take, drop, get_or}
use Rattle.std.specs.Prelude.{◌||◌, nat_lt}
use Rattle.std.specs.List.{range_with_len, AllPairs}
use Rattle.std.proofs.lemmas.Bool.{cases_eq, cases_lt, eq-eqb, ne_eqb, lt-ltb, le-ltb}
use Rattle.std.proofs.lemmas.List.FromFn.{length-range_with_len, get_or-range_with_len}
use Rattle.std.proofs.lemmas.List.Sums.{sum_by-cons}
use Rattle.net_form.specs.declared.net.Net.{Net}
use Rattle.net_form.specs.declared.routes.Routes.{Routes}
use Rattle.net_form.specs.declared.taken.Taken.{Taken}
use Rattle.net_form.specs.Flow.{Edge, flow, AreRoutes}
use Rattle.net_form.specs.Admitted.{uses_bundle, uses_memory}
use Rattle.net_form.specs.InUse.{StandsFor, UsesOnce, Takes, Releases, pair_at}
use Rattle.net_dual.specs.Paths.{path_edges, path_in}
use Rattle.al_laws.specs.Parts.{part, rest, only_strand, AgreeBut}
use Rattle.al_laws.proofs.Parts.{path_sum, own_sum, part_sum, flow_sum, sum_only, rest_agrees}
use Rattle.al_laws.proofs.Parts.{sum_by-agree}
use Rattle.al_iter.specs.SettleState.{among}
use Rattle.al_iter.proofs.SettleSums.{among_take, among_drop, take_apart, drop_apart}

-- the second test holds of strand s too, and else the two are the same
pub record IsOneMore (s : ℕ) (f g : ℕ → Bool) : Type 0 where
  pub without : f s ≡ false
  pub with_it : g s ≡ true
  pub others : (r : ℕ) → r ≢ s → f r ≡ g r

-- all, and all but one
abbrev pub everyone : ℕ → Bool
everyone s = true

pub all_but_one : (s : ℕ) → IsOneMore s (λ r. not (only_strand s r)) everyone
all_but_one s = record {
  without = ap not (eq-eqb s s refl);
  with_it = refl;
  others = λ r other. ap not (ne_eqb r s other);
}

filter_all : {X : Type 0} (xs : List X) → filter (λ _. true) xs ≡ xs
filter_all [] = refl
filter_all (x ∷ xs) = ap (λ ys. x ∷ ys) (filter_all xs)

pub part_all : (net : Net) (routes : Routes) → part net everyone routes ≡ flow net routes
part_all net routes = filter_all (flow net routes)

row : (a b : Bool) (n : ℕ) (own : Bool) → (own ≡ true → a ≡ false) → (own ≡ true → b ≡ true)
    → (own ≡ false → a ≡ b) → cond b n 0 ≡ cond own n 0 + cond a n 0
row a b n true none some same =
    let x = ap (λ b. cond b n 0) (none refl) in
    let y = ap (λ b. cond b n 0) (some refl) in
    omega (arith, x, y)
row a b n false none some same =
    let x = ap (λ b. cond b n 0) (same refl) in
    omega (arith, x)

module _ (net : Net) (routes : Routes) (has : AreRoutes net routes) (s : ℕ)
    (lt : s < length net.strands) (f g : ℕ → Bool) (more : IsOneMore s f g) where
  sum_more : (h : Edge → ℕ) (xs : List ℕ)
      → own_sum net g h routes xs
      ≡ sum_by (λ r. cond (only_strand s r) (path_sum net h routes r) 0) xs
      + own_sum net f h routes xs
  sum_more h [] = refl
  sum_more h (x ∷ xs) =
      let a = sum_by-cons (λ r. cond (g r) (path_sum net h routes r) 0) x xs in
      let b = sum_by-cons (λ r. cond (only_strand s r) (path_sum net h routes r) 0) x xs in
      let c = sum_by-cons (λ r. cond (f r) (path_sum net h routes r) 0) x xs in
      let here = one x in
      let rest_ = sum_more h xs in
      omega (arith, a, b, c, here, rest_)
    where
      one : (r : ℕ) → cond (g r) (path_sum net h routes r) 0
          ≡ cond (only_strand s r) (path_sum net h routes r) 0
          + cond (f r) (path_sum net h routes r) 0
      one r = elim (cases_eq r s) as (λ _. cond (g r) (path_sum net h routes r) 0
          ≡ cond (only_strand s r) (path_sum net h routes r) 0
          + cond (f r) (path_sum net h routes r) 0) [
            | inl same ↦ row (f r) (g r) (path_sum net h routes r) (only_strand s r)
                (λ _. ap f same ∙ more.without) (λ _. ap g same ∙ more.with_it)
                (λ no_. absurd (true_no (only_strand s r) (eq-eqb r s same) no_))
            | inr other ↦ row (f r) (g r) (path_sum net h routes r) (only_strand s r)
                (λ is. absurd (true_no (only_strand s r) is (ne_eqb r s other)))
                (λ is. absurd (true_no (only_strand s r) is (ne_eqb r s other)))
                (λ _. more.others r other)
          ]
        where
          true_no : (b : Bool) → b ≡ true → b ≡ false → ⊥
          true_no b yes_ no_ = cc

  -- its path is what there is more
  pub part_more : (h : Edge → ℕ)
      → sum_by h (part net g routes) ≡ path_sum net h routes s + sum_by h (part net f routes)
  part_more h =
      let a = part_sum net routes has g h in
      let b = part_sum net routes has f h in
      let c = sum_more h (range_with_len 0 (length net.strands)) in
      let d = sum_only (path_sum net h routes) s 0 (length net.strands) (omega arith)
      (omega (arith, lt)) in
      omega (arith, a, b, c, d)

  pub released : (old new : Taken) → StandsFor net old (part net g routes)
      → Releases net (path_edges net s (path_in routes s)) old new
      → StandsFor net new (part net f routes)
  released old new stood releases = record {
    registers = λ n r.
        let sum = part_more (λ e. cond (uses_bundle net n r e) 1 0) in
        let was = stood.registers n r in
        let now = releases.registers n r in
        omega (arith, sum, was, now);
    pairs = λ k in_.
        let sum = part_more (λ e. cond (uses_memory (pair_at net k) e) 1 0) in
        let was = stood.pairs k in_ in
        let now = releases.pairs k in_ in
        omega (arith, sum, was, now);
  }

  pub taken_again : (old new : Taken) → UsesOnce net (flow net routes)
      → StandsFor net old (part net f routes)
      → Takes net (path_edges net s (path_in routes s)) old new
      → StandsFor net new (part net g routes)
  taken_again old new once stood takes = record {
    registers = λ n r.
        let sum = part_more (λ e. cond (uses_bundle net n r e) 1 0) in
        let all = flow_sum net routes g (λ e. cond (uses_bundle net n r e) 1 0) in
        let few = once.registers n r in
        let was = stood.registers n r in
        let now = takes.registers n r in
        omega (arith, sum, all, few, was, now);
    pairs = λ k in_.
        let sum = part_more (λ e. cond (uses_memory (pair_at net k) e) 1 0) in
        let all = flow_sum net routes g (λ e. cond (uses_memory (pair_at net k) e) 1 0) in
        let few = once.pairs k in_ in
        let was = stood.pairs k in_ in
        let now = takes.pairs k in_ in
        omega (arith, sum, all, few, was, now);
  }

-- where all others go the same way, their marks stand for both
pub marks_agree : (net : Net) (mine : ℕ → Bool) (one two : Routes) → AreRoutes net one
    → AreRoutes net two → AgreeBut mine one two → (taken : Taken)
    → StandsFor net taken (rest net mine one) → StandsFor net taken (rest net mine two)
marks_agree net mine one two a b agree taken stands = record {
  registers = λ n r.
      let same = rest_agrees net mine one two a b agree (λ e. cond (uses_bundle net n r e) 1 0) in
      let was = stands.registers n r in
      omega (arith, same, was);
  pairs = λ k in_.
      let same = rest_agrees net mine one two a b agree
      (λ e. cond (uses_memory (pair_at net k) e) 1 0) in
      let was = stands.pairs k in_ in
      omega (arith, same, was);
}

-- ---- several strands, one after the other

either_same : (a b : Bool) → b ≡ false → (a || b) ≡ a
either_same true b h = refl
either_same false b h = h

either_true : (a b : Bool) → b ≡ true → (a || b) ≡ true
either_true true b h = refl
either_true false b h = h

module _ (strands : List ℕ) (i : ℕ) (rising : AllPairs (λ s r. s < r) strands)
    (lt : i < length strands) where
  -- the first i are out, and one more
  pub one_out_more : IsOneMore (get_or strands i 0) (λ s. not (among (take (i + 1) strands) s))
      (λ s. not (among (take i strands) s))
  one_out_more = record {
    without = ap not (among_take strands i (get_or strands i 0) lt
        ∙ either_true (among (take i strands) (get_or strands i 0)) _
        (eq-eqb (get_or strands i 0) (get_or strands i 0) refl));
    with_it = ap not (take_apart strands i rising lt);
    others = λ r other. ap not (among_take strands i r lt
        ∙ either_same (among (take i strands) r) _ (ne_eqb r (get_or strands i 0) other));
  }

  -- all from number i on are out, or one less
  pub one_in_more : IsOneMore (get_or strands i 0) (λ s. not (among (drop i strands) s))
      (λ s. not (among (drop (i + 1) strands) s))
  one_in_more = record {
    without = ap not (among_drop strands i (get_or strands i 0) lt
        ∙ ap (λ b. b || among (drop (i + 1) strands) (get_or strands i 0))
        (eq-eqb (get_or strands i 0) (get_or strands i 0) refl));
    with_it = ap not (drop_apart strands i rising lt);
    others = λ r other. ap not (among_drop strands i r lt
        ∙ ap (λ b. b || among (drop (i + 1) strands) r) (ne_eqb r (get_or strands i 0) other));
  }

-- ---- the strands of lower numbers

abbrev pub below : ℕ → ℕ → Bool
below n s = nat_lt s n

none_below : (es : List Edge) → filter (λ e. below 0 e.strand) es ≡ []
none_below [] = refl
none_below (e ∷ es) = ap (λ b. cond b (e ∷ filter (λ e. below 0 e.strand) es)
    (filter (λ e. below 0 e.strand) es)) (le-ltb e.strand 0 (omega arith)) ∙ none_below es

pub part_none : (net : Net) (routes : Routes) → part net (below 0) routes ≡ []
part_none net routes = none_below (flow net routes)

pub one_below_more : (s : ℕ) → IsOneMore s (below s) (below (s + 1))
one_below_more s = record {
  without = le-ltb s s (omega arith);
  with_it = lt-ltb s (s + 1) (omega arith);
  others = λ r other. either r other (cases_lt r s);
}
  where
    either : (r : ℕ) → r ≢ s → (r < s) ⊎ (s ≤ r) → below s r ≡ below (s + 1) r
    either r other (inl lt) = lt-ltb r s lt ∙ sym (lt-ltb r (s + 1) (omega (arith, lt)))
    either r other (inr le) = le-ltb r s le ∙ sym (le-ltb r (s + 1) (omega (arith, le, other)))

module _ (net : Net) (routes : Routes) (has : AreRoutes net routes) (n : ℕ)
    (all : length net.strands ≤ n) where
  sum_below : (h : Edge → ℕ) → sum_by h (part net (below n) routes) ≡ sum_by h (flow net routes)
  sum_below h = part_sum net routes has (below n) h
      ∙ sum_by-agree (λ s. cond (below n s) (path_sum net h routes s) 0)
      (λ s. cond (everyone s) (path_sum net h routes s) 0) (range_with_len 0 (length net.strands))
      (λ k d lt.
      let long = length-range_with_len 0 (length net.strands) in
      let in_ : k < length net.strands = omega (arith, lt, long) in
      let at = get_or-range_with_len 0 (length net.strands) k d in_ in
      let s = get_or (range_with_len 0 (length net.strands)) k d in
      ap (λ b. cond b (path_sum net h routes s) 0) (lt-ltb s n (omega (arith, at, in_, all))))
      ∙ sym (part_sum net routes has everyone h)
      ∙ ap (sum_by h) (part_all net routes)

  pub all_below : (t : Taken) → StandsFor net t (part net (below n) routes)
      → StandsFor net t (flow net routes)
  all_below t stands = record {
    registers = λ m r.
        let same = sum_below (λ e. cond (uses_bundle net m r e) 1 0) in
        let was = stands.registers m r in
        omega (arith, same, was);
    pairs = λ k in_.
        let same = sum_below (λ e. cond (uses_memory (pair_at net k) e) 1 0) in
        let was = stands.pairs k in_ in
        omega (arith, same, was);
  }
