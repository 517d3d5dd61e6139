-- Where a variable is present, one of its strands is.
use Rattle.std.proofs.Common.{ℕ, zero, suc, ◌≡◌, ◌+◌, ◌-◌, ◌<◌, ◌≤◌, Bool, true, false, not, ◌&&◌}
use Rattle.std.proofs.Common.{◌||◌, cond, eqb, leb, List, [], ◌∷◌, length, get_or, map, refl, sym}
use Rattle.std.proofs.Common.{ap, ◌∙◌, arith, inl, inr, Some, None}
use Rattle.std.specs.Prelude.{nat_lt}
use Rattle.std.specs.List.{list_any, range_with_len, prefix_len, flat_map, enumerate_from}
use Rattle.std.proofs.lemmas.Bool.{cases_Bool, cases_eq, and_from, and_right, or_left, or_right}
use Rattle.std.proofs.lemmas.Bool.{eq-eqb, le-leb, false≢true}
use Rattle.std.proofs.lemmas.List.{get_or-map, length-map}
use Rattle.std.proofs.lemmas.List.FromFn.{get_or-enumerate_from, length-enumerate_from}
use Rattle.std.proofs.lemmas.List.Folds.{list_any-append}
use Rattle.pra_base.specs.declared.code.VProc.{VProc}
use Rattle.net_form.specs.declared.net.Strand.{Strand}
use Rattle.net_form.specs.declared.net.Tie.{Tie}
use Rattle.net_form.specs.Tables.{all_tables}
use Rattle.net_form.specs.Strands.{Lives, layer_count, is_present, begins, run_from, strand}
use Rattle.net_form.specs.Strands.{begun_strand, layer_strands, block_strands, strands}
use Rattle.net_form.specs.Network.{grouped, stands_for, strand_of}
use Rattle.net_form.specs.Admitted.{no_strand}
use Rattle.net_laws.proofs.Runs.{listed, as_flat}

-- ---- the first that passes

pub first_that : {X : Type 0} (p : X → Bool) (xs : List X) (d : X) → list_any p xs ≡ true
    → (prefix_len (λ x. not (p x)) xs < length xs) ×
    (p (get_or xs (prefix_len (λ x. not (p x)) xs) d) ≡ true)
first_that p [] d any = absurd (false≢true any)
first_that {X} p (x ∷ xs) d any =
    elim (cases_Bool (p x)) as (λ _. (prefix_len (λ x. not (p x)) (x ∷ xs) < length (x ∷ xs)) ×
    (p (get_or (x ∷ xs) (prefix_len (λ x. not (p x)) (x ∷ xs)) d) ≡ true)) [
      | inl is ↦
          let none : prefix_len (λ x. not (p x)) (x ∷ xs) ≡ 0 =
          ap (λ t. cond (not t) (1 + prefix_len (λ x. not (p x)) xs) 0) is in
          (omega (arith, none), ap (λ n. p (get_or (x ∷ xs) n d)) none ∙ is)
      | inr no_ ↦
          let rest = first_that p xs d (sym (ap (λ t. t || list_any p xs) no_) ∙ any) in
          let more : prefix_len (λ x. not (p x)) (x ∷ xs) ≡ suc (prefix_len (λ x. not (p x)) xs) =
          ap (λ t. cond (not t) (1 + prefix_len (λ x. not (p x)) xs) 0) no_
          ∙ one_more (prefix_len (λ x. not (p x)) xs) in
          let lt = rest.0 in
          (omega (arith, more, lt), ap (λ n. p (get_or (x ∷ xs) n d)) more ∙ rest.1)
    ]
  where
    one_more : (n : ℕ) → 1 + n ≡ suc n
    one_more n = omega arith

any_flat : {Y : Type 0} (p : Y → Bool) (f : ℕ → List Y) (k a n : ℕ) → a ≤ k → k < a + n →
    list_any p (f k) ≡ true → list_any p (flat_map f (range_with_len a n)) ≡ true
any_flat p f k a zero le lt any = absurd (omega (arith, le, lt))
any_flat p f k a (suc n) le lt any = list_any-append p (f a) (flat_map f (range_with_len (a + 1) n))
    ∙ elim (cases_eq a k) as
    (λ _. (list_any p (f a) || list_any p (flat_map f (range_with_len (a + 1) n))) ≡ true) [
      | inl same ↦ or_left (list_any p (f a)) (list_any p (flat_map f (range_with_len (a + 1) n)))
          (ap (λ i. list_any p (f i)) same ∙ any)
      | inr other ↦ or_right (list_any p (f a)) (list_any p (flat_map f (range_with_len (a + 1) n)))
          (any_flat p f k (a + 1) n (omega (arith, le, other)) (omega (arith, lt)) any)
    ]

-- what passes up to i, passes for more than i
all_passing : (p : ℕ → Bool) (l n i : ℕ) → i < n → ((m : ℕ) → l ≤ m → m ≤ l + i → p m ≡ true) →
    i < prefix_len p (range_with_len l n)
all_passing p l zero i lt all = absurd (omega (arith, lt))
all_passing p l (suc n) zero lt all = let e =
    ap (λ t. cond t (1 + prefix_len p (range_with_len (l + 1) n)) 0)
    (all l (omega arith) (omega arith)) in omega (arith, e)
all_passing p l (suc n) (suc i) lt all =
    let e = ap (λ t. cond t (1 + prefix_len p (range_with_len (l + 1) n)) 0)
    (all l (omega arith) (omega arith)) in
    let more = all_passing p (l + 1) n i (omega (arith, lt))
    (λ m le small. all m (omega (arith, le)) (omega (arith, small))) in
    omega (arith, e, more)

module _ (code : VProc) (live : Lives) (v b : ℕ) where
  abbrev present : ℕ → Bool
  present l = is_present all_tables code live v b l

  -- where the run that goes on to l begins
  record Begin (l : ℕ) : Type 0 where
    first : ℕ
    before : first ≤ l
    begun : begins all_tables code live v b first ≡ true
    all : (m : ℕ) → first ≤ m → m ≤ l → present m ≡ true

  begin : (l : ℕ) → present l ≡ true → Begin l
  begin zero here = record {
    first = 0;
    before = omega arith;
    begun = and_from (present 0) _ here refl;
    all = λ m le small. ap present (let e : m ≡ 0 = omega (arith, small) in e) ∙ here;
  }
  begin (suc l) here = elim (cases_Bool (present l)) as (λ _. Begin (suc l)) [
    | inl was ↦
        let sooner = begin l was in record {
          first = sooner.first;
          before = let le = sooner.before in omega (arith, le);
          begun = sooner.begun;
          all = λ m le small. elim (cases_eq m (suc l)) as (λ _. present m ≡ true) [
            | inl same ↦ ap present same ∙ here
            | inr other ↦ sooner.all m le (omega (arith, small, other))
          ];
        }
    | inr not_yet ↦ record {
      first = suc l;
      before = omega arith;
      begun = and_from (present (suc l)) _ here
          (ap (λ t. not t) (and_right (nat_lt 0 (suc l)) (present (suc l - 1))
          (ap present (let e : suc l - 1 ≡ l = omega arith in e) ∙ not_yet)));
      all = λ m le small. ap present (let e : m ≡ suc l = omega (arith, le, small) in e) ∙ here;
    }
  ]

  module _ (l : ℕ) (in_vars : v < length code.vars) (in_code : b < length code.blocks)
      (in_block : l < layer_count code b) (here : present l ≡ true) where
    stands : (s : Begin l) → stands_for v b l (strand all_tables code live v b s.first) ≡ true
    stands s =
        let n = layer_count code b - s.first in
        let le = s.before in
        let long = all_passing present s.first n (l - s.first) (omega (arith, in_block, le))
        (λ m from to. s.all m from (omega (arith, le, to))) in
        and_from (eqb v v && eqb b b && leb s.first l)
        (leb l (s.first + run_from all_tables code live v b s.first - 1))
        (and_from (eqb v v && eqb b b) (leb s.first l)
        (and_from (eqb v v) (eqb b b) (eq-eqb v v refl) (eq-eqb b b refl))
        (le-leb s.first l le))
        (le-leb l (s.first + run_from all_tables code live v b s.first - 1)
        (omega (arith, le, long)))

    some_stands : list_any (stands_for v b l) (strands all_tables code live) ≡ true
    some_stands =
        let s = begin l here in
        let le = s.before in
        any_flat (stands_for v b l) (block_strands all_tables code live) b 0 (length code.blocks)
        (omega arith) (omega (arith, in_code))
        (any_flat (stands_for v b l) (layer_strands all_tables code live b) s.first 0
        (layer_count code b) (omega arith) (omega (arith, in_block, le))
        (ap (list_any (stands_for v b l))
        (as_flat (begun_strand all_tables code live b s.first)
        (range_with_len 0 (length code.vars)))
        ∙ any_flat (stands_for v b l) (λ u. listed (begun_strand all_tables code live b s.first u))
        v 0 (length code.vars) (omega arith) (omega (arith, in_vars))
        (ap (λ t. list_any (stands_for v b l)
        (listed (cond t (Some (strand all_tables code live v b s.first)) None))) s.begun
        ∙ or_left (stands_for v b l (strand all_tables code live v b s.first)) false (stands s))))

    -- the strand of the variable at the layer is a strand of the network
    pub found : (ts : List Tie) (least : ℕ → ℕ) → let k = strand_of (strands all_tables code live) v
        b l in
        (k < length (map (grouped ts least) (enumerate_from 0 (strands all_tables code live))))
        × (stands_for v b l (get_or
        (map (grouped ts least) (enumerate_from 0 (strands all_tables code live))) k no_strand)
        ≡ true)
    found ts least =
        let ss = strands all_tables code live in
        let k = strand_of ss v b l in
        let first = first_that (stands_for v b l) ss no_strand some_stands in
        let long = length-map (enumerate_from 0 ss) (grouped ts least) in
        let same = length-enumerate_from 0 ss in
        let lt = first.0 in (
          omega (arith, lt, long, same),
          ap (stands_for v b l) (get_or-map (grouped ts least) (enumerate_from 0 ss) k
              (0, no_strand) no_strand (omega (arith, lt, same)))
              ∙ ap (λ (x : ℕ × Strand). stands_for v b l (grouped ts least x))
              (get_or-enumerate_from 0 ss k (0, no_strand) lt)
              ∙ first.1,
        )
