-- The strands of a network stand by block, first layer and variable, and two of one variable in one
-- block are apart.
use Rattle.std.proofs.Common.{ℕ, suc, ◌≡◌, ◌+◌, ◌<◌, ◌≤◌, true, leb, List, [], ◌∷◌, length, get_or}
use Rattle.std.proofs.Common.{All, map, Option, Some, None, refl, sym, ap, ◌∙◌, subst, arith, inl}
use Rattle.std.proofs.Common.{inr}
use Rattle.std.specs.Prelude.{IfSome}
use Rattle.std.specs.List.{AllPairs, range_with_len, flat_map, enumerate_from}
use Rattle.std.proofs.lemmas.Bool.{and_from, le-leb, cases_lt}
use Rattle.std.proofs.lemmas.List.{get_or-map, length-map, get_or_default}
use Rattle.std.proofs.lemmas.List.Elements.{All-nil, All-cons, All-head, All-tail}
use Rattle.std.proofs.lemmas.List.FromFn.{get_or-enumerate_from, length-enumerate_from}
use Rattle.std.proofs.lemmas.List.FromFn.{get_or-range_with_len, length-range_with_len}
use Rattle.std.proofs.lemmas.List.Kept.{AllPairs-cons}
use Rattle.pra_list.proofs.Comprehensions.{All-flat_map, All-range, IfSome-test}
use Rattle.pra_base.specs.declared.code.VProc.{VProc}
use Rattle.net_form.specs.declared.net.Strand.{Strand}
use Rattle.net_form.specs.declared.net.Tie.{Tie}
use Rattle.net_form.specs.Tables.{all_tables}
use Rattle.net_form.specs.Strands.{Lives, layer_count, begins, strand, begun_strand, layer_strands}
use Rattle.net_form.specs.Strands.{block_strands, strands}
use Rattle.net_form.specs.Network.{grouped}
use Rattle.net_form.specs.Admitted.{no_strand}
use Rattle.net_laws.specs.Built.{StrandBefore, EndsBefore}
use Rattle.net_laws.specs.Built.StrandBefore.{block, layer, var}
use Rattle.net_laws.specs.Homes.{is_there}
use Rattle.net_laws.proofs.Ordered.{none, joined}
use Rattle.net_laws.proofs.Runs.{IsRun, net_runs, net_one_start, one_strand, listed, as_flat}

-- ---- pairs of the elements of what numbered things list

pub in_order_by : {K X : Type 0} (R : X → X → Type 0) (P : X → Type 0) (number : K → ℕ) (key : X
    → ℕ)
    → ((x y : X) → P x → P y → key x < key y → R x y) → (f : K → List X) (ks : List K)
    → AllPairs (λ i j. number i < number j) ks
    → All (λ i. All (λ x. P x × (key x ≡ number i)) (f i)) ks
    → All (λ i. AllPairs R (f i)) ks → AllPairs R (flat_map f ks)
in_order_by R P number key apart f [] up has each = none R
in_order_by {K} {X} R P number key apart f (i ∷ is) up has each =
    joined R (f i) (flat_map f is) (All-head (λ j. AllPairs R (f j)) i is each)
    (in_order_by R P number key apart f is (λ j k d lt in_. up (suc j) (suc k) d (omega (arith, lt))
    (omega (arith, in_)))
    (All-tail (λ j. All (λ x. P x × (key x ≡ number j)) (f j)) i is has)
    (All-tail (λ j. AllPairs R (f j)) i is each))
    (λ k d lt.
    let x : X = get_or (f i) k d in
    let here = All-head (λ j. All (λ x. P x × (key x ≡ number j)) (f j)) i is has k d lt in
    let at = here.1 in
    All-flat_map (R x) f is (λ m e in_ o g lies.
    let j : K = get_or is m e in
    let there = All-tail (λ j. All (λ x. P x × (key x ≡ number j)) (f j)) i is has m e in_ o g lies
    in
    let on = there.1 in
    let less : number i < number j = up 0 (suc m) e (omega arith) (omega (arith, in_)) in
    apart x (get_or (f j) o g) here.0 there.0 (omega (arith, at, on, less))))

pub range_ascends : (a n : ℕ) → AllPairs (λ i j. i < j) (range_with_len a n)
range_ascends a n i j d lt in_ =
    let long = length-range_with_len a n in
    let one = get_or-range_with_len a n i d (omega (arith, long, lt, in_)) in
    let two = get_or-range_with_len a n j d (omega (arith, long, in_)) in
    omega (arith, one, two, lt)

pub numbers_ascend : {X : Type 0} (xs : List X)
    → AllPairs (λ (s t : ℕ × X). s.0 < t.0) (enumerate_from 0 xs)
numbers_ascend {X} xs i j d lt in_ =
    let long = length-enumerate_from 0 xs in
    let one = ap (λ (x : ℕ × X). x.0)
    (get_or-enumerate_from 0 xs i d (omega (arith, long, lt, in_))) in
    let two = ap (λ (x : ℕ × X). x.0) (get_or-enumerate_from 0 xs j d (omega (arith, long, in_))) in
    omega (arith, one, two, lt)

-- and for the numbers of a range
by_number : {X : Type 0} (R : X → X → Type 0) (P : X → Type 0) (key : X → ℕ)
    → ((x y : X) → P x → P y → key x < key y → R x y)
    → (f : ℕ → List X) → ((i : ℕ) → All (λ x. P x × (key x ≡ i)) (f i))
    → ((i : ℕ) → AllPairs R (f i))
    → (n : ℕ) → AllPairs R (flat_map f (range_with_len 0 n))
by_number {X} R P key apart f has each n = in_order_by R P (λ i. i) key apart f (range_with_len 0 n)
    (range_ascends 0 n)
    (All-range (λ i. All (λ x. P x × (key x ≡ i)) (f i)) 0 n (λ i _ _. has i))
    (All-range (λ i. AllPairs R (f i)) 0 n (λ i _ _. each i))

pub one_listed : {X : Type 0} (R : X → X → Type 0) (o : Option X) → AllPairs R (listed o)
one_listed R None = none R
one_listed R (Some x) = AllPairs-cons R x [] (All-nil (R x)) (none R)

pub all_listed : {X : Type 0} (P : X → Type 0) (o : Option X) → IfSome o P → All P (listed o)
all_listed P None h = All-nil P
all_listed P (Some x) h = All-cons P x [] h (All-nil P)

module _ (code : VProc) (live : Lives) where
  abbrev begun : ℕ → ℕ → ℕ → Option Strand
  begun b l v = begun_strand all_tables code live b l v

  begun_is : (b l v : ℕ)
      → All (λ (t : Strand). ((t.block.0 ≡ b) × (t.first ≡ l)) × (t.var.0 ≡ v))
      (listed (begun b l v))
  begun_is b l v = all_listed (λ (t : Strand). ((t.block.0 ≡ b) × (t.first ≡ l)) × (t.var.0 ≡ v))
      (begun b l v)
      (IfSome-test (λ (t : Strand). ((t.block.0 ≡ b) × (t.first ≡ l)) × (t.var.0 ≡ v))
      (begins all_tables code live v b l) (strand all_tables code live v b l)
      (λ _. ((refl, refl), refl)))

  layer_is : (b l : ℕ)
      → All (λ (t : Strand). (t.block.0 ≡ b) × (t.first ≡ l))
      (layer_strands all_tables code live b l)
  layer_is b l = subst (All (λ (t : Strand). (t.block.0 ≡ b) × (t.first ≡ l)))
      (sym (as_flat (begun b l) (range_with_len 0 (length code.vars))))
      (All-flat_map (λ (t : Strand). (t.block.0 ≡ b) × (t.first ≡ l)) (λ v. listed (begun b l v))
      (range_with_len 0 (length code.vars))
      (All-range (λ v. All (λ (t : Strand). (t.block.0 ≡ b) × (t.first ≡ l)) (listed (begun b l v)))
      0 (length code.vars) (λ v _ _ k d lt. (begun_is b l v k d lt).0)))

  block_is : (b : ℕ)
      → All (λ (t : Strand). Unit {0} × (t.block.0 ≡ b)) (block_strands all_tables code live b)
  block_is b = All-flat_map (λ (t : Strand). Unit {0} × (t.block.0 ≡ b))
      (layer_strands all_tables code live b) (range_with_len 0 (layer_count code b))
      (All-range (λ l. All (λ (t : Strand). Unit {0} × (t.block.0 ≡ b))
      (layer_strands all_tables code live b l)) 0 (layer_count code b)
      (λ l _ _ k d lt. (tt, (layer_is b l k d lt).0)))

  layer_in_order : (b l : ℕ) → AllPairs StrandBefore (layer_strands all_tables code live b l)
  layer_in_order b l = subst (AllPairs StrandBefore)
      (sym (as_flat (begun b l) (range_with_len 0 (length code.vars))))
      (by_number StrandBefore (λ (t : Strand). (t.block.0 ≡ b) × (t.first ≡ l)) (λ t. t.var.0)
      (λ x y one two lt. var (one.0 ∙ sym two.0) (one.1 ∙ sym two.1) lt)
      (λ v. listed (begun b l v)) (begun_is b l) (λ v. one_listed StrandBefore (begun b l v))
      (length code.vars))

  block_in_order : (b : ℕ) → AllPairs StrandBefore (block_strands all_tables code live b)
  block_in_order b = by_number StrandBefore (λ (t : Strand). t.block.0 ≡ b) (λ t. t.first)
      (λ x y one two lt. layer (one ∙ sym two) lt)
      (layer_strands all_tables code live b) (layer_is b) (layer_in_order b) (layer_count code b)

  pub strands_in_order : AllPairs StrandBefore (strands all_tables code live)
  strands_in_order = by_number StrandBefore (λ t. Unit {0}) (λ t. t.block.0)
      (λ x y one two lt. block lt)
      (block_strands all_tables code live) block_is block_in_order (length code.blocks)

  module _ (ts : List Tie) (least : ℕ → ℕ) where
    abbrev all : List Strand
    all = map (grouped ts least) (enumerate_from 0 (strands all_tables code live))

    regroup : (i j : ℕ) (s t : Strand) → StrandBefore s t
        → StrandBefore (grouped ts least (i, s)) (grouped ts least (j, t))
    regroup i j s t (block lt) = block lt
    regroup i j s t (layer same lt) = layer same lt
    regroup i j s t (var one two lt) = var one two lt

    pub grouped_at : (k : ℕ) (d : Strand) → k < length (strands all_tables code live)
        → get_or all k d ≡ grouped ts least
        (0 + k, get_or (strands all_tables code live) k no_strand)
    grouped_at k d lt =
        let same = length-enumerate_from 0 (strands all_tables code live) in
        get_or-map (grouped ts least) (enumerate_from 0 (strands all_tables code live)) k
        (0, no_strand) d (omega (arith, lt, same))
        ∙ ap (grouped ts least) (get_or-enumerate_from 0 (strands all_tables code live) k
        (0, no_strand) lt)

    pub net_strands_in_order : AllPairs StrandBefore all
    net_strands_in_order i j d lt in_ =
        let long = length-map (enumerate_from 0 (strands all_tables code live)) (grouped ts least)
        in
        let same = length-enumerate_from 0 (strands all_tables code live) in
        let small : j < length (strands all_tables code live) = omega (arith, long, same, in_) in
        let s = get_or (strands all_tables code live) i no_strand in
        let t = get_or (strands all_tables code live) j no_strand in
        subst (λ u. StrandBefore u (get_or all j d))
        (sym (grouped_at i d (omega (arith, lt, small))))
        (subst (StrandBefore (grouped ts least (0 + i, s))) (sym (grouped_at j d small))
        (regroup (0 + i) (0 + j) s t (strands_in_order i j no_strand lt small)))

    -- what of one variable in one block stands before another begins before it
    earlier : (s t : Strand) → StrandBefore s t → s.var.0 ≡ t.var.0 → s.block.0 ≡ t.block.0
        → s.first < t.first
    earlier s t (block lt) v b = absurd (omega (arith, lt, b))
    earlier s t (layer same lt) v b = lt
    earlier s t (var one two lt) v b = absurd (omega (arith, lt, v))

    pub net_ends_before : AllPairs EndsBefore all
    net_ends_before i j d lt in_ v b = elim (cases_lt s.last t.first) as (λ _. s.last < t.first) [
      | inl less ↦ less
      | inr le ↦ absurd (one_strand code live all runs
          (λ v b l. net_one_start code live v b l ts least) i j t.first t.first
          (omega (arith, lt, in_)) in_ (λ same. omega (arith, same, lt)) vars blocks
          (is_in i t.first
          (subst (λ u. u.first ≤ t.first) (sym (same_at i (omega (arith, lt, in_))))
          (let e = earlier s t (net_strands_in_order i j d lt in_) v b in omega (arith, e)))
          (subst (λ u. t.first ≤ u.last) (sym (same_at i (omega (arith, lt, in_)))) le))
          (is_in j t.first (subst (λ u. u.first ≤ t.first) (sym (same_at j in_)) (omega arith))
          (subst (λ u. t.first ≤ u.last) (sym (same_at j in_)) (runs j d in_).order))
          (omega arith) (omega arith))
    ]
      where
        runs : All (IsRun code live) all
        runs = net_runs code live ts least

        s : Strand
        s = get_or all i d

        t : Strand
        t = get_or all j d

        same_at : (k : ℕ) → k < length all → get_or all k no_strand ≡ get_or all k d
        same_at k lt = get_or_default all k no_strand d lt

        vars : (get_or all i no_strand).var.0 ≡ (get_or all j no_strand).var.0
        vars = ap (λ (u : Strand). u.var.0) (same_at i (omega (arith, lt, in_))) ∙ v
            ∙ sym (ap (λ (u : Strand). u.var.0) (same_at j in_))

        blocks : (get_or all i no_strand).block.0 ≡ (get_or all j no_strand).block.0
        blocks = ap (λ (u : Strand). u.block.0) (same_at i (omega (arith, lt, in_))) ∙ b
            ∙ sym (ap (λ (u : Strand). u.block.0) (same_at j in_))

        is_in : (k l : ℕ) → (get_or all k no_strand).first ≤ l → l ≤ (get_or all k no_strand).last
            → is_there (get_or all k no_strand) l ≡ true
        is_in k l low high = and_from (leb (get_or all k no_strand).first l)
            (leb l (get_or all k no_strand).last)
            (le-leb (get_or all k no_strand).first l low)
            (le-leb l (get_or all k no_strand).last high)
