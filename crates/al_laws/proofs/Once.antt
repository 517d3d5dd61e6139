-- Paths of one strand, and of one variable, use each thing once.
use Rattle.std.proofs.Common.{ℕ, zero, suc, ◌≡◌, ◌≢◌, ◌+◌, ◌<◌, ◌≤◌, Bool, true, false, not, ◌||◌}
use Rattle.std.proofs.Common.{cond, eqb, List, [], ◌∷◌}
use Rattle.std.proofs.Common.{length, get_or, take, All, count_by, sum_by, None, refl, sym, ap, ◌∙◌}
use Rattle.std.proofs.Common.{arith, inl, inr, ◌⊎◌}
use Rattle.std.specs.List.{AllPairs, range_with_len, prefix_len}
use Rattle.std.proofs.lemmas.Bool.{cases_Bool, cases_eq, cases_order, and_parts, eqb-true, or_cases}
use Rattle.std.proofs.lemmas.Bool.{lt-ltb}
use Rattle.std.proofs.lemmas.List.FromFn.{length-range_with_len, get_or-range_with_len}
use Rattle.std.proofs.lemmas.List.Sums.{sum_by-cons}
use Rattle.pra_base.specs.declared.ids.Place.{Place}
use Rattle.pra_base.specs.declared.ids.Place.TheVariants.{Mem}
use Rattle.pra_base.specs.Places.{number, is_mem}
use Rattle.pra_list.proofs.Mapped.{any-count}
use Rattle.net_form.specs.declared.net.MemPair.{MemPair}
use Rattle.net_form.specs.declared.net.NetBlock.{NetBlock}
use Rattle.net_form.specs.declared.net.Net.{Net}
use Rattle.net_form.specs.declared.routes.Routes.{Routes}
use Rattle.net_form.specs.Flow.{Edge, is_at, AreRoutes}
use Rattle.net_form.specs.Admitted.{strand_at, no_strand, layer_of, in_register, uses_bundle}
use Rattle.net_form.specs.Admitted.{uses_memory}
use Rattle.net_form.specs.InUse.{UsesOnce, pair_at, no_pair}
use Rattle.net_form.specs.Formed.{no_block}
use Rattle.net_form.specs.Index.{first_layer}
use Rattle.net_form.proofs.Paths.{of_path}
use Rattle.net_form.proofs.RoutesConserve.{at_most_once}
use Rattle.net_laws.specs.Built.{IsBuilt}
use Rattle.net_laws.proofs.Found.{first_that}
use Rattle.net_dual.specs.Paths.{path_edges, path_in}
use Rattle.net_dual.proofs.Strands.{each_long}
use Rattle.al_laws.specs.Parts.{part, of_variable}
use Rattle.al_laws.proofs.Parts.{part_sum, path_sum}

-- ---- one path

pub path_register_once : (net : Net) (s n r : ℕ) (ps : List Place)
    → count_by (uses_bundle net n r) (path_edges net s ps) ≤ 1
path_register_once net s n r ps = at_most_once (uses_bundle net n r) s (strand_at net s).first None
    ps (λ e x one two is too.
    let a = eqb-true (layer_of net e) n (and_parts (eqb (layer_of net e) n) (in_register r e.to)
    is).0 in
    let b = eqb-true (layer_of net x) n (and_parts (eqb (layer_of net x) n) (in_register r x.to)
    too).0 in
    let c = ap (λ k. first_layer net.blocks (strand_at net k).block.0) (one ∙ sym two) in
    omega (arith, a, b, c))

-- the end of the pair that the edge brings to memory
abbrev pub IsSide : MemPair → Edge → Type 0
IsSide m e = ((e.strand ≡ m.left) × (e.layer ≡ m.left_layer))
    ⊎ ((e.strand ≡ m.right) × (e.layer ≡ m.right_layer))

pub side_of : (m : MemPair) (e : Edge) → uses_memory m e ≡ true → IsSide m e
side_of m e h = elim (or_cases (is_at m.left m.left_layer e) (is_at m.right m.right_layer e)
    (and_parts (is_at m.left m.left_layer e || is_at m.right m.right_layer e) (is_mem (number e.to))
    h).0) as (λ _. IsSide m e) [
      | inl one ↦ let p = and_parts (eqb e.strand m.left) (eqb e.layer m.left_layer) one in inl
          (eqb-true e.strand m.left p.0, eqb-true e.layer m.left_layer p.1)
      | inr two ↦ let p = and_parts (eqb e.strand m.right) (eqb e.layer m.right_layer) two in inr
          (eqb-true e.strand m.right p.0, eqb-true e.layer m.right_layer p.1)
    ]

pub path_pair_once : (net : Net) (s : ℕ) (m : MemPair) (ps : List Place) → m.left ≢ m.right
    → count_by (uses_memory m) (path_edges net s ps) ≤ 1
path_pair_once net s m ps apart = at_most_once (uses_memory m) s (strand_at net s).first None ps
    (λ e x one two is too.
    by e x one two (side_of m e is) (side_of m x too))
  where
    by : (e x : Edge) → e.strand ≡ s → x.strand ≡ s → IsSide m e → IsSide m x → e.layer ≡ x.layer
    by e x one two (inl a) (inl b) = a.1 ∙ sym b.1
    by e x one two (inl a) (inr b) = absurd (apart (sym a.0 ∙ one ∙ sym two ∙ b.0))
    by e x one two (inr a) (inl b) = absurd (apart (sym b.0 ∙ two ∙ sym one ∙ a.0))
    by e x one two (inr a) (inr b) = a.1 ∙ sym b.1

-- ---- several paths, of which one at most uses it

pub sum_few : (f : ℕ → ℕ) (xs : List ℕ) → All (λ x. f x ≤ 1) xs
    → AllPairs (λ x y. 0 < f x → 0 < f y → ⊥) xs → sum_by f xs ≤ 1
sum_few f [] few apart = omega arith
sum_few f (x ∷ xs) few apart = elim (cases_eq (f x) 0) as (λ _. sum_by f (x ∷ xs) ≤ 1) [
  | inl none ↦
      let sum = sum_by-cons f x xs in
      let more = sum_few f xs (λ k d lt. few (suc k) d (omega (arith, lt)))
      (λ i j d lt in_. apart (suc i) (suc j) d (omega (arith, lt)) (omega (arith, in_))) in
      omega (arith, none, sum, more)
  | inr some ↦
      let sum = sum_by-cons f x xs in
      let one : f x ≤ 1 = few 0 x (omega arith) in
      let rest = sum_zero xs
      (λ k d lt. zero_of (f (get_or xs k d)) (λ more. apart 0 (suc k) d (omega arith)
      (omega (arith, lt)) (positive (f x) some) more)) in
      omega (arith, sum, one, rest)
]
  where
    positive : (n : ℕ) → (n ≡ 0 → ⊥) → 0 < n
    positive n h = omega (arith, h)

    zero_of : (n : ℕ) → (0 < n → ⊥) → n ≡ 0
    zero_of zero h = refl
    zero_of (suc n) h = absurd (h (omega arith))

    sum_zero : (ys : List ℕ) → All (λ y. f y ≡ 0) ys → sum_by f ys ≡ 0
    sum_zero [] h = refl
    sum_zero (y ∷ ys) h =
        let sum = sum_by-cons f y ys in
        let one : f y ≡ 0 = h 0 y (omega arith) in
        let more = sum_zero ys (λ k d lt. h (suc k) d (omega (arith, lt))) in
        omega (arith, sum, one, more)

-- an edge that is counted
pub record Counted (p : Edge → Bool) (es : List Edge) : Type 0 where
  pub at : ℕ
  pub within : at < length es
  pub passes : (d : Edge) → p (get_or es at d) ≡ true

pub counted : (p : Edge → Bool) (es : List Edge) → 0 < count_by p es → Counted p es
counted p es some =
    let any = sym (any-count p es) ∙ lt-ltb 0 (count_by p es) some in
    record {
      at = prefix_len (λ e. not (p e)) es;
      within = (first_that p es (record { strand = 0; layer = 0; from = None; to = Mem }) any).0;
      passes = λ d. (first_that p es d any).1;
    }

-- two layers of two blocks are two
blocks_apart : (xs : List NetBlock) (b c : ℕ) (d : NetBlock) → b < c → c ≤ length xs
    → first_layer xs b + (get_or xs b d).layers ≤ first_layer xs c
blocks_apart [] b c d lt le = absurd (omega (arith, lt, le))
blocks_apart (x ∷ xs) zero zero d lt le = absurd (omega (arith, lt))
blocks_apart (x ∷ xs) zero (suc c) d lt le = let e = sum_by-cons (λ (k : NetBlock). k.layers) x
    (take c xs) in omega (arith, e)
blocks_apart (x ∷ xs) (suc b) zero d lt le = absurd (omega (arith, lt))
blocks_apart (x ∷ xs) (suc b) (suc c) d lt le =
    let e = sum_by-cons (λ (k : NetBlock). k.layers) x (take b xs) in
    let f = sum_by-cons (λ (k : NetBlock). k.layers) x (take c xs) in
    let more = blocks_apart xs b c d (omega (arith, lt)) (omega (arith, le)) in
    omega (arith, e, f, more)

module _ (net : Net) (built : IsBuilt net) (routes : Routes) (has : AreRoutes net routes) where
  -- an edge of a strand that is counted, and its layer within the strand
  record OfStrand (s : ℕ) (p : Edge → Bool) : Type 0 where
    edge : Edge
    strand : edge.strand ≡ s
    after : (strand_at net s).first ≤ edge.layer
    before : edge.layer ≤ (strand_at net s).last
    passes : p edge ≡ true

  of_strand : (s : ℕ) (p : Edge → Bool) → s < length net.strands
      → 0 < path_sum net (λ e. cond (p e) 1 0) routes s → OfStrand s p
  of_strand s p lt some =
      let c = counted p (path_edges net s (path_in routes s)) some in
      let e : Edge = get_or (path_edges net s (path_in routes s)) c.at
      (record { strand = 0; layer = 0; from = None; to = Mem }) in
      let of = of_path s (strand_at net s).first None (path_in routes s) c.at
      (record { strand = 0; layer = 0; from = None; to = Mem }) c.within in
      let long = each_long net routes has s lt in
      let before = of.before in
      record {
        edge = e;
        strand = of.strand;
        after = of.after;
        before = omega (arith, before, long);
        passes = c.passes _;
      }

  -- two strands of one variable are never at one layer
  not_both : (x y : ℕ) (e g : Edge) (n : ℕ) → x < y → y < length net.strands
      → (strand_at net x).var.0 ≡ (strand_at net y).var.0
      → e.strand ≡ x → g.strand ≡ y → (strand_at net x).first ≤ e.layer
      → e.layer ≤ (strand_at net x).last → (strand_at net y).first ≤ g.layer
      → g.layer ≤ (strand_at net y).last
      → layer_of net e ≡ n → layer_of net g ≡ n → ⊥
  not_both x y e g n less lt var one two a b c d at too =
      let fx = built.formed.strands x no_strand (omega (arith, less, lt)) in
      let fy = built.formed.strands y no_strand lt in
      let wx = fx.within in
      let wy = fy.within in
      let ex : first_layer net.blocks (strand_at net x).block.0 + e.layer ≡ n =
      ap (λ k. first_layer net.blocks (strand_at net k).block.0 + e.layer) (sym one) ∙ at in
      let ey : first_layer net.blocks (strand_at net y).block.0 + g.layer ≡ n =
      ap (λ k. first_layer net.blocks (strand_at net k).block.0 + g.layer) (sym two) ∙ too in
      elim (cases_order (strand_at net x).block.0 (strand_at net y).block.0) as (λ _. ⊥) [
        | inl same ↦
            let f = ap (first_layer net.blocks) same in
            let ends = built.runs x y no_strand less lt var same in
            omega (arith, ex, ey, f, ends, b, c)
        | inr (inl before) ↦
            let bx = fx.block in
            let by_ = fy.block in
            let far = blocks_apart net.blocks (strand_at net x).block.0 (strand_at net y).block.0
            no_block before (omega (arith, by_)) in
            omega (arith, far, ex, ey, wx, b)
        | inr (inr behind) ↦
            let bx = fx.block in
            let far = blocks_apart net.blocks (strand_at net y).block.0 (strand_at net x).block.0
            no_block behind (omega (arith, bx)) in
            omega (arith, far, ex, ey, wy, d)
      ]

  module _ (v : ℕ) where
    abbrev own : (Edge → Bool) → ℕ → ℕ
    own p s = cond (of_variable net v s) (path_sum net (λ e. cond (p e) 1 0) routes s) 0

    own_of : (p : Edge → Bool) (s : ℕ) → 0 < own p s
        → (of_variable net v s ≡ true) × (0 < path_sum net (λ e. cond (p e) 1 0) routes s)
    own_of p s some = elim (cases_Bool (of_variable net v s))
        as (λ _. (of_variable net v s ≡ true) × (0 < path_sum net (λ e. cond (p e) 1 0) routes s)) [
          | inl is ↦ (
            is,
            let same = ap (λ b. cond b (path_sum net (λ e. cond (p e) 1 0) routes s) 0)
                is in omega (arith, same, some),
          )
          | inr other ↦
              absurd (let none = ap (λ b. cond b (path_sum net (λ e. cond (p e) 1 0) routes s)
              0) other in omega (arith, none, some))
        ]

    own_few : (p : Edge → Bool) → ((s : ℕ) → count_by p (path_edges net s (path_in routes s)) ≤ 1)
        → (s : ℕ) → own p s ≤ 1
    own_few p few s = by (of_variable net v s)
      where
        by : (b : Bool) → cond b (path_sum net (λ e. cond (p e) 1 0) routes s) 0 ≤ 1
        by true = few s
        by false = omega arith

    -- where no two strands of the variable use it, it is used once
    own_once : (p : Edge → Bool) → ((s : ℕ) → count_by p (path_edges net s (path_in routes s)) ≤ 1)
        → ((x y : ℕ) → x < y → y < length net.strands → (strand_at net x).var.0 ≡ v
        → (strand_at net y).var.0 ≡ v → OfStrand x p → OfStrand y p → ⊥)
        → count_by p (part net (of_variable net v) routes) ≤ 1
    own_once p few apart =
        let sum = part_sum net routes has (of_variable net v) (λ e. cond (p e) 1 0) in
        let ns = range_with_len 0 (length net.strands) in
        let once = sum_few (own p) ns (λ k d lt. own_few p few (get_or ns k d))
        (λ i j d lt in_ one two.
        let long = length-range_with_len 0 (length net.strands) in
        let at_i = get_or-range_with_len 0 (length net.strands) i d (omega (arith, long, lt, in_))
        in
        let at_j = get_or-range_with_len 0 (length net.strands) j d (omega (arith, long, in_)) in
        let x = own_of p (get_or ns i d) one in
        let y = own_of p (get_or ns j d) two in
        apart (get_or ns i d) (get_or ns j d) (omega (arith, at_i, at_j, lt))
        (omega (arith, at_j, long, in_))
        (eqb-true (strand_at net (get_or ns i d)).var.0 v x.0)
        (eqb-true (strand_at net (get_or ns j d)).var.0 v y.0)
        (of_strand (get_or ns i d) p (omega (arith, at_i, long, lt, in_)) x.1)
        (of_strand (get_or ns j d) p (omega (arith, at_j, long, in_)) y.1)) in
        omega (arith, sum, once)

    registers_once : (n r : ℕ)
        → count_by (uses_bundle net n r) (part net (of_variable net v) routes) ≤ 1
    registers_once n r = own_once (uses_bundle net n r)
        (λ s. path_register_once net s n r (path_in routes s)) (λ x y less lt vx vy a b.
        not_both x y a.edge b.edge n less lt (vx ∙ sym vy) a.strand b.strand a.after a.before
        b.after b.before
        (eqb-true (layer_of net a.edge) n (and_parts (eqb (layer_of net a.edge) n)
        (in_register r a.edge.to) a.passes).0)
        (eqb-true (layer_of net b.edge) n (and_parts (eqb (layer_of net b.edge) n)
        (in_register r b.edge.to) b.passes).0))

    pair_once : (k : ℕ) → k < length net.pairs
        → count_by (uses_memory (pair_at net k)) (part net (of_variable net v) routes) ≤ 1
    pair_once k lt =
        let m = pair_at net k in
        let two = built.two_variables k no_pair lt in
        own_once (uses_memory m)
        (λ s. path_pair_once net s m (path_in routes s)
        (λ same. two (ap (λ s. (strand_at net s).var.0) same)))
        (λ x y less lt vx vy a b. by m two x y less vx vy a.edge b.edge a.strand b.strand
        (side_of m a.edge a.passes) (side_of m b.edge b.passes))
      where
        by : (m : MemPair) → (strand_at net m.left).var.0 ≢ (strand_at net m.right).var.0
            → (x y : ℕ) → x < y → (strand_at net x).var.0 ≡ v → (strand_at net y).var.0 ≡ v
            → (e g : Edge) → e.strand ≡ x → g.strand ≡ y → IsSide m e → IsSide m g → ⊥
        by m two x y less vx vy e g one other (inl a) (inl b) = let i = a.0 in let j = b.0 in
            omega (arith, i, j, one, other, less)
        by m two x y less vx vy e g one other (inl a) (inr b) =
            two (ap (λ s. (strand_at net s).var.0) (sym a.0 ∙ one) ∙ vx ∙ sym vy
            ∙ ap (λ s. (strand_at net s).var.0) (sym other ∙ b.0))
        by m two x y less vx vy e g one other (inr a) (inl b) =
            two (ap (λ s. (strand_at net s).var.0) (sym b.0 ∙ other) ∙ vy ∙ sym vx
            ∙ ap (λ s. (strand_at net s).var.0) (sym one ∙ a.0))
        by m two x y less vx vy e g one other (inr a) (inr b) = let i = a.0 in let j = b.0 in
            omega (arith, i, j, one, other, less)

    -- all paths of the variable together use each thing once
    pub uses_once : UsesOnce net (part net (of_variable net v) routes)
    uses_once = record { registers = registers_once; pairs = pair_once }
