-- A variable that is present at a layer is in exactly one strand there.
use Rattle.std.proofs.Common.{◌≡◌, ℕ, zero, suc, ◌+◌, ◌-◌, ◌<◌, ◌≤◌, ◌⊎◌, inl, inr, ⊎_elim, Bool}
use Rattle.std.proofs.Common.{true, false, not, ◌&&◌, cond, nat_eq, nat_lt, if◌then◌else◌, List, []}
use Rattle.std.proofs.Common.{◌∷◌, length, map, All, slice_get, Option, Some, None, refl, sym, ap}
use Rattle.std.proofs.Common.{subst, ◌∙◌, arith, count_by, sum_by, get_or}
use Rattle.std.specs.List.{flat_map, filter_map, range_with_len, prefix_len, cons_option}
use Rattle.std.proofs.lemmas.Bool.{cases_eq, cases_lt, and_parts}
use Rattle.std.proofs.lemmas.Bool.Decides.{nat_tests}
use Rattle.std.proofs.lemmas.List.FromFn.{get_or-range_with_len, length-range_with_len}
use Rattle.std.proofs.lemmas.List.Sums.{prefix_len_passes, prefix_len-le-length, sum_by-cons}
use Rattle.std.proofs.lemmas.List.Sums.{sum_by-append}
use Rattle.pra_list.proofs.Truths.{true_false, truth}
use Rattle.pra_list.proofs.Comprehensions.{All-filter_map, All-flat_map, All-range, IfSome-test}
use Rattle.pra_list.proofs.Counts.{bit, count-cons}
use Rattle.pra_base.specs.declared.code.VProc.{VProc}
use Rattle.net_form.specs.declared.net.Strand.{Strand}
use Rattle.net_form.specs.Tables.{PlaceTables}
use Rattle.net_form.specs.Strands.{Lives, layer_count, is_present, begins, run_from, mask_at}
use Rattle.net_form.specs.Strands.{strand, begun_strand, layer_strands, block_strands, strands}
use Rattle.pra_list.proofs.Among.{in_all, in_at, at_in, in_flat, in_filter_map, in_range}
use Rattle.pra_list.proofs.Among.{at_most_one, sum_zero, sum_one}

-- a run is as long as the test holds
run_long : (p : ℕ → Bool) (l n m : ℕ) → m ≤ n → ((k : ℕ) → k < m → p (l + k) ≡ true) →
    m ≤ prefix_len p (range_with_len l n)
run_long p l n zero le f = omega arith
run_long p l zero (suc m) le f = absurd (omega arith)
run_long p l (suc n) (suc m) le f =
    let first : p l ≡ true =
    (let e : l + 0 ≡ l = omega arith in subst (λ k. p k ≡ true) e (f 0 (omega arith))) in
    let more : m ≤ prefix_len p (range_with_len (l + 1) n) =
    run_long p (l + 1) n m (omega (arith, le))
    (λ k lt. let e : l + suc k ≡ l + 1 + k = omega arith in
    subst (λ i. p i ≡ true) e (f (suc k) (omega (arith, lt)))) in
    subst (λ b. suc m ≤ cond b (1 + prefix_len p (range_with_len (l + 1) n)) 0) (sym first)
    (omega (arith, more))

module _ (tables : PlaceTables) (code : VProc) (live : Lives) where
  abbrev present : ℕ → ℕ → ℕ → Bool
  present v b l = is_present tables code live v b l

  abbrev long : ℕ → ℕ → ℕ → ℕ
  long v b l = run_from tables code live v b l

  -- what every strand of the code is
  pub record IsStrand (t : Strand) : Type 0 where
    pub var : t.var.0 < length code.vars
    pub block : t.block.0 < length code.blocks
    pub inside : t.first < layer_count code t.block.0
    pub begins : begins tables code live t.var.0 t.block.0 t.first ≡ true
    pub last : t.last ≡ t.first + long t.var.0 t.block.0 t.first - 1
    pub masks : t.masks ≡ map (mask_at tables code live t.var.0 t.block.0)
        (range_with_len t.first (long t.var.0 t.block.0 t.first))

  pub are_strands : All IsStrand (strands tables code live)
  are_strands = All-flat_map IsStrand (block_strands tables code live)
      (range_with_len 0 (length code.blocks))
      (All-range (λ b. All IsStrand (block_strands tables code live b)) 0 (length code.blocks)
      (λ b _ b_lt.
      All-flat_map IsStrand (layer_strands tables code live b)
      (range_with_len 0 (layer_count code b))
      (All-range (λ l. All IsStrand (layer_strands tables code live b l)) 0 (layer_count code b)
      (λ l _ l_lt.
      All-filter_map IsStrand (begun_strand tables code live b l)
      (range_with_len 0 (length code.vars))
      (All-range _ 0 (length code.vars) (λ v _ v_lt.
      IfSome-test IsStrand (begins tables code live v b l) (strand tables code live v b l)
      (λ is. record {
        var = omega (arith, v_lt);
        block = omega (arith, b_lt);
        inside =
            omega (arith, l_lt);
        begins = is;
        last = refl;
        masks = refl;
      })))))))

  -- ---- the layers of a strand

  -- the strand is of the variable at the layer
  pub record Covers (t : Strand) (v b l : ℕ) : Type 0 where
    pub var : t.var.0 ≡ v
    pub block : t.block.0 ≡ b
    pub after : t.first ≤ l
    pub before : l ≤ t.last

  pub run_some : (t : Strand) → IsStrand t → 0 < long t.var.0 t.block.0 t.first
  run_some t is =
      let v = t.var.0 in
      let b = t.block.0 in
      let now : present v b t.first ≡ true = (and_parts (present v b t.first) _ is.begins).0 in
      let in_ = is.inside in
      run_long (present v b) t.first (layer_count code b - t.first) 1 (omega (arith, in_))
      (λ k lt. let e : t.first + k ≡ t.first = omega (arith, lt) in
      subst (λ i. present v b i ≡ true) (sym e) now)

  pub last_inside : (t : Strand) → IsStrand t → t.last < layer_count code t.block.0
  last_inside t is =
      let some = run_some t is in
      let most = prefix_len-le-length (present t.var.0 t.block.0)
      (range_with_len t.first (layer_count code t.block.0 - t.first)) in
      let many = length-range_with_len t.first (layer_count code t.block.0 - t.first) in
      let last = is.last in
      let in_ = is.inside in
      omega (arith, some, most, many, last, in_)

  pub covered : (t : Strand) → IsStrand t → (l : ℕ) → t.first ≤ l → l ≤ t.last →
      present t.var.0 t.block.0 l ≡ true
  covered t is l le before =
      let v = t.var.0 in
      let b = t.block.0 in
      let n = layer_count code b - t.first in
      let some = run_some t is in
      let last = is.last in
      let most = prefix_len-le-length (present v b) (range_with_len t.first n) in
      let many = length-range_with_len t.first n in
      let k : l - t.first < long v b t.first = omega (arith, le, before, some, last) in
      let passes = prefix_len_passes (present v b) (range_with_len t.first n) (l - t.first) 0 k in
      let at : get_or (range_with_len t.first n) (l - t.first) 0 ≡ t.first + (l - t.first) =
      get_or-range_with_len t.first n (l - t.first) 0 (omega (arith, k, most, many)) in
      let same : t.first + (l - t.first) ≡ l = omega (arith, le) in
      sym (ap (present v b) (at ∙ same)) ∙ passes

  -- nothing is present before the first layer
  pub fresh : (t : Strand) → IsStrand t → (m : ℕ) → suc m ≡ t.first → present t.var.0 t.block.0 m ≡
      false
  fresh t is m e =
      let v = t.var.0 in
      let b = t.block.0 in
      let last = (and_parts (present v b t.first) _ is.begins).1 in
      let some : nat_lt 0 t.first ≡ true = grind (arith, nat_tests) in
      let at : t.first - 1 ≡ m = omega (arith, e) in
      negated (nat_lt 0 t.first) (present v b m) some
      (subst (λ i. not (nat_lt 0 t.first && present v b i) ≡ true) at last)
    where
      negated : (a c : Bool) → a ≡ true → not (a && c) ≡ true → c ≡ false
      negated true true e f = cc
      negated true false e f = refl
      negated false c e f = cc

  not_before : (t u : Strand) → IsStrand t → IsStrand u → (v b l : ℕ) → Covers t v b l →
      Covers u v b l → t.first < u.first → ⊥
  not_before t u is are v b l c d lt =
      let m = u.first - 1 in
      let here : suc m ≡ u.first = omega (arith, lt) in
      let after = d.after in
      let before = c.before in
      let in_t : present t.var.0 t.block.0 m ≡ true = covered t is m (omega (arith, lt))
      (omega (arith, after, before, lt)) in
      let out : present u.var.0 u.block.0 m ≡ false = fresh u are m here in
      true_false (present v b m)
      (ap (λ x. present x b m) (sym c.var) ∙ ap (λ x. present t.var.0 x m) (sym c.block) ∙ in_t)
      (ap (λ x. present x b m) (sym d.var) ∙ ap (λ x. present u.var.0 x m) (sym d.block) ∙ out)

  one_first : (t u : Strand) → IsStrand t → IsStrand u → (v b l : ℕ) → Covers t v b l →
      Covers u v b l → t.first ≡ u.first
  one_first t u is are v b l c d =
      ⊎_elim
      (λ (lt : t.first < u.first). absurd (not_before t u is are v b l c d lt))
      (λ (le : u.first ≤ t.first).
      ⊎_elim
      (λ (lt : u.first < t.first). absurd (not_before u t are is v b l d c lt))
      (λ (other : t.first ≤ u.first). omega (arith, le, other))
      (cases_lt u.first t.first))
      (cases_lt t.first u.first)

  -- ---- one strand of a variable begins at a layer

  abbrev is_key : ℕ → ℕ → ℕ → Strand → Bool
  is_key v b l t = nat_eq t.var.0 v && nat_eq t.block.0 b && nat_eq t.first l

  abbrev bit_of : (Strand → Bool) → Option Strand → ℕ
  bit_of p None = 0
  bit_of p (Some t) = bit (p t)

  count_filter_map : {X : Type 0} (p : Strand → Bool) (f : X → Option Strand) (xs : List X) →
      count_by p (filter_map f xs) ≡ sum_by (λ x. bit_of p (f x)) xs
  count_filter_map p f [] = refl
  count_filter_map p f (x ∷ xs) =
      let ih = count_filter_map p f xs in
      let one = sum_by-cons (λ x. bit_of p (f x)) x xs in
      by_option (f x) ih one
    where
      by_option : (o : Option Strand) → count_by p (filter_map f xs) ≡
          sum_by (λ x. bit_of p (f x)) xs → sum_by (λ x. bit_of p (f x)) (x ∷ xs) ≡
          bit_of p o + sum_by (λ x. bit_of p (f x)) xs →
          count_by p (cons_option o (filter_map f xs)) ≡ sum_by (λ x. bit_of p (f x)) (x ∷ xs)
      by_option None ih one = omega (arith, ih, one)
      by_option (Some t) ih one = let more = count-cons p t (filter_map f xs) in
          omega (arith, ih, one, more)

  count_flat_map : {X : Type 0} (p : Strand → Bool) (f : X → List Strand) (xs : List X) →
      count_by p (flat_map f xs) ≡ sum_by (λ x. count_by p (f x)) xs
  count_flat_map p f [] = refl
  count_flat_map p f (x ∷ xs) =
      let ih = count_flat_map p f xs in
      let one = sum_by-cons (λ x. count_by p (f x)) x xs in
      let two = sum_by-append (λ t. cond (p t) 1 0) (f x) (flat_map f xs) in
      omega (arith, ih, one, two)

  bit_le : (b : Bool) → bit b ≤ 1
  bit_le true = omega arith
  bit_le false = omega arith

  module _ (v b l : ℕ) where
    abbrev p : Strand → Bool
    p t = is_key v b l t

    begun_bit : (b' l' v' : ℕ) → bit_of p (begun_strand tables code live b' l' v') ≤ 1
    begun_bit b' l' v' = by_test (begins tables code live v' b' l')
      where
        by_test : (c : Bool) → bit_of p
            (if c then Some (strand tables code live v' b' l') else None) ≤ 1
        by_test true = bit_le (p (strand tables code live v' b' l'))
        by_test false = omega arith

    begun_none : (b' l' v' : ℕ) → (nat_eq v' v && nat_eq b' b && nat_eq l' l) ≡ false →
        bit_of p (begun_strand tables code live b' l' v') ≡ 0
    begun_none b' l' v' e = by_test (begins tables code live v' b' l')
      where
        by_test : (c : Bool) → bit_of p
            (if c then Some (strand tables code live v' b' l') else None) ≡ 0
        by_test true = ap bit e
        by_test false = refl

    differ : (i j : ℕ) → (i ≡ j → ⊥) → nat_eq i j ≡ false
    differ i j ne = grind (arith, nat_tests)

    third : (x y z : Bool) → z ≡ false → (x && y && z) ≡ false
    third true true z e = e
    third true false z e = refl
    third false y z e = refl

    second : (x y z : Bool) → y ≡ false → (x && y && z) ≡ false
    second true y z e = ap (λ w. w && z) e
    second false y z e = refl

    first : (x y z : Bool) → x ≡ false → (x && y && z) ≡ false
    first x y z e = ap (λ w. w && y && z) e

    layer_count_zero : (b' l' : ℕ) → ((b' ≡ b → ⊥) ⊎ (l' ≡ l → ⊥)) →
        count_by p (layer_strands tables code live b' l') ≡ 0
    layer_count_zero b' l' other =
        count_filter_map p (begun_strand tables code live b' l')
        (range_with_len 0 (length code.vars))
        ∙ sum_zero (λ v'. bit_of p (begun_strand tables code live b' l' v')) 0 (length code.vars)
        (λ v' _. begun_none b' l' v'
        (⊎_elim (λ (ne : b' ≡ b → ⊥). second (nat_eq v' v) (nat_eq b' b) (nat_eq l' l)
        (differ b' b ne)) (λ (ne : l' ≡ l → ⊥). third (nat_eq v' v) (nat_eq b' b) (nat_eq l' l)
        (differ l' l ne)) other))

    layer_one : count_by p (layer_strands tables code live b l) ≤ 1
    layer_one =
        let sum = count_filter_map p (begun_strand tables code live b l)
        (range_with_len 0 (length code.vars)) in
        let one = sum_one (λ v'. bit_of p (begun_strand tables code live b l v')) v 0
        (length code.vars)
        (λ v' ne. begun_none b l v'
        (first (nat_eq v' v) (nat_eq b b) (nat_eq l l) (differ v' v ne))) (begun_bit b l v) in
        omega (arith, sum, one)

    block_zero : (b' : ℕ) → (b' ≡ b → ⊥) → count_by p (block_strands tables code live b') ≡ 0
    block_zero b' ne =
        count_flat_map p (layer_strands tables code live b')
        (range_with_len 0 (layer_count code b'))
        ∙ sum_zero (λ l'. count_by p (layer_strands tables code live b' l')) 0 (layer_count code b')
        (λ l' _. layer_count_zero b' l' (inl ne))

    block_one : count_by p (block_strands tables code live b) ≤ 1
    block_one =
        let sum = count_flat_map p (layer_strands tables code live b)
        (range_with_len 0 (layer_count code b)) in
        let one = sum_one (λ l'. count_by p (layer_strands tables code live b l')) l 0
        (layer_count code b) (λ l' ne. layer_count_zero b l' (inr ne)) layer_one in
        omega (arith, sum, one)

    one_key : count_by p (strands tables code live) ≤ 1
    one_key =
        let sum = count_flat_map p (block_strands tables code live)
        (range_with_len 0 (length code.blocks)) in
        let one = sum_one (λ b'. count_by p (block_strands tables code live b')) b 0
        (length code.blocks) block_zero block_one in
        omega (arith, sum, one)

  is_its_key : (t : Strand) (v b l : ℕ) → t.var.0 ≡ v → t.block.0 ≡ b → t.first ≡ l →
      is_key v b l t ≡ true
  is_its_key t v b l e f g =
      let x : nat_eq t.var.0 v ≡ true = grind (arith, nat_tests) in
      let y : nat_eq t.block.0 b ≡ true = grind (arith, nat_tests) in
      let z : nat_eq t.first l ≡ true = grind (arith, nat_tests) in
      rw (x, y, z) refl

  -- one number
  pub one_strand : (i j : ℕ) (t u : Strand) → slice_get (strands tables code live) i ≡ Some t →
      slice_get (strands tables code live) j ≡ Some u → (v b l : ℕ) → Covers t v b l →
      Covers u v b l → i ≡ j
  one_strand i j t u e f v b l c d =
      let is = in_all IsStrand (strands tables code live) are_strands t
      (in_at (strands tables code live) i t e) in
      let are = in_all IsStrand (strands tables code live) are_strands u
      (in_at (strands tables code live) j u f) in
      let same = one_first t u is are v b l c d in
      at_most_one (is_key v b t.first) (strands tables code live) (one_key v b t.first) i j t u e
      (is_its_key t v b t.first c.var c.block refl) f
      (is_its_key u v b t.first d.var d.block (sym same))

  -- ---- a strand where a variable is present

  -- where its strand begins
  record Begins (v b l : ℕ) : Type 0 where
    at : ℕ
    before : at ≤ l
    begins : begins tables code live v b at ≡ true
    run : (k : ℕ) → at ≤ k → k ≤ l → present v b k ≡ true

  begin_of : (v b l : ℕ) → present v b l ≡ true → Begins v b l
  begin_of v b zero now = record {
    at = 0;
    before = omega arith;
    begins = ap (λ x. x && not false) now;
    run =
        λ k le ge. let e : k ≡ 0 = omega (arith, ge) in subst (λ i. present v b i ≡ true)
        (sym e) now;
  }
  begin_of v b (suc l) now =
      ⊎_elim
      (λ (yes : present v b l ≡ true).
      let ih = begin_of v b l yes in
      let le = ih.before in
      record {
        at = ih.at;
        before = omega (arith, le);
        begins = ih.begins;
        run =
            λ k from to. further l k now (λ in_. ih.run k from in_) to;
      })
      (λ (no : present v b l ≡ false).
      let some : nat_lt 0 (suc l) ≡ true = grind (arith, nat_tests) in
      let at : suc l - 1 ≡ l = omega arith in
      record {
        at = suc l;
        before = omega arith;
        begins =
            new (present v b (suc l)) (nat_lt 0 (suc l)) (present v b (suc l - 1)) now
            (ap (present v b) at ∙ no);
        run = λ k from to. let e : k ≡ suc l =
            omega (arith, from, to) in subst (λ i. present v b i ≡ true) (sym e) now;
      })
      (truth (present v b l))
    where
      new : (x y z : Bool) → x ≡ true → z ≡ false → (x && not (y && z)) ≡ true
      new x true z e f = rw (e, f) refl
      new x false z e f = rw e refl

      further : (l k : ℕ) → present v b (suc l) ≡ true → (k ≤ l → present v b k ≡ true) →
          k ≤ suc l → present v b k ≡ true
      further l k now ih to =
          ⊎_elim
          (λ (e : k ≡ suc l). subst (λ i. present v b i ≡ true) (sym e) now)
          (λ (ne : k ≡ suc l → ⊥). ih (omega (arith, to, ne)))
          (cases_eq k (suc l))

  if_yes : (b : Bool) (t : Strand) → b ≡ true → (if b then Some t else None) ≡ Some t
  if_yes true t e = refl
  if_yes false t e = cc

  pub strand_of : (v b l : ℕ) → present v b l ≡ true → v < length code.vars →
      b < length code.blocks → l < layer_count code b → (i : ℕ) × (t : Strand) ×
      (slice_get (strands tables code live) i ≡ Some t) × Covers t v b l
  strand_of v b l now v_in b_in l_in =
      let s = begin_of v b l now in
      let t = strand tables code live v b s.at in
      let le = s.before in
      let n = layer_count code b - s.at in
      let m : suc l - s.at ≤ prefix_len (present v b) (range_with_len s.at n) =
      run_long (present v b) s.at n (suc l - s.at) (omega (arith, le, l_in))
      (λ k lt. s.run (s.at + k) (omega arith) (omega (arith, lt, le))) in
      let i = in_flat (block_strands tables code live) (range_with_len 0 (length code.blocks)) b t
      (in_range 0 (length code.blocks) b (omega arith) (omega (arith, b_in)))
      (in_flat (layer_strands tables code live b) (range_with_len 0 (layer_count code b)) s.at t
      (in_range 0 (layer_count code b) s.at (omega arith) (omega (arith, le, l_in)))
      (in_filter_map (begun_strand tables code live b s.at) (range_with_len 0 (length code.vars)) v
      t (in_range 0 (length code.vars) v (omega arith) (omega (arith, v_in)))
      (if_yes (begins tables code live v b s.at) t s.begins))) in
      let a = at_in (strands tables code live) t i in
      (a.0, t, a.1, record { var = refl; block = refl; after = le; before = omega (arith, m, le) })
