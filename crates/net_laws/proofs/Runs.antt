-- What every strand of a network is: a run of layers at which its variable is present. A variable
-- has one at most at two
-- layers side by side.
use Rattle.std.proofs.Common.{ℕ, zero, suc, ◌≡◌, ◌≢◌, leb, ◌+◌, ◌-◌, ◌<◌, ◌≤◌, Bool, true, false}
use Rattle.std.proofs.Common.{not, ◌&&◌, cond, eqb, List, [], ◌∷◌, ◌++◌, length, get_or, All, map}
use Rattle.std.proofs.Common.{count_by, refl, sym, ap, ◌∙◌, subst, arith, inl, inr, Option, Some}
use Rattle.std.proofs.Common.{None, true≢false}
use Rattle.std.specs.Prelude.{nat_lt}
use Rattle.std.specs.List.{range_with_len, prefix_len, filter_map, flat_map, cons_option}
use Rattle.std.specs.List.{enumerate_from}
use Rattle.std.proofs.lemmas.Bool.{and_parts, and_from, and_left, and_right, eq-eqb, ne_eqb, lt-ltb}
use Rattle.std.proofs.lemmas.Bool.{cases_Bool, cases_eq, cases_order, leb-true, not-true}
use Rattle.std.proofs.lemmas.List.Elements.{All-map, All-weaker}
use Rattle.std.proofs.lemmas.List.FromFn.{length-range_with_len, get_or-map-range_with_len}
use Rattle.std.proofs.lemmas.List.Sums.{prefix_len-le-length, sum_by-append}
use Rattle.pra_list.proofs.Comprehensions.{All-filter_map, All-flat_map, All-range, All-enumerate}
use Rattle.pra_list.proofs.Comprehensions.{IfSome-test}
use Rattle.pra_list.proofs.Counts.{count-cons, count-yes, count-no, some_count}
use Rattle.pra_base.specs.declared.code.VProc.{VProc}
use Rattle.pra_base.specs.Code.{kind_of}
use Rattle.net_form.specs.declared.net.Strand.{Strand}
use Rattle.net_form.specs.declared.net.Tie.{Tie}
use Rattle.net_form.specs.Tables.{all_tables}
use Rattle.net_form.specs.Strands.{Lives, layer_count, is_present, is_constant, begins, run_from}
use Rattle.net_form.specs.Strands.{mask_at, strand, begun_strand, layer_strands, block_strands}
use Rattle.net_form.specs.Strands.{strands}
use Rattle.net_form.specs.Network.{grouped}
use Rattle.net_form.specs.Admitted.{no_strand}
use Rattle.net_laws.specs.Homes.{is_there, mask_in}

-- ---- a run

passing : (p : ℕ → Bool) (l n i : ℕ) → i < prefix_len p (range_with_len l n) → p (l + i) ≡ true
passing p l zero i lt = absurd (omega (arith, lt))
passing p l (suc n) zero lt = elim (cases_Bool (p l)) as (λ _. p (l + 0) ≡ true) [
  | inl is ↦ ap p (let e : l + 0 ≡ l = omega arith in e) ∙ is
  | inr no_ ↦ absurd (let none = ap (λ t. cond t (1 + prefix_len p (range_with_len (l + 1) n)) 0)
      no_ in omega (arith, none, lt))
]
passing p l (suc n) (suc i) lt = elim (cases_Bool (p l)) as (λ _. p (l + suc i) ≡ true) [
  | inl is ↦ ap p (let e : l + suc i ≡ (l + 1) + i = omega arith in e)
      ∙ passing p (l + 1) n i (let more =
      ap (λ t. cond t (1 + prefix_len p (range_with_len (l + 1) n)) 0) is in
      omega (arith, more, lt))
  | inr no_ ↦ absurd (let none = ap (λ t. cond t (1 + prefix_len p (range_with_len (l + 1) n)) 0)
      no_ in omega (arith, none, lt))
]

some : (p : ℕ → Bool) (l n : ℕ) → 0 < n → p l ≡ true → 0 < prefix_len p (range_with_len l n)
some p l zero lt is = absurd (omega (arith, lt))
some p l (suc n) lt is = let e = ap (λ t. cond t (1 + prefix_len p (range_with_len (l + 1) n)) 0)
    is in omega (arith, e)

module _ (code : VProc) (live : Lives) where
  abbrev pub present : ℕ → ℕ → ℕ → Bool
  present v b l = is_present all_tables code live v b l

  pub record IsRun (t : Strand) : Type 0 where
    pub var : t.var.0 < length code.vars
    pub block : t.block.0 < length code.blocks
    pub order : t.first ≤ t.last
    pub within : t.last < layer_count code t.block.0
    pub present : (l : ℕ) → t.first ≤ l → l ≤ t.last →
        is_present all_tables code live t.var.0 t.block.0 l ≡ true
    pub before : 0 < t.first → is_present all_tables code live t.var.0 t.block.0 (t.first - 1) ≡
        false
    pub masks : (l : ℕ) → t.first ≤ l → l ≤ t.last → mask_in t l ≡
        mask_at all_tables code live t.var.0 t.block.0 l
    pub constant : t.constant ≡ is_constant (kind_of code t.var.0)

  run_at : (b l v : ℕ) → b < length code.blocks → l < layer_count code b → v < length code.vars →
      begins all_tables code live v b l ≡ true
      → IsRun (strand all_tables code live v b l)
  run_at b l v in_code in_block in_vars begun =
      let n = layer_count code b - l in
      let parts = and_parts (present v b l) (not (nat_lt 0 l && present v b (l - 1))) begun in
      let more = some (present v b) l n (omega (arith, in_block)) parts.0 in
      let most = prefix_len-le-length (present v b) (range_with_len l n) in
      let long = length-range_with_len l n in record {
        var = in_vars;
        block = in_code;
        order = omega (arith, more);
        within = omega (arith, more, most, long, in_block);
        present = λ k le last. subst (λ m. present v b m ≡ true)
            (let e : l + (k - l) ≡ k = omega (arith, le) in e)
            (passing (present v b) l n (k - l) (omega (arith, le, last, more)));
        before = λ after. not_so (nat_lt 0 l) (present v b (l - 1)) (lt-ltb 0 l after)
            (not-true _ parts.1);
        masks = λ k le last. get_or-map-range_with_len (mask_at all_tables code live v b) l
            (run_from all_tables code live v b l) (k - l) k 0
            (omega (arith, le, last, more)) (omega (arith, le));
        constant = refl;
      }
    where
      not_so : (x y : Bool) → x ≡ true → (x && y) ≡ false → y ≡ false
      not_so x y is h = sym (ap (λ t. t && y) is) ∙ h

  all_runs : All IsRun (strands all_tables code live)
  all_runs = All-flat_map IsRun (block_strands all_tables code live)
      (range_with_len 0 (length code.blocks))
      (All-range (λ b. All IsRun (block_strands all_tables code live b)) 0 (length code.blocks)
      (λ b _ b_lt.
      All-flat_map IsRun (layer_strands all_tables code live b)
      (range_with_len 0 (layer_count code b))
      (All-range (λ l. All IsRun (layer_strands all_tables code live b l)) 0 (layer_count code b)
      (λ l _ l_lt.
      All-filter_map IsRun (begun_strand all_tables code live b l)
      (range_with_len 0 (length code.vars))
      (All-range _ 0 (length code.vars) (λ v _ v_lt.
      IfSome-test IsRun (begins all_tables code live v b l) (strand all_tables code live v b l)
      (run_at b l v (omega (arith, b_lt)) (omega (arith, l_lt)) (omega (arith, v_lt)))))))))

  pub net_runs : (ts : List Tie) (least : ℕ → ℕ) →
      All IsRun (map (grouped ts least) (enumerate_from 0 (strands all_tables code live)))
  net_runs ts least = All-map IsRun (grouped ts least)
      (enumerate_from 0 (strands all_tables code live))
      (All-weaker (λ (s : ℕ × Strand). IsRun s.1) (λ s. IsRun (grouped ts least s))
      (λ s is. record {
        var = is.var;
        block = is.block;
        order = is.order;
        within = is.within;
        present = is.present;
        before = is.before;
        masks = is.masks;
        constant = is.constant;
      })
      (enumerate_from 0 (strands all_tables code live))
      (All-enumerate IsRun 0 (strands all_tables code live) all_runs))

-- ---- one strand begins there

count-append : {X : Type 0} (p : X → Bool) (xs ys : List X) → count_by p (xs ++ ys) ≡
    count_by p xs + count_by p ys
count-append p xs ys = sum_by-append (λ x. cond (p x) 1 0) xs ys

flat_none : {Y : Type 0} (p : Y → Bool) (f : ℕ → List Y) (a n : ℕ) →
    ((i : ℕ) → a ≤ i → count_by p (f i) ≡ 0) → count_by p (flat_map f (range_with_len a n)) ≡ 0
flat_none p f a zero none = refl
flat_none p f a (suc n) none =
    let both = count-append p (f a) (flat_map f (range_with_len (a + 1) n)) in
    let here = none a (omega arith) in
    let rest = flat_none p f (a + 1) n (λ i le. none i (omega (arith, le))) in
    omega (arith, both, here, rest)

flat_one : {Y : Type 0} (p : Y → Bool) (f : ℕ → List Y) (k a n : ℕ) →
    ((i : ℕ) → i ≢ k → count_by p (f i) ≡ 0) → count_by p (f k) ≤ 1 →
    count_by p (flat_map f (range_with_len a n)) ≤ 1
flat_one p f k a zero none one = omega arith
flat_one p f k a (suc n) none one =
    let both = count-append p (f a) (flat_map f (range_with_len (a + 1) n)) in
    elim (cases_eq a k) as (λ _. count_by p (flat_map f (range_with_len a (suc n))) ≤ 1) [
      | inl same ↦
          let here = subst (λ k. count_by p (f k) ≤ 1) (sym same) one in
          let rest = flat_none p f (a + 1) n (λ i le. none i (λ e. omega (arith, e, le, same))) in
          omega (arith, both, here, rest)
      | inr other ↦
          let here = none a other in
          let rest = flat_one p f k (a + 1) n none one in
          omega (arith, both, here, rest)
    ]

abbrev pub listed : {Y : Type 0} → Option Y → List Y
listed o = cons_option o []

pub as_flat : {X Y : Type 0} (f : X → Option Y) (xs : List X) → filter_map f xs ≡
    flat_map (λ i. listed (f i)) xs
as_flat f [] = refl
as_flat {Y = Y} f (x ∷ xs) = by (f x) ∙ ap (λ l. listed (f x) ++ l) (as_flat f xs)
  where
    by : (o : Option Y) → cons_option o (filter_map f xs) ≡ listed o ++ filter_map f xs
    by None = refl
    by (Some y) = refl

-- a strand of variable v in block b that begins at layer l
abbrev pub is_start : ℕ → ℕ → ℕ → Strand → Bool
is_start v b l t = eqb t.var.0 v && eqb t.block.0 b && eqb t.first l

module _ (code : VProc) (live : Lives) (v b l : ℕ) where
  here_none : (c k u : ℕ) → ((u ≡ v) × (c ≡ b) × (k ≡ l) → ⊥) →
      count_by (is_start v b l) (listed (begun_strand all_tables code live c k u)) ≡ 0
  here_none c k u other = elim (cases_Bool (begins all_tables code live u c k))
      as (λ _. count_by (is_start v b l) (listed (begun_strand all_tables code live c k u)) ≡ 0) [
        | inl is ↦ ap (λ t. count_by (is_start v b l)
            (listed (cond t (Some (strand all_tables code live u c k)) None))) is
            ∙ count-no (is_start v b l) (strand all_tables code live u c k) []
            (ap (λ t. t) (fails u c k other))
        | inr no_ ↦ ap (λ t. count_by (is_start v b l)
            (listed (cond t (Some (strand all_tables code live u c k)) None))) no_
      ]
    where
      fails : (u c k : ℕ) → ((u ≡ v) × (c ≡ b) × (k ≡ l) → ⊥) → (eqb u v && eqb c b && eqb k l) ≡
          false
      fails u c k other = elim (cases_eq u v) as (λ _. (eqb u v && eqb c b && eqb k l) ≡ false) [
        | inl a ↦ elim (cases_eq c b) as (λ _. (eqb u v && eqb c b && eqb k l) ≡ false) [
          | inl d ↦ and_right (eqb u v && eqb c b) (eqb k l) (ne_eqb k l (λ e. other (a, d, e)))
          | inr d ↦ and_left (eqb u v && eqb c b) (eqb k l)
              (and_right (eqb u v) (eqb c b) (ne_eqb c b d))
        ]
        | inr a ↦ and_left (eqb u v && eqb c b) (eqb k l)
            (and_left (eqb u v) (eqb c b) (ne_eqb u v a))
      ]

  one_listed : (o : Option Strand) → count_by (is_start v b l) (listed o) ≤ 1
  one_listed None = omega arith
  one_listed (Some t) = let e = count-cons (is_start v b l) t [] in let few =
      bit_few (is_start v b l t) in omega (arith, e, few)
    where
      bit_few : (x : Bool) → cond x 1 0 ≤ 1
      bit_few true = omega arith
      bit_few false = omega arith

  layer_flat : (c k : ℕ) → layer_strands all_tables code live c k ≡
      flat_map (λ u. listed (begun_strand all_tables code live c k u))
      (range_with_len 0 (length code.vars))
  layer_flat c k = as_flat (begun_strand all_tables code live c k)
      (range_with_len 0 (length code.vars))

  layer_none : (c k : ℕ) → ((c ≡ b) × (k ≡ l) → ⊥) →
      count_by (is_start v b l) (layer_strands all_tables code live c k) ≡ 0
  layer_none c k other = ap (count_by (is_start v b l)) (layer_flat c k)
      ∙ flat_none (is_start v b l) (λ u. listed (begun_strand all_tables code live c k u)) 0
      (length code.vars) (λ u _. here_none c k u (λ e. other (e.1, e.2)))

  layer_one : count_by (is_start v b l) (layer_strands all_tables code live b l) ≤ 1
  layer_one = subst (λ ts. count_by (is_start v b l) ts ≤ 1) (sym (layer_flat b l))
      (flat_one (is_start v b l) (λ u. listed (begun_strand all_tables code live b l u)) v 0
      (length code.vars) (λ u other. here_none b l u (λ e. other e.0))
      (one_listed (begun_strand all_tables code live b l v)))

  block_none : (c : ℕ) → c ≢ b → count_by (is_start v b l) (block_strands all_tables code live c) ≡
      0
  block_none c other = flat_none (is_start v b l) (layer_strands all_tables code live c) 0
      (layer_count code c) (λ k _. layer_none c k (λ e. other e.0))

  block_one : count_by (is_start v b l) (block_strands all_tables code live b) ≤ 1
  block_one = flat_one (is_start v b l) (layer_strands all_tables code live b) l 0
      (layer_count code b) (λ k other. layer_none b k (λ e. other e.1)) layer_one

  pub one_start : count_by (is_start v b l) (strands all_tables code live) ≤ 1
  one_start = flat_one (is_start v b l) (block_strands all_tables code live) b 0
      (length code.blocks) block_none block_one

  grouped_same : (ts : List Tie) (least : ℕ → ℕ) (n : ℕ) (ss : List Strand) →
      count_by (is_start v b l) (map (grouped ts least) (enumerate_from n ss)) ≡
      count_by (is_start v b l) ss
  grouped_same ts least n [] = refl
  grouped_same ts least n (s ∷ ss) =
      let a = count-cons (is_start v b l) (grouped ts least (n, s))
      (map (grouped ts least) (enumerate_from (n + 1) ss)) in
      let d = count-cons (is_start v b l) s ss in
      let more = grouped_same ts least (n + 1) ss in
      omega (arith, a, d, more)

  pub net_one_start : (ts : List Tie) (least : ℕ → ℕ) →
      count_by (is_start v b l)
      (map (grouped ts least) (enumerate_from 0 (strands all_tables code live))) ≤ 1
  net_one_start ts least = let e = grouped_same ts least 0 (strands all_tables code live) in
      let one = one_start in omega (arith, e, one)

-- ---- two strands of a variable are apart

two_pass : {X : Type 0} (p : X → Bool) (xs : List X) (i j : ℕ) (d : X) → i < j → j < length xs →
    p (get_or xs i d) ≡ true → p (get_or xs j d) ≡ true → 1 < count_by p xs
two_pass p [] i j d lt in_ one two = absurd (omega (arith, in_))
two_pass p (x ∷ xs) zero zero d lt in_ one two = absurd (omega (arith, lt))
two_pass p (x ∷ xs) zero (suc j) d lt in_ one two = let e = count-yes p x xs one in let more =
    some_count p xs j d (omega (arith, in_)) two in omega (arith, e, more)
two_pass p (x ∷ xs) (suc i) zero d lt in_ one two = absurd (omega (arith, lt))
two_pass p (x ∷ xs) (suc i) (suc j) d lt in_ one two = let e = count-cons p x xs in let more =
    two_pass p xs i j d (omega (arith, lt)) (omega (arith, in_)) one two in omega (arith, e, more)

module _ (code : VProc) (live : Lives) (ts : List Strand) (runs : All (IsRun code live) ts)
    (once : (v b l : ℕ) → count_by (is_start v b l) ts ≤ 1) where
  abbrev pub strand_in : ℕ → Strand
  strand_in s = get_or ts s no_strand

  run_in : (s : ℕ) → s < length ts → IsRun code live (strand_in s)
  run_in s lt = runs s no_strand lt

  -- one can't begin while the other goes on, or where it has just ended
  not_later : (t u : Strand) → IsRun code live t → IsRun code live u → t.var.0 ≡ u.var.0 →
      t.block.0 ≡ u.block.0 → (x y : ℕ) → x ≤ t.last → u.first ≤ y → y ≤ x + 1 → t.first < u.first →
      ⊥
  not_later t u a d var block x y last first far less =
      let k = u.first - 1 in
      true≢false (sym (a.present k (omega (arith, less)) (omega (arith, last, first, far, less)))
      ∙ ap (λ v. present code live v t.block.0 k) var ∙ ap (λ b. present code live u.var.0 b k)
      block
      ∙ d.before (omega (arith, less)))

  there : (t : Strand) (x : ℕ) → is_there t x ≡ true → (t.first ≤ x) × (x ≤ t.last)
  there t x at = let p = and_parts (leb t.first x) (leb x t.last) at in
      (leb-true t.first x p.0, leb-true x t.last p.1)

  same_start : (i j : ℕ) → i < length ts → j < length ts → i ≢ j → (strand_in i).var.0 ≡
      (strand_in j).var.0 → (strand_in i).block.0 ≡ (strand_in j).block.0 → (strand_in i).first ≡
      (strand_in j).first → ⊥
  same_start i j i_lt j_lt other var block first =
      let t = strand_in j in
      let p = is_start t.var.0 t.block.0 t.first in
      let one = once t.var.0 t.block.0 t.first in
      let at_i : p (strand_in i) ≡ true =
      and_from (eqb (strand_in i).var.0 t.var.0 && eqb (strand_in i).block.0 t.block.0)
      (eqb (strand_in i).first t.first)
      (and_from (eqb (strand_in i).var.0 t.var.0) (eqb (strand_in i).block.0 t.block.0)
      (eq-eqb (strand_in i).var.0 t.var.0 var) (eq-eqb (strand_in i).block.0 t.block.0 block))
      (eq-eqb (strand_in i).first t.first first) in
      let at_j : p (strand_in j) ≡ true = and_from (eqb t.var.0 t.var.0 && eqb t.block.0 t.block.0)
      (eqb t.first t.first)
      (and_from (eqb t.var.0 t.var.0) (eqb t.block.0 t.block.0) (eq-eqb t.var.0 t.var.0 refl)
      (eq-eqb t.block.0 t.block.0 refl))
      (eq-eqb t.first t.first refl) in
      elim (cases_order i j) as (λ _. ⊥) [
        | inl same ↦ other same
        | inr (inl lt) ↦ let two = two_pass p ts i j no_strand lt j_lt at_i at_j in
            omega (arith, one, two)
        | inr (inr lt) ↦ let two = two_pass p ts j i no_strand lt i_lt at_j at_i in
            omega (arith, one, two)
      ]

  -- at two layers side by side, or at one
  pub one_strand : (i j x y : ℕ) → i < length ts → j < length ts → i ≢ j → (strand_in i).var.0 ≡
      (strand_in j).var.0 → (strand_in i).block.0 ≡ (strand_in j).block.0
      → is_there (strand_in i) x ≡ true → is_there (strand_in j) y ≡ true → x ≤ y + 1 → y ≤ x + 1 →
      ⊥
  one_strand i j x y i_lt j_lt other var block at_x at_y near far =
      let a = there (strand_in i) x at_x in
      let d = there (strand_in j) y at_y in
      elim (cases_order (strand_in i).first (strand_in j).first) as (λ _. ⊥) [
        | inl same ↦ same_start i j i_lt j_lt other var block same
        | inr (inl lt) ↦ not_later (strand_in i) (strand_in j) (run_in i i_lt) (run_in j j_lt) var
            block x y a.1 d.0 far lt
        | inr (inr lt) ↦ not_later (strand_in j) (strand_in i) (run_in j j_lt) (run_in i i_lt)
            (sym var) (sym block) y x d.1 a.0 near lt
      ]
