-- Where the paths of strands use registers, layers counted over all blocks.
use Rattle.std.proofs.Common.{ℕ, zero, suc, ◌≡◌, ◌+◌, ◌-◌, ◌<◌, ◌≤◌, Bool, true, false, ◌&&◌, cond}
use Rattle.std.proofs.Common.{eqb, leb, List, [], ◌∷◌, ◌++◌, length, get_or, take, count_by, sum_by}
use Rattle.std.proofs.Common.{refl, sym, ap, ◌∙◌, subst, arith, inl, inr, ◌⊎◌, Option, Some, None}
use Rattle.std.proofs.Common.{append-nil, append_assoc}
use Rattle.std.proofs.lemmas.Bool.{cases_Bool, cases_eq, cases_lt, cases_order, and_left, eq-eqb}
use Rattle.std.proofs.lemmas.Bool.{ne_eqb, le-leb, lt-leb}
use Rattle.std.proofs.lemmas.List.Sums.{sum_by-cons, sum_by-append}
use Rattle.pra_list.proofs.Counts.{bit, count-agree, count-none}
use Rattle.pra_base.specs.declared.ids.Place.{Place}
use Rattle.pra_base.specs.declared.ids.Place.TheVariants.{Mem}
use Rattle.net_form.specs.declared.net.NetBlock.{NetBlock}
use Rattle.net_form.specs.declared.net.Strand.{Strand}
use Rattle.net_form.specs.declared.net.Net.{Net}
use Rattle.net_form.specs.Flow.{Edge, is_at, edges, flow_from}
use Rattle.net_form.specs.Admitted.{strand_at, no_strand, in_register, uses_bundle}
use Rattle.net_form.specs.Index.{first_layer}
use Rattle.net_form.proofs.Paths.{none_earlier, first_only, later_layer, of_path}
use Rattle.net_form.proofs.PathUses.{uses}

-- ---- a path

-- what is counted of a path at layer l is what its place there is
abbrev pub held : (Place → Bool) → List Place → ℕ → ℕ → ℕ
held c ps k l = cond (leb k l)
    (cond (leb (l + 1) (k + length ps)) (bit (c (get_or ps (l - k) Mem))) 0) 0

at_layer : (s l : ℕ) (c : Place → Bool) (k : ℕ) (p : Option Place) (ps : List Place) →
    count_by (λ e. is_at s l e && c e.to) (edges s k p ps) ≡ held c ps k l
at_layer s l c k p [] = sym (by (leb k l) (leb (l + 1) (k + 0)) (small (cases_lt l k)))
  where
    small : (l < k) ⊎ (k ≤ l) → (leb k l ≡ false) ⊎ (leb (l + 1) (k + 0) ≡ false)
    small (inl lt) = inl (lt-leb k l lt)
    small (inr le) = inr (lt-leb (l + 1) (k + 0) (omega (arith, le)))

    by : (x y : Bool) → (x ≡ false) ⊎ (y ≡ false) →
        cond x (cond y (bit (c (get_or [] (l - k) Mem))) 0) 0 ≡ 0
    by x y (inl e) = ap (λ t. cond t (cond y (bit (c (get_or [] (l - k) Mem))) 0) 0) e
    by true y (inr e) = ap (λ t. cond t (bit (c (get_or [] (l - k) Mem))) 0) e
    by false y (inr e) = refl
at_layer s l c k p (q ∷ qs) =
    elim (cases_order l k) as (λ _. count_by (λ e. is_at s l e && c e.to) (edges s k p (q ∷ qs)) ≡
    held c (q ∷ qs) k l) [
      | inl same ↦ subst (λ l. count_by (λ e. is_at s l e && c e.to) (edges s k p (q ∷ qs)) ≡
          held c (q ∷ qs) k l) (sym same)
          (first_only s k p q qs (λ e. c e.to)
          ∙ sym (ap (λ t. cond t (cond (leb (k + 1) (k + suc (length qs)))
          (bit (c (get_or (q ∷ qs) (k - k) Mem))) 0) 0) (le-leb k k (omega arith))
          ∙ ap (λ t. cond t (bit (c (get_or (q ∷ qs) (k - k) Mem))) 0)
          (le-leb (k + 1) (k + suc (length qs)) (omega arith))
          ∙ ap (λ n. bit (c (get_or (q ∷ qs) n Mem))) (let e : k - k ≡ 0 = omega arith in e)))
      | inr (inl earlier) ↦ none_earlier s k p (q ∷ qs) l (λ e. c e.to) earlier
          ∙ sym (ap (λ t. cond t (cond (leb (l + 1) (k + suc (length qs)))
          (bit (c (get_or (q ∷ qs) (l - k) Mem))) 0) 0) (lt-leb k l earlier))
      | inr (inr later) ↦ later_layer s k l p q qs (λ e. c e.to) later ∙ at_layer s l c (suc k)
          (Some q) qs
          ∙ ap (λ t. cond t (cond (leb (l + 1) (suc k + length qs))
          (bit (c (get_or qs (l - suc k) Mem))) 0) 0)
          (le-leb (suc k) l (omega (arith, later)) ∙ sym (le-leb k l (omega (arith, later))))
          ∙ ap (λ n. cond (leb k l) (cond (leb (l + 1) n) (bit (c (get_or qs (l - suc k) Mem))) 0)
          0)
          (let e : suc k + length qs ≡ k + suc (length qs) = omega arith in e)
          ∙ ap (λ n. cond (leb k l)
          (cond (leb (l + 1) (k + suc (length qs))) (bit (c (get_or (q ∷ qs) n Mem))) 0) 0)
          (let e : suc (l - suc k) ≡ l - k = omega (arith, later) in e)
    ]

module _ (net : Net) (s r : ℕ) (p : Option Place) (ps : List Place) where
  -- at layer l of its block
  pub uses_at : (l k : ℕ) → uses net (first_layer net.blocks (strand_at net s).block.0 + l) r s k p
      ps ≡ held (in_register r) ps k l
  uses_at l k = count-agree (uses_bundle net (b + l) r) (λ e. is_at s l e && in_register r e.to)
      (edges s k p ps)
      (λ j d lt. let e : Edge = get_or (edges s k p ps) j d in
      agree e ((of_path s k p ps j d lt).strand))
      ∙ at_layer s l (in_register r) k p ps
    where
      b : ℕ
      b = first_layer net.blocks (strand_at net s).block.0

      test : (x y : Bool) → x ≡ y → (x && in_register r Mem) ≡ (y && in_register r Mem)
      test x y e = ap (λ t. t && in_register r Mem) e

      agree : (e : Edge) → e.strand ≡ s → uses_bundle net (b + l) r e ≡
          (is_at s l e && in_register r e.to)
      agree e is = ap (λ t. t && in_register r e.to) (
          ap (λ x. eqb (first_layer net.blocks (strand_at net x).block.0 + e.layer) (b + l)) is
          ∙ shifted b e.layer l
          ∙ sym (ap (λ t. t && eqb e.layer l) (eq-eqb e.strand s is)))
        where
          shifted : (b x y : ℕ) → eqb (b + x) (b + y) ≡ eqb x y
          shifted b x y = elim (cases_eq x y) as (λ _. eqb (b + x) (b + y) ≡ eqb x y) [
            | inl same ↦ eq-eqb (b + x) (b + y) (omega (arith, same)) ∙ sym (eq-eqb x y same)
            | inr other ↦ ne_eqb (b + x) (b + y) (λ e. other (omega (arith, e)))
                ∙ sym (ne_eqb x y other)
          ]

  -- and at none below its block
  pub uses_below : (n k : ℕ) → n < first_layer net.blocks (strand_at net s).block.0 →
      uses net n r s k p ps ≡ 0
  uses_below n k lt = count-none (uses_bundle net n r) (edges s k p ps) (λ j d j_lt.
      let e : Edge = get_or (edges s k p ps) j d in
      let is = (of_path s k p ps j d j_lt).strand in
      let same = ap (λ x. first_layer net.blocks (strand_at net x).block.0) is in
      and_left (eqb (first_layer net.blocks (strand_at net e.strand).block.0 + e.layer) n)
      (in_register r e.to)
      (ne_eqb (first_layer net.blocks (strand_at net e.strand).block.0 + e.layer) n
      (λ h. omega (arith, h, same, lt))))

-- what is held is one at most, and then the place is there and is the register
pub record IsHeld (c : Place → Bool) (ps : List Place) (k l : ℕ) : Type 0 where
  pub after : k ≤ l
  pub before : l < k + length ps
  pub is : c (get_or ps (l - k) Mem) ≡ true

pub held_is : (c : Place → Bool) (ps : List Place) (k l : ℕ) → 0 < held c ps k l → IsHeld c ps k l
held_is c ps k l some = elim (cases_lt l k) as (λ _. IsHeld c ps k l) [
  | inl early ↦ absurd (let z =
      ap (λ t. cond t (cond (leb (l + 1) (k + length ps)) (bit (c (get_or ps (l - k) Mem))) 0) 0)
      (lt-leb k l early) in omega (arith, z, some))
  | inr le ↦ elim (cases_lt l (k + length ps)) as (λ _. IsHeld c ps k l) [
    | inr past ↦ absurd (let z =
        ap (λ t. cond t (cond (leb (l + 1) (k + length ps)) (bit (c (get_or ps (l - k) Mem))) 0) 0)
        (le-leb k l le)
        ∙ ap (λ t. cond t (bit (c (get_or ps (l - k) Mem))) 0)
        (lt-leb (l + 1) (k + length ps) (omega (arith, past))) in omega (arith, z, some))
    | inl lt ↦ elim (cases_Bool (c (get_or ps (l - k) Mem))) as (λ _. IsHeld c ps k l) [
      | inl is ↦ record { after = le; before = lt; is = is }
      | inr no_ ↦ absurd (let z =
          ap (λ t. cond t (cond (leb (l + 1) (k + length ps)) (bit (c (get_or ps (l - k) Mem))) 0)
          0) (le-leb k l le)
          ∙ ap (λ t. cond t (bit (c (get_or ps (l - k) Mem))) 0)
          (le-leb (l + 1) (k + length ps) (omega (arith, lt)))
          ∙ ap bit no_ in omega (arith, z, some))
    ]
  ]
]

pub held_once : (c : Place → Bool) (ps : List Place) (k l : ℕ) → held c ps k l ≤ 1
held_once c ps k l = by (leb k l) (leb (l + 1) (k + length ps)) (c (get_or ps (l - k) Mem))
  where
    by : (x y z : Bool) → cond x (cond y (bit z) 0) 0 ≤ 1
    by true true true = omega arith
    by true true false = omega arith
    by true false z = omega arith
    by false y z = omega arith

pub held_yes : (c : Place → Bool) (ps : List Place) (k l : ℕ) → k ≤ l → l < k + length ps →
    c (get_or ps (l - k) Mem) ≡ true → held c ps k l ≡ 1
held_yes c ps k l le lt is =
    ap (λ t. cond t (cond (leb (l + 1) (k + length ps)) (bit (c (get_or ps (l - k) Mem))) 0) 0)
    (le-leb k l le)
    ∙ ap (λ t. cond t (bit (c (get_or ps (l - k) Mem))) 0)
    (le-leb (l + 1) (k + length ps) (omega (arith, lt))) ∙ ap bit is

-- ---- paths one after the other

pub no_paths : (k : ℕ) (ts : List Strand) → flow_from k ts [] ≡ []
no_paths k [] = refl
no_paths k (t ∷ ts) = refl

pub flow_push : (k : ℕ) (ts : List Strand) (rs : List (List Place)) (ps : List Place) (d : Strand) →
    length rs < length ts
    → flow_from k ts (rs ++ ps ∷ []) ≡ flow_from k ts rs ++ edges (k + length rs)
    (get_or ts (length rs) d).first None ps
flow_push k [] rs ps d lt = absurd (omega (arith, lt))
flow_push k (t ∷ ts) [] ps d lt =
    ap (λ l. edges k t.first None ps ++ l) (no_paths (suc k) ts)
    ∙ append-nil (edges k t.first None ps) ∙ ap (λ n. edges n t.first None ps)
    (let e : k ≡ k + 0 = omega arith in e)
flow_push k (t ∷ ts) (r ∷ rs) ps d lt =
    ap (λ l. edges k t.first None r ++ l) (flow_push (suc k) ts rs ps d (omega (arith, lt))
    ∙ ap (λ n. flow_from (suc k) ts rs ++ edges n (get_or ts (length rs) d).first None ps)
    (let e : suc k + length rs ≡ k + suc (length rs) = omega arith in e))
    ∙ sym (append_assoc (edges k t.first None r) (flow_from (suc k) ts rs)
    (edges (k + suc (length rs)) (get_or ts (length rs) d).first None ps))

count-append : {X : Type 0} (p : X → Bool) (xs ys : List X) → count_by p (xs ++ ys) ≡
    count_by p xs + count_by p ys
count-append p xs ys = sum_by-append (λ x. cond (p x) 1 0) xs ys

pub count_push : (c : Edge → Bool) (ts : List Strand) (rs : List (List Place)) (ps : List Place)
    (d : Strand) (s : ℕ) → length rs ≡ s → s < length ts
    → count_by c (flow_from 0 ts (rs ++ ps ∷ [])) ≡ count_by c (flow_from 0 ts rs) + count_by c
    (edges s (get_or ts s d).first None ps)
count_push c ts rs ps d s same lt =
    ap (count_by c) (flow_push 0 ts rs ps d (omega (arith, same, lt)))
    ∙ count-append c (flow_from 0 ts rs)
    (edges (0 + length rs) (get_or ts (length rs) d).first None ps)
    ∙ ap (λ n. count_by c (flow_from 0 ts rs) + count_by c
    (edges n (get_or ts (length rs) d).first None ps))
    (let e : 0 + length rs ≡ s = omega (arith, same) in e)
    ∙ ap (λ n. count_by c (flow_from 0 ts rs) + count_by c (edges s (get_or ts n d).first None ps))
    same

-- what is counted at all is counted on some path
pub record IsCounted (c : Edge → Bool) (k : ℕ) (ts : List Strand) (rs : List (List Place)) : Type 0
  where
    pub at : ℕ
    pub within : at < length rs
    pub some : 0 < count_by c (edges (k + at) (get_or ts at no_strand).first None (get_or rs at []))

pub counted : (c : Edge → Bool) (k : ℕ) (ts : List Strand) (rs : List (List Place)) →
    0 < count_by c (flow_from k ts rs) → IsCounted c k ts rs
counted c k [] rs some = absurd (omega (arith, some))
counted c k (t ∷ ts) [] some = absurd (omega (arith, some))
counted c k (t ∷ ts) (r ∷ rs) some =
    let both = count-append c (edges k t.first None r) (flow_from (suc k) ts rs) in
    elim (cases_lt 0 (count_by c (edges k t.first None r)))
    as (λ _. IsCounted c k (t ∷ ts) (r ∷ rs)) [
      | inl here ↦ record {
        at = 0;
        within = omega arith;
        some =
            subst (λ n. 0 < count_by c (edges n t.first None r))
            (let e : k ≡ k + 0 = omega arith in e) here;
      }
      | inr none ↦
          let rest = counted c (suc k) ts rs (omega (arith, both, some, none)) in record {
            at = suc rest.at;
            within = let lt = rest.within in omega (arith, lt);
            some = subst (λ n. 0 < count_by c
                (edges n (get_or ts rest.at no_strand).first None (get_or rs rest.at [])))
                (let e : suc k + rest.at ≡ k + suc rest.at = omega arith in e) rest.some;
          }
    ]

-- ---- layers of different blocks are different

blocks_apart : (xs : List NetBlock) (b c : ℕ) (d : NetBlock) → b < c → c ≤ length xs →
    sum_by (λ k. k.layers) (take b xs) + (get_or xs b d).layers ≤ sum_by (λ k. k.layers) (take c xs)
blocks_apart [] b c d lt le = absurd (omega (arith, lt, le))
blocks_apart (x ∷ xs) zero zero d lt le = absurd (omega (arith, lt))
blocks_apart (x ∷ xs) zero (suc c) d lt le = let e = sum_by-cons (λ (k : NetBlock). k.layers) x
    (take c xs) in omega (arith, e)
blocks_apart (x ∷ xs) (suc b) zero d lt le = absurd (omega (arith, lt))
blocks_apart (x ∷ xs) (suc b) (suc c) d lt le =
    let e = sum_by-cons (λ (k : NetBlock). k.layers) x (take b xs) in
    let f = sum_by-cons (λ (k : NetBlock). k.layers) x (take c xs) in
    let more = blocks_apart xs b c d (omega (arith, lt)) (omega (arith, le)) in
    omega (arith, e, f, more)

pub one_layer : (xs : List NetBlock) (b c l m : ℕ) (d : NetBlock) → b < length xs → c < length xs →
    l < (get_or xs b d).layers → m < (get_or xs c d).layers
    → first_layer xs b + l ≡ first_layer xs c + m → (b ≡ c) × (l ≡ m)
one_layer xs b c l m d b_lt c_lt l_lt m_lt same = elim (cases_order b c) as (λ _. (b ≡ c) × (l ≡ m)) [
  | inl e ↦ (e, let f = ap (first_layer xs) e in omega (arith, same, f))
  | inr (inl lt) ↦ absurd (let far = blocks_apart xs b c d lt (omega (arith, c_lt)) in
      omega (arith, far, same, l_lt))
  | inr (inr lt) ↦ absurd (let far = blocks_apart xs c b d lt (omega (arith, b_lt)) in
      omega (arith, far, same, m_lt))
]
