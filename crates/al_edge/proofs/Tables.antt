-- The table of who gives way.
use Rattle.std.proofs.Common.{ℕ, zero, suc, ◌≡◌, ◌≢◌, ◌+◌, ◌-◌, ◌<◌, ◌≤◌, Bool, true, false, ◌&&◌}
use Rattle.std.proofs.Common.{◌||◌, eqb, leb, List, [], ◌∷◌, length, get_or, set, take}
use Rattle.std.proofs.Common.{replicate, refl, sym, ap, ◌∙◌, subst, arith, inl, inr}
use Rattle.std.proofs.Common.{get_or-set_same, get_or-set_other, length-set}
use Rattle.std.specs.List.{list_any}
use Rattle.std.proofs.lemmas.Bool.{cases_eq, and_parts, and_left, and_right, or_right}
use Rattle.std.proofs.lemmas.Bool.{leb-true, eq-eqb, ne_eqb, and_from}
use Rattle.std.proofs.lemmas.List.{take_all, length-replicate, get_or-replicate}
use Rattle.std.proofs.lemmas.List.Folds.{list_any_more}
use Rattle.net_form.specs.declared.net.MemPair.{MemPair}
use Rattle.net_form.specs.declared.net.Strand.{Strand}
use Rattle.net_form.specs.declared.net.Net.{Net}
use Rattle.net_form.specs.Admitted.{strand_at, no_strand}
use Rattle.net_form.specs.Formed.{IsFormed}
use Rattle.net_laws.specs.Homes.{is_there, is_right, left_stays, yields_at}
use Rattle.al_edge.specs.Yielding.{IsTable, full_row, row_of}

pub bounds : (t : Strand) (l : ℕ) → is_there t l ≡ true → (t.first ≤ l) × (l ≤ t.last)
bounds t l at = let p = and_parts (leb t.first l) (leb l t.last) at in
    (leb-true t.first l p.0, leb-true l t.last p.1)

-- what the whole table says
module _ (net : Net) (formed : IsFormed net) (table : List (List Bool))
    (is : IsTable net (length net.pairs) table) (s l : ℕ) (s_lt : s < length net.strands)
    (there : is_there (strand_at net s) l ≡ true) where
  abbrev j : ℕ
  j = l - (strand_at net s).first

  pub entry : get_or (row_of table s) j false ≡ yields_at net s l
  entry =
      let b = bounds (strand_at net s) l there in
      let lo = b.0 in
      let hi = b.1 in
      let long = (formed.strands s no_strand s_lt).masks in
      is.value s j s_lt (omega (arith, lo, hi, long))
      ∙ ap (λ k. list_any (λ m. is_right s k m && left_stays net m)
      (take (length net.pairs) net.pairs))
      (let e : (strand_at net s).first + j ≡ l = omega (arith, lo) in e)
      ∙ ap (list_any (λ m. is_right s l m && left_stays net m))
      (take_all (length net.pairs) net.pairs (omega arith))

-- ---- rows, of which some are empty

none_true : (n i : ℕ) → get_or (replicate n false) i false ≡ false
none_true zero i = refl
none_true (suc n) zero = refl
none_true (suc n) (suc i) = none_true n i

pub full_entry : (n : ℕ) (row : List Bool) (i : ℕ)
    → get_or (full_row n row) i false ≡ get_or row i false
full_entry n [] i = none_true n i
full_entry n (first ∷ others) i = refl

pub full_other : (n : ℕ) (row : List Bool) → row ≢ [] → full_row n row ≡ row
full_other n [] some = absurd (some refl)
full_other n (first ∷ others) some = refl

full_long : (n : ℕ) (row : List Bool) → length row ≡ n → length (full_row n row) ≡ n
full_long n [] long = length-replicate n false
full_long n (first ∷ others) long = long

-- nobody gives way to the first 0 pairs
pub none_yield : (net : Net) (table : List (List Bool)) →
    table ≡ replicate (length net.strands) [] → IsTable net 0 table
none_yield net table is = subst (IsTable net 0) (sym is) (record {
  rows = length-replicate (length net.strands) [];
  entries = λ s lt. ap (λ r. length (full_row (length (strand_at net s).masks) r)) (row s lt)
      ∙ length-replicate (length (strand_at net s).masks) false;
  value = λ s j lt j_lt. ap (λ r. get_or r j false) (row s lt);
})
  where
    row : (s : ℕ) → s < length net.strands → row_of (replicate (length net.strands) []) s ≡ []
    row s lt = get_or-replicate (length net.strands) s [] [] lt

or_nothing : (x : Bool) → (x || false) ≡ x
or_nothing true = refl
or_nothing false = refl

-- one pair more
module _ (net : Net) (formed : IsFormed net) (k : ℕ) (table : List (List Bool))
    (is : IsTable net k table) (k_lt : k < length net.pairs) (d : MemPair) where
  abbrev m : MemPair
  m = get_or net.pairs k d

  abbrev test : ℕ → ℕ → MemPair → Bool
  test s l p = is_right s l p && left_stays net p

  pub kept : left_stays net m ≡ false → IsTable net (k + 1) table
  kept no_ = record {
    rows = is.rows;
    entries = is.entries;
    value = λ s j lt j_lt. is.value s j lt j_lt
        ∙ sym (list_any_more (test s ((strand_at net s).first + j)) net.pairs k d k_lt
        ∙ ap (λ t. list_any (test s ((strand_at net s).first + j)) (take k net.pairs) || t)
        (and_right (is_right s ((strand_at net s).first + j) m) (left_stays net m) no_)
        ∙ or_nothing (list_any (test s ((strand_at net s).first + j)) (take k net.pairs)));
  }
    where
      or_nothing : (x : Bool) → (x || false) ≡ x
      or_nothing true = refl
      or_nothing false = refl

  pub added : left_stays net m ≡ true → m.right < length net.strands →
      is_there (strand_at net m.right) m.right_layer ≡ true
      → IsTable net (k + 1) (set table m.right
      (set (full_row (length (strand_at net m.right).masks) (row_of table m.right))
      (m.right_layer - (strand_at net m.right).first) true))
  added left r_lt there = record {
    rows = length-set table m.right new_row ∙ is.rows;
    entries = λ s lt. elim (cases_eq s m.right)
        as (λ _. length (full_row (length (strand_at net s).masks)
        (row_of (set table m.right new_row) s)) ≡ length (strand_at net s).masks) [
          | inl same ↦ subst (λ s. length (full_row (length (strand_at net s).masks)
              (row_of (set table m.right new_row) s)) ≡ length (strand_at net s).masks) (sym same)
              (full_long (length (strand_at net m.right).masks)
              (row_of (set table m.right new_row) m.right)
              (ap length (get_or-set_same table m.right new_row [] in_table)
              ∙ length-set full at true ∙ is.entries m.right r_lt))
          | inr other ↦ ap (λ r. length (full_row (length (strand_at net s).masks) r))
              (get_or-set_other table m.right s new_row [] other)
              ∙ is.entries s lt
        ];
    value = λ s j lt j_lt. values s j lt j_lt
        ∙ sym (list_any_more (test s ((strand_at net s).first + j)) net.pairs k d k_lt);
  }
    where
      at : ℕ
      at = m.right_layer - (strand_at net m.right).first

      full : List Bool
      full = full_row (length (strand_at net m.right).masks) (row_of table m.right)

      new_row : List Bool
      new_row = set full at true

      in_table : m.right < length table
      in_table = let n = is.rows in omega (arith, n, r_lt)

      values : (s i : ℕ) → s < length net.strands → i < length (strand_at net s).masks
          → get_or (row_of (set table m.right new_row) s) i false ≡
          (list_any (test s ((strand_at net s).first + i)) (take k net.pairs) || test s
          ((strand_at net s).first + i) m)
      values s i lt i_lt = elim (cases_eq s m.right)
          as (λ _. get_or (row_of (set table m.right new_row) s) i false ≡
          (list_any (test s ((strand_at net s).first + i)) (take k net.pairs) || test s
          ((strand_at net s).first + i) m)) [
            | inl same ↦ elim (cases_eq i at) as (λ _. get_or (row_of (set table m.right new_row) s)
                i
                false ≡ (list_any (test s ((strand_at net s).first + i)) (take k net.pairs) || test
                s
                ((strand_at net s).first + i) m)) [
                  | inl here ↦ ap (λ r. get_or r i false) (row_same s same)
                      ∙ ap (λ n. get_or new_row n false) here
                      ∙ get_or-set_same full at true false in_row
                      ∙ sym (or_right (list_any (test s ((strand_at net s).first + i))
                      (take k net.pairs))
                      (test s ((strand_at net s).first + i) m) (passes s i same here))
                  | inr off ↦ ap (λ r. get_or r i false) (row_same s same)
                      ∙ get_or-set_other full at i true false off
                      ∙ full_entry (length (strand_at net m.right).masks) (row_of table m.right) i
                      ∙ ap (λ s. get_or (row_of table s) i false)
                      (sym same)
                      ∙ is.value s i lt i_lt ∙
                      sym (fails s i (and_right (eqb m.right s)
                      (eqb m.right_layer ((strand_at net s).first + i))
                      (ne_eqb m.right_layer ((strand_at net s).first + i) (λ e.
                      let f = ap (λ s. (strand_at net s).first) same in
                      off (omega (arith, e, f))))))
                ]
            | inr other ↦ ap (λ r. get_or r i false)
                (get_or-set_other table m.right s new_row [] other)
                ∙ is.value s i lt i_lt
                ∙ sym (fails s i (and_left (eqb m.right s)
                (eqb m.right_layer ((strand_at net s).first + i))
                (ne_eqb m.right s (λ e. other (sym e)))))
          ]
        where
          in_row : at < length full
          in_row =
              let b = bounds (strand_at net m.right) m.right_layer there in
              let lo = b.0 in
              let hi = b.1 in
              let n = is.entries m.right r_lt in
              let long = (formed.strands m.right no_strand r_lt).masks in
              omega (arith, lo, hi, n, long)

          row_same : (s : ℕ) → s ≡ m.right → row_of (set table m.right new_row) s ≡ new_row
          row_same s same = ap (row_of (set table m.right new_row)) same
              ∙ get_or-set_same table m.right new_row [] in_table

          passes : (s i : ℕ) → s ≡ m.right → i ≡ at → test s ((strand_at net s).first + i) m ≡ true
          passes s i same here = and_from (is_right s ((strand_at net s).first + i) m)
              (left_stays net m)
              (and_from (eqb m.right s) (eqb m.right_layer ((strand_at net s).first + i))
              (eq-eqb m.right s (sym same))
              (eq-eqb m.right_layer ((strand_at net s).first + i)
              (let lo = (bounds (strand_at net m.right) m.right_layer there).0 in let f =
              ap (λ s. (strand_at net s).first) same in omega (arith, lo, f, here)))) left

          fails : (s i : ℕ) → is_right s ((strand_at net s).first + i) m ≡ false
              → (list_any (test s ((strand_at net s).first + i)) (take k net.pairs) || test s
              ((strand_at net s).first + i) m) ≡ list_any (test s ((strand_at net s).first + i))
              (take k net.pairs)
          fails s i no_ = ap (λ t. list_any (test s ((strand_at net s).first + i))
              (take k net.pairs) || t)
              (and_left (is_right s ((strand_at net s).first + i) m) (left_stays net m) no_)
              ∙ or_nothing (list_any (test s ((strand_at net s).first + i)) (take k net.pairs))
