-- The network from its lists, groups and index.
use Rattle.std.proofs.Common.{ℕ, ◌≡◌, ◌+◌, ◌*◌, ◌^◌, ◌<◌, ◌≤◌, ◌⊎◌, inl, inr, Bool, true, false}
use Rattle.std.proofs.Common.{cond, eqb, ◌&&◌, List, [], ◌∷◌, map, length, get_or, All, Some, None}
use Rattle.std.proofs.Common.{Option, IfSome, count_by, sym, ap, ◌∙◌, arith, suc, true≢false}
use Rattle.std.specs.List.{range_with_len, enumerate_from}
use Rattle.std.proofs.lemmas.Bool.{cases_Bool, cases_lt}
use Rattle.std.proofs.lemmas.List.{get_or_past}
use Rattle.std.proofs.lemmas.List.Elements.{All-nil, All-cons, All-weaker}
use Rattle.std.proofs.lemmas.List.FromFn.{get_or-map-range_with_len}
use Rattle.net_form.proofs.NetworkFormed.{total_layers}
use Rattle.pra_list.proofs.Comprehensions.{All-filter_map, All-flat_map, IfSome-test}
use Rattle.pra_base.specs.declared.code.VProc.{VProc}
use Rattle.pra_base.specs.Valid.{IsSized}
use Rattle.net_form.specs.declared.net.Strand.{Strand}
use Rattle.net_form.specs.declared.net.Tie.{Tie}
use Rattle.net_form.specs.Groups.{leads, groups_below, group_of}
use Rattle.net_form.specs.Network.{net_block, ties, ties_from, is_joined}
use Rattle.net_form.specs.Rooms.{layer_total}
use Rattle.net_build.specs.declared.groups.Groups.{Groups}
use Rattle.net_build.specs.Labels.{parent, IsBelow}
use Rattle.net_build.specs.Grouped.{leading, AreGroupNumbers, AreGroups, group_in}

-- ---- groups

module _ (ts : List Tie) (ends : ℕ) (g : Groups) (are : AreGroups ts ends g) where
  pub same_leads : leading g.tied g.least ≡ leads ts (parent g.least)
  same_leads = λ i e. are.tied e i && eqb (parent g.least e) e

  pub same_group : AreGroupNumbers g → (e : ℕ) → group_in g e ≡ group_of ts (parent g.least) e
  same_group numbered e = by (cases_Bool (get_or g.tied e false))
    where
      by : (get_or g.tied e false ≡ true) ⊎ (get_or g.tied e false ≡ false) → group_in g e ≡
          group_of ts (parent g.least) e
      by (inr none) =
          ap (λ t. cond t (Some (get_or g.numbers (parent g.least e) 0)) None) none
          ∙ sym (ap (λ t. cond t (Some (groups_below ts (parent g.least) (parent g.least e))) None)
          (sym (are.tied e) ∙ none))
      by (inl is) =
          let low = numbered.down e in
          let in_ : e < length g.tied = there (cases_lt e (length g.tied)) is in
          let same = numbered.count in
          let number : get_or g.numbers (parent g.least e) 0 ≡ groups_below ts (parent g.least)
          (parent g.least e) =
          ap (λ (ns : List ℕ). get_or ns (parent g.least e) 0) numbered.numbers
          ∙ get_or-map-range_with_len (λ k. count_by (leading g.tied g.least) (range_with_len 0 k))
          0 (length g.least + 1) (parent g.least e) (parent g.least e) 0
          (omega (arith, low, in_, same)) (omega arith)
          ∙ ap (λ (p : ℕ → Bool). count_by p (range_with_len 0 (parent g.least e))) same_leads in
          ap (λ t. cond t (Some (get_or g.numbers (parent g.least e) 0)) None) is
          ∙ ap (λ (n : ℕ). Some n) number
          ∙ sym (ap (λ t. cond t (Some (groups_below ts (parent g.least) (parent g.least e))) None)
          (sym (are.tied e) ∙ is))
        where
          there : (e < length g.tied) ⊎ (length g.tied ≤ e) → get_or g.tied e false ≡ true →
              e < length g.tied
          there (inl lt) is = lt
          there (inr past) is = absurd (true≢false (sym is ∙ get_or_past g.tied e false past))

-- ---- ties are between strands

abbrev tie_between : VProc → (ℕ × Strand) → (ℕ × Strand) → Option Tie
tie_between code s t = cond (is_joined code s.1 t.1) (Some (record { from = s.0; to = t.0 })) None

all_numbers : {X : Type 0} → (n : ℕ) (xs : List X) → All (λ (x : ℕ × X). x.0 < n + length xs)
    (enumerate_from n xs)
all_numbers n [] = All-nil _
all_numbers {X} n (x ∷ xs) =
    All-cons (λ (y : ℕ × X). y.0 < n + suc (length xs)) (n, x) (enumerate_from (n + 1) xs)
    (omega arith)
    (All-weaker (λ (y : ℕ × X). y.0 < (n + 1) + length xs)
    (λ (y : ℕ × X). y.0 < n + suc (length xs)) (λ y lt. omega (arith, lt)) _
    (all_numbers (n + 1) xs))

pub ties_below : (code : VProc) (ss : List Strand) → All (IsBelow (2 * length ss)) (ties code ss)
ties_below code ss = All-flat_map (IsBelow (2 * length ss)) (ties_from code ss)
    (enumerate_from 0 ss)
    (All-weaker (λ (s : ℕ × Strand). s.0 < 0 + length ss)
    (λ (s : ℕ × Strand). All (IsBelow (2 * length ss)) (ties_from code ss s))
    (λ s lt. All-filter_map (IsBelow (2 * length ss)) (tie_between code s) (enumerate_from 0 ss)
    (All-weaker (λ (t : ℕ × Strand). t.0 < 0 + length ss)
    (λ (t : ℕ × Strand). IfSome (tie_between code s t) (IsBelow (2 * length ss)))
    (λ t lt_t. IfSome-test (IsBelow (2 * length ss)) (is_joined code s.1 t.1)
    (record { from = s.0; to = t.0 })
    (λ _. record { exit = omega (arith, lt); entry = omega (arith, lt_t) }))
    (enumerate_from 0 ss) (all_numbers 0 ss)))
    (enumerate_from 0 ss) (all_numbers 0 ss))

-- ---- the layers of all blocks

pub few_layers : (code : VProc) → IsSized code → layer_total (map net_block code.blocks) < 2 ^ 32
few_layers code sized =
    let total = total_layers code.blocks in
    let a = sized.instructions in
    let b = sized.blocks in
    omega (arith, total, a, b)
