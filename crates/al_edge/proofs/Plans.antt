-- One group after the other is given its place.
use Rattle.std.proofs.Common.{ℕ, zero, suc, ◌≡◌, ◌⊎◌, ◌+◌, ◌<◌, ◌≤◌, true, false, eqb, ℤ, pos}
use Rattle.std.proofs.Common.{min, List, [], ◌∷◌, ◌++◌, length, get_or, count_by, slice_get, All}
use Rattle.std.proofs.Common.{Option, Some, None, refl, sym, ap, ◌∙◌, subst, arith, inl, inr}
use Rattle.std.proofs.lemmas.Bool.{cases_eq, cases_lt, eqb-true, eq-eqb, false≢true}
use Rattle.std.proofs.lemmas.Bool.{and_from, lt-ltb}
use Rattle.std.proofs.lemmas.List.{length_push}
use Rattle.std.proofs.lemmas.Option.{slice_get_within, slice_get-get_or}
use Rattle.pra_list.proofs.Choices.{and_true}
use Rattle.pra_list.proofs.Counts.{none-count}
use Rattle.pra_list.proofs.Elements.{got_front, got_last}
use Rattle.pra_list.proofs.Mapped.{any-count}
use Rattle.pra_list.proofs.Options.{none_some, some_same}
use Rattle.pra_base.specs.declared.ids.Place.{Place}
use Rattle.pra_base.specs.declared.ids.Place.TheVariants.{Mem}
use Rattle.net_cost.specs.declared.weights.Weights.{Weights}
use Rattle.net_form.specs.declared.net.BlockEnd.TheVariants.{Entry}
use Rattle.net_form.specs.declared.net.Net.{Net}
use Rattle.net_form.specs.declared.net.TieEnd.{TieEnd}
use Rattle.net_form.specs.declared.prices.Prices.{Prices}
use Rattle.net_form.specs.declared.routes.Plan.{Plan}
use Rattle.net_form.specs.declared.taken.Taken.{Taken}
use Rattle.net_form.specs.Admitted.{strand_at, in_register}
use Rattle.net_form.specs.InUse.{mark}
use Rattle.net_form.specs.Rooms.{IsRoomOf}
use Rattle.net_form.proofs.Marking.{mark-small}
use Rattle.net_laws.proofs.Found.{first_that}
use Rattle.al_laws.specs.Greedy.{IsEnd, IsOpen, has_end, Outranks, IsGreedy}
use Rattle.al_laws.specs.Greedy.IsEnd.{entry, exit}
use Rattle.al_laws.specs.Parts.{layer_at}
use Rattle.al_edge.specs.GroupEnds.{ends_of, end_layer}
use Rattle.al_edge.specs.OpenPlaces.{suits_all, whole_layer, comes_there, IsUsedBy, AreMarked}
use Rattle.al_edge.specs.Planned.{IsChosen, ArePlanned}
use Rattle.al_edge.specs.Weighed.{IsCostAt, IsLightest, group_sum}
use Rattle.al_edge.proofs.GroupMembers.{IsMember, all_members, each_end, this_in}
use Rattle.al_edge.proofs.OpenPlaces.{opens, opened_suits}

-- ---- what is open stays open when another group behind is given a place

front : {X : Type 0} (xs ys : List X) (k : ℕ) → k < length xs
    → slice_get (xs ++ ys) k ≡ slice_get xs k
front [] ys k lt = absurd (omega (arith, lt))
front (x ∷ xs) ys zero lt = refl
front (x ∷ xs) ys (suc k) lt = front xs ys k (omega (arith, lt))

module _ (net : Net) (places : List Place) (x : Place) (g : ℕ) (le : g ≤ length places) where
  abbrev old : Plan
  old = record { places = places }

  abbrev new : Plan
  new = record { places = places ++ x ∷ [] }

  open_more : (p : Place) → IsOpen net old g p → IsOpen net new g p
  open_more p opened = record {
    mask = opened.mask;
    free = λ s l h r k q lt rlt hlt is. opened.free s l h r k q lt rlt hlt
        (sym (front places (x ∷ []) h (omega (arith, hlt, le))) ∙ is);
  }

  open_less : (p : Place) → IsOpen net new g p → IsOpen net old g p
  open_less p opened = record {
    mask = opened.mask;
    free = λ s l h r k q lt rlt hlt is. opened.free s l h r k q lt rlt hlt
        (got_front places (x ∷ []) h q is);
  }

  chosen_more : (w : Weights) (prices : Prices) (p : Place) → IsChosen net w prices old g p
      → IsChosen net w prices new g p
  chosen_more w prices p chosen = record {
    least = chosen.least;
    costs = λ q s opened. chosen.costs q s (open_less q opened);
    opened = open_more p chosen.opened;
    first = λ q opened. chosen.first q (open_less q opened);
  }

-- ---- what is marked

module _ (net : Net) (places : List Place) (p : Place) (old new : List ℕ)
    (marked : AreMarked net places old)
    (marks : (n r : ℕ) → mark new n r ≡ min 1 (mark old n r + count_by (comes_there net n r p)
    (ends_of net (length places)))) where
  abbrev all : List Place
  all = places ++ p ∷ []

  abbrev mine : List TieEnd
  mine = ends_of net (length places)

  -- an end of the group at that layer is counted
  end_counted : (n r s l : ℕ) → s < length net.strands → IsEnd net (length places) s l
      → layer_at net s l ≡ n → in_register r p ≡ true
      → count_by (comes_there net n r p) mine ≡ 0 → ⊥
  end_counted n r s l lt end at held none =
      by l end at
    where
      never : All (λ (e : TieEnd). comes_there net n r p e ≡ false) mine
      never = none-count (comes_there net n r p) mine none

      by : (l : ℕ) → IsEnd net (length places) s l → layer_at net s l ≡ n → ⊥
      by l (entry is) at = false≢true (sym ((each_end net (length places)
          (λ (e : TieEnd). comes_there net n r p e ≡ false) never s lt).0
          (this_in (length places) (strand_at net s).entry_group is))
          ∙ and_from (eqb (layer_at net s (strand_at net s).first) n) (in_register r p)
          (eq-eqb (layer_at net s (strand_at net s).first) n at) held)
      by l (exit is) at = false≢true (sym ((each_end net (length places)
          (λ (e : TieEnd). comes_there net n r p e ≡ false) never s lt).1
          (this_in (length places) (strand_at net s).exit_group is))
          ∙ and_from (eqb (layer_at net s (strand_at net s).last) n) (in_register r p)
          (eq-eqb (layer_at net s (strand_at net s).last) n at) held)

  full : (a c : ℕ) → (a ≡ 1) ⊎ (c ≡ 0 → ⊥) → min 1 (a + c) ≡ 1
  full a c (inl one) = omega (arith, one)
  full a c (inr some) = omega (arith, some)

  used_marked : (n r : ℕ) → IsUsedBy net all n r → mark new n r ≡ 1
  used_marked n r by = marks n r ∙ full (mark old n r) (count_by (comes_there net n r p) mine)
      (elim (cases_lt by.group (length places)) as (λ _. (mark old n r ≡ 1)
      ⊎ (count_by (comes_there net n r p) mine ≡ 0 → ⊥)) [
        | inl lt ↦ inl (marked.all n r (record {
          group = by.group;
          place = by.place;
          strand = by.strand;
          layer = by.layer;
          is_planned = sym (front places (p ∷ []) by.group lt) ∙ by.is_planned;
          there = by.there;
          end = by.end;
          at = by.at;
          held = by.held;
        }))
        | inr ge ↦
            let within = slice_get_within all by.group by.place by.is_planned in
            let long = length_push places p in
            let last : by.group ≡ length places = omega (arith, ge, within, long) in
            let same = some_same p by.place (sym (got_last places p [])
            ∙ ap (slice_get all) (sym last)
            ∙ by.is_planned) in
            inr (end_counted n r by.strand by.layer by.there
            (subst (λ g. IsEnd net g by.strand by.layer) last by.end) by.at
            (subst (λ q. in_register r q ≡ true) (sym same) by.held))
      ])

  none_end : TieEnd
  none_end = record { strand = 0; end = Entry }

  by_group : (n r : ℕ) → 0 < count_by (comes_there net n r p) mine → IsUsedBy net all n r
  by_group n r some =
      let found = first_that (comes_there net n r p) mine none_end
      (sym (any-count (comes_there net n r p) mine)
      ∙ lt-ltb 0 (count_by (comes_there net n r p) mine) some) in
      from (get_or mine _ none_end) (all_members net (length places) _ none_end found.0) found.1
    where
      from : (e : TieEnd) → IsMember net (length places) e → comes_there net n r p e ≡ true
          → IsUsedBy net all n r
      from e member is =
          let both = and_true (eqb (whole_layer net e) n) (in_register r p) is in record {
            group = length places;
            place = p;
            strand = e.strand;
            layer = end_layer net e;
            is_planned = got_last places p [];
            there = member.there;
            end = member.end;
            at = eqb-true (whole_layer net e) n both.0;
            held = both.1;
          }

  marked_used : (n r : ℕ) → mark new n r ≡ 1 → IsUsedBy net all n r
  marked_used n r is = elim (cases_eq (mark old n r) 1) as (λ _. IsUsedBy net all n r) [
    | inl was ↦
        let by = marked.only n r was in record {
          group = by.group;
          place = by.place;
          strand = by.strand;
          layer = by.layer;
          is_planned = got_front places (p ∷ []) by.group by.place by.is_planned;
          there = by.there;
          end = by.end;
          at = by.at;
          held = by.held;
        }
    | inr not_yet ↦
        let small = mark-small old n r in
        let now = sym (marks n r) ∙ is in
        by_group n r (omega (arith, not_yet, small, now))
  ]

  pub marked_more : AreMarked net all new
  marked_more = record { all = used_marked; only = marked_used }

-- ---- one group more

module _ (net : Net) (w : Weights) (prices : Prices) where
  new_chosen : (places : List Place) (regs : List ℕ) (p : Place) → AreMarked net places regs
      → IsLightest net w prices (suits_all net regs (length places)) (length places) p
      → IsChosen net w prices (record { places = places }) (length places) p
  new_chosen places regs p marked best = record {
    least = best.least;
    costs = λ q s opened. best.costs q s (opened_suits net places regs marked q opened);
    opened = opens net places regs marked p best.opened;
    first = λ q opened. best.first q (opened_suits net places regs marked q opened);
  }

  pub planned_more : (old new : Taken) (g : ℕ) (places : List Place) (p : Place)
      → ArePlanned net w prices old g places
      → IsLightest net w prices (suits_all net old.regs g) g p → IsRoomOf net new
      → ((n r : ℕ) → mark new.regs n r ≡ min 1 (mark old.regs n r + count_by
      (comes_there net n r p) (ends_of net g)))
      → ArePlanned net w prices new (g + 1) (places ++ p ∷ [])
  planned_more old new g places p are best room marks = record {
    room = room;
    many = length_push places p ∙ ap (λ k. k + 1) are.many;
    marked = marked_more net places p old.regs new.regs are.marked
        (subst (λ k. (n r : ℕ) → mark new.regs n r ≡ min 1 (mark old.regs n r + count_by
        (comes_there net n r p) (ends_of net k))) (sym are.many) marks);
    chosen = λ h q is. elim (cases_lt h (length places))
        as (λ _. IsChosen net w prices (record { places = places ++ p ∷ [] }) h q) [
          | inl lt ↦ chosen_more net places p h (omega (arith, lt)) w prices q
              (are.chosen h q (sym (front places (p ∷ []) h lt) ∙ is))
          | inr ge ↦
              let within = slice_get_within (places ++ p ∷ []) h q is in
              let long = length_push places p in
              let last : h ≡ length places = omega (arith, ge, within, long) in
              let same = some_same p q (sym (got_last places p [])
              ∙ ap (slice_get (places ++ p ∷ [])) (sym last) ∙ is) in
              subst (λ k. IsChosen net w prices (record { places = places ++ p ∷ [] }) k q)
              (sym last)
              (subst (IsChosen net w prices (record { places = places ++ p ∷ [] })
              (length places)) same
              (chosen_more net places p (length places) (omega arith) w prices p
              (new_chosen places old.regs p are.marked
              (subst (λ k. IsLightest net w prices (suits_all net old.regs k) k p) (sym are.many)
              best))))
        ];
  }

  -- ---- all groups

  module _ (plan : Plan) (g : ℕ) where
    abbrev Each : Option Place → Type 0
    Each o = (p : Place) → o ≡ Some p → IsChosen net w prices plan g p

    least_of : (o : Option Place) → Each o → Place → ℕ → ℤ
    least_of None each q s = pos 0
    least_of (Some p) each q s = (each p refl).least q s

    costs_of : (o : Option Place) (each : Each o) (p : Place) → o ≡ Some p → (q : Place) (s : ℕ)
        → IsOpen net plan g q → s < length net.strands → has_end net g s ≡ true
        → IsCostAt net w prices g q s (least_of o each q s)
    unfolding least_of
    costs_of None each p is = absurd (none_some is)
    costs_of (Some r) each p is = (each r refl).costs

    first_of : (o : Option Place) (each : Each o) (p : Place) → o ≡ Some p → (q : Place)
        → IsOpen net plan g q → Outranks (λ q. group_sum net g (least_of o each q)) p q
    unfolding least_of
    first_of None each p is = absurd (none_some is)
    first_of (Some r) each p is = subst (λ p. (q : Place) → IsOpen net plan g q
        → Outranks (λ q. group_sum net g ((each r refl).least q)) p q) (some_same r p is)
        (each r refl).first

  pub greedy : (used : Taken) (places : List Place)
      → ArePlanned net w prices used net.groups places
      → IsGreedy net w prices (record { places = places })
  greedy used places are = record {
    many = are.many;
    least = λ g. least_of (record { places = places }) g (slice_get places g) (are.chosen g);
    costs = λ g p s lt opened. costs_of (record { places = places }) g (slice_get places g)
        (are.chosen g) (get_or places g Mem)
        (slice_get-get_or places g Mem (let many = are.many in omega (arith, many, lt))) p s opened;
    open_places = λ g p is. (are.chosen g p is).opened;
    chosen = λ g p q is opened. first_of (record { places = places }) g (slice_get places g)
        (are.chosen g) p is q opened;
  }
