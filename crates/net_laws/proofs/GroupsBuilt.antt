-- The tie groups of a network: the two ends of a tie are in one, and who is in one is at an entry
-- or an exit.
use Rattle.std.proofs.Common.{ℕ, zero, suc, ◌≡◌, ◌+◌, ◌*◌, ◌<◌, Bool, true, not, ◌||◌, cond, eqb}
use Rattle.std.proofs.Common.{List, length, get_or, count_by, Some, None, refl, sym, ap, ◌∙◌, subst}
use Rattle.std.proofs.Common.{arith, inl, inr, ◌⊎◌}
use Rattle.std.specs.Prelude.{Contains}
use Rattle.std.specs.List.{range_with_len, prefix_len, enumerate_from}
use Rattle.std.proofs.lemmas.Bool.{cases_Bool, and_from, eqb-true, eq-eqb, or_cases, or_left}
use Rattle.std.proofs.lemmas.Bool.{or_right}
use Rattle.std.proofs.lemmas.List.Folds.{list_any_at}
use Rattle.std.proofs.lemmas.List.{length-map, get_or_default}
use Rattle.std.proofs.lemmas.List.FromFn.{length-enumerate_from}
use Rattle.pra_list.proofs.Counts.{count-cons, count-yes}
use Rattle.pra_list.proofs.Options.{none_some, some_same}
use Rattle.pra_base.specs.declared.code.VProc.{VProc}
use Rattle.net_form.specs.declared.net.Strand.{Strand}
use Rattle.net_form.specs.declared.net.Tie.{Tie}
use Rattle.net_form.specs.declared.net.Net.{Net}
use Rattle.net_form.specs.Admitted.{strand_at, no_strand}
use Rattle.net_form.specs.Groups.{Ties, Joined, here, on, IsLeastEnd, entry_end, exit_end, is_tied}
use Rattle.net_form.specs.Groups.{leads, groups_below, group_of}
use Rattle.net_form.specs.Network.{ties, grouped, net_of}
use Rattle.net_form.specs.Strands.{Lives, strands, exit_layer}
use Rattle.net_form.specs.Tables.{all_tables}
use Rattle.net_laws.proofs.Found.{first_that}
use Rattle.net_laws.proofs.Ties.{IsJoin, all_joins}
use Rattle.net_laws.proofs.StrandsInOrder.{grouped_at}

no_tie : Tie
no_tie = record { from = 0; to = 0 }

-- ---- who is joined

module _ (ts : List Tie) where
  other_way : (t : Tie) (e f : ℕ) → Ties t e f → Ties t f e
  other_way t e f (inl one) = inr one
  other_way t e f (inr two) = inl two

  through : (e f g : ℕ) → Joined ts e f → Joined ts f g → Joined ts e g
  through e f g one here = one
  through e f g one (on h k t more in_ tie) = on h k t (through e f h one more) in_ tie

  back : (e f : ℕ) → Joined ts e f → Joined ts f e
  back e f here = here
  back e f (on h k t more in_ tie) = through k h e (on k h t here in_ (other_way t h k tie))
      (back e h more)

  ends_joined : (t : Tie) → Contains ts t → Joined ts (exit_end t.from) (entry_end t.to)
  ends_joined t in_ = on (exit_end t.from) (entry_end t.to) t here in_ (inl (refl, refl))

  -- what a tie touches is tied
  touched : (t : Tie) (e f : ℕ) → Contains ts t → Ties t e f → is_tied ts f ≡ true
  touched t e f in_ tie = list_any_at (λ u. eqb f (exit_end u.from) || eqb f (entry_end u.to)) ts
      in_.0 t in_.1
      (subst (λ u. (eqb f (exit_end u.from) || eqb f (entry_end u.to)) ≡ true) (sym in_.2) (by tie))
    where
      by : Ties t e f → (eqb f (exit_end t.from) || eqb f (entry_end t.to)) ≡ true
      by (inl one) = or_right (eqb f (exit_end t.from)) (eqb f (entry_end t.to))
          (eq-eqb f (entry_end t.to) one.1)
      by (inr two) = or_left (eqb f (exit_end t.from)) (eqb f (entry_end t.to))
          (eq-eqb f (exit_end t.from) two.0)

  joined_tied : (e f : ℕ) → Joined ts e f → is_tied ts e ≡ true → is_tied ts f ≡ true
  joined_tied e f here is = is
  joined_tied e f (on h k t more in_ tie) is = touched t h k in_ tie

  module _ (least : ℕ → ℕ) (are : (e : ℕ) → IsLeastEnd ts e (least e)) where
    same_least : (e f : ℕ) → Joined ts e f → least e ≡ least f
    same_least e f joined =
        let le = (are e).least (least f) (through e f (least f) joined (are f).joined) in
        let ge = (are f).least (least e) (through f e (least e) (back e f joined) (are e).joined) in
        omega (arith, le, ge)

    -- the least end of a group leads it
    least_leads : (e : ℕ) → is_tied ts e ≡ true → leads ts least (least e) ≡ true
    least_leads e is = and_from (is_tied ts (least e)) (eqb (least (least e)) (least e))
        (joined_tied e (least e) (are e).joined is)
        (eq-eqb (least (least e)) (least e) (sym (same_least e (least e) (are e).joined)))

    count_more : (p : ℕ → Bool) (r a n : ℕ) → r < n → p (a + r) ≡ true
        → count_by p (range_with_len a r) < count_by p (range_with_len a n)
    count_more p r a zero lt is = absurd (omega (arith, lt))
    count_more p zero a (suc n) lt is =
        let one = count-yes p a (range_with_len (a + 1) n)
        (ap p (let e : a ≡ a + 0 = omega arith in e) ∙ is) in
        omega (arith, one)
    count_more p (suc r) a (suc n) lt is =
        let one = count-cons p a (range_with_len (a + 1) r) in
        let two = count-cons p a (range_with_len (a + 1) n) in
        let more = count_more p r (a + 1) n (omega (arith, lt))
        (ap p (let e : (a + 1) + r ≡ a + suc r = omega arith in e) ∙ is) in
        omega (arith, one, two, more)

    group_small : (e n : ℕ) → e < n → is_tied ts e ≡ true
        → groups_below ts least (least e) < count_by (leads ts least) (range_with_len 0 n)
    group_small e n lt is =
        let low = (are e).least e here in
        count_more (leads ts least) (least e) 0 n (omega (arith, low, lt))
        (ap (leads ts least) (let z : 0 + least e ≡ least e = omega arith in z) ∙ least_leads e is)

    group_some : (e : ℕ) → is_tied ts e ≡ true
        → group_of ts least e ≡ Some (groups_below ts least (least e))
    group_some e is = ap (λ b. cond b (Some (groups_below ts least (least e))) None) is

    -- who has a group is tied
    grouped_tied : (e g : ℕ) → group_of ts least e ≡ Some g → is_tied ts e ≡ true
    grouped_tied e g h = elim (cases_Bool (is_tied ts e)) as (λ _. is_tied ts e ≡ true) [
      | inl is ↦ is
      | inr no_ ↦
          absurd (none_some
          (sym (ap (λ b. cond b (Some (groups_below ts least (least e))) None) no_) ∙ h))
    ]

module _ (code : VProc) (live : Lives) (least : ℕ → ℕ) (are : (e : ℕ)
    → IsLeastEnd (ties code (strands all_tables code live)) e (least e)) where
  abbrev ss : List Strand
  ss = strands all_tables code live

  abbrev tied : List Tie
  tied = ties code ss

  abbrev n : Net
  n = net_of all_tables code live least

  long : length n.strands ≡ length ss
  long = length-map (enumerate_from 0 ss) (grouped tied least) ∙ length-enumerate_from 0 ss

  entry_is : (s : ℕ) → s < length n.strands
      → (strand_at n s).entry_group ≡ group_of tied least (entry_end s)
  entry_is s lt = ap (λ (t : Strand). t.entry_group) (grouped_at code live tied least s no_strand
      (let same = long in omega (arith, same, lt)))
      ∙ ap (λ k. group_of tied least (entry_end k)) (let e : 0 + s ≡ s = omega arith in e)

  exit_is : (s : ℕ) → s < length n.strands
      → (strand_at n s).exit_group ≡ group_of tied least (exit_end s)
  exit_is s lt = ap (λ (t : Strand). t.exit_group) (grouped_at code live tied least s no_strand
      (let same = long in omega (arith, same, lt)))
      ∙ ap (λ k. group_of tied least (exit_end k)) (let e : 0 + s ≡ s = omega arith in e)

  -- the group of a tie
  pub tie_group : Tie → ℕ
  tie_group t = groups_below tied least (least (exit_end t.from))

  module _ (k : ℕ) (d : Tie) (lt : k < length tied) where
    t : Tie
    t = get_or tied k d

    join : IsJoin code live least t
    unfolding t
    join = all_joins code live least k d lt

    in_ties : Contains tied t
    unfolding t
    in_ties = (k, lt, get_or_default tied k t d lt)

    pub exit_grouped : (strand_at n (get_or tied k d).from).exit_group ≡ Some
        (tie_group (get_or tied k d))
    unfolding t tie_group
    exit_grouped = exit_is t.from join.from ∙ group_some tied least are (exit_end t.from)
        (touched tied t (entry_end t.to) (exit_end t.from) in_ties (inr (refl, refl)))

    pub entry_grouped : (strand_at n (get_or tied k d).to).entry_group ≡ Some
        (tie_group (get_or tied k d))
    unfolding t tie_group
    entry_grouped = entry_is t.to join.to ∙ group_some tied least are (entry_end t.to)
        (touched tied t (exit_end t.from) (entry_end t.to) in_ties (inl (refl, refl)))
        ∙ ap (λ r. Some (groups_below tied least r))
        (sym (same_least tied least are (exit_end t.from) (entry_end t.to)
        (ends_joined tied t in_ties)))

  -- ---- who is in a group

  module _ (e g : ℕ) (h : group_of tied least e ≡ Some g) where
    e_tied : is_tied tied e ≡ true
    e_tied = grouped_tied tied least are e g h

    number_small : e < 2 * length ss → g < n.groups
    number_small lt =
        let is = some_same g _ (sym h ∙ group_some tied least are e e_tied) in
        let small = group_small tied least are e (2 * length ss) lt e_tied in
        omega (arith, is, small)

    touching : ℕ
    touching = prefix_len (λ t. not (eqb e (exit_end t.from) || eqb e (entry_end t.to))) tied

    found : (touching < length tied)
        × ((eqb e (exit_end (get_or tied touching no_tie).from) || eqb e
        (entry_end (get_or tied touching no_tie).to)) ≡ true)
    unfolding touching
    found = first_that (λ t. eqb e (exit_end t.from) || eqb e (entry_end t.to)) tied no_tie e_tied

    touched_join : IsJoin code live least (get_or tied touching no_tie)
    unfolding touching
    touched_join = all_joins code live least touching no_tie found.0

    cases : (e ≡ exit_end (get_or tied touching no_tie).from)
        ⊎ (e ≡ entry_end (get_or tied touching no_tie).to)
    cases = elim (or_cases (eqb e (exit_end (get_or tied touching no_tie).from))
        (eqb e (entry_end (get_or tied touching no_tie).to)) found.1)
        as (λ _. (e ≡ exit_end (get_or tied touching no_tie).from)
        ⊎ (e ≡ entry_end (get_or tied touching no_tie).to)) [
          | inl one ↦ inl (eqb-true e (exit_end (get_or tied touching no_tie).from) one)
          | inr two ↦ inr (eqb-true e (entry_end (get_or tied touching no_tie).to) two)
        ]

  pub entry_facts : (s g : ℕ) → s < length n.strands → (strand_at n s).entry_group ≡ Some g
      → (g < n.groups) × ((strand_at n s).first ≡ 0)
  entry_facts s g lt is =
      let h = sym (entry_is s lt) ∙ is in
      let same = long in
      let t = get_or tied (touching (entry_end s) g h) no_tie in (
        number_small (entry_end s) g h (omega (arith, lt, same)),
        elim (cases (entry_end s) g h) as (λ _. (strand_at n s).first ≡ 0) [
          | inl one ↦ absurd (omega (arith, one))
          | inr two ↦ ap (λ k. (strand_at n k).first) (let e : s ≡ t.to = omega (arith, two) in e)
              ∙ (touched_join (entry_end s) g h).first
        ],
      )

  pub exit_facts : (s g : ℕ) → s < length n.strands → (strand_at n s).exit_group ≡ Some g
      → (g < n.groups) × ((strand_at n s).last ≡ exit_layer code (strand_at n s).block.0)
  exit_facts s g lt is =
      let h = sym (exit_is s lt) ∙ is in
      let same = long in
      let t = get_or tied (touching (exit_end s) g h) no_tie in (
        number_small (exit_end s) g h (omega (arith, lt, same)),
        elim (cases (exit_end s) g h)
            as (λ _. (strand_at n s).last ≡ exit_layer code (strand_at n s).block.0) [
              | inl one ↦ subst (λ k. (strand_at n k).last ≡ exit_layer code
                  (strand_at n k).block.0)
                  (let e : t.from ≡ s = omega (arith, one) in e)
                  (touched_join (exit_end s) g h).last
              | inr two ↦ absurd (omega (arith, two))
            ],
      )

  -- a tie that leads to the strand
  pub record EntryTie (s : ℕ) : Type 0 where
    pub tie : Tie
    pub join : IsJoin code live least tie
    pub to_it : tie.to ≡ s

  pub entry_tie : (s g : ℕ) → s < length n.strands → (strand_at n s).entry_group ≡ Some g
      → EntryTie s
  entry_tie s g lt is =
      let h = sym (entry_is s lt) ∙ is in
      let t = get_or tied (touching (entry_end s) g h) no_tie in record {
        tie = t;
        join = touched_join (entry_end s) g h;
        to_it = elim (cases (entry_end s) g h) as (λ _. t.to ≡ s) [
          | inl one ↦ absurd (omega (arith, one))
          | inr two ↦ omega (arith, two)
        ];
      }
