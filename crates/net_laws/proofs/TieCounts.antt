-- How many ties a strand has: at an exit two at most, and at an entry one from each block.
use Rattle.std.proofs.Common.{subst, ℕ, ◌≡◌, ◌≢◌, ◌+◌, ◌<◌, ◌≤◌, Bool, true, false, ◌&&◌, eqb, leb}
use Rattle.std.proofs.Common.{List}
use Rattle.std.proofs.Common.{[], ◌∷◌, length, get_or, All, count_by, refl, sym, ap, ◌∙◌, arith}
use Rattle.std.proofs.Common.{inl, inr, ◌⊎◌}
use Rattle.std.proofs.lemmas.Bool.{and_parts, and_from, eqb-true, eq-eqb, le-leb, or_cases}
use Rattle.std.proofs.lemmas.Bool.{false≢true}
use Rattle.std.proofs.lemmas.List.{get_or-map, get_or_default}
use Rattle.std.proofs.lemmas.List.Elements.{All-head, All-tail}
use Rattle.pra_list.proofs.Counts.{count-cons, bit}
use Rattle.pra_base.specs.declared.code.End.{End}
use Rattle.pra_base.specs.declared.code.End.TheVariants.{Jump, Branch, Return}
use Rattle.pra_base.specs.declared.code.VProc.{VProc}
use Rattle.pra_base.specs.Code.{end_of, no_block as no_code}
use Rattle.net_form.specs.declared.net.Strand.{Strand}
use Rattle.net_form.specs.declared.net.Tie.{Tie}
use Rattle.net_form.specs.declared.net.Net.{Net}
use Rattle.net_form.specs.Tables.{all_tables}
use Rattle.pra_base.specs.declared.ids.Place.TheVariants.{Mem}
use Rattle.pra_base.specs.Places.{number, allows}
use Rattle.net_form.specs.Strands.{Lives, IsLive, exit_layer, strands}
use Rattle.net_form.specs.Network.{ties, leads_to, net_block, net_of}
use Rattle.net_form.specs.Admitted.{strand_at, no_strand}
use Rattle.net_form.specs.Formed.{no_block}
use Rattle.net_laws.specs.Built.{IsBlockTie, IsGroupedStrand, goes_from, comes_in}
use Rattle.net_laws.specs.Homes.{is_there, mask_in}
use Rattle.net_laws.proofs.TiedMemory.{entry_memory, exit_memory}
use Rattle.net_laws.specs.Ordered.{TieBefore}
use Rattle.net_laws.specs.Ordered.TieBefore.{from, to}
use Rattle.net_laws.proofs.Ordered.{ties_in_order}
use Rattle.net_laws.proofs.Runs.{IsRun, net_runs, net_one_start, one_strand}
use Rattle.net_laws.proofs.PairsApart.{count_few}
use Rattle.net_laws.proofs.Ties.{IsJoin, all_joins}
use Rattle.net_laws.proofs.GroupsBuilt.{tie_group, exit_grouped, entry_grouped, entry_facts}
use Rattle.net_laws.proofs.GroupsBuilt.{exit_facts}
use Rattle.net_form.specs.Groups.{IsLeastEnd}
use Rattle.std.specs.Prelude.{slice_index_or, IfSome, IsTrue, Option, Some, None}

-- what passes passes one of two tests
pub count_either : {X : Type 0} (p q r : X → Bool) (xs : List X)
    → All (λ x. p x ≡ true → (q x ≡ true) ⊎ (r x ≡ true)) xs
    → count_by p xs ≤ count_by q xs + count_by r xs
count_either p q r [] h = omega arith
count_either p q r (x ∷ xs) h =
    let a = count-cons p x xs in
    let b = count-cons q x xs in
    let c = count-cons r x xs in
    let more = count_either p q r xs (All-tail (λ x. p x ≡ true
    → (q x ≡ true) ⊎ (r x ≡ true)) x xs h) in
    let one = bits (p x) (q x) (r x) (All-head (λ x. p x ≡ true
    → (q x ≡ true) ⊎ (r x ≡ true)) x xs h) in
    omega (arith, a, b, c, more, one)
  where
    bits : (a b c : Bool) → (a ≡ true → (b ≡ true) ⊎ (c ≡ true)) → bit a ≤ bit b + bit c
    bits false b c h = omega arith
    bits true true c h = omega arith
    bits true false true h = omega arith
    bits true false false h = elim (h refl)
        as (λ _. bit true ≤ bit false + bit false) [
          | inl e ↦ absurd (false≢true e)
          | inr e ↦
              absurd (false≢true e)
        ]

module _ (code : VProc) (live : Lives) (least : ℕ → ℕ) where
  abbrev n : Net
  n = net_of all_tables code live least

  abbrev at : ℕ → Strand
  at s = strand_at n s

  runs : All (IsRun code live) n.strands
  runs = net_runs code live (ties code (strands all_tables code live)) least

  -- two strands of one variable in one block that are at one layer
  both_there : (i j l : ℕ) → i < length n.strands → j < length n.strands → i ≢ j
      → (at i).var.0 ≡ (at j).var.0 → (at i).block.0 ≡ (at j).block.0
      → (at i).first ≤ l → l ≤ (at i).last → (at j).first ≤ l → l ≤ (at j).last → ⊥
  both_there i j l i_lt j_lt other var block a b c d =
      one_strand code live n.strands runs
      (λ v b l. net_one_start code live v b l (ties code (strands all_tables code live)) least)
      i j l l i_lt j_lt other var block
      (there (at i) a b) (there (at j) c d) (omega arith) (omega arith)
    where
      there : (t : Strand) → t.first ≤ l → l ≤ t.last → is_there t l ≡ true
      there t low high = and_from (leb t.first l) (leb l t.last) (le-leb t.first l low)
          (le-leb l t.last high)

  abbrev goes_to : ℕ → ℕ → Tie → Bool
  goes_to s b t = eqb t.from s && eqb (at t.to).block.0 b

  one_entry : (s b : ℕ) (t u : Tie) → TieBefore t u → IsJoin code live least t
      → IsJoin code live least u → comes_in n s b t ≡ true → comes_in n s b u ≡ true → ⊥
  one_entry s b t u before x y one two =
      let p = and_parts (eqb t.to s) (eqb (at t.from).block.0 b) one in
      let q = and_parts (eqb u.to s) (eqb (at u.from).block.0 b) two in
      let to_t = eqb-true t.to s p.0 in
      let to_u = eqb-true u.to s q.0 in
      let block = eqb-true (at t.from).block.0 b p.1 ∙ sym (eqb-true (at u.from).block.0 b q.1) in
      by before to_t to_u block
    where
      by : TieBefore t u → t.to ≡ s → u.to ≡ s → (at t.from).block.0 ≡ (at u.from).block.0 → ⊥
      by (to same less) to_t to_u block = omega (arith, less, to_t, to_u)
      by (from less) to_t to_u block =
          let var = x.var ∙ ap (λ k. (at k).var.0) (to_t ∙ sym to_u) ∙ sym y.var in
          let last : (at t.from).last ≡ (at u.from).last = x.last ∙ ap (exit_layer code) block
          ∙ sym y.last in
          let rt = (runs t.from no_strand x.from).order in
          let ru = (runs u.from no_strand y.from).order in
          both_there t.from u.from (at t.from).last x.from y.from
          (λ same. omega (arith, same, less)) var block
          rt (omega arith) (omega (arith, ru, last)) (omega (arith, last))

  pub entries : (s b : ℕ) → count_by (comes_in n s b) n.ties ≤ 1
  entries s b = count_few (comes_in n s b) n.ties (λ i j d lt in_. one_entry s b (get_or n.ties i d)
      (get_or n.ties j d)
      (ties_in_order code (strands all_tables code live) i j d lt in_)
      (all_joins code live least i d (omega (arith, lt, in_)))
      (all_joins code live least j d in_))

  one_exit : (s b : ℕ) (t u : Tie) → TieBefore t u → IsJoin code live least t
      → IsJoin code live least u → goes_to s b t ≡ true → goes_to s b u ≡ true → ⊥
  one_exit s b t u before x y one two =
      let p = and_parts (eqb t.from s) (eqb (at t.to).block.0 b) one in
      let q = and_parts (eqb u.from s) (eqb (at u.to).block.0 b) two in
      let from_t = eqb-true t.from s p.0 in
      let from_u = eqb-true u.from s q.0 in
      let block = eqb-true (at t.to).block.0 b p.1 ∙ sym (eqb-true (at u.to).block.0 b q.1) in
      by before from_t from_u block
    where
      by : TieBefore t u → t.from ≡ s → u.from ≡ s → (at t.to).block.0 ≡ (at u.to).block.0 → ⊥
      by (from less) from_t from_u block = omega (arith, less, from_t, from_u)
      by (to same less) from_t from_u block =
          let var = sym x.var ∙ ap (λ k. (at k).var.0) (from_t ∙ sym from_u) ∙ y.var in
          let ft = x.first in
          let fu = y.first in
          both_there t.to u.to 0 x.to y.to (λ same. omega (arith, same, less)) var block
          (omega (arith, ft)) (omega arith) (omega (arith, fu)) (omega arith)

  to_block : (s b : ℕ) → count_by (goes_to s b) n.ties ≤ 1
  to_block s b = count_few (goes_to s b) n.ties (λ i j d lt in_. one_exit s b (get_or n.ties i d)
      (get_or n.ties j d)
      (ties_in_order code (strands all_tables code live) i j d lt in_)
      (all_joins code live least i d (omega (arith, lt, in_)))
      (all_joins code live least j d in_))

  pub exits : (s : ℕ) → count_by (goes_from s) n.ties ≤ 2
  exits s = by (end_of code (at s).block.0) refl
    where
      target : (t : Tie) (b c : ℕ) → IsJoin code live least t
          → ((l : ℕ) → leads_to (end_of code (at s).block.0) l ≡ true → (l ≡ b) ⊎ (l ≡ c))
          → goes_from s t ≡ true
          → (goes_to s b t ≡ true) ⊎ (goes_to s c t ≡ true)
      target t b c x leads h =
          let is = eqb-true t.from s h in
          elim (leads (at t.to).block.0
          (ap (λ k. leads_to (end_of code (at k).block.0) (at t.to).block.0) (sym is)
          ∙ x.leads)) as (λ _. (goes_to s b t ≡ true) ⊎ (goes_to s c t ≡ true)) [
            | inl same ↦ inl (and_from (eqb t.from s) (eqb (at t.to).block.0 b) h
                (eq-eqb (at t.to).block.0 b same))
            | inr same ↦ inr (and_from (eqb t.from s) (eqb (at t.to).block.0 c) h
                (eq-eqb (at t.to).block.0 c same))
          ]

      two : (b c : ℕ) → ((l : ℕ) → leads_to (end_of code (at s).block.0) l ≡ true
          → (l ≡ b) ⊎ (l ≡ c)) → count_by (goes_from s) n.ties ≤ 2
      two b c leads =
          let few = count_either (goes_from s) (goes_to s b) (goes_to s c) n.ties
          (λ k d lt. target (get_or n.ties k d) b c (all_joins code live least k d lt) leads) in
          let one = to_block s b in
          let other = to_block s c in
          omega (arith, few, one, other)

      by : (e : End) → end_of code (at s).block.0 ≡ e → count_by (goes_from s) n.ties ≤ 2
      by (Jump b) is = two b.0 b.0
          (λ l leads. inl (sym (eqb-true b.0 l (sym (ap (λ e. leads_to e l) is) ∙ leads))))
      by (Branch condition one other) is = two one.0 other.0 (λ l leads.
          elim (or_cases (eqb one.0 l) (eqb other.0 l) (sym (ap (λ e. leads_to e l) is) ∙ leads))
          as (λ _. (l ≡ one.0) ⊎ (l ≡ other.0)) [
            | inl e ↦ inl (sym (eqb-true one.0 l e))
            | inr e ↦ inr (sym (eqb-true other.0 l e))
          ])
      by Return is = two 0 0
          (λ l leads. absurd (false≢true (sym (ap (λ e. leads_to e l) is) ∙ leads)))

  module _ (are : (e : ℕ) → IsLeastEnd (ties code (strands all_tables code live)) e (least e)) where
    layers_of_block : (s : ℕ) → s < length n.strands
        → (slice_index_or n.blocks (at s).block.0 no_block).layers ≡ exit_layer code
        (at s).block.0 + 1
    layers_of_block s lt =
        let layers = ap (λ b. b.layers)
        (get_or-map net_block code.blocks (at s).block.0 no_code no_block
        (runs s no_strand lt).block) in
        omega (arith, layers)

    pub block_ties : All (IsBlockTie n) n.ties
    block_ties k d lt =
        let t = get_or n.ties k d in
        let x = all_joins code live least k d lt in
        let layers = layers_of_block t.from x.from in
        let last = x.last in record {
          exit = omega (arith, layers, last);
          entry = x.first;
          var = x.var;
          group = tie_group code live least are t;
          exit_group = exit_grouped code live least are k d lt;
          entry_group = entry_grouped code live least are k d lt;
        }

    if_some : {A : Type 0} (P : A → Type 0) (o : Option A) → ((x : A) → o ≡ Some x → P x)
        → IfSome o P
    if_some P None h = tt
    if_some P (Some x) h = h x refl

    grouped_at_ends : IsLive code live → (s : ℕ) → s < length n.strands → IsGroupedStrand n (at s)
    grouped_at_ends is_live s lt = record {
      entry = if_some (λ g. (g < n.groups) × ((at s).first ≡ 0)) (at s).entry_group
          (λ g is. entry_facts code live least are s g lt is);
      exit = if_some
          (λ g. (g < n.groups) ×
          ((at s).last + 1 ≡ (slice_index_or n.blocks (at s).block.0 no_block).layers))
          (at s).exit_group (λ g is.
          let facts = exit_facts code live least are s g lt is in
          let layers = layers_of_block s lt in
          let last = facts.1 in (facts.0, omega (arith, layers, last)));
      entry_memory = if_some (λ g. IsTrue (allows (mask_in (at s) (at s).first) (number Mem)))
          (at s).entry_group (λ g is. entry_memory code live is_live least are s g lt is);
      exit_memory = if_some (λ g. IsTrue (allows (mask_in (at s) (at s).last) (number Mem)))
          (at s).exit_group (λ g is. exit_memory code live is_live least are s g lt is);
    }

    pub grouped_strands : IsLive code live → All (IsGroupedStrand n) n.strands
    grouped_strands is_live k d lt = subst (IsGroupedStrand n)
        (get_or_default n.strands k no_strand d lt) (grouped_at_ends is_live k lt)
