-- The ends of a tie group: where the index has them, who they are, and what their strands sum to.
use Rattle.std.proofs.Common.{ℕ, zero, suc, ◌≡◌, ◌+◌, ◌-◌, ◌*◌, ◌<◌, ◌≤◌, Bool, true, false, not}
use Rattle.std.proofs.Common.{◌||◌, cond, ℤ, ◌+ℤ◌, List, [], ◌∷◌, ◌++◌, length, get_or}
use Rattle.std.proofs.Common.{take, drop, count_by, Option, Some, None, All, slice_get, refl, sym}
use Rattle.std.proofs.Common.{ap, ◌∙◌, subst, arith}
use Rattle.std.specs.Prelude.{nat_lt, nat_eq}
use Rattle.std.specs.List.{range_with_len, enumerate_from, flat_map, cons_option}
use Rattle.std.proofs.lemmas.Bool.{eqb-true, eq-eqb, false≢true}
use Rattle.std.proofs.lemmas.Bool.Decides.{nat_tests}
use Rattle.std.proofs.lemmas.Int.{ints}
use Rattle.std.proofs.lemmas.List.{length-append, append_assoc, take_at, drop_at}
use Rattle.std.proofs.lemmas.List.Elements.{All-nil, All-cons, All-head, All-tail}
use Rattle.std.proofs.lemmas.List.FromFn.{length-map-range_with_len, get_or-map-range_with_len}
use Rattle.std.proofs.lemmas.Option.{slice_get-get_or, slice_get_within, get_or_from_slice_get}
use Rattle.pra_list.proofs.Counts.{count-cons, count-none}
use Rattle.pra_list.proofs.Options.{none_some, some_same}
use Rattle.net_form.specs.declared.net.BlockEnd.TheVariants.{Entry, Exit}
use Rattle.net_form.specs.declared.net.Net.{Net}
use Rattle.net_form.specs.declared.net.NetIndex.{NetIndex}
use Rattle.net_form.specs.declared.net.Strand.{Strand}
use Rattle.net_form.specs.declared.net.TieEnd.{TieEnd}
use Rattle.net_form.specs.Admitted.{strand_at, no_strand}
use Rattle.net_form.specs.Formed.{IsFormed}
use Rattle.net_form.specs.Index.{Member, member, members, ends_in}
use Rattle.net_dual.specs.Priced.{total, pay}
use Rattle.al_laws.specs.Greedy.{IsEnd, is_group, has_end}
use Rattle.al_laws.specs.Greedy.IsEnd.{entry, exit}
use Rattle.al_edge.specs.GroupEnds.{ends_of, end_layer, counts}

-- ---- lists that are made one after another

pub parts : {X : Type 0} (f : ℕ → List X) (m i n : ℕ) → i < n
    → flat_map f (range_with_len m n)
    ≡ flat_map f (range_with_len m i) ++ (f (m + i) ++ flat_map f
    (range_with_len (m + i + 1) (n - i - 1)))
parts f m i zero lt = absurd (omega (arith, lt))
parts f m zero (suc n) lt =
    let e : m + 0 ≡ m = omega arith in
    let k : suc n - 0 - 1 ≡ n = omega arith in
    rw (e, k) refl
parts f m (suc i) (suc n) lt =
    let e : m + 1 + i ≡ m + suc i = omega arith in
    let k : suc n - suc i - 1 ≡ n - i - 1 = omega arith in
    let more = parts f (m + 1) i n (omega (arith, lt)) in
    let moved = rw e at more in
    rw k (ap (λ xs. f m ++ xs) moved ∙ sym (append_assoc (f m)
    (flat_map f (range_with_len (m + 1) i))
    (f (m + suc i) ++ flat_map f (range_with_len (m + suc i + 1) (n - i - 1)))))

-- ---- where the ends of a group lie

abbrev pub in_group : ℕ → Member → Bool
in_group g m = nat_eq m.group g

abbrev pub in_lower : ℕ → Member → Bool
in_lower g m = nat_lt m.group g

kept : (b : Bool) (e : TieEnd) (es : List TieEnd)
    → cons_option (cond b (Some e) None) es ≡ cond b (e ∷ es) es
kept true e es = refl
kept false e es = refl

kept_long : (b : Bool) (e : TieEnd) (es : List TieEnd)
    → length (cons_option (cond b (Some e) None) es) ≡ cond b 1 0 + length es
kept_long true e es = omega arith
kept_long false e es = omega arith

ends_long : (g : ℕ) (ms : List Member) → length (ends_in ms g) ≡ count_by (in_group g) ms
ends_long g [] = refl
ends_long g (m ∷ ms) =
    let one = kept_long (nat_eq m.group g) m.at (ends_in ms g) in
    let all = count-cons (in_group g) m ms in
    let more = ends_long g ms in
    omega (arith, one, all, more)

one_split : (g : ℕ) (m : Member)
    → cond (nat_lt m.group (g + 1)) 1 0 ≡ cond (nat_lt m.group g) 1 0 + cond (nat_eq m.group g) 1 0
one_split g m = grind (arith, nat_tests)

count_split : (g : ℕ) (ms : List Member)
    → count_by (in_lower (g + 1)) ms ≡ count_by (in_lower g) ms + count_by (in_group g) ms
count_split g [] = refl
count_split g (m ∷ ms) =
    let x = count-cons (in_lower (g + 1)) m ms in
    let y = count-cons (in_lower g) m ms in
    let z = count-cons (in_group g) m ms in
    let o = one_split g m in
    let more = count_split g ms in
    omega (arith, x, y, z, o, more)

none_lower : (m : Member) → in_lower 0 m ≡ false
none_lower m = grind (arith, nat_tests)

starts : (ms : List Member) (a i : ℕ) → count_by (in_lower a) ms
    + length (flat_map (ends_in ms) (range_with_len a i)) ≡ count_by (in_lower (a + i)) ms
starts ms a zero = let e : a + 0 ≡ a = omega arith in rw e (omega arith)
starts ms a (suc i) =
    let long = length-append (ends_in ms a) (flat_map (ends_in ms) (range_with_len (a + 1) i)) in
    let here = ends_long a ms in
    let split = count_split a ms in
    let more = starts ms (a + 1) i in
    let e : a + 1 + i ≡ a + suc i = omega arith in
    rw (← e) (omega (arith, long, here, split, more))

start_is : (ms : List Member) (g : ℕ)
    → length (flat_map (ends_in ms) (range_with_len 0 g)) ≡ count_by (in_lower g) ms
start_is ms g =
    let none = count-none (in_lower 0) ms (λ k d lt. none_lower (get_or ms k d)) in
    let all = starts ms 0 g in
    let e : 0 + g ≡ g = omega arith in
    let all2 = rw e at all in
    omega (arith, none, all2)

module _ (net : Net) (formed : IsFormed net) where
  abbrev tied : List Member
  tied = members net.strands

  pub groups_long : length net.index.groups ≡ net.groups + 1
  groups_long = ap (λ (i : NetIndex). length i.groups) formed.index
      ∙ length-map-range_with_len (λ g. count_by (in_lower g) tied) 0 (net.groups + 1)

  groups_begin : (g : ℕ) → g ≤ net.groups
      → get_or net.index.groups g 0 ≡ count_by (in_lower g) tied
  groups_begin g le = ap (λ (i : NetIndex). get_or i.groups g 0) formed.index
      ∙ get_or-map-range_with_len (λ g. count_by (in_lower g) tied) 0 (net.groups + 1) g g 0
      (omega (arith, le)) (omega arith)

  module _ (g : ℕ) (lt : g < net.groups) where
    before : List TieEnd
    before = flat_map (ends_in tied) (range_with_len 0 g)

    behind : List TieEnd
    behind = flat_map (ends_in tied) (range_with_len (g + 1) (net.groups - g - 1))

    whole : net.index.members ≡ before ++ (ends_of net g ++ behind)
    unfolding before behind
    whole =
        let e : 0 + g ≡ g = omega arith in
        let all = parts (ends_in tied) 0 g net.groups lt in
        ap (λ (i : NetIndex). i.members) formed.index ∙ rw e at all

    begins : get_or net.index.groups g 0 ≡ length before
    unfolding before
    begins = groups_begin g (omega (arith, lt)) ∙ sym (start_is tied g)

    ends : get_or net.index.groups (g + 1) 0 ≡ length before + length (ends_of net g)
    ends =
        let a = groups_begin g (omega (arith, lt)) in
        let b = groups_begin (g + 1) (omega (arith, lt)) in
        let sum = count_split g tied in
        let long = ends_long g tied in
        let begin = begins in
        omega (arith, a, b, sum, long, begin)

    pub in_order : get_or net.index.groups g 0 ≤ get_or net.index.groups (g + 1) 0
    in_order = let a = begins in let b = ends in omega (arith, a, b)

    pub inside : get_or net.index.groups (g + 1) 0 ≤ length net.index.members
    inside =
        let b = ends in
        let all = ap length whole ∙ length-append before (ends_of net g ++ behind) in
        let rest = length-append (ends_of net g) behind in
        omega (arith, b, all, rest)

    pub there : take (get_or net.index.groups (g + 1) 0 - get_or net.index.groups g 0)
        (drop (get_or net.index.groups g 0) net.index.members) ≡ ends_of net g
    there =
        let a = begins in
        let b = ends in
        let n : get_or net.index.groups (g + 1) 0 - get_or net.index.groups g 0
        ≡ length (ends_of net g) = omega (arith, a, b) in
        ap (λ k. take k (drop (get_or net.index.groups g 0) net.index.members)) n
        ∙ ap (λ xs. take (length (ends_of net g)) (drop (get_or net.index.groups g 0) xs)) whole
        ∙ ap (take (length (ends_of net g))) (drop_at before (ends_of net g ++ behind)
        (get_or net.index.groups g 0) (sym a))
        ∙ take_at (ends_of net g) behind (length (ends_of net g)) refl

-- ---- the ends, strand by strand

-- of the strands from number n on
pub ends_from : ℕ → ℕ → List Strand → List TieEnd
ends_from g n [] = []
ends_from g n (t ∷ ts) =
    let more = ends_from g (n + 1) ts in
    let behind = cond (is_group g t.exit_group) (record { strand = n; end = Exit } ∷ more) more in
    cond (is_group g t.entry_group) (record { strand = n; end = Entry } ∷ behind) behind

one_strand : (g n : ℕ) (a b : Option ℕ) (rest : List Member)
    → ends_in ((member a n Entry ++ member b n Exit) ++ rest) g
    ≡ (let behind = cond (is_group g b) (record { strand = n; end = Exit } ∷ ends_in rest g)
    (ends_in rest g) in cond (is_group g a) (record { strand = n; end = Entry } ∷ behind) behind)
one_strand g n None None rest = refl
one_strand g n None (Some k) rest =
    kept (nat_eq k g) (record { strand = n; end = Exit }) (ends_in rest g)
one_strand g n (Some h) None rest =
    kept (nat_eq h g) (record { strand = n; end = Entry }) (ends_in rest g)
one_strand g n (Some h) (Some k) rest =
    kept (nat_eq h g) (record { strand = n; end = Entry })
    (cons_option (cond (nat_eq k g) (Some (record { strand = n; end = Exit })) None)
    (ends_in rest g))
    ∙ ap (λ es. cond (nat_eq h g) (record { strand = n; end = Entry } ∷ es) es)
    (kept (nat_eq k g) (record { strand = n; end = Exit }) (ends_in rest g))

by_strand : (g n : ℕ) (ts : List Strand)
    → ends_in (flat_map (λ (s : ℕ × Strand). member s.1.entry_group s.0 Entry ++ member
    s.1.exit_group s.0 Exit) (enumerate_from n ts)) g ≡ ends_from g n ts
unfolding ends_from
by_strand g n [] = refl
by_strand g n (t ∷ ts) =
    one_strand g n t.entry_group t.exit_group (flat_map
    (λ (s : ℕ × Strand). member s.1.entry_group s.0 Entry ++ member s.1.exit_group s.0 Exit)
    (enumerate_from (n + 1) ts))
    ∙ ap (λ (more : List TieEnd). let behind = cond (is_group g t.exit_group)
    (record { strand = n; end = Exit } ∷ more) more in
    cond (is_group g t.entry_group) (record { strand = n; end = Entry } ∷ behind) behind)
    (by_strand g (n + 1) ts)

pub ends_are : (net : Net) (g : ℕ) → ends_of net g ≡ ends_from g 0 net.strands
ends_are net g = by_strand g 0 net.strands

kept_few : (b : Bool) (e : TieEnd) (es : List TieEnd) → length (cond b (e ∷ es) es) ≤ length es + 1
kept_few true e es = omega arith
kept_few false e es = omega arith

few_from : (g n : ℕ) (ts : List Strand) → length (ends_from g n ts) ≤ 2 * length ts
unfolding ends_from
few_from g n [] = omega arith
few_from g n (t ∷ ts) =
    let more = few_from g (n + 1) ts in
    let es = ends_from g (n + 1) ts in
    let one = kept_few (is_group g t.exit_group) (record { strand = n; end = Exit }) es in
    let two = kept_few (is_group g t.entry_group) (record { strand = n; end = Entry })
    (cond (is_group g t.exit_group) (record { strand = n; end = Exit } ∷ es) es) in
    omega (arith, more, one, two)

-- a strand has two ends
pub few_ends : (net : Net) (g : ℕ) → length (ends_of net g) ≤ 2 * length net.strands
few_ends net g = rw (ends_are net g) (few_from g 0 net.strands)

-- ---- who is in the group

pub in_this : (g : ℕ) (o : Option ℕ) → is_group g o ≡ true → o ≡ Some g
in_this g None h = absurd (false≢true h)
in_this g (Some k) h = ap Some (eqb-true k g h)

pub this_in : (g : ℕ) (o : Option ℕ) → o ≡ Some g → is_group g o ≡ true
this_in g o h = ap (is_group g) h ∙ eq-eqb g g refl

-- the strands of a list are those of the network from number n on
abbrev pub AreFrom : Net → ℕ → List Strand → Type 0
AreFrom net n ts =
    (k : ℕ) (t : Strand) → slice_get ts k ≡ Some t →
    (n + k < length net.strands) × (strand_at net (n + k) ≡ t)

-- an end of a strand that is there, in the group
pub record IsMember (net : Net) (g : ℕ) (e : TieEnd) : Type 0 where
  pub there : e.strand < length net.strands
  pub end : IsEnd net g e.strand (end_layer net e)

module _ (net : Net) (g : ℕ) where
  from_next : (n : ℕ) (t : Strand) (ts : List Strand) → AreFrom net n (t ∷ ts)
      → AreFrom net (n + 1) ts
  from_next n t ts from k u is =
      let e : n + suc k ≡ n + 1 + k = omega arith in
      rw e at (from (suc k) u is)

  from_here : (n : ℕ) (t : Strand) (ts : List Strand) → AreFrom net n (t ∷ ts)
      → (n < length net.strands) × (strand_at net n ≡ t)
  from_here n t ts from = let e : n + 0 ≡ n = omega arith in rw e at (from 0 t refl)

  pub from_all : AreFrom net 0 net.strands
  from_all k t is =
      let e : 0 + k ≡ k = omega arith in
      rw e (slice_get_within net.strands k t is, get_or_from_slice_get net.strands k t no_strand is)

  all_kept : (b : Bool) (P : TieEnd → Type 0) (e : TieEnd) (es : List TieEnd) → (b ≡ true → P e)
      → All P es → All P (cond b (e ∷ es) es)
  all_kept true P e es here more = All-cons P e es (here refl) more
  all_kept false P e es here more = more

  members_from : (n : ℕ) (ts : List Strand) → AreFrom net n ts
      → All (IsMember net g) (ends_from g n ts)
  unfolding ends_from
  members_from n [] from = All-nil (IsMember net g)
  members_from n (t ∷ ts) from =
      let here = from_here n t ts from in
      let more = members_from (n + 1) ts (from_next n t ts from) in
      all_kept (is_group g t.entry_group) (IsMember net g) (record { strand = n; end = Entry }) _
      (λ is. record {
        there = here.0;
        end = entry (ap (λ (t : Strand). t.entry_group) here.1 ∙ in_this g t.entry_group is);
      })
      (all_kept (is_group g t.exit_group) (IsMember net g) (record { strand = n; end = Exit }) _
      (λ is. record {
        there = here.0;
        end = exit (ap (λ (t : Strand). t.exit_group) here.1 ∙ in_this g t.exit_group is);
      }) more)

  pub all_members : All (IsMember net g) (ends_of net g)
  all_members = subst (All (IsMember net g)) (sym (ends_are net g))
      (members_from 0 net.strands from_all)

  -- ---- whatever holds of all ends in the list holds of each end of a strand in the group

  kept_here : (b : Bool) (P : TieEnd → Type 0) (e : TieEnd) (es : List TieEnd)
      → All P (cond b (e ∷ es) es) → b ≡ true → P e
  kept_here true P e es all is = All-head P e es all
  kept_here false P e es all is = absurd (false≢true is)

  kept_rest : (b : Bool) (P : TieEnd → Type 0) (e : TieEnd) (es : List TieEnd)
      → All P (cond b (e ∷ es) es) → All P es
  kept_rest true P e es all = All-tail P e es all
  kept_rest false P e es all = all

  abbrev HasBoth : (TieEnd → Type 0) → ℕ → Strand → Type 0
  HasBoth P s t =
      (is_group g t.entry_group ≡ true → P (record { strand = s; end = Entry })) ×
      (is_group g t.exit_group ≡ true → P (record { strand = s; end = Exit }))

  each_from : (P : TieEnd → Type 0) (n : ℕ) (ts : List Strand) → All P (ends_from g n ts)
      → (k : ℕ) (t : Strand) → slice_get ts k ≡ Some t → HasBoth P (n + k) t
  unfolding ends_from
  each_from P n [] all k t is = absurd (none_some is)
  each_from P n (u ∷ ts) all zero t is =
      let same = some_same u t is in
      let e : n + 0 ≡ n = omega arith in
      let behind = kept_rest (is_group g u.entry_group) P _ _ all in
      rw e (subst (HasBoth P n) same (
        kept_here (is_group g u.entry_group) P _ _ all,
        kept_here (is_group g u.exit_group) P _ _ behind,
      ))
  each_from P n (u ∷ ts) all (suc k) t is =
      let e : n + suc k ≡ n + 1 + k = omega arith in
      rw e (each_from P (n + 1) ts (kept_rest (is_group g u.exit_group) P _ _
      (kept_rest (is_group g u.entry_group) P _ _ all)) k t is)

  pub each_end : (P : TieEnd → Type 0) → All P (ends_of net g) → (s : ℕ)
      → s < length net.strands → HasBoth P s (strand_at net s)
  each_end P all s lt =
      let e : 0 + s ≡ s = omega arith in
      rw e at (each_from P 0 net.strands (subst (All P) (ends_are net g) all) s (strand_at net s)
      (slice_get-get_or net.strands s no_strand lt))

  -- ---- sums over strands

  kept_sum : (b : Bool) (f : TieEnd → ℤ) (e : TieEnd) (es : List TieEnd)
      → total f (cond b (e ∷ es) es) ≡ pay b (f e) +ℤ total f es
  kept_sum true f e es = refl
  kept_sum false f e es = omega (arith, ints)

  -- a strand is counted once
  once : (a b : Bool) (z : ℤ) → pay a z +ℤ pay b (pay (not a) z) ≡ pay (a || b) z
  once true true z = omega (arith, ints)
  once true false z = omega (arith, ints)
  once false true z = omega (arith, ints)
  once false false z = omega (arith, ints)

  sums_from : (cost : ℕ → ℤ) (n : ℕ) (ts : List Strand) → AreFrom net n ts
      → total (λ (e : TieEnd). pay (counts net g e) (cost e.strand)) (ends_from g n ts)
      ≡ total (λ s. pay (has_end net g s) (cost s)) (range_with_len n (length ts))
  unfolding ends_from
  sums_from cost n [] from = refl
  sums_from cost n (t ∷ ts) from =
      let f = λ (e : TieEnd). pay (counts net g e) (cost e.strand) in
      let here = (from_here n t ts from).1 in
      let more = sums_from cost (n + 1) ts (from_next n t ts from) in
      let one = kept_sum (is_group g t.entry_group) f (record { strand = n; end = Entry })
      (cond (is_group g t.exit_group) (record { strand = n; end = Exit } ∷ ends_from g (n + 1) ts)
      (ends_from g (n + 1) ts)) in
      let two = kept_sum (is_group g t.exit_group) f (record { strand = n; end = Exit })
      (ends_from g (n + 1) ts) in
      let all = once (is_group g t.entry_group) (is_group g t.exit_group) (cost n) in
      let counted = ap (λ (u : Strand). pay (is_group g t.exit_group)
      (pay (not (is_group g u.entry_group)) (cost n))) here in
      let has = ap (λ (u : Strand). pay (is_group g u.entry_group || is_group g u.exit_group)
      (cost n)) here in
      omega (arith, ints, more, one, two, all, counted, has)

  pub sums_agree : (cost : ℕ → ℤ)
      → total (λ (e : TieEnd). pay (counts net g e) (cost e.strand)) (ends_of net g)
      ≡ total (λ s. pay (has_end net g s) (cost s)) (range_with_len 0 (length net.strands))
  sums_agree cost =
      ap (total (λ (e : TieEnd). pay (counts net g e) (cost e.strand))) (ends_are net g)
      ∙ sums_from cost 0 net.strands from_all
