-- What the network of plain spilling admits, that of all places admits at the same cost.
use Rattle.std.proofs.Common.{ℕ, zero, suc, ◌≡◌, ◌+◌, ◌-◌, ◌*◌, ◌<◌, ◌≤◌, Bool, true, false, not}
use Rattle.std.proofs.Common.{◌&&◌, ◌||◌, cond, eqb, List, [], ◌∷◌, ◌++◌, length, get_or, slice_get}
use Rattle.std.proofs.Common.{map, All, count_by, sum_by, Option, Some, None, refl, sym, ap, ◌∙◌}
use Rattle.std.proofs.Common.{subst, arith, inl, inr}
use Rattle.std.specs.Prelude.{IsTrue}
use Rattle.std.specs.List.{range_with_len, enumerate_from}
use Rattle.std.proofs.lemmas.Bool.{and_parts, and_from, eq-eqb, ne_eqb, cases_Bool, true≢false}
use Rattle.std.proofs.lemmas.Bool.{false≢true, ltb-true, false_from_ne_true}
use Rattle.std.proofs.lemmas.List.{length-map, append-nil}
use Rattle.std.proofs.lemmas.List.Elements.{All-head, All-tail}
use Rattle.std.proofs.lemmas.List.Sums.{sum_by-cons}
use Rattle.std.proofs.lemmas.Nat.Bits.{bit_at-zero}
use Rattle.std.proofs.lemmas.Option.{get_or_from_slice_get, slice_get-get_or, slice_get_within}
use Rattle.std.proofs.Math.Path.{fun_ext}
use Rattle.pra_list.proofs.Counts.{count-none, some_count}
use Rattle.pra_list.proofs.Options.{none_some}
use Rattle.pra_list.proofs.Truths.{or_none}
use Rattle.pra_base.specs.declared.ids.Place.{Place}
use Rattle.pra_base.specs.declared.ids.Place.TheVariants.{Eax, Ecx, Edx, Ebx, Esi, Edi, Mem, Const}
use Rattle.pra_base.specs.declared.ids.Place.TheVariants.{EaxM, EcxM, EdxM, EbxM, EsiM, EdiM}
use Rattle.pra_base.specs.declared.code.VProc.{VProc}
use Rattle.pra_base.specs.Places.{number, allows, is_both, is_register, is_mem, has_register}
use Rattle.pra_base.specs.Places.{register_of, needs_slot}
use Rattle.pl_moves.specs.Crossbar.{only_if, load_event, store_event}
use Rattle.net_cost.specs.declared.weights.Weights.{Weights}
use Rattle.net_cost.specs.Weights.{weight_of}
use Rattle.net_form.specs.declared.net.Strand.{Strand}
use Rattle.net_form.specs.declared.net.Extra.{Extra}
use Rattle.net_form.specs.declared.net.Tie.{Tie}
use Rattle.net_form.specs.declared.net.Net.{Net}
use Rattle.net_form.specs.Flow.{Edge, is_at, same_place, same_start, arrives, leaves, IsEdge}
use Rattle.net_form.specs.Flow.{Conserves}
use Rattle.net_form.specs.Admitted.{strand_at, no_strand, layer_of, in_mask, in_register, is_across}
use Rattle.net_form.specs.Admitted.{uses_bundle, uses_memory, IsAdmitted, KeepsTie}
use Rattle.net_form.specs.Cost.{depth_at, events_from, events_weight, way_cost, extra_cost, meets}
use Rattle.net_form.specs.Cost.{cost_by, cost_of}
use Rattle.net_form.specs.EightTables.{eight_tables, eight_way, eight_begun, fills}
use Rattle.net_form.specs.Formed.{no_block}
use Rattle.net_form.specs.Index.{first_layer}
use Rattle.net_form.specs.Tables.{all_tables, way, begun}
use Rattle.net_form.specs.Strands.{Lives, mask_at, run_from, strands}
use Rattle.net_form.specs.Network.{grouped, ties, net_of, IsNetBy, IsNet}
use Rattle.net_form.proofs.OneNetwork.{one_live}
use Rattle.net_form.proofs.PlaceEquality.{same_start-refl, same_place-true}
use Rattle.net_laws.proofs.EightMasks.{in_eight_places, bare, eight, all, strands_same, bare_same}
use Rattle.net_laws.proofs.EightMasks.{mask_bits, run_same, same_ties, same_pairs, same_extras}
use Rattle.net_laws.proofs.EightMasks.{map-map}

-- a list that is read behind its end gives what the default gives
got-map : {X Y : Type 0} (g : X → Y) (xs : List X) (k : ℕ) (d : X)
    → get_or (map g xs) k (g d) ≡ g (get_or xs k d)
got-map g [] zero d = refl
got-map g [] (suc k) d = refl
got-map g (x ∷ xs) zero d = refl
got-map g (x ∷ xs) (suc k) d = got-map g xs k d

sum_by-agree : {X : Type 0} (f g : X → ℕ) (xs : List X) → All (λ x. f x ≡ g x) xs
    → sum_by f xs ≡ sum_by g xs
sum_by-agree f g [] h = refl
sum_by-agree f g (x ∷ xs) h =
    let a = sum_by-cons f x xs in
    let b = sum_by-cons g x xs in
    let one = All-head (λ x. f x ≡ g x) x xs h in
    let more = sum_by-agree f g xs (All-tail (λ x. f x ≡ g x) x xs h) in
    omega (arith, a, b, one, more)

-- ---- the ways between the eight places

alone : (p : Place) → in_eight_places (number p) ≡ true → is_both (number p) ≡ false
alone Eax h = refl
alone Ecx h = refl
alone Edx h = refl
alone Ebx h = refl
alone Esi h = refl
alone Edi h = refl
alone Mem h = refl
alone Const h = refl
alone EaxM h = absurd (false≢true h)
alone EcxM h = absurd (false≢true h)
alone EdxM h = absurd (false≢true h)
alone EbxM h = absurd (false≢true h)
alone EsiM h = absurd (false≢true h)
alone EdiM h = absurd (false≢true h)

module _ (p : ℕ) (h : is_both p ≡ false) where
  in_register_alone : has_register p ≡ is_register p
  in_register_alone = ap (λ b. is_register p || b) h ∙ or_none (is_register p)

  slot_alone : needs_slot p ≡ is_mem p
  slot_alone = ap (λ b. is_mem p || b) h ∙ or_none (is_mem p)

  register_alone : register_of p ≡ p
  register_alone = ap (λ b. cond b (p - 8) p) h

begun_eight : (constant : Bool) (q : Place) → in_eight_places (number q) ≡ true
    → eight_begun constant q ≡ begun constant q
begun_eight constant q to = ap (λ b. only_if (constant && b) 5)
    (sym (in_register_alone (number q) (alone q to)))

no_memory : (q : ℕ) → is_register q ≡ true → is_mem q ≡ false
no_memory q h = let lt = ltb-true q 6 h in ne_eqb q 6 (λ same. omega (arith, lt, same))

way_eight : (near : Bool) (p q : Place) → in_eight_places (number p) ≡ true
    → in_eight_places (number q) ≡ true → eight_way near p q ≡ way near p q
way_eight near p q from to = by (is_register (number q)) refl ∙ sym (λ i.
    cond (in_register_alone b hb i)
    (cond (in_register_alone a ha i)
    (only_if (not (eqb (register_alone a ha i) (register_alone b hb i))) 0)
    (cond (slot_alone a ha i) (load_event near ∷ []) (5 ∷ []))) []
    ++ only_if (slot_alone b hb i && not (slot_alone a ha i)) (store_event near))
  where
    a : ℕ
    a = number p

    b : ℕ
    b = number q

    ha : is_both (number p) ≡ false
    ha = alone p from

    hb : is_both (number q) ≡ false
    hb = alone q to

    by : (t : Bool) → is_register (number q) ≡ t
        → cond t (fills near (number p) (number q))
        (only_if (is_mem (number q) && not (is_mem (number p))) (store_event near))
        ≡ cond t (fills near (number p) (number q)) [] ++ only_if
        (is_mem (number q) && not (is_mem (number p))) (store_event near)
    by true is = sym (append-nil (fills near (number p) (number q)))
        ∙ ap (λ t. fills near (number p) (number q) ++ only_if (t && not (is_mem (number p)))
        (store_event near)) (sym (no_memory (number q) is))
    by false is = refl

-- ---- two networks whose strands differ in their masks alone, of which the one's are met with the
-- eight places

abbrev seen_eight : Strand → List (ℕ → Bool)
seen_eight t = map allows t.masks

abbrev met_eight : ℕ → ℕ → Bool
met_eight k p = allows k p && in_eight_places p

abbrev seen_all : Strand → List (ℕ → Bool)
seen_all t = map met_eight t.masks

-- without groups too
abbrev plain : Strand → Strand
plain t = record (bare t) { entry_group = None; exit_group = None }

record Alike (m n : Net) : Type 0 where
  near : m.near ≡ n.near
  blocks : m.blocks ≡ n.blocks
  extras : m.extras ≡ n.extras
  pairs : m.pairs ≡ n.pairs
  ties : m.ties ≡ n.ties
  strands : map plain m.strands ≡ map plain n.strands
  masks : map seen_eight m.strands ≡ map seen_all n.strands

nothing_allowed : (p : ℕ) → allows 0 p ≡ false
nothing_allowed p = ap (λ k. eqb k 1) (bit_at-zero p)

module _ (m n : Net) (alike : Alike m n) where
  same_length : length m.strands ≡ length n.strands
  same_length =
      let a = length-map m.strands plain in
      let b = length-map n.strands plain in
      let c = ap (λ (ts : List Strand). length ts) alike.strands in
      omega (arith, a, b, c)

  strand_same : (s : ℕ) → plain (strand_at m s) ≡ plain (strand_at n s)
  strand_same s = sym (got-map plain m.strands s no_strand)
      ∙ ap (λ ts. get_or ts s (plain no_strand)) alike.strands ∙ got-map plain n.strands s no_strand

  first_same : (s : ℕ) → (strand_at m s).first ≡ (strand_at n s).first
  first_same s = ap (λ (t : Strand). t.first) (strand_same s)

  last_same : (s : ℕ) → (strand_at m s).last ≡ (strand_at n s).last
  last_same s = ap (λ (t : Strand). t.last) (strand_same s)

  block_same : (s : ℕ) → (strand_at m s).block.0 ≡ (strand_at n s).block.0
  block_same s = ap (λ (t : Strand). t.block.0) (strand_same s)

  constant_same : (s : ℕ) → (strand_at m s).constant ≡ (strand_at n s).constant
  constant_same s = ap (λ (t : Strand). t.constant) (strand_same s)

  mask_same : (s i p : ℕ)
      → allows (get_or (strand_at m s).masks i 0) p ≡ (allows (get_or (strand_at n s).masks i 0) p
      && in_eight_places p)
  mask_same s i p =
      let seen : seen_eight (strand_at m s) ≡ seen_all (strand_at n s)
      = sym (got-map seen_eight m.strands s no_strand) ∙ ap (λ ts. get_or ts s []) alike.masks
      ∙ got-map seen_all n.strands s no_strand in
      let none : allows 0 ≡ met_eight 0 = fun_ext (λ q. nothing_allowed q
      ∙ sym (ap (λ t. t && in_eight_places q) (nothing_allowed q))) in
      ap (λ (f : ℕ → Bool). f p) (sym (got-map allows (strand_at m s).masks i 0)
      ∙ ap (λ fs. get_or fs i (allows 0)) seen
      ∙ ap (λ f. get_or (seen_all (strand_at n s)) i f) none
      ∙ got-map met_eight (strand_at n s).masks i 0)

  -- ---- edges

  in_both : (e : Edge) → IsTrue (in_mask m e)
      → IsTrue (in_mask n e) × (in_eight_places (number e.to) ≡ true)
  in_both e h =
      let same = mask_same e.strand (e.layer - (strand_at m e.strand).first) (number e.to) in
      let parts = and_parts
      (allows (get_or (strand_at n e.strand).masks (e.layer - (strand_at m e.strand).first) 0)
      (number e.to)) (in_eight_places (number e.to)) (sym same ∙ h) in (
        subst (λ l. allows (get_or (strand_at n e.strand).masks (e.layer - l) 0)
            (number e.to) ≡ true) (first_same e.strand) parts.0,
        parts.1,
      )

  there : (s : ℕ) (t : Strand) → slice_get n.strands s ≡ Some t
      → slice_get m.strands s ≡ Some (strand_at m s)
  there s t is = slice_get-get_or m.strands s no_strand
      (let lt = slice_get_within n.strands s t is in let same = same_length in
      omega (arith, lt, same))

  at_n : (s : ℕ) (t : Strand) → slice_get n.strands s ≡ Some t → strand_at n s ≡ t
  at_n s t is = get_or_from_slice_get n.strands s t no_strand is

  conserves : (f : List Edge) → Conserves m.strands f → Conserves n.strands f
  conserves f c = record {
    edges = λ k d lt.
        let e = get_or f k d in
        let is = c.edges k d lt in
        let t = get_or_from_slice_get m.strands e.strand is.strand no_strand is.is in
        let first = sym (first_same e.strand) ∙ ap (λ (u : Strand). u.first) t in
        let last = sym (last_same e.strand) ∙ ap (λ (u : Strand). u.last) t in
        let after = is.after in
        let before = is.before in
        let in_ = slice_get_within m.strands e.strand is.strand is.is in
        let long = same_length in record {
          strand = strand_at n e.strand;
          is = slice_get-get_or n.strands e.strand no_strand (omega (arith, in_, long));
          after = omega (arith, first, after);
          before = omega (arith, last, before);
          start = (λ none. is.start.0 none ∙ sym first, λ same. is.start.1 (same ∙ first));
        };
    starts = λ s t is. subst (λ l. count_by (leaves s l None) f ≡ 1) (first_same s
        ∙ ap (λ (u : Strand). u.first) (at_n s t is))
        (c.starts s (strand_at m s) (there s t is));
    keeps = λ s l q t is le lt.
        let first = first_same s ∙ ap (λ (u : Strand). u.first) (at_n s t is) in
        let last = last_same s ∙ ap (λ (u : Strand). u.last) (at_n s t is) in
        c.keeps s l q (strand_at m s) (there s t is) (omega (arith, first, le))
        (omega (arith, last, lt));
  }

  layer_same : (e : Edge) → layer_of m e ≡ layer_of n e
  layer_same e = ap (λ bs. first_layer bs (strand_at m e.strand).block.0 + e.layer) alike.blocks
      ∙ ap (λ b. first_layer n.blocks b + e.layer) (block_same e.strand)

  bundle_same : (k r : ℕ) → uses_bundle m k r ≡ uses_bundle n k r
  bundle_same k r = fun_ext (λ (e : Edge). ap (λ l. eqb l k && in_register r e.to) (layer_same e))

  ties_kept : (f : List Edge) (t : Tie) → KeepsTie m f t → KeepsTie n f t
  ties_kept f t keeps p =
      ap (λ l. count_by (λ e. is_at t.from l e && same_place e.to p) f) (sym (last_same t.from))
      ∙ keeps p
      ∙ ap (λ l. count_by (λ e. is_at t.to l e && same_place e.to p) f) (first_same t.to)

  admitted : (f : List Edge) → IsAdmitted m f → IsAdmitted n f
  admitted f a = record {
    conserves = conserves f a.conserves;
    masks = λ k d lt. (in_both (get_or f k d) (a.masks k d lt)).0;
    across = a.across;
    bundles = λ k r. subst (λ test. count_by test f ≤ 1) (bundle_same k r) (a.bundles k r);
    pairs = subst (All (λ x. count_by (uses_memory x) f ≤ 1)) alike.pairs a.pairs;
    ties = subst (All (KeepsTie n f)) alike.ties (λ k d lt. ties_kept f (get_or m.ties k d)
        (a.ties k d lt));
  }

  -- ---- costs

  depth_same : (s : ℕ) → depth_at m s ≡ depth_at n s
  depth_same s = ap (λ bs. (get_or bs (strand_at m s).block.0 no_block).depth) alike.blocks
      ∙ ap (λ b. (get_or n.blocks b no_block).depth) (block_same s)

  extra_same : (w : Weights) (x : Extra) → extra_cost m w x ≡ extra_cost n w x
  extra_same w x = ap (weight_of w x.event) (depth_same x.strand)

  -- what an edge comes from is one of the eight places: some edge came there
  from_eight : (f : List Edge) → IsAdmitted m f → (k : ℕ) (d : Edge) → k < length f → (p : Place)
      → (get_or f k d).from ≡ Some p → in_eight_places (number p) ≡ true
  from_eight f a k d lt p from = elim (cases_Bool (in_eight_places (number p)))
      as (λ _. in_eight_places (number p) ≡ true) [
        | inl is ↦ is
        | inr no_ ↦ absurd (nowhere no_)
      ]
    where
      e : Edge
      e = get_or f k d

      is : IsEdge m.strands e
      is = a.conserves.edges k d lt

      later : e.layer ≡ is.strand.first → ⊥
      later same = none_some (sym (is.start.1 same) ∙ from)

      nowhere : in_eight_places (number p) ≡ false → ⊥
      nowhere no_ =
          let after = is.after in
          let before = is.before in
          let l = e.layer - 1 in
          let next : e.layer ≡ l + 1 = omega (arith, after, later) in
          let keeps = a.conserves.keeps e.strand l p is.strand is.is (omega (arith, after, later))
          (omega (arith, after, before, later)) in
          let goes = some_count (leaves e.strand (l + 1) (Some p)) f k d lt
          (and_from (is_at e.strand (l + 1) e) (same_start e.from (Some p))
          (and_from (eqb e.strand e.strand) (eqb e.layer (l + 1)) (eq-eqb e.strand e.strand refl)
          (eq-eqb e.layer (l + 1) next))
          (subst (λ o. same_start o (Some p) ≡ true) (sym from) (same_start-refl (Some p)))) in
          let none = count-none (arrives e.strand l p) f
          (λ j g in_. false_from_ne_true (arrives e.strand l p (get_or f j g)) (λ comes.
          let x : Edge = get_or f j g in
          let to = same_place-true x.to p (and_parts (is_at e.strand l x) (same_place x.to p)
          comes).1 in
          true≢false (sym (in_both x (a.masks j g in_)).1
          ∙ ap (λ (q : Place). in_eight_places (number q)) to ∙ no_))) in
          omega (arith, keeps, goes, none)

  way_same : (w : Weights) (f : List Edge) → IsAdmitted m f → (k : ℕ) (d : Edge) → k < length f
      → way_cost eight_tables m w (get_or f k d) ≡ way_cost all_tables n w (get_or f k d)
  way_same w f a k d lt =
      ap (λ l. events_weight w l (events_from eight_tables m e e.from)) (depth_same e.strand)
      ∙ ap (events_weight w (depth_at n e.strand)) (by e.from refl)
    where
      e : Edge
      e = get_or f k d

      to : in_eight_places (number e.to) ≡ true
      to = (in_both e (a.masks k d lt)).1

      by : (o : Option Place) → e.from ≡ o
          → events_from eight_tables m e o ≡ events_from all_tables n e o
      by None from = ap (λ b. eight_begun b e.to) (constant_same e.strand)
          ∙ begun_eight (strand_at n e.strand).constant e.to to
      by (Some p) from = ap (λ b. cond (is_across e) [] (eight_way b p e.to)) alike.near
          ∙ ap (λ es. cond (is_across e) [] es)
          (way_eight n.near p e.to (from_eight f a k d lt p from) to)

  cost_same : (w : Weights) (f : List Edge) → IsAdmitted m f
      → cost_by eight_tables m w f ≡ cost_of n w f
  cost_same w f a =
      ap (λ k. k + sum_by (λ x. extra_cost m w x * count_by (meets x) f) m.extras)
      (sum_by-agree (way_cost eight_tables m w) (way_cost all_tables n w) f (way_same w f a))
      ∙ ap (λ (c : Extra → ℕ). sum_by (way_cost all_tables n w) f + sum_by
      (λ x. c x * count_by (meets x) f) m.extras) (fun_ext (extra_same w))
      ∙ ap (λ xs. sum_by (way_cost all_tables n w) f + sum_by
      (λ x. extra_cost n w x * count_by (meets x) f) xs) alike.extras

-- ---- the two networks of one code

module _ (code : VProc) (live : Lives) (least_m least_n : ℕ → ℕ) where
  abbrev m : Net
  m = net_of eight_tables code live least_m

  abbrev n : Net
  n = net_of all_tables code live least_n

  abbrev ss8 : List Strand
  ss8 = strands eight_tables code live

  abbrev ss14 : List Strand
  ss14 = strands all_tables code live

  -- groups are no part of what a reading finds
  grouped_same : {B : Type 0} (g : Strand → B) (ts : List Tie) (least : ℕ → ℕ)
      → ((k : ℕ) (s : Strand) → g (grouped ts least (k, s)) ≡ g s)
      → (k : ℕ) (ss : List Strand) → map g (map (grouped ts least) (enumerate_from k ss)) ≡ map g ss
  grouped_same g ts least same k [] = refl
  grouped_same g ts least same k (s ∷ ss) =
      ap (λ x. x ∷ map g (map (grouped ts least) (enumerate_from (k + 1) ss))) (same k s)
      ∙ ap (λ xs. g s ∷ xs) (grouped_same g ts least same (k + 1) ss)

  seen_same : (v b l : ℕ) → seen_eight (eight code live v b l) ≡ seen_all (all code live v b l)
  seen_same v b l =
      map-map allows (mask_at eight_tables code live v b)
      (range_with_len l (run_from eight_tables code live v b l))
      ∙ ap (λ (f : ℕ → ℕ → Bool). map f (range_with_len l (run_from eight_tables code live v b l)))
      (fun_ext (λ k. fun_ext (λ p. mask_bits code live v b k p)))
      ∙ ap (λ k. map (λ x. met_eight (mask_at all_tables code live v b x)) (range_with_len l k))
      (run_same code live v b l)
      ∙ sym (map-map met_eight (mask_at all_tables code live v b)
      (range_with_len l (run_from all_tables code live v b l)))

  plain_same : (v b l : ℕ) → plain (eight code live v b l) ≡ plain (all code live v b l)
  plain_same v b l = ap (λ (t : Strand). record t { entry_group = None; exit_group = None })
      (bare_same code live v b l)

  alike : Alike m n
  alike = record {
    near = refl;
    blocks = refl;
    extras = same_extras code live;
    pairs = same_pairs code live;
    ties = same_ties code live;
    strands = grouped_same plain (ties code ss8) least_m (λ k s. refl) 0 ss8
        ∙ strands_same code live plain plain plain_same
        ∙ sym (grouped_same plain (ties code ss14) least_n (λ k s. refl) 0 ss14);
    masks = grouped_same seen_eight (ties code ss8) least_m (λ k s. refl) 0 ss8
        ∙ strands_same code live seen_eight seen_all seen_same
        ∙ sym (grouped_same seen_all (ties code ss14) least_n (λ k s. refl) 0 ss14);
  }

pub clean_copies : (code : VProc) (m n : Net) (w : Weights) (f : List Edge)
    → IsNetBy eight_tables code m → IsNet n code → IsAdmitted m f
    → IsAdmitted n f × (cost_of n w f ≡ cost_by eight_tables m w f)
clean_copies code m n w f a b is =
    let live = one_live code a.live b.live a.is_live b.is_live in
    let same : Alike m n = subst (λ x. Alike x n) (sym a.is)
    (subst (Alike (net_of eight_tables code a.live a.least))
    (ap (λ l. net_of all_tables code l b.least) live ∙ sym b.is)
    (alike code a.live a.least b.least)) in
    (admitted m n same f is, sym (cost_same m n same w f is))
