-- The network of the eight tables beside that of all places: the same strands, with the masks met
-- with the eight places.
use Rattle.std.proofs.Common.{ℕ, ◌≡◌, ◌+◌, ◌-◌, ◌*◌, Bool, true, false, ltb, not, ◌&&◌, ◌||◌, cond}
use Rattle.std.proofs.Common.{eqb, List, [], ◌∷◌, ◌++◌, length, map, filter, Option, Some, None}
use Rattle.std.proofs.Common.{refl, sym, ap, ◌∙◌}
use Rattle.std.specs.Prelude.{option_map}
use Rattle.std.specs.List.{fold, list_any, range_with_len, prefix_len, flat_map, filter_map}
use Rattle.std.specs.List.{cons_option, enumerate_from}
use Rattle.std.proofs.lemmas.List.Folds.{flat_map-map}
use Rattle.std.proofs.Math.Path.{fun_ext}
use Rattle.pra_list.proofs.Mapped.{list_any-map}
use Rattle.pra_base.specs.declared.ids.Place.{Place}
use Rattle.pra_base.specs.declared.ids.Place.TheVariants.{Mem, Const}
use Rattle.pra_base.specs.declared.code.VInstr.{VInstr}
use Rattle.pra_base.specs.declared.code.VProc.{VProc}
use Rattle.pra_base.specs.Code.{kind_of, code_of}
use Rattle.pra_base.specs.Operands.{Role, operands, own_places, is_role_of, meets}
use Rattle.pra_base.specs.Places.{allows, meet, only, without, mask_where, lies_in}
use Rattle.net_form.specs.declared.net.Strand.{Strand}
use Rattle.net_form.specs.declared.net.Extra.{Extra}
use Rattle.net_form.specs.declared.net.MemPair.{MemPair}
use Rattle.net_form.specs.declared.net.Tie.{Tie}
use Rattle.net_form.specs.Tables.{all_tables}
use Rattle.net_form.specs.EightTables.{eight_tables, eight_places, eight_row, eight_own, in_eight}
use Rattle.net_form.specs.Strands.{Lives, layer_count, is_before, beside, across, roles_beside}
use Rattle.net_form.specs.Strands.{roles_at, clobbers_beside, is_present, met_mask, clobbered}
use Rattle.net_form.specs.Strands.{comes_in_memory, mask_at, run_from, begins, strand, begun_strand}
use Rattle.net_form.specs.Strands.{layer_strands, block_strands, strands}
use Rattle.net_form.specs.Network.{extra_of, extra_at, event_beside, priced_places, extras}
use Rattle.net_form.specs.Network.{stands_for, strand_of, marked, marked_roles, pair_of, pairs}
use Rattle.net_form.specs.Network.{is_joined, ties_from, ties}
use Rattle.net_laws.proofs.Bits.{allows_meet}

abbrev pub in_eight_places : ℕ → Bool
in_eight_places p = allows eight_places p

-- ---- the masks

-- met with the eight places
abbrev pub Meets : ℕ → ℕ → ℕ → Type 0
Meets eight all p = allows eight p ≡ (allows all p && in_eight_places p)

both_met : (a b e : Bool) → ((a && e) && (b && e)) ≡ ((a && b) && e)
both_met true true true = refl
both_met true true false = refl
both_met true false true = refl
both_met true false false = refl
both_met false b e = refl

one_met : (a b e : Bool) → ((a && e) && b) ≡ ((a && b) && e)
one_met true true true = refl
one_met true true false = refl
one_met true false true = refl
one_met true false false = refl
one_met false b e = refl

fold_met : (v p : ℕ) (rs : List Role) (a b : ℕ) → Meets a b p
    → Meets (fold (meets v) a (map in_eight rs)) (fold (meets v) b rs) p
fold_met v p [] a b h = h
fold_met v p (r ∷ rs) a b h = fold_met v p rs (meets v a (in_eight r)) (meets v b r)
    (by (is_role_of v r))
  where
    by : (t : Bool)
        → Meets (cond t (meet a (meet r.mask eight_places)) a) (cond t (meet b r.mask) b) p
    by true = allows_meet a (meet r.mask eight_places) p
        ∙ ap (λ x. x && allows (meet r.mask eight_places) p) h
        ∙ ap (λ x. (allows b p && in_eight_places p) && x) (allows_meet r.mask eight_places p)
        ∙ both_met (allows b p) (allows r.mask p) (in_eight_places p)
        ∙ ap (λ x. x && in_eight_places p) (sym (allows_meet b r.mask p))
    by false = h

-- the places that are in none of these registers
abbrev lost : ℕ → ℕ
lost c = mask_where (λ q. not (lies_in c q))

module _ (code : VProc) (live : Lives) where
  roles_same : (b l : ℕ)
      → roles_at eight_tables code b l ≡ map in_eight (roles_at all_tables code b l)
  roles_same b l = by (is_before l) (beside code b l)
    where
      by : (t : Bool) (o : Option VInstr)
          → roles_beside t eight_row o ≡ map in_eight (roles_beside t operands o)
      by t None = refl
      by true (Some i) = refl
      by false (Some i) = refl

  present_same : (v b l : ℕ)
      → is_present eight_tables code live v b l ≡ is_present all_tables code live v b l
  present_same v b l = ap (λ (t : Bool). live v b l || (not (is_before l) && t))
      (ap (list_any (is_role_of v)) (roles_same b l) ∙ list_any-map (is_role_of v) in_eight
      (roles_at all_tables code b l))

  pub run_same : (v b l : ℕ)
      → run_from eight_tables code live v b l ≡ run_from all_tables code live v b l
  run_same v b l = ap (λ (f : ℕ → Bool). prefix_len f (range_with_len l (layer_count code b - l)))
      (fun_ext (present_same v b))

  begins_same : (v b l : ℕ)
      → begins eight_tables code live v b l ≡ begins all_tables code live v b l
  begins_same v b l = ap (λ (f : ℕ → Bool). f l && not (ltb 0 l && f (l - 1)))
      (fun_ext (present_same v b))

  lost_same : (v b l : ℕ)
      → clobbered eight_tables code live v b l ≡ clobbered all_tables code live v b l
  lost_same v b l = ap (λ t. cond t (clobbers_beside eight_row (beside code b l)) 0)
      (present_same v b (across l))
      ∙ ap (λ k. cond (is_present all_tables code live v b (across l)) k 0) (by (beside code b l))
    where
      by : (o : Option VInstr) → clobbers_beside eight_row o ≡ clobbers_beside operands o
      by None = refl
      by (Some i) = refl

  met_bits : (v b l p : ℕ)
      → Meets (met_mask eight_tables code v b l) (met_mask all_tables code v b l) p
  met_bits v b l p = ap (λ rs. allows (fold (meets v) (eight_own (kind_of code v)) rs) p)
      (roles_same b l)
      ∙ fold_met v p (roles_at all_tables code b l) (eight_own (kind_of code v))
      (own_places (kind_of code v)) (allows_meet (own_places (kind_of code v)) eight_places p)

  -- each place of the mask is one of the eight, in the mask of all
  pub mask_bits : (v b l p : ℕ)
      → Meets (mask_at eight_tables code live v b l) (mask_at all_tables code live v b l) p
  mask_bits v b l p = by (comes_in_memory code v b l)
    where
      kept : Meets (without (met_mask eight_tables code v b l)
          (clobbered eight_tables code live v b l))
          (without (met_mask all_tables code v b l) (clobbered all_tables code live v b l)) p
      kept = ap (λ c. allows (without (met_mask eight_tables code v b l) c) p) (lost_same v b l)
          ∙ allows_meet (met_mask eight_tables code v b l)
          (lost (clobbered all_tables code live v b l)) p
          ∙ ap (λ t. t && allows (lost (clobbered all_tables code live v b l)) p) (met_bits v b l p)
          ∙ one_met (allows (met_mask all_tables code v b l) p)
          (allows (lost (clobbered all_tables code live v b l)) p) (in_eight_places p)
          ∙ ap (λ t. t && in_eight_places p)
          (sym (allows_meet (met_mask all_tables code v b l)
          (lost (clobbered all_tables code live v b l)) p))

      by : (t : Bool)
          → Meets (cond t (only Mem) (without (met_mask eight_tables code v b l)
          (clobbered eight_tables code live v b l)))
          (cond t (only Mem) (without (met_mask all_tables code v b l)
          (clobbered all_tables code live v b l))) p
      by true = let same : meet (only Mem) eight_places ≡ only Mem = refl in ap (λ k. allows k p)
          (sym same) ∙ allows_meet (only Mem) eight_places p
      by false = kept

-- ---- the strands

pub map-map : {X Y Z : Type 0} (g : Y → Z) (f : X → Y) (xs : List X)
    → map g (map f xs) ≡ map (λ x. g (f x)) xs
map-map g f [] = refl
map-map g f (x ∷ xs) = ap (λ ys. g (f x) ∷ ys) (map-map g f xs)

map-append : {X Y : Type 0} (g : X → Y) (xs ys : List X) → map g (xs ++ ys) ≡ map g xs ++ map g ys
map-append g [] ys = refl
map-append g (x ∷ xs) ys = ap (λ zs. g x ∷ zs) (map-append g xs ys)

map-flat_map : {X Y Z : Type 0} (g : Y → Z) (f : X → List Y) (xs : List X)
    → map g (flat_map f xs) ≡ flat_map (λ x. map g (f x)) xs
map-flat_map g f [] = refl
map-flat_map g f (x ∷ xs) = map-append g (f x) (flat_map f xs)
    ∙ ap (λ zs. map g (f x) ++ zs) (map-flat_map g f xs)

map-filter_map : {X Y Z : Type 0} (g : Y → Z) (f : X → Option Y) (xs : List X)
    → map g (filter_map f xs) ≡ filter_map (λ x. option_map g (f x)) xs
map-filter_map g f [] = refl
map-filter_map {Y = Y} g f (x ∷ xs) = by (f x) ∙ ap (λ zs. cons_option (option_map g (f x)) zs)
    (map-filter_map g f xs)
  where
    by : (o : Option Y)
        → map g (cons_option o (filter_map f xs)) ≡ cons_option (option_map g o)
        (map g (filter_map f xs))
    by None = refl
    by (Some y) = refl

module _ (code : VProc) (live : Lives) where
  abbrev pub eight : ℕ → ℕ → ℕ → Strand
  eight v b l = strand eight_tables code live v b l

  abbrev pub all : ℕ → ℕ → ℕ → Strand
  all v b l = strand all_tables code live v b l

  -- what two readings of strands find alike, they find alike in the lists
  pub strands_same : {B : Type 0} (g h : Strand → B)
      → ((v b l : ℕ) → g (eight v b l) ≡ h (all v b l))
      → map g (strands eight_tables code live) ≡ map h (strands all_tables code live)
  strands_same {B} g h same =
      let blocks = range_with_len 0 (length code.blocks) in
      map-flat_map g (block_strands eight_tables code live) blocks
      ∙ ap (λ (f : ℕ → List B). flat_map f blocks) (fun_ext of_block)
      ∙ sym (map-flat_map h (block_strands all_tables code live) blocks)
    where
      begun_same : (b l v : ℕ)
          → option_map g (begun_strand eight_tables code live b l v) ≡ option_map h
          (begun_strand all_tables code live b l v)
      begun_same b l v = ap (λ t. option_map g (cond t (Some (eight v b l)) None))
          (begins_same code live v b l) ∙ by (begins all_tables code live v b l)
        where
          by : (t : Bool)
              → option_map g (cond t (Some (eight v b l)) None) ≡ option_map h
              (cond t (Some (all v b l)) None)
          by true = ap Some (same v b l)
          by false = refl

      of_layer : (b l : ℕ)
          → map g (layer_strands eight_tables code live b l) ≡ map h
          (layer_strands all_tables code live b l)
      of_layer b l =
          let vars = range_with_len 0 (length code.vars) in
          map-filter_map g (begun_strand eight_tables code live b l) vars
          ∙ ap (λ (f : ℕ → Option B). filter_map f vars) (fun_ext (begun_same b l))
          ∙ sym (map-filter_map h (begun_strand all_tables code live b l) vars)

      of_block : (b : ℕ)
          → map g (block_strands eight_tables code live b) ≡ map h
          (block_strands all_tables code live b)
      of_block b =
          let layers = range_with_len 0 (layer_count code b) in
          map-flat_map g (layer_strands eight_tables code live b) layers
          ∙ ap (λ (f : ℕ → List B). flat_map f layers) (fun_ext (of_layer b))
          ∙ sym (map-flat_map h (layer_strands all_tables code live b) layers)

-- ---- a strand of whose masks only memory and the constant itself are kept

abbrev pub kept_bits : Bool → Bool → ℕ
kept_bits memory constant = cond memory 64 0 + cond constant 128 0

abbrev pub keep : ℕ → ℕ
keep k = kept_bits (allows k 6) (allows k 7)

abbrev pub bare : Strand → Strand
bare t = record t { masks = map keep t.masks }

kept_memory : (a b : Bool) → allows (kept_bits a b) 6 ≡ a
kept_memory true true = refl
kept_memory true false = refl
kept_memory false true = refl
kept_memory false false = refl

kept_constant : (a b : Bool) → allows (kept_bits a b) 7 ≡ b
kept_constant true true = refl
kept_constant true false = refl
kept_constant false true = refl
kept_constant false false = refl

and_true : (b : Bool) → (b && true) ≡ b
and_true true = refl
and_true false = refl

module _ (code : VProc) (live : Lives) where
  keep_same : (v b l : ℕ)
      → keep (mask_at eight_tables code live v b l) ≡ keep (mask_at all_tables code live v b l)
  keep_same v b l =
      ap (λ t. kept_bits t (allows (mask_at eight_tables code live v b l) 7))
      (mask_bits code live v b l 6 ∙ and_true (allows (mask_at all_tables code live v b l) 6))
      ∙ ap (λ t. kept_bits (allows (mask_at all_tables code live v b l) 6) t)
      (mask_bits code live v b l 7 ∙ and_true (allows (mask_at all_tables code live v b l) 7))

  pub bare_same : (v b l : ℕ) → bare (eight code live v b l) ≡ bare (all code live v b l)
  bare_same v b l = λ i. record (eight code live v b l) {
    last = l + run_same code live v b l i - 1;
    masks = masks i;
  }
    where
      masks : map keep (eight code live v b l).masks ≡ map keep (all code live v b l).masks
      masks = map-map keep (mask_at eight_tables code live v b)
          (range_with_len l (run_from eight_tables code live v b l))
          ∙ ap (λ (f : ℕ → ℕ). map f (range_with_len l (run_from eight_tables code live v b l)))
          (fun_ext (keep_same v b))
          ∙ ap (λ n. map (λ x. keep (mask_at all_tables code live v b x)) (range_with_len l n))
          (run_same code live v b l)
          ∙ sym (map-map keep (mask_at all_tables code live v b)
          (range_with_len l (run_from all_tables code live v b l)))

  pub bare_strands : map bare (strands eight_tables code live) ≡ map bare
      (strands all_tables code live)
  bare_strands = strands_same code live bare bare bare_same

-- ---- what the lists of a network take from the strands

enumerate-map : {X Y : Type 0} (g : X → Y) (n : ℕ) (xs : List X)
    → enumerate_from n (map g xs) ≡ map (λ (x : ℕ × X). (x.0, g x.1)) (enumerate_from n xs)
enumerate-map g n [] = refl
enumerate-map g n (x ∷ xs) = ap (λ ys. (n, g x) ∷ ys) (enumerate-map g (n + 1) xs)

filter_map-map : {X Y Z : Type 0} (f : Y → Option Z) (g : X → Y) (xs : List X)
    → filter_map f (map g xs) ≡ filter_map (λ x. f (g x)) xs
filter_map-map f g [] = refl
filter_map-map f g (x ∷ xs) = ap (cons_option (f (g x))) (filter_map-map f g xs)

prefix_len-map : {X Y : Type 0} (p : Y → Bool) (g : X → Y) (xs : List X)
    → prefix_len p (map g xs) ≡ prefix_len (λ x. p (g x)) xs
prefix_len-map p g [] = refl
prefix_len-map p g (x ∷ xs) = ap (λ n. cond (p (g x)) (1 + n) 0) (prefix_len-map p g xs)

abbrev numbered_bare : ℕ × Strand → ℕ × Strand
numbered_bare s = (s.0, bare s.1)

module _ (code : VProc) (ss : List Strand) where
  abbrev tie_of : ℕ × Strand → ℕ × Strand → Option Tie
  tie_of s t = cond (is_joined code s.1 t.1) (Some (record { from = s.0; to = t.0 })) None

  ties_from_bare : (s : ℕ × Strand)
      → ties_from code (map bare ss) (numbered_bare s) ≡ ties_from code ss s
  ties_from_bare s = ap (filter_map (tie_of (numbered_bare s))) (enumerate-map bare 0 ss)
      ∙ filter_map-map (tie_of (numbered_bare s)) numbered_bare (enumerate_from 0 ss)

  pub ties_bare : ties code (map bare ss) ≡ ties code ss
  ties_bare = ap (flat_map (ties_from code (map bare ss))) (enumerate-map bare 0 ss)
      ∙ flat_map-map (ties_from code (map bare ss)) numbered_bare (enumerate_from 0 ss)
      ∙ ap (λ (f : ℕ × Strand → List Tie). flat_map f (enumerate_from 0 ss))
      (fun_ext ties_from_bare)

  strand_of_bare : (v b l : ℕ) → strand_of (map bare ss) v b l ≡ strand_of ss v b l
  strand_of_bare v b l = prefix_len-map (λ s. not (stands_for v b l s)) bare ss

  pair_of_bare : (b : ℕ) (ms : List (ℕ × ℕ)) → pair_of (map bare ss) b ms ≡ pair_of ss b ms
  pair_of_bare b [] = refl
  pair_of_bare b (x ∷ []) = refl
  pair_of_bare b (x ∷ y ∷ more) = λ i. cond (eqb x.0 y.0) None (Some (record {
    left = strand_of_bare x.0 b x.1 i;
    left_layer = x.1;
    right = strand_of_bare y.0 b y.1 i;
    right_layer = y.1;
  }))

  pub pairs_bare : pairs all_tables code (map bare ss) ≡ pairs all_tables code ss
  pairs_bare = ap (λ (f : ℕ → List MemPair). flat_map f (range_with_len 0 (length code.blocks)))
      (fun_ext (λ b. ap (λ (f : ℕ × VInstr → Option MemPair). filter_map f
      (enumerate_from 0 (code_of code b)))
      (fun_ext (λ (i : ℕ × VInstr). pair_of_bare b (marked i.0 (operands i.1))))))

  abbrev named_at : ℕ → List Role → List (ℕ × ℕ)
  named_at l rs = map (λ (r : Role). (r.var, l)) rs

  marked_roles_same : (l : ℕ) (rs : List Role)
      → marked_roles l (map in_eight rs) ≡ marked_roles l rs
  marked_roles_same l [] = refl
  marked_roles_same l (r ∷ rs) = by r.memory (marked_roles_same l rs)
    where
      by : (t : Bool) → marked_roles l (map in_eight rs) ≡ marked_roles l rs
          → named_at l (cond t (in_eight r ∷ filter (λ r. r.memory) (map in_eight rs))
          (filter (λ r. r.memory) (map in_eight rs)))
          ≡ named_at l (cond t (r ∷ filter (λ r. r.memory) rs) (filter (λ r. r.memory) rs))
      by true more = ap (λ xs. (r.var, l) ∷ xs) more
      by false more = more

  marked_same : (k : ℕ) (i : VInstr) → marked k (eight_row i) ≡ marked k (operands i)
  marked_same k i = ap (λ xs. xs ++ marked_roles (2 * k + 2) (map in_eight (operands i).writes))
      (marked_roles_same (2 * k + 1) (operands i).reads)
      ∙ ap (λ xs. marked_roles (2 * k + 1) (operands i).reads ++ xs)
      (marked_roles_same (2 * k + 2) (operands i).writes)

  pub pairs_eight : pairs eight_tables code ss ≡ pairs all_tables code ss
  pairs_eight = ap (λ (f : ℕ → List MemPair). flat_map f (range_with_len 0 (length code.blocks)))
      (fun_ext (λ b. ap (λ (f : ℕ × VInstr → Option MemPair). filter_map f
      (enumerate_from 0 (code_of code b)))
      (fun_ext (λ (i : ℕ × VInstr). ap (pair_of ss b) (marked_same i.0 i.1)))))

  -- extras are of memory and of the constant itself
  extra_kept : (s : ℕ) (t : Strand) (at : ℕ × ℕ)
      → filter_map (extra_at all_tables code s (bare t) (at.0, keep at.1))
      priced_places ≡ filter_map (extra_at all_tables code s t at) priced_places
  extra_kept s t at = λ i.
      cons_option (cond (kept_memory (allows at.1 6) (allows at.1 7) i) (found Mem) None)
      (cons_option (cond (kept_constant (allows at.1 6) (allows at.1 7) i) (found Const) None) [])
    where
      found : Place → Option Extra
      found p = extra_of s at.0 p (event_beside all_tables code t.var.0 at.0 p
          (beside code t.block.0 at.0))

  abbrev layer_extras : ℕ → Strand → ℕ × ℕ → List Extra
  layer_extras s t at = filter_map (extra_at all_tables code s t at) priced_places

  strand_extras : (s : ℕ × Strand)
      → flat_map (layer_extras s.0 (bare s.1)) (enumerate_from s.1.first (map keep s.1.masks))
      ≡ flat_map (layer_extras s.0 s.1) (enumerate_from s.1.first s.1.masks)
  strand_extras s = ap (flat_map (layer_extras s.0 (bare s.1)))
      (enumerate-map keep s.1.first s.1.masks)
      ∙ flat_map-map (layer_extras s.0 (bare s.1)) (λ (at : ℕ × ℕ). (at.0, keep at.1))
      (enumerate_from s.1.first s.1.masks)
      ∙ ap (λ (f : ℕ × ℕ → List Extra). flat_map f (enumerate_from s.1.first s.1.masks))
      (fun_ext (extra_kept s.0 s.1))

  abbrev extras_of : ℕ × Strand → List Extra
  extras_of s = flat_map (layer_extras s.0 s.1) (enumerate_from s.1.first s.1.masks)

  pub extras_bare : extras all_tables code (map bare ss) ≡ extras all_tables code ss
  extras_bare = ap (flat_map extras_of) (enumerate-map bare 0 ss)
      ∙ flat_map-map extras_of numbered_bare (enumerate_from 0 ss)
      ∙ ap (λ (f : ℕ × Strand → List Extra). flat_map f (enumerate_from 0 ss))
      (fun_ext strand_extras)

module _ (code : VProc) (live : Lives) where
  abbrev ss8 : List Strand
  ss8 = strands eight_tables code live

  abbrev ss14 : List Strand
  ss14 = strands all_tables code live

  pub same_ties : ties code ss8 ≡ ties code ss14
  same_ties = sym (ties_bare code ss8) ∙ ap (ties code) (bare_strands code live)
      ∙ ties_bare code ss14

  pub same_pairs : pairs eight_tables code ss8 ≡ pairs all_tables code ss14
  same_pairs = pairs_eight code ss8 ∙ sym (pairs_bare code ss8)
      ∙ ap (pairs all_tables code) (bare_strands code live) ∙ pairs_bare code ss14

  pub same_extras : extras eight_tables code ss8 ≡ extras all_tables code ss14
  same_extras = sym (extras_bare code ss8) ∙ ap (extras all_tables code) (bare_strands code live)
      ∙ extras_bare code ss14
