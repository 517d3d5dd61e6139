-- The test of a place tells whether it is open.
use Rattle.std.proofs.Common.{ℕ, ◌≡◌, ◌<◌, ◌+◌, Bool, true, false, not, ◌&&◌, eqb, List, [], length}
use Rattle.std.proofs.Common.{take, drop, get_or, All, refl, sym, ap, ◌∙◌, inl, inr, arith}
use Rattle.std.specs.List.{list_all}
use Rattle.std.proofs.lemmas.Bool.{cases_Bool, eqb-true, eq-eqb, false≢true, and_from, and_left}
use Rattle.std.proofs.lemmas.List.{take-append-drop}
use Rattle.std.proofs.lemmas.List.Elements.{All-weaker}
use Rattle.std.proofs.lemmas.List.Folds.{list_all-append, list_all_more}
use Rattle.std.proofs.lemmas.List.Sums.{AllPass-from_list_all, list_all-from_AllPass}
use Rattle.std.proofs.lemmas.Option.{slice_get_within}
use Rattle.pra_list.proofs.Choices.{and_true}
use Rattle.pra_list.proofs.Options.{none_some}
use Rattle.pra_base.specs.declared.ids.Place.{Place}
use Rattle.pra_base.specs.declared.ids.Place.TheVariants.{Mem}
use Rattle.pra_base.specs.Places.{number, allows, has_register, register_of}
use Rattle.net_form.specs.declared.net.Net.{Net}
use Rattle.net_form.specs.declared.net.TieEnd.{TieEnd}
use Rattle.net_form.specs.Admitted.{strand_at, in_register}
use Rattle.net_form.specs.InUse.{mark}
use Rattle.net_laws.specs.Built.{IsBuilt}
use Rattle.net_laws.specs.Homes.{mask_in}
use Rattle.al_laws.specs.Greedy.{IsEnd, IsOpen, MayEnd, clash, group_ends}
use Rattle.al_laws.specs.Greedy.IsEnd.{entry, exit}
use Rattle.al_laws.specs.Parts.{layer_at}
use Rattle.al_laws.proofs.EndsAnywhere.{open_ends, memory_open}
use Rattle.al_edge.specs.GroupEnds.{ends_of, end_layer}
use Rattle.al_edge.specs.OpenPlaces.{is_unmarked, may_be, suits_all, whole_layer, IsInMasks}
use Rattle.al_edge.specs.OpenPlaces.{AreForAll, AreMarked}
use Rattle.al_edge.proofs.GroupMembers.{IsMember, all_members, each_end, this_in}

-- ---- what the test says of each end

module _ (net : Net) (regs : List ℕ) (g : ℕ) (p : Place) (all : suits_all net regs g p ≡ true) where
  each : All (λ (e : TieEnd). may_be net regs p e ≡ true) (ends_of net g)
  each = AllPass-from_list_all (may_be net regs p) (ends_of net g) all

  suits_end : (s : ℕ) → s < length net.strands → (l : ℕ) → IsEnd net g s l
      → (allows (mask_in (strand_at net s) l) (number p)
      && is_unmarked regs (layer_at net s l) p) ≡ true
  suits_end s lt l (entry is) = (each_end net g (λ (e : TieEnd). may_be net regs p e ≡ true) each s
      lt).0 (this_in g (strand_at net s).entry_group is)
  suits_end s lt l (exit is) = (each_end net g (λ (e : TieEnd). may_be net regs p e ≡ true) each s
      lt).1 (this_in g (strand_at net s).exit_group is)

  pub in_masks : IsInMasks net g p
  in_masks s l lt end = (and_true (allows (mask_in (strand_at net s) l) (number p))
      (is_unmarked regs (layer_at net s l) p) (suits_end s lt l end)).0

  pub frees : (s l : ℕ) → s < length net.strands → IsEnd net g s l
      → is_unmarked regs (layer_at net s l) p ≡ true
  frees s l lt end = (and_true (allows (mask_in (strand_at net s) l) (number p))
      (is_unmarked regs (layer_at net s l) p) (suits_end s lt l end)).1

-- ---- places that are in one register

clash_parts : (p q : Place) → clash p q ≡ true
    → (has_register (number p) ≡ true) × (in_register (register_of (number p)) q ≡ true)
clash_parts p q h =
    let both = and_true (has_register (number p) && has_register (number q))
    (eqb (register_of (number p)) (register_of (number q))) h in
    let has = and_true (has_register (number p)) (has_register (number q)) both.0 in
    let same = eqb-true (register_of (number p)) (register_of (number q)) both.1 in (
      has.0,
      and_from (has_register (number q)) (eqb (register_of (number q)) (register_of (number p)))
          has.1 (eq-eqb (register_of (number q)) (register_of (number p)) (sym same)),
    )

clash_from : (p q : Place) → has_register (number p) ≡ true
    → in_register (register_of (number p)) q ≡ true → clash p q ≡ true
clash_from p q has in_ =
    let both = and_true (has_register (number q))
    (eqb (register_of (number q)) (register_of (number p))) in_ in
    let same = eqb-true (register_of (number q)) (register_of (number p)) both.1 in
    and_from (has_register (number p) && has_register (number q))
    (eqb (register_of (number p)) (register_of (number q)))
    (and_from (has_register (number p)) (has_register (number q)) has both.0)
    (eq-eqb (register_of (number p)) (register_of (number q)) (sym same))

-- whichever of them is named first
pub clash_turned : (p q : Place) → clash p q ≡ false → clash q p ≡ false
clash_turned p q none = elim (cases_Bool (clash q p)) as (λ _. clash q p ≡ false) [
  | inl yes_ ↦
      let parts = clash_parts q p yes_ in
      let both = and_true (has_register (number p))
      (eqb (register_of (number p)) (register_of (number q))) parts.1 in
      absurd (false≢true (sym none ∙ and_from (has_register (number p) && has_register (number q))
      (eqb (register_of (number p)) (register_of (number q)))
      (and_from (has_register (number p)) (has_register (number q)) both.0 parts.0) both.1))
  | inr no_ ↦ no_
]

not_free : (regs : List ℕ) (n : ℕ) (p : Place) → has_register (number p) ≡ true
    → mark regs n (register_of (number p)) ≡ 1 → is_unmarked regs n p ≡ false
not_free regs n p has is = ap not (and_from (has_register (number p))
    (eqb (mark regs n (register_of (number p))) 1) has
    (eq-eqb (mark regs n (register_of (number p))) 1 is))

-- ---- the test and what is open

module _ (net : Net) (places : List Place) (regs : List ℕ) (marked : AreMarked net places regs)
    (p : Place) where
  pub opens : suits_all net regs (length places) p ≡ true
      → IsOpen net (record { places = places }) (length places) p
  opens all = record {
    mask = in_masks net regs (length places) p all;
    free = λ s l h r k q lt rlt hlt is end other same. elim (cases_Bool (clash p q))
        as (λ _. clash p q ≡ false) [
          | inl yes_ ↦
              let parts = clash_parts p q yes_ in
              let used = marked.all (layer_at net s l) (register_of (number p)) (record {
                group = h;
                place = q;
                strand = r;
                layer = k;
                is_planned = is;
                there = rlt;
                end = other;
                at = sym same;
                held = parts.1;
              }) in
              absurd (false≢true (sym (not_free regs (layer_at net s l) p parts.0 used)
              ∙ frees net regs (length places) p all s l lt end))
          | inr no_ ↦ no_
        ];
  }

  free_there : IsOpen net (record { places = places }) (length places) p → (e : TieEnd)
      → IsMember net (length places) e → is_unmarked regs (whole_layer net e) p ≡ true
  free_there opened e member = elim (cases_Bool (has_register (number p) && eqb
      (mark regs (whole_layer net e) (register_of (number p))) 1))
      as (λ _. is_unmarked regs (whole_layer net e) p ≡ true) [
        | inl yes_ ↦
            let both = and_true (has_register (number p))
            (eqb (mark regs (whole_layer net e) (register_of (number p))) 1) yes_ in
            let by = marked.only (whole_layer net e) (register_of (number p))
            (eqb-true (mark regs (whole_layer net e) (register_of (number p))) 1 both.1) in
            let apart = opened.free e.strand (end_layer net e) by.group by.strand by.layer by.place
            member.there by.there (slice_get_within places by.group by.place by.is_planned)
            by.is_planned member.end by.end (sym by.at) in
            absurd (false≢true (sym apart ∙ clash_from p by.place both.0 by.held))
        | inr no_ ↦ ap not no_
      ]

  pub opened_suits : IsOpen net (record { places = places }) (length places) p
      → suits_all net regs (length places) p ≡ true
  opened_suits opened = list_all-from_AllPass (may_be net regs p) (ends_of net (length places))
      (All-weaker (IsMember net (length places)) (λ (e : TieEnd). may_be net regs p e ≡ true)
      (λ e member. and_from (allows (mask_in (strand_at net e.strand) (end_layer net e)) (number p))
      (is_unmarked regs (whole_layer net e) p)
      (opened.mask e.strand (end_layer net e) member.there member.end)
      (free_there opened e member)) (ends_of net (length places)) (all_members net (length places)))

-- memory passes the test for every group
pub memory_suits : (net : Net) → IsBuilt net → (regs : List ℕ) (g : ℕ)
    → suits_all net regs g Mem ≡ true
memory_suits net built regs g =
    let opened = memory_open net built (record { places = [] }) g in
    list_all-from_AllPass (may_be net regs Mem) (ends_of net g)
    (All-weaker (IsMember net g) (λ (e : TieEnd). may_be net regs Mem e ≡ true)
    (λ e member. and_from (allows (mask_in (strand_at net e.strand) (end_layer net e)) (number Mem))
    (is_unmarked regs (whole_layer net e) Mem)
    (opened.mask e.strand (end_layer net e) member.there member.end) refl)
    (ends_of net g) (all_members net g))

-- a mask of the first ends, and of one more
pub masked_more : (net : Net) (regs : List ℕ) (g i : ℕ) (es : List TieEnd) → es ≡ ends_of net g
    → (d : TieEnd) → i < length es → (old new : ℕ)
    → ((p : Place) → allows old (number p)
    ≡ list_all (may_be net regs p) (take i (ends_of net g)))
    → ((p : Place) → allows new (number p)
    ≡ (allows old (number p) && may_be net regs p (get_or es i d)))
    → (p : Place) → allows new (number p)
    ≡ list_all (may_be net regs p) (take (i + 1) (ends_of net g))
masked_more net regs g i es is d lt old new first more p =
    let test = may_be net regs p in
    let long = ap length is in
    more p
    ∙ ap (λ (b : Bool). b && test (get_or es i d)) (first p)
    ∙ ap (λ (xs : List TieEnd). list_all test (take i (ends_of net g)) && test (get_or xs i d)) is
    ∙ sym (list_all_more test (ends_of net g) i d (omega (arith, long, lt)))

-- so where a mask of the first ends has memory alone, it is that of all
module _ (net : Net) (built : IsBuilt net) (regs : List ℕ) (g i mask : ℕ)
    (alone : (p : Place) → allows mask (number p) ≡ true → p ≡ Mem)
    (first : (p : Place) → allows mask (number p)
    ≡ list_all (may_be net regs p) (take i (ends_of net g))) where
  none_left : (p : Place) → allows mask (number p) ≡ false → suits_all net regs g p ≡ false
  none_left p no_ =
      let es = ends_of net g in
      ap (list_all (may_be net regs p)) (sym (take-append-drop i es))
      ∙ list_all-append (may_be net regs p) (take i es) (drop i es)
      ∙ and_left (list_all (may_be net regs p) (take i es)) (list_all (may_be net regs p)
      (drop i es)) (sym (first p) ∙ no_)

  pub memory_left : AreForAll net regs g mask
  memory_left p = elim (cases_Bool (allows mask (number p)))
      as (λ _. allows mask (number p) ≡ suits_all net regs g p) [
        | inl in_ ↦ in_ ∙ sym (ap (suits_all net regs g) (alone p in_)
            ∙ memory_suits net built regs g)
        | inr no_ ↦ no_ ∙ sym (none_left p no_)
      ]

-- ---- where strands may end

pub may_end : (net : Net) → IsBuilt net → (g : ℕ) (p : Place) → IsInMasks net g p → (s : ℕ)
    → s < length net.strands → MayEnd net s (group_ends net g p s)
may_end net built g p masks s lt = open_ends net built s lt (record { places = [] }) g p (record {
  mask = masks;
  free = λ s l h r k q _ _ _ is _ _ _. absurd (none_some is);
})
