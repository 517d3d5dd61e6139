-- A strand that has a path has one with any places of the masks at its block's entry and exit.
use Rattle.std.proofs.Common.{ℕ, suc, ◌≡◌, ◌+◌, ◌-◌, ◌%◌, ◌<◌, Bool, true, false, not, ◌||◌, cond}
use Rattle.std.proofs.Common.{eqb, List, [], ◌∷◌, length, get_or, slice_get}
use Rattle.std.proofs.Common.{All, Option, None, Some, refl, sym, ap, ◌∙◌, subst, arith, inl, inr}
use Rattle.std.specs.Prelude.{IsTrue, IfSome}
use Rattle.std.proofs.lemmas.Bool.{cases_Bool, eqb-true, eq-eqb, ne_eqb}
use Rattle.std.proofs.lemmas.List.Elements.{All-head, All-tail, All-cons, All-nil}
use Rattle.pra_base.specs.declared.ids.Place.{Place}
use Rattle.pra_base.specs.declared.ids.Place.TheVariants.{Mem}
use Rattle.pra_base.specs.Places.{number, allows}
use Rattle.net_form.specs.declared.net.Net.{Net}
use Rattle.net_form.specs.declared.routes.Ends.{Ends}
use Rattle.net_form.specs.declared.routes.Plan.{Plan}
use Rattle.net_form.specs.Flow.{Edge, edges}
use Rattle.net_form.specs.Admitted.{strand_at, no_strand, in_mask, is_across, stays_from}
use Rattle.net_form.specs.Admitted.{stays_across}
use Rattle.net_form.specs.Formed.{no_block}
use Rattle.net_laws.specs.Built.{IsBuilt}
use Rattle.net_laws.specs.Homes.{mask_in}
use Rattle.net_dual.specs.Paths.{IsPath, MayGo, Anywhere}
use Rattle.al_laws.specs.Greedy.{IsEnd, is_group, group_ends, IsOpen, MayEnd}
use Rattle.al_laws.specs.Greedy.IsEnd.{entry, exit}
use Rattle.al_laws.specs.Laid.{plan_ends, planned}
use Rattle.al_laws.specs.Settled.{is_at_entry, is_at_exit}
use Rattle.al_laws.proofs.Ends.{held}

-- ---- another first place, and another last one

abbrev pub begin_at : Option Place → List Place → List Place
begin_at None ps = ps
begin_at (Some p) [] = []
begin_at (Some p) (q ∷ qs) = p ∷ qs

abbrev pub end_at : Option Place → List Place → List Place
end_at None ps = ps
end_at (Some p) [] = []
end_at (Some p) (q ∷ []) = p ∷ []
end_at (Some p) (q ∷ r ∷ qs) = q ∷ end_at (Some p) (r ∷ qs)

length-begin : (o : Option Place) (ps : List Place) → length (begin_at o ps) ≡ length ps
length-begin None ps = refl
length-begin (Some p) [] = refl
length-begin (Some p) (q ∷ qs) = refl

length-end : (o : Option Place) (ps : List Place) → length (end_at o ps) ≡ length ps
length-end None ps = refl
length-end (Some p) [] = refl
length-end (Some p) (q ∷ []) = refl
length-end (Some p) (q ∷ r ∷ qs) = ap suc (length-end (Some p) (r ∷ qs))

begins : (p : Place) (ps : List Place) → 0 < length ps → slice_get (begin_at (Some p) ps) 0 ≡ Some p
begins p [] lt = absurd (omega (arith, lt))
begins p (q ∷ qs) lt = refl

ends_with : (p : Place) (ps : List Place) → 0 < length ps
    → slice_get (end_at (Some p) ps) (length (end_at (Some p) ps) - 1) ≡ Some p
ends_with p [] lt = absurd (omega (arith, lt))
ends_with p (q ∷ []) lt = refl
ends_with p (q ∷ r ∷ qs) lt =
    let long = length-end (Some p) (r ∷ qs) in
    ap (slice_get (q ∷ end_at (Some p) (r ∷ qs))) (let e : length (q ∷ end_at (Some p) (r ∷ qs)) -
    1 ≡ suc (length (end_at (Some p) (r ∷ qs)) - 1) = omega (arith, long) in e)
    ∙ ends_with p (r ∷ qs) (omega arith)

-- the first place of two or more stays
first_stays : (o : Option Place) (ps : List Place) → 1 < length ps
    → slice_get (end_at o ps) 0 ≡ slice_get ps 0
first_stays None ps lt = refl
first_stays (Some p) [] lt = refl
first_stays (Some p) (q ∷ []) lt = absurd (omega (arith, lt))
first_stays (Some p) (q ∷ r ∷ qs) lt = refl

module _ (net : Net) (s : ℕ) where
  abbrev edge : ℕ → Option Place → Place → Edge
  edge l a q = record { strand = s; layer = l; from = a; to = q }

  abbrev InMask : Edge → Type 0
  InMask e = IsTrue (in_mask net e)

  abbrev Stays : Edge → Type 0
  Stays e = IsTrue (stays_across e)

  -- the mask asks nothing of where an edge comes from
  masks_from : (l : ℕ) (a b : Option Place) (ps : List Place) → All InMask (edges s l a ps)
      → All InMask (edges s l b ps)
  masks_from l a b [] h = All-nil InMask
  masks_from l a b (q ∷ qs) h =
      let more = edges s (suc l) (Some q) qs in
      All-cons InMask (edge l b q) more (All-head InMask (edge l a q) more h)
      (All-tail InMask (edge l a q) more h)

  -- an edge to an odd layer may move
  odd_moves : (l : ℕ) (a : Option Place) (q : Place) → l % 2 ≡ 1
      → stays_across (record { strand = s; layer = l; from = a; to = q }) ≡ true
  odd_moves l a q odd = ap (λ b. not b || stays_from a q)
      (ne_eqb (l % 2) 0 (λ even. omega (arith, odd, even)))

  stays_odd : (l : ℕ) (a b : Option Place) (ps : List Place) → l % 2 ≡ 1
      → All Stays (edges s l a ps) → All Stays (edges s l b ps)
  stays_odd l a b [] odd h = All-nil Stays
  stays_odd l a b (q ∷ qs) odd h =
      let more = edges s (suc l) (Some q) qs in
      All-cons Stays (edge l b q) more (odd_moves l b q odd) (All-tail Stays (edge l a q) more h)

  start_stays : (l : ℕ) (q : Place)
      → stays_across (record { strand = s; layer = l; from = None; to = q }) ≡ true
  start_stays l q = by (is_across (record { strand = s; layer = l; from = None; to = q }))
    where
      by : (b : Bool) → (not b || true) ≡ true
      by true = refl
      by false = refl

  -- ---- another beginning at the entry

  begin_masks : (o : Option Place) (l : ℕ) (ps : List Place)
      → IfSome o (λ p. in_mask net (record { strand = s; layer = l; from = None; to = p }) ≡ true)
      → All InMask (edges s l None ps) → All InMask (edges s l None (begin_at o ps))
  begin_masks None l ps ok h = h
  begin_masks (Some p) l [] ok h = h
  begin_masks (Some p) l (q ∷ qs) ok h = All-cons InMask (edge l None p)
      (edges s (suc l) (Some p) qs) ok
      (masks_from (suc l) (Some q) (Some p) qs
      (All-tail InMask (edge l None q) (edges s (suc l) (Some q) qs) h))

  begin_stays : (o : Option Place) (l : ℕ) (ps : List Place) → IfSome o (λ p. l ≡ 0)
      → All Stays (edges s l None ps) → All Stays (edges s l None (begin_at o ps))
  begin_stays None l ps ok h = h
  begin_stays (Some p) l [] ok h = h
  begin_stays (Some p) l (q ∷ qs) ok h = All-cons Stays (edge l None p)
      (edges s (suc l) (Some p) qs) (start_stays l p)
      (stays_odd (suc l) (Some q) (Some p) qs (let e : suc l % 2 ≡ 1 = subst (λ k. suc k % 2 ≡ 1)
      (sym ok) refl in e) (All-tail Stays (edge l None q) (edges s (suc l) (Some q) qs) h))

  -- ---- another end at the exit

  end_masks : (p : Place) (last : ℕ)
      → ((a : Option Place)
      → in_mask net (record { strand = s; layer = last; from = a; to = p }) ≡ true)
      → (l : ℕ) (a : Option Place) (ps : List Place) → l + length ps ≡ last + 1
      → All InMask (edges s l a ps) → All InMask (edges s l a (end_at (Some p) ps))
  end_masks p last ok l a [] long h = h
  end_masks p last ok l a (q ∷ []) long h =
      All-cons InMask (edge l a p) []
      (subst (λ k. in_mask net (record { strand = s; layer = k; from = a; to = p }) ≡ true)
      (let e : last ≡ l = omega (arith, long) in e) (ok a)) (All-nil InMask)
  end_masks p last ok l a (q ∷ r ∷ qs) long h = All-cons InMask (edge l a q)
      (edges s (suc l) (Some q) (end_at (Some p) (r ∷ qs)))
      (All-head InMask (edge l a q) (edges s (suc l) (Some q) (r ∷ qs)) h)
      (end_masks p last ok (suc l) (Some q) (r ∷ qs) (omega (arith, long))
      (All-tail InMask (edge l a q) (edges s (suc l) (Some q) (r ∷ qs)) h))

  end_stays : (p : Place) (last : ℕ) → last % 2 ≡ 1 → (l : ℕ) (a : Option Place) (ps : List Place)
      → l + length ps ≡ last + 1
      → All Stays (edges s l a ps) → All Stays (edges s l a (end_at (Some p) ps))
  end_stays p last odd l a [] long h = h
  end_stays p last odd l a (q ∷ []) long h = All-cons Stays (edge l a p) []
      (odd_moves l a p (subst (λ k. k % 2 ≡ 1) (let e : last ≡ l = omega (arith, long) in e) odd))
      (All-nil Stays)
  end_stays p last odd l a (q ∷ r ∷ qs) long h = All-cons Stays (edge l a q)
      (edges s (suc l) (Some q) (end_at (Some p) (r ∷ qs)))
      (All-head Stays (edge l a q) (edges s (suc l) (Some q) (r ∷ qs)) h)
      (end_stays p last odd (suc l) (Some q) (r ∷ qs) (omega (arith, long))
      (All-tail Stays (edge l a q) (edges s (suc l) (Some q) (r ∷ qs)) h))

module _ (net : Net) (built : IsBuilt net) (s : ℕ) (lt : s < length net.strands) where
  odd_exit : is_at_exit net s ≡ true → (strand_at net s).last % 2 ≡ 1
  odd_exit at =
      let e = eqb-true ((strand_at net s).last + 1) _ at in
      let even = built.even (strand_at net s).block.0 no_block
      (built.formed.strands s no_strand lt).block in
      omega (arith, e, even)

  module _ (ends : Ends) (may : MayEnd net s ends) (ps : List Place) (path : IsPath net s ps) where
    abbrev begun : List Place
    begun = begin_at ends.first ps

    abbrev changed : List Place
    changed = end_at ends.last begun

    begun_path : IsPath net s begun
    begun_path = record {
      long = let same = length-begin ends.first ps in let long = path.long in
          omega (arith, same, long);
      masks = begin_masks net s ends.first (strand_at net s).first ps
          (first_mask ends.first may.first) path.masks;
      across = begin_stays net s ends.first (strand_at net s).first ps
          (first_entry ends.first may.first) path.across;
    }
      where
        first_mask : (o : Option Place)
            → IfSome o (λ p. (is_at_entry net s ≡ true)
            × IsTrue (allows (mask_in (strand_at net s) (strand_at net s).first) (number p)))
            → IfSome o (λ p. in_mask net
            (record { strand = s; layer = (strand_at net s).first; from = None; to = p })
            ≡ true)
        first_mask None h = tt
        first_mask (Some p) h = h.1

        first_entry : (o : Option Place)
            → IfSome o (λ p. (is_at_entry net s ≡ true)
            × IsTrue (allows (mask_in (strand_at net s) (strand_at net s).first) (number p)))
            → IfSome o (λ p. (strand_at net s).first ≡ 0)
        first_entry None h = tt
        first_entry (Some p) h = eqb-true (strand_at net s).first 0 h.0

    changed_path : (o : Option Place)
        → IfSome o (λ p. (is_at_exit net s ≡ true)
        × IsTrue (allows (mask_in (strand_at net s) (strand_at net s).last) (number p)))
        → IsPath net s (end_at o begun)
    changed_path None h = begun_path
    changed_path (Some p) h = record {
      long = let same = length-end (Some p) begun in let long = begun_path.long in
          omega (arith, same, long);
      masks = end_masks net s p (strand_at net s).last (λ a. h.1) (strand_at net s).first None begun
          begun_path.long begun_path.masks;
      across = end_stays net s p (strand_at net s).last (odd_exit h.0) (strand_at net s).first None
          begun begun_path.long begun_path.across;
    }

    some_layer : 0 < length begun
    some_layer = let long = begun_path.long in let order =
        (built.formed.strands s no_strand lt).order in omega (arith, long, order)

    -- whoever begins at an entry and ends at an exit has two layers at least
    first_kept : (a b : Option Place)
        → IfSome a (λ p. (is_at_entry net s ≡ true)
        × IsTrue (allows (mask_in (strand_at net s) (strand_at net s).first) (number p)))
        → IfSome b (λ p. (is_at_exit net s ≡ true)
        × IsTrue (allows (mask_in (strand_at net s) (strand_at net s).last) (number p)))
        → IfSome a (λ p. slice_get (end_at b (begin_at a ps)) 0 ≡ Some p)
    first_kept None b h k = tt
    first_kept (Some p) None h k = begins p ps (let same = length-begin ends.first ps in let some =
        some_layer in omega (arith, same, some))
    first_kept (Some p) (Some q) h k =
        let entry = eqb-true (strand_at net s).first 0 h.0 in
        let odd = odd_exit k.0 in
        let long = path.long in
        let same = length-begin (Some p) ps in
        first_stays (Some q) (begin_at (Some p) ps) (omega (arith, entry, odd, long, same))
        ∙ begins p ps (omega (arith, entry, odd, long))

    last_kept : (o : Option Place)
        → IfSome o (λ p. slice_get (end_at o begun) (length (end_at o begun) - 1) ≡ Some p)
    last_kept None = tt
    last_kept (Some q) = ends_with q begun some_layer

    pub anywhere_ends : (qs : List Place) × MayGo net ends Anywhere s qs
    anywhere_ends = (
      changed,
      record {
        path = changed_path ends.last may.last;
        has_ends = record {
          first = first_kept ends.first ends.last may.first may.last;
          last =
              last_kept ends.last;
        };
        is_clear = tt;
      },
    )

  -- ---- who is in a group is at an entry or an exit

  at_entry : (g : ℕ) → (strand_at net s).entry_group ≡ Some g → is_at_entry net s ≡ true
  at_entry g is = eq-eqb (strand_at net s).first 0
      (held (λ g. (g < net.groups) × ((strand_at net s).first ≡ 0)) (strand_at net s).entry_group g
      (built.groups s no_strand lt).entry is).1

  at_exit : (g : ℕ) → (strand_at net s).exit_group ≡ Some g → is_at_exit net s ≡ true
  at_exit g is = eq-eqb ((strand_at net s).last + 1)
      (get_or net.blocks (strand_at net s).block.0 no_block).layers
      (held (λ g. (g < net.groups)
      × ((strand_at net s).last + 1 ≡ (get_or net.blocks (strand_at net s).block.0
      no_block).layers)) (strand_at net s).exit_group g (built.groups s no_strand lt).exit
      is).1

  -- ends in a group at an open place
  pub open_ends : (plan : Plan) (g : ℕ) (p : Place) → IsOpen net plan g p
      → MayEnd net s (group_ends net g p s)
  open_ends plan g p open_ = record {
    first = first_of (strand_at net s).entry_group refl;
    last = last_of (strand_at net s).exit_group refl;
  }
    where
      first_of : (o : Option ℕ) → (strand_at net s).entry_group ≡ o
          → IfSome (cond (is_group g o) (Some p) None) (λ p. (is_at_entry net s ≡ true)
          × IsTrue (allows (mask_in (strand_at net s) (strand_at net s).first) (number p)))
      first_of None is = tt
      first_of (Some h) is = elim (cases_Bool (eqb h g))
          as (λ _. IfSome (cond (eqb h g) (Some p) None) (λ p. (is_at_entry net s ≡ true)
          × IsTrue (allows (mask_in (strand_at net s) (strand_at net s).first) (number p)))) [
            | inl same ↦ subst (λ b. IfSome (cond b (Some p) None) (λ p. (is_at_entry net s ≡ true)
                × IsTrue (allows (mask_in (strand_at net s) (strand_at net s).first) (number p))))
                (sym same) (
                  at_entry h is,
                  open_.mask s (strand_at net s).first lt
                      (entry (is ∙ ap Some (eqb-true h g same))),
                )
            | inr other ↦ subst (λ b. IfSome (cond b (Some p) None) (λ p. (is_at_entry net s ≡ true)
                × IsTrue (allows (mask_in (strand_at net s) (strand_at net s).first) (number p))))
                (sym other) tt
          ]

      last_of : (o : Option ℕ) → (strand_at net s).exit_group ≡ o
          → IfSome (cond (is_group g o) (Some p) None) (λ p. (is_at_exit net s ≡ true)
          × IsTrue (allows (mask_in (strand_at net s) (strand_at net s).last) (number p)))
      last_of None is = tt
      last_of (Some h) is = elim (cases_Bool (eqb h g))
          as (λ _. IfSome (cond (eqb h g) (Some p) None) (λ p. (is_at_exit net s ≡ true)
          × IsTrue (allows (mask_in (strand_at net s) (strand_at net s).last) (number p)))) [
            | inl same ↦ subst (λ b. IfSome (cond b (Some p) None) (λ p. (is_at_exit net s ≡ true)
                × IsTrue (allows (mask_in (strand_at net s) (strand_at net s).last) (number p))))
                (sym same) (
                  at_exit h is,
                  open_.mask s (strand_at net s).last lt
                      (exit (is ∙ ap Some (eqb-true h g same))),
                )
            | inr other ↦ subst (λ b. IfSome (cond b (Some p) None) (λ p. (is_at_exit net s ≡ true)
                × IsTrue (allows (mask_in (strand_at net s) (strand_at net s).last) (number p))))
                (sym other) tt
          ]

  -- and the ends that a plan of open places gives
  pub planned_ends : (plan : Plan) → ((g : ℕ) (p : Place) → slice_get plan.places g ≡ Some p
      → IsOpen net plan g p) → MayEnd net s (plan_ends net plan s)
  planned_ends plan opens = record {
    first = first_of (strand_at net s).entry_group refl;
    last = last_of (strand_at net s).exit_group refl;
  }
    where
      first_at : (g : ℕ) → (strand_at net s).entry_group ≡ Some g → (o : Option Place)
          → slice_get plan.places g ≡ o
          → IfSome o (λ p. (is_at_entry net s ≡ true)
          × IsTrue (allows (mask_in (strand_at net s) (strand_at net s).first) (number p)))
      first_at g is None none = tt
      first_at g is (Some p) some = (
        at_entry g is,
        (opens g p some).mask s (strand_at net s).first
            lt (entry is),
      )

      first_of : (o : Option ℕ) → (strand_at net s).entry_group ≡ o
          → IfSome (planned plan o) (λ p. (is_at_entry net s ≡ true)
          × IsTrue (allows (mask_in (strand_at net s) (strand_at net s).first) (number p)))
      first_of None is = tt
      first_of (Some g) is = first_at g is (slice_get plan.places g) refl

      last_at : (g : ℕ) → (strand_at net s).exit_group ≡ Some g → (o : Option Place)
          → slice_get plan.places g ≡ o
          → IfSome o (λ p. (is_at_exit net s ≡ true)
          × IsTrue (allows (mask_in (strand_at net s) (strand_at net s).last) (number p)))
      last_at g is None none = tt
      last_at g is (Some p) some = (
        at_exit g is,
        (opens g p some).mask s (strand_at net s).last lt
            (exit is),
      )

      last_of : (o : Option ℕ) → (strand_at net s).exit_group ≡ o
          → IfSome (planned plan o) (λ p. (is_at_exit net s ≡ true)
          × IsTrue (allows (mask_in (strand_at net s) (strand_at net s).last) (number p)))
      last_of None is = tt
      last_of (Some g) is = last_at g is (slice_get plan.places g) refl

-- memory is open to every group
pub memory_open : (net : Net) → IsBuilt net → (plan : Plan) (g : ℕ) → IsOpen net plan g Mem
memory_open net built plan g = record {
  mask = λ s l lt end. by s lt l end;
  free = λ s l h r k q _ _ _ _ _ _ _. refl;
}
  where
    by : (s : ℕ) (lt : s < length net.strands) (l : ℕ) → IsEnd net g s l
        → IsTrue (allows (mask_in (strand_at net s) l) (number Mem))
    by s lt l (entry is) = held
        (λ g. IsTrue (allows (mask_in (strand_at net s) (strand_at net s).first) (number Mem)))
        (strand_at net s).entry_group g (built.groups s no_strand lt).entry_memory is
    by s lt l (exit is) = held
        (λ g. IsTrue (allows (mask_in (strand_at net s) (strand_at net s).last) (number Mem)))
        (strand_at net s).exit_group g (built.groups s no_strand lt).exit_memory is
