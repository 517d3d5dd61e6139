-- Where the instructions of reduced code come from, and what is needed there.
use Rattle.std.proofs.Common.{◌≡◌, ◌≢◌, ℕ, zero, suc, ◌+◌, ◌≤◌, inl, ⊎_elim, true, false, List, []}
use Rattle.std.proofs.Common.{◌∷◌, drop, slice_get, Option, Some, None, refl, sym, ap, subst, ◌∙◌}
use Rattle.std.proofs.Common.{arith}
use Rattle.std.proofs.lemmas.Bool.{cases_eq}
use Rattle.pra_base.proofs.Roles.{writes_among, among_reads}
use Rattle.pra_list.proofs.Elements.{nothing_left, left_begins}
use Rattle.pra_list.proofs.Truths.{true_false, false_from}
use Rattle.pra_list.proofs.Options.{some_same, not_both}
use Rattle.pra_base.specs.declared.code.VInstr.{VInstr}
use Rattle.pra_base.specs.declared.code.VInstr.TheVariants as instr
use Rattle.pra_base.specs.declared.code.VProc.{VProc}
use Rattle.pra_base.specs.Code.{kind_of, code_of, instr_at, IsTarget}
use Rattle.pra_base.specs.Operands.{reads, writes}
use Rattle.pra_base.specs.Live.{Point, Path, ReadBeforeWritten, passes, reads_at, writes_at}
use Rattle.pra_base.specs.Live as live
use Rattle.pra_base.specs.Live.Goes.{over, leaves}
use Rattle.pra_base.specs.Live.Path.{stays as at_once, then as then_on}
use Rattle.vc_same.specs.Renaming.{Names, renamed}
use Rattle.vc_same.specs.Reduction.{Needed, StandsFor, Stays, LeftOut, Part, Reduced}
use Rattle.vc_same.specs.Reduction.LeftOut.{dead, copied}
use Rattle.vc_same.specs.Reduction.Part.{ends, stays, left_out}
use Rattle.vc_same.proofs.Renamed.{reads_from, writes_renamed}
use Rattle.vc_same.proofs.Paths.{needed_read, needed_over, needed_leave}

module _ (to : Names) (old new : VProc) (b : ℕ) where
  -- The new instruction n of a part comes from one of the old part, no earlier there.
  pub record Origin (k j : ℕ) (xs ys : List VInstr) (n : ℕ) (y : VInstr) : Type 0 where
    pub at : ℕ
    pub instr : VInstr
    pub is : slice_get xs at ≡ Some instr
    pub later : n ≤ at
    pub place : ℕ
    pub place_is : place ≡ k + at
    pub there : ℕ
    pub there_is : there ≡ j + n
    pub stays : Stays to old new b place instr y
    pub rest : Part to old new b (suc place) (suc there) (drop (suc at) xs) (drop (suc n) ys)

  pub origin : (k j : ℕ) (xs ys : List VInstr) (n : ℕ) (y : VInstr) → Part to old new b k j xs ys →
      slice_get ys n ≡ Some y → Origin k j xs ys n y
  origin k j [] [] n y ends e = absurd (not_both None y refl e)
  origin k j [] (z ∷ ys) n y part e = elim part [ ]
  origin k j (x ∷ xs) (z ∷ ys) zero y (stays st rest) e = record {
    at = 0;
    instr = x;
    is = refl;
    later = omega arith;
    place = k;
    place_is = omega arith;
    there = j;
    there_is = omega arith;
    stays = subst (λ w. Stays to old new b k x w) (some_same z y e) st;
    rest = rest;
  }
  origin k j (x ∷ xs) (z ∷ ys) (suc n) y (stays st rest) e =
      let r = origin (suc k) (suc j) xs ys n y rest e in
      let later : n ≤ r.at = r.later in
      let place : r.place ≡ suc k + r.at = r.place_is in
      let there : r.there ≡ suc j + n = r.there_is in
      record {
        at = suc r.at;
        instr = r.instr;
        is = r.is;
        later = omega (arith, later);
        place =
            r.place;
        place_is = omega (arith, place);
        there = r.there;
        there_is =
            omega (arith, there);
        stays = r.stays;
        rest = r.rest;
      }
  origin k j (x ∷ xs) ys n y (left_out out rest) e =
      let r = origin (suc k) j xs ys n y rest e in
      let later : n ≤ r.at = r.later in
      let place : r.place ≡ suc k + r.at = r.place_is in
      record {
        at = suc r.at;
        instr = r.instr;
        is = r.is;
        later = omega (arith, later);
        place =
            r.place;
        place_is = omega (arith, place);
        there = r.there;
        there_is = r.there_is;
        stays =
            r.stays;
        rest = r.rest;
      }

  -- ---- what is needed

  -- a variable that may have this new name, and has it, is needed in the old code
  pub record Found (k v : ℕ) : Type 0 where
    pub name : ℕ
    pub is : to name ≡ v
    pub kind : StandsFor (kind_of new v) (kind_of old name)
    pub needed : Needed old b k name

  -- over an instruction that is left out
  pub found_out : (k j v : ℕ) (x : VInstr) → instr_at old b k ≡ Some x → LeftOut to old new b j x →
      Needed new b j v → Found (suc k) v → Found k v
  found_out k j v x is (dead pure unneeded) needed f =
      let free : writes x f.name ≡ false = false_from (writes x f.name)
      (λ e. unneeded f.name e (subst (λ u. Needed new b j u) (sym f.is) needed)) in
      record {
        name = f.name;
        is = f.is;
        kind = f.kind;
        needed =
            needed_over old b k f.name x is free f.needed;
      }
  found_out k j v x is (copied {t = t} {s = s} same names stands) needed f =
      let is_copy : instr_at old b k ≡ Some (instr.Copy t s) = is ∙ ap Some same in
      ⊎_elim
      (λ (e : f.name ≡ t.0). record {
        name = s.0;
        is = sym names ∙ sym (ap to e) ∙ f.is;
        kind = subst (λ u. StandsFor (kind_of new u) (kind_of old s.0))
            (sym names ∙ sym (ap to e) ∙ f.is) stands;
        needed = needed_read old b k s.0 (instr.Copy t s) is_copy
            (among_reads (instr.Copy t s) s.0 (inl refl));
      })
      (λ (other : f.name ≢ t.0).
      let free : writes (instr.Copy t s) f.name ≡ false =
      false_from (writes (instr.Copy t s) f.name)
      (λ e. ⊎_elim (λ (q : f.name ≡ t.0). other q) (λ (none : ⊥). none)
      (writes_among (instr.Copy t s) f.name e)) in
      record {
        name = f.name;
        is = f.is;
        kind = f.kind;
        needed =
            needed_over old b k f.name (instr.Copy t s) is_copy free f.needed;
      })
      (cases_eq f.name t.0)

  -- to the next instruction that stays, or to the end
  skip : (k j v : ℕ) (xs ys : List VInstr) → Part to old new b k j xs ys → drop k (code_of old b) ≡
      xs → Needed new b j v →
      ((l : ℕ) → drop l (code_of old b) ≡ [] → ys ≡ [] → Found l v) →
      ((l : ℕ) (x y : VInstr) (us vs : List VInstr) → drop l (code_of old b) ≡ x ∷ us →
      ys ≡ y ∷ vs → Stays to old new b l x y → Part to old new b (suc l) (suc j) us vs →
      Found l v) →
      Found k v
  skip k j v [] [] ends e needed at_end at_head = at_end k e refl
  skip k j v [] (y ∷ ys) part e needed at_end at_head = elim part [ ]
  skip k j v (x ∷ xs) (y ∷ ys) (stays st rest) e needed at_end at_head =
      at_head k x y xs ys e refl st rest
  skip k j v (x ∷ xs) ys (left_out out rest) e needed at_end at_head =
      let here = left_begins (code_of old b) xs k x e in
      found_out k j v x here.0 out needed (skip (suc k) j v xs ys rest here.1 needed at_end at_head)

pub reads_here : (code : VProc) (v : ℕ) (p : Point) → reads_at code v p ≡ true → (i : VInstr) ×
    (live.instr code p ≡ Some i) × (reads i v ≡ true)
reads_here code v p read = go (live.instr code p) refl read
  where
    go : (o : Option VInstr) → live.instr code p ≡ o → passes (λ j. reads j v) o ≡ true →
        (i : VInstr) × (live.instr code p ≡ Some i) × (reads i v ≡ true)
    go None is read = cc
    go (Some i) is read = (i, is, read)

module _ (to : Names) (old new : VProc) (reduced : Reduced to old new) where
  -- what is needed in the new code is needed, under an old name, in the old code
  found : (v : ℕ) (p q : Point) → Path new v p q → reads_at new v q ≡ true →
      (k : ℕ) (xs ys : List VInstr) → Part to old new p.block k p.index xs ys →
      drop k (code_of old p.block) ≡ xs → drop p.index (code_of new p.block) ≡ ys →
      Found to old new p.block k v
  found v p q at_once read k xs ys part e f =
      let here = reads_here new v p read in
      skip to old new p.block k p.index v xs ys part e
      (record { to = p; path = at_once; read = read })
      (λ l g none. absurd (not_both _ here.0 (nothing_left (code_of new p.block) p.index (f ∙ none))
      here.1))
      (λ l x y us vs g h st rest.
      let y_is : y ≡ here.0 = some_same y here.0
      (sym (left_begins (code_of new p.block) vs p.index y (f ∙ h)).0 ∙ here.1) in
      let from = reads_from to x v (subst (λ z. reads z v ≡ true) (sym y_is ∙ st.is) here.2) in
      record {
        name = from.0;
        is = sym from.2;
        kind = subst (λ u. StandsFor (kind_of new u) (kind_of old from.0)) (sym from.2)
            (st.kinds from.0 (inl from.1));
        needed = needed_read old p.block l from.0 x (left_begins (code_of old p.block) us l x g).0
            from.1;
      })
  found v p q (then_on write (over {i = i} here) more) read k xs ys part e f =
      skip to old new p.block k p.index v xs ys part e
      (record { to = q; path = then_on write (over here) more; read = read })
      (λ l g none. absurd (not_both _ i (nothing_left (code_of new p.block) p.index (f ∙ none))
      here))
      (λ l x y us vs g h st rest.
      let begins = left_begins (code_of new p.block) vs p.index y (f ∙ h) in
      let y_is : y ≡ i = some_same y i (sym begins.0 ∙ here) in
      let old_begins = left_begins (code_of old p.block) us l x g in
      let next = found v (record { block = p.block; index = suc p.index }) q more read (suc l) us vs
      rest old_begins.1 begins.1 in
      let free : writes x next.name ≡ false = false_from (writes x next.name) (λ wr.
      let there : writes i v ≡ true = subst (λ z. writes z v ≡ true) (sym st.is ∙ y_is)
      (subst (λ u. writes (renamed to x) u ≡ true) next.is (writes_renamed to x next.name wr))
      in
      true_false (writes i v) there (sym (ap (passes (λ j. writes j v)) here) ∙ write)) in
      record {
        name = next.name;
        is = next.is;
        kind = next.kind;
        needed =
            needed_over old p.block l next.name x old_begins.0 free next.needed;
      })
  found v p q (then_on write (leaves {b = t} here target) more) read k xs ys part e f =
      skip to old new p.block k p.index v xs ys part e
      (record { to = q; path = then_on write (leaves here target) more; read = read })
      (λ l g none.
      let next = found v (record { block = t; index = 0 }) q more read 0 (code_of old t)
      (code_of new t) (reduced.code t) refl refl in
      record {
        name = next.name;
        is = next.is;
        kind = next.kind;
        needed =
            needed_leave old p.block l t next.name (nothing_left (code_of old p.block) l g)
            (subst (λ z. IsTarget z t) (reduced.ends p.block) target) next.needed;
      })
      (λ l x y us vs g h st rest.
      absurd (not_both _ y here (left_begins (code_of new p.block) vs p.index y (f ∙ h)).0))

  pub needed_from : (b k j v : ℕ) → Part to old new b k j (drop k (code_of old b))
      (drop j (code_of new b)) → Needed new b j v → Found to old new b k v
  needed_from b k j v part needed = found v (record { block = b; index = j }) needed.to needed.path
      needed.read k (drop k (code_of old b)) (drop j (code_of new b)) part refl refl
