-- Reduced code of valid code is valid, and of sized code is sized.
use Rattle.std.proofs.Common.{◌≡◌, ℕ, zero, suc, ◌+◌, ◌*◌, ◌/◌, ◌-◌, ◌<◌, ◌≤◌, inl, inr, Bool, true}
use Rattle.std.proofs.Common.{false, ◌||◌, nat_eq, List, [], ◌∷◌, drop, length, slice_get, Some}
use Rattle.std.proofs.Common.{refl, sym, ap, subst, ◌∙◌, arith}
use Rattle.std.specs.List.{list_any}
use Rattle.std.proofs.lemmas.List.Sums.{sum_by-cons}
use Rattle.std.proofs.lemmas.Bool.Decides.{nat_tests}
use Rattle.pra_base.proofs.Roles.{among_reads, among_writes}
use Rattle.pra_list.proofs.Truths.{true_false, false_from}
use Rattle.pra_list.proofs.Options.{some_same, not_both}
use Rattle.pra_base.specs.declared.ids.VarId.{VarId}
use Rattle.pra_base.specs.declared.code.VarKind.{VarKind}
use Rattle.pra_base.specs.declared.code.VarKind.TheVariants.{Param, Plain, Constant}
use Rattle.pra_base.specs.declared.code.VInstr.{VInstr}
use Rattle.pra_base.specs.declared.code.VInstr.TheVariants as instr
use Rattle.pra_base.specs.declared.code.Block.{Block}
use Rattle.pra_base.specs.declared.code.VProc.{VProc}
use Rattle.pra_base.specs.Code.{kind_of, block_in, block_of, code_of, instr_at, IsTarget}
use Rattle.pra_base.specs.Operands.{reads, writes, only_writes}
use Rattle.pra_base.specs.Live.{Live, LiveAs, ReadBeforeWritten, passes, reads_at}
use Rattle.pra_base.specs.Valid as valid
use Rattle.pra_base.specs.Valid.{EndsWithCmp, PushesLead, PushesBeforeCalls, TakesAny, TakesArgs}
use Rattle.pra_base.specs.Valid.{IsValid, IsSized, instruction_count}
use Rattle.vc_code.specs.Machine.{is_param}
use Rattle.vc_same.specs.Pure.{is_pure}
use Rattle.vc_same.specs.Renaming.{Names, var, renamed}
use Rattle.vc_same.specs.Reduction.{Needed, StandsFor, overwrites, LeftOut, Part, Reduced}
use Rattle.vc_same.specs.Reduction.{ParamsApart}
use Rattle.vc_same.specs.Reduction.LeftOut.{dead, copied}
use Rattle.vc_same.specs.Reduction.Part.{ends, stays, left_out}
use Rattle.vc_same.proofs.Renamed.{reads_from, writes_from, only_writes_from}
use Rattle.vc_same.proofs.Forms.{from_check, from_copy, from_division, from_clear, cell_renamed}
use Rattle.vc_same.proofs.Forms.{from_shift, lead_renamed, lead_pure}
use Rattle.vc_same.specs.SameRuns.{Preserves}
use Rattle.vc_same.proofs.Carried.{same_runs, runs_on, runs_itself}
use Rattle.vc_same.proofs.Kept.{Origin, origin, needed_from, reads_here}
use Rattle.vc_same.proofs.OtherKinds.{stands_constant, stands_live, overwrites_dividend}

-- ---- parameters

has_param : (vars : List VarKind) (v i : ℕ) → slice_get vars v ≡ Some (Param i) →
    list_any (is_param i) vars ≡ true
has_param [] v i e = absurd (not_both _ _ refl e)
has_param (k ∷ vars) zero i e =
    first (is_param i k) (ap (is_param i) (some_same k (Param i) e) ∙ same_number i)
  where
    same_number : (i : ℕ) → nat_eq i i ≡ true
    same_number i = grind (arith, nat_tests)

    first : (b : Bool) → b ≡ true → (b || list_any (is_param i) vars) ≡ true
    first true e = refl
    first false e = cc
has_param (k ∷ vars) (suc v) i e = later (is_param i k) (has_param vars v i e)
  where
    later : (b : Bool) → list_any (is_param i) vars ≡ true → (b || list_any (is_param i) vars) ≡
        true
    later true e = refl
    later false e = e

the_param : (vars : List VarKind) (i : ℕ) → list_any (is_param i) vars ≡ true → (v : ℕ) ×
    (slice_get vars v ≡ Some (Param i))
the_param [] i e = cc
the_param (k ∷ vars) i e = by k (λ f. the_param vars i f) e
  where
    here : (j : ℕ) (b : Bool) → nat_eq j i ≡ b → (b ≡ true → j ≡ i)
    here j b e f = grind (arith, nat_tests)

    choose : (j : ℕ) (b : Bool) → nat_eq j i ≡ b →
        (list_any (is_param i) vars ≡ true → (v : ℕ) × (slice_get vars v ≡ Some (Param i))) →
        (b || list_any (is_param i) vars) ≡ true → (v : ℕ) ×
        (slice_get (Param j ∷ vars) v ≡ Some (Param i))
    choose j true e more f = (0, ap (λ n. Some (Param n)) (here j true e refl))
    choose j false e more f = let r = more f in (suc r.0, r.1)

    by : (k : VarKind) → (list_any (is_param i) vars ≡ true → (v : ℕ) ×
        (slice_get vars v ≡ Some (Param i))) → (is_param i k || list_any (is_param i) vars) ≡ true →
        (v : ℕ) × (slice_get (k ∷ vars) v ≡ Some (Param i))
    by (Param j) more f = choose j (nat_eq j i) refl more f
    by Plain more f = let r = more f in (suc r.0, r.1)
    by (Constant n) more f = let r = more f in (suc r.0, r.1)

-- ---- a list of instructions

module _ (to : Names) (old new : VProc) (b : ℕ) where
  part_shorter : {k j : ℕ} {xs ys : List VInstr} → Part to old new b k j xs ys → length ys ≤
      length xs
  part_shorter ends = omega arith
  part_shorter (stays {xs = xs} {ys = ys} st rest) = let l : length ys ≤ length xs =
      part_shorter rest in omega (arith, l)
  part_shorter (left_out {xs = xs} {ys = ys} out rest) = let l : length ys ≤ length xs =
      part_shorter rest in omega (arith, l)

  out_pure : (j : ℕ) (x : VInstr) → LeftOut to old new b j x → is_pure x ≡ true
  out_pure j x (dead pure unneeded) = pure
  out_pure j x (copied same names stands) = ap is_pure same

  leads : (T : ℕ → ℕ → Type 0) (k j n : ℕ) (xs ys : List VInstr) → Part to old new b k j xs ys →
      PushesLead T n xs → PushesLead T n ys
  leads T k j n [] [] ends lead = lead
  leads T k j n [] (y ∷ ys) part lead = elim part [ ]
  leads T k j n (x ∷ xs) (y ∷ ys) (stays st rest) lead = subst (λ z. PushesLead T n (z ∷ ys))
      (sym st.is) (lead_renamed to T n x xs ys (λ m. leads T (suc k) (suc j) m xs ys rest) lead)
  leads T k j n (x ∷ xs) ys (left_out out rest) lead =
      let p = lead_pure T n x xs (out_pure j x out) lead in
      leads T (suc k) j n xs ys rest (subst (λ m. PushesLead T m xs) (sym p.0) p.1)

  -- the last instruction compares
  abbrev LastCompares : List VInstr → Type 0
  LastCompares [] = ⊥
  LastCompares (x ∷ []) = (a c : VarId) × (x ≡ instr.Cmp a c)
  LastCompares (x ∷ y ∷ ys) = LastCompares (y ∷ ys)

  last_from : (xs : List VInstr) → EndsWithCmp xs → LastCompares xs
  last_from [] e = absurd (not_both _ _ refl e.2)
  last_from (x ∷ []) e = (e.0, e.1, some_same x (instr.Cmp e.0 e.1) e.2)
  last_from (x ∷ y ∷ ys) e =
      last_from (y ∷ ys) (
        e.0,
        e.1,
        subst (λ n. slice_get (x ∷ y ∷ ys) n ≡ Some (instr.Cmp e.0 e.1))
            (place (length ys)) e.2,
      )
    where
      place : (n : ℕ) → suc (suc n) - 1 ≡ suc (suc n - 1)
      place n = omega arith

  last_to : (xs : List VInstr) → LastCompares xs → EndsWithCmp xs
  last_to [] e = absurd e
  last_to (x ∷ []) e = (e.0, e.1, ap Some e.2)
  last_to (x ∷ y ∷ ys) e = let r = last_to (y ∷ ys) e in (
    r.0,
    r.1,
    subst (λ n. slice_get (x ∷ y ∷ ys) n ≡ Some (instr.Cmp r.0 r.1))
        (place (length ys)) r.2,
  )
    where
      place : (n : ℕ) → suc (suc n - 1) ≡ suc (suc n) - 1
      place n = omega arith

  only_cmp : (to : Names) (a c : VarId) (x : VInstr) → x ≡ instr.Cmp a c → renamed to x ≡
      instr.Cmp (var to a) (var to c)
  only_cmp to a c x e = ap (renamed to) e

  not_pure : (a c : VarId) (x : VInstr) → x ≡ instr.Cmp a c → is_pure x ≡ true → ⊥
  not_pure a c x e f = true_false (is_pure x) f (ap is_pure e)

  last_kept : (k j : ℕ) (xs ys : List VInstr) → Part to old new b k j xs ys → LastCompares xs →
      LastCompares ys
  last_kept k j [] ys part last = absurd last
  last_kept k j (x ∷ []) [] (left_out out rest) last =
      absurd (not_pure last.0 last.1 x last.2 (out_pure j x out))
  last_kept k j (x ∷ []) (y ∷ []) (stays st rest) last =
      (var to last.0, var to last.1, st.is ∙ only_cmp to last.0 last.1 x last.2)
  last_kept k j (x ∷ []) (y ∷ []) (left_out out rest) last =
      absurd (not_pure last.0 last.1 x last.2 (out_pure j x out))
  last_kept k j (x ∷ []) (y ∷ z ∷ ys) (stays st rest) last = elim rest [ ]
  last_kept k j (x ∷ []) (y ∷ z ∷ ys) (left_out out rest) last = elim rest [ ]
  last_kept k j (x ∷ u ∷ us) [] (left_out out rest) last = last_kept (suc k) j (u ∷ us) [] rest last
  last_kept k j (x ∷ u ∷ us) (y ∷ []) (stays st rest) last =
      absurd (last_kept (suc k) (suc j) (u ∷ us) [] rest last)
  last_kept k j (x ∷ u ∷ us) (y ∷ []) (left_out out rest) last = last_kept (suc k) j (u ∷ us)
      (y ∷ []) rest last
  last_kept k j (x ∷ u ∷ us) (y ∷ z ∷ zs) (stays st rest) last = last_kept (suc k) (suc j) (u ∷ us)
      (z ∷ zs) rest last
  last_kept k j (x ∷ u ∷ us) (y ∷ z ∷ zs) (left_out out rest) last = last_kept (suc k) j (u ∷ us)
      (y ∷ z ∷ zs) rest last

  clear_stays : (k j : ℕ) (x : VInstr) (xs ys : List VInstr) → x ≡ instr.Clear →
      Part to old new b k j (x ∷ xs) ys → slice_get ys 0 ≡ Some instr.Clear
  clear_stays k j x xs [] e (left_out out rest) =
      absurd (true_false (is_pure x) (out_pure j x out) (ap is_pure e))
  clear_stays k j x xs (y ∷ ys) e (stays st rest) = ap Some (st.is ∙ ap (renamed to) e)
  clear_stays k j x xs (y ∷ ys) e (left_out out rest) =
      absurd (true_false (is_pure x) (out_pure j x out) (ap is_pure e))

pub fewer_in : (xs ys : List Block) → length ys ≡ length xs →
    ((b : ℕ) → length (block_in ys b).code ≤ length (block_in xs b).code) → instruction_count ys ≤
    instruction_count xs
fewer_in [] [] l f = omega arith
fewer_in [] (y ∷ ys) l f = absurd (omega (arith, l))
fewer_in (x ∷ xs) [] l f = absurd (omega (arith, l))
fewer_in (x ∷ xs) (y ∷ ys) l f =
    let more : instruction_count ys ≤ instruction_count xs = fewer_in xs ys (omega (arith, l))
    (λ b. f (suc b)) in
    let one : length y.code ≤ length x.code = f 0 in
    let left : instruction_count (x ∷ xs) ≡ length x.code + instruction_count xs =
    sum_by-cons (λ (c : Block). length c.code) x xs in
    let right : instruction_count (y ∷ ys) ≡ length y.code + instruction_count ys =
    sum_by-cons (λ (c : Block). length c.code) y ys in
    omega (arith, more, one, left, right)

-- ---- code

module _ (to : Names) (old new : VProc) (r : Reduced to old new) where
  -- where an instruction of the new code comes from
  from : (b j : ℕ) (y : VInstr) → instr_at new b j ≡ Some y →
      Origin to old new b 0 0 (code_of old b) (code_of new b) j y
  from b j y is = origin to old new b 0 0 (code_of old b) (code_of new b) j y (r.code b) is

  -- its place in the old code, and what follows it in both
  from_is : (b j : ℕ) (y : VInstr) (is : instr_at new b j ≡ Some y) → let o = from b j y is in
      instr_at old b o.place ≡ Some o.instr
  from_is b j y is = let o = from b j y is in let place : o.place ≡ 0 + o.at = o.place_is in
      let same : o.place ≡ o.at = omega (arith, place) in
      subst (λ k. instr_at old b k ≡ Some o.instr) (sym same) o.is

  rest_is : (b j : ℕ) (y : VInstr) (is : instr_at new b j ≡ Some y) → let o = from b j y is in
      Part to old new b (suc o.place) (suc j) (drop (suc o.place) (code_of old b))
      (drop (suc j) (code_of new b))
  rest_is b j y is =
      let o = from b j y is in
      let place : o.place ≡ 0 + o.at = o.place_is in
      let there : o.there ≡ 0 + j = o.there_is in
      let at_place : o.at ≡ o.place = omega (arith, place) in
      let at_there : o.there ≡ j = omega (arith, there) in
      subst (λ k. Part to old new b (suc o.place) (suc j) (drop (suc k) (code_of old b))
      (drop (suc j) (code_of new b))) at_place
      (subst (λ l. Part to old new b (suc o.place) (suc l) (drop (suc o.at) (code_of old b))
      (drop (suc j) (code_of new b))) at_there o.rest)

  names_read : (i : VInstr) (v : ℕ) → reads i v ≡ true → valid.Names i v
  names_read i v e = inl e

  only_names : (i : VInstr) (v : ℕ) → only_writes i v ≡ true → valid.Names i v
  only_names i v e = inr (or_right _ (only_writes i v) e)
    where
      or_right : (a c : Bool) → c ≡ true → (a || c) ≡ true
      or_right true c e = refl
      or_right false c e = e

  pub new_roles_apart : valid.RolesApart old.blocks → valid.RolesApart new.blocks
  new_roles_apart apart b j y is v only =
      let o = from b j y is in
      let w = only_writes_from to o.instr v (subst (λ z. only_writes z v ≡ true) o.stays.is only) in
      false_from (reads y v) (λ read.
      let u = reads_from to o.instr v (subst (λ z. reads z v ≡ true) o.stays.is read) in
      let same : u.0 ≡ w.0 = o.stays.one_each w.0 u.0 (only_names o.instr w.0 w.1)
      (names_read o.instr u.0 u.1) (sym u.2 ∙ w.2) in
      true_false (reads o.instr w.0) (subst (λ z. reads o.instr z ≡ true) same u.1)
      (apart b o.place o.instr (from_is b j y is) w.0 w.1))

  pub new_live_at_entry : valid.LiveAtEntry old → valid.LiveAtEntry new
  new_live_at_entry at_entry v is_live = by (kind_of new v) refl is_live
    where
      live_as : (w : ℕ) (k : VarKind) → (k ≡ Plain) → kind_of old w ≡ k → Needed old 0 0 w →
          Live old w 0 0
      live_as w k plain e needed = subst (λ z. LiveAs z old w 0 0) (sym (e ∙ plain)) needed

      by : (k : VarKind) → kind_of new v ≡ k → LiveAs k new v 0 0 → (i : ℕ) ×
          (kind_of new v ≡ Param i)
      by (Param i) is l = (i, is)
      by (Constant n) is l = absurd (omega (arith, l.from))
      by Plain is l =
          let f = needed_from to old new r 0 0 0 v (r.code 0) l in
          let kept : kind_of new v ≡ kind_of old f.name = ap (λ u. kind_of new u) (sym f.is)
          ∙ r.entry f.name f.needed in
          let p = at_entry f.name (live_as f.name Plain refl (sym kept ∙ is) f.needed) in
          (p.0, kept ∙ p.1)

  -- an instruction of the new code that reads a variable behind place j reads it in the old code
  -- behind the same
  later_read : (b j : ℕ) (y : VInstr) (is : instr_at new b j ≡ Some y) (last v : ℕ) → j < last →
      reads_at new v (record { block = b; index = last }) ≡ true →
      let o = from b j y is in (k u : ℕ) × (x : VInstr) × (o.place < k) ×
      (instr_at old b k ≡ Some x) × (reads x u ≡ true) × (v ≡ to u)
  later_read b j y is last v lt read =
      let o = from b j y is in
      let z = reads_here new v (record { block = b; index = last }) read in
      let gap : suc j + (last - suc j) ≡ last = omega (arith, lt) in
      let there : slice_get (drop (suc j) (code_of new b)) (last - suc j) ≡ Some z.0 =
      get_drop (suc j) (last - suc j) (code_of new b) ∙ ap (λ n. instr_at new b n) gap ∙ z.1 in
      let q = origin to old new b (suc o.place) (suc j) (drop (suc o.place) (code_of old b))
      (drop (suc j) (code_of new b)) (last - suc j) z.0 (rest_is b j y is) there in
      let place : q.place ≡ suc o.place + q.at = q.place_is in
      let w = reads_from to q.instr v (subst (λ i. reads i v ≡ true) q.stays.is z.2) in (
        q.place,
        w.0,
        q.instr,
        omega (arith, place),
        ap (λ n. instr_at old b n) place
            ∙ sym (get_drop (suc o.place) q.at (code_of old b)) ∙ q.is,
        w.1,
        w.2,
      )
    where
      get_drop : (n k : ℕ) (xs : List VInstr) → slice_get (drop n xs) k ≡ slice_get xs (n + k)
      get_drop zero k xs = let e : k ≡ zero + k = omega arith in ap (λ l. slice_get xs l) e
      get_drop (suc n) k [] = refl
      get_drop (suc n) k (x ∷ xs) = get_drop n k xs
          ∙ (let e : suc (n + k) ≡ suc n + k = omega arith in ap (λ l. slice_get (x ∷ xs) l) e)

  dividend_dead : (b j k : ℕ) (q m a d : VarId) → instr_at old b k ≡ Some (instr.DivMod q m a d) →
      Part to old new b (suc k) (suc j) (drop (suc k) (code_of old b))
      (drop (suc j) (code_of new b)) →
      StandsFor (kind_of new (to a.0)) (kind_of old a.0) →
      ((w : ℕ) → Needed old b (suc k) w → to w ≡ to a.0 → w ≡ a.0) →
      ((last : ℕ) → j < last → reads_at new (to a.0) (record { block = b; index = last }) ≡ true →
      (l u : ℕ) × (x : VInstr) × (k < l) × (instr_at old b l ≡ Some x) × (reads x u ≡ true) ×
      (to a.0 ≡ to u)) →
      (Live old a.0 b (2 * k + 2) → ⊥) → Live new (to a.0) b (2 * j + 2) → ⊥
  dividend_dead b j k q m a d is rest stands apart later dead_before is_live =
      by (kind_of old a.0) refl
      (stands_live (kind_of new (to a.0)) (kind_of old a.0) new (to a.0) b (2 * j + 2) stands
      is_live)
    where
      behind : (n : ℕ) → (2 * n + 2) / 2 ≡ suc n
      behind n = omega arith

      as_kind : (z : VarKind) → kind_of old a.0 ≡ z → LiveAs z old a.0 b (2 * k + 2) → ⊥
      as_kind z e l = dead_before (subst (λ y. LiveAs y old a.0 b (2 * k + 2)) (sym e) l)

      needed_too : ReadBeforeWritten new (to a.0) (record { block = b; index = (2 * j + 2) / 2 }) →
          ReadBeforeWritten old a.0 (record { block = b; index = (2 * k + 2) / 2 })
      needed_too l =
          let f = needed_from to old new r b (suc k) (suc j) (to a.0) rest
          (subst (λ n. Needed new b n (to a.0)) (behind j) l) in
          subst (λ n. Needed old b n a.0) (sym (behind k))
          (subst (λ w. Needed old b (suc k) w) (apart f.name f.needed f.is) f.needed)

      by : (z : VarKind) → kind_of old a.0 ≡ z → LiveAs z new (to a.0) b (2 * j + 2) → ⊥
      by (Param i) e l = as_kind (Param i) e (needed_too l)
      by Plain e l = as_kind Plain e (needed_too l)
      by (Constant n) e l =
          let last_behind : 2 * j + 2 ≤ 2 * l.last + 1 = l.to in
          let x = later l.last (omega (arith, last_behind)) l.reads_last in
          let same : x.1 ≡ a.0 = r.constants a.0 x.1 n e (
            b,
            k,
            instr.DivMod q m a d,
            is,
            inl (among_reads (instr.DivMod q m a d) a.0 (inl refl)),
          ) (b, x.0, x.2, x.4, inl x.5)
          (sym x.6) in
          let further : k < x.0 = x.3 in
          as_kind (Constant n) e (record {
            first = k;
            last = x.0;
            reads_first = ap (passes (λ i. reads i a.0)) is ∙ among_reads (instr.DivMod q m a d) a.0
                (inl refl);
            reads_last = ap (passes (λ i. reads i a.0)) x.4 ∙ subst (λ u. reads x.2 u ≡ true) same
                x.5;
            from = omega arith;
            to = omega (arith, further);
          })

  pub new_division_apart : valid.DivisionApart old → valid.DivisionApart new
  new_division_apart apart b j q' r' a' d' is =
      let o = from b j (instr.DivMod q' r' a' d') is in
      let f = from_division to o.instr q' r' a' d' (sym o.stays.is) in
      let q = f.0 in
      let r = f.1 in
      let a = f.2 in
      let d = f.3 in
      let was : instr_at old b o.place ≡ Some (instr.DivMod q r a d) =
      from_is b j (instr.DivMod q' r' a' d') is ∙ ap Some f.4 in
      let old_apart = apart b o.place q r a d was in
      let named : (v w : VarId) → valid.Names (instr.DivMod q r a d) v.0 →
      valid.Names (instr.DivMod q r a d) w.0 → var to v ≡ var to w → v ≡ w = λ v w nv nw e.
      let same : v.0 ≡ w.0 = o.stays.one_each w.0 v.0
      (subst (λ i. valid.Names i w.0) (sym f.4) nw) (subst (λ i. valid.Names i v.0) (sym f.4) nv)
      (ap (λ (x : VarId). x.0) e) in
      ap (λ n. record { 0 = n }) same in
      let nq : valid.Names (instr.DivMod q r a d) q.0 =
      inr (among_writes (instr.DivMod q r a d) q.0 (inl refl)) in
      let nr : valid.Names (instr.DivMod q r a d) r.0 =
      inr (among_writes (instr.DivMod q r a d) r.0 (inr (inl refl))) in
      let na : valid.Names (instr.DivMod q r a d) a.0 =
      inl (among_reads (instr.DivMod q r a d) a.0 (inl refl)) in
      let nd : valid.Names (instr.DivMod q r a d) d.0 =
      inl (among_reads (instr.DivMod q r a d) d.0 (inr (inl refl))) in
      record {
        q_r = λ e. old_apart.q_r (named q r nq nr (sym f.5 ∙ e ∙ f.6));
        q_a = λ e. old_apart.q_a (named q a nq na (sym f.5 ∙ e ∙ f.7));
        q_d = λ e. old_apart.q_d (named q d nq nd (sym f.5 ∙ e ∙ f.8));
        r_a = λ e. old_apart.r_a (named r a nr na (sym f.6 ∙ e ∙ f.7));
        r_d = λ e. old_apart.r_d (named r d nr nd (sym f.6 ∙ e ∙ f.8));
        a_d = λ e. old_apart.a_d (named a d na nd (sym f.7 ∙ e ∙ f.8));
        dead = λ l. dividend_dead b j o.place q r a d was
            (rest_is b j (instr.DivMod q' r' a' d') is)
            (o.stays.kinds a.0 (subst (λ i. valid.Names i a.0) (sym f.4) na))
            (λ w needed e. o.stays.apart a.0 w
            (subst (λ i. overwrites i a.0 ≡ true) (sym f.4) (overwrites_dividend q r a d)) needed e)
            (λ last lt read. later_read b j (instr.DivMod q' r' a' d') is last (to a.0) lt read)
            old_apart.dead (subst (λ (v : VarId). Live new v.0 b (2 * j + 2)) f.7 l);
      }

  pub new_constants_kept : valid.ConstantsKept old → valid.ConstantsKept new
  new_constants_kept kept v n kind b j y is =
      let o = from b j y is in
      let was = from_is b j y is in
      record {
        unwritten = false_from (writes y v) (λ e.
            let w = writes_from to o.instr v (subst (λ z. writes z v ≡ true) o.stays.is e) in
            let old_kind : kind_of old w.0 ≡ Constant n =
            stands_constant (kind_of new (to w.0)) (kind_of old w.0) n
            (o.stays.kinds w.0 (inr w.1)) (ap (λ u. kind_of new u) (sym w.2) ∙ kind) in
            true_false (writes o.instr w.0) w.1
            (kept w.0 n old_kind b o.place o.instr was).unwritten);
        uncopied = λ t s e same.
            let f = from_copy to o.instr t s (sym o.stays.is ∙ e) in
            let reads_it : reads o.instr f.1.0 ≡ true = subst (λ i. reads i f.1.0 ≡ true) (sym f.2)
            (among_reads (instr.Copy f.0 f.1) f.1.0 (inl refl)) in
            let source : to f.1.0 ≡ v = sym (ap (λ (x : VarId). x.0) f.4) ∙ same in
            let old_kind : kind_of old f.1.0 ≡ Constant n =
            stands_constant (kind_of new (to f.1.0)) (kind_of old f.1.0) n
            (o.stays.kinds f.1.0 (inl reads_it)) (ap (λ u. kind_of new u) source ∙ kind) in
            (kept f.1.0 n old_kind b o.place o.instr was).uncopied f.0 f.1 f.2 refl;
      }

  pub new_arguments_apart : ParamsApart new → valid.ArgumentsApart old.vars old.blocks →
      valid.ArgumentsApart new.vars new.blocks
  new_arguments_apart params apart = record {
    params = params;
    cells = λ b j y is v i names param.
        let o = from b j y is in
        let old_param = the_param old.vars i (sym (r.homes i) ∙ has_param new.vars v i param) in
        let old_names : valid.NamesCell o.instr i = sym (cell_renamed to o.instr)
        ∙ subst (λ z. valid.NamesCell z i) o.stays.is names in
        apart.cells b o.place o.instr (from_is b j y is) old_param.0 i old_names old_param.1;
  }

  pub pushes_lead : (T : ℕ → ℕ → Type 0) → PushesBeforeCalls T old.blocks →
      PushesBeforeCalls T new.blocks
  pushes_lead T pushes b = leads to old new b T 0 0 0 (code_of old b) (code_of new b) (r.code b)
      (pushes b)

  in_old : (b : ℕ) → b < length new.blocks → b < length old.blocks
  in_old b lt = let many : length new.blocks ≡ length old.blocks = r.count in
      omega (arith, lt, many)

  new_block_rules : valid.KeepsBlockRules old.aggregates old.blocks →
      valid.KeepsBlockRules new.aggregates new.blocks
  new_block_rules rules = record {
    last_return = record {
      there = let lt : 0 < length old.blocks = rules.last_return.there in
          let many : length new.blocks ≡ length old.blocks = r.count in omega (arith, lt, many);
      exactly = λ b lt. let was = rules.last_return.exactly b (in_old b lt) in (
        λ e. was.0 (sym (r.ends b) ∙ e) ∙ sym r.count,
        λ e. r.ends b ∙ was.1 (e ∙ r.count),
      );
    };
    cmp_before_branch = λ b c one other e.
        last_to to old new b (code_of new b)
        (last_kept to old new b 0 0 (code_of old b) (code_of new b) (r.code b)
        (last_from to old new b (code_of old b)
        (rules.cmp_before_branch b c one other (sym (r.ends b) ∙ e))));
    pushes_before_calls = pushes_lead TakesAny rules.pushes_before_calls;
    clear_first = λ b k. (
      λ e.
          let o = from b k instr.Clear e in
          let was = (rules.clear_first b o.place).0
          (from_is b k instr.Clear e ∙ ap Some (from_clear to o.instr (sym o.stays.is))) in
          let later : k ≤ o.at = o.later in
          let place : o.place ≡ 0 + o.at = o.place_is in
          let at_begin : o.place ≡ 0 = was.2 in
          (λ none. was.0 (sym r.aggregates ∙ none), was.1, omega (arith, later, place, at_begin)),
      λ e.
          let old_first : instr_at old 0 0 ≡ Some instr.Clear =
          (rules.clear_first 0 0).1 (λ none. e.0 (r.aggregates ∙ none), refl, refl) in
          let new_first : instr_at new 0 0 ≡ Some instr.Clear = first_stays (code_of old 0)
          (r.code 0) old_first in
          ap (λ c. instr_at new c k) e.1 ∙ ap (λ c. instr_at new 0 c) e.2 ∙ new_first,
    );
    check_range = λ b j y is v n e.
        let o = from b j y is in
        let f = from_check to o.instr v n (sym o.stays.is ∙ e) in
        rules.check_range b o.place o.instr (from_is b j y is) f.0 n f.1;
    shift_range = λ b j y is op v n e.
        let o = from b j y is in
        let f = from_shift to o.instr op v n (sym o.stays.is ∙ e) in
        rules.shift_range b o.place o.instr (from_is b j y is) op f.0 n f.1;
  }
    where
      first_stays : (xs : List VInstr) → Part to old new 0 0 0 xs (code_of new 0) → slice_get xs 0 ≡
          Some instr.Clear → instr_at new 0 0 ≡ Some instr.Clear
      first_stays [] part e = absurd (not_both _ _ refl e)
      first_stays (x ∷ xs) part e = clear_stays to old new 0 0 0 x xs (code_of new 0)
          (some_same x instr.Clear e) part

  pub is_valid : ParamsApart new → IsValid old → IsValid new
  is_valid params was = record {
    entry_block = record {
      there = let lt : 0 < length old.blocks = was.entry_block.there in
          let many : length new.blocks ≡ length old.blocks = r.count in omega (arith, lt, many);
      no_target = λ b lt target. was.entry_block.no_target b (in_old b lt)
          (subst (λ e. IsTarget e 0) (r.ends b) target);
    };
    block_rules = new_block_rules was.block_rules;
    roles_apart = new_roles_apart was.roles_apart;
    division_apart = new_division_apart was.division_apart;
    constants_kept = new_constants_kept was.constants_kept;
    live_at_entry = new_live_at_entry was.live_at_entry;
    arguments_apart = new_arguments_apart params was.arguments_apart;
  }

  names_from : (i : VInstr) (w : ℕ) → valid.Names (renamed to i) w → (v : ℕ) × valid.Names i v ×
      (w ≡ to v)
  names_from i w (inl e) = let f = reads_from to i w e in (f.0, inl f.1, f.2)
  names_from i w (inr e) = let f = writes_from to i w e in (f.0, inr f.1, f.2)

  fewer_instructions : instruction_count new.blocks ≤ instruction_count old.blocks
  fewer_instructions = fewer_in old.blocks new.blocks r.count
      (λ b. part_shorter to old new b (r.code b))

  pub is_sized : IsSized old → IsSized new
  is_sized was =
      let many : length new.blocks ≡ length old.blocks = r.count in
      let args : new.args ≡ old.args = r.args in
      let aggregates : new.aggregates ≡ old.aggregates = r.aggregates in
      let vars : length new.vars ≤ length old.vars = r.fewer in
      let code : instruction_count new.blocks ≤ instruction_count old.blocks = fewer_instructions in
      record {
        variables_in_range = λ b j y is v names.
            let o = from b j y is in
            let f = names_from o.instr v (subst (λ z. valid.Names z v) o.stays.is names) in
            subst (λ u. u < length new.vars) (sym f.2)
            (o.stays.in_range f.0 f.1
            (was.variables_in_range b o.place o.instr (from_is b j y is) f.0 f.1));
        targets_in_range = λ b t lt target. let old_lt : t < length old.blocks =
            was.targets_in_range b t (in_old b lt) (subst (λ e. IsTarget e t) (r.ends b) target) in
            omega (arith, old_lt, many);
        cells_in_range = λ b j y is i names.
            let o = from b j y is in
            let old_names : valid.NamesCell o.instr i = sym (cell_renamed to o.instr)
            ∙ subst (λ z. valid.NamesCell z i) o.stays.is names in
            let lt : i < old.args = was.cells_in_range b o.place o.instr (from_is b j y is) i
            old_names in omega (arith, lt, args);
        params_in_range = λ v i param.
            let old_param = the_param old.vars i (sym (r.homes i) ∙ has_param new.vars v i param) in
            let lt : i < old.args = was.params_in_range old_param.0 i old_param.1 in
            omega (arith, lt, args);
        depths = λ b. let depth : (block_of new b).depth ≡ (block_of old b).depth = r.depths b in
            let most : (block_of old b).depth ≤ valid.most_loops = was.depths b in
            omega (arith, depth, most);
        instructions = let most : instruction_count old.blocks ≤ valid.most_instructions =
            was.instructions in omega (arith, code, most);
        blocks = let most : length old.blocks ≤ valid.most_blocks = was.blocks in
            omega (arith, many, most);
        variables = let most : length old.vars ≤ valid.most_variables = was.variables in
            omega (arith, vars, most);
        args = let most : old.args ≤ valid.most_arguments = was.args in omega (arith, args, most);
        aggregates = let most : old.aggregates ≤ valid.most_aggregates = was.aggregates in
            omega (arith, aggregates, most);
      }

  pub preserves : ParamsApart new → IsValid old → IsSized old → Preserves old new
  preserves params was sized = record {
    runs = same_runs old new to r;
    is_valid = is_valid params was;
    is_sized = is_sized sized;
    id = r.id;
    args = r.args;
    aggregates = r.aggregates;
    count = r.count;
    depths = r.depths;
    pushes = λ counts pushes. pushes_lead (TakesArgs counts) pushes;
    instructions = fewer_instructions;
    variables = r.fewer;
  }

pub preserves_on : (a b c : VProc) → Preserves a b → Preserves b c → Preserves a c
preserves_on a b c p q =
    let one : instruction_count b.blocks ≤ instruction_count a.blocks = p.instructions in
    let two : instruction_count c.blocks ≤ instruction_count b.blocks = q.instructions in
    let vars : length b.vars ≤ length a.vars = p.variables in
    let less : length c.vars ≤ length b.vars = q.variables in
    record {
      runs = runs_on a b c p.runs q.runs;
      is_valid = q.is_valid;
      is_sized = q.is_sized;
      id = q.id ∙ p.id;
      args = q.args ∙ p.args;
      aggregates = q.aggregates ∙ p.aggregates;
      count = q.count ∙ p.count;
      depths = λ b. q.depths b ∙ p.depths b;
      pushes = λ counts pushes. q.pushes counts (p.pushes counts pushes);
      instructions = omega (arith, one, two);
      variables = omega (arith, vars, less);
    }

pub preserves_itself : (a : VProc) → IsValid a → IsSized a → Preserves a a
preserves_itself a valid_ sized = record {
  runs = runs_itself a;
  is_valid = valid_;
  is_sized = sized;
  id = refl;
  args = refl;
  aggregates = refl;
  count = refl;
  depths = λ b. refl;
  pushes = λ counts pushes. pushes;
  instructions = omega arith;
  variables = omega arith;
}
