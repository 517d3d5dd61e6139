-- The rules of code under construction do not know the order of blocks.
use Rattle.std.proofs.Common.{◌≡◌, ◌≢◌, ℕ, zero, suc, ◌<◌, ◌≤◌, inl, inr, ⊎_elim, List, length}
use Rattle.std.proofs.Common.{slice_get, Some, refl, sym, ap, subst, ◌∙◌, arith}
use Rattle.std.specs.Prelude.{◌↔◌, ◌||◌, take, slice_index_or}
use Rattle.std.proofs.lemmas.Bool.{cases_lt}
use Rattle.std.proofs.lemmas.List.{get_or_past}
use Rattle.std.proofs.lemmas.Option.{get_or_from_slice_get, slice_get-get_or, slice_get_within}
use Rattle.pra_list.proofs.Options.{none_some}
use Rattle.pra_base.specs.declared.ids.BlockId.{BlockId}
use Rattle.pra_base.specs.declared.ids.Cond.{Cond}
use Rattle.pra_base.specs.declared.code.Block.{Block}
use Rattle.pra_base.specs.declared.code.End.{End}
use Rattle.pra_base.specs.declared.code.End.TheVariants.{Jump, Branch, Return}
use Rattle.pra_base.specs.declared.code.VInstr.{VInstr}
use Rattle.pra_base.specs.declared.code.VarKind.TheVariants.{Param, Plain}
use Rattle.pra_base.specs.declared.code.VProc.{VProc}
use Rattle.pra_base.specs.Code.{kind_of, block_of, code_of, end_of, no_block, IsTarget, EachInstr}
use Rattle.pra_base.specs.Valid.{EndsWithCmp, PushesLead, TakesArgs, ClearFirst}
use Rattle.vc_build.specs.Grow.{count, stand_in, IsOpen}
use Rattle.vc_expr.specs.Rules.{Obeys, ClosesWell, KeepsRules, IsComplete}
use Rattle.vc_expr.specs.Readable.{is_constant, readable, Entries, usable, usable_at, Certifies}
use Rattle.vc_order.specs.Order.{Places, block_at, end_with, block_with, Reordered}

abbrev jump : End → ℕ
jump (Jump b) = b.0
jump _ = 0

module _ (to from : Places) (old new : VProc) (is : Reordered to from old new) where
  -- ---- blocks

  block_there : (b : ℕ) → b < count old → block_of new (to b) ≡ block_with to (block_of old b)
  block_there b lt =
      get_or_from_slice_get new.blocks (to b) (block_with to (block_of old b)) no_block
      (is.blocks b (block_of old b) (slice_get-get_or old.blocks b no_block lt))

  pub block_is : (c : ℕ) → c < count old → block_of new c ≡ block_with to (block_of old (from c))
  block_is c lt = ap (block_of new) (sym (is.forth c lt)) ∙ block_there (from c) (is.within c lt)

  code_is : (c : ℕ) → c < count old → code_of new c ≡ code_of old (from c)
  code_is c lt = ap (λ (b : Block). b.code) (block_is c lt)

  end_is : (c : ℕ) → c < count old → end_of new c ≡ end_with to (end_of old (from c))
  end_is c lt = ap (λ (b : Block). b.end) (block_is c lt)

  past_new : (c : ℕ) → count old ≤ c → block_of new c ≡ no_block
  past_new c le = let long : length new.blocks ≡ length old.blocks = is.count in
      get_or_past new.blocks c no_block (omega (arith, le, long))

  past_old : (c : ℕ) → count old ≤ c → block_of old c ≡ no_block
  past_old c le = get_or_past old.blocks c no_block le

  -- of each block of the new code there is one with the same instructions in the old code, and it
  -- is the entry where that is
  record Origin (c : ℕ) : Type 0 where
    pub block : ℕ
    pub code : code_of new c ≡ code_of old block
    pub entry : (block ≡ 0) ↔ (c ≡ 0)

  entry_from : 0 < count old → from 0 ≡ 0
  entry_from lt = ap from (sym is.entry) ∙ is.back 0 lt

  origin : (c : ℕ) → Origin c
  origin c =
      ⊎_elim
      (λ (lt : c < count old). record {
        block = from c;
        code = code_is c lt;
        entry = (
          (λ e. sym (is.forth c lt) ∙ ap to e ∙ is.entry),
          (λ e. ap from e ∙ entry_from (omega (arith, lt))),
        );
      })
      (λ (le : count old ≤ c). record {
        block = c;
        code = ap (λ (b : Block). b.code) (past_new c le)
            ∙ sym (ap (λ (b : Block). b.code) (past_old c le));
        entry = ((λ e. e), (λ e. e));
      })
      (cases_lt c (count old))

  each_kept : (P : VInstr → Type 0) → EachInstr old.blocks P → EachInstr new.blocks P
  each_kept P all c k i e = let o = origin c in
      all o.block k i (ap (λ code. slice_get code k) (sym o.code) ∙ e)

  -- ---- ends

  target_of : (e : End) (t : ℕ) → IsTarget (end_with to e) t → (s : ℕ) × IsTarget e s × (to s ≡ t)
  target_of (Jump b) t target = (b.0, refl, target)
  target_of (Branch k one other) t target =
      ⊎_elim (λ (e : to one.0 ≡ t). (one.0, inl refl, e))
      (λ (e : to other.0 ≡ t). (other.0, inr refl, e)) target
  target_of Return t target = elim target [ ]

  branch_of : (e : End) (k : Cond) (one other : BlockId) → end_with to e ≡ Branch k one other →
      (a z : BlockId) × (e ≡ Branch k a z)
  branch_of (Jump b) k one other e = cc
  branch_of (Branch j a z) k one other e = (a, z, same j k a z e)
    where
      same : (j k : Cond) (a z : BlockId) → Branch j (block_at to a) (block_at to z) ≡
          Branch k one other → Branch j a z ≡ Branch k a z
      same j k a z d = let conditions : j ≡ k = cc in ap (λ c. Branch c a z) conditions
  branch_of Return k one other e = cc

  stand_in_with : (e : End) → e ≡ stand_in → end_with to e ≡ stand_in
  stand_in_with e d = ap (end_with to) d ∙ ap (λ n. Jump (record { 0 = n })) is.entry

  returns_only : (e : End) → end_with to e ≡ Return → e ≡ Return
  returns_only (Jump b) d = cc
  returns_only (Branch k one other) d = cc
  returns_only Return d = refl

  -- ---- the rules

  below_new : (c : ℕ) → c < count new → c < count old
  below_new c lt = let long : length new.blocks ≡ length old.blocks = is.count in
      omega (arith, lt, long)

  closes : (c : ℕ) → c < count old → ClosesWell (count old) (block_of old (from c)) →
      ClosesWell (count new) (block_of new c)
  closes c lt w = record {
    targets = λ t target.
        let one = target_of (end_of old (from c)) t (subst (λ e. IsTarget e t) (end_is c lt) target)
        in
        let range = w.targets one.0 one.1 in (
          above one.0 t range.0 range.1 one.2,
          within one.0 t range.1 one.2,
        );
    compared = λ k one other e.
        let b = branch_of (end_of old (from c)) k one other (sym (end_is c lt) ∙ e) in
        subst EndsWithCmp (sym (code_is c lt)) (w.compared k b.0 b.1 b.2);
    goes_on = λ e. w.goes_on (returns_only (end_of old (from c)) (sym (end_is c lt) ∙ e));
  }
    where
      above : (s t : ℕ) → 0 < s → s < count old → to s ≡ t → 0 < t
      above s zero l m e = let same : s ≡ 0 = sym (is.back s m) ∙ ap from e
          ∙ entry_from (omega (arith, m)) in absurd (omega (arith, l, same))
      above s (suc t) l m e = omega arith

      within : (s t : ℕ) → s < count old → to s ≡ t → t < count new
      within s t m e =
          let long : length new.blocks ≡ length old.blocks = is.count in
          ⊎_elim (λ (lt' : t < count old). omega (arith, lt', long))
          (λ (le : count old ≤ t). absurd (there_none s t m e le)) (cases_lt t (count old))
        where
          there_none : (s t : ℕ) → s < count old → to s ≡ t → count old ≤ t → ⊥
          there_none s t m e le =
              let long : length new.blocks ≡ length old.blocks = is.count in
              let there : slice_get new.blocks t ≡ Some (block_with to (block_of old s)) =
              ap (slice_get new.blocks) (sym e) ∙ is.blocks s (block_of old s)
              (slice_get-get_or old.blocks s no_block m) in
              omega (
                arith,
                le,
                long,
                slice_get_within new.blocks t (block_with to (block_of old s))
                    there,
              )

  clear : ClearFirst old.aggregates old.blocks → ClearFirst new.aggregates new.blocks
  clear rule c k =
      let o = origin c in
      let both = rule o.block k in (
        (λ e. let there = both.0 (ap (λ code. slice_get code k) (sym o.code) ∙ e) in
            ((λ none. there.0 (sym is.aggregates ∙ none)), o.entry.0 there.1, there.2)),
        (λ h. ap (λ code. slice_get code k) o.code
            ∙ both.1 ((λ none. h.0 (is.aggregates ∙ none)), o.entry.1 h.1, h.2)),
      )

  module _ (counts : List ℕ) (rules : KeepsRules counts old) where
    pub rules_kept : KeepsRules counts new
    rules_kept = record {
      obeys =
          subst (λ args. EachInstr new.blocks (Obeys args new.vars)) (sym is.args)
          (subst (λ vars. EachInstr new.blocks (Obeys old.args vars)) (sym is.vars)
          (each_kept (Obeys old.args old.vars) rules.obeys));
      pushes_before_calls = λ c. let o = origin c in
          subst (λ code. PushesLead (TakesArgs counts) 0 code) (sym o.code)
          (rules.pushes_before_calls o.block);
      clear_first = clear rules.clear_first;
      ends = λ c lt.
          let below = below_new c lt in
          ⊎_elim
          (λ (e : (block_of old (from c)).end ≡ stand_in). inl
          (end_is c below ∙ stand_in_with (end_of old (from c)) e))
          (λ (w : ClosesWell (count old) (block_of old (from c))). inr (closes c below w))
          (rules.ends (from c) (is.within c below));
    }

    -- ---- certificates

    abbrev moved : Entries → Entries
    moved known c v = known (from c) v

    kinds : (v : ℕ) → kind_of new v ≡ kind_of old v
    kinds v = ap (λ vars. slice_index_or vars v Plain) is.vars

    usable_same : (known : Entries) (c v : ℕ) → c < count old → usable (moved known) new c v ≡
        usable known old (from c) v
    usable_same known c v lt =
        ap (λ k. is_constant k || readable (known (from c) v) (code_of new c) v) (kinds v)
        ∙ ap (λ code. is_constant (kind_of old v) || readable (known (from c) v) code v)
        (code_is c lt)

    usable_at_same : (known : Entries) (c k v : ℕ) → c < count old →
        usable_at (moved known) new c k v ≡ usable_at known old (from c) k v
    usable_at_same known c k v lt =
        ap (λ kind. is_constant kind || readable (known (from c) v) (take k (code_of new c)) v)
        (kinds v)
        ∙ ap (λ code. is_constant (kind_of old v) || readable (known (from c) v) (take k code) v)
        (code_is c lt)

    pub certificate_moves : (known : Entries) → Certifies known old → Certifies (moved known) new
    certificate_moves known certifies = record {
      reads_known = λ c k v i e reads.
          ⊎_elim
          (λ (lt : c < count old). usable_at_same known c k v lt ∙ certifies.reads_known
          (from c) k v i (ap (λ code. slice_get code k) (sym (code_is c lt)) ∙ e) reads)
          (λ (le : count old ≤ c).
          absurd (none_some (sym (ap (λ (b : Block). slice_get b.code k) (past_new c le)) ∙ e)))
          (cases_lt c (count old));
      flows = λ c t v lt open_ target known_there.
          let below = below_new c lt in
          let one = target_of (end_of old (from c)) t
          (subst (λ e. IsTarget e t) (end_is c below) target) in
          let closed : end_of old (from c) ≢ stand_in =
          λ e. open_ (end_is c below ∙ stand_in_with (end_of old (from c)) e) in
          let well = ⊎_elim (λ (e : (block_of old (from c)).end ≡ stand_in). absurd (closed e))
          (λ (w : ClosesWell (count old) (block_of old (from c))). w)
          (rules.ends (from c) (is.within c below)) in
          let range = well.targets one.0 one.1 in
          let origin_is : from t ≡ one.0 = ap from (sym one.2) ∙ is.back one.0 range.1 in
          usable_same known c v below
          ∙ certifies.flows (from c) one.0 v (is.within c below) closed one.1
          (ap (λ b. known b v) (sym origin_is) ∙ known_there);
    }

    -- ---- complete code

    only_open : (b : ℕ) → b < count old → end_with to (end_of old b) ≡ stand_in → end_of old b ≡
        stand_in
    only_open b lt e =
        ⊎_elim (λ (d : (block_of old b).end ≡ stand_in). d)
        (λ (w : ClosesWell (count old) (block_of old b)). by (end_of old b) w.targets e)
        (rules.ends b lt)
      where
        to_entry : (t : ℕ) → 0 < t → t < count old → to t ≡ 0 → ⊥
        to_entry t above within d = let same : t ≡ 0 = sym (is.back t within) ∙ ap from d
            ∙ entry_from (omega (arith, within)) in omega (arith, above, same)

        by : (x : End) → ((t : ℕ) → IsTarget x t → (0 < t) × (t < count old)) → end_with to x ≡
            stand_in → x ≡ stand_in
        by (Jump t) range d = let there : to t.0 ≡ 0 = ap jump d in
            absurd (to_entry t.0 (range t.0 refl).0 (range t.0 refl).1 there)
        by (Branch k one other) range d = cc
        by Return range d = cc

    pub completes : (last : ℕ) → IsOpen old last → suc (to last) ≡ count old →
        ((b : ℕ) → b < count old → b ≢ last → end_of old b ≢ stand_in) →
        ((v w i : ℕ) → slice_get old.vars v ≡ Some (Param i) → slice_get old.vars w ≡
        Some (Param i) → v ≡ w) → IsComplete new (to last)
    completes last is_open final closed params = record {
      count = let long : length new.blocks ≡ length old.blocks = is.count in final ∙ sym long;
      is_open = (
        let long : length new.blocks ≡ length old.blocks = is.count in omega (arith, final, long),
        ap (λ (b : Block). b.end) (block_there last is_open.0) ∙ stand_in_with (end_of old last)
            is_open.1,
      );
      closed = λ c lt e.
          let below : c < count old = omega (arith, lt, final) in
          let back : c ≡ to (from c) = sym (is.forth c below) in
          closed (from c) (is.within c below)
          (λ same. let there : to (from c) ≡ to last = ap to same in omega (arith, lt, back, there))
          (only_open (from c) (is.within c below) (sym (end_is c below) ∙ e));
      params = λ v w i a b. params v w i (ap (λ vars. slice_get vars v) (sym is.vars) ∙ a)
          (ap (λ vars. slice_get vars w) (sym is.vars) ∙ b);
    }

  pub depths_kept : (most : ℕ) → ((b : ℕ) → (block_of old b).depth ≤ most) → (c : ℕ) →
      (block_of new c).depth ≤ most
  depths_kept most all c =
      ⊎_elim
      (λ (lt : c < count old). subst (λ n. n ≤ most)
      (sym (ap (λ (b : Block). b.depth) (block_is c lt))) (all (from c)))
      (λ (le : count old ≤ c). subst (λ n. n ≤ most)
      (sym (ap (λ (b : Block). b.depth) (past_new c le))) (omega arith))
      (cases_lt c (count old))
