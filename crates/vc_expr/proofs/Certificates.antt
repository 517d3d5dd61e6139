-- Each change of code under construction keeps a certificate of what may be read.
use Rattle.std.proofs.Common.{◌≡◌, ◌≢◌, ℕ, zero, suc, ◌<◌, ◌≤◌, Bool, true, false, not, ◌&&◌, ◌||◌}
use Rattle.std.proofs.Common.{List, [], ◌∷◌, ◌++◌, length, take, Some, refl, sym, ap, ◌∙◌, subst}
use Rattle.std.proofs.Common.{⊎_elim, arith}
use Rattle.std.specs.Prelude.{slice_get}
use Rattle.std.proofs.Math.ListN.{get_or-append}
use Rattle.std.proofs.lemmas.Bool.{cases_eq, cases_lt}
use Rattle.std.proofs.lemmas.List.{get_or-set_other, get_or_past}
use Rattle.pra_list.proofs.Truths.{or_right}
use Rattle.pra_base.specs.Code.{no_block, kind_of, block_of, code_of, end_of, IsTarget}
use Rattle.pra_base.specs.Operands.{reads, writes}
use Rattle.pra_base.specs.declared.code.VarKind.{VarKind}
use Rattle.pra_base.specs.declared.code.VInstr.{VInstr}
use Rattle.pra_base.specs.declared.code.End.{End}
use Rattle.pra_base.specs.declared.code.Block.{Block}
use Rattle.pra_base.specs.declared.code.VProc.{VProc}
use Rattle.vc_build.specs.Grow.{count, IsOpen, with_instr, with_end, with_open_block, with_variable}
use Rattle.vc_build.proofs.Growth.{put_code, put_count, put_open, closed_block, closed_count}
use Rattle.vc_build.proofs.Growth.{opened_kept, opened_count, opened_block}
use Rattle.pra_base.specs.declared.code.VarKind.TheVariants.{Plain}
use Rattle.vc_expr.proofs.Rules.{same_opened}
use Rattle.vc_expr.specs.Readable.{is_constant, divides, behind, readable, Entries, usable_at}
use Rattle.vc_expr.specs.Readable.{usable, Certifies}

-- ---- lists

pub readable_more : (b : Bool) (xs : List VInstr) (i : VInstr) (v : ℕ) →
    readable b (xs ++ i ∷ []) v ≡ behind i v (readable b xs v)
readable_more b [] i v = refl
readable_more b (x ∷ xs) i v = readable_more (behind x v b) xs i v

-- an instruction of a longer list, and what is before it
data Found (xs : List VInstr) (i : VInstr) (k : ℕ) (j : VInstr) : Type 0 where
  earlier : slice_get xs k ≡ Some j → take k (xs ++ i ∷ []) ≡ take k xs → Found xs i k j
  last : j ≡ i → take k (xs ++ i ∷ []) ≡ xs → Found xs i k j

found : (xs : List VInstr) (i : VInstr) (k : ℕ) (j : VInstr) → slice_get (xs ++ i ∷ []) k ≡ Some j →
    Found xs i k j
found [] i zero j e = last (cc) refl
found [] i (suc k) j e = absurd (cc)
found (x ∷ xs) i zero j e = earlier e refl
found (x ∷ xs) i (suc k) j e = on (found xs i k j e)
  where
    on : Found xs i k j → Found (x ∷ xs) i (suc k) j
    on (earlier is same) = earlier is (ap (λ l. x ∷ l) same)
    on (last is all) = last is (ap (λ l. x ∷ l) all)

-- ---- one more instruction

or_same : (a b c : Bool) → (b ≡ true → c ≡ true) → (a || b) ≡ true → (a || c) ≡ true
or_same true b c f e = refl
or_same false b c f e = f e

behind_kept : (i : VInstr) (v : ℕ) (b : Bool) → divides i v ≡ false → b ≡ true → behind i v b ≡ true
behind_kept i v b d e = or_right (writes i v) (b && not (divides i v))
    (ap (λ x. x && not (divides i v)) e ∙ ap not d)

behind_written : (i : VInstr) (v : ℕ) (b : Bool) → writes i v ≡ true → behind i v b ≡ true
behind_written i v b w = ap (λ x. x || (b && not (divides i v))) w

module _ (known : Entries) (at : ℕ) (i : VInstr) (old : VProc) (o : IsOpen old at) where
  abbrev new : VProc
  new = with_instr at i old

  abbrev longer : Block
  longer = record {
    depth = (block_of old at).depth;
    code = code_of old at ++ i ∷ [];
    end =
        (block_of old at).end;
  }

  other : (b : ℕ) → b ≢ at → block_of new b ≡ block_of old b
  other b d = get_or-set_other old.blocks at b longer no_block d

  now_readable : (v : ℕ) → readable (known at v) (code_of new at) v ≡
      behind i v (readable (known at v) (code_of old at) v)
  now_readable v = ap (λ l. readable (known at v) l v) (put_code at i old o)
      ∙ readable_more (known at v) (code_of old at) i v

  -- what is written may be read behind it
  pub put_written : (v : ℕ) → writes i v ≡ true → usable known new at v ≡ true
  put_written v w = or_right (is_constant (kind_of old v))
      (readable (known at v) (code_of new at) v)
      (now_readable v ∙ behind_written i v (readable (known at v) (code_of old at) v) w)

  -- and what might be read before it, but for its dividend
  pub put_kept : (v : ℕ) → divides i v ≡ false → usable known old at v ≡ true →
      usable known new at v ≡ true
  put_kept v d u =
      or_same (is_constant (kind_of old v)) (readable (known at v) (code_of old at) v)
      (readable (known at v) (code_of new at) v)
      (λ e. now_readable v ∙ behind_kept i v (readable (known at v) (code_of old at) v) d e) u

  module _ (c : Certifies known old) (may : (v : ℕ) → reads i v ≡ true → usable known old at v ≡
      true) where
    read_here : (k v : ℕ) (j : VInstr) → Found (code_of old at) i k j → reads j v ≡ true →
        usable_at known new at k v ≡ true
    read_here k v j (earlier is same) r =
        ap (λ l. is_constant (kind_of old v) || readable (known at v) (take k l) v)
        (put_code at i old o)
        ∙ ap (λ l. is_constant (kind_of old v) || readable (known at v) l v) same
        ∙ c.reads_known at k v j is r
    read_here k v j (last is all) r =
        ap (λ l. is_constant (kind_of old v) || readable (known at v) (take k l) v)
        (put_code at i old o)
        ∙ ap (λ l. is_constant (kind_of old v) || readable (known at v) l v) all
        ∙ may v (ap (λ x. reads x v) (sym is) ∙ r)

    pub put_certifies : Certifies known new
    put_certifies = record {
      reads_known = λ b k v j is r. ⊎_elim
          (λ (e : b ≡ at).
          let there : slice_get (code_of old at ++ i ∷ []) k ≡ Some j =
          ap (λ l. slice_get l k) (sym (put_code at i old o))
          ∙ ap (λ n. slice_get (code_of new n) k) (sym e) ∙ is in
          ap (λ n. usable_at known new n k v) e ∙ read_here k v j
          (found (code_of old at) i k j there) r)
          (λ (d : b ≢ at).
          ap (λ x. is_constant (kind_of old v) || readable (known b v) (take k x.code) v)
          (other b d)
          ∙ c.reads_known b k v j (ap (λ x. slice_get x.code k) (sym (other b d)) ∙ is) r)
          (cases_eq b at);
      flows = λ b t v lt real target k. ⊎_elim
          (λ (e : b ≡ at). absurd (real (ap (end_of new) e ∙ (put_open at i old o).1)))
          (λ (d : b ≢ at).
          let same = other b d in
          ap (λ x. is_constant (kind_of old v) || readable (known b v) x.code v) same
          ∙ c.flows b t v (omega (arith, lt, put_count at i old o))
          (λ e. real (ap (λ x. x.end) same ∙ e)) (subst (λ x. IsTarget x.end t) same target) k)
          (cases_eq b at);
    }

-- ---- an end

module _ (known : Entries) (at : ℕ) (end : End) (old : VProc) (o : IsOpen old at)
    (c : Certifies known old) (leads : (t v : ℕ) → IsTarget end t → known t v ≡ true →
    usable known old at v ≡ true) where
  abbrev closed : VProc
  closed = with_end at end old

  abbrev ended : Block
  ended = record { depth = (block_of old at).depth; code = code_of old at; end = end }

  other_closed : (b : ℕ) → b ≢ at → block_of closed b ≡ block_of old b
  other_closed b d = get_or-set_other old.blocks at b ended no_block d

  same_code : (b : ℕ) → code_of closed b ≡ code_of old b
  same_code b = ⊎_elim
      (λ (e : b ≡ at). ap (code_of closed) e ∙ ap (λ x. x.code) (closed_block at end old o)
      ∙ ap (code_of old) (sym e))
      (λ (d : b ≢ at). ap (λ x. x.code) (other_closed b d))
      (cases_eq b at)

  end_here : end_of closed at ≡ end
  end_here = ap (λ x. x.end) (closed_block at end old o)

  pub close_certifies : Certifies known closed
  close_certifies = record {
    reads_known = λ b k v j is r.
        ap (λ l. is_constant (kind_of old v) || readable (known b v) (take k l) v) (same_code b)
        ∙ c.reads_known b k v j (ap (λ l. slice_get l k) (sym (same_code b)) ∙ is) r;
    flows = λ b t v lt real target k. ⊎_elim
        (λ (e : b ≡ at).
        ap (λ l. is_constant (kind_of old v) || readable (known b v) l v) (same_code b)
        ∙ ap (λ n. usable known old n v) e
        ∙ leads t v (subst (λ x. IsTarget x t) (ap (end_of closed) e ∙ end_here) target) k)
        (λ (d : b ≢ at).
        let same = other_closed b d in
        ap (λ x. is_constant (kind_of old v) || readable (known b v) x.code v) same
        ∙ c.flows b t v (omega (arith, lt, closed_count at end old o))
        (λ e. real (ap (λ x. x.end) same ∙ e)) (subst (λ x. IsTarget x.end t) same target) k)
        (cases_eq b at);
  }

-- ---- one more block

module _ (known : Entries) (depth : ℕ) (old : VProc) where
  abbrev opened : VProc
  opened = with_open_block depth old

  pub open_certifies : Certifies known old → Certifies known opened
  open_certifies c = record {
    reads_known = λ b k v j is r.
        ap (λ l. is_constant (kind_of old v) || readable (known b v) (take k l) v)
        (same_opened depth old b)
        ∙ c.reads_known b k v j (ap (λ l. slice_get l k) (sym (same_opened depth old b)) ∙ is) r;
    flows = λ b t v lt real target k. ⊎_elim
        (λ (e : b ≡ count old). absurd
        (real (ap (end_of opened) e ∙ ap (λ x. x.end) (opened_block depth old))))
        (λ (d : b ≢ count old).
        let before : b < count old = omega (arith, lt, d, opened_count depth old) in
        let same = opened_kept depth old b before in
        ap (λ x. is_constant (kind_of old v) || readable (known b v) x.code v) same
        ∙ c.flows b t v before (λ e. real (ap (λ x. x.end) same ∙ e))
        (subst (λ x. IsTarget x.end t) same target) k)
        (cases_eq b (count old));
  }

  pub open_usable : (b v : ℕ) → usable known opened b v ≡ usable known old b v
  open_usable b v = ap (λ l. is_constant (kind_of old v) || readable (known b v) l v)
      (same_opened depth old b)

-- ---- one more variable

or_left : (a b c : Bool) → (a ≡ true → b ≡ true) → (a || c) ≡ true → (b || c) ≡ true
or_left true b c f e = ap (λ x. x || c) (f refl)
or_left false b c f e = or_right b c e

module _ (known : Entries) (kind : VarKind) (old : VProc) where
  abbrev declared : VProc
  declared = with_variable kind old

  not_past : (v : ℕ) → length old.vars ≤ v → is_constant (kind_of old v) ≡ true → ⊥
  not_past v le e = not_plain (ap is_constant (sym (get_or_past old.vars v Plain le)) ∙ e)
    where
      not_plain : false ≡ true → ⊥
      not_plain e = cc

  stays_constant : (v : ℕ) → is_constant (kind_of old v) ≡ true → is_constant (kind_of declared v) ≡
      true
  stays_constant v e = ⊎_elim
      (λ (lt : v < length old.vars). ap is_constant (get_or-append old.vars (kind ∷ []) Plain v lt)
      ∙ e)
      (λ (le : length old.vars ≤ v). absurd (not_past v le e))
      (cases_lt v (length old.vars))

  pub declare_usable : (b v : ℕ) → usable known old b v ≡ true → usable known declared b v ≡ true
  declare_usable b v = or_left (is_constant (kind_of old v)) (is_constant (kind_of declared v))
      (readable (known b v) (code_of old b) v) (stays_constant v)

  pub declare_certifies : Certifies known old → Certifies known declared
  declare_certifies c = record {
    reads_known = λ b k v j is r.
        or_left (is_constant (kind_of old v)) (is_constant (kind_of declared v))
        (readable (known b v) (take k (code_of old b)) v) (stays_constant v)
        (c.reads_known b k v j is r);
    flows = λ b t v lt real target k. declare_usable b v (c.flows b t v lt real target k);
  }
