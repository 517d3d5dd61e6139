-- Each change of code under construction keeps the rules.
use Rattle.std.proofs.Common.{◌≡◌, ◌≢◌, ℕ, zero, suc, ◌<◌, ◌≤◌, true, List, [], ◌∷◌, ◌++◌, length}
use Rattle.std.proofs.Common.{Some, refl, sym, ap, ◌∙◌, subst, ⊎_elim, ◌⊎◌, inl, inr, arith}
use Rattle.std.proofs.Common.{length-append}
use Rattle.std.specs.Prelude.{ℤ, slice_get, slice_index_or}
use Rattle.std.proofs.Math.ListN.{get_or-append}
use Rattle.std.proofs.lemmas.Bool.{cases_eq, cases_lt}
use Rattle.std.proofs.lemmas.Bool.Decides.{nat_tests}
use Rattle.std.proofs.lemmas.List.{get_or-set_other, get_or_past}
use Rattle.pra_list.proofs.Truths.{false_from}
use Rattle.pra_base.specs.Code.{block_of, code_of, no_block}
use Rattle.pra_base.specs.Operands.{reads, writes}
use Rattle.pra_base.specs.Valid.{KeepsConstant, PushesLead, TakesArgs}
use Rattle.pra_base.specs.declared.ids.VarId.{VarId}
use Rattle.pra_base.specs.declared.code.VarKind.{VarKind}
use Rattle.pra_base.specs.declared.code.VarKind.TheVariants.{Param, Plain, Constant}
use Rattle.pra_base.specs.declared.code.VInstr.{VInstr}
use Rattle.pra_base.specs.declared.code.VInstr.TheVariants.{Set, Copy, Add, Sub, And, Or, Xor, Mul}
use Rattle.pra_base.specs.declared.code.VInstr.TheVariants.{Neg, Shift, Cmp, CmpSet, DivMod, Check}
use Rattle.pra_base.specs.declared.code.VInstr.TheVariants.{CheckPos, Load, Store, Push, Call, Read}
use Rattle.pra_base.specs.declared.code.VInstr.TheVariants.{Write, Line, Clear}
use Rattle.pra_base.specs.declared.code.VInstr.TheVariants as instr
use Rattle.pra_base.specs.declared.code.End.{End}
use Rattle.pra_base.specs.declared.code.Block.{Block}
use Rattle.pra_base.specs.declared.code.VProc.{VProc}
use Rattle.vc_build.specs.Grow.{count, stand_in, IsOpen, with_instr, with_end, with_open_block}
use Rattle.vc_build.specs.Grow.{with_variable}
use Rattle.vc_build.proofs.Growth.{put_code, put_count, put_open, closed_block, closed_count}
use Rattle.vc_build.proofs.Growth.{opened_kept, opened_count, opened_block}
use Rattle.vc_expr.specs.Rules.{Obeys, is_simple, ClosesWell, KeepsRules}

-- ---- pushes before calls

-- one more instruction that is none of a call
lead_one : (T : ℕ → ℕ → Type 0) (n : ℕ) (i : VInstr) → is_simple i ≡ true → n ≡ 0 →
    PushesLead T n (i ∷ [])
lead_one T n (Set v m) e z = (z, refl)
lead_one T n (Copy v s) e z = (z, refl)
lead_one T n (Add v s) e z = (z, refl)
lead_one T n (Sub v s) e z = (z, refl)
lead_one T n (And v s) e z = (z, refl)
lead_one T n (Or v s) e z = (z, refl)
lead_one T n (Xor v s) e z = (z, refl)
lead_one T n (Mul v s) e z = (z, refl)
lead_one T n (Neg v) e z = (z, refl)
lead_one T n (Shift op v m) e z = (z, refl)
lead_one T n (Cmp a b) e z = (z, refl)
lead_one T n (CmpSet k v a b) e z = (z, refl)
lead_one T n (DivMod q r a d) e z = (z, refl)
lead_one T n (Check v m) e z = (z, refl)
lead_one T n (CheckPos v) e z = (z, refl)
lead_one T n (Load v a) e z = (z, refl)
lead_one T n (Store a s) e z = (z, refl)
lead_one T n (instr.Addr v a) e z = (z, refl)
lead_one T n (Read v) e z = (z, refl)
lead_one T n (Write s) e z = (z, refl)
lead_one T n Line e z = (z, refl)
lead_one T n (Push s) e z = absurd (cc)
lead_one T n (Call p) e z = absurd (cc)
lead_one T n Clear e z = absurd (cc)

lead_more : (T : ℕ → ℕ → Type 0) (xs : List VInstr) (n : ℕ) (i : VInstr) → is_simple i ≡ true →
    PushesLead T n xs → PushesLead T n (xs ++ i ∷ [])
lead_more T [] n i e z = lead_one T n i e z
lead_more T (Push u ∷ xs) n i e p = lead_more T xs (suc n) i e p
lead_more T (Call u ∷ xs) n i e p = (p.0, lead_more T xs 0 i e p.1)
lead_more T (Set v m ∷ xs) n i e p = (p.0, lead_more T xs 0 i e p.1)
lead_more T (Copy v s ∷ xs) n i e p = (p.0, lead_more T xs 0 i e p.1)
lead_more T (Add v s ∷ xs) n i e p = (p.0, lead_more T xs 0 i e p.1)
lead_more T (Sub v s ∷ xs) n i e p = (p.0, lead_more T xs 0 i e p.1)
lead_more T (And v s ∷ xs) n i e p = (p.0, lead_more T xs 0 i e p.1)
lead_more T (Or v s ∷ xs) n i e p = (p.0, lead_more T xs 0 i e p.1)
lead_more T (Xor v s ∷ xs) n i e p = (p.0, lead_more T xs 0 i e p.1)
lead_more T (Mul v s ∷ xs) n i e p = (p.0, lead_more T xs 0 i e p.1)
lead_more T (Neg v ∷ xs) n i e p = (p.0, lead_more T xs 0 i e p.1)
lead_more T (Shift op v m ∷ xs) n i e p = (p.0, lead_more T xs 0 i e p.1)
lead_more T (Cmp a c ∷ xs) n i e p = (p.0, lead_more T xs 0 i e p.1)
lead_more T (CmpSet k v a c ∷ xs) n i e p = (p.0, lead_more T xs 0 i e p.1)
lead_more T (DivMod q r a d ∷ xs) n i e p = (p.0, lead_more T xs 0 i e p.1)
lead_more T (Check v m ∷ xs) n i e p = (p.0, lead_more T xs 0 i e p.1)
lead_more T (CheckPos v ∷ xs) n i e p = (p.0, lead_more T xs 0 i e p.1)
lead_more T (Load v a ∷ xs) n i e p = (p.0, lead_more T xs 0 i e p.1)
lead_more T (Store a s ∷ xs) n i e p = (p.0, lead_more T xs 0 i e p.1)
lead_more T (instr.Addr v a ∷ xs) n i e p = (p.0, lead_more T xs 0 i e p.1)
lead_more T (Read v ∷ xs) n i e p = (p.0, lead_more T xs 0 i e p.1)
lead_more T (Write s ∷ xs) n i e p = (p.0, lead_more T xs 0 i e p.1)
lead_more T (Line ∷ xs) n i e p = (p.0, lead_more T xs 0 i e p.1)
lead_more T (Clear ∷ xs) n i e p = (p.0, lead_more T xs 0 i e p.1)

-- ---- lists

pub get_last : {A : Type 0} (xs : List A) (x : A) (k : ℕ) (y : A) → slice_get (xs ++ x ∷ []) k ≡
    Some y → (slice_get xs k ≡ Some y) ⊎ (y ≡ x)
get_last [] x zero y e = inr (cc)
get_last [] x (suc k) y e = absurd (cc)
get_last (z ∷ xs) x zero y e = inl e
get_last (z ∷ xs) x (suc k) y e = get_last xs x k y e

get_more : {A : Type 0} (xs ys : List A) (k : ℕ) (y : A) → slice_get xs k ≡ Some y →
    slice_get (xs ++ ys) k ≡ Some y
get_more [] ys k y e = absurd (cc)
get_more (z ∷ xs) ys zero y e = e
get_more (z ∷ xs) ys (suc k) y e = get_more xs ys k y e

pub nothing_there : {A : Type 0} (k : ℕ) (y : A) → slice_get [] k ≡ Some y → ⊥
nothing_there k y e = cc

pub code_past : (code : VProc) (b : ℕ) → count code ≤ b → code_of code b ≡ []
code_past code b le = ap (λ x. x.code) (get_or_past code.blocks b no_block le)

closes_more : (n m : ℕ) (x : Block) → n ≤ m → ClosesWell n x → ClosesWell m x
closes_more n m x le c =
    record {
      targets = λ t e. let p = c.targets t e in (p.0, omega (arith, p.1, le));
      compared =
          c.compared;
      goes_on = c.goes_on;
    }

abbrev Ends : ℕ → Block → Type 0
Ends n x = (x.end ≡ stand_in) ⊎ ClosesWell n x

ends_more : (n m : ℕ) (x : Block) → n ≤ m → Ends n x → Ends m x
ends_more n m x le e = ⊎_elim (λ (o : x.end ≡ stand_in). inl o)
    (λ (c : ClosesWell n x). inr (closes_more n m x le c)) e

-- ---- one more instruction

module _ (counts : List ℕ) (at : ℕ) (i : VInstr) (old : VProc) (o : IsOpen old at)
    (k : KeepsRules counts old) (obeys : Obeys old.args old.vars i) (simple : is_simple i ≡ true)
  where
    abbrev new : VProc
    new = with_instr at i old

    abbrev longer : Block
    longer = record {
      depth = (block_of old at).depth;
      code = code_of old at ++ i ∷ [];
      end =
          (block_of old at).end;
    }

    other : (b : ℕ) → b ≢ at → block_of new b ≡ block_of old b
    other b d = get_or-set_other old.blocks at b longer no_block d

    here : (b : ℕ) → b ≡ at → code_of new b ≡ code_of old at ++ i ∷ []
    here b e = ap (code_of new) e ∙ put_code at i old o

    obeys_there : (b n : ℕ) (j : VInstr) → slice_get (code_of new b) n ≡ Some j →
        Obeys old.args old.vars j
    obeys_there b n j is = ⊎_elim
        (λ (e : b ≡ at). ⊎_elim
        (λ (before : slice_get (code_of old at) n ≡ Some j). k.obeys at n j before)
        (λ (last : j ≡ i). subst (Obeys old.args old.vars) (sym last) obeys)
        (get_last (code_of old at) i n j (ap (λ l. slice_get l n) (sym (here b e)) ∙ is)))
        (λ (d : b ≢ at). k.obeys b n j (ap (λ x. slice_get x.code n) (sym (other b d)) ∙ is))
        (cases_eq b at)

    leads : (b : ℕ) → PushesLead (TakesArgs counts) 0 (code_of new b)
    leads b = ⊎_elim
        (λ (e : b ≡ at). subst (PushesLead (TakesArgs counts) 0) (sym (here b e))
        (lead_more (TakesArgs counts) (code_of old at) 0 i simple (k.pushes_before_calls at)))
        (λ (d : b ≢ at). subst (λ x. PushesLead (TakesArgs counts) 0 x.code) (sym (other b d))
        (k.pushes_before_calls b))
        (cases_eq b at)

    not_clear : Clear ≢ i
    not_clear e = cc

    clears : (b n : ℕ) → slice_get (code_of new b) n ≡ Some Clear → (old.aggregates ≢ 0) × (b ≡ 0) ×
        (n ≡ 0)
    clears b n is = ⊎_elim
        (λ (e : b ≡ at). ⊎_elim
        (λ (before : slice_get (code_of old at) n ≡ Some Clear). (k.clear_first b n).0
        (ap (λ c. slice_get (code_of old c) n) e ∙ before))
        (λ (last : Clear ≡ i). absurd (not_clear last))
        (get_last (code_of old at) i n Clear (ap (λ l. slice_get l n) (sym (here b e)) ∙ is)))
        (λ (d : b ≢ at). (k.clear_first b n).0
        (ap (λ x. slice_get x.code n) (sym (other b d)) ∙ is))
        (cases_eq b at)

    stays_clear : (b n : ℕ) → slice_get (code_of old b) n ≡ Some Clear →
        slice_get (code_of new b) n ≡
        Some Clear
    stays_clear b n is = ⊎_elim
        (λ (e : b ≡ at). ap (λ l. slice_get l n) (here b e) ∙ get_more (code_of old at)
        (i ∷ []) n Clear (ap (λ c. slice_get (code_of old c) n) (sym e) ∙ is))
        (λ (d : b ≢ at). ap (λ x. slice_get x.code n) (other b d) ∙ is)
        (cases_eq b at)

    ends_there : (b : ℕ) → b < count new → Ends (count new) (block_of new b)
    ends_there b lt = ⊎_elim
        (λ (e : b ≡ at). inl (ap (λ c. (block_of new c).end) e ∙ (put_open at i old o).1))
        (λ (d : b ≢ at). subst (Ends (count new)) (sym (other b d))
        (ends_more (count old) (count new) (block_of old b) (omega (arith, put_count at i old o))
        (k.ends b (omega (arith, lt, put_count at i old o)))))
        (cases_eq b at)

    pub put_rules : KeepsRules counts new
    put_rules = record {
      obeys = obeys_there;
      pushes_before_calls = leads;
      clear_first =
          λ b n. (clears b n, λ p. stays_clear b n ((k.clear_first b n).1 p));
      ends = ends_there;
    }

-- ---- an end

module _ (counts : List ℕ) (at : ℕ) (end : End) (old : VProc) (o : IsOpen old at)
    (k : KeepsRules counts old)
    (closes : ClosesWell (count old)
    (record { depth = (block_of old at).depth; code = code_of old at; end = end })) where
  abbrev closed : VProc
  closed = with_end at end old

  abbrev ended : Block
  ended = record { depth = (block_of old at).depth; code = code_of old at; end = end }

  other_closed : (b : ℕ) → b ≢ at → block_of closed b ≡ block_of old b
  other_closed b d = get_or-set_other old.blocks at b ended no_block d

  same_code : (b : ℕ) → code_of closed b ≡ code_of old b
  same_code b = ⊎_elim
      (λ (e : b ≡ at). ap (code_of closed) e ∙ ap (λ x. x.code) (closed_block at end old o)
      ∙ ap (code_of old) (sym e))
      (λ (d : b ≢ at). ap (λ x. x.code) (other_closed b d))
      (cases_eq b at)

  ends_closed : (b : ℕ) → b < count closed → Ends (count closed) (block_of closed b)
  ends_closed b lt = ⊎_elim
      (λ (e : b ≡ at). inr (subst (ClosesWell (count closed))
      (sym (ap (block_of closed) e ∙ closed_block at end old o))
      (closes_more (count old) (count closed) ended (omega (arith, closed_count at end old o))
      closes)))
      (λ (d : b ≢ at). subst (Ends (count closed)) (sym (other_closed b d))
      (ends_more (count old) (count closed) (block_of old b)
      (omega (arith, closed_count at end old o))
      (k.ends b (omega (arith, lt, closed_count at end old o)))))
      (cases_eq b at)

  pub close_rules : KeepsRules counts closed
  close_rules = record {
    obeys = λ b n j is. k.obeys b n j (ap (λ l. slice_get l n) (sym (same_code b)) ∙ is);
    pushes_before_calls = λ b. subst (PushesLead (TakesArgs counts) 0) (sym (same_code b))
        (k.pushes_before_calls b);
    clear_first = λ b n. (
      λ is. (k.clear_first b n).0
          (ap (λ l. slice_get l n) (sym (same_code b)) ∙ is),
      λ p. ap (λ l. slice_get l n)
          (same_code b) ∙ (k.clear_first b n).1 p,
    );
    ends = ends_closed;
  }

-- ---- one more block

module _ (depth : ℕ) (old : VProc) where
  abbrev opened : VProc
  opened = with_open_block depth old

  code_opened : (b : ℕ) → count old ≤ b → code_of opened b ≡ []
  code_opened b le = ⊎_elim
      (λ (e : b ≡ count old). ap (code_of opened) e ∙ ap (λ x. x.code) (opened_block depth old))
      (λ (d : b ≢ count old). code_past opened b (omega (arith, le, d, opened_count depth old)))
      (cases_eq b (count old))

  -- no code of a new block
  pub same_opened : (b : ℕ) → code_of opened b ≡ code_of old b
  same_opened b = ⊎_elim
      (λ (lt : b < count old). ap (λ x. x.code) (opened_kept depth old b lt))
      (λ (le : count old ≤ b). code_opened b le ∙ sym (code_past old b le))
      (cases_lt b (count old))

module _ (counts : List ℕ) (depth : ℕ) (old : VProc) (k : KeepsRules counts old) where
  abbrev later : VProc
  later = with_open_block depth old

  ends_opened : (b : ℕ) → b < count later → Ends (count later) (block_of later b)
  ends_opened b lt = ⊎_elim
      (λ (e : b ≡ count old). inl
      (ap (λ c. (block_of later c).end) e ∙ ap (λ x. x.end) (opened_block depth old)))
      (λ (d : b ≢ count old).
      let before : b < count old = omega (arith, lt, d, opened_count depth old) in
      subst (Ends (count later)) (sym (opened_kept depth old b before))
      (ends_more (count old) (count later) (block_of old b)
      (omega (arith, opened_count depth old)) (k.ends b before)))
      (cases_eq b (count old))

  pub open_rules : KeepsRules counts later
  open_rules = record {
    obeys = λ b n j is. k.obeys b n j (ap (λ l. slice_get l n) (sym (same_opened depth old b))
        ∙ is);
    pushes_before_calls = λ b. subst (PushesLead (TakesArgs counts) 0)
        (sym (same_opened depth old b)) (k.pushes_before_calls b);
    clear_first = λ b n. (
      λ is. (k.clear_first b n).0
          (ap (λ l. slice_get l n) (sym (same_opened depth old b)) ∙ is),
      λ p. ap (λ l. slice_get l n)
          (same_opened depth old b) ∙ (k.clear_first b n).1 p,
    );
    ends = ends_opened;
  }

-- ---- one more variable

reads_source : (t s : VarId) → reads (Copy t s) s.0 ≡ true
reads_source t s = grind (arith, nat_tests)

module _ (args : ℕ) (vars : List VarKind) (kind : VarKind) (local : (n : ℕ) → kind ≢ Param n)
    (i : VInstr) (o : Obeys args vars i) where
  abbrev more : List VarKind
  more = vars ++ kind ∷ []

  constants : (v : ℕ) (n : ℤ) → slice_index_or more v Plain ≡ Constant n → KeepsConstant v i
  constants v n e = ⊎_elim
      (λ (lt : v < length vars). o.constants_kept v n
      (sym (get_or-append vars (kind ∷ []) Plain v lt) ∙ e))
      (λ (le : length vars ≤ v). record {
        unwritten = false_from (writes i v) (λ w. omega (arith, le, o.named v (inr w)));
        uncopied = λ t s is same. omega (
          arith,
          le,
          o.named v (inl (ap (λ j. reads j v) is ∙ ap (reads (Copy t s)) (sym same)
              ∙ reads_source t s)),
        );
      })
      (cases_lt v (length vars))

  pub obeys_more : Obeys args more i
  obeys_more = record {
    named = λ v n. omega (arith, o.named v n, length-append vars (kind ∷ []));
    roles_apart = o.roles_apart;
    division_apart = λ q r a d is. let w = o.division_apart q r a d is in record {
      q_r = w.q_r;
      q_a = w.q_a;
      q_d = w.q_d;
      r_a = w.r_a;
      r_d = w.r_d;
      a_d = w.a_d;
      plain = get_or-append vars (kind ∷ []) Plain a.0 w.there ∙ w.plain;
      there = omega (arith, w.there, length-append vars (kind ∷ []));
    };
    constants_kept = constants;
    check_range = o.check_range;
    shift_range = o.shift_range;
    cells = λ n names. let c = o.cells n names in (
      c.0,
      λ v is. ⊎_elim
          (λ (before : slice_get vars v ≡ Some (Param n)). c.1 v before)
          (λ (last : Param n ≡ kind). local n (sym last))
          (get_last vars kind v (Param n) is),
    );
  }

pub declare_rules : (counts : List ℕ) (kind : VarKind) (old : VProc) → ((n : ℕ) → kind ≢ Param n) →
    KeepsRules counts old → KeepsRules counts (with_variable kind old)
declare_rules counts kind old local k = record {
  obeys = λ b n j is. obeys_more old.args old.vars kind local j (k.obeys b n j is);
  pushes_before_calls = k.pushes_before_calls;
  clear_first = k.clear_first;
  ends = k.ends;
}
