-- Code of calls keeps the rules and a certificate.
use Rattle.std.proofs.Common.{◌≡◌, ◌≢◌, ℕ, zero, suc, ◌+◌, ◌<◌, ◌≤◌, Bool, true, List, [], ◌∷◌}
use Rattle.std.proofs.Common.{◌++◌, length, Option, Some, None, inl, inr, ⊎_elim, ◌⊎◌, refl, sym}
use Rattle.std.proofs.Common.{ap, ◌∙◌, subst, arith, append_assoc, append-nil, drop, get_or}
use Rattle.std.proofs.Common.{length-append}
use Rattle.std.specs.Prelude.{pos, ◌&&◌, option_map, slice_get}
use Rattle.std.proofs.lemmas.Bool.{cases_eq}
use Rattle.std.proofs.lemmas.Bool.Decides.{nat_tests}
use Rattle.std.proofs.lemmas.List.{drop_all, get_or-set_other}
use Rattle.std.proofs.lemmas.Option.{slice_get-map}
use Rattle.pra_list.proofs.Choices.{and_true}
use Rattle.pra_base.specs.Code.{no_block, kind_of, block_of, code_of, end_of}
use Rattle.pra_base.specs.Operands.{writes}
use Rattle.pra_base.specs.Valid.{PushesLead, TakesArgs}
use Rattle.pra_base.specs.declared.ids.ProcId.{ProcId}
use Rattle.pra_base.specs.declared.ids.BlockId.{BlockId}
use Rattle.pra_base.specs.declared.ids.VarId.{VarId}
use Rattle.pra_base.specs.declared.code.Addr.{Addr}
use Rattle.pra_base.specs.declared.code.Base.TheVariants.{Via}
use Rattle.pra_base.specs.declared.code.Block.{Block}
use Rattle.pra_base.specs.declared.code.VarKind.{VarKind}
use Rattle.pra_base.specs.declared.code.VarKind.TheVariants.{Plain}
use Rattle.pra_base.specs.declared.code.VInstr.{VInstr}
use Rattle.pra_base.specs.declared.code.VInstr.TheVariants.{Set, Copy, Add, Sub, And, Or, Xor, Mul}
use Rattle.pra_base.specs.declared.code.VInstr.TheVariants.{Neg, Shift, Cmp, CmpSet, DivMod, Check}
use Rattle.pra_base.specs.declared.code.VInstr.TheVariants.{CheckPos, Load, Store, Push, Call, Read}
use Rattle.pra_base.specs.declared.code.VInstr.TheVariants.{Write, Line, Clear}
use Rattle.pra_base.specs.declared.code.VInstr.TheVariants as instr
use Rattle.pra_base.specs.declared.code.VProc.{VProc}
use Rattle.ob_syntax.specs.declared.checked.Checked.{Checked}
use Rattle.ob_syntax.specs.declared.checked.CheckedProc.{CheckedProc}
use Rattle.ob_syntax.specs.declared.checked.Param.{Param as Parameter}
use Rattle.ob_syntax.specs.declared.checked.RArg.{RArg}
use Rattle.vc_build.specs.Grow.{count, stand_in, IsOpen, with_instr, with_variable, Grows, GrowsAt}
use Rattle.vc_build.specs.Grow.{HandsOn}
use Rattle.vc_build.proofs.Growth.{grows_at_on, grows_at_again, put_code, put_count, put_open}
use Rattle.vc_build.proofs.Growth.{put_grows, declared_kind, declared_count}
use Rattle.vc_build.proofs.Open.{hands_same}
use Rattle.vc_expr.specs.Counts.{AddsAtMost}
use Rattle.vc_expr.specs.Readable.{Entries, usable, Certifies}
use Rattle.vc_expr.specs.Rules.{Obeys, ClosesWell, KeepsRules}
use Rattle.vc_expr.proofs.Added.{same_valid, plain_valid, put_valid}
use Rattle.vc_expr.proofs.Certificates.{put_written, put_kept, put_certifies, declare_certifies}
use Rattle.vc_expr.proofs.Certificates.{declare_usable}
use Rattle.vc_expr.proofs.Counting.{adds_on, plain_adds, put_adds}
use Rattle.vc_select.specs.declared.target.Setting.{Setting}
use Rattle.vc_select.specs.declared.target.Target.{Target}
use Rattle.vc_select.specs.declared.target.Target.TheVariants.{Memory}
use Rattle.vc_select.specs.Selects.{Extends}
use Rattle.vc_select.specs.Targets.{above_target, above_setting}
use Rattle.vc_select.specs.Certified.{AddsNoParam, StaysReady, IsAnswer, InTarget, ReadsWord}
use Rattle.vc_select.proofs.Arms.{next_item}
use Rattle.vc_select.proofs.Ready.{continues_same}
use Rattle.vc_select.proofs.ReadyTargets.{in_target_below}
use Rattle.vc_typed.specs.TypedStatements.{is_passed, are_passed, is_call}
use Rattle.vc_select.specs.Blocks.{StaysInText}
use Rattle.vc_select.proofs.InText.{text_after}
use Rattle.vc_stmt.specs.Passes.{with_pushes, with_call}
use Rattle.vc_stmt.specs.Ready.{parameter_counts, KeepsReady, Keeps, IsOneOf, PassesReady}
use Rattle.vc_stmt.proofs.Obeying.{in_address, push_reads, obeys_address, obeys_push, obeys_call}
use Rattle.vc_stmt.proofs.Proceeding.{proceeds_put}
use Rattle.vc_stmt.proofs.Pushing.{pushes_grow, pushes_open}

-- ---- the address of a target

pub itself_ready : (at : ℕ) (old : VProc) (target : Target) (a : Addr) (u : VarId) →
    target ≡ Memory a → a ≡ record { base = Via u; offset = pos 0; index = None } →
    ReadsWord at old old target u.0
itself_ready at old target a u is whole = subst (λ (t : Target). ReadsWord at old old t u.0)
    (sym (is ∙ ap Memory whole)) (record {
      reads = λ known c may. record {
        certifies = c;
        result = may u.0 (inl refl);
        others =
            λ x lt e. e;
      };
      valid = λ cells. same_valid old;
      fresh = inl (inl refl);
    })

module _ (at : ℕ) (old : VProc) (t : VarId) (a : Addr) (o : IsOpen old at)
    (number : t.0 ≡ length old.vars) (named : above_target (Memory a) ≤ length old.vars) where
  abbrev declared : VProc
  declared = with_variable Plain old

  abbrev addressed_there : VProc
  addressed_there = with_instr at (instr.Addr t a) declared

  declared_open : IsOpen declared at
  declared_open = o

  plain : kind_of declared t.0 ≡ Plain
  plain = ap (kind_of declared) number ∙ declared_kind Plain old

  there : t.0 < length declared.vars
  there = omega (arith, number, declared_count Plain old)

  below : (v : ℕ) → InTarget (Memory a) v → v < t.0
  below v e = omega (arith, in_target_below (Memory a) v e, named, number)

  writes_it : writes (instr.Addr t a) t.0 ≡ true
  writes_it = grind (arith, nat_tests)

  has_address : ReadsWord at old addressed_there (Memory a) t.0
  has_address = record {
    reads = λ known c is. record {
      certifies = put_certifies known at (instr.Addr t a) declared declared_open
          (declare_certifies known Plain old c)
          (λ v r. declare_usable known Plain old at v (is v (in_address v a r)));
      result = put_written known at (instr.Addr t a) declared declared_open t.0 writes_it;
      others = λ v lt e. put_kept known at (instr.Addr t a) declared declared_open v refl
          (declare_usable known Plain old at v e);
    };
    valid = λ cells.
        put_valid at (instr.Addr t a) old declared declared_open
        (plain_valid old old (same_valid old))
        (obeys_address declared.args declared.vars t a plain there below
        (λ k e. let c = cells k e in (c.0, λ v is. c.1 v ((plain_adds old).params v k is))))
        refl;
    fresh = inr (omega (arith, number));
  }

  address_adds : AddsAtMost 1 1 0 0 old addressed_there
  address_adds = adds_on 0 1 0 0 1 0 0 0 old declared addressed_there (plain_adds old)
      (put_adds at (instr.Addr t a) declared declared_open)

module _ (at : ℕ) (old new : VProc) (target : Target) (a : Addr) (t : VarId)
    (target_is : target ≡ Memory a) (o : IsOpen old at)
    (is : new ≡ with_instr at (instr.Addr t a) (with_variable Plain old))
    (number : t.0 ≡ length old.vars) (named : above_target target ≤ length old.vars) where
  memory_named : above_target (Memory a) ≤ length old.vars
  memory_named = subst (λ (z : Target). above_target z ≤ length old.vars) target_is named

  pub address_ready : ReadsWord at old new target t.0
  address_ready = subst (λ (z : Target). ReadsWord at old new z t.0) (sym target_is)
      (subst (λ (z : VProc). ReadsWord at old z (Memory a) t.0) (sym is)
      (has_address at old t a o number memory_named))

  pub address_counts : AddsAtMost 1 1 0 0 old new
  address_counts = subst (AddsAtMost 1 1 0 0 old) (sym is)
      (address_adds at old t a o number memory_named)

-- ---- arguments

pub many_none : (us : List VarId) (all : List RArg) (i : ℕ) → length all ≤ i →
    length us + length (drop i all) ≡ length all → length us ≡ length all
many_none us all i past many =
    omega (arith, many, ap (λ (z : List RArg). length z) (drop_all i all past))

pub many_more : (us vs : List VarId) (v : VarId) (all : List RArg) (i : ℕ) (a : RArg) →
    vs ≡ us ++ v ∷ [] → i < length all → a ≡ get_or all i a → length us + length (drop i all) ≡
    length all → length vs + length (drop (i + 1) all) ≡ length all
many_more us vs v all i a pushed lt is many =
    omega (
      arith,
      many,
      ap (λ (z : List VarId). length z) pushed,
      length-append us (v ∷ []),
      ap (λ (z : List RArg). length z) (next_item all i a lt is),
    )

one_of_more : (us : List VarId) (v : VarId) (u : ℕ) → IsOneOf (us ++ v ∷ []) u → IsOneOf us u ⊎
    (u ≡ v.0)
one_of_more [] v u e = ⊎_elim (λ (s : u ≡ v.0). inr s) (λ (n : ⊥). absurd n) e
one_of_more (w ∷ us) v u e = ⊎_elim
    (λ (s : u ≡ w.0). inl (inl s))
    (λ (x : IsOneOf (us ++ v ∷ []) u). ⊎_elim (λ (y : IsOneOf us u). inl (inr y))
    (λ (s : u ≡ v.0). inr s) (one_of_more us v u x))
    e

module _ (g : Setting) where
  pub arguments_begin : (old : VProc) (at : ℕ) → PassesReady g old old at at []
  arguments_begin old at =
      record {
        stays = λ counts known r. continues_same g counts known (length old.vars) old at
            (IsOneOf []) r (λ v e. absurd e);
        named = λ u e. absurd e;
      }

  pub arguments_on : (old mid new : VProc) (from between to : ℕ) (us vs : List VarId) (v : VarId) →
      vs ≡ us ++ v ∷ [] → length old.vars ≤ length mid.vars → count old ≤ count mid →
      length mid.vars ≤ length new.vars → PassesReady g old mid from between us →
      StaysReady g (length mid.vars) mid new between to (IsAnswer v.0) → v.0 < length new.vars →
      PassesReady g old new from to vs
  arguments_on old mid new from between to us vs v is vars wide more p q named =
      subst (PassesReady g old new from to) (sym is) (record {
        stays = λ counts known r.
            let c = p.stays counts known r in
            let d = q.stays counts c.next c.ready in
            record {
              next = d.next;
              same = λ b x lt. d.same b x (omega (arith, lt, wide)) ∙ c.same b x lt;
              ready = d.ready;
              answer = λ u e. ⊎_elim
                  (λ (x : IsOneOf us u). d.others u (p.named u x) (c.answer u x))
                  (λ (s : u ≡ v.0). d.answer u s)
                  (one_of_more us v u e);
              others = λ u lt e. d.others u (omega (arith, lt, vars)) (c.others u lt e);
            };
        named = λ u e. ⊎_elim
            (λ (x : IsOneOf us u). omega (arith, p.named u x, more))
            (λ (s : u ≡ v.0). omega (arith, s, named))
            (one_of_more us v u e);
      })

-- ---- instructions that are put one after the other at the end of a block

pub record Appends (at : ℕ) (is : List VInstr) (old new : VProc) : Type 0 where
  pub code : code_of new at ≡ code_of old at ++ is
  pub others : (b : ℕ) → b ≢ at → block_of new b ≡ block_of old b
  pub blocks : count new ≡ count old
  pub end : end_of new at ≡ end_of old at
  pub vars : new.vars ≡ old.vars
  pub args : new.args ≡ old.args
  pub aggregates : new.aggregates ≡ old.aggregates

appends_none : (at : ℕ) (old : VProc) → Appends at [] old old
appends_none at old = record {
  code = sym (append-nil (code_of old at));
  others = λ b d. refl;
  blocks = refl;
  end = refl;
  vars = refl;
  args = refl;
  aggregates = refl;
}

appends_one : (at : ℕ) (i : VInstr) (old : VProc) → IsOpen old at →
    Appends at (i ∷ []) old (with_instr at i old)
appends_one at i old o = record {
  code = put_code at i old o;
  others = λ b d. get_or-set_other old.blocks at b
      (record {
        depth = (block_of old at).depth;
        code = code_of old at ++ i ∷ [];
        end =
            end_of old at;
      }) no_block d;
  blocks = put_count at i old o;
  end = (put_open at i old o).1 ∙ sym o.1;
  vars = refl;
  args = refl;
  aggregates = refl;
}

appends_on : (at : ℕ) (is js : List VInstr) (a b c : VProc) → Appends at is a b →
    Appends at js b c → Appends at (is ++ js) a c
appends_on at is js a b c p q = record {
  code = q.code ∙ ap (λ l. l ++ js) p.code ∙ append_assoc (code_of a at) is js;
  others = λ n d. q.others n d ∙ p.others n d;
  blocks = q.blocks ∙ p.blocks;
  end = q.end ∙ p.end;
  vars = q.vars ∙ p.vars;
  args = q.args ∙ p.args;
  aggregates = q.aggregates ∙ p.aggregates;
}

abbrev pushes : List VarId → List VInstr
pushes [] = []
pushes (v ∷ vs) = Push v ∷ pushes vs

appends_pushes : (at : ℕ) (vs : List VarId) (old : VProc) → IsOpen old at →
    Appends at (pushes vs) old (with_pushes at vs old)
appends_pushes at [] old o = appends_none at old
appends_pushes at (v ∷ vs) old o =
    let one = with_instr at (Push v) old in
    appends_on at (Push v ∷ []) (pushes vs) old one (with_pushes at vs one)
    (appends_one at (Push v) old o) (appends_pushes at vs one (put_open at (Push v) old o))

appends_call : (at : ℕ) (p : ProcId) (vs : List VarId) (old : VProc) → IsOpen old at →
    Appends at (pushes vs ++ Call p ∷ []) old (with_call at p vs old)
appends_call at p vs old o =
    let pushed = with_pushes at vs old in
    appends_on at (pushes vs) (Call p ∷ []) old pushed (with_call at p vs old)
    (appends_pushes at vs old o) (appends_one at (Call p) pushed (pushes_open at vs old o))

-- ---- pushes before calls

lead_on : (T : ℕ → ℕ → Type 0) (xs ys : List VInstr) (n : ℕ) → PushesLead T 0 ys →
    PushesLead T n xs → PushesLead T n (xs ++ ys)
lead_on T [] ys n more z = subst (λ k. PushesLead T k ys) (sym z) more
lead_on T (Push u ∷ xs) ys n more p = lead_on T xs ys (suc n) more p
lead_on T (Call u ∷ xs) ys n more p = (p.0, lead_on T xs ys 0 more p.1)
lead_on T (Set v m ∷ xs) ys n more p = (p.0, lead_on T xs ys 0 more p.1)
lead_on T (Copy v s ∷ xs) ys n more p = (p.0, lead_on T xs ys 0 more p.1)
lead_on T (Add v s ∷ xs) ys n more p = (p.0, lead_on T xs ys 0 more p.1)
lead_on T (Sub v s ∷ xs) ys n more p = (p.0, lead_on T xs ys 0 more p.1)
lead_on T (And v s ∷ xs) ys n more p = (p.0, lead_on T xs ys 0 more p.1)
lead_on T (Or v s ∷ xs) ys n more p = (p.0, lead_on T xs ys 0 more p.1)
lead_on T (Xor v s ∷ xs) ys n more p = (p.0, lead_on T xs ys 0 more p.1)
lead_on T (Mul v s ∷ xs) ys n more p = (p.0, lead_on T xs ys 0 more p.1)
lead_on T (Neg v ∷ xs) ys n more p = (p.0, lead_on T xs ys 0 more p.1)
lead_on T (Shift op v m ∷ xs) ys n more p = (p.0, lead_on T xs ys 0 more p.1)
lead_on T (Cmp a c ∷ xs) ys n more p = (p.0, lead_on T xs ys 0 more p.1)
lead_on T (CmpSet k v a c ∷ xs) ys n more p = (p.0, lead_on T xs ys 0 more p.1)
lead_on T (DivMod q r a d ∷ xs) ys n more p = (p.0, lead_on T xs ys 0 more p.1)
lead_on T (Check v m ∷ xs) ys n more p = (p.0, lead_on T xs ys 0 more p.1)
lead_on T (CheckPos v ∷ xs) ys n more p = (p.0, lead_on T xs ys 0 more p.1)
lead_on T (Load v a ∷ xs) ys n more p = (p.0, lead_on T xs ys 0 more p.1)
lead_on T (Store a s ∷ xs) ys n more p = (p.0, lead_on T xs ys 0 more p.1)
lead_on T (instr.Addr v a ∷ xs) ys n more p = (p.0, lead_on T xs ys 0 more p.1)
lead_on T (Read v ∷ xs) ys n more p = (p.0, lead_on T xs ys 0 more p.1)
lead_on T (Write s ∷ xs) ys n more p = (p.0, lead_on T xs ys 0 more p.1)
lead_on T (Line ∷ xs) ys n more p = (p.0, lead_on T xs ys 0 more p.1)
lead_on T (Clear ∷ xs) ys n more p = (p.0, lead_on T xs ys 0 more p.1)

call_leads : (T : ℕ → ℕ → Type 0) (p : ProcId) (vs : List VarId) (n : ℕ) → T p.0 (n + length vs) →
    PushesLead T n (pushes vs ++ Call p ∷ [])
call_leads T p [] n t = (subst (T p.0) (no_more n) t, refl)
  where
    no_more : (n : ℕ) → n + 0 ≡ n
    no_more n = omega arith
call_leads T p (v ∷ vs) n t = call_leads T p vs (suc n) (subst (T p.0) (one_more n (length vs)) t)
  where
    one_more : (n k : ℕ) → n + suc k ≡ suc n + k
    one_more n k = omega arith

-- ---- lists

data Within (xs ys : List VInstr) (n : ℕ) (j : VInstr) : Type 0 where
  before : slice_get xs n ≡ Some j → Within xs ys n j
  after : (m : ℕ) → slice_get ys m ≡ Some j → Within xs ys n j

within : (xs ys : List VInstr) (n : ℕ) (j : VInstr) → slice_get (xs ++ ys) n ≡ Some j →
    Within xs ys n j
within [] ys n j e = after n e
within (x ∷ xs) ys zero j e = before e
within (x ∷ xs) ys (suc n) j e = on (within xs ys n j e)
  where
    on : Within xs ys n j → Within (x ∷ xs) ys (suc n) j
    on (before is) = before is
    on (after m is) = after m is

still_there : (xs ys : List VInstr) (n : ℕ) (j : VInstr) → slice_get xs n ≡ Some j →
    slice_get (xs ++ ys) n ≡ Some j
still_there [] ys n j e = absurd (cc)
still_there (x ∷ xs) ys zero j e = e
still_there (x ∷ xs) ys (suc n) j e = still_there xs ys n j e

-- ---- the rules

module _ (counts : List ℕ) (at : ℕ) (is : List VInstr) (old new : VProc) (a : Appends at is old new)
    (o : IsOpen old at) (k : KeepsRules counts old)
    (obeys : (n : ℕ) (j : VInstr) → slice_get is n ≡ Some j → Obeys old.args old.vars j)
    (leads : PushesLead (TakesArgs counts) 0 is)
    (unclear : (n : ℕ) → slice_get is n ≡ Some Clear → ⊥) where
  here : (b : ℕ) → b ≡ at → code_of new b ≡ code_of old at ++ is
  here b e = ap (code_of new) e ∙ a.code

  obeys_either : (n : ℕ) (j : VInstr) → Within (code_of old at) is n j → Obeys old.args old.vars j
  obeys_either n j (before x) = k.obeys at n j x
  obeys_either n j (after m x) = obeys m j x

  obeys_there : (b n : ℕ) (j : VInstr) → slice_get (code_of new b) n ≡ Some j →
      Obeys old.args old.vars j
  obeys_there b n j x = ⊎_elim
      (λ (e : b ≡ at). obeys_either n j
      (within (code_of old at) is n j (ap (λ l. slice_get l n) (sym (here b e)) ∙ x)))
      (λ (d : b ≢ at). k.obeys b n j (ap (λ (y : Block). slice_get y.code n) (sym (a.others b d))
      ∙ x))
      (cases_eq b at)

  leads_there : (b : ℕ) → PushesLead (TakesArgs counts) 0 (code_of new b)
  leads_there b = ⊎_elim
      (λ (e : b ≡ at). subst (PushesLead (TakesArgs counts) 0) (sym (here b e))
      (lead_on (TakesArgs counts) (code_of old at) is 0 leads (k.pushes_before_calls at)))
      (λ (d : b ≢ at). subst (λ (y : Block). PushesLead (TakesArgs counts) 0 y.code)
      (sym (a.others b d)) (k.pushes_before_calls b))
      (cases_eq b at)

  was_clear : (n : ℕ) → Within (code_of old at) is n Clear → slice_get (code_of old at) n ≡
      Some Clear
  was_clear n (before x) = x
  was_clear n (after m x) = absurd (unclear m x)

  clears : (b n : ℕ) → slice_get (code_of new b) n ≡ Some Clear → slice_get (code_of old b) n ≡
      Some Clear
  clears b n x = ⊎_elim
      (λ (e : b ≡ at). ap (λ c. slice_get (code_of old c) n) e
      ∙ was_clear n (within (code_of old at) is n Clear
      (ap (λ l. slice_get l n) (sym (here b e)) ∙ x)))
      (λ (d : b ≢ at). ap (λ (y : Block). slice_get y.code n) (sym (a.others b d)) ∙ x)
      (cases_eq b at)

  stays_clear : (b n : ℕ) → slice_get (code_of old b) n ≡ Some Clear → slice_get (code_of new b) n ≡
      Some Clear
  stays_clear b n x = ⊎_elim
      (λ (e : b ≡ at). ap (λ l. slice_get l n) (here b e) ∙ still_there (code_of old at) is n Clear
      (ap (λ c. slice_get (code_of old c) n) (sym e) ∙ x))
      (λ (d : b ≢ at). ap (λ (y : Block). slice_get y.code n) (a.others b d) ∙ x)
      (cases_eq b at)

  abbrev Ends : ℕ → Block → Type 0
  Ends n y = (y.end ≡ stand_in) ⊎ ClosesWell n y

  ends_there : (b : ℕ) → b < count new → Ends (count new) (block_of new b)
  ends_there b lt = ⊎_elim
      (λ (e : b ≡ at). inl (ap (λ c. (block_of new c).end) e ∙ a.end ∙ o.1))
      (λ (d : b ≢ at). subst (Ends (count new)) (sym (a.others b d))
      (subst (λ n. Ends n (block_of old b)) (sym a.blocks)
      (k.ends b (omega (arith, lt, a.blocks)))))
      (cases_eq b at)

  pub appended_rules : KeepsRules counts new
  appended_rules = record {
    obeys = λ b n j x. subst (λ m. Obeys m new.vars j) (sym a.args)
        (subst (λ vs. Obeys old.args vs j) (sym a.vars) (obeys_there b n j x));
    pushes_before_calls = leads_there;
    clear_first = λ b n. (
      λ x. subst (λ m. (m ≢ 0) × (b ≡ 0) × (n ≡ 0)) (sym a.aggregates)
          ((k.clear_first b n).0 (clears b n x)),
      λ p. stays_clear b n ((k.clear_first b n).1
          (subst (λ m. (m ≢ 0) × (b ≡ 0) × (n ≡ 0)) a.aggregates p)),
    );
    ends = ends_there;
  }

-- ---- a call

call_obeys : (args : ℕ) (vars : List VarKind) (p : ProcId) (vs : List VarId) →
    ((u : ℕ) → IsOneOf vs u → u < length vars) → (n : ℕ) (j : VInstr) →
    slice_get (pushes vs ++ Call p ∷ []) n ≡ Some j → Obeys args vars j
call_obeys args vars p [] named zero j e = subst (Obeys args vars) (some_is (Call p) j e)
    (obeys_call args vars p)
  where
    some_is : (x y : VInstr) → Some x ≡ Some y → x ≡ y
    some_is x y e = cc
call_obeys args vars p [] named (suc n) j e = absurd (cc)
call_obeys args vars p (v ∷ vs) named zero j e = subst (Obeys args vars) (some_is (Push v) j e)
    (obeys_push args vars v (named v.0 (inl refl)))
  where
    some_is : (x y : VInstr) → Some x ≡ Some y → x ≡ y
    some_is x y e = cc
call_obeys args vars p (v ∷ vs) named (suc n) j e =
    call_obeys args vars p vs (λ u x. named u (inr x)) n j e

call_unclear : (p : ProcId) (vs : List VarId) (n : ℕ) → slice_get (pushes vs ++ Call p ∷ []) n ≡
    Some Clear → ⊥
call_unclear p [] zero e = cc
call_unclear p [] (suc n) e = cc
call_unclear p (v ∷ vs) zero e = cc
call_unclear p (v ∷ vs) (suc n) e = call_unclear p vs n e

-- what may be read stays so behind pushes
record Certified (known : Entries) (at : ℕ) (old new : VProc) : Type 0 where
  pub certifies : Certifies known new
  pub others : (u : ℕ) → usable known old at u ≡ true → usable known new at u ≡ true

pushes_certified : (known : Entries) (at : ℕ) (vs : List VarId) (old : VProc) → IsOpen old at →
    Certifies known old → ((u : ℕ) → IsOneOf vs u → usable known old at u ≡ true) →
    Certified known at old (with_pushes at vs old)
pushes_certified known at [] old o c may = record { certifies = c; others = λ u is. is }
pushes_certified known at (v ∷ vs) old o c may =
    let one = with_instr at (Push v) old in
    let kept : (u : ℕ) → usable known old at u ≡ true → usable known one at u ≡ true =
    λ u is. put_kept known at (Push v) old o u refl is in
    let rest = pushes_certified known at vs one (put_open at (Push v) old o)
    (put_certifies known at (Push v) old o c
    (λ u r. ap (usable known old at) (push_reads v u r) ∙ may v.0 (inl refl)))
    (λ u x. kept u (may u (inr x))) in
    record { certifies = rest.certifies; others = λ u is. rest.others u (kept u is) }

module _ (counts : List ℕ) (known : Entries) (at : ℕ) (p : ProcId) (vs : List VarId) (old : VProc)
    (o : IsOpen old at) (k : KeepsRules counts old) (c : Certifies known old)
    (named : (u : ℕ) → IsOneOf vs u → u < length old.vars)
    (may : (u : ℕ) → IsOneOf vs u → usable known old at u ≡ true)
    (takes : TakesArgs counts p.0 (length vs)) where
  keeps_call : Keeps counts known at old (with_call at p vs old)
  keeps_call =
      let pushed = with_pushes at vs old in
      let pushed_open = pushes_open at vs old o in
      let behind = pushes_certified known at vs old o c may in
      record {
        rules = appended_rules counts at (pushes vs ++ Call p ∷ []) old (with_call at p vs old)
            (appends_call at p vs old o) o k (call_obeys old.args old.vars p vs named)
            (call_leads (TakesArgs counts) p vs 0
            (subst (TakesArgs counts p.0) (from_none (length vs)) takes)) (call_unclear p vs);
        certifies = put_certifies known at (Call p) pushed pushed_open behind.certifies
            (λ u r. absurd (cc));
        others = λ u is. put_kept known at (Call p) pushed pushed_open u refl (behind.others u is);
      }
    where
      from_none : (n : ℕ) → n ≡ 0 + n
      from_none n = omega arith

-- ---- as many as the procedure has parameters

passed_length : (program : Checked) (proc : ℕ) (params : List Parameter) (args : List RArg) →
    are_passed program proc params args ≡ true → length params ≡ length args
passed_length program proc [] [] e = refl
passed_length program proc [] (a ∷ args) e = absurd (cc)
passed_length program proc (x ∷ params) [] e = absurd (cc)
passed_length program proc (x ∷ params) (a ∷ args) e =
    ap suc (passed_length program proc params args
    (and_true (is_passed program proc x a) (are_passed program proc params args) e).1)

call_length : (program : Checked) (proc : ℕ) (o : Option CheckedProc) (args : List RArg) →
    is_call program proc o args ≡ true → option_map (λ (callee : CheckedProc). length callee.params)
    o ≡ Some (length args)
call_length program proc (Some callee) args e =
    ap Some (passed_length program proc callee.params args e)
call_length program proc None args e = absurd (cc)

call_takes : (program : Checked) (counts : List ℕ) (proc p n : ℕ) (args : List RArg) →
    counts ≡ parameter_counts program → is_call program proc (slice_get program.procs p) args ≡
    true → n ≡ length args → TakesArgs counts p n
call_takes program counts proc p n args is call many =
    ap (λ l. slice_get l p) is
    ∙ slice_get-map (λ (callee : CheckedProc). length callee.params) program.procs p
    ∙ call_length program proc (slice_get program.procs p) args call
    ∙ ap Some (sym many)

module _ (g : Setting) (old mid new : VProc) (from to : ℕ) (p : ProcId) (vs : List VarId)
    (args : List RArg) (low : above_setting g ≤ length old.vars) (e : Extends from to old mid)
    (params : AddsNoParam old mid)
    (passes : PassesReady g old mid from to vs) (many : length vs ≡ length args)
    (is : new ≡ with_call to p vs mid) where
  called_grows : GrowsAt to mid (with_call to p vs mid)
  called_grows = grows_at_again mid (with_pushes to vs mid) (with_call to p vs mid) to
      (pushes_grow to vs mid e.is_open)
      (put_grows to (Call p) (with_pushes to vs mid) (pushes_open to vs mid e.is_open))

  new_grows : Grows mid new
  new_grows = subst (λ (z : VProc). Grows mid z) (sym is) called_grows.grows

  all : GrowsAt from old new
  all = grows_at_on old mid new from to e.grows
      (subst (λ (z : VProc). GrowsAt to mid z) (sym is) called_grows) e.apart

  no_params : AddsNoParam mid new
  no_params v n x = ap (λ (l : List VarKind). slice_get l v)
      (sym (ap (λ (z : VProc). z.vars) is ∙ (appends_call to p vs mid e.is_open).vars)) ∙ x

  pub call_ready : (addressed : Bool) → KeepsReady g old new from to
      (is_call g.program.now g.id.0 (slice_get g.program.now.procs p.0) args && addressed)
  call_ready addressed = record {
    stays = λ counts known counts_are good r.
        let c = passes.stays counts known r in
        let call = (and_true (is_call g.program.now g.id.0 (slice_get g.program.now.procs p.0) args)
        addressed good).0 in
        let k : Keeps counts c.next to mid (with_call to p vs mid) =
        keeps_call counts c.next to p vs mid e.is_open c.ready.rules c.ready.certifies passes.named
        c.answer (call_takes g.program.now counts g.id.0 p.0 (length vs) args counts_are call
        many) in
        proceeds_put g counts known old mid new from to (IsOneOf vs) low c
        (subst (λ (z : VProc). Keeps counts c.next to mid z) (sym is) k) all new_grows params
        no_params e.grows.grows.vars;
  }

-- ---- what is called is what was evaluated

pub call_as : (at : ℕ) (p : ProcId) (us vs : List VarId) (mid new : VProc) → us ≡ vs →
    new ≡ with_call at p us mid → new ≡ with_call at p vs mid
call_as at p us vs mid new same is = is ∙ ap (λ ws. with_call at p ws mid) same

module _ (at : ℕ) (p : ProcId) (vs : List VarId) (mid new : VProc) (o : IsOpen mid at)
    (is : new ≡ with_call at p vs mid) where
  call_grows : GrowsAt at mid (with_call at p vs mid)
  call_grows = grows_at_again mid (with_pushes at vs mid) (with_call at p vs mid) at
      (pushes_grow at vs mid o)
      (put_grows at (Call p) (with_pushes at vs mid) (pushes_open at vs mid o))

  pub call_text : (n from : ℕ) (old : VProc) (o1 o2 : List BlockId) →
      StaysInText n from at old mid o1 o2 → StaysInText n from at old new o1 o2
  call_text n from old o1 o2 stays =
      subst (λ (z : VProc). StaysInText n from at old z o1 o2) (sym is)
      (text_after n from at old mid (with_call at p vs mid) o1 o2 stays call_grows
      (omega (arith, (appends_call at p vs mid o).blocks)) o)

  pub call_hands : HandsOn at at mid new
  call_hands =
      subst (HandsOn at at mid) (sym is)
      (hands_same at mid (with_call at p vs mid) call_grows
      (omega (arith, (appends_call at p vs mid o).blocks)) o
      (put_open at (Call p) (with_pushes at vs mid) (pushes_open at vs mid o)))
