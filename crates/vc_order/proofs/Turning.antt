-- A branch that is turned round goes to the same targets, so code keeps all rules.
use Rattle.std.proofs.Common.{◌≡◌, ◌≢◌, ℕ, suc, ◌+◌, ◌*◌, ◌<◌, ◌≤◌, ◌⊎◌, inl, inr, ⊎_elim, Bool, true}
use Rattle.std.proofs.Common.{false, not, List, [], ◌∷◌, length, map, Some, refl, sym, ap, subst, ◌∙◌}
use Rattle.std.proofs.Common.{arith}
use Rattle.std.specs.Prelude.{slice_get, slice_set, slice_index_or, ◌==◌, ◌↔◌}
use Rattle.std.proofs.lemmas.Bool.{cases_eq, cases_lt}
use Rattle.std.proofs.lemmas.Bool.Decides.{nat_tests}
use Rattle.std.proofs.lemmas.List.{length-set, get_or_past, get_or-set_same, get_or-set_other}
use Rattle.std.proofs.lemmas.List.Sums.{sum_by-cons}
use Rattle.pra_base.specs.Words.{compares, sign, diff32}
use Rattle.pra_base.specs.declared.ids.BlockId.{BlockId}
use Rattle.pra_base.specs.declared.ids.Cond.{Cond}
use Rattle.pra_base.specs.declared.ids.Cond.TheVariants.{B, Ae, E, Ne, Be, A, S, Ns, L, Ge, Le, G}
use Rattle.pra_base.specs.declared.code.Block.{Block}
use Rattle.pra_base.specs.declared.code.End.{End}
use Rattle.pra_base.specs.declared.code.End.TheVariants.{Jump, Branch, Return}
use Rattle.pra_base.specs.declared.code.VarKind.{VarKind}
use Rattle.pra_base.specs.declared.code.VarKind.TheVariants.{Param, Plain, Constant}
use Rattle.pra_base.specs.declared.code.VInstr.{VInstr}
use Rattle.pra_base.specs.declared.code.VInstr.TheVariants.{Clear}
use Rattle.pra_base.specs.declared.code.VProc.{VProc}
use Rattle.pra_base.specs.Code.{kind_of, no_block, block_in, block_of, code_of, end_of, instr_at}
use Rattle.pra_base.specs.Code.{IsTarget, EachInstr}
use Rattle.pra_base.specs.Live.{Point, Goes, Path, passes, point_at, LiveAs, Live}
use Rattle.pra_base.specs.Live.Goes.{over, leaves}
use Rattle.pra_base.specs.Live.Path.{stays as at_once, then as then_on}
use Rattle.pra_base.specs.Operands.{reads, writes}
use Rattle.pra_base.specs.Valid.{EntryBlock, LastReturn, EndsWithCmp, CmpBeforeBranch, DivisionApart}
use Rattle.pra_base.specs.Valid.{LiveAtEntry, PushesLead, PushesBeforeCalls, TakesAny, ClearFirst}
use Rattle.pra_base.specs.Valid.{KeepsBlockRules, IsValid, instruction_count}
use Rattle.vc_order.specs.Order.{depths}
use Rattle.vc_order.specs.Turned.{opposite, turned_end, turned, IsTurned, IsShort}

-- ---- conditions

twice : (b : Bool) → b ≡ not (not b)
twice true = refl
twice false = refl

pub negates : (k : Cond) (a b : ℕ) → compares (opposite k) a b ≡ not (compares k a b)
negates B a b = grind (arith, nat_tests)
negates Ae a b = grind (arith, nat_tests)
negates E a b = refl
negates Ne a b = twice (a == b)
negates Be a b = grind (arith, nat_tests)
negates A a b = grind (arith, nat_tests)
negates S a b = refl
negates Ns a b = twice (sign (diff32 a b))
negates L a b = grind (arith, nat_tests)
negates Ge a b = grind (arith, nat_tests)
negates Le a b = grind (arith, nat_tests)
negates G a b = grind (arith, nat_tests)

-- ---- where control goes

turned_target : (e : End) (t : ℕ) → IsTarget (turned_end e) t → IsTarget e t
turned_target (Jump b) t i = i
turned_target (Branch k one other) t i = ⊎_elim (λ (e : other.0 ≡ t). inr e)
    (λ (e : one.0 ≡ t). inl e) i
turned_target Return t i = i

turned_return : (e : End) → turned_end e ≡ Return → e ≡ Return
turned_return (Jump b) e = absurd (cc)
turned_return (Branch k one other) e = absurd (cc)
turned_return Return e = refl

turned_branch : (e : End) (k : Cond) (one other : BlockId) → turned_end e ≡ Branch k one other →
    (j : Cond) × (a z : BlockId) × (e ≡ Branch j a z)
turned_branch (Jump b) k one other e = absurd (cc)
turned_branch (Branch j a z) k one other e = (j, a, z, refl)
turned_branch Return k one other e = absurd (cc)

module _ (old new : VProc) (is : IsTurned old new) where
  pub same_code : (b : ℕ) → code_of new b ≡ code_of old b
  same_code b = ⊎_elim (λ e. ap (λ (x : Block). x.code) e) (λ e. ap (λ (x : Block). x.code) e)
      (is.blocks b)

  pub same_depth : (b : ℕ) → (block_of new b).depth ≡ (block_of old b).depth
  same_depth b = ⊎_elim (λ e. ap (λ (x : Block). x.depth) e) (λ e. ap (λ (x : Block). x.depth) e)
      (is.blocks b)

  end_is : (b : ℕ) → (end_of new b ≡ end_of old b) ⊎ (end_of new b ≡ turned_end (end_of old b))
  end_is b = ⊎_elim (λ e. inl (ap (λ (x : Block). x.end) e))
      (λ e. inr (ap (λ (x : Block). x.end) e)) (is.blocks b)

  pub same_target : (b t : ℕ) → IsTarget (end_of new b) t → IsTarget (end_of old b) t
  same_target b t i = ⊎_elim
      (λ (e : end_of new b ≡ end_of old b). subst (λ x. IsTarget x t) e i)
      (λ (e : end_of new b ≡ turned_end (end_of old b)). turned_target (end_of old b) t
      (subst (λ x. IsTarget x t) e i)) (end_is b)

  pub each_too : (P : VInstr → Type 0) → EachInstr old.blocks P → EachInstr new.blocks P
  each_too P all b k i e = all b k i (ap (λ l. slice_get l k) (sym (same_code b)) ∙ e)

  pub pushes_too : (Takes : ℕ → ℕ → Type 0) → PushesBeforeCalls Takes old.blocks →
      PushesBeforeCalls Takes new.blocks
  pushes_too Takes all b = subst (PushesLead Takes 0) (sym (same_code b)) (all b)

  -- ---- liveness

  same_instr : (b k : ℕ) → instr_at new b k ≡ instr_at old b k
  same_instr b k = ap (λ l. slice_get l k) (same_code b)

  same_test : (test : VInstr → Bool) (b k : ℕ) → passes test (instr_at new b k) ≡
      passes test (instr_at old b k)
  same_test test b k = ap (passes test) (same_instr b k)

  goes_too : (p q : Point) → Goes new p q → Goes old p q
  goes_too p q (over here) = over (sym (same_instr p.block p.index) ∙ here)
  goes_too p q (leaves {b = t} here target) =
      leaves (sym (same_instr p.block p.index) ∙ here) (same_target p.block t target)

  path_too : (v : ℕ) (p q : Point) → Path new v p q → Path old v p q
  path_too v p q at_once = at_once
  path_too v p q (then_on {q = m} free goes rest) =
      then_on (sym (same_test (λ i. writes i v) p.block p.index) ∙ free) (goes_too p m goes)
      (path_too v m q rest)

  live_as : (kind : VarKind) (v b l : ℕ) → LiveAs kind new v b l → LiveAs kind old v b l
  live_as (Constant n) v b l live = record {
    first = live.first;
    last = live.last;
    reads_first = sym (same_test (λ i. reads i v) b live.first) ∙ live.reads_first;
    reads_last = sym (same_test (λ i. reads i v) b live.last) ∙ live.reads_last;
    from = live.from;
    to = live.to;
  }
  live_as Plain v b l live = record {
    to = live.to;
    path = path_too v (point_at b l) live.to live.path;
    read = sym (same_test (λ i. reads i v) live.to.block live.to.index) ∙ live.read;
  }
  live_as (Param i) v b l live = record {
    to = live.to;
    path = path_too v (point_at b l) live.to live.path;
    read = sym (same_test (λ j. reads j v) live.to.block live.to.index) ∙ live.read;
  }

  same_kind : (v : ℕ) → kind_of new v ≡ kind_of old v
  same_kind v = ap (λ (ks : List VarKind). slice_index_or ks v Plain) is.vars

  live_too : (v b l : ℕ) → Live new v b l → Live old v b l
  live_too v b l live = live_as (kind_of old v) v b l
      (subst (λ k. LiveAs k new v b l) (same_kind v) live)

  -- ---- the rules

  below : (b : ℕ) → b < length new.blocks → b < length old.blocks
  below b lt = let long : length new.blocks ≡ length old.blocks = is.count in
      omega (arith, lt, long)

  last_return : LastReturn old.blocks → LastReturn new.blocks
  last_return r = record {
    there = subst (λ n. 0 < n) (sym is.count) r.there;
    exactly = λ b lt. (
      λ e. ⊎_elim
          (λ (s : end_of new b ≡ end_of old b). (r.exactly b (below b lt)).0 (sym s ∙ e))
          (λ (s : end_of new b ≡ turned_end (end_of old b)). (r.exactly b (below b lt)).0
          (turned_return (end_of old b) (sym s ∙ e))) (end_is b) ∙ sym is.count,
      λ e. let back = (r.exactly b (below b lt)).1 (e ∙ is.count) in
          ⊎_elim (λ (s : end_of new b ≡ end_of old b). s ∙ back)
          (λ (s : end_of new b ≡ turned_end (end_of old b)). s ∙ ap turned_end back) (end_is b),
    );
  }

  cmp_before : CmpBeforeBranch old.blocks → CmpBeforeBranch new.blocks
  cmp_before r b k one other e =
      subst EndsWithCmp (sym (same_code b))
      (⊎_elim (λ (s : end_of new b ≡ end_of old b). r b k one other (sym s ∙ e))
      (λ (s : end_of new b ≡ turned_end (end_of old b)).
      let was = turned_branch (end_of old b) k one other (sym s ∙ e) in
      r b was.0 was.1 was.2 was.3) (end_is b))

  clear_first : (aggregates : ℕ) → ClearFirst aggregates old.blocks →
      ClearFirst aggregates new.blocks
  clear_first aggregates r b k =
      subst (λ code. (slice_get code k ≡ Some Clear) ↔ ((aggregates ≢ 0) × (b ≡ 0) × (k ≡ 0)))
      (sym (same_code b)) (r b k)

  block_rules : KeepsBlockRules old.aggregates old.blocks →
      KeepsBlockRules new.aggregates new.blocks
  block_rules r = subst (λ n. KeepsBlockRules n new.blocks) (sym is.aggregates) (record {
    last_return = last_return r.last_return;
    cmp_before_branch = cmp_before r.cmp_before_branch;
    pushes_before_calls = pushes_too TakesAny r.pushes_before_calls;
    clear_first = clear_first old.aggregates r.clear_first;
    check_range = λ b k i e. r.check_range b k i (sym (same_instr b k) ∙ e);
    shift_range = λ b k i e. r.shift_range b k i (sym (same_instr b k) ∙ e);
  })

  divisions : DivisionApart old → DivisionApart new
  divisions r b k q m a d here =
      let was = r b k q m a d (sym (same_instr b k) ∙ here) in
      record {
        q_r = was.q_r;
        q_a = was.q_a;
        q_d = was.q_d;
        r_a = was.r_a;
        r_d = was.r_d;
        a_d = was.a_d;
        dead = λ live. was.dead (live_too a.0 b (2 * k + 2) live);
      }

  entry_block : EntryBlock old.blocks → EntryBlock new.blocks
  entry_block r = record {
    there = subst (λ n. 0 < n) (sym is.count) r.there;
    no_target = λ b lt target. r.no_target b (below b lt) (same_target b 0 target);
  }

  live_at_entry : LiveAtEntry old → LiveAtEntry new
  live_at_entry r v live = let was = r v (live_too v 0 0 live) in (was.0, same_kind v ∙ was.1)

  pub valid_too : IsValid old → IsValid new
  valid_too r = record {
    entry_block = entry_block r.entry_block;
    block_rules = block_rules r.block_rules;
    roles_apart = λ b k i e. r.roles_apart b k i (sym (same_instr b k) ∙ e);
    division_apart = divisions r.division_apart;
    constants_kept = λ v n kind b k i e. r.constants_kept v n (sym (same_kind v) ∙ kind) b k i
        (sym (same_instr b k) ∙ e);
    live_at_entry = live_at_entry r.live_at_entry;
    arguments_apart = record {
      params = λ v w i a z. r.arguments_apart.params v w i
          (ap (λ (ks : List VarKind). slice_get ks v) (sym is.vars) ∙ a)
          (ap (λ (ks : List VarKind). slice_get ks w) (sym is.vars) ∙ z);
      cells = λ b k j e v i names param. r.arguments_apart.cells b k j
          (sym (same_instr b k) ∙ e) v i names
          (ap (λ (ks : List VarKind). slice_get ks v) (sym is.vars) ∙ param);
    };
  }

-- ---- as many instructions

same_sum : (xs ys : List Block) → length ys ≡ length xs →
    ((b : ℕ) → (block_in ys b).code ≡ (block_in xs b).code) →
    instruction_count ys ≡ instruction_count xs
same_sum [] [] long same = refl
same_sum [] (y ∷ ys) long same = absurd (omega (arith, long))
same_sum (x ∷ xs) [] long same = absurd (omega (arith, long))
same_sum (x ∷ xs) (y ∷ ys) long same =
    omega (
      arith,
      sum_by-cons (λ (b : Block). length b.code) y ys,
      sum_by-cons (λ (b : Block). length b.code) x xs,
      ap (λ (l : List VInstr). length l) (same 0),
      same_sum xs ys (omega (arith, long)) (λ b. same (suc b)),
    )

same_depths : (xs ys : List Block) → length ys ≡ length xs →
    ((b : ℕ) → (block_in ys b).depth ≡ (block_in xs b).depth) →
    map (λ (b : Block). b.depth) ys ≡ map (λ (b : Block). b.depth) xs
same_depths [] [] long same = refl
same_depths [] (y ∷ ys) long same = absurd (omega (arith, long))
same_depths (x ∷ xs) [] long same = absurd (omega (arith, long))
same_depths (x ∷ xs) (y ∷ ys) long same =
    ap (λ d. d ∷ map (λ (b : Block). b.depth) ys) (same 0)
    ∙ ap (λ l. x.depth ∷ l) (same_depths xs ys (omega (arith, long)) (λ b. same (suc b)))

module _ (old new : VProc) (is : IsTurned old new) where
  pub instructions_too : instruction_count new.blocks ≡ instruction_count old.blocks
  instructions_too = same_sum old.blocks new.blocks is.count (same_code old new is)

  pub depths_too : depths new ≡ depths old
  depths_too = same_depths old.blocks new.blocks is.count (same_depth old new is)

-- ---- the loop over the blocks

-- the first blocks go the short way, and the others are as they were
pub record AreShort (old : List Block) (done : ℕ) (now : List Block) : Type 0 where
  pub count : length now ≡ length old
  pub blocks : (b : ℕ) → (block_in now b ≡ block_in old b) ⊎
      (block_in now b ≡ turned (block_in old b))
  pub short : (b : ℕ) → b < done → IsShort (suc b) (block_in now b).end
  pub rest : (b : ℕ) → done ≤ b → block_in now b ≡ block_in old b

pub none_short : (old : List Block) → AreShort old 0 old
none_short old = record {
  count = refl;
  blocks = λ b. inl refl;
  short = λ b lt. absurd (omega (arith, lt));
  rest = λ b le. refl;
}

pub one_short : (old now : List Block) (done : ℕ) (z : Block) → AreShort old done now →
    done < length now → (z ≡ block_in now done) ⊎ (z ≡ turned (block_in now done)) →
    IsShort (done + 1) z.end → AreShort old (done + 1) (slice_set now done z)
one_short old now done z so_far lt one short = record {
  count = length-set now done z ∙ so_far.count;
  blocks = λ b. ⊎_elim
      (λ (s : b ≡ done). subst (λ k. (block_in (slice_set now done z) k ≡ block_in old k) ⊎
      (block_in (slice_set now done z) k ≡ turned (block_in old k))) (sym s)
      (⊎_elim (λ (d : z ≡ block_in now done). inl (here ∙ d ∙ was))
      (λ (d : z ≡ turned (block_in now done)). inr (here ∙ d ∙ ap turned was)) one))
      (λ (n : b ≢ done). subst (λ (y : Block). (y ≡ block_in old b) ⊎
      (y ≡ turned (block_in old b))) (sym (other b n)) (so_far.blocks b))
      (cases_eq b done);
  short = λ b l. ⊎_elim
      (λ (s : b ≡ done). subst (λ (y : Block). IsShort (suc b) y.end)
      (sym (ap (block_in (slice_set now done z)) s ∙ here))
      (subst (λ k. IsShort k z.end) (omega (arith, s)) short))
      (λ (n : b ≢ done). subst (λ (y : Block). IsShort (suc b) y.end) (sym (other b n))
      (so_far.short b (omega (arith, l, n))))
      (cases_eq b done);
  rest = λ b le. other b (λ s. omega (arith, le, s)) ∙ so_far.rest b (omega (arith, le));
}
  where
    here : block_in (slice_set now done z) done ≡ z
    here = get_or-set_same now done z no_block lt

    other : (b : ℕ) → b ≢ done → block_in (slice_set now done z) b ≡ block_in now b
    other b n = get_or-set_other now done b z no_block n

    was : block_in now done ≡ block_in old done
    was = so_far.rest done (omega arith)

-- the block with another end
pub with_end_of : (m i b : Block) (e : End) → m ≡ b → i ≡ b → (e ≡ i.end) ⊎ (e ≡ turned_end i.end) →
    (record m { end = e } ≡ b) ⊎ (record m { end = e } ≡ turned b)
with_end_of m i b e m_is i_is = ⊎_elim
    (λ (d : e ≡ i.end). inl (ap (λ (x : Block). record x { end = e }) m_is
    ∙ ap (λ (x : End). record b { end = x }) (d ∙ ap (λ (x : Block). x.end) i_is)))
    (λ (d : e ≡ turned_end i.end). inr (ap (λ (x : Block). record x { end = e }) m_is
    ∙ ap (λ (x : End). record b { end = x }) (d ∙ ap (λ (x : Block). turned_end x.end) i_is)))

pub all_short : (old now : List Block) (done : ℕ) → AreShort old done now → length old ≤ done →
    (b : ℕ) → IsShort (suc b) (block_in now b).end
all_short old now done all whole b = ⊎_elim
    (λ (lt : b < length old). all.short b (omega (arith, lt, whole)))
    (λ (le : length old ≤ b). subst (λ (z : Block). IsShort (suc b) z.end)
    (sym (get_or_past now b no_block (omega (arith, le, all.count)))) (λ k one other e. absurd (cc)))
    (cases_lt b (length old))
