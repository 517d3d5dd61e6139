-- Thinned blocks: how they are made from their end on, and that code of thinned blocks is reduced
-- code.
use Rattle.std.proofs.Common.{◌≡◌, ℕ, zero, suc, ◌+◌, ◌*◌, ◌/◌, ◌<◌, ◌≤◌, ◌⊎◌, inl, inr, ⊎_elim, ℤ}
use Rattle.std.proofs.Common.{Bool, true, false, not, ◌||◌, ◌&&◌, List, [], ◌∷◌, ◌++◌, drop, length}
use Rattle.std.proofs.Common.{reverse, get_or, slice_get, slice_index_or, Some, None, IsTrue, refl}
use Rattle.std.proofs.Common.{sym, ap, subst, ◌∙◌, arith}
use Rattle.std.proofs.lemmas.List.{drop_all, drop_more, reverse-append, get_or_past}
use Rattle.std.proofs.lemmas.Bool.{cases_lt}
use Rattle.pra_list.proofs.Elements.{left_begins, none_left, some_left}
use Rattle.pra_list.proofs.Truths.{true_false, truth}
use Rattle.pra_list.proofs.Options.{some_same, not_both}
use Rattle.pra_base.specs.declared.code.VarKind.{VarKind}
use Rattle.pra_base.specs.declared.code.VarKind.TheVariants.{Param, Plain, Constant}
use Rattle.pra_base.specs.declared.code.Block.{Block}
use Rattle.pra_base.specs.declared.code.VInstr.{VInstr}
use Rattle.pra_base.specs.declared.code.VProc.{VProc}
use Rattle.pra_base.specs.Code.{kind_of, block_in, block_of, code_of, end_of, instr_at, no_block}
use Rattle.pra_base.specs.Code.{IsTarget}
use Rattle.pra_base.specs.Operands.{reads, writes}
use Rattle.pra_base.specs.Live.{Point, Path, Live, LiveAs, ReadBeforeWritten, passes, reads_at}
use Rattle.pra_base.specs.Live.Goes.{over, leaves}
use Rattle.pra_base.specs.Live.Path.{stays as at_once, then as then_on}
use Rattle.pra_base.specs.Valid.{IsValid, IsSized, instruction_count}
use Rattle.std.specs.List.{list_any}
use Rattle.std.proofs.lemmas.List.Sums.{sum_by-cons}
use Rattle.std.proofs.lemmas.Option.{slice_get-get_or, slice_get_within, slice_get_past}
use Rattle.vc_code.specs.Machine.{is_param}
use Rattle.vc_same.specs.SameRuns.{Preserves}
use Rattle.vc_same.proofs.Valid.{preserves, fewer_in}
use Rattle.vc_live.specs.declared.liveness.Liveness.{Liveness}
use Rattle.vc_live.specs.Rows.{IsLiveness}
use Rattle.vc_same.specs.Pure.{is_pure}
use Rattle.vc_same.specs.Reduction.{Needed, Part, Reduced}
use Rattle.vc_same.specs.Reduction.LeftOut.{dead}
use Rattle.vc_same.specs.Reduction.Part.{ends, stays, left_out}
use Rattle.vc_same.proofs.Paths.{needed_read, needed_over, needed_leave}
use Rattle.vc_same.proofs.Kept.{reads_here}
use Rattle.vc_same.proofs.Renamed.{same_names}
use Rattle.vc_tidy.specs.Tidy.{IsDead, NoDead}
use Rattle.vc_tidy.specs.Thinned.{is_marked, HasMarks, AreMarked, ahead, Unneeded, Thins, exit_of}
use Rattle.vc_tidy.specs.Thinned.{ThinsAll}
use Rattle.vc_tidy.specs.Thinned.Thins.{none, keeps, drops}
use Rattle.vc_tidy.proofs.Marking.{in_here}

-- ---- from the end of a list to its begin

pub ahead_none : (exit : ℕ → Bool) (v : ℕ) → ahead [] exit v ≡ exit v
unfolding ahead
ahead_none exit v = refl

pub ahead_more : (i : VInstr) (xs : List VInstr) (exit : ℕ → Bool) (v : ℕ) → ahead (i ∷ xs) exit v ≡
    (reads i v || (ahead xs exit v && not (writes i v)))
unfolding ahead
ahead_more i xs exit v = refl

reverse_more : (xs : List VInstr) (i : VInstr) → reverse (xs ++ i ∷ []) ≡ i ∷ reverse xs
reverse_more xs i = reverse-append xs (i ∷ [])

pub back_begins : (exit : ℕ → Bool) (code : List VInstr) (n : ℕ) (marks : List Bool)
    (kept : List VInstr) → kept ≡ [] → n ≡ length code → AreMarked marks code exit →
    Thins exit (drop n code) (reverse kept) × AreMarked marks code (ahead (reverse kept) exit)
back_begins exit code n marks kept nothing last marked = (
  subst (λ k. Thins exit (drop n code) (reverse k)) (sym nothing)
      (subst (λ xs. Thins exit xs []) (sym (drop_all n code (omega (arith, last)))) none),
  λ v named. marked v named ∙ sym (ap (λ k. ahead (reverse k) exit v) nothing ∙ ahead_none exit v),
)

module _ (exit : ℕ → Bool) (code : List VInstr) (left next : ℕ) (i d : VInstr) (marks : List Bool)
    (kept : List VInstr)
    (step : left + 1 ≡ next) (lt : left < length code) (is : i ≡ get_or code left d)
    (was : Thins exit (drop next code) (reverse kept))
    (marked : AreMarked marks code (ahead (reverse kept) exit)) where
  here : slice_get code left ≡ Some i
  here = slice_get-get_or code left d lt ∙ ap Some (sym is)

  more : drop left code ≡ i ∷ drop next code
  more = drop_more code left d lt ∙ ap (λ n. get_or code left d ∷ drop n code) step
      ∙ ap (λ x. x ∷ drop next code) (sym is)

  -- the marks tell what is needed ahead
  ahead_result : (v : ℕ) → writes i v ≡ true → ahead (reverse kept) exit v ≡ is_marked marks v
  ahead_result v wr = sym (marked v (in_here code left v i here (inr wr)))

  pub back_keeps : (new : List Bool) → (is_pure i ≡ true → Unneeded i (is_marked marks) → ⊥) →
      ((v : ℕ) → is_marked new v ≡ (reads i v || (is_marked marks v && not (writes i v)))) →
      Thins exit (drop left code) (reverse (kept ++ i ∷ [])) ×
      AreMarked new code (ahead (reverse (kept ++ i ∷ [])) exit)
  back_keeps new needed stepped = (
    subst (λ ys. Thins exit (drop left code) ys) (sym (reverse_more kept i))
        (subst (λ xs. Thins exit xs (i ∷ reverse kept)) (sym more)
        (keeps (λ pure unneeded. needed pure (λ v wr. sym (ahead_result v wr) ∙ unneeded v wr))
        was)),
    λ v named. stepped v ∙ ap (λ b. reads i v || (b && not (writes i v))) (marked v named)
        ∙ sym (ap (λ ys. ahead ys exit v) (reverse_more kept i) ∙ ahead_more i (reverse kept) exit
        v),
  )

  pub back_drops : is_pure i ≡ true → Unneeded i (is_marked marks) → Thins exit (drop left code)
      (reverse kept)
  back_drops pure unneeded = subst (λ xs. Thins exit xs (reverse kept)) (sym more)
      (drops pure (λ v wr. ahead_result v wr ∙ unneeded v wr) was)

-- ---- thinned blocks of code

pub count_more : (x : Block) (xs : List Block) → instruction_count (x ∷ xs) ≡
    length x.code + instruction_count xs
count_more x xs = sum_by-cons (λ (c : Block). length c.code) x xs

-- blocks that are no longer one by one, and as long together, are as long one by one
as_many : (xs ys : List Block) → length ys ≡ length xs →
    ((b : ℕ) → length (block_in ys b).code ≤ length (block_in xs b).code) → instruction_count ys ≡
    instruction_count xs → (b : ℕ) → length (block_in ys b).code ≡ length (block_in xs b).code
as_many [] [] l f same b = refl
as_many [] (y ∷ ys) l f same b = absurd (omega (arith, l))
as_many (x ∷ xs) [] l f same b = absurd (omega (arith, l))
as_many (x ∷ xs) (y ∷ ys) l f same b =
    let rest : instruction_count ys ≤ instruction_count xs = fewer_in xs ys (omega (arith, l))
    (λ c. f (suc c)) in
    let first : length y.code ≤ length x.code = f 0 in
    let left = count_more x xs in
    let right = count_more y ys in
    by b (omega (arith, rest, first, left, right, same))
    (as_many xs ys (omega (arith, l)) (λ c. f (suc c))
    (omega (arith, rest, first, left, right, same)))
  where
    by : (b : ℕ) → length y.code ≡ length x.code →
        ((c : ℕ) → length (block_in ys c).code ≡ length (block_in xs c).code) →
        length (block_in (y ∷ ys) b).code ≡ length (block_in (x ∷ xs) b).code
    by zero e more = e
    by (suc c) e more = more c

ahead_cases : (r a w : Bool) → (r || (a && not w)) ≡ true → (r ≡ true) ⊎ ((a ≡ true) × (w ≡ false))
ahead_cases true a w e = inl refl
ahead_cases false true false e = inr (refl, refl)
ahead_cases false true true e = cc
ahead_cases false false w e = cc

to_ahead : (r a w : Bool) → (r ≡ true) ⊎ ((a ≡ true) × (w ≡ false)) → (r || (a && not w)) ≡ true
to_ahead true a w e = refl
to_ahead false a w (inl e) = cc
to_ahead false true true (inr e) = cc
to_ahead false true false (inr e) = refl
to_ahead false false w (inr e) = cc

thins_fewer : (exit : ℕ → Bool) (xs ys : List VInstr) → Thins exit xs ys → length ys ≤ length xs
thins_fewer exit [] [] none = omega arith
thins_fewer exit [] (y ∷ ys) t = elim t [ ]
thins_fewer exit (x ∷ xs) (y ∷ ys) (keeps n t) = let l : length ys ≤ length xs =
    thins_fewer exit xs ys t in omega (arith, l)
thins_fewer exit (x ∷ xs) ys (drops p u t) = let l : length ys ≤ length xs =
    thins_fewer exit xs ys t in omega (arith, l)

true_is : (c : Bool) → IsTrue c → c ≡ true
true_is c t = t

is_true : (c : Bool) → c ≡ true → IsTrue c
is_true c e = e

module _ (code : VProc) (l : Liveness) (valid_ : IsValid code) (sized : IsSized code)
    (exact : IsLiveness code l) where
  abbrev exits : ℕ → ℕ → Bool
  exits b = exit_of l b (code_of code b)

  abbrev len : ℕ → ℕ
  len b = length (code_of code b)

  at_exit : (n : ℕ) → (2 * n + 1) / 2 ≡ n
  at_exit n = omega arith

  behind : (n : ℕ) → (2 * n + 2) / 2 ≡ suc n
  behind n = omega arith

  exit_needed : (b v : ℕ) → v < length code.vars → b < length code.blocks → exits b v ≡ true →
      Needed code b (len b) v
  exit_needed b v vl bl e =
      by (kind_of code v) ((exact.exact v b (2 * len b + 1) vl bl (omega arith)).0
      (is_true (exits b v) e))
    where
      by : (k : VarKind) → LiveAs k code v b (2 * len b + 1) → Needed code b (len b) v
      by (Param i) live = subst (λ k. Needed code b k v) (at_exit (len b)) live
      by Plain live = subst (λ k. Needed code b k v) (at_exit (len b)) live
      by (Constant n) live =
          let r = reads_here code v (record { block = b; index = live.last }) live.reads_last in
          let inside : live.last < len b = slice_get_within (code_of code b) live.last r.0 r.1 in
          let past : 2 * len b + 1 ≤ 2 * live.last + 1 = live.to in
          absurd (omega (arith, inside, past))

  -- a variable that is no constant
  abbrev Varies : ℕ → Type 0
  Varies v = (n : ℤ) → kind_of code v ≡ Constant n → ⊥

  pub live_as : (v b layer : ℕ) → Varies v →
      ReadBeforeWritten code v (record { block = b; index = layer / 2 }) → Live code v b layer
  live_as v b layer varies needed = by (kind_of code v) refl
    where
      by : (k : VarKind) → kind_of code v ≡ k → LiveAs k code v b layer
      by (Param i) e = needed
      by Plain e = needed
      by (Constant n) e = absurd (varies n e)

  needed_exit : (b v : ℕ) → v < length code.vars → b < length code.blocks → Varies v →
      Needed code b (len b) v → exits b v ≡ true
  needed_exit b v vl bl varies needed =
      true_is (exits b v) ((exact.exact v b (2 * len b + 1) vl bl (omega arith)).1
      (live_as v b (2 * len b + 1) varies
      (subst (λ k. Needed code b k v) (sym (at_exit (len b))) needed)))

  result_varies : (b k v : ℕ) (i : VInstr) → instr_at code b k ≡ Some i → writes i v ≡ true →
      Varies v
  result_varies b k v i is wr n e =
      true_false (writes i v) wr (valid_.constants_kept v n e b k i is).unwritten

  -- what the thinned rest needs, the rest needs
  sound : (b k v : ℕ) (xs ys : List VInstr) → Thins (exits b) xs ys → drop k (code_of code b) ≡ xs →
      k + length xs ≡ len b → b < length code.blocks → v < length code.vars → ahead ys (exits b) v ≡
      true → Needed code b k v
  sound b k v [] [] none e f bl vl is = let at_end : len b ≡ k = omega (arith, f) in
      subst (λ n. Needed code b n v) at_end
      (exit_needed b v vl bl (sym (ahead_none (exits b) v) ∙ is))
  sound b k v [] (y ∷ ys) t e f bl vl is = elim t [ ]
  sound b k v (x ∷ xs) (y ∷ ys) (keeps n t) e f bl vl is =
      let begins = left_begins (code_of code b) xs k x e in
      ⊎_elim
      (λ (r : reads x v ≡ true). needed_read code b k v x begins.0 r)
      (λ (a : (ahead ys (exits b) v ≡ true) × (writes x v ≡ false)). needed_over code b k v x
      begins.0 a.1 (sound b (suc k) v xs ys t begins.1 (omega (arith, f)) bl vl a.0))
      (ahead_cases (reads x v) (ahead ys (exits b) v) (writes x v)
      (sym (ahead_more x ys (exits b) v) ∙ is))
  sound b k v (x ∷ xs) ys (drops pure unneeded t) e f bl vl is =
      let begins = left_begins (code_of code b) xs k x e in
      ⊎_elim
      (λ (wr : writes x v ≡ true). absurd (true_false (ahead ys (exits b) v) is (unneeded v wr)))
      (λ (free : writes x v ≡ false). needed_over code b k v x begins.0 free
      (sound b (suc k) v xs ys t begins.1 (omega (arith, f)) bl vl is))
      (truth (writes x v))

  -- nothing was dropped: then nothing is dead
  none_dead : (b k : ℕ) (xs ys : List VInstr) → Thins (exits b) xs ys → length ys ≡ length xs →
      drop k (code_of code b) ≡ xs → k + length xs ≡ len b → b < length code.blocks →
      (n m : ℕ) (i : VInstr) → m ≡ k + n → slice_get xs n ≡ Some i → is_pure i ≡ true →
      IsDead code b m i → ⊥
  none_dead b k [] [] none same e f bl n m i at is pure is_dead = not_both None i refl is
  none_dead b k [] (y ∷ ys) t same e f bl n m i at is pure is_dead = elim t [ ]
  none_dead b k (x ∷ xs) (y ∷ ys) (keeps needed t) same e f bl zero m i at is pure is_dead =
      let begins = left_begins (code_of code b) xs k x e in
      let i_is : x ≡ i = some_same x i is in
      let m_is : m ≡ k = omega (arith, at) in
      needed (ap is_pure i_is ∙ pure) (λ v wr.
      ⊎_elim
      (λ (a : ahead ys (exits b) v ≡ true).
      let live_behind = sound b (suc k) v xs ys t begins.1 (omega (arith, f)) bl
      (sized.variables_in_range b k x begins.0 v (inr wr)) a in
      absurd (is_dead v (subst (λ z. writes z v ≡ true) i_is wr)
      (live_as v b (2 * m + 2) (result_varies b k v x begins.0 wr)
      (subst (λ q. Needed code b q v) (ap suc (sym m_is) ∙ sym (behind m)) live_behind))))
      (λ (no_ : ahead ys (exits b) v ≡ false). no_)
      (truth (ahead ys (exits b) v)))
  none_dead b k (x ∷ xs) (y ∷ ys) (keeps needed t) same e f bl (suc n) m i at is pure is_dead =
      none_dead b (suc k) xs ys t (omega (arith, same)) (left_begins (code_of code b) xs k x e).1
      (omega (arith, f)) bl n m i (omega (arith, at)) is pure is_dead
  none_dead b k (x ∷ xs) ys (drops p u t) same e f bl n m i at is pure is_dead =
      let fewer : length ys ≤ length xs = thins_fewer (exits b) xs ys t in
      absurd (omega (arith, fewer, same))

  module _ (new : VProc) (id_ : new.id ≡ code.id) (args_ : new.args ≡ code.args)
      (aggregates_ : new.aggregates ≡ code.aggregates) (vars_ : new.vars ≡ code.vars)
      (thin : ThinsAll l code.blocks new.blocks (length code.blocks)) where
    complete : (v : ℕ) → v < length code.vars → Varies v → {p q : Point} → Path new v p q →
        reads_at new v q ≡ true → p.block < length code.blocks →
        ahead (drop p.index (code_of new p.block)) (exits p.block) v ≡ true
    complete v vl varies {p} {q} at_once read bl =
        let here_ = reads_here new v p read in
        ap (λ xs. ahead xs (exits p.block) v)
        (some_left (code_of new p.block) p.index here_.0 here_.1) ∙ ahead_more here_.0
        (drop (suc p.index) (code_of new p.block)) (exits p.block) v
        ∙ to_ahead (reads here_.0 v)
        (ahead (drop (suc p.index) (code_of new p.block)) (exits p.block) v) (writes here_.0 v)
        (inl here_.2)
    complete v vl varies {p} {q} (then_on write (over {i = i} is) path) read bl =
        let after = complete v vl varies path read bl in
        let free : writes i v ≡ false = sym (ap (passes (λ j. writes j v)) is) ∙ write in
        ap (λ xs. ahead xs (exits p.block) v) (some_left (code_of new p.block) p.index i is)
        ∙ ahead_more i (drop (suc p.index) (code_of new p.block)) (exits p.block) v
        ∙ to_ahead (reads i v) (ahead (drop (suc p.index) (code_of new p.block)) (exits p.block) v)
        (writes i v) (inr (after, free))
    complete v vl varies {p} {q} (then_on write (leaves {b = t} is target) path) read bl =
        let old_target : IsTarget (end_of code p.block) t =
        subst (λ z. IsTarget z t) (thin.each p.block bl).end target in
        let tl : t < length code.blocks = sized.targets_in_range p.block t bl old_target in
        let there = complete v vl varies path read tl in
        let needed = sound t 0 v (code_of code t) (code_of new t) (thin.each t tl).code refl
        (omega arith) tl vl there in
        ap (λ xs. ahead xs (exits p.block) v) (none_left (code_of new p.block) p.index is)
        ∙ ahead_none (exits p.block) v
        ∙ needed_exit p.block v vl bl varies
        (needed_leave code p.block (len p.block) t v
        (slice_get_past (code_of code p.block) (len p.block) (omega arith)) old_target needed)

    parts : (b k j : ℕ) (xs ys : List VInstr) → Thins (exits b) xs ys → drop k (code_of code b) ≡
        xs → drop j (code_of new b) ≡ ys → b < length code.blocks →
        Part (λ v. v) code new b k j xs ys
    parts b k j [] [] none e f bl = ends
    parts b k j [] (y ∷ ys) t e f bl = elim t [ ]
    parts b k j (x ∷ xs) (y ∷ ys) (keeps n t) e f bl =
        stays
        (record {
          is = sym (same_names x);
          kinds =
              λ v named. inl (ap (λ (ks : List VarKind). slice_index_or ks v Plain) vars_);
          in_range =
              λ v named lt. subst (λ (ks : List VarKind). v < length ks) (sym vars_) lt;
          one_each =
              λ v w one other same. same;
          apart =
              λ v w over needed same. same;
        })
        (parts b (suc k) (suc j) xs ys t (left_begins (code_of code b) xs k x e).1
        (left_begins (code_of new b) ys j x f).1 bl)
    parts b k j (x ∷ xs) ys (drops pure unneeded t) e f bl =
        let begins = left_begins (code_of code b) xs k x e in
        left_out (dead pure (λ v wr needed.
        let there = complete v (sized.variables_in_range b k x begins.0 v (inr wr))
        (result_varies b k v x begins.0 wr) needed.path needed.read bl in
        true_false (ahead ys (exits b) v) (ap (λ zs. ahead zs (exits b) v) (sym f) ∙ there)
        (unneeded v wr)))
        (parts b (suc k) j xs ys t begins.1 f bl)

    both_past : (b : ℕ) → length code.blocks ≤ b → block_of new b ≡ block_of code b
    both_past b le = let many : length new.blocks ≡ length code.blocks = thin.count in
        get_or_past new.blocks b no_block (omega (arith, many, le))
        ∙ sym (get_or_past code.blocks b no_block le)

    no_code : (b : ℕ) → length code.blocks ≤ b → code_of code b ≡ []
    no_code b le = ap (λ (x : Block). x.code) (get_or_past code.blocks b no_block le)

    reduced : Reduced (λ v. v) code new
    reduced = record {
      id = id_;
      args = args_;
      aggregates = aggregates_;
      homes = λ i. ap (λ (ks : List VarKind). list_any (is_param i) ks) vars_;
      fewer = let same : length new.vars ≡ length code.vars = ap length vars_ in
          omega (arith, same);
      constants = λ v w n kind one other same. same;
      entry = λ v needed. ap (λ (ks : List VarKind). slice_index_or ks v Plain) vars_;
      count = thin.count;
      depths = λ b. ⊎_elim (λ (lt : b < length code.blocks). (thin.each b lt).depth)
          (λ (le : length code.blocks ≤ b). ap (λ (x : Block). x.depth) (both_past b le))
          (cases_lt b (length code.blocks));
      ends = λ b. ⊎_elim (λ (lt : b < length code.blocks). (thin.each b lt).end)
          (λ (le : length code.blocks ≤ b). ap (λ (x : Block). x.end) (both_past b le))
          (cases_lt b (length code.blocks));
      code = λ b. ⊎_elim
          (λ (lt : b < length code.blocks). parts b 0 0 (code_of code b) (code_of new b)
          (thin.each b lt).code refl refl lt)
          (λ (le : length code.blocks ≤ b).
          subst (λ ys. Part (λ v. v) code new b 0 0 (code_of code b) ys)
          (sym (ap (λ (x : Block). x.code) (both_past b le)))
          (subst (λ xs. Part (λ v. v) code new b 0 0 xs xs) (sym (no_code b le)) ends))
          (cases_lt b (length code.blocks));
    }

    pub thin_preserves : Preserves code new
    thin_preserves = preserves (λ v. v) code new reduced
        (λ v w i e f. valid_.arguments_apart.params v w i
        (ap (λ (ks : List VarKind). slice_get ks v) (sym vars_) ∙ e)
        (ap (λ (ks : List VarKind). slice_get ks w) (sym vars_) ∙ f))
        valid_ sized

  -- as many instructions as before: then nothing is dead
  pub thin_same : (news : List Block) → ThinsAll l code.blocks news (length code.blocks) →
      instruction_count news ≡ instruction_count code.blocks → NoDead code
  thin_same news thin same b k i is pure is_dead =
      ⊎_elim
      (λ (bl : b < length code.blocks).
      none_dead b 0 (code_of code b) (block_in news b).code (thin.each b bl).code
      (as_many code.blocks news thin.count (λ c. shorter c) same b) refl (omega arith) bl k k i
      (omega arith) is pure is_dead)
      (λ (le : length code.blocks ≤ b). not_both None i refl
      (ap (λ (xs : List VInstr). slice_get xs k)
      (sym (ap (λ (x : Block). x.code) (get_or_past code.blocks b no_block le))) ∙ is))
      (cases_lt b (length code.blocks))
    where
      shorter : (c : ℕ) → length (block_in news c).code ≤ length (block_in code.blocks c).code
      shorter c =
          ⊎_elim
          (λ (lt : c < length code.blocks). thins_fewer (exits c) (code_of code c)
          (block_in news c).code (thin.each c lt).code)
          (λ (le : length code.blocks ≤ c). let many : length news ≡ length code.blocks =
          thin.count in let nothing : length (block_in news c).code ≡ 0 =
          ap (λ (x : Block). length x.code)
          (get_or_past news c no_block (omega (arith, many, le))) in omega (arith, nothing))
          (cases_lt c (length code.blocks))

  pub thin_count : (news : List Block) → ThinsAll l code.blocks news (length code.blocks) →
      instruction_count news ≤ instruction_count code.blocks
  thin_count news thin = fewer_in code.blocks news thin.count (λ c.
      ⊎_elim
      (λ (lt : c < length code.blocks). thins_fewer (exits c) (code_of code c)
      (block_in news c).code (thin.each c lt).code)
      (λ (le : length code.blocks ≤ c). let many : length news ≡ length code.blocks = thin.count in
      let nothing : length (block_in news c).code ≡ 0 = ap (λ (x : Block). length x.code)
      (get_or_past news c no_block (omega (arith, many, le))) in omega (arith, nothing))
      (cases_lt c (length code.blocks)))

pub all_none : (l : Liveness) (olds news : List Block) → news ≡ [] → ThinsAll l olds news 0
all_none l olds news e = record { count = ap length e; each = λ b lt. absurd (omega (arith, lt)) }

-- there is a mark for each variable of a block of sized code
pub has_marks : (code : VProc) (marks : List Bool) (b : ℕ) (x : Block) → IsSized code →
    length marks ≡ length code.vars → b < length code.blocks → x ≡ get_or code.blocks b x →
    HasMarks marks x.code
has_marks code marks b x sized count lt is v named =
    let same : get_or code.blocks b x ≡ block_in code.blocks b =
    some_same _ _ (sym (slice_get-get_or code.blocks b x lt) ∙ slice_get-get_or code.blocks b
    no_block lt) in
    let inside : v < length code.vars = sized.variables_in_range b named.0 named.1
    (ap (λ (y : Block). slice_get y.code named.0) (sym (is ∙ same)) ∙ named.2) v named.3 in
    omega (arith, inside, count)
