-- Code under other names: how it is made, that it is the code reduced, and that it is shorter.
use Rattle.std.proofs.Common.{◌≡◌, ℕ, zero, suc, ◌+◌, ◌<◌, ◌≤◌, inl, ⊎_elim, ℤ, Bool}
use Rattle.std.proofs.Common.{true, false, nat_eq, if◌then◌else◌, List, [], ◌∷◌, ◌++◌, drop, get_or}
use Rattle.std.proofs.Common.{append_assoc, append-nil, length, map, slice_get, slice_index_or}
use Rattle.std.proofs.Common.{Some, None, refl, sym, ap, subst, ◌∙◌, arith}
use Rattle.std.specs.List.{list_any}
use Rattle.std.proofs.lemmas.Bool.Decides.{nat_tests}
use Rattle.std.proofs.lemmas.List.{length-map, drop_more, drop_all}
use Rattle.vc_tidy.proofs.Thin.{count_more}
use Rattle.pra_base.proofs.Roles.{among_reads}
use Rattle.pra_list.proofs.Elements.{left_begins}
use Rattle.pra_list.proofs.Truths.{truth, if_true, if_false}
use Rattle.pra_list.proofs.Options.{some_same, not_both}
use Rattle.pra_base.specs.declared.ids.VarId.{VarId}
use Rattle.pra_base.specs.declared.code.VarKind.{VarKind}
use Rattle.pra_base.specs.declared.code.VarKind.TheVariants.{Plain, Constant}
use Rattle.pra_base.specs.declared.code.Block.{Block}
use Rattle.pra_base.specs.declared.code.VInstr.{VInstr}
use Rattle.pra_base.specs.declared.code.VInstr.TheVariants as instr
use Rattle.pra_base.specs.declared.code.VProc.{VProc}
use Rattle.pra_base.specs.Code.{kind_of, block_in, code_of, instr_at, no_block}
use Rattle.pra_base.specs.Valid.{Names, IsValid, IsSized, instruction_count}
use Rattle.vc_code.specs.Machine.{is_param}
use Rattle.vc_same.specs.Renaming.{renamed}
use Rattle.vc_same.specs.Reduction.{Needed, Part, Reduced, ParamsApart, IsNamed, StandsFor}
use Rattle.vc_same.specs.Reduction.{overwrites}
use Rattle.vc_same.specs.Reduction.LeftOut.{copied}
use Rattle.vc_same.specs.Reduction.Part.{ends, stays, left_out}
use Rattle.vc_same.specs.SameRuns.{Preserves}
use Rattle.vc_same.proofs.Valid.{preserves}
use Rattle.vc_tidy.specs.Joined.{name, is_joined, joined, joined_block, joined_code, HasJoined}

pub joined_more : (names : List ℕ) (i : VInstr) (xs : List VInstr) → joined names (i ∷ xs) ≡
    (if is_joined names i then joined names xs else renamed (name names) i ∷ joined names xs)
unfolding joined
joined_more names i xs = refl

joined_none : (names : List ℕ) → joined names [] ≡ []
unfolding joined
joined_none names = refl

not_so : false ≡ true → ⊥
not_so e = cc

same : (a b : ℕ) → nat_eq a b ≡ true → a ≡ b
same a b e = grind (arith, nat_tests)

-- which copy is joined
pub the_copy : (names : List ℕ) (i : VInstr) → is_joined names i ≡ true → (t s : VarId) ×
    (i ≡ instr.Copy t s) × (name names t.0 ≡ name names s.0)
the_copy names (instr.Copy t s) e = (t, s, refl, same (name names t.0) (name names s.0) e)
the_copy names (instr.Set v n) e = absurd (not_so e)
the_copy names (instr.Add v s) e = absurd (not_so e)
the_copy names (instr.Sub v s) e = absurd (not_so e)
the_copy names (instr.And v s) e = absurd (not_so e)
the_copy names (instr.Or v s) e = absurd (not_so e)
the_copy names (instr.Xor v s) e = absurd (not_so e)
the_copy names (instr.Mul v s) e = absurd (not_so e)
the_copy names (instr.Neg v) e = absurd (not_so e)
the_copy names (instr.Shift op v n) e = absurd (not_so e)
the_copy names (instr.Cmp a b) e = absurd (not_so e)
the_copy names (instr.CmpSet c v a b) e = absurd (not_so e)
the_copy names (instr.DivMod q r a d) e = absurd (not_so e)
the_copy names (instr.Check v n) e = absurd (not_so e)
the_copy names (instr.CheckPos v) e = absurd (not_so e)
the_copy names (instr.Load v a) e = absurd (not_so e)
the_copy names (instr.Store a s) e = absurd (not_so e)
the_copy names (instr.Addr v a) e = absurd (not_so e)
the_copy names (instr.Push s) e = absurd (not_so e)
the_copy names (instr.Call p) e = absurd (not_so e)
the_copy names (instr.Read v) e = absurd (not_so e)
the_copy names (instr.Write s) e = absurd (not_so e)
the_copy names instr.Line e = absurd (not_so e)
the_copy names instr.Clear e = absurd (not_so e)

-- ---- a list, one instruction after the other

pub join_out : (names : List ℕ) (code new whole : List VInstr) (k : ℕ) (d : VInstr) →
    k < length code → new ++ joined names (drop k code) ≡ whole →
    is_joined names (get_or code k d) ≡ true → new ++ joined names (drop (k + 1) code) ≡ whole
join_out names code new whole k d lt was is =
    let left : joined names (drop k code) ≡ joined names (drop (k + 1) code) =
    ap (λ xs. joined names xs) (drop_more code k d lt) ∙ joined_more names (get_or code k d)
    (drop (k + 1) code) ∙ if_true (is_joined names (get_or code k d)) _ _ is in
    ap (λ xs. new ++ xs) (sym left) ∙ was

pub join_in : (names : List ℕ) (code new whole : List VInstr) (k : ℕ) (d : VInstr) →
    k < length code → new ++ joined names (drop k code) ≡ whole →
    is_joined names (get_or code k d) ≡ false →
    (new ++ renamed (name names) (get_or code k d) ∷ []) ++ joined names (drop (k + 1) code) ≡ whole
join_in names code new whole k d lt was is =
    let left : joined names (drop k code) ≡ renamed (name names) (get_or code k d) ∷ joined names
    (drop (k + 1) code) = ap (λ xs. joined names xs) (drop_more code k d lt) ∙ joined_more names
    (get_or code k d) (drop (k + 1) code) ∙ if_false (is_joined names (get_or code k d)) _ _
    is in
    append_assoc new (renamed (name names) (get_or code k d) ∷ [])
    (joined names (drop (k + 1) code)) ∙ ap (λ xs. new ++ xs) (sym left) ∙ was

pub join_done : (names : List ℕ) (code new whole : List VInstr) (n : ℕ) → length code ≤ n →
    new ++ joined names (drop n code) ≡ whole → new ≡ whole
join_done names code new whole n le was =
    sym (ap (λ xs. new ++ xs) (ap (λ xs. joined names xs) (drop_all n code le) ∙ joined_none names)
    ∙ append-nil new) ∙ was

-- ---- the code

-- What other names must keep, so that the code under them is the code reduced.
pub record Joins (code : VProc) (names : List ℕ) (vars : List VarKind) : Type 0 where
  pub homes : (i : ℕ) → list_any (is_param i) vars ≡ list_any (is_param i) code.vars
  pub fewer : length vars ≤ length code.vars
  pub kinds : (v : ℕ) → IsNamed code v →
      StandsFor (slice_index_or vars (name names v) Plain) (kind_of code v)
  pub in_range : (v : ℕ) → IsNamed code v → name names v < length vars
  pub one_each : (b k : ℕ) (i : VInstr) → instr_at code b k ≡ Some i → is_joined names i ≡ false →
      (v w : ℕ) → Names i v → Names i w → name names w ≡ name names v → w ≡ v
  pub apart : (b k : ℕ) (i : VInstr) → instr_at code b k ≡ Some i → is_joined names i ≡ false →
      (v w : ℕ) → overwrites i v ≡ true → Needed code b (suc k) w →
      name names w ≡ name names v → w ≡ v
  pub constants : (v w : ℕ) (n : ℤ) → kind_of code v ≡ Constant n → IsNamed code v →
      IsNamed code w → name names w ≡ name names v → w ≡ v
  pub entry : (v : ℕ) → Needed code 0 0 v →
      slice_index_or vars (name names v) Plain ≡ kind_of code v

module _ (code : VProc) (names : List ℕ) (vars : List VarKind) (joins : Joins code names vars) where
  abbrev to : ℕ → ℕ
  to = name names

  abbrev new : VProc
  new = joined_code names vars code

  source_kind : (b k : ℕ) (t s : VarId) → instr_at code b k ≡ Some (instr.Copy t s) →
      StandsFor (slice_index_or vars (to s.0) Plain) (kind_of code s.0)
  source_kind b k t s is = joins.kinds s.0 (
    b,
    k,
    instr.Copy t s,
    is,
    inl (among_reads (instr.Copy t s) s.0 (inl refl)),
  )

  parts : (b k j : ℕ) (xs : List VInstr) → drop k (code_of code b) ≡ xs →
      Part to code new b k j xs (joined names xs)
  parts b k j [] e = subst (λ ys. Part to code new b k j [] ys) (sym (joined_none names)) ends
  parts b k j (x ∷ xs) e =
      let begins = left_begins (code_of code b) xs k x e in
      ⊎_elim
      (λ (yes_ : is_joined names x ≡ true).
      let c = the_copy names x yes_ in
      subst (λ ys. Part to code new b k j (x ∷ xs) ys)
      (sym (joined_more names x xs ∙ if_true (is_joined names x) _ _ yes_))
      (left_out (copied c.2 c.3 (source_kind b k c.0 c.1 (begins.0 ∙ ap Some c.2)))
      (parts b (suc k) j xs begins.1)))
      (λ (no_ : is_joined names x ≡ false).
      subst (λ ys. Part to code new b k j (x ∷ xs) ys)
      (sym (joined_more names x xs ∙ if_false (is_joined names x) _ _ no_))
      (stays
      (record {
        is = refl;
        kinds = λ v named. joins.kinds v (b, k, x, begins.0, named);
        in_range =
            λ v named lt. joins.in_range v (b, k, x, begins.0, named);
        one_each =
            joins.one_each b k x begins.0 no_;
        apart =
            joins.apart b k x begins.0 no_;
      })
      (parts b (suc k) (suc j) xs begins.1)))
      (truth (is_joined names x))

  block_is : (xs : List Block) (b : ℕ) → block_in (map (joined_block names) xs) b ≡
      record (block_in xs b) { code = joined names (block_in xs b).code }
  block_is [] b = ap (λ ys. record no_block { code = ys }) (sym (joined_none names))
  block_is (x ∷ xs) zero = refl
  block_is (x ∷ xs) (suc b) = block_is xs b

  reduced : Reduced to code new
  reduced = record {
    id = refl;
    args = refl;
    aggregates = refl;
    homes = joins.homes;
    fewer = joins.fewer;
    constants = joins.constants;
    entry = joins.entry;
    count = length-map code.blocks (joined_block names);
    depths = λ b. ap (λ (x : Block). x.depth) (block_is code.blocks b);
    ends = λ b. ap (λ (x : Block). x.end) (block_is code.blocks b);
    code = λ b. subst (λ ys. Part to code new b 0 0 (code_of code b) ys)
        (sym (ap (λ (x : Block). x.code) (block_is code.blocks b)))
        (parts b 0 0 (code_of code b) refl);
  }

  pub joined_preserves : ParamsApart new → IsValid code → IsSized code → Preserves code new
  joined_preserves params valid_ sized = preserves to code new reduced params valid_ sized

-- ---- a copy that is joined goes

joined_shorter : (names : List ℕ) (xs : List VInstr) → length (joined names xs) ≤ length xs
joined_shorter names [] = let e : length (joined names []) ≡ 0 = ap length (joined_none names) in
    omega (arith, e)
joined_shorter names (x ∷ xs) = by (is_joined names x) refl (joined_shorter names xs)
  where
    by : (b : Bool) → is_joined names x ≡ b → length (joined names xs) ≤ length xs →
        length (joined names (x ∷ xs)) ≤ length (x ∷ xs)
    by true e le = let l : length (joined names (x ∷ xs)) ≡ length (joined names xs) =
        ap length (joined_more names x xs ∙ if_true (is_joined names x) _ _ e) in
        omega (arith, l, le)
    by false e le = let l : length (joined names (x ∷ xs)) ≡ suc (length (joined names xs)) =
        ap length (joined_more names x xs ∙ if_false (is_joined names x) _ _ e) in
        omega (arith, l, le)

joined_less : (names : List ℕ) (xs : List VInstr) (k : ℕ) (i : VInstr) → slice_get xs k ≡ Some i →
    is_joined names i ≡ true → length (joined names xs) < length xs
joined_less names [] k i is e = absurd (not_both None i refl is)
joined_less names (x ∷ xs) zero i is e =
    let x_is : x ≡ i = some_same x i is in
    let le = joined_shorter names xs in
    let l : length (joined names (x ∷ xs)) ≡ length (joined names xs) =
    ap length (joined_more names x xs ∙ if_true (is_joined names x) _ _
    (ap (is_joined names) x_is ∙ e)) in
    omega (arith, l, le)
joined_less names (x ∷ xs) (suc k) i is e = by (is_joined names x) refl
    (joined_less names xs k i is e)
  where
    by : (b : Bool) → is_joined names x ≡ b → length (joined names xs) < length xs →
        length (joined names (x ∷ xs)) < length (x ∷ xs)
    by true e lt = let l : length (joined names (x ∷ xs)) ≡ length (joined names xs) =
        ap length (joined_more names x xs ∙ if_true (is_joined names x) _ _ e) in
        omega (arith, l, lt)
    by false e lt = let l : length (joined names (x ∷ xs)) ≡ suc (length (joined names xs)) =
        ap length (joined_more names x xs ∙ if_false (is_joined names x) _ _ e) in
        omega (arith, l, lt)

blocks_shorter : (names : List ℕ) (xs : List Block) →
    instruction_count (map (joined_block names) xs) ≤ instruction_count xs
blocks_shorter names [] = omega arith
blocks_shorter names (x ∷ xs) =
    let rest = blocks_shorter names xs in
    let first = joined_shorter names x.code in
    let left = count_more x xs in
    let right = count_more (joined_block names x) (map (joined_block names) xs) in
    omega (arith, rest, first, left, right)

blocks_less : (names : List ℕ) (xs : List Block) (b k : ℕ) (i : VInstr) →
    slice_get (block_in xs b).code k ≡ Some i → is_joined names i ≡ true →
    instruction_count (map (joined_block names) xs) < instruction_count xs
blocks_less names [] b k i is e = absurd (not_both None i refl is)
blocks_less names (x ∷ xs) zero k i is e =
    let rest = blocks_shorter names xs in
    let first = joined_less names x.code k i is e in
    let left = count_more x xs in
    let right = count_more (joined_block names x) (map (joined_block names) xs) in
    omega (arith, rest, first, left, right)
blocks_less names (x ∷ xs) (suc b) k i is e =
    let rest = blocks_less names xs b k i is e in
    let first = joined_shorter names x.code in
    let left = count_more x xs in
    let right = count_more (joined_block names x) (map (joined_block names) xs) in
    omega (arith, rest, first, left, right)

pub code_less : (code : VProc) (names : List ℕ) (vars : List VarKind) → HasJoined code names →
    instruction_count (joined_code names vars code).blocks < instruction_count code.blocks
code_less code names vars h = blocks_less names code.blocks h.0 h.1 h.2 h.3 h.4
