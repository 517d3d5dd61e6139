-- The sample is valid selected code, rule by rule.
use Rattle.std.proofs.Common.{◌≡◌, ◌≢◌, ℕ, zero, suc, ◌+◌, ◌*◌, ◌<◌, ◌≤◌, ⊎_elim, Bool, true, false}
use Rattle.std.proofs.Common.{nat_eq, ◌||◌, slice_get, Some, None, refl, ap, subst, arith, rules}
use Rattle.std.proofs.Common.{lit<}
use Rattle.std.specs.Prelude.{ℤ, ◌↔◌, pos, ◌≤ℤ◌}
use Rattle.std.proofs.lemmas.Bool.Decides.{nat_tests}
use Rattle.pra_list.specs.Each.{EachAt}
use Rattle.pra_list.proofs.Each.{each_at}
use Rattle.pra_base.specs.declared.ids.VarId.{VarId}
use Rattle.pra_base.specs.declared.code.VarKind.TheVariants.{Param}
use Rattle.pra_base.specs.declared.code.VInstr.{VInstr}
use Rattle.pra_base.specs.declared.code.VInstr.TheVariants.{Clear, Load, DivMod, Check, Push, Call}
use Rattle.pra_base.specs.declared.code.VInstr.TheVariants.{Cmp, Copy, Shift}
use Rattle.pra_base.specs.declared.code.End.TheVariants.{Return}
use Rattle.pra_base.specs.declared.code.VProc.{VProc}
use Rattle.pra_base.specs.Code.{block_in, end_of, instr_at, EachInstr, IsTarget}
use Rattle.pra_base.specs.Operands.{reads, writes, only_writes}
use Rattle.pra_base.specs.Live.{Point, Path, ReadBeforeWritten, reads_at, writes_at}
use Rattle.pra_base.specs.Live.Goes.{over, leaves}
use Rattle.pra_base.specs.Live.Path.{stays, then}
use Rattle.pra_base.specs.Valid.{EntryBlock, LastReturn, CmpBeforeBranch, RolesApart, DividesApart}
use Rattle.pra_base.specs.Valid.{DivisionApart, KeepsConstant, ConstantsKept, LiveAtEntry}
use Rattle.pra_base.specs.Valid.{PushesBeforeCalls, TakesAny, TakesArgs, ClearFirst, CheckRange}
use Rattle.pra_base.specs.Valid.{ShiftRange}
use Rattle.pra_base.specs.declared.ids.ShiftOp.{ShiftOp}
use Rattle.pra_base.specs.Valid.{ArgumentsApart, NamesCell, IsValid, counts_of, AreValid}
use Rattle.vc_code.specs.Sample.{word, quotient, rest, two, word_0, callee, caller_code, caller}
use Rattle.vc_code.specs.Sample.{called, sample}

-- ---- facts about each instruction

of_caller_at : (P : ℕ → VInstr → Type 0) → EachAt P caller_code → (b k : ℕ) (i : VInstr) →
    slice_get (block_in caller.blocks b).code k ≡ Some i → P k i
of_caller_at P each zero k i h = each_at P caller_code each k i h
of_caller_at P each (suc zero) k i h = cc
of_caller_at P each (suc (suc b)) k i h = cc

of_caller : (P : VInstr → Type 0) → EachAt (λ k i. P i) caller_code → EachInstr caller.blocks P
of_caller P each b k i h = of_caller_at (λ k i. P i) each b k i h

of_called : (P : VInstr → Type 0) → EachInstr called.blocks P
of_called P zero k i h = cc
of_called P (suc b) k i h = cc

-- ---- what is never read

-- Points from which no path leads to a read of the variable: it is not read there, and control that
-- has not written it comes to such points alone.
record Unread (code : VProc) (v : ℕ) (D : ℕ → ℕ → Type 0) : Type 0 where
  unread : (b k : ℕ) → D b k → reads_at code v (record { block = b; index = k }) ≡ false
  onward : (b k : ℕ) (i : VInstr) → D b k → instr_at code b k ≡ Some i →
      writes_at code v (record { block = b; index = k }) ≡ false → D b (suc k)
  left : (b k t : ℕ) → D b k → instr_at code b k ≡ None → IsTarget (end_of code b) t → D t 0

not_both : {b : Bool} → b ≡ false → b ≡ true → ⊥
not_both f t = cc

no_read : (code : VProc) (v : ℕ) (D : ℕ → ℕ → Type 0) → Unread code v D → {p q : Point} →
    Path code v p q → D p.block p.index → reads_at code v q ≡ true → ⊥
no_read code v D u {p} {q} stays d read = not_both (u.unread p.block p.index d) read
no_read code v D u {p} {q} (then write (over {i = i} here) path) d read =
    no_read code v D u path (u.onward p.block p.index i d here write) read
no_read code v D u {p} {q} (then write (leaves {b = b} here target) path) d read =
    no_read code v D u path (u.left p.block p.index b d here target) read

is_dead : (code : VProc) (v : ℕ) (D : ℕ → ℕ → Type 0) → Unread code v D → (b k : ℕ) → D b k →
    ReadBeforeWritten code v (record { block = b; index = k }) → ⊥
is_dead code v D u b k d r = no_read code v D u r.path d r.read

-- the dividend behind its division
abbrev Behind : ℕ → ℕ → Type 0
Behind zero k = 3 ≤ k
Behind (suc zero) k = Unit {0}
Behind (suc (suc b)) k = ⊥

below_three : {A : Type 0} (k : ℕ) → 3 ≤ k → k < 3 → A
below_three k h lt = absurd (omega arith)

dividend : Unread caller 0 Behind
dividend = record { unread = unread; onward = onward; left = left }
  where
    unread : (b k : ℕ) → Behind b k → reads_at caller 0 (record { block = b; index = k }) ≡ false
    unread zero zero d = absurd (omega arith)
    unread zero (suc zero) d = absurd (omega arith)
    unread zero (suc (suc zero)) d = absurd (omega arith)
    unread zero (suc (suc (suc zero))) d = refl
    unread zero (suc (suc (suc (suc zero)))) d = refl
    unread zero (suc (suc (suc (suc (suc zero))))) d = refl
    unread zero (suc (suc (suc (suc (suc (suc zero)))))) d = refl
    unread zero (suc (suc (suc (suc (suc (suc (suc k))))))) d = refl
    unread (suc zero) k d = refl
    unread (suc (suc b)) k d = absurd d

    onward : (b k : ℕ) (i : VInstr) → Behind b k → instr_at caller b k ≡ Some i →
        writes_at caller 0 (record { block = b; index = k }) ≡ false → Behind b (suc k)
    onward zero k i d here write = omega arith
    onward (suc zero) k i d here write = tt
    onward (suc (suc b)) k i d here write = d

    to_one : (t : ℕ) → 1 ≡ t → Behind t 0
    to_one t e = subst (λ n. Behind n 0) e tt

    left : (b k t : ℕ) → Behind b k → instr_at caller b k ≡ None → IsTarget (end_of caller b) t →
        Behind t 0
    left zero k t d none target = ⊎_elim (λ e. to_one t e) (λ e. to_one t e) target
    left (suc zero) k t d none target = absurd target
    left (suc (suc b)) k t d none target = absurd d

-- a variable before it is written, at instruction n of block 0
abbrev Before : ℕ → ℕ → ℕ → Type 0
Before n zero k = k ≤ n
Before n (suc b) k = ⊥

loaded : Unread caller 0 (Before 1)
loaded = record { unread = unread; onward = onward; left = left }
  where
    unread : (b k : ℕ) → Before 1 b k → reads_at caller 0 (record { block = b; index = k }) ≡ false
    unread zero zero d = refl
    unread zero (suc zero) d = refl
    unread zero (suc (suc k)) d = absurd (omega arith)
    unread (suc b) k d = absurd d

    onward : (b k : ℕ) (i : VInstr) → Before 1 b k → instr_at caller b k ≡ Some i →
        writes_at caller 0 (record { block = b; index = k }) ≡ false → Before 1 b (suc k)
    onward zero zero i d here write = omega arith
    onward zero (suc zero) i d here write = cc
    onward zero (suc (suc k)) i d here write = absurd (omega arith)
    onward (suc b) k i d here write = absurd d

    left : (b k t : ℕ) → Before 1 b k → instr_at caller b k ≡ None → IsTarget (end_of caller b) t →
        Before 1 t 0
    left zero zero t d none target = cc
    left zero (suc zero) t d none target = cc
    left zero (suc (suc k)) t d none target = absurd (omega arith)
    left (suc b) k t d none target = absurd d

-- where each of the first three instructions neither reads nor writes a variable but that
-- instruction 2 writes it
module _ (v : ℕ)
    (unread_first : (k : ℕ) → k ≤ 2 → reads_at caller v (record { block = 0; index = k }) ≡ false)
    (written : writes_at caller v (record { block = 0; index = 2 }) ≡ true) where
  divided : Unread caller v (Before 2)
  divided = record { unread = unread; onward = onward; left = left }
    where
      unread : (b k : ℕ) → Before 2 b k → reads_at caller v (record { block = b; index = k }) ≡
          false
      unread zero k d = unread_first k d
      unread (suc b) k d = absurd d

      onward : (b k : ℕ) (i : VInstr) → Before 2 b k → instr_at caller b k ≡ Some i →
          writes_at caller v (record { block = b; index = k }) ≡ false → Before 2 b (suc k)
      onward zero zero i d here write = omega arith
      onward zero (suc zero) i d here write = omega arith
      onward zero (suc (suc zero)) i d here write = absurd (not_both write written)
      onward zero (suc (suc (suc k))) i d here write = absurd (omega arith)
      onward (suc b) k i d here write = absurd d

      left : (b k t : ℕ) → Before 2 b k → instr_at caller b k ≡ None →
          IsTarget (end_of caller b) t → Before 2 t 0
      left zero zero t d none target = cc
      left zero (suc zero) t d none target = cc
      left zero (suc (suc zero)) t d none target = cc
      left zero (suc (suc (suc k))) t d none target = absurd (omega arith)
      left (suc b) k t d none target = absurd d

quotient_first : (k : ℕ) → k ≤ 2 → reads_at caller 1 (record { block = 0; index = k }) ≡ false
quotient_first zero h = refl
quotient_first (suc zero) h = refl
quotient_first (suc (suc zero)) h = refl
quotient_first (suc (suc (suc k))) h = absurd (omega arith)

rest_first : (k : ℕ) → k ≤ 2 → reads_at caller 2 (record { block = 0; index = k }) ≡ false
rest_first zero h = refl
rest_first (suc zero) h = refl
rest_first (suc (suc zero)) h = refl
rest_first (suc (suc (suc k))) h = absurd (omega arith)

-- no instruction names a variable past the end
abbrev Anywhere : ℕ → ℕ → Type 0
Anywhere b k = Unit {0}

past : (v : ℕ) → 4 ≤ v → Unread caller v Anywhere
past v far = record {
  unread = unread;
  onward = λ b k i d here write. tt;
  left =
      λ b k t d none target. tt;
}
  where
    other : (n : ℕ) → n < 4 → nat_eq n v ≡ false
    other n h = grind (arith, nat_tests)

    unread : (b k : ℕ) → Unit {0} → reads_at caller v (record { block = b; index = k }) ≡ false
    unread zero zero d = refl
    unread zero (suc zero) d = refl
    unread zero (suc (suc zero)) d = rw (other 0 (lit< tt), other 3 (lit< tt)) refl
    unread zero (suc (suc (suc zero))) d = rw (other 2 (lit< tt)) refl
    unread zero (suc (suc (suc (suc zero)))) d = rw (other 1 (lit< tt)) refl
    unread zero (suc (suc (suc (suc (suc zero))))) d = refl
    unread zero (suc (suc (suc (suc (suc (suc zero)))))) d =
        rw (other 2 (lit< tt), other 3 (lit< tt)) refl
    unread zero (suc (suc (suc (suc (suc (suc (suc k))))))) d = refl
    unread (suc zero) k d = refl
    unread (suc (suc b)) k d = refl

no_begin : (n : ℕ) → 2 * n + 1 ≤ 0 → ⊥
no_begin n h = omega arith

caller_entry : LiveAtEntry caller
caller_entry zero live = absurd (is_dead caller 0 (Before 1) loaded 0 0 (omega arith) live)
caller_entry (suc zero) live =
    absurd (is_dead caller 1 (Before 2) (divided 1 quotient_first refl) 0 0 (omega arith) live)
caller_entry (suc (suc zero)) live =
    absurd (is_dead caller 2 (Before 2) (divided 2 rest_first refl) 0 0 (omega arith) live)
caller_entry (suc (suc (suc zero))) live = absurd (no_begin live.first live.from)
caller_entry (suc (suc (suc (suc v)))) live =
    absurd (is_dead caller (suc (suc (suc (suc v)))) Anywhere
    (past (suc (suc (suc (suc v)))) (omega arith)) 0 0 tt live)

called_entry : LiveAtEntry called
called_entry zero live = (0, refl)
called_entry (suc v) live =
    absurd (is_dead called (suc v) Anywhere
    (record {
      unread = unread;
      onward = λ b k i d here write. tt;
      left =
          λ b k t d none target. tt;
    }) 0 0 tt live)
  where
    unread : (b k : ℕ) → Unit {0} → reads_at called (suc v) (record { block = b; index = k }) ≡
        false
    unread zero k d = refl
    unread (suc b) k d = refl

-- ---- blocks

out_of_two : {A : Type 0} (b : ℕ) → suc (suc b) < 2 → A
out_of_two b h = absurd (omega arith)

out_of_one : {A : Type 0} (b : ℕ) → suc b < 1 → A
out_of_one b h = absurd (omega arith)

not_zero : {A : Type 0} (n : ℕ) → suc n ≡ 0 → A
not_zero n h = absurd (omega arith)

caller_enters : EntryBlock caller.blocks
caller_enters = record { there = omega arith; no_target = no_target }
  where
    no_target : (b : ℕ) → b < 2 → IsTarget (block_in caller.blocks b).end 0 → ⊥
    no_target zero lt h = ⊎_elim (λ e. not_zero 0 e) (λ e. not_zero 0 e) h
    no_target (suc zero) lt h = h
    no_target (suc (suc b)) lt h = out_of_two b lt

called_enters : EntryBlock called.blocks
called_enters = record { there = omega arith; no_target = no_target }
  where
    no_target : (b : ℕ) → b < 1 → IsTarget (block_in called.blocks b).end 0 → ⊥
    no_target zero lt h = h
    no_target (suc b) lt h = out_of_one b lt

caller_last : LastReturn caller.blocks
caller_last = record { there = omega arith; exactly = exactly }
  where
    exactly : (b : ℕ) → b < 2 → ((block_in caller.blocks b).end ≡ Return) ↔ (suc b ≡ 2)
    exactly zero lt = ((λ e. cc), (λ e. absurd (omega arith)))
    exactly (suc zero) lt = ((λ e. refl), (λ e. refl))
    exactly (suc (suc b)) lt = out_of_two b lt

called_last : LastReturn called.blocks
called_last = record { there = omega arith; exactly = exactly }
  where
    exactly : (b : ℕ) → b < 1 → ((block_in called.blocks b).end ≡ Return) ↔ (suc b ≡ 1)
    exactly zero lt = ((λ e. refl), (λ e. refl))
    exactly (suc b) lt = out_of_one b lt

caller_branches : CmpBeforeBranch caller.blocks
caller_branches zero condition one other e = (rest, two, refl)
caller_branches (suc zero) condition one other e = cc
caller_branches (suc (suc b)) condition one other e = cc

called_branches : CmpBeforeBranch called.blocks
called_branches zero condition one other e = cc
called_branches (suc b) condition one other e = cc

caller_pushes : (Takes : ℕ → ℕ → Type 0) → Takes 1 1 → PushesBeforeCalls Takes caller.blocks
caller_pushes Takes one zero = (refl, (refl, (refl, (refl, (one, (refl, refl))))))
caller_pushes Takes one (suc zero) = refl
caller_pushes Takes one (suc (suc b)) = refl

called_pushes : (Takes : ℕ → ℕ → Type 0) → PushesBeforeCalls Takes called.blocks
called_pushes Takes zero = refl
called_pushes Takes (suc b) = refl

abbrev IsFirst : ℕ → VInstr → Type 0
IsFirst n i = i ≡ Clear → n ≡ 0

caller_clear : ClearFirst 1 caller.blocks
caller_clear zero zero = ((λ e. ((λ one. not_zero 0 one), refl, refl)), (λ w. refl))
caller_clear zero (suc k) = (
  (λ e. not_zero k (of_caller_at IsFirst (
    (λ c. refl),
    (
      (λ c. cc),
      ((λ c. cc), ((λ c. cc), ((λ c. cc), ((λ c. cc), ((λ c. cc), tt))))),
    ),
  ) 0 (suc k) Clear e
      refl)),
  (λ w. not_zero k w.2),
)
caller_clear (suc zero) k = ((λ e. cc), (λ w. not_zero 0 w.1))
caller_clear (suc (suc b)) k = ((λ e. cc), (λ w. not_zero (suc b) w.1))

called_clear : ClearFirst 0 called.blocks
called_clear zero k = ((λ e. cc), (λ w. absurd (w.0 refl)))
called_clear (suc b) k = ((λ e. cc), (λ w. absurd (w.0 refl)))

abbrev InRange : VInstr → Type 0
InRange i = (v : VarId) (n : ℤ) → i ≡ Check v n → (pos 0 ≤ℤ n) × (n ≤ℤ pos 2147483647)

in_range : InRange (Check rest (pos 2))
in_range v n e = let same : pos 2 ≡ n = cc in
    subst (λ (m : ℤ). (pos 0 ≤ℤ m) × (m ≤ℤ pos 2147483647)) same (search rules, search rules)

caller_checks : CheckRange caller.blocks
caller_checks = of_caller InRange (
  (λ v n e. cc),
  (
    (λ v n e. cc),
    ((λ v n e. cc), (in_range, ((λ v n e. cc), ((λ v n e. cc), ((λ v n e. cc), tt))))),
  ),
)

abbrev Shifts : VInstr → Type 0
Shifts i = (op : ShiftOp) (v : VarId) (n : ℕ) → i ≡ Shift op v n → (1 ≤ n) × (n ≤ 31)

caller_shifts : ShiftRange caller.blocks
caller_shifts = of_caller Shifts (
  (λ op v n e. cc),
  (
    (λ op v n e. cc),
    (
      (λ op v n e. cc),
      ((λ op v n e. cc), ((λ op v n e. cc), ((λ op v n e. cc), ((λ op v n e. cc), tt)))),
    ),
  ),
)

-- ---- roles and variables

abbrev Apart : VInstr → Type 0
Apart i = (v : ℕ) → only_writes i v ≡ true → reads i v ≡ false

caller_roles : RolesApart caller.blocks
caller_roles = of_caller Apart (
  (λ v h. refl),
  (
    (λ v h. refl),
    (divides, ((λ v h. cc), ((λ v h. cc), ((λ v h. refl), ((λ v h. cc), tt))))),
  ),
)
  where
    four : (v : ℕ) → (nat_eq 1 v || (nat_eq 2 v || false)) ≡ true →
        (nat_eq 0 v || (nat_eq 3 v || false)) ≡ false
    four v h = grind (arith, nat_tests)

    divides : Apart (DivMod quotient rest word two)
    divides v h = four v h

unequal : (v w : VarId) → (v.0 ≡ w.0 → ⊥) → v ≢ w
unequal v w ne e = ne (ap (λ (u : VarId). u.0) e)

caller_divides : DividesApart caller 0 2 quotient rest word two
caller_divides = record {
  q_r = unequal quotient rest (λ e. omega arith);
  q_a = unequal quotient word (λ e. omega arith);
  q_d = unequal quotient two (λ e. omega arith);
  r_a = unequal rest word (λ e. omega arith);
  r_d = unequal rest two (λ e. omega arith);
  a_d = unequal word two (λ e. omega arith);
  dead = λ live. is_dead caller 0 Behind dividend 0 3 (omega arith) live;
}

abbrev Divides : ℕ → VInstr → Type 0
Divides k i = (q r a d : VarId) → i ≡ DivMod q r a d → DividesApart caller 0 k q r a d

divides : Divides 2 (DivMod quotient rest word two)
divides q r a d e =
    let for_q : quotient ≡ q = cc in
    let for_r : rest ≡ r = cc in
    let for_a : word ≡ a = cc in
    let for_d : two ≡ d = cc in
    subst (λ q. DividesApart caller 0 2 q r a d) for_q
    (subst (λ r. DividesApart caller 0 2 quotient r a d) for_r
    (subst (λ a. DividesApart caller 0 2 quotient rest a d) for_a
    (subst (λ d. DividesApart caller 0 2 quotient rest word d) for_d caller_divides)))

caller_division : DivisionApart caller
caller_division zero k q r a d h =
    each_at Divides caller_code (
      (λ q r a d e. cc),
      (
        (λ q r a d e. cc),
        (
          divides,
          (
            (λ q r a d e. cc),
            ((λ q r a d e. cc), ((λ q r a d e. cc), ((λ q r a d e. cc), tt))),
          ),
        ),
      ),
    ) k (DivMod q r a d) h q
    r a d refl
caller_division (suc zero) k q r a d h = cc
caller_division (suc (suc b)) k q r a d h = cc

called_division : DivisionApart called
called_division zero k q r a d h = cc
called_division (suc b) k q r a d h = cc

kept_two : (i : VInstr) → writes i 3 ≡ false → ((t s : VarId) → i ≡ Copy t s → ⊥) →
    KeepsConstant 3 i
kept_two i free none = record { unwritten = free; uncopied = λ t s e. absurd (none t s e) }

caller_constants : ConstantsKept caller
caller_constants zero n e = cc
caller_constants (suc zero) n e = cc
caller_constants (suc (suc zero)) n e = cc
caller_constants (suc (suc (suc zero))) n e =
    of_caller (KeepsConstant 3) (
      kept_two Clear refl (λ t s e. cc),
      (
        kept_two (Load word word_0) refl (λ t s e. cc),
        (
          kept_two (DivMod quotient rest word two) refl (λ t s e. cc),
          (
            kept_two (Check rest (pos 2)) refl (λ t s e. cc),
            (
              kept_two (Push quotient) refl (λ t s e. cc),
              (
                kept_two (Call callee) refl (λ t s e. cc),
                (kept_two (Cmp rest two) refl (λ t s e. cc), tt),
              ),
            ),
          ),
        ),
      ),
    )
caller_constants (suc (suc (suc (suc v)))) n e = cc

called_constants : ConstantsKept called
called_constants zero n e = cc
called_constants (suc v) n e = cc

abbrev NoCell : VInstr → Type 0
NoCell j = (v i : ℕ) → NamesCell j i → slice_get caller.vars v ≢ Some (Param i)

caller_arguments : ArgumentsApart caller.vars caller.blocks
caller_arguments = record {
  params = λ v w i h g. absurd (each_at (λ v kind. kind ≡ Param i → ⊥) caller.vars
      ((λ e. cc), ((λ e. cc), ((λ e. cc), ((λ e. cc), tt)))) v (Param i) h refl);
  cells = of_caller NoCell (
    (λ v i c. cc),
    (
      (λ v i c. cc),
      ((λ v i c. cc), ((λ v i c. cc), ((λ v i c. cc), ((λ v i c. cc), ((λ v i c. cc), tt))))),
    ),
  );
}

called_arguments : ArgumentsApart called.vars called.blocks
called_arguments = record {
  params = λ v w i h g. each_at (λ v kind. slice_get called.vars w ≡ Some kind → v ≡ w) called.vars
      ((λ e. first w e), tt) v (Param i) h g;
  cells = of_called (λ j. (v i : ℕ) → NamesCell j i → slice_get called.vars v ≢ Some (Param i));
}
  where
    first : (w : ℕ) → slice_get called.vars w ≡ Some (Param 0) → 0 ≡ w
    first zero e = refl
    first (suc w) e = cc

-- ---- the whole

caller_is : IsValid caller
caller_is = record {
  entry_block = caller_enters;
  block_rules = record {
    last_return = caller_last;
    cmp_before_branch = caller_branches;
    pushes_before_calls = caller_pushes TakesAny tt;
    clear_first = caller_clear;
    check_range = caller_checks;
    shift_range = caller_shifts;
  };
  roles_apart = caller_roles;
  division_apart = caller_division;
  constants_kept = caller_constants;
  live_at_entry = caller_entry;
  arguments_apart = caller_arguments;
}

called_is : IsValid called
called_is = record {
  entry_block = called_enters;
  block_rules = record {
    last_return = called_last;
    cmp_before_branch = called_branches;
    pushes_before_calls = called_pushes TakesAny;
    clear_first = called_clear;
    check_range = of_called InRange;
    shift_range = of_called Shifts;
  };
  roles_apart = of_called Apart;
  division_apart = called_division;
  constants_kept = called_constants;
  live_at_entry = called_entry;
  arguments_apart = called_arguments;
}

pub sample_is : AreValid sample
sample_is = record {
  each = λ p code h. each_at (λ p code. IsValid code) sample (caller_is, (called_is, tt)) p code h;
  pushes_before_calls = λ p code h. each_at
      (λ p (code : VProc). PushesBeforeCalls (TakesArgs (counts_of sample)) code.blocks) sample (
        caller_pushes (TakesArgs (counts_of sample)) refl,
        (called_pushes (TakesArgs (counts_of sample)), tt),
      ) p code h;
  body = refl;
}
