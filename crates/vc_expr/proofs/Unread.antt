-- Certified code reads nothing before it is written, and no dividend after its division.
use Rattle.std.proofs.Common.{◌≡◌, ◌≢◌, ℕ, zero, suc, ◌+◌, ◌*◌, ◌/◌, ◌<◌, Bool, true, false, not}
use Rattle.std.proofs.Common.{◌&&◌, ◌||◌, List, [], ◌∷◌, ◌++◌, take, Option, Some, None, refl, sym}
use Rattle.std.proofs.Common.{ap, ◌∙◌, subst, arith, ◌≤◌, ⊎_elim}
use Rattle.std.specs.Prelude.{slice_get}
use Rattle.std.proofs.lemmas.Bool.{cases_lt}
use Rattle.std.proofs.lemmas.Bool.Decides.{nat_tests}
use Rattle.pra_base.specs.Code.{kind_of, block_of, code_of, end_of, instr_at, IsTarget}
use Rattle.pra_base.specs.Operands.{reads, writes}
use Rattle.pra_base.specs.Live.{Point, Path, ReadBeforeWritten, instr, passes, reads_at, writes_at}
use Rattle.pra_base.specs.Live.{point_at, LiveAs, Live}
use Rattle.pra_base.specs.Live.Goes.{over, leaves}
use Rattle.pra_base.specs.Live.Path.{stays, then}
use Rattle.pra_base.specs.declared.ids.VarId.{VarId}
use Rattle.pra_base.specs.declared.code.VarKind.TheVariants.{Plain}
use Rattle.pra_base.specs.declared.code.VInstr.{VInstr}
use Rattle.pra_base.specs.declared.code.VInstr.TheVariants.{DivMod}
use Rattle.pra_base.specs.declared.code.VProc.{VProc}
use Rattle.vc_build.specs.Grow.{count, stand_in}
use Rattle.vc_expr.specs.Rules.{ClosesWell, KeepsRules}
use Rattle.vc_expr.proofs.Rules.{nothing_there, code_past}
use Rattle.vc_expr.specs.Readable.{is_constant, divides, behind, readable, Entries, Certifies}
use Rattle.vc_expr.specs.Readable.{IsClosed}
use Rattle.vc_expr.proofs.Certificates.{readable_more}

take_more : (xs : List VInstr) (k : ℕ) (i : VInstr) → slice_get xs k ≡ Some i → take (suc k) xs ≡
    take k xs ++ i ∷ []
take_more [] k i e = absurd (cc)
take_more (x ∷ xs) zero i e = cc
take_more (x ∷ xs) (suc k) i e = ap (λ l. x ∷ l) (take_more xs k i e)

take_all : (xs : List VInstr) (k : ℕ) → slice_get xs k ≡ None → take k xs ≡ xs
take_all [] zero e = refl
take_all [] (suc k) e = refl
take_all (x ∷ xs) zero e = absurd (cc)
take_all (x ∷ xs) (suc k) e = ap (λ l. x ∷ l) (take_all xs k e)

not_both : (b : Bool) → b ≡ false → b ≡ true → ⊥
not_both b f t = cc

module _ (known : Entries) (code : VProc) (v : ℕ) (c : Certifies known code)
    (closed : IsClosed code) (plain : kind_of code v ≡ Plain) where
  abbrev before : ℕ → ℕ → Bool
  before b k = readable (known b v) (take k (code_of code b)) v

  no_constant : is_constant (kind_of code v) ≡ false
  no_constant = ap is_constant plain

  either_false : (a b : Bool) → a ≡ false → b ≡ false → (a || b) ≡ true → ⊥
  either_false a b f g t = cc

  unread_there : (b k : ℕ) → before b k ≡ false → (o : Option VInstr) →
      slice_get (code_of code b) k ≡ o → passes (λ i. reads i v) o ≡ true → ⊥
  unread_there b k f (Some i) e r = either_false (is_constant (kind_of code v))
      (before b k) no_constant f (c.reads_known b k v i e r)
  unread_there b k f None e r = cc

  onward : (b k : ℕ) (i : VInstr) → before b k ≡ false → slice_get (code_of code b) k ≡ Some i →
      writes i v ≡ false → before b (suc k) ≡ false
  onward b k i f e w =
      ap (λ l. readable (known b v) l v) (take_more (code_of code b) k i e)
      ∙ readable_more (known b v) (take k (code_of code b)) i v
      ∙ ap (behind i v) f
      ∙ ap (λ x. x || (false && not (divides i v))) w

  unwritten : (b k : ℕ) (i : VInstr) → slice_get (code_of code b) k ≡ Some i →
      writes_at code v (record { block = b; index = k }) ≡ false → writes i v ≡ false
  unwritten b k i e w = sym (ap (passes (λ j. writes j v)) e) ∙ w

  not_true : (b : Bool) → (b ≡ true → ⊥) → b ≡ false
  not_true true n = absurd (n refl)
  not_true false n = refl

  left : (b k t : ℕ) → b < count code → before b k ≡ false → slice_get (code_of code b) k ≡ None →
      IsTarget (end_of code b) t → before t 0 ≡ false
  left b k t lt f e target =
      not_true (known t v) (λ is. either_false (is_constant (kind_of code v))
      (readable (known b v) (code_of code b) v) no_constant
      (ap (λ l. readable (known b v) l v) (sym (take_all (code_of code b) k e)) ∙ f)
      (c.flows b t v lt (closed b lt).0 target is))

  no_read : {p q : Point} → Path code v p q → p.block < count code → before p.block p.index ≡
      false → reads_at code v q ≡ true → ⊥
  no_read {p} {q} stays lt f r = unread_there p.block p.index f (instr code p) refl r
  no_read {p} {q} (then w (over {i = i} here) path) lt f r =
      no_read path lt (onward p.block p.index i f here (unwritten p.block p.index i here w)) r
  no_read {p} {q} (then w (leaves {b = b} here target) path) lt f r =
      no_read path ((closed p.block lt).1 b target) (left p.block p.index b lt f here target) r

  pub never_read : (p : Point) → p.block < count code → before p.block p.index ≡ false →
      ReadBeforeWritten code v p → ⊥
  never_read p lt f r = no_read r.path lt f r.read

-- ---- at the entry, and behind a division

live_plain : (code : VProc) (v b layer : ℕ) → kind_of code v ≡ Plain → Live code v b layer →
    ReadBeforeWritten code v (point_at b layer)
live_plain code v b layer plain l = subst (λ k. LiveAs k code v b layer) plain l

pub entry_unread : (known : Entries) (code : VProc) (v : ℕ) → Certifies known code → IsClosed code →
    kind_of code v ≡ Plain → 0 < count code → known 0 v ≡ false → Live code v 0 0 → ⊥
entry_unread known code v c closed plain some unknown l = never_read known code v c closed plain
    (point_at 0 0) some unknown (live_plain code v 0 0 plain l)

dividend_unwritten : (q r a d : VarId) → a.0 ≢ q.0 → a.0 ≢ r.0 → behind (DivMod q r a d) a.0 true ≡
    false
dividend_unwritten q r a d one two = grind (arith, nat_tests)

dividend_spent : (q r a d : VarId) (b : Bool) → a.0 ≢ q.0 → a.0 ≢ r.0 →
    behind (DivMod q r a d) a.0 b ≡ false
dividend_spent q r a d true one two = dividend_unwritten q r a d one two
dividend_spent q r a d false one two = grind (arith, nat_tests)

pub dividend_dead : (known : Entries) (code : VProc) (b k : ℕ) (q r a d : VarId) →
    Certifies known code → IsClosed code → b < count code → kind_of code a.0 ≡ Plain → a.0 ≢ q.0 →
    a.0 ≢ r.0 → instr_at code b k ≡ Some (DivMod q r a d) → Live code a.0 b (2 * k + 2) → ⊥
dividend_dead known code b k q r a d c closed lt plain one two here l =
    let index : (2 * k + 2) / 2 ≡ suc k = omega arith in
    let spent : readable (known b a.0) (take (suc k) (code_of code b)) a.0 ≡ false =
    ap (λ x. readable (known b a.0) x a.0) (take_more (code_of code b) k (DivMod q r a d) here)
    ∙ readable_more (known b a.0) (take k (code_of code b)) (DivMod q r a d) a.0
    ∙ dividend_spent q r a d (readable (known b a.0) (take k (code_of code b)) a.0) one two in
    never_read known code a.0 c closed plain (point_at b (2 * k + 2)) lt
    (ap (λ n. readable (known b a.0) (take n (code_of code b)) a.0) index ∙ spent)
    (live_plain code a.0 b (2 * k + 2) plain l)

-- ---- of the blocks that the code has

module _ (counts : List ℕ) (known other : Entries) (code : VProc) (k : KeepsRules counts code)
    (same : (b v : ℕ) → b < count code → other b v ≡ known b v) (c : Certifies known code) where
  is_block : (b n : ℕ) (i : VInstr) → slice_get (code_of code b) n ≡ Some i → b < count code
  is_block b n i e = ⊎_elim
      (λ (lt : b < count code). lt)
      (λ (le : count code ≤ b).
      absurd (nothing_there n i (ap (λ l. slice_get l n) (sym (code_past code b le)) ∙ e)))
      (cases_lt b (count code))

  target_there : (b t : ℕ) → b < count code → end_of code b ≢ stand_in →
      IsTarget (end_of code b) t → t < count code
  target_there b t lt real target = ⊎_elim
      (λ (e : end_of code b ≡ stand_in). absurd (real e))
      (λ (w : ClosesWell (count code) (block_of code b)). (w.targets t target).1)
      (k.ends b lt)

  pub certifies_other : Certifies other code
  certifies_other = record {
    reads_known = λ b n v i is r.
        ap (λ x. is_constant (kind_of code v) || readable x (take n (code_of code b)) v)
        (same b v (is_block b n i is))
        ∙ c.reads_known b n v i is r;
    flows = λ b t v lt real target is.
        ap (λ x. is_constant (kind_of code v) || readable x (code_of code b) v) (same b v lt)
        ∙ c.flows b t v lt real target (sym (same t v (target_there b t lt real target)) ∙ is);
  }
