-- The sets of all points say exactly what is live.
use Rattle.std.proofs.Common.{◌≡◌, ℕ, zero, suc, ◌+◌, ◌-◌, ◌*◌, ◌/◌, ◌%◌, ◌<◌, ◌≤◌, inl, inr, ◌↔◌}
use Rattle.std.proofs.Common.{Bool, true, false, ◌&&◌, ◌||◌, List, [], ◌∷◌, ◌++◌, length, get_or}
use Rattle.std.proofs.Common.{take, drop, slice_get, refl, sym, subst, ◌∙◌, arith}
use Rattle.std.proofs.lemmas.Bool.{cases_eq, eq-eqb, ne_eqb}
use Rattle.std.proofs.lemmas.List.{get_or_push, get_or_append_left, length_push}
use Rattle.pra_base.specs.declared.code.VInstr.{VInstr}
use Rattle.pra_base.specs.declared.code.Block.{Block}
use Rattle.pra_base.specs.declared.code.VProc.{VProc}
use Rattle.pra_base.specs.Code.{code_of, end_of, IsTarget}
use Rattle.pra_base.specs.Operands.{reads}
use Rattle.pra_base.specs.Live.{BetweenReads, ReadBeforeWritten, reads_at, passes}
use Rattle.vc_live.specs.Equations.{before, through, at_exit, at_targets, live_in, IsSound}
use Rattle.vc_live.specs.Equations.{IsClosed}
use Rattle.vc_live.specs.Rows.{has_at, constant_at, read_in, RowsOf, AllRows}
use Rattle.vc_live.proofs.Made.{block_read}
use Rattle.vc_live.proofs.Theory.{sound_from, complete_from}

-- ---- reads of a list, and the instructions that make them

from_read : (v : ℕ) (is : List VInstr) (k : ℕ) → read_in (drop k is) v ≡ true → (j : ℕ) × (k ≤ j) ×
    (passes (λ i. reads i v) (slice_get is j) ≡ true)
from_read v [] zero any = cc
from_read v [] (suc k) any = cc
from_read v (i ∷ is) zero any = by (reads i v) refl any (λ rest. from_read v is zero rest)
  where
    by : (b : Bool) → reads i v ≡ b → (b || read_in is v) ≡ true →
        (read_in is v ≡ true → (j : ℕ) × (0 ≤ j) ×
        (passes (λ i'. reads i' v) (slice_get is j) ≡ true)) → (j : ℕ) × (0 ≤ j) ×
        (passes (λ i'. reads i' v) (slice_get (i ∷ is) j) ≡ true)
    by true here any go = (0, omega arith, here)
    by false here any go = let more = go any in (suc more.0, omega arith, more.2)
from_read v (i ∷ is) (suc k) any = let more = from_read v is k any in
    (suc more.0, omega (arith, more.1), more.2)

read_from : (v : ℕ) (is : List VInstr) (k j : ℕ) → k ≤ j →
    passes (λ i. reads i v) (slice_get is j) ≡ true → read_in (drop k is) v ≡ true
read_from v [] k j le read = cc
read_from v (i ∷ is) zero zero le read = rw read refl
read_from v (i ∷ is) zero (suc j) le read = rw (read_from v is zero j (omega arith) read)
    (or_true (reads i v))
  where
    or_true : (b : Bool) → (b || true) ≡ true
    or_true true = refl
    or_true false = refl
read_from v (i ∷ is) (suc k) zero le read = absurd (omega arith)
read_from v (i ∷ is) (suc k) (suc j) le read = read_from v is k j (omega arith) read

to_read : (v : ℕ) (is : List VInstr) (n : ℕ) → read_in (take n is) v ≡ true → (j : ℕ) × (j < n) ×
    (passes (λ i. reads i v) (slice_get is j) ≡ true)
to_read v [] zero any = cc
to_read v [] (suc n) any = cc
to_read v (i ∷ is) zero any = cc
to_read v (i ∷ is) (suc n) any = by (reads i v) refl any (λ rest. to_read v is n rest)
  where
    by : (b : Bool) → reads i v ≡ b → (b || read_in (take n is) v) ≡ true →
        (read_in (take n is) v ≡ true → (j : ℕ) × (j < n) ×
        (passes (λ i'. reads i' v) (slice_get is j) ≡ true)) → (j : ℕ) × (j < suc n) ×
        (passes (λ i'. reads i' v) (slice_get (i ∷ is) j) ≡ true)
    by true here any go = (0, omega arith, here)
    by false here any go = let more = go any in (suc more.0, omega (arith, more.1), more.2)

read_to : (v : ℕ) (is : List VInstr) (n j : ℕ) → j < n → passes (λ i. reads i v) (slice_get is j) ≡
    true → read_in (take n is) v ≡ true
read_to v [] n j lt read = cc
read_to v (i ∷ is) zero j lt read = absurd (omega arith)
read_to v (i ∷ is) (suc n) zero lt read = rw read refl
read_to v (i ∷ is) (suc n) (suc j) lt read = rw (read_to v is n j (omega arith) read)
    (or_true (reads i v))
  where
    or_true : (b : Bool) → (b || true) ≡ true
    or_true true = refl
    or_true false = refl

-- ---- a constant

-- what is live before the rest of a block is what the rest reads
through_constant : (constants : ℕ → Bool) (is : List VInstr) (out : ℕ → Bool) (v : ℕ) →
    constants v ≡ true → out v ≡ false → through constants is out v ≡ read_in is v
unfolding through before
through_constant constants [] out v const none = none
through_constant constants (i ∷ is) out v const none =
    rw (const, through_constant constants is out v const none) (and_true (reads i v) (read_in is v))
  where
    and_true : (a b : Bool) → (a || (b && true)) ≡ (a || b)
    and_true true b = refl
    and_true false true = refl
    and_true false false = refl

no_constant_out : (constants : ℕ → Bool) (entries : List (List ℕ)) (code : VProc) (b v : ℕ) →
    constants v ≡ true → at_exit constants entries (end_of code b) v ≡ false
unfolding at_exit
no_constant_out constants entries code b v const =
    rw const (and_false (at_targets entries (end_of code b) v))
  where
    and_false : (x : Bool) → (x && false) ≡ false
    and_false true = refl
    and_false false = refl

-- ---- a point

module _ (code : VProc) (constants : ℕ → Bool) (entries : List (List ℕ))
    (blocks : List (List (List ℕ)))
    (all : AllRows code constants entries blocks (length code.blocks)) (b v : ℕ)
    (inside : b < length code.blocks) where
  -- a variable that is no constant
  has_plain : (k : ℕ) → constants v ≡ false → k ≤ length (code_of code b) → has_at blocks b k v ≡
      live_in code constants entries b k v
  unfolding live_in
  has_plain k free within = (all.rows b inside).members k v within
      ∙ rw free (kept (through constants (drop k (code_of code b))
      (at_exit constants entries (end_of code b)) v) (read_in (take (k + 1) (code_of code b)) v))
    where
      kept : (x y : Bool) → (x && (y || true)) ≡ x
      kept x y = grind arith

  -- a constant: some instruction from here on reads it, and some up to here
  has_constant : (k : ℕ) → constants v ≡ true → k ≤ length (code_of code b) → has_at blocks b k v ≡
      (read_in (drop k (code_of code b)) v && read_in (take (k + 1) (code_of code b)) v)
  has_constant k const within =
      let out = no_constant_out constants entries code b v const in
      (all.rows b inside).members k v within
      ∙ rw (
        const,
        through_constant constants (drop k (code_of code b))
            (at_exit constants entries (end_of code b)) v const out,
      )
      (kept (read_in (drop k (code_of code b)) v) (read_in (take (k + 1) (code_of code b)) v))
    where
      kept : (x y : Bool) → (x && (y || false)) ≡ (x && y)
      kept x y = grind arith

  -- ---- a layer

  pub plain_exact : (layer : ℕ) → constants v ≡ false → layer ≤ 2 * length (code_of code b) + 1 →
      IsSound code constants entries → IsClosed code constants entries →
      ((c t : ℕ) → c < length code.blocks → IsTarget (end_of code c) t → t < length code.blocks) →
      (has_at blocks b (layer / 2) v ≡ true) ↔ ReadBeforeWritten code v
      (record { block = b; index = layer / 2 })
  unfolding live_in
  plain_exact layer free within sound closed targets =
      let same = has_plain (layer / 2) free (omega arith) in (
        λ has. sound_from code constants entries b v sound free (drop (layer / 2) (code_of code b))
            (layer / 2) refl (sym same ∙ has),
        λ live. same ∙ complete_from code constants entries v free closed targets live.path
            live.read inside,
      )

  both_true : (x y : Bool) → (x && y) ≡ true → (x ≡ true) × (y ≡ true)
  both_true true y e = (refl, e)
  both_true false y e = cc

  at_point : (k : ℕ) → constants v ≡ true → k ≤ length (code_of code b) → has_at blocks b k v ≡
      true → (read_in (drop k (code_of code b)) v ≡ true) ×
      (read_in (take (k + 1) (code_of code b)) v ≡ true)
  at_point k const within has = both_true _ _ (sym (has_constant k const within) ∙ has)

  to_point : (k f l : ℕ) → constants v ≡ true → k ≤ length (code_of code b) → f ≤ k → k ≤ l →
      reads_at code v (record { block = b; index = f }) ≡ true →
      reads_at code v (record { block = b; index = l }) ≡ true → has_at blocks b k v ≡ true
  to_point k f l const within sooner later first last =
      has_constant k const within
      ∙ rw (
        read_from v (code_of code b) k l later last,
        read_to v (code_of code b) (k + 1) f
            (omega arith) first,
      ) refl

  -- before an instruction
  odd_exact : (layer : ℕ) → constants v ≡ true → layer ≤ 2 * length (code_of code b) + 1 →
      layer % 2 ≡ 1 → (has_at blocks b (layer / 2) v ≡ true) ↔ BetweenReads code v b layer
  odd_exact layer const within odd = (
    λ has.
        let here = at_point (layer / 2) const (omega arith) has in
        let later = from_read v (code_of code b) (layer / 2) here.0 in
        let sooner = to_read v (code_of code b) (layer / 2 + 1) here.1 in
        record {
          first = sooner.0;
          last = later.0;
          reads_first = sooner.2;
          reads_last = later.2;
          from = omega (arith, sooner.1);
          to = omega (arith, later.1);
        },
    λ live. to_point (layer / 2) live.first live.last const (omega arith) (omega (arith, live.from))
        (omega (arith, live.to)) live.reads_first live.reads_last,
  )

  -- between two instructions
  even_exact : (layer : ℕ) → constants v ≡ true → layer ≤ 2 * length (code_of code b) + 1 →
      layer % 2 ≡ 0 → 0 < layer / 2 →
      ((has_at blocks b (layer / 2) v && has_at blocks b (layer / 2 - 1) v) ≡ true) ↔ BetweenReads
      code v b layer
  even_exact layer const within even some = (
    λ has.
        let parts = both_true (has_at blocks b (layer / 2) v) (has_at blocks b (layer / 2 - 1) v)
        has in
        let after = at_point (layer / 2) const (omega arith) parts.0 in
        let before = at_point (layer / 2 - 1) const (omega arith) parts.1 in
        let later = from_read v (code_of code b) (layer / 2) after.0 in
        let sooner = to_read v (code_of code b) (layer / 2 - 1 + 1) before.1 in
        record {
          first = sooner.0;
          last = later.0;
          reads_first = sooner.2;
          reads_last = later.2;
          from = omega (arith, sooner.1);
          to = omega (arith, later.1);
        },
    λ live. rw (
      to_point (layer / 2) live.first live.last const (omega arith) (omega (arith, live.from))
          (omega (arith, live.to)) live.reads_first live.reads_last,
      to_point (layer / 2 - 1) live.first live.last const (omega arith) (omega (arith, live.from))
          (omega (arith, live.to)) live.reads_first live.reads_last,
    ) refl,
  )

  pub constant_exact : (layer : ℕ) → constants v ≡ true → layer ≤ 2 * length (code_of code b) + 1 →
      (constant_at blocks v b layer ≡ true) ↔ BetweenReads code v b layer
  constant_exact layer const within = elim (cases_eq (layer % 2) 1) [
    | inl odd ↦ rw (eq-eqb (layer % 2) 1 odd) (odd_exact layer const within odd)
    | inr even ↦ elim (cases_eq (layer / 2) 0) [
      | inl none ↦ rw (ne_eqb (layer % 2) 1 even, eq-eqb (layer / 2) 0 none)
          (λ e. absurd (false_true e), λ live. absurd (omega (arith, live.from)))
      | inr some ↦ rw (ne_eqb (layer % 2) 1 even, ne_eqb (layer / 2) 0 some)
          (even_exact layer const within (omega arith) (omega arith))
    ]
  ]
    where
      false_true : false ≡ true → ⊥
      false_true e = cc

-- ---- one more block

pub no_rows : (code : VProc) (constants : ℕ → Bool) (entries : List (List ℕ)) →
    AllRows code constants entries [] 0
no_rows code constants entries =
    record { same_count = refl; rows = λ b below. absurd (omega arith) }

pub more_rows : (code : VProc) (constants : ℕ → Bool) (entries : List (List ℕ))
    (blocks : List (List (List ℕ))) (b : ℕ) (block : Block) (rows : List (List ℕ)) →
    AllRows code constants entries blocks b → b < length code.blocks →
    block ≡ get_or code.blocks b block →
    RowsOf constants block.code (at_exit constants entries block.end) rows →
    AllRows code constants entries (blocks ++ rows ∷ []) (b + 1)
more_rows code constants entries blocks b block rows so_far within read made = record {
  same_count = omega (arith, length_push blocks rows, so_far.same_count);
  rows = λ c below. elim (cases_eq c b) [
    | inl at ↦ rw (at, get_or_push blocks rows [] b (so_far.same_count))
        (subst (λ x. RowsOf constants x.code (at_exit constants entries x.end) rows)
        (block_read code b block within read) made)
    | inr apart ↦ rw (get_or_append_left blocks (rows ∷ []) [] c (omega (arith, so_far.same_count)))
        (so_far.rows c (omega arith))
  ];
}
