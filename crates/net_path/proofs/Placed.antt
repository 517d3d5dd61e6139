-- Places of a row that are paid one after the other, a register and its both place at a time.
use Rattle.std.proofs.Common.{ℕ, ◌≡◌, ◌≢◌, ◌<◌, ◌≤◌, ◌+◌, ℤ, List, ◌∙◌, subst, sym, arith}
use borrow.Author.Count.{below_more}
use Rattle.net_path.specs.Ways.{at, IsLeastWay}
use Rattle.net_path.specs.Rows.{IsPaid, IsPaidAt, IsPaidOver}
use Rattle.net_path.proofs.Classes.{Class, class_of}
use Rattle.net_path.proofs.Classes.Class.{alone, memory, constant, both}

-- the same of an old number and a new one
pub carried : (P : ℤ → ℤ → Type 0) (a b x y : ℤ) → a ≡ b → x ≡ y → P b y → P a x
carried P a b x y e f p = subst (λ (u : ℤ). P u x) (sym e) (subst (P b) (sym f) p)

module _ (P : ℕ → ℤ → ℤ → Type 0) (first : List ℤ) where
  -- of the registers below r both are paid, alone and with memory; no other place is
  pub record HavePaid (r : ℕ) (row : List ℤ) : Type 0 where
    pub paid : (k : ℕ) → k < r →
        P k (at first k) (at row k) × P (8 + k) (at first (8 + k)) (at row (8 + k))
    pub left : (k : ℕ) → r ≤ k → k < 6 →
        (at row k ≡ at first k) × (at row (8 + k) ≡ at first (8 + k))
    pub six : at row 6 ≡ at first 6
    pub seven : at row 7 ≡ at first 7

  module _ (r : ℕ) (lr : r < 6) (old mid new : List ℤ) (x y : ℤ) (have : HavePaid r old)
      (one : IsPaidAt r x old mid) (two : IsPaidAt (8 + r) y mid new) where
    same : (k : ℕ) → k ≢ r → k ≢ 8 + r → at new k ≡ at old k
    same k a b = two.others k b ∙ one.others k a

    at_alone : at new r ≡ at mid r
    at_alone = two.others r (omega arith)

    at_both : at mid (8 + r) ≡ at old (8 + r)
    at_both = one.others (8 + r) (omega arith)

    pub paid_two : P r (at old r) (at new r) → P (8 + r) (at old (8 + r)) (at new (8 + r))
        → HavePaid (r + 1) new
    paid_two p q = record {
      paid = below_more (λ k. P k (at first k) (at new k)
          × P (8 + k) (at first (8 + k)) (at new (8 + k))) r
          (λ k lt. (
            subst (P k (at first k)) (sym (same k (omega arith) (omega arith))) (have.paid k lt).0,
            subst (P (8 + k) (at first (8 + k))) (sym (same (8 + k) (omega arith) (omega arith)))
                (have.paid k lt).1,
          )) (
            subst (λ (u : ℤ). P r u (at new r)) (have.left r (omega arith) lr).0 p,
            subst (λ (u : ℤ). P (8 + r) u (at new (8 + r))) (have.left r (omega arith) lr).1 q,
          );
      left = λ k ge lt. (
        same k (omega arith) (omega arith) ∙ (have.left k (omega arith) lt).0,
        same (8 + k) (omega arith) (omega arith) ∙ (have.left k (omega arith) lt).1,
      );
      six = same 6 (omega arith) (omega arith) ∙ have.six;
      seven = same 7 (omega arith) (omega arith) ∙ have.seven;
    }

  -- memory and the constant itself are paid in the end
  module _ (old mid new : List ℤ) (x y : ℤ) (have : HavePaid 6 old)
      (one : IsPaidAt 6 x old mid) (two : IsPaidAt 7 y mid new) where
    kept : (k : ℕ) → k ≢ 6 → k ≢ 7 → at new k ≡ at old k
    kept k a b = two.others k b ∙ one.others k a

    pub paid_all : P 6 (at old 6) (at new 6) → P 7 (at old 7) (at new 7)
        → (p : ℕ) → p < 14 → P p (at first p) (at new p)
    paid_all pm pc p lt = of p (class_of p lt) where
      of : (q : ℕ) → Class q → P q (at first q) (at new q)
      of q (alone r lr) =
          subst (P r (at first r)) (sym (kept r (omega arith) (omega arith))) (have.paid r lr).0
      of q memory = subst (λ (u : ℤ). P 6 u (at new 6)) have.six pm
      of q constant = subst (λ (u : ℤ). P 7 u (at new 7)) have.seven pc
      of q (both r lr) = subst (P (8 + r) (at first (8 + r)))
          (sym (kept (8 + r) (omega arith) (omega arith))) (have.paid r lr).1

-- a place is paid over a crossbar
pub over : (way : ℕ → ℤ) (behind : List ℤ) (cell rest z : ℤ) → IsLeastWay way behind rest
    → IsPaid cell rest z → IsPaidOver way behind cell z
over way behind cell rest z least paid = record { rest = rest; least = least; paid = paid }
