-- What an instruction overwrites: what it writes, and the dividend of a division.
use Rattle.std.proofs.Common.{◌≡◌, ℕ, ◌⊎◌, inl, inr, true, false, ◌||◌, refl, sym, ap, ◌∙◌}
use Rattle.pra_base.proofs.Roles.{among_reads}
use Rattle.pra_list.proofs.Truths.{or_cases, or_none, nat_is}
use Rattle.pra_base.specs.declared.code.VInstr.{VInstr}
use Rattle.pra_base.specs.declared.code.VInstr.TheVariants as instr
use Rattle.pra_base.specs.Operands.{reads, writes, operands}
use Rattle.pra_base.specs.Valid.{Names}
use Rattle.vc_code.specs.declared.row.OperandRow.{OperandRow}
use Rattle.vc_code.specs.Rows.{row_of}
use Rattle.vc_live.specs.Equations.{named_in}
use Rattle.vc_live.proofs.Steps.{writes_named}
use Rattle.vc_same.specs.Reduction.{overwrites}
use Rattle.vc_tidy.specs.Joined.{is_dividend}

overwrites_is : (i : VInstr) (v : ℕ) → overwrites i v ≡ (writes i v || is_dividend i v)
overwrites_is (instr.Set x n) v = sym (or_none (writes (instr.Set x n) v))
overwrites_is (instr.Copy x s) v = sym (or_none (writes (instr.Copy x s) v))
overwrites_is (instr.Add x s) v = sym (or_none (writes (instr.Add x s) v))
overwrites_is (instr.Sub x s) v = sym (or_none (writes (instr.Sub x s) v))
overwrites_is (instr.And x s) v = sym (or_none (writes (instr.And x s) v))
overwrites_is (instr.Or x s) v = sym (or_none (writes (instr.Or x s) v))
overwrites_is (instr.Xor x s) v = sym (or_none (writes (instr.Xor x s) v))
overwrites_is (instr.Mul x s) v = sym (or_none (writes (instr.Mul x s) v))
overwrites_is (instr.Neg x) v = sym (or_none (writes (instr.Neg x) v))
overwrites_is (instr.Shift op x n) v = sym (or_none (writes (instr.Shift op x n) v))
overwrites_is (instr.Cmp a b) v = sym (or_none (writes (instr.Cmp a b) v))
overwrites_is (instr.CmpSet c x a b) v = sym (or_none (writes (instr.CmpSet c x a b) v))
overwrites_is (instr.DivMod q r a d) v = refl
overwrites_is (instr.Check x n) v = sym (or_none (writes (instr.Check x n) v))
overwrites_is (instr.CheckPos x) v = sym (or_none (writes (instr.CheckPos x) v))
overwrites_is (instr.Load x a) v = sym (or_none (writes (instr.Load x a) v))
overwrites_is (instr.Store a s) v = sym (or_none (writes (instr.Store a s) v))
overwrites_is (instr.Addr x a) v = sym (or_none (writes (instr.Addr x a) v))
overwrites_is (instr.Push s) v = sym (or_none (writes (instr.Push s) v))
overwrites_is (instr.Call p) v = sym (or_none (writes (instr.Call p) v))
overwrites_is (instr.Read x) v = sym (or_none (writes (instr.Read x) v))
overwrites_is (instr.Write s) v = sym (or_none (writes (instr.Write s) v))
overwrites_is instr.Line v = sym (or_none (writes instr.Line v))
overwrites_is instr.Clear v = sym (or_none (writes instr.Clear v))

pub overwritten_is : (row : OperandRow) (i : VInstr) (v : ℕ) → row_of row ≡ operands i →
    overwrites i v ≡ (named_in row.writes.items v || is_dividend i v)
overwritten_is row i v row_is = overwrites_is i v
    ∙ ap (λ b. b || is_dividend i v) (sym (writes_named row i row_is v))

no_dividend : false ≡ true → ⊥
no_dividend e = cc

dividend_read : (i : VInstr) (v : ℕ) → is_dividend i v ≡ true → reads i v ≡ true
dividend_read (instr.Set x n) v e = absurd (no_dividend e)
dividend_read (instr.Copy x s) v e = absurd (no_dividend e)
dividend_read (instr.Add x s) v e = absurd (no_dividend e)
dividend_read (instr.Sub x s) v e = absurd (no_dividend e)
dividend_read (instr.And x s) v e = absurd (no_dividend e)
dividend_read (instr.Or x s) v e = absurd (no_dividend e)
dividend_read (instr.Xor x s) v e = absurd (no_dividend e)
dividend_read (instr.Mul x s) v e = absurd (no_dividend e)
dividend_read (instr.Neg x) v e = absurd (no_dividend e)
dividend_read (instr.Shift op x n) v e = absurd (no_dividend e)
dividend_read (instr.Cmp a b) v e = absurd (no_dividend e)
dividend_read (instr.CmpSet c x a b) v e = absurd (no_dividend e)
dividend_read (instr.DivMod q r a d) v e =
    among_reads (instr.DivMod q r a d) v (inl (sym (nat_is a.0 v e)))
dividend_read (instr.Check x n) v e = absurd (no_dividend e)
dividend_read (instr.CheckPos x) v e = absurd (no_dividend e)
dividend_read (instr.Load x a) v e = absurd (no_dividend e)
dividend_read (instr.Store a s) v e = absurd (no_dividend e)
dividend_read (instr.Addr x a) v e = absurd (no_dividend e)
dividend_read (instr.Push s) v e = absurd (no_dividend e)
dividend_read (instr.Call p) v e = absurd (no_dividend e)
dividend_read (instr.Read x) v e = absurd (no_dividend e)
dividend_read (instr.Write s) v e = absurd (no_dividend e)
dividend_read instr.Line v e = absurd (no_dividend e)
dividend_read instr.Clear v e = absurd (no_dividend e)

-- it has what it overwrites
pub overwritten_named : (i : VInstr) (v : ℕ) → overwrites i v ≡ true → Names i v
overwritten_named i v e = by (or_cases (writes i v) (is_dividend i v) (sym (overwrites_is i v) ∙ e))
  where
    by : (writes i v ≡ true) ⊎ (is_dividend i v ≡ true) → Names i v
    by (inl w) = inr w
    by (inr d) = inl (dividend_read i v d)
