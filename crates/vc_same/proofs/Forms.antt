-- Which form an instruction has under other names, and what the rules on lists of instructions make
-- of it.
use Rattle.std.proofs.Common.{◌≡◌, ℕ, zero, suc, ℤ, true, false, List, ◌∷◌, refl}
use Rattle.std.specs.Prelude.{option_and_then}
use Rattle.pra_base.specs.declared.ids.ShiftOp.{ShiftOp}
use Rattle.pra_base.specs.declared.ids.VarId.{VarId}
use Rattle.pra_base.specs.declared.code.Base.{Base}
use Rattle.pra_base.specs.declared.code.Base.TheVariants as base
use Rattle.pra_base.specs.declared.code.Addr.{Addr}
use Rattle.pra_base.specs.declared.code.VInstr.{VInstr}
use Rattle.pra_base.specs.declared.code.VInstr.TheVariants as instr
use Rattle.pra_base.specs.Code.{address_of, cell_of}
use Rattle.pra_base.specs.Valid.{PushesLead}
use Rattle.vc_same.specs.Pure.{is_pure}
use Rattle.vc_same.specs.Renaming.{Names, var, base_of, renamed}

module _ (to : Names) where
  pub from_check : (x : VInstr) (v : VarId) (n : ℤ) → renamed to x ≡ instr.Check v n → (w : VarId) ×
      (x ≡ instr.Check w n)
  from_check (instr.Set v' n') v n e = cc
  from_check (instr.Copy v' s') v n e = cc
  from_check (instr.Add v' s') v n e = cc
  from_check (instr.Sub v' s') v n e = cc
  from_check (instr.And v' s') v n e = cc
  from_check (instr.Or v' s') v n e = cc
  from_check (instr.Xor v' s') v n e = cc
  from_check (instr.Mul v' s') v n e = cc
  from_check (instr.Neg v') v n e = cc
  from_check (instr.Shift op' v' n') v n e = cc
  from_check (instr.Cmp a' b') v n e = cc
  from_check (instr.CmpSet c' v' a' b') v n e = cc
  from_check (instr.DivMod q' r' a' d') v n e = cc
  from_check (instr.Check v' n') v n e = (v', cc)
  from_check (instr.CheckPos v') v n e = cc
  from_check (instr.Load v' a') v n e = cc
  from_check (instr.Store a' s') v n e = cc
  from_check (instr.Addr v' a') v n e = cc
  from_check (instr.Push s') v n e = cc
  from_check (instr.Call p') v n e = cc
  from_check (instr.Read v') v n e = cc
  from_check (instr.Write s') v n e = cc
  from_check instr.Line v n e = cc
  from_check instr.Clear v n e = cc

  pub from_shift : (x : VInstr) (op : ShiftOp) (v : VarId) (n : ℕ) → renamed to x ≡
      instr.Shift op v n → (w : VarId) × (x ≡ instr.Shift op w n)
  from_shift (instr.Set v' n') op v n e = cc
  from_shift (instr.Copy v' s') op v n e = cc
  from_shift (instr.Add v' s') op v n e = cc
  from_shift (instr.Sub v' s') op v n e = cc
  from_shift (instr.And v' s') op v n e = cc
  from_shift (instr.Or v' s') op v n e = cc
  from_shift (instr.Xor v' s') op v n e = cc
  from_shift (instr.Mul v' s') op v n e = cc
  from_shift (instr.Neg v') op v n e = cc
  from_shift (instr.Shift op' v' n') op v n e = (v', cc)
  from_shift (instr.Cmp a' b') op v n e = cc
  from_shift (instr.CmpSet c' v' a' b') op v n e = cc
  from_shift (instr.DivMod q' r' a' d') op v n e = cc
  from_shift (instr.Check v' n') op v n e = cc
  from_shift (instr.CheckPos v') op v n e = cc
  from_shift (instr.Load v' a') op v n e = cc
  from_shift (instr.Store a' s') op v n e = cc
  from_shift (instr.Addr v' a') op v n e = cc
  from_shift (instr.Push s') op v n e = cc
  from_shift (instr.Call p') op v n e = cc
  from_shift (instr.Read v') op v n e = cc
  from_shift (instr.Write s') op v n e = cc
  from_shift instr.Line op v n e = cc
  from_shift instr.Clear op v n e = cc

  pub from_cmp : (x : VInstr) (a b : VarId) → renamed to x ≡ instr.Cmp a b → (c d : VarId) ×
      (x ≡ instr.Cmp c d)
  from_cmp (instr.Set v' n') a b e = cc
  from_cmp (instr.Copy v' s') a b e = cc
  from_cmp (instr.Add v' s') a b e = cc
  from_cmp (instr.Sub v' s') a b e = cc
  from_cmp (instr.And v' s') a b e = cc
  from_cmp (instr.Or v' s') a b e = cc
  from_cmp (instr.Xor v' s') a b e = cc
  from_cmp (instr.Mul v' s') a b e = cc
  from_cmp (instr.Neg v') a b e = cc
  from_cmp (instr.Shift op' v' n') a b e = cc
  from_cmp (instr.Cmp a' b') a b e = (a', b', refl)
  from_cmp (instr.CmpSet c' v' a' b') a b e = cc
  from_cmp (instr.DivMod q' r' a' d') a b e = cc
  from_cmp (instr.Check v' n') a b e = cc
  from_cmp (instr.CheckPos v') a b e = cc
  from_cmp (instr.Load v' a') a b e = cc
  from_cmp (instr.Store a' s') a b e = cc
  from_cmp (instr.Addr v' a') a b e = cc
  from_cmp (instr.Push s') a b e = cc
  from_cmp (instr.Call p') a b e = cc
  from_cmp (instr.Read v') a b e = cc
  from_cmp (instr.Write s') a b e = cc
  from_cmp instr.Line a b e = cc
  from_cmp instr.Clear a b e = cc

  pub from_copy : (x : VInstr) (t s : VarId) → renamed to x ≡ instr.Copy t s → (v w : VarId) ×
      (x ≡ instr.Copy v w) × (t ≡ var to v) × (s ≡ var to w)
  from_copy (instr.Set v' n') t s e = cc
  from_copy (instr.Copy v' s') t s e = (v', s', refl, cc, cc)
  from_copy (instr.Add v' s') t s e = cc
  from_copy (instr.Sub v' s') t s e = cc
  from_copy (instr.And v' s') t s e = cc
  from_copy (instr.Or v' s') t s e = cc
  from_copy (instr.Xor v' s') t s e = cc
  from_copy (instr.Mul v' s') t s e = cc
  from_copy (instr.Neg v') t s e = cc
  from_copy (instr.Shift op' v' n') t s e = cc
  from_copy (instr.Cmp a' b') t s e = cc
  from_copy (instr.CmpSet c' v' a' b') t s e = cc
  from_copy (instr.DivMod q' r' a' d') t s e = cc
  from_copy (instr.Check v' n') t s e = cc
  from_copy (instr.CheckPos v') t s e = cc
  from_copy (instr.Load v' a') t s e = cc
  from_copy (instr.Store a' s') t s e = cc
  from_copy (instr.Addr v' a') t s e = cc
  from_copy (instr.Push s') t s e = cc
  from_copy (instr.Call p') t s e = cc
  from_copy (instr.Read v') t s e = cc
  from_copy (instr.Write s') t s e = cc
  from_copy instr.Line t s e = cc
  from_copy instr.Clear t s e = cc

  pub from_division : (x : VInstr) (q r a d : VarId) → renamed to x ≡ instr.DivMod q r a d →
      (u v w z : VarId) × (x ≡ instr.DivMod u v w z) × (q ≡ var to u) × (r ≡ var to v) ×
      (a ≡ var to w) × (d ≡ var to z)
  from_division (instr.Set v' n') q r a d e = cc
  from_division (instr.Copy v' s') q r a d e = cc
  from_division (instr.Add v' s') q r a d e = cc
  from_division (instr.Sub v' s') q r a d e = cc
  from_division (instr.And v' s') q r a d e = cc
  from_division (instr.Or v' s') q r a d e = cc
  from_division (instr.Xor v' s') q r a d e = cc
  from_division (instr.Mul v' s') q r a d e = cc
  from_division (instr.Neg v') q r a d e = cc
  from_division (instr.Shift op' v' n') q r a d e = cc
  from_division (instr.Cmp a' b') q r a d e = cc
  from_division (instr.CmpSet c' v' a' b') q r a d e = cc
  from_division (instr.DivMod q' r' a' d') q r a d e = (q', r', a', d', refl, cc, cc, cc, cc)
  from_division (instr.Check v' n') q r a d e = cc
  from_division (instr.CheckPos v') q r a d e = cc
  from_division (instr.Load v' a') q r a d e = cc
  from_division (instr.Store a' s') q r a d e = cc
  from_division (instr.Addr v' a') q r a d e = cc
  from_division (instr.Push s') q r a d e = cc
  from_division (instr.Call p') q r a d e = cc
  from_division (instr.Read v') q r a d e = cc
  from_division (instr.Write s') q r a d e = cc
  from_division instr.Line q r a d e = cc
  from_division instr.Clear q r a d e = cc

  pub from_clear : (x : VInstr) → renamed to x ≡ instr.Clear → x ≡ instr.Clear
  from_clear (instr.Set v' n') e = cc
  from_clear (instr.Copy v' s') e = cc
  from_clear (instr.Add v' s') e = cc
  from_clear (instr.Sub v' s') e = cc
  from_clear (instr.And v' s') e = cc
  from_clear (instr.Or v' s') e = cc
  from_clear (instr.Xor v' s') e = cc
  from_clear (instr.Mul v' s') e = cc
  from_clear (instr.Neg v') e = cc
  from_clear (instr.Shift op' v' n') e = cc
  from_clear (instr.Cmp a' b') e = cc
  from_clear (instr.CmpSet c' v' a' b') e = cc
  from_clear (instr.DivMod q' r' a' d') e = cc
  from_clear (instr.Check v' n') e = cc
  from_clear (instr.CheckPos v') e = cc
  from_clear (instr.Load v' a') e = cc
  from_clear (instr.Store a' s') e = cc
  from_clear (instr.Addr v' a') e = cc
  from_clear (instr.Push s') e = cc
  from_clear (instr.Call p') e = cc
  from_clear (instr.Read v') e = cc
  from_clear (instr.Write s') e = cc
  from_clear instr.Line e = cc
  from_clear instr.Clear e = refl

  cell_same : (b : Base) → cell_of (base_of to b) ≡ cell_of b
  cell_same (base.Via v) = refl
  cell_same (base.Global n) = refl
  cell_same (base.Frame n) = refl
  cell_same (base.Cell n) = refl

  pub cell_renamed : (x : VInstr) → option_and_then (λ (a : Addr). cell_of a.base)
      (address_of (renamed to x)) ≡ option_and_then (λ (a : Addr). cell_of a.base) (address_of x)
  cell_renamed (instr.Set v' n') = refl
  cell_renamed (instr.Copy v' s') = refl
  cell_renamed (instr.Add v' s') = refl
  cell_renamed (instr.Sub v' s') = refl
  cell_renamed (instr.And v' s') = refl
  cell_renamed (instr.Or v' s') = refl
  cell_renamed (instr.Xor v' s') = refl
  cell_renamed (instr.Mul v' s') = refl
  cell_renamed (instr.Neg v') = refl
  cell_renamed (instr.Shift op' v' n') = refl
  cell_renamed (instr.Cmp a' b') = refl
  cell_renamed (instr.CmpSet c' v' a' b') = refl
  cell_renamed (instr.DivMod q' r' a' d') = refl
  cell_renamed (instr.Check v' n') = refl
  cell_renamed (instr.CheckPos v') = refl
  cell_renamed (instr.Load v' a') = cell_same a'.base
  cell_renamed (instr.Store a' s') = cell_same a'.base
  cell_renamed (instr.Addr v' a') = cell_same a'.base
  cell_renamed (instr.Push s') = refl
  cell_renamed (instr.Call p') = refl
  cell_renamed (instr.Read v') = refl
  cell_renamed (instr.Write s') = refl
  cell_renamed instr.Line = refl
  cell_renamed instr.Clear = refl

  -- a renamed instruction leads as it did, if the rest does
  pub lead_renamed : (T : ℕ → ℕ → Type 0) (n : ℕ) (x : VInstr) (xs ys : List VInstr) →
      ((k : ℕ) → PushesLead T k xs → PushesLead T k ys) → PushesLead T n (x ∷ xs) →
      PushesLead T n (renamed to x ∷ ys)
  lead_renamed T n (instr.Set v' n') xs ys f k = (k.0, f zero k.1)
  lead_renamed T n (instr.Copy v' s') xs ys f k = (k.0, f zero k.1)
  lead_renamed T n (instr.Add v' s') xs ys f k = (k.0, f zero k.1)
  lead_renamed T n (instr.Sub v' s') xs ys f k = (k.0, f zero k.1)
  lead_renamed T n (instr.And v' s') xs ys f k = (k.0, f zero k.1)
  lead_renamed T n (instr.Or v' s') xs ys f k = (k.0, f zero k.1)
  lead_renamed T n (instr.Xor v' s') xs ys f k = (k.0, f zero k.1)
  lead_renamed T n (instr.Mul v' s') xs ys f k = (k.0, f zero k.1)
  lead_renamed T n (instr.Neg v') xs ys f k = (k.0, f zero k.1)
  lead_renamed T n (instr.Shift op' v' n') xs ys f k = (k.0, f zero k.1)
  lead_renamed T n (instr.Cmp a' b') xs ys f k = (k.0, f zero k.1)
  lead_renamed T n (instr.CmpSet c' v' a' b') xs ys f k = (k.0, f zero k.1)
  lead_renamed T n (instr.DivMod q' r' a' d') xs ys f k = (k.0, f zero k.1)
  lead_renamed T n (instr.Check v' n') xs ys f k = (k.0, f zero k.1)
  lead_renamed T n (instr.CheckPos v') xs ys f k = (k.0, f zero k.1)
  lead_renamed T n (instr.Load v' a') xs ys f k = (k.0, f zero k.1)
  lead_renamed T n (instr.Store a' s') xs ys f k = (k.0, f zero k.1)
  lead_renamed T n (instr.Addr v' a') xs ys f k = (k.0, f zero k.1)
  lead_renamed T n (instr.Push s') xs ys f k = f (suc n) k
  lead_renamed T n (instr.Call p') xs ys f k = (k.0, f zero k.1)
  lead_renamed T n (instr.Read v') xs ys f k = (k.0, f zero k.1)
  lead_renamed T n (instr.Write s') xs ys f k = (k.0, f zero k.1)
  lead_renamed T n instr.Line xs ys f k = (k.0, f zero k.1)
  lead_renamed T n instr.Clear xs ys f k = (k.0, f zero k.1)

not_so : false ≡ true → ⊥
not_so e = cc

-- no Push and no Call is pure
pub lead_pure : (T : ℕ → ℕ → Type 0) (n : ℕ) (x : VInstr) (xs : List VInstr) → is_pure x ≡ true →
    PushesLead T n (x ∷ xs) → (n ≡ 0) × PushesLead T 0 xs
lead_pure T n (instr.Set v' n') xs e k = k
lead_pure T n (instr.Copy v' s') xs e k = k
lead_pure T n (instr.Add v' s') xs e k = k
lead_pure T n (instr.Sub v' s') xs e k = k
lead_pure T n (instr.And v' s') xs e k = k
lead_pure T n (instr.Or v' s') xs e k = k
lead_pure T n (instr.Xor v' s') xs e k = k
lead_pure T n (instr.Mul v' s') xs e k = k
lead_pure T n (instr.Neg v') xs e k = k
lead_pure T n (instr.Shift op' v' n') xs e k = k
lead_pure T n (instr.Cmp a' b') xs e k = absurd (not_so e)
lead_pure T n (instr.CmpSet c' v' a' b') xs e k = k
lead_pure T n (instr.DivMod q' r' a' d') xs e k = k
lead_pure T n (instr.Check v' n') xs e k = absurd (not_so e)
lead_pure T n (instr.CheckPos v') xs e k = absurd (not_so e)
lead_pure T n (instr.Load v' a') xs e k = k
lead_pure T n (instr.Store a' s') xs e k = absurd (not_so e)
lead_pure T n (instr.Addr v' a') xs e k = k
lead_pure T n (instr.Push s') xs e k = absurd (not_so e)
lead_pure T n (instr.Call p') xs e k = absurd (not_so e)
lead_pure T n (instr.Read v') xs e k = absurd (not_so e)
lead_pure T n (instr.Write s') xs e k = absurd (not_so e)
lead_pure T n instr.Line xs e k = absurd (not_so e)
lead_pure T n instr.Clear xs e k = absurd (not_so e)
