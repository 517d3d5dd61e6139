-- What of a variable stays the same under a name of another kind, and what an instruction
-- overwrites.
use Rattle.std.proofs.Common.{◌≡◌, ℕ, inl, inr, ℤ, true, nat_eq, refl, sym, ap, subst, ◌∙◌}
use Rattle.pra_list.proofs.Truths.{itself, or_left, or_right}
use Rattle.pra_base.specs.declared.ids.VarId.{VarId}
use Rattle.pra_base.specs.declared.code.VarKind.{VarKind}
use Rattle.pra_base.specs.declared.code.VarKind.TheVariants.{Param, Plain, Constant}
use Rattle.pra_base.specs.declared.code.VInstr.{VInstr}
use Rattle.pra_base.specs.declared.code.VInstr.TheVariants as instr
use Rattle.pra_base.specs.declared.code.VProc.{VProc}
use Rattle.pra_base.specs.Operands.{writes}
use Rattle.pra_base.specs.Live.{LiveAs}
use Rattle.vc_code.specs.Value.{Held}
use Rattle.vc_code.specs.Selected.{valued}
use Rattle.vc_same.specs.Reduction.{StandsFor, overwrites}

-- ---- kinds

-- no argument's variable is a constant
param_constant : (i : ℕ) (n : ℤ) → Param i ≡ Constant n → ⊥
param_constant i n e = cc

plain_constant : (n : ℤ) → Plain ≡ Constant n → ⊥
plain_constant n e = cc

-- what is held reads the same
pub stands_valued : (k l : VarKind) (h : Held) → StandsFor k l → valued k h ≡ valued l h
stands_valued k l h (inl e) = ap (λ z. valued z h) e
stands_valued k l h (inr s) = ap (λ z. valued z h) s.1.1 ∙ sym (ap (λ z. valued z h) s.0)

-- only a constant has a constant's name
pub stands_constant : (k l : VarKind) (n : ℤ) → StandsFor k l → k ≡ Constant n → l ≡ Constant n
stands_constant k l n (inl e) is = sym e ∙ is
stands_constant k l n (inr s) is = absurd (param_constant s.1.0 n (sym s.1.1 ∙ is))

-- a constant has a constant's name
pub constant_stands : (k l : VarKind) (n : ℤ) → StandsFor k l → l ≡ Constant n → k ≡ Constant n
constant_stands k l n (inl e) is = e ∙ is
constant_stands k l n (inr s) is = absurd (plain_constant n (sym s.0 ∙ is))

-- what is read of one variable reads the same of another one that may have its name
pub valued_twice : (name k l : VarKind) (h : Held) → StandsFor name k → StandsFor name l →
    valued k (valued l h) ≡ valued l h
valued_twice name (Param i) l h s t = refl
valued_twice name Plain l h s t = refl
valued_twice name (Constant n) l h s t =
    let is : l ≡ Constant n = stands_constant name l n t
    (constant_stands name (Constant n) n s refl) in
    sym (ap (λ z. valued z h) is)

-- it is live where its name is
pub stands_live : (k l : VarKind) (code : VProc) (v b layer : ℕ) → StandsFor k l →
    LiveAs k code v b layer → LiveAs l code v b layer
stands_live k l code v b layer (inl e) live = subst (λ z. LiveAs z code v b layer) e live
stands_live k l code v b layer (inr s) live =
    subst (λ z. LiveAs z code v b layer) (sym s.0) (subst (λ z. LiveAs z code v b layer) s.1.1 live)

-- ---- what is overwritten

pub overwrites_written : (i : VInstr) (v : ℕ) → writes i v ≡ true → overwrites i v ≡ true
overwrites_written (instr.Set x n) v e = e
overwrites_written (instr.Copy x s) v e = e
overwrites_written (instr.Add x s) v e = e
overwrites_written (instr.Sub x s) v e = e
overwrites_written (instr.And x s) v e = e
overwrites_written (instr.Or x s) v e = e
overwrites_written (instr.Xor x s) v e = e
overwrites_written (instr.Mul x s) v e = e
overwrites_written (instr.Neg x) v e = e
overwrites_written (instr.Shift op x n) v e = e
overwrites_written (instr.Cmp a b) v e = e
overwrites_written (instr.CmpSet c x a b) v e = e
overwrites_written (instr.DivMod q r a d) v e = or_left (writes (instr.DivMod q r a d) v)
    (nat_eq a.0 v) e
overwrites_written (instr.Check x n) v e = e
overwrites_written (instr.CheckPos x) v e = e
overwrites_written (instr.Load x a) v e = e
overwrites_written (instr.Store a s) v e = e
overwrites_written (instr.Addr x a) v e = e
overwrites_written (instr.Push s) v e = e
overwrites_written (instr.Call p) v e = e
overwrites_written (instr.Read x) v e = e
overwrites_written (instr.Write s) v e = e
overwrites_written instr.Line v e = e
overwrites_written instr.Clear v e = e

pub overwrites_dividend : (q r a d : VarId) → overwrites (instr.DivMod q r a d) a.0 ≡ true
overwrites_dividend q r a d = or_right (writes (instr.DivMod q r a d) a.0) (nat_eq a.0 a.0)
    (itself a.0)
