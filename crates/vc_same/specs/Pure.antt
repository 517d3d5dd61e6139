-- Instructions that do nothing but give their results.
use Rattle.std.specs.Prelude.{Bool, true, false}
use Rattle.pra_base.specs.declared.code.VInstr.{VInstr}
use Rattle.pra_base.specs.declared.code.VInstr.TheVariants.{Set, Copy, Add, Sub, And, Or, Xor, Mul}
use Rattle.pra_base.specs.declared.code.VInstr.TheVariants.{Neg, Shift, CmpSet, DivMod, Load}
use Rattle.pra_base.specs.declared.code.VInstr.TheVariants as instr

-- It changes nothing but the variables that it writes: no memory, no flags that count, no event,
-- no input, no trap. A load or a division may be stuck, which code that runs well never is.
abbrev pub is_pure : VInstr → Bool
is_pure (Set v n) = true
is_pure (Copy v s) = true
is_pure (Add v s) = true
is_pure (Sub v s) = true
is_pure (And v s) = true
is_pure (Or v s) = true
is_pure (Xor v s) = true
is_pure (Mul v s) = true
is_pure (Neg v) = true
is_pure (Shift op v n) = true
is_pure (CmpSet c v a b) = true
is_pure (DivMod q r a d) = true
is_pure (Load v a) = true
is_pure (instr.Addr v a) = true
is_pure _ = false
