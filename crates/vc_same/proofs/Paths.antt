-- What is needed at a point, from what is needed at the next.
use Rattle.std.proofs.Common.{◌≡◌, ℕ, suc, true, false, Some, None, ap, ◌∙◌}
use Rattle.pra_base.specs.declared.code.VInstr.{VInstr}
use Rattle.pra_base.specs.declared.code.VProc.{VProc}
use Rattle.pra_base.specs.Code.{end_of, instr_at, IsTarget}
use Rattle.pra_base.specs.Operands.{reads, writes}
use Rattle.pra_base.specs.Live.{passes}
use Rattle.pra_base.specs.Live.Goes.{over, leaves}
use Rattle.pra_base.specs.Live.Path.{stays, then}
use Rattle.vc_same.specs.Reduction.{Needed}

-- ---- what is left of a list begins with the element there

-- ---- one step of a path

pub needed_read : (code : VProc) (b k v : ℕ) (i : VInstr) → instr_at code b k ≡ Some i → reads i v ≡
    true → Needed code b k v
needed_read code b k v i is read =
    record {
      to = record { block = b; index = k };
      path = stays;
      read =
          ap (passes (λ j. reads j v)) is ∙ read;
    }

pub needed_over : (code : VProc) (b k v : ℕ) (i : VInstr) → instr_at code b k ≡ Some i →
    writes i v ≡ false → Needed code b (suc k) v → Needed code b k v
needed_over code b k v i is free rest =
    record {
      to = rest.to;
      path = then (ap (passes (λ j. writes j v)) is ∙ free)
          (over is) rest.path;
      read = rest.read;
    }

pub needed_leave : (code : VProc) (b k t v : ℕ) → instr_at code b k ≡ None →
    IsTarget (end_of code b) t → Needed code t 0 v → Needed code b k v
needed_leave code b k t v is target rest =
    record {
      to = rest.to;
      path = then (ap (passes (λ j. writes j v)) is) (leaves is target)
          rest.path;
      read = rest.read;
    }
