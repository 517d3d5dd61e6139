-- Registers in use, and the first one that is in use twice.
use Rattle.std.specs.Prelude.{◌≡◌, ◌⊎◌, ℕ, min, List, Option, Some, None, option_map}
use Rattle.pra_base.specs.Places.{number}
use Rattle.net_form.specs.InUse.{mark}
use Rattle.net_gate.specs.declared.bundles.Bundle.{Bundle}
use Rattle.net_gate.specs.Broken.{IsBefore, IsFirstAbove}

abbrev pub numbers : Bundle → ℕ × ℕ
numbers b = (b.layer, number b.register)

-- c is the earlier one of a, if there is one, and b
abbrev pub IsEarlier : Option (ℕ × ℕ) → ℕ × ℕ → ℕ × ℕ → Type 0
IsEarlier None b c = c ≡ b
IsEarlier (Some a) b c = (IsBefore b a × (c ≡ b)) ⊎ (¬ IsBefore b a × (c ≡ a))

-- Where each register is used so many times, what is used is marked, and clash is the first that is
-- used twice.
pub record Stands (uses : ℕ → ℕ → ℕ) (regs : List ℕ) (clash : Option Bundle) : Type 0 where
  pub marks : (n r : ℕ) → mark regs n r ≡ min 1 (uses n r)
  pub first : IsFirstAbove 1 uses (option_map numbers clash)
