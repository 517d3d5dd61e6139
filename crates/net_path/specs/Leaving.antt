-- What it costs to leave a place over a crossbar.
use Rattle.std.specs.Prelude.{◌≡◌, ℕ, nat_eq, if◌then◌else◌, ℤ, pos, ◌+ℤ◌}
use Rattle.pra_base.specs.Places.{has_register, register_of, needs_slot, register_count}
use Rattle.net_path.specs.declared.crossbar.Ways.{Ways}
use Rattle.net_path.specs.declared.path.Leaving.{Leaving}

-- into another register than the place's own, and into memory, if the place has none
pub record IsLeaving (ways : Ways) (p : ℕ) (leaving : Leaving) : Type 0 where
  pub own : leaving.own ≡ (if has_register p then register_of p else register_count)
  pub bring : leaving.bring ≡ (if has_register p then ways.between
      else (if needs_slot p then ways.load else ways.set))
  pub store : leaving.store ≡ (if needs_slot p then pos 0 else ways.store)

abbrev pub into_register : Leaving → ℕ → ℤ
into_register leaving q =
    if has_register q
    then (if nat_eq (register_of q) leaving.own then pos 0 else leaving.bring) else pos 0

abbrev pub into_memory : Leaving → ℕ → ℤ
into_memory leaving q = if needs_slot q then leaving.store else pos 0

-- all that it costs to come to place q
abbrev pub leaving_price : Leaving → ℕ → ℤ
leaving_price leaving q = into_register leaving q +ℤ into_memory leaving q
