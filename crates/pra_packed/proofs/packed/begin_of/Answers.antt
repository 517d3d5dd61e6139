use Rattle.std.proofs.Common.{◌≡◌, ◌∷◌, ℕ, zero, suc, ◌-◌, List, get_or, arith, sym, ap, refl}
use Rattle.pra_packed.proofs.Parts.{lies}
use Rattle.pra_packed.proofs.packed.begin_of.Goals as goal

-- where a list that is not the first begins
begin_before : (from : ℕ) (ends : List ℕ) (at : ℕ) → (at ≡ 0 → ⊥)
    → get_or (from ∷ ends) at 0 ≡ get_or ends (at - 1) 0
begin_before from ends zero other = absurd (other refl)
begin_before from ends (suc at) other = ap (λ (k : ℕ). get_or ends k 0) (omega arith)

pub returns-then-at-eq0-clause-within : goal.returns-then-at-eq0-clause-within
returns-then-at-eq0-clause-within c =
    (lies 0 c.args.ends.now c.args._total c.args.at c.requires.ends c.requires.at).within

pub returns-else-at-eq0-clause-rises : goal.returns-else-at-eq0-clause-rises
returns-else-at-eq0-clause-rises c =
    rw (sym (begin_before 0 c.args.ends.now c.args.at c.if-at-eq0.false))
    (lies 0 c.args.ends.now c.args._total c.args.at c.requires.ends c.requires.at).rises

pub returns-else-at-eq0-clause-within : goal.returns-else-at-eq0-clause-within
returns-else-at-eq0-clause-within c =
    (lies 0 c.args.ends.now c.args._total c.args.at c.requires.ends c.requires.at).within
