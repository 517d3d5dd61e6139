-- One more that has been asked, and those who need not be.
use Rattle.std.proofs.Common.{◌≤◌, [], length, refl, ℕ, ◌≡◌, ◌+◌, ◌<◌, Bool, true, false, sym}
use Rattle.std.proofs.Common.{subst, arith, inl, inr}
use Rattle.std.proofs.lemmas.Bool.{cases_eq}
use Rattle.pra_base.specs.declared.ids.Place.{Place}
use Rattle.net_cost.specs.declared.weights.Weights.{Weights}
use Rattle.net_form.specs.declared.net.Net.{Net}
use Rattle.net_form.specs.declared.routes.Routes.{Routes}
use Rattle.net_form.specs.Formed.{IsFormed}
use Rattle.al_laws.specs.Settled.{NoneCheaperAt}
use Rattle.al_iter.proofs.SettleIndex.{vars_long, no_more}
use Rattle.al_iter.proofs.SettleVariable.{nothing_at}

-- who was asked before, and this one, in routes that stayed the same
pub one_more_asked : (P : Routes → ℕ → Type 0) (old new : Routes) (n : ℕ) → new ≡ old
    → ((s : ℕ) → s < n → P old s) → P old n → (s : ℕ) → s < n + 1 → P new s
one_more_asked P old new n same before now s lt = elim (cases_eq s n) as (λ _. P new s) [
  | inl here ↦ subst (λ k. P new k) (sym here) (subst (λ rs. P rs n) (sym same) now)
  | inr other ↦ subst (λ rs. P rs s) (sym same) (before s (omega (arith, lt, other)))
]

pub not_both : {A : Type 0} (b : Bool) → b ≡ true → b ≡ false → A
not_both b yes_ no_ = cc

-- a variable past the greatest one has no strands, so none that is cheaper
pub none_beyond : (net : Net) (w : Weights) (routes : Routes) → IsFormed net → (v : ℕ)
    → length net.index.vars ≤ v + 1 → (p : Place) → NoneCheaperAt net w routes v p
none_beyond net w routes formed v le p =
    let long = vars_long net formed in
    nothing_at net w [] v routes
    (record {
      are = record {
        there = λ k d lt. absurd (omega (arith, lt));
        rising = λ i j d lt in_. absurd (omega (arith, in_));
      };
      each = λ s lt. no_more net.strands v s (omega (arith, le, long)) lt;
    }) refl p
